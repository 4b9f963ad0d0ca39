-- Each fair reply, and any list of them.
use Rattle.std.proofs.Common.{◌≡◌, ℕ, ◌<◌, Bool, true, false, not, List, [], ◌∷◌, ◌++◌, take, refl, sym, ◌∙◌, ap, subst, Option, None, Some, IfSome}
use Rattle.std.specs.Bool.{if◌then◌else◌}
use Rattle.std.specs.FinMap as fin
use Rattle.std.proofs.lemmas.Bool.{and_parts}
use Rattle.shape_base.specs.declared.offset.Offset.{Offset}
use Rattle.shape_base.specs.declared.offset.Offset.TheVariants.{Start}
use Rattle.shape_base.specs.declared.entry.Entry.{Entry}
use Rattle.shape_base.specs.declared.handle.Handle.{Handle}
use Rattle.shape_base.specs.declared.reply.Reply.{Reply}
use Rattle.shape_base.specs.declared.ask.Ask.{Ask}
use Rattle.shape_base.specs.declared.ask.Named.{Named}
use Rattle.shape_base.specs.Shape.{Map}
use Rattle.shape_base.specs.Offsets.{is_before}
use Rattle.shape_base.specs.Log.{end_of}
use Rattle.shape_base.specs.RegistryHistory.{had_ready, was_registered_under, was_removed, is_live_under}
use Rattle.shape_json.specs.Body.{body_text}
use Rattle.shape_json.specs.Page.{Part, IsPage}
use Rattle.shape_json.specs.Answer.{IsAsked, IsPaged, IsNamedReady}
use Rattle.shape_json.proofs.Lemmas.{pages_are_asked, gone_names_ready, page_is_front}
use Rattle.http_edge.specs.World.{World, Given, situation, log_at, schema_at, IsGoodWorld}
use Rattle.http_edge.specs.Lawful.{control_of, next_cursor, page_with}
use Rattle.http_edge.specs.Fair.{LeadAlike, FairPage, FairConflict, FairRefusal}
use Rattle.http_edge.proofs.Lemmas.{ready_later, under_later}
use Rattle.fold_client.specs.declared.body.Body.{Body}
use Rattle.fold_client.specs.Client.{Held, is_above, with_parts, take_reply}
use Rattle.fold_client.specs.Following.{named_by, Heard, IsFairFor, Following, start, follow, followed, AreFair, HasRows, IsAboveLeft, Holds}
use Rattle.fold_client.specs.Laws.{ClientLaw, NeverBack}
use Rattle.fold_client.proofs.Following.{IsPast, Inv, Step, Stands, IsReadyOne, parts, under_start, step_conflict, step_page, IsMine, step_refusal}

-- ---- handles of the client's query

-- a number that was ready under the identity when a reply was given
mine : (w : World) (identity asked : List ℕ) (seen number : ℕ) → asked ≡ identity → had_ready (take seen w.events) number ≡ true → is_live_under (take seen w.events) asked number ≡ true → IsMine w identity number
mine w identity asked seen number same ready under = record {
  had = ready_later w seen number ready;
  named = subst (λ (i : List ℕ). was_registered_under w.events i number ≡ true) same (under_later w asked seen number (and_parts (was_registered_under (take seen w.events) asked number) (not (was_removed (take seen w.events) number)) under).0);
}

ready_other : (w : World) (identity : List ℕ) (g : Given) (late : Bool) (ask : Ask) (other : Option Handle) → ask.identity ≡ identity → IfSome other (IsNamedReady (situation w g late) ask) → IsReadyOne w identity other
ready_other w identity g late ask None same h = tt
ready_other w identity g late ask (Some handle) same h = (h.run, mine w identity ask.identity g.seen handle.number same h.ready h.under)

-- ---- a page

-- what a page that was given owes
record IsGiven (w : World) (identity : List ℕ) (f : Following) (n : ℕ) (h : Handle) (page : Part) (entries : List Entry) : Type 0 where
  pub run : h.run ≡ w.start.run
  pub ready : IsMine w identity h.number
  pub there : is_before (end_of (log_at w h.number n)) f.held.offset ≡ false
  pub is : IsPage (log_at w h.number n) f.held.offset page
  pub alike : LeadAlike (log_at w h.number n) f.held.offset page entries

abbrev said : List Entry → Part → Option Body
said entries page = Some (record { entries = entries; control = control_of page.up_to_date })

-- under the present handle
page_under : (w : World) (identity : List ℕ) (p : Handle) (left : Option Handle) (offset : Offset) (cursor : Option ℕ) (rows : Map) (current : List ℕ) (n : ℕ) (ask : Ask) (h : Handle) (schema : Option (List ℕ)) (page : Part) (entries : List Entry) (text : List ℕ) → IsGoodWorld w
    → Inv w identity (parts (Some p) left offset cursor rows current) → p ≡ h → IsGiven w identity (parts (Some p) left offset cursor rows current) n h page entries
    → Step w identity (parts (Some p) left offset cursor rows current) n (take_reply (parts (Some p) left offset cursor rows current).held (page_with ask h schema page text) (said entries page))
page_under w identity p left offset cursor rows current n ask h schema page entries text good inv same given =
    step_page w identity (parts (Some p) left offset cursor rows current) n h page entries (next_cursor ask.cursor) good given.run given.ready
    (subst (λ (x : Handle). Stands w identity (parts (Some p) left offset cursor rows current).held current (Some x)) same inv.stands).folds
    (subst (λ (x : Handle). Stands w identity (parts (Some p) left offset cursor rows current).held current (Some x)) same inv.stands).reached
    (subst (λ (x : Handle). IsAboveLeft (Some x) left) same inv.above) same given.there given.is given.alike

-- without one
page_anew : (w : World) (identity : List ℕ) (left : Option Handle) (cursor : Option ℕ) (n : ℕ) (next : ℕ) (h : Handle) (page : Part) (entries : List Entry) → IsGoodWorld w → IsAboveLeft (Some h) left → IsGiven w identity (parts None left Start cursor fin.empty []) n h page entries
    → Step w identity (parts None left Start cursor fin.empty []) n (with_parts (parts None left Start cursor fin.empty []).held (if page.up_to_date then Some next else None) (Some h) (Some page.end) (said entries page))
page_anew w identity left cursor n next h page entries good above given =
    step_page w identity (parts None left Start cursor fin.empty []) n h page entries next good given.run given.ready (under_start w identity h left good given.run given.ready).folds tt above tt given.there given.is given.alike

page_if : (w : World) (identity : List ℕ) (l : Handle) (cursor : Option ℕ) (n : ℕ) (ask : Ask) (h : Handle) (schema : Option (List ℕ)) (page : Part) (entries : List Entry) (text : List ℕ) (b : Bool) → is_above l h ≡ b → IsGoodWorld w → Inv w identity (parts None (Some l) Start cursor fin.empty [])
    → IsGiven w identity (parts None (Some l) Start cursor fin.empty []) n h page entries
    → Step w identity (parts None (Some l) Start cursor fin.empty []) n (take_reply (parts None (Some l) Start cursor fin.empty []).held (page_with ask h schema page text) (said entries page))
page_if w identity l cursor n ask h schema page entries text true is good inv given = rw is (page_anew w identity (Some l) cursor n (next_cursor ask.cursor) h page entries good is given)
page_if w identity l cursor n ask h schema page entries text false is good inv given = rw is (step_conflict w identity (parts None (Some l) Start cursor fin.empty []) n None good inv tt)

page_first : (w : World) (identity : List ℕ) (left : Option Handle) (cursor : Option ℕ) (n : ℕ) (ask : Ask) (h : Handle) (schema : Option (List ℕ)) (page : Part) (entries : List Entry) (text : List ℕ) → IsGoodWorld w → Inv w identity (parts None left Start cursor fin.empty [])
    → IsGiven w identity (parts None left Start cursor fin.empty []) n h page entries
    → Step w identity (parts None left Start cursor fin.empty []) n (take_reply (parts None left Start cursor fin.empty []).held (page_with ask h schema page text) (said entries page))
page_first w identity None cursor n ask h schema page entries text good inv given = page_anew w identity None cursor n (next_cursor ask.cursor) h page entries good tt given
page_first w identity (Some l) cursor n ask h schema page entries text good inv given = page_if w identity l cursor n ask h schema page entries text (is_above l h) refl good inv given

from_without : (P : Offset → Map → List ℕ → Type 0) (o : Offset) (rows : Map) (current : List ℕ) → o ≡ Start → rows ≡ fin.empty → current ≡ [] → P Start fin.empty [] → P o rows current
from_without P o rows current e1 e2 e3 p = subst (λ (x : Offset). P x rows current) (sym e1) (subst (λ (x : Map). P Start x current) (sym e2) (subst (λ (x : List ℕ). P Start fin.empty x) (sym e3) p))

page_parts : (w : World) (identity : List ℕ) (handle left : Option Handle) (offset : Offset) (cursor : Option ℕ) (rows : Map) (current : List ℕ) (n : ℕ) (ask : Ask) (h : Handle) (from : Offset) (schema : Option (List ℕ)) (page : Part) (entries : List Entry) (text : List ℕ) → IsGoodWorld w
    → Inv w identity (parts handle left offset cursor rows current) → IsAsked (named_by handle) offset h from → (from ≡ offset → IsGiven w identity (parts handle left offset cursor rows current) n h page entries)
    → Step w identity (parts handle left offset cursor rows current) n (take_reply (parts handle left offset cursor rows current).held (page_with ask h schema page text) (said entries page))
page_parts w identity (Some p) left offset cursor rows current n ask h from schema page entries text good inv asked given =
    page_under w identity p left offset cursor rows current n ask h schema page entries text good inv asked.0 (given asked.1)
page_parts w identity None left offset cursor rows current n ask h from schema page entries text good inv asked given =
    from_without (λ (o : Offset) (m : Map) (c : List ℕ). Inv w identity (parts None left o cursor m c) → IsGiven w identity (parts None left o cursor m c) n h page entries → Step w identity (parts None left o cursor m c) n (take_reply (parts None left o cursor m c).held (page_with ask h schema page text) (said entries page)))
    offset rows current inv.stands.offset inv.stands.rows inv.stands.none
    (λ inv given. page_first w identity left cursor n ask h schema page entries text good inv given) inv (given (asked ∙ sym inv.stands.offset))

-- ---- any fair reply

fair_page : (w : World) (identity : List ℕ) (f : Following) (x : Heard) (ask : Ask) (late : Bool) (h : Handle) (from : Offset) (page : Part) (entries : List Entry) → IsGoodWorld w → Inv w identity f → IsFairFor w identity f.held x → ask.identity ≡ identity → ask.named ≡ named_by f.held.handle → ask.offset ≡ f.held.offset
    → IsPaged (situation w x.given late) ask h from page → LeadAlike (log_at w h.number x.given.shown) from page entries
    → x.given.reply ≡ page_with ask h (schema_at w h.number) page (body_text entries (control_of page.up_to_date))
    → Step w identity f x.given.shown (take_reply f.held x.given.reply x.body)
fair_page w identity f x ask late h from page entries good inv fair same names begins p alike gives =
    let body : x.body ≡ said entries page = fair.says.back entries (control_of page.up_to_date) alike.plain alike.offsets (ap (λ (r : Reply). r.body) gives) in
    let asked : IsAsked (named_by f.held.handle) f.held.offset h from = subst (λ (x : Named). IsAsked x f.held.offset h from) names (subst (λ (o : Offset). IsAsked ask.named o h from) begins p.asked) in
    let front : IsPage (log_at w h.number x.given.shown) from page = subst (λ (y : Part). IsPage (log_at w h.number x.given.shown) from y) (sym p.is) (page_is_front w.chunk (log_at w h.number x.given.shown) from) in
    let given : from ≡ f.held.offset → IsGiven w identity f x.given.shown h page entries = λ at. record {
      run = p.run;
      ready = mine w identity ask.identity x.given.seen h.number same p.ready p.under;
      there = subst (λ (o : Offset). is_before (end_of (log_at w h.number x.given.shown)) o ≡ false) at p.there;
      is = subst (λ (o : Offset). IsPage (log_at w h.number x.given.shown) o page) at front;
      alike = subst (λ (o : Offset). LeadAlike (log_at w h.number x.given.shown) o page entries) at alike;
    } in
    subst (λ (b : Option Body). Step w identity f x.given.shown (take_reply f.held x.given.reply b)) (sym body)
    (subst (λ (r : Reply). Step w identity f x.given.shown (take_reply f.held r (said entries page))) (sym gives)
    (page_parts w identity f.held.handle f.held.left f.held.offset f.held.cursor f.held.rows f.current x.given.shown ask h from (schema_at w h.number) page entries (body_text entries (control_of page.up_to_date)) good inv asked given))

pub step_fair : (w : World) (identity : List ℕ) (f : Following) (x : Heard) → IsGoodWorld w → Inv w identity f → IsFairFor w identity f.held x → Step w identity f x.given.shown (take_reply f.held x.given.reply x.body)
step_fair w identity f x good inv fair = elim fair.fair [
  | FairPage ask late h from page entries is answer alike gives ↦
      let of = fair.asks ask is in
      fair_page w identity f x ask late h from page entries good inv fair of.identity_is of.named of.offset (pages_are_asked (situation w x.given late) ask h from page answer) alike gives
  | FairConflict ask late other is answer gives ↦
      subst (λ (r : Reply). Step w identity f x.given.shown (take_reply f.held r x.body)) (sym gives)
      (step_conflict w identity f x.given.shown other good inv (ready_other w identity x.given late ask other (fair.asks ask is).identity_is (gone_names_ready (situation w x.given late) ask other answer).other))
  | FairRefusal refuses ↦ step_refusal w identity f x.given.shown x.given.reply x.body refuses inv
]

pub inv_followed : (w : World) (identity : List ℕ) (f : Following) (xs : List Heard) → IsGoodWorld w → Inv w identity f → AreFair w identity f xs → Inv w identity (followed f xs)
inv_followed w identity f [] good inv fair = inv
inv_followed w identity f (x ∷ xs) good inv fair = inv_followed w identity (follow f x) xs good (step_fair w identity f x good inv fair.0).inv fair.1

pub inv_start : (w : World) (identity : List ℕ) → Inv w identity start
inv_start w identity = record { stands = record { rows = refl; offset = refl; none = refl }; above = tt }

has_rows : (w : World) (identity : List ℕ) (c : Held) (current : List ℕ) (handle : Option Handle) → Stands w identity c current handle → HasRows w c handle
has_rows w identity c current None h = h.rows
has_rows w identity c current (Some p) h = h.folds

pub holds : (w : World) (identity : List ℕ) (f : Following) → Inv w identity f → Holds w f
holds w identity f inv = record { rows = has_rows w identity f.held f.current f.held.handle inv.stands; above = inv.above }

pub client_law : ClientLaw
client_law w identity xs good fair =
    let inv = inv_followed w identity start xs good (inv_start w identity) fair in
    (holds w identity (followed start xs) inv, λ x next. (step_fair w identity (followed start xs) x good inv next).right)

-- ---- no handle comes back

past_followed : (w : World) (identity : List ℕ) (f : Following) (xs : List Heard) (k : ℕ) → IsGoodWorld w → Inv w identity f → AreFair w identity f xs → IsPast w k f.held.handle f.held.left → IsPast w k (followed f xs).held.handle (followed f xs).held.left
past_followed w identity f [] k good inv fair past = past
past_followed w identity f (x ∷ xs) k good inv fair past = let s = step_fair w identity f x good inv fair.0 in past_followed w identity (follow f x) xs k good s.inv fair.1 (s.past k past)

followed_on : (f : Following) (xs ys : List Heard) → followed f (xs ++ ys) ≡ followed (followed f xs) ys
followed_on f [] ys = refl
followed_on f (x ∷ xs) ys = followed_on (follow f x) xs ys

fair_front : (w : World) (identity : List ℕ) (f : Following) (xs ys : List Heard) → AreFair w identity f (xs ++ ys) → AreFair w identity f xs × AreFair w identity (followed f xs) ys
fair_front w identity f [] ys fair = (tt, fair)
fair_front w identity f (x ∷ xs) ys fair = let more = fair_front w identity (follow f x) xs ys fair.1 in ((fair.0, more.0), more.1)

past_at : (w : World) (k : ℕ) (handle left : Option Handle) (q : Handle) → handle ≡ Some q → IsPast w k handle left → k < q.number
past_at w k None left q e past = cc
past_at w k (Some h) left q e past = let same : h ≡ q = cc in subst (λ (x : Handle). k < x.number) same past

run_at : (w : World) (identity : List ℕ) (c : Held) (current : List ℕ) (handle : Option Handle) (q : Handle) → handle ≡ Some q → Stands w identity c current handle → q.run ≡ w.start.run
run_at w identity c current None q e stands = cc
run_at w identity c current (Some h) q e stands = let same : h ≡ q = cc in subst (λ (x : Handle). x.run ≡ w.start.run) same stands.run

pub never_back : NeverBack
never_back w identity xs x ys p q good fair here left there =
    let fronts = fair_front w identity start xs (x ∷ ys) fair in
    let now = followed start xs in
    let inv = inv_followed w identity start xs good (inv_start w identity) fronts.0 in
    let step = step_fair w identity (followed start xs) x good inv fronts.1.0 in
    let last = inv_followed w identity (follow (followed start xs) x) ys good step.inv fronts.1.1 in
    let past = past_followed w identity (follow (followed start xs) x) ys p.number good step.inv fronts.1.1 (step.leaves left p here) in
    let there_too : (followed (follow (followed start xs) x) ys).held.handle ≡ Some q = ap (λ (f : Following). f.held.handle) (sym (followed_on start xs (x ∷ ys))) ∙ there in
    (run_at w identity now.held now.current now.held.handle p here inv.stands ∙ sym (run_at w identity _ _ _ q there_too last.stands), past_at w p.number _ _ q there_too past)
