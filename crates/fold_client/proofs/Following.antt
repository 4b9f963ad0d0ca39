-- What a client that takes fair replies keeps.
use Rattle.std.proofs.Common.{◌≡◌, ℕ, ◌<◌, ◌≤◌, max, Bool, true, false, not, ◌||◌, List, [], ◌∷◌, ◌++◌, length, refl, sym, ◌∙◌, ap, subst, arith, append_assoc, length-append, Option, None, Some, IsSome, ◌⊎◌, inl, inr}
use Rattle.std.specs.Bool.{if◌then◌else◌}
use Rattle.std.specs.Option.{option_and_then}
use Rattle.std.specs.FinMap as fin
use Rattle.std.proofs.lemmas.Bool.{and_from}
use Rattle.std.proofs.lemmas.Bool.Decides.{Decides-eqb, Decides-ltb}
use Rattle.std.proofs.lemmas.List.{append-nil}
use Rattle.shape_base.specs.declared.offset.Offset.{Offset}
use Rattle.shape_base.specs.declared.offset.Offset.TheVariants.{Start, At}
use Rattle.shape_base.specs.declared.entry.Entry.{Entry}
use Rattle.shape_base.specs.declared.handle.Handle.{Handle}
use Rattle.shape_base.specs.declared.reply.Reply.{Reply}
use Rattle.shape_base.specs.Tables.{same_text}
use Rattle.shape_base.specs.Shape.{Map}
use Rattle.shape_base.specs.Offsets.{is_before, rises_after, upto, past, end_from}
use Rattle.shape_base.specs.Log.{fold, fold_from, end_of, last_offset}
use Rattle.shape_base.specs.RegistryHistory.{had_ready, was_registered_under}
use Rattle.shape_base.proofs.Lemmas.{Decides-same_text, fold_from-append, upto_none, upto_more, upto_past, rises_from, rises_front}
use Rattle.shape_json.specs.Page.{Part, IsPage}
use Rattle.http_edge.specs.World.{World, log_at, IsGoodWorld}
use Rattle.http_edge.specs.Lawful.{control_of}
use Rattle.http_edge.specs.Fair.{LeadAlike, IsRefusal}
use Rattle.http_edge.specs.Reach.{point_at, rows_at, farther, reach_of, reach_under, whole_log}
use Rattle.http_edge.proofs.Lemmas.{whole_rises_at, front_at, grows_at, point_rises_at, folds_at, upto_page}
use Rattle.fold_client.specs.declared.body.Body.{Body}
use Rattle.fold_client.specs.Client.{Held, Refetch, ServerRefused, After, is_above, next_handle, left_by, begun_anew, refetched, refused, same_offset, is_bad, same_handle, with_rows, with_handle, with_parts, take_reply}
use Rattle.fold_client.specs.Following.{Following, current_after, IsAboveLeft, IsNotBelow, IsRight}

-- a handle that became ready, of the client's query
pub record IsMine (w : World) (identity : List ℕ) (number : ℕ) : Type 0 where
  pub had : had_ready w.events number ≡ true
  pub named : was_registered_under w.events identity number ≡ true

-- one list is another with more after it
record HasFront (es front : List Entry) : Type 0 where
  pub rest : List Entry
  pub is : es ≡ front ++ rest

whole_front : (w : World) (number n : ℕ) → HasFront (whole_log w number) (log_at w number n)
whole_front w number n = let f = front_at w number n in record { rest = f.more; is = f.is }

log_front : (w : World) (number m n : ℕ) → m ≤ n → HasFront (log_at w number n) (log_at w number m)
log_front w number m n le = let f = grows_at w number m n le in record { rest = f.more; is = f.is }

then_some : (o : Option Map) (f : Map → Option Map) (m : Map) → option_and_then f o ≡ Some m → IsSome o
then_some None f m h = cc
then_some (Some a) f m h = refl

-- a front of entries that fold folds
front_folds : (es fs : List Entry) (m : Map) → fold (es ++ fs) ≡ Some m → IsSome (fold es)
front_folds es fs m h = then_some (fold es) (fold_from fs) m (sym (fold_from-append es fs fin.empty) ∙ h)

-- the reach is the point of a log that ends no later than the offset
pub record ReachedAt (w : World) (number : ℕ) (o : Offset) (r : ℕ) : Type 0 where
  shown : ℕ
  point : point_at w number shown ≡ r
  front : HasFront (upto o (whole_log w number)) (log_at w number shown)

abbrev pub Reached : World → ℕ → Offset → Option ℕ → Type 0
Reached w number o None = Unit {0}
Reached w number o (Some r) = ReachedAt w number o r

-- how a client stands under a handle
pub record Under (w : World) (identity : List ℕ) (c : Held) (current : List ℕ) (h : Handle) : Type 0 where
  pub run : h.run ≡ w.start.run
  pub ready : IsMine w identity h.number
  pub folds : fold (upto c.offset (whole_log w h.number)) ≡ Some c.rows
  pub reached : Reached w h.number c.offset (reach_of w h.number current)

pub record Without (w : World) (c : Held) (current : List ℕ) : Type 0 where
  pub rows : c.rows ≡ fin.empty
  pub offset : c.offset ≡ Start
  pub none : current ≡ []

abbrev pub Stands : World → List ℕ → Held → List ℕ → Option Handle → Type 0
Stands w identity c current None = Without w c current
Stands w identity c current (Some h) = Under w identity c current h

pub record Inv (w : World) (identity : List ℕ) (f : Following) : Type 0 where
  pub stands : Stands w identity f.held f.current f.held.handle
  pub above : IsAboveLeft f.held.handle f.held.left

abbrev pub after_of : Following → ℕ → After → Following
after_of f n a = record { held = a.held; current = current_after a.outcome f.current n }

-- the client has left a handle from that number on, and is above it
abbrev pub IsPast : World → ℕ → Option Handle → Option Handle → Type 0
IsPast w k None None = ⊥
IsPast w k None (Some l) = (k ≤ l.number) × (l.run ≡ w.start.run)
IsPast w k (Some h) left = k < h.number

pub record Step (w : World) (identity : List ℕ) (f : Following) (n : ℕ) (a : After) : Type 0 where
  pub past : (k : ℕ) → IsPast w k f.held.handle f.held.left → IsPast w k a.held.handle a.held.left
  pub leaves : a.outcome ≡ Refetch → (p : Handle) → f.held.handle ≡ Some p → IsPast w p.number a.held.handle a.held.left
  pub inv : Inv w identity (after_of f n a)
  pub right : IsRight w identity f (after_of f n a) n a.outcome

step_refused : (w : World) (identity : List ℕ) (f : Following) (n status : ℕ) → Inv w identity f → Step w identity f n (refused f.held (ServerRefused status))
step_refused w identity f n status inv = record { past = λ k h. h; leaves = λ e. cc; inv = inv; right = tt }

-- at the start of a log
pub under_start : (w : World) (identity : List ℕ) (h : Handle) (left : Option Handle) → IsGoodWorld w → h.run ≡ w.start.run → IsMine w identity h.number → Under w identity (record { handle = Some h; left = left; offset = Start; cursor = None; rows = fin.empty }) [] h
under_start w identity h left good run ready =
    let rises = whole_rises_at w h.number good in
    record { run = run; ready = ready; folds = ap fold (upto_none Start (whole_log w h.number) (rises_from (At 0 0) Start (whole_log w h.number) refl rises)); reached = tt }

abbrev pub IsReadyOne : World → List ℕ → Option Handle → Type 0
IsReadyOne w identity None = Unit {0}
IsReadyOne w identity (Some h) = (h.run ≡ w.start.run) × (IsMine w identity h.number)

begun_if : (w : World) (identity : List ℕ) (l h : Handle) (b : Bool) → is_above l h ≡ b → IsGoodWorld w → IsReadyOne w identity (Some h) → Inv w identity (record { held = record { handle = if b then Some h else None; left = Some l; offset = Start; cursor = None; rows = fin.empty }; current = [] })
begun_if w identity l h true is good ready = record { stands = under_start w identity h (Some l) good ready.0 ready.1; above = is }
begun_if w identity l h false is good ready = record { stands = record { rows = refl; offset = refl; none = refl }; above = tt }

begun : (w : World) (identity : List ℕ) (left named : Option Handle) → IsGoodWorld w → IsReadyOne w identity named → Inv w identity (record { held = begun_anew left named; current = [] })
begun w identity left None good ready = record { stands = record { rows = refl; offset = refl; none = refl }; above = tt }
begun w identity None (Some h) good ready = record { stands = under_start w identity h None good ready.0 ready.1; above = tt }
begun w identity (Some l) (Some h) good ready = begun_if w identity l h (is_above l h) refl good ready

above_or : (b c : Bool) → b ≡ true → (not b || c) ≡ true → c ≡ true
above_or true c e f = f
above_or false c e f = cc

above_less : (w : World) (k : ℕ) (l h : Handle) → k ≤ l.number → l.run ≡ w.start.run → h.run ≡ w.start.run → is_above l h ≡ true → k < h.number
above_less w k l h le left run is =
    let less : l.number < h.number = (Decides-ltb l.number h.number).0 (above_or (same_text h.run l.run) _ ((Decides-same_text h.run l.run).1 (run ∙ sym left)) is) in
    omega (arith, less, le)

past_if : (w : World) (k : ℕ) (l h : Handle) (b : Bool) → is_above l h ≡ b → k ≤ l.number → l.run ≡ w.start.run → h.run ≡ w.start.run → IsPast w k (if b then Some h else None) (Some l)
past_if w k l h true is le left run = above_less w k l h le left run is
past_if w k l h false is le left run = (le, left)

past_left : (w : World) (identity : List ℕ) (k : ℕ) (l : Handle) (named : Option Handle) → k ≤ l.number → l.run ≡ w.start.run → IsReadyOne w identity named → IsPast w k (next_handle (Some l) named) (Some l)
past_left w identity k l None le left ready = (le, left)
past_left w identity k l (Some h) le left ready = past_if w k l h (is_above l h) refl le left ready.0

past_conflict : (w : World) (identity : List ℕ) (f : Following) (k : ℕ) (handle left named : Option Handle) → Stands w identity f.held f.current handle → IsReadyOne w identity named → IsPast w k handle left → IsPast w k (next_handle (left_by handle left) named) (left_by handle left)
past_conflict w identity f k None None named stands ready h = absurd h
past_conflict w identity f k None (Some l) named stands ready h = past_left w identity k l named h.0 h.1 ready
past_conflict w identity f k (Some p) left named stands ready h = past_left w identity k p named (omega (arith, h)) stands.run ready

leaves_conflict : (w : World) (identity : List ℕ) (f : Following) (handle left named : Option Handle) (p : Handle) → Stands w identity f.held f.current handle → IsReadyOne w identity named → handle ≡ Some p → IsPast w p.number (next_handle (left_by handle left) named) (left_by handle left)
leaves_conflict w identity f None left named p stands ready e = cc
leaves_conflict w identity f (Some q) left named p stands ready e = let same : q ≡ p = cc in past_left w identity p.number q named (subst (λ x. p.number ≤ x.number) (sym same) (omega arith)) stands.run ready

-- the page's handle is the present one, or there is none
abbrev pub IsTaken : Option Handle → Handle → Type 0
IsTaken None h = Unit {0}
IsTaken (Some asked) h = asked ≡ h

past_page : (w : World) (k : ℕ) (handle left : Option Handle) (h : Handle) → h.run ≡ w.start.run → IsAboveLeft (Some h) left → IsTaken handle h → IsPast w k handle left → IsPast w k (Some h) left
past_page w k None None h run above is past = absurd past
past_page w k None (Some l) h run above is past = above_less w k l h past.0 past.1 run above
past_page w k (Some p) left h run above is past = subst (λ x. k < x.number) is past

pub step_conflict : (w : World) (identity : List ℕ) (f : Following) (n : ℕ) (named : Option Handle) → IsGoodWorld w → Inv w identity f → IsReadyOne w identity named → Step w identity f n (refetched f.held named)
step_conflict w identity f n named good before ready = record {
  past = λ k h. past_conflict w identity f k f.held.handle f.held.left named before.stands ready h;
  leaves = λ _ p e. leaves_conflict w identity f f.held.handle f.held.left named p before.stands ready e;
  inv = begun w identity (left_by f.held.handle f.held.left) named good ready;
  right = tt;
}

-- the facts of a page that is taken
record Lands (w : World) (number : ℕ) (o : Offset) (rows : Map) (n : ℕ) (page : Part) (entries : List Entry) (next : Map) : Type 0 where
  folded : fold_from entries rows ≡ Some next
  pub folds : fold (upto page.end (whole_log w number)) ≡ Some next
  more : upto page.end (whole_log w number) ≡ upto o (whole_log w number) ++ page.entries
  all : page.up_to_date ≡ true → upto page.end (whole_log w number) ≡ log_at w number n

log_folds : (w : World) (identity : List ℕ) (number n : ℕ) → IsGoodWorld w → IsMine w identity number → (fold (log_at w number n) ≡ rows_at w number (point_at w number n)) × IsSome (rows_at w number (point_at w number n))
log_folds w identity number n good ready =
    folds_at w number n good ready.had

some_of : (o : Option Map) → IsSome o → (m : Map) × (o ≡ Some m)
some_of None h = cc
some_of (Some m) h = (m, refl)

lands : (w : World) (identity : List ℕ) (number n : ℕ) (o : Offset) (rows : Map) (page : Part) (entries : List Entry) → IsGoodWorld w → IsMine w identity number
    → fold (upto o (whole_log w number)) ≡ Some rows → is_before (end_of (log_at w number n)) o ≡ false → IsPage (log_at w number n) o page → LeadAlike (log_at w number n) o page entries
    → (next : Map) × Lands w number o rows n page entries next
lands w identity number n o rows page entries good ready folds there is alike =
    let log = log_at w number n in
    let front = whole_front w number n in
    let rises : rises_after (At 0 0) (log_at w number n ++ front.rest) ≡ true = subst (λ (es : List Entry). rises_after (At 0 0) es ≡ true) front.is (whole_rises_at w number good) in
    let rises_alone : rises_after (At 0 0) (log_at w number n ++ []) ≡ true = subst (λ (es : List Entry). rises_after (At 0 0) es ≡ true) (sym (append-nil (log_at w number n))) (rises_front (At 0 0) (log_at w number n) front.rest rises) in
    let same : upto o (whole_log w number) ≡ upto o (log_at w number n) = ap (upto o) front.is ∙ upto_more (At 0 0) o (log_at w number n) front.rest rises there in
    let at_end : upto page.end (whole_log w number) ≡ upto o (log_at w number n) ++ page.entries = ap (upto page.end) front.is ∙ ap (λ x. upto x (log_at w number n ++ front.rest)) is.end ∙ upto_page o (log_at w number n) page.entries is.rest front.rest rises there is.cut in
    let at_end_alone : upto page.end (log_at w number n) ≡ upto o (log_at w number n) ++ page.entries = ap (upto page.end) (sym (append-nil (log_at w number n))) ∙ ap (λ x. upto x (log_at w number n ++ [])) is.end ∙ upto_page o (log_at w number n) page.entries is.rest [] rises_alone there is.cut in
    let cut : (upto o (log_at w number n) ++ page.entries) ++ is.rest ≡ log_at w number n = append_assoc (upto o log) page.entries is.rest ∙ ap (λ (es : List Entry). upto o (log_at w number n) ++ es) (sym is.cut) ∙ upto_past o log in
    let whole_folds = log_folds w identity number n good ready in
    let log_some = some_of _ whole_folds.1 in
    let has = some_of (fold (upto o (log_at w number n) ++ page.entries)) (front_folds (upto o log ++ page.entries) is.rest log_some.0 (ap fold cut ∙ whole_folds.0 ∙ log_some.1)) in (
      has.0,
      record {
        folded = ap (option_and_then (fold_from entries)) (sym folds ∙ ap fold same) ∙ sym (fold_from-append (upto o log) entries fin.empty) ∙ alike.folds ∙ ap fold at_end_alone ∙ has.1;
        folds = ap fold at_end ∙ has.1;
        more = at_end ∙ ap (λ (es : List Entry). es ++ page.entries) (sym same);
        all = λ t. at_end ∙ sym (append-nil (upto o log ++ page.entries)) ∙ ap (λ (es : List Entry). (upto o log ++ page.entries) ++ es) (sym (is.all t)) ∙ cut;
      },
    )

front_on : (es fs gs more : List Entry) → fs ≡ es ++ more → HasFront es gs → HasFront fs gs
front_on es fs gs more is h = record { rest = h.rest ++ more; is = is ∙ ap (λ (xs : List Entry). xs ++ more) h.is ∙ append_assoc gs h.rest more }

reach_kept : (w : World) (number : ℕ) (o e : Offset) (reach : Option ℕ) (more : List Entry) → upto e (whole_log w number) ≡ upto o (whole_log w number) ++ more → Reached w number o reach → Reached w number e reach
reach_kept w number o e None more is h = tt
reach_kept w number o e (Some r) more is h = record { shown = h.shown; point = h.point; front = front_on (upto o (whole_log w number)) _ _ more is h.front }

reach_here : (w : World) (number n : ℕ) (e : Offset) → upto e (whole_log w number) ≡ log_at w number n → ReachedAt w number e (point_at w number n)
reach_here w number n e is = record { shown = n; point = refl; front = record { rest = []; is = is ∙ sym (append-nil (log_at w number n)) } }

-- what is at a new reach
record AtReach (w : World) (number : ℕ) (e : Offset) (r : ℕ) (next : Map) : Type 0 where
  at : ReachedAt w number e r
  pub rows : rows_at w number r ≡ Some next

none_of : (xs : List Entry) → length xs ≡ 0 → xs ≡ []
none_of [] h = refl
none_of (x ∷ xs) h = absurd (omega (arith, h))

no_more : (es more rest : List Entry) → es ≡ (es ++ more) ++ rest → more ≡ []
no_more es more rest h = none_of more (omega (arith, simp length-append at (ap length h)))

-- Of two logs that both end at the offset, the rows at either point are the same.
at_older : (w : World) (identity : List ℕ) (number n : ℕ) (e : Offset) (r : ℕ) (next : Map) → IsGoodWorld w → IsMine w identity number → upto e (whole_log w number) ≡ log_at w number n → fold (upto e (whole_log w number)) ≡ Some next → point_at w number n < r → ReachedAt w number e r → AtReach w number e r next
at_older w identity number n e r next good ready all folds less h =
    let later : (h.shown ≤ n) → ⊥ = λ le. let low = point_rises_at w number h.shown n le in omega (arith, low, less, h.point) in
    let below : n ≤ h.shown = omega (arith, later) in
    let fronts = log_front w number n h.shown below in
    let both : log_at w number n ≡ (log_at w number n ++ fronts.rest) ++ h.front.rest = sym all ∙ h.front.is ∙ ap (λ (es : List Entry). es ++ h.front.rest) fronts.is in
    let same : log_at w number h.shown ≡ log_at w number n = fronts.is ∙ ap (λ (es : List Entry). log_at w number n ++ es) (no_more (log_at w number n) fronts.rest h.front.rest both) ∙ append-nil (log_at w number n) in
    record { at = h; rows = ap (rows_at w number) (sym h.point) ∙ sym ((log_folds w identity number h.shown good ready).0) ∙ ap fold (same ∙ sym all) ∙ folds }

at_newer : (w : World) (identity : List ℕ) (number n : ℕ) (e : Offset) (next : Map) → IsGoodWorld w → IsMine w identity number → upto e (whole_log w number) ≡ log_at w number n → fold (upto e (whole_log w number)) ≡ Some next → AtReach w number e (point_at w number n) next
at_newer w identity number n e next good ready all folds = record { at = reach_here w number n e all; rows = sym ((log_folds w identity number n good ready).0) ∙ ap fold (sym all) ∙ folds }

at_max : (w : World) (number : ℕ) (e : Offset) (r p : ℕ) (next : Map) → (r ≤ p) ⊎ (p < r) → AtReach w number e p next → (p < r → AtReach w number e r next) → AtReach w number e (max r p) next
at_max w number e r p next (inl le) new old = let is : max r p ≡ p = omega (arith, le) in subst (λ x. AtReach w number e x next) (sym is) new
at_max w number e r p next (inr less) new old = let is : max r p ≡ r = omega (arith, less) in subst (λ x. AtReach w number e x next) (sym is) (old less)

compared : (r p : ℕ) → (r ≤ p) ⊎ (p < r)
compared r p = grind arith

at_farther : (w : World) (identity : List ℕ) (number n : ℕ) (e : Offset) (reach : Option ℕ) (next : Map) → IsGoodWorld w → IsMine w identity number → upto e (whole_log w number) ≡ log_at w number n → fold (upto e (whole_log w number)) ≡ Some next → Reached w number e reach → AtReach w number e (farther reach (point_at w number n)) next
at_farther w identity number n e None next good ready all folds h = at_newer w identity number n e next good ready all folds
at_farther w identity number n e (Some r) next good ready all folds h = at_max w number e r (point_at w number n) next (compared r (point_at w number n)) (at_newer w identity number n e next good ready all folds) (λ less. at_older w identity number n e r next good ready all folds less h)

farther_kept : (reach : Option ℕ) (p : ℕ) → IsNotBelow reach (farther reach p)
farther_kept None p = tt
farther_kept (Some r) p = omega arith

kept_under : (w : World) (handle : Option Handle) (h : Handle) (current : List ℕ) (p : ℕ) → IsTaken handle h → IsNotBelow (reach_under w handle current) (farther (reach_of w h.number current) p)
kept_under w None h current p is = tt
kept_under w (Some asked) h current p is = subst (λ (x : Handle). IsNotBelow (reach_of w x.number current) (farther (reach_of w h.number current) p)) (sym is) (farther_kept (reach_of w h.number current) p)

farther_taken : (reach : Option ℕ) (p : ℕ) → p ≤ farther reach p
farther_taken None p = omega arith
farther_taken (Some r) p = omega arith

-- A page is taken.
landed : (w : World) (identity : List ℕ) (f : Following) (n : ℕ) (h : Handle) (page : Part) (entries : List Entry) (next : Map) (b : Bool) (cursor : Option ℕ) → IsGoodWorld w → h.run ≡ w.start.run → IsMine w identity h.number → Reached w h.number f.held.offset (reach_of w h.number f.current) → IsAboveLeft (Some h) f.held.left → IsTaken f.held.handle h
    → page.up_to_date ≡ b → Lands w h.number f.held.offset f.held.rows n page entries next
    → Step w identity f n (with_rows f.held h page.end cursor (record { entries = entries; control = control_of b }) (Some next))
landed w identity f n h page entries next true cursor good run ready reach above taken is l =
    let at = at_farther w identity h.number n page.end (reach_of w h.number f.current) next good ready (l.all is) l.folds (reach_kept w h.number f.held.offset page.end (reach_of w h.number f.current) page.entries l.more reach) in
    record {
      past = λ k before. past_page w k f.held.handle f.held.left h run above taken before;
      leaves = λ e. cc;
      inv = record { stands = record { run = run; ready = ready; folds = l.folds; reached = at.at }; above = above };
      right = record { handle = h; reach = farther (reach_of w h.number f.current) (point_at w h.number n); under = refl; reached = refl; taken = farther_taken (reach_of w h.number f.current) _; kept = kept_under w f.held.handle h f.current (point_at w h.number n) taken; rows = at.rows; named = ready.named };
    }
landed w identity f n h page entries next false cursor good run ready reach above taken is l = record {
  past = λ k before. past_page w k f.held.handle f.held.left h run above taken before;
  leaves = λ e. cc;
  inv = record { stands = record { run = run; ready = ready; folds = l.folds; reached = reach_kept w h.number f.held.offset page.end (reach_of w h.number f.current) page.entries l.more reach }; above = above };
  right = tt;
}

same_as_itself : (o : Offset) → same_offset o o ≡ true
same_as_itself Start = refl
same_as_itself (At a i) = and_from _ _ ((Decides-eqb a a).1 refl) ((Decides-eqb i i).1 refl)

same_end : (o e : Offset) → e ≡ o → same_offset o e ≡ true
same_end o e h = subst (λ x. same_offset o x ≡ true) (sym h) (same_as_itself o)

not_bad : (asked end : Offset) (b : Bool) (cursor : ℕ) (entries : List Entry) → rises_after asked entries ≡ true → last_offset (end_from asked) entries ≡ end → is_bad asked end (if b then Some cursor else None) (record { entries = entries; control = control_of b }) ≡ false
not_bad asked end true cursor entries rise last = rw (rise, same_end end (last_offset (end_from asked) entries) last) refl
not_bad asked end false cursor entries rise last = rw (rise, same_end end (last_offset (end_from asked) entries) last) refl

same_handle_itself : (h : Handle) → same_handle h h ≡ true
same_handle_itself h = and_from _ _ ((Decides-eqb h.number h.number).1 refl) ((Decides-same_text h.run h.run).1 refl)

passes_handle : (w : World) (identity : List ℕ) (f : Following) (n : ℕ) (asked : Option Handle) (h : Handle) (end : Offset) (cursor : Option ℕ) (body : Body) → IsTaken asked h → Step w identity f n (with_rows f.held h end cursor body (fold_from body.entries f.held.rows)) → Step w identity f n (with_handle f.held asked h end cursor body)
passes_handle w identity f n None h end cursor body is step = step
passes_handle w identity f n (Some asked) h end cursor body is step = rw (subst (λ x. same_handle asked x ≡ true) is (same_handle_itself asked)) step

pub step_page : (w : World) (identity : List ℕ) (f : Following) (n : ℕ) (h : Handle) (page : Part) (entries : List Entry) (cursor : ℕ) → IsGoodWorld w → h.run ≡ w.start.run → IsMine w identity h.number → fold (upto f.held.offset (whole_log w h.number)) ≡ Some f.held.rows → Reached w h.number f.held.offset (reach_of w h.number f.current) → IsAboveLeft (Some h) f.held.left → IsTaken f.held.handle h
    → is_before (end_of (log_at w h.number n)) f.held.offset ≡ false → IsPage (log_at w h.number n) f.held.offset page → LeadAlike (log_at w h.number n) f.held.offset page entries
    → Step w identity f n (with_parts f.held (if page.up_to_date then Some cursor else None) (Some h) (Some page.end) (Some (record { entries = entries; control = control_of page.up_to_date })))
step_page w identity f n h page entries cursor good run ready folds reach above taken there is alike =
    let l = lands w identity h.number n f.held.offset f.held.rows page entries good ready folds there is alike in
    rw (not_bad f.held.offset page.end page.up_to_date cursor entries alike.rise alike.last)
    (passes_handle w identity f n f.held.handle h page.end _ _ taken
    (subst (λ (x : Option Map). Step w identity f n (with_rows f.held h page.end (if page.up_to_date then Some cursor else None) (record { entries = entries; control = control_of page.up_to_date }) x)) (sym l.1.folded)
    (landed w identity f n h page entries l.0 page.up_to_date (if page.up_to_date then Some cursor else None) good run ready reach above taken refl l.1)))

pub step_refusal : (w : World) (identity : List ℕ) (f : Following) (n : ℕ) (reply : Reply) (body : Option Body) → IsRefusal reply → Inv w identity f → Step w identity f n (take_reply f.held reply body)
step_refusal w identity f n reply body is inv = rw (is.no_conflict, is.no_page) (step_refused w identity f n reply.status inv)

-- a client in parts
abbrev pub parts : Option Handle → Option Handle → Offset → Option ℕ → Map → List ℕ → Following
parts handle left offset cursor rows current = record { held = record { handle = handle; left = left; offset = offset; cursor = cursor; rows = rows }; current = current }
