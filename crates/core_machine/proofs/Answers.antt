-- One exchange that is answered.
use Rattle.std.proofs.Common.{append_assoc, ◌≡◌, ℕ, zero, suc, Bool, true, false, ◌==◌, List, [], ◌∷◌, ◌++◌, refl, sym, ap, subst, ◌∙◌, Option, None, Some}
use Rattle.std.specs.Prelude.{slice_get, is_some}
use Rattle.std.specs.Bool.{if◌then◌else◌}
use Rattle.std.specs.Option.{option_map, option_or}
use Rattle.std.specs.List.{AllByRecursion}
use Rattle.std.proofs.lemmas.List.{append-nil}
use Rattle.shape_base.specs.declared.reply.Reply.{Reply}
use Rattle.http_edge.specs.Lawful.{Asked, Refuses}
use Rattle.fold_client.specs.Following.{Heard}
use Rattle.core_events.specs.declared.out.Out.{Out}
use Rattle.core_law.specs.Situation.{Options, Server, Reads, Role, Exchange, Situation}
use Rattle.core_law.specs.Steps.{Written, change_at, refused_with, reply_now, heard_at, settled_one, refused_at}
use Rattle.core_law.specs.Laws.{IsStart}
use Rattle.core_law.specs.Reached.{IsReached, HasText, WasGiven, RepliesHaveTexts}
use Rattle.core_exchanges.specs.declared.exchange.Exchange.{Exchange as Kept}
use Rattle.core_exchanges.specs.declared.exchanges.Exchanges.{Exchanges}
use Rattle.core_exchanges.specs.Standing as exchanges
use Rattle.core_exchanges.specs.Standing.{StandsFor, StandsThere, AreGiven, asked_of, role_of}
use Rattle.core_exchanges.specs.Giving.{given_to, HearsAs}
use Rattle.core_server.specs.declared.server.Server.{Server as KeptServer}
use Rattle.core_machine.specs.declared.answering.Refusal.{Refusal}
use Rattle.core_machine.specs.Replying.{reply_in, reply_at, settle, refused_in, answered_in}
use Rattle.core_machine.specs.Answering.{AreGivenNumbers, Halfway, text_of, text_if, text_now, text_at, settled_at, texts_at, Answered}

-- ---- lists

pub change_same : {A : Type 0} (f g : A → A) (xs : List A) (i : ℕ) (x : A) → slice_get xs i ≡ Some x → f x ≡ g x → change_at f xs i ≡ change_at g xs i
change_same f g [] i x at e = refl
change_same f g (y ∷ ys) zero x at e = let same : y ≡ x = cc in ap (λ z. z ∷ ys) (ap f same ∙ e ∙ ap g (sym same))
change_same f g (y ∷ ys) (suc i) x at e = ap (λ zs. y ∷ zs) (change_same f g ys i x at e)

pub change_none : {A : Type 0} (f : A → A) (xs : List A) (i : ℕ) → slice_get xs i ≡ None → change_at f xs i ≡ xs
change_none f [] i at = refl
change_none f (y ∷ ys) zero at = cc
change_none f (y ∷ ys) (suc i) at = ap (λ zs. y ∷ zs) (change_none f ys i at)

pub change_not : {A : Type 0} (f : A → A) (xs : List A) (i : ℕ) (x : A) → slice_get xs i ≡ Some x → f x ≡ x → change_at f xs i ≡ xs
change_not f [] i x at e = refl
change_not f (y ∷ ys) zero x at e = let same : y ≡ x = cc in ap (λ z. z ∷ ys) (ap f same ∙ e ∙ sym same)
change_not f (y ∷ ys) (suc i) x at e = ap (λ zs. y ∷ zs) (change_not f ys i x at e)

pub all_changed : {A : Type 0} (P : A → Type 0) (f : A → A) (xs : List A) (i : ℕ) → ((x : A) → P x → P (f x)) → AllByRecursion P xs → AllByRecursion P (change_at f xs i)
all_changed P f [] i keeps h = tt
all_changed P f (x ∷ xs) zero keeps h = (keeps x h.0, h.1)
all_changed P f (x ∷ xs) (suc i) keeps h = (h.0, all_changed P f xs i keeps h.1)

pub all_at : {A : Type 0} (P : A → Type 0) (xs : List A) (i : ℕ) (x : A) → slice_get xs i ≡ Some x → AllByRecursion P xs → P x
all_at P [] i x e h = cc
all_at P (y ∷ ys) zero x e h = let same : y ≡ x = cc in subst P same h.0
all_at P (y ∷ ys) (suc i) x e h = all_at P ys i x e h.1

-- ---- one exchange

settled_given : (o : Options) (v : Server) (late : Bool) (x : Exchange) (g : Option Heard) → x.given ≡ g → is_some g ≡ true → settled_one o v (λ _. late) x g ≡ x
settled_given o v late x None e h = cc
settled_given o v late x (Some g) e h = refl

settled_none : (o : Options) (v : Server) (late : Bool) (x : Exchange) (g : Option Heard) → x.given ≡ g → g ≡ None → settled_one o v (λ _. late) x g ≡ record x { given = option_map (heard_at v x.asked) (reply_now o v late x.asked x.role) }
settled_none o v late x None e h = refl
settled_none o v late x (Some g) e h = cc

with_given : (x : Exchange) (g : Option Heard) → x.given ≡ g → record x { given = g } ≡ x
with_given x g e = ap (λ (g : Option Heard). record x { given = g }) (sym e)

-- what it has then, where it had no reply
abbrev pub heard_now : Options → Server → Bool → Option Refusal → ℕ → Exchange → Option Heard
heard_now o v late r p x = option_map (heard_at v x.asked) (reply_at o v late r p x.asked x.role)

refused_settled : (o : Options) (v : Server) (late b : Bool) (code : Rattle.http_edge.specs.declared.error_code.ErrorCode.ErrorCode) (x : Exchange) → x.given ≡ None
    → settle o v late (if b then refused_at v code x else x) ≡ record x { given = option_map (heard_at v x.asked) (if b then Some (refused_with code) else reply_now o v late x.asked x.role) }
refused_settled o v late true code x none = ap (λ (g : Option Heard). settled_one o v (λ _. late) (record x { given = option_or g (Some (heard_at v x.asked (refused_with code))) }) (option_or g (Some (heard_at v x.asked (refused_with code))))) none
refused_settled o v late false code x none = settled_none o v late x x.given refl none

pub answered_open : (o : Options) (v : Server) (late : Bool) (r : Option Refusal) (p : ℕ) (x : Exchange) → x.given ≡ None → answered_in o v late r p x ≡ record x { given = heard_now o v late r p x }
answered_open o v late None p x none = settled_none o v late x x.given refl none
answered_open o v late (Some r) p x none = refused_settled o v late (r.index == p) r.code x none

refused_given : (v : Server) (code : Rattle.http_edge.specs.declared.error_code.ErrorCode.ErrorCode) (x : Exchange) (g : Heard) → x.given ≡ Some g → refused_at v code x ≡ x
refused_given v code x g e = ap (λ (h : Option Heard). record x { given = option_or h (Some (heard_at v x.asked (refused_with code))) }) e ∙ with_given x (Some g) e

refused_if : (v : Server) (code : Rattle.http_edge.specs.declared.error_code.ErrorCode.ErrorCode) (b : Bool) (x : Exchange) (g : Heard) → x.given ≡ Some g → (if b then refused_at v code x else x) ≡ x
refused_if v code true x g e = refused_given v code x g e
refused_if v code false x g e = refl

refused_stays : (v : Server) (r : Option Refusal) (p : ℕ) (x : Exchange) (g : Heard) → x.given ≡ Some g → refused_in v r p x ≡ x
refused_stays v None p x g e = refl
refused_stays v (Some r) p x g e = refused_if v r.code (r.index == p) x g e

-- one that has a reply stays
pub answered_given : (o : Options) (v : Server) (late : Bool) (r : Option Refusal) (p : ℕ) (x : Exchange) (g : Heard) → x.given ≡ Some g → answered_in o v late r p x ≡ x
answered_given o v late r p x g e = ap (settle o v late) (refused_stays v r p x g e) ∙ settled_given o v late x x.given refl (ap is_some e)

-- one that gets none stays
pub answered_none : (o : Options) (v : Server) (late : Bool) (r : Option Refusal) (p : ℕ) (x : Exchange) → x.given ≡ None → reply_at o v late r p x.asked x.role ≡ None → answered_in o v late r p x ≡ x
answered_none o v late r p x none e = answered_open o v late r p x none ∙ ap (λ (w : Option Written). record x { given = option_map (heard_at v x.asked) w }) e ∙ with_given x None none

-- ---- what is put out

pub text_stays : (i : ℕ) (x y : Exchange) → y.given ≡ x.given → text_now i x y ≡ []
text_stays i x y e = pick y.outside x.given y.given e
  where
    pick : (b : Bool) (g h : Option Heard) → h ≡ g → text_if i b y.close g h ≡ []
    pick false g h e = refl
    pick true (Some g) h e = refl
    pick true None None e = refl
    pick true None (Some h) e = cc

-- ---- the exchange in a place

any_given : (g : Option Heard) {P : Type 0} → is_some g ≡ true → ((h : Heard) → g ≡ Some h → P) → P
any_given None e go = cc
any_given (Some h) e go = go h refl

there : {P : Type 0} (e : Kept) (a : Option Kept) (b : Option Exchange) → a ≡ Some e → StandsThere a b → ((x : Exchange) → b ≡ Some x → StandsFor e x → P) → P
there e None b is h go = cc
there e (Some d) None is h go = absurd h
there e (Some d) (Some x) is h go = let same : d ≡ e = cc in go x refl (subst (λ z. StandsFor z x) same h)

nowhere : (a : Option Kept) (b : Option Exchange) → a ≡ None → StandsThere a b → b ≡ None
nowhere None None is h = refl
nowhere None (Some x) is h = absurd h
nowhere (Some e) b is h = cc

given_same : (g : Option Reply) (asked : Asked) (h : Option Heard) → AreGiven g asked h → is_some h ≡ is_some g
given_same None asked None h = refl
given_same None asked (Some k) h = absurd h
given_same (Some r) asked None h = absurd h
given_same (Some r) asked (Some k) h = refl

role_stays : (o : Options) (v : Server) (late : Bool) (x : Exchange) (g : Option Heard) → (settled_one o v (λ _. late) x g).role ≡ x.role
role_stays o v late x None = refl
role_stays o v late x (Some h) = refl

refused_role : (v : Server) (r : Option Refusal) (p : ℕ) (x : Exchange) → (refused_in v r p x).role ≡ x.role
refused_role v None p x = refl
refused_role v (Some r) p x = pick (r.index == p)
  where
    pick : (b : Bool) → (if b then refused_at v r.code x else x).role ≡ x.role
    pick true = refl
    pick false = refl

pub answered_role : (o : Options) (v : Server) (late : Bool) (r : Option Refusal) (p : ℕ) (x : Exchange) → (answered_in o v late r p x).role ≡ x.role
answered_role o v late r p x = role_stays o v late (refused_in v r p x) (refused_in v r p x).given ∙ refused_role v r p x

module _ (o : Options) (s : Situation) (xs : List Exchange) (v : KeptServer) (r : Option Refusal) (t : Exchanges) (before : List Out) (place : ℕ) (late : Bool) (h : Halfway o s xs v t) where
  abbrev f : ℕ → Exchange → Exchange
  f = answered_in o s.server late r

  -- nothing happens where the exchange stays
  pub nothing : change_at (f place) xs place ≡ xs → text_at f place (slice_get xs place) ≡ [] → Answered o s (change_at (f place) xs place) v t before before (text_at f place (slice_get xs place))
  nothing same none = subst (λ ys. Answered o s ys v t before before (text_at f place (slice_get xs place))) (sym same)
      (record { halfway = h; outs = sym (append-nil before) ∙ ap (λ ts. before ++ ts) (sym none) })

  pub past : slice_get xs place ≡ None → Answered o s (change_at (f place) xs place) v t before before (text_at f place (slice_get xs place))
  past at = nothing (change_none (f place) xs place at) (ap (text_at f place) at)

  pub stays : (x : Exchange) → slice_get xs place ≡ Some x → f place x ≡ x → Answered o s (change_at (f place) xs place) v t before before (text_at f place (slice_get xs place))
  stays x at same = nothing (change_not (f place) xs place x at same) (ap (text_at f place) at ∙ text_stays place x (f place x) (ap (λ (y : Exchange). y.given) same))

-- ---- one that is there

pub none_there : (b : Option Exchange) → StandsThere None b → b ≡ None
none_there None h = refl
none_there (Some x) h = absurd h

pub one_there : {P : Type 0} (e : Kept) (b : Option Exchange) → StandsThere (Some e) b → ((x : Exchange) → b ≡ Some x → StandsFor e x → P) → P
one_there e None h go = absurd h
one_there e (Some x) h go = go x refl h

pub given_there : {P : Type 0} (e : Kept) (x : Exchange) → StandsFor e x → is_some e.given ≡ true → ((g : Heard) → x.given ≡ Some g → P) → P
given_there e x st some go = any_given x.given (given_same e.given x.asked x.given st.given ∙ some) go

none_if : (g : Option Heard) → is_some g ≡ false → g ≡ None
none_if None h = refl
none_if (Some g) h = cc

pub open_there : (e : Kept) (x : Exchange) → StandsFor e x → is_some e.given ≡ false → x.given ≡ None
open_there e x st none = none_if x.given (given_same e.given x.asked x.given st.given ∙ none)

pub no_reply : (w : Option Written) → reply_in w ≡ None → w ≡ None
no_reply None e = refl
no_reply (Some w) e = cc

pub some_reply : {P : Type 0} (w : Option Written) (reply : Reply) → reply_in w ≡ Some reply → ((x : Written) → w ≡ Some x → x.reply ≡ reply → P) → P
some_reply None reply e go = cc
some_reply (Some x) reply e go = let same : x.reply ≡ reply = cc in go x refl same

-- what an exchange that stands for another gets is what the other gets
pub same_reply : (o : Options) (v : Server) (late : Bool) (r : Option Refusal) (p : ℕ) (e : Kept) (x : Exchange) → StandsFor e x → reply_at o v late r p (asked_of e.asked) (role_of e.role) ≡ reply_at o v late r p x.asked x.role
same_reply o v late r p e x st = ap (λ a. reply_at o v late r p a (role_of e.role)) st.asked ∙ ap (reply_at o v late r p x.asked) st.role

pub role_there : (v : Server) (xs : List Exchange) (i : ℕ) (e : Kept) (x : Exchange) → StandsFor e x → slice_get xs i ≡ Some x → AreGivenNumbers v xs → WasGiven v (role_of e.role)
role_there v xs i e x st at roles = subst (WasGiven v) (sym st.role) (all_at (λ (y : Exchange). WasGiven v y.role) xs i x at roles)

-- ---- replies have texts

text_if_refused : (have : RepliesHaveTexts) (o : Options) (s : Situation) (late : Bool) (code : Rattle.http_edge.specs.declared.error_code.ErrorCode.ErrorCode) (asked : Asked) (role : Role) (w : Written) (b : Bool) → IsStart o → IsReached o s → (if b then Some (refused_with code) else reply_now o s.server late asked role) ≡ Some w → HasText w.reply
text_if_refused have o s late code asked role w true start reached e = let same : refused_with code ≡ w = cc in subst (λ (x : Written). HasText x.reply) same (have o s false (Refuses code) Reads (refused_with code) start reached refl)
text_if_refused have o s late code asked role w false start reached e = have o s late asked role w start reached e

pub has_text_at : (have : RepliesHaveTexts) (o : Options) (s : Situation) (late : Bool) (r : Option Refusal) (p : ℕ) (asked : Asked) (role : Role) (w : Written) → IsStart o → IsReached o s → reply_at o s.server late r p asked role ≡ Some w → HasText w.reply
has_text_at have o s late None p asked role w start reached e = have o s late asked role w start reached e
has_text_at have o s late (Some r) p asked role w start reached e = text_if_refused have o s late r.code asked role w (r.index == p) start reached e

-- ---- one that is given its reply

text_same : (i : ℕ) (b close : Bool) (h : Heard) → text_if i b close None (Some h) ≡ text_of i b close h.given.reply
text_same i false close h = refl
text_same i true close h = refl

pub text_alike : (i : ℕ) (e : Kept) (x : Exchange) (reply other : Reply) → StandsFor e x → other ≡ reply → text_of i e.outside e.close reply ≡ text_of i x.outside x.close other
text_alike i e x reply other st same = ap (λ b. text_of i b e.close reply) st.outside ∙ ap (λ b. text_of i x.outside b reply) st.close ∙ ap (text_of i x.outside x.close) (sym same)

pub hears : (v : Server) (w : Written) (reply : Reply) → w.reply ≡ reply → HearsAs (λ (y : Exchange). heard_at v y.asked w) reply
hears v w reply e y = record { reply_is = e; asked_is = refl }

module _ (o : Options) (s : Situation) (xs : List Exchange) (v : KeptServer) (r : Option Refusal) (t : Exchanges) (before : List Out) (place : ℕ) (late : Bool) (h : Halfway o s xs v t) where
  abbrev g : ℕ → Exchange → Exchange
  g = answered_in o s.server late r

  given_as : (x : Exchange) (w : Written) → x.given ≡ None → reply_at o s.server late r place x.asked x.role ≡ Some w → g place x ≡ record x { given = Some (heard_at s.server x.asked w) }
  given_as x w none e = answered_open o s.server late r place x none ∙ ap (λ (a : Option Written). record x { given = option_map (heard_at s.server x.asked) a }) e

  pub gives : (x : Exchange) (w : Written) (t' : Exchanges) (now : List Out) → slice_get xs place ≡ Some x → x.given ≡ None → reply_at o s.server late r place x.asked x.role ≡ Some w
      → exchanges.Stands t' (change_at (given_to (λ (y : Exchange). heard_at s.server y.asked w)) xs place) → now ≡ before ++ text_of place x.outside x.close w.reply
      → Answered o s (change_at (g place) xs place) v t' before now (text_at g place (slice_get xs place))
  gives x w t' now at none e stands is =
      let as_ = given_as x w none e in
      let to : given_to (λ (y : Exchange). heard_at s.server y.asked w) x ≡ record x { given = Some (heard_at s.server x.asked w) } = ap (λ (a : Option Heard). record x { given = option_or a (Some (heard_at s.server x.asked w)) }) none in
      let same = change_same (given_to (λ (y : Exchange). heard_at s.server y.asked w)) (g place) xs place x at (to ∙ sym as_) in
      let text : text_at g place (slice_get xs place) ≡ text_of place x.outside x.close w.reply
      = ap (text_at g place) at ∙ ap (λ (y : Exchange). text_now place x y) as_ ∙ ap (λ (a : Option Heard). text_if place x.outside x.close a (Some (heard_at s.server x.asked w))) none ∙ text_same place x.outside x.close (heard_at s.server x.asked w) in
      record {
        halfway = record {
          start = h.start;
          reached = h.reached;
          server = h.server;
          exchanges = subst (λ (ys : List Exchange). exchanges.Stands t' ys) same stands;
          roles = all_changed (λ (y : Exchange). WasGiven s.server y.role) (g place) xs place (λ y is. subst (WasGiven s.server) (sym (answered_role o s.server late r place y)) is) h.roles;
        };
        outs = is ∙ ap (λ ts. before ++ ts) (sym text);
      }

-- ---- one after the other

-- some were answered, and what is left gives what all would
pub record GoneOn (o : Options) (s : Situation) (xs : List Exchange) (v : KeptServer) (r : Option Refusal) (late : Bool) (places rest : List ℕ) (t : Exchanges) (before now : List Out) : Type 0 where
  pub left : List Exchange
  pub halfway : Halfway o s left v t
  pub same : settled_at (answered_in o s.server late r) rest left ≡ settled_at (answered_in o s.server late r) places xs
  pub texts : now ++ texts_at (answered_in o s.server late r) rest left ≡ before ++ texts_at (answered_in o s.server late r) places xs

module _ (o : Options) (s : Situation) (xs : List Exchange) (v : KeptServer) (r : Option Refusal) (late : Bool) (places : List ℕ) (before : List Out) where
  pub begins : (t : Exchanges) → Halfway o s xs v t → GoneOn o s xs v r late places places t before before
  begins t h = record { left = xs; halfway = h; same = refl; texts = refl }

  pub goes_on : (p : ℕ) (rest : List ℕ) (t t' : Exchanges) (now now' : List Out) → GoneOn o s xs v r late places (p ∷ rest) t before now
      → ((ys : List Exchange) → Halfway o s ys v t → Answered o s (change_at (answered_in o s.server late r p) ys p) v t' now now' (text_at (answered_in o s.server late r) p (slice_get ys p)))
      → GoneOn o s xs v r late places rest t' before now'
  goes_on p rest t t' now now' gone one =
      let a = one gone.left gone.halfway in
      let f = answered_in o s.server late r in record {
        left = change_at (f p) gone.left p;
        halfway = a.halfway;
        same = gone.same;
        texts = ap (λ ts. ts ++ texts_at f rest (change_at (f p) gone.left p)) a.outs ∙ append_assoc now (text_at f p (slice_get gone.left p)) (texts_at f rest (change_at (f p) gone.left p)) ∙ gone.texts;
      }

  pub ends : (t : Exchanges) (now : List Out) → GoneOn o s xs v r late places [] t before now → Answered o s (settled_at (answered_in o s.server late r) places xs) v t before now (texts_at (answered_in o s.server late r) places xs)
  ends t now gone = record { halfway = subst (λ (ys : List Exchange). Halfway o s ys v t) gone.same gone.halfway; outs = sym (append-nil now) ∙ gone.texts }
