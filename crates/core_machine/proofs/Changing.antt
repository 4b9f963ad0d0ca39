-- What happens to a number, or to the clock: those that it may answer are answered.
use Rattle.std.proofs.Common.{◌≡◌, ℕ, ◌<◌, Bool, true, false, ◌&&◌, ◌||◌, ◌==◌, List, [], ◌∷◌, length, refl, sym, ap, subst, ◌∙◌, Option, None, Some}
use Rattle.std.specs.Prelude.{slice_get, is_none, is_some}
use Rattle.std.specs.Option.{option_map}
use Rattle.std.specs.List.{AllByRecursion}
use Rattle.std.proofs.lemmas.Option.{slice_get_within}
use Rattle.std.proofs.lemmas.Bool.{and_parts}
use Rattle.std.proofs.lemmas.Bool.Decides.{Decides-eqb}
use Rattle.http_edge.specs.declared.error_code.ErrorCode.{ErrorCode}
use Rattle.core_law.specs.Situation.{Options, Server, Exchange, Situation}
use Rattle.core_law.specs.Steps.{change_at, reply_now}
use Rattle.core_law.specs.Clients.{never}
use Rattle.core_law.specs.Run.{Event, turn_of, next_of, is_late_at}
use Rattle.core_law.specs.Laws.{IsStart}
use Rattle.core_law.specs.Waiting.{awaited, IsAsBefore}
use Rattle.core_law.specs.Reached.{IsReached, AsksOfTable, OthersWait}
use Rattle.core_exchanges.specs.Indexing.{is_among, is_number}
use Rattle.core_exchanges.specs.Standing.{ArePlaces, is_open, awaits, is_there, passes_at}
use Rattle.core_exchanges.specs.Giving.{is_late}
use Rattle.core_machine.specs.declared.answering.Refusal.{Refusal}
use Rattle.core_machine.specs.Replying.{refused_in, answered_in, refusal_of}
use Rattle.core_machine.specs.Awaiting.{is_one_of, awaits_any}
use Rattle.core_machine.proofs.Finishing.{AreInside}
use Rattle.core_machine.proofs.Places.{changed_here, changed_apart}
use Rattle.core_machine.proofs.Agreeing.{Agrees, agree}
use Rattle.core_machine.proofs.Requests.{refused_as, refused_here, refused_apart, map_same, same_or_not}
use Rattle.core_machine.specs.Standing.{AreOfTables}
use Rattle.core_machine.proofs.Answers.{all_at}
use Rattle.core_machine.proofs.Turning.{Settling}

-- ---- places of a test

or_second : (a b : Bool) → b ≡ true → (a || b) ≡ true
or_second true b e = refl
or_second false b e = e

among_more : (ps qs : List ℕ) → ((p : ℕ) → is_among p ps ≡ true → is_among p qs ≡ true) → AllByRecursion (λ (p : ℕ). is_among p qs ≡ true) ps
among_more [] qs h = tt
among_more (p ∷ ps) qs h = (h p (ap (λ b. b || is_among p ps) ((Decides-eqb p p).1 refl)), among_more ps qs (λ q e. h q (or_second (p == q) (is_among q ps) e)))

pub all_among : (places : List ℕ) → AllByRecursion (λ (p : ℕ). is_among p places ≡ true) places
all_among places = among_more places places (λ p e. e)

there_within : (test : Exchange → Bool) (xs : List Exchange) (p : ℕ) (a : Option Exchange) → slice_get xs p ≡ a → is_there test a ≡ true → p < length xs
there_within test xs p None at e = cc
there_within test xs p (Some x) at e = slice_get_within xs p x at

all_inside : (test : Exchange → Bool) (xs : List Exchange) (ps : List ℕ) → AllByRecursion (λ (p : ℕ). passes_at test xs p ≡ true) ps → AreInside xs ps
all_inside test xs [] h = tt
all_inside test xs (p ∷ ps) h = (there_within test xs p (slice_get xs p) refl h.0, all_inside test xs ps h.1)

all_pass : (test : Exchange → Bool) (xs : List Exchange) (places ps : List ℕ) → ((p : ℕ) → is_among p places ≡ passes_at test xs p) → AllByRecursion (λ (p : ℕ). is_among p places ≡ true) ps → AllByRecursion (λ (p : ℕ). passes_at test xs p ≡ true) ps
all_pass test xs places [] exact h = tt
all_pass test xs places (p ∷ ps) exact h = (sym (exact p) ∙ h.0, all_pass test xs places ps exact h.1)

pub places_inside : (test : Exchange → Bool) (xs : List Exchange) (places : List ℕ) → ArePlaces test xs places → AreInside xs places
places_inside test xs places are = all_inside test xs places (all_pass test xs places places are.exact (all_among places))

pub tested : (test : Exchange → Bool) (xs : List Exchange) (places : List ℕ) (b : Bool) → ArePlaces test xs places → (q : ℕ) (x : Exchange) → slice_get xs q ≡ Some x → is_among q places ≡ b → test x ≡ b
tested test xs places b are q x at e = sym (ap (is_there test) at) ∙ sym (are.exact q) ∙ e

or_nothing : (a : Bool) → (a || false) ≡ a
or_nothing true = refl
or_nothing false = refl

both : (b : Bool) → b ≡ true → b ≡ false → ⊥
both true e h = cc
both false e h = cc

pub equal_swap : (n m : ℕ) → (n == m) ≡ (m == n)
equal_swap n m = pick (n == m) (m == n) refl refl
  where
    pick : (a b : Bool) → (n == m) ≡ a → (m == n) ≡ b → (n == m) ≡ (m == n)
    pick true b e f = e ∙ sym ((Decides-eqb m n).1 (sym ((Decides-eqb n m).0 e)))
    pick false true e f = absurd (both (n == m) ((Decides-eqb n m).1 (sym ((Decides-eqb m n).0 f))) e)
    pick false false e f = e ∙ sym f

and_first : (a b : Bool) → a ≡ true → (a && b) ≡ false → b ≡ false
and_first true b e h = h
and_first false b e h = cc

-- ---- something happens to some numbers

module _ (wait : OthersWait) (o : Options) (s t : Situation) (e : Event) (ns : List ℕ) (i : ℕ) (code : Option ErrorCode) (places : List ℕ) (start : IsStart o) (reached : IsReached o s) (tables : AreOfTables o s.exchanges) (server : (next_of s (turn_of o s e)).server ≡ t.server)
    (exchanges : t.exchanges ≡ change_at (refused_as t.server code) s.exchanges i) (are : ArePlaces (awaits_any ns) s.exchanges places)
    (owner : is_some code ≡ true → (x : Exchange) → slice_get s.exchanges i ≡ Some x → is_one_of ns (awaited x.asked x.role) ≡ true)
    (quiet : (m : ℕ) → is_among m ns ≡ false → IsAsBefore s.server t.server m) where
  abbrev r : Option Refusal
  r = refusal_of i code

  base : (q : ℕ) → slice_get t.exchanges q ≡ option_map (refused_in t.server r q) (slice_get s.exchanges q)
  base q = ap (λ (ys : List Exchange). slice_get ys q) exchanges ∙ same_or_not i q
      (λ same. subst (λ k. slice_get (change_at (refused_as t.server code) s.exchanges i) k ≡ option_map (refused_in t.server r k) (slice_get s.exchanges k)) same
      (changed_here (refused_as t.server code) s.exchanges i ∙ mapped (slice_get s.exchanges i)))
      (λ other. changed_apart (refused_as t.server code) s.exchanges i q other ∙ sym (map_same (refused_in t.server r q) (slice_get s.exchanges q) (λ y. refused_apart t.server code i q y other)))
    where
      mapped : (a : Option Exchange) → option_map (refused_as t.server code) a ≡ option_map (refused_in t.server r i) a
      mapped None = refl
      mapped (Some x) = ap (λ (y : Exchange). Some y) (sym (refused_here t.server code i x))

  awaits_not : (q : ℕ) (x : Exchange) → slice_get s.exchanges q ≡ Some x → is_among q places ≡ false → x.given ≡ None → is_one_of ns (awaited x.asked x.role) ≡ false
  awaits_not q x at out none = and_first (is_open x) (is_one_of ns (awaited x.asked x.role)) (ap is_none none) (tested (awaits_any ns) s.exchanges places false are q x at out)

  unrefused : (q : ℕ) (x : Exchange) (c : Option ErrorCode) → code ≡ c → slice_get s.exchanges q ≡ Some x → is_among q places ≡ false → x.given ≡ None → refused_in t.server (refusal_of i c) q x ≡ x
  unrefused q x None is at out none = refl
  unrefused q x (Some k) is at out none = same_or_not i q
      (λ same. absurd (both (is_one_of ns (awaited x.asked x.role)) (owner (ap is_some is) x (ap (slice_get s.exchanges) same ∙ at)) (awaits_not q x at out none)))
      (λ other. refused_apart t.server (Some k) i q x other)

  agrees : Agrees o t.server never false r places s.exchanges
  agrees = record {
    late_as = λ q y at among none. refl;
    refused = λ q y at out none. unrefused q y code refl at out none;
    none = λ q y at out none.
        subst (λ (v : Server). reply_now o v false y.asked y.role ≡ None) server
        (wait o s e q y start reached at none (all_at (λ (z : Exchange). AsksOfTable o z.asked) s.exchanges q y at tables) (λ m is. subst (λ (v : Server). IsAsBefore s.server v m) (sym server) (quiet m (ap (is_one_of ns) (sym is) ∙ awaits_not q y at out none))));
  }

  pub awaiting_any_settles : Settling o s t never (answered_in o t.server false r) places s.exchanges
  awaiting_any_settles = record {
    sorted = are.rising;
    among = all_among places;
    inside = places_inside (awaits_any ns) s.exchanges places are;
    agree = agree o t.server never false r places s.exchanges agrees t.exchanges base;
    before = refl;
  }

-- ---- something happens to a number

one_number : (n : ℕ) (a : Option ℕ) → is_one_of (n ∷ []) a ≡ is_number n a
one_number n None = refl
one_number n (Some m) = or_nothing (n == m) ∙ equal_swap n m

one_test : (n : ℕ) (x : Exchange) → awaits_any (n ∷ []) x ≡ awaits n x
one_test n x = ap (λ b. is_open x && b) (one_number n (awaited x.asked x.role))

-- the places of those that await one of a single number
pub one_place : (n : ℕ) (xs : List Exchange) (places : List ℕ) → ArePlaces (awaits n) xs places → ArePlaces (awaits_any (n ∷ [])) xs places
one_place n xs places are = record { rising = are.rising; exact = λ p. are.exact p ∙ there (slice_get xs p) }
  where
    there : (a : Option Exchange) → is_there (awaits n) a ≡ is_there (awaits_any (n ∷ [])) a
    there None = refl
    there (Some x) = sym (one_test n x)

pub awaiting_settles : (wait : OthersWait) (o : Options) (s t : Situation) (e : Event) (n i : ℕ) (code : Option ErrorCode) (places : List ℕ) → IsStart o → IsReached o s → AreOfTables o s.exchanges → (next_of s (turn_of o s e)).server ≡ t.server
    → t.exchanges ≡ change_at (refused_as t.server code) s.exchanges i → ArePlaces (awaits n) s.exchanges places → (is_some code ≡ true → (x : Exchange) → slice_get s.exchanges i ≡ Some x → awaited x.asked x.role ≡ Some n)
    → ((m : ℕ) → (n ≡ m → ⊥) → IsAsBefore s.server t.server m) → Settling o s t never (answered_in o t.server false (refusal_of i code)) places s.exchanges
awaiting_settles wait o s t e n i code places start reached tables server exchanges are owner quiet = awaiting_any_settles wait o s t e (n ∷ []) i code places start reached tables server exchanges (one_place n s.exchanges places are)
    (λ some x at. ap (is_one_of (n ∷ [])) (owner some x at) ∙ or_nothing (n == n) ∙ (Decides-eqb n n).1 refl)
    (λ m out. quiet m (λ same. both (n == m) ((Decides-eqb n m).1 same) (sym (or_nothing (n == m)) ∙ out)))

-- ---- the clock

module _ (wait : OthersWait) (o : Options) (s : Situation) (now : ℕ) (e : Event) (places : List ℕ) (start : IsStart o) (reached : IsReached o s) (tables : AreOfTables o s.exchanges) (server : (next_of s (turn_of o s e)).server ≡ s.server) (are : ArePlaces (is_late o now) s.exchanges places) where
  abbrev t : Situation
  t = record s { clock = now }

  late_there : (q : ℕ) (x : Exchange) → slice_get s.exchanges q ≡ Some x → is_among q places ≡ true → is_late_at o now x ≡ true
  late_there q x at among = (and_parts (is_open x) (is_late_at o now x) (tested (is_late o now) s.exchanges places true are q x at among)).1

  early_there : (q : ℕ) (x : Exchange) → slice_get s.exchanges q ≡ Some x → is_among q places ≡ false → x.given ≡ None → is_late_at o now x ≡ false
  early_there q x at out none = and_first (is_open x) (is_late_at o now x) (ap is_none none) (tested (is_late o now) s.exchanges places false are q x at out)

  moment_agrees : Agrees o s.server (is_late_at o now) true None places s.exchanges
  moment_agrees = record {
    late_as = λ q y at among none. late_there q y at among;
    refused = λ q y at out none. refl;
    none = λ q y at out none. ap (λ b. reply_now o s.server b y.asked y.role) (early_there q y at out none)
        ∙ subst (λ (v : Server). reply_now o v false y.asked y.role ≡ None) server
        (wait o s e q y start reached at none (all_at (λ (z : Exchange). AsksOfTable o z.asked) s.exchanges q y at tables) (λ m is. subst (λ (v : Server). IsAsBefore s.server v m) (sym server) (record { removed = refl; ready = refl; log = refl })));
  }

  pub moment_settles : Settling o s t (is_late_at o now) (answered_in o s.server true None) places s.exchanges
  moment_settles = record {
    sorted = are.rising;
    among = all_among places;
    inside = places_inside (is_late o now) s.exchanges places are;
    agree = agree o s.server (is_late_at o now) true None places s.exchanges moment_agrees s.exchanges (λ q. sym (map_same (refused_in s.server None q) (slice_get s.exchanges q) (λ y. refl)));
    before = refl;
  }
