-- What becomes of the places of those without a reply.
use Rattle.std.specs.Prelude.{slice_get, ◌&&◌, is_none, is_some, Result, Ok, Err, IfOk, OnOk, OnErr}
use Rattle.std.proofs.lemmas.Bool.Decides.{Decides-eqb}
use Rattle.std.proofs.Common.{◌≡◌, Bool, true, false, cond, ◌==◌, ℕ, List, [], ◌∷◌, ◌++◌, length, refl, sym, ap, ◌∙◌, subst, Option, None, Some, arith}
use Rattle.shape_base.specs.declared.reply.Reply.{Reply}
use Rattle.http_edge.specs.Lawful as lawful
use Rattle.fold_client.specs.Following.{Heard}
use Rattle.core_law.specs.Situation as law
use Rattle.core_law.specs.Waiting.{awaited}
use Rattle.core_law.specs.Steps.{change_at}
use Rattle.core_exchanges.specs.declared.exchange.Exchange.{Exchange}
use Rattle.core_exchanges.specs.declared.indexes.Indexes.{Indexes}
use Rattle.core_exchanges.specs.Indexing.{is_number, is_open_in, awaits_in, Marks, Spares}
use Rattle.core_exchanges.specs.Standing.{asked_of, role_of, AreGiven, StandsFor, EachStands, StandsThere, is_open, awaits, is_there, passes_at}
use Rattle.core_exchanges.specs.Giving.{given_to}
use Rattle.core_exchanges.proofs.Standings.{stands_there, passes_past, passes_push, passes_changed, given_is_closed, given_awaits_nothing}

-- the places are those of a list
pub record Finds (t : Indexes) (xs : List law.Exchange) : Type 0 where
  pub unanswered : (p : ℕ) → is_open_in t p ≡ passes_at is_open xs p
  pub awaiting : (n p : ℕ) → awaits_in t n p ≡ passes_at (awaits n) xs p

-- ---- one that stands for another

pub same_given : (g : Option Reply) (a : lawful.Asked) (o : Option Heard) → AreGiven g a o → is_none o ≡ is_none g
same_given None a None h = refl
same_given None a (Some k) h = absurd h
same_given (Some r) a None h = absurd h
same_given (Some r) a (Some k) h = refl

pub same_awaited : (e : Exchange) (x : law.Exchange) → StandsFor e x → awaited (asked_of e.asked) (role_of e.role) ≡ awaited x.asked x.role
same_awaited e x h = ap (λ a. awaited a (role_of e.role)) h.asked ∙ ap (awaited x.asked) h.role

-- ---- cases

clears : (b m old : Bool) → (b ≡ true → m ≡ false → old ≡ false) → cond (m && b) false old ≡ cond b false old
clears true true old h = refl
clears true false old h = h refl refl
clears false true old h = refl
clears false false old h = refl

sets : (b m old : Bool) → (b ≡ true → old ≡ false) → cond (m && b) true old ≡ cond b m old
sets true true old h = refl
sets true false old h = h refl
sets false true old h = refl
sets false false old h = refl

stays : (b old : Bool) → (b ≡ true → old ≡ false) → old ≡ cond b false old
stays true old h = h refl
stays false old h = refl

undone : (b m old : Bool) → (b ≡ true → old ≡ false) → cond (m && b) false (cond (m && b) true old) ≡ old
undone true true old h = sym (h refl)
undone true false old h = refl
undone false true old h = refl
undone false false old h = refl

undone_one : (b old : Bool) → (b ≡ true → old ≡ false) → cond b false (cond b true old) ≡ old
undone_one true old h = sym (h refl)
undone_one false old h = refl

and_false : (a b : Bool) → b ≡ false → (a && b) ≡ false
and_false true b h = h
and_false false b h = refl

-- nothing stands at the end of a list
at_end : (test : law.Exchange → Bool) (xs : List law.Exchange) (i p : ℕ) → i ≡ length xs → (i == p) ≡ true → passes_at test xs p ≡ false
at_end test xs i p is same = let e = (Decides-eqb i p).0 same in passes_past test xs p (omega arith)

-- ---- one that is given a reply

lost : (n : ℕ) (number : Option ℕ) (e : Exchange) (o : Option law.Exchange) → StandsThere (Some e) o → number ≡ awaited (asked_of e.asked) (role_of e.role) → is_number n number ≡ false → is_there (awaits n) o ≡ false
lost n number e None h is none = absurd h
lost n number e (Some x) h is none = and_false (is_open x) (is_number n (awaited x.asked x.role)) (subst (λ m. is_number n m ≡ false) (is ∙ same_awaited e x h) none)

pub given_finds : (old new : Indexes) (heard : law.Exchange → Heard) (es : List Exchange) (xs : List law.Exchange) (i : ℕ) (e : Exchange) (number : Option ℕ) → EachStands es xs → Finds old xs → slice_get es i ≡ Some e
    → number ≡ awaited (asked_of e.asked) (role_of e.role) → Marks old new number i false → Finds new (change_at (given_to heard) xs i)
given_finds old new heard es xs i e number each finds at is marks =
    let there : StandsThere (Some e) (slice_get xs i) = subst (λ (o : Option Exchange). StandsThere o (slice_get xs i)) at (stands_there es xs i each) in
    record {
      unanswered = λ p. marks.unanswered p ∙ ap (cond (i == p) false) (finds.unanswered p) ∙ sym (passes_changed is_open (given_to heard) (given_is_closed heard) xs i p);
      awaiting = λ n p. marks.awaits n p ∙ ap (cond (is_number n number && (i == p)) false) (finds.awaiting n p)
          ∙ clears (i == p) (is_number n number) (passes_at (awaits n) xs p) (λ same none. subst (λ q. passes_at (awaits n) xs q ≡ false) ((Decides-eqb i p).0 same) (lost n number e (slice_get xs i) there is none))
          ∙ sym (passes_changed (awaits n) (given_to heard) (given_awaits_nothing heard n) xs i p);
    }

-- ---- one more

pub pushed_finds : (old new : Indexes) (xs : List law.Exchange) (x : law.Exchange) (i : ℕ) (number : Option ℕ) → Finds old xs → i ≡ length xs → is_open x ≡ true → number ≡ awaited x.asked x.role → Marks old new number i true → Finds new (xs ++ x ∷ [])
pushed_finds old new xs x i number finds is free same marks = record {
  unanswered = λ p. marks.unanswered p ∙ ap (cond (i == p) true) (finds.unanswered p) ∙ ap (λ b. cond (i == p) b (passes_at is_open xs p)) (sym free) ∙ ap (λ k. cond (k == p) (is_open x) (passes_at is_open xs p)) is ∙ sym (passes_push is_open xs x p);
  awaiting = λ n p. marks.awaits n p ∙ ap (cond (is_number n number && (i == p)) true) (finds.awaiting n p) ∙ sets (i == p) (is_number n number) (passes_at (awaits n) xs p) (at_end (awaits n) xs i p is)
      ∙ ap (λ m. cond (i == p) (is_number n m) (passes_at (awaits n) xs p)) same ∙ ap (λ b. cond (i == p) (b && is_number n (awaited x.asked x.role)) (passes_at (awaits n) xs p)) (sym free)
      ∙ ap (λ k. cond (k == p) (awaits n x) (passes_at (awaits n) xs p)) is ∙ sym (passes_push (awaits n) xs x p);
}

closed_awaits : (n : ℕ) (x : law.Exchange) → is_open x ≡ false → awaits n x ≡ false
closed_awaits n x h = ap (λ b. b && is_number n (awaited x.asked x.role)) h

stays_pushed : (test : law.Exchange → Bool) (xs : List law.Exchange) (x : law.Exchange) (p : ℕ) → test x ≡ false → passes_at test xs p ≡ passes_at test (xs ++ x ∷ []) p
stays_pushed test xs x p none = stays (length xs == p) (passes_at test xs p) (at_end test xs (length xs) p refl) ∙ ap (λ b. cond (length xs == p) b (passes_at test xs p)) (sym none) ∙ sym (passes_push test xs x p)

pub answered_finds : (t : Indexes) (xs : List law.Exchange) (x : law.Exchange) → Finds t xs → is_open x ≡ false → Finds t (xs ++ x ∷ [])
answered_finds t xs x finds none = record {
  unanswered = λ p. finds.unanswered p ∙ stays_pushed is_open xs x p none;
  awaiting = λ n p. finds.awaiting n p ∙ stays_pushed (awaits n) xs x p (closed_awaits n x none);
}

-- one more, and out again
pub undone_finds : (old mid new : Indexes) (xs : List law.Exchange) (i : ℕ) (number : Option ℕ) → Finds old xs → i ≡ length xs → Marks old mid number i true → Marks mid new number i false → Finds new xs
undone_finds old mid new xs i number finds is on off = record {
  unanswered = λ p. off.unanswered p ∙ ap (cond (i == p) false) (on.unanswered p ∙ ap (cond (i == p) true) (finds.unanswered p)) ∙ undone_one (i == p) (passes_at is_open xs p) (at_end is_open xs i p is);
  awaiting = λ n p. off.awaits n p ∙ ap (cond (is_number n number && (i == p)) false) (on.awaits n p ∙ ap (cond (is_number n number && (i == p)) true) (finds.awaiting n p))
      ∙ undone (i == p) (is_number n number) (passes_at (awaits n) xs p) (at_end (awaits n) xs i p is);
}

-- nothing changed
pub spared_finds : (old new : Indexes) (xs : List law.Exchange) (i : ℕ) → Finds old xs → i ≡ length xs → (is_open_in old i ≡ false → Spares old new) → Finds new xs
spared_finds old new xs i finds is spares =
    let s = spares (finds.unanswered i ∙ passes_past is_open xs i (omega arith)) in
    record {
      unanswered = λ p. s.unanswered p ∙ finds.unanswered p;
      awaiting = λ n p. s.awaits n p ∙ finds.awaiting n p;
    }

pub at_error : {A E : Type 0} (r : Result A E) (P : Type 0) → P → OnErr r P
at_error (Ok x) P h = tt
at_error (Err e) P h = h

some_is_not_none : (o : Option Reply) → is_some o ≡ true → is_none o ≡ false
some_is_not_none None h = absurd (grind (arith, h))
some_is_not_none (Some r) h = refl

not_some_is_none : (o : Option Reply) → is_some o ≡ false → is_none o ≡ true
not_some_is_none None h = refl
not_some_is_none (Some r) h = absurd (grind (arith, h))

pub answered_is_closed : (e : Exchange) (x : law.Exchange) → StandsFor e x → is_some e.given ≡ true → is_open x ≡ false
answered_is_closed e x h is = same_given e.given x.asked x.given h.given ∙ some_is_not_none e.given is

pub unanswered_is_open : (e : Exchange) (x : law.Exchange) → StandsFor e x → is_some e.given ≡ false → is_open x ≡ true
unanswered_is_open e x h is = same_given e.given x.asked x.given h.given ∙ not_some_is_none e.given is

pub both_ok : {A E : Type 0} (r : Result A E) (P : A → Type 0) (Q : Type 0) (R : A → Type 0) → ((a : A) → P a → Q → R a) → IfOk r P → OnOk r Q → IfOk r R
both_ok (Ok a) P Q R k p q = k a p q
both_ok (Err e) P Q R k p q = tt

pub from_err : {A E : Type 0} (r : Result A E) (P Q : Type 0) → (P → Q) → OnErr r P → OnErr r Q
from_err (Ok a) P Q k p = tt
from_err (Err e) P Q k p = k p
