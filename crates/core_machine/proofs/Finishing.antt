-- What stands once the exchanges were answered: the next situation, and what is put out.
use Rattle.std.proofs.Common.{◌≡◌, ℕ, zero, suc, ◌+◌, ◌<◌, Bool, true, false, List, [], ◌∷◌, ◌++◌, length, map, refl, sym, ap, subst, ◌∙◌, Option, None, Some, arith}
use Rattle.std.specs.Prelude.{slice_get, IsSomeAnd}
use Rattle.std.specs.Bool.{if◌then◌else◌}
use Rattle.std.specs.Option.{option_map}
use Rattle.std.specs.Ordering.{nat_cmp}
use Rattle.std.specs.List.{AllByRecursion}
use Rattle.std.specs.List.Sorted.{IsStrictlySortedBy}
use Rattle.std.proofs.lemmas.Option.{slice_get-map}
use Rattle.http_edge.specs.ReplyText.{reply_text}
use Rattle.fold_client.specs.Following.{Heard}
use Rattle.core_events.specs.declared.out.Out.{Out}
use Rattle.core_events.specs.declared.out.Out.TheVariants as outs
use Rattle.core_law.specs.Situation.{Options, Server, Exchange}
use Rattle.core_law.specs.Steps.{change_at, settled_one}
use Rattle.core_law.specs.Clients.{Gives, new_reply, given_now}
use Rattle.core_law.specs.Clients as law
use Rattle.core_exchanges.specs.Indexing.{is_among}
use Rattle.core_machine.specs.Answering.{text_if, text_now, text_at, settled_at, texts_at, texts_now}
use Rattle.core_machine.specs.Turns.{AreOuts}
use Rattle.core_machine.proofs.Answers.{text_stays}
use Rattle.core_machine.proofs.Places.{same_lists, settled_get, texts_flat, texts_over, texts_all, above_all, flat_same}

-- ---- what is put out, as the definitions have it

pub outs_both : (ys : List Exchange) (as_ bs : List law.Out) (cs ds : List Out) → AreOuts ys as_ cs → AreOuts ys bs ds → AreOuts ys (as_ ++ bs) (cs ++ ds)
outs_both ys [] bs [] ds h k = k
outs_both ys [] bs (c ∷ cs) ds h k = absurd h
outs_both ys (a ∷ as_) bs [] ds h k = absurd h
outs_both ys (a ∷ as_) bs (c ∷ cs) ds h k = (h.0, outs_both ys as_ bs cs ds h.1 k)

one_out : (ys : List Exchange) (i : ℕ) (y : Exchange) → slice_get ys i ≡ Some y → (outside : Bool) (before now : Option Heard) → AreOuts ys (new_reply i outside before now) (text_if i outside y.close before now)
one_out ys i y at false before now = tt
one_out ys i y at true (Some g) now = tt
one_out ys i y at true None None = tt
one_out ys i y at true None (Some h) = (subst (λ (x : Option Exchange). IsSomeAnd x (λ (x : Exchange). outs.Given i (reply_text h.given.reply y.close) ≡ outs.Given i (reply_text h.given.reply x.close))) (sym at) refl, tt)

plus_suc : (i j : ℕ) → i + suc j ≡ (i + 1) + j
plus_suc i j = omega arith

shifted : {A : Type 0} (all ys : List A) (y : A) (i : ℕ) → ((j : ℕ) → slice_get all (i + j) ≡ slice_get (y ∷ ys) j) → (j : ℕ) → slice_get all ((i + 1) + j) ≡ slice_get ys j
shifted all ys y i h j = ap (slice_get all) (sym (plus_suc i j)) ∙ h (suc j)

zero_plus : (j : ℕ) → 0 + j ≡ j
zero_plus j = omega arith

plus_zero : (i : ℕ) → i + 0 ≡ i
plus_zero i = omega arith

first_at : {A : Type 0} (all ys : List A) (y : A) (i : ℕ) → ((j : ℕ) → slice_get all (i + j) ≡ slice_get (y ∷ ys) j) → slice_get all i ≡ Some y
first_at all ys y i h = ap (slice_get all) (sym (plus_zero i)) ∙ h zero

outs_from : (all : List Exchange) (i : ℕ) (xs ys : List Exchange) → ((j : ℕ) → slice_get all (i + j) ≡ slice_get ys j) → AreOuts all (given_now i xs ys) (texts_now i xs ys)
outs_from all i [] [] h = tt
outs_from all i (x ∷ xs) [] h = tt
outs_from all i [] (y ∷ ys) h = outs_both all (new_reply i y.outside None y.given) (given_now (i + 1) [] ys) (text_if i y.outside y.close None y.given) (texts_now (i + 1) [] ys) (one_out all i y (first_at all ys y i h) y.outside None y.given) (outs_from all (i + 1) [] ys (shifted all ys y i h))
outs_from all i (x ∷ xs) (y ∷ ys) h = outs_both all (new_reply i y.outside x.given y.given) (given_now (i + 1) xs ys) (text_if i y.outside y.close x.given y.given) (texts_now (i + 1) xs ys) (one_out all i y (first_at all ys y i h) y.outside x.given y.given) (outs_from all (i + 1) xs ys (shifted all ys y i h))

pub all_outs : (xs ys : List Exchange) → AreOuts ys (given_now 0 xs ys) (texts_now 0 xs ys)
all_outs xs ys = outs_from ys 0 xs ys (λ j. ap (slice_get ys) (zero_plus j))

-- one more that has no reply makes no difference
pub one_more : (i : ℕ) (xs ys : List Exchange) (x : Exchange) → x.given ≡ None → texts_now i (xs ++ x ∷ []) ys ≡ texts_now i xs ys
one_more i [] [] x none = refl
one_more i (z ∷ xs) [] x none = refl
one_more i [] (y ∷ ys) x none = ap (λ (g : Option Heard). text_if i y.outside y.close g y.given ++ texts_now (i + 1) [] ys) none
one_more i (z ∷ xs) (y ∷ ys) x none = ap (λ zs. text_if i y.outside y.close z.given y.given ++ zs) (one_more (i + 1) xs ys x none)

-- ---- the texts of all places

abbrev text_of : Option Exchange → ℕ → Option Exchange → List Out
text_of None i y = []
text_of (Some x) i None = []
text_of (Some x) i (Some y) = text_now i x y

abbrev at_place : List Exchange → List Exchange → ℕ → List Out
at_place xs ys i = text_of (slice_get xs i) i (slice_get ys i)

over_from : (allx ally : List Exchange) (i : ℕ) (xs ys : List Exchange) → length xs ≡ length ys → ((j : ℕ) → slice_get allx (i + j) ≡ slice_get xs j) → ((j : ℕ) → slice_get ally (i + j) ≡ slice_get ys j) → texts_over (at_place allx ally) (length xs) i ≡ texts_now i xs ys
over_from allx ally i [] [] same h k = refl
over_from allx ally i [] (y ∷ ys) same h k = cc
over_from allx ally i (x ∷ xs) [] same h k = cc
over_from allx ally i (x ∷ xs) (y ∷ ys) same h k =
    let e : at_place allx ally i ≡ text_now i x y = ap (λ (a : Option Exchange). text_of a i (slice_get ally i)) (first_at allx xs x i h) ∙ ap (λ (b : Option Exchange). text_of (Some x) i b) (first_at ally ys y i k) in
    let same' : length xs ≡ length ys = omega (arith, same) in
    ap (λ zs. zs ++ texts_over (at_place allx ally) (length xs) (i + 1)) e ∙ ap (λ zs. text_now i x y ++ zs) (over_from allx ally (i + 1) xs ys same' (shifted allx xs x i h) (shifted ally ys y i k))

same_there : (x : Option Exchange) (i : ℕ) → text_of x i x ≡ []
same_there None i = refl
same_there (Some x) i = text_stays i x x refl

mapped_there : (f : ℕ → Exchange → Exchange) (x : Option Exchange) (i : ℕ) → text_of x i (option_map (f i) x) ≡ text_at f i x
mapped_there f None i = refl
mapped_there f (Some x) i = refl

changed_length : {A : Type 0} (f : A → A) (xs : List A) (p : ℕ) → length (change_at f xs p) ≡ length xs
changed_length f [] p = refl
changed_length f (x ∷ xs) zero = refl
changed_length f (x ∷ xs) (suc p) = ap suc (changed_length f xs p)

pub settled_length : (f : ℕ → Exchange → Exchange) (places : List ℕ) (xs : List Exchange) → length (settled_at f places xs) ≡ length xs
settled_length f [] xs = refl
settled_length f (p ∷ ps) xs = settled_length f ps (change_at (f p) xs p) ∙ changed_length (f p) xs p

-- each place is inside
abbrev pub AreInside : List Exchange → List ℕ → Type 0
AreInside xs places = AllByRecursion (λ (p : ℕ). p < length xs) places

module _ (f : ℕ → Exchange → Exchange) (places : List ℕ) (xs : List Exchange) (sorted : IsStrictlySortedBy nat_cmp places) where
  abbrev ys : List Exchange
  ys = settled_at f places xs

  here : (p : ℕ) → is_among p places ≡ true → text_at f p (slice_get xs p) ≡ at_place xs ys p
  here p is = sym (ap (text_of (slice_get xs p) p) (settled_get f places xs p sorted ∙ ap (λ b. if b then option_map (f p) (slice_get xs p) else slice_get xs p) is) ∙ mapped_there f (slice_get xs p) p)

  apart : (p : ℕ) → is_among p places ≡ false → at_place xs ys p ≡ []
  apart p is = ap (text_of (slice_get xs p) p) (settled_get f places xs p sorted ∙ ap (λ b. if b then option_map (f p) (slice_get xs p) else slice_get xs p) is) ∙ same_there (slice_get xs p) p

  all_here : (ps : List ℕ) → AllByRecursion (λ (p : ℕ). is_among p places ≡ true) ps → AllByRecursion (λ (p : ℕ). text_at f p (slice_get xs p) ≡ at_place xs ys p) ps
  all_here [] h = tt
  all_here (p ∷ ps) h = (here p h.0, all_here ps h.1)

  pub texts_are : AllByRecursion (λ (p : ℕ). is_among p places ≡ true) places → AreInside xs places → texts_at f places xs ≡ texts_now 0 xs ys
  texts_are among inside = texts_flat f places xs sorted
      ∙ flat_same f (λ p. text_at f p (slice_get xs p)) (at_place xs ys) places (all_here places among)
      ∙ texts_all (at_place xs ys) (length xs) 0 places (above_all places sorted) (subst (λ n. AllByRecursion (λ (p : ℕ). p < n) places) (sym (zero_plus (length xs))) inside) (λ q le none. apart q none)
      ∙ over_from xs ys 0 xs ys (sym (settled_length f places xs)) (λ j. ap (slice_get xs) (zero_plus j)) (λ j. ap (slice_get ys) (zero_plus j))

-- ---- the exchanges

-- Where each exchange is answered as it is in its place, all are as the definitions settle them.
pub settled_is : (o : Options) (v : Server) (late : Exchange → Bool) (f : ℕ → Exchange → Exchange) (places : List ℕ) (xs ts : List Exchange) → IsStrictlySortedBy nat_cmp places
    → ((q : ℕ) → option_map (λ (x : Exchange). settled_one o v late x x.given) (slice_get ts q) ≡ (if is_among q places then option_map (f q) (slice_get xs q) else slice_get xs q))
    → map (λ (x : Exchange). settled_one o v late x x.given) ts ≡ settled_at f places xs
settled_is o v late f places xs ts sorted agree = same_lists (map (λ (x : Exchange). settled_one o v late x x.given) ts) (settled_at f places xs)
    (λ q. slice_get-map (λ (x : Exchange). settled_one o v late x x.given) ts q ∙ agree q ∙ sym (settled_get f places xs q sorted))
