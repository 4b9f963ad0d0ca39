-- What the rules spell, the alternatives give.
use Rattle.std.proofs.Common.{◌≡◌, ◌^◌, ℕ, zero, suc, List, [], ◌∷◌, ◌++◌, Bool, true, false, cond, inl, inr, Option, Some, None, pos, neg_ℤ, nat_lt, refl, sym, ap, subst, ◌∙◌, append_assoc}
use Rattle.std.proofs.lemmas.List.{append-nil}
use Rattle.std.proofs.lemmas.Bool.{ltb-true, ltb-false}
use Rattle.where_lexer.specs.declared.token.CmpOp.{CmpOp}
use Rattle.where_lexer.specs.declared.token.Token.{Token}
use Rattle.where_lexer.specs.declared.token.Token.TheVariants as tokens
use Rattle.where_grammar.specs.declared.words.IsTest.{IsTest}
use Rattle.where_grammar.specs.declared.words.IsTest.TheVariants as tests
use Rattle.ll_rules.specs.Rules.{Rule, more_spells, barred, one}
use Rattle.where_grammar.specs.Tree.{Tree, NameOf, IntOf, QuotedOf, BoolOf, NullOf}
use Rattle.where_grammar.specs.Grammar.{an_open, a_close, a_comma, a_minus, an_and, an_or, a_not, an_is, a_distinct, a_from, an_in, a_between, a_like, an_op, a_test, a_pattern, a_negative, a_leaf, has, Without, plain, maybe_not, predicate, range, range_tail, cmp, cmp_tail, is, is_tail, is_right, is_over, and, or, not, not_inside, clause}
use Rattle.where_grammar.specs.Printing.{maybe, asked_for}
use Rattle.where_grammar.specs.Meaning.{IsClause}
use Rattle.where_grammar.proofs.GrammarLaws.{atom_over}
use Rattle.where_grammar.specs.Cases.{IsOr, or_of, OrAnds, no_or, more_or, IsAnd, and_of, AndNots, no_and, more_and, IsNot, not_of, IsIs, a_cmp, tested, distinct, IsCmp, a_range, compared, IsRange, an_atom, within, between, like, CommaAtoms, no_comma, more_comma, IsAtom, group, name, integer, negative, string, is_true, is_false, is_null}
use Rattle.where_grammar.specs.Cases as cases

-- which token a test finds

abbrev pub Finds : {A : Type 0} → (Token → Option A) → Token → Type 0
Finds {A = A} f w = (t : Token) (a : A) → f t ≡ Some a → t ≡ w

pub open_is : Finds an_open tokens.Open
open_is tokens.Open a e = refl
open_is t a e = cc

pub close_is : Finds a_close tokens.Close
close_is tokens.Close a e = refl
close_is t a e = cc

pub minus_is : Finds a_minus tokens.Minus
minus_is tokens.Minus a e = refl
minus_is t a e = cc

pub and_is : Finds an_and tokens.And
and_is tokens.And a e = refl
and_is t a e = cc

pub not_is : Finds a_not tokens.Not
not_is tokens.Not a e = refl
not_is t a e = cc

pub is_is : Finds an_is tokens.Is
is_is tokens.Is a e = refl
is_is t a e = cc

pub distinct_is : Finds a_distinct tokens.Distinct
distinct_is tokens.Distinct a e = refl
distinct_is t a e = cc

pub from_is : Finds a_from tokens.From
from_is tokens.From a e = refl
from_is t a e = cc

pub in_is : Finds an_in tokens.In
in_is tokens.In a e = refl
in_is t a e = cc

pub between_is : Finds a_between tokens.Between
between_is tokens.Between a e = refl
between_is t a e = cc

pub like_is : Finds a_like tokens.Like
like_is tokens.Like a e = refl
like_is t a e = cc

-- a test that passes
abbrev pub Passes : (Token → Bool) → Token → Type 0
Passes test w = (t : Token) → test t ≡ true → t ≡ w

pub comma_passes : Passes (has a_comma) tokens.Comma
comma_passes tokens.Comma e = refl
comma_passes t e = cc

pub and_passes : Passes (has an_and) tokens.And
and_passes tokens.And e = refl
and_passes t e = cc

pub or_passes : Passes (has an_or) tokens.Or
or_passes tokens.Or e = refl
or_passes t e = cc

pub op_is : (t : Token) (op : CmpOp) → an_op t ≡ Some op → t ≡ tokens.Compare op
op_is (tokens.Compare o) op e = ap tokens.Compare (same e) where
  same : Some o ≡ Some op → o ≡ op
  same e = cc
op_is t op e = cc

pub test_is : (t : Token) (test : IsTest) → a_test t ≡ Some test → t ≡ asked_for test
test_is tokens.Null test e = ap asked_for (same e) where
  same : Some tests.Null ≡ Some test → tests.Null ≡ test
  same e = cc
test_is tokens.True test e = ap asked_for (same e) where
  same : Some tests.True ≡ Some test → tests.True ≡ test
  same e = cc
test_is tokens.False test e = ap asked_for (same e) where
  same : Some tests.False ≡ Some test → tests.False ≡ test
  same e = cc
test_is tokens.Unknown test e = ap asked_for (same e) where
  same : Some tests.Unknown ≡ Some test → tests.Unknown ≡ test
  same e = cc
test_is t test e = cc

pub pattern_is : (t : Token) (pattern : List ℕ) → a_pattern t ≡ Some pattern → t ≡ tokens.Quoted pattern
pattern_is (tokens.Quoted text) pattern e = ap tokens.Quoted (same e) where
  same : Some text ≡ Some pattern → text ≡ pattern
  same e = cc
pattern_is t pattern e = cc

pub after_cut : {A : Type 0} (f : Token → Option A) (w : Token) (used first second : List Token) (a : A) → Finds f w → used ≡ first ++ second → (one f).spells first a → used ≡ w ∷ second
after_cut f w used first second a is cut s = cut ∙ ap (λ u. u ++ second) (s.1 ∙ ap (λ t. t ∷ []) (is s.0 a s.2))

pub maybe_is : (ends : List Token → Type 0) (used : List Token) (b : Bool) → (maybe_not ends).spells used b → used ≡ maybe b
maybe_is ends used b (inl s) = after_cut a_not tokens.Not used s.0 s.1 s.2 not_is s.3 s.4 ∙ ap (λ r. tokens.Not ∷ r) s.5.0 ∙ ap maybe (sym s.5.1)
maybe_is ends used b (inr s) = s.0 ∙ ap maybe (sym s.1)

abbrev pub Gives : Rule Token Tree → (List Token → Tree → Type 0) → Type 0
Gives p P = (ts : List Token) (e : Tree) → p.spells ts e → P ts e

-- the same tokens, and the same tree
pub moved : (P : List Token → Tree → Type 0) (ts us : List Token) (e u : Tree) → ts ≡ us → e ≡ u → P us u → P ts e
moved P ts us e u p q h = subst (λ x. P x e) (sym p) (subst (λ x. P us x) (sym q) h)

-- leaves

pub some_tree : (x y : Tree) → Some x ≡ Some y → x ≡ y
some_tree x y e = cc

pub no_tree : (y : Tree) → None ≡ Some y → ⊥
no_tree y e = cc

pub leaf_case : (n : ℕ) (t : Token) (e : Tree) → a_leaf t ≡ Some e → IsAtom n (t ∷ []) e
leaf_case n (tokens.Name text) e h = subst (λ x. IsAtom n (tokens.Name text ∷ []) x) (some_tree (NameOf text) e h) (name n text)
leaf_case n (tokens.Quoted text) e h = subst (λ x. IsAtom n (tokens.Quoted text ∷ []) x) (some_tree (QuotedOf text) e h) (string n text)
leaf_case n tokens.True e h = subst (λ x. IsAtom n (tokens.True ∷ []) x) (some_tree (BoolOf true) e h) (is_true n)
leaf_case n tokens.False e h = subst (λ x. IsAtom n (tokens.False ∷ []) x) (some_tree (BoolOf false) e h) (is_false n)
leaf_case n tokens.Null e h = subst (λ x. IsAtom n (tokens.Null ∷ []) x) (some_tree NullOf e h) (is_null n)
leaf_case n (tokens.Digits m) e h = by (nat_lt m (2 ^ 63)) refl h where
  by : (b : Bool) → nat_lt m (2 ^ 63) ≡ b → cond b (Some (IntOf (pos m))) None ≡ Some e → IsAtom n (tokens.Digits m ∷ []) e
  by true i k = subst (λ x. IsAtom n (tokens.Digits m ∷ []) x) (some_tree (IntOf (pos m)) e k) (integer n m (ltb-true m (2 ^ 63) i))
  by false i k = absurd (no_tree e k)
leaf_case n t e h = absurd (no_tree e h)

pub negative_case : (n : ℕ) (t : Token) (e : Tree) → a_negative t ≡ Some e → IsAtom n (tokens.Minus ∷ t ∷ []) e
negative_case n (tokens.Digits m) e h = by (nat_lt (2 ^ 63) m) refl h where
  by : (b : Bool) → nat_lt (2 ^ 63) m ≡ b → cond b None (Some (IntOf (neg_ℤ (pos m)))) ≡ Some e → IsAtom n (tokens.Minus ∷ tokens.Digits m ∷ []) e
  by true i k = absurd (no_tree e k)
  by false i k = subst (λ x. IsAtom n (tokens.Minus ∷ tokens.Digits m ∷ []) x) (some_tree (IntOf (neg_ℤ (pos m))) e k) (negative n m (ltb-false (2 ^ 63) m i))
negative_case n t e h = absurd (no_tree e h)

pub plain_case : (n : ℕ) → Gives plain (IsAtom n)
plain_case n ts e (inl s) = subst (λ u. IsAtom n u e) (sym (after_cut a_minus tokens.Minus ts s.0 s.1 s.2 minus_is s.3 s.4 ∙ ap (λ r. tokens.Minus ∷ r) s.5.1)) (negative_case n s.5.0 e s.5.2)
plain_case n ts e (inr s) = subst (λ u. IsAtom n u e) (sym s.1) (leaf_case n s.0 e s.2)

module _ (n : ℕ) (p : Rule Token Tree) (h : Gives p (IsAtom n)) where
  commas_case : (all : List Tree) (ts : List Token) → more_spells (has a_comma) p.spells ts all → CommaAtoms n ts all
  commas_case [] ts s = subst (λ u. CommaAtoms n u []) (sym s) (no_comma n)
  commas_case (e ∷ es) ts s = subst (λ u. CommaAtoms n u (e ∷ es)) (sym (s.3 ∙ ap (λ t. t ∷ (s.1 ++ s.2)) (comma_passes s.0 s.4))) (more_comma n s.1 s.2 e es (h s.1 e s.5) (commas_case es s.2 s.6))

  predicate_case : (left : Tree) (negated : Bool) (front : List Token) → IsAtom n front left → (ts : List Token) (e : Tree) → (predicate p left negated).spells ts e → IsRange n (front ++ (maybe negated ++ ts)) e
  predicate_case left negated front a ts e (inl s) =
      let inner = s.5.5 in
      let list = inner.5 in
      let end : list.1 ≡ tokens.Close ∷ [] = after_cut a_close tokens.Close list.1 list.5.0 list.5.1 list.5.2 close_is list.5.3 list.5.4 ∙ ap (λ r. tokens.Close ∷ r) list.5.5.0 in
      let inside : s.5.1 ≡ (inner.0 ++ list.0) ++ tokens.Close ∷ [] = inner.3 ∙ ap (λ r. inner.0 ++ r) (list.3 ∙ ap (λ r. list.0 ++ r) end) ∙ sym (append_assoc inner.0 list.0 (tokens.Close ∷ [])) in
      let shape : ts ≡ tokens.In ∷ tokens.Open ∷ ((inner.0 ++ list.0) ++ tokens.Close ∷ []) =
      after_cut an_in tokens.In ts s.0 s.1 s.2 in_is s.3 s.4 ∙ ap (λ r. tokens.In ∷ r) (after_cut an_open tokens.Open s.1 s.5.0 s.5.1 s.5.2 open_is s.5.3 s.5.4 ∙ ap (λ r. tokens.Open ∷ r) inside) in
      moved (λ u x. IsRange n (front ++ (maybe negated ++ u)) x) ts _ e _ shape list.5.5.1
      (within n front inner.0 list.0 left inner.2 list.2 negated a (h inner.0 inner.2 inner.4) (commas_case list.2 list.0 list.4))
  predicate_case left negated front a ts e (inr (inl s)) =
      let low = s.5 in
      let high = low.5.5 in
      let last : low.5.1 ≡ high.0 = high.3 ∙ ap (λ r. high.0 ++ r) high.5.0 ∙ append-nil high.0 in
      let shape : ts ≡ tokens.Between ∷ (low.0 ++ (tokens.And ∷ high.0)) =
      after_cut a_between tokens.Between ts s.0 s.1 s.2 between_is s.3 s.4 ∙ ap (λ r. tokens.Between ∷ r) (low.3 ∙ ap (λ r. low.0 ++ r) (after_cut an_and tokens.And low.1 low.5.0 low.5.1 low.5.2 and_is low.5.3 low.5.4 ∙ ap (λ r. tokens.And ∷ r) last)) in
      moved (λ u x. IsRange n (front ++ (maybe negated ++ u)) x) ts _ e _ shape high.5.1
      (between n front low.0 high.0 left low.2 high.2 negated a (h low.0 low.2 low.4) (h high.0 high.2 high.4))
  predicate_case left negated front a ts e (inr (inr s)) =
      let text = s.5 in
      let last : s.1 ≡ tokens.Quoted text.2 ∷ [] = text.3 ∙ ap (λ r. text.0 ++ r) text.5.0 ∙ append-nil text.0 ∙ text.4.1 ∙ ap (λ t. t ∷ []) (pattern_is text.4.0 text.2 text.4.2) in
      let shape : ts ≡ tokens.Like ∷ tokens.Quoted text.2 ∷ [] = after_cut a_like tokens.Like ts s.0 s.1 s.2 like_is s.3 s.4 ∙ ap (λ r. tokens.Like ∷ r) last in
      moved (λ u x. IsRange n (front ++ (maybe negated ++ u)) x) ts _ e _ shape text.5.1 (like n front left negated text.2 a)

  range_case : Gives (range p) (IsRange n)
  range_case ts e s = by s.5 where
    by : (range_tail p s.2).spells s.1 e → IsRange n ts e
    by (inl q) = subst (λ u. IsRange n u e) (sym (s.3 ∙ ap (λ r. s.0 ++ r) (q.3 ∙ ap (λ r. r ++ q.1) (maybe_is (Without (has a_not)) q.0 q.2 q.4)))) (predicate_case s.2 q.2 s.0 (h s.0 s.2 s.4) q.1 e q.5)
    by (inr q) = moved (IsRange n) ts s.0 e s.2 (s.3 ∙ ap (λ r. s.0 ++ r) q.0 ∙ append-nil s.0) q.1 (an_atom n s.0 s.2 (h s.0 s.2 s.4))

  cmp_case : Gives (cmp (range p)) (IsCmp n)
  cmp_case ts e s = by s.5 where
    by : (cmp_tail (range p) s.2).spells s.1 e → IsCmp n ts e
    by (inl q) =
        let last : q.1 ≡ q.5.0 = q.5.3 ∙ ap (λ r. q.5.0 ++ r) q.5.5.0 ∙ append-nil q.5.0 in
        let tail : s.1 ≡ tokens.Compare q.2 ∷ q.5.0 = q.3 ∙ ap (λ r. r ++ q.1) (q.4.1 ∙ ap (λ t. t ∷ []) (op_is q.4.0 q.2 q.4.2)) ∙ ap (λ r. tokens.Compare q.2 ∷ r) last in
        moved (IsCmp n) ts _ e _ (s.3 ∙ ap (λ r. s.0 ++ r) tail) q.5.5.1 (compared n s.0 q.5.0 s.2 q.5.2 q.2 (range_case s.0 s.2 s.4) (range_case q.5.0 q.5.2 q.5.4))
    by (inr q) = moved (IsCmp n) ts s.0 e s.2 (s.3 ∙ ap (λ r. s.0 ++ r) q.0 ∙ append-nil s.0) q.1 (a_range n s.0 s.2 (range_case s.0 s.2 s.4))

  right_case : (left : Tree) (negated : Bool) (front : List Token) → IsCmp n front left → (ts : List Token) (e : Tree) → (is_right (cmp (range p)) left negated).spells ts e → IsIs n (front ++ (tokens.Is ∷ (maybe negated ++ ts))) e
  right_case left negated front a ts e (inl s) =
      let right = s.5.5 in
      let last : s.5.1 ≡ right.0 = right.3 ∙ ap (λ r. right.0 ++ r) right.5.0 ∙ append-nil right.0 in
      let shape : ts ≡ tokens.Distinct ∷ tokens.From ∷ right.0 = after_cut a_distinct tokens.Distinct ts s.0 s.1 s.2 distinct_is s.3 s.4 ∙ ap (λ r. tokens.Distinct ∷ r) (after_cut a_from tokens.From s.1 s.5.0 s.5.1 s.5.2 from_is s.5.3 s.5.4 ∙ ap (λ r. tokens.From ∷ r) last) in
      moved (λ u x. IsIs n (front ++ (tokens.Is ∷ (maybe negated ++ u))) x) ts _ e _ shape right.5.1 (distinct n front right.0 left right.2 negated a (cmp_case right.0 right.2 right.4))
  right_case left negated front a ts e (inr s) =
      let shape : ts ≡ asked_for s.2 ∷ [] = s.3 ∙ ap (λ r. s.0 ++ r) s.5.0 ∙ append-nil s.0 ∙ s.4.1 ∙ ap (λ t. t ∷ []) (test_is s.4.0 s.2 s.4.2) in
      moved (λ u x. IsIs n (front ++ (tokens.Is ∷ (maybe negated ++ u))) x) ts _ e _ shape s.5.1 (tested n front left negated s.2 a)

  is_case : Gives (is_over p) (IsIs n)
  is_case ts e s = by s.5 where
    by : (is_tail (cmp (range p)) s.2).spells s.1 e → IsIs n ts e
    by (inl q) =
        let tail : s.1 ≡ tokens.Is ∷ (maybe q.5.2 ++ q.5.1) = after_cut an_is tokens.Is s.1 q.0 q.1 q.2 is_is q.3 q.4 ∙ ap (λ r. tokens.Is ∷ r) (q.5.3 ∙ ap (λ r. r ++ q.5.1) (maybe_is (Without (has a_not)) q.5.0 q.5.2 q.5.4)) in
        subst (λ u. IsIs n u e) (sym (s.3 ∙ ap (λ r. s.0 ++ r) tail)) (right_case s.2 q.5.2 s.0 (cmp_case s.0 s.2 s.4) q.5.1 e q.5.5)
    by (inr q) = moved (IsIs n) ts s.0 e s.2 (s.3 ∙ ap (λ r. s.0 ++ r) q.0 ∙ append-nil s.0) q.1 (a_cmp n s.0 s.2 (cmp_case s.0 s.2 s.4))

module _ (n : ℕ) (p : Rule Token Tree) (h : Gives p (IsNot n)) where
  ands_case : (all : List Tree) (ts : List Token) → more_spells (has an_and) p.spells ts all → AndNots n ts all
  ands_case [] ts s = subst (λ u. AndNots n u []) (sym s) (no_and n)
  ands_case (e ∷ es) ts s = subst (λ u. AndNots n u (e ∷ es)) (sym (s.3 ∙ ap (λ t. t ∷ (s.1 ++ s.2)) (and_passes s.0 s.4))) (more_and n s.1 s.2 e es (h s.1 e s.5) (ands_case es s.2 s.6))

  and_case : Gives (and p) (IsAnd n)
  and_case ts e s = moved (IsAnd n) ts _ e _ (s.3 ∙ ap (λ r. s.0 ++ r) (s.5.3 ∙ ap (λ r. s.5.0 ++ r) s.5.5.0 ∙ append-nil s.5.0)) s.5.5.1 (and_of n s.0 s.5.0 s.2 s.5.2 (h s.0 s.2 s.4) (ands_case s.5.2 s.5.0 s.5.4))

  ors_case : (all : List Tree) (ts : List Token) → more_spells (has an_or) (and p).spells ts all → OrAnds n ts all
  ors_case [] ts s = subst (λ u. OrAnds n u []) (sym s) (no_or n)
  ors_case (e ∷ es) ts s = subst (λ u. OrAnds n u (e ∷ es)) (sym (s.3 ∙ ap (λ t. t ∷ (s.1 ++ s.2)) (or_passes s.0 s.4))) (more_or n s.1 s.2 e es (and_case s.1 e s.5) (ors_case es s.2 s.6))

  or_case : Gives (or p) (IsOr n)
  or_case ts e s = moved (IsOr n) ts _ e _ (s.3 ∙ ap (λ r. s.0 ++ r) (s.5.3 ∙ ap (λ r. s.5.0 ++ r) s.5.5.0 ∙ append-nil s.5.0)) s.5.5.1 (or_of n s.0 s.5.0 s.2 s.5.2 (and_case s.0 s.2 s.4) (ors_case s.5.2 s.5.0 s.5.4))

pub atom_case : (n : ℕ) (p : Rule Token Tree) → Gives p (IsNot n) → Gives (atom_over p) (IsAtom (suc n))
atom_case n p h ts e (inl s) =
    let inner = s.5 in
    let end : inner.1 ≡ tokens.Close ∷ [] = after_cut a_close tokens.Close inner.1 inner.5.0 inner.5.1 inner.5.2 close_is inner.5.3 inner.5.4 ∙ ap (λ r. tokens.Close ∷ r) inner.5.5.0 in
    let shape : ts ≡ tokens.Open ∷ (inner.0 ++ tokens.Close ∷ []) = after_cut an_open tokens.Open ts s.0 s.1 s.2 open_is s.3 s.4 ∙ ap (λ r. tokens.Open ∷ r) (inner.3 ∙ ap (λ r. inner.0 ++ r) end) in
    moved (IsAtom (suc n)) ts _ e inner.2 shape inner.5.5.1 (group n inner.0 inner.2 (or_case n p h inner.0 inner.2 inner.4))
atom_case n p h ts e (inr s) = plain_case (suc n) ts e s

pub inside_case : (n : ℕ) (p : Rule Token Tree) → Gives p (IsNot n) → Gives (not_inside p) (IsNot (suc n))
inside_case n p h ts e (inl s) =
    let last : s.1 ≡ s.5.0 = s.5.3 ∙ ap (λ r. s.5.0 ++ r) s.5.5.0 ∙ append-nil s.5.0 in
    moved (IsNot (suc n)) ts _ e _ (after_cut a_not tokens.Not ts s.0 s.1 s.2 not_is s.3 s.4 ∙ ap (λ r. tokens.Not ∷ r) last) s.5.5.1 (not_of n s.5.0 s.5.2 (h s.5.0 s.5.2 s.5.4))
inside_case n p h ts e (inr s) = cases.an_is (suc n) ts e (is_case (suc n) (atom_over p) (atom_case n p h) ts e s)

pub not_case : (n : ℕ) → Gives (not n) (IsNot n)
unfolding not
not_case zero = λ ts e s. cases.an_is zero ts e (is_case zero (barred (has an_open) plain) (λ us x r. plain_case zero us x r) ts e s)
not_case (suc n) = inside_case n (not n) (not_case n)

pub clause_case : (n : ℕ) (ts : List Token) (e : Tree) → IsClause n ts e → IsOr n ts e
unfolding clause
clause_case n ts e s = moved (IsOr n) ts s.0 e s.2 (s.3 ∙ ap (λ r. s.0 ++ r) s.5.0 ∙ append-nil s.0) s.5.1 (or_case n (not n) (not_case n) s.0 s.2 s.4)
