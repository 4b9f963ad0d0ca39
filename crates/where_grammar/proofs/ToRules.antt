-- What the alternatives give, the rules spell.
use Rattle.std.proofs.Common.{◌≡◌, ◌≤◌, ◌^◌, ℕ, suc, List, [], ◌∷◌, ◌++◌, Bool, true, false, cond, inl, inr, Some, None, pos, neg_ℤ, refl, sym, ap, subst}
use Rattle.std.proofs.lemmas.List.{append-nil}
use Rattle.std.proofs.lemmas.Bool.{lt-ltb, le-ltb}
use Rattle.where_lexer.specs.declared.token.Token.{Token}
use Rattle.where_lexer.specs.declared.token.Token.TheVariants as tokens
use Rattle.ll_rules.specs.Rules.{more_spells}
use Rattle.where_grammar.specs.Tree.{Tree, NameOf, IntOf, QuotedOf, BoolOf, NullOf, WithinOf, trees}
use Rattle.where_grammar.specs.Grammar.{has, a_comma, an_and, an_or, clause, a_negative, any_of, all_of}
use Rattle.where_grammar.specs.Printing.{maybe}
use Rattle.where_grammar.specs.Meaning.{IsClause}
use Rattle.where_grammar.proofs.Printed.{rule_at, promote, grouped, leaf_atom, list_of, plain_token, not_spells, is_spells, distinct_spells, compared_spells, within_spells, between_spells, like_spells}
use Rattle.where_grammar.specs.Cases.{IsOr, or_of, OrAnds, no_or, more_or, IsAnd, and_of, AndNots, no_and, more_and, IsNot, not_of, an_is, IsIs, a_cmp, tested, distinct, IsCmp, a_range, compared, IsRange, an_atom, within, between, like, CommaAtoms, no_comma, more_comma, IsAtom, group, name, integer, negative, string, is_true, is_false, is_null}

pub list_trees : (es : List Tree) → list_of (trees es) ≡ es
unfolding list_of
list_trees [] = refl
list_trees (e ∷ es) = ap (λ r. e ∷ r) (list_trees es)

pub small_negative : (m : ℕ) → m ≤ 2 ^ 63 → a_negative (tokens.Digits m) ≡ Some (IntOf (neg_ℤ (pos m)))
small_negative m h = ap (λ b. cond b None (Some (IntOf (neg_ℤ (pos m))))) (le-ltb (2 ^ 63) m h)

pub or_rule : (n : ℕ) (ts us : List Token) (e : Tree) (es : List Tree) → (rule_at 1 n).spells ts e → more_spells (has an_or) (rule_at 1 n).spells us es → (rule_at 0 n).spells (ts ++ us) (any_of e es)
unfolding rule_at
or_rule n ts us e es s m = (ts, us, e, refl, s, (us, [], es, sym (append-nil us), m, (refl, refl)))

pub and_rule : (n : ℕ) (ts us : List Token) (e : Tree) (es : List Tree) → (rule_at 2 n).spells ts e → more_spells (has an_and) (rule_at 2 n).spells us es → (rule_at 1 n).spells (ts ++ us) (all_of e es)
unfolding rule_at
and_rule n ts us e es s m = (ts, us, e, refl, s, (us, [], es, sym (append-nil us), m, (refl, refl)))

pub within_rule : (n : ℕ) (ts us vs : List Token) (e first : Tree) (others : List Tree) (negated : Bool) → (rule_at 6 n).spells ts e → (rule_at 6 n).spells us first → more_spells (has a_comma) (rule_at 6 n).spells vs others
    → (rule_at 5 n).spells (ts ++ (maybe negated ++ (tokens.In ∷ tokens.Open ∷ ((us ++ vs) ++ tokens.Close ∷ [])))) (WithinOf e negated (trees (first ∷ others)))
within_rule n ts us vs e first others negated s u m =
    within_spells e negated first (trees others) n ts us vs s u (subst (λ es. more_spells (has a_comma) (rule_at 6 n).spells vs es) (sym (list_trees others)) m)

mutual
  pub or_spelled : {n : ℕ} {ts : List Token} {e : Tree} → IsOr n ts e → (rule_at 0 n).spells ts e
  or_spelled (or_of n ts us e es a b) = or_rule n ts us e es (and_spelled a) (ors_spelled b)

  pub ors_spelled : {n : ℕ} {ts : List Token} {es : List Tree} → OrAnds n ts es → more_spells (has an_or) (rule_at 1 n).spells ts es
  ors_spelled (no_or n) = refl
  ors_spelled (more_or n ts us e es a b) = (tokens.Or, ts, us, refl, refl, and_spelled a, ors_spelled b)

  pub and_spelled : {n : ℕ} {ts : List Token} {e : Tree} → IsAnd n ts e → (rule_at 1 n).spells ts e
  and_spelled (and_of n ts us e es a b) = and_rule n ts us e es (not_spelled a) (ands_spelled b)

  pub ands_spelled : {n : ℕ} {ts : List Token} {es : List Tree} → AndNots n ts es → more_spells (has an_and) (rule_at 2 n).spells ts es
  ands_spelled (no_and n) = refl
  ands_spelled (more_and n ts us e es a b) = (tokens.And, ts, us, refl, refl, not_spelled a, ands_spelled b)

  pub not_spelled : {n : ℕ} {ts : List Token} {e : Tree} → IsNot n ts e → (rule_at 2 n).spells ts e
  not_spelled (not_of n ts e a) = not_spells e (suc n) ts (not_spelled a)
  not_spelled (an_is n ts e a) = promote 2 n ts e (is_spelled a)

  pub is_spelled : {n : ℕ} {ts : List Token} {e : Tree} → IsIs n ts e → (rule_at 3 n).spells ts e
  is_spelled (a_cmp n ts e a) = promote 3 n ts e (cmp_spelled a)
  is_spelled (tested n ts e negated test a) = is_spells e negated test n ts (cmp_spelled a)
  is_spelled (distinct n ts us e u negated a b) = distinct_spells e negated u n ts us (cmp_spelled a) (cmp_spelled b)

  pub cmp_spelled : {n : ℕ} {ts : List Token} {e : Tree} → IsCmp n ts e → (rule_at 4 n).spells ts e
  cmp_spelled (a_range n ts e a) = promote 4 n ts e (range_spelled a)
  cmp_spelled (compared n ts us e u op a b) = compared_spells op e u n ts us (range_spelled a) (range_spelled b)

  pub range_spelled : {n : ℕ} {ts : List Token} {e : Tree} → IsRange n ts e → (rule_at 5 n).spells ts e
  range_spelled (an_atom n ts e a) = promote 5 n ts e (atom_spelled a)
  range_spelled (within n ts us vs e first others negated a b c) = within_rule n ts us vs e first others negated (atom_spelled a) (atom_spelled b) (commas_spelled c)
  range_spelled (between n ts us vs e low high negated a b c) = between_spells e negated low high n ts us vs (atom_spelled a) (atom_spelled b) (atom_spelled c)
  range_spelled (like n ts e negated pattern a) = like_spells e negated pattern n ts (atom_spelled a)

  pub commas_spelled : {n : ℕ} {ts : List Token} {es : List Tree} → CommaAtoms n ts es → more_spells (has a_comma) (rule_at 6 n).spells ts es
  commas_spelled (no_comma n) = refl
  commas_spelled (more_comma n ts us e es a b) = (tokens.Comma, ts, us, refl, refl, atom_spelled a, commas_spelled b)

  pub atom_spelled : {n : ℕ} {ts : List Token} {e : Tree} → IsAtom n ts e → (rule_at 6 n).spells ts e
  atom_spelled (group n ts e a) = grouped n ts e (or_spelled a)
  atom_spelled (name n text) = leaf_atom n (tokens.Name text ∷ []) (NameOf text) (inr (tokens.Name text, refl, refl))
  atom_spelled (integer n m h) = leaf_atom n (tokens.Digits m ∷ []) (IntOf (pos m)) (inr (tokens.Digits m, refl, plain_token m (lt-ltb m (2 ^ 63) h)))
  atom_spelled (negative n m h) = leaf_atom n (tokens.Minus ∷ tokens.Digits m ∷ []) (IntOf (neg_ℤ (pos m))) (inl (tokens.Minus ∷ [], tokens.Digits m ∷ [], tt, refl, (tokens.Minus, refl, refl), (tokens.Digits m, refl, small_negative m h)))
  atom_spelled (string n text) = leaf_atom n (tokens.Quoted text ∷ []) (QuotedOf text) (inr (tokens.Quoted text, refl, refl))
  atom_spelled (is_true n) = leaf_atom n (tokens.True ∷ []) (BoolOf true) (inr (tokens.True, refl, refl))
  atom_spelled (is_false n) = leaf_atom n (tokens.False ∷ []) (BoolOf false) (inr (tokens.False, refl, refl))
  atom_spelled (is_null n) = leaf_atom n (tokens.Null ∷ []) NullOf (inr (tokens.Null, refl, refl))

pub clause_spelled : (n : ℕ) (ts : List Token) (e : Tree) → IsOr n ts e → IsClause n ts e
unfolding clause rule_at
clause_spelled n ts e a = (ts, [], e, sym (append-nil ts), or_spelled a, (refl, refl))
