-- The names of a tree are names of its tokens, and its canonical tokens are tokens that some text has.
use Rattle.std.proofs.Common.{◌≡◌, ◌<◌, ◌≤◌, ◌^◌, ℕ, zero, suc, List, [], ◌∷◌, ◌++◌, Bool, true, false, cond, inl, inr, Some, None, ℤ, pos, negsuc, neg_ℤ, nat_lt, sym, subst, arith}
use Rattle.std.proofs.lemmas.Bool.{ltb-true, ltb-false}
use Rattle.where_lexer.specs.declared.token.Token.{Token}
use Rattle.where_lexer.specs.declared.token.Token.TheVariants as tokens
use Rattle.where_lexer.specs.Texts.{IsToken, AreTokens}
use Rattle.where_grammar.specs.declared.words.IsTest.{IsTest}
use Rattle.where_grammar.specs.declared.words.IsTest.TheVariants as tests
use Rattle.where_grammar.specs.Tree.{Tree, AnyOf, AllOf, NotOf, IsOf, DistinctOf, Compared, WithinOf, BetweenOf, LikeOf, NameOf, IntOf, QuotedOf, BoolOf, NullOf, Trees, NoTree, TreeAnd, trees}
use Rattle.ll_rules.specs.Rules.{Rule, more_spells, barred}
use Rattle.where_grammar.specs.Grammar.{a_negative, a_leaf, an_open, an_or, an_and, a_comma, has, plain, predicate, range, cmp, is_over, all_of, any_of, and, or, not, clause, range_tail, cmp_tail, is, is_tail, is_right, not_inside}
use Rattle.where_grammar.specs.Printing.{level, wrapped, maybe, asked_for, integer, truth, canonical, members, others}
use Rattle.where_grammar.specs.Meaning.{IsClause}
use Rattle.where_grammar.proofs.GrammarLaws.{atom_over}
use Rattle.where_grammar.proofs.Fits.{Deeper, Placed, Signed, Fits, FitAll, Fit}
use Rattle.where_grammar.proofs.Printed.{some_is, none_is}

abbrev pub IsName : List ℕ → Type 0
IsName [] = ⊥
IsName (b ∷ bs) = Unit {0}

abbrev mutual
  pub Named : Tree → Type 0
  Named (AnyOf ts) = AllNamed ts
  Named (AllOf ts) = AllNamed ts
  Named (NotOf e) = Named e
  Named (IsOf left negated test) = Named left
  Named (DistinctOf left negated right) = Named left × Named right
  Named (Compared op left right) = Named left × Named right
  Named (WithinOf left negated list) = Named left × AllNamed list
  Named (BetweenOf left negated low high) = Named left × Named low × Named high
  Named (LikeOf left negated pattern) = Named left
  Named (NameOf name) = IsName name
  Named (IntOf n) = Unit {0}
  Named (QuotedOf text) = Unit {0}
  Named (BoolOf b) = Unit {0}
  Named NullOf = Unit {0}

  pub AllNamed : Trees → Type 0
  AllNamed NoTree = Unit {0}
  AllNamed (TreeAnd e ts) = Named e × AllNamed ts

pub cut_tokens : (a b : List Token) → AreTokens (a ++ b) → AreTokens a × AreTokens b
cut_tokens [] b h = (tt, h)
cut_tokens (t ∷ a) b h = let c = cut_tokens a b h.1 in ((h.0, c.0), c.1)

pub join_tokens : (a b : List Token) → AreTokens a → AreTokens b → AreTokens (a ++ b)
join_tokens [] b h k = k
join_tokens (t ∷ a) b h k = (h.0, join_tokens a b h.1 k)

pub parts : (ts a b : List Token) → ts ≡ a ++ b → AreTokens ts → AreTokens a × AreTokens b
parts ts a b e h = cut_tokens a b (subst AreTokens e h)

-- each tree of the rule is named where its tokens are
abbrev pub Naming : Rule Token Tree → Type 0
Naming p = (ts : List Token) (e : Tree) → AreTokens ts → p.spells ts e → Named e

pub leaf_named : (t : Token) (e : Tree) → IsToken t → a_leaf t ≡ Some e → Named e
leaf_named (tokens.Name []) e i h = absurd i
leaf_named (tokens.Name (b ∷ bs)) e i h = subst Named (some_is (NameOf (b ∷ bs)) e h) tt
leaf_named (tokens.Quoted text) e i h = subst Named (some_is (QuotedOf text) e h) tt
leaf_named tokens.True e i h = subst Named (some_is (BoolOf true) e h) tt
leaf_named tokens.False e i h = subst Named (some_is (BoolOf false) e h) tt
leaf_named tokens.Null e i h = subst Named (some_is NullOf e h) tt
leaf_named (tokens.Digits n) e i h = by (nat_lt n (2 ^ 63)) h where
  by : (b : Bool) → cond b (Some (IntOf (pos n))) None ≡ Some e → Named e
  by true k = subst Named (some_is (IntOf (pos n)) e k) tt
  by false k = absurd (none_is e k)
leaf_named t e i h = absurd (none_is e h)

pub negative_named : (t : Token) (e : Tree) → a_negative t ≡ Some e → Named e
negative_named (tokens.Digits n) e h = by (nat_lt (2 ^ 63) n) h where
  by : (b : Bool) → cond b None (Some (IntOf (neg_ℤ (pos n)))) ≡ Some e → Named e
  by true k = absurd (none_is e k)
  by false k = subst Named (some_is (IntOf (neg_ℤ (pos n))) e k) tt
negative_named t e h = absurd (none_is e h)

pub plain_named : Naming plain
plain_named ts e i (inl s) = negative_named s.5.0 e s.5.2
plain_named ts e i (inr s) = leaf_named s.0 e (subst AreTokens s.1 i).0 s.2

pub more_named : (p : Rule Token Tree) (test : Token → Bool) → Naming p → (all : List Tree) (ts : List Token) → AreTokens ts → more_spells test p.spells ts all → AllNamed (trees all)
more_named p test h [] ts i s = tt
more_named p test h (e ∷ es) ts i s =
    let c = cut_tokens s.1 s.2 (subst AreTokens s.3 i).1 in
    (h s.1 e c.0 s.5, more_named p test h es s.2 c.1 s.6)

pub predicate_named : (p : Rule Token Tree) → Naming p → (left : Tree) (negated : Bool) → Named left → (ts : List Token) (e : Tree) → AreTokens ts → (predicate p left negated).spells ts e → Named e
predicate_named p h left negated l ts e i (inl s) =
    let inner = s.5.5 in
    let list = inner.5 in
    let a = parts s.1 s.5.0 s.5.1 s.5.3 (parts ts s.0 s.1 s.3 i).1 in
    let b = parts s.5.1 inner.0 inner.1 inner.3 a.1 in
    let c = parts inner.1 list.0 list.1 list.3 b.1 in
    subst Named (sym list.5.5.1) (l, (h inner.0 inner.2 b.0 inner.4, more_named p (has a_comma) h list.2 list.0 c.0 list.4))
predicate_named p h left negated l ts e i (inr (inl s)) =
    let low = s.5 in
    let high = low.5.5 in
    let a = parts s.1 low.0 low.1 low.3 (parts ts s.0 s.1 s.3 i).1 in
    let b = parts low.5.1 high.0 high.1 high.3 (parts low.1 low.5.0 low.5.1 low.5.3 a.1).1 in
    subst Named (sym high.5.1) (l, h low.0 low.2 a.0 low.4, h high.0 high.2 b.0 high.4)
predicate_named p h left negated l ts e i (inr (inr s)) = subst Named (sym s.5.5.1) l

pub range_named : (p : Rule Token Tree) → Naming p → Naming (range p)
range_named p h ts e i s = by s.5 where
  by : (range_tail p s.2).spells s.1 e → Named e
  by (inl q) = let a = parts ts s.0 s.1 s.3 i in predicate_named p h s.2 q.2 (h s.0 s.2 a.0 s.4) q.1 e (parts s.1 q.0 q.1 q.3 a.1).1 q.5
  by (inr q) = subst Named (sym q.1) (h s.0 s.2 (parts ts s.0 s.1 s.3 i).0 s.4)

pub cmp_named : (p : Rule Token Tree) → Naming p → Naming (cmp p)
cmp_named p h ts e i s = by s.5 where
  by : (cmp_tail p s.2).spells s.1 e → Named e
  by (inl q) =
      let a = parts ts s.0 s.1 s.3 i in
      let b = parts q.1 q.5.0 q.5.1 q.5.3 (parts s.1 q.0 q.1 q.3 a.1).1 in
      subst Named (sym q.5.5.1) (h s.0 s.2 a.0 s.4, h q.5.0 q.5.2 b.0 q.5.4)
  by (inr q) = subst Named (sym q.1) (h s.0 s.2 (parts ts s.0 s.1 s.3 i).0 s.4)

pub right_named : (p : Rule Token Tree) → Naming p → (left : Tree) (negated : Bool) → Named left → (ts : List Token) (e : Tree) → AreTokens ts → (is_right p left negated).spells ts e → Named e
right_named p h left negated l ts e i (inl s) =
    let right = s.5.5 in
    let a = parts s.5.1 right.0 right.1 right.3 (parts s.1 s.5.0 s.5.1 s.5.3 (parts ts s.0 s.1 s.3 i).1).1 in
    subst Named (sym right.5.1) (l, h right.0 right.2 a.0 right.4)
right_named p h left negated l ts e i (inr s) = subst Named (sym s.5.1) l

pub is_named : (p : Rule Token Tree) → Naming p → Naming (is p)
is_named p h ts e i s = by s.5 where
  by : (is_tail p s.2).spells s.1 e → Named e
  by (inl q) =
      let a = parts ts s.0 s.1 s.3 i in
      let b = parts q.1 q.5.0 q.5.1 q.5.3 (parts s.1 q.0 q.1 q.3 a.1).1 in
      right_named p h s.2 q.5.2 (h s.0 s.2 a.0 s.4) q.5.1 e b.1 q.5.5
  by (inr q) = subst Named (sym q.1) (h s.0 s.2 (parts ts s.0 s.1 s.3 i).0 s.4)

pub and_named : (p : Rule Token Tree) → Naming p → Naming (and p)
and_named p h ts e i s = by s.5.2 s.5.4 s.5.5.1 where
  first : Named s.2
  first = h s.0 s.2 (parts ts s.0 s.1 s.3 i).0 s.4

  behind : AreTokens s.5.0
  behind = (parts s.1 s.5.0 s.5.1 s.5.3 (parts ts s.0 s.1 s.3 i).1).0

  by : (all : List Tree) → more_spells (has an_and) p.spells s.5.0 all → e ≡ all_of s.2 all → Named e
  by [] m k = subst Named (sym k) first
  by (b ∷ bs) m k = subst Named (sym k) (first, more_named p (has an_and) h (b ∷ bs) s.5.0 behind m)

pub or_named : (p : Rule Token Tree) → Naming p → Naming (or p)
or_named p h ts e i s = by s.5.2 s.5.4 s.5.5.1 where
  first : Named s.2
  first = and_named p h s.0 s.2 (parts ts s.0 s.1 s.3 i).0 s.4

  behind : AreTokens s.5.0
  behind = (parts s.1 s.5.0 s.5.1 s.5.3 (parts ts s.0 s.1 s.3 i).1).0

  by : (all : List Tree) → more_spells (has an_or) (and p).spells s.5.0 all → e ≡ any_of s.2 all → Named e
  by [] m k = subst Named (sym k) first
  by (b ∷ bs) m k = subst Named (sym k) (first, more_named (and p) (has an_or) (and_named p h) (b ∷ bs) s.5.0 behind m)

pub atom_over_named : (p : Rule Token Tree) → Naming p → Naming (atom_over p)
atom_over_named p h ts e i (inl s) =
    let inner = s.5 in
    let a = parts s.1 inner.0 inner.1 inner.3 (parts ts s.0 s.1 s.3 i).1 in
    subst Named (sym inner.5.5.1) (or_named p h inner.0 inner.2 a.0 inner.4)
atom_over_named p h ts e i (inr s) = plain_named ts e i s

pub is_over_named : (p : Rule Token Tree) → Naming p → Naming (is_over p)
is_over_named p h = is_named (cmp (range p)) (cmp_named (range p) (range_named p h))

pub inside_named : (p : Rule Token Tree) → Naming p → Naming (not_inside p)
inside_named p h ts e i (inl s) =
    let a = parts s.1 s.5.0 s.5.1 s.5.3 (parts ts s.0 s.1 s.3 i).1 in
    subst Named (sym s.5.5.1) (h s.5.0 s.5.2 a.0 s.5.4)
inside_named p h ts e i (inr s) = is_over_named (atom_over p) (atom_over_named p h) ts e i s

pub not_named : (depth : ℕ) → Naming (not depth)
unfolding not
not_named zero = is_over_named (barred (has an_open) plain) (λ us x j r. plain_named us x j r)
not_named (suc depth) = inside_named (not depth) (not_named depth)

pub clause_named : (depth : ℕ) (ts : List Token) (e : Tree) → AreTokens ts → IsClause depth ts e → Named e
unfolding clause
clause_named depth ts e i s = subst Named (sym s.5.1) (or_named (not depth) (not_named depth) s.0 s.2 (parts ts s.0 s.1 s.3 i).0 s.4)

-- the canonical tokens

pub placed_some : (b : Bool) (P : ℕ → Type 0) (n : ℕ) → Placed b P n → (m : ℕ) × P m
placed_some true P zero h = absurd h
placed_some true P (suc n) h = (n, h)
placed_some false P n h = (n, h)

pub part_tokens : (e : Tree) (need n : ℕ) → ((d : ℕ) → Fits e d → AreTokens (canonical e)) → Fit need e n → AreTokens (wrapped (level e) need (canonical e))
part_tokens e need n h f = by (nat_lt (level e) need) where
  inside : AreTokens (canonical e)
  inside = let p = placed_some (nat_lt (level e) need) (λ m. Fits e m) n f in h p.0 p.1

  by : (b : Bool) → AreTokens (cond b (tokens.Open ∷ (canonical e ++ tokens.Close ∷ [])) (canonical e))
  by true = (tt, join_tokens (canonical e) (tokens.Close ∷ []) inside (tt, tt))
  by false = inside

pub maybe_tokens : (b : Bool) → AreTokens (maybe b)
maybe_tokens true = (tt, tt)
maybe_tokens false = tt

pub asked_token : (test : IsTest) → IsToken (asked_for test)
asked_token tests.Null = tt
asked_token tests.True = tt
asked_token tests.False = tt
asked_token tests.Unknown = tt

pub integer_tokens : (z : ℤ) → Signed z → AreTokens (integer z)
integer_tokens (pos n) h = (small n h, tt) where
  small : (n : ℕ) → nat_lt n (2 ^ 63) ≡ true → n < 2 ^ 64
  small n h = let l : n < 2 ^ 63 = ltb-true n (2 ^ 63) h in omega arith
integer_tokens (negsuc n) h = (tt, (small n h, tt)) where
  small : (n : ℕ) → nat_lt (2 ^ 63) (suc n) ≡ false → suc n < 2 ^ 64
  small n h = let l : suc n ≤ 2 ^ 63 = ltb-false (2 ^ 63) (suc n) h in omega arith

pub truth_token : (b : Bool) → IsToken (truth b)
truth_token true = tt
truth_token false = tt

pub deeper_some : (P : ℕ → Type 0) (n : ℕ) → Deeper P n → (m : ℕ) × P m
deeper_some P zero h = absurd h
deeper_some P (suc n) h = (n, h)

mutual
  pub canonical_tokens : (e : Tree) (n : ℕ) → Fits e n → Named e → AreTokens (canonical e)
  canonical_tokens (AnyOf ts) n f k = members_tokens ts tokens.Or 1 n tt f.1 k
  canonical_tokens (AllOf ts) n f k = members_tokens ts tokens.And 2 n tt f.1 k
  canonical_tokens (NotOf e) n f k = let p = deeper_some (λ d. Fit 2 e d) n f in (tt, part_tokens e 2 p.0 (λ d g. canonical_tokens e d g k) p.1)
  canonical_tokens (IsOf left negated test) n f k = join_tokens (wrapped (level left) 4 (canonical left)) (tokens.Is ∷ (maybe negated ++ asked_for test ∷ [])) (part_tokens left 4 n (λ d g. canonical_tokens left d g k) f) (tt, join_tokens (maybe negated) (asked_for test ∷ []) (maybe_tokens negated) (asked_token test, tt))
  canonical_tokens (DistinctOf left negated right) n f k = join_tokens (wrapped (level left) 4 (canonical left)) (tokens.Is ∷ (maybe negated ++ (tokens.Distinct ∷ tokens.From ∷ wrapped (level right) 4 (canonical right)))) (part_tokens left 4 n (λ d g. canonical_tokens left d g k.0) f.0) (tt, join_tokens (maybe negated) (tokens.Distinct ∷ tokens.From ∷ wrapped (level right) 4 (canonical right)) (maybe_tokens negated) (tt, (tt, part_tokens right 4 n (λ d g. canonical_tokens right d g k.1) f.1)))
  canonical_tokens (Compared op left right) n f k = join_tokens (wrapped (level left) 5 (canonical left)) (tokens.Compare op ∷ wrapped (level right) 5 (canonical right)) (part_tokens left 5 n (λ d g. canonical_tokens left d g k.0) f.0) (tt, part_tokens right 5 n (λ d g. canonical_tokens right d g k.1) f.1)
  canonical_tokens (WithinOf left negated list) n f k = join_tokens (wrapped (level left) 6 (canonical left)) (maybe negated ++ (tokens.In ∷ tokens.Open ∷ (members tokens.Comma 6 list ++ tokens.Close ∷ []))) (part_tokens left 6 n (λ d g. canonical_tokens left d g k.0) f.0) (join_tokens (maybe negated) (tokens.In ∷ tokens.Open ∷ (members tokens.Comma 6 list ++ tokens.Close ∷ [])) (maybe_tokens negated) (tt, (tt, join_tokens (members tokens.Comma 6 list) (tokens.Close ∷ []) (members_tokens list tokens.Comma 6 n tt f.2 k.1) (tt, tt))))
  canonical_tokens (BetweenOf left negated low high) n f k = join_tokens (wrapped (level left) 6 (canonical left)) (maybe negated ++ (tokens.Between ∷ (wrapped (level low) 6 (canonical low) ++ (tokens.And ∷ wrapped (level high) 6 (canonical high))))) (part_tokens left 6 n (λ d g. canonical_tokens left d g k.0) f.0) (join_tokens (maybe negated) (tokens.Between ∷ (wrapped (level low) 6 (canonical low) ++ (tokens.And ∷ wrapped (level high) 6 (canonical high)))) (maybe_tokens negated) (tt, join_tokens (wrapped (level low) 6 (canonical low)) (tokens.And ∷ wrapped (level high) 6 (canonical high)) (part_tokens low 6 n (λ d g. canonical_tokens low d g k.1) f.1) (tt, part_tokens high 6 n (λ d g. canonical_tokens high d g k.2) f.2)))
  canonical_tokens (LikeOf left negated pattern) n f k = join_tokens (wrapped (level left) 6 (canonical left)) (maybe negated ++ (tokens.Like ∷ tokens.Quoted pattern ∷ [])) (part_tokens left 6 n (λ d g. canonical_tokens left d g k) f) (join_tokens (maybe negated) (tokens.Like ∷ tokens.Quoted pattern ∷ []) (maybe_tokens negated) (tt, (tt, tt)))
  canonical_tokens (NameOf []) n f k = absurd k
  canonical_tokens (NameOf (b ∷ bs)) n f k = (tt, tt)
  canonical_tokens (IntOf z) n f k = integer_tokens z f
  canonical_tokens (QuotedOf text) n f k = (tt, tt)
  canonical_tokens (BoolOf b) n f k = (truth_token b, tt)
  canonical_tokens NullOf n f k = (tt, tt)

  pub members_tokens : (ts : Trees) (word : Token) (need n : ℕ) → IsToken word → FitAll need ts n → AllNamed ts → AreTokens (members word need ts)
  members_tokens NoTree word need n i f k = tt
  members_tokens (TreeAnd e ts) word need n i f k = join_tokens (wrapped (level e) need (canonical e)) (others word need ts) (part_tokens e need n (λ d g. canonical_tokens e d g k.0) f.0) (others_tokens ts word need n i f.1 k.1)

  pub others_tokens : (ts : Trees) (word : Token) (need n : ℕ) → IsToken word → FitAll need ts n → AllNamed ts → AreTokens (others word need ts)
  others_tokens NoTree word need n i f k = tt
  others_tokens (TreeAnd e ts) word need n i f k = (i, join_tokens (wrapped (level e) need (canonical e)) (others word need ts) (part_tokens e need n (λ d g. canonical_tokens e d g k.0) f.0) (others_tokens ts word need n i f.1 k.1))
