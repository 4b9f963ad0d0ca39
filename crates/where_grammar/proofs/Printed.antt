-- What is printed is read again.
use Rattle.std.proofs.Common.{◌≡◌, ℕ, zero, suc, ◌+◌, ◌-◌, ◌≤◌, List, [], ◌∷◌, ◌++◌, Bool, true, false, cond, inl, inr, Some, None, ℤ, pos, negsuc, neg_ℤ, nat_lt, ◌^◌, refl, sym, ap, subst, append_assoc, arith}
use Rattle.std.proofs.lemmas.List.{append-nil}
use Rattle.std.proofs.lemmas.Bool.{ltb-false, le-ltb}
use Rattle.where_lexer.specs.declared.token.CmpOp.{CmpOp}
use Rattle.where_grammar.specs.declared.words.IsTest.{IsTest}
use Rattle.where_grammar.specs.declared.words.IsTest.TheVariants as tests
use Rattle.where_lexer.specs.declared.token.Token.{Token}
use Rattle.where_lexer.specs.declared.token.Token.TheVariants as tokens
use Rattle.where_grammar.specs.Tree.{Tree, AnyOf, AllOf, NotOf, IsOf, DistinctOf, Compared, WithinOf, BetweenOf, LikeOf, NameOf, IntOf, QuotedOf, BoolOf, NullOf, Trees, NoTree, TreeAnd, trees}
use Rattle.ll_rules.specs.Rules.{Rule, more_spells, barred}
use Rattle.where_grammar.specs.Grammar.{atom, a_negative, a_leaf, a_test, an_open, an_or, an_and, a_comma, has, plain, maybe_not, Without, a_not, predicate, range, cmp, is_over, all_of, any_of, and, or, not, clause, range_tail, cmp_tail, is, is_tail, is_right, not_inside}
use Rattle.where_grammar.specs.Printing.{level, wrapped, maybe, asked_for, integer, truth, canonical, others}
use Rattle.where_grammar.specs.Meaning.{IsClause}
use Rattle.where_grammar.specs.Again.{RoundTrip}
use Rattle.where_grammar.proofs.GrammarLaws.{atom_over}
use Rattle.where_grammar.proofs.Fits.{Deeper, Placed, Signed, Fits, FitAll, Fit, fit_less, fits_more}
use Rattle.where_grammar.proofs.Exactly.{whole}

unfoldable pub rule_at : ℕ → ℕ → Rule Token Tree
rule_at zero depth = or (not depth)
rule_at (suc zero) depth = and (not depth)
rule_at (suc (suc zero)) depth = not depth
rule_at (suc (suc (suc zero))) depth = is_over (atom depth)
rule_at (suc (suc (suc (suc zero)))) depth = cmp (range (atom depth))
rule_at (suc (suc (suc (suc (suc zero))))) depth = range (atom depth)
rule_at (suc (suc (suc (suc (suc (suc n)))))) depth = atom depth

-- what a level spells, the one below it spells
pub promote : (n depth : ℕ) (ts : List Token) (e : Tree) → (rule_at (suc n) depth).spells ts e → (rule_at n depth).spells ts e
unfolding rule_at not atom
promote zero depth ts e s = (ts, [], e, sym (append-nil ts), s, ([], [], [], refl, refl, (refl, refl)))
promote (suc zero) depth ts e s = (ts, [], e, sym (append-nil ts), s, ([], [], [], refl, refl, (refl, refl)))
promote (suc (suc zero)) zero ts e s = s
promote (suc (suc zero)) (suc depth) ts e s = inr s
promote (suc (suc (suc zero))) depth ts e s = (ts, [], e, sym (append-nil ts), s, inr (refl, refl))
promote (suc (suc (suc (suc zero)))) depth ts e s = (ts, [], e, sym (append-nil ts), s, inr (refl, refl))
promote (suc (suc (suc (suc (suc zero))))) depth ts e s = (ts, [], e, sym (append-nil ts), s, inr (refl, refl))
promote (suc (suc (suc (suc (suc (suc n)))))) depth ts e s = s

pub promoted : (k n depth : ℕ) (ts : List Token) (e : Tree) → (rule_at (k + n) depth).spells ts e → (rule_at n depth).spells ts e
promoted zero n depth ts e s = let z : zero + n ≡ n = omega arith in subst (λ m. (rule_at m depth).spells ts e) z s
promoted (suc k) n depth ts e s = let z : suc k + n ≡ suc (k + n) = omega arith in promoted k n depth ts e (promote (k + n) depth ts e (subst (λ m. (rule_at m depth).spells ts e) z s))

pub promote_to : (n m depth : ℕ) (ts : List Token) (e : Tree) → n ≤ m → (rule_at m depth).spells ts e → (rule_at n depth).spells ts e
promote_to n m depth ts e h s = let z : m ≡ (m - n) + n = omega arith in promoted (m - n) n depth ts e (subst (λ k. (rule_at k depth).spells ts e) z s)

pub grouped : (depth : ℕ) (ts : List Token) (e : Tree) → (rule_at 0 depth).spells ts e → (rule_at 6 (suc depth)).spells (tokens.Open ∷ (ts ++ tokens.Close ∷ [])) e
unfolding rule_at atom
grouped depth ts e s = inl (tokens.Open ∷ [], ts ++ tokens.Close ∷ [], tt, refl, (tokens.Open, refl, refl), (ts, tokens.Close ∷ [], e, refl, s, (tokens.Close ∷ [], [], tt, refl, (tokens.Close, refl, refl), (refl, refl))))

pub level_six : (e : Tree) → level e ≤ 6
level_six (AnyOf ts) = omega arith
level_six (AllOf ts) = omega arith
level_six (NotOf e) = omega arith
level_six (IsOf left negated test) = omega arith
level_six (DistinctOf left negated right) = omega arith
level_six (Compared op left right) = omega arith
level_six (WithinOf left negated list) = omega arith
level_six (BetweenOf left negated low high) = omega arith
level_six (LikeOf left negated pattern) = omega arith
level_six e = omega arith

pub placed_by : (e : Tree) (need depth : ℕ) → need ≤ 6 → ((d : ℕ) → Fits e d → (rule_at (level e) d).spells (canonical e) e) → (b : Bool) → nat_lt (level e) need ≡ b → Placed b (λ n. Fits e n) depth → (rule_at need depth).spells (cond b (tokens.Open ∷ (canonical e ++ tokens.Close ∷ [])) (canonical e)) e
placed_by e need zero small h true t f = absurd f
placed_by e need (suc depth) small h true t f =
    promote_to need 6 (suc depth) (tokens.Open ∷ (canonical e ++ tokens.Close ∷ [])) e small (grouped depth (canonical e) e (promote_to 0 (level e) depth (canonical e) e (omega arith) (h depth f)))
placed_by e need depth small h false t f = promote_to need (level e) depth (canonical e) e (not_less (level e) need t) (h depth f) where
  not_less : (a b : ℕ) → nat_lt a b ≡ false → b ≤ a
  not_less a b t = ltb-false a b t

pub placed : (e : Tree) (need depth : ℕ) → need ≤ 6 → ((d : ℕ) → Fits e d → (rule_at (level e) d).spells (canonical e) e) → Fit need e depth → (rule_at need depth).spells (wrapped (level e) need (canonical e)) e
placed e need depth small h f = placed_by e need depth small h (nat_lt (level e) need) refl f

unfoldable pub list_of : Trees → List Tree
list_of NoTree = []
list_of (TreeAnd e ts) = e ∷ list_of ts

pub trees_list : (ts : Trees) → trees (list_of ts) ≡ ts
unfolding list_of
trees_list NoTree = refl
trees_list (TreeAnd e ts) = ap (λ r. TreeAnd e r) (trees_list ts)

pub maybe_spells : (b : Bool) → (maybe_not (Without (has a_not))).spells (maybe b) b
maybe_spells true = inl (tokens.Not ∷ [], [], tt, refl, (tokens.Not, refl, refl), (refl, refl))
maybe_spells false = inr (refl, refl)

pub test_token : (test : IsTest) → a_test (asked_for test) ≡ Some test
test_token tests.Null = refl
test_token tests.True = refl
test_token tests.False = refl
test_token tests.Unknown = refl

pub negative_token : (n : ℕ) → nat_lt (2 ^ 63) (suc n) ≡ false → a_negative (tokens.Digits (suc n)) ≡ Some (IntOf (negsuc n))
negative_token n e = ap (λ b. cond b None (Some (IntOf (negsuc n)))) e

pub plain_token : (n : ℕ) → nat_lt n (2 ^ 63) ≡ true → a_leaf (tokens.Digits n) ≡ Some (IntOf (pos n))
plain_token n e = ap (λ b. cond b (Some (IntOf (pos n))) None) e

pub leaf_atom : (depth : ℕ) (ts : List Token) (e : Tree) → plain.spells ts e → (rule_at 6 depth).spells ts e
unfolding rule_at atom
leaf_atom zero ts e s = s
leaf_atom (suc depth) ts e s = inr s

pub integer_spells : (z : ℤ) → Signed z → plain.spells (integer z) (IntOf z)
integer_spells (pos n) h = inr (tokens.Digits n, refl, plain_token n h)
integer_spells (negsuc n) h = inl (tokens.Minus ∷ [], tokens.Digits (suc n) ∷ [], tt, refl, (tokens.Minus, refl, refl), (tokens.Digits (suc n), refl, negative_token n h))

pub truth_spells : (b : Bool) → a_leaf (truth b) ≡ Some (BoolOf b)
truth_spells true = refl
truth_spells false = refl

-- a list of two members at least, behind a word
pub any_spells : (a b : Tree) (ts : Trees) (depth : ℕ) (first others : List Token) → (rule_at 1 depth).spells first a → more_spells (has an_or) (rule_at 1 depth).spells others (b ∷ list_of ts) → (rule_at 0 depth).spells (first ++ others) (AnyOf (TreeAnd a (TreeAnd b ts)))
unfolding rule_at
any_spells a b ts depth first others s m =
    let t : AnyOf (TreeAnd a (TreeAnd b ts)) ≡ AnyOf (TreeAnd a (TreeAnd b (trees (list_of ts)))) = ap (λ r. AnyOf (TreeAnd a (TreeAnd b r))) (sym (trees_list ts)) in
    (first, others, a, refl, s, (others, [], b ∷ list_of ts, sym (append-nil others), m, (refl, t)))

pub all_spells : (a b : Tree) (ts : Trees) (depth : ℕ) (first others : List Token) → (rule_at 2 depth).spells first a → more_spells (has an_and) (rule_at 2 depth).spells others (b ∷ list_of ts) → (rule_at 1 depth).spells (first ++ others) (AllOf (TreeAnd a (TreeAnd b ts)))
unfolding rule_at
all_spells a b ts depth first others s m =
    let t : AllOf (TreeAnd a (TreeAnd b ts)) ≡ AllOf (TreeAnd a (TreeAnd b (trees (list_of ts)))) = ap (λ r. AllOf (TreeAnd a (TreeAnd b r))) (sym (trees_list ts)) in
    (first, others, a, refl, s, (others, [], b ∷ list_of ts, sym (append-nil others), m, (refl, t)))

pub not_spells : (e : Tree) (depth : ℕ) (ts : List Token) → Deeper (λ d. (rule_at 2 d).spells ts e) depth → (rule_at 2 depth).spells (tokens.Not ∷ ts) (NotOf e)
unfolding rule_at not
not_spells e zero ts h = absurd h
not_spells e (suc depth) ts h = inl (tokens.Not ∷ [], ts, tt, refl, (tokens.Not, refl, refl), (ts, [], e, sym (append-nil ts), h, (refl, refl)))

pub deeper_map : (P Q : ℕ → Type 0) → ((n : ℕ) → P n → Q n) → (n : ℕ) → Deeper P n → Deeper Q n
deeper_map P Q f zero h = absurd h
deeper_map P Q f (suc n) h = f n h

pub is_spells : (left : Tree) (negated : Bool) (test : IsTest) (depth : ℕ) (ts : List Token) → (rule_at 4 depth).spells ts left → (rule_at 3 depth).spells (ts ++ (tokens.Is ∷ (maybe negated ++ asked_for test ∷ []))) (IsOf left negated test)
unfolding rule_at
is_spells left negated test depth ts s = (
  ts,
  tokens.Is ∷ (maybe negated ++ asked_for test ∷ []),
  left,
  refl,
  s,
  inl (
    tokens.Is ∷ [],
    maybe negated ++ asked_for test ∷ [],
    tt,
    refl,
    (tokens.Is, refl, refl),
    (
      maybe negated,
      asked_for test ∷ [],
      negated,
      refl,
      maybe_spells negated,
      inr (asked_for test ∷ [], [], test, refl, (asked_for test, refl, test_token test), (refl, refl)),
    ),
  ),
)

pub distinct_spells : (left : Tree) (negated : Bool) (right : Tree) (depth : ℕ) (ts us : List Token) → (rule_at 4 depth).spells ts left → (rule_at 4 depth).spells us right → (rule_at 3 depth).spells (ts ++ (tokens.Is ∷ (maybe negated ++ (tokens.Distinct ∷ tokens.From ∷ us)))) (DistinctOf left negated right)
unfolding rule_at
distinct_spells left negated right depth ts us s u = (
  ts,
  tokens.Is ∷ (maybe negated ++ (tokens.Distinct ∷ tokens.From ∷ us)),
  left,
  refl,
  s,
  inl (
    tokens.Is ∷ [],
    maybe negated ++ (tokens.Distinct ∷ tokens.From ∷ us),
    tt,
    refl,
    (tokens.Is, refl, refl),
    (
      maybe negated,
      tokens.Distinct ∷ tokens.From ∷ us,
      negated,
      refl,
      maybe_spells negated,
      inl (tokens.Distinct ∷ [], tokens.From ∷ us, tt, refl, (tokens.Distinct, refl, refl), (tokens.From ∷ [], us, tt, refl, (tokens.From, refl, refl), (us, [], right, sym (append-nil us), u, (refl, refl)))),
    ),
  ),
)

pub compared_spells : (op : CmpOp) (left right : Tree) (depth : ℕ) (ts us : List Token) → (rule_at 5 depth).spells ts left → (rule_at 5 depth).spells us right → (rule_at 4 depth).spells (ts ++ (tokens.Compare op ∷ us)) (Compared op left right)
unfolding rule_at
compared_spells op left right depth ts us s u = (
  ts,
  tokens.Compare op ∷ us,
  left,
  refl,
  s,
  inl (tokens.Compare op ∷ [], us, op, refl, (tokens.Compare op, refl, refl), (us, [], right, sym (append-nil us), u, (refl, refl))),
)

pub within_spells : (left : Tree) (negated : Bool) (first : Tree) (rest : Trees) (depth : ℕ) (ts us vs : List Token) → (rule_at 6 depth).spells ts left → (rule_at 6 depth).spells us first → more_spells (has a_comma) (rule_at 6 depth).spells vs (list_of rest) → (rule_at 5 depth).spells (ts ++ (maybe negated ++ (tokens.In ∷ tokens.Open ∷ ((us ++ vs) ++ tokens.Close ∷ [])))) (WithinOf left negated (TreeAnd first rest))
unfolding rule_at
within_spells left negated first rest depth ts us vs s u m =
    let t : WithinOf left negated (TreeAnd first rest) ≡ WithinOf left negated (TreeAnd first (trees (list_of rest))) = ap (λ r. WithinOf left negated (TreeAnd first r)) (sym (trees_list rest)) in (
      ts,
      maybe negated ++ (tokens.In ∷ tokens.Open ∷ ((us ++ vs) ++ tokens.Close ∷ [])),
      left,
      refl,
      s,
      inl (
        maybe negated,
        tokens.In ∷ tokens.Open ∷ ((us ++ vs) ++ tokens.Close ∷ []),
        negated,
        refl,
        maybe_spells negated,
        inl (
          tokens.In ∷ [],
          tokens.Open ∷ ((us ++ vs) ++ tokens.Close ∷ []),
          tt,
          refl,
          (tokens.In, refl, refl),
          (
            tokens.Open ∷ [],
            (us ++ vs) ++ tokens.Close ∷ [],
            tt,
            refl,
            (tokens.Open, refl, refl),
            (
              us,
              vs ++ tokens.Close ∷ [],
              first,
              append_assoc us vs (tokens.Close ∷ []),
              u,
              (vs, tokens.Close ∷ [], list_of rest, refl, m, (tokens.Close ∷ [], [], tt, refl, (tokens.Close, refl, refl), (refl, t))),
            ),
          ),
        ),
      ),
    )

pub between_spells : (left : Tree) (negated : Bool) (low high : Tree) (depth : ℕ) (ts us vs : List Token) → (rule_at 6 depth).spells ts left → (rule_at 6 depth).spells us low → (rule_at 6 depth).spells vs high → (rule_at 5 depth).spells (ts ++ (maybe negated ++ (tokens.Between ∷ (us ++ (tokens.And ∷ vs))))) (BetweenOf left negated low high)
unfolding rule_at
between_spells left negated low high depth ts us vs s u v = (
  ts,
  maybe negated ++ (tokens.Between ∷ (us ++ (tokens.And ∷ vs))),
  left,
  refl,
  s,
  inl (
    maybe negated,
    tokens.Between ∷ (us ++ (tokens.And ∷ vs)),
    negated,
    refl,
    maybe_spells negated,
    inr (inl (
      tokens.Between ∷ [],
      us ++ (tokens.And ∷ vs),
      tt,
      refl,
      (tokens.Between, refl, refl),
      (us, tokens.And ∷ vs, low, refl, u, (tokens.And ∷ [], vs, tt, refl, (tokens.And, refl, refl), (vs, [], high, sym (append-nil vs), v, (refl, refl)))),
    )),
  ),
)

pub like_spells : (left : Tree) (negated : Bool) (pattern : List ℕ) (depth : ℕ) (ts : List Token) → (rule_at 6 depth).spells ts left → (rule_at 5 depth).spells (ts ++ (maybe negated ++ (tokens.Like ∷ tokens.Quoted pattern ∷ []))) (LikeOf left negated pattern)
unfolding rule_at
like_spells left negated pattern depth ts s = (
  ts,
  maybe negated ++ (tokens.Like ∷ tokens.Quoted pattern ∷ []),
  left,
  refl,
  s,
  inl (
    maybe negated,
    tokens.Like ∷ tokens.Quoted pattern ∷ [],
    negated,
    refl,
    maybe_spells negated,
    inr (inr (tokens.Like ∷ [], tokens.Quoted pattern ∷ [], tt, refl, (tokens.Like, refl, refl), (tokens.Quoted pattern ∷ [], [], pattern, refl, (tokens.Quoted pattern, refl, refl), (refl, refl)))),
  ),
)

mutual
  unfolding list_of

  pub canonical_spells : (e : Tree) (depth : ℕ) → Fits e depth → (rule_at (level e) depth).spells (canonical e) e
  canonical_spells (AnyOf NoTree) depth f = absurd f.0
  canonical_spells (AnyOf (TreeAnd a NoTree)) depth f = absurd f.0
  canonical_spells (AnyOf (TreeAnd a (TreeAnd b ts))) depth f =
      any_spells a b ts depth (wrapped (level a) 1 (canonical a)) (others tokens.Or 1 (TreeAnd b ts))
      (placed a 1 depth (omega arith) (λ d g. canonical_spells a d g) f.1.0)
      (others_spells (TreeAnd b ts) 1 depth tokens.Or (has an_or) refl (omega arith) f.1.1)
  canonical_spells (AllOf NoTree) depth f = absurd f.0
  canonical_spells (AllOf (TreeAnd a NoTree)) depth f = absurd f.0
  canonical_spells (AllOf (TreeAnd a (TreeAnd b ts))) depth f =
      all_spells a b ts depth (wrapped (level a) 2 (canonical a)) (others tokens.And 2 (TreeAnd b ts))
      (placed a 2 depth (omega arith) (λ d g. canonical_spells a d g) f.1.0)
      (others_spells (TreeAnd b ts) 2 depth tokens.And (has an_and) refl (omega arith) f.1.1)
  canonical_spells (NotOf e) depth f =
      not_spells e depth (wrapped (level e) 2 (canonical e)) (deeper_map (λ d. Fit 2 e d) (λ d. (rule_at 2 d).spells (wrapped (level e) 2 (canonical e)) e) (λ d g. placed e 2 d (omega arith) (λ n h. canonical_spells e n h) g) depth f)
  canonical_spells (IsOf left negated test) depth f = is_spells left negated test depth (wrapped (level left) 4 (canonical left)) (placed left 4 depth (omega arith) (λ d g. canonical_spells left d g) f)
  canonical_spells (DistinctOf left negated right) depth f = distinct_spells left negated right depth (wrapped (level left) 4 (canonical left)) (wrapped (level right) 4 (canonical right))
      (placed left 4 depth (omega arith) (λ d g. canonical_spells left d g) f.0) (placed right 4 depth (omega arith) (λ d g. canonical_spells right d g) f.1)
  canonical_spells (Compared op left right) depth f = compared_spells op left right depth (wrapped (level left) 5 (canonical left)) (wrapped (level right) 5 (canonical right))
      (placed left 5 depth (omega arith) (λ d g. canonical_spells left d g) f.0) (placed right 5 depth (omega arith) (λ d g. canonical_spells right d g) f.1)
  canonical_spells (WithinOf left negated NoTree) depth f = absurd f.1
  canonical_spells (WithinOf left negated (TreeAnd first rest)) depth f = within_spells left negated first rest depth (wrapped (level left) 6 (canonical left)) (wrapped (level first) 6 (canonical first)) (others tokens.Comma 6 rest)
      (placed left 6 depth (omega arith) (λ d g. canonical_spells left d g) f.0) (placed first 6 depth (omega arith) (λ d g. canonical_spells first d g) f.2.0)
      (others_spells rest 6 depth tokens.Comma (has a_comma) refl (omega arith) f.2.1)
  canonical_spells (BetweenOf left negated low high) depth f = between_spells left negated low high depth (wrapped (level left) 6 (canonical left)) (wrapped (level low) 6 (canonical low)) (wrapped (level high) 6 (canonical high))
      (placed left 6 depth (omega arith) (λ d g. canonical_spells left d g) f.0) (placed low 6 depth (omega arith) (λ d g. canonical_spells low d g) f.1) (placed high 6 depth (omega arith) (λ d g. canonical_spells high d g) f.2)
  canonical_spells (LikeOf left negated pattern) depth f = like_spells left negated pattern depth (wrapped (level left) 6 (canonical left)) (placed left 6 depth (omega arith) (λ d g. canonical_spells left d g) f)
  canonical_spells (NameOf name) depth f = leaf_atom depth (tokens.Name name ∷ []) (NameOf name) (inr (tokens.Name name, refl, refl))
  canonical_spells (IntOf z) depth f = leaf_atom depth (integer z) (IntOf z) (integer_spells z f)
  canonical_spells (QuotedOf text) depth f = leaf_atom depth (tokens.Quoted text ∷ []) (QuotedOf text) (inr (tokens.Quoted text, refl, refl))
  canonical_spells (BoolOf b) depth f = leaf_atom depth (truth b ∷ []) (BoolOf b) (inr (truth b, refl, truth_spells b))
  canonical_spells NullOf depth f = leaf_atom depth (tokens.Null ∷ []) NullOf (inr (tokens.Null, refl, refl))

  pub others_spells : (ts : Trees) (need depth : ℕ) (word : Token) (test : Token → Bool) → test word ≡ true → need ≤ 6 → FitAll need ts depth → more_spells test (rule_at need depth).spells (others word need ts) (list_of ts)
  others_spells NoTree need depth word test e small f = refl
  others_spells (TreeAnd a ts) need depth word test e small f =
      (word, wrapped (level a) need (canonical a), others word need ts, refl, e, placed a need depth small (λ d g. canonical_spells a d g) f.0, others_spells ts need depth word test e small f.1)

-- what is in the grammar fits

pub some_is : (x y : Tree) → Some x ≡ Some y → x ≡ y
some_is x y h = cc

pub none_is : (y : Tree) → None ≡ Some y → ⊥
none_is y h = cc

pub leaf_fits : (t : Token) (e : Tree) (depth : ℕ) → a_leaf t ≡ Some e → Fit 6 e depth
leaf_fits (tokens.Name name) e depth h = subst (λ x. Fit 6 x depth) (some_is (NameOf name) e h) tt
leaf_fits (tokens.Quoted text) e depth h = subst (λ x. Fit 6 x depth) (some_is (QuotedOf text) e h) tt
leaf_fits tokens.True e depth h = subst (λ x. Fit 6 x depth) (some_is (BoolOf true) e h) tt
leaf_fits tokens.False e depth h = subst (λ x. Fit 6 x depth) (some_is (BoolOf false) e h) tt
leaf_fits tokens.Null e depth h = subst (λ x. Fit 6 x depth) (some_is NullOf e h) tt
leaf_fits (tokens.Digits n) e depth h = by (nat_lt n (2 ^ 63)) refl h where
  by : (b : Bool) → nat_lt n (2 ^ 63) ≡ b → cond b (Some (IntOf (pos n))) None ≡ Some e → Fit 6 e depth
  by true i k = subst (λ x. Fit 6 x depth) (some_is (IntOf (pos n)) e k) i
  by false i k = absurd (none_is e k)
leaf_fits t e depth h = absurd (none_is e h)

pub signed_neg : (n : ℕ) → nat_lt (2 ^ 63) n ≡ false → Signed (neg_ℤ (pos n))
signed_neg zero e = refl
signed_neg (suc n) e = e

pub negative_fits : (t : Token) (e : Tree) (depth : ℕ) → a_negative t ≡ Some e → Fit 6 e depth
negative_fits (tokens.Digits n) e depth h = by (nat_lt (2 ^ 63) n) refl h where
  by : (b : Bool) → nat_lt (2 ^ 63) n ≡ b → cond b None (Some (IntOf (neg_ℤ (pos n)))) ≡ Some e → Fit 6 e depth
  by true i k = absurd (none_is e k)
  by false i k = subst (λ x. Fit 6 x depth) (some_is (IntOf (neg_ℤ (pos n))) e k) (signed_neg n i)
negative_fits t e depth h = absurd (none_is e h)

pub plain_fits : (ts : List Token) (e : Tree) (depth : ℕ) → plain.spells ts e → Fit 6 e depth
plain_fits ts e depth (inl s) = negative_fits s.5.0 e depth s.5.2
plain_fits ts e depth (inr s) = leaf_fits s.0 e depth s.2

-- each tree of the rule fits at the place
abbrev pub Fitting : Rule Token Tree → ℕ → ℕ → Type 0
Fitting p need depth = (ts : List Token) (e : Tree) → p.spells ts e → Fit need e depth

pub more_fit : (p : Rule Token Tree) (test : Token → Bool) (need depth : ℕ) → Fitting p need depth → (all : List Tree) (ts : List Token) → more_spells test p.spells ts all → FitAll need (trees all) depth
more_fit p test need depth h [] ts s = tt
more_fit p test need depth h (e ∷ es) ts s = (h s.1 e s.5, more_fit p test need depth h es s.2 s.6)

pub predicate_fits : (p : Rule Token Tree) (depth : ℕ) → Fitting p 6 depth → (left : Tree) (negated : Bool) → Fit 6 left depth → (ts : List Token) (e : Tree) → (predicate p left negated).spells ts e → Fit 5 e depth
predicate_fits p depth h left negated l ts e (inl s) =
    let inner = s.5.5 in
    let list = inner.5 in
    subst (λ x. Fit 5 x depth) (sym list.5.5.1) (l, tt, (h inner.0 inner.2 inner.4, more_fit p (has a_comma) 6 depth h list.2 list.0 list.4))
predicate_fits p depth h left negated l ts e (inr (inl s)) =
    let low = s.5 in
    let high = low.5.5 in
    subst (λ x. Fit 5 x depth) (sym high.5.1) (l, h low.0 low.2 low.4, h high.0 high.2 high.4)
predicate_fits p depth h left negated l ts e (inr (inr s)) = subst (λ x. Fit 5 x depth) (sym s.5.5.1) l

pub range_fits : (p : Rule Token Tree) (depth : ℕ) → Fitting p 6 depth → Fitting (range p) 5 depth
range_fits p depth h ts e s = by s.5 where
  by : (range_tail p s.2).spells s.1 e → Fit 5 e depth
  by (inl q) = predicate_fits p depth h s.2 q.2 (h s.0 s.2 s.4) q.1 e q.5
  by (inr q) = subst (λ x. Fit 5 x depth) (sym q.1) (fit_less s.2 5 6 depth (omega arith) (h s.0 s.2 s.4))

pub cmp_fits : (p : Rule Token Tree) (depth : ℕ) → Fitting p 5 depth → Fitting (cmp p) 4 depth
cmp_fits p depth h ts e s = by s.5 where
  by : (cmp_tail p s.2).spells s.1 e → Fit 4 e depth
  by (inl q) = subst (λ x. Fit 4 x depth) (sym q.5.5.1) (h s.0 s.2 s.4, h q.5.0 q.5.2 q.5.4)
  by (inr q) = subst (λ x. Fit 4 x depth) (sym q.1) (fit_less s.2 4 5 depth (omega arith) (h s.0 s.2 s.4))

pub right_fits : (p : Rule Token Tree) (depth : ℕ) → Fitting p 4 depth → (left : Tree) (negated : Bool) → Fit 4 left depth → (ts : List Token) (e : Tree) → (is_right p left negated).spells ts e → Fit 3 e depth
right_fits p depth h left negated l ts e (inl s) =
    let right = s.5.5 in
    subst (λ x. Fit 3 x depth) (sym right.5.1) (l, h right.0 right.2 right.4)
right_fits p depth h left negated l ts e (inr s) = subst (λ x. Fit 3 x depth) (sym s.5.1) l

pub is_fits : (p : Rule Token Tree) (depth : ℕ) → Fitting p 4 depth → Fitting (is p) 3 depth
is_fits p depth h ts e s = by s.5 where
  by : (is_tail p s.2).spells s.1 e → Fit 3 e depth
  by (inl q) = right_fits p depth h s.2 q.5.2 (h s.0 s.2 s.4) q.5.1 e q.5.5
  by (inr q) = subst (λ x. Fit 3 x depth) (sym q.1) (fit_less s.2 3 4 depth (omega arith) (h s.0 s.2 s.4))

pub and_fits : (p : Rule Token Tree) (depth : ℕ) → Fitting p 2 depth → Fitting (and p) 1 depth
and_fits p depth h ts e s = by s.5.2 s.5.4 s.5.5.1 where
  by : (all : List Tree) → more_spells (has an_and) p.spells s.5.0 all → e ≡ all_of s.2 all → Fit 1 e depth
  by [] m i = subst (λ x. Fit 1 x depth) (sym i) (fit_less s.2 1 2 depth (omega arith) (h s.0 s.2 s.4))
  by (b ∷ bs) m i = subst (λ x. Fit 1 x depth) (sym i) (tt, (h s.0 s.2 s.4, more_fit p (has an_and) 2 depth h (b ∷ bs) s.5.0 m))

pub or_fits : (p : Rule Token Tree) (depth : ℕ) → Fitting p 2 depth → Fitting (or p) 0 depth
or_fits p depth h ts e s = by s.5.2 s.5.4 s.5.5.1 where
  by : (all : List Tree) → more_spells (has an_or) (and p).spells s.5.0 all → e ≡ any_of s.2 all → Fit 0 e depth
  by [] m i = subst (λ x. Fit 0 x depth) (sym i) (fit_less s.2 0 1 depth (omega arith) (and_fits p depth h s.0 s.2 s.4))
  by (b ∷ bs) m i = subst (λ x. Fit 0 x depth) (sym i) (tt, (and_fits p depth h s.0 s.2 s.4, more_fit (and p) (has an_or) 1 depth (and_fits p depth h) (b ∷ bs) s.5.0 m))

pub fit_zero : (e : Tree) (depth : ℕ) → Fit 0 e depth → Fits e depth
fit_zero e depth f = subst (λ b. Placed b (λ n. Fits e n) depth) (le-ltb (level e) 0 (omega arith)) f

-- a group is one level deeper
pub group_fits : (e : Tree) (depth : ℕ) → Fit 0 e depth → Fit 6 e (suc depth)
group_fits e depth f = by (nat_lt (level e) 6) where
  by : (b : Bool) → Placed b (λ n. Fits e n) (suc depth)
  by true = fit_zero e depth f
  by false = fits_more e depth (fit_zero e depth f)

pub atom_over_fits : (p : Rule Token Tree) (depth : ℕ) → Fitting p 2 depth → Fitting (atom_over p) 6 (suc depth)
atom_over_fits p depth h ts e (inl s) =
    let inner = s.5 in
    subst (λ x. Fit 6 x (suc depth)) (sym inner.5.5.1) (group_fits inner.2 depth (or_fits p depth h inner.0 inner.2 inner.4))
atom_over_fits p depth h ts e (inr s) = plain_fits ts e (suc depth) s

pub is_over_fits : (p : Rule Token Tree) (depth : ℕ) → Fitting p 6 depth → Fitting (is_over p) 3 depth
is_over_fits p depth h = is_fits (cmp (range p)) depth (cmp_fits (range p) depth (range_fits p depth h))

pub inside_fits : (p : Rule Token Tree) (depth : ℕ) → Fitting p 2 depth → Fitting (not_inside p) 2 (suc depth)
inside_fits p depth h ts e (inl s) = subst (λ x. Fit 2 x (suc depth)) (sym s.5.5.1) (h s.5.0 s.5.2 s.5.4)
inside_fits p depth h ts e (inr s) = fit_less e 2 3 (suc depth) (omega arith) (is_over_fits (atom_over p) (suc depth) (atom_over_fits p depth h) ts e s)

pub not_fits : (depth : ℕ) → Fitting (not depth) 2 depth
unfolding not
not_fits zero = λ ts e s. fit_less e 2 3 0 (omega arith) (is_over_fits (barred (has an_open) plain) 0 (λ us x r. plain_fits us x 0 r) ts e s)
not_fits (suc depth) = inside_fits (not depth) depth (not_fits depth)

pub clause_fits : (depth : ℕ) (ts : List Token) (e : Tree) → IsClause depth ts e → Fits e depth
unfolding clause
clause_fits depth ts e s = subst (λ x. Fits x depth) (sym s.5.1) (fit_zero s.2 depth (or_fits (not depth) depth (not_fits depth) s.0 s.2 s.4))

-- what is printed is a clause, of the same tree
pub printed : (depth : ℕ) (e : Tree) → Fits e depth → IsClause depth (canonical e) e
unfolding clause rule_at
printed depth e f = (canonical e, [], e, sym (append-nil (canonical e)), promote_to 0 (level e) depth (canonical e) e (omega arith) (canonical_spells e depth f), (refl, refl))

pub round_trip : RoundTrip
round_trip depth ts e s = whole depth (canonical e) e (printed depth e (clause_fits depth ts e s))
