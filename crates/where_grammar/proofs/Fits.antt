-- Which trees have canonical tokens at a nesting.
use Rattle.std.proofs.Common.{◌≡◌, ℕ, zero, suc, ◌≤◌, ◌<◌, Bool, true, false, ℤ, pos, negsuc, nat_lt, ◌^◌, refl, arith}
use Rattle.std.proofs.lemmas.Bool.{ltb-true, lt-ltb}
use Rattle.where_grammar.specs.Tree.{Tree, AnyOf, AllOf, NotOf, IsOf, DistinctOf, Compared, WithinOf, BetweenOf, LikeOf, NameOf, IntOf, QuotedOf, BoolOf, NullOf, Trees, NoTree, TreeAnd}
use Rattle.where_grammar.specs.Printing.{level}

abbrev pub Deeper : (ℕ → Type 0) → ℕ → Type 0
Deeper P zero = ⊥
Deeper P (suc depth) = P depth

-- one level deeper where parentheses are wanted
abbrev pub Placed : Bool → (ℕ → Type 0) → ℕ → Type 0
Placed true P depth = Deeper P depth
Placed false P depth = P depth

abbrev pub Signed : ℤ → Type 0
Signed (pos n) = nat_lt n (2 ^ 63) ≡ true
Signed (negsuc n) = nat_lt (2 ^ 63) (suc n) ≡ false

abbrev pub IsSome : Trees → Type 0
IsSome NoTree = ⊥
IsSome (TreeAnd e ts) = Unit {0}

abbrev pub IsMany : Trees → Type 0
IsMany NoTree = ⊥
IsMany (TreeAnd e ts) = IsSome ts

abbrev mutual
  pub Fits : Tree → ℕ → Type 0
  Fits (AnyOf ts) depth = IsMany ts × FitAll 1 ts depth
  Fits (AllOf ts) depth = IsMany ts × FitAll 2 ts depth
  Fits (NotOf e) depth = Deeper (λ d. Placed (nat_lt (level e) 2) (λ n. Fits e n) d) depth
  Fits (IsOf left negated test) depth = Placed (nat_lt (level left) 4) (λ n. Fits left n) depth
  Fits (DistinctOf left negated right) depth = Placed (nat_lt (level left) 4) (λ n. Fits left n) depth × Placed (nat_lt (level right) 4) (λ n. Fits right n) depth
  Fits (Compared op left right) depth = Placed (nat_lt (level left) 5) (λ n. Fits left n) depth × Placed (nat_lt (level right) 5) (λ n. Fits right n) depth
  Fits (WithinOf left negated list) depth = Placed (nat_lt (level left) 6) (λ n. Fits left n) depth × IsSome list × FitAll 6 list depth
  Fits (BetweenOf left negated low high) depth = Placed (nat_lt (level left) 6) (λ n. Fits left n) depth × Placed (nat_lt (level low) 6) (λ n. Fits low n) depth × Placed (nat_lt (level high) 6) (λ n. Fits high n) depth
  Fits (LikeOf left negated pattern) depth = Placed (nat_lt (level left) 6) (λ n. Fits left n) depth
  Fits (NameOf name) depth = Unit {0}
  Fits (IntOf n) depth = Signed n
  Fits (QuotedOf text) depth = Unit {0}
  Fits (BoolOf b) depth = Unit {0}
  Fits NullOf depth = Unit {0}

  pub FitAll : ℕ → Trees → ℕ → Type 0
  FitAll need NoTree depth = Unit {0}
  FitAll need (TreeAnd e ts) depth = Placed (nat_lt (level e) need) (λ n. Fits e n) depth × FitAll need ts depth

abbrev pub Fit : ℕ → Tree → ℕ → Type 0
Fit need e depth = Placed (nat_lt (level e) need) (λ n. Fits e n) depth

pub deeper_more : (P : ℕ → Type 0) → ((n : ℕ) → P n → P (suc n)) → (n : ℕ) → Deeper P n → Deeper P (suc n)
deeper_more P step zero h = absurd h
deeper_more P step (suc n) h = step n h

pub placed_more : (b : Bool) (P : ℕ → Type 0) → ((n : ℕ) → P n → P (suc n)) → (n : ℕ) → Placed b P n → Placed b P (suc n)
placed_more true P step n h = deeper_more P step n h
placed_more false P step n h = step n h

-- what fits, fits at more
mutual
  pub fits_more : (e : Tree) (n : ℕ) → Fits e n → Fits e (suc n)
  fits_more (AnyOf ts) n h = (h.0, all_more ts 1 n h.1)
  fits_more (AllOf ts) n h = (h.0, all_more ts 2 n h.1)
  fits_more (NotOf e) n h = deeper_more (λ d. Placed (nat_lt (level e) 2) (λ m. Fits e m) d) (λ m k. placed_more (nat_lt (level e) 2) (λ i. Fits e i) (λ i l. fits_more e i l) m k) n h
  fits_more (IsOf left negated test) n h = placed_more (nat_lt (level left) 4) (λ i. Fits left i) (λ i l. fits_more left i l) n h
  fits_more (DistinctOf left negated right) n h = (placed_more (nat_lt (level left) 4) (λ i. Fits left i) (λ i l. fits_more left i l) n h.0, placed_more (nat_lt (level right) 4) (λ i. Fits right i) (λ i l. fits_more right i l) n h.1)
  fits_more (Compared op left right) n h = (placed_more (nat_lt (level left) 5) (λ i. Fits left i) (λ i l. fits_more left i l) n h.0, placed_more (nat_lt (level right) 5) (λ i. Fits right i) (λ i l. fits_more right i l) n h.1)
  fits_more (WithinOf left negated list) n h = (placed_more (nat_lt (level left) 6) (λ i. Fits left i) (λ i l. fits_more left i l) n h.0, h.1, all_more list 6 n h.2)
  fits_more (BetweenOf left negated low high) n h = (placed_more (nat_lt (level left) 6) (λ i. Fits left i) (λ i l. fits_more left i l) n h.0, placed_more (nat_lt (level low) 6) (λ i. Fits low i) (λ i l. fits_more low i l) n h.1, placed_more (nat_lt (level high) 6) (λ i. Fits high i) (λ i l. fits_more high i l) n h.2)
  fits_more (LikeOf left negated pattern) n h = placed_more (nat_lt (level left) 6) (λ i. Fits left i) (λ i l. fits_more left i l) n h
  fits_more (NameOf name) n h = tt
  fits_more (IntOf z) n h = h
  fits_more (QuotedOf text) n h = tt
  fits_more (BoolOf b) n h = tt
  fits_more NullOf n h = tt

  pub all_more : (ts : Trees) (need n : ℕ) → FitAll need ts n → FitAll need ts (suc n)
  all_more NoTree need n h = tt
  all_more (TreeAnd e ts) need n h = (placed_more (nat_lt (level e) need) (λ i. Fits e i) (λ i l. fits_more e i l) n h.0, all_more ts need n h.1)

-- a place that needs less
pub placed_less : (b c : Bool) (P : ℕ → Type 0) → ((n : ℕ) → P n → P (suc n)) → (b ≡ true → c ≡ true) → (n : ℕ) → Placed c P n → Placed b P n
placed_less true true P step i n h = h
placed_less true false P step i n h = absurd (no (i refl)) where
  no : false ≡ true → ⊥
  no e = cc
placed_less false true P step i zero h = absurd h
placed_less false true P step i (suc n) h = step n h
placed_less false false P step i n h = h

pub fit_less : (e : Tree) (less more n : ℕ) → less ≤ more → Fit more e n → Fit less e n
fit_less e less more n h k = placed_less (nat_lt (level e) less) (nat_lt (level e) more) (λ m. Fits e m) (λ m l. fits_more e m l) (λ t. lt_more (level e) less more h t) n k where
  lt_more : (a b c : ℕ) → b ≤ c → nat_lt a b ≡ true → nat_lt a c ≡ true
  lt_more a b c h t = let l : a < b = ltb-true a b t in lt-ltb a c (omega arith)
