-- Where a history breaks.
use Rattle.std.proofs.Common.{◌≡◌, ℕ, zero, suc, ◌+◌, ◌-◌, ◌<◌, ◌≤◌, ◌++◌, ◌∷◌, [], Bool, true, false, List, length, map, take, get_or, refl, sym, ◌∙◌, ap, subst, arith, ◌==◌, Option, None, Some, IfSome, IsSome, ◌⊎◌, inl, inr}
use Rattle.std.specs.Prelude.{nat_lt}
use Rattle.std.specs.Bool.{if◌then◌else◌, MatchBool}
use Rattle.std.specs.Option.{option_and_then, IsSomeAnd}
use Rattle.std.specs.List.{list_all, AllByRecursion, slice_get, slice_index_or, range_with_len}
use Rattle.std.proofs.lemmas.Bool.Decides.{Decides-eqb, nat_tests}
use Rattle.std.proofs.lemmas.Bool.{cases_lt}
use Rattle.std.proofs.lemmas.Option.{slice_get_past}
use Rattle.std.proofs.lemmas.List.{take_more, length-map}
use Rattle.std.proofs.lemmas.List.FromFn.{length-range_with_len}
use Rattle.shape_base.specs.declared.definition.TableDef.{TableDef}
use Rattle.shape_base.specs.declared.change.Change.{Change}
use Rattle.shape_base.specs.declared.change.Tx.{Tx}
use Rattle.shape_base.specs.declared.served.Served.{Served}
use Rattle.shape_base.specs.declared.history.Step.{Step}
use Rattle.shape_base.specs.declared.history.Step.TheVariants.{Commit, Define}
use Rattle.shape_base.specs.declared.history.History.{History}
use Rattle.shape_base.specs.Tables.{Table, FitsDef, AreGoodSteps, AreInRange, IsStepInRange, RiseFrom, IsGoodTable, IsGoodHistory}
use Rattle.shape_model.specs.declared.checks.Standing.{Standing}
use Rattle.shape_model.specs.Checks.{fit_def, check_steps}
use Rattle.shape_model.specs.Order.{are_placed, is_whole, is_served, check_order, check_orders}
use Rattle.shape_model.specs.Breaks.{up_to, IsFirstBreak, IsGoodAt, IsGoodTo}
use Rattle.shape_model.proofs.Deciding.{fits_of, of_fits, good_steps, of_steps, if_both, both}

-- where the steps of a list are in order
placed_of : (i : ℕ) (ds : List TableDef) → are_placed i ds ≡ true → map (λ (d : TableDef). d.table) ds ≡ range_with_len i (length ds)
placed_of i [] h = refl
placed_of i (d ∷ ds) h = let p = if_both (d.table == i) _ h in let here : d.table ≡ i = (Decides-eqb d.table i).0 p.0 in λ j. here j ∷ placed_of (i + 1) ds p.1 j

of_placed : (i : ℕ) (ds : List TableDef) → map (λ (d : TableDef). d.table) ds ≡ range_with_len i (length ds) → are_placed i ds ≡ true
of_placed i [] h = refl
of_placed i (d ∷ ds) h = let here : d.table ≡ i = cc in let rest : map (λ (x : TableDef). x.table) ds ≡ range_with_len (i + 1) (length ds) = cc in rw ((Decides-eqb d.table i).1 here) (of_placed (i + 1) ds rest)

-- the base of a history is whole
pub record IsWhole (h : History) : Type 0 where
  pub bases : length h.base ≡ length h.tables
  pub defs : length h.defs ≡ length h.tables
  pub placed : map (λ (d : TableDef). d.table) h.defs ≡ range_with_len 0 (length h.tables)

pub whole_of : (h : History) → is_whole h ≡ true → IsWhole h
whole_of h e =
    let p = if_both (length h.base == length h.tables) _ e in let q = if_both (length h.defs == length h.tables) _ p.1 in
    let same : length h.defs ≡ length h.tables = (Decides-eqb (length h.defs) (length h.tables)).0 q.0 in
    record { bases = (Decides-eqb (length h.base) (length h.tables)).0 p.0; defs = same; placed = placed_of 0 h.defs q.1 ∙ ap (range_with_len 0) same }

defs_same : (h : History) → map (λ (d : TableDef). d.table) h.defs ≡ range_with_len 0 (length h.tables) → length h.defs ≡ length h.tables
defs_same h placed = sym (length-map h.defs (λ (d : TableDef). d.table)) ∙ ap length placed ∙ length-range_with_len 0 (length h.tables)

of_whole : (h : History) → length h.base ≡ length h.tables → map (λ (d : TableDef). d.table) h.defs ≡ range_with_len 0 (length h.tables) → is_whole h ≡ true
of_whole h bases placed =
    let same = defs_same h placed in
    rw ((Decides-eqb (length h.base) (length h.tables)).1 bases) (rw ((Decides-eqb (length h.defs) (length h.tables)).1 same) (of_placed 0 h.defs (placed ∙ ap (range_with_len 0) (sym same))))

not_whole : (h : History) → is_whole h ≡ false → IsGoodHistory (up_to h 0) → ⊥
not_whole h e good = let t : is_whole h ≡ true = of_whole h good.bases good.placed in cc

pub broken_base : (h : History) → is_whole h ≡ false → IsFirstBreak h 0
broken_base h e = record { there = omega arith; broken = not_whole h e; before = λ lt. absurd (omega (arith, lt)) }

-- the order of commits
served_of : (tables : ℕ) (o : Option TableDef) → is_served tables o ≡ true → IsSomeAnd o (λ d. d.table < tables)
served_of tables None h = cc
served_of tables (Some d) h = grind (arith, nat_tests)

of_served : (tables : ℕ) (o : Option TableDef) → IsSomeAnd o (λ d. d.table < tables) → is_served tables o ≡ true
of_served tables None h = absurd h
of_served tables (Some d) h = grind (arith, nat_tests)

range_of : (tables : ℕ) (defs : List TableDef) (cs : List Change) → list_all (λ (c : Change). is_served tables (slice_get defs c.def)) cs ≡ true → AreInRange tables defs cs
range_of tables defs [] h = tt
range_of tables defs (c ∷ cs) h = let p = both (is_served tables (slice_get defs c.def)) _ h in (served_of tables (slice_get defs c.def) p.0, range_of tables defs cs p.1)

of_range : (tables : ℕ) (defs : List TableDef) (cs : List Change) → AreInRange tables defs cs → list_all (λ (c : Change). is_served tables (slice_get defs c.def)) cs ≡ true
of_range tables defs [] h = refl
of_range tables defs (c ∷ cs) h = rw (of_served tables (slice_get defs c.def) h.0) (of_range tables defs cs h.1)

-- steps are in order
pub record AreOrdered (tables : ℕ) (ss : List Step) (low : ℕ) : Type 0 where
  pub served : AllByRecursion (IsStepInRange tables) ss
  pub rise : RiseFrom low ss

commit_ordered : (tables : ℕ) (tx : Tx) (ss : List Step) (low now : ℕ) (a b : Bool) → nat_lt low tx.lsn ≡ a → list_all (λ (c : Change). is_served tables (slice_get tx.defs c.def)) tx.changes ≡ b
    → option_and_then (check_orders tables ss) (if a then (if b then Some tx.lsn else None) else None) ≡ Some now → (check_orders tables ss tx.lsn ≡ Some now → AreOrdered tables ss tx.lsn) → AreOrdered tables (Commit tx ∷ ss) low
commit_ordered tables tx ss low now false b less inside h next = cc
commit_ordered tables tx ss low now true false less inside h next = cc
commit_ordered tables tx ss low now true true less inside h next =
    let rest = next h in let lt : low < tx.lsn = grind (arith, nat_tests) in
    record { served = (range_of tables tx.defs tx.changes inside, rest.served); rise = (lt, rest.rise) }

define_ordered : (tables : ℕ) (d : TableDef) (rows : Table) (ss : List Step) (low now : ℕ) (a : Bool) → nat_lt d.table tables ≡ a
    → option_and_then (check_orders tables ss) (if a then Some low else None) ≡ Some now → (check_orders tables ss low ≡ Some now → AreOrdered tables ss low) → AreOrdered tables (Define d rows ∷ ss) low
define_ordered tables d rows ss low now false less h next = cc
define_ordered tables d rows ss low now true less h next =
    let rest = next h in let lt : d.table < tables = grind (arith, nat_tests) in
    record { served = (lt, rest.served); rise = rest.rise }

ordered_of : (tables : ℕ) (ss : List Step) (low now : ℕ) → check_orders tables ss low ≡ Some now → AreOrdered tables ss low
ordered_of tables [] low now h = record { served = tt; rise = tt }
ordered_of tables (Commit tx ∷ ss) low now h = commit_ordered tables tx ss low now (nat_lt low tx.lsn) (list_all (λ (c : Change). is_served tables (slice_get tx.defs c.def)) tx.changes) refl refl h (λ e. ordered_of tables ss tx.lsn now e)
ordered_of tables (Define d rows ∷ ss) low now h = define_ordered tables d rows ss low now (nat_lt d.table tables) refl h (λ e. ordered_of tables ss low now e)

of_ordered : (tables : ℕ) (ss : List Step) (low : ℕ) → AreOrdered tables ss low → (now : ℕ) × (check_orders tables ss low ≡ Some now)
of_ordered tables [] low h = (low, refl)
of_ordered tables (Commit tx ∷ ss) low h =
    let less : nat_lt low tx.lsn ≡ true = let lt = h.rise.0 in grind (arith, nat_tests) in
    let step : check_order tables (Commit tx) low ≡ Some tx.lsn = rw less (rw (of_range tables tx.defs tx.changes h.served.0) refl) in
    let rest = of_ordered tables ss tx.lsn (record { served = h.served.1; rise = h.rise.1 }) in
    (rest.0, ap (option_and_then (check_orders tables ss)) step ∙ rest.1)
of_ordered tables (Define d rows ∷ ss) low h =
    let less : nat_lt d.table tables ≡ true = let lt = h.served.0 in grind (arith, nat_tests) in
    let step : check_order tables (Define d rows) low ≡ Some low = rw less refl in
    let rest = of_ordered tables ss low (record { served = h.served.1; rise = h.rise }) in
    (rest.0, ap (option_and_then (check_orders tables ss)) step ∙ rest.1)

-- fewer steps are in order too
fewer_ordered : (tables : ℕ) (ss : List Step) (m n low : ℕ) → m ≤ n → AreOrdered tables (take n ss) low → AreOrdered tables (take m ss) low
fewer_ordered tables ss zero n low le h = record { served = tt; rise = tt }
fewer_ordered tables ss (suc m) zero low le h = absurd (omega (arith, le))
fewer_ordered tables [] (suc m) (suc n) low le h = record { served = tt; rise = tt }
fewer_ordered tables (Commit tx ∷ ss) (suc m) (suc n) low le h = let rest = fewer_ordered tables ss m n tx.lsn (omega (arith, le)) (record { served = h.served.1; rise = h.rise.1 }) in record { served = (h.served.0, rest.served); rise = (h.rise.0, rest.rise) }
fewer_ordered tables (Define d rows ∷ ss) (suc m) (suc n) low le h = let rest = fewer_ordered tables ss m n low (omega (arith, le)) (record { served = h.served.1; rise = h.rise }) in record { served = (h.served.0, rest.served); rise = rest.rise }

-- fewer steps are good too
fewer_if : (b : Bool) (P Q R S : Type 0) → MatchBool b P Q → (P → R) → (Q → S) → MatchBool b R S
fewer_if true P Q R S h f g = f h
fewer_if false P Q R S h f g = g h

fewer_good : (served : Served) (t : ℕ) (ss : List Step) (m n : ℕ) (d : TableDef) (rows : Table) (since : List TableDef) → m ≤ n → AreGoodSteps served t (take n ss) d rows since → AreGoodSteps served t (take m ss) d rows since
fewer_good served t ss zero n d rows since le h = tt
fewer_good served t ss (suc m) zero d rows since le h = absurd (omega (arith, le))
fewer_good served t [] (suc m) (suc n) d rows since le h = tt
fewer_good served t (Commit tx ∷ ss) (suc m) (suc n) d rows since le h = (h.0, fewer_good served t ss m n d _ _ (omega (arith, le)) h.1)
fewer_good served t (Define e new ∷ ss) (suc m) (suc n) d rows since le h = fewer_if (e.table == t) _ _ _ _ h
    (λ p. (p.0, p.1, fewer_good served t ss m n e new (e ∷ since) (omega (arith, le)) p.2))
    (λ q. fewer_good served t ss m n d rows since (omega (arith, le)) q)

fewer_table : (h : History) (t m n : ℕ) (served : Served) (o : Option TableDef) → m ≤ n → IfSome o (λ d. FitsDef served d (slice_index_or h.base t []) × AreGoodSteps served t (take n h.steps) d (slice_index_or h.base t []) (d ∷ []))
    → IfSome o (λ d. FitsDef served d (slice_index_or h.base t []) × AreGoodSteps served t (take m h.steps) d (slice_index_or h.base t []) (d ∷ []))
fewer_table h t m n served None le good = tt
fewer_table h t m n served (Some d) le good = (good.0, fewer_good served t h.steps m n d _ _ le good.1)

fewer_at : (h : History) (t m n : ℕ) (o : Option Served) → m ≤ n → IfSome o (λ served. IsGoodTable (up_to h n) t served) → IfSome o (λ served. IsGoodTable (up_to h m) t served)
fewer_at h t m n None le good = tt
fewer_at h t m n (Some served) le good = fewer_table h t m n served (slice_get h.defs t) le good

-- what is known at a table of the loop
pub record Stands (h : History) (t good : ℕ) : Type 0 where
  pub bound : good ≤ length h.steps
  pub order : AreOrdered (length h.tables) (take good h.steps) 0
  pub tables : (u : ℕ) → u < t → IsGoodAt h u good
  pub broken : good < length h.steps → IsGoodHistory (up_to h (good + 1)) → ⊥

order_some : (tables : ℕ) (ss : List Step) (o : Option ℕ) → check_orders tables ss 0 ≡ o → IsSome o → AreOrdered tables ss 0
order_some tables ss None e h = cc
order_some tables ss (Some now) e h = ordered_of tables ss 0 now e

pub stands_first : (h : History) (tables good : ℕ) → tables ≡ length h.tables → good ≤ length h.steps → IsSome (check_orders tables (take good h.steps) 0) → (good < length h.steps → check_orders tables (take (good + 1) h.steps) 0 ≡ None) → Stands h 0 good
stands_first h tables good all bound some broken = record {
  bound = bound;
  order = subst (λ n. AreOrdered n (take good h.steps) 0) all (order_some tables (take good h.steps) _ refl some);
  tables = λ u lt. absurd (omega (arith, lt));
  broken = λ lt whole.
      let order : AreOrdered tables (take (good + 1) h.steps) 0 = subst (λ n. AreOrdered n (take (good + 1) h.steps) 0) (sym all) (record { served = whole.served; rise = whole.rise }) in
      let found = of_ordered tables (take (good + 1) h.steps) 0 order in let none = broken lt in cc (found.1);
}

next_tables : (h : History) (t most count u : ℕ) → Stands h t most → IsGoodTo h t most count → u < t + 1 → (u < t) ⊎ (t ≤ u) → IsGoodAt h u count
next_tables h t most count u s to lt (inl before) = fewer_at h u count most (slice_get h.tables u) to.bound (s.tables u before)
next_tables h t most count u s to lt (inr here) = let e : t ≡ u = omega (arith, lt, here) in subst (λ v. IsGoodAt h v count) e to.good

next_broken : (h : History) (t most count : ℕ) → Stands h t most → IsGoodTo h t most count → count < length h.steps → (count < most) ⊎ (most ≤ count) → IsGoodHistory (up_to h (count + 1)) → ⊥
next_broken h t most count s to lt (inl fewer) good = to.broken fewer (good.good t)
next_broken h t most count s to lt (inr same) good = let le = to.bound in let e : count ≡ most = omega (arith, le, same) in s.broken (omega (arith, lt, e)) (subst (λ k. IsGoodHistory (up_to h (k + 1))) e good)

pub stands_next : (h : History) (t most count : ℕ) → Stands h t most → IsGoodTo h t most count → Stands h (t + 1) count
stands_next h t most count s to = record {
  bound = let a = s.bound in let b = to.bound in omega (arith, a, b);
  order = fewer_ordered (length h.tables) h.steps count most 0 to.bound s.order;
  tables = λ u lt. next_tables h t most count u s to lt (cases_lt u t);
  broken = λ lt good. next_broken h t most count s to lt (cases_lt count most) good;
}

all_tables : (h : History) (good t : ℕ) → Stands h (length h.tables) good → (t < length h.tables) ⊎ (length h.tables ≤ t) → IsGoodAt h t good
all_tables h good t s (inl there) = s.tables t there
all_tables h good t s (inr past) = subst (λ o. IfSome o (λ served. IsGoodTable (up_to h good) t served)) (sym (slice_get_past h.tables t past)) tt

pub good_to : (h : History) (good : ℕ) → IsWhole h → Stands h (length h.tables) good → IsGoodHistory (up_to h good)
good_to h good whole s = record { bases = whole.bases; placed = whole.placed; served = s.order.served; rise = s.order.rise; good = λ t. all_tables h good t s (cases_lt t (length h.tables)) }

all_steps : (ss : List Step) (n : ℕ) → n ≡ length ss → take n ss ≡ ss
all_steps [] zero e = refl
all_steps [] (suc n) e = absurd (omega (arith, e))
all_steps (x ∷ ss) zero e = absurd (omega (arith, e))
all_steps (x ∷ ss) (suc n) e = ap (λ ts. x ∷ ts) (all_steps ss n (omega (arith, e)))

pub good_all : (h : History) (t good : ℕ) → t ≡ length h.tables → is_whole h ≡ true → Stands h t good → (good < length h.steps → ⊥) → IsGoodHistory h
good_all h t good all whole s full =
    let le = s.bound in let e : good ≡ length h.steps = elim (cases_lt good (length h.steps)) [ inl lt ↦ absurd (full lt) | inr ge ↦ omega (arith, ge, le) ] in
    subst (λ ss. IsGoodHistory (record h { steps = ss })) (all_steps h.steps good e) (good_to h good (whole_of h whole) (subst (λ n. Stands h n good) all s))

pub broken_step : (h : History) (t good : ℕ) → t ≡ length h.tables → is_whole h ≡ true → Stands h t good → good < length h.steps → IsFirstBreak h (good + 1)
broken_step h t good all whole s lt = record {
  there = omega (arith, lt);
  broken = s.broken lt;
  before = λ _. let e : good ≡ good + 1 - 1 = omega arith in subst (λ k. IsGoodHistory (up_to h k)) e (good_to h good (whole_of h whole) (subst (λ n. Stands h n good) all s));
}

pub broken_table : (h : History) (t : ℕ) → (IsGoodAt h t 0 → ⊥) → IsFirstBreak h 0
broken_table h t no_good = record { there = omega arith; broken = λ good. no_good (good.good t); before = λ lt. absurd (omega (arith, lt)) }

-- what stands at place t of a history
pub record HasAt (h : History) (t : ℕ) (served : Served) (d : TableDef) (base : Table) : Type 0 where
  pub served_is : slice_get h.tables t ≡ Some served
  pub def_is : slice_get h.defs t ≡ Some d
  pub base_is : slice_index_or h.base t [] ≡ base

item_at : {A : Type 0} (xs : List A) (i : ℕ) (x : A) → i < length xs → x ≡ get_or xs i x → slice_get xs i ≡ Some x
item_at [] i x lt is = absurd (omega (arith, lt))
item_at (y ∷ xs) zero x lt is = ap Some (sym is)
item_at (y ∷ xs) (suc i) x lt is = item_at xs i x (omega (arith, lt)) is

index_at : {A : Type 0} (xs : List A) (i : ℕ) (x d : A) → i < length xs → x ≡ get_or xs i x → get_or xs i d ≡ x
index_at [] i x d lt is = absurd (omega (arith, lt))
index_at (y ∷ xs) zero x d lt is = sym is
index_at (y ∷ xs) (suc i) x d lt is = index_at xs i x d (omega (arith, lt)) is

pub has_at : (h : History) (t : ℕ) (served : Served) (d : TableDef) (base : Table) → t < length h.tables → t < length h.defs → t < length h.base → served ≡ get_or h.tables t served → d ≡ get_or h.defs t d → base ≡ get_or h.base t base → HasAt h t served d base
has_at h t served d base a b c e f g = record { served_is = item_at h.tables t served a e; def_is = item_at h.defs t d b f; base_is = index_at h.base t base [] c g }

abbrev first_standing : TableDef → Table → Standing
first_standing d base = record { def = d; rows = base; since = d ∷ [] }

unpacked : (h : History) (t k : ℕ) (served : Served) (d : TableDef) (base : Table) → HasAt h t served d base → IsGoodAt h t k → FitsDef served d base × AreGoodSteps served t (take k h.steps) d base (d ∷ [])
unpacked h t k served d base has good =
    let one : IsGoodTable (up_to h k) t served = subst (λ o. IfSome o (λ s. IsGoodTable (up_to h k) t s)) has.served_is good in
    let two : FitsDef served d (slice_index_or h.base t []) × AreGoodSteps served t (take k h.steps) d (slice_index_or h.base t []) (d ∷ []) = subst (λ o. IfSome o (λ x. FitsDef served x (slice_index_or h.base t []) × AreGoodSteps served t (take k h.steps) x (slice_index_or h.base t []) (x ∷ []))) has.def_is one in
    subst (λ rs. FitsDef served d rs × AreGoodSteps served t (take k h.steps) d rs (d ∷ [])) has.base_is two

packed : (h : History) (t k : ℕ) (served : Served) (d : TableDef) (base : Table) → HasAt h t served d base → FitsDef served d base × AreGoodSteps served t (take k h.steps) d base (d ∷ []) → IsGoodAt h t k
packed h t k served d base has good =
    subst (λ o. IfSome o (λ s. IsGoodTable (up_to h k) t s)) (sym has.served_is)
    (subst (λ o. IfSome o (λ x. FitsDef served x (slice_index_or h.base t []) × AreGoodSteps served t (take k h.steps) x (slice_index_or h.base t []) (x ∷ []))) (sym has.def_is)
    (subst (λ rs. FitsDef served d rs × AreGoodSteps served t (take k h.steps) d rs (d ∷ [])) (sym has.base_is) good))

pub bad_base : (h : History) (t : ℕ) (served : Served) (d : TableDef) (base : Table) → HasAt h t served d base → fit_def served d base ≡ false → IsGoodAt h t 0 → ⊥
bad_base h t served d base has e good = let fits : fit_def served d base ≡ true = of_fits served d base (unpacked h t 0 served d base has good).0 in cc

some_passes : (served : Served) (t : ℕ) (ss : List Step) (s : Standing) (o : Option Standing) → check_steps served t ss s ≡ o → IsSome o → AreGoodSteps served t ss s.def s.rows s.since
some_passes served t ss s None e h = cc
some_passes served t ss s (Some now) e h = good_steps served t ss s now e

pub table_to : (h : History) (t most count : ℕ) (served : Served) (d : TableDef) (base : Table) (start : Standing) → HasAt h t served d base → start ≡ first_standing d base → fit_def served d base ≡ true
    → count ≤ most → IsSome (check_steps served t (take count h.steps) start) → (count < most → check_steps served t (take (count + 1) h.steps) start ≡ None) → IsGoodTo h t most count
table_to h t most count served d base start has is fits bound some broken = record {
  bound = bound;
  good = packed h t count served d base has (fits_of served d base fits, some_passes served t (take count h.steps) (first_standing d base) _ refl (subst (λ s. IsSome (check_steps served t (take count h.steps) s)) is some));
  broken = λ lt good.
      let passes = of_steps served t (take (count + 1) h.steps) (first_standing d base) (unpacked h t (count + 1) served d base has good).1 in
      let none : check_steps served t (take (count + 1) h.steps) (first_standing d base) ≡ None = ap (check_steps served t (take (count + 1) h.steps)) (sym is) ∙ broken lt in cc (passes.is);
}

orders_last : (tables : ℕ) (o : Option ℕ) → option_and_then (check_orders tables []) o ≡ o
orders_last tables None = refl
orders_last tables (Some n) = refl

orders_join : (tables : ℕ) (ss : List Step) (x : Step) (o : Option ℕ) → ((low : ℕ) → check_orders tables (ss ++ x ∷ []) low ≡ option_and_then (check_order tables x) (check_orders tables ss low))
    → option_and_then (check_orders tables (ss ++ x ∷ [])) o ≡ option_and_then (check_order tables x) (option_and_then (check_orders tables ss) o)
orders_join tables ss x None h = refl
orders_join tables ss x (Some low) h = h low

orders_more : (tables : ℕ) (ss : List Step) (x : Step) (low : ℕ) → check_orders tables (ss ++ x ∷ []) low ≡ option_and_then (check_order tables x) (check_orders tables ss low)
orders_more tables [] x low = orders_last tables (check_order tables x low)
orders_more tables (y ∷ ss) x low = orders_join tables ss x (check_order tables y low) (orders_more tables ss x)

-- one step more is in order
pub order_passed : (tables : ℕ) (ss : List Step) (i : ℕ) (x : Step) (low : ℕ) (o : Option ℕ) → i < length ss → x ≡ get_or ss i x → check_orders tables (take i ss) 0 ≡ Some low → check_order tables x low ≡ o → check_orders tables (take (i + 1) ss) 0 ≡ o
order_passed tables ss i x low o lt is before next =
    ap (λ ds. check_orders tables ds 0) (take_more ss i x lt ∙ ap (λ (y : Step). take i ss ++ y ∷ []) (sym is)) ∙ orders_more tables (take i ss) x 0 ∙ ap (option_and_then (check_order tables x)) before ∙ next
