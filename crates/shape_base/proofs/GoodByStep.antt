-- A history is good exactly where it is good step by step.
use Rattle.std.proofs.Common.{◌≡◌, ℕ, zero, suc, ◌+◌, ◌-◌, ◌≤◌, ◌<◌, Bool, true, false, not, List, [], ◌∷◌, length, take, drop, refl, sym, ◌∙◌, ap, subst, arith, Option, None, Some, IfSome, ◌||◌, ◌==◌}
use Rattle.std.proofs.lemmas.Bool.{false_from_ne_true}
use Rattle.std.specs.Bool.{if◌then◌else◌, MatchBool}
use Rattle.std.specs.Option.{option_map}
use Rattle.std.specs.List.{list_any, slice_get, slice_index_or}
use Rattle.std.proofs.lemmas.Bool.Decides.{Decides-eqb}
use Rattle.std.proofs.lemmas.List.FromFn.{length-range_with_len}
use Rattle.std.proofs.lemmas.List.{length-map}
use Rattle.shape_base.specs.declared.definition.TableDef.{TableDef}
use Rattle.shape_base.specs.declared.change.Tx.{Tx}
use Rattle.shape_base.specs.declared.served.Served.{Served}
use Rattle.shape_base.specs.declared.history.Step.{Step}
use Rattle.shape_base.specs.declared.history.Step.TheVariants.{Commit, Define}
use Rattle.shape_base.specs.declared.history.History.{History}
use Rattle.shape_base.specs.Tables.{Table, Own, changes_of, after_changes, after_steps, def_steps, same_def, AreGoodChanges, AreGoodSteps, FitsDef, since_changes, table_after, def_after, IsGoodTable}
use Rattle.shape_base.specs.GoodSteps.{changes_otherwise, IsGoodTableByStep}
use Rattle.shape_base.specs.Laws.{GoodByStep}
use Rattle.shape_base.proofs.Tests.{Decides-same_def}
use Rattle.shape_base.proofs.Steps.{either}
use Rattle.shape_base.proofs.LogLaw.{GoesOnFrom, goes_on_from, first_had, drop-take_more}

or_first : (b c : Bool) → b ≡ true → (b || c) ≡ true
or_first b c h = rw h refl

or_second : (b c : Bool) → c ≡ true → (b || c) ≡ true
or_second true c h = refl
or_second false c h = h

-- A commit with a change under definition d: either d is e, or the change is under another definition than e.
first_change : (d e : TableDef) (c : Own) (cs : List Own) (rest b : Bool) → c.definition ≡ d → same_def d e ≡ b → (list_any (same_def e) (d ∷ []) ≡ true → rest ≡ true) → ((not (same_def c.definition e) || list_any (λ (x : Own). not (same_def x.definition e)) cs) || rest) ≡ true
first_change d e c cs rest true is t next = or_second _ rest (next (rw ((Decides-same_def e d).1 (sym ((Decides-same_def d e).0 t))) refl))
first_change d e c cs rest false is t next = let other : same_def c.definition e ≡ false = ap (λ x. same_def x e) is ∙ t in rw other refl

commit_parts : (served : Served) (d e : TableDef) (cs : List Own) (rows : Table) (since : List TableDef) (rest : Bool) → AreGoodChanges served d cs rows → list_any (same_def e) since ≡ true → (list_any (same_def e) (since_changes cs d since) ≡ true → rest ≡ true) → (list_any (λ (x : Own). not (same_def x.definition e)) cs || rest) ≡ true
commit_parts served d e [] rows since rest good had next = next had
commit_parts served d e (c ∷ cs) rows since rest good had next = first_change d e c cs rest (same_def d e) good.0 refl next

define_is : (x e : TableDef) (xs ys : Table) → ◌≡◌ {A = Option Step} (Some (Define x xs)) (Some (Define e ys)) → x ≡ e
define_is x e xs ys h = cc

-- A definition that was had since the last change comes back only past a change under another one.
had_parts : (served : Served) (t : ℕ) (ss : List Step) (d : TableDef) (rows : Table) (since : List TableDef) (k : ℕ) (e : TableDef) (new : Table) → AreGoodSteps served t ss d rows since → list_any (same_def e) since ≡ true → slice_get ss k ≡ Some (Define e new) → (e.table == t) ≡ true → list_any (changes_otherwise t e) (take k ss) ≡ true
had_parts served t [] d rows since k e new good had is tab = cc
had_parts served t (Commit tx ∷ ss) d rows since zero e new good had is tab = cc
had_parts served t (Commit tx ∷ ss) d rows since (suc k) e new good had is tab =
    commit_parts served d e (changes_of t tx) rows since _ good.0 had (λ still. had_parts served t ss d _ _ k e new good.1 still is tab)
had_parts served t (Define x xs ∷ ss) d rows since zero e new good had is tab =
    let same : x ≡ e = define_is x e xs new is in
    either (x.table == t) _ _ good
    (λ _ p. let no : list_any (same_def e) since ≡ false = subst (λ y. list_any (same_def y) since ≡ false) same p.0 in cc)
    (λ f _. let yes : (x.table == t) ≡ true = subst (λ y. (y.table == t) ≡ true) (sym same) tab in cc)
had_parts served t (Define x xs ∷ ss) d rows since (suc k) e new good had is tab = either (x.table == t) _ _ good
    (λ _ p. had_parts served t ss x xs (x ∷ since) k e new p.2 (or_second _ _ had) is tab)
    (λ _ q. had_parts served t ss d rows since k e new q had is tab)

slice_past : (ss : List Step) (q i : ℕ) → slice_get (drop q ss) i ≡ slice_get ss (q + i)
slice_past ss zero i = let e : 0 + i ≡ i = omega arith in rw e refl
slice_past [] (suc q) i = refl
slice_past (x ∷ ss) (suc q) i = let e : suc q + i ≡ suc (q + i) = omega arith in rw e (slice_past ss q i)

-- the step past the first k
at_step : (h : History) (k : ℕ) (x : Step) → slice_get h.steps k ≡ Some x → slice_get (drop k h.steps) 0 ≡ Some x
at_step h k x is = let e : k + 0 ≡ k = omega arith in slice_past h.steps k 0 ∙ ap (slice_get h.steps) e ∙ is

first_good : (served : Served) (t : ℕ) (ss : List Step) (d : TableDef) (rows : Table) (since : List TableDef) (tx : Tx) → AreGoodSteps served t ss d rows since → slice_get ss 0 ≡ Some (Commit tx) → AreGoodChanges served d (changes_of t tx) rows
first_good served t [] d rows since tx good is = cc
first_good served t (Commit x ∷ ss) d rows since tx good is = let same : x ≡ tx = cc in subst (λ y. AreGoodChanges served d (changes_of t y) rows) same good.0
first_good served t (Define x xs ∷ ss) d rows since tx good is = cc

first_fits : (served : Served) (t : ℕ) (ss : List Step) (d : TableDef) (rows : Table) (since : List TableDef) (e : TableDef) (new : Table) → AreGoodSteps served t ss d rows since → slice_get ss 0 ≡ Some (Define e new) → (e.table == t) ≡ true → FitsDef served e new
first_fits served t [] d rows since e new good is tab = cc
first_fits served t (Commit x ∷ ss) d rows since e new good is tab = cc
first_fits served t (Define x xs ∷ ss) d rows since e new good is tab =
    let same : x ≡ e = define_is x e xs new is in let rows_same : xs ≡ new = cc in
    either (x.table == t) _ _ good
    (λ _ p. subst (λ y. FitsDef served y new) same (subst (λ ys. FitsDef served x ys) rows_same p.1))
    (λ f _. let yes : (x.table == t) ≡ true = subst (λ y. (y.table == t) ≡ true) (sym same) tab in cc)

-- how a good table stands past the first k steps
state_at : (h : History) (t : ℕ) (served : Served) (k : ℕ) (o : Option TableDef) (e : TableDef) → IfSome o (λ d. FitsDef served d (slice_index_or h.base t []) × AreGoodSteps served t h.steps d (slice_index_or h.base t []) (d ∷ [])) → option_map (def_steps t (take k h.steps)) o ≡ Some e
    → GoesOnFrom served t (drop k h.steps) e (table_after h t k)
state_at h t served k None e good is = cc
state_at h t served k (Some d) e good is =
    let there : def_steps t (take k h.steps) d ≡ e = cc in
    subst (λ x. GoesOnFrom served t (drop k h.steps) x (table_after h t k)) there
    (goes_on_from served t h.steps k d _ (record { since = d ∷ []; good = good.1; fits = good.0; had = first_had d [] }))

tests_table : (d : TableDef) (t : ℕ) → d.table ≡ t → (d.table == t) ≡ true
tests_table d t h = (Decides-eqb d.table t).1 h

by_step : (h : History) (t : ℕ) (served : Served) (first : TableDef) → slice_get h.defs t ≡ Some first → IsGoodTable h t served → IsGoodTableByStep h t served
by_step h t served first there good = record {
  base = λ d is. (state_at h t served 0 (slice_get h.defs t) d good is).fits;
  commits = λ k tx d is at. let state = state_at h t served k (slice_get h.defs t) d good at in first_good served t (drop k h.steps) d (table_after h t k) state.since tx state.good (at_step h k (Commit tx) is);
  defines = λ k d rows is tab.
      let now = def_steps t (take k h.steps) first in
      let at : def_after h t k ≡ Some (def_steps t (take k h.steps) first) = ap (option_map (def_steps t (take k h.steps))) there in
      let state = state_at h t served k (slice_get h.defs t) now good at in
      first_fits served t (drop k h.steps) now (table_after h t k) state.since d rows state.good (at_step h k (Define d rows) is) (tests_table d t tab);
  returns = λ i k d rows le is tab at.
      let state = state_at h t served i (slice_get h.defs t) d good at in
      let sum : i + (k - i) ≡ k = omega (arith, le) in
      let step : slice_get (drop i h.steps) (k - i) ≡ Some (Define d rows) = slice_past h.steps i (k - i) ∙ ap (slice_get h.steps) sum ∙ is in
      ap (list_any (changes_otherwise t d)) (drop-take_more i k h.steps) ∙ had_parts served t (drop i h.steps) d (table_after h t i) state.since (k - i) d rows state.good state.had step (tests_table d t tab);
}

-- what the steps of a table owe, from its definition, its rows, and the definitions that it had since its last change
record Owes (served : Served) (t : ℕ) (ss : List Step) (d : TableDef) (rows : Table) (since : List TableDef) : Type 0 where
  commits : (k : ℕ) (tx : Tx) → slice_get ss k ≡ Some (Commit tx) → AreGoodChanges served (def_steps t (take k ss) d) (changes_of t tx) (after_steps t (take k ss) rows)
  defines : (k : ℕ) (e : TableDef) (new : Table) → slice_get ss k ≡ Some (Define e new) → (e.table == t) ≡ true → FitsDef served e new
  returns : (i k : ℕ) (e : TableDef) (new : Table) → i ≤ k → slice_get ss k ≡ Some (Define e new) → (e.table == t) ≡ true → def_steps t (take i ss) d ≡ e → list_any (changes_otherwise t e) (drop i (take k ss)) ≡ true
  apart : (k : ℕ) (e : TableDef) (new : Table) → slice_get ss k ≡ Some (Define e new) → (e.table == t) ≡ true → list_any (same_def e) since ≡ true → list_any (changes_otherwise t e) (take k ss) ≡ true

match_from : (b : Bool) (P Q : Type 0) → (b ≡ true → P) → (b ≡ false → Q) → MatchBool b P Q
match_from true P Q f g = f refl
match_from false P Q f g = g refl

or_left : (b c : Bool) → b ≡ false → (b || c) ≡ true → c ≡ true
or_left true c h e = cc
or_left false c h e = e

or_none : (b : Bool) → (b || false) ≡ true → b ≡ true
or_none true h = refl
or_none false h = h

same_one : (e d : TableDef) → list_any (same_def e) (d ∷ []) ≡ true → d ≡ e
same_one e d h = sym ((Decides-same_def e d).0 (or_none (same_def e d) h))

-- past a commit
apart_commit : (e d : TableDef) (cs : List Own) (since : List TableDef) (rest : Bool) → (list_any (same_def e) since ≡ true → (list_any (λ (x : Own). not (same_def x.definition e)) cs || rest) ≡ true) → (d ≡ e → rest ≡ true) → list_any (same_def e) (since_changes cs d since) ≡ true → rest ≡ true
apart_commit e d [] since rest before here had = before had
apart_commit e d (c ∷ cs) since rest before here had = here (same_one e d had)

past_commit : (served : Served) (t : ℕ) (tx : Tx) (ss : List Step) (d : TableDef) (rows : Table) (since : List TableDef) → Owes served t (Commit tx ∷ ss) d rows since → Owes served t ss d (after_changes (changes_of t tx) rows) (since_changes (changes_of t tx) d since)
past_commit served t tx ss d rows since o = record {
  commits = λ k x is. o.commits (suc k) x is;
  defines = λ k e new is tab. o.defines (suc k) e new is tab;
  returns = λ i k e new le is tab at. o.returns (suc i) (suc k) e new (omega (arith, le)) is tab at;
  apart = λ k e new is tab had. apart_commit e d (changes_of t tx) since _ (o.apart (suc k) e new is tab) (λ same. o.returns 1 (suc k) e new (omega arith) is tab same) had;
}

apart_define : (e x : TableDef) (since : List TableDef) (rest b : Bool) → same_def e x ≡ b → (list_any (same_def e) since ≡ true → rest ≡ true) → (x ≡ e → rest ≡ true) → (b || list_any (same_def e) since) ≡ true → rest ≡ true
apart_define e x since rest true is before here had = here (sym ((Decides-same_def e x).0 is))
apart_define e x since rest false is before here had = before had

-- past a new definition of the table, and past one of another
past_define : (served : Served) (t : ℕ) (x : TableDef) (xs : Table) (ss : List Step) (d : TableDef) (rows : Table) (since : List TableDef) → (x.table == t) ≡ true → Owes served t (Define x xs ∷ ss) d rows since → Owes served t ss x xs (x ∷ since)
past_define served t x xs ss d rows since own o = record {
  commits = λ k tx is. subst (λ (b : Bool). AreGoodChanges served (def_steps t (take k ss) (if b then x else d)) (changes_of t tx) (after_steps t (take k ss) (if b then xs else rows))) own (o.commits (suc k) tx is);
  defines = λ k e new is tab. o.defines (suc k) e new is tab;
  returns = λ i k e new le is tab then_. o.returns (suc i) (suc k) e new (omega (arith, le)) is tab (subst (λ (b : Bool). def_steps t (take i ss) (if b then x else d) ≡ e) (sym own) then_);
  apart = λ k e new is tab had. apart_define e x since _ (same_def e x) refl (o.apart (suc k) e new is tab) (λ same. o.returns 1 (suc k) e new (omega arith) is tab (rw own same)) had;
}

past_other : (served : Served) (t : ℕ) (x : TableDef) (xs : Table) (ss : List Step) (d : TableDef) (rows : Table) (since : List TableDef) → (x.table == t) ≡ false → Owes served t (Define x xs ∷ ss) d rows since → Owes served t ss d rows since
past_other served t x xs ss d rows since other o = record {
  commits = λ k tx is. subst (λ (b : Bool). AreGoodChanges served (def_steps t (take k ss) (if b then x else d)) (changes_of t tx) (after_steps t (take k ss) (if b then xs else rows))) other (o.commits (suc k) tx is);
  defines = λ k e new is tab. o.defines (suc k) e new is tab;
  returns = λ i k e new le is tab then_. o.returns (suc i) (suc k) e new (omega (arith, le)) is tab (subst (λ (b : Bool). def_steps t (take i ss) (if b then x else d) ≡ e) (sym other) then_);
  apart = λ k e new is tab had. o.apart (suc k) e new is tab had;
}

good_from : (served : Served) (t : ℕ) (ss : List Step) (d : TableDef) (rows : Table) (since : List TableDef) → Owes served t ss d rows since → AreGoodSteps served t ss d rows since
good_from served t [] d rows since o = tt
good_from served t (Commit tx ∷ ss) d rows since o = (o.commits 0 tx refl, good_from served t ss d _ _ (past_commit served t tx ss d rows since o))
good_from served t (Define x xs ∷ ss) d rows since o = match_from (x.table == t) _ _
    (λ own. (false_from_ne_true _ (λ had. let wrong : false ≡ true = o.apart 0 x xs refl own had in cc), o.defines 0 x xs refl own, good_from served t ss x xs (x ∷ since) (past_define served t x xs ss d rows since own o)))
    (λ other. good_from served t ss d rows since (past_other served t x xs ss d rows since other o))

owes_all : (h : History) (t : ℕ) (served : Served) (first : TableDef) → slice_get h.defs t ≡ Some first → IsGoodTableByStep h t served → Owes served t h.steps first (slice_index_or h.base t []) (first ∷ [])
owes_all h t served first there good = record {
  commits = λ k tx is. good.commits k tx _ is (ap (option_map (def_steps t (take k h.steps))) there);
  defines = λ k e new is tab. good.defines k e new is ((Decides-eqb e.table t).0 tab);
  returns = λ i k e new le is tab at. good.returns i k e new le is ((Decides-eqb e.table t).0 tab) (ap (option_map (def_steps t (take i h.steps))) there ∙ ap Some at);
  apart = λ k e new is tab had. good.returns 0 k e new (omega arith) is ((Decides-eqb e.table t).0 tab) (ap (option_map (def_steps t (take 0 h.steps))) (there ∙ ap Some (same_one e first had)));
}

from_steps : (h : History) (t : ℕ) (served : Served) (o : Option TableDef) → slice_get h.defs t ≡ o → IsGoodTableByStep h t served → IfSome o (λ d. FitsDef served d (slice_index_or h.base t []) × AreGoodSteps served t h.steps d (slice_index_or h.base t []) (d ∷ []))
from_steps h t served None there good = tt
from_steps h t served (Some first) there good = (good.base first (ap (option_map (def_steps t (take 0 h.steps))) there), good_from served t h.steps first _ _ (owes_all h t served first there good))

within : {A : Type 0} (xs : List A) (t : ℕ) (x : A) → slice_get xs t ≡ Some x → t < length xs
within [] t x h = cc
within (y ∷ xs) zero x h = omega arith
within (y ∷ xs) (suc t) x h = let less = within xs t x h in omega (arith, less)

found : {A : Type 0} (xs : List A) (t : ℕ) → t < length xs → (x : A) × (slice_get xs t ≡ Some x)
found [] t h = absurd (omega (arith, h))
found (x ∷ xs) zero h = (x, refl)
found (x ∷ xs) (suc t) h = found xs t (omega (arith, h))

tables_by_step : (h : History) (t : ℕ) → length h.defs ≡ length h.tables → (o : Option Served) → slice_get h.tables t ≡ o → IfSome o (λ served. IsGoodTable h t served) → IfSome o (λ served. IsGoodTableByStep h t served)
tables_by_step h t same None there good = tt
tables_by_step h t same (Some served) there good =
    let less = within h.tables t served there in
    let first = found h.defs t (omega (arith, less, same)) in
    by_step h t served first.0 first.1 good

tables_from_steps : (h : History) (t : ℕ) (o : Option Served) → IfSome o (λ served. IsGoodTableByStep h t served) → IfSome o (λ served. IsGoodTable h t served)
tables_from_steps h t None good = tt
tables_from_steps h t (Some served) good = from_steps h t served (slice_get h.defs t) refl good

pub good_by_step : GoodByStep
good_by_step h = (
  λ good. let same : length h.defs ≡ length h.tables = sym (length-map h.defs (λ (d : TableDef). d.table)) ∙ ap length good.placed ∙ length-range_with_len 0 (length h.tables) in
      record { bases = good.bases; placed = good.placed; served = good.served; rise = good.rise; good = λ t. tables_by_step h t same (slice_get h.tables t) refl (good.good t) },
  λ good. record { bases = good.bases; placed = good.placed; served = good.served; rise = good.rise; good = λ t. tables_from_steps h t (slice_get h.tables t) (good.good t) },
)
