-- The rows of a good history are as wide as their definition.
use Rattle.std.proofs.Common.{◌≡◌, sym, ◌∙◌, ap, ℕ, zero, suc, true, false, List, [], ◌∷◌, length, take, subst, Option, None, Some, IfSome, ◌==◌}
use Rattle.std.specs.Bool.{MatchBool, if◌then◌else◌}
use Rattle.std.specs.Option.{option_map}
use Rattle.std.specs.List.{list_any, AllByRecursion, slice_get, slice_index_or}
use Rattle.shape_base.specs.declared.definition.TableDef.{TableDef}
use Rattle.shape_base.specs.declared.served.Served.{Served}
use Rattle.shape_base.specs.declared.history.Step.{Step}
use Rattle.shape_base.specs.declared.history.Step.TheVariants.{Commit, Define}
use Rattle.shape_base.specs.declared.history.History.{History}
use Rattle.shape_base.specs.Tables.{Table, Own, same_def, changed, changes_of, after_changes, after_steps, def_steps, since_changes, table_after, def_after, FitsDef, AreGoodChanges, AreGoodSteps, IsGoodTable, IsGoodHistory}

abbrev pub AreWide : TableDef → Table → Type 0
AreWide d rows = AllByRecursion (λ row. length row ≡ length d.columns) rows

wide_changes : (served : Served) (d : TableDef) (cs : List Own) (rows : Table) → AreGoodChanges served d cs rows → AreWide d rows → AreWide d (after_changes cs rows)
wide_changes served d [] rows good wide = wide
wide_changes served d (c ∷ cs) rows good wide = wide_changes served d cs (changed c.kind rows) good.3 good.2.wide

wide_steps : (served : Served) (t : ℕ) (ss : List Step) (k : ℕ) (d : TableDef) (rows : Table) (since : List TableDef) → AreGoodSteps served t ss d rows since → AreWide d rows → AreWide (def_steps t (take k ss) d) (after_steps t (take k ss) rows)
wide_steps served t ss zero d rows since good wide = wide
wide_steps served t [] (suc k) d rows since good wide = wide
wide_steps served t (Commit tx ∷ ss) (suc k) d rows since good wide = wide_steps served t ss k d (after_changes (changes_of t tx) rows) (since_changes (changes_of t tx) d since) good.1 (wide_changes served d (changes_of t tx) rows good.0 wide)
wide_steps served t (Define e new ∷ ss) (suc k) d rows since good wide = (elim (e.table == t) as (λ b. MatchBool b ((list_any (same_def e) since ≡ false) × FitsDef served e new × AreGoodSteps served t ss e new (e ∷ since)) (AreGoodSteps served t ss d rows since) → AreWide (def_steps t (take k ss) (if b then e else d)) (after_steps t (take k ss) (if b then new else rows))) [
  | true ↦ λ g. wide_steps served t ss k e new (e ∷ since) g.2 g.1.wide
  | false ↦ λ g. wide_steps served t ss k d rows since g wide
]) good

wide_from : (h : History) (t : ℕ) (served : Served) (k : ℕ) (o : Option TableDef) (d : TableDef) → IfSome o (λ e. FitsDef served e (slice_index_or h.base t []) × AreGoodSteps served t h.steps e (slice_index_or h.base t []) (e ∷ [])) → option_map (def_steps t (take k h.steps)) o ≡ Some d → AreWide d (table_after h t k)
wide_from h t served k None d good is = cc
wide_from h t served k (Some e) d good is =
    let there : def_steps t (take k h.steps) e ≡ d = cc in
    subst (λ x. AreWide x (table_after h t k)) there (wide_steps served t h.steps k e (slice_index_or h.base t []) (e ∷ []) good.1 good.0.wide)

-- the rows of a served table after the first k steps
wide_table : (h : History) (t : ℕ) (served : Served) (k : ℕ) (d : TableDef) → IsGoodHistory h → slice_get h.tables t ≡ Some served → def_after h t k ≡ Some d → AreWide d (table_after h t k)
wide_table h t served k d good there is = wide_from h t served k (slice_get h.defs t) d (subst (λ o. IfSome o (λ s. IsGoodTable h t s)) there (good.good t)) is

-- the same of rows that were replayed for the table of that definition
pub wide_rows : (h : History) (served : Served) (k : ℕ) (d came : TableDef) (rows : Table) → came ≡ d → rows ≡ table_after h came.table k → IsGoodHistory h → slice_get h.tables d.table ≡ Some served → def_after h d.table k ≡ Some d → AreWide d rows
wide_rows h served k d came rows same replayed good there is =
    subst (AreWide d) (sym (replayed ∙ ap (λ (x : TableDef). table_after h x.table k) same)) (wide_table h d.table served k d good there is)
