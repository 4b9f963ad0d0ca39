-- Definitions that stay.
use Rattle.std.proofs.Common.{◌≡◌, ℕ, Bool, true, false, List, [], ◌∷◌, take, refl, sym, ◌∙◌, ap, Option, None, Some, ◌==◌}
use Rattle.std.specs.Bool.{if◌then◌else◌}
use Rattle.std.specs.List.{list_all, slice_get}
use Rattle.std.specs.Option.{option_map}
use Rattle.std.proofs.lemmas.Bool.{and_parts}
use Rattle.std.proofs.lemmas.Bool.Decides.{Decides-eqb}
use Rattle.shape_base.specs.declared.definition.TableDef.{TableDef}
use Rattle.shape_base.specs.declared.history.Step.{Step}
use Rattle.shape_base.specs.declared.history.Step.TheVariants.{Commit, Define}
use Rattle.shape_base.specs.Tables.{def_steps}
use Rattle.shape_base.proofs.Lemmas.{Decides-same_def}
use Rattle.script_check.specs.Definitions.{keeps, is_declared, is_same}
use Rattle.script_check.specs.Laws.{KeptIsDeclared}

stays : (t : ℕ) (defs : List TableDef) (d e : TableDef) (b : Bool) → (e.table == t) ≡ b → slice_get defs t ≡ Some d → is_declared defs (Some e) ≡ true → (if b then e else d) ≡ d
stays t defs d e false is there same = refl
stays t defs d e true is there same =
    let here : e.table ≡ t = (Decides-eqb e.table t).0 is in
    let one : is_same (slice_get defs t) e ≡ true = ap (λ (n : ℕ). is_same (slice_get defs n) e) (sym here) ∙ same in
    let equal : is_same (Some d) e ≡ true = ap (λ (o : Option TableDef). is_same o e) (sym there) ∙ one in
    sym ((Decides-same_def d e).0 equal)

kept : (t : ℕ) (defs : List TableDef) (ss : List Step) (d : TableDef) → slice_get defs t ≡ Some d → list_all (keeps defs) ss ≡ true → def_steps t ss d ≡ d
kept t defs [] d there all = refl
kept t defs (Commit tx ∷ ss) d there all = kept t defs ss d there (and_parts (keeps defs (Commit tx)) _ all).1
kept t defs (Define e rows ∷ ss) d there all =
    let p = and_parts (is_declared defs (Some e)) _ all in
    ap (def_steps t ss) (stays t defs d e (e.table == t) refl there p.0) ∙ kept t defs ss d there p.1

kept_or_none : (t : ℕ) (defs : List TableDef) (ss : List Step) (o : Option TableDef) → slice_get defs t ≡ o → list_all (keeps defs) ss ≡ true → option_map (def_steps t ss) o ≡ o
kept_or_none t defs ss None e all = refl
kept_or_none t defs ss (Some d) e all = ap Some (kept t defs ss d e all)

pub kept_is_declared : KeptIsDeclared
kept_is_declared h t k all = kept_or_none t h.defs (take k h.steps) (slice_get h.defs t) refl all
