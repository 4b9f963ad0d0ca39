-- Checks go on step by step, and decide what a good table owes.
use Rattle.std.proofs.Common.{◌≡◌, ℕ, ◌+◌, ◌<◌, ◌++◌, ◌∷◌, [], Bool, true, false, length, take, get_or, List, refl, sym, ◌∙◌, ap, ◌==◌, ◌||◌, Option, None, Some}
use Rattle.std.specs.Bool.{if◌then◌else◌}
use Rattle.std.specs.Option.{option_map, option_and_then}
use Rattle.std.specs.List.{list_any, slice_get}
use Rattle.std.proofs.lemmas.List.{take_more}
use Rattle.shape_base.specs.declared.definition.TableDef.{TableDef}
use Rattle.shape_base.specs.declared.change.Change.{Change}
use Rattle.shape_base.specs.declared.change.ChangeKind.{ChangeKind}
use Rattle.shape_base.specs.declared.served.Served.{Served}
use Rattle.shape_base.specs.declared.history.Step.{Step}
use Rattle.shape_base.specs.Tables.{Table, Own, own_of, own_from, since_changes}
use Rattle.shape_model.specs.declared.checks.Standing.{Standing}
use Rattle.shape_model.specs.Checks.{is_own, check_step, check_steps}

last : (served : Served) (t : ℕ) (o : Option Standing) → option_and_then (check_steps served t []) o ≡ o
last served t None = refl
last served t (Some s) = refl

steps_join : (served : Served) (t : ℕ) (ss : List Step) (x : Step) (o : Option Standing) → ((s : Standing) → check_steps served t (ss ++ x ∷ []) s ≡ option_and_then (check_step served t x) (check_steps served t ss s))
    → option_and_then (check_steps served t (ss ++ x ∷ [])) o ≡ option_and_then (check_step served t x) (option_and_then (check_steps served t ss) o)
steps_join served t ss x None h = refl
steps_join served t ss x (Some s) h = h s

steps_more : (served : Served) (t : ℕ) (ss : List Step) (x : Step) (s : Standing) → check_steps served t (ss ++ x ∷ []) s ≡ option_and_then (check_step served t x) (check_steps served t ss s)
steps_more served t [] x s = last served t (check_step served t x s)
steps_more served t (y ∷ ss) x s = steps_join served t ss x (check_step served t y s) (steps_more served t ss x)

-- one step more
pub step_passed : (served : Served) (t : ℕ) (ss : List Step) (i : ℕ) (x : Step) (start now : Standing) (o : Option Standing) → i < length ss → x ≡ get_or ss i x → check_steps served t (take i ss) start ≡ Some now → check_step served t x now ≡ o → check_steps served t (take (i + 1) ss) start ≡ o
step_passed served t ss i x start now o lt is before next =
    ap (λ ds. check_steps served t ds start) (take_more ss i x lt ∙ ap (λ (y : Step). take i ss ++ y ∷ []) (sym is)) ∙ steps_more served t (take i ss) x start ∙ ap (option_and_then (check_step served t x)) before ∙ next

-- a transaction touches a table where it has a change of it
touched_if : (t j : ℕ) (kind : ChangeKind) (e : TableDef) (rest : List Own) (d : TableDef) (since : List TableDef) (b own : Bool) → since_changes rest d since ≡ (if b then d ∷ [] else since) → since_changes (if own then record { number = j; definition = e; kind = kind } ∷ rest else rest) d since ≡ (if (own || b) then d ∷ [] else since)
touched_if t j kind e rest d since b true h = refl
touched_if t j kind e rest d since b false h = h

touched_own : (t j : ℕ) (kind : ChangeKind) (came : Option TableDef) (rest : List Own) (d : TableDef) (since : List TableDef) (b : Bool) → since_changes rest d since ≡ (if b then d ∷ [] else since) → since_changes (own_of t j kind came rest) d since ≡ (if (is_own t came || b) then d ∷ [] else since)
touched_own t j kind None rest d since b h = h
touched_own t j kind (Some e) rest d since b h = touched_if t j kind e rest d since b (e.table == t) h

pub touched : (t : ℕ) (defs : List TableDef) (j : ℕ) (cs : List Change) (d : TableDef) (since : List TableDef) → since_changes (own_from t defs j cs) d since ≡ (if list_any (λ (c : Change). is_own t (slice_get defs c.def)) cs then d ∷ [] else since)
touched t defs j [] d since = refl
touched t defs j (c ∷ cs) d since = touched_own t j c.kind (slice_get defs c.def) (own_from t defs (j + 1) cs) d since _ (touched t defs (j + 1) cs d since)

pub commit_done : (d : TableDef) (since now : List TableDef) (o : Option Table) (rows : Table) → o ≡ Some rows → now ≡ since → Some (record { def = d; rows = rows; since = now }) ≡ option_map {U = Standing} (λ (rs : Table). record { def = d; rows = rs; since = since }) o
commit_done d since now o rows e same = rw e (ap (λ (x : List TableDef). Some (record { def = d; rows = rows; since = x })) same)
