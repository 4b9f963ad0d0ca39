-- The checks decide what a good table owes.
use Rattle.std.proofs.Common.{◌≡◌, ℕ, ◌∷◌, [], Bool, true, false, List, length, map, refl, sym, ◌∙◌, ap, subst, ◌==◌, ◌||◌, ◌&&◌, Option, None, Some, IfSome}
use Rattle.std.proofs.lemmas.Bool.{false_from_ne_true}
use Rattle.std.specs.Bool.{if◌then◌else◌, MatchBool}
use Rattle.std.specs.Option.{option_map, option_and_then}
use Rattle.std.specs.List.{list_any, AllByRecursion, IsDistinct, flat_map}
use Rattle.std.proofs.lemmas.Bool.Decides.{Decides-eqb}
use Rattle.shape_base.specs.declared.definition.TableDef.{TableDef}
use Rattle.shape_base.specs.declared.change.ChangeKind.{ChangeKind}
use Rattle.shape_base.specs.declared.change.ChangeKind.TheVariants.{Insert, Update, Delete, Truncate}
use Rattle.shape_base.specs.declared.served.Served.{Served}
use Rattle.shape_base.specs.declared.history.Step.{Step}
use Rattle.shape_base.specs.declared.history.Step.TheVariants.{Commit, Define}
use Rattle.shape_base.specs.Tables.{Values, Table, Own, same_text, same_row, same_def, changed, changes_of, after_changes, since_changes, key_places, key_values, lacks_key, IsKeyed, FitsDef, IsOldThere, AreGoodChanges, AreGoodSteps}
use Rattle.shape_base.proofs.Lemmas.{Decides-same_text, Decides-same_row, Decides-same_def, values_tell}
use Rattle.shape_model.specs.declared.checks.Standing.{Standing}
use Rattle.shape_model.specs.Checks.{value_text, values_text, are_new, are_keyed, fit_key, are_wide, fit_def, is_old_there, check_change, check_changes, check_define, check_steps}

-- a test whose one answer is false
pub if_not : (b c : Bool) → (if b then false else c) ≡ true → (b ≡ false) × (c ≡ true)
if_not true c h = cc
if_not false c h = (refl, h)

pub if_both : (b c : Bool) → (if b then c else false) ≡ true → (b ≡ true) × (c ≡ true)
if_both true c h = (refl, h)
if_both false c h = cc

or_none : (b c : Bool) → (b || c) ≡ false → (b ≡ false) × (c ≡ false)
or_none true c h = cc
or_none false c h = (refl, h)

none_or : (b c : Bool) → b ≡ false → c ≡ false → (b || c) ≡ false
none_or b c h k = rw (h, k) refl

pub both : (b c : Bool) → (b && c) ≡ true → (b ≡ true) × (c ≡ true)
both true c h = (refl, h)
both false c h = cc

abbrev AreGiven : List ℕ → Table → Type 0
AreGiven key rows = AllByRecursion (λ row. lacks_key key row ≡ false) rows

abbrev AreUnseen : List ℕ → (List ℕ → Bool) → Table → Type 0
AreUnseen key seen rows = AllByRecursion (λ row. seen (values_text key row) ≡ false) rows

abbrev AreOther : List ℕ → Values → Table → Type 0
AreOther key row rows = AllByRecursion (λ v. same_row (key_values key row) v ≡ false) (map (key_values key) rows)

rows_differ : (key : List ℕ) (row other : Values) → same_text (values_text key other) (values_text key row) ≡ false → same_row (key_values key row) (key_values key other) ≡ false
rows_differ key row other h = false_from_ne_true _ (λ t.
    let same : key_values key row ≡ key_values key other = (Decides-same_row _ _).0 t in
    let texts : values_text key other ≡ values_text key row = ap (flat_map value_text) (sym same) in
    let is : same_text (values_text key other) (values_text key row) ≡ true = (Decides-same_text _ _).1 texts in cc)

texts_differ : (key : List ℕ) (row other : Values) → lacks_key key row ≡ false → lacks_key key other ≡ false → same_row (key_values key row) (key_values key other) ≡ false → same_text (values_text key other) (values_text key row) ≡ false
texts_differ key row other given too h = false_from_ne_true _ (λ t.
    let same : key_values key other ≡ key_values key row = values_tell key other row too given ((Decides-same_text _ _).0 t) in
    let is : same_row (key_values key row) (key_values key other) ≡ true = (Decides-same_row _ _).1 (sym same) in cc)

split_unseen : (key : List ℕ) (row : Values) (seen : List ℕ → Bool) (rows : Table) → AreUnseen key (λ q. same_text q (values_text key row) || seen q) rows → AreOther key row rows × AreUnseen key seen rows
split_unseen key row seen [] h = (tt, tt)
split_unseen key row seen (x ∷ rows) h =
    let here = or_none _ _ h.0 in let rest = split_unseen key row seen rows h.1 in
    ((rows_differ key row x here.0, rest.0), (here.1, rest.1))

join_unseen : (key : List ℕ) (row : Values) (seen : List ℕ → Bool) (rows : Table) → lacks_key key row ≡ false → AreGiven key rows → AreOther key row rows → AreUnseen key seen rows → AreUnseen key (λ q. same_text q (values_text key row) || seen q) rows
join_unseen key row seen [] given all other unseen = tt
join_unseen key row seen (x ∷ rows) given all other unseen =
    (none_or _ _ (texts_differ key row x given all.0 other.0) unseen.0, join_unseen key row seen rows given all.1 other.1 unseen.1)

apart_of : (key : List ℕ) (rows : Table) (seen : List ℕ → Bool) → are_new seen (map (values_text key) rows) ≡ true → IsDistinct same_row (map (key_values key) rows) × AreUnseen key seen rows
unfolding IsDistinct
apart_of key [] seen h = (tt, tt)
apart_of key (row ∷ rows) seen h =
    let here = if_not (seen (values_text key row)) _ h in
    let rest = apart_of key rows (λ q. same_text q (values_text key row) || seen q) here.1 in
    let split = split_unseen key row seen rows rest.1 in
    ((split.0, rest.0), (here.0, split.1))

new_of : (key : List ℕ) (rows : Table) (seen : List ℕ → Bool) → AreGiven key rows → IsDistinct same_row (map (key_values key) rows) → AreUnseen key seen rows → are_new seen (map (values_text key) rows) ≡ true
unfolding IsDistinct
new_of key [] seen given apart unseen = refl
new_of key (row ∷ rows) seen given apart unseen = rw unseen.0 (new_of key rows (λ q. same_text q (values_text key row) || seen q) given.1 apart.1 (join_unseen key row seen rows given.0 given.1 apart.0 unseen.1))

none_lacks : (key : List ℕ) (rows : Table) → list_any (lacks_key key) rows ≡ false → AreGiven key rows
none_lacks key [] h = tt
none_lacks key (row ∷ rows) h = let p = or_none (lacks_key key row) _ h in (p.0, none_lacks key rows p.1)

lacks_none : (key : List ℕ) (rows : Table) → AreGiven key rows → list_any (lacks_key key) rows ≡ false
lacks_none key [] h = refl
lacks_none key (row ∷ rows) h = none_or _ _ h.0 (lacks_none key rows h.1)

unseen_all : (key : List ℕ) (rows : Table) → AreUnseen key (λ q. false) rows
unseen_all key [] = tt
unseen_all key (row ∷ rows) = (refl, unseen_all key rows)

keyed_of : (key : List ℕ) (rows : Table) → are_keyed key rows ≡ true → IsKeyed key rows
keyed_of key rows h = let p = if_not (list_any (lacks_key key) rows) _ h in record { given = none_lacks key rows p.0; apart = (apart_of key rows (λ q. false) p.1).0 }

of_keyed : (key : List ℕ) (rows : Table) → IsKeyed key rows → are_keyed key rows ≡ true
of_keyed key rows h = rw (lacks_none key rows h.given) (new_of key rows (λ q. false) h.given h.apart (unseen_all key rows))

wide_of : (d : TableDef) (rows : Table) → are_wide d rows ≡ true → AllByRecursion (λ row. length row ≡ length d.columns) rows
wide_of d [] h = tt
wide_of d (row ∷ rows) h = let p = both (length row == length d.columns) (are_wide d rows) h in ((Decides-eqb (length row) (length d.columns)).0 p.0, wide_of d rows p.1)

of_wide : (d : TableDef) (rows : Table) → AllByRecursion (λ row. length row ≡ length d.columns) rows → are_wide d rows ≡ true
of_wide d [] h = refl
of_wide d (row ∷ rows) h = rw ((Decides-eqb (length row) (length d.columns)).1 h.0) (of_wide d rows h.1)

key_of : (o : Option (List ℕ)) (rows : Table) → fit_key o rows ≡ true → IfSome o (λ key. IsKeyed key rows)
key_of None rows h = tt
key_of (Some key) rows h = keyed_of key rows h

of_key : (o : Option (List ℕ)) (rows : Table) → IfSome o (λ key. IsKeyed key rows) → fit_key o rows ≡ true
of_key None rows h = refl
of_key (Some key) rows h = of_keyed key rows h

pub fits_of : (served : Served) (d : TableDef) (rows : Table) → fit_def served d rows ≡ true → FitsDef served d rows
fits_of served d rows h = let p = if_both (are_wide d rows) _ h in record { wide = wide_of d rows p.0; keyed = key_of (key_places served d) rows p.1 }

pub of_fits : (served : Served) (d : TableDef) (rows : Table) → FitsDef served d rows → fit_def served d rows ≡ true
of_fits served d rows h = rw (of_wide d rows h.wide) (of_key (key_places served d) rows h.keyed)

there_of : (kind : ChangeKind) (rows : Table) → is_old_there kind rows ≡ true → IsOldThere kind rows
there_of (Insert new) rows h = tt
there_of (Update old new) rows h = h
there_of (Delete old) rows h = h
there_of Truncate rows h = tt

of_there : (kind : ChangeKind) (rows : Table) → IsOldThere kind rows → is_old_there kind rows ≡ true
of_there (Insert new) rows h = refl
of_there (Update old new) rows h = h
of_there (Delete old) rows h = h
of_there Truncate rows h = refl

-- what a good change is
record IsGoodChange (served : Served) (d came : TableDef) (kind : ChangeKind) (rows after : Table) : Type 0 where
  under : came ≡ d
  there : IsOldThere kind rows
  fits : FitsDef served d (changed kind rows)
  is : after ≡ changed kind rows

good_change_if : (served : Served) (d came : TableDef) (kind : ChangeKind) (rows after : Table) (a b c : Bool) → same_def came d ≡ a → is_old_there kind rows ≡ b → fit_def served d (changed kind rows) ≡ c
    → (if a then (if b then (if c then Some (changed kind rows) else None) else None) else None) ≡ Some after → IsGoodChange served d came kind rows after
good_change_if served d came kind rows after false b c e f g h = cc
good_change_if served d came kind rows after true false c e f g h = cc
good_change_if served d came kind rows after true true false e f g h = cc
good_change_if served d came kind rows after true true true e f g h = record { under = (Decides-same_def came d).0 e; there = there_of kind rows f; fits = fits_of served d _ g; is = cc }

good_change : (served : Served) (d came : TableDef) (kind : ChangeKind) (rows after : Table) → check_change served d came kind rows ≡ Some after → IsGoodChange served d came kind rows after
good_change served d came kind rows after h = good_change_if served d came kind rows after (same_def came d) (is_old_there kind rows) (fit_def served d (changed kind rows)) refl refl refl h

of_change : (served : Served) (d came : TableDef) (kind : ChangeKind) (rows : Table) → came ≡ d → IsOldThere kind rows → FitsDef served d (changed kind rows) → check_change served d came kind rows ≡ Some (changed kind rows)
of_change served d came kind rows under there fits = rw ((Decides-same_def came d).1 under) (rw (of_there kind rows there) (rw (of_fits served d (changed kind rows) fits) refl))

changes_if : (served : Served) (d : TableDef) (c : Own) (cs : List Own) (rows after : Table) (o : Option Table) → check_change served d c.definition c.kind rows ≡ o → option_and_then (check_changes served d cs) o ≡ Some after
    → ((next : Table) → check_changes served d cs next ≡ Some after → AreGoodChanges served d cs next × (after ≡ after_changes cs next))
    → AreGoodChanges served d (c ∷ cs) rows × (after ≡ after_changes (c ∷ cs) rows)
changes_if served d c cs rows after None is h next = cc
changes_if served d c cs rows after (Some x) is h next =
    let good = good_change served d c.definition c.kind rows x is in
    let rest = next (changed c.kind rows) (ap (check_changes served d cs) (sym good.is) ∙ h) in
    ((good.under, good.there, good.fits, rest.0), rest.1)

pub good_changes : (served : Served) (d : TableDef) (cs : List Own) (rows after : Table) → check_changes served d cs rows ≡ Some after → AreGoodChanges served d cs rows × (after ≡ after_changes cs rows)
good_changes served d [] rows after h = (tt, cc)
good_changes served d (c ∷ cs) rows after h = changes_if served d c cs rows after (check_change served d c.definition c.kind rows) refl h (λ next e. good_changes served d cs next after e)

pub of_changes : (served : Served) (d : TableDef) (cs : List Own) (rows : Table) → AreGoodChanges served d cs rows → check_changes served d cs rows ≡ Some (after_changes cs rows)
of_changes served d [] rows h = refl
of_changes served d (c ∷ cs) rows h = ap (option_and_then (check_changes served d cs)) (of_change served d c.definition c.kind rows h.0 h.1 h.2) ∙ of_changes served d cs (changed c.kind rows) h.3

abbrev GoesWell : Served → ℕ → List Step → Standing → Type 0
GoesWell served t ss s = AreGoodSteps served t ss s.def s.rows s.since

commit_if : (served : Served) (t : ℕ) (cs : List Own) (ss : List Step) (s now : Standing) (o : Option Table) → check_changes served s.def cs s.rows ≡ o
    → option_and_then (check_steps served t ss) (option_map (λ (rows : Table). record { def = s.def; rows = rows; since = since_changes cs s.def s.since }) o) ≡ Some now
    → ((next : Standing) → check_steps served t ss next ≡ Some now → GoesWell served t ss next)
    → AreGoodChanges served s.def cs s.rows × AreGoodSteps served t ss s.def (after_changes cs s.rows) (since_changes cs s.def s.since)
commit_if served t cs ss s now None is h next = cc
commit_if served t cs ss s now (Some rows) is h next =
    let good = good_changes served s.def cs s.rows rows is in
    (good.0, subst (λ rs. AreGoodSteps served t ss s.def rs (since_changes cs s.def s.since)) good.1 (next _ h))

define_if : (served : Served) (t : ℕ) (e : TableDef) (new : Table) (ss : List Step) (s now : Standing) (a b : Bool) → list_any (same_def e) s.since ≡ a → fit_def served e new ≡ b
    → option_and_then (check_steps served t ss) (if a then None else (if b then Some (record { def = e; rows = new; since = e ∷ s.since }) else None)) ≡ Some now
    → ((next : Standing) → check_steps served t ss next ≡ Some now → GoesWell served t ss next)
    → (list_any (same_def e) s.since ≡ false) × FitsDef served e new × AreGoodSteps served t ss e new (e ∷ s.since)
define_if served t e new ss s now true b is fits h next = cc
define_if served t e new ss s now false false is fits h next = cc
define_if served t e new ss s now false true is fits h next = (is, fits_of served e new fits, next _ h)

own_if : (served : Served) (t : ℕ) (e : TableDef) (new : Table) (ss : List Step) (s now : Standing) (own : Bool)
    → option_and_then (check_steps served t ss) (if own then check_define served e new s else Some s) ≡ Some now
    → ((next : Standing) → check_steps served t ss next ≡ Some now → GoesWell served t ss next)
    → MatchBool own ((list_any (same_def e) s.since ≡ false) × FitsDef served e new × AreGoodSteps served t ss e new (e ∷ s.since)) (GoesWell served t ss s)
own_if served t e new ss s now true h next = define_if served t e new ss s now (list_any (same_def e) s.since) (fit_def served e new) refl refl h next
own_if served t e new ss s now false h next = next s h

-- Steps that pass are good.
pub good_steps : (served : Served) (t : ℕ) (ss : List Step) (s now : Standing) → check_steps served t ss s ≡ Some now → GoesWell served t ss s
good_steps served t [] s now h = tt
good_steps served t (Commit tx ∷ ss) s now h = commit_if served t (changes_of t tx) ss s now (check_changes served s.def (changes_of t tx) s.rows) refl h (λ next e. good_steps served t ss next now e)
good_steps served t (Define e new ∷ ss) s now h = own_if served t e new ss s now (e.table == t) h (λ next f. good_steps served t ss next now f)

-- the steps pass
pub record Passes (served : Served) (t : ℕ) (ss : List Step) (s : Standing) : Type 0 where
  pub now : Standing
  pub is : check_steps served t ss s ≡ Some now

passes_own : (served : Served) (t : ℕ) (e : TableDef) (new : Table) (ss : List Step) (s : Standing) (own : Bool)
    → MatchBool own ((list_any (same_def e) s.since ≡ false) × FitsDef served e new × AreGoodSteps served t ss e new (e ∷ s.since)) (GoesWell served t ss s)
    → ((next : Standing) → GoesWell served t ss next → Passes served t ss next)
    → (now : Standing) × (option_and_then (check_steps served t ss) (if own then check_define served e new s else Some s) ≡ Some now)
passes_own served t e new ss s true h next =
    let stands : Standing = record { def = e; rows = new; since = e ∷ s.since } in
    let rest = next stands h.2 in
    let passed : check_define served e new s ≡ Some stands = rw h.0 (rw (of_fits served e new h.1) refl) in
    (rest.now, ap (option_and_then (check_steps served t ss)) passed ∙ rest.is)
passes_own served t e new ss s false h next = let rest = next s h in (rest.now, rest.is)

-- Good steps pass.
pub of_steps : (served : Served) (t : ℕ) (ss : List Step) (s : Standing) → GoesWell served t ss s → Passes served t ss s
of_steps served t [] s h = record { now = s; is = refl }
of_steps served t (Commit tx ∷ ss) s h =
    let stands : Standing = record { def = s.def; rows = after_changes (changes_of t tx) s.rows; since = since_changes (changes_of t tx) s.def s.since } in
    let rest = of_steps served t ss stands h.1 in
    record { now = rest.now; is = ap (λ (o : Option Table). option_and_then (check_steps served t ss) (option_map (λ (rows : Table). record { def = s.def; rows = rows; since = since_changes (changes_of t tx) s.def s.since }) o)) (of_changes served s.def (changes_of t tx) s.rows h.0) ∙ rest.is }
of_steps served t (Define e new ∷ ss) s h = let found = passes_own served t e new ss s (e.table == t) h (λ next g. of_steps served t ss next g) in record { now = found.0; is = found.1 }
