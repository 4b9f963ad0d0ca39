-- The new definition that a refused snapshot gives its table is of a served table.
use Rattle.std.proofs.Common.{◌≡◌, ◌<◌, ℕ, Bool, true, false, not, ◌==◌, List, [], ◌∷◌, ◌++◌, length, refl, sym, ap, subst, ◌∙◌, Option, None, Some}
use Rattle.std.specs.Prelude.{nat_lt, slice_get, is_none, IfSome, Result, Ok, Err}
use Rattle.std.specs.Bool.{if◌then◌else◌}
use Rattle.std.specs.Option.{option_map}
use Rattle.std.proofs.lemmas.Option.{slice_get_within}
use Rattle.shape_base.specs.declared.ask.Ask.{Ask}
use Rattle.shape_base.specs.declared.definition.TableDef.{TableDef}
use Rattle.shape_base.specs.declared.limits.Limits.{Limits}
use Rattle.shape_base.specs.declared.served.Served.{Served}
use Rattle.shape_base.specs.Tables.{Table, Values, lacks_key, key_places}
use Rattle.shape_base.specs.Shape.{Knows, key_text, picks}
use Rattle.shape_base.specs.Visibility.{Visibility, is_visible}
use Rattle.shape_json.specs.Body.{capped}
use Rattle.shape_json.specs.ShapeHistory.{Reader}
use Rattle.shape_def.specs.declared.faults.DefError.{DefError}
use Rattle.shape_def.specs.Identity.{Names}
use Rattle.shape_def.specs.Clauses.{unread_under}
use Rattle.shape_def.specs.Definition.{refusal_of, knows_of, knows_by, knows_with, knows_for, selected_places}
use Rattle.shape_snapshot.specs.declared.faults.SnapError.{SnapError}
use Rattle.shape_snapshot.specs.declared.faults.SnapError.TheVariants.{DefinitionChanged, Stale, DuplicateKey, LogFull}
use Rattle.shape_snapshot.specs.Refusals as snap
use Rattle.pg_dialogue.specs.declared.login.SnapHead.{SnapHead}
use Rattle.core_law.specs.Situation.{Options, Shape, Server, shape_at, reader_under}
use Rattle.core_law.specs.Laws.{IsStart}
use Rattle.core_law.specs.Reached.{IsReached}
use Rattle.core_law.specs.Situation as law
use Rattle.core_law.proofs.Server.{IsShape}
use Rattle.core_law.proofs.Reaching.{reached_sound}
use Rattle.core_server.specs.Snapshots.{first_refused, refusal_in, error_in, definition_for}
use Rattle.core_server.specs.Standing.{IsNew}

some_same : {A : Type 0} (x y : A) → ◌≡◌ {A = Option A} (Some x) (Some y) → x ≡ y
some_same x y e = cc

-- ---- a row gives none

abbrev GivesNone : Option SnapError → Type 0
GivesNone a = IfSome a (λ error. definition_for error ≡ None)

none_if : (b : Bool) (x y : Option SnapError) → GivesNone x → GivesNone y → GivesNone (if b then x else y)
none_if true x y h k = h
none_if false x y h k = k

none_or : (a later : Option SnapError) → GivesNone a → GivesNone later → GivesNone (snap.or_else a later)
none_or None later h k = k
none_or (Some e) later h k = h

none_full : (l : Limits) (bytes : ℕ) → GivesNone (snap.full_of l bytes)
none_full l bytes = none_if (nat_lt l.log bytes) (Some (LogFull (capped bytes) l.log)) None refl tt

none_row : (r : Reader) (l : Limits) (before : Table) (row : Values) → GivesNone (snap.refusal_of r l before row)
none_row r l before row = none_or (snap.fault_of r row) _
    (none_if (not (length row == length r.knows.definition.columns)) _ _ refl (none_if (is_none (r.knows.truth row)) _ _ refl (none_if (lacks_key r.knows.key row) _ None refl tt)))
    (none_if (picks r.knows row) (snap.refusal_behind r.knows l before row) None (none_if (snap.is_taken_key r.knows before (key_text r.knows row)) (Some (DuplicateKey (key_text r.knows row))) _ refl (none_full l _)) tt)

none_rows : (r : Reader) (l : Limits) (before rows : Table) → GivesNone (first_refused r l before rows)
none_rows r l before [] = tt
none_rows r l before (row ∷ rows) = none_or (snap.refusal_of r l before row) _ (none_row r l before row) (none_rows r l (before ++ row ∷ []) rows)

-- ---- a head gives its own

abbrev Gives : TableDef → Option SnapError → Type 0
Gives got a = IfSome a (λ error. IfSome (definition_for error) (λ d. d ≡ got))

gives_none : (got : TableDef) (a : Option SnapError) → GivesNone a → Gives got a
gives_none got None h = tt
gives_none got (Some error) h = subst (λ (d : Option TableDef). IfSome d (λ d. d ≡ got)) (sym h) tt

gives_or : (got : TableDef) (a later : Option SnapError) → Gives got a → Gives got later → Gives got (snap.or_else a later)
gives_or got None later h k = k
gives_or got (Some e) later h k = h

module _ (d : TableDef) (head : SnapHead) where
  abbrev got : TableDef
  got = snap.definition_got d head

  fresh_if : (v : Visibility) (xid : ℕ) (b : Bool) → Gives got (error_in (if b then Ok v else Err (Stale xid v.xmax)))
  fresh_if v xid true = tt
  fresh_if v xid false = tt

  fresh : (last : Option ℕ) (v : Visibility) → Gives got (error_in (snap.fresh_of last v))
  fresh None v = tt
  fresh (Some xid) v = fresh_if v xid (is_visible v xid)

  defined_if : (last : Option ℕ) (v : Visibility) (b : Bool) → Gives got (error_in (if b then snap.fresh_of last v else Err (DefinitionChanged d got)))
  defined_if last v true = fresh last v
  defined_if last v false = refl

  placed : (size : ℕ) (a : Result Visibility ℕ) (last : Option ℕ) → Gives got (error_in (snap.started_over d last head (snap.placed size a)))
  placed size (Ok v) last = defined_if last v (snap.is_defined_so d head)
  placed size (Err left) last = tt

  -- the definition that a refusal gives is the head's
  pub given_is : (r : Reader) (l : Limits) (last : Option ℕ) (rows : Table) → r.knows.definition ≡ d → Gives got (refusal_in r l last head rows)
  given_is r l last rows same = subst (λ (x : TableDef). Gives got (snap.or_else (error_in (snap.start_of x last head)) (first_refused r l [] rows))) (sym same)
      (gives_or got (error_in (snap.start_of d last head)) (first_refused r l [] rows) (placed (length head.vis) _ last) (gives_none got (first_refused r l [] rows) (none_rows r l [] rows)))

-- ---- the definition of a shape is of a served table

abbrev IsServedBy : List Served → ℕ → TableDef → Knows → Type 0
IsServedBy tables table d s = (s.definition ≡ d) × (table < length tables)

module _ (tables : List Served) (table : ℕ) (d : TableDef) (chosen : Option Names) (clause : Option (List ℕ)) (s : Knows) where
  keyed : (served : Served) (key : Option (List ℕ)) → table < length tables → option_map (λ key. knows_of served d key (selected_places d chosen) clause) key ≡ Some s → IsServedBy tables table d s
  keyed served None within e = cc
  keyed served (Some key) within e = (ap (λ (k : Knows). k.definition) (sym (some_same (knows_of served d key (selected_places d chosen) clause) s e)), within)

  allowed : (served : Served) (refused : Option DefError) → table < length tables → knows_by served d chosen clause refused ≡ Some s → IsServedBy tables table d s
  allowed served (Some error) within e = cc
  allowed served None within e = keyed served (key_places served d) within e

  with_served : (served : Option Served) → slice_get tables table ≡ served → knows_with d chosen clause served ≡ Some s → IsServedBy tables table d s
  with_served None at e = cc
  with_served (Some served) at e = allowed served (refusal_of served d chosen clause) (slice_get_within tables table served at) e

  known_by : knows_for tables table d chosen clause ≡ Some s → IsServedBy tables table d s
  unfolding knows_for
  known_by e = with_served (slice_get tables table) refl e

read_by : (o : Options) (ask : Ask) (d : TableDef) (r : Reader) (knows : Option Knows) → knows_for o.tables ask.table d ask.columns ask.clause ≡ knows → option_map (λ (knows : Knows). record { knows = knows; unread = unread_under knows.definition.columns ask.clause }) knows ≡ Some r → IsServedBy o.tables ask.table d r.knows
read_by o ask d r None is e = cc
read_by o ask d r (Some s) is e = subst (λ (x : Reader). IsServedBy o.tables ask.table d x.knows) (some_same _ r e) (known_by o.tables ask.table d ask.columns ask.clause s is)

served_shape : (o : Options) (v : Server) (n : ℕ) (x : Shape) → IsShape o v n x → x.reader.knows.definition.table < length o.tables
served_shape o v n x is =
    let p = read_by o x.ask is.definition x.reader (knows_for o.tables x.ask.table is.definition x.ask.columns x.ask.clause) refl is.reads in
    subst (λ t. t < length o.tables) (sym (ap (λ (d : TableDef). d.table) p.0 ∙ is.placed)) p.1

new_if : (tables : List Served) (d : TableDef) (a : Option TableDef) → IfSome a (λ x. x ≡ d) → IsNew tables d → IfSome a (IsNew tables)
new_if tables d None h new = tt
new_if tables d (Some x) h new = subst (IsNew tables) (sym h) new

-- The new definition of a refused snapshot is of a served table, and has the columns of the head.
pub is_new : (o : Options) (s : law.Situation) (n : ℕ) (x : Shape) (head : SnapHead) (rows : Table) (last : Option ℕ) (error : SnapError) (tables : List Served) → IsStart o → IsReached o s → shape_at s.server.shapes n ≡ Some x → refusal_in x.reader o.limits last head rows ≡ Some error
    → length head.columns < 4294967296 → tables ≡ o.tables → IfSome (definition_for error) (IsNew tables)
is_new o s n x head rows last error tables start reached at refused few same =
    let d = x.reader.knows.definition in
    let given = subst (Gives (snap.definition_got d head)) refused (given_is d head x.reader o.limits last rows refl) in
    subst (λ (ts : List Served). IfSome (definition_for error) (IsNew ts)) (sym same)
    (new_if o.tables (snap.definition_got d head) (definition_for error) given (record { served = served_shape o s.server n x ((reached_sound o s start reached).shapes n x at); few = few }))
