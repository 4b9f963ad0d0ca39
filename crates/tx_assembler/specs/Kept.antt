-- What is kept of a message: the changes of served tables.
use Rattle.std.specs.Prelude.{ℕ, ◌+◌, Bool, ◌&&◌, if◌then◌else◌, List, [], ◌∷◌, ◌++◌, length, Ok, Err, Option, None, Some}
use Rattle.std.specs.Option.{option_map}
use Rattle.shape_base.specs.declared.definition.TableDef.{TableDef}
use Rattle.shape_base.specs.declared.change.ChangeKind.{ChangeKind}
use Rattle.shape_base.specs.declared.change.ChangeKind.TheVariants as kinds
use Rattle.shape_base.specs.declared.change.Tx.{Tx}
use Rattle.shape_base.specs.declared.served.Served.{Served}
use Rattle.shape_base.specs.Tables.{same_text, same_def}
use Rattle.pgout.specs.declared.message.Field.{Field}
use Rattle.pgout.specs.declared.message.Before.{Before}
use Rattle.pgout.specs.declared.message.Before.TheVariants.{Absent, Key, Whole}
use Rattle.pgout.specs.declared.message.Message.{Message}
use Rattle.pgout.specs.declared.message.Message.TheVariants.{Begin, Logical, Commit, Origin, Relation, TypeName, Insert, Update, Delete, Truncate}
use Rattle.pgout.specs.Grammar.{spelled}
use Rattle.relation_cache.specs.declared.relation.Relation as described
use Rattle.tx_assembler.specs.declared.answer.AssembleError.TheVariants as errors
use Rattle.tx_assembler.specs.Answers.{Answer, next}
use Rattle.tx_assembler.specs.Rows.{row_of}

-- the place of the first that passes
abbrev pub place_where : {A : Type 0} → (A → Bool) → List A → Option ℕ
place_where passes [] = None
place_where passes (x ∷ xs) = if passes x then Some 0 else option_map (λ p. p + 1) (place_where passes xs)

abbrev pub is_named : List ℕ → List ℕ → Served → Bool
is_named ns name t = same_text ns t.ns && same_text name t.name

-- the place of the first served table of this name
abbrev pub table_named : List Served → List ℕ → List ℕ → Option ℕ
table_named tables ns name = place_where (is_named ns name) tables

-- the definition of a relation's table, where it is served
abbrev pub definition_of : List Served → described.Relation → Option TableDef
definition_of tables r = option_map (λ t. record { table = t; oid = r.oid; columns = r.columns }) (table_named tables r.ns r.name)

-- a change of a served table, and the definition under which it came
pub record DefinedChange : Type 0 where
  pub definition : TableDef
  pub kind : ChangeKind

-- one change of a table, whose relation is unknown, or of no served table, or gives this definition
abbrev pub change_under : ℕ → Option (Option TableDef) → (TableDef → Answer ChangeKind) → Answer (List DefinedChange)
change_under oid None kind = Err (errors.UnknownRelation oid)
change_under oid (Some None) kind = Ok []
change_under oid (Some (Some d)) kind = next (kind d) (λ k. Ok (record { definition = d; kind = k } ∷ []))

abbrev pub inserted : List Field → TableDef → Answer ChangeKind
inserted row d = next (row_of (length d.columns) [] row) (λ new. Ok (kinds.Insert new))

-- the whole old row of an Update or a Delete
abbrev pub whole_row : ℕ → Before → Answer (List Field)
whole_row oid Absent = Err (errors.NoOldRow oid)
whole_row oid (Key old) = Err (errors.NoOldRow oid)
whole_row oid (Whole old) = Ok old

-- the old row whole, and then the new one
abbrev pub update_of : List Field → List Field → TableDef → Answer ChangeKind
update_of old row d = next (row_of (length d.columns) [] old) (λ old. next (row_of (length d.columns) old row) (λ new. Ok (kinds.Update old new)))

abbrev pub updated : ℕ → Before → List Field → TableDef → Answer ChangeKind
updated oid before row d = next (whole_row oid before) (λ old. update_of old row d)

abbrev pub delete_of : List Field → TableDef → Answer ChangeKind
delete_of old d = next (row_of (length d.columns) [] old) (λ old. Ok (kinds.Delete old))

abbrev pub deleted : ℕ → Before → TableDef → Answer ChangeKind
deleted oid before d = next (whole_row oid before) (λ old. delete_of old d)

-- the definition of the table with this identifier, where the relations are these
abbrev pub target_of : List Served → (ℕ → Option described.Relation) → ℕ → Option (Option TableDef)
target_of tables known oid = option_map (definition_of tables) (known oid)

-- one truncation for each served table, in the message's order
abbrev pub truncated : (ℕ → Option (Option TableDef)) → List ℕ → Answer (List DefinedChange)
truncated target [] = Ok []
truncated target (oid ∷ oids) = next (change_under oid (target oid) (λ d. Ok kinds.Truncate)) (λ cs. next (truncated target oids) (λ more. Ok (cs ++ more)))

-- the changes of served tables that a message brings, where the relations are these
abbrev pub changes_of : (ℕ → Option (Option TableDef)) → Message → Answer (List DefinedChange)
changes_of target (Insert oid row) = change_under oid (target oid) (inserted row)
changes_of target (Update oid before row) = change_under oid (target oid) (updated oid before row)
changes_of target (Delete oid before) = change_under oid (target oid) (deleted oid before)
changes_of target (Truncate options oids) = truncated target oids
changes_of target (Begin lsn time xid) = Ok []
changes_of target (Logical flags lsn prefix content) = Ok []
changes_of target (Commit flags lsn end time) = Ok []
changes_of target (Origin lsn name) = Ok []
changes_of target (Relation oid ns name identity columns) = Ok []
changes_of target (TypeName oid ns name) = Ok []

-- a message's bytes count where some change of it is kept
abbrev pub bytes_of_some : ℕ → List DefinedChange → ℕ
bytes_of_some bytes [] = 0
bytes_of_some bytes (c ∷ cs) = bytes

abbrev pub bytes_kept : Message → List DefinedChange → ℕ
bytes_kept m cs = bytes_of_some (length (spelled m)) cs

-- the place of the first definition that is equal
abbrev pub place_of_definition : List TableDef → TableDef → Option ℕ
place_of_definition defs d = place_where (λ e. same_def e d) defs

-- the transaction with a change more under the definition in this place, or under one that it does not have yet
abbrev pub with_change_at : Tx → DefinedChange → Option ℕ → Tx
with_change_at tx c (Some p) = record { xid = tx.xid; lsn = tx.lsn; end = tx.end; bytes = tx.bytes; defs = tx.defs; changes = tx.changes ++ record { def = p; kind = c.kind } ∷ [] }
with_change_at tx c None = record { xid = tx.xid; lsn = tx.lsn; end = tx.end; bytes = tx.bytes; defs = tx.defs ++ c.definition ∷ []; changes = tx.changes ++ record { def = length tx.defs; kind = c.kind } ∷ [] }

abbrev pub with_change : Tx → DefinedChange → Tx
with_change tx c = with_change_at tx c (place_of_definition tx.defs c.definition)

-- the transaction with these changes more, each definition once
abbrev pub with_changes : Tx → List DefinedChange → Tx
with_changes tx [] = tx
with_changes tx (c ∷ cs) = with_changes (with_change tx c) cs

-- the transaction with so many bytes of kept messages
abbrev pub with_bytes : Tx → ℕ → Tx
with_bytes tx bytes = record { xid = tx.xid; lsn = tx.lsn; end = tx.end; bytes = bytes; defs = tx.defs; changes = tx.changes }
