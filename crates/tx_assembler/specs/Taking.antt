-- What is taken of messages, as the code takes it: changes one by one.
use Rattle.std.specs.Prelude.{◌≡◌, ℕ, Bool, true, false, ◌||◌, length, List, [], ◌∷◌, ◌++◌, Result, Ok, Err, Option, None, Some}
use Rattle.std.specs.List.{flat_map}
use Rattle.pgout.specs.declared.message.Field.{Field}
use Rattle.pgout.specs.Grammar.{field}
use Rattle.shape_base.specs.declared.definition.TableDef.{TableDef}
use Rattle.shape_base.specs.declared.change.ChangeKind.{ChangeKind}
use Rattle.shape_base.specs.declared.change.ChangeKind.TheVariants as kinds
use Rattle.shape_base.specs.declared.change.Change.{Change}
use Rattle.shape_base.specs.declared.change.Tx.{Tx}
use Rattle.relation_cache.specs.declared.relation.Relation as described
use Rattle.tx_assembler.specs.declared.answer.AssembleError.{AssembleError}
use Rattle.tx_assembler.specs.declared.answer.AssembleError.TheVariants as errors
use Rattle.tx_assembler.specs.Answers.{Answer, next, Refuses}
use Rattle.tx_assembler.specs.Kept.{DefinedChange}
use Rattle.tx_assembler.specs.Feeding.{grown}

-- the transaction after the call is the answer; after a refusal it is as it was
abbrev pub IsTaken : {A : Type 0} → Result A AssembleError → Tx → Tx → Answer Tx → Type 0
IsTaken (Ok x) old new answer = answer ≡ Ok new
IsTaken (Err e) old new answer = (new ≡ old) × Refuses e answer

-- the definition of the served table in this place under a relation
abbrev pub definition_at : ℕ → described.Relation → TableDef
definition_at table r = record { table = table; oid = r.oid; columns = r.columns }

-- the transaction with one change more, whose message has so many bytes
abbrev pub with_one : Tx → ℕ → TableDef → ChangeKind → Answer Tx
with_one tx size d kind = grown tx size (record { definition = d; kind = kind } ∷ [])

-- a truncation of this table, where it is served
abbrev pub truncation : Option (Option TableDef) → List DefinedChange
truncation None = []
truncation (Some None) = []
truncation (Some (Some d)) = record { definition = d; kind = kinds.Truncate } ∷ []

abbrev pub truncations : (ℕ → Option (Option TableDef)) → List ℕ → List DefinedChange
truncations target [] = []
truncations target (oid ∷ oids) = truncation (target oid) ++ truncations target oids

-- the bytes of a row's columns in a message
abbrev pub row_bytes : List Field → ℕ
row_bytes row = length (flat_map field.spell row)

-- whether one of the tables is served; the first without a relation is refused
abbrev pub served_under : ℕ → Option (Option TableDef) → Answer Bool
served_under oid None = Err (errors.UnknownRelation oid)
served_under oid (Some None) = Ok false
served_under oid (Some (Some d)) = Ok true

abbrev pub some_served : (ℕ → Option (Option TableDef)) → List ℕ → Answer Bool
some_served target [] = Ok false
some_served target (oid ∷ oids) = next (served_under oid (target oid)) (λ here. next (some_served target oids) (λ later. Ok (here || later)))

-- a transaction with some definitions and changes more
pub record HasMore (old new : Tx) : Type 0 where
  pub defs : List TableDef
  pub changes : List Change
  pub same : new ≡ record { xid = old.xid; lsn = old.lsn; end = old.end; bytes = old.bytes; defs = old.defs ++ defs; changes = old.changes ++ changes }
