-- What an assembler answers to one message.
use Rattle.std.specs.Prelude.{◌≡◌, ℕ, ◌+◌, nat_le, ◌==◌, if◌then◌else◌, List, [], Option, Result, Ok, Err, MatchBool}
use Rattle.std.specs.FinMap as map
use Rattle.shape_base.specs.declared.definition.TableDef.{TableDef}
use Rattle.shape_base.specs.declared.change.Tx.{Tx}
use Rattle.pgout.specs.declared.message.Message.{Message}
use Rattle.pgout.specs.declared.message.Message.TheVariants.{Begin, Logical, Commit, Origin, Relation, TypeName, Insert, Update, Delete, Truncate}
use Rattle.relation_cache.specs.declared.relation.Relation as described
use Rattle.tx_assembler.specs.declared.answer.AssembleError.{AssembleError}
use Rattle.tx_assembler.specs.declared.answer.AssembleError.TheVariants as errors
use Rattle.tx_assembler.specs.declared.answer.Fed.{Fed}
use Rattle.tx_assembler.specs.declared.answer.Fed.TheVariants as answers
use Rattle.tx_assembler.specs.declared.stage.Stage.{Stage}
use Rattle.tx_assembler.specs.declared.stage.Stage.TheVariants.{Outside, Passing, Taking, Refused}
use Rattle.tx_assembler.specs.Answers.{Answer, next, is_memory, Refuses}
use Rattle.tx_assembler.specs.Rows.{relation_of}
use Rattle.tx_assembler.specs.Kept.{DefinedChange, target_of, changes_of, bytes_kept, with_changes, with_bytes}
use Rattle.tx_assembler.specs.Situation.{Situation}
use Rattle.tx_assembler.specs.Whole.{most_bytes}

-- the situation after a message, and what is answered
abbrev pub Turn : Type 0
Turn = Situation × Fed

abbrev pub with_stage : Situation → Stage → Situation
with_stage s stage = record { tables = s.tables; relations = s.relations; last = s.last; stage = stage }

-- with no change, and none of a definition
abbrev pub empty_tx : ℕ → ℕ → Tx
empty_tx lsn xid = record { xid = xid; lsn = lsn; end = 0; bytes = 0; defs = []; changes = [] }

-- a transaction whose LSN is not above the last one's is a repeat
abbrev pub opened : ℕ → ℕ → ℕ → Stage
opened last lsn xid = if nat_le lsn last then Passing lsn else Taking (empty_tx lsn xid)

-- a Begin stands outside of a transaction alone
abbrev pub may_begin : Stage → Answer (Unit {0})
may_begin Outside = Ok tt
may_begin (Passing begin) = Err (errors.OutOfOrder 66 66)
may_begin (Taking tx) = Err (errors.OutOfOrder 66 66)
may_begin (Refused e) = Err e

abbrev pub begun : Situation → Stage → ℕ → ℕ → Answer Turn
begun s stage lsn xid = next (may_begin stage) (λ x. Ok (with_stage s (opened s.last lsn xid), answers.Nothing))

abbrev pub same_lsn : ℕ → ℕ → Answer (Unit {0})
same_lsn begin commit = if begin == commit then Ok tt else Err (errors.LsnMismatch begin commit)

-- a Commit stands inside a transaction alone, and has its Begin's LSN
abbrev pub may_end : Stage → ℕ → Answer (Unit {0})
may_end Outside lsn = Err (errors.OutOfOrder 0 67)
may_end (Passing begin) lsn = same_lsn begin lsn
may_end (Taking tx) lsn = same_lsn tx.lsn lsn
may_end (Refused e) lsn = Err e

abbrev pub ended : Tx → ℕ → Tx
ended tx end = record { xid = tx.xid; lsn = tx.lsn; end = end; bytes = tx.bytes; defs = tx.defs; changes = tx.changes }

-- a transaction is given, and its LSN is the last one from then on; a repeat is not
abbrev pub closed : Situation → Stage → ℕ → ℕ → Turn
closed s (Taking tx) lsn end = (record { tables = s.tables; relations = s.relations; last = lsn; stage = Outside }, answers.Tx (ended tx end))
closed s (Passing begin) lsn end = (with_stage s Outside, answers.Repeat lsn s.last)
closed s Outside lsn end = (with_stage s Outside, answers.Repeat lsn s.last)
closed s (Refused e) lsn end = (with_stage s Outside, answers.Repeat lsn s.last)

abbrev pub committed : Situation → Stage → ℕ → ℕ → Answer Turn
committed s stage lsn end = next (may_end stage lsn) (λ x. Ok (closed s stage lsn end))

-- the relation in the place of one with the same identifier
abbrev pub related : Situation → described.Relation → Answer Turn
related s r = Ok (record { tables = s.tables; relations = map.insert s.relations r.oid r; last = s.last; stage = s.stage }, answers.Nothing)

-- so many bytes of kept messages, where they stay within the limit
abbrev pub within_limit : ℕ → Answer ℕ
within_limit bytes = if nat_le bytes most_bytes then Ok bytes else Err (errors.TxTooLarge bytes most_bytes)

-- the transaction with these changes more, whose message has so many bytes
abbrev pub grown : Tx → ℕ → List DefinedChange → Answer Tx
grown tx more cs = next (within_limit (tx.bytes + more)) (λ bytes. Ok (with_bytes (with_changes tx cs) bytes))

-- the transaction after a message of changes, where the tables' definitions are these
abbrev pub taken_by : Tx → Message → (ℕ → Option (Option TableDef)) → Answer Tx
taken_by tx m target = next (changes_of target m) (λ cs. grown tx (bytes_kept m cs) cs)

abbrev pub taken : Situation → Tx → Message → Answer Tx
taken s tx m = taken_by tx m (target_of s.tables (map.get s.relations))

-- a message of changes, whose first byte is this
abbrev pub changed : Situation → Stage → ℕ → Message → Answer Turn
changed s Outside kind m = Err (errors.OutOfOrder 0 kind)
changed s (Passing begin) kind m = Ok (s, answers.Nothing)
changed s (Taking tx) kind m = next (taken s tx m) (λ tx. Ok (with_stage s (Taking tx), answers.Nothing))
changed s (Refused e) kind m = Err e

abbrev pub received : Situation → Message → Answer Turn
received s (Begin lsn time xid) = begun s s.stage lsn xid
received s (Commit flags lsn end time) = committed s s.stage lsn end
received s (Relation oid ns name identity columns) = next (relation_of oid ns name columns) (related s)
received s (Origin lsn name) = Ok (s, answers.Nothing)
received s (TypeName oid ns name) = Ok (s, answers.Nothing)
received s (Logical flags lsn prefix content) = Ok (s, answers.Nothing)
received s (Insert oid row) = changed s s.stage 73 (Insert oid row)
received s (Update oid before row) = changed s s.stage 85 (Update oid before row)
received s (Delete oid before) = changed s s.stage 68 (Delete oid before)
received s (Truncate options oids) = changed s s.stage 84 (Truncate options oids)

-- what is answered: after a refusal the same again
abbrev pub unless_refused : Stage → Answer Turn → Answer Turn
unless_refused Outside turn = turn
unless_refused (Passing begin) turn = turn
unless_refused (Taking tx) turn = turn
unless_refused (Refused e) turn = Err e

abbrev pub turn_of : Situation → Message → Answer Turn
turn_of s m = unless_refused s.stage (received s m)

-- the situation after this answer is the turn's; after a refusal it is as it was
abbrev pub IsTurned : Situation → Answer Turn → Result Fed AssembleError → Situation → Type 0
IsTurned old turn (Ok fed) new = turn ≡ Ok (new, fed)
IsTurned old turn (Err e) new = (new ≡ old) × Refuses e turn

-- What is answered to a message, and the situation after it: a refusal stands, but want of memory leaves all as it was.
abbrev pub IsFed : Situation → Message → Result Fed AssembleError → Situation → Type 0
IsFed old m (Ok fed) new = turn_of old m ≡ Ok (new, fed)
IsFed old m (Err e) new = MatchBool (is_memory e) (new ≡ old) ((turn_of old m ≡ Err e) × (new ≡ with_stage old (Refused e)))
