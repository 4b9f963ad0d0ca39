-- What a stream shows: the transactions of its stretches, each whole from Begin to Commit, without repeats.
use Rattle.std.specs.Prelude.{◌≡◌, ℕ, ◌+◌, max, nat_le, ◌==◌, Bool, true, false, if◌then◌else◌, List, [], ◌∷◌, ◌++◌, length, map, take, Ok, Err, Option, None, Some}
use Rattle.shape_base.specs.declared.change.Tx.{Tx}
use Rattle.shape_base.specs.declared.served.Served.{Served}
use Rattle.shape_base.specs.declared.history.History.{History}
use Rattle.shape_base.specs.Tables.{commits_of}
use Rattle.shape_base.specs.Transactions.{meaning}
use Rattle.pgout.specs.declared.message.Message.{Message}
use Rattle.pgout.specs.declared.message.Message.TheVariants.{Begin, Logical, Commit, Origin, Relation, TypeName, Insert, Update, Delete, Truncate}
use Rattle.relation_cache.specs.declared.relation.Relation as described
use Rattle.tx_assembler.specs.declared.answer.AssembleError.{AssembleError}
use Rattle.tx_assembler.specs.declared.answer.AssembleError.TheVariants as errors
use Rattle.tx_assembler.specs.Answers.{Answer}
use Rattle.tx_assembler.specs.Rows.{relation_of}
use Rattle.tx_assembler.specs.Kept.{DefinedChange, target_of, changes_of, bytes_kept, with_changes}
use Rattle.tx_assembler.specs.Feeding.{empty_tx, within_limit}

-- ---- streams

-- A stretch begins anew and is a list of messages, of ends, and of refusals of its frames.
pub data Item : Type 0 where
  Sent : Message → Item
  Done : Item
  Broken : Item

abbrev pub Stretch : Type 0
Stretch = List Item

-- the messages before the first end and the first refusal of a frame
abbrev pub messages_of : Stretch → List Message
messages_of [] = []
messages_of (Sent m ∷ items) = m ∷ messages_of items
messages_of (Done ∷ items) = []
messages_of (Broken ∷ items) = []

-- ---- relations

abbrev pub if_made : Answer described.Relation → Option described.Relation
if_made (Ok r) = Some r
if_made (Err e) = None

abbrev pub described_by : ℕ → Message → Option described.Relation
described_by oid (Relation o ns name identity columns) = if o == oid then if_made (relation_of o ns name columns) else None
described_by oid (Begin lsn time xid) = None
described_by oid (Logical flags lsn prefix content) = None
described_by oid (Commit flags lsn end time) = None
described_by oid (Origin lsn name) = None
described_by oid (TypeName o ns name) = None
described_by oid (Insert o row) = None
described_by oid (Update o before row) = None
described_by oid (Delete o before) = None
described_by oid (Truncate options oids) = None

abbrev pub or_else : {A : Type 0} → Option A → Option A → Option A
or_else None y = y
or_else (Some x) y = Some x

-- the last relation of this identifier
abbrev pub last_relation : List Message → ℕ → Option described.Relation
last_relation [] oid = None
last_relation (m ∷ ms) oid = or_else (last_relation ms oid) (described_by oid m)

-- ---- transactions

abbrev pub is_commit : Message → Bool
is_commit (Commit flags lsn end time) = true
is_commit (Begin lsn time xid) = false
is_commit (Logical flags lsn prefix content) = false
is_commit (Origin lsn name) = false
is_commit (Relation oid ns name identity columns) = false
is_commit (TypeName oid ns name) = false
is_commit (Insert oid row) = false
is_commit (Update oid before row) = false
is_commit (Delete oid before) = false
is_commit (Truncate options oids) = false

abbrev pub before_first : Message → List (List Message) → List (List Message)
before_first m [] = []
before_first m (piece ∷ pieces) = (m ∷ piece) ∷ pieces

-- messages cut behind each Commit; what follows the last Commit is left out
abbrev pub pieces_of : List Message → List (List Message)
pieces_of [] = []
pieces_of (m ∷ ms) = if is_commit m then (m ∷ []) ∷ pieces_of ms else before_first m (pieces_of ms)

-- the messages of pieces, in order
abbrev pub concat : List (List Message) → List Message
concat [] = []
concat (piece ∷ pieces) = piece ++ concat pieces

-- what follows the last Commit
abbrev pub has_commit : List Message → Bool
has_commit [] = false
has_commit (m ∷ ms) = if is_commit m then true else has_commit ms

abbrev pub rest_of : List Message → List Message
rest_of [] = []
rest_of (m ∷ ms) = if has_commit (m ∷ ms) then rest_of ms else m ∷ ms

-- the LSN and the transaction's id of a Begin
abbrev pub or_begin : Message → Option (ℕ × ℕ) → Option (ℕ × ℕ)
or_begin (Begin lsn time xid) later = Some (lsn, xid)
or_begin (Commit flags lsn end time) later = later
or_begin (Logical flags lsn prefix content) later = later
or_begin (Origin lsn name) later = later
or_begin (Relation oid ns name identity columns) later = later
or_begin (TypeName oid ns name) later = later
or_begin (Insert oid row) later = later
or_begin (Update oid before row) later = later
or_begin (Delete oid before) later = later
or_begin (Truncate options oids) later = later

-- the first Begin among messages
abbrev pub begin_of : List Message → Option (ℕ × ℕ)
begin_of [] = None
begin_of (m ∷ ms) = or_begin m (begin_of ms)

abbrev pub lsn_in : Option (ℕ × ℕ) → ℕ
lsn_in None = 0
lsn_in (Some begin) = begin.0

abbrev pub xid_in : Option (ℕ × ℕ) → ℕ
xid_in None = 0
xid_in (Some begin) = begin.1

abbrev pub lsn_of : List Message → ℕ
lsn_of ms = lsn_in (begin_of ms)

-- the end LSN of the first Commit
abbrev pub or_end : Message → ℕ → ℕ
or_end (Commit flags lsn end time) later = end
or_end (Begin lsn time xid) later = later
or_end (Logical flags lsn prefix content) later = later
or_end (Origin lsn name) later = later
or_end (Relation oid ns name identity columns) later = later
or_end (TypeName oid ns name) later = later
or_end (Insert oid row) later = later
or_end (Update oid before row) later = later
or_end (Delete oid before) later = later
or_end (Truncate options oids) later = later

abbrev pub end_of : List Message → ℕ
end_of [] = 0
end_of (m ∷ ms) = or_end m (end_of ms)

abbrev pub if_kept : Answer (List DefinedChange) → List DefinedChange
if_kept (Ok cs) = cs
if_kept (Err e) = []

-- the changes of served tables that a message brings after others
abbrev pub changes_after : List Served → List Message → Message → Answer (List DefinedChange)
changes_after tables before m = changes_of (target_of tables (last_relation before)) m

-- the changes of served tables that messages bring after others
abbrev pub changes_in : List Served → List Message → List Message → List DefinedChange
changes_in tables before [] = []
changes_in tables before (m ∷ ms) = if_kept (changes_after tables before m) ++ changes_in tables (before ++ m ∷ []) ms

-- the bytes of those of them that bring some
abbrev pub bytes_in : List Served → List Message → List Message → ℕ
bytes_in tables before [] = 0
bytes_in tables before (m ∷ ms) = bytes_kept m (if_kept (changes_after tables before m)) + bytes_in tables (before ++ m ∷ []) ms

abbrev pub tx_with : Tx → ℕ → ℕ → Tx
tx_with tx end bytes = record { xid = tx.xid; lsn = tx.lsn; end = end; bytes = bytes; defs = tx.defs; changes = tx.changes }

-- the transaction of the messages from its Begin to its Commit, after others
abbrev pub tx_of : List Served → List Message → List Message → Tx
tx_of tables before ms = tx_with (with_changes (empty_tx (lsn_of ms) (xid_in (begin_of ms))) (changes_in tables before ms)) (end_of ms) (bytes_in tables before ms)

-- the greatest LSN of whole transactions, and of those before them
abbrev pub greatest_of : ℕ → List (List Message) → ℕ
greatest_of last [] = last
greatest_of last (piece ∷ pieces) = greatest_of (max last (lsn_of piece)) pieces

-- ---- refusals

-- a message has no cause to be refused, or this one
abbrev pub Verdict : Type 0
Verdict = Option AssembleError

abbrev pub refusal_in : {A : Type 0} → Answer A → Verdict
refusal_in (Ok x) = None
refusal_in (Err e) = Some e

abbrev pub begin_refused : Option (ℕ × ℕ) → Verdict
begin_refused None = None
begin_refused (Some begin) = Some (errors.OutOfOrder 66 66)

abbrev pub commit_refused : Option (ℕ × ℕ) → ℕ → Verdict
commit_refused None lsn = Some (errors.OutOfOrder 0 67)
commit_refused (Some begin) lsn = if begin.0 == lsn then None else Some (errors.LsnMismatch begin.0 lsn)

-- a message that brings changes, behind so many bytes of its transaction
abbrev pub changes_refused : Answer (List DefinedChange) → Message → ℕ → Verdict
changes_refused (Err e) m bytes = Some e
changes_refused (Ok cs) m bytes = refusal_in (within_limit (bytes + bytes_kept m cs))

-- outside of a transaction it is out of order, and in a repeat nothing is asked of it
abbrev pub change_refused : Option (ℕ × ℕ) → ℕ → ℕ → Verdict → Verdict
change_refused None last kind refused = Some (errors.OutOfOrder 0 kind)
change_refused (Some begin) last kind refused = if nat_le begin.0 last then None else refused

-- a message of changes, whose first byte is this, after others of its stretch
abbrev pub change_refused_after : List Served → ℕ → List Message → ℕ → Message → Verdict
change_refused_after tables last before kind m =
    change_refused (begin_of (rest_of before)) (greatest_of last (pieces_of before)) kind
    (changes_refused (changes_after tables before m) m (bytes_in tables (concat (pieces_of before)) (rest_of before)))

-- why a message is refused after others of its stretch, where this LSN was the greatest before the stretch
abbrev pub refused_after : List Served → ℕ → List Message → Message → Verdict
refused_after tables last before (Begin lsn time xid) = begin_refused (begin_of (rest_of before))
refused_after tables last before (Commit flags lsn end time) = commit_refused (begin_of (rest_of before)) lsn
refused_after tables last before (Relation oid ns name identity columns) = refusal_in (relation_of oid ns name columns)
refused_after tables last before (Origin lsn name) = None
refused_after tables last before (TypeName oid ns name) = None
refused_after tables last before (Logical flags lsn prefix content) = None
refused_after tables last before (Insert oid row) = change_refused_after tables last before 73 (Insert oid row)
refused_after tables last before (Update oid old row) = change_refused_after tables last before 85 (Update oid old row)
refused_after tables last before (Delete oid old) = change_refused_after tables last before 68 (Delete oid old)
refused_after tables last before (Truncate options oids) = change_refused_after tables last before 84 (Truncate options oids)

abbrev pub unless_refused : Verdict → Message → List Message → List Message
unless_refused None m ms = m ∷ ms
unless_refused (Some e) m ms = []

-- of the messages that follow others, those before the first that is refused
abbrev pub taken_from : List Served → ℕ → List Message → List Message → List Message
taken_from tables last before [] = []
taken_from tables last before (m ∷ ms) = unless_refused (refused_after tables last before m) m (taken_from tables last (before ++ m ∷ []) ms)

-- the messages of a stretch that count, where this LSN was the greatest before it
abbrev pub taken_of : List Served → ℕ → Stretch → List Message
taken_of tables last stretch = taken_from tables last [] (messages_of stretch)

-- ---- what is shown

-- the transactions of pieces after others, without those whose LSN is not above the greatest so far
abbrev pub shown_in : List Served → List Message → ℕ → List (List Message) → List Tx
shown_in tables before last [] = []
shown_in tables before last (piece ∷ pieces) =
    if nat_le (lsn_of piece) last then shown_in tables (before ++ piece) last pieces
    else tx_of tables before piece ∷ shown_in tables (before ++ piece) (lsn_of piece) pieces

abbrev pub shown_from : List Served → ℕ → List Stretch → List Tx
shown_from tables last [] = []
shown_from tables last (stretch ∷ stretches) =
    shown_in tables [] last (pieces_of (taken_of tables last stretch))
    ++ shown_from tables (greatest_of last (pieces_of (taken_of tables last stretch))) stretches

-- What a stream shows to one who serves these tables.
abbrev pub shown : List Served → List Stretch → List Tx
shown tables stream = shown_from tables 0 stream

-- A stream shows a history: what it shows does what the first commits of the history do, in order, none skipped.
pub record Shows (h : History) (stream : List Stretch) : Type 0 where
  pub front : map meaning (take (length (shown h.tables stream)) (commits_of h.steps)) ≡ map meaning (shown h.tables stream)
