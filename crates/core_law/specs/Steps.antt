-- What one event does to the server and to the exchanges.
use Rattle.std.specs.Prelude.{ℕ, zero, suc, ◌+◌, Bool, nat_lt, if◌then◌else◌, List, [], ◌∷◌, ◌++◌, length, map, Option, None, Some, slice_get}
use Rattle.std.specs.Option.{option_map, option_or}
use Rattle.std.specs.List.{sum}
use Rattle.shape_base.specs.declared.change.Tx.{Tx}
use Rattle.shape_base.specs.declared.definition.TableDef.{TableDef}
use Rattle.shape_base.specs.declared.ask.Ask.{Ask}
use Rattle.shape_base.specs.declared.ask.Named.{Named}
use Rattle.shape_base.specs.declared.ask.Named.TheVariants.{Absent, Known, Strange}
use Rattle.shape_base.specs.declared.cause.Cause.{Cause}
use Rattle.shape_base.specs.declared.cause.Cause.TheVariants as causes
use Rattle.shape_base.specs.declared.reply.Reply.{Reply}
use Rattle.shape_base.specs.declared.registry_event.RegistryEvent.{RegistryEvent}
use Rattle.shape_base.specs.declared.registry_event.RegistryEvent.TheVariants.{Registered, Ready, Removed, Took, Redefined}
use Rattle.shape_base.specs.Tables.{Own, same_def, changes_of}
use Rattle.shape_base.specs.Visibility.{Visibility, is_visible}
use Rattle.shape_base.specs.Snapshot.{Snapshot, definition_in}
use Rattle.shape_base.specs.Shape.{Knows, stops, have_truths}
use Rattle.shape_base.specs.RegistryHistory.{was_removed, is_live, live_under, last_id, last_lsn}
use Rattle.shape_json.specs.declared.control.Control.TheVariants.{MustRefetch}
use Rattle.shape_json.specs.ShapeHistory.{Reader, ShapeEvent, Snapped, Dropped, ShapeState, bytes_of, drop_of, state_after}
use Rattle.shape_json.specs.ShapeHistory as shapes
use Rattle.shape_json.specs.Answer.{Answer, answer_of}
use Rattle.shape_json.specs.Answer as answers
use Rattle.http_edge.specs.declared.error_code.ErrorCode.{ErrorCode}
use Rattle.http_edge.specs.declared.error_code.ErrorCode.TheVariants as codes
use Rattle.http_edge.specs.declared.error_code.Detail.{Detail}
use Rattle.http_edge.specs.declared.error_code.Detail.TheVariants as details
use Rattle.http_edge.specs.Refusals.{refusal}
use Rattle.http_edge.specs.Lawful.{Asked, Refuses, AsksFor, control_of, reply_of, refusal_to_register}
use Rattle.fold_client.specs.declared.body.Body.{Body}
use Rattle.fold_client.specs.Following.{Heard}
use Rattle.core_law.specs.Situation.{Options, Shape, Server, Role, Reads, Waits, Owns, HasNone, Exchange, Situation, answers_from, known_of, reader_for}

-- ---- lists

-- the element in a place, changed
abbrev pub change_at : {A : Type 0} → (A → A) → List A → ℕ → List A
change_at f [] i = []
change_at f (x ∷ xs) zero = f x ∷ xs
change_at f (x ∷ xs) (suc i) = x ∷ change_at f xs i

-- ---- replies

-- a reply, with what its body says where it is the body of a page or of a conflict
pub record Written : Type 0 where
  pub reply : Reply
  pub body : Option Body

abbrev pub refused_with : ErrorCode → Written
refused_with code = record { reply = refusal code; body = None }

abbrev pub body_of : Answer → Option Body
body_of (answers.Paged handle from page) = Some (record { entries = page.entries; control = control_of page.up_to_date })
body_of (answers.Gone named) = Some (record { entries = []; control = MustRefetch })
body_of (answers.OffsetAhead end) = None
body_of answers.NotYet = None
body_of (answers.Starting number) = None
body_of answers.Unregistered = None

abbrev pub written_as : Options → Server → Ask → Answer → Option Written
written_as o v ask answer = option_map (λ reply. record { reply = reply; body = body_of answer }) (reply_of (known_of o v) ask answer)

-- the answer to a request, where there is one yet
abbrev pub answered : Options → Server → Bool → Ask → Option Written
answered o v late ask = written_as o v ask (answer_of (answers_from o v late) ask)

abbrev pub written_to : Options → Server → Bool → Asked → Option Written
written_to o v late (Refuses code) = Some (refused_with code)
written_to o v late (AsksFor ask) = answered o v late ask

-- one that waits for a number gets what its request asks for, unless the number was removed
abbrev pub unless_lost : Options → Server → Bool → Asked → ℕ → Option Written
unless_lost o v late asked n = if was_removed v.registry n then Some (refused_with codes.SnapshotLost) else written_to o v late asked

-- The reply that an exchange gets now, where there is one.
abbrev pub reply_now : Options → Server → Bool → Asked → Role → Option Written
reply_now o v late asked Reads = written_to o v late asked
reply_now o v late asked (Waits n) = unless_lost o v late asked n
reply_now o v late asked (Owns n) = unless_lost o v late asked n
reply_now o v late asked HasNone = None

abbrev pub heard_at : Server → Asked → Written → Heard
heard_at v asked w = record { asked = asked; given = record { reply = w.reply; seen = length v.registry; shown = length v.commits }; body = w.body }

-- an exchange that has no reply gets it where there is one now
abbrev pub settled_one : Options → Server → (Exchange → Bool) → Exchange → Option Heard → Exchange
settled_one o v late x (Some h) = x
settled_one o v late x None = record x { given = option_map (heard_at v x.asked) (reply_now o v (late x) x.asked x.role) }

-- Each exchange that can be answered is answered.
abbrev pub settled : Options → (Exchange → Bool) → Situation → Situation
settled o late s = record s { exchanges = map (λ x. settled_one o s.server late x x.given) s.exchanges }

-- ---- the server

abbrev pub with_event : ShapeEvent → Shape → Shape
with_event e x = record x { events = x.events ++ e ∷ [] }

abbrev pub change_shape : (Shape → Shape) → List Shape → ℕ → List Shape
change_shape f xs zero = xs
change_shape f xs (suc i) = change_at f xs i

abbrev pub with_registry : Server → RegistryEvent → Server
with_registry v e = record v { registry = v.registry ++ e ∷ [] }

abbrev pub with_shape_event : Server → ℕ → ShapeEvent → Server
with_shape_event v n e = record v { shapes = change_shape (with_event e) v.shapes n }

abbrev pub redefined : Server → Option TableDef → Server
redefined v None = v
redefined v (Some d) = with_registry v (Redefined d)

-- a live number is removed
abbrev pub removed : Server → ℕ → Cause → Server
removed v n cause = if is_live v.registry n then with_registry v (Removed n cause) else v

-- the shape is dropped from outside
abbrev pub dropped : Server → ℕ → Cause → Server
dropped v n cause = removed (with_shape_event v n (Dropped cause)) n cause

-- a new shape, registered for a request
abbrev pub with_shape : Server → Ask → Reader → Server
with_shape v ask reader = record {
  registry = v.registry ++ Registered (length v.shapes + 1) ask.identity ask.table (last_id v.registry) ∷ [];
  commits = v.commits;
  shapes = v.shapes ++ record { ask = ask; reader = reader; before = length v.commits; events = [] } ∷ [];
}

-- ---- commits

abbrev pub bytes_in : ShapeState → ℕ
bytes_in (shapes.Starting buffer) = 0
bytes_in (shapes.Ready log) = bytes_of log
bytes_in (shapes.Gone cause) = 0

-- the bytes of a shape's log; none before its snapshot and once it is gone
abbrev pub bytes_kept : Options → Shape → ℕ
bytes_kept o x = bytes_in (state_after x.reader o.limits x.events)

abbrev pub all_bytes : Options → List Shape → ℕ
all_bytes o xs = sum (map (bytes_kept o) xs)

-- a commit reaches a shape that is not removed
abbrev pub took_one : List RegistryEvent → ℕ → Tx → ℕ → Shape → Shape
took_one events n tx others x = if was_removed events n then x else with_event (shapes.Took tx others) x

-- The commit reaches each shape that is not removed, one after the other, in rising order of their numbers: the other logs are those in front of it with the commit, and those behind it without.
abbrev pub took_from : Options → List RegistryEvent → Tx → ℕ → ℕ → List Shape → List Shape
took_from o events tx n front [] = []
took_from o events tx n front (x ∷ xs) = let y = took_one events n tx (front + all_bytes o xs) x in y ∷ took_from o events tx (n + 1) (front + bytes_kept o y) xs

abbrev pub with_commit : Options → Server → Tx → Server
with_commit o v tx = record {
  registry = v.registry ++ Took tx.lsn tx.xid ∷ [];
  commits = v.commits ++ tx ∷ [];
  shapes = took_from o v.registry tx 1 0 v.shapes;
}

-- the definition under which the first change came that stops the shape
abbrev pub stopping_definition : Knows → List Own → Option TableDef
stopping_definition s [] = None
stopping_definition s (c ∷ cs) = if stops s c then Some c.definition else stopping_definition s cs

-- the new definition, where a drop is for another one
abbrev pub definition_by : Knows → Tx → Cause → Option TableDef
definition_by s tx (causes.Changed lsn) = stopping_definition s (changes_of s.definition.table tx)
definition_by s tx (causes.Truncated lsn) = None
definition_by s tx causes.Deleted = None
definition_by s tx (causes.LogFull bytes limit) = None
definition_by s tx (causes.AllLogsFull bytes limit) = None
definition_by s tx (causes.PendingFull bytes limit) = None
definition_by s tx (causes.BadRow lsn column) = None
definition_by s tx causes.SnapshotFailed = None
definition_by s tx causes.NoMemory = None

abbrev pub removed_for : Server → Tx → ℕ → Shape → Option Cause → Server
removed_for v tx n x None = v
removed_for v tx n x (Some cause) = if is_live v.registry n then redefined (with_registry v (Removed n cause)) (definition_by x.reader.knows tx cause) else v

-- each live shape that the commit drops is removed, in rising order
abbrev pub swept_from : Options → Tx → ℕ → List Shape → Server → Server
swept_from o tx n [] v = v
swept_from o tx n (x ∷ xs) v = swept_from o tx (n + 1) xs (removed_for v tx n x (drop_of x.reader o.limits x.events))

-- The server after a commit.
abbrev pub after_commit : Options → Server → Tx → Server
after_commit o v tx = let next = with_commit o v tx in swept_from o tx 1 next.shapes next

-- A commit whose LSN is not above the last one's is a repeat, and passed over.
abbrev pub unless_repeat : Options → Server → Tx → Server
unless_repeat o v tx = if nat_lt (last_lsn v.registry) tx.lsn then after_commit o v tx else v

-- The server after commits, each in turn.
abbrev pub after_commits : Options → Server → List Tx → Server
after_commits o v [] = v
after_commits o v (tx ∷ txs) = after_commits o (unless_repeat o v tx) txs

-- ---- requests

abbrev pub with_exchange : Situation → Exchange → Situation
with_exchange s x = record s { exchanges = s.exchanges ++ x ∷ [] }

-- it has its refusal at once, unless it has a reply
abbrev pub refused_at : Server → ErrorCode → Exchange → Exchange
refused_at v code x = record x { given = option_or x.given (Some (heard_at v x.asked (refused_with code))) }

abbrev pub with_role : Role → Exchange → Exchange
with_role role x = record x { role = role }

abbrev pub registered_for : Situation → Exchange → Ask → Option Reader → Situation
registered_for s x ask None = with_exchange s x
registered_for s x ask (Some reader) = with_exchange (record s { server = with_shape s.server ask reader }) (with_role (Owns (length s.server.shapes + 1)) x)

abbrev pub opened : Options → Situation → Exchange → Ask → Option ErrorCode → Situation
opened o s x ask (Some code) = with_exchange s (refused_at s.server code x)
opened o s x ask None = registered_for s x ask (reader_for o s.server.registry ask)

-- a request without a handle finds the live number of its identity, or registers one
abbrev pub asked_first : Options → Situation → Exchange → Ask → Option ℕ → Situation
asked_first o s x ask (Some n) = with_exchange s (with_role (Waits n) x)
asked_first o s x ask None = opened o s x ask (refusal_to_register (known_of o s.server) s.server.registry ask)

abbrev pub asked_named : Options → Situation → Exchange → Ask → Named → Situation
asked_named o s x ask Absent = asked_first o s x ask (live_under s.server.registry ask.identity)
asked_named o s x ask (Known h) = with_exchange s x
asked_named o s x ask Strange = with_exchange s x

abbrev pub asked_for : Options → Situation → Exchange → Asked → Situation
asked_for o s x (Refuses code) = with_exchange s x
asked_for o s x (AsksFor ask) = asked_named o s x ask ask.named

-- an exchange as it comes, at this moment
abbrev pub exchange_at : Bool → Option (List ℕ) → Asked → Bool → ℕ → Exchange
exchange_at outside target asked close moment = record { outside = outside; target = target; asked = asked; close = close; moment = moment; role = Reads; given = None }

-- A request makes an exchange.
abbrev pub request : Options → Situation → Bool → Option (List ℕ) → Asked → Bool → Situation
request o s outside target asked close = asked_for o s (exchange_at outside target asked close s.clock) asked

-- ---- snapshots

-- what else a snapshot may be refused for than its definition, what it shows, and a row without a truth: its link, what came over it, or its size
pub data Fault : Type 0 where
  LinkFailed : Fault
  IsBad : (detail : Detail) → Fault
  TooLarge : (bytes limit : ℕ) → Fault

abbrev pub code_of : Fault → ErrorCode
code_of LinkFailed = codes.SnapshotLink
code_of (IsBad detail) = codes.SnapshotRefused detail
code_of (TooLarge bytes limit) = codes.ShapeTooLarge bytes limit

abbrev pub owned_in : Role → Option ℕ
owned_in Reads = None
owned_in (Waits n) = None
owned_in (Owns n) = Some n
owned_in HasNone = None

-- the number whose snapshot an exchange owns
abbrev pub owned_by : Option Exchange → Option ℕ
owned_by None = None
owned_by (Some x) = owned_in x.role

-- the id of the commit in front of that place
abbrev pub id_before : List Tx → ℕ → Option ℕ
id_before txs zero = None
id_before txs (suc n) = option_map (λ (tx : Tx). tx.xid) (slice_get txs n)

-- a snapshot that does not show the last commit before its shape is stale
abbrev pub stale_by : Visibility → Option ℕ → Option ErrorCode
stale_by v None = None
stale_by v (Some xid) = if is_visible v xid then None else Some (codes.SnapshotStale xid v.xmax)

abbrev pub untrue_by : Knows → Snapshot → Option ErrorCode
untrue_by s snapshot = if have_truths s snapshot.rows then None else Some (codes.SnapshotRefused details.BadValue)

abbrev pub or_else : Option ErrorCode → Option ErrorCode → Option ErrorCode
or_else None later = later
or_else (Some code) later = Some code

-- Why a snapshot is refused: another definition, or else what it shows, or else a row without a truth.
abbrev pub refusal_of_snapshot : List Tx → Shape → Snapshot → Option ErrorCode
refusal_of_snapshot txs x snapshot = if same_def (definition_in snapshot x.reader.knows.definition.table) x.reader.knows.definition
    then or_else (stale_by snapshot.visibility (id_before txs x.before)) (untrue_by x.reader.knows snapshot)
    else Some codes.DefinitionChanged

-- its definition, where it is another one
abbrev pub changed_in : Snapshot → TableDef → Option TableDef
changed_in snapshot d = if same_def (definition_in snapshot d.table) d then None else Some (definition_in snapshot d.table)

-- The snapshot ends in a refusal: its owner gets it, and the number is removed.
abbrev pub snapshot_ends : Situation → ℕ → ℕ → ErrorCode → Option TableDef → Situation
snapshot_ends s e n code d = let v = redefined (dropped s.server n causes.SnapshotFailed) d in record s { server = v; exchanges = change_at (refused_at v code) s.exchanges e }

abbrev pub started_by : Server → ℕ → Option Cause → Server
started_by v n None = with_registry v (Ready n)
started_by v n (Some cause) = with_registry v (Removed n cause)

-- ready, unless a commit that waited for the snapshot drops the shape
abbrev pub started : Options → Server → ℕ → Shape → Snapshot → Server
started o v n x snapshot = started_by (with_shape_event v n (Snapped snapshot)) n (drop_of x.reader o.limits (x.events ++ Snapped snapshot ∷ []))

abbrev pub snapped : Options → Situation → ℕ → ℕ → Shape → Snapshot → Option ErrorCode → Situation
snapped o s e n x snapshot (Some code) = snapshot_ends s e n code (changed_in snapshot x.reader.knows.definition)
snapped o s e n x snapshot None = record s { server = started o s.server n x snapshot }
