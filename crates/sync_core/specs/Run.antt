-- What one event of a core does, and what events lead to.
use Rattle.std.specs.Prelude.{◌≡◌, ℕ, Bool, true, false, ◌==◌, if◌then◌else◌, List, [], ◌∷◌, ◌++◌, length, drop, Option, None, Some}
use Rattle.std.specs.List.{flat_map}
use Rattle.shape_base.specs.declared.change.Tx.{Tx}
use Rattle.shape_base.specs.declared.limits.Limits.{Limits}
use Rattle.shape_base.specs.declared.served.Served.{Served}
use Rattle.shape_base.specs.Tables.{Table}
use Rattle.pg_dialogue.specs.declared.login.SnapHead.{SnapHead}
use Rattle.pg_dialogue.specs.declared.wire_error.WireError.{WireError}
use Rattle.pg_dialogue.specs.declared.wire_error.WireError.TheVariants as wires
use Rattle.pg_dialogue.specs.Course.{Stand, Wants, Refused, Done, Course, course_of}
use Rattle.shape_snapshot.specs.declared.faults.SnapError.{SnapError}
use Rattle.shape_snapshot.specs.Refusals.{seen_of}
use Rattle.http_edge.specs.declared.error_code.Detail.TheVariants as details
use Rattle.core_events.specs.declared.event.Event.{Event}
use Rattle.core_events.specs.declared.event.Event.TheVariants as events
use Rattle.core_events.specs.declared.out.StepError.{StepError}
use Rattle.core_events.specs.declared.out.StepError.TheVariants as errors
use Rattle.core_events.specs.declared.out.Unfit.TheVariants as unfit
use Rattle.core_law.specs.Situation.{Options, Shape, shape_at}
use Rattle.core_law.specs.Situation as law
use Rattle.core_law.specs.Steps.{Fault, LinkFailed, IsBad, id_before}
use Rattle.core_law.specs.Clients.{Out}
use Rattle.core_law.specs.Clients as turns
use Rattle.core_law.specs.Run.{SnapshotEnded, Committed, Remove, Moment, SendNext, Receive, Watch, turn_of}
use Rattle.core_law.specs.Run as law_run
use Rattle.core_server.specs.Snapshots.{refusal_in, event_for, came_by}
use Rattle.core_machine.specs.Faults.{under_way}
use Rattle.sync_core.specs.Stream.{Stream, begun, anew, Sent, Framed, with_piece, commits_of, fault_of, new_fault}
use Rattle.sync_core.specs.Stream as streams
use Rattle.sync_core.specs.Reading.{Reading, Passes, Brings, Misfits, ReadsHead, ReadsQuery}

-- What events have led to: the situation of the server and its clients, the stream of the database, and what came on the connections of snapshots, each piece with the exchange that owns the snapshot.
pub record Situation : Type 0 where
  pub core : law.Situation
  pub stream : Stream
  pub pieces : List (ℕ × List ℕ)

abbrev pub at_start : Situation
at_start = record { core = law.at_start; stream = begun; pieces = [] }

-- ---- the stream

-- the stream after an event
abbrev pub stream_after : List Served → Stream → Event → Stream
stream_after tables s events.Anew = anew s
stream_after tables s (events.Message bytes) = with_piece tables s (Sent bytes)
stream_after tables s (events.FrameBytes bytes) = with_piece tables s (Framed bytes)
stream_after tables s (events.RequestHead bytes) = s
stream_after tables s (events.SnapBytes e bytes) = s
stream_after tables s (events.Snapshot e head rows) = s
stream_after tables s (events.SnapEnd e failed) = s
stream_after tables s (events.NewClient pairs) = s
stream_after tables s (events.SendNext n) = s
stream_after tables s (events.Receive n e) = s
stream_after tables s (events.Watch n) = s
stream_after tables s (events.Remove n) = s
stream_after tables s (events.Moment now) = s

-- the commits that it shows and did not show before
abbrev pub shown_since : List Served → Stream → Stream → List Tx
shown_since tables old new = drop (length (commits_of tables old)) (commits_of tables new)

-- the refusal that was not there before
abbrev pub refused_since : List Served → Stream → Stream → Option streams.Fault
refused_since tables old new = new_fault (fault_of tables old) (fault_of tables new)

-- ---- snapshots

-- the pieces after an event
abbrev pub pieces_after : List (ℕ × List ℕ) → Event → List (ℕ × List ℕ)
pieces_after pieces events.Anew = pieces
pieces_after pieces (events.Message bytes) = pieces
pieces_after pieces (events.FrameBytes bytes) = pieces
pieces_after pieces (events.RequestHead bytes) = pieces
pieces_after pieces (events.SnapBytes e bytes) = pieces ++ (e, bytes) ∷ []
pieces_after pieces (events.Snapshot e head rows) = pieces
pieces_after pieces (events.SnapEnd e failed) = pieces
pieces_after pieces (events.NewClient pairs) = pieces
pieces_after pieces (events.SendNext n) = pieces
pieces_after pieces (events.Receive n e) = pieces
pieces_after pieces (events.Watch n) = pieces
pieces_after pieces (events.Remove n) = pieces
pieces_after pieces (events.Moment now) = pieces

-- the bytes that came on the connection of an exchange's snapshot
abbrev pub said_to : ℕ → List (ℕ × List ℕ) → List ℕ
said_to e pieces = flat_map (λ (p : ℕ × List ℕ). if p.0 == e then p.1 else []) pieces

-- how a snapshot ends whose database says something else than a snapshot
abbrev pub fault_for : WireError → Fault
fault_for wires.OutOfMemory = LinkFailed
fault_for wires.LinkFault = LinkFailed
fault_for (wires.Ended place) = IsBad details.Ended
fault_for (wires.ErrorResponse sqlstate) = IsBad (details.ErrorResponse sqlstate)
fault_for (wires.BadReply place) = IsBad details.BadReply
fault_for (wires.AuthWanted code) = IsBad details.AuthWanted
fault_for (wires.NotUtf8 place) = IsBad details.NotUtf8
fault_for (wires.TooLong limit) = IsBad details.TooLong

-- how its connection ends it
abbrev pub end_for : Bool → Fault
end_for false = IsBad details.Ended
end_for true = LinkFailed

-- an event, where there is one
abbrev pub brings : Option law_run.Event → Reading
brings None = Passes
brings (Some event) = Brings event

-- what a snapshot with this head and these rows comes to, by what refuses it
abbrev pub by_refusal : ℕ → SnapHead → Table → Option SnapError → Reading
by_refusal e head rows None = brings (came_by e head rows (seen_of head))
by_refusal e head rows (Some error) = brings (event_for e head rows error)

-- What a whole snapshot comes to for its shape: it is taken, or refused for its head or for the first row that is refused.
abbrev pub judged : Limits → List Tx → ℕ → Shape → SnapHead → Table → Reading
judged l txs e x head rows = by_refusal e head rows (refusal_in x.reader l (id_before txs x.before) head rows)

abbrev pub judged_some : Limits → List Tx → ℕ → Shape → Option SnapHead → Table → Reading
judged_some l txs e x None rows = Passes
judged_some l txs e x (Some head) rows = judged l txs e x head rows

-- What came of it so far: nothing before its dialogue is whole, or refused.
abbrev pub by_stand : Limits → List Tx → ℕ → Shape → Option SnapHead → Table → Stand → Reading
by_stand l txs e x head rows (Wants place) = Passes
by_stand l txs e x head rows (Refused error) = Brings (SnapshotEnded e (fault_for error))
by_stand l txs e x head rows Done = judged_some l txs e x head rows

-- the shape whose snapshot an exchange owns, where that is under way
abbrev pub shape_of : law.Situation → Option ℕ → Option Shape
shape_of s None = None
shape_of s (Some n) = shape_at s.server.shapes n

-- what the course of its dialogue comes to so far, for this shape
abbrev pub course_for : Options → law.Situation → ℕ → Course → Option Shape → Reading
course_for o s e c None = Misfits unfit.NotASnapshot
course_for o s e c (Some x) = by_stand o.limits s.server.commits e x c.head c.rows c.stand

-- a piece of a snapshot came for it, and these bytes came in all
abbrev pub piece_for : Options → law.Situation → ℕ → List ℕ → Option Shape → Reading
piece_for o s e bytes shape = course_for o s e (course_of bytes) shape

-- a whole snapshot came for it
abbrev pub snapshot_for : Options → law.Situation → ℕ → SnapHead → Table → Option Shape → Reading
snapshot_for o s e head rows None = Misfits unfit.NotASnapshot
snapshot_for o s e head rows (Some x) = judged o.limits s.server.commits e x head rows

-- ---- events

-- What an event is for the server and its clients.
abbrev pub IsRead : Options → Situation → Event → Reading → Type 0
IsRead o s events.Anew r = r ≡ Passes
IsRead o s (events.Message bytes) r = r ≡ Brings (Committed (shown_since o.tables s.stream (stream_after o.tables s.stream (events.Message bytes))))
IsRead o s (events.FrameBytes bytes) r = r ≡ Brings (Committed (shown_since o.tables s.stream (stream_after o.tables s.stream (events.FrameBytes bytes))))
IsRead o s (events.RequestHead bytes) r = ReadsHead o.tables bytes r
IsRead o s (events.SnapBytes e bytes) r = r ≡ piece_for o s.core e (said_to e (s.pieces ++ (e, bytes) ∷ [])) (shape_of s.core (under_way s.core e))
IsRead o s (events.Snapshot e head rows) r = r ≡ snapshot_for o s.core e head rows (shape_of s.core (under_way s.core e))
IsRead o s (events.SnapEnd e failed) r = r ≡ Brings (SnapshotEnded e (end_for failed))
IsRead o s (events.NewClient pairs) r = ReadsQuery o.tables pairs r
IsRead o s (events.SendNext n) r = r ≡ Brings (SendNext n)
IsRead o s (events.Receive n e) r = r ≡ Brings (Receive n e)
IsRead o s (events.Watch n) r = r ≡ Brings (Watch n)
IsRead o s (events.Remove n) r = r ≡ Brings (Remove n)
IsRead o s (events.Moment now) r = r ≡ Brings (Moment now)

-- One event goes on with what it puts out, or it does not: first the refusal of the stream, where there is one, and then the rest.
pub data Turn : Type 0 where
  Goes : (refusal : Option streams.Fault) (outs : List Out) (next : Situation) → Turn
  Stops : (error : StepError) → Turn

-- the situation with what happened to the server and its clients, and what the event brought besides
abbrev pub moved : Options → Situation → Event → law.Situation → Situation
moved o s e core = record { core = core; stream = stream_after o.tables s.stream e; pieces = pieces_after s.pieces e }

abbrev pub goes_by : Options → Situation → Event → turns.Turn → Turn
goes_by o s e (turns.Goes outs core) = Goes (refused_since o.tables s.stream (stream_after o.tables s.stream e)) outs (moved o s e core)
goes_by o s e (turns.Stops error) = Stops error

-- what becomes of the server and its clients
abbrev pub made_of : Options → law.Situation → Reading → turns.Turn
made_of o s Passes = turns.Goes [] s
made_of o s (Brings event) = turn_of o s event
made_of o s (Misfits cause) = turns.Stops (errors.Unfit cause)

-- What an event does that is this for the server and its clients.
abbrev pub turned : Options → Situation → Event → Reading → Turn
turned o s e reading = goes_by o s e (made_of o s.core reading)
