-- What a list of events puts out.
use Rattle.std.specs.Prelude.{ℕ, ◌+◌, Bool, true, false, ◌&&◌, nat_lt, nat_le, if◌then◌else◌, List, [], ◌∷◌, ◌++◌, length, map, Option, None, Some, slice_get, is_none}
use Rattle.shape_base.specs.declared.change.Tx.{Tx}
use Rattle.shape_base.specs.declared.cause.Cause.TheVariants.{Deleted}
use Rattle.shape_base.specs.Snapshot.{Snapshot}
use Rattle.shape_base.specs.RegistryHistory.{is_live, is_starting}
use Rattle.shape_json.specs.ShapeHistory.{snapshot_in}
use Rattle.http_edge.specs.Lawful.{Asked, Refuses}
use Rattle.http_edge.specs.declared.error_code.ErrorCode.TheVariants as codes
use Rattle.core_events.specs.declared.out.Unfit.TheVariants as unfit
use Rattle.core_events.specs.declared.out.StepError.TheVariants as errors
use Rattle.fold_client.specs.declared.client.Query.{Query}
use Rattle.core_law.specs.Situation.{Options, Shape, shape_at, HasNone, Exchange, Situation}
use Rattle.core_law.specs.Steps.{with_exchange, exchange_at, with_role, request, Fault, code_of, owned_by, refusal_of_snapshot, snapshot_ends, snapped, dropped, after_commits}
use Rattle.core_law.specs.Clients.{Out, Cut, Turn, Goes, Stops, is_unfit, finished, never, has_room, send_by, take_by, watch}

-- What may come.
pub data Event : Type 0 where
  -- the whole head of a request, or one that is refused: its target, where it has one, what it asks for, and whether its connection ends with the reply
  RequestCame : (target : Option (List ℕ)) (asked : Asked) (close : Bool) → Event
  -- a head that was cut off
  HeadCut : Event
  -- the snapshot of the number that an exchange owns, whole
  SnapshotCame : (exchange : ℕ) (snapshot : Snapshot) → Event
  -- or it ended in a fault
  SnapshotEnded : (exchange : ℕ) (fault : Fault) → Event
  -- the stream shows commits, as many as come together, or none
  Committed : (txs : List Tx) → Event
  -- a number is to be dropped
  Remove : (number : ℕ) → Event
  -- the clock, in milliseconds
  Moment : (now : ℕ) → Event
  -- a client, and what its first target asks for
  Joined : (query : Query) (asked : Asked) → Event
  SendNext : (customer : ℕ) → Event
  Receive : (customer exchange : ℕ) → Event
  Watch : (customer : ℕ) → Event

-- a request from outside, and a head that was cut off, make an exchange
abbrev pub come : Options → Situation → Option (List ℕ) → Asked → Bool → Turn
come o s target asked close = if has_room s then finished o never s (request o s true target asked close) else Stops errors.TooManyExchanges

abbrev pub cut : Situation → Turn
cut s = if has_room s then Goes (Cut (length s.exchanges) ∷ []) (with_exchange s (with_role HasNone (exchange_at true None (Refuses codes.BadHead) false s.clock))) else Stops errors.TooManyExchanges

-- the snapshot of a starting number that has none yet
abbrev pub snap_shape : Options → Situation → ℕ → ℕ → Snapshot → Option Shape → Turn
snap_shape o s e n snapshot None = is_unfit unfit.NotASnapshot
snap_shape o s e n snapshot (Some x) = if is_starting s.server.registry n && is_none (snapshot_in x.events)
    then finished o never s (snapped o s e n x snapshot (refusal_of_snapshot s.server.commits x snapshot)) else is_unfit unfit.NotASnapshot

abbrev pub snap : Options → Situation → ℕ → Snapshot → Option ℕ → Turn
snap o s e snapshot None = is_unfit unfit.NotASnapshot
snap o s e snapshot (Some n) = snap_shape o s e n snapshot (shape_at s.server.shapes n)

abbrev pub fail : Options → Situation → ℕ → Fault → Option ℕ → Turn
fail o s e fault None = is_unfit unfit.NotASnapshot
fail o s e fault (Some n) = if is_starting s.server.registry n then finished o never s (snapshot_ends s e n (code_of fault) None) else is_unfit unfit.NotASnapshot

-- Commits that come together are taken one after the other, and no exchange is answered in between.
abbrev pub commit : Options → Situation → List Tx → Turn
commit o s txs = finished o never s (record s { server = after_commits o s.server txs })

abbrev pub remove : Options → Situation → ℕ → Turn
remove o s n = if is_live s.server.registry n then finished o never s (record s { server = dropped s.server n Deleted }) else Goes [] s

-- a live request is late once it was held as long as it may be
abbrev pub is_late_at : Options → ℕ → Exchange → Bool
is_late_at o now x = nat_le (x.moment + o.limits.hold) now

abbrev pub moment : Options → Situation → ℕ → Turn
moment o s now = if nat_lt now s.clock then is_unfit unfit.ClockBack else finished o (is_late_at o now) s (record s { clock = now })

abbrev pub join : Situation → Query → Asked → Situation
join s query asked = record s { customers = s.customers ++ record { query = query; asked = asked; waiting = None; took = [] } ∷ [] }

-- A watch ends after so many rounds at the latest: each exchange is asked for and taken once.
abbrev pub rounds : ℕ
rounds = 20002

-- One event: what it puts out, and the situation after it.
abbrev pub turn_of : Options → Situation → Event → Turn
turn_of o s (RequestCame target asked close) = come o s target asked close
turn_of o s HeadCut = cut s
turn_of o s (SnapshotCame e snapshot) = snap o s e snapshot (owned_by (slice_get s.exchanges e))
turn_of o s (SnapshotEnded e fault) = fail o s e fault (owned_by (slice_get s.exchanges e))
turn_of o s (Committed txs) = commit o s txs
turn_of o s (Remove n) = remove o s n
turn_of o s (Moment now) = moment o s now
turn_of o s (Joined query asked) = Goes [] (join s query asked)
turn_of o s (SendNext n) = send_by o s n (slice_get s.customers n)
turn_of o s (Receive n e) = take_by s n e (slice_get s.customers n)
turn_of o s (Watch n) = watch o rounds n s

-- an event that is not taken leaves the situation as it is
abbrev pub next_of : Situation → Turn → Situation
next_of s (Goes outs next) = next
next_of s (Stops error) = s

abbrev pub outs_of : Turn → List Out
outs_of (Goes outs next) = outs
outs_of (Stops error) = []

-- The situation after events.
abbrev pub after : Options → Situation → List Event → Situation
after o s [] = s
after o s (e ∷ es) = after o (next_of s (turn_of o s e)) es

-- What events put out.
abbrev pub run_of : Options → Situation → List Event → List Out
run_of o s [] = []
run_of o s (e ∷ es) = outs_of (turn_of o s e) ++ run_of o (next_of s (turn_of o s e)) es

-- what they put out, each with the situation after its event
abbrev pub told : Options → Situation → List Event → List (Out × Situation)
told o s [] = []
told o s (e ∷ es) = let next = next_of s (turn_of o s e) in map (λ out. (out, next)) (outs_of (turn_of o s e)) ++ told o next es
