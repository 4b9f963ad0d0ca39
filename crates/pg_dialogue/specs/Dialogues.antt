-- The dialogues: what the client writes, by which messages the server answers, and what the client reads in them.
use Rattle.std.specs.Prelude.{ℕ, List, [], ◌∷◌, Option, None, Some, Ok, Err}
use Rattle.shape_base.specs.declared.value.Value as values
use Rattle.shape_base.specs.declared.served.Served.{Served}
use Rattle.pg_dialogue.specs.declared.login.Login.{Login}
use Rattle.pg_dialogue.specs.declared.wanted.Wanted.TheVariants.{Authentication, Started, Completed, Ready, SnapshotColumn, SnapshotText, TableColumns, TableRow, CopyBoth}
use Rattle.pg_dialogue.specs.declared.wanted.Told.{Told}
use Rattle.pg_dialogue.specs.declared.wire_error.WireError.TheVariants.{BadReply}
use Rattle.pg_dialogue.specs.Messages.{Said, Silent, Broken, Says}
use Rattle.pg_dialogue.specs.Replies.{Reply, reply}
use Rattle.pg_dialogue.specs.Dialogue.{Exchange, Heard, Wants, Refused, Met, Talk, noted, met, then_heard, talk}
use Rattle.pg_dialogue.specs.Queries.{startup, replication_startup, begin_query, snapshot_query, select_query, describe_query, commit_query, start_query}

-- nothing yet
abbrev pub nothing_told : Told
nothing_told = record { head = record { vis = []; oid = 0; columns = [] }; row = None }

-- A snapshot up to its first row: the startup; a transaction whose queries all see one state of the database; which transactions that state shows; the table.
unfoldable pub opening : Login → Served → List Exchange
opening login table =
    record { sent = startup login; wanted = Authentication ∷ Started ∷ [] }
    ∷ record { sent = begin_query; wanted = Completed ∷ Ready ∷ [] }
    ∷ record { sent = snapshot_query; wanted = SnapshotColumn ∷ SnapshotText ∷ Completed ∷ Ready ∷ [] }
    ∷ record { sent = select_query table; wanted = TableColumns ∷ [] }
    ∷ []

abbrev pub row_or_ready : Told → Option (List values.Value) → ℕ → Said → Heard
row_or_ready told (Some row) place rest = Met told place rest
row_or_ready told None place rest = met rest Ready told

abbrev pub row_or_end : Told → ℕ → Said → Heard
row_or_end told place rest = row_or_ready told told.row place rest

-- the next row; or the end of the rows, behind which the server is ready for the next query
abbrev pub next_row : Said → Heard
next_row said = then_heard (met said TableRow nothing_told) row_or_end

-- the end of a snapshot
unfoldable pub closing : List Exchange
closing = record { sent = commit_query; wanted = Completed ∷ Ready ∷ [] } ∷ []

-- the description of a table, up to its first row
unfoldable pub describing : Login → Served → List Exchange
describing login table = record { sent = startup login; wanted = Authentication ∷ Started ∷ [] } ∷ record { sent = describe_query table; wanted = TableColumns ∷ [] } ∷ []

-- the replication stream, up to its first frame
unfoldable pub streaming : Login → List Exchange
streaming login = record { sent = replication_startup login; wanted = Authentication ∷ Started ∷ [] } ∷ record { sent = start_query login; wanted = CopyBoth ∷ [] } ∷ []

-- ---- all rows

-- The rows that the server sends, and what follows them.
pub record Rows : Type 0 where
  pub rows : List (List values.Value)
  pub end : Heard

abbrev pub no_row : Heard → Rows
no_row end = record { rows = []; end = end }

-- after what was told: one row more, or the server is ready for the next query
abbrev pub row_then : Rows → Said → Told → Option (List values.Value) → Rows
row_then later rest told (Some row) = record { rows = row ∷ later.rows; end = later.end }
row_then later rest told None = no_row (met rest Ready told)

abbrev pub rows_then : Rows → Said → Reply → Rows
rows_then later rest (Ok None) = later
rows_then later rest (Ok (Some news)) = row_then later rest (noted nothing_told news) (noted nothing_told news).row
rows_then later rest (Err error) = no_row (Refused error)

-- all rows of a table, to the server's readiness for the next query
unfoldable pub all_rows : Said → Rows
all_rows (Silent place) = no_row (Wants place)
all_rows (Broken place) = no_row (Refused (BadReply place))
all_rows (Says place kind payload rest) = rows_then (all_rows rest) rest (reply TableRow place kind payload)

-- ---- descriptions

-- what was told first, once the rest is heard
abbrev pub keeping : Told → Heard → Heard
keeping told (Met later place rest) = Met told place rest
keeping told (Wants place) = Wants place
keeping told (Refused error) = Refused error

-- the description of a table, to its end: rows are passed over
abbrev pub described_to_end : Talk → Talk
described_to_end t = record { written = t.written; heard = then_heard t.heard (λ told place rest. keeping told (all_rows rest).end) }

abbrev pub describe_talk : Login → Served → Said → Talk
describe_talk login table said = described_to_end (talk (describing login table) nothing_told 0 said)
