-- Whole snapshots, and the parts of snapshots' connections.
use Rattle.std.specs.Prelude.{ℕ, List, Ok}
use Rattle.std.specs.Int.{w16, w32}
use Rattle.byte_format.specs.Format.{Read, ◌>>=◌, number_at}
use Rattle.core_events.specs.declared.event.Event.{Event}
use Rattle.core_events.specs.declared.event.Event.TheVariants.{Snapshot}
use Rattle.script.specs.declared.rows.StartRows.{StartRows}
use Rattle.script.specs.Texts.{text_at}
use Rattle.script.specs.Rows.{columns_at, rows_at}

-- Int32 exchange, String visibility text, Int32 OID, the columns, the rows
abbrev pub snapshot_at : List ℕ → Read Event
snapshot_at bytes = number_at w32 bytes >>= λ exchange. text_at exchange.1 >>= λ vis. number_at w32 vis.1 >>= λ oid. columns_at oid.1 >>= λ columns. rows_at columns.1 >>= λ rows.
    Ok (Snapshot exchange.0 (record { vis = vis.0; oid = oid.0; columns = columns.0 }) rows.0, rows.1)

-- Int16 table, the rows
abbrev pub start_at : List ℕ → Read StartRows
start_at bytes = number_at w16 bytes >>= λ table. rows_at table.1 >>= λ rows. Ok (record { table = table.0; rows = rows.0 }, rows.1)
