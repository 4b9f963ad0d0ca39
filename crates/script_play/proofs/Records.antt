-- A record that declares a table gives it a key.
use Rattle.std.proofs.Common.{◌≡◌, Bool, true, false, List, refl, subst, Option, None, Some}
use Rattle.std.specs.Prelude.{◌==◌, if◌then◌else◌, Result, Ok, Err}
use Rattle.std.specs.Option.{option_map, option_and_then}
use Rattle.shape_base.specs.declared.definition.Column.{Column}
use Rattle.core_events.specs.declared.event.Event.{Event}
use Rattle.column_names.specs.Names.{has_name_twice}
use Rattle.script.specs.declared.fault.RecordError.{RecordError}
use Rattle.script.specs.declared.record.Record.{Record}
use Rattle.script.specs.declared.record.Record.TheVariants as records
use Rattle.script.specs.declared.rows.StartRows.{StartRows}
use Rattle.script.specs.declared.table.Declaration.{Declaration}
use Rattle.script.specs.declared.table.Placed.{Placed}
use Rattle.script.specs.Tables.{is_key, with_key, declared, picked, placed_at}
use Rattle.script.specs.Records.{Item, all_of, read_or_bad, table_in, start_in, if_empty, as_event, event_of, record_of}
use Rattle.script_play.specs.Tables.{HasKey}

abbrev KeyIn : Result Record RecordError → Type 0
KeyIn (Err e) = Unit {0}
KeyIn (Ok (records.Table t)) = HasKey t
KeyIn (Ok (records.Start rows)) = Unit {0}
KeyIn (Ok (records.Brings e)) = Unit {0}
KeyIn (Ok records.End) = Unit {0}

abbrev KeyOf : Option Declaration → Type 0
KeyOf None = Unit {0}
KeyOf (Some t) = HasKey t

keyed : (p : Placed) (key : List Column) (b : Bool) → is_key key ≡ b → KeyOf (if b then Some (record { ns = p.ns; name = p.name; oid = p.oid; columns = p.columns; key = key }) else None)
keyed p key true e = e
keyed p key false e = tt

then_keyed : (p : Placed) (key : Option (List Column)) → KeyOf (option_and_then (with_key p) key)
then_keyed p None = tt
then_keyed p (Some key) = keyed p key (is_key key) refl

declared_by : (p : Placed) (twice : Bool) → KeyOf (if twice then None else option_and_then (with_key p) (picked p.columns p.key))
declared_by p true = tt
declared_by p false = then_keyed p (picked p.columns p.key)

declared_keyed : (p : Placed) → KeyOf (declared p)
unfolding declared
declared_keyed p = declared_by p (has_name_twice p.columns)

declares_some : (placed : Option Placed) → KeyOf (option_and_then declared placed)
declares_some None = tt
declares_some (Some p) = declared_keyed p

table_keyed : (t : Option Declaration) → KeyOf t → KeyIn (read_or_bad (option_map records.Table t))
table_keyed None h = tt
table_keyed (Some t) h = h

start_keyed : (rows : Option StartRows) → KeyIn (read_or_bad (option_map records.Start rows))
start_keyed None = tt
start_keyed (Some rows) = tt

end_keyed : (empty : Bool) → KeyIn (read_or_bad (if empty then Some records.End else None))
end_keyed true = tt
end_keyed false = tt

event_keyed : (e : Result Event RecordError) → KeyIn (as_event e)
event_keyed (Ok e) = tt
event_keyed (Err e) = tt

by_end : (item : Item) (b : Bool) → KeyIn (if b then read_or_bad (if_empty item.payload records.End) else as_event (event_of item.kind item.payload))
by_end item true = end_keyed _
by_end item false = event_keyed (event_of item.kind item.payload)

by_start : (item : Item) (b : Bool) → KeyIn (if b then read_or_bad (start_in item.payload) else if item.kind == 69 then read_or_bad (if_empty item.payload records.End) else as_event (event_of item.kind item.payload))
by_start item true = start_keyed _
by_start item false = by_end item (item.kind == 69)

by_table : (item : Item) (b : Bool) → KeyIn (if b then read_or_bad (table_in item.payload) else if item.kind == 66 then read_or_bad (start_in item.payload) else if item.kind == 69 then read_or_bad (if_empty item.payload records.End) else as_event (event_of item.kind item.payload))
by_table item true = table_keyed _ (declares_some (all_of (placed_at item.payload)))
by_table item false = by_start item (item.kind == 66)

record_keyed : (item : Item) → KeyIn (record_of item)
unfolding record_of
record_keyed item = by_table item (item.kind == 84)

pub has_key : (item : Item) (t : Declaration) → record_of item ≡ Ok (records.Table t) → HasKey t
has_key item t e = subst KeyIn e (record_keyed item)
