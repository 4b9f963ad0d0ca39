-- Records are read back from their bytes.
use Rattle.std.proofs.Common.{◌≡◌, ℕ, zero, suc, ◌^◌, ◌<◌, ◌≤◌, Bool, true, false, ltb, List, [], ◌∷◌, ◌++◌, length, map, Option, Some, Result, Ok, refl, ap, ◌∙◌, arith}
use Rattle.std.specs.Option.{option_map, option_and_then}
use Rattle.std.specs.List.{flat_map, list_all}
use Rattle.std.specs.Int.{w16, w32, w64}
use Rattle.std.proofs.lemmas.Bool.{ltb-true, le-ltb}
use Rattle.std.proofs.lemmas.Nat.{from_be_bytes-to_be_bytes_4}
use Rattle.std.proofs.lemmas.List.{length-append, take_at, drop_at}
use Rattle.std.proofs.lemmas.List.Concat.{flat_map-cons}
use Rattle.byte_format.specs.Format.{Read, number_at, byte_at}
use Rattle.shape_base.specs.declared.definition.Column.{Column}
use Rattle.shape_base.specs.declared.value.Value.{Value}
use Rattle.pg_dialogue.specs.declared.login.SnapHead.{SnapHead}
use Rattle.core_events.specs.declared.event.Event.{Event}
use Rattle.core_events.specs.declared.event.Event.TheVariants as events
use Rattle.script.specs.declared.fault.RecordError.{RecordError}
use Rattle.script.specs.declared.rows.StartRows.{StartRows}
use Rattle.script.specs.declared.record.Record.{Record}
use Rattle.script.specs.declared.record.Record.TheVariants.{Table, Start, Brings, End}
use Rattle.script.specs.Texts.{text_at}
use Rattle.script.specs.Rows.{columns_at, rows_at}
use Rattle.script.specs.Snapshots.{snapshot_at, start_at}
use Rattle.script.specs.Records.{Item, all_of, read_or_bad, number_in, pair_at, long_in, piece_by, end_at, end_by, numbers_of, event_of, as_event, record_of}
use Rattle.script.specs.Items.{spelled, payload_at, item_at, items_then, items_in, items_of}
use Rattle.script_writing.specs.Parts.{◌&◌, raw, int16, int32, int64, text, short_list, column, rows}
use Rattle.script_writing.specs.Records.{snapshot, start, how, end_of, pair, event_payload, event_kind, payload, record_spelling, item_of}
use Rattle.script_writing.specs.Laws.{RecordsAreReadBack, ScriptsAreReadBack}
use Rattle.script_writing.proofs.Reading.{both, on, then, last, whole, int16_read, int32_read, int64_read, text_read, columns_read, rows_read}
use Rattle.script_writing.proofs.Tables.{table_read}

-- ---- snapshots and rows at the start

abbrev pub on_columns : ℕ → List ℕ → ℕ → List Column → List ℕ → Read Event
on_columns exchange vis oid columns = on rows_at (λ table bytes. Ok (events.Snapshot exchange (record { vis = vis; oid = oid; columns = columns }) table, bytes))

abbrev pub on_oid : ℕ → List ℕ → ℕ → List ℕ → Read Event
on_oid exchange vis oid = on columns_at (on_columns exchange vis oid)

abbrev pub on_vis : ℕ → List ℕ → List ℕ → Read Event
on_vis exchange vis = on (number_at w32) (on_oid exchange vis)

abbrev pub on_exchange : ℕ → List ℕ → Read Event
on_exchange exchange = on text_at (on_vis exchange)

snapshot_read : (exchange : ℕ) (head : SnapHead) (table : List (List Value)) → (snapshot exchange head table).fits ≡ true → all_of (snapshot_at (snapshot exchange head table).bytes) ≡ Some (events.Snapshot exchange head table)
snapshot_read exchange head table h =
    let z : Event = events.Snapshot exchange head table in
    let a = both (int32 exchange).fits (text head.vis & int32 head.oid & short_list column head.columns & rows table).fits h in
    let b = both (text head.vis).fits (int32 head.oid & short_list column head.columns & rows table).fits a.1 in
    let c = both (int32 head.oid).fits (short_list column head.columns & rows table).fits b.1 in
    let e = both (short_list column head.columns).fits (rows table).fits c.1 in
    let from_rows = last rows_at (λ (t : List (List Value)). events.Snapshot exchange head t) (rows table) table (rows_read table e.1) in
    let from_columns = then columns_at (on_columns exchange head.vis head.oid) (short_list column head.columns) (rows table) head.columns z (columns_read head.columns e.0) from_rows in
    let from_oid = then (number_at w32) (on_oid exchange head.vis) (int32 head.oid) (short_list column head.columns & rows table) head.oid z (int32_read head.oid c.0) from_columns in
    let from_vis = then text_at (on_vis exchange) (text head.vis) (int32 head.oid & short_list column head.columns & rows table) head.vis z (text_read head.vis b.0) from_oid in
    let from_exchange = then (number_at w32) on_exchange (int32 exchange) (text head.vis & int32 head.oid & short_list column head.columns & rows table) exchange z (int32_read exchange a.0) from_vis in
    whole snapshot_at (snapshot exchange head table) z from_exchange

abbrev pub on_table : ℕ → List ℕ → Read StartRows
on_table table = on rows_at (λ rows bytes. Ok (record { table = table; rows = rows }, bytes))

start_read : (s : StartRows) → (start s).fits ≡ true → all_of (start_at (start s).bytes) ≡ Some s
start_read s h =
    let a = both (int16 s.table).fits (rows s.rows).fits h in
    let with_rows : List (List Value) → StartRows = λ t. record { table = s.table; rows = t } in
    let from_rows = last rows_at with_rows (rows s.rows) s.rows (rows_read s.rows a.1) in
    whole start_at (start s) s (then (number_at w16) on_table (int16 s.table) (rows s.rows) s.table s (int16_read s.table a.0) from_rows)

-- ---- numbers

number_read : (n : ℕ) → (int32 n).fits ≡ true → number_in (int32 n).bytes ≡ Some n
number_read n h = whole (number_at w32) (int32 n) n (int32_read n h)

long_read : (n : ℕ) → (int64 n).fits ≡ true → long_in (int64 n).bytes ≡ Some n
long_read n h = whole (number_at w64) (int64 n) n (int64_read n h)

abbrev pub on_client : ℕ → List ℕ → Read (ℕ × ℕ)
on_client client = on (number_at w32) (λ exchange bytes. Ok ((client, exchange), bytes))

pair_read : (client exchange : ℕ) → (pair client exchange).fits ≡ true → all_of (pair_at (pair client exchange).bytes) ≡ Some (client, exchange)
pair_read client exchange h =
    let a = both (int32 client).fits (int32 exchange).fits h in
    let second = last (number_at w32) (λ (n : ℕ). (client, n)) (int32 exchange) exchange (int32_read exchange a.1) in
    whole pair_at (pair client exchange) (client, exchange) (then (number_at w32) on_client (int32 client) (int32 exchange) client (client, exchange) (int32_read client a.0) second)

abbrev pub on_ended : ℕ → List ℕ → Read (ℕ × ℕ)
on_ended exchange = on byte_at (λ b bytes. Ok ((exchange, b), bytes))

end_numbers : (exchange : ℕ) (failed : Bool) → (end_of exchange failed).fits ≡ true → all_of (end_at (end_of exchange failed).bytes) ≡ Some (exchange, how failed)
end_numbers exchange failed h =
    let a = both (int32 exchange).fits true h in
    whole end_at (end_of exchange failed) (exchange, how failed) (then (number_at w32) on_ended (int32 exchange) (raw (how failed ∷ [])) exchange (exchange, how failed) (int32_read exchange a.0) (λ rest. refl))

how_read : (exchange : ℕ) (failed : Bool) → end_by (exchange, how failed) ≡ Some (events.SnapEnd exchange failed)
how_read exchange true = refl
how_read exchange false = refl

end_read : (exchange : ℕ) (failed : Bool) → (end_of exchange failed).fits ≡ true → option_and_then end_by (all_of (end_at (end_of exchange failed).bytes)) ≡ Some (events.SnapEnd exchange failed)
end_read exchange failed h = ap (option_and_then end_by) (end_numbers exchange failed h) ∙ how_read exchange failed

-- ---- what each record asks for

abbrev asked : Option Event → Result Record RecordError
asked o = as_event (read_or_bad o)

event_read : (e : Event) → (event_payload e).fits ≡ true → as_event (event_of (event_kind e) (event_payload e).bytes) ≡ Ok (Brings e)
unfolding event_of numbers_of
event_read events.Anew h = refl
event_read (events.Message bytes) h = refl
event_read (events.FrameBytes bytes) h = refl
event_read (events.RequestHead bytes) h = refl
event_read (events.SnapBytes exchange bytes) h = ap (λ (r : Read ℕ). asked (piece_by r)) (int32_read exchange (both (int32 exchange).fits true h).0 bytes)
event_read (events.Snapshot exchange head table) h = ap asked (snapshot_read exchange head table h)
event_read (events.SnapEnd exchange failed) h = ap asked (end_read exchange failed h)
event_read (events.NewClient pairs) h = refl
event_read (events.SendNext client) h = ap (λ (o : Option ℕ). asked (option_map events.SendNext o)) (number_read client h)
event_read (events.Receive client exchange) h = ap (λ (o : Option (ℕ × ℕ)). asked (option_map (λ x. events.Receive x.0 x.1) o)) (pair_read client exchange h)
event_read (events.Watch client) h = ap (λ (o : Option ℕ). asked (option_map events.Watch o)) (number_read client h)
event_read (events.Remove number) h = ap (λ (o : Option ℕ). asked (option_map events.Remove o)) (long_read number h)
event_read (events.Moment now) h = ap (λ (o : Option ℕ). asked (option_map events.Moment o)) (long_read now h)

brings_read : (e : Event) → record_of (record { kind = event_kind e; payload = (event_payload e).bytes }) ≡ as_event (event_of (event_kind e) (event_payload e).bytes)
unfolding record_of
brings_read events.Anew = refl
brings_read (events.Message bytes) = refl
brings_read (events.FrameBytes bytes) = refl
brings_read (events.RequestHead bytes) = refl
brings_read (events.SnapBytes exchange bytes) = refl
brings_read (events.Snapshot exchange head table) = refl
brings_read (events.SnapEnd exchange failed) = refl
brings_read (events.NewClient pairs) = refl
brings_read (events.SendNext client) = refl
brings_read (events.Receive client exchange) = refl
brings_read (events.Watch client) = refl
brings_read (events.Remove number) = refl
brings_read (events.Moment now) = refl

record_read : (r : Record) → (payload r).fits ≡ true → record_of (item_of r) ≡ Ok r
unfolding record_of
record_read (Table d) h = ap read_or_bad (table_read d h)
record_read (Start s) h = ap (λ (o : Option StartRows). read_or_bad (option_map Start o)) (start_read s h)
record_read (Brings e) h = brings_read e ∙ event_read e h
record_read End h = refl

-- ---- records one after the other

item_read : (item : Item) (rest : List ℕ) → length item.payload < 2 ^ 32 → item_at (spelled item ++ rest) ≡ Some (item, rest)
item_read item rest lt =
    let n = length item.payload in
    let long : ltb (length (item.payload ++ rest)) n ≡ false = le-ltb _ _ (omega (arith, length-append item.payload rest)) in
    ap (λ (m : ℕ). payload_at item.kind m (item.payload ++ rest)) (from_be_bytes-to_be_bytes_4 n lt)
    ∙ rw (long, take_at item.payload rest n refl, drop_at item.payload rest n refl) refl

pub records_are_read_back : RecordsAreReadBack
records_are_read_back r h =
    let a = both (payload r).fits (ltb (length (payload r).bytes) (2 ^ 32)) h in
    record { found = λ rest. item_read (item_of r) rest (ltb-true _ _ a.1); asks = record_read r a.0 }

abbrev bytes_of : Record → List ℕ
bytes_of r = (record_spelling r).bytes

none_left : (n : ℕ) → items_in n [] ≡ []
unfolding items_in
none_left zero = refl
none_left (suc n) = refl

next_left : (n : ℕ) (bytes : List ℕ) → items_in (suc n) bytes ≡ items_then (items_in n) (item_at bytes)
unfolding items_in
next_left n bytes = refl

items_read : (n : ℕ) (rs : List Record) → list_all (λ (r : Record). (record_spelling r).fits) rs ≡ true → length (flat_map bytes_of rs) ≤ n → items_in n (flat_map bytes_of rs) ≡ map item_of rs
items_read n [] h le = none_left n
items_read zero (r ∷ rs) h le = absurd (omega (arith, le, ap length (flat_map-cons bytes_of r rs), length-append (bytes_of r) (flat_map bytes_of rs)))
items_read (suc n) (r ∷ rs) h le =
    let e = both (record_spelling r).fits (list_all (λ (q : Record). (record_spelling q).fits) rs) h in
    let bytes = flat_map-cons bytes_of r rs in
    let shorter : length (flat_map bytes_of rs) ≤ n = omega (arith, le, ap length bytes, length-append (bytes_of r) (flat_map bytes_of rs)) in
    ap (items_in (suc n)) bytes
    ∙ next_left n (bytes_of r ++ flat_map bytes_of rs)
    ∙ ap (items_then (items_in n)) ((records_are_read_back r e.0).found (flat_map bytes_of rs))
    ∙ ap (λ (items : List Item). item_of r ∷ items) (items_read n rs e.1 shorter)

pub scripts_are_read_back : ScriptsAreReadBack
unfolding items_of
scripts_are_read_back rs h = items_read (length (flat_map bytes_of rs)) rs h (omega arith)
