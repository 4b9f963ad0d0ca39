-- An item that asks for a record is the one that is written of it.
use Rattle.std.proofs.Common.{◌≡◌, ℕ, ◌^◌, ◌<◌, Bool, true, false, eqb, ltb, cond, List, [], ◌∷◌, length, Option, None, Some, Result, Ok, Err, refl, sym, ap, subst, ◌∙◌, inl, inr}
use Rattle.std.specs.Option.{option_map, option_and_then}
use Rattle.std.specs.Int.{w16, w32, w64}
use Rattle.std.proofs.lemmas.Bool.{lt-ltb, eqb-true}
use Rattle.std.proofs.lemmas.List.{nil_from_length}
use Rattle.byte_format.specs.Format.{Read, number_at, byte_at}
use Rattle.byte_format.proofs.Codec.{IsBytes, bind_ok, ok_is, chosen}
use Rattle.shape_base.specs.declared.value.Value.{Value}
use Rattle.core_events.specs.declared.event.Event.{Event}
use Rattle.core_events.specs.declared.event.Event.TheVariants as events
use Rattle.script.specs.declared.fault.RecordError.{RecordError}
use Rattle.script.specs.declared.fault.RecordError.TheVariants.{UnknownKind}
use Rattle.script.specs.declared.rows.StartRows.{StartRows}
use Rattle.script.specs.declared.record.Record.{Record}
use Rattle.script.specs.declared.record.Record.TheVariants.{Table, Start, Brings, End}
use Rattle.script.specs.Texts.{text_at}
use Rattle.script.specs.Rows.{columns_at, rows_at}
use Rattle.script.specs.Tables.{placed_at, declared}
use Rattle.script.specs.Snapshots.{snapshot_at, start_at}
use Rattle.script.specs.Records.{Item, all_of, read_or_bad, number_in, pair_at, pair_in, long_in, piece_by, failed_by, end_at, end_by, if_empty, table_in, start_in, numbers_of, event_of, as_event, record_of}
use Rattle.script_writing.specs.Parts.{Spelling, ◌&◌, only_if, raw, int16, int32, int64, text, short_list, column, rows}
use Rattle.script_writing.specs.Records.{start, how, end_of, pair, event_payload, event_kind, payload, kind, item_of}
use Rattle.script_writing.specs.Laws.{ItemsAreWritten}
use Rattle.script_writing.proofs.Reading.{both}
use Rattle.script_writing.proofs.ReadBack.{on_columns, on_oid, on_vis, on_exchange, on_table, on_client, on_ended}
use Rattle.script_writing.proofs.Choices.{some_is, right_is, branch, read_is, mapped_is, then_is, empty_is}
use Rattle.script_writing.proofs.Taking.{passed, IsTaken, AreTaken, IsAllTaken, joined, int16_taken, int32_taken, int64_taken, text_taken, columns_taken, rows_taken, whole_taken}
use Rattle.script_writing.proofs.TableTaken.{table_taken}

-- ---- the parts of events

start_taken : AreTaken start_at start
start_taken bytes s rest h e =
    let a = bind_ok (number_at w16 bytes) (λ table. on_table table.0 table.1) (s, rest) e in
    let with_rows : List (List Value) × List ℕ → Read StartRows = λ rows. Ok (record { table = a.0.0; rows = rows.0 }, rows.1) in
    let b = bind_ok (rows_at a.0.1) with_rows (s, rest) a.2 in
    let t = int16_taken bytes a.0.0 a.0.1 h a.1 in
    let u = rows_taken a.0.1 b.0.0 b.0.1 t.in_range b.1 in
    let made : StartRows = record { table = a.0.0; rows = b.0.0 } in
    subst (λ (y : StartRows × List ℕ). IsTaken (start y.0) bytes y.1) (ok_is (made, b.0.1) (s, rest) b.2) (joined (int16 a.0.0) (rows b.0.0) bytes a.0.1 b.0.1 t u)

-- the payload of a snapshot alone
abbrev of_snapshot : Event → Spelling
of_snapshot e = only_if (eqb 71 (event_kind e)) (event_payload e)

snapshot_taken : AreTaken snapshot_at of_snapshot
snapshot_taken bytes z rest h e =
    let a = bind_ok (number_at w32 bytes) (λ x. on_exchange x.0 x.1) (z, rest) e in
    let b = bind_ok (text_at a.0.1) (λ x. on_vis a.0.0 x.0 x.1) (z, rest) a.2 in
    let c = bind_ok (number_at w32 b.0.1) (λ x. on_oid a.0.0 b.0.0 x.0 x.1) (z, rest) b.2 in
    let d = bind_ok (columns_at c.0.1) (λ x. on_columns a.0.0 b.0.0 c.0.0 x.0 x.1) (z, rest) c.2 in
    let made : List (List Value) → Event = λ table. events.Snapshot a.0.0 (record { vis = b.0.0; oid = c.0.0; columns = d.0.0 }) table in
    let with_rows : List (List Value) × List ℕ → Read Event = λ x. Ok (made x.0, x.1) in
    let f = bind_ok (rows_at d.0.1) with_rows (z, rest) d.2 in
    let t = int32_taken bytes a.0.0 a.0.1 h a.1 in
    let u = text_taken a.0.1 b.0.0 b.0.1 t.in_range b.1 in
    let v = int32_taken b.0.1 c.0.0 c.0.1 u.in_range c.1 in
    let w = columns_taken c.0.1 d.0.0 d.0.1 v.in_range d.1 in
    let x = rows_taken d.0.1 f.0.0 f.0.1 w.in_range f.1 in
    let from_columns = joined (short_list column d.0.0) (rows f.0.0) c.0.1 d.0.1 f.0.1 w x in
    let from_oid = joined (int32 c.0.0) (short_list column d.0.0 & rows f.0.0) b.0.1 c.0.1 f.0.1 v from_columns in
    let from_vis = joined (text b.0.0) (int32 c.0.0 & short_list column d.0.0 & rows f.0.0) a.0.1 b.0.1 f.0.1 u from_oid in
    let from_exchange = joined (int32 a.0.0) (text b.0.0 & int32 c.0.0 & short_list column d.0.0 & rows f.0.0) bytes a.0.1 f.0.1 t from_vis in
    subst (λ (y : Event × List ℕ). IsTaken (of_snapshot y.0) bytes y.1) (ok_is (made f.0.0, f.0.1) (z, rest) f.2) from_exchange

abbrev pair_of : ℕ × ℕ → Spelling
pair_of x = pair x.0 x.1

pair_taken : AreTaken pair_at pair_of
pair_taken bytes z rest h e =
    let a = bind_ok (number_at w32 bytes) (λ x. on_client x.0 x.1) (z, rest) e in
    let second : ℕ × List ℕ → Read (ℕ × ℕ) = λ x. Ok ((a.0.0, x.0), x.1) in
    let b = bind_ok (number_at w32 a.0.1) second (z, rest) a.2 in
    let t = int32_taken bytes a.0.0 a.0.1 h a.1 in
    let u = int32_taken a.0.1 b.0.0 b.0.1 t.in_range b.1 in
    subst (λ (y : (ℕ × ℕ) × List ℕ). IsTaken (pair_of y.0) bytes y.1) (ok_is ((a.0.0, b.0.0), b.0.1) (z, rest) b.2) (joined (int32 a.0.0) (int32 b.0.0) bytes a.0.1 b.0.1 t u)

abbrev ended_of : ℕ × ℕ → Spelling
ended_of x = int32 x.0 & raw (x.1 ∷ [])

byte_taken : AreTaken byte_at (λ b. raw (b ∷ []))
byte_taken [] b rest h e = absurd cc
byte_taken (c ∷ bytes) b rest h e = subst (λ (y : ℕ × List ℕ). IsTaken (raw (y.0 ∷ [])) (c ∷ bytes) y.1) (ok_is (c, bytes) (b, rest) e) (record { parts = refl; in_range = h.1; fits = refl })

ended_taken : AreTaken end_at ended_of
ended_taken bytes z rest h e =
    let a = bind_ok (number_at w32 bytes) (λ x. on_ended x.0 x.1) (z, rest) e in
    let second : ℕ × List ℕ → Read (ℕ × ℕ) = λ x. Ok ((a.0.0, x.0), x.1) in
    let b = bind_ok (byte_at a.0.1) second (z, rest) a.2 in
    let t = int32_taken bytes a.0.0 a.0.1 h a.1 in
    let u = byte_taken a.0.1 b.0.0 b.0.1 t.in_range b.1 in
    subst (λ (y : (ℕ × ℕ) × List ℕ). IsTaken (ended_of y.0) bytes y.1) (ok_is ((a.0.0, b.0.0), b.0.1) (z, rest) b.2) (joined (int32 a.0.0) (raw (b.0.0 ∷ [])) bytes a.0.1 b.0.1 t u)

-- ---- events

-- the event has this kind byte and this payload
record Has (e : Event) (bytes : List ℕ) (k : ℕ) : Type 0 where
  kind : k ≡ event_kind e
  all : IsAllTaken (event_payload e) bytes

-- the event brings the payload itself
whole_payload : (k : ℕ) (make : Event) (bytes : List ℕ) (e : Event) → k ≡ event_kind make → event_payload make ≡ raw bytes → make ≡ e → Has e bytes k
whole_payload k make bytes e is same at = subst (λ (y : Event). Has y bytes k) at (record { kind = is; all = subst (λ (s : Spelling). IsAllTaken s bytes) (sym same) (record { is = refl; fits = refl }) })

number_taken : (k : ℕ) (make : ℕ → Event) (bytes : List ℕ) (e : Event) → ((n : ℕ) → k ≡ event_kind (make n)) → ((n : ℕ) → event_payload (make n) ≡ int32 n) → IsBytes bytes → read_or_bad (option_map make (number_in bytes)) ≡ Ok e → Has e bytes k
number_taken k make bytes e is same h q =
    let a = mapped_is make (number_in bytes) e (read_is (option_map make (number_in bytes)) e q) in
    let t = whole_taken (number_at w32) int32 int32_taken bytes a.0 h a.1 in
    subst (λ (y : Event). Has y bytes k) a.2 (record { kind = is a.0; all = subst (λ (s : Spelling). IsAllTaken s bytes) (sym (same a.0)) t })

long_taken : (k : ℕ) (make : ℕ → Event) (bytes : List ℕ) (e : Event) → ((n : ℕ) → k ≡ event_kind (make n)) → ((n : ℕ) → event_payload (make n) ≡ int64 n) → IsBytes bytes → read_or_bad (option_map make (long_in bytes)) ≡ Ok e → Has e bytes k
long_taken k make bytes e is same h q =
    let a = mapped_is make (long_in bytes) e (read_is (option_map make (long_in bytes)) e q) in
    let t = whole_taken (number_at w64) int64 int64_taken bytes a.0 h a.1 in
    subst (λ (y : Event). Has y bytes k) a.2 (record { kind = is a.0; all = subst (λ (s : Spelling). IsAllTaken s bytes) (sym (same a.0)) t })

abbrev received : ℕ × ℕ → Event
received x = events.Receive x.0 x.1

receive_taken : (bytes : List ℕ) (e : Event) → IsBytes bytes → read_or_bad (option_map received (pair_in bytes)) ≡ Ok e → Has e bytes 82
receive_taken bytes e h q =
    let a = mapped_is received (pair_in bytes) e (read_is (option_map received (pair_in bytes)) e q) in
    let t = whole_taken pair_at pair_of pair_taken bytes a.0 h a.1 in
    subst (λ (y : Event). Has y bytes 82) a.2 (record { kind = refl; all = t })

anew_taken : (bytes : List ℕ) (e : Event) → read_or_bad (if_empty bytes events.Anew) ≡ Ok e → Has e bytes 79
anew_taken bytes e q =
    let a = empty_is bytes events.Anew e (read_is (if_empty bytes events.Anew) e q) in
    subst (λ (y : Event). Has y bytes 79) a.1 (record { kind = refl; all = record { is = nil_from_length bytes a.0; fits = refl } })

piece_ok : (bytes : List ℕ) (r : Read ℕ) (e : Event) → r ≡ number_at w32 bytes → IsBytes bytes → piece_by r ≡ Some e → Has e bytes 68
piece_ok bytes (Err left) e is h q = absurd cc
piece_ok bytes (Ok x) e is h q =
    let t = int32_taken bytes x.0 x.1 h (sym is) in
    let one : Has (events.SnapBytes x.0 x.1) bytes 68 = record { kind = refl; all = record { is = t.parts; fits = passed (int32 x.0).fits true t.fits refl } } in
    subst (λ (y : Event). Has y bytes 68) (some_is (events.SnapBytes x.0 x.1) e q) one

piece_taken : (bytes : List ℕ) (e : Event) → IsBytes bytes → read_or_bad (piece_by (number_at w32 bytes)) ≡ Ok e → Has e bytes 68
piece_taken bytes e h q = piece_ok bytes (number_at w32 bytes) e refl h (read_is (piece_by (number_at w32 bytes)) e q)

whole_snapshot_taken : (bytes : List ℕ) (e : Event) → IsBytes bytes → read_or_bad (all_of (snapshot_at bytes)) ≡ Ok e → Has e bytes 71
whole_snapshot_taken bytes e h q =
    let t = whole_taken snapshot_at of_snapshot snapshot_taken bytes e h (read_is (all_of (snapshot_at bytes)) e q) in
    let a = both (eqb 71 (event_kind e)) (event_payload e).fits t.fits in
    record { kind = eqb-true 71 (event_kind e) a.0; all = record { is = t.is; fits = a.1 } }

failed_is : (b : ℕ) (failed : Bool) → failed_by b ≡ Some failed → b ≡ how failed
failed_is b failed e =
    elim (chosen (eqb b 0) (Some false) (cond (eqb b 1) (Some true) None) (Some failed) e) [
      | inl k ↦ eqb-true b 0 k.0 ∙ ap how (some_is false failed k.1)
      | inr k ↦
          elim (chosen (eqb b 1) (Some true) None (Some failed) k.1) [
            | inl m ↦ eqb-true b 1 m.0 ∙ ap how (some_is true failed m.1)
            | inr m ↦ absurd (let w = m.1 in cc)
          ]
    ]

end_taken : (bytes : List ℕ) (e : Event) → IsBytes bytes → read_or_bad (option_and_then end_by (all_of (end_at bytes))) ≡ Ok e → Has e bytes 88
end_taken bytes e h q =
    let a = then_is end_by (all_of (end_at bytes)) e (read_is (option_and_then end_by (all_of (end_at bytes))) e q) in
    let b = mapped_is (events.SnapEnd a.0.0) (failed_by a.0.1) e a.2 in
    let t = whole_taken end_at ended_of ended_taken bytes a.0 h a.1 in
    let how_is : a.0.1 ≡ how b.0 = failed_is a.0.1 b.0 b.1 in
    let u : IsAllTaken (end_of a.0.0 b.0) bytes = subst (λ (n : ℕ). IsAllTaken (int32 a.0.0 & raw (n ∷ [])) bytes) how_is t in
    subst (λ (y : Event). Has y bytes 88) b.2 (record { kind = refl; all = u })

-- ---- by the kind byte

abbrev Asked : Type 0
Asked = Result Event RecordError

abbrev moments : ℕ → List ℕ → Asked
moments k b = cond (eqb k 75) (read_or_bad (option_map events.Moment (long_in b))) (Err UnknownKind)

abbrev removes : ℕ → List ℕ → Asked
removes k b = cond (eqb k 85) (read_or_bad (option_map events.Remove (long_in b))) (moments k b)

abbrev watches : ℕ → List ℕ → Asked
watches k b = cond (eqb k 87) (read_or_bad (option_map events.Watch (number_in b))) (removes k b)

abbrev receives : ℕ → List ℕ → Asked
receives k b = cond (eqb k 82) (read_or_bad (option_map received (pair_in b))) (watches k b)

abbrev sends : ℕ → List ℕ → Asked
sends k b = cond (eqb k 83) (read_or_bad (option_map events.SendNext (number_in b))) (receives k b)

numbers_are : (k : ℕ) (b : List ℕ) → numbers_of k b ≡ sends k b
unfolding numbers_of
numbers_are k b = refl

abbrev refused : Asked
refused = Err UnknownKind

unknown : (e : Event) (b : List ℕ) (k : ℕ) → refused ≡ Ok e → Has e b k
unknown e b k q = absurd cc

numbers_taken : (k : ℕ) (b : List ℕ) (e : Event) → IsBytes b → numbers_of k b ≡ Ok e → Has e b k
numbers_taken k b e h q =
    let P : ℕ → Type 0 = Has e b in
    branch k 83 (read_or_bad (option_map events.SendNext (number_in b))) (receives k b) (Ok e) P (sym (numbers_are k b) ∙ q) (number_taken 83 events.SendNext b e (λ n. refl) (λ n. refl) h) (λ q1.
    branch k 82 (read_or_bad (option_map received (pair_in b))) (watches k b) (Ok e) P q1 (receive_taken b e h) (λ q2.
    branch k 87 (read_or_bad (option_map events.Watch (number_in b))) (removes k b) (Ok e) P q2 (number_taken 87 events.Watch b e (λ n. refl) (λ n. refl) h) (λ q3.
    branch k 85 (read_or_bad (option_map events.Remove (long_in b))) (moments k b) (Ok e) P q3 (long_taken 85 events.Remove b e (λ n. refl) (λ n. refl) h) (λ q4.
    branch k 75 (read_or_bad (option_map events.Moment (long_in b))) (Err UnknownKind) (Ok e) P q4 (long_taken 75 events.Moment b e (λ n. refl) (λ n. refl) h) (λ q5.
    unknown e b k q5)))))

abbrev clients : ℕ → List ℕ → Asked
clients k b = cond (eqb k 78) (Ok (events.NewClient b)) (numbers_of k b)

abbrev ends : ℕ → List ℕ → Asked
ends k b = cond (eqb k 88) (read_or_bad (option_and_then end_by (all_of (end_at b)))) (clients k b)

abbrev snapshots : ℕ → List ℕ → Asked
snapshots k b = cond (eqb k 71) (read_or_bad (all_of (snapshot_at b))) (ends k b)

abbrev pieces : ℕ → List ℕ → Asked
pieces k b = cond (eqb k 68) (read_or_bad (piece_by (number_at w32 b))) (snapshots k b)

abbrev heads : ℕ → List ℕ → Asked
heads k b = cond (eqb k 81) (Ok (events.RequestHead b)) (pieces k b)

abbrev frames : ℕ → List ℕ → Asked
frames k b = cond (eqb k 70) (Ok (events.FrameBytes b)) (heads k b)

abbrev messages : ℕ → List ℕ → Asked
messages k b = cond (eqb k 77) (Ok (events.Message b)) (frames k b)

abbrev anews : ℕ → List ℕ → Asked
anews k b = cond (eqb k 79) (read_or_bad (if_empty b events.Anew)) (messages k b)

events_are : (k : ℕ) (b : List ℕ) → event_of k b ≡ anews k b
unfolding event_of
events_are k b = refl

abbrev asked : Event → Asked
asked e = Ok e

whole_event : (k : ℕ) (make : Event) (bytes : List ℕ) (e : Event) → k ≡ event_kind make → event_payload make ≡ raw bytes → asked make ≡ Ok e → Has e bytes k
whole_event k make bytes e is same q = whole_payload k make bytes e is same (right_is make e q)

event_taken : (k : ℕ) (b : List ℕ) (e : Event) → IsBytes b → event_of k b ≡ Ok e → Has e b k
event_taken k b e h q =
    let P : ℕ → Type 0 = Has e b in
    branch k 79 (read_or_bad (if_empty b events.Anew)) (messages k b) (Ok e) P (sym (events_are k b) ∙ q) (anew_taken b e) (λ q1.
    branch k 77 (Ok (events.Message b)) (frames k b) (Ok e) P q1 (whole_event 77 (events.Message b) b e refl refl) (λ q2.
    branch k 70 (Ok (events.FrameBytes b)) (heads k b) (Ok e) P q2 (whole_event 70 (events.FrameBytes b) b e refl refl) (λ q3.
    branch k 81 (Ok (events.RequestHead b)) (pieces k b) (Ok e) P q3 (whole_event 81 (events.RequestHead b) b e refl refl) (λ q4.
    branch k 68 (read_or_bad (piece_by (number_at w32 b))) (snapshots k b) (Ok e) P q4 (piece_taken b e h) (λ q5.
    branch k 71 (read_or_bad (all_of (snapshot_at b))) (ends k b) (Ok e) P q5 (whole_snapshot_taken b e h) (λ q6.
    branch k 88 (read_or_bad (option_and_then end_by (all_of (end_at b)))) (clients k b) (Ok e) P q6 (end_taken b e h) (λ q7.
    branch k 78 (Ok (events.NewClient b)) (numbers_of k b) (Ok e) P q7 (whole_event 78 (events.NewClient b) b e refl refl) (λ q8.
    numbers_taken k b e h q8))))))))

-- ---- records

-- the record has this kind byte and this payload
record Holds (r : Record) (bytes : List ℕ) (k : ℕ) : Type 0 where
  kind : k ≡ kind r
  all : IsAllTaken (payload r) bytes

abbrev For : Type 0
For = Result Record RecordError

read_for : {A : Type 0} (make : A → Record) (o : Option A) (r : Record) → read_or_bad (option_map make o) ≡ Ok r → (x : A) × (o ≡ Some x) × (make x ≡ r)
read_for make o r q = mapped_is make o r (read_is (option_map make o) r q)

table_holds : (b : List ℕ) (r : Record) → IsBytes b → read_or_bad (table_in b) ≡ Ok r → Holds r b 84
table_holds b r h q =
    let a = read_for Table (option_and_then declared (all_of (placed_at b))) r q in
    subst (λ (y : Record). Holds y b 84) a.2 (record { kind = refl; all = table_taken b a.0 h a.1 })

start_holds : (b : List ℕ) (r : Record) → IsBytes b → read_or_bad (start_in b) ≡ Ok r → Holds r b 66
start_holds b r h q =
    let a = read_for Start (all_of (start_at b)) r q in
    subst (λ (y : Record). Holds y b 66) a.2 (record { kind = refl; all = whole_taken start_at start start_taken b a.0 h a.1 })

end_holds : (b : List ℕ) (r : Record) → read_or_bad (if_empty b End) ≡ Ok r → Holds r b 69
end_holds b r q =
    let a = empty_is b End r (read_is (if_empty b End) r q) in
    subst (λ (y : Record). Holds y b 69) a.1 (record { kind = refl; all = record { is = nil_from_length b a.0; fits = refl } })

brings : (a : Asked) (r : Record) → as_event a ≡ Ok r → (e : Event) × (a ≡ Ok e) × (Brings e ≡ r)
brings (Ok e) r q = (e, refl, right_is (Brings e) r q)
brings (Err f) r q = absurd cc

event_holds : (k : ℕ) (b : List ℕ) (r : Record) → IsBytes b → as_event (event_of k b) ≡ Ok r → Holds r b k
event_holds k b r h q =
    let a = brings (event_of k b) r q in
    let t = event_taken k b a.0 h a.1 in
    subst (λ (y : Record). Holds y b k) a.2 (record { kind = t.kind; all = t.all })

abbrev others : ℕ → List ℕ → For
others k b = as_event (event_of k b)

abbrev last_ones : ℕ → List ℕ → For
last_ones k b = cond (eqb k 69) (read_or_bad (if_empty b End)) (others k b)

abbrev starts : ℕ → List ℕ → For
starts k b = cond (eqb k 66) (read_or_bad (start_in b)) (last_ones k b)

abbrev tables : ℕ → List ℕ → For
tables k b = cond (eqb k 84) (read_or_bad (table_in b)) (starts k b)

records_are : (item : Item) → record_of item ≡ tables item.kind item.payload
unfolding record_of
records_are item = refl

record_holds : (item : Item) (r : Record) → IsBytes item.payload → record_of item ≡ Ok r → Holds r item.payload item.kind
record_holds item r h q =
    let k = item.kind in
    let b = item.payload in
    let P : ℕ → Type 0 = Holds r b in
    branch k 84 (read_or_bad (table_in b)) (starts k b) (Ok r) P (sym (records_are item) ∙ q) (table_holds b r h) (λ q1.
    branch k 66 (read_or_bad (start_in b)) (last_ones k b) (Ok r) P q1 (start_holds b r h) (λ q2.
    branch k 69 (read_or_bad (if_empty b End)) (others k b) (Ok r) P q2 (end_holds b r) (λ q3.
    event_holds k b r h q3)))

same_item : (i j : Item) → i.kind ≡ j.kind → i.payload ≡ j.payload → i ≡ j
same_item i j a b =
    let with_kind : ℕ → Item = λ k. record { kind = k; payload = i.payload } in
    let with_payload : List ℕ → Item = λ p. record { kind = j.kind; payload = p } in
    ap with_kind a ∙ ap with_payload b

pub items_are_written : ItemsAreWritten
items_are_written item r is q =
    let t = record_holds item r is.bytes q in
    let len : length item.payload ≡ length (payload r).bytes = ap length t.all.is in
    record {
      is = same_item item (item_of r) t.kind t.all.is;
      fits = passed (payload r).fits (ltb (length (payload r).bytes) (2 ^ 32)) t.all.fits (lt-ltb (length (payload r).bytes) (2 ^ 32) (subst (λ (n : ℕ). n < 2 ^ 32) len is.room));
    }
