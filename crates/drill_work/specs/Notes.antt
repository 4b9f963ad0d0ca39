-- What snapshots under way show.
use Rattle.std.specs.Prelude.{ℕ, ◌+◌, ◌==◌, if◌then◌else◌, Bool, List, [], ◌∷◌, ◌++◌, map, codes, decimal, Option, None, Some}
use Rattle.std.specs.List.{flat_map, list_any}
use Rattle.shape_base.specs.declared.value.Value.{Value}
use Rattle.shape_base.specs.declared.value.Value.TheVariants.{Words}
use Rattle.shape_base.specs.declared.definition.Column.{Column}
use Rattle.core_events.specs.declared.event.Event.{Event}
use Rattle.core_events.specs.declared.event.Event.TheVariants as events
use Rattle.drill_work.specs.declared.plain.Item.{Item}
use Rattle.drill_work.specs.declared.drill.Drill.{Drill}
use Rattle.drill_work.specs.declared.notes.Note.{Note}
use Rattle.drill_work.specs.Messages.{letter_text, table_oid}

-- the snapshot of this exchange has a note
abbrev pub has_note : List Note → ℕ → Bool
has_note notes exchange = list_any (λ (n : Note). n.exchange == exchange) notes

-- the present table, and each transaction below 1000 + C, where C commits were made
abbrev pub note_of : Drill → ℕ → Note
note_of d exchange = record { exchange = exchange; shown = 1000 + d.commits; rows = d.plain.rows }

abbrev pub noted_one : Drill → List Note → ℕ → List Note
noted_one d notes exchange = if has_note notes exchange then notes else notes ++ note_of d exchange ∷ []

-- each snapshot under way that has no note gets one
abbrev pub noted : Drill → List Note → List ℕ → List Note
noted d notes [] = notes
noted d notes (exchange ∷ others) = noted d (noted_one d notes exchange) others

-- the first note of a snapshot
abbrev pub note_for : ℕ → List Note → Option Note
note_for exchange [] = None
note_for exchange (n ∷ notes) = if n.exchange == exchange then Some n else note_for exchange notes

-- a snapshot that shows each transaction before this id, and no other
abbrev pub vis_text : ℕ → List ℕ
vis_text shown = decimal shown ++ codes ":" ++ decimal shown ++ codes ":"

abbrev pub column : List ℕ → ℕ → Column
column name oid = record { name = name; oid = oid }

-- `id` and `n` of int4, and `s` of text
abbrev pub columns : List Column
columns = column (codes "id") 23 ∷ column (codes "n") 23 ∷ column (codes "s") 25 ∷ []

abbrev pub row_of : Item → List Value
row_of item = Words (decimal item.id) ∷ Words (decimal item.n) ∷ Words (letter_text item.letter) ∷ []

abbrev pub rows_of : List Item → List (List Value)
rows_of items = map row_of items

-- the snapshot of a note
abbrev pub snapshot_of : Note → Event
snapshot_of n = events.Snapshot n.exchange (record { vis = vis_text n.shown; oid = table_oid; columns = columns }) (rows_of n.rows)

abbrev pub if_noted : Option Note → List Event
if_noted None = []
if_noted (Some n) = snapshot_of n ∷ []

abbrev pub given_one : List Note → ℕ → List Event
given_one notes exchange = if_noted (note_for exchange notes)

-- Each snapshot under way that has a note is given, in the order of the exchanges, and then the clock is set.
abbrev pub given : List Note → List ℕ → ℕ → List Event
given notes under_way now = flat_map (given_one notes) under_way ++ events.Moment now ∷ []
