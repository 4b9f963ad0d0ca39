-- The messages of commits.
use Rattle.std.specs.Prelude.{ℕ, ◌+◌, ◌==◌, if◌then◌else◌, List, [], ◌∷◌, ◌++◌, map, codes, decimal}
use Rattle.std.specs.List.{flat_map}
use Rattle.pgout.specs.declared.message.Field.{Field}
use Rattle.pgout.specs.declared.message.Field.TheVariants.{Chars}
use Rattle.pgout.specs.declared.message.Before.TheVariants.{Whole}
use Rattle.pgout.specs.declared.message.ColumnSent.{ColumnSent}
use Rattle.pgout.specs.declared.message.Message.{Message}
use Rattle.pgout.specs.declared.message.Message.TheVariants as messages
use Rattle.pgout.specs.Grammar.{spelled}
use Rattle.core_events.specs.declared.event.Event.{Event}
use Rattle.core_events.specs.declared.event.Event.TheVariants as events
use Rattle.drill_work.specs.declared.plain.Item.{Item}
use Rattle.drill_work.specs.declared.plain.Letter.{Letter}
use Rattle.drill_work.specs.declared.plain.Letter.TheVariants.{K, M}
use Rattle.drill_work.specs.declared.plain.Commit.{Commit}
use Rattle.drill_work.specs.declared.plain.Statement.{Statement}
use Rattle.drill_work.specs.declared.plain.Statement.TheVariants.{Insert, Update, Delete, Truncate}

abbrev pub letter_text : Letter → List ℕ
letter_text K = codes "k"
letter_text M = codes "m"

-- a row, as it is sent
abbrev pub fields_of : Item → List Field
fields_of item = Chars (decimal item.id) ∷ Chars (decimal item.n) ∷ Chars (letter_text item.letter) ∷ []

-- the table's OID
abbrev pub table_oid : ℕ
table_oid = 16384

-- a change; old rows are sent whole
abbrev pub message_of : Statement → Message
message_of (Insert new) = messages.Insert table_oid (fields_of new)
message_of (Update old new) = messages.Update table_oid (Whole (fields_of old)) (fields_of new)
message_of (Delete old) = messages.Delete table_oid (Whole (fields_of old))
message_of Truncate = messages.Truncate 0 (table_oid ∷ [])

-- under replica identity full each column has the key flag
abbrev pub column_sent : List ℕ → ℕ → ColumnSent
column_sent name oid = record { flags = 1; name = name; oid = oid; modifier = 4294967295 }

-- `public.items` with `id` and `n` of int4 and `s` of text, under replica identity full
abbrev pub relation : Message
relation = messages.Relation table_oid (codes "public") (codes "items") 102 (column_sent (codes "id") 23 ∷ column_sent (codes "n") 23 ∷ column_sent (codes "s") 25 ∷ [])

-- the definition stands before the first change of all
abbrev pub relation_before : ℕ → List Message
relation_before number = if number == 0 then relation ∷ [] else []

-- commit number C has the LSN 100 + C and the id 1000 + C
abbrev pub begin_of : ℕ → Message
begin_of number = messages.Begin (100 + number) 0 (1000 + number)

abbrev pub commit_of : ℕ → Message
commit_of number = messages.Commit 0 (100 + number) (108 + number) 0

abbrev pub messages_of : Commit → List Message
messages_of commit = begin_of commit.number ∷ relation_before commit.number ++ (map message_of commit.statements ++ commit_of commit.number ∷ [])

abbrev pub event_of : Message → Event
event_of message = events.Message (spelled message)

abbrev pub commit_events : Commit → List Event
commit_events commit = map event_of (messages_of commit)

-- What is streamed of commits, in their order.
abbrev pub streamed_events : List Commit → List Event
streamed_events commits = flat_map commit_events commits
