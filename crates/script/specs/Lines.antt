-- What is written of the outs of a script.
use Rattle.std.specs.Prelude.{ℕ, List, ◌++◌, length, codes, decimal}
use Rattle.std.specs.List.{flat_map}
use Rattle.shape_base.specs.declared.handle.Handle.{Handle}
use Rattle.shape_base.specs.declared.offset.Offset.{Offset}
use Rattle.shape_base.specs.declared.entry.KeyedRow.{KeyedRow}
use Rattle.shape_base.specs.OffsetText.{offset_text}
use Rattle.shape_json.specs.Body.{row_text}
use Rattle.core_events.specs.declared.out.Out.{Out}
use Rattle.core_events.specs.declared.out.Out.TheVariants.{Given, Cut, Block, Refetched, Refused, StreamRefused}

-- a handle: its number, a hyphen, the name of its run
abbrev pub handle_line : Handle → List ℕ
handle_line h = decimal h.number ++ codes "-" ++ h.run

-- the line of a block: the client, its handle, its offset, and how many rows follow
abbrev pub head_line : ℕ → Handle → Offset → ℕ → List ℕ
head_line client h o count = codes "client " ++ decimal client ++ codes " up-to-date " ++ handle_line h ++ codes " " ++ offset_text o ++ codes " " ++ decimal count ++ codes "\n"

abbrev pub row_line : KeyedRow → List ℕ
row_line row = row_text row ++ codes "\n"

-- a reply's line has its length, and its bytes follow
abbrev pub given_text : ℕ → List ℕ → List ℕ
given_text exchange bytes = codes "reply " ++ decimal exchange ++ codes " " ++ decimal (length bytes) ++ codes "\n" ++ bytes ++ codes "\n"

-- Each line ends with a line feed.
abbrev pub out_text : Out → List ℕ
out_text (Given exchange bytes) = given_text exchange bytes
out_text (Cut exchange) = codes "cut " ++ decimal exchange ++ codes "\n"
out_text (Block client handle offset rows) = head_line client handle offset (length rows) ++ flat_map row_line rows
out_text (Refetched client) = codes "client " ++ decimal client ++ codes " refetch\n"
out_text (Refused client status) = codes "client " ++ decimal client ++ codes " server-refused " ++ decimal status ++ codes "\n"
out_text (StreamRefused name place) = codes "stream refused " ++ name ++ codes " " ++ decimal place ++ codes "\n"

abbrev pub outs_text : List Out → List ℕ
outs_text outs = flat_map out_text outs

-- the last line: how many exchanges there were
abbrev pub end_text : ℕ → List ℕ
end_text exchanges = codes "end " ++ decimal exchanges ++ codes "\n"
