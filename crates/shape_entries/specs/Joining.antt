-- What stands past an offset in a log.
use Rattle.std.specs.Prelude.{◌≡◌, List, true, false}
use Rattle.shape_base.specs.declared.entry.Entry.{Entry}
use Rattle.shape_base.specs.declared.offset.Offset.{Offset}
use Rattle.shape_base.specs.Offsets.{is_before, past}
use Rattle.shape_base.specs.Log.{end_of}
use Rattle.shape_entries.specs.declared.joining.Past.{Past}
use Rattle.shape_entries.specs.declared.joining.Past.TheVariants.{Entries, Ahead}

-- the entries past the offset, which is not after the end; or it is
abbrev pub IsPast : List Entry → Offset → Past → Type 0
IsPast log o (Entries es) = (is_before (end_of log) o ≡ false) × (es ≡ past o log)
IsPast log o Ahead = is_before (end_of log) o ≡ true
