use Rattle.std.proofs.Common.{◌≡◌, take}
use Rattle.change_map.specs.Reading.{read_so_far, IsReading}
use Rattle.change_map.proofs.key_reader.read_key.Given as goal

-- the bytes so far have been read
abbrev pub invariant-loop-place : goal.invariant-loop-place
invariant-loop-place l = record {
  reading : IsReading l.reader;
  read : read_so_far l.reader ≡ take l.place l.text;
}
