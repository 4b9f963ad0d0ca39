use Rattle.std.proofs.Common.{◌≡◌, ◌+◌, ◌≤◌, ◌++◌, length, take, vec_len, vec_capacity}
use Rattle.std.specs.Prelude.{slice_range}
use Rattle.json.specs.Print.{escape}
use Rattle.shape_json.proofs.writer.put_escaped.Given as goal

-- what stands for the bytes before `from` was added; those from there on stand for themselves
abbrev pub invariant-loop-place : goal.invariant-loop-place
invariant-loop-place l = record {
  within : l.from ≤ l.place;
  plain : escape (slice_range l.text l.from l.place) ≡ slice_range l.text l.from l.place;
  text : l.out.items ≡ l.fn.out.items ++ escape (take l.from l.text);
  len : vec_len l.out ≡ vec_len l.fn.out + length (escape (take l.from l.text));
  room : vec_capacity l.fn.out ≤ vec_capacity l.out;
}
