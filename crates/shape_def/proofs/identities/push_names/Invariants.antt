use Rattle.std.proofs.Common.{◌≡◌, ◌++◌}
use Rattle.std.specs.Str.{IsUtf8}
use Rattle.shape_def.specs.Identity.{joined}
use Rattle.shape_def.proofs.Writing.{left_of}
use Rattle.shape_def.proofs.identities.push_names.Given as goal

-- what is left gives the other names
abbrev pub invariant-loop-name : goal.invariant-loop-name
invariant-loop-name l = record {
  added : l.out.items ++ left_of l.first l.name-iterator ≡ l.fn.out.items ++ joined l.names.keys;
  utf8 : IsUtf8 l.fn.out.items → IsUtf8 l.out.items;
}
