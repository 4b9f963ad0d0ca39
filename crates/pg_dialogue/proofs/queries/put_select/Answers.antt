use Rattle.std.proofs.Common.{codes}
use Rattle.shape_base.specs.Shape.{quoted}
use Rattle.pg_dialogue.proofs.Lengths.{select_parts}
use Rattle.pg_dialogue.proofs.queries.put_select.Goals as goal

pub returns : goal.returns
returns c = select_parts c.args.out.now.items c.extend_from_slice.new.self.items c.push_quoted.new.out.items c.push.new.self.items c.push_quoted-2.new.out.items (codes "SELECT * FROM ") (quoted c.args.table.now.ns) (quoted c.args.table.now.name)
    c.in_ok-extend_from_slice.ensures.items (rw c.as_bytes.ensures.same at c.in_ok-push_quoted.ensures) c.in_ok-push.ensures.items (rw c.as_bytes-2.ensures.same at c.in_ok-push_quoted-2.ensures)
