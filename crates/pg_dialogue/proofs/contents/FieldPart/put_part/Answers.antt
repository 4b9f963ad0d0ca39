use Rattle.std.proofs.lemmas.Result.{on_ok_weaker}
use Rattle.byte_format.specs.Format.{int16, int32, string}
use Rattle.pg_dialogue.specs.Contents.{column_type, type_of}
use Rattle.pg_dialogue.proofs.Joined.{four}
use Rattle.pg_dialogue.proofs.contents.FieldPart.put_part.Goals as goal

pub returns : goal.returns
returns c = on_ok_weaker c.put_type.result
    (λ e. four c.args.out.now.items c.put_string.new.out.items c.put_u32.new.out.items c.put_u16.new.out.items c.put_type.new.out.items
    (string.spell c.args.self.now.name) (int32.spell c.args.self.now.table) (int16.spell c.args.self.now.attribute) (column_type.spell (type_of c.args.self.now))
    (rw c.as_slice.ensures at c.in_ok-put_string.ensures) c.in_ok-put_u32.ensures c.in_ok-put_u16.ensures e)
    c.put_type.ensures
