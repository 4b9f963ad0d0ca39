use Rattle.std.proofs.Common.{◌≡◌, true, List, [], ◌∷◌, ◌++◌, length, sym, ap, subst, ◌∙◌, append_assoc, arith}
use Rattle.std.proofs.lemmas.Bool.{and_parts}
use Rattle.shape_base.specs.declared.entry.Entry.{Entry}
use Rattle.shape_base.specs.declared.offset.Offset.{Offset}
use Rattle.shape_base.specs.declared.offset.Offset.TheVariants.{At}
use Rattle.shape_base.specs.Offsets.{is_before, rises_after}
use Rattle.shape_base.specs.Log.{end_of}
use Rattle.shape_entries.proofs.Joins.{last_more}
use Rattle.shape_entries.proofs.joining.join.Goals as goal

pub loop-entry-preserved : goal.loop-entry-preserved
loop-entry-preserved c =
    let log = c.loop-entry.log.entries in
    let e = c.in-Some.entry in
    let rest = c.next.new.self.rest.items in
    let steps = c.in-Some.ensures.steps.0 in
    let rises : rises_after (end_of log) (e ∷ rest) ≡ true = subst (λ (es : List Entry). rises_after (end_of log) es ≡ true) steps c.loop-entry.invariant.rises in
    record {
      joined = ap (λ (es : List Entry). es ++ rest) c.append.ensures.entries ∙ append_assoc log (e ∷ []) rest ∙ ap (λ (es : List Entry). log ++ es) (sym steps) ∙ c.loop-entry.invariant.joined;
      rises = subst (λ (o : Offset). rises_after o rest ≡ true) (sym (ap end_of c.append.ensures.entries ∙ last_more (At 0 0) log e)) (and_parts (is_before (end_of log) e.offset) _ rises).1;
      room = omega (arith, ap (length {A = Entry}) steps, c.loop-entry.invariant.room, c.append.ensures.spare);
      bytes = omega (arith, c.append.ensures.bytes, c.loop-entry.invariant.bytes);
    }
