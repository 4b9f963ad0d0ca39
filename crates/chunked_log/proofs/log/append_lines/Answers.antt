use Rattle.std.proofs.Common.{◌+◌, ℕ, List, ◌++◌, ◌∷◌, [], take, drop, get_or, ap, sym, subst, ◌∙◌, append_assoc, arith}
use Rattle.std.proofs.lemmas.List.{drop_more}
use Rattle.shape_base.specs.declared.offset.Offset.TheVariants.{Start}
use Rattle.chunk_cutter.specs.Cut.{HasCut}
use Rattle.chunked_log.specs.declared.written.Line.{Line}
use Rattle.chunked_log.specs.Lines.{offsets_in, sizes_in, texts_in}
use Rattle.chunked_log.proofs.Appending.{IsLeft, left_more, size_within, sizes_more}
use Rattle.chunked_log.proofs.log.append_lines.Goals as goal

unfoldable none : Line
none = record { offset = Start; size = 0 }

pub loop-line-preserved : goal.loop-line-preserved
unfolding none
loop-line-preserved c =
    let lines = c.args.lines.now in
    let i = c.loop-line.line-index in
    let line = get_or lines i none in
    let left = subst (λ (ls : List Line). IsLeft c.loop-line.log.offsets (c.args.log.now.offsets ++ offsets_in lines) c.loop-line.log.texts (c.args.log.now.texts ++ texts_in lines c.args.texts.now) ls c.loop-line.rest.now c.loop-line.log.spare c.loop-line.cutter.spare c.loop-line.log.room)
    (drop_more lines i none c.loop-line-test.true) c.loop-line.invariant.left in
    record {
      left = left_more c.loop-line.log.offsets (c.args.log.now.offsets ++ offsets_in lines) c.append.new.self.offsets c.loop-line.log.texts (c.args.log.now.texts ++ texts_in lines c.args.texts.now) c.append.new.self.texts
          line (drop (i + 1) lines) c.loop-line.rest.now c.split_at.result.0.now c.split_at.result.1.now c.loop-line.log.spare c.loop-line.cutter.spare c.loop-line.log.room c.append.new.self.spare c.push.new.self.spare c.append.new.self.room
          left c.split_at.ensures.front c.split_at.ensures.back (omega (arith, c.split_at.ensures.front_len, c.split_at.ensures.back_len, size_within c.loop-line.log.offsets (c.args.log.now.offsets ++ offsets_in lines) c.loop-line.log.texts (c.args.log.now.texts ++ texts_in lines c.args.texts.now) line (drop (i + 1) lines) c.loop-line.rest.now c.loop-line.log.spare c.loop-line.cutter.spare c.loop-line.log.room left)) c.append.ensures.offsets c.append.ensures.texts c.append.ensures.spare c.push.ensures.spare c.append.ensures.room;
      cut = λ sizes h. subst (λ (ns : List ℕ). HasCut c.push.new.self ns) (append_assoc sizes (sizes_in (take i lines)) (line.size ∷ []) ∙ ap (λ (ns : List ℕ). sizes ++ ns) (sym (sizes_more lines i none c.loop-line-test.true)))
          (c.push.ensures.pushed (sizes ++ sizes_in (take i lines)) (c.loop-line.invariant.cut sizes h));
      least = c.push.ensures.least ∙ c.loop-line.invariant.least;
    }
