use Rattle.std.proofs.Common.{ℕ, List, ◌++◌, ap, ap₂, sym, ◌∙◌, subst, length, map, arith, length-append}
use Rattle.std.proofs.lemmas.List.{map-append, length-map}
use Rattle.chunk_cutter.specs.Cut.{HasCut}
use Rattle.chunked_log.specs.declared.written.Line.{Line}
use Rattle.chunked_log.specs.Lines.{offsets_in, sizes_in, texts_in}
use Rattle.std.specs.List.{sum}
use Rattle.std.specs.Str.{IsUtf8}
use Rattle.shape_base.specs.declared.offset.Offset.{Offset}
use Rattle.chunked_log.specs.Settled.{AreSettled}
use Rattle.chunked_log.proofs.Settling.{all_joined, all_stay}
use Rattle.chunked_log.specs.Chunked.{Chunked, Texts, AreUtf8}
use Rattle.chunked_log.proofs.Appending.{count_texts, sum_texts, sizes_texts}
use Rattle.chunked_log.proofs.log.ChunkedLog.append.Goals as goal

pub append_lines-requires-clause-spare : goal.append_lines-requires-clause-spare
append_lines-requires-clause-spare c =
    let w = c.written.inside in
    omega (arith, c.requires.room.spare, count_texts w.lines.items w.buffer.items, ap (λ (x : Texts). length x.texts) c.written.view_is, ap (λ (x : Chunked). x.spare) c.self.view_is, ap length c.deref.ensures.value)

pub append_lines-requires-clause-counted : goal.append_lines-requires-clause-counted
append_lines-requires-clause-counted c =
    let w = c.written.inside in
    omega (arith, c.requires.room.spare, count_texts w.lines.items w.buffer.items, ap (λ (x : Texts). length x.texts) c.written.view_is, ap (λ (x : Chunked). x.spare) c.self.view_is, ap length c.deref.ensures.value)

pub append_lines-requires-clause-room : goal.append_lines-requires-clause-room
append_lines-requires-clause-room c =
    let w = c.written.inside in
    omega (arith, c.requires.room.room, count_texts w.lines.items w.buffer.items, sum_texts w.lines.items w.buffer.items c.written.invariant.sizes, ap (λ (x : Texts). length x.texts) c.written.view_is, ap (λ (x : Texts). sum (map length x.texts)) c.written.view_is, ap (λ (x : Chunked). x.room) c.self.view_is, ap length c.deref.ensures.value, ap length c.deref-2.ensures.value)

pub invariant_of-self : goal.invariant_of-self
invariant_of-self c =
    let w = c.written.inside in
    let lines = c.deref.ensures.value in
    let bytes = c.deref-2.ensures.value in
    let added = ap₂ texts_in lines bytes in
    let sizes = sizes_texts w.lines.items w.buffer.items c.written.invariant.sizes in
    record {
      cut = subst (λ (ns : List ℕ). HasCut c.append_lines.new.cutter ns)
          (ap (λ (ns : List ℕ). map length c.self.inside.log.texts ++ ns) (ap sizes_in lines ∙ sym sizes) ∙ sym (map-append length c.self.inside.log.texts (texts_in w.lines.items w.buffer.items))
          ∙ ap (map length) (sym (c.append_lines.ensures.texts ∙ ap (λ (ts : List (List ℕ)). c.self.inside.log.texts ++ ts) added)))
          (c.append_lines.ensures.cut (map length c.self.inside.log.texts) c.self.invariant.cut);
      same = omega (
        arith,
        ap length c.append_lines.ensures.offsets,
        ap length c.append_lines.ensures.texts,
        ap length (ap offsets_in lines),
        ap length added,
        length-append c.self.inside.log.offsets (offsets_in c.deref.result.now),
        length-append c.self.inside.log.texts (texts_in c.deref.result.now c.deref-2.result.now),
        length-map w.lines.items (λ (l : Line). l.offset),
        count_texts w.lines.items w.buffer.items,
        c.self.invariant.same,
      );
      texts = subst AreUtf8 (sym (c.append_lines.ensures.texts ∙ ap (λ (ts : List (List ℕ)). c.self.inside.log.texts ++ ts) added))
          (all_joined IsUtf8 c.self.inside.log.texts (texts_in w.lines.items w.buffer.items) c.self.invariant.texts c.written.invariant.texts);
      settled = subst (λ (os : List Offset). AreSettled os c.append_lines.new.log.texts c.append_lines.new.cutter.least c.self.inside.settled) (sym c.append_lines.ensures.offsets)
          (subst (λ (ts : List (List ℕ)). AreSettled (c.self.inside.log.offsets ++ offsets_in c.deref.result.now) ts c.append_lines.new.cutter.least c.self.inside.settled) (sym c.append_lines.ensures.texts)
          (subst (λ (n : ℕ). AreSettled (c.self.inside.log.offsets ++ offsets_in c.deref.result.now) (c.self.inside.log.texts ++ texts_in c.deref.result.now c.deref-2.result.now) n c.self.inside.settled) (sym c.append_lines.ensures.least)
          (all_stay c.self.inside.log.offsets (offsets_in c.deref.result.now) c.self.inside.log.texts (texts_in c.deref.result.now c.deref-2.result.now) c.self.inside.cutter.least c.self.inside.settled c.self.invariant.same c.self.invariant.settled)));
    }
