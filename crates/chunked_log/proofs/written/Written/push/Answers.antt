use Rattle.std.proofs.Common.{◌≡◌, List, ◌++◌, ◌∷◌, [], ℕ, ap, ap₂, sym, subst, ◌∙◌, length, arith, length-append}
use Rattle.std.specs.Str.{IsUtf8}
use Rattle.shape_base.specs.declared.entry.Entry.{Entry}
use Rattle.shape_base.specs.OffsetText.{IsOffset}
use Rattle.shape_json.specs.Body.{entry_text}
use Rattle.chunked_log.specs.declared.written.Line.{Line}
use Rattle.chunked_log.specs.Chunked.{Texts, AreUtf8}
use Rattle.chunked_log.specs.Lines.{size_in, texts_in, offsets_in}
use Rattle.chunked_log.proofs.Appending.{size_last, texts_last, writes_more}
use Rattle.chunked_log.proofs.Settling.{all_with}
use Rattle.chunked_log.proofs.Utf8.{utf8_behind}
use Rattle.chunked_log.proofs.written.Written.push.Goals as goal

unfoldable line : goal.After-unwrap → Line
line c = record { offset = c.args.entry.now.offset; size = c.entry_size-size.result }

size_is : (c : goal.After-unwrap) → c.entry_size-size.result ≡ length (entry_text c.args.entry.now)
size_is c = omega (arith, c.entry_size-size.ensures, c.if-size.false)

lines_are : (c : goal.After-unwrap) → c.push.new.self.items ≡ c.self.inside.lines.items ++ line c ∷ []
unfolding line
lines_are c =
    let pushed : c.push.new.self.items ≡ c.reserve-2.new.self.items ++ line c ∷ [] = rw c.unwrap.ensures at c.push.ensures.items in
    pushed ∙ ap (λ (ls : List Line). ls ++ line c ∷ []) c.in_ok-reserve-2.ensures.items

buffer_is : (c : goal.After-unwrap) → c.put_entry.new.out.items ≡ c.self.inside.buffer.items ++ entry_text c.args.entry.now
buffer_is c = c.put_entry.ensures.is ∙ ap (λ (xs : List ℕ). xs ++ entry_text c.args.entry.now) c.in_ok-reserve.ensures.items

utf8_now : (c : goal.After-unwrap) → IsUtf8 c.put_entry.new.out.items
utf8_now c = c.put_entry.ensures.utf8 (subst IsUtf8 (sym c.in_ok-reserve.ensures.items) c.self.invariant.buffer)

pub invariant_of-self-2 : goal.invariant_of-self-2
unfolding line
invariant_of-self-2 c =
    let w = c.self.inside in
    let text = entry_text c.args.entry.now in
    record {
      sizes = omega (arith, ap size_in (lines_are c), size_last w.lines.items (line c), size_is c, c.self.invariant.sizes, ap length (buffer_is c), length-append w.buffer.items text);
      buffer = utf8_now c;
      texts = subst AreUtf8 (sym (ap₂ texts_in (lines_are c) (buffer_is c) ∙ texts_last w.lines.items (line c) w.buffer.items text c.self.invariant.sizes (size_is c)))
          (all_with IsUtf8 (texts_in w.lines.items w.buffer.items) text c.self.invariant.texts (utf8_behind w.buffer.items text c.self.invariant.buffer (subst IsUtf8 (buffer_is c) (utf8_now c))));
    }

pub returns-clause-ok : goal.returns-clause-ok
unfolding line
returns-clause-ok c = λ entries writes.
    let w = c.self.inside in
    let e = c.args.entry.now in
    let both = writes_more w.lines.items w.buffer.items entries e (line c) c.self.invariant.sizes (ap (λ (n : ℕ). let l : Line = record { offset = e.offset; size = n } in l) (size_is c)) (ap (λ (x : Texts). x.offsets) c.self.view_is ∙ writes.offsets) (ap (λ (x : Texts). x.texts) c.self.view_is ∙ writes.texts) in
    record { offsets = ap offsets_in (lines_are c) ∙ both.0; texts = ap₂ texts_in (lines_are c) (buffer_is c) ∙ both.1; short = all_with (λ (x : Entry). IsOffset x.offset) entries e writes.short c.offset_fits.ensures }
