use Rattle.std.proofs.Common.{◌≡◌, ◌≤◌, ℕ, ◌++◌, ◌∷◌, [], true, sym, ap, subst, ◌∙◌, List, length, arith, length-append}
use Rattle.shape_base.specs.declared.offset.Offset.{Offset}
use Rattle.shape_base.specs.declared.offset.Offset.TheVariants.{At}
use Rattle.shape_base.specs.Offsets.{is_before}
use Rattle.shape_log.specs.Texts.{TextLogged, rise_after, end_of}
use Rattle.shape_log.proofs.Appending.{IsAppended, appended}
use Rattle.shape_log.proofs.Rising.{rise_more}
use Rattle.shape_log.proofs.Bounds.{room_left}
use Rattle.shape_log.proofs.text_log.TextLog.append.Goals as goal

all : (c : goal.After-unwrap-2) → IsAppended c.self.inside.ends.items c.self.inside.rope.bytes c.push-2.new.self.items c.put-2.new.self.bytes c.args.text.now
all c =
    let ends : c.push-2.new.self.items ≡ c.self.inside.ends.items ++ c.len-end.result ∷ [] = rw c.unwrap-2.ensures at c.push-2.ensures.items in
    appended c.self.inside.ends.items c.self.inside.rope.bytes c.push-2.new.self.items c.put-2.new.self.bytes c.args.text.now c.self.invariant.ends c.self.invariant.bytes
    (c.put-2.ensures.bytes ∙ ap (λ (zs : List ℕ). zs ++ 44 ∷ []) c.put.ensures.bytes)
    (ends ∙ ap (λ (n : ℕ). c.self.inside.ends.items ++ n ∷ []) c.len-end.ensures)

pub invariant_of-self : goal.invariant_of-self
invariant_of-self c =
    let offsets : c.push.new.self.items ≡ c.self.inside.offsets.items ++ c.args.offset ∷ [] = rw c.unwrap.ensures at c.push.ensures.items in
    let ends : c.push-2.new.self.items ≡ c.self.inside.ends.items ++ c.len-end.result ∷ [] = rw c.unwrap-2.ensures at c.push-2.ensures.items in
    let is = all c in
    let same = ap (λ (l : TextLogged). l.offsets) (sym c.self.view_is) in
    let spare = subst (λ (n : ℕ). 1 ≤ n) (ap (λ (l : TextLogged). l.spare) (sym c.self.view_is)) c.requires.spare in
    record {
      rises = subst (λ (xs : List Offset). rise_after (At 0 0) xs ≡ true) (sym offsets) (rise_more (At 0 0) c.self.inside.offsets.items c.args.offset c.self.invariant.rises (subst (λ (xs : List Offset). is_before (end_of xs) c.args.offset ≡ true) same c.requires.after));
      ends = is.are_ends;
      bytes = is.are_bytes;
      same = omega (arith, ap length offsets, ap length ends, length-append c.self.inside.offsets.items (c.args.offset ∷ []), length-append c.self.inside.ends.items (c.len-end.result ∷ []), c.self.invariant.same);
      offset_room = room_left _ _ _ _ _ c.self.invariant.offset_room spare (rw c.unwrap.ensures at c.push.ensures.len) c.push.ensures.capacity;
      end_room = room_left _ _ _ _ _ c.self.invariant.end_room spare (rw c.unwrap-2.ensures at c.push-2.ensures.len) c.push-2.ensures.capacity;
    }

pub returns-clause-texts : goal.returns-clause-texts
returns-clause-texts c = (all c).are_texts ∙ ap (λ (ts : List (List ℕ)). ts ++ c.args.text.now ∷ []) (ap (λ (l : TextLogged). l.texts) c.self.view_is)
