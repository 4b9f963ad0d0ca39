use Rattle.std.proofs.Common.{◌≡◌, ◌+◌, ◌≤◌, ◌-◌, ◌∷◌, ◌++◌, [], ℕ, List, length, refl, sym, ap, subst, ◌∙◌, arith, length-append}
use Rattle.std.proofs.lemmas.List.{length-take-le, length-drop}
use Rattle.shape_log.specs.declared.rope.Part.{Part}
use Rattle.shape_log.specs.Roped.{Roped, flat, ArePlaced}
use Rattle.shape_log.proofs.Parts.{placed_length, placed_more, frozen}
use Rattle.shape_log.proofs.rope.Rope.freeze.Goals as goal

pub freeze_to-requires : goal.freeze_to-requires
freeze_to-requires c =
    let r = c.self.inside in
    omega (arith, c.requires, ap (λ (x : Roped). length x.bytes) c.self.view_is, length-append (flat r.parts.items) r.last.items, placed_length 0 r.parts.items r.start c.self.invariant.placed)

pub invariant_of-self-2 : goal.invariant_of-self-2
invariant_of-self-2 c =
    let r = c.self.inside in
    let part : Part = record { start = r.start; bytes = c.in_ok-bytes.bytes } in
    let items : c.push.new.self.items ≡ r.parts.items ++ part ∷ [] = (rw c.unwrap.ensures at c.push.ensures.items) ∙ ap (λ (ps : List Part). ps ++ part ∷ []) c.in_ok-reserve.ensures.items in
    let n = c.args.place - r.start in
    let whole = length-append (flat r.parts.items) r.last.items in
    let placed = placed_length 0 r.parts.items r.start c.self.invariant.placed in
    let within : n ≤ length r.last.items = omega (arith, c.requires, ap (λ (x : Roped). length x.bytes) c.self.view_is, whole, placed) in
    let count : length part.bytes ≡ n = ap length c.in_ok-bytes.ensures.front ∙ length-take-le n r.last.items within in
    let end : r.start + length part.bytes ≡ c.args.place = omega (arith, count, c.if-place-self.false) in
    record {
      placed = subst (λ (ps : List Part). ArePlaced 0 ps c.args.place) (sym items) (subst (λ (m : ℕ). ArePlaced 0 (r.parts.items ++ part ∷ []) m) end (placed_more 0 r.parts.items r.start part c.self.invariant.placed refl));
      spare = omega (arith, c.in_ok-bytes.ensures.rest.1, c.self.invariant.spare);
      small = omega (arith, ap length c.in_ok-bytes.ensures.rest.0, length-drop n r.last.items, within, c.self.invariant.small, c.if-place-self.false);
    }

pub returns : goal.returns
returns c =
    let r = c.self.inside in
    let part : Part = record { start = r.start; bytes = c.in_ok-bytes.bytes } in
    let items : c.push.new.self.items ≡ r.parts.items ++ part ∷ [] = (rw c.unwrap.ensures at c.push.ensures.items) ∙ ap (λ (ps : List Part). ps ++ part ∷ []) c.in_ok-reserve.ensures.items in
    let bytes = ap (λ (ps : List Part). flat ps ++ c.freeze_to.new.self.items) items ∙ frozen r.parts.items part r.last.items c.freeze_to.new.self.items (c.args.place - r.start) c.in_ok-bytes.ensures.front c.in_ok-bytes.ensures.rest.0 in
    record { same = ap (λ (zs : List ℕ). let x : Roped = record { bytes = zs; room = r.room } in x) bytes ∙ c.self.view_is }
