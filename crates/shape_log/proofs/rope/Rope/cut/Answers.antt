use Rattle.std.proofs.Common.{◌∙◌, ◌≡◌, ◌++◌, List, ℕ, Option, sym, ap, ap₂, subst, length, arith, length-append}
use Rattle.std.specs.Prelude.{slice_range, IfSome}
use Rattle.shape_log.specs.declared.rope.Part.{Part}
use Rattle.shape_log.specs.Roped.{Roped, flat, ArePlaced}
use Rattle.shape_log.proofs.Parts.{placed_length, in_last}
use Rattle.shape_log.proofs.rope.Rope.cut.Goals as goal

pub copied-requires-clause-within : goal.copied-requires-clause-within
copied-requires-clause-within c =
    let r = c.self.inside in
    omega (arith, c.requires.within, ap (λ (x : Roped). length x.bytes) c.self.view_is, length-append (flat r.parts.items) r.last.items, placed_length 0 r.parts.items r.start c.self.invariant.placed, ap length c.as_slice-last.ensures)

pub returns-then-from-self : goal.returns-then-from-self
returns-then-from-self c =
    let r = c.self.inside in
    c.in_ok-bytes.ensures
    ∙ in_last (flat r.parts.items) c.as_slice-last.result.now c.args.self.now.bytes r.start c.args.from c.args.to
    (ap (λ (zs : List ℕ). flat r.parts.items ++ zs) c.as_slice-last.ensures ∙ ap (λ (x : Roped). x.bytes) c.self.view_is)
    (omega (arith, placed_length 0 r.parts.items r.start c.self.invariant.placed)) (omega (arith, c.if-from-self.true)) c.requires.order

pub returns-in-Some : goal.returns-in-Some
returns-in-Some c =
    let r = c.self.inside in
    let found = subst (λ (o : Option (List ℕ)). IfSome o (λ b. (end : ℕ) (rest : List ℕ) → ArePlaced 0 c.as_slice-parts.result.now end → b ≡ slice_range (flat c.as_slice-parts.result.now ++ rest) c.args.from c.args.to)) c.in-Some.is c.in_ok-bytes-2.ensures in
    found r.start r.last.items (subst (λ (ps : List Part). ArePlaced 0 ps r.start) (sym c.as_slice-parts.ensures.value) c.self.invariant.placed)
    ∙ ap (λ (ps : List Part). slice_range (flat ps ++ r.last.items) c.args.from c.args.to) c.as_slice-parts.ensures.value
    ∙ ap (λ (x : Roped). slice_range x.bytes c.args.from c.args.to) c.self.view_is

pub returns : goal.returns
returns c =
    let r = c.self.inside in
    c.in_ok-bytes-3.ensures
    ∙ ap₂ (λ (ps : List Part) (zs : List ℕ). slice_range (flat ps ++ zs) c.args.from c.args.to) c.as_slice-parts.ensures.value c.as_slice-last.ensures
    ∙ ap (λ (x : Roped). slice_range x.bytes c.args.from c.args.to) c.self.view_is
