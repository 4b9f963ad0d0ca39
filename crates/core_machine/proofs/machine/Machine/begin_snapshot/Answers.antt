use Rattle.std.proofs.Common.{◌≡◌, ◌∙◌, List, ℕ, sym, ap, Option, inl, inr}
use Rattle.core_law.specs.Steps.{id_before}
use Rattle.core_machine.specs.Snapshots.{last_at}
use Rattle.core_machine.proofs.Lasts.{last_there}
use Rattle.core_machine.proofs.Removing.{under_way_is}
use Rattle.core_machine.proofs.Snapping.{standing_is, shape_there}
use Rattle.core_machine.proofs.machine.Machine.begin_snapshot.Goals as goal

pub begin_snapshot-requires : goal.begin_snapshot-requires
begin_snapshot-requires c =
    let w = c.requires in
    let n = c.in-Some.number in
    under_way_is w.situation c.args.exchange n (c.in-Some.ensures w.options w.situation w.stands) (λ owned starting.
    standing_is w.options w.situation.server c.args.self.now.server n w.stands.server starting)

pub returns-in-Ok-clause-begun : goal.returns-in-Ok-clause-begun
returns-in-Ok-clause-begun c o s h =
    let m = c.args.self.now in
    let n = c.in-Some.number in
    under_way_is s c.args.exchange n (c.in-Some.ensures o s h) (λ owned starting. shape_there o s.server m.server n h.server starting (λ x at.
    let last : id_before s.server.commits x.before ≡ c.last_at-last.result = sym (c.last_at-last.ensures ∙ ap (λ (ls : List (Option ℕ)). last_at ls n) c.as_slice.ensures.value ∙ last_there s.server m.lasts.items n x h.lasts at) in
    record { number = n; shape = x; owns = owned; at = at; under_way = (c.in-Ok.ensures).begun o s.server x h.server at last }))

pub returns-in-Err-clause-refused : goal.returns-in-Err-clause-refused
returns-in-Err-clause-refused c o s h =
    let m = c.args.self.now in
    let n = c.in-Some.number in
    under_way_is s c.args.exchange n (c.in-Some.ensures o s h) (λ owned starting. shape_there o s.server m.server n h.server starting (λ x at.
    let last : id_before s.server.commits x.before ≡ c.last_at-last.result = sym (c.last_at-last.ensures ∙ ap (λ (ls : List (Option ℕ)). last_at ls n) c.as_slice.ensures.value ∙ last_there s.server m.lasts.items n x h.lasts at) in
    elim ((c.in-Err.ensures).refused o s.server x h.server at last) [
      | inl memory ↦ inl memory
      | inr is ↦ inr (record { number = n; shape = x; owns = owned; at = at; refused = is })
    ]))
