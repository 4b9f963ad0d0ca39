use Rattle.std.specs.Prelude.{slice_get}
use Rattle.std.proofs.Common.{◌≡◌, ◌<◌, Some, arith, sym, subst}
use Rattle.std.proofs.lemmas.Option.{slice_get_read}
use Rattle.core_exchanges.specs.Standing.{Stands}
use Rattle.core_exchanges.specs.Giving.{given_to}
use Rattle.core_exchanges.proofs.Standings.{stands_at, stands_changed, same_length, changed_past}
use Rattle.core_exchanges.proofs.Changes.{given_finds}
use Rattle.core_exchanges.proofs.exchanges.Exchanges.give.Goals as goal

pub returns-then-place-len : goal.returns-then-place-len
returns-then-place-len c xs heard hears h =
    let v = c.args.self.now.items in
    let below : c.args.index < v.len = omega arith in
    let e = c.index_mut.result.now in
    let is : slice_get v.items c.args.index ≡ Some e = slice_get_read v.items v.len c.args.index e v.ok.0 below c.index_mut.ensures.value in
    let read = slice_get_read v.items v.len c.args.index c.index.result.now v.ok.0 below c.index.ensures in
    let finds = given_finds c.args.self.now.indexes c.remove.new.self heard v.items xs c.args.index c.index.result.now c.awaited-number.result h.each (record { unanswered = h.unanswered; awaiting = h.awaiting }) read c.awaited-number.ensures c.remove.ensures in
    record {
      each = stands_changed (given_to heard) _ v.items xs c.args.index h.each (λ x at. c.hear.ensures x heard hears (stands_at v.items xs c.args.index e x h.each is at));
      unanswered = finds.unanswered;
      awaiting = finds.awaiting;
    }

pub returns-else-place-len : goal.returns-else-place-len
returns-else-place-len c xs heard hears h =
    let v = c.args.self.now.items in
    let whole = v.ok.0 in
    let same = same_length v.items xs h.each in
    subst (Stands c.args.self.now) (sym (changed_past (given_to heard) xs c.args.index (omega arith))) h
