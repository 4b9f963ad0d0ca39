use Rattle.std.proofs.Common.{◌<◌, arith}
use Rattle.std.proofs.lemmas.Option.{slice_get_read}
use Rattle.core_law.specs.Clients.{waits_at}
use Rattle.core_clients.proofs.Standings.{stands_at, stands_changed, stands_past, waiting_stands}
use Rattle.core_clients.proofs.clients.Clients.wait.Goals as goal

pub returns-then-place-len : goal.returns-then-place-len
returns-then-place-len c customers h =
    let v = c.args.self.now.followers in
    let below : c.args.client < v.len = omega arith in
    let is = slice_get_read v.items v.len c.args.client c.index_mut.result.now v.ok.0 below c.index_mut.ensures.value in
    stands_changed (waits_at c.args.exchange) _ v.items customers c.args.client h (λ x at. waiting_stands c.args.exchange c.index_mut.result.now x (stands_at v.items customers c.args.client c.index_mut.result.now x h is at))

pub returns-else-place-len : goal.returns-else-place-len
returns-else-place-len c customers h =
    let v = c.args.self.now.followers in
    let whole = v.ok.0 in
    stands_past (waits_at c.args.exchange) v.items customers c.args.client h (omega arith)
