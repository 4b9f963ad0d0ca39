use Rattle.std.proofs.Common.{subst, Ok}
use Rattle.fold_client.specs.declared.client.Taken.{Taken}
use Rattle.fold_client.specs.Client.{take_reply}
use Rattle.fold_client.specs.Taking.{held_by, Meets}
use Rattle.core_clients.proofs.Takings.{up_to_date_took}
use Rattle.core_clients.proofs.follower.Follower.receive.Goals as goal

pub returns-in-Ok-UpToDate-clause-took : goal.returns-in-Ok-UpToDate-clause-took
returns-in-Ok-UpToDate-clause-took c =
    let before = held_by c.args.self.now.client in
    let now = held_by c.take.new.self in
    up_to_date_took c.args.number before now c.args.reply.now c.in_ok-up_to_date-in-Ok-UpToDate.field-0
    (λ body says. subst (λ (t : Taken). Meets (take_reply before c.args.reply.now body) before (Ok t) now) c.in-Ok-UpToDate.field-0-is (c.in-Ok-UpToDate.ensures.meets body says))
    c.in_ok-up_to_date-in-Ok-UpToDate.ensures
