use Rattle.std.proofs.Common.{◌≡◌, ◌||◌, ◌<◌, List, ℕ, subst}
use Rattle.std.proofs.lemmas.Result.{on_ok_weaker}
use Rattle.core_exchanges.specs.Indexing.{is_among}
use Rattle.core_machine.proofs.Committing.{taken_up}
use Rattle.core_machine.proofs.commits.take_one.Goals as goal

pub returns-clause-taken : goal.returns-clause-taken
returns-clause-taken c =
    let before = c.args.told.now.keys in
    let told = c.add_numbers.new.told.keys in
    on_ok_weaker c.add_numbers.result
    (λ more o v h. taken_up o v c.args.tx.now c.commit.new.self before told c.in_ok-numbers.numbers (subst (λ n. n < c.args.tx.now.lsn) (c.last_lsn.ensures.by_situation o v h) c.if-tx-last_lsn.false)
    ((c.in_ok-numbers.ensures).stands o v h) ((c.in_ok-numbers.ensures).told o v h)
    (subst (λ (ns : List ℕ). (n : ℕ) → is_among n told ≡ (is_among n before || is_among n ns)) c.as_slice.ensures more))
    c.add_numbers.ensures
