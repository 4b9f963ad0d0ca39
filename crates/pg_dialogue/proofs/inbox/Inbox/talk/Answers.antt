use Rattle.std.proofs.Common.{arith}
use Rattle.std.proofs.lemmas.Result.{err_from_is_err_and}
use Rattle.pg_dialogue.specs.Exchanges.{exchange_of}
use Rattle.pg_dialogue.proofs.Filling.{takes_then}
use Rattle.pg_dialogue.proofs.Steps.{next_of, none_of}
use Rattle.pg_dialogue.proofs.Talking.{talk_step, talk_stops, talk_wrote, talk_all}
use Rattle.pg_dialogue.proofs.inbox.Inbox.talk.Goals as goal

pub returns-in_err-exchange-clause-read : goal.returns-in_err-exchange-clause-read
returns-in_err-exchange-clause-read g c t =
    let p = err_from_is_err_and c.from_residual.result c.from_residual.ensures.1 in
    rw (p.1, p.2) (talk_stops _ _ _ c.exchanges.told _ _ _ _ _ c.in_err-exchange.field-0.0 (next_of exchange_of c.args.exchanges.now c.exchanges.exchange-index _ (omega arith)) (c.exchanges.invariant.leads t) (c.in_err-exchange.ensures.read t))

pub returns-in_err-exchange-clause-wrote : goal.returns-in_err-exchange-clause-wrote
returns-in_err-exchange-clause-wrote g c t =
    let p = err_from_is_err_and c.from_residual.result c.from_residual.ensures.1 in
    rw (p.1, p.2) (talk_wrote _ _ _ c.exchanges.told _ _ _ _ _ _ c.in_err-exchange.field-0.0 (next_of exchange_of c.args.exchanges.now c.exchanges.exchange-index _ (omega arith)) (c.exchanges.invariant.leads t) (c.in_err-exchange.ensures.read t) (c.in_err-exchange.ensures.wrote t))

pub exchanges-preserved : goal.exchanges-preserved
exchanges-preserved g c = record {
  took = λ t. takes_then (c.exchanges.invariant.took t) (c.exchange.ensures.took t);
  leads = λ t. talk_step _ _ _ c.exchanges.told c.exchange.new.told _ _ _ _ _ _ _ _ (next_of exchange_of c.args.exchanges.now c.exchanges.exchange-index _ (omega arith)) (c.exchanges.invariant.leads t) (c.in_ok-exchange.ensures.read t) (c.in_ok-exchange.ensures.wrote t);
  later = omega (arith, c.exchanges.invariant.later, c.exchange.ensures.later);
  writes = omega (arith, c.exchanges.invariant.writes, c.exchange.ensures.later);
}

pub returns-clause-read : goal.returns-clause-read
returns-clause-read g c t = (talk_all _ c.exchanges.told _ _ _ _ _ (none_of exchange_of c.args.exchanges.now c.exchanges.exchange-index (omega arith)) (c.exchanges.invariant.leads t)).0

pub returns-clause-wrote : goal.returns-clause-wrote
returns-clause-wrote g c t = (talk_all _ c.exchanges.told _ _ _ _ _ (none_of exchange_of c.args.exchanges.now c.exchanges.exchange-index (omega arith)) (c.exchanges.invariant.leads t)).1
