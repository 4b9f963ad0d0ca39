use Rattle.std.proofs.Common.{◌∙◌, ap, ap₂, arith}
use Rattle.core_server.specs.Standing.{knows_in, reader_in}
use Rattle.core_server.specs.Effects.{new_definition}
use Rattle.core_server.proofs.Effects.{has_taken}
use Rattle.core_server.proofs.effect.take_commit.Goals as goal

pub returns-clause-taken : goal.returns-clause-taken
returns-clause-taken c = λ events m. let k = c.args.shape.now in
    has_taken k c.prepare.new.self c.commit.new.self c.args.tx.now c.args.total c.bytes.result c.saturating_sub-others.result c.bytes-2.result c.in_ok-prepared.prepared
    (record {
      before_is = c.bytes.ensures;
      others_is = c.saturating_sub-others.ensures;
      prepares = (c.in_ok-prepared.ensures).prepared;
      still = λ es h. (c.in_ok-prepared.ensures).still (reader_in k) es h;
      test = (c.in_ok-prepared.ensures).test;
      limits = (c.in_ok-prepared.ensures).limits;
      commits = λ es h later prepared. c.commit.ensures.stands es c.args.tx.now c.saturating_sub-others.result h later prepared;
      test_then = c.commit.ensures.test;
      limits_then = c.commit.ensures.limits;
      bytes_is = c.bytes-2.ensures;
    })
    events m _ (omega arith) c.cause_of-cause.ensures
    (c.in_ok-definition.ensures ∙ ap₂ (λ d cause. new_definition d c.args.tx.now cause) (c.definition.ensures ∙ ap (λ t. (knows_in t).definition) (c.test.ensures ∙ (c.in_ok-prepared.ensures).test)) c.cause_of-cause.ensures)
    c.tells-tells.ensures c.saturating_add.ensures
