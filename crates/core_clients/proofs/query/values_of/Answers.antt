use Rattle.std.proofs.Common.{map, ap, sym, refl}
use Rattle.form_urlencoded.specs.Parse.{raw_pairs_left}
use Rattle.http_edge.specs.Parameters.{decoded}
use Rattle.core_clients.proofs.QueryLaws.{nothing_read, next_read, none_next, all_read}
use Rattle.core_clients.proofs.query.values_of.Goals as goal

pub pairs-init : goal.pairs-init
pairs-init c = nothing_read c.args.form.now (raw_pairs_left c.raw_pairs-pairs.result) _ (ap (map decoded) (sym c.raw_pairs-pairs.ensures.value)) refl

pub pairs-preserved : goal.pairs-preserved
pairs-preserved c = next_read c.args.form.now (raw_pairs_left c.pairs.pairs) (raw_pairs_left c.next.new.self) (c.in-Some.name.now, c.in-Some.value.now) c.pairs.values _ c.pairs.invariant c.in-Some.ensures.steps (c.in-Ok.ensures.added c.pairs.invariant.front c.pairs.invariant.read)

pub returns-in-Err-clause-refused : goal.returns-in-Err-clause-refused
returns-in-Err-clause-refused c = none_next c.args.form.now (raw_pairs_left c.pairs.pairs) (raw_pairs_left c.next.new.self) (c.in-Some.name.now, c.in-Some.value.now) c.pairs.values c.in-Err.error c.pairs.invariant c.in-Some.ensures.steps c.in-Err.ensures.refused

pub returns-clause-read : goal.returns-clause-read
returns-clause-read c = all_read c.args.form.now (raw_pairs_left c.pairs.pairs) c.pairs.values c.pairs.invariant c.in_default.ensures.steps.0
