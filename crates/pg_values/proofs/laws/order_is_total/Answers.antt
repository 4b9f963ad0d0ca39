use Rattle.pg_values.proofs.Orders.{total, equal}
use Rattle.pg_values.proofs.laws.order_is_total.Goals as goal

pub returns : goal.returns
returns c = λ kind. (total kind, equal kind)
