use Rattle.pg_values.specs.declared.kind.Kind.TheVariants.{Boolean}
use Rattle.where_eval.specs.Truth.{value_of}
use Rattle.where_eval.proofs.Truths.{not_unknown_is}
use Rattle.where_eval.proofs.laws.not_of_unknown_is_unknown.Goals as goal

pub returns : goal.returns
returns c = λ columns row t h. not_unknown_is (value_of columns row Boolean t) h
