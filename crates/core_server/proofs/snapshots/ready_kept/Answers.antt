use Rattle.std.proofs.Common.{◌∙◌, ap, sym, subst}
use Rattle.std.specs.Prelude.{IsSomeAnd}
use Rattle.std.specs.FinMap as fin
use Rattle.std.proofs.lemmas.Result.{IfOk-weaker}
use Rattle.core_law.proofs.Lists.{some_same}
use Rattle.core_server.specs.Readied.{MayReady, IsReadied}
use Rattle.core_server.proofs.Maps.{inserted_here, inserted_apart}
use Rattle.core_server.proofs.Starting.{on_some}
use Rattle.core_server.proofs.snapshots.ready_kept.Goals as goal

pub ready_shape-requires : goal.ready_shape-requires
ready_shape-requires c = subst (λ a. IsSomeAnd a (MayReady c.args.snap)) (sym c.in-Some.ensures.kept) c.requires

pub returns-clause-others : goal.returns-clause-others
returns-clause-others c = λ other apart. ap (λ m. fin.get m other) (on_some c.kept_mut.result _ c.in-Some.is (c.kept_mut.follows.holds c.ready_shape.new.shape).1) ∙ inserted_apart c.args.registry.now.kept c.args.number c.ready_shape.new.shape other apart

pub returns-clause-readied : goal.returns-clause-readied
returns-clause-readied c = λ k there. IfOk-weaker c.ready_shape.result _ _
    (λ both f. subst (λ a. IsSomeAnd a (IsReadied k c.args.snap both.0 both.1))
    (sym (ap (λ m. fin.get m c.args.number) (on_some c.kept_mut.result _ c.in-Some.is (c.kept_mut.follows.holds c.ready_shape.new.shape).1) ∙ inserted_here c.args.registry.now.kept c.args.number c.ready_shape.new.shape))
    (subst (λ old. IsReadied old c.args.snap both.0 both.1 c.ready_shape.new.shape) (some_same c.in-Some.shape.now k (c.in-Some.ensures.kept ∙ there)) f)) c.ready_shape.ensures
