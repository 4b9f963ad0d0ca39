use Rattle.std.proofs.Common.{◌≡◌, refl, sym, subst, true}
use Rattle.std.specs.Prelude.{is_some}
use Rattle.shape_base.specs.RegistryHistory.{RegistryState}
use Rattle.shape_base.specs.declared.cause.Cause.TheVariants as causes
use Rattle.shape_registry.specs.declared.standing.Standing.TheVariants as standings
use Rattle.shape_registry.specs.State.{live_at, standing_in}
use Rattle.core_server.proofs.Starting.{on_ok, on_err, may_ready, starting_lives, snapshot_started, snapshot_lost}
use Rattle.core_server.proofs.server.Server.snapshot.Goals as goal

pub ready_kept-requires : goal.ready_kept-requires
ready_kept-requires c = let r = c.requires.situated in may_ready r.options r.situation c.args.self.now c.args.number c.args.snap r.stands c.requires.starting c.requires.reads c.requires.least

pub settle-requires : goal.settle-requires
settle-requires c = subst (λ (st : RegistryState). standing_in st c.args.number ≡ standings.Starting) (sym c.in-Ok.ensures.state) c.requires.starting

pub lose-requires : goal.lose-requires
lose-requires c = subst (λ (st : RegistryState). is_some (live_at st c.args.number) ≡ true) (sym c.in-Err.ensures.state) (starting_lives c.args.self.now.registry.state c.args.number c.requires.starting)

pub returns-in-Ok-clause-started : goal.returns-in-Ok-clause-started
returns-in-Ok-clause-started c = λ o v x head rows h at u. on_ok c.settle.result (λ settled. snapshot_started o v c.args.self.now (record c.args.self.now { registry = c.ready_kept.new.registry }) _ c.args.number x c.args.snap head rows _ _ h c.requires.starting c.requires.reads at u
    (record { run = refl; limits = refl; tables = refl; total = refl; state = c.in-Ok.ensures.state; others = c.in-Ok.ensures.others }) c.in-Ok.ensures.readied settled) c.settle.ensures.settled

pub returns-in-Ok-clause-lost : goal.returns-in-Ok-clause-lost
returns-in-Ok-clause-lost c = λ o v h. on_err c.settle.result (λ lost. snapshot_lost o v c.args.self.now (record c.args.self.now { registry = c.ready_kept.new.registry }) _ c.args.number c.args.snap causes.NoMemory h c.requires.starting c.requires.reads
    (record { run = refl; limits = refl; tables = refl; total = refl; state = c.in-Ok.ensures.state; others = c.in-Ok.ensures.others }) lost) c.settle.ensures.lost

pub returns-in-Err-clause-lost : goal.returns-in-Err-clause-lost
returns-in-Err-clause-lost c = λ o v h. snapshot_lost o v c.args.self.now (record c.args.self.now { registry = c.ready_kept.new.registry }) _ c.args.number c.args.snap causes.NoMemory h c.requires.starting c.requires.reads
    (record { run = refl; limits = refl; tables = refl; total = refl; state = c.in-Err.ensures.state; others = c.in-Err.ensures.others }) c.lose.ensures
