use Rattle.std.proofs.Common.{refl, sym, subst}
use Rattle.core_events.specs.declared.event.Event.TheVariants as events
use Rattle.core_events.specs.declared.out.Unfit.TheVariants as unfit
use Rattle.core_law.specs.Run.{RequestCame, HeadCut}
use Rattle.core_exchanges.specs.Standing.{asked_of}
use Rattle.sync_core.specs.Reading.{Brings, Misfits, ReadsHead}
use Rattle.sync_core.specs.Coming.{reading_of}
use Rattle.sync_core.specs.Core.{Takes}
use Rattle.sync_core.proofs.Moves.{lifts, misfits, situated}
use Rattle.sync_core.proofs.stepping.Core.request_head.Goals as goal

pub returns-in-Request-clause-takes : goal.returns-in-Request-clause-takes
returns-in-Request-clause-takes c =
    let bytes = c.args.bytes.now in
    let is = RequestCame c.in-Request.target (asked_of c.in-Request.asked) c.in-Request.close in
    let reads = subst (λ coming. ReadsHead c.args.self.now.tables bytes (reading_of coming)) c.in-Request.is c.in_ok-target.ensures.reads in
    lifts c.kept_stays.ensures (events.RequestHead bytes) is c.args.self.now (record { alloc = c.args.self.now.alloc; machine = c.request.new.self; stream = c.args.self.now.stream; dialogues = c.args.self.now.dialogues; tables = c.args.self.now.tables }) c.request.result c.request.ensures.takes (λ o s h. subst (λ tables. ReadsHead tables bytes (Brings is)) h.tables reads) (λ o s. refl) (λ s. refl) refl refl refl

pub returns-in-Request-clause-situated : goal.returns-in-Request-clause-situated
returns-in-Request-clause-situated c = situated (events.RequestHead c.args.bytes.now) c.args.self.now (record { alloc = c.args.self.now.alloc; machine = c.request.new.self; stream = c.args.self.now.stream; dialogues = c.args.self.now.dialogues; tables = c.args.self.now.tables }) c.request.result (returns-in-Request-clause-takes c) c.requires

pub returns-in-Cut-clause-takes : goal.returns-in-Cut-clause-takes
returns-in-Cut-clause-takes c =
    let bytes = c.args.bytes.now in
    let reads = subst (λ coming. ReadsHead c.args.self.now.tables bytes (reading_of coming)) c.in-Cut.is c.in_ok-target.ensures.reads in
    lifts c.kept_stays.ensures (events.RequestHead bytes) HeadCut c.args.self.now (record { alloc = c.args.self.now.alloc; machine = c.cut.new.self; stream = c.args.self.now.stream; dialogues = c.args.self.now.dialogues; tables = c.args.self.now.tables }) c.cut.result c.cut.ensures.takes (λ o s h. subst (λ tables. ReadsHead tables bytes (Brings HeadCut)) h.tables reads) (λ o s. refl) (λ s. refl) refl refl refl

pub returns-in-Cut-clause-situated : goal.returns-in-Cut-clause-situated
returns-in-Cut-clause-situated c = situated (events.RequestHead c.args.bytes.now) c.args.self.now (record { alloc = c.args.self.now.alloc; machine = c.cut.new.self; stream = c.args.self.now.stream; dialogues = c.args.self.now.dialogues; tables = c.args.self.now.tables }) c.cut.result (returns-in-Cut-clause-takes c) c.requires

pub returns-in-More-clause-takes : goal.returns-in-More-clause-takes
returns-in-More-clause-takes c =
    let bytes = c.args.bytes.now in
    let reads = subst (λ coming. ReadsHead c.args.self.now.tables bytes (reading_of coming)) c.in-More.is c.in_ok-target.ensures.reads in
    subst (Takes c.args.self.now c.args.self.now (events.RequestHead bytes)) (sym c.unfit.ensures)
    (misfits (events.RequestHead bytes) unfit.BadPayload c.args.self.now c.args.self.now (λ o s h. subst (λ tables. ReadsHead tables bytes (Misfits unfit.BadPayload)) h.tables reads))
