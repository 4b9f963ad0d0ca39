use Rattle.std.proofs.Common.{refl}
use Rattle.core_events.specs.declared.event.Event.TheVariants as events
use Rattle.sync_core.proofs.Moves.{streams_on, situated}
use Rattle.sync_core.proofs.stepping.Core.frame_bytes.Goals as goal

pub returns-clause-takes : goal.returns-clause-takes
returns-clause-takes c = streams_on c.kept_stays.ensures (events.FrameBytes c.args.bytes.now) c.args.self.now c.bring.new.self c.receive_frames.new.self c.in_ok-brought.brought c.bring.result (λ o s r is. is) (λ o s h. c.in_ok-brought.ensures.receives o.tables s.stream h.stream) c.bring.ensures.takes (λ s. refl) c.bring.ensures.stream c.bring.ensures.dialogues c.bring.ensures.tables

pub returns-clause-situated : goal.returns-clause-situated
returns-clause-situated c = situated (events.FrameBytes c.args.bytes.now) c.args.self.now c.bring.new.self c.bring.result (returns-clause-takes c) c.requires
