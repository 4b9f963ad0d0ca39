use Rattle.std.proofs.Common.{◌∙◌, ◌++◌, ◌∷◌, [], ℕ, List, refl, sym, ap, subst, Some}
use Rattle.std.specs.Prelude.{Ok}
use Rattle.pg_wire.specs.declared.frame.Frame.TheVariants as frames
use Rattle.pg_wire.specs.Cutting.{Took}
use Rattle.sync_core.specs.Streaming.{NoFrame, OneFrame, BadFrames, TakesItem}
use Rattle.sync_core.specs.Stream.{item_of}
use Rattle.pg_wire.specs.Reached.{Reached}
use Rattle.sync_core.proofs.Streams.{come_kept, ended_one, faulty_one, took_none, took_frame, refused_frames, pick_more}
use Rattle.sync_core.proofs.stream.Stream.take_frame.Goals as goal

pub returns-in-Ok-None-clause-takes : goal.returns-in-Ok-None-clause-takes
returns-in-Ok-None-clause-takes c tables s fed taken h t =
    let is = c.in-Ok-None.is ∙ ap Ok c.in-Ok-None.field-0-is in
    NoFrame (come_kept tables s c.args.self.now _ h refl refl refl) (took_none fed taken c.next.result c.next.new.self is (c.next.ensures.took fed taken t)) (c.next.ensures.whole is fed taken t)

pub returns-in_ok-outcome-in-Ok-Some-Wal-clause-takes : goal.returns-in_ok-outcome-in-Ok-Some-Wal-clause-takes
returns-in_ok-outcome-in-Ok-Some-Wal-clause-takes c tables s fed taken h t =
    let k = c.in-Ok-Some-Wal in
    let e = c.in_ok-outcome-in-Ok-Some-Wal in
    let f = frames.Wal k.field-0-0-0 k.field-0-0-1 k.message in
    let is = k.is ∙ ap Ok (k.field-0-is ∙ ap Some k.field-0-0-is) in
    let took = took_frame fed taken c.next.result f c.next.new.self is (c.next.ensures.took fed taken t) in
    let takes = (e.ensures).takes tables s (come_kept tables s c.args.self.now _ h refl refl refl) in
    OneFrame f (subst (λ (x : Reached). Took fed (taken ++ f ∷ []) x) (sym (e.ensures).frames) took)
    (refl, subst (λ (bytes : List ℕ). TakesItem tables s (item_of bytes) e.outcome c.take_message.new.self) (c.as_slice.ensures ∙ k.message-is) takes)

pub returns-in-Ok-Some-Keepalive-clause-takes : goal.returns-in-Ok-Some-Keepalive-clause-takes
returns-in-Ok-Some-Keepalive-clause-takes c tables s fed taken h t =
    let k = c.in-Ok-Some-Keepalive in
    let f = frames.Keepalive k.field-0-0-0 k.field-0-0-1 in
    let is = k.is ∙ ap Ok (k.field-0-is ∙ ap Some k.field-0-0-is) in
    OneFrame f (took_frame fed taken c.next.result f c.next.new.self is (c.next.ensures.took fed taken t)) (come_kept tables s c.args.self.now _ h refl refl refl, refl, refl)

pub returns-in-Ok-Some-Done-clause-takes : goal.returns-in-Ok-Some-Done-clause-takes
returns-in-Ok-Some-Done-clause-takes c tables s fed taken h t =
    let k = c.in-Ok-Some-Done in
    let is = k.is ∙ ap Ok (k.field-0-is ∙ ap Some k.field-0-0-is) in
    OneFrame frames.Done (took_frame fed taken c.next.result frames.Done c.next.new.self is (c.next.ensures.took fed taken t)) (refl, ended_one tables s c.args.self.now _ h c.requires refl refl)

pub returns-in_ok-refusal-in-Err : goal.returns-in_ok-refusal-in-Err
returns-in_ok-refusal-in-Err c = record {
  takes = λ tables s fed taken h t. BadFrames c.in-Err.error (refused_frames fed taken c.in-Err.error (c.in_ok-refusal-in-Err.ensures).refusal (pick_more fed taken c.args.self.now.frames t c.next.result c.in-Err.error c.in-Err.is c.next.ensures.refused)) (faulty_one tables s c.in-Err.error c.in_ok-refusal-in-Err.refusal c.args.self.now _ h c.requires refl refl (c.in_ok-refusal-in-Err.ensures).fault);
  whole = tt;
  served = tt;
}
