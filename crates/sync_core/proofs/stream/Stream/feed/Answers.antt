use Rattle.std.proofs.Common.{◌∙◌, ℕ, List, refl, sym, ap, subst}
use Rattle.std.specs.Prelude.{Ok}
use Rattle.tx_assembler.specs.declared.answer.Fed.TheVariants as answers
use Rattle.tx_assembler.specs.Stream.{TookOne}
use Rattle.sync_core.specs.declared.stream.Outcome.TheVariants as outcomes
use Rattle.shape_base.specs.declared.change.Tx.{Tx}
use Rattle.sync_core.specs.Stream.{Read, done_in, messages_in}
use Rattle.sync_core.specs.Streaming.{TakesItem}
use Rattle.sync_core.proofs.Streams.{message_taken, message_refused, took_ok, took_err}
use Rattle.sync_core.proofs.stream.Stream.feed.Goals as goal

pub returns-in-Ok-Nothing-clause-takes : goal.returns-in-Ok-Nothing-clause-takes
returns-in-Ok-Nothing-clause-takes c tables s h =
    let t = took_ok c.feed.result answers.Nothing (λ a. TookOne tables (done_in s) (messages_in s.now) c.args.message a c.feed.new.self) (c.in-Ok-Nothing.is ∙ ap Ok c.in-Ok-Nothing.field-0-is) (c.feed.ensures.taken tables (done_in s) (messages_in s.now) h.taken) in
    message_taken tables s c.args.message answers.Nothing outcomes.Nothing c.args.self.now _ h c.requires.goes t c.requires.goes (c.in-Some.ensures).1 refl refl

pub returns-in-Ok-Tx-clause-takes : goal.returns-in-Ok-Tx-clause-takes
returns-in-Ok-Tx-clause-takes c tables s h =
    let t = took_ok c.feed.result (answers.Tx c.in-Ok-Tx.tx) (λ a. TookOne tables (done_in s) (messages_in s.now) c.args.message a c.feed.new.self) (c.in-Ok-Tx.is ∙ ap Ok c.in-Ok-Tx.field-0-is) (c.feed.ensures.taken tables (done_in s) (messages_in s.now) h.taken) in
    subst (λ (x : Tx). TakesItem tables s (Read c.args.message) (outcomes.Commit x) (record { frames = c.args.self.now.frames; assembler = c.feed.new.self; count = c.in-Some.next; over = c.args.self.now.over })) (sym c.in-Ok-Tx.tx-is)
    (message_taken tables s c.args.message (answers.Tx c.in-Ok-Tx.tx) (outcomes.Commit c.in-Ok-Tx.tx) c.args.self.now _ h c.requires.goes t c.requires.goes (c.in-Some.ensures).1 refl refl)

pub returns-in-Ok-Repeat-clause-takes : goal.returns-in-Ok-Repeat-clause-takes
returns-in-Ok-Repeat-clause-takes c tables s h =
    let r = c.in-Ok-Repeat in
    let t = took_ok c.feed.result (answers.Repeat r.field-0-0 r.field-0-1) (λ a. TookOne tables (done_in s) (messages_in s.now) c.args.message a c.feed.new.self) (r.is ∙ ap Ok r.field-0-is) (c.feed.ensures.taken tables (done_in s) (messages_in s.now) h.taken) in
    message_taken tables s c.args.message (answers.Repeat r.field-0-0 r.field-0-1) outcomes.Nothing c.args.self.now _ h c.requires.goes t c.requires.goes (c.in-Some.ensures).1 refl refl

pub returns-in_ok-named-in-Err-clause-takes : goal.returns-in_ok-named-in-Err-clause-takes
returns-in_ok-named-in-Err-clause-takes c tables s h =
    let t = took_err c.feed.result c.in-Err.error (λ a. TookOne tables (done_in s) (messages_in s.now) c.args.message a c.feed.new.self) c.in-Err.is (c.feed.ensures.taken tables (done_in s) (messages_in s.now) h.taken) in
    message_refused tables s c.args.message c.in-Err.error c.in_ok-named-in-Err.field-0 c.args.self.now _ h c.requires.goes (c.in-Some-name_of.ensures).refusal t refl
    (c.in_ok-named-in-Err.ensures ∙ ap (λ (n : List ℕ). record { name = n; place = c.args.self.now.count }) (c.in-Some-name_of.ensures).name)
