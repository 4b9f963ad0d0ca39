use Rattle.std.proofs.Common.{◌≡◌, ◌∙◌, ◌++◌, true, false, sym, ap, arith}
use Rattle.std.specs.Prelude.{is_some}
use Rattle.core_law.specs.Reached.{HasText}
use Rattle.std.proofs.Common.{subst}
use Rattle.std.specs.List.{slice_get}
use Rattle.core_law.proofs.Lemmas.{replies_have_texts}
use Rattle.core_machine.specs.Replying.{reply_at}
use Rattle.core_exchanges.specs.Standing.{asked_of, role_of}
use Rattle.core_machine.proofs.Answers.{past, stays, gives, none_there, one_there, given_there, open_there, no_reply, some_reply, same_reply, role_there, answered_given, answered_none, has_text_at, hears, text_alike}
use Rattle.core_machine.proofs.answering.answer_one.Goals as goal

pub returns-in_default : goal.returns-in_default
returns-in_default c o s xs h = past o s xs c.args.server.now c.args.refusal.now c.args.exchanges.now c.args.outs.now c.args.index c.args.late h (none_there (slice_get xs c.args.index) (c.in_default.ensures xs h.exchanges))

pub returns-then-is_some : goal.returns-then-is_some
returns-then-is_some c o s xs h =
    let e = c.in-Some.exchange.now in
    let given : is_some e.given ≡ true = grind (arith, c.is_some.ensures, c.if-is_some.true) in
    one_there e (slice_get xs c.args.index) (c.in-Some.ensures xs h.exchanges) (λ x at st. given_there e x st given (λ g is.
    stays o s xs c.args.server.now c.args.refusal.now c.args.exchanges.now c.args.outs.now c.args.index c.args.late h x at (answered_given o s.server c.args.late c.args.refusal.now c.args.index x g is)))

pub returns-in_default-2 : goal.returns-in_default-2
returns-in_default-2 c o s xs h =
    let e = c.in-Some.exchange.now in
    let open_ : is_some e.given ≡ false = grind (arith, c.is_some.ensures, c.if-is_some.false) in
    one_there e (slice_get xs c.args.index) (c.in-Some.ensures xs h.exchanges) (λ x at st.
    let none = no_reply (reply_at o s.server c.args.late c.args.refusal.now c.args.index (asked_of e.asked) (role_of e.role)) (sym (c.in_ok-reply.ensures o s.server h.server (role_there s.server xs c.args.index e x st at h.roles)) ∙ c.in_default-2.is) in
    stays o s xs c.args.server.now c.args.refusal.now c.args.exchanges.now c.args.outs.now c.args.index c.args.late h x at
    (answered_none o s.server c.args.late c.args.refusal.now c.args.index x (open_there e x st open_) (sym (same_reply o s.server c.args.late c.args.refusal.now c.args.index e x st) ∙ none)))

pub put_out-requires : goal.put_out-requires
put_out-requires c =
    let e = c.in-Some.exchange.now in
    let h = c.requires.halfway in
    let o = c.requires.options in
    let s = c.requires.situation in
    let xs = c.requires.asked in
    one_there e (slice_get xs c.args.index) (c.in-Some.ensures xs h.exchanges) (λ x at st.
    some_reply (reply_at o s.server c.args.late c.args.refusal.now c.args.index (asked_of e.asked) (role_of e.role)) c.in-Some-2.reply
    (sym (c.in_ok-reply.ensures o s.server h.server (role_there s.server xs c.args.index e x st at h.roles)) ∙ c.in-Some-2.is)
    (λ w is same. subst HasText same (has_text_at replies_have_texts o s c.args.late c.args.refusal.now c.args.index (asked_of e.asked) (role_of e.role) w h.start h.reached is)))

pub returns : goal.returns
returns c o s xs h =
    let e = c.in-Some.exchange.now in
    let open_ : is_some e.given ≡ false = grind (arith, c.is_some.ensures, c.if-is_some.false) in
    one_there e (slice_get xs c.args.index) (c.in-Some.ensures xs h.exchanges) (λ x at st.
    some_reply (reply_at o s.server c.args.late c.args.refusal.now c.args.index (asked_of e.asked) (role_of e.role)) c.in-Some-2.reply
    (sym (c.in_ok-reply.ensures o s.server h.server (role_there s.server xs c.args.index e x st at h.roles)) ∙ c.in-Some-2.is)
    (λ w is same. gives o s xs c.args.server.now c.args.refusal.now c.args.exchanges.now c.args.outs.now c.args.index c.args.late h x w _ _ at (open_there e x st open_)
    (sym (same_reply o s.server c.args.late c.args.refusal.now c.args.index e x st) ∙ is)
    (c.give.ensures xs _ (hears s.server w c.in-Some-2.reply same) h.exchanges)
    (c.in_ok-put_out.ensures ∙ ap (λ ts. c.args.outs.now ++ ts) (text_alike c.args.index e x c.in-Some-2.reply w.reply st same))))
