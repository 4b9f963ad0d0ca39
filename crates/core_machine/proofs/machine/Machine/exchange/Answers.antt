use Rattle.std.proofs.Common.{◌≡◌, ◌∙◌, ◌++◌, ◌∷◌, [], List, ℕ, length, true, false, refl, sym, ap, subst, Option}
use Rattle.shape_base.specs.RegistryHistory.{last_id}
use Rattle.std.specs.Prelude.{slice_get}
use Rattle.core_law.specs.Clients.{has_room}
use Rattle.core_law.specs.Situation.{Role, Situation}
use Rattle.core_law.specs.Steps.{change_at, id_before}
use Rattle.core_exchanges.specs.Standing.{asked_of, role_of}
use Rattle.core_machine.specs.declared.answering.Refusal.{Refusal}
use Rattle.core_machine.specs.Answering.{Answered, text_at}
use Rattle.core_machine.specs.Replying.{answered_in, refusal_of}
use Rattle.core_machine.specs.Opening.{opening_of, noted}
use Rattle.core_machine.specs.Standing.{lasts_of}
use Rattle.core_machine.proofs.Lasts.{lasts_opening}
use Rattle.core_machine.proofs.Exchanging.{came, new_exchange, halfway_new, requested, space_room}
use Rattle.core_machine.proofs.machine.Machine.exchange.Goals as goal

pub answer_one-requires : goal.answer_one-requires
answer_one-requires c =
    let w = c.requires.situated in
    let o = w.options in
    let s = w.situation in
    let h = w.stands in
    let asked = asked_of c.args.asked in
    let room : has_room s ≡ true = sym (space_room c.args.self.now.exchanges s h.exchanges) ∙ c.requires.room in
    let op = (c.in_ok-opened.ensures) o s.server h.server in
    let x = new_exchange o s h.start h.reached h.of_tables asked room c.args.outside c.args.target c.args.close in
    let pushed = (c.in_ok-index.ensures).ok s.exchanges x h.exchanges (record { outside = refl; target = refl; asked = refl; close = refl; moment = h.clock; role = op.role; given = tt }) in
    record { options = o; situation = came o s h.start h.reached h.of_tables asked room; asked = s.exchanges ++ x ∷ []; halfway = halfway_new o s h.start h.reached h.of_tables asked room x c.open.new.server c.push.new.self refl op.stands pushed.1 }

pub returns-clause-requested : goal.returns-clause-requested
returns-clause-requested c o s h =
    let asked = asked_of c.args.asked in
    let room : has_room s ≡ true = sym (space_room c.args.self.now.exchanges s h.exchanges) ∙ c.requires.room in
    let op = (c.in_ok-opened.ensures) o s.server h.server in
    let x = new_exchange o s h.start h.reached h.of_tables asked room c.args.outside c.args.target c.args.close in
    let i = c.in_ok-index.index in
    let pushed = (c.in_ok-index.ensures).ok s.exchanges x h.exchanges (record { outside = refl; target = refl; asked = refl; close = refl; moment = h.clock; role = op.role; given = tt }) in
    let z = came o s h.start h.reached h.of_tables asked room in
    let half = halfway_new o s h.start h.reached h.of_tables asked room x c.open.new.server c.push.new.self refl op.stands pushed.1 in
    let is_last : id_before s.server.commits (length s.server.commits) ≡ last_id s.server.registry = subst (λ (z : Situation). id_before z.server.commits (length z.server.commits) ≡ last_id z.server.registry) (sym h.reached.is) (c.last_is_taken.ensures o h.reached.events) in
    let lasts : c.note.new.lasts.items ≡ lasts_of (opening_of o s.server asked).server = c.in_ok-note.ensures
    ∙ ap (λ (ls : List (Option ℕ)). noted ls (role_of c.in_ok-opened.opened.role) c.last-last.result) h.lasts
    ∙ ap (λ (r : Role). noted (lasts_of s.server) r c.last-last.result) op.role
    ∙ ap (noted (lasts_of s.server) (opening_of o s.server asked).role) (c.last-last.ensures o s.server h.server)
    ∙ lasts_opening o s.server is_last asked in
    requested o s h.start h.reached h.of_tables asked room c.args.outside c.args.target c.args.close c.args.self.now _ c.args.outs.now c.answer_one.new.outs i pushed.0 op.stands lasts
    (subst (λ (r : Option Refusal). Answered o z (change_at (answered_in o z.server false r i) (s.exchanges ++ x ∷ []) i) c.open.new.server c.answer_one.new.exchanges c.args.outs.now c.answer_one.new.outs (text_at (answered_in o z.server false r) i (slice_get (s.exchanges ++ x ∷ []) i)))
    (c.refusal_at-refusal.ensures ∙ ap (refusal_of i) op.refusal) (c.in_ok-answer_one.ensures o z (s.exchanges ++ x ∷ []) half))
