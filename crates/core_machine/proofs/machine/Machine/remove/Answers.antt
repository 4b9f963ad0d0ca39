use Rattle.std.proofs.Common.{◌≡◌, ◌∙◌, true, sym, subst}
use Rattle.shape_base.specs.RegistryHistory.{is_live}
use Rattle.core_law.specs.Clients.{never}
use Rattle.core_law.specs.Run.{turn_of, Remove}
use Rattle.core_server.specs.Standing as server
use Rattle.core_machine.proofs.Removing.{next_by, halfway_next, without, removes, removed}
use Rattle.core_machine.proofs.Turning.{situated}
use Rattle.core_machine.proofs.machine.Machine.remove.Goals as goal

pub answer_awaiting-requires : goal.answer_awaiting-requires
answer_awaiting-requires c =
    let o = c.requires.options in
    let s = c.requires.situation in
    let h = c.requires.stands in
    let n = c.args.number in
    let live : is_live s.server.registry n ≡ true = sym (c.is_live.ensures o s.server h.server) ∙ c.if-not-is_live.false in
    record { options = o; situation = next_by o s (Remove n); asked = s.exchanges; halfway = halfway_next o s (without o s n live) (Remove n) never (removes o s n live) h.start h.reached (λ v is. is) c.remove.new.self c.args.self.now.exchanges (c.remove.ensures o s.server h.server) h.exchanges }

pub returns-clause-takes : goal.returns-clause-takes
returns-clause-takes c o s h =
    let n = c.args.number in
    let live : is_live s.server.registry n ≡ true = sym (c.is_live.ensures o s.server h.server) ∙ c.if-not-is_live.false in
    let half = halfway_next o s (without o s n live) (Remove n) never (removes o s n live) h.start h.reached (λ v is. is) c.remove.new.self c.args.self.now.exchanges (c.remove.ensures o s.server h.server) h.exchanges in
    let spares = (c.in_ok-answer_awaiting.ensures).spares in
    removed o s n live c.args.self.now c.answer_awaiting.new.self c.in_ok-answer_awaiting.field-0 h
    (subst (λ v. server.Stands o (without o s n live).server v) (sym (c.in_ok-answer_awaiting.ensures).server) (c.remove.ensures o s.server h.server))
    (record { clients = spares.clients; asks = spares.asks; clock = spares.clock; hold = spares.hold }) (c.in_ok-answer_awaiting.ensures).lasts
    ((c.in_ok-answer_awaiting.ensures).answered o (next_by o s (Remove n)) s.exchanges half)

pub returns-clause-situated : goal.returns-clause-situated
returns-clause-situated c = let w = c.requires in situated w.options (turn_of w.options w.situation (Remove c.args.number)) _ _ (returns-clause-takes c w.options w.situation w.stands)
