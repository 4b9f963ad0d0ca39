use Rattle.std.proofs.Common.{false, refl, subst}
use Rattle.shape_json.specs.ShapeHistory.{entries_in}
use Rattle.shape_state.specs.declared.prepared.Prepared.TheVariants as prepared
use Rattle.shape_state.specs.Standing.{Keeps}
use Rattle.shape_state.proofs.Life.{append_stands, prepared_now}
use Rattle.shape_state.proofs.state.State.append.Goals as goal

pub returns-clause-stands : goal.returns-clause-stands
returns-clause-stands c = λ r events tx others st lt p.
    let is = subst (Keeps r c.args.self.now.limits events) c.in-Logging.is st.keeps in
    let by = prepared_now r c.args.self.now.limits events tx others (prepared.Append c.args.written) is.stands p in
    append_stands r c.args.self.now c.count.new.self c.in-Logging.logging (record { log = c.append.new.self; vis = c.in-Logging.logging.vis; all_shown = false }) events tx others c.in-Logging.is c.count.ensures.kept refl c.append.ensures.least refl
    (λ entries held. c.append.ensures.held entries (entries_in r.knows tx) held by.1) c.count.ensures.limits c.count.ensures.took st lt by.0
