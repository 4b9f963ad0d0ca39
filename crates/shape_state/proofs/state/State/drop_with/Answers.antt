use Rattle.std.proofs.Common.{◌∙◌, refl, sym}
use Rattle.shape_json.specs.ShapeHistory.{Dropped}
use Rattle.shape_state.specs.declared.state.Kept.TheVariants as kept
use Rattle.shape_state.proofs.Life.{drop_stands, is_gone}
use Rattle.shape_state.proofs.state.State.drop_with.Goals as goal

pub returns-then-is_gone-clause-stands : goal.returns-then-is_gone-clause-stands
returns-then-is_gone-clause-stands c = λ r events st. is_gone r c.args.self.now events (Dropped c.args.cause) c.args.self.now.kept refl (sym c.is_gone.ensures ∙ c.if-is_gone.true) st

pub returns-clause-stands : goal.returns-clause-stands
returns-clause-stands c = λ r events st.
    drop_stands r c.args.self.now (record { limits = c.args.self.now.limits; kept = kept.Gone c.args.cause; took = c.args.self.now.took }) c.args.cause events (sym c.is_gone.ensures ∙ c.if-is_gone.false) refl refl refl st
