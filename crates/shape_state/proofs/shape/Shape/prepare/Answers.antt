use Rattle.shape_state.proofs.shape.Shape.prepare.Goals as goal

pub returns-clause-still : goal.returns-clause-still
returns-clause-still g c = λ r events st. record { legal = st.legal; took = st.took; keeps = c.prepare_kept.ensures.still r events st.keeps }
