use Rattle.std.proofs.Common.{◌≡◌, ◌∷◌, ◌++◌, [], ◌∙◌, ap, List, append_assoc}
use Rattle.std.proofs.lemmas.List.{map-append}
use Rattle.std.specs.FinMap as fin
use Rattle.shape_base.specs.declared.entry.KeyedRow.{KeyedRow}
use Rattle.shape_base.specs.Shape.{Keyed, Map}
use Rattle.shape_base.specs.Maps.{map_in}
use Rattle.shape_base.proofs.Lemmas.{insert_in}
use Rattle.shape_model.specs.Maps.{pairs_of}
use Rattle.shape_model.proofs.rows.by_key.Invariants.{HasLast}
use Rattle.shape_model.proofs.rows.by_key.Goals as goal

one_more : (all left rest : List KeyedRow) (row : KeyedRow) (before after : Map) → HasLast all left before → left ≡ rest ++ row ∷ [] → after ≡ fin.insert before row.key row.cells → HasLast all rest after
one_more all left rest row before after h is put = record {
  back = (row.key, row.cells) ∷ h.back;
  all_are = h.all_are ∙ ap (λ (rs : List KeyedRow). pairs_of rs ++ h.back) is ∙ ap (λ (ps : List Keyed). ps ++ h.back) (map-append (λ (r : KeyedRow). (r.key, r.cells)) rest (row ∷ [])) ∙ append_assoc (pairs_of rest) ((row.key, row.cells) ∷ []) h.back;
  shown_is = put ∙ ap (λ (m : Map). fin.insert m row.key row.cells) h.shown_is;
}

pub loop-row-preserved : goal.loop-row-preserved
loop-row-preserved c = one_more c.args.rows c.loop-row.rows.items c.pop.new.self.items c.in-Some.row (map_in c.loop-row.shown) (map_in c.insert.new.self) c.loop-row.invariant c.in-Some.ensures.items (insert_in c.loop-row.shown c.insert.new.self c.in-Some.row.key c.in-Some.row.cells c.in_ok-_before.ensures.updates.0)

pub loop-row-preserved-in_ok-_before : goal.loop-row-preserved-in_ok-_before
loop-row-preserved-in_ok-_before c = one_more c.args.rows c.loop-row.rows.items c.pop.new.self.items c.in-Some.row (map_in c.loop-row.shown) (map_in c.insert.new.self) c.loop-row.invariant c.in-Some.ensures.items (insert_in c.loop-row.shown c.insert.new.self c.in-Some.row.key c.in-Some.row.cells c.in_ok-_before.ensures.updates.0)
