use Rattle.std.proofs.Common.{ℕ, List, sym, ap, subst, ◌∙◌, string_bytes}
use Rattle.std.specs.FinMap as fin
use Rattle.std.specs.HashMap as hash
use Rattle.std.specs.String.{string_eq}
use Rattle.shape_base.specs.declared.entry.Cell.{Cell}
use Rattle.shape_base.specs.Maps.{map_in}
use Rattle.shape_base.proofs.Lemmas.{insert_in}
use Rattle.fold_client.specs.Hashed.{rows_in}
use Rattle.fold_client.proofs.Hashed.{Joins, joins_start, joins_more, joins_all}
use Rattle.fold_client.proofs.rows.FoldedRows.in_order.Goals as goal

pub loop-key-init : goal.loop-key-init
loop-key-init c =
    let m = c.self.inside.rows in
    let unique : hash.IsUnique string_eq m = assumption (c.into_iter-key-iterator.ensures.into_iter_gives) in
    subst (λ es. Joins (rows_in m) es (map_in c.new-ordered.result)) (sym c.into_iter-key-iterator.ensures.into_iter_gives.0) (joins_start m (map_in c.new-ordered.result) unique (ap (λ es. fin.from_entries es) c.new-ordered.ensures.empty))

pub loop-key-preserved : goal.loop-key-preserved
loop-key-preserved c =
    let old = c.loop-key.ordered in
    let key = c.in_ok-twin.ensures ∙ c.as_str.ensures.value in
    let put = insert_in old c.insert.new.self c.in_ok-twin.twin c.in_ok-copied.copied (c.in_ok-_none.ensures).updates.0
    ∙ ap (λ (k : List ℕ). fin.insert (map_in old) k c.in_ok-copied.copied) key ∙ ap (λ (v : List Cell). fin.insert (map_in old) (string_bytes c.in-Some.key.now) v) c.in_ok-copied.ensures in
    joins_more (rows_in c.self.inside.rows) c.loop-key.key-iterator c.next.new.self (map_in old) (map_in c.insert.new.self) (c.in-Some.key.now, c.in-Some.cells.now) c.in-Some.ensures.steps put c.loop-key.invariant

pub loop-key-preserved-in_ok-_none : goal.loop-key-preserved-in_ok-_none
loop-key-preserved-in_ok-_none c =
    let old = c.loop-key.ordered in
    let key = c.in_ok-twin.ensures ∙ c.as_str.ensures.value in
    let put = insert_in old c.insert.new.self c.in_ok-twin.twin c.in_ok-copied.copied (c.in_ok-_none.ensures).updates.0
    ∙ ap (λ (k : List ℕ). fin.insert (map_in old) k c.in_ok-copied.copied) key ∙ ap (λ (v : List Cell). fin.insert (map_in old) (string_bytes c.in-Some.key.now) v) c.in_ok-copied.ensures in
    joins_more (rows_in c.self.inside.rows) c.loop-key.key-iterator c.next.new.self (map_in old) (map_in c.insert.new.self) (c.in-Some.key.now, c.in-Some.cells.now) c.in-Some.ensures.steps put c.loop-key.invariant

pub returns : goal.returns
returns c = joins_all (rows_in c.self.inside.rows) c.loop-key.key-iterator (map_in c.loop-key.ordered) (c.in-None.ensures).steps.0 c.loop-key.invariant ∙ c.self.view_is
