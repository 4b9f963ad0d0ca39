-- The entries of a change, and what they lead to.
use Rattle.std.proofs.Common.{◌≡◌, ℕ, ◌+◌, ◌*◌, ◌<◌, map, length, arith, Bool, true, false, List, [], ◌∷◌, refl, sym, ◌∙◌, ap, subst, None, Some, IsSome, ◌||◌}
use Rattle.std.specs.Option.{is_none, option_and_then}
use Rattle.std.specs.Bool.{if◌then◌else◌}
use Rattle.shape_base.specs.declared.change.ChangeKind.{ChangeKind}
use Rattle.shape_base.specs.declared.change.ChangeKind.TheVariants.{Insert, Update, Delete, Truncate}
use Rattle.shape_base.specs.declared.entry.Entry.{Entry}
use Rattle.shape_base.specs.Tables.{Values, Table, changed, lacks_key, same_text}
use Rattle.shape_base.specs.Shape.{Knows, Keyed, IsTest, by_name, cell_at, cells_of, differing, update_at, delete_at, insert_at, emit, entries_of, key_text, keyed, is_bad, is_truncate, old_of, new_of, have_truths, shape_rows}
use Rattle.shape_base.specs.declared.definition.TableDef.{TableDef}
use Rattle.shape_base.specs.declared.entry.Cell.{Cell}
use Rattle.shape_base.specs.declared.offset.Offset.TheVariants.{At}
use Rattle.shape_base.specs.declared.entry.Op.TheVariants as ops
use Rattle.change_map.specs.declared.emitting.Emitted.{Emitted}
use Rattle.shape_base.specs.Log.{fold_from}
use Rattle.shape_base.proofs.Lemmas.{map_of, fold-emit, truths_changed, keyed_from}
use Rattle.change_map.specs.Emitting.{own, in_order, IsWhole, LeadsOver}

pub whole_kind : (s : Knows) (kind : ChangeKind) → IsWhole s.definition kind → is_truncate kind ≡ false
whole_kind s (Insert new) h = refl
whole_kind s (Update old new) h = refl
whole_kind s (Delete old) h = refl
whole_kind s Truncate h = absurd h

shown_if : (s : Knows) (rows : Table) → have_truths s rows ≡ true → shape_rows s rows ≡ Some (map_of s rows)
shown_if s rows h = rw h refl

-- The entries of a change that can be read lead from the rows before it to those after it.
pub leads_over : (s : Knows) (lsn j : ℕ) (kind : ChangeKind) (es : List Entry) → IsTest s → is_truncate kind ≡ false → is_bad s (old_of kind) ≡ false → is_bad s (new_of kind) ≡ false → es ≡ emit s lsn (own s j kind) → LeadsOver s kind es
leads_over s lsn j kind es test whole old new is rows fits there after truths =
    let truths_after = truths_changed s (own s j kind) rows (record { whole = whole; old = old; new = new }) there truths in
    let folds = fold-emit s lsn (own s j kind) rows test whole there (keyed_from s rows test fits) (keyed_from s (changed kind rows) test after) in (
      ap (option_and_then (fold_from es)) (shown_if s rows truths) ∙ ap (λ (xs : List Entry). fold_from xs (map_of s rows)) is ∙ folds ∙ sym (shown_if s (changed kind rows) truths_after),
      subst IsSome (sym (shown_if s (changed kind rows) truths_after)) refl,
    )

any_none : (b c : Bool) → (b || c) ≡ false → (b ≡ false) × (c ≡ false)
any_none true c h = cc
any_none false c h = (refl, h)

-- a row that can be read has no null key value
pub has_key : (s : Knows) (row : Values) → is_bad s (Some row) ≡ false → lacks_key s.key row ≡ false
has_key s row h = (any_none (is_none (s.truth row)) (lacks_key s.key row) h).1

-- ---- both rows are selected

entries_by : (lsn j : ℕ) (o n : Keyed) (b : Bool) → same_text o.0 n.0 ≡ b → entries_of lsn j (Some o) (Some n) ≡ (if b then update_at lsn (2 * j) n.0 (differing o.1 n.1) else delete_at lsn (2 * j) o ∷ insert_at lsn (2 * j + 1) n ∷ [])
entries_by lsn j o n b e = ap (λ c. if c then update_at lsn (2 * j) n.0 (differing o.1 n.1) else delete_at lsn (2 * j) o ∷ insert_at lsn (2 * j + 1) n ∷ []) e

pub both_other : (s : Knows) (lsn j : ℕ) (old new : Values) (first second : Entry) → same_text (key_text s old) (key_text s new) ≡ false → first ≡ delete_at lsn (2 * j) (keyed s old) → second ≡ insert_at lsn (2 * j + 1) (keyed s new) → first ∷ second ∷ [] ≡ entries_of lsn j (Some (keyed s old)) (Some (keyed s new))
both_other s lsn j old new first second e one two = (λ i. one i ∷ two i ∷ []) ∙ sym (entries_by lsn j (keyed s old) (keyed s new) false e)

pub both_same : (s : Knows) (lsn j : ℕ) (old new : Values) (es : List Entry) (cells : List Cell) → same_text (key_text s old) (key_text s new) ≡ true → cells ≡ differing (cells_of s old) (cells_of s new) → es ≡ update_at lsn (2 * j) (key_text s new) cells → es ≡ entries_of lsn j (Some (keyed s old)) (Some (keyed s new))
both_same s lsn j old new es cells e are is = is ∙ ap (update_at lsn (2 * j) (key_text s new)) are ∙ sym (entries_by lsn j (keyed s old) (keyed s new) true e)

pub cells_are : (s : Knows) (d : TableDef) (order : List ℕ) (old new : Values) (cells : List Cell) → d ≡ s.definition → order ≡ by_name s.definition s.selected → cells ≡ differing (map (cell_at d old) order) (map (cell_at d new) order) → cells ≡ differing (cells_of s old) (cells_of s new)
cells_are s d order old new cells p q is = is ∙ (λ i. differing (map (cell_at (p i) old) (q i)) (map (cell_at (p i) new) (q i)))

pub empty_update : (e : Emitted) (lsn pos : ℕ) (key : List ℕ) (cells : List Cell) → e ≡ record { first = None; second = None } → length cells ≡ 0 → in_order e ≡ update_at lsn pos key cells
empty_update e lsn pos key [] is none = ap in_order is
empty_update e lsn pos key (c ∷ cells) is none = absurd (omega (arith, none))

pub some_update : (e : Emitted) (entry : Entry) (lsn pos : ℕ) (key : List ℕ) (cells : List Cell) → e ≡ record { first = Some entry; second = None } → entry ≡ record { offset = At lsn pos; op = ops.Update; key = key; cells = cells } → 0 < length cells → in_order e ≡ update_at lsn pos key cells
some_update e entry lsn pos key [] is made some = absurd (omega (arith, some))
some_update e entry lsn pos key (c ∷ cells) is made some = ap in_order is ∙ ap (λ (x : Entry). x ∷ []) made
