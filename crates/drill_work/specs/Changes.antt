-- The changes of the table.
use Rattle.std.specs.Prelude.{ℕ, zero, suc, ◌+◌, ◌==◌, if◌then◌else◌, List, [], ◌∷◌, ◌++◌, length, slice_index_or, slice_set, remove}
use Rattle.drill_work.specs.declared.plain.Item.{Item}
use Rattle.drill_work.specs.declared.plain.Letter.{Letter}
use Rattle.drill_work.specs.declared.plain.Letter.TheVariants.{K, M}
use Rattle.drill_work.specs.declared.plain.Plain.{Plain}
use Rattle.drill_work.specs.declared.plain.Statement.{Statement}
use Rattle.drill_work.specs.declared.plain.Statement.TheVariants.{Insert, Update, Delete}
use Rattle.drill_work.specs.Chance.{after, drawn}

-- one change: what is done, the table then, and the state of the generator
pub record Change : Type 0 where
  pub statement : Statement
  pub plain : Plain
  pub state : ℕ

abbrev pub made : Statement → Plain → ℕ → Change
made s t x = record { statement = s; plain = t; state = x }

abbrev pub letter_of : ℕ → Letter
letter_of n = if n == 0 then K else M

-- a new row has the least id that no row ever had
abbrev pub new_item : ℕ → Plain → Item
new_item x t = record { id = t.fresh; n = drawn 100 x; letter = letter_of (drawn 2 (after x)) }

-- the row is put last
abbrev pub with_item : Plain → Item → Plain
with_item t item = record { rows = t.rows ++ item ∷ []; fresh = t.fresh + 1 }

abbrev pub inserted : ℕ → Plain → Change
inserted x t = made (Insert (new_item x t)) (with_item t (new_item x t)) (after (after x))

-- a row where there is none
abbrev pub no_item : Item
no_item = record { id = 0; n = 0; letter = M }

-- the row is deleted
abbrev pub deleted : ℕ → ℕ → Item → Plain → Change
deleted p x old t = made (Delete old) (record { rows = remove t.rows p; fresh = t.fresh }) x

-- the row stays in its place, and has another id
abbrev pub moved : ℕ → ℕ → Item → Item → Plain → Change
moved p x old new t = made (Update old new) (record { rows = slice_set t.rows p new; fresh = t.fresh + 1 }) x

-- the row stays in its place, and has another number
abbrev pub renumbered : ℕ → ℕ → Item → Item → Plain → Change
renumbered p x old new t = made (Update old new) (record { rows = slice_set t.rows p new; fresh = t.fresh }) x

-- 0 deletes the row, 1 gives it the least id that no row ever had, 2 and 3 another number
abbrev pub altered_by : ℕ → ℕ → ℕ → Item → Plain → Change
altered_by b p x old t =
    if b == 0 then deleted p x old t
    else if b == 1 then moved p x old (record { id = t.fresh; n = old.n; letter = old.letter }) t
    else renumbered p (after x) old (record { id = old.id; n = drawn 100 x; letter = old.letter }) t

abbrev pub altered_at : ℕ → ℕ → Plain → Change
altered_at p x t = altered_by (drawn 4 x) p (after x) (slice_index_or t.rows p no_item) t

-- a row is drawn, and then what becomes of it
unfoldable pub altered : ℕ → Plain → Change
altered x t = altered_at (drawn (length t.rows) x) (after x) t

-- A row is inserted where the table is empty, and else in one of three cases.
unfoldable pub change : ℕ → Plain → Change
change x t = if length t.rows == 0 then inserted x t else if drawn 3 x == 0 then inserted (after x) t else altered (after x) t

-- several changes: what is done, the table then, and the state of the generator
pub record AllChanges : Type 0 where
  pub statements : List Statement
  pub plain : Plain
  pub state : ℕ

abbrev pub all_made : List Statement → Plain → ℕ → AllChanges
all_made ss t x = record { statements = ss; plain = t; state = x }

-- a change before others
abbrev pub before : Statement → AllChanges → AllChanges
before s others = all_made (s ∷ others.statements) others.plain others.state

abbrev pub then_others : (ℕ → Plain → AllChanges) → Change → AllChanges
then_others others c = before c.statement (others c.state c.plain)

-- so many changes, one after the other
unfoldable pub changes : ℕ → ℕ → Plain → AllChanges
changes zero x t = all_made [] t x
changes (suc n) x t = then_others (changes n) (change x t)
