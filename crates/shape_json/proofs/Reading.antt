-- What the reader finds in the JSON value of a body.
use Rattle.std.proofs.Common.{◌≡◌, ℕ, List, [], ◌∷◌, ◌++◌, Option, Some, refl, sym, ap, ◌∙◌, codes, append_assoc, append-nil}
use Rattle.serde_json.specs.Data.{Data, null, Items, no_items, item, Members, no_members, member}
use Rattle.shape_base.specs.declared.entry.Cell.{Cell}
use Rattle.shape_base.specs.declared.entry.Entry.{Entry}
use Rattle.shape_base.specs.OffsetText.{IsOffset}
use Rattle.shape_json.specs.declared.control.Control.{Control}
use Rattle.shape_json.specs.declared.control.Control.TheVariants.{Nothing, UpToDate, MustRefetch}
use Rattle.shape_json.specs.Reading.{value_data, cells_data, entry_data, said_data, items_data, HaveOffsets}

-- the next cell of those that a list of members stands for
pub record NextCell (rest : List Cell) (name : List ℕ) (value : Data) (left : Members) : Type 0 where
  pub cell : Cell
  pub cells : List Cell
  pub is : rest ≡ cell ∷ cells
  pub named : name ≡ cell.name
  pub valued : value ≡ value_data cell.value
  pub after : left ≡ cells_data cells

abbrev pub first_name : Members → List ℕ
first_name no_members = []
first_name (member k d ms) = k

abbrev pub first_value : Members → Data
first_value no_members = null
first_value (member k d ms) = d

abbrev pub others : Members → Members
others no_members = no_members
others (member k d ms) = ms

pub next_cell : (rest : List Cell) (name : List ℕ) (value : Data) (left : Members) → member name value left ≡ cells_data rest → NextCell rest name value left
next_cell [] name value left e = absurd (cc)
next_cell (c ∷ cells) name value left e = record { cell = c; cells = cells; is = refl; named = ap first_name e; valued = ap first_value e; after = ap others e }

pub no_cell : (rest : List Cell) → no_members ≡ cells_data rest → rest ≡ []
no_cell [] e = refl
no_cell (c ∷ cells) e = absurd (cc)

-- strings and texts of options
pub some_string : (s t : List ℕ) → ◌≡◌ {A = Option (List ℕ)} (Some s) (Some t) → s ≡ t
some_string s t e = cc

pub some_items : (a b : Items) → ◌≡◌ {A = Option Items} (Some a) (Some b) → a ≡ b
some_items a b e = cc

-- ---- the items of a body, where some are done

-- the control, unless a later one stands behind it
abbrev pub later : Control → Control → Control
later control Nothing = control
later control UpToDate = UpToDate
later control MustRefetch = MustRefetch

-- of these entries and this control some entries are done, and these items are left
pub record Left (es : List Entry) (said : Control) (done : List Entry) (control : Control) (items : Items) : Type 0 where
  pub rest : List Entry
  pub left : Control
  pub is : es ≡ done ++ rest
  pub offsets : HaveOffsets rest
  pub holds : items ≡ items_data rest left
  pub says : said ≡ later control left

says_first : (said : Control) → said ≡ later Nothing said
says_first Nothing = refl
says_first UpToDate = refl
says_first MustRefetch = refl

pub all_left : (es : List Entry) (said : Control) (items : Items) → HaveOffsets es → items ≡ items_data es said → Left es said [] Nothing items
all_left es said items offsets e = record { rest = es; left = said; is = refl; offsets = offsets; holds = e; says = says_first said }

abbrev pub first_item : Items → Data
first_item no_items = null
first_item (item d ds) = d

abbrev pub later_items : Items → Items
later_items no_items = no_items
later_items (item d ds) = ds

-- what a step does with an item
pub record Step (done : List Entry) (control : Control) (d : Data) (new_done : List Entry) (new_control : Control) : Type 0 where
  pub entry : (e : Entry) → IsOffset e.offset → d ≡ entry_data e → (new_done ≡ done ++ e ∷ []) × (new_control ≡ control)
  pub up_to_date : d ≡ said_data (codes "up-to-date") → (new_done ≡ done) × (new_control ≡ UpToDate)
  pub must_refetch : d ≡ said_data (codes "must-refetch") → (new_done ≡ done) × (new_control ≡ MustRefetch)

module _ (es : List Entry) (said : Control) (done : List Entry) (control : Control) (d : Data) (ds : Items) where
  advance_at : (rest : List Entry) (left : Control) → es ≡ done ++ rest → HaveOffsets rest → item d ds ≡ items_data rest left → said ≡ later control left
      → (new_done : List Entry) (new_control : Control) → Step done control d new_done new_control → Left es said new_done new_control ds
  advance_at [] Nothing is offsets e says new_done new_control step = absurd (cc)
  advance_at [] UpToDate is offsets e says new_done new_control step =
      let now = step.up_to_date (ap first_item e) in
      record { rest = []; left = Nothing; is = is ∙ ap (λ (l : List Entry). l ++ []) (sym now.0); offsets = tt; holds = ap later_items e; says = says ∙ sym now.1 }
  advance_at [] MustRefetch is offsets e says new_done new_control step =
      let now = step.must_refetch (ap first_item e) in
      record { rest = []; left = Nothing; is = is ∙ ap (λ (l : List Entry). l ++ []) (sym now.0); offsets = tt; holds = ap later_items e; says = says ∙ sym now.1 }
  advance_at (f ∷ rest) left is offsets e says new_done new_control step =
      let now = step.entry f offsets.0 (ap first_item e) in
      record {
        rest = rest;
        left = left;
        is = is ∙ sym (append_assoc done (f ∷ []) rest) ∙ ap (λ (l : List Entry). l ++ rest) (sym now.0);
        offsets = offsets.1;
        holds = ap later_items e;
        says = says ∙ ap (λ c. later c left) (sym now.1);
      }

  pub advance : (items : Items) → items ≡ item d ds → Left es said done control items → (new_done : List Entry) (new_control : Control) → Step done control d new_done new_control → Left es said new_done new_control ds
  advance items e l = advance_at l.rest l.left l.is l.offsets (sym e ∙ l.holds) l.says

  fails_at : (P : Type 0) (rest : List Entry) (left : Control) → HaveOffsets rest → item d ds ≡ items_data rest left → ((e : Entry) → IsOffset e.offset → d ≡ entry_data e → P) → (d ≡ said_data (codes "up-to-date") → ⊥) → (d ≡ said_data (codes "must-refetch") → ⊥) → P
  fails_at P [] Nothing offsets e entry up must = absurd (cc)
  fails_at P [] UpToDate offsets e entry up must = absurd (up (ap first_item e))
  fails_at P [] MustRefetch offsets e entry up must = absurd (must (ap first_item e))
  fails_at P (f ∷ rest) left offsets e entry up must = entry f offsets.0 (ap first_item e)

  -- a step that fails fails at an entry
  pub fails : (P : Type 0) (items : Items) → items ≡ item d ds → Left es said done control items → ((e : Entry) → IsOffset e.offset → d ≡ entry_data e → P) → (d ≡ said_data (codes "up-to-date") → ⊥) → (d ≡ said_data (codes "must-refetch") → ⊥) → P
  fails P items e l = fails_at P l.rest l.left l.offsets (sym e ∙ l.holds)

none_left : (rest : List Entry) (left : Control) → no_items ≡ items_data rest left → (rest ≡ []) × (left ≡ Nothing)
none_left [] Nothing e = (refl, refl)
none_left [] UpToDate e = absurd (cc)
none_left [] MustRefetch e = absurd (cc)
none_left (f ∷ rest) left e = absurd (cc)

pub all_done : (es : List Entry) (said : Control) (done : List Entry) (control : Control) → Left es said done control no_items → (done ≡ es) × (control ≡ said)
all_done es said done control l =
    let none = none_left l.rest l.left l.holds in
    (sym (l.is ∙ ap (λ (r : List Entry). done ++ r) none.0 ∙ append-nil done), sym (l.says ∙ ap (later control) none.1))
