-- The rule of the table, and what each step tells.
use Rattle.std.specs.Prelude.{◌≡◌, ◌≢◌, ◌⊎◌, ◌||◌, ℕ, ◌+◌, ◌-◌, ◌*◌, ◌%◌, ◌^◌, ◌<◌, ◌≤◌, Bool, true, false, max, List, [], ◌∷◌, ◌++◌, length, slice_index_or, Option, Some, None}
use mathlib.Core.List.{IsPrefix}
use mathlib.Core.Option.{some, none}
use lib.ListN.{get_elem?}
use Rattle.atomic_table.specs.Table.{State, Me, Step}
use Rattle.std.specs.declared.snapshot.Snapshot.{Snapshot}
use Rattle.front_lock.specs.declared.view.View.{View}
use Rattle.front_lock.specs.declared.view.Stage.{Stage}
use Rattle.front_lock.specs.declared.view.Stage.TheVariants.{Idle, Waits, Served, Noted}

-- a doubled n times: of how many parts a share of `a` parts is, once all parts are halved n times
abbrev pub doubled : ℕ → ℕ → ℕ
doubled Rattle.std.specs.Prelude.zero a = a
doubled (Rattle.std.specs.Prelude.suc n) a = 2 * doubled n a

-- the sum of what f says of each
abbrev pub sum_of : {A : Type 0} → (A → ℕ) → List A → ℕ
sum_of f [] = 0
sum_of f (x ∷ xs) = f x + sum_of f xs

-- the events at the places that are marked
abbrev pub picked : {E : Type 0} → List Bool → List E → List E
picked [] es = []
picked (b ∷ bs) [] = []
picked (true ∷ bs) (e ∷ es) = e ∷ picked bs es
picked (false ∷ bs) (e ∷ es) = picked bs es

-- the marks along a list of events, and a mark at the place after it
abbrev pub marked : {E : Type 0} → List Bool → List E → List Bool
marked bs [] = true ∷ []
marked [] (e ∷ es) = false ∷ marked [] es
marked (b ∷ bs) (e ∷ es) = b ∷ marked bs es

-- no place is marked in both
abbrev pub AreApart : List Bool → List Bool → Type 0
AreApart xs ys = (k : ℕ) → slice_index_or xs k false ≡ true → slice_index_or ys k false ≡ true → ⊥

-- the places that are marked in either
abbrev pub any_of : List Bool → List Bool → List Bool
any_of [] ys = ys
any_of (x ∷ xs) [] = x ∷ xs
any_of (x ∷ xs) (y ∷ ys) = (x || y) ∷ any_of xs ys

-- the longer of two lists of which one begins the other
abbrev pub longest : {E : Type 0} → List E → List E → List E
longest [] ys = ys
longest (x ∷ xs) [] = x ∷ xs
longest (x ∷ xs) (y ∷ ys) = x ∷ longest xs ys

-- what a call adds to the history: the event that it names, where it adds one
abbrev pub added : {E : Type 0} → Bool → Option E → List E
added true (Some e) = e ∷ []
added true None = []
added false o = []

-- the ticket that a seat has
abbrev pub ticket_of : Stage → Option ℕ
ticket_of Idle = None
ticket_of (Waits t) = Some t
ticket_of (Served t) = Some t
ticket_of (Noted t) = Some t

-- how many tickets it has
abbrev pub drawn : Stage → ℕ
drawn Idle = 0
drawn (Waits t) = 1
drawn (Served t) = 1
drawn (Noted t) = 1

-- data that only clauses read
abbrev pub kept : {F : Type 0} → F → Snapshot F
kept x = record { marker = record {}; value = x }

-- where a seat's ticket is: in line, or served; `noted` is what holds besides of one that has loaded the count since
abbrev pub IsAt : ℕ → ℕ → Type 0 → Stage → Type 0
IsAt serving ticket noted Idle = Unit {0}
IsAt serving ticket noted (Waits t) = (serving ≤ t) × (t < ticket)
IsAt serving ticket noted (Served t) = (t ≡ serving) × (t < ticket)
IsAt serving ticket noted (Noted t) = (t ≡ serving) × (t < ticket) × noted

module _ {E F : Type 0} where
  -- what the first seat knows
  abbrev pub first_view : F → View E F
  first_view x = record { fixed = kept x; seen = []; told = []; told_fixed = kept x; told_part = 0; own = []; own_first = []; own_second = []; part = 1; depth = 0; stage = Idle }

  -- one's own events, in order
  abbrev pub mine_of : View E F → List E
  mine_of v = picked v.own v.seen

  -- a share, counted in parts of which there are 2^depth
  abbrev pub worth : ℕ → View E F → ℕ
  worth depth v = doubled (depth - v.depth) v.part

  -- the whole share
  abbrev pub IsWhole : View E F → Type 0
  IsWhole v = v.part ≡ doubled v.depth 1

  module _ (history : List E) (serving ticket : ℕ) where
    -- what the seat j knows. `owner` says whose each place of the history is, and `out` that the slot is empty
    pub record Knows (fixed : F) (owner : ℕ → ℕ) (depth : ℕ) (out : Type 0) (j : ℕ) (v : View E F) : Type 0 where
      -- a view with a share has the lock's data
      pub same : 0 < v.part → v.fixed.value ≡ fixed
      -- so had the last view that was joined into this one
      pub alike : 0 < v.told_part → v.told_fixed.value ≡ fixed
      -- what was seen, and what was told, begins the history
      pub sees : IsPrefix v.seen history
      pub tells : IsPrefix v.told history
      -- a place that is marked was seen, and is this seat's; each place of this seat is marked
      pub short : length v.own ≤ length v.seen
      pub owns : (k : ℕ) → k < length history → slice_index_or v.own k false ≡ true → owner k ≡ j
      pub owned : (k : ℕ) → k < length history → owner k ≡ j → slice_index_or v.own k false ≡ true
      -- the last two views that were joined into this one had no event in common
      pub once : AreApart v.own_first v.own_second
      -- a view with no share has no own events and no ticket
      pub bare : v.part ≡ 0 → v.own ≡ []
      pub rests : v.part ≡ 0 → v.stage ≡ Idle
      -- no share is cut finer than `depth`
      pub fine : v.depth ≤ depth
      -- a ticket is in line or served, and one that has loaded the count has seen all and has the slot
      pub at : IsAt serving ticket ((v.seen ≡ history) × out) v.stage

module _ {S E F : Type 0} (stands : S → F → ℕ → List E → Type 0) where
  -- The rule. There is a history, and each place of it is some seat's own event
  pub record Kept (fixed : F) (s : State (Option S) (View E F)) : Type 0 where
    pub history : List E
    pub owner : ℕ → ℕ
    pub serving : ℕ
    pub ticket : ℕ
    pub depth : ℕ
    -- the words are the length of the history, the next ticket, and the ticket that is served, which is not past it
    pub words : s.words ≡ length history % 18446744073709551616 ∷ ticket ∷ serving ∷ []
    pub fits : ticket < 18446744073709551616
    pub order : serving ≤ ticket
    -- some state stands for the history
    pub legal : (x : S) × stands x fixed 0 history
    pub each : (j : ℕ) (v : View E F) → get_elem? s.views j ≡ some v → Knows history serving ticket fixed owner depth (s.homes ≡ none ∷ []) j v
    -- no two seats have one ticket
    pub apart : (i j : ℕ) (v w : View E F) (t : ℕ) → get_elem? s.views i ≡ some v → get_elem? s.views j ≡ some w → ticket_of v.stage ≡ Some t → ticket_of w.stage ≡ Some t → i ≡ j
    -- each place is owned by a seat that there is
    pub held : (k : ℕ) → k < length history → owner k < length s.views
    -- all shares add up to the whole
    pub whole : sum_of (worth depth) s.views ≡ doubled depth 1
    -- each ticket from the served one on is with a seat
    pub counted : sum_of (λ (v : View E F). drawn v.stage) s.views + serving ≡ ticket
    -- some seat has seen all of the history
    pub longest_seen : (j : ℕ) × (v : View E F) × (get_elem? s.views j ≡ some v) × (v.seen ≡ history)
    -- the state is at home and stands for the history, or the seat that is noted has it
    pub home : ((x : S) × (s.homes ≡ some (Some x) ∷ []) × stands x fixed 0 history) ⊎ ((j : ℕ) × (v : View E F) × (get_elem? s.views j ≡ some v) × (t : ℕ) × (v.stage ≡ Noted t))

module _ {E F : Type 0} where
  -- the view at another stage
  abbrev pub staged : Stage → View E F → View E F
  staged stage v = record v { stage = stage }

  -- the view with all of the history so far
  abbrev pub caught_up : List E → View E F → View E F
  caught_up history v = record v { seen = history; told = [] }

  -- the view with one event of its own more, the last of the history
  abbrev pub grown : Option E → View E F → View E F
  grown event v = record v { seen = v.seen ++ added true event; own = marked v.own v.seen }

  -- the two halves, of which the second goes to a new seat
  abbrev pub left_half : View E F → View E F
  left_half v = record v { depth = v.depth + 1 }

  abbrev pub right_half : View E F → View E F
  right_half v = record { fixed = v.fixed; seen = v.seen; told = []; told_fixed = v.fixed; told_part = 0; own = []; own_first = []; own_second = []; part = v.part; depth = v.depth + 1; stage = Idle }

  -- what a note knows
  abbrev pub noted : View E F → View E F
  noted v = record { fixed = v.fixed; seen = v.seen; told = []; told_fixed = v.fixed; told_part = 0; own = []; own_first = []; own_second = []; part = 0; depth = 0; stage = Idle }

  -- what a seat knows that was given up
  abbrev pub spent : F → View E F
  spent x = record { fixed = kept x; seen = []; told = []; told_fixed = kept x; told_part = 0; own = []; own_first = []; own_second = []; part = 0; depth = 0; stage = Idle }

  -- the sum of two shares, in parts as fine as the finer of them
  abbrev pub shares : View E F → View E F → ℕ
  shares v w = doubled (max v.depth w.depth - v.depth) v.part + doubled (max v.depth w.depth - w.depth) w.part

  -- two views in one: the longer of what was seen, and the own events and shares of both
  abbrev pub joined : View E F → View E F → View E F
  joined v w = record { fixed = v.fixed; seen = longest v.seen w.seen; told = w.seen; told_fixed = w.fixed; told_part = w.part; own = any_of v.own w.own; own_first = v.own; own_second = w.own; part = shares v w; depth = max v.depth w.depth; stage = v.stage }

  -- What a load of the history tells: it extends all that was seen and told, the data are those of the view that was joined last, and with the whole share each event is one's own
  pub record CatchesUp (v : View E F) (history : List E) : Type 0 where
    pub sees : IsPrefix v.seen history
    pub tells : IsPrefix v.told history
    pub once : AreApart v.own_first v.own_second
    pub alike : 0 < v.part → 0 < v.told_part → v.fixed.value ≡ v.told_fixed.value
    pub whole : IsWhole v → (v.seen ≡ history) × (picked v.own history ≡ history)

module _ {S E F : Type 0} (stands : S → F → ℕ → List E → Type 0) where
  -- a load of the count tells the history so far
  abbrev pub looks : Step (Option S) → Me (Option S) (View E F) → ℕ → Me (Option S) (View E F) → Type 0
  looks st m r m' = (history : List E) × CatchesUp m.0 history × ((x : S) × stands x m.0.fixed.value 0 history) × (m' ≡ (caught_up history m.0, m.1))

  -- the same by a seat that is served, which gets the state that stands for the history
  abbrev pub enters : Step (Option S) → Me (Option S) (View E F) → ℕ → Me (Option S) (View E F) → Type 0
  enters st m r m' = (t : ℕ) → m.0.stage ≡ Served t
      → (history : List E) × (x : S) × CatchesUp m.0 history × stands x m.0.fixed.value 0 history × (m' ≡ (staged (Noted t) (caught_up history m.0), (0, Some x) ∷ m.1))

module _ {S E F : Type 0} where
  -- a step of the ticket word, which gives the ticket exactly where it found the number that was expected
  abbrev pub draws : Step (Option S) → Me (Option S) (View E F) → ℕ → Me (Option S) (View E F) → Type 0
  draws st m r m' = (r ≡ st.first → m' ≡ (staged (Waits r) m.0, m.1)) × (r ≢ st.first → m' ≡ m)

  -- a load of the serving word: the seat is served exactly where the word is its ticket
  abbrev pub turns : Step (Option S) → Me (Option S) (View E F) → ℕ → Me (Option S) (View E F) → Type 0
  turns st m r m' = (t : ℕ) → m.0.stage ≡ Waits t → (r ≡ t → m' ≡ (staged (Served t) m.0, m.1)) × (r ≢ t → m' ≡ m)

  -- a step of the count, which adds the event
  abbrev pub counts : Option E → Step (Option S) → Me (Option S) (View E F) → ℕ → Me (Option S) (View E F) → Type 0
  counts event st m r m' = m' ≡ (grown event m.0, m.1)

  -- a step of the serving word, which gives up the ticket and the slot
  abbrev pub leaves : Step (Option S) → Me (Option S) (View E F) → ℕ → Me (Option S) (View E F) → Type 0
  leaves st m r m' = m' ≡ (staged Idle m.0, [])
