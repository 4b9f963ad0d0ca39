-- What is kept of snapshots whose bytes come in pieces.
use Rattle.std.specs.Prelude.{◌≡◌, ◌≤◌, ℕ, true, List, [], ◌∷◌, ◌++◌, length, Option, None, Some, is_some}
use Rattle.std.specs.Ordering.{nat_cmp}
use Rattle.std.specs.BTreeMap.{BTreeMap, get}
use Rattle.pg_dialogue.specs.Course.{course_of}
use Rattle.core_law.specs.Situation.{Options, Situation}
use Rattle.core_law.specs.Run.{Event, turn_of, next_of}
use Rattle.core_law.specs.Laws.{IsStart}
use Rattle.core_law.specs.Reached.{IsReached}
use Rattle.core_machine.specs.Faults.{under_way}
use Rattle.sync_core.specs.declared.snapshots.UnderWay as program
use Rattle.sync_core.specs.declared.snapshots.Progress.{Progress}
use Rattle.sync_core.specs.declared.snapshots.Progress.TheVariants as progresses
use Rattle.sync_core.specs.Run.{said_to}
use Rattle.sync_core.specs.UnderWay.{IsUnderWay, Stood}

-- the snapshots under way, by the exchanges that own them
abbrev pub Kept : Type 0
Kept = BTreeMap ℕ program.UnderWay

-- what is kept for an exchange
abbrev pub kept_for : Kept → ℕ → Option program.UnderWay
kept_for kept e = get nat_cmp kept e

-- What is kept for an exchange is its snapshot under way, with these bytes; where nothing is kept, none came.
abbrev pub IsKept : Options → Situation → ℕ → List ℕ → Option program.UnderWay → Type 0
IsKept o s e said None = said ≡ []
IsKept o s e said (Some under) = IsUnderWay o s e said under

-- nothing came for an exchange, and nothing is kept for it
pub record IsUntouched (e : ℕ) (pieces : List (ℕ × List ℕ)) (kept : Kept) : Type 0 where
  pub unsaid : said_to e pieces ≡ []
  pub none : kept_for kept e ≡ None

-- For each exchange that owns a snapshot under way what came for it is kept, and exchanges that are still to be made are untouched.
pub record AreKept (o : Options) (s : Situation) (pieces : List (ℕ × List ℕ)) (kept : Kept) : Type 0 where
  pub owners : (e : ℕ) → is_some (under_way s e) ≡ true → IsKept o s e (said_to e pieces) (kept_for kept e)
  pub unmade : (e : ℕ) → length s.exchanges ≤ e → IsUntouched e pieces kept

-- A piece came for an exchange, and its snapshot stands so: where it waits it is kept with all that came.
pub record IsReceived (o : Options) (s : Situation) (pieces : List (ℕ × List ℕ)) (e : ℕ) (bytes : List ℕ) (kept : Kept) (progress : Progress) : Type 0 where
  pub stood : Stood o s e (course_of (said_to e (pieces ++ (e, bytes) ∷ []))) progress
  pub waits : progress ≡ progresses.Waits → AreKept o s (pieces ++ (e, bytes) ∷ []) kept

-- the others are kept as before
abbrev pub KeepsOthers : ℕ → Kept → Kept → Type 0
KeepsOthers e old new = (other : ℕ) → (e ≡ other → ⊥) → kept_for new other ≡ kept_for old other

-- What is kept stands for what came, whatever happens to the server and its clients.
abbrev pub KeptStays : Type 0
KeptStays = (o : Options) (s : Situation) (event : Event) (pieces : List (ℕ × List ℕ)) (kept : Kept) → IsStart o → IsReached o s → AreKept o s pieces kept → AreKept o (next_of s (turn_of o s event)) pieces kept
