-- Where a history breaks the definition of a good one.
use Rattle.std.specs.Prelude.{ℕ, ◌+◌, ◌-◌, ◌<◌, ◌≤◌, length, take, IfSome, slice_get}
use Rattle.shape_base.specs.declared.history.History.{History}
use Rattle.shape_base.specs.Tables.{IsGoodHistory, IsGoodTable}
use Rattle.shape_model.specs.declared.good.HistoryError.{HistoryError}
use Rattle.shape_model.specs.declared.good.HistoryError.TheVariants as errors

-- the history with its first k steps alone
abbrev pub up_to : History → ℕ → History
up_to h k = record h { steps = take k h.steps }

-- The step is the first one that breaks the definition: the history is good before it, and not with it. Step 0 is the base.
pub record IsFirstBreak (h : History) (step : ℕ) : Type 0 where
  pub there : step ≤ length h.steps
  pub broken : IsGoodHistory (up_to h step) → ⊥
  pub before : 0 < step → IsGoodHistory (up_to h (step - 1))

abbrev pub BreaksAt : History → HistoryError → Type 0
BreaksAt h errors.OutOfMemory = Unit {0}
BreaksAt h (errors.BadHistory step) = IsFirstBreak h step

-- table t is good over the first k steps
abbrev pub IsGoodAt : History → ℕ → ℕ → Type 0
IsGoodAt h t k = IfSome (slice_get h.tables t) (λ served. IsGoodTable (up_to h k) t served)

-- table t is good over that many of the first steps, and not over one more of them
pub record IsGoodTo (h : History) (t most count : ℕ) : Type 0 where
  pub bound : count ≤ most
  pub good : IsGoodAt h t count
  pub broken : count < most → IsGoodAt h t (count + 1) → ⊥
