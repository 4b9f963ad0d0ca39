-- What a check asks of a history and its snapshots.
use Rattle.std.specs.Prelude.{◌≡◌, ℕ, ◌<◌, List, take, length, Some, slice_get}
use Rattle.std.proofs.Common.{◌⊎◌}
use Rattle.std.specs.List.{AllByRecursion}
use Rattle.shape_base.specs.declared.history.History.{History}
use Rattle.shape_base.specs.Tables.{IsGoodHistory}
use Rattle.shape_model.specs.Breaks.{IsFirstBreak}
use Rattle.script_check.specs.declared.premise.Claim as raw
use Rattle.script_check.specs.declared.premise.PremiseError.{PremiseError}
use Rattle.script_check.specs.declared.premise.PremiseError.TheVariants as errors
use Rattle.script_check.specs.Honest.{IsHonestAt}

-- the snapshot was taken after some step
abbrev pub IsHonestClaim : History → raw.Claim → Type 0
IsHonestClaim h claim = (k : ℕ) × IsHonestAt h claim.snapshot k

-- the snapshot's table is a served one
abbrev pub IsServedClaim : History → raw.Claim → Type 0
IsServedClaim h claim = claim.snapshot.definition.table < length h.tables

-- the first snapshot that is not honest came after so many commits
pub record IsFirstDishonest (h : History) (claims : List raw.Claim) (commits : ℕ) : Type 0 where
  pub place : ℕ
  pub claim : raw.Claim
  pub there : slice_get claims place ≡ Some claim
  pub after : claim.commits ≡ commits
  pub before : AllByRecursion (IsHonestClaim h) (take place claims)
  pub dishonest : IsHonestClaim h claim → ⊥

-- The history is good, and each snapshot is honest.
pub record IsPremise (h : History) (claims : List raw.Claim) : Type 0 where
  pub good : IsGoodHistory h
  pub honest : AllByRecursion (IsHonestClaim h) claims

-- The first step that breaks the history; or else how many commits came before the first snapshot that is not honest.
abbrev pub BreaksPremise : History → List raw.Claim → PremiseError → Type 0
BreaksPremise h claims errors.OutOfMemory = Unit {0}
BreaksPremise h claims (errors.Premise step) = IsFirstBreak h step ⊎ (IsGoodHistory h × IsFirstDishonest h claims step)
