-- The words of the command line, and the limits that they set.
use Rattle.std.specs.Prelude.{◌≡◌, ◌≢◌, ◌⊎◌, ℕ, ◌≤◌, if◌then◌else◌, List, [], ◌∷◌, Option, None, Some, codes, decimal}
use Rattle.shape_base.specs.declared.limits.Limits.{Limits}
use Rattle.shape_base.specs.Tables.{same_text}

-- the least and the greatest value of an option, by its name
abbrev pub bounds_of : List ℕ → Option (ℕ × ℕ)
bounds_of name =
    if same_text name (codes "--chunk") then Some (4096, 1048576)
    else if same_text name (codes "--log") then Some (1, 67108864)
    else if same_text name (codes "--pending") then Some (1, 67108864)
    else if same_text name (codes "--shapes") then Some (1, 1000)
    else if same_text name (codes "--hold") then Some (0, 86400000)
    else None

-- a text is a canonical decimal between these
pub record IsBetween (value : List ℕ) (least most : ℕ) : Type 0 where
  pub number : ℕ
  pub is : value ≡ decimal number
  pub at_least : least ≤ number
  pub at_most : number ≤ most

abbrev pub IsWithin : List ℕ → Option (ℕ × ℕ) → Type 0
IsWithin value None = ⊥
IsWithin value (Some bounds) = IsBetween value bounds.0 bounds.1

-- one of the options has this name
abbrev pub IsNamed : List ℕ → List (List ℕ) → Type 0
IsNamed name [] = ⊥
IsNamed name (other ∷ []) = ⊥
IsNamed name (other ∷ value ∷ words) = (other ≡ name) ⊎ IsNamed name words

-- words are options, each with a value within its bounds, and none of them twice
abbrev pub AreOptions : List (List ℕ) → Type 0
AreOptions [] = Unit {0}
AreOptions (name ∷ []) = ⊥
AreOptions (name ∷ value ∷ words) = IsWithin value (bounds_of name) × (IsNamed name words → ⊥) × AreOptions words

-- The words of a command line: `replay`, and options.
abbrev pub AreWords : List (List ℕ) → Type 0
AreWords [] = ⊥
AreWords (word ∷ options) = (word ≡ codes "replay") × AreOptions options

-- the value of the option with this name, or the usual one where no option has it
abbrev pub IsSet : List (List ℕ) → List ℕ → ℕ → ℕ → Type 0
IsSet [] name usual n = n ≡ usual
IsSet (other ∷ []) name usual n = n ≡ usual
IsSet (other ∷ value ∷ words) name usual n = ((other ≡ name) × (value ≡ decimal n)) ⊎ ((other ≢ name) × IsSet words name usual n)

-- the limits that options set
pub record AreSet (options : List (List ℕ)) (l : Limits) : Type 0 where
  pub chunk : IsSet options (codes "--chunk") 65536 l.chunk
  pub log : IsSet options (codes "--log") 67108864 l.log
  pub all : l.all ≡ 2147483648
  pub pending : IsSet options (codes "--pending") 67108864 l.pending
  pub shapes : IsSet options (codes "--shapes") 1000 l.shapes
  pub hold : IsSet options (codes "--hold") 20000 l.hold

-- The limits that a command line sets.
abbrev pub AreLimits : List (List ℕ) → Limits → Type 0
AreLimits [] l = ⊥
AreLimits (word ∷ options) l = AreSet options l
