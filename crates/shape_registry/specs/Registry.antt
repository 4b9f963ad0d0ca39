-- What contracts see of a registry, and what they say of it by its history.
use Rattle.std.specs.Prelude.{◌≡◌, ℕ, Bool, List, [], ◌∷◌, ◌++◌, Option, Some, IfSome, slice_get, refl}
use Rattle.std.specs.Ordering.{nat_cmp}
use Rattle.std.specs.FinMap.{FinMap}
use Rattle.std.specs.FinMap as fin
use Rattle.std.specs.Coded.{Coded, code_by, coded×, coded_ℕ, coded_bool, coded_list, coded_option}
use Rattle.shape_base.specs.declared.definition.Column.{Column}
use Rattle.shape_base.specs.declared.definition.TableDef.{TableDef}
use Rattle.shape_base.specs.declared.registry_event.RegistryEvent.{RegistryEvent}
use Rattle.shape_base.specs.RegistryHistory.{RegistryStart, RegistryState, LiveHandle, Taken, Stands}
use Rattle.shape_registry.specs.declared.refusal.Refusal.{Refusal}
use Rattle.shape_registry.specs.declared.refusal.Refusal.TheVariants as refusals
use Rattle.shape_registry.specs.declared.refusal.RegisterError.{RegisterError}
use Rattle.shape_registry.specs.declared.refusal.RegisterError.TheVariants.{Exists, TooMany, NumbersSpent, OutOfMemory}

-- what a registry keeps of its history, and the value kept for each live number
pub record WithKept (K : Type 0) : Type 0 where
  pub state : RegistryState
  pub kept : FinMap nat_cmp K

-- A fact of each history for which a state stands.
abbrev pub ByHistory : RegistryState → (RegistryStart → List RegistryEvent → Type 0) → Type 0
ByHistory s fact = (start : RegistryStart) (es : List RegistryEvent) → Stands start es s → fact start es

-- The state afterwards stands for each history of the state before, with that event after it.
abbrev pub Adds : RegistryState → RegistryEvent → RegistryState → Type 0
Adds old e new = ByHistory old (λ start es. Stands start (es ++ e ∷ []) new)

-- the definition in each place has that place as its table
abbrev pub ArePlaced : List TableDef → Type 0
ArePlaced defs = (place : ℕ) → IfSome (slice_get defs place) (λ d. d.table ≡ place)

-- The refusal is that one, and has what was to be kept; want of memory comes free.
abbrev pub IsRefused : {K : Type 0} → Option Refusal → K → RegisterError K → Type 0
IsRefused refusal kept (Exists number back) = (refusal ≡ Some (refusals.Exists number)) × (back ≡ kept)
IsRefused refusal kept (TooMany live limit back) = (refusal ≡ Some (refusals.TooMany live limit)) × (back ≡ kept)
IsRefused refusal kept (NumbersSpent back) = (refusal ≡ Some refusals.NumbersSpent) × (back ≡ kept)
IsRefused refusal kept (OutOfMemory back) = back ≡ kept

-- ---- codes

abbrev pub column_code : Coded Column
column_code = code_by (List ℕ × ℕ) (coded× (coded_list coded_ℕ) coded_ℕ) (λ c. (c.name, c.oid)) (λ x. record { name = x.0; oid = x.1 }) (λ _. refl)

abbrev pub definition_code : Coded TableDef
definition_code = code_by (ℕ × (ℕ × List Column)) (coded× coded_ℕ (coded× coded_ℕ (coded_list column_code))) (λ d. (d.table, (d.oid, d.columns))) (λ x. record { table = x.0; oid = x.1.0; columns = x.1.1 }) (λ _. refl)

abbrev pub handle_code : Coded LiveHandle
handle_code = code_by ((ℕ × List ℕ) × (ℕ × (ℕ × Bool))) (coded× (coded× coded_ℕ (coded_list coded_ℕ)) (coded× coded_ℕ (coded× coded_ℕ coded_bool)))
    (λ l. ((l.number, l.identity), (l.table, (l.before, l.ready)))) (λ x. record { number = x.0.0; identity = x.0.1; table = x.1.0; before = x.1.1.0; ready = x.1.1.1 }) (λ _. refl)

abbrev pub taken_code : Coded Taken
taken_code = code_by (ℕ × ℕ) (coded× coded_ℕ coded_ℕ) (λ t. (t.lsn, t.xid)) (λ x. record { lsn = x.0; xid = x.1 }) (λ _. refl)

abbrev pub state_code : Coded RegistryState
state_code = code_by ((List ℕ × ℕ) × ((List TableDef × List LiveHandle) × (ℕ × (ℕ × Option Taken))))
    (coded× (coded× (coded_list coded_ℕ) coded_ℕ) (coded× (coded× (coded_list definition_code) (coded_list handle_code)) (coded× coded_ℕ (coded× coded_ℕ (coded_option taken_code)))))
    (λ s. ((s.run, s.limit), ((s.catalog, s.live), (s.given, (s.taken, s.last)))))
    (λ x. record { run = x.0.0; limit = x.0.1; catalog = x.1.0.0; live = x.1.0.1; given = x.1.1.0; taken = x.1.1.1.0; last = x.1.1.1.1 }) (λ _. refl)

abbrev pub with_kept_code : {K : Type 0} → Coded K → Coded (WithKept K)
with_kept_code {K} code = code_by (RegistryState × FinMap nat_cmp K) (coded× state_code (fin.code coded_ℕ code)) (λ r. (r.state, r.kept)) (λ x. record { state = x.0; kept = x.1 }) (λ _. refl)
