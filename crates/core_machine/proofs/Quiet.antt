-- Where nothing happens to a number that an answer could tell.
use Rattle.std.proofs.Common.{◌≡◌, ℕ, zero, suc, ◌+◌, Bool, true, false, ◌||◌, ◌==◌, List, [], ◌∷◌, ◌++◌, length, refl, ap, ◌∙◌, Option, None, Some}
use Rattle.std.specs.List.{slice_get}
use Rattle.std.specs.Bool.{if◌then◌else◌}
use Rattle.std.proofs.lemmas.Bool.Decides.{Decides-eqb}
use Rattle.shape_base.specs.declared.ask.Ask.{Ask}
use Rattle.shape_base.specs.declared.cause.Cause.{Cause}
use Rattle.shape_base.specs.declared.definition.TableDef.{TableDef}
use Rattle.shape_base.specs.declared.registry_event.RegistryEvent.{RegistryEvent}
use Rattle.shape_base.specs.declared.registry_event.RegistryEvent.TheVariants.{Registered, Removed, Redefined}
use Rattle.shape_base.specs.RegistryHistory.{was_removed, had_ready, is_live, last_id}
use Rattle.shape_base.proofs.Lemmas.{was_removed-append, had_ready-append}
use Rattle.shape_json.specs.ShapeHistory.{Reader, Dropped}
use Rattle.core_law.specs.Situation.{Shape, Server, shape_at, log_of_shape}
use Rattle.core_law.specs.Steps.{with_event, change_at, change_shape, with_registry, with_shape_event, redefined, dropped, with_shape}
use Rattle.core_law.specs.Waiting.{IsAsBefore}

or_false : (a b : Bool) → b ≡ false → (a || b) ≡ a
or_false true b e = refl
or_false false b e = e

-- ---- the registry's history

-- one event more that tells nothing of the number
abbrev pub TellsNothing : RegistryEvent → ℕ → Type 0
TellsNothing e m = (was_removed (e ∷ []) m ≡ false) × (had_ready (e ∷ []) m ≡ false)

removed_stays : (es : List RegistryEvent) (e : RegistryEvent) (m : ℕ) → was_removed (e ∷ []) m ≡ false → was_removed (es ++ e ∷ []) m ≡ was_removed es m
removed_stays es e m h = was_removed-append es (e ∷ []) m ∙ or_false (was_removed es m) (was_removed (e ∷ []) m) h

ready_stays : (es : List RegistryEvent) (e : RegistryEvent) (m : ℕ) → had_ready (e ∷ []) m ≡ false → had_ready (es ++ e ∷ []) m ≡ had_ready es m
ready_stays es e m h = had_ready-append es (e ∷ []) m ∙ or_false (had_ready es m) (had_ready (e ∷ []) m) h

pub not_equal : (n m : ℕ) → (n ≡ m → ⊥) → (n == m) ≡ false
not_equal n m other = pick (n == m) refl
  where
    pick : (b : Bool) → (n == m) ≡ b → (n == m) ≡ false
    pick true e = absurd (other ((Decides-eqb n m).0 e))
    pick false e = e

pub removes_other : (n m : ℕ) (cause : Cause) → (n ≡ m → ⊥) → TellsNothing (Removed n cause) m
removes_other n m cause other = (or_false (n == m) false refl ∙ not_equal n m other, refl)

-- ---- shapes

at_apart : (f : Shape → Shape) (xs : List Shape) (i j : ℕ) → (i ≡ j → ⊥) → slice_get (change_at f xs i) j ≡ slice_get xs j
at_apart f [] i j h = refl
at_apart f (x ∷ xs) zero zero h = absurd (h refl)
at_apart f (x ∷ xs) zero (suc j) h = refl
at_apart f (x ∷ xs) (suc i) zero h = refl
at_apart f (x ∷ xs) (suc i) (suc j) h = at_apart f xs i j (λ e. h (ap (λ n. suc n) e))

pub shape_apart : (f : Shape → Shape) (xs : List Shape) (n m : ℕ) → (n ≡ m → ⊥) → shape_at (change_shape f xs n) m ≡ shape_at xs m
shape_apart f xs n zero h = refl
shape_apart f xs zero (suc j) h = refl
shape_apart f xs (suc i) (suc j) h = at_apart f xs i j (λ e. h (ap (λ n. suc n) e))

-- ---- steps

pub quiet_here : (v : Server) (m : ℕ) → IsAsBefore v v m
quiet_here v m = record { removed = refl; ready = refl; log = refl }

pub quiet_then : (u v w : Server) (m : ℕ) → IsAsBefore u v m → IsAsBefore v w m → IsAsBefore u w m
quiet_then u v w m h k = record { removed = k.removed ∙ h.removed; ready = k.ready ∙ h.ready; log = k.log ∙ h.log }

pub quiet_event : (v : Server) (e : RegistryEvent) (m : ℕ) → TellsNothing e m → IsAsBefore v (with_registry v e) m
quiet_event v e m h = record { removed = removed_stays v.registry e m h.0; ready = ready_stays v.registry e m h.1; log = refl }

quiet_shape : (v : Server) (n m : ℕ) (cause : Cause) → (n ≡ m → ⊥) → IsAsBefore v (with_shape_event v n (Dropped cause)) m
quiet_shape v n m cause other = record { removed = refl; ready = refl; log = ap log_of_shape (shape_apart (with_event (Dropped cause)) v.shapes n m other) }

-- another number is dropped
pub quiet_dropped : (v : Server) (n m : ℕ) (cause : Cause) → (n ≡ m → ⊥) → IsAsBefore v (dropped v n cause) m
quiet_dropped v n m cause other = pick (is_live v.registry n)
  where
    w : Server
    w = with_shape_event v n (Dropped cause)

    pick : (b : Bool) → IsAsBefore v (if b then with_registry (with_shape_event v n (Dropped cause)) (Removed n cause) else with_shape_event v n (Dropped cause)) m
    pick true = quiet_then v (with_shape_event v n (Dropped cause)) _ m (quiet_shape v n m cause other) (quiet_event (with_shape_event v n (Dropped cause)) (Removed n cause) m (removes_other n m cause other))
    pick false = quiet_shape v n m cause other

-- a table has a new definition
pub quiet_redefined : (v : Server) (d : Option TableDef) (m : ℕ) → IsAsBefore v (redefined v d) m
quiet_redefined v None m = quiet_here v m
quiet_redefined v (Some d) m = quiet_event v (Redefined d) m (refl, refl)

-- a shape is registered: a number that had none still has no log
more_shapes : (xs : List Shape) (x : Shape) (i : ℕ) → log_of_shape (Some x) ≡ [] → log_of_shape (slice_get (xs ++ x ∷ []) i) ≡ log_of_shape (slice_get xs i)
more_shapes [] x zero h = h
more_shapes [] x (suc i) h = refl
more_shapes (y ∷ xs) x zero h = refl
more_shapes (y ∷ xs) x (suc i) h = more_shapes xs x i h

pub quiet_registered : (v : Server) (ask : Ask) (reader : Reader) (m : ℕ) → IsAsBefore v (with_shape v ask reader) m
quiet_registered v ask reader zero = record { removed = removed_stays v.registry (Registered (length v.shapes + 1) ask.identity ask.table (last_id v.registry)) zero refl; ready = ready_stays v.registry (Registered (length v.shapes + 1) ask.identity ask.table (last_id v.registry)) zero refl; log = refl }
quiet_registered v ask reader (suc i) = record { removed = removed_stays v.registry (Registered (length v.shapes + 1) ask.identity ask.table (last_id v.registry)) (suc i) refl; ready = ready_stays v.registry (Registered (length v.shapes + 1) ask.identity ask.table (last_id v.registry)) (suc i) refl; log = more_shapes v.shapes (record { ask = ask; reader = reader; before = length v.commits; events = [] }) i refl }
