-- What a registry keeps after one event more, and what it keeps by its history.
use Rattle.std.proofs.Common.{◌≡◌, ℕ, Bool, true, false, not, ◌||◌, ◌==◌, List, [], ◌∷◌, ◌++◌, map, Option, None, Some, refl, sym, ◌∙◌, ap, length-append}
use Rattle.std.specs.Prelude.{filter, length, slice_set}
use Rattle.std.specs.List.{AllByRecursion, list_any, last_or}
use Rattle.std.proofs.lemmas.List.{map-append}
use Rattle.std.proofs.lemmas.List.Sums.{fold-append}
use Rattle.std.proofs.lemmas.Bool.Decides.{Decides-eqb}
use Rattle.shape_base.specs.declared.definition.TableDef.{TableDef}
use Rattle.shape_base.specs.declared.registry_event.RegistryEvent.{RegistryEvent}
use Rattle.shape_base.specs.declared.registry_event.RegistryEvent.TheVariants.{Registered, Ready, Removed, Took, Redefined}
use Rattle.shape_base.specs.RegistryHistory.{RegistryStart, Registration, Taken, registrations, registration_in, made_ready, ready_in, transactions, transaction_in, redefinitions, definition_in, was_registered, was_removed, had_ready, taken_before, live_registrations, last_taken, redefined, catalog_after, MayFollow, IsLegal, LiveHandle, RegistryState, live_handle, state_after, Stands}
use Rattle.shape_base.proofs.Lemmas.{legal_next}
use Rattle.shape_registry.specs.State.{after, with_ready}
use Rattle.shape_registry.proofs.Growing.{each_of_filter, map_each, each_from, filter_of_map, each_among, part_stays, part_grows, any_more, before_stays, before_new}
use Rattle.shape_registry.proofs.Legal.{facts_of, live_stays, ready_stays, live_without, new_number, live_grows, grows}

last_of : (o : Option Taken) (xs : List Taken) (x : Taken) → last_or o (xs ++ x ∷ []) ≡ Some x
last_of o [] x = refl
last_of o (y ∷ ys) x = last_of (Some y) ys x

-- each live number was registered
each_registered : (es : List RegistryEvent) → AllByRecursion (λ r. was_registered es r.number ≡ true) (live_registrations es)
each_registered es = each_of_filter (λ r. was_registered es r.number ≡ true) (λ r. not (was_removed es r.number)) (registrations es) (each_among (λ (r : Registration). r.number) (registrations es))

-- what is kept of a handle, by how many transactions were taken before and whether it had Ready
handle_of : Registration → ℕ → Bool → LiveHandle
handle_of r before ready = record { number = r.number; identity = r.identity; table = r.table; before = before; ready = ready }

before_same : (es : List RegistryEvent) (e : RegistryEvent) (r : Registration) → was_registered es r.number ≡ true → taken_before (es ++ e ∷ []) r.number ≡ taken_before es r.number
before_same es e r h = ap (λ xs. length (transactions xs)) (before_stays es e r.number h)

-- the live handles stay where an event is of another kind
handles_stay : (es : List RegistryEvent) (e : RegistryEvent) → ready_in e ≡ None → (rs : List Registration) → AllByRecursion (λ r. was_registered es r.number ≡ true) rs → map (live_handle (es ++ e ∷ [])) rs ≡ map (live_handle es) rs
unfolding handle_of
handles_stay es e none rs all = map_each (live_handle (es ++ e ∷ [])) (live_handle es) rs
    (each_from (λ (r : Registration). was_registered es r.number ≡ true) (λ r. live_handle (es ++ e ∷ []) r ≡ live_handle es r) rs
    (λ r h. ap (λ n. handle_of r n (had_ready (es ++ e ∷ []) r.number)) (before_same es e r h) ∙ ap (λ b. handle_of r (taken_before es r.number) b) (ready_stays es e r.number none)) all)

or_false : (b : Bool) → (b || false) ≡ b
or_false true = refl
or_false false = refl

handles_ready : (es : List RegistryEvent) (n : ℕ) (rs : List Registration) → AllByRecursion (λ r. was_registered es r.number ≡ true) rs → map (live_handle (es ++ Ready n ∷ [])) rs ≡ map (with_ready n) (map (live_handle es) rs)
unfolding handle_of
handles_ready es n [] all = refl
handles_ready es n (r ∷ rs) all = ap (λ l. l ∷ map (live_handle (es ++ Ready n ∷ [])) rs)
    (ap (λ m. handle_of r m (had_ready (es ++ Ready n ∷ []) r.number)) (before_same es (Ready n) r all.0)
    ∙ ap (λ b. handle_of r (taken_before es r.number) b) (ap (λ ns. list_any (λ m. m == r.number) ns) (part_grows ready_in es (Ready n) n refl) ∙ any_more (λ m. m == r.number) (made_ready es) n))
    ∙ ap (λ ls. with_ready n (live_handle es r) ∷ ls) (handles_ready es n rs all.1)

-- ---- the fields of what is kept

kept_with : RegistryStart → List TableDef → List LiveHandle → ℕ → ℕ → Option Taken → RegistryState
kept_with start catalog handles given taken last = record { run = start.run; limit = start.limit; catalog = catalog; live = handles; given = given; taken = taken; last = last }

six : (start : RegistryStart) {c c' : List TableDef} {h h' : List LiveHandle} {g g' t t' : ℕ} {l l' : Option Taken} → c ≡ c' → h ≡ h' → g ≡ g' → t ≡ t' → l ≡ l' → kept_with start c h g t l ≡ kept_with start c' h' g' t' l'
six start p q r s u = cc

given_stays : (es : List RegistryEvent) (e : RegistryEvent) → registration_in e ≡ None → length (registrations (es ++ e ∷ [])) ≡ length (registrations es)
given_stays es e none = ap (λ (rs : List Registration). length rs) (part_stays registration_in es e none)

taken_stays : (es : List RegistryEvent) (e : RegistryEvent) → transaction_in e ≡ None → length (transactions (es ++ e ∷ [])) ≡ length (transactions es)
taken_stays es e none = ap (λ (ts : List Taken). length ts) (part_stays transaction_in es e none)

last_stays : (es : List RegistryEvent) (e : RegistryEvent) → transaction_in e ≡ None → last_taken (es ++ e ∷ []) ≡ last_taken es
last_stays es e none = ap (last_or None) (part_stays transaction_in es e none)

catalog_stays : (first : List TableDef) (es : List RegistryEvent) (e : RegistryEvent) → definition_in e ≡ None → catalog_after first (es ++ e ∷ []) ≡ catalog_after first es
catalog_stays first es e none = ap (redefined first) (part_stays definition_in es e none)

itself : (n : ℕ) → (n == n) ≡ true
itself n = (Decides-eqb n n).1 refl

-- What the events leave with one more is what the state is after it.
pub state_next : (start : RegistryStart) (es : List RegistryEvent) (e : RegistryEvent) → IsLegal start.limit es → MayFollow start.limit es e → state_after start (es ++ e ∷ []) ≡ after (state_after start es) e
unfolding kept_with handle_of
state_next start es (Registered n i t l) legal may = let r : Registration = record { number = n; identity = i; table = t; last = l } in let facts = facts_of start.limit es legal in
    six start (catalog_stays start.catalog es (Registered n i t l) refl)
    (ap (map (live_handle (es ++ Registered n i t l ∷ []))) (live_grows start.limit es (record { number = n; identity = i; table = t; last = l }) (facts_of start.limit es legal) may)
    ∙ map-append (live_handle (es ++ Registered n i t l ∷ [])) (live_registrations es) _
    ∙ ap (λ ls. ls ++ live_handle (es ++ Registered n i t l ∷ []) (record { number = n; identity = i; table = t; last = l }) ∷ []) (handles_stay es (Registered n i t l) refl (live_registrations es) (each_registered es))
    ∙ ap (λ l. map (live_handle es) (live_registrations es) ++ l ∷ [])
    (ap (λ xs. handle_of (record { number = n; identity = i; table = t; last = l }) (length (transactions xs)) (had_ready (es ++ Registered n i t l ∷ []) n))
    (before_new es (Registered n i t l) n (new_number start.limit es (record { number = n; identity = i; table = t; last = l }) (facts_of start.limit es legal) may) (itself n))
    ∙ ap (λ b. handle_of (record { number = n; identity = i; table = t; last = l }) (length (transactions es)) b)
    (ready_stays es (Registered n i t l) n refl ∙ (facts_of start.limit es legal).readied n (new_number start.limit es (record { number = n; identity = i; table = t; last = l }) (facts_of start.limit es legal) may))))
    (ap (λ (rs : List Registration). length rs) (grows start.limit es (record { number = n; identity = i; table = t; last = l }) (facts_of start.limit es legal) may) ∙ length-append (registrations es) _)
    (taken_stays es (Registered n i t l) refl) (last_stays es (Registered n i t l) refl)
state_next start es (Ready n) legal may = six start (catalog_stays start.catalog es (Ready n) refl)
    (ap (map (live_handle (es ++ Ready n ∷ []))) (live_stays es (Ready n) refl refl) ∙ handles_ready es n (live_registrations es) (each_registered es))
    (given_stays es (Ready n) refl) (taken_stays es (Ready n) refl) (last_stays es (Ready n) refl)
state_next start es (Removed n c) legal may = six start (catalog_stays start.catalog es (Removed n c) refl)
    (ap (map (live_handle (es ++ Removed n c ∷ []))) (live_without es n c)
    ∙ handles_stay es (Removed n c) refl (filter (λ r. not (n == r.number)) (live_registrations es)) (each_of_filter (λ r. was_registered es r.number ≡ true) (λ r. not (n == r.number)) (live_registrations es) (each_registered es))
    ∙ sym (filter_of_map (live_handle es) (λ l. not (n == l.number)) (live_registrations es)))
    (given_stays es (Removed n c) refl) (taken_stays es (Removed n c) refl) (last_stays es (Removed n c) refl)
state_next start es (Took lsn xid) legal may = six start (catalog_stays start.catalog es (Took lsn xid) refl)
    (ap (map (live_handle (es ++ Took lsn xid ∷ []))) (live_stays es (Took lsn xid) refl refl) ∙ handles_stay es (Took lsn xid) refl (live_registrations es) (each_registered es))
    (given_stays es (Took lsn xid) refl)
    (ap (λ (ts : List Taken). length ts) (part_grows transaction_in es (Took lsn xid) (record { lsn = lsn; xid = xid }) refl) ∙ length-append (transactions es) _)
    (ap (last_or None) (part_grows transaction_in es (Took lsn xid) (record { lsn = lsn; xid = xid }) refl) ∙ last_of None (transactions es) (record { lsn = lsn; xid = xid }))
state_next start es (Redefined d) legal may = six start
    (ap (redefined start.catalog) (part_grows definition_in es (Redefined d) d refl) ∙ fold-append (λ ds d. slice_set ds d.table d) start.catalog (redefinitions es) (d ∷ []))
    (ap (map (live_handle (es ++ Redefined d ∷ []))) (live_stays es (Redefined d) refl refl) ∙ handles_stay es (Redefined d) refl (live_registrations es) (each_registered es))
    (given_stays es (Redefined d) refl) (taken_stays es (Redefined d) refl) (last_stays es (Redefined d) refl)

-- A registry that stands for a history stands, after one event more that may follow, for the history with it.
pub stands_next : (start : RegistryStart) (es : List RegistryEvent) (s : RegistryState) (e : RegistryEvent) → Stands start es s → MayFollow start.limit es e → Stands start (es ++ e ∷ []) (after s e)
stands_next start es s e stands may = record {
  legal = legal_next start.limit es e stands.legal may;
  kept = ap (λ s. after s e) stands.kept ∙ sym (state_next start es e stands.legal may);
}
