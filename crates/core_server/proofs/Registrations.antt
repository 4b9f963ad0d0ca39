-- A shape is registered.
use Rattle.std.proofs.Common.{◌≡◌, ℕ, zero, suc, ◌+◌, ◌-◌, ◌^◌, ◌≤◌, ◌<◌, Bool, true, false, ◌||◌, ◌==◌, List, [], ◌∷◌, ◌++◌, length, refl, ap, sym, ◌∙◌, subst, arith, length-append, Option, None, Some, inl, inr}
use Rattle.std.specs.Bool.{if◌then◌else◌}
use Rattle.std.specs.Prelude.{is_some, IfSome, IsSomeAnd, map, sum_by, find}
use Rattle.std.specs.List.{slice_get}
use Rattle.std.specs.Option.{option_map, option_and_then, option_or}
use Rattle.std.specs.FinMap as fin
use Rattle.std.proofs.lemmas.Bool.Decides.{Decides-eqb}
use Rattle.std.proofs.lemmas.Option.{slice_get_within}
use Rattle.std.proofs.lemmas.List.Sums.{sum_by_push}
use Rattle.std.proofs.lemmas.List.{map-append, length-map}
use Rattle.shape_base.specs.declared.ask.Ask.{Ask}
use Rattle.shape_base.specs.declared.definition.TableDef.{TableDef}
use Rattle.shape_base.specs.declared.served.Served.{Served}
use Rattle.shape_base.specs.declared.registry_event.RegistryEvent.{RegistryEvent}
use Rattle.shape_base.specs.declared.registry_event.RegistryEvent.TheVariants.{Registered}
use Rattle.shape_base.specs.Shape.{Knows}
use Rattle.shape_base.specs.declared.limits.Limits.{Limits}
use Rattle.shape_base.specs.Tables.{same_text}
use Rattle.shape_base.specs.RegistryHistory as histories
use Rattle.shape_base.specs.RegistryHistory.{RegistryStart, RegistryState, Registration, live_handle, state_after, registration_in, registrations, live_registrations, was_registered, was_removed, had_ready, live_under, last_id, definition_after, IsLegal}
use Rattle.shape_base.proofs.Lemmas.{was_registered-append}
use Rattle.shape_def.specs.declared.defining.Def.{Def}
use Rattle.shape_def.specs.declared.faults.DefError.{DefError}
use Rattle.shape_def.specs.declared.faults.DefError.TheVariants as definitions
use Rattle.shape_def.specs.Clauses.{unread_under}
use Rattle.shape_def.specs.Definition.{refusal_of, knows_for, IsRefusal, IsDefined}
use Rattle.shape_json.specs.ShapeHistory.{Reader}
use Rattle.shape_registry.specs.declared.refusal.Refusal.{Refusal}
use Rattle.shape_registry.specs.ByHistory.{refusal_under, refusal_after}
use Rattle.shape_registry.specs.State.{live_as}
use Rattle.shape_registry.specs.Registry.{IsRefused}
use Rattle.shape_registry.specs.declared.refusal.RegisterError as numbers
use Rattle.shape_registry.specs.declared.refusal.RegisterError.TheVariants.{Exists, TooMany, NumbersSpent, OutOfMemory}
use Rattle.shape_registry.proofs.Growing.{find_of_map, part_grows}
use Rattle.shape_registry.proofs.Legal.{ready_stays, removed_stays, facts_of, never_registered}
use Rattle.shape_state.specs.Standing as standing
use Rattle.http_edge.specs.declared.error_code.ErrorCode.{ErrorCode}
use Rattle.http_edge.specs.declared.error_code.ErrorCode.TheVariants as codes
use Rattle.http_edge.specs.Lawful.{definition_code, refusal_of_limit, refusal_to_register}
use Rattle.http_edge.specs.Lawful as edge
use Rattle.core_law.specs.Situation.{Options, Shape, shape_at, registry_start, known_of, reader_under, reader_for}
use Rattle.core_law.specs.Situation as law
use Rattle.core_law.specs.Steps.{with_shape, bytes_kept, all_bytes}
use Rattle.core_law.proofs.Lists.{place_stays, one_more, last_place}
use Rattle.core_server.specs.declared.server.Server.{Server}
use Rattle.core_server.specs.declared.registering.RegisterError.{RegisterError}
use Rattle.core_server.specs.declared.registering.RegisterError.TheVariants as errors
use Rattle.core_server.specs.Standing.{Kept, knows_in, reader_in, IsKept, StandsFor, IsCatalog, Stands}
use Rattle.core_server.specs.Registers.{definition_refusal, IsDefinedFor, IsRegistered, IsRegisterError, error_of, is_memory}
use Rattle.core_server.proofs.Maps.{inserted_apart, inserted_here}
use Rattle.core_server.proofs.Changing.{stands_on}
use Rattle.core_server.proofs.Dropping.{same_last}

-- ---- the definition

within : {A : Type 0} (xs : List A) (i : ℕ) → i < length xs → is_some (slice_get xs i) ≡ true
within [] i h = absurd (omega (arith, h))
within (x ∷ xs) zero h = refl
within (x ∷ xs) (suc i) h = within xs i (omega (arith, h))

refused_if : (r : Option DefError) (e : DefError) → IsRefusal r e → IsRegisterError (option_map definition_code r) (error_of e)
refused_if r definitions.OutOfMemory h = tt
refused_if r definitions.KeyMissing h = ap (option_map definition_code) h
refused_if r (definitions.UnknownColumn atom) h = ap (option_map definition_code) h
refused_if r definitions.KeyNotSelected h = ap (option_map definition_code) h
refused_if r (definitions.Syntax place) h = ap (option_map definition_code) h
refused_if r (definitions.TooDeep place) h = ap (option_map definition_code) h
refused_if r (definitions.TypeMismatch atom) h = ap (option_map definition_code) h
refused_if r (definitions.BadLiteral atom) h = ap (option_map definition_code) h

refused_under : (ask : Ask) (served : Option Served) (d : TableDef) (e : DefError) → is_some served ≡ true → IfSome served (λ served. IsRefusal (refusal_of served d ask.columns ask.clause) e) → IsRegisterError (edge.refusal_under ask served (Some d)) (error_of e)
refused_under ask None d e some h = cc
refused_under ask (Some served) d e some h = refused_if (refusal_of served d ask.columns ask.clause) e h

pub definition_refused : (o : Options) (v : law.Server) (tables : List Served) (ask : Ask) (d : TableDef) (e : DefError) → tables ≡ o.tables → ask.table < length tables → definition_after o.catalog v.registry ask.table ≡ Some d
    → IfSome (slice_get tables ask.table) (λ served. IsRefusal (refusal_of served d ask.columns ask.clause) e) → IsRegisterError (definition_refusal o v ask) (error_of e)
definition_refused o v tables ask d e same lt now h = subst (λ ts. IsRegisterError (edge.refusal_under ask (slice_get ts ask.table) (definition_after o.catalog v.registry ask.table)) (error_of e)) same
    (subst (λ a. IsRegisterError (edge.refusal_under ask (slice_get tables ask.table) a) (error_of e)) (sym now) (refused_under ask (slice_get tables ask.table) d e (within tables ask.table lt) h))

allowed_under : (ask : Ask) (served : Option Served) (d : TableDef) (k : Knows) → IfSome served (λ served. IsDefined k served d ask.columns ask.clause) → edge.refusal_under ask served (Some d) ≡ None
allowed_under ask None d k h = refl
allowed_under ask (Some served) d k h = ap (option_map definition_code) h.allowed

pub definition_allowed : (o : Options) (v : law.Server) (tables : List Served) (ask : Ask) (d : TableDef) (t : Def) → tables ≡ o.tables → definition_after o.catalog v.registry ask.table ≡ Some d
    → IfSome (slice_get tables ask.table) (λ served. IsDefined (knows_in t) served d ask.columns ask.clause) → knows_for tables ask.table d ask.columns ask.clause ≡ Some (knows_in t) → t.condition.clause ≡ ask.clause → IsDefinedFor o v ask t
definition_allowed o v tables ask d t same now defined knows clause = record {
  allowed = ap (λ a. edge.refusal_under ask (slice_get o.tables ask.table) a) now ∙ ap (λ ts. edge.refusal_under ask (slice_get ts ask.table) (Some d)) (sym same) ∙ allowed_under ask (slice_get tables ask.table) d (knows_in t) defined;
  reads = ap (option_and_then (reader_under o ask)) now
      ∙ ap (λ ts. option_map (with_clause ask.clause) (knows_for ts ask.table d ask.columns ask.clause)) (sym same)
      ∙ ap (option_map (with_clause ask.clause)) knows
      ∙ ap (λ clause. Some (with_clause clause (knows_in t))) (sym clause);
}
  where
    with_clause : Option (List ℕ) → Knows → Reader
    with_clause clause knows = record { knows = knows; unread = unread_under knows.definition.columns clause }

-- ---- the limit

full_if : (a b : Bool) (r : Refusal) (x y : Refusal) (code : ErrorCode) → (if a then Some x else if b then Some y else None) ≡ Some r → (if a || b then Some code else None) ≡ Some code
full_if true b r x y code h = refl
full_if false true r x y code h = refl
full_if false false r x y code h = cc

room_if : (a b : Bool) (x y : Refusal) (code : ErrorCode) → (if a then Some x else if b then Some y else None) ≡ None → (if a || b then Some code else None) ≡ None
room_if true b x y code h = cc
room_if false true x y code h = cc
room_if false false x y code h = refl

-- a registry that gives no number to a free identity is full
pub limit_refused : (o : Options) (v : law.Server) (identity : List ℕ) (r : Refusal) (limit live : ℕ) → live_under v.registry identity ≡ None → refusal_after o.limits.shapes v.registry identity ≡ Some r
    → limit ≡ o.limits.shapes → live ≡ length (live_registrations v.registry) → refusal_of_limit (known_of o v) v.registry ≡ Some (codes.TooManyShapes limit live)
limit_refused o v identity r limit live free h is now = full_if (length (live_registrations v.registry) == o.limits.shapes) (length (registrations v.registry) == 2 ^ 64 - 1) r _ _ _ (ap (refusal_under o.limits.shapes v.registry) (sym free) ∙ h)
    ∙ ap (λ limit. Some (codes.TooManyShapes limit (length (live_registrations v.registry)))) (sym is) ∙ ap (λ live. Some (codes.TooManyShapes limit live)) (sym now)

free_if : (es : List RegistryEvent) (a : Option Registration) → option_map (live_handle es) a ≡ None → option_map (λ (r : Registration). r.number) a ≡ None
free_if es None h = refl
free_if es (Some r) h = cc

-- an identity under which nothing is live is free
pub free_is : (start : RegistryStart) (es : List RegistryEvent) (state : RegistryState) (identity : List ℕ) → state ≡ state_after start es → live_as state identity ≡ None → live_under es identity ≡ None
free_is start es state identity kept h = free_if es (find (λ r. same_text r.identity identity) (live_registrations es))
    (sym (find_of_map (live_handle es) (λ l. same_text l.identity identity) (live_registrations es)) ∙ ap (λ st. live_as st identity) (sym kept) ∙ h)

refused_number : (o : Options) (v : law.Server) (s : Server) (identity : List ℕ) (r : Refusal) → Stands o v s → live_as s.registry.state identity ≡ None → refusal_after o.limits.shapes v.registry identity ≡ Some r
    → refusal_of_limit (known_of o v) v.registry ≡ Some (codes.TooManyShapes s.limits.shapes (length s.registry.state.live))
refused_number o v s identity r h free f = limit_refused o v identity r s.limits.shapes (length s.registry.state.live) (free_is (registry_start o) v.registry s.registry.state identity h.registry.kept free) f
    (ap (λ (l : Limits). l.shapes) h.limits) (ap (λ (st : RegistryState). length st.live) h.registry.kept ∙ length-map (live_registrations v.registry) (live_handle v.registry))

pub limit_allows : (o : Options) (v : law.Server) (identity : List ℕ) → live_under v.registry identity ≡ None → refusal_after o.limits.shapes v.registry identity ≡ None → refusal_of_limit (known_of o v) v.registry ≡ None
limit_allows o v identity free h = room_if (length (live_registrations v.registry) == o.limits.shapes) (length (registrations v.registry) == 2 ^ 64 - 1) _ _ _ (ap (refusal_under o.limits.shapes v.registry) (sym free) ∙ h)

either_refusal : (a b : Option ErrorCode) (e : RegisterError) → a ≡ None → IsRegisterError b e → IsRegisterError (option_or a b) e
either_refusal None b e none h = h
either_refusal (Some code) b e none h = cc

first_refusal : (a b : Option ErrorCode) (e : RegisterError) → IsRegisterError a e → IsRegisterError (option_or a b) e
first_refusal a b (errors.Refused code) h = ap (λ a. option_or a b) h
first_refusal a b errors.OutOfMemory h = tt

-- the error where a registry gives no number, memory aside
pub number_refused : (o : Options) (v : law.Server) (s : Server) (identity : List ℕ) (k : Kept) (e : numbers.RegisterError Kept) → Stands o v s → live_as s.registry.state identity ≡ None → IsRefused (refusal_after o.limits.shapes v.registry identity) k e → is_memory e ≡ false
    → refusal_of_limit (known_of o v) v.registry ≡ Some (codes.TooManyShapes s.limits.shapes (length s.registry.state.live))
number_refused o v s identity k (Exists number back) h free f e = refused_number o v s identity _ h free f.0
number_refused o v s identity k (TooMany live limit back) h free f e = refused_number o v s identity _ h free f.0
number_refused o v s identity k (NumbersSpent back) h free f e = refused_number o v s identity _ h free f.0
number_refused o v s identity k (OutOfMemory back) h free f e = cc

-- the refusal of the definition comes first, and then that of the limit
pub refused_first : (o : Options) (v : law.Server) (ask : Ask) (e : RegisterError) → IsRegisterError (definition_refusal o v ask) e → IsRegisterError (refusal_to_register (known_of o v) v.registry ask) e
refused_first o v ask e h = first_refusal (definition_refusal o v ask) (refusal_of_limit (known_of o v) v.registry) e h

pub refused_then : (o : Options) (v : law.Server) (ask : Ask) (e : RegisterError) → definition_refusal o v ask ≡ None → IsRegisterError (refusal_of_limit (known_of o v) v.registry) e → IsRegisterError (refusal_to_register (known_of o v) v.registry ask) e
refused_then o v ask e none h = either_refusal (definition_refusal o v ask) (refusal_of_limit (known_of o v) v.registry) e none h

-- ---- the situation with a new shape

-- the server where a number was given, and a shape kept for it
pub record Registers (o : Options) (v : law.Server) (ask : Ask) (s t : Server) (number : ℕ) (k : Kept) : Type 0 where
  pub run : t.run ≡ s.run
  pub limits : t.limits ≡ s.limits
  pub tables : t.tables ≡ s.tables
  pub next : number ≡ length (registrations v.registry) + 1
  pub registry : histories.Stands (registry_start o) (v.registry ++ Registered number ask.identity ask.table (last_id v.registry) ∷ []) t.registry.state
  pub catalog : t.registry.state.catalog ≡ s.registry.state.catalog
  pub kept : t.registry.kept ≡ fin.insert s.registry.kept number k
  pub total : t.total ≡ s.total
  pub stands : standing.Stands (reader_in k) k.state []
  pub its_limits : k.state.limits ≡ s.limits

module _ (o : Options) (v : law.Server) (ask : Ask) (s t : Server) (k : Kept) (h : Stands o v s) (c : Registers o v ask s t (length v.shapes + 1) k) where
  abbrev event : RegistryEvent
  event = Registered (length v.shapes + 1) ask.identity ask.table (last_id v.registry)

  abbrev fresh : Shape
  fresh = record { ask = ask; reader = reader_in k; before = length v.commits; events = [] }

  abbrev next : law.Server
  next = with_shape v ask (reader_in k)

  unregistered : was_registered v.registry (length v.shapes + 1) ≡ false
  unregistered = subst (λ n. was_registered v.registry (n + 1) ≡ false) h.counted (never_registered o.limits.shapes v.registry (facts_of o.limits.shapes v.registry h.registry.legal))

  fresh_kept : IsKept o next (length v.shapes + 1) fresh k
  fresh_kept = record {
    reader = refl;
    limits = c.its_limits ∙ h.limits;
    stands = c.stands;
    lives = refl;
    ready = sym (ready_stays v.registry event (length v.shapes + 1) refl ∙ (facts_of o.limits.shapes v.registry h.registry.legal).readied (length v.shapes + 1) unregistered);
    last = omega arith;
  }

  stands_if : (m : ℕ) (x : Shape) (b : Bool) → b ≡ false → IsSomeAnd (fin.get t.registry.kept m) (IsKept o next m x) → StandsFor o next t m x b
  stands_if m x true e f = cc
  stands_if m x false e f = f

  stands_fresh : StandsFor o next t (length v.shapes + 1) fresh (was_removed next.registry (length v.shapes + 1))
  stands_fresh = stands_if (length v.shapes + 1) fresh _ (removed_stays v.registry event (length v.shapes + 1) refl ∙ (facts_of o.limits.shapes v.registry h.registry.legal).removed (length v.shapes + 1) unregistered)
      (subst (λ a. IsSomeAnd a (IsKept o next (length v.shapes + 1) fresh)) (sym (ap (λ m. fin.get m (length v.shapes + 1)) c.kept ∙ inserted_here s.registry.kept (length v.shapes + 1) k)) fresh_kept)

  number_below : (m : ℕ) (x : Shape) → shape_at v.shapes m ≡ Some x → m ≤ length v.shapes
  number_below zero x at = omega arith
  number_below (suc i) x at = let l = slice_get_within v.shapes i x at in omega (arith, l)

  stands_before : (m : ℕ) (x : Shape) → shape_at v.shapes m ≡ Some x → StandsFor o next t m x (was_removed next.registry m)
  stands_before m x at = let below = number_below m x at in subst (StandsFor o next t m x) (sym (removed_stays v.registry event m refl))
      (stands_on o v next s t m x (was_removed v.registry m) (ready_stays v.registry event m refl) (let e = same_last v.registry event refl in omega (arith, e))
      (ap (λ m'. fin.get m' m) c.kept ∙ inserted_apart s.registry.kept (length v.shapes + 1) k m (λ e. omega (arith, e, below))) (h.shapes m x at))

  stands_each : (m : ℕ) (x : Shape) → shape_at next.shapes m ≡ Some x → StandsFor o next t m x (was_removed next.registry m)
  stands_each zero x at = cc
  stands_each (suc i) x at = elim (one_more v.shapes fresh i x at) [
    | inl e ↦ stands_before (suc i) x e
    | inr e ↦ let here : length v.shapes + 1 ≡ suc i = let p = e.0 in omega (arith, p) in
        subst (λ y. StandsFor o next t (suc i) y (was_removed next.registry (suc i))) e.1 (subst (λ m. StandsFor o next t m fresh (was_removed next.registry m)) here stands_fresh)
  ]

  some_before : (m : ℕ) → is_some (shape_at v.shapes m) ≡ true → is_some (shape_at next.shapes m) ≡ true
  some_before zero e = cc
  some_before (suc i) e = pick (slice_get v.shapes i) refl e
    where
      pick : (a : Option Shape) → slice_get v.shapes i ≡ a → is_some a ≡ true → is_some (slice_get next.shapes i) ≡ true
      pick None is e = cc
      pick (Some x) is e = ap is_some (place_stays v.shapes (fresh ∷ []) i x is)

  some_fresh : is_some (shape_at next.shapes (length v.shapes + 1)) ≡ true
  some_fresh = let e : suc (length v.shapes) ≡ length v.shapes + 1 = omega arith in subst (λ m. is_some (shape_at next.shapes m) ≡ true) e (ap is_some (last_place v.shapes fresh))

  known_or : (m : ℕ) (a b : Bool) → was_registered v.registry m ≡ a → (length v.shapes + 1 == m) ≡ b → (a || (b || false)) ≡ true → is_some (shape_at next.shapes m) ≡ true
  known_or m true b e f g = some_before m (h.known m e)
  known_or m false true e f g = subst (λ m. is_some (shape_at next.shapes m) ≡ true) ((Decides-eqb (length v.shapes + 1) m).0 f) some_fresh
  known_or m false false e f g = cc

  pub stands_registered : Stands o next t
  stands_registered = record {
    run = c.run ∙ h.run;
    limits = c.limits ∙ h.limits;
    tables = c.tables ∙ h.tables;
    registry = c.registry;
    catalog = subst (IsCatalog o.tables) (sym c.catalog) h.catalog;
    counted = ap length (part_grows registration_in v.registry event (record { number = length v.shapes + 1; identity = ask.identity; table = ask.table; last = last_id v.registry }) refl)
        ∙ length-append (registrations v.registry) _ ∙ ap (λ n. n + 1) h.counted ∙ sym (length-append v.shapes (fresh ∷ []));
    known = λ m r. known_or m (was_registered v.registry m) (length v.shapes + 1 == m) refl refl (sym (was_registered-append v.registry (event ∷ []) m) ∙ r);
    shapes = stands_each;
    total = c.total ∙ h.total ∙ sym more;
  }
    where
      more : all_bytes o next.shapes ≡ all_bytes o v.shapes
      more = let a = ap (λ ns. sum_by (λ n. n) ns) (map-append (bytes_kept o) v.shapes (fresh ∷ [])) in let b = sum_by_push (λ n. n) (map (bytes_kept o) v.shapes) (bytes_kept o fresh) in
          let z : bytes_kept o fresh ≡ 0 = refl in omega (arith, a, b, z)

pub registered : (o : Options) (v : law.Server) (ask : Ask) (s t : Server) (number : ℕ) (k : Kept) → Stands o v s → IsDefinedFor o v ask k.emitter.test → refusal_of_limit (known_of o v) v.registry ≡ None → Registers o v ask s t number k → IsRegistered o v ask t number
registered o v ask s t number k h d room c = let e : number ≡ length v.shapes + 1 = c.next ∙ ap (λ n. n + 1) h.counted in record {
  allowed = ap (λ a. option_or a (refusal_of_limit (known_of o v) v.registry)) d.allowed ∙ room;
  next = e;
  reader = reader_in k;
  reads = d.reads;
  stands = stands_registered o v ask s t k h (subst (λ n. Registers o v ask s t n k) e c);
}
