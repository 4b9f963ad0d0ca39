-- What a registry that stands for a history finds is what the history says.
use Rattle.std.proofs.Common.{◌≡◌, ℕ, ◌+◌, ◌-◌, ◌^◌, ◌≤◌, ◌<◌, Bool, true, false, not, cond, ◌&&◌, ◌||◌, ◌==◌, List, [], ◌∷◌, map, Option, None, Some, refl, sym, ◌∙◌, ap, subst, arith}
use Rattle.std.specs.Prelude.{filter, find, length, nat_le, if◌then◌else◌, is_some}
use Rattle.std.specs.List.{AllByRecursion, list_any}
use Rattle.std.specs.Option.{option_map}
use Rattle.std.proofs.lemmas.List.{length-map}
use Rattle.std.proofs.lemmas.Bool.Decides.{Decides-eqb, nat_tests}
use Rattle.shape_base.specs.Tables.{same_text}
use Rattle.shape_base.specs.declared.ask.Named.{Named}
use Rattle.shape_base.specs.declared.ask.Named.TheVariants.{Absent, Known, Strange}
use Rattle.shape_base.specs.declared.registry_event.RegistryEvent.{RegistryEvent}
use Rattle.shape_base.specs.RegistryHistory.{RegistryStart, Registration, registrations, was_registered, was_registered_under, was_removed, had_ready, is_live, is_starting, taken_before, live_registrations, live_numbers, live_under, ready_under, is_live_handle, last_id, MayRegister, IsLegal, LiveHandle, live_handle, state_after}
use Rattle.shape_registry.specs.declared.found.Found.TheVariants as found
use Rattle.shape_registry.specs.declared.refusal.Refusal.TheVariants as refusals
use Rattle.shape_registry.specs.declared.standing.Standing.TheVariants as standings
use Rattle.shape_registry.specs.State.{live_at, live_as, standing_of, standing_in, found_live, found_as, ready_number, gone_in, found_named, found_in, refusal_new, refusal_in}
use Rattle.shape_registry.specs.ByHistory.{standing_after, before_after, found_number, found_under, found_after, refusal_under, refusal_after}
use Rattle.shape_registry.proofs.Linked.{text_decides}
use Rattle.shape_registry.proofs.Growing.{find_of_map}
use Rattle.shape_registry.proofs.Legal.{AreApart, same_number, same_name, facts_of}

-- ---- what a number finds

-- how a number stands among registrations
data IsAt (es : List RegistryEvent) (n : ℕ) : Type 0 where
  Never : find (λ r. r.number == n) (registrations es) ≡ None → is_live es n ≡ false → IsAt es n
  Gone : (r : Registration) → find (λ r. r.number == n) (registrations es) ≡ Some r → was_removed es n ≡ true → IsAt es n
  Lives : (r : Registration) → find (λ r. r.number == n) (registrations es) ≡ Some r → r.number ≡ n → was_removed es n ≡ false → is_live es n ≡ true → IsAt es n

found_is : (n : ℕ) (rs : List Registration) (r : Registration) → find (λ r. r.number == n) rs ≡ Some r → (r.number ≡ n) × (list_any (λ r. r.number == n) rs ≡ true)
found_is n [] r h = cc
found_is n (q ∷ rs) r h = pick (q.number == n) refl (found_is n rs r) h
  where
    pick : (b : Bool) → (q.number == n) ≡ b → (find (λ r. r.number == n) rs ≡ Some r → (r.number ≡ n) × (list_any (λ r. r.number == n) rs ≡ true)) → cond b (Some q) (find (λ r. r.number == n) rs) ≡ Some r → (r.number ≡ n) × ((b || list_any (λ r. r.number == n) rs) ≡ true)
    pick true is rest h = let same : q ≡ r = cc in (ap (λ (r : Registration). r.number) (sym same) ∙ (Decides-eqb q.number n).0 is, refl)
    pick false is rest h = rest h

lost_is : (n : ℕ) (rs : List Registration) → find (λ r. r.number == n) rs ≡ None → list_any (λ r. r.number == n) rs ≡ false
lost_is n [] h = refl
lost_is n (q ∷ rs) h = pick (q.number == n) (lost_is n rs) h
  where
    pick : (b : Bool) → (find (λ r. r.number == n) rs ≡ None → list_any (λ r. r.number == n) rs ≡ false) → cond b (Some q) (find (λ r. r.number == n) rs) ≡ None → (b || list_any (λ r. r.number == n) rs) ≡ false
    pick true rest h = cc
    pick false rest h = rest h

at_number : (es : List RegistryEvent) (n : ℕ) → IsAt es n
at_number es n = pick (find (λ r. r.number == n) (registrations es)) refl (was_removed es n) refl
  where
    both : (a b : Bool) → a ≡ true → b ≡ false → (a && not b) ≡ true
    both true true h g = cc
    both true false h g = refl
    both false b h g = h

    neither : (a b : Bool) → a ≡ false → (a && not b) ≡ false
    neither true b h = cc
    neither false b h = refl

    pick : (o : Option Registration) → find (λ r. r.number == n) (registrations es) ≡ o → (b : Bool) → was_removed es n ≡ b → IsAt es n
    pick None is b gone = Never is (neither (was_registered es n) (was_removed es n) (lost_is n (registrations es) is))
    pick (Some r) is true gone = Gone r is gone
    pick (Some r) is false gone = Lives r is (found_is n (registrations es) r is).0 gone (both (was_registered es n) (was_removed es n) (found_is n (registrations es) r is).1 gone)

-- a find by number among those whose numbers pass
find_passing : (q : ℕ → Bool) (n : ℕ) (rs : List Registration) → find (λ r. r.number == n) (filter (λ r. q r.number) rs) ≡ cond (q n) (find (λ r. r.number == n) rs) None
find_passing q n [] = nothing (q n) None refl
  where
    nothing : (b : Bool) (o : Option Registration) → o ≡ None → None ≡ cond b o None
    nothing true o h = sym h
    nothing false o h = refl
find_passing q n (r ∷ rs) = pick (q r.number) (r.number == n) (q n) refl refl refl (find_passing q n rs)
  where
    same_pass : (a c : Bool) → q r.number ≡ a → q n ≡ c → r.number ≡ n → a ≡ c
    same_pass a c h g is = sym h ∙ ap q is ∙ g

    pick : (a b c : Bool) → q r.number ≡ a → (r.number == n) ≡ b → q n ≡ c → find (λ r. r.number == n) (filter (λ r. q r.number) rs) ≡ cond c (find (λ r. r.number == n) rs) None
        → find (λ r. r.number == n) (cond a (r ∷ filter (λ r. q r.number) rs) (filter (λ r. q r.number) rs)) ≡ cond c (cond b (Some r) (find (λ r. r.number == n) rs)) None
    pick true true true h is g rest = ap (λ b. cond b (Some r) (find (λ r. r.number == n) (filter (λ r. q r.number) rs))) is
    pick true true false h is g rest = let bad : true ≡ false = same_pass true false h g ((Decides-eqb r.number n).0 is) in cc
    pick true false c h is g rest = ap (λ b. cond b (Some r) (find (λ r. r.number == n) (filter (λ r. q r.number) rs))) is ∙ rest
    pick false true true h is g rest = let bad : false ≡ true = same_pass false true h g ((Decides-eqb r.number n).0 is) in cc
    pick false true false h is g rest = rest
    pick false false c h is g rest = rest

live_found : (start : RegistryStart) (es : List RegistryEvent) (n : ℕ) → live_at (state_after start es) n ≡ option_map (live_handle es) (cond (not (was_removed es n)) (find (λ r. r.number == n) (registrations es)) None)
live_found start es n = find_of_map (live_handle es) (λ l. l.number == n) (live_registrations es) ∙ ap (option_map (live_handle es)) (find_passing (λ n. not (was_removed es n)) n (registrations es))

not_live_if : (a b : Bool) → b ≡ true → (a && not b) ≡ false
not_live_if true true h = refl
not_live_if true false h = sym h
not_live_if false b h = refl

gone_at : (start : RegistryStart) (es : List RegistryEvent) (n : ℕ) → was_removed es n ≡ true → live_at (state_after start es) n ≡ None
gone_at start es n h = live_found start es n ∙ ap (λ b. option_map (live_handle es) (cond (not b) (find (λ r. r.number == n) (registrations es)) None)) h

never_at : (start : RegistryStart) (es : List RegistryEvent) (n : ℕ) → find (λ r. r.number == n) (registrations es) ≡ None → live_at (state_after start es) n ≡ None
never_at start es n h = live_found start es n ∙ ap (λ o. option_map (live_handle es) (cond (not (was_removed es n)) o None)) h ∙ nothing (not (was_removed es n))
  where
    nothing : (b : Bool) → option_map (live_handle es) (cond b None None) ≡ None
    nothing true = refl
    nothing false = refl

lives_at : (start : RegistryStart) (es : List RegistryEvent) (n : ℕ) (r : Registration) → find (λ r. r.number == n) (registrations es) ≡ Some r → was_removed es n ≡ false → live_at (state_after start es) n ≡ Some (live_handle es r)
lives_at start es n r h g = live_found start es n ∙ ap (λ b. option_map (live_handle es) (cond (not b) (find (λ r. r.number == n) (registrations es)) None)) g ∙ ap (option_map (live_handle es)) h

standing_handle : (es : List RegistryEvent) (r : Registration) (n : ℕ) → r.number ≡ n → standing_of (Some (live_handle es r)) ≡ (if had_ready es n then standings.Ready else standings.Starting)
standing_handle es r n is = ap (λ k. if had_ready es k then standings.Ready else standings.Starting) is

pub standing_is : (start : RegistryStart) (es : List RegistryEvent) (n : ℕ) → standing_in (state_after start es) n ≡ standing_after es n
standing_is start es n = elim (at_number es n) [
  | Never none live ↦ ap standing_of (never_at start es n none) ∙ sym (ap (λ b. if b then (if had_ready es n then standings.Ready else standings.Starting) else standings.NotLive) live)
  | Gone r is gone ↦ ap standing_of (gone_at start es n gone) ∙ sym (ap (λ b. if b then (if had_ready es n then standings.Ready else standings.Starting) else standings.NotLive) (not_live_if (was_registered es n) (was_removed es n) gone))
  | Lives r is same kept live ↦ ap standing_of (lives_at start es n r is kept) ∙ standing_handle es r n same ∙ sym (ap (λ b. if b then (if had_ready es n then standings.Ready else standings.Starting) else standings.NotLive) live)
]

pub before_is : (start : RegistryStart) (es : List RegistryEvent) (n : ℕ) → option_map (λ l. l.before) (live_at (state_after start es) n) ≡ before_after es n
before_is start es n = elim (at_number es n) [
  | Never none live ↦ ap (option_map (λ (l : LiveHandle). l.before)) (never_at start es n none) ∙ sym (ap (λ b. if b then Some (taken_before es n) else None) live)
  | Gone r is gone ↦ ap (option_map (λ (l : LiveHandle). l.before)) (gone_at start es n gone) ∙ sym (ap (λ b. if b then Some (taken_before es n) else None) (not_live_if (was_registered es n) (was_removed es n) gone))
  | Lives r is same kept live ↦ ap (option_map (λ (l : LiveHandle). l.before)) (lives_at start es n r is kept) ∙ ap (λ k. Some (taken_before es k)) same ∙ sym (ap (λ b. if b then Some (taken_before es n) else None) live)
]

pub live_is : (start : RegistryStart) (es : List RegistryEvent) (n : ℕ) → is_some (live_at (state_after start es) n) ≡ is_live es n
live_is start es n = elim (at_number es n) [
  | Never none live ↦ ap is_some (never_at start es n none) ∙ sym live
  | Gone r is gone ↦ ap is_some (gone_at start es n gone) ∙ sym (not_live_if (was_registered es n) (was_removed es n) gone)
  | Lives r is same kept live ↦ ap is_some (lives_at start es n r is kept) ∙ sym live
]

-- ---- what an identity finds

pub under_is : (start : RegistryStart) (es : List RegistryEvent) (identity : List ℕ) → option_map (λ l. l.number) (live_as (state_after start es) identity) ≡ live_under es identity
under_is start es identity = ap (option_map (λ (l : LiveHandle). l.number)) (find_of_map (live_handle es) (λ l. same_text l.identity identity) (live_registrations es)) ∙ through (find (λ r. same_text r.identity identity) (live_registrations es))
  where
    through : (o : Option Registration) → option_map (λ (l : LiveHandle). l.number) (option_map (live_handle es) o) ≡ option_map (λ r. r.number) o
    through None = refl
    through (Some r) = refl

-- where one has the identity, those that differ from it have not
unlike_others : (r : Registration) (identity : List ℕ) (rs : List Registration) → same_text r.identity identity ≡ true → AllByRecursion (λ q. same_name q r ≡ false) rs → AllByRecursion (λ q. same_text q.identity identity ≡ false) rs
unlike_others r identity [] h all = tt
unlike_others r identity (q ∷ rs) h all = (differ (same_text q.identity identity) refl, unlike_others r identity rs h all.1)
  where
    differ : (b : Bool) → same_text q.identity identity ≡ b → b ≡ false
    differ true is = let same : r.identity ≡ q.identity = (text_decides r.identity identity).0 h ∙ sym ((text_decides q.identity identity).0 is) in
        let t : same_text r.identity q.identity ≡ true = (text_decides r.identity q.identity).1 same in let f : same_text r.identity q.identity ≡ false = all.0 in cc
    differ false is = refl

none_passing : (p : Registration → Bool) (identity : List ℕ) (rs : List Registration) → AllByRecursion (λ q. same_text q.identity identity ≡ false) rs → find (λ q. same_text q.identity identity) (filter p rs) ≡ None
none_passing p identity [] all = refl
none_passing p identity (q ∷ rs) all = pick (p q) (none_passing p identity rs all.1)
  where
    pick : (b : Bool) → find (λ q. same_text q.identity identity) (filter p rs) ≡ None → find (λ q. same_text q.identity identity) (cond b (q ∷ filter p rs) (filter p rs)) ≡ None
    pick true rest = ap (λ c. cond c (Some q) (find (λ q. same_text q.identity identity) (filter p rs))) all.0 ∙ rest
    pick false rest = rest

ready_of : (es : List RegistryEvent) → Option Registration → Option ℕ
ready_of es o = ready_number (option_map (live_handle es) o)

ready_found : (es : List RegistryEvent) (identity : List ℕ) (rs : List Registration) → AreApart same_name rs → ready_of es (find (λ r. same_text r.identity identity) rs) ≡ option_map (λ r. r.number) (find (λ r. same_text r.identity identity) (filter (λ r. had_ready es r.number) rs))
unfolding ready_of
ready_found es identity [] apart = refl
ready_found es identity (r ∷ rs) apart = pick (same_text r.identity identity) (had_ready es r.number) refl refl (ready_found es identity rs apart.1)
  where
    pick : (t b : Bool) → same_text r.identity identity ≡ t → had_ready es r.number ≡ b
        → ready_of es (find (λ r. same_text r.identity identity) rs) ≡ option_map (λ r. r.number) (find (λ r. same_text r.identity identity) (filter (λ r. had_ready es r.number) rs))
        → ready_of es (cond t (Some r) (find (λ r. same_text r.identity identity) rs)) ≡ option_map (λ r. r.number) (find (λ r. same_text r.identity identity) (cond b (r ∷ filter (λ r. had_ready es r.number) rs) (filter (λ r. had_ready es r.number) rs)))
    pick true true is h rest = ap (λ b. cond b (Some r.number) None) h ∙ sym (ap (λ c. option_map (λ (r : Registration). r.number) (cond c (Some r) (find (λ r. same_text r.identity identity) (filter (λ r. had_ready es r.number) rs)))) is)
    pick true false is h rest = ap (λ b. cond b (Some r.number) None) h ∙ sym (ap (option_map (λ (r : Registration). r.number)) (none_passing (λ r. had_ready es r.number) identity rs (unlike_others r identity rs is apart.0)))
    pick false true is h rest = rest ∙ sym (ap (λ c. option_map (λ (r : Registration). r.number) (cond c (Some r) (find (λ r. same_text r.identity identity) (filter (λ r. had_ready es r.number) rs)))) is)
    pick false false is h rest = rest

pub ready_is : (start : RegistryStart) (es : List RegistryEvent) (identity : List ℕ) → IsLegal start.limit es → ready_number (live_as (state_after start es) identity) ≡ ready_under es identity
unfolding ready_of
ready_is start es identity legal = ap ready_number (find_of_map (live_handle es) (λ l. same_text l.identity identity) (live_registrations es)) ∙ ready_found es identity (live_registrations es) (facts_of start.limit es legal).names

-- ---- a handle that is named

under_of : List ℕ → Option Registration → Bool
under_of identity None = false
under_of identity (Some r) = same_text r.identity identity

none_numbered : (r : Registration) (identity : List ℕ) (n : ℕ) (rs : List Registration) → r.number ≡ n → AllByRecursion (λ q. same_number q r ≡ false) rs → list_any (λ q. (q.number == n) && same_text q.identity identity) rs ≡ false
none_numbered r identity n [] is all = refl
none_numbered r identity n (q ∷ rs) is all = pick (q.number == n) (subst (λ k. (q.number == k) ≡ false) is all.0) (none_numbered r identity n rs is all.1)
  where
    pick : (b : Bool) → b ≡ false → list_any (λ q. (q.number == n) && same_text q.identity identity) rs ≡ false → ((b && same_text q.identity identity) || list_any (λ q. (q.number == n) && same_text q.identity identity) rs) ≡ false
    pick true h rest = cc
    pick false h rest = rest

or_none : (a b : Bool) → b ≡ false → (a || b) ≡ a
or_none true b h = refl
or_none false b h = h

registered_under : (identity : List ℕ) (n : ℕ) (rs : List Registration) → AreApart same_number rs → list_any (λ r. (r.number == n) && same_text r.identity identity) rs ≡ under_of identity (find (λ r. r.number == n) rs)
unfolding under_of
registered_under identity n [] apart = refl
registered_under identity n (r ∷ rs) apart = pick (r.number == n) refl (registered_under identity n rs apart.1)
  where
    pick : (b : Bool) → (r.number == n) ≡ b → list_any (λ r. (r.number == n) && same_text r.identity identity) rs ≡ under_of identity (find (λ r. r.number == n) rs)
        → ((b && same_text r.identity identity) || list_any (λ r. (r.number == n) && same_text r.identity identity) rs) ≡ under_of identity (cond b (Some r) (find (λ r. r.number == n) rs))
    pick true is rest = or_none (same_text r.identity identity) _ (none_numbered r identity n rs ((Decides-eqb r.number n).0 is) apart.0)
    pick false is rest = rest

and_false : (a b : Bool) → b ≡ false → (a && b) ≡ false
and_false true b h = h
and_false false b h = refl

and_true : (a b : Bool) → b ≡ true → (a && b) ≡ a
and_true true b h = h
and_true false b h = refl

pub found_is_after : (start : RegistryStart) (es : List RegistryEvent) (identity : List ℕ) (named : Named) → IsLegal start.limit es → found_in (state_after start es) identity named ≡ found_after start.run es identity named
unfolding under_of ready_of
found_is_after start es identity Absent legal = ap found_as (find_of_map (live_handle es) (λ l. same_text l.identity identity) (live_registrations es)) ∙ through (find (λ r. same_text r.identity identity) (live_registrations es))
  where
    through : (o : Option Registration) → found_as (option_map (live_handle es) o) ≡ found_under es (option_map (λ r. r.number) o)
    through None = refl
    through (Some r) = refl
found_is_after start es identity Strange legal = ap (λ o. found.Gone o) (ready_is start es identity legal)
found_is_after start es identity (Known h) legal = elim (at_number es h.number) [
  | Never none live ↦ ap (found_named (state_after start es) identity h) (never_at start es h.number none) ∙ gone
      ∙ sym (ap (λ b. if b then found_number es h.number else found.Gone (ready_under es identity)) (and_false (same_text h.run start.run) _ (ap (λ b. b && not (was_removed es h.number)) (named_is ∙ ap (under_of identity) none))))
  | Gone r is removed ↦ ap (found_named (state_after start es) identity h) (gone_at start es h.number removed) ∙ gone
      ∙ sym (ap (λ b. if b then found_number es h.number else found.Gone (ready_under es identity)) (and_false (same_text h.run start.run) _ (not_live_if (was_registered_under es identity h.number) (was_removed es h.number) removed)))
  | Lives r is same kept live ↦ ap (found_named (state_after start es) identity h) (lives_at start es h.number r is kept)
      ∙ ap (λ o. if same_text h.run start.run && same_text r.identity identity then found_live (live_handle es r) else o) gone
      ∙ ap (λ b. if same_text h.run start.run && b then found_live (live_handle es r) else found.Gone (ready_under es identity)) (sym (and_true (was_registered_under es identity h.number) (not (was_removed es h.number)) (ap not kept) ∙ named_is ∙ ap (under_of identity) is))
      ∙ ap (λ k. if is_live_handle start.run es identity h then found_number es k else found.Gone (ready_under es identity)) same
]
  where
    gone : gone_in (state_after start es) identity ≡ found.Gone (ready_under es identity)
    gone = ap (λ o. found.Gone o) (ready_is start es identity legal)

    named_is : was_registered_under es identity h.number ≡ under_of identity (find (λ r. r.number == h.number) (registrations es))
    named_is = registered_under identity h.number (registrations es) (facts_of start.limit es legal).apart

-- ---- why no number is given

le_is_eq : (m n : ℕ) → n ≤ m → nat_le m n ≡ (n == m)
le_is_eq m n h = grind (arith, nat_tests)

pub refusal_is : (start : RegistryStart) (es : List RegistryEvent) (identity : List ℕ) → IsLegal start.limit es → refusal_in (state_after start es) identity ≡ refusal_after start.limit es identity
refusal_is start es identity legal = through (live_as (state_after start es) identity) ∙ ap (refusal_under start.limit es) (under_is start es identity)
  where
    count : length (map (live_handle es) (live_registrations es)) ≡ length (live_registrations es)
    count = length-map (live_registrations es) (live_handle es)

    through : (o : Option LiveHandle) → (elim o [ None ↦ refusal_new (state_after start es) | Some l ↦ Some (refusals.Exists l.number) ]) ≡ refusal_under start.limit es (option_map (λ l. l.number) o)
    through None = ap (λ n. if nat_le start.limit n then Some (refusals.TooMany n start.limit) else if length (registrations es) == 2 ^ 64 - 1 then Some refusals.NumbersSpent else None) count
        ∙ ap (λ b. if b then Some (refusals.TooMany (length (live_registrations es)) start.limit) else if length (registrations es) == 2 ^ 64 - 1 then Some refusals.NumbersSpent else None) (le_is_eq start.limit (length (live_registrations es)) (facts_of start.limit es legal).within)
    through (Some l) = refl

-- ---- what may follow

no_live : (o : Option ℕ) (limit : ℕ) (es : List RegistryEvent) → refusal_under limit es o ≡ None → o ≡ None
no_live None limit es h = refl
no_live (Some n) limit es h = cc

room_if : (n limit : ℕ) (spent : Bool) → (if n == limit then Some (refusals.TooMany n limit) else if spent then Some refusals.NumbersSpent else None) ≡ None → n ≤ limit → n < limit
room_if n limit spent h le = pick (n == limit) refl h
  where
    apart : (n == limit) ≡ false → n < limit
    apart is = grind (arith, nat_tests)

    pick : (b : Bool) → (n == limit) ≡ b → (if b then Some (refusals.TooMany n limit) else if spent then Some refusals.NumbersSpent else None) ≡ None → n < limit
    pick true is h = cc
    pick false is h = apart is

pub may_register : (start : RegistryStart) (es : List RegistryEvent) (identity : List ℕ) (table : ℕ) → IsLegal start.limit es → refusal_in (state_after start es) identity ≡ None
    → MayRegister start.limit es (record { number = length (registrations es) + 1; identity = identity; table = table; last = last_id es })
may_register start es identity table legal none = let h : refusal_after start.limit es identity ≡ None = sym (refusal_is start es identity legal) ∙ none in
    let free : live_under es identity ≡ None = no_live (live_under es identity) start.limit es h in
    record {
      next = refl;
      free = no_live (live_under es identity) start.limit es h;
      room = room_if (length (live_registrations es)) start.limit (length (registrations es) == 2 ^ 64 - 1) (sym (ap (refusal_under start.limit es) free) ∙ h) (facts_of start.limit es legal).within;
      last = refl;
    }

pub may_start : (start : RegistryStart) (es : List RegistryEvent) (n : ℕ) → standing_in (state_after start es) n ≡ standings.Starting → is_starting es n ≡ true
may_start start es n h = pick (is_live es n) (had_ready es n) (sym (standing_is start es n) ∙ h)
  where
    pick : (a b : Bool) → (if a then (if b then standings.Ready else standings.Starting) else standings.NotLive) ≡ standings.Starting → (a && not b) ≡ true
    pick true true h = cc
    pick true false h = refl
    pick false b h = cc

pub numbers_are : (start : RegistryStart) (es : List RegistryEvent) → map (λ l. l.number) (state_after start es).live ≡ live_numbers es
numbers_are start es = through (live_registrations es)
  where
    through : (rs : List Registration) → map (λ (l : LiveHandle). l.number) (map (live_handle es) rs) ≡ map (λ r. r.number) rs
    through [] = refl
    through (r ∷ rs) = ap (λ ns. r.number ∷ ns) (through rs)
