-- An exchange without a reply waits for one number, and by what changes nothing of it gets none.
use Rattle.std.proofs.Common.{◌≡◌, ℕ, Bool, true, false, not, ◌&&◌, ◌||◌, ◌==◌, List, [], ◌∷◌, ◌++◌, map, refl, sym, ◌∙◌, ap, subst, Option, None, Some}
use Rattle.std.specs.Bool.{if◌then◌else◌}
use Rattle.std.specs.List.{list_any, AllByRecursion}
use Rattle.std.specs.Option.{option_map}
use Rattle.std.specs.Prelude.{find, filter, cond}
use Rattle.std.proofs.lemmas.Bool.{and_parts, and_from}
use Rattle.std.proofs.lemmas.Bool.Decides.{Decides-eqb}
use Rattle.shape_base.specs.declared.ask.Ask.{Ask}
use Rattle.shape_base.specs.declared.ask.Named.{Named}
use Rattle.shape_base.specs.declared.ask.Named.TheVariants.{Absent, Known, Strange}
use Rattle.shape_base.specs.declared.handle.Handle.{Handle}
use Rattle.shape_base.specs.declared.registry_event.RegistryEvent.{RegistryEvent}
use Rattle.shape_base.specs.Tables.{same_text}
use Rattle.shape_base.specs.RegistryHistory.{Registration, registrations, live_registrations, ready_registrations, had_ready, was_removed, was_registered_under, is_live_under, is_live_handle, ready_under, live_under, IsLegal}
use Rattle.shape_base.proofs.Lemmas.{Decides-same_text}
use Rattle.shape_json.specs.Answer as answers
use Rattle.shape_json.specs.Answer.{Answer, Starting, answer_ready, answer_first, answer_named, gone}
use Rattle.shape_registry.proofs.Legal.{AreApart, same_name, facts_of}
use Rattle.http_edge.specs.declared.error_code.ErrorCode.{ErrorCode}
use Rattle.http_edge.specs.declared.error_code.ErrorCode.TheVariants as codes
use Rattle.fold_client.specs.Following.{Heard}
use Rattle.http_edge.specs.Lawful.{Asked, Refuses, AsksFor}
use Rattle.core_law.specs.Situation.{Options, Server, shape_at, log_of_shape, Role, Reads, Waits, Owns, HasNone, Exchange, Situation, at_start, answers_from}
use Rattle.core_law.specs.Steps.{refused_with, written_as, written_to, reply_now, heard_at, settled_one, refused_at}
use Rattle.core_law.specs.Run.{turn_of, next_of, after}
use Rattle.core_law.specs.Waiting.{number_named, number_asked, awaited, IsAsBefore, WaitsForOne}
use Rattle.core_law.specs.Laws.{AreSettled}
use Rattle.core_law.specs.Reached.{HasTable, AsksOfTable, IsReached, OthersWait}
use Rattle.core_law.proofs.Lists.{some_same}
use Rattle.core_law.proofs.Server.{Sound, Extends}
use Rattle.core_law.proofs.Registrations.{or_second, still_registered}
use Rattle.core_law.proofs.Worlds.{found_ready}
use Rattle.core_law.proofs.Replies.{HasWait, HasRole}
use Rattle.core_law.proofs.Settled.{answered_at_once}
use Rattle.core_law.proofs.Turns.{all_one_more, all_changed, all_at, AllRoles}
use Rattle.core_law.proofs.ExchangeSteps.{HasNumber, Steps, some_given, after_steps}
use Rattle.core_law.proofs.Reaching.{reached_sound}
use Rattle.core_law.proofs.Runs.{after_both, reached_next}
use Rattle.core_law.proofs.Whole.{sound_after, after_extends, roles_after}

-- ---- one live number under an identity

both : {P : Type 0} (b : Bool) → b ≡ true → b ≡ false → P
both true e h = cc
both false e h = cc

abbrev is_of : List ℕ → ℕ → Registration → Bool
is_of identity n r = (r.number == n) && same_text r.identity identity

-- another with the same identity
no_other_if : (identity : List ℕ) (n : ℕ) (x y : Registration) (b c : Bool) → is_of identity n y ≡ b → same_name y x ≡ false → same_text x.identity identity ≡ true → (b || c) ≡ true → (c ≡ true → ⊥) → ⊥
no_other_if identity n x y true c is differs same any rest =
    let mine : same_text y.identity identity ≡ true = (and_parts (y.number == n) (same_text y.identity identity) is).1 in
    let one : x.identity ≡ y.identity = (Decides-same_text x.identity identity).0 same ∙ sym ((Decides-same_text y.identity identity).0 mine) in
    both (same_text x.identity y.identity) ((Decides-same_text x.identity y.identity).1 one) differs
no_other_if identity n x y false c is differs same any rest = rest any

no_other : (identity : List ℕ) (n : ℕ) (x : Registration) (xs : List Registration) → AllByRecursion (λ y. same_name y x ≡ false) xs → same_text x.identity identity ≡ true → list_any (is_of identity n) xs ≡ true → ⊥
no_other identity n x [] all is any = absurd (both true refl (sym any))
no_other identity n x (y ∷ ys) all is any = no_other_if identity n x y (is_of identity n y) (list_any (is_of identity n) ys) refl all.0 is any (no_other identity n x ys all.1 is)

abbrev number_in : Option Registration → Option ℕ
number_in found = option_map (λ (r : Registration). r.number) found

only_if : (identity : List ℕ) (n : ℕ) (x : Registration) (xs : List Registration) (b c : Bool) → same_text x.identity identity ≡ b → (x.number == n) ≡ c → AllByRecursion (λ y. same_name y x ≡ false) xs → ((c && b) || list_any (is_of identity n) xs) ≡ true
    → (list_any (is_of identity n) xs ≡ true → number_in (find (λ (r : Registration). same_text r.identity identity) xs) ≡ Some n) → number_in (cond b (Some x) (find (λ (r : Registration). same_text r.identity identity) xs)) ≡ Some n
only_if identity n x xs true true same is all any rest = ap (λ k. Some k) ((Decides-eqb x.number n).0 is)
only_if identity n x xs true false same is all any rest = absurd (no_other identity n x xs all same any)
only_if identity n x xs false true same is all any rest = rest any
only_if identity n x xs false false same is all any rest = rest any

only_one : (identity : List ℕ) (n : ℕ) (xs : List Registration) → AreApart same_name xs → list_any (is_of identity n) xs ≡ true → number_in (find (λ (r : Registration). same_text r.identity identity) xs) ≡ Some n
only_one identity n [] apart any = cc
only_one identity n (x ∷ xs) apart any = only_if identity n x xs (same_text x.identity identity) (x.number == n) refl refl apart.0 any (only_one identity n xs apart.1)

-- a test that a number passes leaves it among them
kept_if : (identity : List ℕ) (n : ℕ) (q : ℕ → Bool) (x : Registration) (xs : List Registration) (b c : Bool) → is_of identity n x ≡ b → q x.number ≡ c → q n ≡ true → (b || list_any (is_of identity n) xs) ≡ true → (list_any (is_of identity n) xs ≡ true → list_any (is_of identity n) (filter (λ (r : Registration). q r.number) xs) ≡ true)
    → list_any (is_of identity n) (cond c (x ∷ filter (λ (r : Registration). q r.number) xs) (filter (λ (r : Registration). q r.number) xs)) ≡ true
kept_if identity n q x xs true true is keeps passes any rest = ap (λ b. b || list_any (is_of identity n) (filter (λ (r : Registration). q r.number) xs)) is
kept_if identity n q x xs true false is keeps passes any rest =
    let same : x.number ≡ n = (Decides-eqb x.number n).0 (and_parts (x.number == n) (same_text x.identity identity) is).0 in
    both (q n) passes (ap q (sym same) ∙ keeps)
kept_if identity n q x xs false true is keeps passes any rest = or_second (is_of identity n x) _ (rest any)
kept_if identity n q x xs false false is keeps passes any rest = rest any

kept_among : (identity : List ℕ) (n : ℕ) (q : ℕ → Bool) (xs : List Registration) → q n ≡ true → list_any (is_of identity n) xs ≡ true → list_any (is_of identity n) (filter (λ (r : Registration). q r.number) xs) ≡ true
kept_among identity n q [] passes any = any
kept_among identity n q (x ∷ xs) passes any = kept_if identity n q x xs (is_of identity n x) (q x.number) refl refl passes any (kept_among identity n q xs passes)

abbrev live_test : List RegistryEvent → ℕ → Bool
live_test es k = not (was_removed es k)

-- a number that is live under an identity is the one that is live under it
live_is : (limit : ℕ) (es : List RegistryEvent) (identity : List ℕ) (n : ℕ) → IsLegal limit es → was_registered_under es identity n ≡ true → was_removed es n ≡ false → live_under es identity ≡ Some n
live_is limit es identity n legal under live = only_one identity n (live_registrations es) (facts_of limit es legal).names (kept_among identity n (live_test es) (registrations es) (ap not live) under)

-- and the ready one is that one
ready_is_live : (limit : ℕ) (es : List RegistryEvent) (identity : List ℕ) (n m : ℕ) → IsLegal limit es → was_registered_under es identity n ≡ true → was_removed es n ≡ false → ready_under es identity ≡ Some m → n ≡ m
ready_is_live limit es identity n m legal under live ready = let p = found_ready es identity m ready in
    some_same n m (sym (live_is limit es identity n legal under live) ∙ live_is limit es identity m legal p.under p.live)

all_kept : (P : Registration → Type 0) (q : Registration → Bool) (xs : List Registration) → AllByRecursion P xs → AllByRecursion P (filter q xs)
all_kept P q [] h = tt
all_kept P q (x ∷ xs) h = pick (q x) (all_kept P q xs h.1)
  where
    pick : (b : Bool) → AllByRecursion P (filter q xs) → AllByRecursion P (cond b (x ∷ filter q xs) (filter q xs))
    pick true rest = (h.0, rest)
    pick false rest = rest

apart_kept : (q : Registration → Bool) (xs : List Registration) → AreApart same_name xs → AreApart same_name (filter q xs)
apart_kept q [] h = tt
apart_kept q (x ∷ xs) h = pick (q x) (all_kept (λ y. same_name y x ≡ false) q xs h.0) (apart_kept q xs h.1)
  where
    pick : (b : Bool) → AllByRecursion (λ y. same_name y x ≡ false) (filter q xs) → AreApart same_name (filter q xs) → AreApart same_name (cond b (x ∷ filter q xs) (filter q xs))
    pick true here rest = (here, rest)
    pick false here rest = rest

ready_is : (limit : ℕ) (es : List RegistryEvent) (identity : List ℕ) (n : ℕ) → IsLegal limit es → was_registered_under es identity n ≡ true → was_removed es n ≡ false → had_ready es n ≡ true → ready_under es identity ≡ Some n
ready_is limit es identity n legal under live ready =
    only_one identity n (ready_registrations es) (apart_kept (λ (r : Registration). had_ready es r.number) (live_registrations es) (facts_of limit es legal).names)
    (kept_among identity n (had_ready es) (live_registrations es) ready (kept_among identity n (live_test es) (registrations es) (ap not live) under))

none_some : (k : ℕ) → ◌≡◌ {A = Option ℕ} None (Some k) → ⊥
none_some k e = cc

-- ---- a named handle

module _ (o : Options) (v w : Server) (on : Extends v w) where
  abbrev Answers : Server → Ask → Answer → Type 0
  Answers u ask answer = written_as o u ask answer ≡ None

  -- an answer that gives no reply gives none anywhere
  none_anywhere : (ask : Ask) (answer : Answer) → Answers v ask answer → Answers w ask answer
  none_anywhere ask (answers.Paged handle from page) e = cc
  none_anywhere ask (answers.Gone named) e = cc
  none_anywhere ask (answers.OffsetAhead end) e = cc
  none_anywhere ask answers.NotYet e = refl
  none_anywhere ask (answers.Starting n) e = refl
  none_anywhere ask answers.Unregistered e = refl

  under_on : (identity : List ℕ) (n : ℕ) → was_registered_under v.registry identity n ≡ true → was_registered_under w.registry identity n ≡ true
  under_on identity n h = ap (λ es. was_registered_under es identity n) on.registry ∙ still_registered v.registry on.events identity n h

  live_on : (identity : List ℕ) (n : ℕ) → was_removed w.registry n ≡ was_removed v.registry n → is_live_under v.registry identity n ≡ true → is_live_under w.registry identity n ≡ true
  live_on identity n same h = let p = and_parts (was_registered_under v.registry identity n) (not (was_removed v.registry n)) h in
      and_from (was_registered_under w.registry identity n) (not (was_removed w.registry n)) (under_on identity n p.0) (ap not same ∙ p.1)

  named_if : (ask : Ask) (handle : Handle) (a b : Bool) → is_live_handle o.run v.registry ask.identity handle ≡ a → had_ready v.registry handle.number ≡ b → IsAsBefore v w handle.number
      → Answers v ask (if a then if b then answer_ready (answers_from o v false) ask handle (log_of_shape (shape_at v.shapes handle.number)) else Starting handle.number else gone (answers_from o v false) ask)
      → Answers w ask (answer_named (answers_from o w false) ask (Known handle))
  named_if ask handle false b live ready same e = cc
  named_if ask handle true b live ready same e =
      let p = and_parts (same_text handle.run o.run) (is_live_under v.registry ask.identity handle.number) live in
      let now : is_live_handle o.run w.registry ask.identity handle ≡ true = and_from (same_text handle.run o.run) (is_live_under w.registry ask.identity handle.number) p.0 (live_on ask.identity handle.number same.removed p.1) in
      let made : had_ready w.registry handle.number ≡ b = same.ready ∙ ready in
      subst (λ a. Answers w ask (if a then if had_ready w.registry handle.number then answer_ready (answers_from o w false) ask handle (log_of_shape (shape_at w.shapes handle.number)) else Starting handle.number else gone (answers_from o w false) ask)) (sym now)
      (subst (λ b. Answers w ask (if b then answer_ready (answers_from o w false) ask handle (log_of_shape (shape_at w.shapes handle.number)) else Starting handle.number)) (sym made)
      (subst (λ log. Answers w ask (if b then answer_ready (answers_from o v false) ask handle log else Starting handle.number)) (sym same.log)
      (none_anywhere ask (if b then answer_ready (answers_from o v false) ask handle (log_of_shape (shape_at v.shapes handle.number)) else Starting handle.number) e)))

  -- ---- a number that was found or registered

  first_ready : (ask : Ask) (ready live : Option ℕ) → Answers v ask (answer_first (answers_from o v false) ready live) → ready ≡ None
  first_ready ask None live e = refl
  first_ready ask (Some n) live e = cc

  first_none : (ask : Ask) (ready live : Option ℕ) → ready ≡ None → Answers w ask (answer_first (answers_from o w false) ready live)
  first_none ask None None h = refl
  first_none ask None (Some n) h = refl
  first_none ask (Some m) live h = cc

  not_ready : (limit : ℕ) (ask : Ask) (n : ℕ) (ready : Option ℕ) → IsLegal limit v.registry → IsLegal limit w.registry → was_registered_under v.registry ask.identity n ≡ true → was_removed v.registry n ≡ false → IsAsBefore v w n
      → ready_under v.registry ask.identity ≡ None → ready_under w.registry ask.identity ≡ ready → ready ≡ None
  not_ready limit ask n None legal later under live same none is = refl
  not_ready limit ask n (Some m) legal later under live same none is =
      let one : n ≡ m = ready_is_live limit w.registry ask.identity n m later (under_on ask.identity n under) (same.removed ∙ live) is in
      let made : had_ready v.registry n ≡ true = sym same.ready ∙ ap (had_ready w.registry) one ∙ (found_ready w.registry ask.identity m is).ready in
      let was = ready_is limit v.registry ask.identity n legal under live made in
      absurd (none_some n (sym none ∙ was))

  -- ---- either

  to_named : (ask : Ask) (named : Named) (n : ℕ) → ask.named ≡ named → number_named named ≡ Some n → IsAsBefore v w n → Answers v ask (answer_named (answers_from o v false) ask named) → Answers w ask (answer_named (answers_from o w false) ask named)
  to_named ask Absent n is number same e = cc
  to_named ask (Known handle) n is number same e = named_if ask handle (is_live_handle o.run v.registry ask.identity handle) (had_ready v.registry handle.number) refl refl (subst (IsAsBefore v w) (sym (some_same handle.number n number)) same) e
  to_named ask Strange n is number same e = cc

  reads_none : (asked : Asked) (n : ℕ) → number_asked asked ≡ Some n → IsAsBefore v w n → written_to o v false asked ≡ None → written_to o w false asked ≡ None
  reads_none (Refuses code) n number same e = cc
  reads_none (AsksFor ask) n number same e = to_named ask ask.named n refl number same e

  waits_none : (limit : ℕ) (asked : Asked) (n : ℕ) → IsLegal limit v.registry → IsLegal limit w.registry → HasWait v asked n → was_removed v.registry n ≡ false → IsAsBefore v w n → written_to o v false asked ≡ None → written_to o w false asked ≡ None
  waits_none limit asked n legal later has live same e =
      let ask = has.ask in
      let before : Answers v has.ask (answer_named (answers_from o v false) has.ask Absent) = subst (λ named. Answers v has.ask (answer_named (answers_from o v false) has.ask named)) has.first (subst (λ asked. written_to o v false asked ≡ None) has.is e) in
      let none = first_ready has.ask (ready_under v.registry has.ask.identity) (live_under v.registry has.ask.identity) before in
      subst (λ asked. written_to o w false asked ≡ None) (sym has.is)
      (subst (λ named. Answers w has.ask (answer_named (answers_from o w false) has.ask named)) (sym has.first)
      (first_none has.ask (ready_under w.registry has.ask.identity) (live_under w.registry has.ask.identity) (not_ready limit has.ask n (ready_under w.registry has.ask.identity) legal later has.under live same none refl)))

  lost_if : (limit : ℕ) (asked : Asked) (n : ℕ) (b : Bool) → was_removed v.registry n ≡ b → IsLegal limit v.registry → IsLegal limit w.registry → HasWait v asked n → IsAsBefore v w n
      → (if b then Some (refused_with codes.SnapshotLost) else written_to o v false asked) ≡ None → (if was_removed w.registry n then Some (refused_with codes.SnapshotLost) else written_to o w false asked) ≡ None
  lost_if limit asked n true gone legal later has same e = cc
  lost_if limit asked n false live legal later has same e = subst (λ b. (if b then Some (refused_with codes.SnapshotLost) else written_to o w false asked) ≡ None) (sym (same.removed ∙ live)) (waits_none limit asked n legal later has live same e)

  pub still_none : (limit : ℕ) (asked : Asked) (role : Role) (n : ℕ) → IsLegal limit v.registry → IsLegal limit w.registry → HasRole v asked role → awaited asked role ≡ Some n → IsAsBefore v w n → reply_now o v false asked role ≡ None → reply_now o w false asked role ≡ None
  still_none limit asked Reads n legal later has number same e = reads_none asked n number same e
  still_none limit asked (Waits m) n legal later has number same e = lost_if limit asked m (was_removed v.registry m) refl legal later has (subst (IsAsBefore v w) (sym (some_same m n number)) same) e
  still_none limit asked (Owns m) n legal later has number same e = lost_if limit asked m (was_removed v.registry m) refl legal later has (subst (IsAsBefore v w) (sym (some_same m n number)) same) e
  still_none limit asked HasNone n legal later has number same e = cc

pub waits_for_one : WaitsForOne
waits_for_one o events later e n x start at none number same =
    let v = (after o at_start events).server in
    let w = (after o at_start (events ++ later)).server in
    let settled : reply_now o v false x.asked x.role ≡ None = all_at (λ (x : Exchange). x.given ≡ None → reply_now o v false x.asked x.role ≡ None) (after o at_start events).exchanges e x at (answered_at_once o events) none in
    let on : Extends v w = subst (λ s. Extends v s.server) (sym (after_both o at_start events later)) (after_extends o (after o at_start events) later) in
    still_none o v w on o.limits.shapes x.asked x.role n (sound_after o events start).legal (sound_after o (events ++ later) start).legal (all_at (λ (x : Exchange). HasRole v x.asked x.role) (after o at_start events).exchanges e x at (roles_after o events)) number same settled

-- ---- an event that changes nothing of what it awaits

number_stays : (o : Options) (v : Server) (late : Exchange → Bool) (x : Exchange) (given : Option Heard) → x.given ≡ given → HasNumber o x → HasNumber o (settled_one o v late x given)
number_stays o v late x None e has = λ ask is first table role none. has ask is first table role e
number_stays o v late x (Some heard) e has = has

number_refused : (o : Options) (v : Server) (code : ErrorCode) (x : Exchange) → HasNumber o x → HasNumber o (refused_at v code x)
number_refused o v code x has = λ ask is first table role none. some_given x.given (heard_at v x.asked (refused_with code)) none

abbrev HaveNumbers : Options → List Exchange → Type 0
HaveNumbers o xs = AllByRecursion (HasNumber o) xs

abbrev KeepNumbers : Options → List Exchange → ℕ → List Exchange → ℕ → Type 0
KeepNumbers o xs now ys later = HaveNumbers o xs → HaveNumbers o ys

numbers_settled : (o : Options) (v : Server) (late : Exchange → Bool) (xs : List Exchange) → HaveNumbers o xs → HaveNumbers o (map (λ x. settled_one o v late x x.given) xs)
numbers_settled o v late [] h = tt
numbers_settled o v late (x ∷ xs) h = (number_stays o v late x x.given refl h.0, numbers_settled o v late xs h.1)

steps : (o : Options) → Steps o (KeepNumbers o)
steps o = record {
  stays = λ xs now h. h;
  joins = λ xs ys zs a b c first second h. second (first h);
  comes = λ xs now x is h. all_one_more (HasNumber o) xs x h is.number;
  answers = λ xs now v late h. numbers_settled o v late xs h;
  refuses = λ xs now v code e h. all_changed (HasNumber o) (refused_at v code) xs e (number_refused o v code) h;
  passes = λ xs now later le h. h;
}

numbers_after : (o : Options) (s : Situation) → IsReached o s → HaveNumbers o s.exchanges
numbers_after o s r = subst (λ (t : Situation). HaveNumbers o t.exchanges) (sym r.is) (after_steps o (KeepNumbers o) (steps o) at_start r.events tt)

named_none : (o : Options) (v w : Server) (ask : Ask) (named : Named) → number_named named ≡ None → (named ≡ Absent → ⊥) → written_as o v ask (answer_named (answers_from o v false) ask named) ≡ None → written_as o w ask (answer_named (answers_from o w false) ask named) ≡ None
named_none o v w ask Absent number some e = absurd (some refl)
named_none o v w ask (Known handle) number some e = cc
named_none o v w ask Strange number some e = cc

-- what awaits no number gets no reply ever
never_one : (o : Options) (v w : Server) (asked : Asked) (role : Role) → awaited asked role ≡ None → ((ask : Ask) → asked ≡ AsksFor ask → role ≡ Reads → ask.named ≡ Absent → ⊥) → reply_now o v false asked role ≡ None → reply_now o w false asked role ≡ None
never_one o v w (Refuses code) Reads number some e = cc
never_one o v w (AsksFor ask) Reads number some e = named_none o v w ask ask.named number (λ first. some ask refl refl first) e
never_one o v w asked (Waits n) number some e = cc
never_one o v w asked (Owns n) number some e = cc
never_one o v w asked HasNone number some e = refl

table_of : (o : Options) (asked : Asked) (ask : Ask) → AsksOfTable o asked → asked ≡ AsksFor ask → HasTable o ask
table_of o (Refuses code) ask has is = cc
table_of o (AsksFor other) ask has is = let same : other ≡ ask = cc in subst (HasTable o) same has

others_if : (o : Options) (v w : Server) (on : Extends v w) (x : Exchange) (n : Option ℕ) → awaited x.asked x.role ≡ n → Sound o v → Sound o w → HasRole v x.asked x.role → HasNumber o x → x.given ≡ None → AsksOfTable o x.asked
    → ((n : ℕ) → awaited x.asked x.role ≡ Some n → IsAsBefore v w n) → reply_now o v false x.asked x.role ≡ None → reply_now o w false x.asked x.role ≡ None
others_if o v w on x None is sound later role number none table same e = never_one o v w x.asked x.role is (λ ask asks reads first. number ask asks first (table_of o x.asked ask table asks) reads none) e
others_if o v w on x (Some n) is sound later role number none table same e = still_none o v w on o.limits.shapes x.asked x.role n sound.legal later.legal role is (same n is) e

pub others_wait : OthersWait
others_wait o s e place x start r at none table same =
    let next = next_of s (turn_of o s e) in
    let settled = subst (λ (t : Situation). AreSettled o t) (sym r.is) (answered_at_once o r.events) in
    let roles = subst (λ (t : Situation). AllRoles t) (sym r.is) (roles_after o r.events) in
    others_if o s.server next.server (after_extends o s (e ∷ [])) x (awaited x.asked x.role) refl (reached_sound o s start r) (reached_sound o next start (reached_next o s e r))
    (all_at (λ (x : Exchange). HasRole s.server x.asked x.role) s.exchanges place x at roles)
    (all_at (HasNumber o) s.exchanges place x at (numbers_after o s r)) none table same
    (all_at (λ (x : Exchange). x.given ≡ None → reply_now o s.server false x.asked x.role ≡ None) s.exchanges place x at settled none)
