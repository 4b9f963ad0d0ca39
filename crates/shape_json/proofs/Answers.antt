-- What an answer says of its request.
use Rattle.std.proofs.Common.{◌≡◌, ℕ, Bool, true, false, cond, List, [], ◌∷◌, refl, subst, Option, None, Some, IfSome}
use Rattle.std.specs.Prelude.{not, ◌&&◌, ◌||◌, ◌==◌, find, filter}
use Rattle.std.specs.Bool.{if◌then◌else◌}
use Rattle.std.specs.List.{list_any}
use Rattle.std.specs.Option.{option_map}
use Rattle.std.proofs.lemmas.Bool.{and_parts, and_from}
use Rattle.std.proofs.lemmas.Bool.Decides.{Decides-eqb}
use Rattle.std.proofs.lemmas.Option.{IfSome_then}
use Rattle.shape_base.specs.declared.offset.Offset.{Offset}
use Rattle.shape_base.specs.declared.offset.Offset.TheVariants.{Start, At}
use Rattle.shape_base.specs.declared.handle.Handle.{Handle}
use Rattle.shape_base.specs.declared.ask.Named.{Named}
use Rattle.shape_base.specs.declared.ask.Named.TheVariants.{Absent, Known, Strange}
use Rattle.shape_base.specs.declared.ask.Ask.{Ask}
use Rattle.shape_base.specs.declared.entry.Entry.{Entry}
use Rattle.shape_base.specs.declared.registry_event.RegistryEvent.{RegistryEvent}
use Rattle.shape_base.specs.Tables.{same_text}
use Rattle.shape_base.specs.Offsets.{is_before, past}
use Rattle.shape_base.specs.Log.{end_of}
use Rattle.shape_base.specs.RegistryHistory.{Registration, registrations, was_removed, had_ready, ready_under, live_under, is_live_under}
use Rattle.shape_base.proofs.Lemmas.{Decides-same_text}
use Rattle.shape_json.specs.Page.{Part, page_of}
use Rattle.shape_json.specs.Answer.{Situation, Answer, Paged, Gone, OffsetAhead, NotYet, Starting, Unregistered, in_run, is_empty, answer_first, answer_named, gone, IsAsked, IsNamedReady, IsNamed}
use Rattle.shape_json.specs.Laws.{PagesAreAsked, GoneNamesReady}

-- ---- the handle that is ready under an identity

-- one that is found among those that pass two tests
record IsFound (t f g : Registration → Bool) (rs : List Registration) (r : Registration) : Type 0 where
  pub first : f r ≡ true
  pub second : g r ≡ true
  pub among : list_any (λ (x : Registration). (x.number == r.number) && t x) rs ≡ true

or_second : (a b : Bool) → b ≡ true → (a || b) ≡ true
or_second true b h = refl
or_second false b h = h

or_first : (a b : Bool) → a ≡ true → (a || b) ≡ true
or_first true b h = refl
or_first false b h = cc

found_later : (t f g : Registration → Bool) (x : Registration) (xs : List Registration) (r : Registration) → IsFound t f g xs r → IsFound t f g (x ∷ xs) r
found_later t f g x xs r h = record { first = h.first; second = h.second; among = or_second ((x.number == r.number) && t x) _ h.among }

found_t : (t f g : Registration → Bool) (x : Registration) (xs : List Registration) (later : Option Registration) (b : Bool) → t x ≡ b → f x ≡ true → g x ≡ true → IfSome later (IsFound t f g xs) → IfSome (cond b (Some x) later) (IsFound t f g (x ∷ xs))
found_t t f g x xs later true is fx gx h = record { first = fx; second = gx; among = or_first ((x.number == x.number) && t x) _ (and_from (x.number == x.number) (t x) ((Decides-eqb x.number x.number).1 refl) is) }
found_t t f g x xs later false is fx gx h = IfSome_then later h (found_later t f g x xs)

found_f : (t f g : Registration → Bool) (x : Registration) (xs fs : List Registration) (c : Bool) → f x ≡ c → g x ≡ true → IfSome (find t fs) (IsFound t f g xs) → IfSome (find t (cond c (x ∷ fs) fs)) (IsFound t f g (x ∷ xs))
found_f t f g x xs fs true is gx h = found_t t f g x xs (find t fs) (t x) refl is gx h
found_f t f g x xs fs false is gx h = IfSome_then (find t fs) h (found_later t f g x xs)

found_g : (t f g : Registration → Bool) (x : Registration) (xs gs : List Registration) (d : Bool) → g x ≡ d → IfSome (find t (filter f gs)) (IsFound t f g xs) → IfSome (find t (filter f (cond d (x ∷ gs) gs))) (IsFound t f g (x ∷ xs))
found_g t f g x xs gs true is h = found_f t f g x xs (filter f gs) (f x) refl is h
found_g t f g x xs gs false is h = IfSome_then (find t (filter f gs)) h (found_later t f g x xs)

found : (t f g : Registration → Bool) (rs : List Registration) → IfSome (find t (filter f (filter g rs))) (IsFound t f g rs)
found t f g [] = tt
found t f g (x ∷ xs) = found_g t f g x xs (filter g xs) (g x) refl (found t f g xs)

-- a number is ready, and live under the identity
record IsReady (es : List RegistryEvent) (identity : List ℕ) (number : ℕ) : Type 0 where
  pub ready : had_ready es number ≡ true
  pub under : is_live_under es identity number ≡ true

ready_map : (es : List RegistryEvent) (identity : List ℕ) (o : Option Registration) → IfSome o (IsFound (λ r. same_text r.identity identity) (λ r. had_ready es r.number) (λ r. not (was_removed es r.number)) (registrations es)) → IfSome (option_map (λ (r : Registration). r.number) o) (IsReady es identity)
ready_map es identity None h = tt
ready_map es identity (Some r) h = record { ready = h.first; under = and_from (list_any (λ (x : Registration). (x.number == r.number) && same_text x.identity identity) (registrations es)) _ h.among h.second }

ready_one : (es : List RegistryEvent) (identity : List ℕ) → IfSome (ready_under es identity) (IsReady es identity)
ready_one es identity = ready_map es identity _ (found (λ r. same_text r.identity identity) (λ r. had_ready es r.number) (λ r. not (was_removed es r.number)) (registrations es))

-- ---- answers

-- the same, for the handle that a request names
record IsPagedAs (s : Situation) (ask : Ask) (named : Named) (handle : Handle) (from : Offset) (page : Part) : Type 0 where
  pub run : handle.run ≡ s.run
  pub ready : had_ready s.events handle.number ≡ true
  pub under : is_live_under s.events ask.identity handle.number ≡ true
  pub asked : IsAsked named ask.offset handle from
  pub there : is_before (end_of (s.log handle.number)) from ≡ false
  pub is : page ≡ page_of s.chunk (s.log handle.number) from

record IsGoneAs (s : Situation) (ask : Ask) (named : Named) (instead : Option Handle) : Type 0 where
  pub names : IsNamed named
  pub other : IfSome instead (IsNamedReady s ask)

abbrev Says : Situation → Ask → Named → Answer → Type 0
Says s ask named (Paged handle from page) = IsPagedAs s ask named handle from page
Says s ask named (Gone other) = IsGoneAs s ask named other
Says s ask named (OffsetAhead end) = Unit {0}
Says s ask named NotYet = Unit {0}
Says s ask named (Starting number) = Unit {0}
Says s ask named Unregistered = Unit {0}

not_before_start : (o : Offset) → is_before o Start ≡ false
not_before_start Start = refl
not_before_start (At a i) = refl

says_first : (s : Situation) (ask : Ask) (ready live : Option ℕ) → IfSome ready (IsReady s.events ask.identity) → Says s ask Absent (answer_first s ready live)
says_first s ask (Some number) live h = record { run = refl; ready = h.ready; under = h.under; asked = refl; there = not_before_start (end_of (s.log number)); is = refl }
says_first s ask None (Some number) h = tt
says_first s ask None None h = tt

named_ready : (s : Situation) (ask : Ask) (ready : Option ℕ) → IfSome ready (IsReady s.events ask.identity) → IfSome (option_map (in_run s.run) ready) (IsNamedReady s ask)
named_ready s ask None h = tt
named_ready s ask (Some number) h = record { run = refl; ready = h.ready; under = h.under }

says_gone : (s : Situation) (ask : Ask) (named : Named) → IsNamed named → Says s ask named (gone s ask)
says_gone s ask named h = record { names = h; other = named_ready s ask (ready_under s.events ask.identity) (ready_one s.events ask.identity) }

says_ready : (s : Situation) (ask : Ask) (h : Handle) (log : List Entry) (b c : Bool) → log ≡ s.log h.number → (same_text h.run s.run && is_live_under s.events ask.identity h.number) ≡ true → had_ready s.events h.number ≡ true → is_before (end_of log) ask.offset ≡ b
    → Says s ask (Known h) (if b then OffsetAhead (end_of log) else if c then NotYet else Paged h ask.offset (page_of s.chunk log ask.offset))
says_ready s ask h log true c same live ready before = tt
says_ready s ask h log false true same live ready before = tt
says_ready s ask h log false false same live ready before =
    let both = and_parts (same_text h.run s.run) (is_live_under s.events ask.identity h.number) live in
    record {
      run = (Decides-same_text h.run s.run).0 both.0;
      ready = ready;
      under = both.1;
      asked = (refl, refl);
      there = subst (λ (es : List Entry). is_before (end_of es) ask.offset ≡ false) same before;
      is = subst (λ (es : List Entry). page_of s.chunk log ask.offset ≡ page_of s.chunk es ask.offset) same refl;
    }

says_live : (s : Situation) (ask : Ask) (h : Handle) (b c : Bool) → (same_text h.run s.run && is_live_under s.events ask.identity h.number) ≡ b → had_ready s.events h.number ≡ c
    → Says s ask (Known h) (if b then if c then
    (if is_before (end_of (s.log h.number)) ask.offset then OffsetAhead (end_of (s.log h.number)) else if ask.live && (not s.late && is_empty (past ask.offset (s.log h.number))) then NotYet else Paged h ask.offset (page_of s.chunk (s.log h.number) ask.offset))
    else Starting h.number else gone s ask)
says_live s ask h false c live ready = says_gone s ask (Known h) tt
says_live s ask h true false live ready = tt
says_live s ask h true true live ready = says_ready s ask h (s.log h.number) (is_before (end_of (s.log h.number)) ask.offset) (ask.live && (not s.late && is_empty (past ask.offset (s.log h.number)))) refl live ready refl

says : (s : Situation) (ask : Ask) (named : Named) → Says s ask named (answer_named s ask named)
says s ask Absent = says_first s ask (ready_under s.events ask.identity) (live_under s.events ask.identity) (ready_one s.events ask.identity)
says s ask (Known h) = says_live s ask h (same_text h.run s.run && is_live_under s.events ask.identity h.number) (had_ready s.events h.number) refl refl
says s ask Strange = says_gone s ask Strange tt

pub pages_are_asked : PagesAreAsked
pages_are_asked s ask handle from page e =
    let h : IsPagedAs s ask ask.named handle from page = subst (Says s ask ask.named) e (says s ask ask.named) in
    record { run = h.run; ready = h.ready; under = h.under; asked = h.asked; there = h.there; is = h.is }

pub gone_names_ready : GoneNamesReady
gone_names_ready s ask named e =
    let h : IsGoneAs s ask ask.named named = subst (Says s ask ask.named) e (says s ask ask.named) in
    record { names = h.names; other = h.other }
