-- What is found for a request, and the answer that goes by it.
use Rattle.std.proofs.Common.{◌≡◌, ◌≢◌, ℕ, Bool, true, false, not, ◌&&◌, List, [], ◌∷◌, find, refl, ap, sym, ◌∙◌, subst, Option, None, Some}
use Rattle.std.specs.Bool.{if◌then◌else◌}
use Rattle.std.specs.Option.{option_map, option_and_then}
use Rattle.std.proofs.lemmas.Bool.{and_parts}
use Rattle.shape_base.specs.declared.offset.Offset.{Offset}
use Rattle.shape_base.specs.declared.offset.Offset.TheVariants.{Start, At}
use Rattle.shape_base.specs.declared.entry.Entry.{Entry}
use Rattle.shape_base.specs.declared.handle.Handle.{Handle}
use Rattle.shape_base.specs.declared.ask.Ask.{Ask}
use Rattle.shape_base.specs.declared.ask.Named.{Named}
use Rattle.shape_base.specs.declared.ask.Named.TheVariants.{Absent, Known, Strange}
use Rattle.shape_base.specs.declared.registry_event.RegistryEvent.{RegistryEvent}
use Rattle.shape_base.specs.Tables.{same_text}
use Rattle.shape_base.specs.Offsets.{is_before, past}
use Rattle.shape_base.specs.Log.{end_of}
use Rattle.shape_base.specs.RegistryHistory.{RegistryStart, Registration, was_registered, was_removed, had_ready, is_live, live_registrations, live_under, ready_under, is_live_under, was_registered_under, is_live_handle, live_handle, IsLegal}
use Rattle.shape_base.proofs.Lemmas.{Decides-same_text}
use Rattle.shape_registry.specs.declared.found.Found.{Found}
use Rattle.shape_registry.specs.declared.found.Found.TheVariants as found
use Rattle.shape_registry.specs.State.{ready_number}
use Rattle.shape_registry.specs.ByHistory.{found_under, found_after}
use Rattle.shape_registry.proofs.Growing.{find_of_map}
use Rattle.shape_registry.proofs.Legal.{facts_of}
use Rattle.shape_registry.proofs.Meanings.{ready_is}
use Rattle.shape_json.specs.Page.{page_of}
use Rattle.shape_json.specs.Answer.{Answer, Situation, in_run, is_empty, answer_of, answer_ready, answer_first, answer_named, gone}
use Rattle.shape_json.specs.Answer as answers
use Rattle.shape_json.proofs.Lemmas.{pages_are_asked}
use Rattle.shape_state.specs.declared.paged.Paged as pages
use Rattle.shape_state.specs.declared.paged.Paged.TheVariants as paged
use Rattle.shape_state.specs.Answers.{waits, IsPagedOf}
use Rattle.shared_shapes.specs.declared.asked.Asked.{Asked}
use Rattle.shared_shapes.specs.declared.asked.Asked.TheVariants as asked
use Rattle.shared_shapes.specs.Asking.{start_of, waits_of, IsTold, IsShaped, Says}

-- the number where it is ready
abbrev if_ready : List RegistryEvent → ℕ → Option ℕ
if_ready es n = if had_ready es n then Some n else None

not_true : (b : Bool) → not b ≡ true → b ≡ false
not_true true h = cc
not_true false h = refl

-- ---- the answer, by what is found

abbrev ready_named : Situation → Ask → Named → ℕ → Answer
ready_named s ask Absent n = answers.Paged (in_run s.run n) Start (page_of s.chunk (s.log n) Start)
ready_named s ask (Known h) n = answer_ready s ask (in_run s.run n) (s.log n)
ready_named s ask Strange n = answer_ready s ask (in_run s.run n) (s.log n)

abbrev answer_by : Situation → Ask → Named → Found → Answer
answer_by s ask named (found.Ready n) = ready_named s ask named n
answer_by s ask named (found.Starting n) = answers.Starting n
answer_by s ask named (found.Gone other) = answers.Gone (option_map (in_run s.run) other)
answer_by s ask named found.Unregistered = answers.Unregistered

first_is : (s : Situation) (ask : Ask) (live : Option ℕ) → answer_first s (option_and_then (if_ready s.events) live) live ≡ answer_by s ask Absent (found_under s.events live)
first_is s ask None = refl
first_is s ask (Some n) = pick (had_ready s.events n)
  where
    pick : (b : Bool) → answer_first s (if b then Some n else None) (Some n) ≡ answer_by s ask Absent (if b then found.Ready n else found.Starting n)
    pick true = refl
    pick false = refl

known_is : (s : Situation) (ask : Ask) (h : Handle) (a b : Bool) → is_live_handle s.run s.events ask.identity h ≡ a
    → (if a then if b then answer_ready s ask h (s.log h.number) else answers.Starting h.number else gone s ask)
    ≡ answer_by s ask (Known h) (if a then (if b then found.Ready h.number else found.Starting h.number) else found.Gone (ready_under s.events ask.identity))
known_is s ask h false b is = refl
known_is s ask h true false is = refl
known_is s ask h true true is = let runs = (Decides-same_text h.run s.run).0 (and_parts (same_text h.run s.run) (is_live_under s.events ask.identity h.number) is).0 in
    ap (λ run. answer_ready s ask (in_run run h.number) (s.log h.number)) runs

ready_by : (start : RegistryStart) (es : List RegistryEvent) (legal : IsLegal start.limit es) (identity : List ℕ) → ready_under es identity ≡ option_and_then (if_ready es) (live_under es identity)
ready_by start es legal identity = sym (ready_is start es identity legal) ∙ ap ready_number (find_of_map (live_handle es) (λ l. same_text l.identity identity) (live_registrations es))
    ∙ through (find (λ r. same_text r.identity identity) (live_registrations es))
  where
    through : (a : Option Registration) → ready_number (option_map (live_handle es) a) ≡ option_and_then (if_ready es) (option_map (λ r. r.number) a)
    through None = refl
    through (Some r) = refl

named_is : (limit : ℕ) (s : Situation) (ask : Ask) (named : Named) → IsLegal limit s.events → answer_named s ask named ≡ answer_by s ask named (found_after s.run s.events ask.identity named)
named_is limit s ask Absent legal = ap (λ r. answer_first s r (live_under s.events ask.identity)) (ready_by (record { run = s.run; limit = limit; catalog = [] }) s.events legal ask.identity) ∙ first_is s ask (live_under s.events ask.identity)
named_is limit s ask (Known h) legal = known_is s ask h (is_live_handle s.run s.events ask.identity h) (had_ready s.events h.number) refl
named_is limit s ask Strange legal = refl

pub answer_is : (limit : ℕ) (s : Situation) (ask : Ask) (f : Found) → IsLegal limit s.events → found_after s.run s.events ask.identity ask.named ≡ f → answer_of s ask ≡ answer_by s ask ask.named f
answer_is limit s ask f legal e = named_is limit s ask ask.named legal ∙ ap (answer_by s ask ask.named) e

-- what the registry tells is the answer
pub told_says : (limit : ℕ) (s : Situation) (ask : Ask) (a : Asked) → IsLegal limit s.events → IsTold (found_after s.run s.events ask.identity ask.named) a → Says s ask a
told_says limit s ask (asked.Page n p) legal h = absurd h
told_says limit s ask (asked.NotYet n) legal h = absurd h
told_says limit s ask (asked.Starting n) legal h = answer_is limit s ask (found.Starting n) legal h
told_says limit s ask (asked.Gone o) legal h = answer_is limit s ask (found.Gone o) legal h
told_says limit s ask (asked.OffsetAhead n e) legal h = absurd h
told_says limit s ask asked.Unregistered legal h = answer_is limit s ask found.Unregistered legal h

-- ---- a number that is found ready

pub record IsFoundReady (es : List RegistryEvent) (n : ℕ) : Type 0 where
  pub live : is_live es n ≡ true
  pub ready : had_ready es n ≡ true

unready : (limit : ℕ) (es : List RegistryEvent) (legal : IsLegal limit es) (n : ℕ) (b : Bool) → was_registered es n ≡ b → had_ready es n ≡ true → b ≡ true
unready limit es legal n true e h = refl
unready limit es legal n false e h = let f = (facts_of limit es legal).readied n e in cc

abbrev bare : List ℕ → List RegistryEvent → Situation
bare run es = record { run = run; events = es; log = λ _. []; late = false; chunk = 1 }

-- the same request, from the start
abbrev from_start : Ask → Ask
from_start ask = record ask { offset = Start; live = false }

first_page : (run : List ℕ) (es : List RegistryEvent) (ask : Ask) (named : Named) (n : ℕ) → ready_named (bare run es) (from_start ask) named n ≡ answers.Paged (in_run run n) Start (page_of 1 [] Start)
first_page run es ask Absent n = refl
first_page run es ask (Known h) n = refl
first_page run es ask Strange n = refl

pub ready_found : (limit : ℕ) (run : List ℕ) (es : List RegistryEvent) (ask : Ask) (n : ℕ) → IsLegal limit es → found_after run es ask.identity ask.named ≡ found.Ready n → IsFoundReady es n
ready_found limit run es ask n legal e =
    let p = pages_are_asked (bare run es) (from_start ask) (in_run run n) Start (page_of 1 [] Start) (answer_is limit (bare run es) (from_start ask) (found.Ready n) legal e ∙ first_page run es ask ask.named n) in
    let live = not_true (was_removed es n) (and_parts (was_registered_under es ask.identity n) (not (was_removed es n)) p.under).1 in
    record { live = ap (λ b. b && not (was_removed es n)) (unready limit es legal n (was_registered es n) refl p.ready) ∙ ap not live; ready = p.ready }

-- ---- the answer of a shape

never_before : (o : Offset) → is_before o Start ≡ true → ⊥
never_before Start h = cc
never_before (At lsn pos) h = cc

waits_not : (live late : Bool) (es : List Entry) → (waits live late ≡ true → es ≢ []) → (live && (not late && is_empty es)) ≡ false
waits_not false late es h = refl
waits_not true true es h = refl
waits_not true false [] h = absurd (h refl refl)
waits_not true false (e ∷ es) h = refl

waits_so : (live late : Bool) (es : List Entry) → waits live late ≡ true → es ≡ [] → (live && (not late && is_empty es)) ≡ true
waits_so false late es h e = cc
waits_so true true es h e = cc
waits_so true false es h e = ap is_empty e

abbrev by_tests : Situation → Ask → ℕ → Bool → Bool → Answer
by_tests s ask n ahead wait = if ahead then answers.OffsetAhead (end_of (s.log n)) else if wait then answers.NotYet else answers.Paged (in_run s.run n) ask.offset (page_of s.chunk (s.log n) ask.offset)

tests_are : (s : Situation) (ask : Ask) (n : ℕ) (ahead wait : Bool) → is_before (end_of (s.log n)) ask.offset ≡ ahead → (ask.live && (not s.late && is_empty (past ask.offset (s.log n)))) ≡ wait → answer_ready s ask (in_run s.run n) (s.log n) ≡ by_tests s ask n ahead wait
tests_are s ask n ahead wait a w = ap (λ b. by_tests s ask n b (ask.live && (not s.late && is_empty (past ask.offset (s.log n))))) a ∙ ap (by_tests s ask n ahead) w

says_same : (s : Situation) (ask : Ask) (a b : Asked) → a ≡ b → Says s ask b → Says s ask a
says_same s ask a b e h = subst (λ x. Says s ask x) (sym e) h

module _ (s : Situation) (ask : Ask) (n : ℕ) (a : Asked) where
  later : (p : pages.Paged) → answer_of s ask ≡ answer_ready s ask (in_run s.run n) (s.log n) → IsPagedOf s.chunk (s.log n) ask.offset ask.live s.late p → IsShaped n p a → Says s ask a
  later (paged.Page page) is h f = says_same s ask a (asked.Page n page) f
      (ask.offset, page_of s.chunk (s.log n) ask.offset, is ∙ tests_are s ask n false false h.0 (waits_not ask.live s.late (past ask.offset (s.log n)) h.2), h.1)
  later paged.NotYet is h f = says_same s ask a (asked.NotYet n) f (is ∙ tests_are s ask n false true h.1 (waits_so ask.live s.late (past ask.offset (s.log n)) h.0 h.2))
  later paged.Starting is h f = absurd h
  later (paged.Gone cause) is h f = absurd h
  later (paged.OffsetAhead end) is h f = says_same s ask a (asked.OffsetAhead n end) f
      (is ∙ tests_are s ask n true (ask.live && (not s.late && is_empty (past ask.offset (s.log n)))) h.1 refl ∙ ap answers.OffsetAhead (sym h.0))

  first : (p : pages.Paged) → answer_of s ask ≡ answers.Paged (in_run s.run n) Start (page_of s.chunk (s.log n) Start) → IsPagedOf s.chunk (s.log n) Start false s.late p → IsShaped n p a → Says s ask a
  first (paged.Page page) is h f = says_same s ask a (asked.Page n page) f (Start, page_of s.chunk (s.log n) Start, is, h.1)
  first paged.NotYet is h f = absurd (let e : false ≡ true = h.0 in cc)
  first paged.Starting is h f = absurd h
  first (paged.Gone cause) is h f = absurd h
  first (paged.OffsetAhead end) is h f = absurd (never_before (end_of (s.log n)) h.1)

  by_named : (named : Named) (p : pages.Paged) → answer_of s ask ≡ ready_named s ask named n → IsPagedOf s.chunk (s.log n) (start_of named ask.offset) (waits_of named ask.live) s.late p → IsShaped n p a → Says s ask a
  by_named Absent p is h f = first p is h f
  by_named (Known x) p is h f = later p is h f
  by_named Strange p is h f = later p is h f

  -- what a ready shape tells is the answer
  pub shaped_says : (limit : ℕ) (p : pages.Paged) → IsLegal limit s.events → found_after s.run s.events ask.identity ask.named ≡ found.Ready n
      → IsPagedOf s.chunk (s.log n) (start_of ask.named ask.offset) (waits_of ask.named ask.live) s.late p → IsShaped n p a → Says s ask a
  shaped_says limit p legal e h f = by_named ask.named p (answer_is limit s ask (found.Ready n) legal e) h f
