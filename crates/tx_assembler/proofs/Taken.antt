-- One message more of a stream, and one stretch more.
use Rattle.std.proofs.Common.{◌≡◌, ℕ, Bool, true, false, List, [], ◌∷◌, ◌++◌, map, refl, sym, ap, ◌∙◌, append_assoc, Ok, Err, Some, None}
use Rattle.std.specs.Prelude.{MatchBool}
use Rattle.std.specs.FinMap as fin
use Rattle.std.proofs.lemmas.List.{append-nil}
use Rattle.pgout.specs.declared.message.Message.{Message}
use Rattle.shape_base.specs.declared.change.Tx.{Tx}
use Rattle.shape_base.specs.declared.served.Served.{Served}
use Rattle.relation_cache.specs.Relations.{ByOid}
use Rattle.tx_assembler.specs.declared.answer.Fed.{Fed}
use Rattle.tx_assembler.specs.declared.answer.Fed.TheVariants as answers
use Rattle.tx_assembler.specs.declared.stage.Stage.TheVariants.{Refused}
use Rattle.tx_assembler.specs.Answers.{Answer, is_memory}
use Rattle.tx_assembler.specs.Situation.{Situation}
use Rattle.tx_assembler.specs.Feeding.{Turn, with_stage, turn_of, IsFed}
use Rattle.tx_assembler.specs.Shown.{Stretch, messages_of, pieces_of, greatest_of, Verdict, refused_after, taken_from, taken_of, shown_in, shown_from, shown}
use Rattle.tx_assembler.specs.Stream.{after_turn, told, after_all, at_start, reopened, due_after, due_by, due_from, due_one, unless_due, due_behind, due_next, if_given, given_in, last_over, sent, HasTaken, TookOne, TakesOn, BeginsOn, IsLastTaken}
use Rattle.tx_assembler.proofs.Standing.{standing, put_by, turn_by, Stands, turned, stands_on, stands_first}
use Rattle.tx_assembler.proofs.Runs.{refused_all, reopened_so, none_given, given_so}

-- ---- what is due

after_more : (s : Situation) (ms : List Message) (m : Message) → after_all s (ms ++ m ∷ []) ≡ after_turn (after_all s ms) (turn_of (after_all s ms) m)
after_more s [] m = refl
after_more s (x ∷ ms) m = after_more (after_turn s (turn_of s x)) ms m

told_by : (v : Verdict) (after : Situation) (fed : Fed) → told (turn_by v (after, fed)) ≡ due_one v fed
told_by None after fed = refl
told_by (Some e) after fed = refl

due_step : (v : Verdict) (turn : Answer Turn) (s after : Situation) (fed : Fed) (xs : List Message) (m : Message) (later : Answer Fed) → turn ≡ turn_by v (after, fed) → (v ≡ None → told (turn_of (after_all after xs) m) ≡ later)
    → told (turn_of (after_all (after_turn s turn) xs) m) ≡ unless_due v later
due_step None turn s after fed xs m later h go = ap (λ (t : Answer Turn). told (turn_of (after_all (after_turn s t) xs) m)) h ∙ go refl
due_step (Some e) turn s after fed xs m later h go = ap (λ (t : Answer Turn). told (turn_of (after_all (after_turn s t) xs) m)) h ∙ ap (λ (r : Situation). told (turn_of r m)) (refused_all s e xs)

due_so : (tables : List Served) (last : ℕ) (before : List Message) (known : ByOid) → Stands tables before known → (ms : List Message) (m : Message) → told (turn_of (after_all (standing tables last before known) ms) m) ≡ due_behind tables last before ms m
due_so tables last before known s [] m = ap told (turned tables last before known s m) ∙ told_by (refused_after tables last before m) (standing tables last (before ++ m ∷ []) (put_by known m)) (due_after tables last before m)
due_so tables last before known s (x ∷ xs) m =
    due_step (refused_after tables last before x) (turn_of (standing tables last before known) x) (standing tables last before known) (standing tables last (before ++ x ∷ []) (put_by known x)) (due_after tables last before x) xs m
    (due_behind tables last (before ++ x ∷ []) xs m) (turned tables last before known s x) (λ none. due_so tables last (before ++ x ∷ []) (put_by known x) (stands_on tables last before known s x none) xs m)

-- ---- what is shown

messages_sent : (ms : List Message) → messages_of (sent ms) ≡ ms
messages_sent [] = refl
messages_sent (m ∷ ms) = ap (λ (xs : List Message). m ∷ xs) (messages_sent ms)

shown_append : (tables : List Served) (last : ℕ) (xs ys : List Stretch) → shown_from tables last (xs ++ ys) ≡ shown_from tables last xs ++ shown_from tables (last_over tables last xs) ys
shown_append tables last [] ys = refl
shown_append tables last (x ∷ xs) ys =
    let here = shown_in tables [] last (pieces_of (taken_of tables last x)) in
    let next = greatest_of last (pieces_of (taken_of tables last x)) in
    ap (λ (txs : List Tx). here ++ txs) (shown_append tables next xs ys) ∙ sym (append_assoc here (shown_from tables next xs) (shown_from tables (last_over tables next xs) ys))

one_stretch : (tables : List Served) (last : ℕ) (ms : List Message) → shown_from tables last (sent ms ∷ []) ≡ given_in (due_from tables last [] ms)
one_stretch tables last ms =
    append-nil (shown_in tables [] last (pieces_of (taken_of tables last (sent ms))))
    ∙ ap (λ (xs : List Message). shown_in tables [] last (pieces_of (taken_from tables last [] xs))) (messages_sent ms) ∙ given_so tables last [] ms

shown_present : (tables : List Served) (done : List Stretch) (ms : List Message) → shown tables (done ++ sent ms ∷ []) ≡ shown_from tables 0 done ++ given_in (due_from tables (last_over tables 0 done) [] ms)
shown_present tables done ms = shown_append tables 0 done (sent ms ∷ []) ∙ ap (λ (txs : List Tx). shown_from tables 0 done ++ txs) (one_stretch tables (last_over tables 0 done) ms)

given_one : (v : Verdict) (fed : Fed) → given_in (due_by v fed [] []) ≡ if_given (due_one v fed) []
given_one None fed = refl
given_one (Some e) fed = refl

given_then : (fed : Fed) (xs ys : List Tx) → if_given (Ok fed) (xs ++ ys) ≡ if_given (Ok fed) xs ++ ys
given_then answers.Nothing xs ys = refl
given_then (answers.Tx tx) xs ys = refl
given_then (answers.Repeat lsn last) xs ys = refl

given_step : (v : Verdict) (fed : Fed) (later more : List (Answer Fed)) (next : Answer Fed) (xs : List Message) (m : Message) → given_in more ≡ given_in later ++ if_given next []
    → given_in (due_by v fed more (xs ++ m ∷ [])) ≡ given_in (due_by v fed later xs) ++ if_given (unless_due v next) []
given_step None fed later more next xs m h = ap (if_given (Ok fed)) h ∙ given_then fed (given_in later) (if_given next [])
given_step (Some e) fed later more next xs m h = none_given e (xs ++ m ∷ []) ∙ sym (append-nil (given_in (map (λ x. Err e) xs)) ∙ none_given e xs)

given_more : (tables : List Served) (last : ℕ) (before ms : List Message) (m : Message) → given_in (due_from tables last before (ms ++ m ∷ [])) ≡ given_in (due_from tables last before ms) ++ if_given (due_behind tables last before ms m) []
given_more tables last before [] m = given_one (refused_after tables last before m) (due_after tables last before m)
given_more tables last before (x ∷ xs) m =
    given_step (refused_after tables last before x) (due_after tables last before x) (due_from tables last (before ++ x ∷ []) xs) (due_from tables last (before ++ x ∷ []) (xs ++ m ∷ [])) (due_behind tables last (before ++ x ∷ []) xs m) xs m
    (given_more tables last (before ++ x ∷ []) xs m)

shown_more : (tables : List Served) (done : List Stretch) (present : List Message) (m : Message) → shown tables (done ++ sent (present ++ m ∷ []) ∷ []) ≡ shown tables (done ++ sent present ∷ []) ++ if_given (due_next tables done present m) []
shown_more tables done present m =
    let first = shown_from tables 0 done in
    let last = last_over tables 0 done in
    shown_present tables done (present ++ m ∷ [])
    ∙ ap (λ (txs : List Tx). first ++ txs) (given_more tables last [] present m)
    ∙ sym (append_assoc first (given_in (due_from tables last [] present)) (if_given (due_next tables done present m) []))
    ∙ ap (λ (txs : List Tx). txs ++ if_given (due_next tables done present m) []) (sym (shown_present tables done present))

-- ---- what an assembler has taken

took_one : (tables : List Served) (done : List Stretch) (present : List Message) (m : Message) (old new : Situation) (answer : Answer Fed) → HasTaken tables done present old → told (turn_of old m) ≡ answer → after_turn old (turn_of old m) ≡ new
    → TookOne tables done present m answer new
took_one tables done present m old new answer h t a =
    let last = last_over tables 0 done in
    let due : answer ≡ due_next tables done present m = sym t ∙ ap (λ (s : Situation). told (turn_of s m)) h.is ∙ due_so tables last [] fin.empty (stands_first tables) present m in
    record {
      due = due;
      taken = record { is = sym a ∙ ap (λ (s : Situation). after_turn s (turn_of s m)) h.is ∙ sym (after_more (at_start tables last) present m) };
      grown = shown_more tables done present m ∙ ap (λ (x : Answer Fed). shown tables (done ++ sent present ∷ []) ++ if_given x []) (sym due);
    }

unless_memory : (b : Bool) (P Q R : Type 0) → (Q → R) → MatchBool b P Q → MatchBool b (Unit {0}) R
unless_memory true P Q R f h = tt
unless_memory false P Q R f h = f h

pub takes_on : (old : Situation) (m : Message) (answer : Answer Fed) (new : Situation) → IsFed old m answer new → TakesOn old m answer new
takes_on old m (Ok fed) new h tables done present t = took_one tables done present m old new (Ok fed) t (ap told h) (ap (after_turn old) h)
takes_on old m (Err e) new h tables done present t =
    unless_memory (is_memory e) (new ≡ old) ((turn_of old m ≡ Err e) × (new ≡ with_stage old (Refused e))) (TookOne tables done present m (Err e) new)
    (λ p. took_one tables done present m old new (Err e) t (ap told p.0) (ap (after_turn old) p.0 ∙ sym p.1)) h

last_append : (tables : List Served) (last : ℕ) (xs ys : List Stretch) → last_over tables last (xs ++ ys) ≡ last_over tables (last_over tables last xs) ys
last_append tables last [] ys = refl
last_append tables last (x ∷ xs) ys = last_append tables (greatest_of last (pieces_of (taken_of tables last x))) xs ys

reopened_is : (tables : List Served) (done : List Stretch) (present : List Message) (s : Situation) → HasTaken tables done present s → reopened s ≡ at_start tables (last_over tables 0 (done ++ sent present ∷ []))
reopened_is tables done present s h =
    let last = last_over tables 0 done in
    ap reopened h.is ∙ reopened_so tables last [] fin.empty (stands_first tables) present
    ∙ ap (λ (xs : List Message). at_start tables (greatest_of last (pieces_of (taken_from tables last [] xs)))) (sym (messages_sent present))
    ∙ ap (at_start tables) (sym (last_append tables 0 done (sent present ∷ [])))

pub begins_on : (old : Situation) → BeginsOn old (reopened old)
begins_on old tables done present h = record { is = reopened_is tables done present old h }

pub last_taken : (s : Situation) → IsLastTaken s s.last
last_taken s tables done present h = ap (λ (x : Situation). x.last) (reopened_is tables done present s h)

-- an assembler serves these tables
pub tables_taken : (tables : List Served) (done : List Stretch) (present : List Message) (s : Situation) → HasTaken tables done present s → s.tables ≡ tables
tables_taken tables done present s h = ap (λ (x : Situation). x.tables) (reopened_is tables done present s h)
