-- Over the messages of a whole stream the answers are the due ones, and give what the stream shows.
use Rattle.std.proofs.Common.{◌≡◌, ℕ, true, false, List, [], ◌∷◌, ◌++◌, map, refl, sym, ap, ◌∙◌, append_assoc, Ok, Err, Some, None}
use Rattle.std.specs.Prelude.{nat_le, if◌then◌else◌}
use Rattle.std.specs.FinMap as fin
use Rattle.std.proofs.lemmas.List.{append-nil}
use Rattle.pgout.specs.declared.message.Message.{Message}
use Rattle.shape_base.specs.declared.change.Tx.{Tx}
use Rattle.shape_base.specs.declared.served.Served.{Served}
use Rattle.relation_cache.specs.Relations.{ByOid}
use Rattle.tx_assembler.specs.declared.answer.AssembleError.{AssembleError}
use Rattle.tx_assembler.specs.declared.answer.Fed.{Fed}
use Rattle.tx_assembler.specs.declared.answer.Fed.TheVariants as answers
use Rattle.tx_assembler.specs.declared.stage.Stage.TheVariants.{Refused}
use Rattle.tx_assembler.specs.Answers.{Answer}
use Rattle.tx_assembler.specs.Situation.{Situation}
use Rattle.tx_assembler.specs.Feeding.{Turn, with_stage, turn_of}
use Rattle.tx_assembler.specs.Shown.{Stretch, messages_of, is_commit, pieces_of, concat, rest_of, lsn_of, tx_of, greatest_of, Verdict, refused_after, unless_refused, taken_from, taken_of, shown_in, shown_from}
use Rattle.tx_assembler.specs.Stream.{after_turn, told, answers_to, after_all, at_start, reopened, answers_over, due_for, due_after, due_by, due_from, due_over, if_given, given_in, given_over, FedIsShown}
use Rattle.tx_assembler.proofs.Pieces.{pieces_quiet, pieces_closed, one_shown, shown_more}
use Rattle.tx_assembler.proofs.Standing.{standing, put_by, turn_by, Stands, turned, stands_on, stands_first}

-- ---- a refusal stands

refused_answers : (s : Situation) (e : AssembleError) (ms : List Message) → answers_to (with_stage s (Refused e)) ms ≡ map (λ m. Err e) ms
refused_answers s e [] = refl
refused_answers s e (m ∷ ms) = ap (λ (xs : List (Answer Fed)). Err e ∷ xs) (refused_answers s e ms)

pub refused_all : (s : Situation) (e : AssembleError) (ms : List Message) → after_all (with_stage s (Refused e)) ms ≡ with_stage s (Refused e)
refused_all s e [] = refl
refused_all s e (m ∷ ms) = refused_all s e ms

-- ---- one stretch

answers_by : (v : Verdict) (turn : Answer Turn) (s after : Situation) (fed : Fed) (ms : List Message) (later : List (Answer Fed)) → turn ≡ turn_by v (after, fed) → (v ≡ None → answers_to after ms ≡ later)
    → ◌≡◌ {A = List (Answer Fed)} (told turn ∷ answers_to (after_turn s turn) ms) (due_by v fed later ms)
answers_by None turn s after fed ms later h go = ap (λ (t : Answer Turn). told t ∷ answers_to (after_turn s t) ms) h ∙ ap (λ (xs : List (Answer Fed)). Ok fed ∷ xs) (go refl)
answers_by (Some e) turn s after fed ms later h go = ap (λ (t : Answer Turn). told t ∷ answers_to (after_turn s t) ms) h ∙ ap (λ (xs : List (Answer Fed)). Err e ∷ xs) (refused_answers s e ms)

answers_so : (tables : List Served) (last : ℕ) (before : List Message) (known : ByOid) → Stands tables before known → (ms : List Message) → answers_to (standing tables last before known) ms ≡ due_from tables last before ms
answers_so tables last before known s [] = refl
answers_so tables last before known s (m ∷ ms) =
    answers_by (refused_after tables last before m) (turn_of (standing tables last before known) m) (standing tables last before known) (standing tables last (before ++ m ∷ []) (put_by known m)) (due_after tables last before m) ms
    (due_from tables last (before ++ m ∷ []) ms) (turned tables last before known s m) (λ none. answers_so tables last (before ++ m ∷ []) (put_by known m) (stands_on tables last before known s m none) ms)

reopened_by : (tables : List Served) (last : ℕ) (before : List Message) (m : Message) (v : Verdict) (turn : Answer Turn) (s after : Situation) (fed : Fed) (ms rest : List Message) → turn ≡ turn_by v (after, fed)
    → (v ≡ None → reopened (after_all after ms) ≡ at_start tables (greatest_of last (pieces_of ((before ++ m ∷ []) ++ rest)))) → reopened s ≡ at_start tables (greatest_of last (pieces_of before))
    → reopened (after_all (after_turn s turn) ms) ≡ at_start tables (greatest_of last (pieces_of (before ++ unless_refused v m rest)))
reopened_by tables last before m None turn s after fed ms rest h go here =
    ap (λ (t : Answer Turn). reopened (after_all (after_turn s t) ms)) h ∙ go refl ∙ ap (λ (xs : List Message). at_start tables (greatest_of last (pieces_of xs))) (append_assoc before (m ∷ []) rest)
reopened_by tables last before m (Some e) turn s after fed ms rest h go here =
    ap (λ (t : Answer Turn). reopened (after_all (after_turn s t) ms)) h ∙ ap reopened (refused_all s e ms) ∙ here
    ∙ ap (λ (xs : List Message). at_start tables (greatest_of last (pieces_of xs))) (sym (append-nil before))

pub reopened_so : (tables : List Served) (last : ℕ) (before : List Message) (known : ByOid) → Stands tables before known → (ms : List Message)
    → reopened (after_all (standing tables last before known) ms) ≡ at_start tables (greatest_of last (pieces_of (before ++ taken_from tables last before ms)))
reopened_so tables last before known s [] = ap (λ (xs : List Message). at_start tables (greatest_of last (pieces_of xs))) (sym (append-nil before))
reopened_so tables last before known s (m ∷ ms) =
    reopened_by tables last before m (refused_after tables last before m) (turn_of (standing tables last before known) m) (standing tables last before known) (standing tables last (before ++ m ∷ []) (put_by known m)) (due_after tables last before m) ms
    (taken_from tables last (before ++ m ∷ []) ms) (turned tables last before known s m) (λ none. reopened_so tables last (before ++ m ∷ []) (put_by known m) (stands_on tables last before known s m none) ms) refl

-- ---- stretches

over_so : (tables : List Served) (last : ℕ) (s : Situation) → reopened s ≡ at_start tables last → (stream : List Stretch) → answers_over s stream ≡ due_over tables last stream
over_so tables last s h [] = refl
over_so tables last s h (stretch ∷ stretches) =
    ap (λ (r : Situation). answers_to r (messages_of stretch) ∷ answers_over (after_all r (messages_of stretch)) stretches) h
    ∙ ap (λ (here : List (Answer Fed)). here ∷ answers_over (after_all (at_start tables last) (messages_of stretch)) stretches) (answers_so tables last [] fin.empty (stands_first tables) (messages_of stretch))
    ∙ ap (λ (later : List (List (Answer Fed))). due_from tables last [] (messages_of stretch) ∷ later)
    (over_so tables (greatest_of last (pieces_of (taken_of tables last stretch))) (after_all (at_start tables last) (messages_of stretch)) (reopened_so tables last [] fin.empty (stands_first tables) (messages_of stretch)) stretches)

-- ---- what is given

pub none_given : (e : AssembleError) (ms : List Message) → given_in (map (λ m. Err e) ms) ≡ []
none_given e [] = refl
none_given e (m ∷ ms) = none_given e ms

given_turn : (a : Answer Fed) (xs ys : List Tx) → (xs ++ if_given a []) ++ ys ≡ xs ++ if_given a ys
given_turn (Ok answers.Nothing) xs ys = append_assoc xs [] ys
given_turn (Ok (answers.Tx tx)) xs ys = append_assoc xs (tx ∷ []) ys
given_turn (Ok (answers.Repeat lsn last)) xs ys = append_assoc xs [] ys
given_turn (Err e) xs ys = append_assoc xs [] ys

one_given : (tables : List Served) (before : List Message) (last : ℕ) (p : List Message) → one_shown tables before last p ≡ if_given (Ok (due_for tables before last p)) []
one_given tables before last p =
    elim (nat_le (lsn_of p) last) as (λ q. ◌≡◌ {A = List Tx} (if q then [] else tx_of tables before p ∷ []) (if_given (Ok (if q then answers.Repeat (lsn_of p) last else answers.Tx (tx_of tables before p))) [])) [
      | true ↦ refl
      | false ↦ refl
    ]

shown_next : (tables : List Served) (last : ℕ) (before : List Message) (m : Message) → shown_in tables [] last (pieces_of (before ++ m ∷ [])) ≡ shown_in tables [] last (pieces_of before) ++ if_given (Ok (due_after tables last before m)) []
shown_next tables last before m =
    let p = rest_of before ++ m ∷ [] in
    let ps = pieces_of before in
    elim (is_commit m) as (λ q. is_commit m ≡ q → shown_in tables [] last (pieces_of (before ++ m ∷ [])) ≡ shown_in tables [] last ps ++ if_given (Ok (if q then due_for tables (concat ps) (greatest_of last ps) p else answers.Nothing)) []) [
      | true ↦ λ e. ap (shown_in tables [] last) (pieces_closed before m e) ∙ shown_more tables [] last ps p ∙ ap (λ (txs : List Tx). shown_in tables [] last ps ++ txs) (one_given tables (concat ps) (greatest_of last ps) p)
      | false ↦ λ e. ap (shown_in tables [] last) (pieces_quiet before m e) ∙ sym (append-nil (shown_in tables [] last ps))
    ] refl

given_by : (tables : List Served) (last : ℕ) (before : List Message) (m : Message) (v : Verdict) (ms rest : List Message) (later : List (Answer Fed))
    → (v ≡ None → shown_in tables [] last (pieces_of ((before ++ m ∷ []) ++ rest)) ≡ shown_in tables [] last (pieces_of (before ++ m ∷ [])) ++ given_in later)
    → shown_in tables [] last (pieces_of (before ++ unless_refused v m rest)) ≡ shown_in tables [] last (pieces_of before) ++ given_in (due_by v (due_after tables last before m) later ms)
given_by tables last before m None ms rest later go =
    ap (λ (xs : List Message). shown_in tables [] last (pieces_of xs)) (sym (append_assoc before (m ∷ []) rest)) ∙ go refl ∙ ap (λ (txs : List Tx). txs ++ given_in later) (shown_next tables last before m)
    ∙ given_turn (Ok (due_after tables last before m)) (shown_in tables [] last (pieces_of before)) (given_in later)
given_by tables last before m (Some e) ms rest later go =
    ap (λ (xs : List Message). shown_in tables [] last (pieces_of xs)) (append-nil before) ∙ sym (append-nil (shown_in tables [] last (pieces_of before)))
    ∙ ap (λ (txs : List Tx). shown_in tables [] last (pieces_of before) ++ txs) (sym (none_given e ms))

pub given_so : (tables : List Served) (last : ℕ) (before ms : List Message)
    → shown_in tables [] last (pieces_of (before ++ taken_from tables last before ms)) ≡ shown_in tables [] last (pieces_of before) ++ given_in (due_from tables last before ms)
given_so tables last before [] = ap (λ (xs : List Message). shown_in tables [] last (pieces_of xs)) (append-nil before) ∙ sym (append-nil (shown_in tables [] last (pieces_of before)))
given_so tables last before (m ∷ ms) =
    given_by tables last before m (refused_after tables last before m) ms (taken_from tables last (before ++ m ∷ []) ms) (due_from tables last (before ++ m ∷ []) ms) (λ none. given_so tables last (before ++ m ∷ []) ms)

shown_so : (tables : List Served) (last : ℕ) (stream : List Stretch) → given_over (due_over tables last stream) ≡ shown_from tables last stream
shown_so tables last [] = refl
shown_so tables last (stretch ∷ stretches) =
    ap (λ (txs : List Tx). txs ++ given_over (due_over tables (greatest_of last (pieces_of (taken_of tables last stretch))) stretches)) (sym (given_so tables last [] (messages_of stretch)))
    ∙ ap (λ (txs : List Tx). shown_in tables [] last (pieces_of (taken_of tables last stretch)) ++ txs) (shown_so tables (greatest_of last (pieces_of (taken_of tables last stretch))) stretches)

-- ---- the law

pub fed_is_shown : FedIsShown
fed_is_shown tables stream =
    let due = over_so tables 0 (at_start tables 0) refl stream in
    record { due = due; given = ap given_over due ∙ shown_so tables 0 stream }
