-- What an assembler answers over a whole stream.
use Rattle.std.specs.Prelude.{◌≡◌, ℕ, nat_le, if◌then◌else◌, List, [], ◌∷◌, ◌++◌, map, Ok, Err, None, Some, MatchBool}
use Rattle.std.specs.FinMap as relations
use Rattle.shape_base.specs.declared.change.Tx.{Tx}
use Rattle.shape_base.specs.declared.served.Served.{Served}
use Rattle.shape_base.specs.Transactions.{LsnsRise}
use Rattle.pgout.specs.declared.message.Message.{Message}
use Rattle.tx_assembler.specs.declared.answer.Fed.{Fed}
use Rattle.tx_assembler.specs.declared.answer.Fed.TheVariants as answers
use Rattle.tx_assembler.specs.declared.stage.Stage.TheVariants.{Outside, Refused}
use Rattle.tx_assembler.specs.Answers.{Answer, is_memory}
use Rattle.tx_assembler.specs.Situation.{Situation}
use Rattle.tx_assembler.specs.Feeding.{Turn, with_stage, turn_of}
use Rattle.tx_assembler.specs.Shown.{Stretch, Sent, messages_of, is_commit, pieces_of, concat, rest_of, lsn_of, tx_of, greatest_of, Verdict, refused_after, taken_of, shown}

-- ---- what is answered, message by message

-- the situation after a turn; a refusal stands
abbrev pub after_turn : Situation → Answer Turn → Situation
after_turn s (Ok turn) = turn.0
after_turn s (Err e) = with_stage s (Refused e)

abbrev pub told : Answer Turn → Answer Fed
told (Ok turn) = Ok turn.1
told (Err e) = Err e

-- the answers to messages one after another, where memory is never wanted
abbrev pub answers_to : Situation → List Message → List (Answer Fed)
answers_to s [] = []
answers_to s (m ∷ ms) = told (turn_of s m) ∷ answers_to (after_turn s (turn_of s m)) ms

-- and the situation after them
abbrev pub after_all : Situation → List Message → Situation
after_all s [] = s
after_all s (m ∷ ms) = after_all (after_turn s (turn_of s m)) ms

-- the situation in which a stretch begins
abbrev pub at_start : List Served → ℕ → Situation
at_start tables last = record { tables = tables; relations = relations.empty; last = last; stage = Outside }

abbrev pub reopened : Situation → Situation
reopened s = at_start s.tables s.last

-- the answers over the stretches of a stream, with a reopening before each
abbrev pub answers_over : Situation → List Stretch → List (List (Answer Fed))
answers_over s [] = []
answers_over s (stretch ∷ stretches) = answers_to (reopened s) (messages_of stretch) ∷ answers_over (after_all (reopened s) (messages_of stretch)) stretches

-- ---- what is due, apart from any situation

-- for a piece, after others, where this LSN is the greatest so far: its transaction, or a repeat
abbrev pub due_for : List Served → List Message → ℕ → List Message → Fed
due_for tables before last piece = if nat_le (lsn_of piece) last then answers.Repeat (lsn_of piece) last else answers.Tx (tx_of tables before piece)

-- for a message after others of its stretch that is not refused: a Commit closes a piece, and others lead to nothing
abbrev pub due_after : List Served → ℕ → List Message → Message → Fed
due_after tables last before m =
    if is_commit m then due_for tables (concat (pieces_of before)) (greatest_of last (pieces_of before)) (rest_of before ++ m ∷ [])
    else answers.Nothing

-- for a message and those behind it: a refusal is the answer to all of them
abbrev pub due_by : Verdict → Fed → List (Answer Fed) → List Message → List (Answer Fed)
due_by None fed later ms = Ok fed ∷ later
due_by (Some e) fed later ms = Err e ∷ map (λ m. Err e) ms

-- for the messages that follow others of a stretch
abbrev pub due_from : List Served → ℕ → List Message → List Message → List (Answer Fed)
due_from tables last before [] = []
due_from tables last before (m ∷ ms) = due_by (refused_after tables last before m) (due_after tables last before m) (due_from tables last (before ++ m ∷ []) ms) ms

-- for the stretches of a stream, where this LSN is the greatest before them
abbrev pub due_over : List Served → ℕ → List Stretch → List (List (Answer Fed))
due_over tables last [] = []
due_over tables last (stretch ∷ stretches) = due_from tables last [] (messages_of stretch) ∷ due_over tables (greatest_of last (pieces_of (taken_of tables last stretch))) stretches

-- ---- the transactions among answers

abbrev pub if_given : Answer Fed → List Tx → List Tx
if_given (Ok answers.Nothing) txs = txs
if_given (Ok (answers.Tx tx)) txs = tx ∷ txs
if_given (Ok (answers.Repeat lsn last)) txs = txs
if_given (Err e) txs = txs

abbrev pub given_in : List (Answer Fed) → List Tx
given_in [] = []
given_in (a ∷ rest) = if_given a (given_in rest)

abbrev pub given_over : List (List (Answer Fed)) → List Tx
given_over [] = []
given_over (here ∷ rest) = given_in here ++ given_over rest

-- ---- one message more

-- the greatest LSN of the transactions of stretches, and of those before them
abbrev pub last_over : List Served → ℕ → List Stretch → ℕ
last_over tables last [] = last
last_over tables last (stretch ∷ stretches) = last_over tables (greatest_of last (pieces_of (taken_of tables last stretch))) stretches

-- messages as a stretch
abbrev pub sent : List Message → Stretch
sent ms = map Sent ms

abbrev pub due_one : Verdict → Fed → Answer Fed
due_one None fed = Ok fed
due_one (Some e) fed = Err e

abbrev pub unless_due : Verdict → Answer Fed → Answer Fed
unless_due None later = later
unless_due (Some e) later = Err e

-- what is due for a message behind others, which follow others of their stretch: the refusal of the first that is refused, if one is
abbrev pub due_behind : List Served → ℕ → List Message → List Message → Message → Answer Fed
due_behind tables last before [] m = due_one (refused_after tables last before m) (due_after tables last before m)
due_behind tables last before (x ∷ xs) m = unless_due (refused_after tables last before x) (due_behind tables last (before ++ x ∷ []) xs m)

-- What is due for a message, where these stretches are done and these messages of the present one came before it.
abbrev pub due_next : List Served → List Stretch → List Message → Message → Answer Fed
due_next tables done present m = due_behind tables (last_over tables 0 done) [] present m

-- An assembler for these tables took the messages of these stretches, and of the present one these, each of them answered.
pub record HasTaken (tables : List Served) (done : List Stretch) (present : List Message) (s : Situation) : Type 0 where
  pub is : s ≡ after_all (at_start tables (last_over tables 0 done)) present

-- A message more was taken: it was answered what is due, and what the stream shows grew by the transaction that was given, if one was.
pub record TookOne (tables : List Served) (done : List Stretch) (present : List Message) (m : Message) (answer : Answer Fed) (new : Situation) : Type 0 where
  pub due : answer ≡ due_next tables done present m
  pub taken : HasTaken tables done (present ++ m ∷ []) new
  pub grown : shown tables (done ++ sent (present ++ m ∷ []) ∷ []) ≡ shown tables (done ++ sent present ∷ []) ++ if_given answer []

-- after each answer but want of memory
abbrev pub UnlessMemory : Answer Fed → Type 0 → Type 0
UnlessMemory (Ok fed) P = P
UnlessMemory (Err e) P = MatchBool (is_memory e) (Unit {0}) P

-- A message more is taken, whatever was taken before it.
abbrev pub TakesOn : Situation → Message → Answer Fed → Situation → Type 0
TakesOn old m answer new = (tables : List Served) (done : List Stretch) (present : List Message) → HasTaken tables done present old → UnlessMemory answer (TookOne tables done present m answer new)

-- The stretch so far is done, and a new one begins.
abbrev pub BeginsOn : Situation → Situation → Type 0
BeginsOn old new = (tables : List Served) (done : List Stretch) (present : List Message) → HasTaken tables done present old → HasTaken tables (done ++ sent present ∷ []) [] new

-- This is the greatest LSN of the transactions that were taken.
abbrev pub IsLastTaken : Situation → ℕ → Type 0
IsLastTaken s lsn = (tables : List Served) (done : List Stretch) (present : List Message) → HasTaken tables done present s → lsn ≡ last_over tables 0 (done ++ sent present ∷ [])

-- ---- the law

-- Over the messages of a stream each answer is the due one, and the transactions among the answers are those that the stream shows.
pub record IsShownSo (tables : List Served) (stream : List Stretch) : Type 0 where
  pub due : answers_over (at_start tables 0) stream ≡ due_over tables 0 stream
  pub given : given_over (answers_over (at_start tables 0) stream) ≡ shown tables stream

abbrev pub FedIsShown : Type 0
FedIsShown = (tables : List Served) (stream : List Stretch) → IsShownSo tables stream

-- What a stream shows has LSNs that rise strictly, from above 0.
abbrev pub ShownRise : Type 0
ShownRise = (tables : List Served) (stream : List Stretch) → LsnsRise 0 (shown tables stream)
