-- What a stream shows only grows.
use Rattle.std.proofs.Common.{◌≡◌, ℕ, Bool, true, false, List, [], ◌∷◌, ◌++◌, length, drop, append_assoc, refl, sym, ◌∙◌, ap}
use Rattle.std.specs.Bool.{if◌then◌else◌}
use Rattle.std.proofs.Math.Seq.{drop-append_seam}
use Rattle.std.proofs.lemmas.List.{append-nil, map-append}
use Rattle.std.specs.Prelude.{Ok, Err}
use Rattle.pgout.specs.declared.message.Message.{Message}
use Rattle.pg_wire.specs.FrameList.{frames_of}
use Rattle.shape_base.specs.declared.change.Tx.{Tx}
use Rattle.shape_base.specs.declared.served.Served.{Served}
use Rattle.tx_assembler.specs.declared.answer.Fed.{Fed}
use Rattle.tx_assembler.specs.declared.answer.Fed.TheVariants as answers
use Rattle.tx_assembler.specs.Answers.{Answer}
use Rattle.tx_assembler.specs.Situation as assembler
use Rattle.tx_assembler.specs.Feeding.{turn_of}
use Rattle.tx_assembler.specs.Shown.{Stretch, messages_of, shown}
use Rattle.tx_assembler.specs.Stream.{after_turn, told, answers_to, after_all, at_start, reopened, answers_over, given_in, given_over, sent, FedIsShown}
use Rattle.core_events.specs.declared.event.Event.TheVariants as events
use Rattle.sync_core.specs.Stream.{Stream, Item, Read, Unread, Ended, Faulty, message_then, messages_in, stretch_of, done_in, commits_of, anew, is_over, item_of, in_frames, with_one, with_item, with_items, Framed, with_piece}
use Rattle.sync_core.specs.Stream as streams
use Rattle.sync_core.specs.Run.{stream_after, shown_since}

-- ---- answers, one after the other

given-append : (xs ys : List (Answer Fed)) → given_in (xs ++ ys) ≡ given_in xs ++ given_in ys
given-append [] ys = refl
given-append (Ok answers.Nothing ∷ xs) ys = given-append xs ys
given-append (Ok (answers.Tx tx) ∷ xs) ys = ap (λ (txs : List Tx). tx ∷ txs) (given-append xs ys)
given-append (Ok (answers.Repeat lsn last) ∷ xs) ys = given-append xs ys
given-append (Err e ∷ xs) ys = given-append xs ys

answers-append : (s : assembler.Situation) (xs ys : List Message) → answers_to s (xs ++ ys) ≡ answers_to s xs ++ answers_to (after_all s xs) ys
answers-append s [] ys = refl
answers-append s (x ∷ xs) ys = ap (λ (as_ : List (Answer Fed)). told (turn_of s x) ∷ as_) (answers-append (after_turn s (turn_of s x)) xs ys)

over-append : (xs ys : List (List (Answer Fed))) → given_over (xs ++ ys) ≡ given_over xs ++ given_over ys
over-append [] ys = refl
over-append (x ∷ xs) ys = ap (λ (txs : List Tx). given_in x ++ txs) (over-append xs ys) ∙ sym (append_assoc (given_in x) (given_over xs) (given_over ys))

-- the situation of an assembler after stretches
abbrev after_over : assembler.Situation → List Stretch → assembler.Situation
after_over s [] = s
after_over s (stretch ∷ stretches) = after_over (after_all (reopened s) (messages_of stretch)) stretches

stretches-append : (s : assembler.Situation) (xs ys : List Stretch) → answers_over s (xs ++ ys) ≡ answers_over s xs ++ answers_over (after_over s xs) ys
stretches-append s [] ys = refl
stretches-append s (x ∷ xs) ys = ap (λ (as_ : List (List (Answer Fed))). answers_to (reopened s) (messages_of x) ∷ as_) (stretches-append (after_all (reopened s) (messages_of x)) xs ys)

messages_sent : (ms : List Message) → messages_of (sent ms) ≡ ms
messages_sent [] = refl
messages_sent (m ∷ ms) = ap (λ (xs : List Message). m ∷ xs) (messages_sent ms)

-- ---- what is shown

-- one thing comes behind another
pub record Behind (old new : List Tx) : Type 0 where
  pub more : List Tx
  pub is : new ≡ old ++ more

pub behind_same : (txs : List Tx) → Behind txs txs
behind_same txs = record { more = []; is = sym (append-nil txs) }

pub behind_trans : (a b c : List Tx) → Behind a b → Behind b c → Behind a c
behind_trans a b c h k = record { more = h.more ++ k.more; is = k.is ∙ ap (λ (txs : List Tx). txs ++ k.more) h.is ∙ append_assoc a h.more k.more }

module _ (law : FedIsShown) (tables : List Served) where
  shown_is : (done : List Stretch) (last : Stretch) → shown tables (done ++ last ∷ []) ≡ given_over (answers_over (at_start tables 0) done) ++ given_in (answers_to (reopened (after_over (at_start tables 0) done)) (messages_of last))
  shown_is done last =
      let s = at_start tables 0 in
      let there = reopened (after_over (at_start tables 0) done) in
      sym (law tables (done ++ last ∷ [])).given ∙ ap given_over (stretches-append s done (last ∷ [])) ∙ over-append (answers_over s done) (answers_over (after_over s done) (last ∷ []))
      ∙ ap (λ (txs : List Tx). given_over (answers_over s done) ++ txs) (append-nil (given_in (answers_to there (messages_of last))))

  -- messages more in the last stretch
  shown_more : (done : List Stretch) (ms more : List Message) → Behind (shown tables (done ++ sent ms ∷ [])) (shown tables (done ++ sent (ms ++ more) ∷ []))
  shown_more done ms more =
      let before = given_over (answers_over (at_start tables 0) done) in
      let there = reopened (after_over (at_start tables 0) done) in
      let grows = given_in (answers_to (after_all there ms) more) in
      let old : shown tables (done ++ sent ms ∷ []) ≡ before ++ given_in (answers_to there ms) = shown_is done (sent ms) ∙ ap (λ (xs : List Message). before ++ given_in (answers_to there xs)) (messages_sent ms) in
      let new : shown tables (done ++ sent (ms ++ more) ∷ []) ≡ before ++ (given_in (answers_to there ms) ++ grows) =
      shown_is done (sent (ms ++ more)) ∙ ap (λ (xs : List Message). before ++ given_in (answers_to there xs)) (messages_sent (ms ++ more))
      ∙ ap (λ (as_ : List (Answer Fed)). before ++ given_in as_) (answers-append there ms more) ∙ ap (λ (txs : List Tx). before ++ txs) (given-append (answers_to there ms) (answers_to (after_all there ms) more)) in
      record { more = grows; is = new ∙ sym (append_assoc before (given_in (answers_to there ms)) grows) ∙ ap (λ (txs : List Tx). txs ++ grows) (sym old) }

  -- a stretch more without messages
  shown_anew : (done : List Stretch) → shown tables (done ++ sent [] ∷ []) ≡ shown tables done
  shown_anew done = shown_is done (sent []) ∙ append-nil (given_over (answers_over (at_start tables 0) done)) ∙ (law tables done).given

  -- ---- the stream

  messages-append : (xs ys : List Item) → messages_in (xs ++ ys) ≡ messages_in xs ++ messages_in ys
  messages-append [] ys = refl
  messages-append (Read m ∷ xs) ys = ap (λ (ms : List Message). m ∷ ms) (messages-append xs ys)
  messages-append (Unread ∷ xs) ys = messages-append xs ys
  messages-append (Ended ∷ xs) ys = messages-append xs ys
  messages-append (Faulty e ∷ xs) ys = messages-append xs ys

  one_item : (s : Stream) (i : Item) → Behind (commits_of tables s) (commits_of tables (with_one s i))
  one_item s i =
      let b = shown_more (done_in s) (messages_in s.now) (messages_in (i ∷ [])) in
      record { more = b.more; is = ap (λ (ms : List Message). shown tables (done_in s ++ sent ms ∷ [])) (messages-append s.now (i ∷ [])) ∙ b.is }

  item_if : (s : Stream) (i : Item) (b : Bool) → Behind (commits_of tables s) (commits_of tables (if b then s else with_one s i))
  item_if s i true = behind_same (commits_of tables s)
  item_if s i false = one_item s i

  items : (s : Stream) (is : List Item) → Behind (commits_of tables s) (commits_of tables (with_items tables s is))
  items s [] = behind_same (commits_of tables s)
  items s (i ∷ is) = behind_trans (commits_of tables s) (commits_of tables (with_item tables s i)) (commits_of tables (with_items tables (with_item tables s i) is)) (item_if s i (is_over tables s)) (items (with_item tables s i) is)

  message : (s : Stream) (bytes : List ℕ) → Behind (commits_of tables s) (commits_of tables (with_piece tables s (streams.Sent bytes)))
  message s bytes = item_if s (item_of bytes) (is_over tables s)

  frames : (s : Stream) (bytes : List ℕ) → Behind (commits_of tables s) (commits_of tables (with_piece tables s (Framed bytes)))
  frames s bytes = let b = items s (in_frames (frames_of s.fed) (frames_of (s.fed ++ bytes))) in record { more = b.more; is = b.is }

  -- What a stream shows that begins anew is what it showed.
  pub begins_anew : (s : Stream) → commits_of tables (anew s) ≡ commits_of tables s
  begins_anew s = ap (λ (done : List Stretch). shown tables (done ++ sent [] ∷ [])) (map-append stretch_of s.earlier (s.now ∷ [])) ∙ shown_anew (done_in s ++ stretch_of s.now ∷ [])

  since : (old new : Stream) → Behind (commits_of tables old) (commits_of tables new) → commits_of tables new ≡ commits_of tables old ++ shown_since tables old new
  since old new b = b.is ∙ ap (λ (txs : List Tx). commits_of tables old ++ txs) (sym (ap (drop (length (commits_of tables old))) b.is ∙ drop-append_seam (commits_of tables old) b.more))

  -- A record of the stream adds to what it showed what it shows since then.
  pub message_adds : (s : Stream) (bytes : List ℕ) → let next = stream_after tables s (events.Message bytes) in commits_of tables next ≡ commits_of tables s ++ shown_since tables s next
  message_adds s bytes = since s (with_piece tables s (streams.Sent bytes)) (message s bytes)

  pub frames_add : (s : Stream) (bytes : List ℕ) → let next = stream_after tables s (events.FrameBytes bytes) in commits_of tables next ≡ commits_of tables s ++ shown_since tables s next
  frames_add s bytes = since s (with_piece tables s (Framed bytes)) (frames s bytes)
