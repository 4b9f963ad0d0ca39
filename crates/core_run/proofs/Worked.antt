-- One run over bytes that meets every premise: a client joins, asks and takes a block without rows, a commit comes in four messages, the stream begins anew, and the client takes what the commit brought.
use Rattle.std.proofs.Common.{◌≡◌, ℕ, ◌<◌, ltb, inl, inr, zero, suc, Bool, true, false, List, [], ◌∷◌, ◌++◌, map, take, drop, length, refl, sym, ◌∙◌, ap, subst, arith, lit<, lit≤, None, Some, IfSome, Ok, codes}
use Rattle.std.specs.List.{slice_get, list_all, IsDistinct}
use Rattle.std.specs.Str.{is_utf8, IsUtf8, IsAscii}
use Rattle.std.specs.Fmt.{digits}
use Rattle.std.proofs.Math.Seq.{drop-append_seam}
use Rattle.std.proofs.lemmas.Bool.{and_parts}
use Rattle.std.proofs.lemmas.Bool.Decides.{nat_tests}
use Rattle.std.proofs.lemmas.List.Sorted.{IsPermutation-refl}
use Rattle.std.proofs.lemmas.Str.{is_utf8-from_IsUtf8, IsUtf8-from_ascii}
use Rattle.std.proofs.lemmas.Str.Ascii.{IsAscii-nil, IsAscii-cons}
use Rattle.json.specs.Print.{escape_byte}
use Rattle.form_urlencoded.specs.Form.{parse, byte_serialize, split, raw_pairs}
use Rattle.percent_encoding.specs.Percent.{percent_decode}
use Rattle.shape_base.specs.declared.ask.Ask.{Ask}
use Rattle.shape_base.specs.declared.ask.Named.TheVariants.{Absent}
use Rattle.shape_base.specs.declared.change.ChangeKind.TheVariants as kinds
use Rattle.shape_base.specs.declared.change.Tx.{Tx}
use Rattle.shape_base.specs.declared.definition.TableDef.{TableDef}
use Rattle.shape_base.specs.declared.history.History.{History}
use Rattle.shape_base.specs.declared.history.Step.TheVariants as changes
use Rattle.shape_base.specs.declared.limits.Limits.{Limits}
use Rattle.shape_base.specs.declared.offset.Offset.TheVariants.{Start}
use Rattle.shape_base.specs.declared.served.Served.{Served}
use Rattle.shape_base.specs.declared.value.Value.TheVariants.{Words}
use Rattle.shape_base.specs.Tables as tables_of
use Rattle.shape_base.specs.Tables.{IsGoodHistory, IsGoodTable}
use Rattle.shape_base.specs.Transactions.{meaning}
use Rattle.shape_base.specs.Snapshot.{Snapshot, IsHonest, IsShownRightly}
use Rattle.shape_base.specs.Shape.{Knows}
use Rattle.shape_base.specs.Log.{log_of}
use Rattle.shape_def.specs.Clauses.{truth_under, unread_under}
use Rattle.shape_def.specs.Definition.{knows_for}
use Rattle.shape_json.specs.Reading.{HaveOffsets}
use Rattle.shape_json.specs.ShapeHistory.{Reader, Snapped, snapshot_in}
use Rattle.shape_json.specs.ShapeHistory as shape_events
use Rattle.shape_registry.specs.Registry.{ArePlaced}
use Rattle.snapshot_merge.specs.VisText.{digits_at, numbers_within}
use Rattle.byte_format.specs.Format.{string_at, chunk_at, times}
use Rattle.pgout.specs.declared.message.Field.TheVariants.{Chars}
use Rattle.pgout.specs.declared.message.Message.TheVariants as messages
use Rattle.tx_assembler.specs.Whole.{most_bytes}
use Rattle.tx_assembler.specs.Shown.{Shows}
use Rattle.pg_dialogue.specs.declared.login.SnapHead.{SnapHead}
use Rattle.http_edge.specs.Lawful.{AsksFor}
use Rattle.http_edge.specs.Parameters.{Pair, path_of, query_of, AreTexts, HasBadEscape, has_repeated, has_bad_percent}
use Rattle.http_edge.specs.Route.{served_path, IsAskOf, ParametersTried, IsRouted}
use Rattle.fold_client.specs.declared.client.Query.{Query}
use Rattle.fold_client.specs.Client.{nothing_held}
use Rattle.fold_client.specs.Target.{target_text}
use Rattle.core_clients.specs.QueryForm.{IsQueryOf, IsQueryForm}
use Rattle.core_events.specs.declared.event.Event.{Event}
use Rattle.core_events.specs.declared.event.Event.TheVariants as events
use Rattle.core_law.specs.Situation.{Options, Shape, shape_at}
use Rattle.core_law.specs.Situation as law
use Rattle.core_law.specs.Clients.{Out, Gives, Cut, Block, Refetched, Refused}
use Rattle.core_law.specs.Clients as turns
use Rattle.core_law.specs.Run as law_run
use Rattle.core_law.specs.Run.{SnapshotCame, Committed, Moment, Joined, SendNext, Receive, turn_of, next_of, outs_of}
use Rattle.core_law.specs.Laws.{IsStart, get_of, IsHonestShape}
use Rattle.sync_core.specs.Stream.{Stream, Item, Read, begun, anew, commits_of}
use Rattle.sync_core.specs.Reading.{Passes, Brings, ReadsQuery}
use Rattle.sync_core.specs.Run.{Situation, at_start, Goes, IsRead, stream_after, shown_since, refused_since, pieces_after, goes_by}
use Rattle.core_run.specs.Steps.{Step, IsTaken, Leads}
use Rattle.core_run.specs.Laws.{stretches_of, IsToldBy, AreRight, Headline}

-- ---- a table, a commit, and a server

abbrev items : TableDef
items = record { table = 0; oid = 16384; columns = record { name = codes "id"; oid = 23 } ∷ record { name = codes "n"; oid = 23 } ∷ [] }

abbrev served : Served
served = record { ns = codes "public"; name = codes "items"; key = codes "id" ∷ []; some = lit< tt; distinct = λ i j d h k. absurd (omega (arith, h, k)) }

abbrev tx : Tx
tx = record { xid = 5; lsn = 100; end = 108; bytes = 20; defs = items ∷ []; changes = record { def = 0; kind = kinds.Insert (Words (codes "2") ∷ Words (codes "7") ∷ []) } ∷ [] }

abbrev history : History
history = record { tables = served ∷ []; defs = items ∷ []; base = [] ∷ []; steps = changes.Commit tx ∷ [] }

abbrev limits : Limits
limits = record { chunk = 65536; log = 1000000; all = 1000000; pending = 1000000; shapes = 1; hold = 5000; some = lit≤ tt; chunk_fits = lit< tt; log_fits = lit< tt; all_fit = lit< tt; pending_fits = lit< tt; shapes_fit = lit< tt; hold_fits = lit< tt }

abbrev options : Options
options = record { run = codes "r"; limits = limits; tables = served ∷ []; catalog = items ∷ [] }

-- ---- what comes

abbrev query : Query
query = record { table = codes "items"; columns = None; clause = None }

abbrev ask : Ask
ask = record { table = 0; columns = None; clause = None; identity = codes "\"public\".\"items\""; named = Absent; offset = Start; live = false; cursor = 0 }

abbrev pairs : List ℕ
pairs = codes "table=items"

-- a snapshot of no rows, which shows the ids below 5
abbrev head : SnapHead
head = record { vis = codes "5:5:"; oid = 16384; columns = items.columns }

abbrev snapshot : Snapshot
snapshot = record { visibility = record { xmin = 5; xmax = 5; listed = [] }; oid = 16384; columns = items.columns; rows = [] }

-- Begin: LSN 100, no time, id 5
abbrev begin : List ℕ
begin = codes "B" ++ 0 ∷ 0 ∷ 0 ∷ 0 ∷ 0 ∷ 0 ∷ 0 ∷ 100 ∷ 0 ∷ 0 ∷ 0 ∷ 0 ∷ 0 ∷ 0 ∷ 0 ∷ 0 ∷ 0 ∷ 0 ∷ 0 ∷ 5 ∷ []

-- Relation: OID 16384, two columns of type 23
abbrev relation : List ℕ
relation = codes "R" ++ 0 ∷ 0 ∷ 64 ∷ 0 ∷ codes "public" ++ 0 ∷ codes "items" ++ 0 ∷ codes "f" ++ 0 ∷ 2 ∷ 1 ∷ codes "id" ++ 0 ∷ 0 ∷ 0 ∷ 0 ∷ 23 ∷ 255 ∷ 255 ∷ 255 ∷ 255 ∷ 0 ∷ codes "n" ++ 0 ∷ 0 ∷ 0 ∷ 0 ∷ 23 ∷ 255 ∷ 255 ∷ 255 ∷ 255 ∷ []

-- Insert: the row 2, 7
abbrev insert : List ℕ
insert = codes "I" ++ 0 ∷ 0 ∷ 64 ∷ 0 ∷ codes "N" ++ 0 ∷ 2 ∷ codes "t" ++ 0 ∷ 0 ∷ 0 ∷ 1 ∷ codes "2t" ++ 0 ∷ 0 ∷ 0 ∷ 1 ∷ codes "7"

-- Commit: LSN 100, end LSN 108, no time
abbrev commit : List ℕ
commit = codes "C" ++ 0 ∷ 0 ∷ 0 ∷ 0 ∷ 0 ∷ 0 ∷ 0 ∷ 0 ∷ 100 ∷ 0 ∷ 0 ∷ 0 ∷ 0 ∷ 0 ∷ 0 ∷ 0 ∷ 108 ∷ 0 ∷ 0 ∷ 0 ∷ 0 ∷ 0 ∷ 0 ∷ 0 ∷ 0 ∷ []

abbrev script : List Event
script = events.NewClient pairs ∷ events.SendNext 0 ∷ events.Snapshot 0 head [] ∷ events.Receive 0 0 ∷ events.Message begin ∷ events.Message relation ∷ events.Message insert ∷ events.Message commit ∷ events.Anew ∷ events.Moment 7 ∷ events.SendNext 0 ∷ events.Receive 0 1 ∷ []

-- ---- the server and its clients, event by event

abbrev after : law.Situation → law_run.Event → law.Situation
after s event = next_of s (turn_of options s event)

abbrev joined : law.Situation
joined = after law.at_start (Joined query (AsksFor ask))

abbrev sent : law.Situation
sent = after joined (SendNext 0)

abbrev ready : law.Situation
ready = after sent (SnapshotCame 0 snapshot)

abbrev taken : law.Situation
taken = after ready (Receive 0 0)

abbrev shown : law.Situation
shown = after (after (after (after taken (Committed [])) (Committed [])) (Committed [])) (Committed (tx ∷ []))

abbrev later : law.Situation
later = after shown (Moment 7)

abbrev sent_again : law.Situation
sent_again = after later (SendNext 0)

abbrev last : law.Situation
last = after sent_again (Receive 0 1)

-- ---- texts

ascii_by : (bs : List ℕ) → list_all (λ b. ltb b 128) bs ≡ true → IsAscii bs
ascii_by [] h = IsAscii-nil
ascii_by (b ∷ bs) h = let p = and_parts (ltb b 128) _ h in let s : b < 128 = grind (arith, nat_tests, p.0) in IsAscii-cons b bs s (ascii_by bs p.1)

word : (bs : List ℕ) → list_all (λ b. ltb b 128) bs ≡ true → IsUtf8 bs
word bs h = IsUtf8-from_ascii bs (ascii_by bs h)

reads_text : (bs : List ℕ) → list_all (λ b. ltb b 128) bs ≡ true → is_utf8 bs ≡ true
reads_text bs h = is_utf8-from_IsUtf8 bs (word bs h)

-- ---- the stream, message by message

abbrev stream_of : List Item → Stream
stream_of items = record { earlier = []; now = items; fed = [] }

abbrev first : List Item
first = Read (messages.Begin 100 0 5) ∷ []

abbrev second : List Item
second = first ++ Read (messages.Relation 16384 (codes "public") (codes "items") 102 (record { flags = 1; name = codes "id"; oid = 23; modifier = 4294967295 } ∷ record { flags = 0; name = codes "n"; oid = 23; modifier = 4294967295 } ∷ [])) ∷ []

abbrev third : List Item
third = second ++ Read (messages.Insert 16384 (Chars (codes "2") ∷ Chars (codes "7") ∷ [])) ∷ []

abbrev fourth : List Item
fourth = third ++ Read (messages.Commit 0 100 108 0) ∷ []

abbrev tables : List Served
tables = served ∷ []

begins : stream_after tables begun (events.Message begin) ≡ stream_of first
begins = refl

relates : stream_after tables (stream_of first) (events.Message relation) ≡ stream_of second
unfolding string_at times most_bytes
relates = refl

inserts : stream_after tables (stream_of second) (events.Message insert) ≡ stream_of third
unfolding chunk_at times most_bytes
inserts = rw (reads_text (codes "public") refl, reads_text (codes "items") refl, reads_text (codes "id") refl, reads_text (codes "n") refl) refl

commits : stream_after tables (stream_of third) (events.Message commit) ≡ stream_of fourth
unfolding most_bytes
commits = rw (reads_text (codes "public") refl, reads_text (codes "items") refl, reads_text (codes "id") refl, reads_text (codes "n") refl, reads_text (codes "2") refl, reads_text (codes "7") refl) refl

shows_none : commits_of tables begun ≡ []
shows_none = refl

shows_first : commits_of tables (stream_of first) ≡ []
shows_first = refl

shows_second : commits_of tables (stream_of second) ≡ []
shows_second = rw (reads_text (codes "public") refl, reads_text (codes "items") refl, reads_text (codes "id") refl, reads_text (codes "n") refl) refl

shows_third : commits_of tables (stream_of third) ≡ []
unfolding most_bytes
shows_third = rw (reads_text (codes "public") refl, reads_text (codes "items") refl, reads_text (codes "id") refl, reads_text (codes "n") refl, reads_text (codes "2") refl, reads_text (codes "7") refl) refl

shows_one : commits_of tables (stream_of fourth) ≡ tx ∷ []
unfolding most_bytes
shows_one = rw (reads_text (codes "public") refl, reads_text (codes "items") refl, reads_text (codes "id") refl, reads_text (codes "n") refl, reads_text (codes "2") refl, reads_text (codes "7") refl) (rw (reads_text (codes "public") refl, reads_text (codes "items") refl, reads_text (codes "id") refl, reads_text (codes "n") refl, reads_text (codes "2") refl, reads_text (codes "7") refl) refl)

shows_anew : commits_of tables (anew (stream_of fourth)) ≡ tx ∷ []
unfolding most_bytes
shows_anew = rw (reads_text (codes "public") refl, reads_text (codes "items") refl, reads_text (codes "id") refl, reads_text (codes "n") refl, reads_text (codes "2") refl, reads_text (codes "7") refl) (rw (reads_text (codes "public") refl, reads_text (codes "items") refl, reads_text (codes "id") refl, reads_text (codes "n") refl, reads_text (codes "2") refl, reads_text (codes "7") refl) refl)

-- ---- the query and its first target

parsed : parse pairs ≡ (codes "table", codes "items") ∷ []
unfolding raw_pairs split percent_decode
parsed = refl

form : IsQueryForm pairs query
form = record { escapes = refl; query = subst (λ (ps : List Pair). IsQueryOf ps query) (sym parsed) (record { texts = ((word (codes "table") refl, word (codes "items") refl), tt); known = refl; table = refl; columns = refl; clause = refl }) }

abbrev parameters : List Pair
parameters = (codes "table", codes "items") ∷ (codes "offset", codes "-1") ∷ []

asked : parse (query_of (target_text query nothing_held)) ≡ parameters
unfolding byte_serialize digits raw_pairs split percent_decode
asked = refl

path : path_of (target_text query nothing_held) ≡ served_path
unfolding byte_serialize digits
path = refl

escapes : has_bad_percent (query_of (target_text query nothing_held)) ≡ false
unfolding byte_serialize digits
escapes = refl

no_bad : (text : List ℕ) → has_bad_percent text ≡ false → AreTexts (parse text) → HasBadEscape text → ⊥
no_bad text e texts (inl bad) = absurd cc
no_bad text e texts (inr bad) = bad texts

asks : IsAskOf (served ∷ []) parameters ask
asks = record { name = codes "items"; has_name = refl; table = refl; clause = tt; columns = refl; offset = (tt, refl); handle = refl; live = refl; cursor = inr (refl, λ m lt e. cc); told = refl }

tried : ParametersTried (served ∷ []) parameters (Ok ask)
tried = inr (λ e. cc, inr (λ e. cc, inr (λ long. long, inr (λ none. none Start tt refl, inr (λ needs. (let e = needs.later in cc), inr (λ live. (let e = live.live in cc), asks))))))

once : has_repeated parameters ≡ false
once = refl

texts : AreTexts parameters
texts = ((word (codes "table") refl, word (codes "items") refl), ((word (codes "offset") refl, word (codes "-1") refl), tt))

routed : IsRouted (served ∷ []) (get_of (target_text query nothing_held)) (Ok ask)
routed =
    let target = target_text query nothing_held in
    let single : has_repeated (parse (query_of target)) ≡ false = ap has_repeated asked ∙ once in
    inr (λ e. cc, inr (λ other. other path, inr (no_bad (query_of target) escapes (subst AreTexts (sym asked) texts), inr (λ twice. cc, subst (λ ps. ParametersTried (served ∷ []) ps (Ok ask)) (sym asked) tried))))

joins : ReadsQuery (served ∷ []) pairs (Brings (Joined query (AsksFor ask)))
joins = inr (record { query = query; form = form; routed = Ok ask; is = routed; reads = refl })

-- ---- each event is taken

abbrev goes_on : turns.Turn → Bool
goes_on (turns.Goes outs next) = true
goes_on (turns.Stops error) = false

goes_to : (core : law.Situation) (turn : turns.Turn) → goes_on turn ≡ true → turn ≡ turns.Goes (outs_of turn) (next_of core turn)
goes_to core (turns.Goes outs next) h = refl
goes_to core (turns.Stops error) h = cc

-- the turn of an event goes on
abbrev GoesOn : law.Situation → law_run.Event → Type 0
GoesOn core event = goes_on (turn_of options core event) ≡ true

abbrev at : law.Situation → Stream → Situation
at core stream = record { core = core; stream = stream; pieces = [] }

-- a step that brings this event
abbrev step_of : law_run.Event → law.Situation → Stream → Stream → Step
step_of event core old new = record { reading = Brings event; refusal = refused_since tables old new; outs = outs_of (turn_of options core event); after = at (after core event) new }

-- it is taken where its turn goes on
takes : (e : Event) (event : law_run.Event) (core : law.Situation) (old new : Stream) → IsRead options (at core old) e (Brings event) → GoesOn core event → stream_after tables old e ≡ new → pieces_after [] e ≡ [] → IsTaken options (at core old) e (step_of event core old new)
takes e event core old new read goes streams pieces = record {
  read = read;
  goes = ap (goes_by options (at core old) e) (goes_to core (turn_of options core event) goes)
      ∙ ap (λ (s : Stream). Goes (refused_since tables old s) (outs_of (turn_of options core event)) (record { core = after core event; stream = s; pieces = pieces_after [] e })) streams
      ∙ ap (λ ps. Goes (refused_since tables old new) (outs_of (turn_of options core event)) (record { core = after core event; stream = new; pieces = ps })) pieces;
}

-- a message of the stream, which shows these commits more
reads : (bytes : List ℕ) (core : law.Situation) (stream stream_then : Stream) (txs : List Tx) → stream_after tables stream (events.Message bytes) ≡ stream_then → shown_since tables stream stream_then ≡ txs → IsRead options (at core stream) (events.Message bytes) (Brings (Committed txs))
reads bytes core stream stream_then txs streams since = ap (λ (xs : List Tx). Brings (Committed xs)) (sym (ap (shown_since tables stream) streams ∙ since))

since_all : (old new : Stream) (txs more : List Tx) → commits_of tables old ≡ txs → commits_of tables new ≡ txs ++ more → shown_since tables old new ≡ more
since_all old new txs more h k = ap (λ (xs : List Tx). drop (length (commits_of tables old)) xs) k ∙ ap (λ (xs : List Tx). drop (length xs) (txs ++ more)) h ∙ drop-append_seam txs more

abbrev again : Stream
again = anew (stream_of fourth)

abbrev none_yet : law.Situation
none_yet = after (after (after taken (Committed [])) (Committed [])) (Committed [])

abbrev brought : List Step
brought = step_of (Joined query (AsksFor ask)) law.at_start begun begun ∷ step_of (SendNext 0) joined begun begun ∷ step_of (SnapshotCame 0 snapshot) sent begun begun ∷ step_of (Receive 0 0) ready begun begun
    ∷ step_of (Committed []) taken begun (stream_of first) ∷ step_of (Committed []) (after taken (Committed [])) (stream_of first) (stream_of second) ∷ step_of (Committed []) (after (after taken (Committed [])) (Committed [])) (stream_of second) (stream_of third)
    ∷ step_of (Committed (tx ∷ [])) none_yet (stream_of third) (stream_of fourth) ∷ record { reading = Passes; refusal = refused_since tables (stream_of fourth) again; outs = []; after = at shown again }
    ∷ step_of (Moment 7) shown again again ∷ step_of (SendNext 0) later again again ∷ step_of (Receive 0 1) sent_again again again ∷ []

abbrev end : Situation
end = at last again

sends : GoesOn joined (SendNext 0)
unfolding byte_serialize knows_for digits escape_byte
sends = refl

snaps : GoesOn sent (SnapshotCame 0 snapshot)
unfolding byte_serialize knows_for digits escape_byte
snaps = refl

reads_snapshot : IsRead options (at sent begun) (events.Snapshot 0 head []) (Brings (SnapshotCame 0 snapshot))
unfolding byte_serialize knows_for digits escape_byte digits_at numbers_within
reads_snapshot = refl

receives : GoesOn ready (Receive 0 0)
unfolding byte_serialize knows_for digits escape_byte
receives = refl

passes : GoesOn shown (Moment 7)
unfolding byte_serialize knows_for digits escape_byte
passes = refl

sends_again : GoesOn later (SendNext 0)
unfolding byte_serialize knows_for digits escape_byte
sends_again = refl

receives_again : GoesOn sent_again (Receive 0 1)
unfolding byte_serialize knows_for digits escape_byte
receives_again = refl

takes_first : IsTaken options (at taken begun) (events.Message begin) (step_of (Committed []) taken begun (stream_of first))
takes_first = takes (events.Message begin) (Committed []) taken begun (stream_of first) (reads begin taken begun (stream_of first) [] begins (since_all begun (stream_of first) [] [] shows_none shows_first)) refl begins refl

takes_second : (core : law.Situation) → IsTaken options (at core (stream_of first)) (events.Message relation) (step_of (Committed []) core (stream_of first) (stream_of second))
takes_second core = takes (events.Message relation) (Committed []) core (stream_of first) (stream_of second) (reads relation core (stream_of first) (stream_of second) [] relates (since_all (stream_of first) (stream_of second) [] [] shows_first shows_second)) refl relates refl

takes_third : (core : law.Situation) → IsTaken options (at core (stream_of second)) (events.Message insert) (step_of (Committed []) core (stream_of second) (stream_of third))
takes_third core = takes (events.Message insert) (Committed []) core (stream_of second) (stream_of third) (reads insert core (stream_of second) (stream_of third) [] inserts (since_all (stream_of second) (stream_of third) [] [] shows_second shows_third)) refl inserts refl

takes_fourth : (core : law.Situation) → IsTaken options (at core (stream_of third)) (events.Message commit) (step_of (Committed (tx ∷ [])) core (stream_of third) (stream_of fourth))
takes_fourth core = takes (events.Message commit) (Committed (tx ∷ [])) core (stream_of third) (stream_of fourth) (reads commit core (stream_of third) (stream_of fourth) (tx ∷ []) commits (since_all (stream_of third) (stream_of fourth) [] (tx ∷ []) shows_third shows_one)) refl commits refl

takes_anew : (core : law.Situation) → IsTaken options (at core (stream_of fourth)) events.Anew (record { reading = Passes; refusal = refused_since tables (stream_of fourth) again; outs = []; after = at core again })
takes_anew core = record { read = refl; goes = refl }

leads : Leads options at_start script brought end
leads = (
  takes (events.NewClient pairs) (Joined query (AsksFor ask)) law.at_start begun begun joins refl refl refl,
  (
    takes (events.SendNext 0) (SendNext 0) joined begun begun refl sends refl refl,
    (
      takes (events.Snapshot 0 head []) (SnapshotCame 0 snapshot) sent begun begun reads_snapshot snaps refl refl,
      (
        takes (events.Receive 0 0) (Receive 0 0) ready begun begun refl receives refl refl,
        (
          takes_first,
          (
            takes_second (after taken (Committed [])),
            (
              takes_third (after (after taken (Committed [])) (Committed [])),
              (
                takes_fourth none_yet,
                (
                  takes_anew shown,
                  (
                    takes (events.Moment 7) (Moment 7) shown again again refl passes refl refl,
                    (
                      takes (events.SendNext 0) (SendNext 0) later again again refl sends_again refl refl,
                      (
                        takes (events.Receive 0 1) (Receive 0 1) sent_again again again refl receives_again refl refl,
                        refl,
                      ),
                    ),
                  ),
                ),
              ),
            ),
          ),
        ),
      ),
    ),
  ),
)

-- ---- the history

start : IsStart options
start = record { run = refl; placed = at_place }
  where
    at_place : ArePlaced (items ∷ [])
    at_place zero = refl
    at_place (suc place) = tt

good_table : (t : ℕ) → IfSome (slice_get history.tables t) (λ x. IsGoodTable history t x)
unfolding IsDistinct
good_table zero = (record { wide = tt; keyed = record { given = tt; apart = tt } }, ((refl, tt, record { wide = (refl, tt); keyed = record { given = (refl, tt); apart = (tt, tt) } }, tt), tt))
good_table (suc t) = tt

good : IsGoodHistory history
good = record { bases = refl; placed = refl; served = ((lit< tt, tt), tt); rise = (lit< tt, tt); good = good_table }

-- ---- the snapshot

abbrev knows : Knows
knows = record { served = served; definition = items; key = 0 ∷ []; selected = 0 ∷ 1 ∷ []; truth = truth_under items.columns None }

abbrev reader : Reader
reader = record { knows = knows; unread = unread_under items.columns None }

abbrev shape : Shape
shape = record { ask = ask; reader = reader; before = 0; events = Snapped snapshot ∷ shape_events.Took tx 0 ∷ [] }

shapes : last.server.shapes ≡ shape ∷ []
unfolding byte_serialize knows_for digits escape_byte
shapes = refl

honest : IsHonest history 0 snapshot 0 0
honest = record {
  taken = record { definition = refl; rows = IsPermutation-refl [] };
  last = λ lt. absurd (omega (arith, lt));
  later = λ le n more most. let one : 1 ≡ n = omega (arith, more, most) in subst (λ m. IsShownRightly history snapshot.visibility 0 m) one refl;
}

offsets : (n : ℕ) → HaveOffsets (log_of history knows [] 0 n)
offsets zero = tt
offsets (suc zero) = ((lit< tt, lit< tt), tt)
offsets (suc (suc n)) = ((lit< tt, lit< tt), tt)

same_some : {A : Type 0} (a b : A) → Some a ≡ Some b → a ≡ b
same_some a b e = cc

abbrev IsHonestAt : Shape → Type 0
IsHonestAt x = (snap : Snapshot) → snapshot_in x.events ≡ Some snap → IsHonestShape history 0 x snap

honest_one : IsHonestAt shape
honest_one snap is = subst (IsHonestShape history 0 shape) (same_some snapshot snap is) (record { honest = honest; offsets = offsets })

honest_among : (n : ℕ) (x : Shape) → shape_at (shape ∷ []) n ≡ Some x → IsHonestAt x
honest_among zero x at = cc
honest_among (suc zero) x at = subst IsHonestAt (same_some shape x at) honest_one
honest_among (suc (suc n)) x at = cc

-- ---- what is put out

has_commit : last.server.commits ≡ tx ∷ []
unfolding byte_serialize knows_for digits escape_byte
has_commit = refl

abbrev blocks_of : List Out → List ℕ
blocks_of [] = []
blocks_of (Gives e heard ∷ outs) = blocks_of outs
blocks_of (Cut e ∷ outs) = blocks_of outs
blocks_of (Block n handle offset rows ∷ outs) = n ∷ blocks_of outs
blocks_of (Refetched n ∷ outs) = blocks_of outs
blocks_of (Refused n status ∷ outs) = blocks_of outs

-- the client is up to date
first_block : blocks_of (outs_of (turn_of options ready (Receive 0 0))) ≡ 0 ∷ []
unfolding byte_serialize knows_for digits escape_byte
first_block = refl

-- ---- the premises

shows : Shows history (stretches_of end.stream)
shows = record { front = subst (λ (txs : List Tx). map meaning (take (length txs) (tables_of.commits_of history.steps)) ≡ map meaning txs) (sym shows_anew) refl }

told : IsToldBy options history (λ n. 0) end
told = record { good = good; tables = refl; shows = shows; honest = λ n x snap ready at is. honest_among n x (subst (λ xs. shape_at xs n ≡ Some x) shapes at) snap is }

-- By the headline each block is right.
pub right : Headline → AreRight options history (λ n. 0) brought end
right law = law options history (λ n. 0) script brought end start leads told
