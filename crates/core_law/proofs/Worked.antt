-- One run that meets every premise: an aged reply taken after a newer one, a repeat and a truncation that come together and drop number 1, a conflict, and number 2 of the same identity, whose snapshot comes after a commit that waits for it.
use Rattle.std.proofs.Common.{◌≡◌, inl, inr, lit≤, ℕ, zero, suc, ◌==◌, true, false, if◌then◌else◌, List, [], ◌∷◌, length, map, take, refl, sym, ◌∙◌, ap, subst, arith, lit<, Option, None, Some, IfSome, Ok, codes}
use Rattle.std.specs.List.{slice_get, AllByRecursion, IsDistinct}
use Rattle.std.proofs.lemmas.List.Sorted.{IsPermutation-refl}
use Rattle.std.specs.Fmt.{digits}
use Rattle.json.specs.Print.{escape_byte}
use Rattle.form_urlencoded.specs.Form.{parse, byte_serialize}
use Rattle.shape_base.specs.declared.ask.Ask.{Ask}
use Rattle.shape_base.specs.declared.ask.Named.TheVariants.{Absent, Known}
use Rattle.shape_base.specs.declared.cause.Cause.TheVariants.{Truncated}
use Rattle.shape_base.specs.declared.change.ChangeKind.{ChangeKind}
use Rattle.shape_base.specs.declared.change.ChangeKind.TheVariants as kinds
use Rattle.shape_base.specs.declared.change.Tx.{Tx}
use Rattle.shape_base.specs.declared.definition.TableDef.{TableDef}
use Rattle.shape_base.specs.declared.handle.Handle.{Handle}
use Rattle.shape_base.specs.declared.history.History.{History}
use Rattle.shape_base.specs.declared.history.Step.TheVariants as steps
use Rattle.shape_base.specs.declared.limits.Limits.{Limits}
use Rattle.shape_base.specs.declared.offset.Offset.TheVariants.{Start, At}
use Rattle.shape_base.specs.declared.registry_event.RegistryEvent.TheVariants.{Registered, Ready, Removed, Took}
use Rattle.shape_base.specs.declared.served.Served.{Served}
use Rattle.shape_base.specs.declared.value.Value.TheVariants.{Words}
use Rattle.shape_base.specs.Tables.{Values, IsGoodHistory, IsGoodTable, commits_of}
use Rattle.shape_base.specs.Transactions.{meaning}
use Rattle.shape_base.specs.Snapshot.{Snapshot, IsHonest, IsShownRightly}
use Rattle.shape_base.specs.Shape.{Knows}
use Rattle.shape_base.specs.Log.{log_of}
use Rattle.shape_base.specs.Handle.{IsHandle}
use Rattle.shape_def.specs.Clauses.{truth_under, unread_under}
use Rattle.shape_json.specs.Reading.{HaveOffsets}
use Rattle.shape_def.specs.Definition.{knows_for}
use Rattle.shape_json.specs.Answer.{in_run}
use Rattle.shape_json.specs.ShapeHistory.{Reader, Snapped, snapshot_in}
use Rattle.shape_json.specs.ShapeHistory as shape_events
use Rattle.shape_registry.specs.Registry.{ArePlaced}
use Rattle.http_edge.specs.Lawful.{AsksFor}
use Rattle.http_edge.specs.Parameters.{path_of, query_of, AreTexts, HasBadEscape, has_repeated, has_bad_percent}
use Rattle.http_edge.specs.Route.{served_path, IsAskOf, ParametersTried, IsRouted}
use Rattle.fold_client.specs.declared.client.Query.{Query}
use Rattle.fold_client.specs.Client.{Held, nothing_held}
use Rattle.fold_client.specs.Target.{target_text}
use Rattle.fold_client.specs.TargetRead.{HasTarget}
use Rattle.fold_client.proofs.TargetForms.{word, are_texts}
use Rattle.fold_client.proofs.TargetLaw.{the_form}
use Rattle.std.specs.FinMap as fin
use Rattle.core_law.specs.Situation.{Options, Shape, shape_at, Exchange, Situation, at_start, world_of}
use Rattle.core_law.specs.Clients.{Out, Gives, Cut, Block, Refetched, Refused}
use Rattle.core_law.specs.Run.{Event, RequestCame, SnapshotCame, Committed, Moment, Joined, SendNext, Receive, after, run_of, told}
use Rattle.core_law.specs.Laws.{IsStart, get_of, IsRead, IsRoutedEvent, IsHonestShape, IsTold, IsRightOut}
use Rattle.core_law.proofs.Lists.{some_same}
use Rattle.core_law.proofs.Targets.{params, parsed_is, reads, query_is}
use Rattle.core_law.proofs.Whole.{headline}

-- ---- a table, three commits, and a server

abbrev items : TableDef
items = record { table = 0; oid = 16384; columns = record { name = codes "id"; oid = 23 } ∷ record { name = codes "n"; oid = 23 } ∷ [] }

abbrev served : Served
served = record { ns = codes "public"; name = codes "items"; key = codes "id" ∷ []; some = lit< tt; distinct = λ i j d h k. absurd (omega (arith, h, k)) }

abbrev row : List ℕ → List ℕ → Values
row id n = Words id ∷ Words n ∷ []

abbrev tx_of : ℕ → ℕ → List ChangeKind → Tx
tx_of xid lsn done = record { xid = xid; lsn = lsn; end = lsn; bytes = 0; defs = items ∷ []; changes = map (λ kind. record { def = 0; kind = kind }) done }

-- nothing of the table, a truncation, and a row
abbrev first : Tx
first = tx_of 5 100 []

abbrev second : Tx
second = tx_of 6 200 (kinds.Truncate ∷ [])

abbrev third : Tx
third = tx_of 7 300 (kinds.Insert (row (codes "2") (codes "7")) ∷ [])

abbrev history : History
history = record { tables = served ∷ []; defs = items ∷ []; base = [] ∷ []; steps = steps.Commit first ∷ steps.Commit second ∷ steps.Commit third ∷ [] }

abbrev limits : Limits
limits = record { chunk = 65536; log = 1000000; all = 1000000; pending = 1000000; shapes = 1; hold = 5000; some = lit≤ tt; chunk_fits = lit< tt; log_fits = lit< tt; all_fit = lit< tt; pending_fits = lit< tt; shapes_fit = lit< tt; hold_fits = lit< tt }

abbrev options : Options
options = record { run = codes "r"; limits = limits; tables = served ∷ []; catalog = items ∷ [] }

abbrev query : Query
query = record { table = codes "items"; columns = None; clause = None }

abbrev first_ask : Ask
first_ask = record { table = 0; columns = None; clause = None; identity = codes "\"public\".\"items\""; named = Absent; offset = Start; live = false; cursor = 0 }

abbrev first_handle : Handle
first_handle = in_run (codes "r") 1

-- what the client holds after two empty pages
abbrev held_later : Held
held_later = record { handle = Some first_handle; left = None; offset = At 0 0; cursor = Some 2; rows = fin.empty }

abbrev later_ask : Ask
later_ask = record first_ask { named = Known first_handle; offset = At 0 0; live = true; cursor = 2 }

-- a snapshot of no rows that shows the ids below that one
abbrev snapshot_below : ℕ → Snapshot
snapshot_below xid = record { visibility = record { xmin = xid; xmax = xid; listed = [] }; oid = 16384; columns = items.columns; rows = [] }

-- a stranger asks from where the client stands only later
abbrev script : List Event
script = Joined query (AsksFor first_ask) ∷ SendNext 0 ∷ SnapshotCame 0 (snapshot_below 5) ∷ RequestCame (Some (target_text query held_later)) (AsksFor later_ask) false ∷ Moment 5000 ∷ Receive 0 0
    ∷ Committed (first ∷ []) ∷ SendNext 0 ∷ Moment 10000 ∷ Receive 0 2 ∷ Receive 0 1
    ∷ Committed (first ∷ second ∷ []) ∷ SendNext 0 ∷ Receive 0 3 ∷ SendNext 0 ∷ Committed (third ∷ []) ∷ SnapshotCame 4 (snapshot_below 7) ∷ []

abbrev last : Situation
last = after options at_start script

registry : last.server.registry ≡ Registered 1 (codes "\"public\".\"items\"") 0 None ∷ Ready 1 ∷ Took 100 5 ∷ Took 200 6 ∷ Removed 1 (Truncated 200) ∷ Registered 2 (codes "\"public\".\"items\"") 0 (Some 6) ∷ Took 300 7 ∷ Ready 2 ∷ []
unfolding byte_serialize knows_for digits escape_byte
registry = refl

-- how many commits were shown when each exchange got its reply
shown : map (λ (x : Exchange). elim x.given as (λ _. Option ℕ) [ None ↦ None | Some heard ↦ Some heard.given.shown ]) last.exchanges ≡ Some 0 ∷ Some 0 ∷ Some 1 ∷ Some 2 ∷ Some 3 ∷ []
unfolding byte_serialize knows_for digits escape_byte
shown = refl

abbrev brief : Out → ℕ × ℕ
brief (Gives e heard) = (0, e)
brief (Cut e) = (1, e)
brief (Block c handle offset rows) = (2, c)
brief (Refetched c) = (3, c)
brief (Refused c status) = (4, c)

-- the stranger's reply, three blocks without rows, and one conflict
outs : map brief (run_of options at_start script) ≡ (0, 1) ∷ (2, 0) ∷ (2, 0) ∷ (2, 0) ∷ (3, 0) ∷ []
unfolding byte_serialize knows_for digits escape_byte
outs = refl

-- ---- the premises: the server's start, and the history

start : IsStart options
start = record { run = refl; placed = at_place }
  where
    at_place : ArePlaced (items ∷ [])
    at_place zero = refl
    at_place (suc place) = tt

good_table : (t : ℕ) → IfSome (slice_get history.tables t) (λ x. IsGoodTable history t x)
unfolding IsDistinct
good_table zero =
    (record { wide = tt; keyed = record { given = tt; apart = tt } }, (tt, ((refl, tt, record { wide = tt; keyed = record { given = tt; apart = tt } }, tt), ((refl, tt, record { wide = (refl, tt); keyed = record { given = (refl, tt); apart = (tt, tt) } }, tt), tt))))
good_table (suc t) = tt

good : IsGoodHistory history
good = record { bases = refl; placed = refl; served = (tt, ((lit< tt, tt), ((lit< tt, tt), tt))); rise = (lit< tt, (lit< tt, (lit< tt, tt))); good = good_table }

-- ---- the snapshots

abbrev knows : Knows
knows = record { served = served; definition = items; key = 0 ∷ []; selected = 0 ∷ 1 ∷ []; truth = truth_under items.columns None }

abbrev reader : Reader
reader = record { knows = knows; unread = unread_under items.columns None }

abbrev first_shape : Shape
first_shape = record { ask = first_ask; reader = reader; before = 0; events = Snapped (snapshot_below 5) ∷ shape_events.Took first 0 ∷ shape_events.Took second 0 ∷ [] }

abbrev second_shape : Shape
second_shape = record { ask = first_ask; reader = reader; before = 2; events = shape_events.Took third 0 ∷ Snapped (snapshot_below 7) ∷ [] }

shapes : last.server.shapes ≡ first_shape ∷ second_shape ∷ []
unfolding byte_serialize knows_for digits escape_byte
shapes = refl

abbrev step : ℕ → ℕ
step n = if n == 1 then 0 else 2

honest_first : IsHonest history 0 (snapshot_below 5) 0 0
honest_first = record {
  taken = record { definition = refl; rows = IsPermutation-refl [] };
  last = λ lt. absurd (omega (arith, lt));
  later = λ le n more most. let one : 1 ≡ n = omega (arith, more, most) in subst (λ m. IsShownRightly history (snapshot_below 5).visibility 0 m) one refl;
}

honest_second : IsHonest history 0 (snapshot_below 7) 2 2
honest_second = record {
  taken = record { definition = refl; rows = IsPermutation-refl [] };
  last = λ lt. refl;
  later = λ le n more most. let three : 3 ≡ n = omega (arith, more, most) in subst (λ m. IsShownRightly history (snapshot_below 7).visibility 2 m) three refl;
}

offsets_first : (n : ℕ) → HaveOffsets (log_of history knows [] 0 n)
offsets_first zero = tt
offsets_first (suc zero) = tt
offsets_first (suc (suc zero)) = tt
offsets_first (suc (suc (suc zero))) = tt
offsets_first (suc (suc (suc (suc n)))) = tt

offsets_second : (n : ℕ) → HaveOffsets (log_of history knows [] 2 n)
offsets_second zero = tt
offsets_second (suc zero) = tt
offsets_second (suc (suc zero)) = tt
offsets_second (suc (suc (suc zero))) = ((lit< tt, lit< tt), tt)
offsets_second (suc (suc (suc (suc n)))) = ((lit< tt, lit< tt), tt)

abbrev IsHonestAt : ℕ → Shape → Type 0
IsHonestAt n x = (snap : Snapshot) → snapshot_in x.events ≡ Some snap → IsHonestShape history (step n) x snap

honest_one : IsHonestAt 1 first_shape
honest_one snap is = subst (IsHonestShape history 0 first_shape) (some_same (snapshot_below 5) snap is) (record { honest = honest_first; offsets = offsets_first })

honest_two : IsHonestAt 2 second_shape
honest_two snap is = subst (IsHonestShape history 2 second_shape) (some_same (snapshot_below 7) snap is) (record { honest = honest_second; offsets = offsets_second })

honest_among : (n : ℕ) (x : Shape) → shape_at (first_shape ∷ second_shape ∷ []) n ≡ Some x → IsHonestAt n x
honest_among zero x at = cc
honest_among (suc zero) x at = subst (IsHonestAt 1) (some_same first_shape x at) honest_one
honest_among (suc (suc zero)) x at = subst (IsHonestAt 2) (some_same second_shape x at) honest_two
honest_among (suc (suc (suc n))) x at = cc

abbrev txs : List Tx
txs = first ∷ second ∷ third ∷ []

commits : last.server.commits ≡ txs
unfolding byte_serialize knows_for digits escape_byte
commits = refl

shows : (xs : List Tx) → xs ≡ txs → map meaning (take (length xs) (commits_of history.steps)) ≡ map meaning xs
shows xs e = subst (λ ys. map meaning (take (length ys) (commits_of history.steps)) ≡ map meaning ys) (sym e) refl

told_of : IsTold options history step last.server
told_of = record { good = good; tables = refl; shows = shows last.server.commits commits; honest = λ n x snap ready at is. honest_among n x (subst (λ xs. shape_at xs n ≡ Some x) shapes at) snap is }

-- ---- what the targets ask for

handle_good : IsHandle first_handle
handle_good = record { counted = lit≤ tt; small = lit< tt; named = refl }

texts_first : HasTarget query nothing_held
texts_first = record { table = word (codes "items") refl; columns = tt; clause = tt; handle = tt; left = tt; offset = tt; cursor = tt }

texts_later : HasTarget query held_later
texts_later = record { table = word (codes "items") refl; columns = tt; clause = tt; handle = handle_good; left = tt; offset = (lit< tt, lit< tt); cursor = lit< tt }

no_bad : (text : List ℕ) → has_bad_percent text ≡ false → AreTexts (parse text) → HasBadEscape text → ⊥
no_bad text e texts (inl bad) = absurd cc
no_bad text e texts (inr bad) = bad texts

-- a target whose parameters ask for this is routed to it
routed : (c : Held) (ask : Ask) → HasTarget query c → path_of (target_text query c) ≡ served_path → ParametersTried (served ∷ []) (params query c) (Ok ask) → IsRouted (served ∷ []) (get_of (target_text query c)) (Ok ask)
routed c ask texts path tried =
    let parsed = parsed_is query c texts in
    let escapes : has_bad_percent (query_of (target_text query c)) ≡ false = ap has_bad_percent (query_is query c) ∙ (the_form query c texts).escapes in
    let once : has_repeated (parse (query_of (target_text query c))) ≡ false = ap has_repeated parsed ∙ (reads query c).once in
    inr (
      λ e. cc,
      inr (
        λ other. other path,
        inr (
          λ bad. no_bad (query_of (target_text query c)) escapes (subst AreTexts (sym parsed) (are_texts query c texts)) bad,
          inr (λ twice. cc, subst (λ pairs. ParametersTried (served ∷ []) pairs (Ok ask)) (sym parsed) tried),
        ),
      ),
    )

asks_first : IsAskOf (served ∷ []) (params query nothing_held) first_ask
asks_first = record { name = codes "items"; has_name = refl; table = refl; clause = tt; columns = refl; offset = (tt, refl); handle = refl; live = refl; cursor = inr (refl, λ m lt e. cc); told = refl }

asks_later : IsAskOf (served ∷ []) (params query held_later) later_ask
unfolding digits
asks_later = record { name = codes "items"; has_name = refl; table = refl; clause = tt; columns = refl; offset = ((lit< tt, lit< tt), refl); handle = (handle_good, refl); live = refl; cursor = inl (lit< tt, refl); told = refl }

tried_first : ParametersTried (served ∷ []) (params query nothing_held) (Ok first_ask)
tried_first = inr (λ e. cc, inr (λ e. cc, inr (λ long. long, inr (λ none. none Start tt refl, inr (λ needs. (let e = needs.later in cc), inr (λ live. (let e = live.live in cc), asks_first))))))

tried_later : ParametersTried (served ∷ []) (params query held_later) (Ok later_ask)
unfolding digits
tried_later = inr (λ e. cc, inr (λ e. cc, inr (λ long. long, inr (λ none. none (At 0 0) (lit< tt, lit< tt) refl, inr (λ needs. (let e = needs.absent in cc), inr (λ live. (let e = live.start in cc), asks_later))))))

path_first : path_of (target_text query nothing_held) ≡ served_path
unfolding byte_serialize digits
path_first = refl

path_later : path_of (target_text query held_later) ≡ served_path
unfolding byte_serialize digits
path_later = refl

read_first : IsRead options (Some (target_text query nothing_held)) (AsksFor first_ask)
read_first ask e = let same : first_ask ≡ ask = cc in subst (λ a. IsRouted (served ∷ []) (get_of (target_text query nothing_held)) (Ok a)) same (routed nothing_held first_ask texts_first path_first tried_first)

read_later : IsRead options (Some (target_text query held_later)) (AsksFor later_ask)
read_later ask e = let same : later_ask ≡ ask = cc in subst (λ a. IsRouted (served ∷ []) (get_of (target_text query held_later)) (Ok a)) same (routed held_later later_ask texts_later path_later tried_later)

all_routed : AllByRecursion (IsRoutedEvent options) script
all_routed = (record { texts = texts_first; read = read_first }, (tt, (tt, (read_later, (tt, (tt, (tt, (tt, (tt, (tt, (tt, (tt, (tt, (tt, (tt, (tt, (tt, tt)))))))))))))))))

-- By the headline each of these blocks has the rows of the table that it owes.
blocks : AllByRecursion (IsRightOut (world_of options history step last.server)) (told options at_start script)
blocks = (headline options history step script start all_routed told_of).0
