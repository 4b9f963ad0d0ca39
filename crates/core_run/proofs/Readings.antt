-- What events are read as: what they ask for is what a GET is answered, and which of them bring commits.
use Rattle.std.proofs.Common.{◌≡◌, ℕ, inl, inr, Bool, true, false, if◌then◌else◌, List, [], ◌∷◌, ◌++◌, map, filter, codes, sym, subst, Option, None, Some, Result, Ok, Err}
use Rattle.std.specs.Prelude.{IfSome}
use Rattle.std.specs.List.{AllByRecursion}
use Rattle.std.specs.Str.{IsUtf8}
use Rattle.form_urlencoded.specs.Form.{parse}
use Rattle.shape_base.specs.declared.ask.Ask.{Ask}
use Rattle.shape_base.specs.declared.change.Tx.{Tx}
use Rattle.shape_base.specs.declared.limits.Limits.{Limits}
use Rattle.shape_base.specs.declared.served.Served.{Served}
use Rattle.shape_base.specs.Tables.{Table, same_text}
use Rattle.shape_base.specs.Visibility.{Visibility}
use Rattle.pg_dialogue.specs.declared.login.SnapHead.{SnapHead}
use Rattle.pg_dialogue.specs.Course.{Stand, Wants, Refused, Done, course_of}
use Rattle.shape_snapshot.specs.declared.faults.SnapError.{SnapError}
use Rattle.shape_snapshot.specs.declared.faults.SnapError.TheVariants as errors
use Rattle.shape_snapshot.specs.Refusals.{seen_of}
use Rattle.http_edge.specs.declared.request.Request.{Request}
use Rattle.http_edge.specs.declared.request.HeadError.{HeadError}
use Rattle.http_edge.specs.declared.request.HeadError.TheVariants as heads
use Rattle.http_edge.specs.Parameters.{Pair, AreTexts}
use Rattle.http_edge.specs.Route.{Routed, IsRouted}
use Rattle.http_edge.specs.Lawful.{AsksFor}
use Rattle.fold_client.specs.declared.client.Query.{Query}
use Rattle.fold_client.specs.Client.{nothing_held}
use Rattle.fold_client.specs.Target.{target_text}
use Rattle.fold_client.specs.TargetRead.{HasTarget}
use Rattle.core_clients.specs.QueryForm.{IsQueryForm, alone, values_under}
use Rattle.core_events.specs.declared.event.Event.{Event}
use Rattle.core_events.specs.declared.event.Event.TheVariants as events
use Rattle.core_law.specs.Situation.{Options, Shape}
use Rattle.core_law.specs.Situation as law
use Rattle.core_law.specs.Steps.{id_before}
use Rattle.core_law.specs.Run as law_run
use Rattle.core_law.specs.Run.{RequestCame, HeadCut, SnapshotCame, SnapshotEnded, Committed, Remove, Moment, Joined, SendNext, Receive, Watch}
use Rattle.core_law.specs.Laws.{get_of, IsRoutedEvent}
use Rattle.core_machine.specs.Faults.{under_way}
use Rattle.core_server.specs.Snapshots.{refusal_in, event_for, came_by}
use Rattle.sync_core.specs.Reading.{Reading, Passes, Brings, Misfits, asked_as, IsOfHead, ReadsHead, ReadsQuery}
use Rattle.sync_core.specs.Run.{Situation, IsRead, end_for, brings, by_refusal, judged, judged_some, by_stand, shape_of, piece_for, snapshot_for, said_to}

-- ---- what is routed

-- what a request asks for is what a GET of its target does
get_routed : (tables : List Served) (request : Request) (ask : Ask) → IsRouted tables request (Ok ask) → IsRouted tables (get_of request.target) (Ok ask)
get_routed tables request ask (inl h) = let e = h.1 in cc
get_routed tables request ask (inr h) = inr (λ e. cc, h.1)

asked_get : (tables : List Served) (request : Request) (routed : Routed) (ask : Ask) → IsRouted tables request routed → asked_as routed ≡ AsksFor ask → IsRouted tables (get_of request.target) (Ok ask)
asked_get tables request (Ok other) ask is e = let same : other ≡ ask = cc in subst (λ (a : Ask). IsRouted tables (get_of request.target) (Ok a)) same (get_routed tables request other is)
asked_get tables request (Err refusal) ask is e = cc

one_event : (a b : law_run.Event) → Brings a ≡ Brings b → a ≡ b
one_event a b e = cc

-- an event that is read as a routed one is one
as_routed : (o : Options) (event other : law_run.Event) → Brings event ≡ Brings other → IsRoutedEvent o other → IsRoutedEvent o event
as_routed o event other e routed = subst (IsRoutedEvent o) (sym (one_event event other e)) routed

-- ---- requests

routed_head : (o : Options) (answer : Result Request HeadError) (event : law_run.Event) → IsOfHead o.tables answer (Brings event) → IsRoutedEvent o event
routed_head o (Ok request) event h = as_routed o event (RequestCame (Some request.target) (asked_as h.routed) request.close) h.reads (λ ask e. asked_get o.tables request h.routed ask h.is e)
routed_head o (Err heads.Partial) event h = as_routed o event HeadCut h tt
routed_head o (Err heads.HeadTooLong) event h = as_routed o event (RequestCame None _ true) h (λ ask e. cc)
routed_head o (Err heads.BadHead) event h = as_routed o event (RequestCame None _ true) h (λ ask e. cc)
routed_head o (Err heads.BodyRefused) event h = as_routed o event (RequestCame None _ true) h (λ ask e. cc)
routed_head o (Err heads.OutOfMemory) event h = absurd h

routed_request : (o : Options) (bytes : List ℕ) (event : law_run.Event) → ReadsHead o.tables bytes (Brings event) → IsRoutedEvent o event
routed_request o bytes event (inl h) = let e = h.1 in cc
routed_request o bytes event (inr h) = routed_head o h.1.answer event h.1.reads

-- ---- clients

-- the values under a name are texts
texts_if : (b : Bool) (p : Pair) (ps : List Pair) → IsUtf8 p.1 → AllByRecursion IsUtf8 (map (λ (q : Pair). q.1) ps) → AllByRecursion IsUtf8 (map (λ (q : Pair). q.1) (if b then p ∷ ps else ps))
texts_if true p ps text texts = (text, texts)
texts_if false p ps text texts = texts

texts_under : (name : List ℕ) (pairs : List Pair) → AreTexts pairs → AllByRecursion IsUtf8 (values_under name pairs)
texts_under name [] texts = tt
texts_under name (p ∷ pairs) texts = texts_if (same_text p.0 name) p (filter (λ (q : Pair). same_text q.0 name) pairs) texts.0.1 (texts_under name pairs texts.1)

text_alone : (value : Option (List ℕ)) → AllByRecursion IsUtf8 (alone value) → IfSome value IsUtf8
text_alone None texts = tt
text_alone (Some value) texts = texts.0

query_texts : (bytes : List ℕ) (query : Query) → IsQueryForm bytes query → HasTarget query nothing_held
query_texts bytes query form =
    let q = form.query in
    let all = λ (name : List ℕ). texts_under name (parse bytes) q.texts in
    record {
      table = (subst (AllByRecursion IsUtf8) q.table (all (codes "table"))).0;
      columns = text_alone query.columns (subst (AllByRecursion IsUtf8) q.columns (all (codes "columns")));
      clause = text_alone query.clause (subst (AllByRecursion IsUtf8) q.clause (all (codes "where")));
      handle = tt;
      left = tt;
      offset = tt;
      cursor = tt;
    }

routed_query : (o : Options) (pairs : List ℕ) (event : law_run.Event) → ReadsQuery o.tables pairs (Brings event) → IsRoutedEvent o event
routed_query o pairs event (inl h) = let e = h.1 in cc
routed_query o pairs event (inr h) = as_routed o event (Joined h.query (asked_as h.routed)) h.reads (record { texts = query_texts pairs h.query h.form; read = λ ask e. asked_get o.tables (get_of (target_text h.query nothing_held)) h.routed ask h.is e })

-- ---- snapshots

-- a snapshot came, or ended
abbrev IsOfSnapshot : law_run.Event → Type 0
IsOfSnapshot (RequestCame target asked close) = ⊥
IsOfSnapshot HeadCut = ⊥
IsOfSnapshot (SnapshotCame e snapshot) = Unit {0}
IsOfSnapshot (SnapshotEnded e fault) = Unit {0}
IsOfSnapshot (Committed txs) = ⊥
IsOfSnapshot (Remove n) = ⊥
IsOfSnapshot (Moment now) = ⊥
IsOfSnapshot (Joined query asked) = ⊥
IsOfSnapshot (SendNext n) = ⊥
IsOfSnapshot (Receive n e) = ⊥
IsOfSnapshot (Watch n) = ⊥

abbrev ReadsSnapshot : Reading → Type 0
ReadsSnapshot Passes = Unit {0}
ReadsSnapshot (Brings event) = IsOfSnapshot event
ReadsSnapshot (Misfits cause) = Unit {0}

came_reads : (e : ℕ) (head : SnapHead) (rows : Table) (seen : Result Visibility SnapError) → ReadsSnapshot (brings (came_by e head rows seen))
came_reads e head rows (Ok v) = tt
came_reads e head rows (Err error) = tt

refused_reads : (e : ℕ) (head : SnapHead) (rows : Table) (error : SnapError) → ReadsSnapshot (brings (event_for e head rows error))
refused_reads e head rows (errors.BadSnapshot place) = tt
refused_reads e head rows (errors.DefinitionChanged have got) = came_reads e head rows (seen_of head)
refused_reads e head rows (errors.Stale last xmax) = came_reads e head rows (seen_of head)
refused_reads e head rows errors.WrongWidth = tt
refused_reads e head rows (errors.BadValue column) = came_reads e head rows (seen_of head)
refused_reads e head rows (errors.NullKey column) = tt
refused_reads e head rows (errors.DuplicateKey key) = tt
refused_reads e head rows (errors.LogFull bytes limit) = tt
refused_reads e head rows errors.OutOfMemory = tt

refusal_reads : (e : ℕ) (head : SnapHead) (rows : Table) (refusal : Option SnapError) → ReadsSnapshot (by_refusal e head rows refusal)
refusal_reads e head rows None = came_reads e head rows (seen_of head)
refusal_reads e head rows (Some error) = refused_reads e head rows error

judged_reads : (l : Limits) (txs : List Tx) (e : ℕ) (x : Shape) (head : SnapHead) (rows : Table) → ReadsSnapshot (judged l txs e x head rows)
judged_reads l txs e x head rows = refusal_reads e head rows (refusal_in x.reader l (id_before txs x.before) head rows)

judged_some_reads : (l : Limits) (txs : List Tx) (e : ℕ) (x : Shape) (head : Option SnapHead) (rows : Table) → ReadsSnapshot (judged_some l txs e x head rows)
judged_some_reads l txs e x None rows = tt
judged_some_reads l txs e x (Some head) rows = judged_reads l txs e x head rows

stand_reads : (l : Limits) (txs : List Tx) (e : ℕ) (x : Shape) (head : Option SnapHead) (rows : Table) (stand : Stand) → ReadsSnapshot (by_stand l txs e x head rows stand)
stand_reads l txs e x head rows (Wants place) = tt
stand_reads l txs e x head rows (Refused error) = tt
stand_reads l txs e x head rows Done = judged_some_reads l txs e x head rows

piece_reads : (o : Options) (s : law.Situation) (e : ℕ) (bytes : List ℕ) (x : Option Shape) → ReadsSnapshot (piece_for o s e bytes x)
piece_reads o s e bytes None = tt
piece_reads o s e bytes (Some x) = let c = course_of bytes in stand_reads o.limits s.server.commits e x c.head c.rows c.stand

whole_reads : (o : Options) (s : law.Situation) (e : ℕ) (head : SnapHead) (rows : Table) (x : Option Shape) → ReadsSnapshot (snapshot_for o s e head rows x)
whole_reads o s e head rows None = tt
whole_reads o s e head rows (Some x) = judged_reads o.limits s.server.commits e x head rows

snapshot_routed : (o : Options) (event : law_run.Event) → IsOfSnapshot event → IsRoutedEvent o event
snapshot_routed o (RequestCame target asked close) h = absurd h
snapshot_routed o HeadCut h = tt
snapshot_routed o (SnapshotCame e snapshot) h = tt
snapshot_routed o (SnapshotEnded e fault) h = tt
snapshot_routed o (Committed txs) h = tt
snapshot_routed o (Remove n) h = tt
snapshot_routed o (Moment now) h = tt
snapshot_routed o (Joined query asked) h = absurd h
snapshot_routed o (SendNext n) h = tt
snapshot_routed o (Receive n e) h = tt
snapshot_routed o (Watch n) h = tt

-- ---- each event

-- what an event is read as was routed
pub routed_read : (o : Options) (s : Situation) (e : Event) (event : law_run.Event) → IsRead o s e (Brings event) → IsRoutedEvent o event
routed_read o s events.Anew event h = cc
routed_read o s (events.Message bytes) event h = as_routed o event (Committed _) h tt
routed_read o s (events.FrameBytes bytes) event h = as_routed o event (Committed _) h tt
routed_read o s (events.RequestHead bytes) event h = routed_request o bytes event h
routed_read o s (events.SnapBytes e bytes) event h = snapshot_routed o event (subst ReadsSnapshot (sym h) (piece_reads o s.core e (said_to e (s.pieces ++ (e, bytes) ∷ [])) (shape_of s.core (under_way s.core e))))
routed_read o s (events.Snapshot e head rows) event h = snapshot_routed o event (subst ReadsSnapshot (sym h) (whole_reads o s.core e head rows (shape_of s.core (under_way s.core e))))
routed_read o s (events.SnapEnd e failed) event h = as_routed o event (SnapshotEnded e (end_for failed)) h tt
routed_read o s (events.NewClient pairs) event h = routed_query o pairs event h
routed_read o s (events.SendNext n) event h = as_routed o event (SendNext n) h tt
routed_read o s (events.Receive n e) event h = as_routed o event (Receive n e) h tt
routed_read o s (events.Watch n) event h = as_routed o event (Watch n) h tt
routed_read o s (events.Remove n) event h = as_routed o event (Remove n) h tt
routed_read o s (events.Moment now) event h = as_routed o event (Moment now) h tt

-- ---- which events bring commits

-- no commits come
abbrev pub IsQuietEvent : law_run.Event → Type 0
IsQuietEvent (RequestCame target asked close) = Unit {0}
IsQuietEvent HeadCut = Unit {0}
IsQuietEvent (SnapshotCame e snapshot) = Unit {0}
IsQuietEvent (SnapshotEnded e fault) = Unit {0}
IsQuietEvent (Committed txs) = ⊥
IsQuietEvent (Remove n) = Unit {0}
IsQuietEvent (Moment now) = Unit {0}
IsQuietEvent (Joined query asked) = Unit {0}
IsQuietEvent (SendNext n) = Unit {0}
IsQuietEvent (Receive n e) = Unit {0}
IsQuietEvent (Watch n) = Unit {0}

abbrev pub ReadsQuiet : Reading → Type 0
ReadsQuiet Passes = Unit {0}
ReadsQuiet (Brings event) = IsQuietEvent event
ReadsQuiet (Misfits cause) = Unit {0}

quiet_head : (tables : List Served) (answer : Result Request HeadError) (r : Reading) → IsOfHead tables answer r → ReadsQuiet r
quiet_head tables (Ok request) r h = subst ReadsQuiet (sym h.reads) tt
quiet_head tables (Err heads.Partial) r h = subst ReadsQuiet (sym h) tt
quiet_head tables (Err heads.HeadTooLong) r h = subst ReadsQuiet (sym h) tt
quiet_head tables (Err heads.BadHead) r h = subst ReadsQuiet (sym h) tt
quiet_head tables (Err heads.BodyRefused) r h = subst ReadsQuiet (sym h) tt
quiet_head tables (Err heads.OutOfMemory) r h = absurd h

pub quiet_request : (tables : List Served) (bytes : List ℕ) (r : Reading) → ReadsHead tables bytes r → ReadsQuiet r
quiet_request tables bytes r (inl h) = subst ReadsQuiet (sym h.1) tt
quiet_request tables bytes r (inr h) = quiet_head tables h.1.answer r h.1.reads

pub quiet_query : (tables : List Served) (pairs : List ℕ) (r : Reading) → ReadsQuery tables pairs r → ReadsQuiet r
quiet_query tables pairs r (inl h) = subst ReadsQuiet (sym h.1) tt
quiet_query tables pairs r (inr h) = subst ReadsQuiet (sym h.reads) tt

quiet_event : (event : law_run.Event) → IsOfSnapshot event → IsQuietEvent event
quiet_event (RequestCame target asked close) h = tt
quiet_event HeadCut h = tt
quiet_event (SnapshotCame e snapshot) h = tt
quiet_event (SnapshotEnded e fault) h = tt
quiet_event (Committed txs) h = h
quiet_event (Remove n) h = tt
quiet_event (Moment now) h = tt
quiet_event (Joined query asked) h = tt
quiet_event (SendNext n) h = tt
quiet_event (Receive n e) h = tt
quiet_event (Watch n) h = tt

quiet_snapshot : (r : Reading) → ReadsSnapshot r → ReadsQuiet r
quiet_snapshot Passes h = tt
quiet_snapshot (Brings event) h = quiet_event event h
quiet_snapshot (Misfits cause) h = tt

pub quiet_piece : (o : Options) (s : law.Situation) (e : ℕ) (bytes : List ℕ) (x : Option Shape) (r : Reading) → r ≡ piece_for o s e bytes x → ReadsQuiet r
quiet_piece o s e bytes x r h = subst ReadsQuiet (sym h) (quiet_snapshot (piece_for o s e bytes x) (piece_reads o s e bytes x))

pub quiet_whole : (o : Options) (s : law.Situation) (e : ℕ) (head : SnapHead) (rows : Table) (x : Option Shape) (r : Reading) → r ≡ snapshot_for o s e head rows x → ReadsQuiet r
quiet_whole o s e head rows x r h = subst ReadsQuiet (sym h) (quiet_snapshot (snapshot_for o s e head rows x) (whole_reads o s e head rows x))
