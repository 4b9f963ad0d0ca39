-- What a request is answered.
use Rattle.std.proofs.Common.{◌≡◌, ◌≢◌, ℕ, Bool, true, false, not, ◌&&◌, List, [], ◌∷◌, find, refl, ap, sym, ◌∙◌, subst, Option, None, Some}
use Rattle.std.specs.Bool.{if◌then◌else◌}
use Rattle.std.specs.Prelude.{is_some}
use Rattle.std.specs.Option.{option_map, option_and_then}
use Rattle.std.proofs.lemmas.Bool.{and_parts}
use Rattle.shape_base.specs.declared.offset.Offset.{Offset}
use Rattle.shape_base.specs.declared.offset.Offset.TheVariants.{Start, At}
use Rattle.shape_base.specs.declared.entry.Entry.{Entry}
use Rattle.shape_base.specs.declared.handle.Handle.{Handle}
use Rattle.shape_base.specs.declared.ask.Ask.{Ask}
use Rattle.shape_base.specs.declared.ask.Named.{Named}
use Rattle.shape_base.specs.declared.ask.Named.TheVariants.{Absent, Known, Strange}
use Rattle.shape_base.specs.declared.cause.Cause.{Cause}
use Rattle.shape_base.specs.declared.reply.Reply.{Reply}
use Rattle.shape_base.specs.declared.registry_event.RegistryEvent.{RegistryEvent}
use Rattle.shape_base.specs.Tables.{same_text}
use Rattle.shape_base.specs.Shape.{Knows}
use Rattle.shape_base.specs.Snapshot.{Snapshot}
use Rattle.shape_base.specs.Offsets.{is_before, past}
use Rattle.shape_base.specs.Log.{end_of}
use Rattle.shape_base.specs.RegistryHistory.{RegistryStart, Registration, was_registered, was_removed, had_ready, is_live, live_registrations, live_under, ready_under, is_live_under, was_registered_under, is_live_handle, live_handle, IsLegal}
use Rattle.shape_base.proofs.Lemmas.{Decides-same_text}
use Rattle.shape_registry.specs.declared.found.Found.{Found}
use Rattle.shape_registry.specs.declared.found.Found.TheVariants as found
use Rattle.shape_registry.specs.State.{ready_number}
use Rattle.shape_registry.specs.ByHistory.{found_number, found_under, found_after}
use Rattle.shape_registry.proofs.Growing.{find_of_map}
use Rattle.shape_registry.proofs.Legal.{facts_of}
use Rattle.shape_registry.proofs.Meanings.{ready_is}
use Rattle.shape_json.specs.ShapeHistory.{Reader, ShapeEvent, ShapeState, Ready, snapshot_in, drop_of, state_by, state_after, log_after}
use Rattle.shape_json.specs.ShapeHistory as shapes
use Rattle.shape_json.specs.Page.{Part, page_of}
use Rattle.shape_state.specs.Standing as standing
use Rattle.shape_json.specs.Answer.{Answer, Paged, in_run, is_empty, answer_ready, answer_first, answer_named, gone}
use Rattle.shape_json.specs.Answer as answers
use Rattle.shape_state.specs.declared.paged.Paged as pages
use Rattle.shape_state.specs.declared.paged.Paged.TheVariants as paged
use Rattle.shape_state.specs.Answers.{waits, IsPagedOf, IsPaged, HasUtf8}
use Rattle.http_edge.specs.World.{World, schema_at}
use Rattle.http_edge.specs.Schema.{schema_text}
use Rattle.http_edge.specs.Lawful.{page_reply, reply_of}
use Rattle.core_law.specs.Situation.{Options, Shape, shape_at, log_by, log_of_shape, answers_from, kept_by, kept_of, known_of}
use Rattle.core_law.specs.Situation as law
use Rattle.core_law.proofs.Worlds.{found_ready}
use Rattle.std.specs.FinMap as fin
use Rattle.shape_def.specs.declared.defining.Def.{Def}
use Rattle.core_server.specs.declared.server.Server.{Server}
use Rattle.core_server.specs.Standing.{Kept, knows_in, reader_in, IsKept, Stands}
use Rattle.core_law.specs.Steps.{Written, body_of}
use Rattle.core_server.specs.Replies.{reply_to, start_of, waits_of, ready_named, ready_answer, answer_by, HasInner, IsReplyTo}
use Rattle.core_server.proofs.Dropping.{not_true, Live, live_shape}

-- ---- what is found

-- the number where it is ready
abbrev if_ready : List RegistryEvent → ℕ → Option ℕ
if_ready es n = if had_ready es n then Some n else None

module _ (start : RegistryStart) (es : List RegistryEvent) (legal : IsLegal start.limit es) where
  ready_by : (identity : List ℕ) → ready_under es identity ≡ option_and_then (if_ready es) (live_under es identity)
  ready_by identity = sym (ready_is start es identity legal) ∙ ap ready_number (find_of_map (live_handle es) (λ l. same_text l.identity identity) (live_registrations es))
      ∙ through (find (λ r. same_text r.identity identity) (live_registrations es))
    where
      through : (a : Option Registration) → ready_number (option_map (live_handle es) a) ≡ option_and_then (if_ready es) (option_map (λ r. r.number) a)
      through None = refl
      through (Some r) = refl

  unready : (n : ℕ) (b : Bool) → was_registered es n ≡ b → had_ready es n ≡ true → b ≡ true
  unready n true e h = refl
  unready n false e h = let f = (facts_of start.limit es legal).readied n e in cc

  live_ready : (n : ℕ) → had_ready es n ≡ true → was_removed es n ≡ false → is_live es n ≡ true
  live_ready n ready live = ap (λ b. b && not (was_removed es n)) (unready n (was_registered es n) refl ready) ∙ ap not live

  number_ready : (m n : ℕ) (b : Bool) → (if b then found.Ready m else found.Starting m) ≡ found.Ready n → (m ≡ n) × (b ≡ true)
  number_ready m n true e = (cc, refl)
  number_ready m n false e = cc

  -- a number that is found ready is live and ready
  pub record IsFoundReady (n : ℕ) : Type 0 where
    pub live : is_live es n ≡ true
    pub ready : had_ready es n ≡ true

  under_ready : (identity : List ℕ) (live : Option ℕ) (n : ℕ) → live_under es identity ≡ live → found_under es live ≡ found.Ready n → IsFoundReady n
  under_ready identity None n is e = cc
  under_ready identity (Some m) n is e =
      let p = number_ready m n (had_ready es m) e in
      let one = found_ready es identity m (ready_by identity ∙ ap (option_and_then (if_ready es)) is ∙ ap (λ b. if b then Some m else None) p.1) in
      subst IsFoundReady p.0 (record { live = live_ready m one.ready one.live; ready = one.ready })

  handle_ready : (run identity : List ℕ) (h : Handle) (n : ℕ) (a : Bool) → is_live_handle run es identity h ≡ a
      → (if a then found_number es h.number else found.Gone (ready_under es identity)) ≡ found.Ready n → IsFoundReady n
  handle_ready run identity h n false is e = cc
  handle_ready run identity h n true is e =
      let p = number_ready h.number n (had_ready es h.number) e in
      let under = (and_parts (same_text h.run run) (is_live_under es identity h.number) is).1 in
      let live = not_true (was_removed es h.number) (and_parts (was_registered_under es identity h.number) (not (was_removed es h.number)) under).1 in
      subst IsFoundReady p.0 (record { live = live_ready h.number p.1 live; ready = p.1 })

  pub ready_found : (run identity : List ℕ) (named : Named) (n : ℕ) → found_after run es identity named ≡ found.Ready n → IsFoundReady n
  ready_found run identity Absent n e = under_ready identity (live_under es identity) n refl e
  ready_found run identity (Known h) n e = handle_ready run identity h n (is_live_handle run es identity h) refl e
  ready_found run identity Strange n e = cc

-- ---- the answer, by what is found

first_is : (s : answers.Situation) (ask : Ask) (live : Option ℕ) → answer_first s (option_and_then (if_ready s.events) live) live ≡ answer_by s ask Absent (found_under s.events live)
first_is s ask None = refl
first_is s ask (Some n) = pick (had_ready s.events n)
  where
    pick : (b : Bool) → answer_first s (if b then Some n else None) (Some n) ≡ answer_by s ask Absent (if b then found.Ready n else found.Starting n)
    pick true = refl
    pick false = refl

known_is : (s : answers.Situation) (ask : Ask) (h : Handle) (a b : Bool) → is_live_handle s.run s.events ask.identity h ≡ a
    → (if a then if b then answer_ready s ask h (s.log h.number) else answers.Starting h.number else gone s ask)
    ≡ answer_by s ask (Known h) (if a then (if b then found.Ready h.number else found.Starting h.number) else found.Gone (ready_under s.events ask.identity))
known_is s ask h false b is = refl
known_is s ask h true false is = refl
known_is s ask h true true is = let runs = (Decides-same_text h.run s.run).0 (and_parts (same_text h.run s.run) (is_live_under s.events ask.identity h.number) is).0 in
    ap (λ run. answer_ready s ask (in_run run h.number) (s.log h.number)) runs

named_is : (limit : ℕ) (s : answers.Situation) (ask : Ask) (named : Named) → IsLegal limit s.events → answer_named s ask named ≡ answer_by s ask named (found_after s.run s.events ask.identity named)
named_is limit s ask Absent legal = ap (λ r. answer_first s r (live_under s.events ask.identity)) (ready_by (record { run = s.run; limit = limit; catalog = [] }) s.events legal ask.identity) ∙ first_is s ask (live_under s.events ask.identity)
named_is limit s ask (Known h) legal = known_is s ask h (is_live_handle s.run s.events ask.identity h) (had_ready s.events h.number) refl
named_is limit s ask Strange legal = refl

-- the answer to a request goes by what is found for it
pub answer_is : (limit : ℕ) (s : answers.Situation) (ask : Ask) (f : Found) → IsLegal limit s.events → f ≡ found_after s.run s.events ask.identity ask.named → answers.answer_of s ask ≡ answer_by s ask ask.named f
answer_is limit s ask f legal e = named_is limit s ask ask.named legal ∙ ap (answer_by s ask ask.named) (sym e)

-- ---- the page of a shape

never_before : (o : Offset) → is_before o Start ≡ true → ⊥
never_before Start h = cc
never_before (At lsn pos) h = cc

waits_not : (live late : Bool) (es : List Entry) → (waits live late ≡ true → es ≢ []) → (live && (not late && is_empty es)) ≡ false
waits_not false late es h = refl
waits_not true true es h = refl
waits_not true false [] h = absurd (h refl refl)
waits_not true false (e ∷ es) h = refl

waits_so : (live late : Bool) (es : List Entry) → waits live late ≡ true → es ≡ [] → (live && (not late && is_empty es)) ≡ true
waits_so false late es h e = cc
waits_so true true es h e = cc
waits_so true false es h e = ap is_empty e

module _ (s : answers.Situation) (ask : Ask) (n : ℕ) (w : World) (k : Knows) (schema : schema_at w n ≡ Some (schema_text k)) where
  page_is : (named : Named) (from : Offset) (part : Part) (reply : Option Reply) → reply ≡ Some (page_reply ask (in_run s.run n) (Some (schema_text k)) part) → reply ≡ reply_of w ask (Paged (in_run s.run n) from part)
  page_is named from part reply e = e ∙ ap (λ text. Some (page_reply ask (in_run s.run n) text part)) (sym schema)

  later : (p : pages.Paged) (reply : Option Reply) → IsPagedOf s.chunk (s.log n) ask.offset ask.live s.late p → IsReplyTo ask (in_run s.run n) k p reply → reply ≡ reply_of w ask (answer_ready s ask (in_run s.run n) (s.log n))
  later (paged.Page page) reply h f = page_is Strange ask.offset (page_of s.chunk (s.log n) ask.offset) reply (f (page_of s.chunk (s.log n) ask.offset) h.1)
      ∙ ap (reply_of w ask) (sym (ap (λ b. if b then answers.OffsetAhead (end_of (s.log n)) else if ask.live && (not s.late && is_empty (past ask.offset (s.log n))) then answers.NotYet else Paged (in_run s.run n) ask.offset (page_of s.chunk (s.log n) ask.offset)) h.0
      ∙ ap (λ b. if b then answers.NotYet else Paged (in_run s.run n) ask.offset (page_of s.chunk (s.log n) ask.offset)) (waits_not ask.live s.late (past ask.offset (s.log n)) h.2)))
  later paged.NotYet reply h f = f
      ∙ ap (reply_of w ask) (sym (ap (λ b. if b then answers.OffsetAhead (end_of (s.log n)) else if ask.live && (not s.late && is_empty (past ask.offset (s.log n))) then answers.NotYet else Paged (in_run s.run n) ask.offset (page_of s.chunk (s.log n) ask.offset)) h.1
      ∙ ap (λ b. if b then answers.NotYet else Paged (in_run s.run n) ask.offset (page_of s.chunk (s.log n) ask.offset)) (waits_so ask.live s.late (past ask.offset (s.log n)) h.0 h.2)))
  later paged.Starting reply h f = absurd h
  later (paged.Gone cause) reply h f = absurd h
  later (paged.OffsetAhead end) reply h f = f
      ∙ ap (reply_of w ask) (sym (ap (λ b. if b then answers.OffsetAhead (end_of (s.log n)) else if ask.live && (not s.late && is_empty (past ask.offset (s.log n))) then answers.NotYet else Paged (in_run s.run n) ask.offset (page_of s.chunk (s.log n) ask.offset)) h.1))

  first : (p : pages.Paged) (reply : Option Reply) → IsPagedOf s.chunk (s.log n) Start false s.late p → IsReplyTo ask (in_run s.run n) k p reply → reply ≡ reply_of w ask (Paged (in_run s.run n) Start (page_of s.chunk (s.log n) Start))
  first (paged.Page page) reply h f = page_is Absent Start (page_of s.chunk (s.log n) Start) reply (f (page_of s.chunk (s.log n) Start) h.1)
  first paged.NotYet reply h f = absurd (let e : false ≡ true = h.0 in cc)
  first paged.Starting reply h f = absurd h
  first (paged.Gone cause) reply h f = absurd h
  first (paged.OffsetAhead end) reply h f = absurd (never_before (end_of (s.log n)) h.1)

  -- what a ready shape answers is the reply from its log
  pub named_reply : (named : Named) (p : pages.Paged) (reply : Option Reply) → IsPagedOf s.chunk (s.log n) (start_of named ask.offset) (waits_of named ask.live) s.late p → IsReplyTo ask (in_run s.run n) k p reply → reply ≡ reply_of w ask (ready_named s ask named n)
  named_reply Absent p reply h f = first p reply h f
  named_reply (Known x) p reply h f = later p reply h f
  named_reply Strange p reply h f = later p reply h f

-- ---- the log of a ready number

record HasLog (o : Options) (v : law.Server) (n : ℕ) (x : Shape) : Type 0 where
  snapshot : Snapshot
  came : snapshot_in x.events ≡ Some snapshot

state_is : (r : Reader) (d : Option Cause) (snapshot : Option Snapshot) (events : List ShapeEvent) → d ≡ None → is_some snapshot ≡ true → state_by r d snapshot events ≡ Ready (log_by r snapshot events)
state_is r d None events none h = cc
state_is r d (Some snapshot) events none h = ap (λ d. state_by r d (Some snapshot) events) none

schema_by : (r : Reader) (snapshot : Option Snapshot) → is_some snapshot ≡ true → option_map (λ (k : Rattle.http_edge.specs.World.Kept). schema_text k.knows) (kept_by r 0 snapshot) ≡ Some (schema_text r.knows)
schema_by r None h = cc
schema_by r (Some snapshot) h = refl

module _ (o : Options) (v : law.Server) (n : ℕ) (x : Shape) (k : Kept) (is : IsKept o v n x k) (at : shape_at v.shapes n ≡ Some x) (ready : had_ready v.registry n ≡ true) where
  came : is_some (snapshot_in x.events) ≡ true
  came = is.ready ∙ ready

  -- its state is its log
  pub logs : (late : Bool) → state_after x.reader o.limits x.events ≡ Ready ((answers_from o v late).log n)
  logs late = state_is x.reader (drop_of x.reader o.limits x.events) (snapshot_in x.events) x.events is.lives came ∙ ap (λ a. Ready (log_of_shape a)) (sym at)

  pub schemas : schema_at (known_of o v) n ≡ Some (schema_text x.reader.knows)
  schemas = ap (λ a. option_map (λ (k : Rattle.http_edge.specs.World.Kept). schema_text k.knows) (kept_of 0 a)) at ∙ schema_by x.reader (snapshot_in x.events) came

  pub ready_is_paged : (late : Bool) (ask : Ask) (p : pages.Paged) (reply : Option Reply) → IsPaged o.limits.chunk (state_after x.reader o.limits x.events) (start_of ask.named ask.offset) (waits_of ask.named ask.live) late p
      → IsReplyTo ask (in_run o.run n) x.reader.knows p reply → reply ≡ reply_of (known_of o v) ask (ready_answer (answers_from o v late) ask n)
  ready_is_paged late ask p reply h f = named_reply (answers_from o v late) ask n (known_of o v) x.reader.knows schemas ask.named p reply
      (subst (λ st. IsPaged o.limits.chunk st (start_of ask.named ask.offset) (waits_of ask.named ask.live) late p) (logs late) h) f

-- ---- calls

-- the state that a kept shape tells of is the one of its reader and its limits
pub told_state : (o : Options) (v : law.Server) (n : ℕ) (x : Shape) (k : Kept) (off : Offset) (live late : Bool) (p : pages.Paged) → IsKept o v n x k
    → ((events : List ShapeEvent) → standing.Stands (reader_in k) k.state events → IsPaged k.state.limits.chunk (state_after (reader_in k) k.state.limits events) off live late p)
    → IsPaged o.limits.chunk (state_after x.reader o.limits x.events) off live late p
told_state o v n x k off live late p is tells = subst (λ l. IsPaged l.chunk (state_after x.reader l x.events) off live late p) is.limits
    (subst (λ r. IsPaged k.state.limits.chunk (state_after r k.state.limits x.events) off live late p) (sym is.reader)
    (tells x.events (subst (λ r. standing.Stands r k.state x.events) is.reader is.stands)))

inner_of : (chunk : ℕ) (log : List Entry) (off : Offset) (live late : Bool) (p : pages.Paged) → IsPagedOf chunk log off live late p → HasUtf8 p → HasInner p
inner_of chunk log off live late (paged.Page page) h utf8 = record { entries = (page_of chunk log off).entries; joins = h.1.inner; utf8 = utf8 }
inner_of chunk log off live late paged.NotYet h utf8 = tt
inner_of chunk log off live late paged.Starting h utf8 = tt
inner_of chunk log off live late (paged.Gone cause) h utf8 = tt
inner_of chunk log off live late (paged.OffsetAhead end) h utf8 = tt

-- a page has the texts of entries
pub has_inner : (chunk : ℕ) (st : ShapeState) (off : Offset) (live late : Bool) (p : pages.Paged) → IsPaged chunk st off live late p → HasUtf8 p → HasInner p
has_inner chunk (shapes.Starting buffer) off live late p h utf8 = subst HasInner (sym h) tt
has_inner chunk (Ready log) off live late p h utf8 = inner_of chunk log off live late p h utf8
has_inner chunk (shapes.Gone cause) off live late p h utf8 = subst HasInner (sym h) tt

-- the reply of an answer, as it was written
reply_written : (o : Options) (v : law.Server) (ask : Ask) (a : Answer) (r : Option Reply) → option_map (λ (w : Written). w.reply) (option_map (λ reply. record { reply = reply; body = body_of a }) r) ≡ r
reply_written o v ask a None = refl
reply_written o v ask a (Some reply) = refl

-- the reply to a request is that of what is found for it
pub reply_is : (o : Options) (v : law.Server) (late : Bool) (ask : Ask) (f : Found) → IsLegal o.limits.shapes v.registry → f ≡ found_after o.run v.registry ask.identity ask.named
    → reply_to o v late ask ≡ reply_of (known_of o v) ask (answer_by (answers_from o v late) ask ask.named f)
reply_is o v late ask f legal e = reply_written o v ask (answers.answer_of (answers_from o v late) ask) (reply_of (known_of o v) ask (answers.answer_of (answers_from o v late) ask))
    ∙ ap (reply_of (known_of o v) ask) (answer_is o.limits.shapes (answers_from o v late) ask f legal e)

module _ (o : Options) (v : law.Server) (s : Server) (n : ℕ) (k : Kept) (h : Stands o v s) (live : is_live v.registry n ≡ true) (there : fin.get s.registry.kept n ≡ Some k) where
  pub found_shape : Live o v s n k
  found_shape = live_shape o v s n k h live there

  -- what the shape of a live number answers
  pub page_told : (off : Offset) (wait late : Bool) (p : pages.Paged) → ((events : List ShapeEvent) → standing.Stands (reader_in k) k.state events → IsPaged k.state.limits.chunk (state_after (reader_in k) k.state.limits events) off wait late p)
      → IsPaged o.limits.chunk (state_after found_shape.shape.reader o.limits found_shape.shape.events) off wait late p
  page_told off wait late p tells = told_state o v n found_shape.shape k off wait late p found_shape.kept tells

  pub page_inner : (off : Offset) (wait late : Bool) (p : pages.Paged) → ((events : List ShapeEvent) → standing.Stands (reader_in k) k.state events → IsPaged k.state.limits.chunk (state_after (reader_in k) k.state.limits events) off wait late p) → HasUtf8 p → HasInner p
  page_inner off wait late p tells utf8 = has_inner o.limits.chunk (state_after found_shape.shape.reader o.limits found_shape.shape.events) off wait late p (page_told off wait late p tells) utf8

  module _ (ready : had_ready v.registry n ≡ true) (late : Bool) (ask : Ask) (off : Offset) (wait : Bool) (p : pages.Paged) (from : off ≡ start_of ask.named ask.offset) (waiting : wait ≡ waits_of ask.named ask.live)
      (tells : (events : List ShapeEvent) → standing.Stands (reader_in k) k.state events → IsPaged k.state.limits.chunk (state_after (reader_in k) k.state.limits events) off wait late p) where
    page_now : IsPaged o.limits.chunk (state_after found_shape.shape.reader o.limits found_shape.shape.events) (start_of ask.named ask.offset) (waits_of ask.named ask.live) late p
    page_now = subst (λ w. IsPaged o.limits.chunk (state_after found_shape.shape.reader o.limits found_shape.shape.events) (start_of ask.named ask.offset) w late p) waiting
        (subst (λ f. IsPaged o.limits.chunk (state_after found_shape.shape.reader o.limits found_shape.shape.events) f wait late p) from (page_told off wait late p tells))

    pub kept_reply : (test : Def) (reply : Option Reply) → test ≡ k.emitter.test → IsReplyTo ask (in_run s.run n) (knows_in test) p reply → reply ≡ reply_of (known_of o v) ask (ready_answer (answers_from o v late) ask n)
    kept_reply test reply same f = ready_is_paged o v n found_shape.shape k found_shape.kept found_shape.at ready late ask p reply page_now
        (subst (λ r. IsReplyTo ask (in_run r n) found_shape.shape.reader.knows p reply) h.run
        (subst (λ q. IsReplyTo ask (in_run s.run n) q p reply) (ap knows_in same ∙ ap (λ (r : Reader). r.knows) (sym found_shape.kept.reader)) f))
