-- The commits of the server are those that the stream shows.
use Rattle.std.proofs.Common.{◌≡◌, List, [], ◌∷◌, ◌++◌, refl, sym, ◌∙◌, ap, subst, Option}
use Rattle.shape_base.specs.declared.change.Tx.{Tx}
use Rattle.shape_base.specs.Transactions.{LsnsRise}
use Rattle.tx_assembler.specs.Stream.{FedIsShown, ShownRise}
use Rattle.core_events.specs.declared.event.Event.{Event}
use Rattle.core_events.specs.declared.event.Event.TheVariants as events
use Rattle.core_law.specs.Situation.{Options}
use Rattle.core_law.specs.Situation as law
use Rattle.core_law.specs.Clients.{Out}
use Rattle.core_law.specs.Clients as turns
use Rattle.core_law.specs.Run.{Committed, turn_of, next_of}
use Rattle.core_machine.specs.Faults.{under_way}
use Rattle.sync_core.specs.Stream.{Fault, Stream, commits_of, anew}
use Rattle.sync_core.specs.Reading.{Reading, Passes, Brings, Misfits}
use Rattle.sync_core.specs.Run.{Situation, at_start, Goes, IsRead, stream_after, shown_since, shape_of, said_to, turned}
use Rattle.core_run.specs.Steps.{Step, Leads}
use Rattle.core_run.specs.Laws.{CommitsAreShown, stretches_of}
use Rattle.core_run.proofs.Readings.{ReadsQuiet, quiet_request, quiet_query, quiet_piece, quiet_whole}
use Rattle.core_run.proofs.Leading.{went}
use Rattle.core_run.proofs.Turns.{Has, keeps, last_from, commits_all, last_both, rise_behind}
use Rattle.core_run.proofs.Streams.{begins_anew, message_adds, frames_add}

-- the server has the commits that the stream shows
abbrev pub IsShown : Options → law.Situation → Stream → Type 0
IsShown o core stream = Has (commits_of o.tables stream) (last_from 0 (commits_of o.tables stream)) core.server

shows_as : (o : Options) (core : law.Situation) (old new : Stream) → commits_of o.tables new ≡ commits_of o.tables old → IsShown o core old → IsShown o core new
shows_as o core old new same h = subst (λ (txs : List Tx). Has txs (last_from 0 txs) core.server) (sym same) h

-- ---- one event

-- the server's turn goes on so
goes_on : (o : Options) (s next : law.Situation) (turn : turns.Turn) (outs : List Out) (P : law.Situation → Type 0) → turn ≡ turns.Goes outs next → P (next_of s turn) → P next
goes_on o s next turn outs P is h = subst P (ap (next_of s) is) h

quiet_turn : (o : Options) (s : Situation) (e : Event) (reading : Reading) (refusal : Option Fault) (outs : List Out) (next : Situation) → stream_after o.tables s.stream e ≡ s.stream → ReadsQuiet reading → turned o s e reading ≡ Goes refusal outs next → IsShown o s.core s.stream → IsShown o next.core next.stream
quiet_turn o s e Passes refusal outs next same quiet goes h =
    let w = went o s e (turns.Goes [] s.core) refusal outs next goes in
    subst (IsShown o next.core) (sym (w.stream_is ∙ same)) (goes_on o s.core next.core (turns.Goes [] s.core) outs (λ (t : law.Situation). IsShown o t s.stream) w.turn_is h)
quiet_turn o s e (Brings event) refusal outs next same quiet goes h =
    let w = went o s e (turn_of o s.core event) refusal outs next goes in
    let txs = commits_of o.tables s.stream in
    subst (IsShown o next.core) (sym (w.stream_is ∙ same)) (goes_on o s.core next.core (turn_of o s.core event) outs (λ (t : law.Situation). IsShown o t s.stream) w.turn_is (keeps txs (last_from 0 txs) o s.core event quiet h))
quiet_turn o s e (Misfits cause) refusal outs next same quiet goes h = cc

anew_turn : (o : Options) (s : Situation) (reading : Reading) (refusal : Option Fault) (outs : List Out) (next : Situation) → commits_of o.tables (anew s.stream) ≡ commits_of o.tables s.stream → reading ≡ Passes → turned o s events.Anew reading ≡ Goes refusal outs next → IsShown o s.core s.stream
    → IsShown o next.core next.stream
anew_turn o s Passes refusal outs next same read goes h =
    let w = went o s events.Anew (turns.Goes [] s.core) refusal outs next goes in
    subst (IsShown o next.core) (sym w.stream_is) (goes_on o s.core next.core (turns.Goes [] s.core) outs (λ (t : law.Situation). IsShown o t (anew s.stream)) w.turn_is (shows_as o s.core s.stream (anew s.stream) same h))
anew_turn o s (Brings event) refusal outs next same read goes h = cc
anew_turn o s (Misfits cause) refusal outs next same read goes h = cc

-- what the stream shows since then comes to the server, and all of it is taken
commits_turn : (o : Options) (s : Situation) (e : Event) (reading : Reading) (refusal : Option Fault) (outs : List Out) (next : Situation) → let later = stream_after o.tables s.stream e in LsnsRise 0 (commits_of o.tables later) → commits_of o.tables later ≡ commits_of o.tables s.stream ++ shown_since o.tables s.stream later
    → reading ≡ Brings (Committed (shown_since o.tables s.stream later)) → turned o s e reading ≡ Goes refusal outs next → IsShown o s.core s.stream → IsShown o next.core next.stream
commits_turn o s e reading refusal outs next rise adds read goes h =
    let later = stream_after o.tables s.stream e in
    let txs = commits_of o.tables s.stream in
    let more = shown_since o.tables s.stream later in
    let w = went o s e (turn_of o s.core (Committed more)) refusal outs next (ap (turned o s e) (sym read) ∙ goes) in
    let rises : LsnsRise (last_from 0 txs) more = rise_behind 0 txs more (subst (LsnsRise 0) adds rise) in
    let all : Has (txs ++ more) (last_from (last_from 0 txs) more) (next_of s.core (turn_of o s.core (Committed more))).server = commits_all o more txs (last_from 0 txs) s.core.server rises h in
    let last : Has (txs ++ more) (last_from 0 (txs ++ more)) (next_of s.core (turn_of o s.core (Committed more))).server = subst (λ n. Has (txs ++ more) n (next_of s.core (turn_of o s.core (Committed more))).server) (sym (last_both 0 txs more)) all in
    let there : IsShown o (next_of s.core (turn_of o s.core (Committed more))) later = subst (λ (xs : List Tx). Has xs (last_from 0 xs) (next_of s.core (turn_of o s.core (Committed more))).server) (sym adds) last in
    subst (IsShown o next.core) (sym w.stream_is) (goes_on o s.core next.core (turn_of o s.core (Committed more)) outs (λ (t : law.Situation). IsShown o t later) w.turn_is there)

module _ (fed : FedIsShown) (rise : ShownRise) (o : Options) where
  rises : (s : Stream) → LsnsRise 0 (commits_of o.tables s)
  rises s = rise o.tables (stretches_of s)

  shows_one : (s : Situation) (e : Event) (reading : Reading) (refusal : Option Fault) (outs : List Out) (next : Situation) → IsRead o s e reading → turned o s e reading ≡ Goes refusal outs next → IsShown o s.core s.stream → IsShown o next.core next.stream
  shows_one s events.Anew r refusal outs next read goes h = anew_turn o s r refusal outs next (begins_anew fed o.tables s.stream) read goes h
  shows_one s (events.Message bytes) r refusal outs next read goes h = commits_turn o s (events.Message bytes) r refusal outs next (rises (stream_after o.tables s.stream (events.Message bytes))) (message_adds fed o.tables s.stream bytes) read goes h
  shows_one s (events.FrameBytes bytes) r refusal outs next read goes h = commits_turn o s (events.FrameBytes bytes) r refusal outs next (rises (stream_after o.tables s.stream (events.FrameBytes bytes))) (frames_add fed o.tables s.stream bytes) read goes h
  shows_one s (events.RequestHead bytes) r refusal outs next read goes h = quiet_turn o s (events.RequestHead bytes) r refusal outs next refl (quiet_request o.tables bytes r read) goes h
  shows_one s (events.SnapBytes e bytes) r refusal outs next read goes h = quiet_turn o s (events.SnapBytes e bytes) r refusal outs next refl (quiet_piece o s.core e (said_to e (s.pieces ++ (e, bytes) ∷ [])) (shape_of s.core (under_way s.core e)) r read) goes h
  shows_one s (events.Snapshot e head rows) r refusal outs next read goes h = quiet_turn o s (events.Snapshot e head rows) r refusal outs next refl (quiet_whole o s.core e head rows (shape_of s.core (under_way s.core e)) r read) goes h
  shows_one s (events.SnapEnd e failed) r refusal outs next read goes h = quiet_turn o s (events.SnapEnd e failed) r refusal outs next refl (subst ReadsQuiet (sym read) tt) goes h
  shows_one s (events.NewClient pairs) r refusal outs next read goes h = quiet_turn o s (events.NewClient pairs) r refusal outs next refl (quiet_query o.tables pairs r read) goes h
  shows_one s (events.SendNext n) r refusal outs next read goes h = quiet_turn o s (events.SendNext n) r refusal outs next refl (subst ReadsQuiet (sym read) tt) goes h
  shows_one s (events.Receive n e) r refusal outs next read goes h = quiet_turn o s (events.Receive n e) r refusal outs next refl (subst ReadsQuiet (sym read) tt) goes h
  shows_one s (events.Watch n) r refusal outs next read goes h = quiet_turn o s (events.Watch n) r refusal outs next refl (subst ReadsQuiet (sym read) tt) goes h
  shows_one s (events.Remove n) r refusal outs next read goes h = quiet_turn o s (events.Remove n) r refusal outs next refl (subst ReadsQuiet (sym read) tt) goes h
  shows_one s (events.Moment now) r refusal outs next read goes h = quiet_turn o s (events.Moment now) r refusal outs next refl (subst ReadsQuiet (sym read) tt) goes h

  shows_all : (s : Situation) (es : List Event) (steps : List Step) (next : Situation) → Leads o s es steps next → IsShown o s.core s.stream → IsShown o next.core next.stream
  shows_all s [] [] next leads h = subst (λ (t : Situation). IsShown o t.core t.stream) (sym leads) h
  shows_all s [] (step ∷ steps) next leads h = absurd leads
  shows_all s (e ∷ es) [] next leads h = absurd leads
  shows_all s (e ∷ es) (step ∷ steps) next leads h = shows_all step.after es steps next leads.1 (shows_one s e step.reading step.refusal step.outs step.after leads.0.read leads.0.goes h)

-- The commits of the server are those that the stream shows.
pub commits_are_shown : FedIsShown → ShownRise → CommitsAreShown
commits_are_shown fed rise o events steps next leads = (shows_all fed rise o at_start events steps next leads (record { commits = refl; last = refl })).commits
