-- How a core makes of an event what its machine makes of what that is.
use Rattle.std.proofs.Common.{◌≡◌, List, ◌++◌, length, drop, refl, sym, ap, subst, ◌∙◌, Option, None, Some, Result, Ok, Err, OnOk}
use Rattle.std.proofs.Math.Seq.{drop-append_seam}
use Rattle.core_events.specs.declared.event.Event.{Event}
use Rattle.core_events.specs.declared.out.Out.{Out}
use Rattle.core_events.specs.declared.out.StepError.{StepError}
use Rattle.core_events.specs.declared.out.StepError.TheVariants as errors
use Rattle.core_events.specs.declared.out.Unfit.{Unfit}
use Rattle.core_law.specs.Situation.{Options}
use Rattle.core_law.specs.Situation as law
use Rattle.core_law.specs.Clients as turns
use Rattle.core_law.specs.Run as law_run
use Rattle.core_law.specs.Run.{Committed, turn_of, next_of}
use Rattle.core_machine.specs.Standing as machines
use Rattle.core_machine.specs.Turns as machine_turns
use Rattle.sync_core.specs.declared.stepping.Core.{Core}
use Rattle.shape_base.specs.declared.served.Served.{Served}
use Rattle.sync_core.specs.declared.stream.Stream as program
use Rattle.sync_core.specs.declared.stream.Brought.{Brought}
use Rattle.sync_core.specs.Stream.{Stream, Fault, anew, commits_of, fault_of, new_fault}
use Rattle.sync_core.specs.Streaming as streams
use Rattle.sync_core.specs.Reading.{Reading, Brings, Misfits}
use Rattle.sync_core.specs.Run.{Situation, Turn, Goes, Stops, IsRead, stream_after, pieces_after, shown_since, refused_since, moved, goes_by, made_of, turned}
use Rattle.sync_core.specs.Kept.{AreKept, KeptStays}
use Rattle.sync_core.specs.Core as cores
use Rattle.sync_core.specs.Core.{Stands, IsSituated, refusal_out, PutsOut, GoesOn, StopsBy, TurnsTo, IsStep, Takes}
use Rattle.sync_core.proofs.Keeping.{kept_next}

pub same_fault : (x : Option Fault) → new_fault x x ≡ None
same_fault None = refl
same_fault (Some f) = refl

-- nothing is put out but these where the stream is as it was
plain_outs : (o : Options) (s : Situation) (e : Event) (next : Situation) (expected : List turns.Out) (now : List Out) → stream_after o.tables s.stream e ≡ s.stream → machine_turns.AreOuts next.core.exchanges expected now
    → PutsOut (refused_since o.tables s.stream (stream_after o.tables s.stream e)) next expected now
plain_outs o s e next expected now same are = record {
  rest = now;
  is = sym (ap (λ (f : Option Fault). refusal_out f ++ now) (ap (refused_since o.tables s.stream) same ∙ same_fault (fault_of o.tables s.stream)));
  are = are;
}

-- where the event goes on, what is kept stands for the pieces after it
abbrev pub KeepsOn : Options → Situation → Event → turns.Turn → Core → Type 0
KeepsOn o s e t new = (outs : List turns.Out) (core : law.Situation) → t ≡ turns.Goes outs core → AreKept o core (pieces_after s.pieces e) new.dialogues.kept

module _ (o : Options) (s : Situation) (e : Event) (old new : Core) (h : Stands o s old) (stream : new.stream ≡ old.stream) (tables : new.tables ≡ old.tables) (same : stream_after o.tables s.stream e ≡ s.stream) where
  stands_for : (core : law.Situation) → machines.Stands o core new.machine → AreKept o core (pieces_after s.pieces e) new.dialogues.kept → Stands o (moved o s e core) new
  stands_for core machine kept = record {
    machine = machine;
    stream = subst (streams.Stands o.tables new.stream) (sym same) (subst (λ st. streams.Stands o.tables st s.stream) (sym stream) h.stream);
    kept = kept;
    tables = tables ∙ h.tables;
    few = h.few;
  }

  goes : (t : turns.Turn) (now : List Out) → KeepsOn o s e t new → machine_turns.GoesOn o t now new.machine → GoesOn o (goes_by o s e t) now new
  goes (turns.Goes expected core) now keeps g = (plain_outs o s e (moved o s e core) expected now same g.0, stands_for core g.1 (keeps expected core refl))
  goes (turns.Stops error) now keeps g = g

stops : (o : Options) (s : Situation) (e : Event) (t : turns.Turn) (error : StepError) → t ≡ turns.Stops error → goes_by o s e t ≡ Stops error
stops o s e t error is = ap (goes_by o s e) is

-- An event that is read so and is nothing for the stream, where the machine makes of it what it comes to.
pub reads_on : (e : Event) (reading : Options → Situation → Reading) (old new : Core) (result : Result (List Out) StepError) → ((o : Options) (s : Situation) → Stands o s old → IsRead o s e (reading o s))
    → ((o : Options) (s : Situation) → Stands o s old → machine_turns.TurnsTo o (made_of o s.core (reading o s)) result new.machine)
    → ((o : Options) (s : Situation) → Stands o s old → KeepsOn o s e (made_of o s.core (reading o s)) new) → ((o : Options) (s : Situation) → stream_after o.tables s.stream e ≡ s.stream) → new.stream ≡ old.stream → new.tables ≡ old.tables → Takes old new e result
reads_on e reading old new (Ok now) read makes keeps same stream tables = λ o s h. record { reading = reading o s; is = read o s h; turns = goes o s e old new h stream tables (same o s) (made_of o s.core (reading o s)) now (keeps o s h) (makes o s h) }
reads_on e reading old new (Err errors.OutOfMemory) read makes keeps same stream tables = tt
reads_on e reading old new (Err errors.TooManyExchanges) read makes keeps same stream tables = λ o s h. record { reading = reading o s; is = read o s h; turns = stops o s e (made_of o s.core (reading o s)) errors.TooManyExchanges (makes o s h) }
reads_on e reading old new (Err (errors.Unfit cause)) read makes keeps same stream tables = λ o s h. record { reading = reading o s; is = read o s h; turns = stops o s e (made_of o s.core (reading o s)) (errors.Unfit cause) (makes o s h) }

-- an event that brings no piece
keeps_on : KeptStays → (o : Options) (s : Situation) (e : Event) (is : law_run.Event) (old new : Core) → Stands o s old → pieces_after s.pieces e ≡ s.pieces → new.dialogues ≡ old.dialogues → KeepsOn o s e (turn_of o s.core is) new
keeps_on law o s e is old new h spares same outs core turn =
    subst (λ d. AreKept o core (pieces_after s.pieces e) d.kept) (sym same)
    (subst (λ ps. AreKept o core ps old.dialogues.kept) (sym spares) (kept_next law o s.core is s.pieces old.dialogues.kept h.machine.start h.machine.reached h.kept outs core turn))

-- One that is this for the server and its clients, and brings no piece of a snapshot.
pub lifts : KeptStays → (e : Event) (is : law_run.Event) (old new : Core) (result : Result (List Out) StepError) → machine_turns.Takes old.machine new.machine is result → ((o : Options) (s : Situation) → Stands o s old → IsRead o s e (Brings is))
    → ((o : Options) (s : Situation) → stream_after o.tables s.stream e ≡ s.stream) → ((s : Situation) → pieces_after s.pieces e ≡ s.pieces) → new.stream ≡ old.stream → new.dialogues ≡ old.dialogues → new.tables ≡ old.tables → Takes old new e result
lifts law e is old new result takes read same spares stream dialogues tables =
    reads_on e (λ o s. Brings is) old new result read (λ o s h. takes o s.core h.machine) (λ o s h. keeps_on law o s e is old new h (spares s) dialogues) same stream tables

-- An event that does not fit.
pub misfits : (e : Event) (cause : Unfit) (old new : Core) → ((o : Options) (s : Situation) → Stands o s old → IsRead o s e (Misfits cause)) → Takes old new e (Err (errors.Unfit cause))
misfits e cause old new read = λ o s h. record { reading = Misfits cause; is = read o s h; turns = refl }

-- ---- the core stands for some situation

goes_situated : (o : Options) (t : Turn) (now : List Out) (new : Core) → GoesOn o t now new → IsSituated new
goes_situated o (Goes refusal expected next) now new g = record { options = o; situation = next; stands = g.1 }
goes_situated o (Stops error) now new g = absurd g

pub situated : (e : Event) (old new : Core) (result : Result (List Out) StepError) → Takes old new e result → IsSituated old → OnOk result (IsSituated new)
situated e old new (Ok now) takes w = let step = takes w.options w.situation w.stands in goes_situated w.options (turned w.options w.situation e step.reading) now new step.turns
situated e old new (Err error) takes w = tt

-- ---- the stream

-- It begins anew.
pub anew_situated : (old new : Core) → IsSituated old → new.machine ≡ old.machine → new.dialogues ≡ old.dialogues → new.tables ≡ old.tables → ((tables : List Served) (s : Stream) → streams.Stands tables old.stream s → streams.Stands tables new.stream (anew s)) → IsSituated new
anew_situated old new w machine dialogues tables begins = let s = w.situation in record {
  options = w.options;
  situation = record { core = s.core; stream = anew s.stream; pieces = s.pieces };
  stands = record {
    machine = subst (machines.Stands w.options s.core) (sym machine) w.stands.machine;
    stream = begins w.options.tables s.stream w.stands.stream;
    kept = subst (λ d. AreKept w.options s.core s.pieces d.kept) (sym dialogues) w.stands.kept;
    tables = tables ∙ w.stands.tables;
    few = w.stands.few;
  };
}

module _ (o : Options) (s : Situation) (e : Event) (old new : Core) (mid : program.Stream) (b : Brought) (h : Stands o s old) (came : streams.Receives o.tables s.stream (stream_after o.tables s.stream e) b mid) (stream : new.stream ≡ mid) (tables : new.tables ≡ old.tables) where
  shown_now : shown_since o.tables s.stream (stream_after o.tables s.stream e) ≡ b.txs
  shown_now = ap (drop (length (commits_of o.tables s.stream))) came.commits ∙ drop-append_seam (commits_of o.tables s.stream) b.txs

  brought_goes : (t : turns.Turn) (now : List Out) → KeepsOn o s e t new → cores.BringsOn o t b now new.machine → GoesOn o (goes_by o s e t) now new
  brought_goes (turns.Goes expected core) now keeps g = (
    record { rest = g.rest; is = g.is ∙ ap (λ f. refusal_out f ++ g.rest) (sym came.fault); are = g.are },
    record { machine = g.stands; stream = subst (λ st. streams.Stands o.tables st (stream_after o.tables s.stream e)) (sym stream) came.stands; kept = keeps expected core refl; tables = tables ∙ h.tables; few = h.few },
  )
  brought_goes (turns.Stops error) now keeps g = absurd g

-- A record of the stream: its commits come to the server, and its refusal is put out first.
pub streams_on : KeptStays → (e : Event) (old new : Core) (mid : program.Stream) (b : Brought) (result : Result (List Out) StepError)
    → ((o : Options) (s : Situation) (r : Reading) → r ≡ Brings (Committed (shown_since o.tables s.stream (stream_after o.tables s.stream e))) → IsRead o s e r)
    → ((o : Options) (s : Situation) → Stands o s old → streams.Receives o.tables s.stream (stream_after o.tables s.stream e) b mid) → cores.HasBrought old.machine new.machine b result → ((s : Situation) → pieces_after s.pieces e ≡ s.pieces) → new.stream ≡ mid → new.dialogues ≡ old.dialogues → new.tables ≡ old.tables → Takes old new e result
streams_on law e old new mid b (Ok now) read came brought spares stream dialogues tables = λ o s h. record {
  reading = Brings (Committed b.txs);
  is = read o s (Brings (Committed b.txs)) (ap (λ txs. Brings (Committed txs)) (sym (shown_now o s e old new mid b h (came o s h) stream tables)));
  turns = brought_goes o s e old new mid b h (came o s h) stream tables (turn_of o s.core (Committed b.txs)) now (keeps_on law o s e (Committed b.txs) old new h (spares s) dialogues) (brought o s.core h.machine);
}
streams_on law e old new mid b (Err errors.OutOfMemory) read came brought spares stream dialogues tables = tt
streams_on law e old new mid b (Err errors.TooManyExchanges) read came brought spares stream dialogues tables = λ o s h. record {
  reading = Brings (Committed b.txs);
  is = read o s (Brings (Committed b.txs)) (ap (λ txs. Brings (Committed txs)) (sym (shown_now o s e old new mid b h (came o s h) stream tables)));
  turns = stops o s e (turn_of o s.core (Committed b.txs)) errors.TooManyExchanges (brought o s.core h.machine);
}
streams_on law e old new mid b (Err (errors.Unfit cause)) read came brought spares stream dialogues tables = λ o s h. record {
  reading = Brings (Committed b.txs);
  is = read o s (Brings (Committed b.txs)) (ap (λ txs. Brings (Committed txs)) (sym (shown_now o s e old new mid b h (came o s h) stream tables)));
  turns = stops o s e (turn_of o s.core (Committed b.txs)) (errors.Unfit cause) (brought o s.core h.machine);
}
