-- What the calls of a core lead to, where each was answered.
use Rattle.std.specs.Prelude.{◌≡◌, ℕ, List, [], ◌∷◌, ◌++◌, map, Some, IsSomeAnd, slice_get, Ok}
use Rattle.std.specs.List.{AllByRecursion}
use Rattle.shape_base.specs.declared.handle.Handle.{Handle}
use Rattle.shape_base.specs.declared.offset.Offset.{Offset}
use Rattle.shape_base.specs.declared.entry.KeyedRow.{KeyedRow}
use Rattle.shape_base.specs.declared.history.History.{History}
use Rattle.shape_base.specs.Shape.{Keyed}
use Rattle.http_edge.specs.World.{World}
use Rattle.http_edge.specs.ReplyText.{reply_text}
use Rattle.fold_client.specs.Following.{Heard}
use Rattle.fold_client.specs.Rows.{keyed_row}
use Rattle.core_events.specs.declared.event.Event.{Event}
use Rattle.core_events.specs.declared.out.Out.{Out}
use Rattle.core_events.specs.declared.out.Out.TheVariants as outs
use Rattle.core_law.specs.Situation.{Options, Exchange, Customer, world_of}
use Rattle.core_law.specs.Situation as law
use Rattle.core_law.specs.Laws.{IsStart, IsRightBlock}
use Rattle.sync_core.specs.declared.stepping.Core.{Core}
use Rattle.sync_core.specs.Run.{Situation, at_start}
use Rattle.sync_core.specs.Core.{Stands, PutsOut, Takes}
use Rattle.core_run.specs.Steps.{Step, Leads}
use Rattle.core_run.specs.Laws.{IsToldBy, HasLawful}

-- for each step what was put out: the refusal of the stream, where one came, and then the rest
abbrev pub ArePutOut : List Step → List (List Out) → Type 0
ArePutOut [] [] = Unit {0}
ArePutOut [] (now ∷ said) = ⊥
ArePutOut (step ∷ steps) [] = ⊥
ArePutOut (step ∷ steps) (now ∷ said) = PutsOut step.refusal step.after step.outs now × ArePutOut steps said

-- A core stands after events: they lead from a situation to one for which it stands, and this was put out for them, one after the other.
pub record StandsAfter (o : Options) (s : Situation) (events : List Event) (said : List (List Out)) (core : Core) : Type 0 where
  pub steps : List Step
  pub next : Situation
  pub leads : Leads o s events steps next
  pub outs : ArePutOut steps said
  pub stands : Stands o next core

-- A core stands after no events where it stands.
abbrev pub StandsFirst : Type 0
StandsFirst = (o : Options) (s : Situation) (core : Core) → Stands o s core → StandsAfter o s [] [] core

-- One event more that the core takes, with what it answers to it.
abbrev pub StandsMore : Type 0
StandsMore = (o : Options) (s : Situation) (events : List Event) (said : List (List Out)) (old new : Core) (e : Event) (now : List Out) → StandsAfter o s events said old → Takes old new e (Ok now) → StandsAfter o s (events ++ e ∷ []) (said ++ now ∷ []) new

-- a core took events one after the other, put this out for each, and became the last one
abbrev pub TakesAll : Core → List Event → List (List Out) → Core → Type 0
TakesAll first [] [] last = last ≡ first
TakesAll first [] (now ∷ said) last = ⊥
TakesAll first (e ∷ events) [] last = ⊥
TakesAll first (e ∷ events) (now ∷ said) last = (middle : Core) × Takes first middle e (Ok now) × TakesAll middle events said last

-- Where a core takes events, one after the other, they lead from each situation for which it stood to one for which the last core stands.
abbrev pub CallsLead : Type 0
CallsLead = (first last : Core) (events : List Event) (said : List (List Out)) → TakesAll first events said last → (o : Options) (s : Situation) → Stands o s first → StandsAfter o s events said last

-- ---- what the calls answered

-- the text of a lawful reply, that of the exchange
pub record IsLawfulText (w : World) (bytes : List ℕ) (x : Exchange) : Type 0 where
  pub heard : Heard
  pub has : HasLawful w heard x
  pub text : bytes ≡ reply_text heard.given.reply x.close

-- the rows of a right block
pub record AreRightRows (w : World) (handle : Handle) (offset : Offset) (printed : List KeyedRow) (c : Customer) : Type 0 where
  pub rows : List Keyed
  pub are : printed ≡ map keyed_row rows
  pub right : IsRightBlock w c (Some handle) offset rows

-- One thing that a call answered is right: a reply is the text of a lawful one, that of its exchange at the end, and a block has right rows for its client after the event.
abbrev pub IsRightAnswer : World → List Exchange → law.Situation → Out → Type 0
IsRightAnswer w xs s (outs.Given e bytes) = IsSomeAnd (slice_get xs e) (IsLawfulText w bytes)
IsRightAnswer w xs s (outs.Cut e) = Unit {0}
IsRightAnswer w xs s (outs.Block n handle offset rows) = IsSomeAnd (slice_get s.customers n) (AreRightRows w handle offset rows)
IsRightAnswer w xs s (outs.Refetched n) = Unit {0}
IsRightAnswer w xs s (outs.Refused n status) = Unit {0}
IsRightAnswer w xs s (outs.StreamRefused name place) = Unit {0}

-- so is all that was answered, event by event
abbrev pub AreRightAnswers : World → List Exchange → List Step → List (List Out) → Type 0
AreRightAnswers w xs [] [] = Unit {0}
AreRightAnswers w xs [] (now ∷ said) = ⊥
AreRightAnswers w xs (step ∷ steps) [] = ⊥
AreRightAnswers w xs (step ∷ steps) (now ∷ said) = AllByRecursion (IsRightAnswer w xs step.after.core) now × AreRightAnswers w xs steps said

-- All that is put out from the start on is right.
abbrev pub AnswersAreRight : Type 0
AnswersAreRight = (o : Options) (h : History) (step : ℕ → ℕ) (events : List Event) (steps : List Step) (next : Situation) (said : List (List Out)) → IsStart o → Leads o at_start events steps next → ArePutOut steps said → IsToldBy o h step next
    → AreRightAnswers (world_of o h step next.core.server) next.core.exchanges steps said
