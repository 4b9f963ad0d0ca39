-- All that the calls of a core answered is right.
use Rattle.std.proofs.Common.{◌≡◌, ℕ, Bool, List, [], ◌∷◌, ◌++◌, map, refl, sym, ◌∙◌, ap, subst, Option, None, Some}
use Rattle.std.specs.List.{slice_get, AllByRecursion}
use Rattle.std.specs.Prelude.{IsSomeAnd}
use Rattle.shape_base.specs.declared.handle.Handle.{Handle}
use Rattle.shape_base.specs.declared.offset.Offset.{Offset}
use Rattle.shape_base.specs.Shape.{Keyed}
use Rattle.http_edge.specs.World.{World}
use Rattle.http_edge.specs.Lawful.{Asked}
use Rattle.http_edge.specs.ReplyText.{reply_text}
use Rattle.fold_client.specs.Following.{Heard}
use Rattle.fold_client.specs.Rows.{keyed_row}
use Rattle.core_events.specs.declared.event.Event.{Event}
use Rattle.core_events.specs.declared.out.Out as program
use Rattle.core_events.specs.declared.out.Out.TheVariants as outs
use Rattle.core_law.specs.Situation.{Options, Exchange, Customer, world_of}
use Rattle.core_law.specs.Situation as law
use Rattle.core_law.specs.Clients.{Out, Gives, Cut, Block, Refetched, Refused}
use Rattle.core_law.specs.Clients as turns
use Rattle.core_law.specs.Run.{turn_of, next_of, outs_of}
use Rattle.core_law.specs.Laws.{IsLawfulExchange, IsRightBlock, IsRightOut}
use Rattle.core_machine.specs.Turns.{IsOut, AreOuts}
use Rattle.sync_core.specs.Stream.{Fault}
use Rattle.sync_core.specs.Reading.{Reading, Passes, Brings, Misfits}
use Rattle.sync_core.specs.Run.{Situation, at_start, Goes, turned}
use Rattle.sync_core.specs.Core.{PutsOut, refusal_out}
use Rattle.core_run.specs.Steps.{Step, Leads, told_in}
use Rattle.core_run.specs.Laws.{HasLawful, RepliesAreLawful, Headline}
use Rattle.core_run.specs.Calls.{ArePutOut, IsLawfulText, AreRightRows, IsRightAnswer, AreRightAnswers, AnswersAreRight}
use Rattle.core_run.proofs.Leading.{went}
use Rattle.core_run.proofs.Giving.{IsAnswered, IsGivenAmong, AreGiven, Stay, stay_same, stay_trans, Tells, each}
use Rattle.core_run.proofs.Whole.{lawful_at}

-- ---- the replies of one step

-- the replies that a step put out are those of its exchanges, and those before it stay
record StepTells (s t : law.Situation) (said : List Out) : Type 0 where
  stays : Stay s.exchanges t.exchanges
  gives : AreGiven t.exchanges said

tells_by : (s t : law.Situation) (turn : turns.Turn) (said : List Out) → turn ≡ turns.Goes said t → Tells s turn → StepTells s t said
tells_by s t turn said is h = record {
  stays = subst (λ (u : turns.Turn). Stay s.exchanges (next_of s u).exchanges) is h.stays;
  gives = subst (λ (u : turns.Turn). AreGiven (next_of s u).exchanges (outs_of u)) is h.gives;
}

step_tells : (o : Options) (s : Situation) (e : Event) (reading : Reading) (refusal : Option Fault) (said : List Out) (t : Situation) → turned o s e reading ≡ Goes refusal said t → StepTells s.core t.core said
step_tells o s e Passes refusal said t goes = tells_by s.core t.core (turns.Goes [] s.core) said (went o s e (turns.Goes [] s.core) refusal said t goes).turn_is (record { stays = stay_same s.core.exchanges; gives = tt })
step_tells o s e (Brings event) refusal said t goes = tells_by s.core t.core (turn_of o s.core event) said (went o s e (turn_of o s.core event) refusal said t goes).turn_is (each o s.core event)
step_tells o s e (Misfits cause) refusal said t goes = cc

stays_all : (o : Options) (s : Situation) (events : List Event) (steps : List Step) (next : Situation) → Leads o s events steps next → Stay s.core.exchanges next.core.exchanges
stays_all o s [] [] next leads = subst (λ (t : Situation). Stay s.core.exchanges t.core.exchanges) (sym leads) (stay_same s.core.exchanges)
stays_all o s [] (step ∷ steps) next leads = absurd leads
stays_all o s (e ∷ events) [] next leads = absurd leads
stays_all o s (e ∷ events) (step ∷ steps) next leads =
    stay_trans s.core.exchanges step.after.core.exchanges next.core.exchanges (step_tells o s e step.reading step.refusal step.outs step.after leads.0.goes).stays (stays_all o step.after events steps next leads.1)

-- ---- one thing that was answered

-- the exchange at the end
text_at : (w : World) (request : Asked × Bool) (heard : Heard) (close : Bool) (found : Option Exchange) → close ≡ request.1 → IsSomeAnd found (IsAnswered request heard) → IsSomeAnd found (HasLawful w heard) → IsSomeAnd found (IsLawfulText w (reply_text heard.given.reply close))
text_at w r heard close None same is has = absurd has
text_at w r heard close (Some x) same is has = record { heard = heard; has = has; text = ap (reply_text heard.given.reply) (same ∙ sym is.close) }

-- and at the event
given_at : (w : World) (xs : List Exchange) (s : law.Situation) (e : ℕ) (heard : Heard) (request : Asked × Bool) (found : Option Exchange) (out : program.Out) → IsSomeAnd found (λ (x : Exchange). out ≡ outs.Given e (reply_text heard.given.reply x.close)) → IsSomeAnd found (IsAnswered request heard)
    → IsSomeAnd (slice_get xs e) (IsAnswered request heard) → IsSomeAnd (slice_get xs e) (HasLawful w heard) → IsRightAnswer w xs s out
given_at w xs s e heard r None out is answered after has = absurd is
given_at w xs s e heard r (Some x) out is answered after has = subst (IsRightAnswer w xs s) (sym is) (text_at w r heard x.close (slice_get xs e) answered.close after has)

block_at : (w : World) (handle : Option Handle) (h : Handle) (offset : Offset) (rows : List Keyed) (found : Option Customer) → handle ≡ Some h → IsSomeAnd found (λ (c : Customer). IsRightBlock w c handle offset rows) → IsSomeAnd found (AreRightRows w h offset (map keyed_row rows))
block_at w handle h offset rows None is right = absurd right
block_at w handle h offset rows (Some c) is right = record { rows = rows; are = refl; right = subst (λ named. IsRightBlock w c named offset rows) is right }

module _ (w : World) (xs : List Exchange) (lawful : AllByRecursion (IsLawfulExchange w) xs) (s : law.Situation) (stay : Stay s.exchanges xs) where
  one_right : (expected : Out) (out : program.Out) → IsGivenAmong s.exchanges expected → IsRightOut w (expected, s) → IsOut s.exchanges expected out → IsRightAnswer w xs s out
  one_right (Gives e heard) out given right is =
      let after = stay e given.0 heard given.1 in
      given_at w xs s e heard given.0 (slice_get s.exchanges e) out is given.1 after (lawful_at w xs e given.0 heard lawful after)
  one_right (Cut e) out given right is = subst (IsRightAnswer w xs s) (sym is) tt
  one_right (Block n handle offset rows) out given right is = subst (IsRightAnswer w xs s) (sym is.1.1) (block_at w handle is.0 offset rows (slice_get s.customers n) is.1.0 right)
  one_right (Refetched n) out given right is = subst (IsRightAnswer w xs s) (sym is) tt
  one_right (Refused n status) out given right is = subst (IsRightAnswer w xs s) (sym is) tt

  all_right : (expected : List Out) (rest : List program.Out) → AreGiven s.exchanges expected → AllByRecursion (IsRightOut w) (map {B = Out × law.Situation} (λ out. (out, s)) expected) → AreOuts s.exchanges expected rest → AllByRecursion (IsRightAnswer w xs s) rest
  all_right [] [] given right are = tt
  all_right [] (out ∷ rest) given right are = absurd are
  all_right (x ∷ expected) [] given right are = absurd are
  all_right (x ∷ expected) (out ∷ rest) given right are = (one_right x out given.0 right.0 are.0, all_right expected rest given.1 right.1 are.1)

  -- the refusal of the stream comes first
  refusal_right : (refusal : Option Fault) (rest : List program.Out) → AllByRecursion (IsRightAnswer w xs s) rest → AllByRecursion (IsRightAnswer w xs s) (refusal_out refusal ++ rest)
  refusal_right None rest h = h
  refusal_right (Some f) rest h = (tt, h)

put_right : (w : World) (xs : List Exchange) (step : Step) (now : List program.Out) → AllByRecursion (IsLawfulExchange w) xs → Stay step.after.core.exchanges xs → AreGiven step.after.core.exchanges step.outs
    → AllByRecursion (IsRightOut w) (map {B = Out × law.Situation} (λ out. (out, step.after.core)) step.outs) → PutsOut step.refusal step.after step.outs now → AllByRecursion (IsRightAnswer w xs step.after.core) now
put_right w xs step now lawful stay given right put =
    let s = step.after.core in
    subst (AllByRecursion (IsRightAnswer w xs step.after.core)) (sym put.is) (refusal_right w xs lawful s stay step.refusal put.rest (all_right w xs lawful s stay step.outs put.rest given right put.are))

-- ---- all that was answered

all_front : {A : Type 0} (P : A → Type 0) (xs ys : List A) → AllByRecursion P (xs ++ ys) → AllByRecursion P xs
all_front P [] ys h = tt
all_front P (x ∷ xs) ys h = (h.0, all_front P xs ys h.1)

all_back : {A : Type 0} (P : A → Type 0) (xs ys : List A) → AllByRecursion P (xs ++ ys) → AllByRecursion P ys
all_back P [] ys h = h
all_back P (x ∷ xs) ys h = all_back P xs ys h.1

right_all : (o : Options) (w : World) (s : Situation) (events : List Event) (steps : List Step) (said : List (List program.Out)) (next : Situation) → Leads o s events steps next → ArePutOut steps said → AllByRecursion (IsLawfulExchange w) next.core.exchanges → AllByRecursion (IsRightOut w) (told_in steps)
    → AreRightAnswers w next.core.exchanges steps said
right_all o w s [] [] [] next leads put lawful right = tt
right_all o w s [] [] (now ∷ said) next leads put lawful right = absurd put
right_all o w s [] (step ∷ steps) said next leads put lawful right = absurd leads
right_all o w s (e ∷ events) [] said next leads put lawful right = absurd leads
right_all o w s (e ∷ events) (step ∷ steps) [] next leads put lawful right = absurd put
right_all o w s (e ∷ events) (step ∷ steps) (now ∷ said) next leads put lawful right =
    let here = map {B = Out × law.Situation} (λ out. (out, step.after.core)) step.outs in
    let tells = step_tells o s e step.reading step.refusal step.outs step.after leads.0.goes in (
      put_right w next.core.exchanges step now lawful (stays_all o step.after events steps next leads.1) tells.gives (all_front (IsRightOut w) here (told_in steps) right) put.0,
      right_all o w step.after events steps said next leads.1 put.1 lawful (all_back (IsRightOut w) here (told_in steps) right),
    )

pub answers_are_right : RepliesAreLawful → Headline → AnswersAreRight
answers_are_right lawful right o h step events steps next said start leads put told =
    right_all o (world_of o h step next.core.server) at_start events steps said next leads put (lawful o h step events steps next start leads told) (right o h step events steps next start leads told).blocks
