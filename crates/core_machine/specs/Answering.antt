-- What exchanges have once some of them were answered.
use Rattle.std.specs.Prelude.{◌≡◌, ℕ, ◌+◌, Bool, true, false, List, [], ◌∷◌, ◌++◌, Option, None, Some, slice_get}
use Rattle.std.specs.List.{AllByRecursion}
use Rattle.shape_base.specs.declared.reply.Reply.{Reply}
use Rattle.http_edge.specs.ReplyText.{reply_text}
use Rattle.fold_client.specs.Following.{Heard}
use Rattle.core_events.specs.declared.out.Out.{Out}
use Rattle.core_events.specs.declared.out.Out.TheVariants as outs
use Rattle.core_law.specs.Situation.{Options, Server, Exchange, Situation}
use Rattle.core_law.specs.Steps.{change_at}
use Rattle.core_law.specs.Laws.{IsStart}
use Rattle.core_law.specs.Reached.{IsReached, WasGiven}
use Rattle.core_server.specs.declared.server.Server.{Server as KeptServer}
use Rattle.core_server.specs.Standing as server
use Rattle.core_exchanges.specs.declared.exchanges.Exchanges.{Exchanges}
use Rattle.core_exchanges.specs.Standing as exchanges
use Rattle.core_machine.specs.declared.answering.Refusal.{Refusal}
use Rattle.core_machine.specs.Replying.{answered_in}

-- the number in each role was registered
abbrev pub AreGivenNumbers : Server → List Exchange → Type 0
AreGivenNumbers v xs = AllByRecursion (λ (x : Exchange). WasGiven v x.role) xs

-- A server that events lead to, and exchanges that it may answer.
pub record Halfway (o : Options) (s : Situation) (xs : List Exchange) (v : KeptServer) (t : Exchanges) : Type 0 where
  pub start : IsStart o
  pub reached : IsReached o s
  pub server : server.Stands o s.server v
  pub exchanges : exchanges.Stands t xs
  pub roles : AreGivenNumbers s.server xs

pub record CanAnswer (v : KeptServer) (t : Exchanges) : Type 0 where
  pub options : Options
  pub situation : Situation
  pub asked : List Exchange
  pub halfway : Halfway options situation asked v t

-- ---- what is put out

-- the text of a reply that is put out
abbrev pub text_of : ℕ → Bool → Bool → Reply → List Out
text_of i false close reply = []
text_of i true close reply = outs.Given i (reply_text reply close) ∷ []

abbrev pub text_if : ℕ → Bool → Bool → Option Heard → Option Heard → List Out
text_if i false close before now = []
text_if i true close (Some h) now = []
text_if i true close None None = []
text_if i true close None (Some h) = outs.Given i (reply_text h.given.reply close) ∷ []

-- the text of the reply that an exchange from outside has now and had not before
abbrev pub text_now : ℕ → Exchange → Exchange → List Out
text_now i x y = text_if i y.outside y.close x.given y.given

abbrev pub text_at : (ℕ → Exchange → Exchange) → ℕ → Option Exchange → List Out
text_at f i None = []
text_at f i (Some x) = text_now i x (f i x)

-- ---- one after the other

-- what is left once those in these places are answered
abbrev pub settled_at : (ℕ → Exchange → Exchange) → List ℕ → List Exchange → List Exchange
settled_at f [] xs = xs
settled_at f (p ∷ ps) xs = settled_at f ps (change_at (f p) xs p)

abbrev pub texts_at : (ℕ → Exchange → Exchange) → List ℕ → List Exchange → List Out
texts_at f [] xs = []
texts_at f (p ∷ ps) xs = text_at f p (slice_get xs p) ++ texts_at f ps (change_at (f p) xs p)

-- Some exchanges were answered, and these texts put out.
pub record Answered (o : Options) (s : Situation) (xs : List Exchange) (v : KeptServer) (t : Exchanges) (before now : List Out) (texts : List Out) : Type 0 where
  pub halfway : Halfway o s xs v t
  pub outs : now ≡ before ++ texts

-- The exchange in a place is answered.
abbrev pub Answers : Options → Situation → List Exchange → KeptServer → Option Refusal → Exchanges → List Out → ℕ → Bool → Exchanges → List Out → Type 0
Answers o s xs v r t before place late t' now = Halfway o s xs v t
    → Answered o s (change_at (answered_in o s.server late r place) xs place) v t' before now (text_at (answered_in o s.server late r) place (slice_get xs place))

-- Those in these places are, one after the other.
abbrev pub AnswersAll : Options → Situation → List Exchange → KeptServer → Option Refusal → Exchanges → List Out → List ℕ → Bool → Exchanges → List Out → Type 0
AnswersAll o s xs v r t before places late t' now = Halfway o s xs v t
    → Answered o s (settled_at (answered_in o s.server late r) places xs) v t' before now (texts_at (answered_in o s.server late r) places xs)

-- ---- what was put out for all

-- the texts of the replies from a place on that are there now and were not before, or whose exchanges were not
abbrev pub texts_now : ℕ → List Exchange → List Exchange → List Out
texts_now i xs [] = []
texts_now i [] (y ∷ ys) = text_if i y.outside y.close None y.given ++ texts_now (i + 1) [] ys
texts_now i (x ∷ xs) (y ∷ ys) = text_if i y.outside y.close x.given y.given ++ texts_now (i + 1) xs ys
