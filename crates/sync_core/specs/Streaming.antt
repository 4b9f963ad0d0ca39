-- What the program's stream is of the definitions.
use Rattle.std.specs.Prelude.{◌≡◌, ℕ, false, List, [], ◌∷◌, ◌++◌, length, Option, None, Some}
use Rattle.std.specs.List.{AllByRecursion}
use Rattle.pg_wire.specs.declared.frame.Frame.{Frame}
use Rattle.pg_wire.specs.Reached.{Reached}
use Rattle.pg_wire.specs.FrameList.{frames_of}
use Rattle.pg_wire.specs.Cutting.{Took}
use Rattle.shape_base.specs.declared.change.Tx.{Tx}
use Rattle.shape_base.specs.declared.served.Served.{Served}
use Rattle.shape_base.specs.Transactions.{IsWhole}
use Rattle.tx_assembler.specs.Served.{AreServed}
use Rattle.tx_assembler.specs.Stream.{HasTaken}
use Rattle.sync_core.specs.declared.stream.Stream as program
use Rattle.sync_core.specs.declared.stream.Refusal.{Refusal}
use Rattle.sync_core.specs.declared.stream.Outcome.{Outcome}
use Rattle.sync_core.specs.declared.stream.Outcome.TheVariants as outcomes
use Rattle.sync_core.specs.declared.stream.Brought.{Brought}
use Rattle.pg_wire.specs.declared.frame.FrameError.{FrameError}
use Rattle.sync_core.specs.Stream.{Stream, Item, Faulty, Fault, new_fault, messages_in, done_in, commits_of, fault_of, is_over, with_one, in_frame}

-- the messages were taken, and it is known whether the stream is over
pub record HasCome (tables : List Served) (m : program.Stream) (s : Stream) : Type 0 where
  pub taken : HasTaken tables (done_in s) (messages_in s.now) m.assembler
  pub over : m.over ≡ is_over tables s
  pub count : m.over ≡ false → m.count ≡ length (messages_in s.now)

-- all frames that are whole were taken
abbrev pub AreTaken : List ℕ → Reached → Type 0
AreTaken fed frames = (taken : List Frame) × Took fed taken frames × (frames_of fed ≡ record { frames = taken; refusal = None })

-- The program's stream stands for this one.
pub record Stands (tables : List Served) (m : program.Stream) (s : Stream) : Type 0 where
  pub come : HasCome tables m s
  pub frames : m.over ≡ false → AreTaken s.fed m.frames

-- ---- what was brought

abbrev pub fault_in : Option Refusal → Option Fault
fault_in None = None
fault_in (Some r) = Some (record { name = r.name; place = r.place })

abbrev pub txs_in : Outcome → List Tx
txs_in outcomes.Nothing = []
txs_in (outcomes.Commit tx) = tx ∷ []
txs_in outcomes.Ended = []
txs_in (outcomes.Refused r) = []

abbrev pub refusal_in : Outcome → Option Refusal
refusal_in outcomes.Nothing = None
refusal_in (outcomes.Commit tx) = None
refusal_in outcomes.Ended = None
refusal_in (outcomes.Refused r) = Some r

-- Something came, and the stream after it: its transactions, and its refusal, are those that were not there before.
pub record Brings (tables : List Served) (s next : Stream) (txs : List Tx) (refusal : Option Refusal) : Type 0 where
  pub commits : commits_of tables next ≡ commits_of tables s ++ txs
  pub fault : fault_of tables s ≡ None → fault_of tables next ≡ fault_in refusal

-- an item was taken
pub record TakesItem (tables : List Served) (s : Stream) (i : Item) (c : Outcome) (new : program.Stream) : Type 0 where
  pub come : HasCome tables new (with_one s i)
  pub brings : Brings tables s (with_one s i) (txs_in c) (refusal_in c)

-- a keepalive brings nothing, and a frame brings its item
abbrev pub TakesItems : List Served → Stream → List Item → Outcome → program.Stream → Type 0
TakesItems tables s [] c new = HasCome tables new s × (txs_in c ≡ []) × (refusal_in c ≡ None)
TakesItems tables s (i ∷ items) c new = (items ≡ []) × TakesItem tables s i c new

abbrev pub txs_of : Option Outcome → List Tx
txs_of None = []
txs_of (Some c) = txs_in c

-- the next frame was taken; or the frames are refused; or there is no whole one
pub data TakesFrame (tables : List Served) (s : Stream) (fed : List ℕ) (taken : List Frame) : Option Outcome → program.Stream → Type 0 where
  NoFrame : {new : program.Stream} → HasCome tables new s → Took fed taken new.frames → frames_of fed ≡ record { frames = taken; refusal = None } → TakesFrame tables s fed taken None new
  OneFrame : {c : Outcome} {new : program.Stream} (f : Frame) → Took fed (taken ++ f ∷ []) new.frames → TakesItems tables s (in_frame f) c new → TakesFrame tables s fed taken (Some c) new
  BadFrames : {c : Outcome} {new : program.Stream} (e : FrameError) → frames_of fed ≡ record { frames = taken; refusal = Some e } → TakesItem tables s (Faulty e) c new → TakesFrame tables s fed taken (Some c) new

abbrev pub later_refusal : Option Refusal → Option Refusal → Option Refusal
later_refusal r None = r
later_refusal r (Some refusal) = Some refusal

-- a record was received
pub record Receives (tables : List Served) (s next : Stream) (b : Brought) (new : program.Stream) : Type 0 where
  pub stands : Stands tables new next
  pub commits : commits_of tables next ≡ commits_of tables s ++ b.txs
  pub fault : new_fault (fault_of tables s) (fault_of tables next) ≡ fault_in b.refusal

-- each is whole
abbrev pub AreWhole : List Tx → Type 0
AreWhole = AllByRecursion IsWhole

-- each has definitions of these served tables alone
abbrev pub AreOfServed : List Served → List Tx → Type 0
AreOfServed tables = AllByRecursion (λ (tx : Tx). AreServed tables tx.defs)

-- for the served tables of each stream for which the program's stood
abbrev pub BringsServed : program.Stream → List Tx → Type 0
BringsServed old txs = (tables : List Served) (s : Stream) → Stands tables old s → AreOfServed tables txs
