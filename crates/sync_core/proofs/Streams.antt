-- The stream, item by item.
use Rattle.std.proofs.Common.{◌≡◌, ℕ, ◌+◌, Bool, true, false, ◌||◌, List, [], ◌∷◌, ◌++◌, length, drop, refl, sym, ◌∙◌, ap, subst, true≢false, append_assoc, Option, None, Some, is_some, inl, inr}
use Rattle.std.specs.Prelude.{Result, Ok, Err, MatchBool, IfErr, codes, ◌⊎◌}
use Rattle.std.specs.Bool.{if◌then◌else◌}
use Rattle.std.specs.List.{list_any, flat_map, AllByRecursion}
use Rattle.std.proofs.lemmas.List.{append-nil, length-append, map-append}
use Rattle.std.proofs.lemmas.List.Folds.{list_any-append}
use Rattle.std.proofs.lemmas.Grind.{flat_map-append}
use Rattle.pgout.specs.declared.message.Message.{Message}
use Rattle.pg_wire.specs.declared.frame.Frame.{Frame}
use Rattle.pg_wire.specs.declared.frame.FrameError.{FrameError}
use Rattle.shape_base.specs.declared.change.Tx.{Tx}
use Rattle.shape_base.specs.declared.served.Served.{Served}
use Rattle.tx_assembler.specs.declared.answer.AssembleError.{AssembleError}
use Rattle.tx_assembler.specs.declared.answer.AssembleError.TheVariants as errors
use Rattle.tx_assembler.specs.declared.answer.Fed.{Fed}
use Rattle.tx_assembler.specs.Answers.{Answer, is_memory}
use Rattle.tx_assembler.specs.Served.{AreServed}
use Rattle.tx_assembler.specs.Shown.{Stretch, shown}
use Rattle.tx_assembler.proofs.Lemmas.{tables_taken}
use Rattle.tx_assembler.specs.Stream.{sent, due_next, if_given, HasTaken, TookOne, UnlessMemory}
use Rattle.byte_format.specs.Whole.{whole}
use Rattle.pgout.specs.declared.fault.MessageError.{MessageError}
use Rattle.pgout.specs.declared.fault.MessageError.TheVariants as reading
use Rattle.pgout.specs.Faults.{IsReading}
use Rattle.pgout.specs.Grammar.{message}
use Rattle.pg_wire.specs.declared.frame.FrameError.TheVariants as faults
use Rattle.sync_core.specs.declared.stream.Stream as program
use Rattle.sync_core.specs.declared.stream.Outcome as declared
use Rattle.sync_core.specs.declared.stream.Outcome.TheVariants as outcomes
use Rattle.sync_core.specs.declared.stream.Refusal.{Refusal}
use Rattle.sync_core.specs.Stream.{Stream, begun, anew, Item, Read, Unread, Ended, Faulty, messages_in, message_then, stretch_of, done_in, commits_of, Fault, frame_fault, assembly_name, fault_by, fault_after, fault_of, is_end, is_over, item_by, item_of, with_one, with_item, with_items, in_frame, in_frames, in_refusal, Framed, with_piece, new_fault}
use Rattle.pg_wire.specs.FrameList.{Held, held_within, held_from, frames_of}
use Rattle.pg_wire.specs.Cutting.{Took, after, given}
use Rattle.pg_wire.specs.Reached.{Reached}
use Rattle.sync_core.specs.declared.stream.Brought.{Brought}
use Rattle.sync_core.specs.Streaming.{HasCome, AreTaken, Stands, Brings, TakesItem, TakesItems, TakesFrame, NoFrame, OneFrame, BadFrames, Receives, fault_in, txs_in, refusal_in, later_refusal, txs_of, AreOfServed, BringsServed}

-- ---- messages

then-append : (i : Item) (xs ys : List Message) → message_then i (xs ++ ys) ≡ message_then i xs ++ ys
then-append (Read m) xs ys = refl
then-append Unread xs ys = refl
then-append Ended xs ys = refl
then-append (Faulty e) xs ys = refl

pub messages-append : (xs ys : List Item) → messages_in (xs ++ ys) ≡ messages_in xs ++ messages_in ys
messages-append [] ys = refl
messages-append (i ∷ xs) ys = ap (message_then i) (messages-append xs ys) ∙ then-append i (messages_in xs) (messages_in ys)

-- ---- faults

-- no refusal here, so that of what follows
by_none : (a : Answer Fed) (n : ℕ) (later other : Option Fault) → fault_by a n later ≡ None → (later ≡ None) × (fault_by a n other ≡ other)
by_none (Ok fed) n later other h = (h, refl)
by_none (Err e) n later other h = cc

or_none : (a b : Bool) → (a || b) ≡ false → (a ≡ false) × (b ≡ false)
or_none true b h = cc
or_none false b h = (refl, h)

-- items without an end and a refusal do not count for what follows but by their messages
pub fault-append : (tables : List Served) (done : List Stretch) (before : List Message) (items more : List Item) → fault_after tables done before items ≡ None → list_any is_end items ≡ false
    → fault_after tables done before (items ++ more) ≡ fault_after tables done (before ++ messages_in items) more
fault-append tables done before [] more h k = ap (λ (ms : List Message). fault_after tables done ms more) (sym (append-nil before))
fault-append tables done before (Read m ∷ items) more h k =
    let p = by_none (due_next tables done before m) (length before) (fault_after tables done (before ++ m ∷ []) items) (fault_after tables done (before ++ m ∷ []) (items ++ more)) h in
    p.1 ∙ fault-append tables done (before ++ m ∷ []) items more p.0 k ∙ ap (λ (ms : List Message). fault_after tables done ms more) (append_assoc before (m ∷ []) (messages_in items))
fault-append tables done before (Unread ∷ items) more h k = cc
fault-append tables done before (Ended ∷ items) more h k = cc
fault-append tables done before (Faulty e ∷ items) more h k = cc

-- the stream goes on
pub record IsOpen (tables : List Served) (s : Stream) : Type 0 where
  pub ends : list_any is_end s.now ≡ false
  pub fault : fault_of tables s ≡ None

none_of : {A : Type 0} (o : Option A) → is_some o ≡ false → o ≡ None
none_of None h = refl
none_of (Some x) h = cc

pub open_from : (tables : List Served) (s : Stream) → is_over tables s ≡ false → IsOpen tables s
open_from tables s h = let p = or_none (list_any is_end s.now) (is_some (fault_of tables s)) h in record { ends = p.0; fault = none_of (fault_of tables s) p.1 }

-- the refusal of one item more
abbrev fault_here : List Served → Stream → Item → Option Fault
fault_here tables s i = fault_after tables (done_in s) (messages_in s.now) (i ∷ [])

pub fault_one : (tables : List Served) (s : Stream) (i : Item) → IsOpen tables s → fault_of tables (with_one s i) ≡ fault_here tables s i
fault_one tables s i o = fault-append tables (done_in s) [] s.now (i ∷ []) o.fault o.ends

ends_one : (b c : Bool) → b ≡ false → (b || (c || false)) ≡ c
ends_one b true h = rw h refl
ends_one b false h = rw h refl

pub over_one : (tables : List Served) (s : Stream) (i : Item) → IsOpen tables s → is_over tables (with_one s i) ≡ (is_end i || is_some (fault_here tables s i))
over_one tables s i o =
    ap (λ (b : Bool). b || is_some (fault_of tables (with_one s i))) (list_any-append is_end s.now (i ∷ []) ∙ ends_one (list_any is_end s.now) (is_end i) o.ends)
    ∙ ap (λ (f : Option Fault). is_end i || is_some f) (fault_one tables s i o)

-- ---- one item

-- an item that is no message changes nothing of what is shown
pub quiet_commits : (tables : List Served) (s : Stream) (i : Item) → messages_in (i ∷ []) ≡ [] → commits_of tables (with_one s i) ≡ commits_of tables s ++ []
quiet_commits tables s i none =
    ap (λ (ms : List Message). shown tables (done_in s ++ sent ms ∷ [])) (messages-append s.now (i ∷ []) ∙ ap (λ (ms : List Message). messages_in s.now ++ ms) none ∙ append-nil (messages_in s.now))
    ∙ sym (append-nil (commits_of tables s))

quiet_messages : (s : Stream) (i : Item) → messages_in (i ∷ []) ≡ [] → messages_in s.now ≡ messages_in (s.now ++ i ∷ [])
quiet_messages s i none = sym (messages-append s.now (i ∷ []) ∙ ap (λ (ms : List Message). messages_in s.now ++ ms) none ∙ append-nil (messages_in s.now))

-- one that ends the stream, or is refused
pub quiet_one : (tables : List Served) (s : Stream) (i : Item) (c : declared.Outcome) (m new : program.Stream) → HasCome tables m s → m.over ≡ false → messages_in (i ∷ []) ≡ [] → new.assembler ≡ m.assembler → new.over ≡ true → txs_in c ≡ []
    → fault_here tables s i ≡ fault_in (refusal_in c) → (is_end i || is_some (fault_in (refusal_in c))) ≡ true → TakesItem tables s i c new
quiet_one tables s i c m new h goes none kept over txs fault ends =
    let o = open_from tables s (sym h.over ∙ goes) in
    record {
      come = record {
        taken = subst (λ (ms : List Message). HasTaken tables (done_in s) ms new.assembler) (quiet_messages s i none) (subst (λ a. HasTaken tables (done_in s) (messages_in s.now) a) (sym kept) h.taken);
        over = over ∙ sym (over_one tables s i o ∙ ap (λ (f : Option Fault). is_end i || is_some f) fault ∙ ends);
        count = λ e. cc;
      };
      brings = record {
        commits = quiet_commits tables s i none ∙ ap (λ (txs : List Tx). commits_of tables s ++ txs) (sym txs);
        fault = λ e. fault_one tables s i o ∙ fault;
      };
    }

not_memory : (e : AssembleError) → (e ≡ errors.OutOfMemory → ⊥) → is_memory e ≡ false
not_memory errors.OutOfMemory h = absurd (h refl)
not_memory (errors.OutOfOrder have got) h = refl
not_memory (errors.LsnMismatch begin commit) h = refl
not_memory (errors.UnknownRelation oid) h = refl
not_memory (errors.NoOldRow oid) h = refl
not_memory (errors.WrongWidth have want) h = refl
not_memory (errors.BinaryColumn column) h = refl
not_memory (errors.UnsentValue column) h = refl
not_memory (errors.NotUtf8 place) h = refl
not_memory (errors.TxTooLarge bytes limit) h = refl

one_message : (s : Stream) (m : Message) → messages_in s.now ++ m ∷ [] ≡ messages_in (s.now ++ Read m ∷ [])
one_message s m = sym (messages-append s.now (Read m ∷ []))

-- a message was taken, and answered
pub message_taken : (tables : List Served) (s : Stream) (m : Message) (fed : Fed) (c : declared.Outcome) (old new : program.Stream) → HasCome tables old s → old.over ≡ false → TookOne tables (done_in s) (messages_in s.now) m (Ok fed) new.assembler
    → new.over ≡ false → new.count ≡ old.count + 1 → if_given (Ok fed) [] ≡ txs_in c → refusal_in c ≡ None → TakesItem tables s (Read m) c new
message_taken tables s m fed c old new h goes t over count txs none =
    let o = open_from tables s (sym h.over ∙ goes) in
    let fault : fault_here tables s (Read m) ≡ None = ap (λ (a : Answer Fed). fault_by a (length (messages_in s.now)) None) (sym t.due) in
    let size = length-append (messages_in s.now) (m ∷ []) in
    record {
      come = record {
        taken = subst (λ (ms : List Message). HasTaken tables (done_in s) ms new.assembler) (one_message s m) t.taken;
        over = over ∙ sym (over_one tables s (Read m) o ∙ ap (λ (f : Option Fault). is_some f) fault);
        count = λ e. count ∙ ap (λ (n : ℕ). n + 1) (h.count goes) ∙ sym size ∙ ap (length {A = Message}) (one_message s m);
      };
      brings = record {
        commits = ap (λ (ms : List Message). shown tables (done_in s ++ sent ms ∷ [])) (sym (one_message s m)) ∙ t.grown ∙ ap (λ (txs : List Tx). commits_of tables s ++ txs) txs;
        fault = λ e. fault_one tables s (Read m) o ∙ fault ∙ ap fault_in (sym none);
      };
    }

-- a message was refused
pub message_refused : (tables : List Served) (s : Stream) (m : Message) (e : AssembleError) (r : Refusal) (old new : program.Stream) → HasCome tables old s → old.over ≡ false → (e ≡ errors.OutOfMemory → ⊥)
    → MatchBool (is_memory e) (Unit {0}) (TookOne tables (done_in s) (messages_in s.now) m (Err e) new.assembler) → new.over ≡ true → r ≡ record { name = assembly_name e; place = old.count } → TakesItem tables s (Read m) (outcomes.Refused r) new
message_refused tables s m e r old new h goes not took over is =
    let o = open_from tables s (sym h.over ∙ goes) in
    let t : TookOne tables (done_in s) (messages_in s.now) m (Err e) new.assembler = subst (λ (b : Bool). MatchBool b (Unit {0}) (TookOne tables (done_in s) (messages_in s.now) m (Err e) new.assembler)) (not_memory e not) took in
    let place : length (messages_in s.now) ≡ r.place = sym (h.count goes) ∙ ap (λ (x : Refusal). x.place) (sym is) in
    let fault : fault_here tables s (Read m) ≡ fault_in (Some r) =
    ap (λ (a : Answer Fed). fault_by a (length (messages_in s.now)) None) (sym t.due) ∙ ap (λ (n : ℕ). Some (record { name = assembly_name e; place = n })) place ∙ ap (λ (x : Refusal). Some (record { name = x.name; place = r.place })) (sym is) in
    record {
      come = record {
        taken = subst (λ (ms : List Message). HasTaken tables (done_in s) ms new.assembler) (one_message s m) t.taken;
        over = over ∙ sym (over_one tables s (Read m) o ∙ ap (λ (f : Option Fault). is_some f) fault);
        count = λ x. cc;
      };
      brings = record {
        commits = ap (λ (ms : List Message). shown tables (done_in s ++ sent ms ∷ [])) (sym (one_message s m)) ∙ t.grown;
        fault = λ x. fault_one tables s (Read m) o ∙ fault;
      };
    }

-- ---- many items

pub over_item : (tables : List Served) (s : Stream) (i : Item) → is_over tables s ≡ true → with_item tables s i ≡ s
over_item tables s i h = ap (λ (b : Bool). if b then s else with_one s i) h

pub open_item : (tables : List Served) (s : Stream) (i : Item) → is_over tables s ≡ false → with_item tables s i ≡ with_one s i
open_item tables s i h = ap (λ (b : Bool). if b then s else with_one s i) h

pub over_items : (tables : List Served) (s : Stream) (items : List Item) → is_over tables s ≡ true → with_items tables s items ≡ s
over_items tables s [] h = refl
over_items tables s (i ∷ items) h = ap (λ (x : Stream). with_items tables x items) (over_item tables s i h) ∙ over_items tables s items h

pub items-append : (tables : List Served) (s : Stream) (xs ys : List Item) → with_items tables s (xs ++ ys) ≡ with_items tables (with_items tables s xs) ys
items-append tables s [] ys = refl
items-append tables s (i ∷ xs) ys = items-append tables (with_item tables s i) xs ys

-- no fault is new
pub new_same : (f : Option Fault) → new_fault f f ≡ None
new_same None = refl
new_same (Some f) = refl

-- the bytes of frames stay
item_fed : (b : Bool) (s : Stream) (i : Item) → (if b then s else with_one s i).fed ≡ s.fed
item_fed true s i = refl
item_fed false s i = refl

pub items_fed : (tables : List Served) (s : Stream) (items : List Item) → (with_items tables s items).fed ≡ s.fed
items_fed tables s [] = refl
items_fed tables s (i ∷ items) = items_fed tables (with_item tables s i) items ∙ item_fed (is_over tables s) s i

is_open : (tables : List Served) (s : Stream) → IsOpen tables s → is_over tables s ≡ false
is_open tables s o = ap (λ (b : Bool). b || is_some (fault_of tables s)) o.ends ∙ ap (λ (f : Option Fault). is_some f) o.fault

-- ---- one record of a message

pub received_over : (tables : List Served) (s next : Stream) (m : program.Stream) → Stands tables m s → next ≡ s → Receives tables s next (record { txs = []; refusal = None }) m
received_over tables s next m st is = record {
  stands = subst (λ (x : Stream). Stands tables m x) (sym is) st;
  commits = ap (commits_of tables) is ∙ sym (append-nil (commits_of tables s));
  fault = ap (λ (x : Stream). new_fault (fault_of tables s) (fault_of tables x)) is ∙ new_same (fault_of tables s);
}

later_none : (r : Option Refusal) → later_refusal None r ≡ r
later_none None = refl
later_none (Some r) = refl

pub received_one : (tables : List Served) (s : Stream) (i : Item) (c : declared.Outcome) (old new : program.Stream) (b : Brought) → Stands tables old s → old.over ≡ false → new.frames ≡ old.frames → TakesItem tables s i c new
    → b ≡ record { txs = [] ++ txs_in c; refusal = later_refusal None (refusal_in c) } → Receives tables s (with_item tables s i) b new
received_one tables s i c old new b st goes kept t is =
    let o = open_from tables s (sym st.come.over ∙ goes) in
    let next = open_item tables s i (sym st.come.over ∙ goes) in
    record {
      stands = record {
        come = subst (λ (x : Stream). HasCome tables new x) (sym next) t.come;
        frames = λ e. subst (λ (x : Stream). AreTaken x.fed new.frames) (sym next) (subst (AreTaken s.fed) (sym kept) (st.frames goes));
      };
      commits = ap (commits_of tables) next ∙ t.brings.commits ∙ ap (λ (x : Brought). commits_of tables s ++ x.txs) (sym is);
      fault = ap (λ (f : Option Fault). new_fault f (fault_of tables (with_item tables s i))) o.fault ∙ ap (fault_of tables) next ∙ t.brings.fault o.fault ∙ ap fault_in (sym (ap (λ (x : Brought). x.refusal) is ∙ later_none (refusal_in c)));
    }

-- ---- one record of frames

-- frames were taken, and others may follow
pub record Mid (tables : List Served) (s : Stream) (before : List Frame) (fed : List ℕ) (m : program.Stream) (b : Brought) : Type 0 where
  pub taken : List Frame
  pub took : Took fed (before ++ taken) m.frames
  pub come : HasCome tables m (with_items tables s (flat_map in_frame taken))
  pub goes : m.over ≡ false
  pub commits : commits_of tables (with_items tables s (flat_map in_frame taken)) ≡ commits_of tables s ++ b.txs
  pub none : b.refusal ≡ None

drop_front : {A : Type 0} (xs ys : List A) → drop (length xs) (xs ++ ys) ≡ ys
drop_front [] ys = refl
drop_front (x ∷ xs) ys = drop_front xs ys

-- the items of these frames
pub items_taken : (before taken : List Frame) (r : Option FrameError) (old new : Held) → old ≡ record { frames = before; refusal = None } → new ≡ record { frames = before ++ taken; refusal = r } → in_frames old new ≡ flat_map in_frame taken ++ in_refusal r
items_taken before taken r old new e f =
    ap (λ (h : Held). in_frames h new) e ∙ ap (λ (h : Held). flat_map in_frame (drop (length before) h.frames) ++ in_refusal h.refusal) f
    ∙ ap (λ (fs : List Frame). flat_map in_frame fs ++ in_refusal r) (drop_front before taken)

pub mid_start : (tables : List Served) (s : Stream) (bytes : List ℕ) (m : program.Stream) (before : List Frame) → HasCome tables m s → m.over ≡ false → Took (s.fed ++ bytes) before m.frames → Mid tables s before (s.fed ++ bytes) m (record { txs = []; refusal = None })
mid_start tables s bytes m before h goes took = record {
  taken = [];
  took = subst (λ (fs : List Frame). Took (s.fed ++ bytes) fs m.frames) (sym (append-nil before)) took;
  come = h;
  goes = goes;
  commits = sym (append-nil (commits_of tables s));
  none = refl;
}

-- the bytes of frames play no part in what came
fed_stands : (tables : List Served) (s : Stream) (bytes : List ℕ) (x : Stream) (m : program.Stream) → x ≡ with_items tables s (in_frames (frames_of s.fed) (frames_of (s.fed ++ bytes))) → HasCome tables m x → (m.over ≡ false → AreTaken (s.fed ++ bytes) m.frames)
    → Stands tables m (with_piece tables s (Framed bytes))
fed_stands tables s bytes x m is come frames =
    let there = subst (λ (y : Stream). HasCome tables m y) is come in
    record {
      come = record { taken = there.taken; over = there.over; count = there.count };
      frames = λ e. subst (λ (fed : List ℕ). AreTaken fed m.frames) (sym (ap (λ (fed : List ℕ). fed ++ bytes) (items_fed tables s (in_frames (frames_of s.fed) (frames_of (s.fed ++ bytes)))))) (frames e);
    }

-- what one frame brings, as items
items_one : (tables : List Served) (s : Stream) (items : List Item) (c : declared.Outcome) (new : program.Stream) → IsOpen tables s → TakesItems tables s items c new → HasCome tables new (with_items tables s items) × Brings tables s (with_items tables s items) (txs_in c) (refusal_in c)
items_one tables s [] c new o t = (t.0, record { commits = sym (append-nil (commits_of tables s)) ∙ ap (λ (txs : List Tx). commits_of tables s ++ txs) (sym t.1); fault = λ e. o.fault ∙ ap fault_in (sym t.2) })
items_one tables s (i ∷ []) c new o t = let next = open_item tables s i (is_open tables s o) in (subst (λ (x : Stream). HasCome tables new x) (sym next) t.1.come, subst (λ (x : Stream). Brings tables s x (txs_in c) (refusal_in c)) (sym next) t.1.brings)
items_one tables s (i ∷ j ∷ items) c new o t = cc

no_fault : (r : Option Refusal) → fault_in r ≡ None → r ≡ None
no_fault None h = refl
no_fault (Some r) h = cc

-- the frames of all bytes are those that were taken and those of what is left
frames_ahead : (fed : List ℕ) (taken : List Frame) (now : Reached) → Took fed taken now → frames_of fed ≡ record { frames = taken ++ (held_from now.place now.rest).frames; refusal = (held_from now.place now.rest).refusal }
frames_ahead fed taken now t =
    ap (held_from 0) (sym (append-nil fed)) ∙ t.ahead [] ∙ ap (λ (rest : List ℕ). after taken (held_from now.place rest)) (append-nil now.rest)

-- no further frame is whole
pub mid_ends : (tables : List Served) (s : Stream) (bytes : List ℕ) (before : List Frame) (m new : program.Stream) (b : Brought) → frames_of s.fed ≡ record { frames = before; refusal = None } → fault_of tables s ≡ None → (mid : Mid tables s before (s.fed ++ bytes) m b)
    → HasCome tables new (with_items tables s (flat_map in_frame mid.taken)) → new.over ≡ false → Took (s.fed ++ bytes) (before ++ mid.taken) new.frames → frames_of (s.fed ++ bytes) ≡ record { frames = before ++ mid.taken; refusal = None }
    → Receives tables s (with_piece tables s (Framed bytes)) b new
mid_ends tables s bytes before m new b old none mid come goes took all =
    let items = items_taken before mid.taken None (frames_of s.fed) (frames_of (s.fed ++ bytes)) old all ∙ append-nil (flat_map in_frame mid.taken) in
    let next : with_items tables s (in_frames (frames_of s.fed) (frames_of (s.fed ++ bytes))) ≡ with_items tables s (flat_map in_frame mid.taken) = ap (with_items tables s) items in
    let o = open_from tables (with_items tables s (flat_map in_frame mid.taken)) (sym come.over ∙ goes) in
    record {
      stands = fed_stands tables s bytes _ new (sym next) come (λ e. (before ++ mid.taken, took, all));
      commits = ap (commits_of tables) next ∙ mid.commits;
      fault = ap (λ (f : Option Fault). new_fault f (fault_of tables (with_items tables s (in_frames (frames_of s.fed) (frames_of (s.fed ++ bytes)))))) none
          ∙ ap (fault_of tables) next ∙ o.fault ∙ ap fault_in (sym mid.none);
    }

-- one frame more, after which the stream goes on
pub mid_more : (tables : List Served) (s : Stream) (before : List Frame) (fed : List ℕ) (f : Frame) (c : declared.Outcome) (m new : program.Stream) (b b' : Brought) → (mid : Mid tables s before fed m b) → Took fed ((before ++ mid.taken) ++ f ∷ []) new.frames
    → TakesItems tables (with_items tables s (flat_map in_frame mid.taken)) (in_frame f) c new → new.over ≡ false → b' ≡ record { txs = b.txs ++ txs_in c; refusal = later_refusal b.refusal (refusal_in c) } → Mid tables s before fed new b'
mid_more tables s before fed f c m new b b' mid took takes goes is =
    let here = with_items tables s (flat_map in_frame mid.taken) in
    let o = open_from tables here (sym mid.come.over ∙ mid.goes) in
    let x = items_one tables here (in_frame f) c new o takes in
    let all : with_items tables s (flat_map in_frame (mid.taken ++ f ∷ [])) ≡ with_items tables here (in_frame f) =
    ap (with_items tables s) (flat_map-append in_frame mid.taken (f ∷ []) ∙ ap (λ (is : List Item). flat_map in_frame mid.taken ++ is) (append-nil (in_frame f))) ∙ items-append tables s (flat_map in_frame mid.taken) (in_frame f) in
    let next = open_from tables (with_items tables here (in_frame f)) (sym x.0.over ∙ goes) in
    record {
      taken = mid.taken ++ f ∷ [];
      took = subst (λ (fs : List Frame). Took fed fs new.frames) (append_assoc before mid.taken (f ∷ [])) took;
      come = subst (λ (y : Stream). HasCome tables new y) (sym all) x.0;
      goes = goes;
      commits = ap (commits_of tables) all ∙ x.1.commits ∙ ap (λ (txs : List Tx). txs ++ txs_in c) mid.commits ∙ append_assoc (commits_of tables s) b.txs (txs_in c) ∙ ap (λ (y : Brought). commits_of tables s ++ y.txs) (sym is);
      none = ap (λ (y : Brought). y.refusal) is ∙ ap (λ (r : Option Refusal). later_refusal r (refusal_in c)) mid.none ∙ later_none (refusal_in c) ∙ no_fault (refusal_in c) (sym (x.1.fault o.fault) ∙ next.fault);
    }

-- a frame after which the stream is over
pub mid_over : (tables : List Served) (s : Stream) (bytes : List ℕ) (before : List Frame) (f : Frame) (c : declared.Outcome) (m new : program.Stream) (b b' : Brought) → frames_of s.fed ≡ record { frames = before; refusal = None } → fault_of tables s ≡ None → (mid : Mid tables s before (s.fed ++ bytes) m b)
    → Took (s.fed ++ bytes) ((before ++ mid.taken) ++ f ∷ []) new.frames → TakesItems tables (with_items tables s (flat_map in_frame mid.taken)) (in_frame f) c new → new.over ≡ true
    → b' ≡ record { txs = b.txs ++ txs_in c; refusal = later_refusal b.refusal (refusal_in c) } → Receives tables s (with_piece tables s (Framed bytes)) b' new
mid_over tables s bytes before f c m new b b' old none mid took takes over is =
    let here = with_items tables s (flat_map in_frame mid.taken) in
    let o = open_from tables here (sym mid.come.over ∙ mid.goes) in
    let x = items_one tables here (in_frame f) c new o takes in
    let after = held_from new.frames.place new.frames.rest in
    let ahead : frames_of (s.fed ++ bytes) ≡ record { frames = before ++ (mid.taken ++ (f ∷ after.frames)); refusal = after.refusal } =
    frames_ahead (s.fed ++ bytes) ((before ++ mid.taken) ++ f ∷ []) new.frames took
    ∙ ap (λ (fs : List Frame). record { frames = fs; refusal = after.refusal }) (append_assoc (before ++ mid.taken) (f ∷ []) after.frames ∙ append_assoc before mid.taken (f ∷ after.frames)) in
    let items = items_taken before (mid.taken ++ (f ∷ after.frames)) after.refusal (frames_of s.fed) (frames_of (s.fed ++ bytes)) old ahead in
    let rest = flat_map in_frame after.frames ++ in_refusal after.refusal in
    let split : flat_map in_frame (mid.taken ++ (f ∷ after.frames)) ++ in_refusal after.refusal ≡ flat_map in_frame mid.taken ++ (in_frame f ++ rest) =
    ap (λ (is : List Item). is ++ in_refusal after.refusal) (flat_map-append in_frame mid.taken (f ∷ after.frames)) ∙ append_assoc (flat_map in_frame mid.taken) (in_frame f ++ flat_map in_frame after.frames) (in_refusal after.refusal)
    ∙ ap (λ (is : List Item). flat_map in_frame mid.taken ++ is) (append_assoc (in_frame f) (flat_map in_frame after.frames) (in_refusal after.refusal)) in
    let next : with_items tables s (in_frames (frames_of s.fed) (frames_of (s.fed ++ bytes))) ≡ with_items tables here (in_frame f) =
    ap (with_items tables s) (items ∙ split) ∙ items-append tables s (flat_map in_frame mid.taken) (in_frame f ++ rest) ∙ items-append tables here (in_frame f) rest
    ∙ over_items tables (with_items tables here (in_frame f)) rest (sym x.0.over ∙ over) in
    record {
      stands = fed_stands tables s bytes _ new (sym next) x.0 (λ e. cc);
      commits = ap (commits_of tables) next ∙ x.1.commits ∙ ap (λ (txs : List Tx). txs ++ txs_in c) mid.commits ∙ append_assoc (commits_of tables s) b.txs (txs_in c) ∙ ap (λ (y : Brought). commits_of tables s ++ y.txs) (sym is);
      fault = ap (λ (g : Option Fault). new_fault g (fault_of tables (with_items tables s (in_frames (frames_of s.fed) (frames_of (s.fed ++ bytes)))))) none
          ∙ ap (fault_of tables) next ∙ x.1.fault o.fault ∙ ap fault_in (sym (ap (λ (y : Brought). y.refusal) is ∙ ap (λ (r : Option Refusal). later_refusal r (refusal_in c)) mid.none ∙ later_none (refusal_in c)));
    }

-- the frames are refused
pub mid_bad : (tables : List Served) (s : Stream) (bytes : List ℕ) (before : List Frame) (e : FrameError) (c : declared.Outcome) (m new : program.Stream) (b b' : Brought) → frames_of s.fed ≡ record { frames = before; refusal = None } → fault_of tables s ≡ None → (mid : Mid tables s before (s.fed ++ bytes) m b)
    → frames_of (s.fed ++ bytes) ≡ record { frames = before ++ mid.taken; refusal = Some e } → TakesItem tables (with_items tables s (flat_map in_frame mid.taken)) (Faulty e) c new → new.over ≡ true
    → b' ≡ record { txs = b.txs ++ txs_in c; refusal = later_refusal b.refusal (refusal_in c) } → Receives tables s (with_piece tables s (Framed bytes)) b' new
mid_bad tables s bytes before e c m new b b' old none mid all x over is =
    let here = with_items tables s (flat_map in_frame mid.taken) in
    let o = open_from tables here (sym mid.come.over ∙ mid.goes) in
    let next : with_items tables s (in_frames (frames_of s.fed) (frames_of (s.fed ++ bytes))) ≡ with_one here (Faulty e) =
    ap (with_items tables s) (items_taken before mid.taken (Some e) (frames_of s.fed) (frames_of (s.fed ++ bytes)) old all) ∙ items-append tables s (flat_map in_frame mid.taken) (Faulty e ∷ [])
    ∙ open_item tables here (Faulty e) (sym mid.come.over ∙ mid.goes) in
    record {
      stands = fed_stands tables s bytes _ new (sym next) x.come (λ h. cc);
      commits = ap (commits_of tables) next ∙ x.brings.commits ∙ ap (λ (txs : List Tx). txs ++ txs_in c) mid.commits ∙ append_assoc (commits_of tables s) b.txs (txs_in c) ∙ ap (λ (y : Brought). commits_of tables s ++ y.txs) (sym is);
      fault = ap (λ (g : Option Fault). new_fault g (fault_of tables (with_items tables s (in_frames (frames_of s.fed) (frames_of (s.fed ++ bytes)))))) none
          ∙ ap (fault_of tables) next ∙ x.brings.fault o.fault ∙ ap fault_in (sym (ap (λ (y : Brought). y.refusal) is ∙ ap (λ (r : Option Refusal). later_refusal r (refusal_in c)) mid.none ∙ later_none (refusal_in c)));
    }

-- ---- beginnings

frames_none : frames_of [] ≡ record { frames = []; refusal = None }
unfolding held_from held_within
frames_none = refl

-- a stream of which nothing came
pub begins : (tables : List Served) (m : program.Stream) → HasTaken tables [] [] m.assembler → Took [] [] m.frames → m.count ≡ 0 → m.over ≡ false → Stands tables m begun
begins tables m taken took count over = record {
  come = record { taken = taken; over = over; count = λ e. count };
  frames = λ e. ([], took, frames_none);
}

-- the stream begins anew
pub begins_anew : (tables : List Served) (s : Stream) (m : program.Stream) → HasTaken tables (done_in s ++ sent (messages_in s.now) ∷ []) [] m.assembler → Took [] [] m.frames → m.count ≡ 0 → m.over ≡ false → Stands tables m (anew s)
begins_anew tables s m taken took count over = record {
  come = record { taken = subst (λ (done : List Stretch). HasTaken tables done [] m.assembler) (sym (map-append stretch_of s.earlier (s.now ∷ []))) taken; over = over; count = λ e. count };
  frames = λ e. ([], took, frames_none);
}

-- ---- as the program comes to it

pub took_ok : (r : Answer Fed) (fed : Fed) (P : Answer Fed → Type 0) → r ≡ Ok fed → UnlessMemory r (P r) → P (Ok fed)
took_ok r fed P is h = subst (λ (x : Answer Fed). UnlessMemory x (P x)) is h

pub took_err : (r : Answer Fed) (e : AssembleError) (P : Answer Fed → Type 0) → r ≡ Err e → UnlessMemory r (P r) → MatchBool (is_memory e) (Unit {0}) (P (Err e))
took_err r e P is h = subst (λ (x : Answer Fed). UnlessMemory x (P x)) is h

-- what came does not hang on the frames
pub come_kept : (tables : List Served) (s : Stream) (m new : program.Stream) → HasCome tables m s → new.assembler ≡ m.assembler → new.over ≡ m.over → new.count ≡ m.count → HasCome tables new s
come_kept tables s m new h a o n = record {
  taken = subst (λ x. HasTaken tables (done_in s) (messages_in s.now) x) (sym a) h.taken;
  over = o ∙ h.over;
  count = λ e. n ∙ h.count (sym o ∙ e);
}

-- bytes that are no message
pub unread_one : (tables : List Served) (s : Stream) (bytes : List ℕ) (left : ℕ) (r : Refusal) (m new : program.Stream) → HasCome tables m s → m.over ≡ false → whole message bytes ≡ Err left → new.assembler ≡ m.assembler → new.over ≡ true
    → r ≡ record { name = codes "bad_message"; place = m.count } → TakesItem tables s (item_of bytes) (outcomes.Refused r) new
unread_one tables s bytes left r m new h goes none kept over is =
    let item : Unread ≡ item_of bytes = sym (ap item_by none) in
    let place : length (messages_in s.now) ≡ r.place = sym (h.count goes) ∙ ap (λ (x : Refusal). x.place) (sym is) in
    let fault : fault_here tables s Unread ≡ fault_in (Some r) = ap (λ (n : ℕ). Some (record { name = codes "bad_message"; place = n })) place ∙ ap (λ (x : Refusal). Some (record { name = x.name; place = r.place })) (sym is) in
    subst (λ (i : Item). TakesItem tables s i (outcomes.Refused r) new) item (quiet_one tables s Unread (outcomes.Refused r) m new h goes refl kept over refl fault refl)

-- the end of the stream
pub ended_one : (tables : List Served) (s : Stream) (m new : program.Stream) → HasCome tables m s → m.over ≡ false → new.assembler ≡ m.assembler → new.over ≡ true → TakesItem tables s Ended outcomes.Ended new
ended_one tables s m new h goes kept over = quiet_one tables s Ended outcomes.Ended m new h goes refl kept over refl refl refl

-- a refusal of the frames
pub faulty_one : (tables : List Served) (s : Stream) (e : FrameError) (r : Refusal) (m new : program.Stream) → HasCome tables m s → m.over ≡ false → new.assembler ≡ m.assembler → new.over ≡ true
    → r ≡ record { name = (frame_fault e).name; place = (frame_fault e).place } → TakesItem tables s (Faulty e) (outcomes.Refused r) new
faulty_one tables s e r m new h goes kept over is = quiet_one tables s (Faulty e) (outcomes.Refused r) m new h goes refl kept over refl (ap (λ (x : Refusal). Some (record { name = x.name; place = x.place })) (sym is)) refl

pub took_none : (fed : List ℕ) (taken : List Frame) (r : Result (Option Frame) FrameError) (new : Reached) → r ≡ Ok None → Took fed (taken ++ given r) new → Took fed taken new
took_none fed taken r new is h = subst (λ (fs : List Frame). Took fed fs new) (append-nil taken) (subst (λ (x : Result (Option Frame) FrameError). Took fed (taken ++ given x) new) is h)

pub took_frame : (fed : List ℕ) (taken : List Frame) (r : Result (Option Frame) FrameError) (f : Frame) (new : Reached) → r ≡ Ok (Some f) → Took fed (taken ++ given r) new → Took fed (taken ++ f ∷ []) new
took_frame fed taken r f new is h = subst (λ (x : Result (Option Frame) FrameError). Took fed (taken ++ given x) new) is h

-- the refusal is that of all bytes
pub refused_frames : (fed : List ℕ) (taken : List Frame) (e : FrameError) → (e ≡ faults.OutOfMemory → ⊥) → (e ≡ faults.OutOfMemory) ⊎ ((more : List ℕ) → frames_of (fed ++ more) ≡ record { frames = taken; refusal = Some e }) → frames_of fed ≡ record { frames = taken; refusal = Some e }
refused_frames fed taken e not h = elim h [ inl is ↦ absurd (not is) | inr all ↦ ap frames_of (sym (append-nil fed)) ∙ all [] ]

-- why bytes are no message
pub bad_reading : (r : Result Message MessageError) (place kind : ℕ) (read : Result Message ℕ) → r ≡ Err (reading.BadMessage place kind) → IsReading r read → (left : ℕ) × (read ≡ Err left)
bad_reading r place kind read is h = subst (λ (x : Result Message MessageError). IsReading x read) is h

abbrev RefusedSo : Reached → FrameError → Type 0
RefusedSo old e = (e ≡ faults.OutOfMemory) ⊎ ((fed more : List ℕ) (taken : List Frame) → Took fed taken old → frames_of (fed ++ more) ≡ record { frames = taken; refusal = Some e })

pub pick_more : (fed : List ℕ) (taken : List Frame) (old : Reached) → Took fed taken old → (r : Result (Option Frame) FrameError) (e : FrameError) → r ≡ Err e → IfErr r (RefusedSo old)
    → (e ≡ faults.OutOfMemory) ⊎ ((more : List ℕ) → frames_of (fed ++ more) ≡ record { frames = taken; refusal = Some e })
pick_more fed taken old t r e is h =
    let there : RefusedSo old e = subst (λ (x : Result (Option Frame) FrameError). IfErr x (RefusedSo old)) is h in
    elim there [ inl memory ↦ inl memory | inr all ↦ inr (λ more. all fed more taken t) ]

-- ---- the loop over frames

-- bytes of frames behind an end or a refusal
pub frames_over : (tables : List Served) (s : Stream) (bytes : List ℕ) (m : program.Stream) (b : Brought) → Stands tables m s → m.over ≡ true → b ≡ record { txs = []; refusal = None } → Receives tables s (with_piece tables s (Framed bytes)) b m
frames_over tables s bytes m b st over is =
    let next : with_items tables s (in_frames (frames_of s.fed) (frames_of (s.fed ++ bytes))) ≡ s = over_items tables s (in_frames (frames_of s.fed) (frames_of (s.fed ++ bytes))) (sym st.come.over ∙ over) in
    record {
      stands = fed_stands tables s bytes s m (sym next) st.come (λ e. cc);
      commits = ap (commits_of tables) next ∙ sym (append-nil (commits_of tables s)) ∙ ap (λ (x : Brought). commits_of tables s ++ x.txs) (sym is);
      fault = ap (λ (x : Stream). new_fault (fault_of tables s) (fault_of tables x)) next ∙ new_same (fault_of tables s) ∙ ap (λ (x : Brought). fault_in x.refusal) (sym is);
    }

pub record IsNoFrame (tables : List Served) (s : Stream) (fed : List ℕ) (taken : List Frame) (new : program.Stream) : Type 0 where
  pub come : HasCome tables new s
  pub took : Took fed taken new.frames
  pub all : frames_of fed ≡ record { frames = taken; refusal = None }

pub no_frame : (tables : List Served) (s : Stream) (fed : List ℕ) (taken : List Frame) (o : Option declared.Outcome) (new : program.Stream) → TakesFrame tables s fed taken o new → ((c : declared.Outcome) → o ≡ Some c → ⊥) → IsNoFrame tables s fed taken new
no_frame tables s fed taken None new (NoFrame h t e) none = record { come = h; took = t; all = e }
no_frame tables s fed taken (Some c) new (OneFrame f t i) none = absurd (none c refl)
no_frame tables s fed taken (Some c) new (BadFrames e f i) none = absurd (none c refl)

pub data IsSomeFrame (tables : List Served) (s : Stream) (fed : List ℕ) (taken : List Frame) (c : declared.Outcome) (new : program.Stream) : Type 0 where
  Whole : (f : Frame) → Took fed (taken ++ f ∷ []) new.frames → TakesItems tables s (in_frame f) c new → IsSomeFrame tables s fed taken c new
  Bad : (e : FrameError) → frames_of fed ≡ record { frames = taken; refusal = Some e } → TakesItem tables s (Faulty e) c new → IsSomeFrame tables s fed taken c new

frame_there : (tables : List Served) (s : Stream) (fed : List ℕ) (taken : List Frame) (c : declared.Outcome) (new : program.Stream) → TakesFrame tables s fed taken (Some c) new → IsSomeFrame tables s fed taken c new
frame_there tables s fed taken c new (OneFrame f t i) = Whole f t i
frame_there tables s fed taken c new (BadFrames e f i) = Bad e f i

pub some_frame : (tables : List Served) (s : Stream) (fed : List ℕ) (taken : List Frame) (o : Option declared.Outcome) (c : declared.Outcome) (new : program.Stream) → o ≡ Some c → TakesFrame tables s fed taken o new → IsSomeFrame tables s fed taken c new
some_frame tables s fed taken o c new is t = frame_there tables s fed taken c new (subst (λ (x : Option declared.Outcome). TakesFrame tables s fed taken x new) is t)

bad_over : (tables : List Served) (s : Stream) (e : FrameError) (c : declared.Outcome) (new : program.Stream) → IsOpen tables s → TakesItem tables s (Faulty e) c new → new.over ≡ true
bad_over tables s e c new o t = t.come.over ∙ over_one tables s (Faulty e) o

absurd_over : {A : Type 0} (b : Bool) → b ≡ true → b ≡ false → A
absurd_over true over on = absurd (true≢false on)
absurd_over false over on = absurd (true≢false (sym over))

pub loop_ends : (tables : List Served) (s : Stream) (bytes : List ℕ) (start m new : program.Stream) (b : Brought) (o : Option declared.Outcome) (st : Stands tables start s) (goes : start.over ≡ false) (mid : Mid tables s (st.frames goes).0 (s.fed ++ bytes) m b)
    → ((s' : Stream) (taken : List Frame) → HasCome tables m s' → Took (s.fed ++ bytes) taken m.frames → TakesFrame tables s' (s.fed ++ bytes) taken o new) → ((c : declared.Outcome) → o ≡ Some c → ⊥)
    → Receives tables s (with_piece tables s (Framed bytes)) b new
loop_ends tables s bytes start m new b o st goes mid takes none =
    let here = with_items tables s (flat_map in_frame mid.taken) in
    let n = no_frame tables here (s.fed ++ bytes) ((st.frames goes).0 ++ mid.taken) o new (takes here ((st.frames goes).0 ++ mid.taken) mid.come mid.took) none in
    mid_ends tables s bytes (st.frames goes).0 m new b (st.frames goes).2 (open_from tables s (sym st.come.over ∙ goes)).fault mid n.come (n.come.over ∙ sym mid.come.over ∙ mid.goes) n.took n.all

pub loop_over : (tables : List Served) (s : Stream) (bytes : List ℕ) (start m new : program.Stream) (b b' : Brought) (o : Option declared.Outcome) (c : declared.Outcome) (st : Stands tables start s) (goes : start.over ≡ false) (mid : Mid tables s (st.frames goes).0 (s.fed ++ bytes) m b)
    → ((s' : Stream) (taken : List Frame) → HasCome tables m s' → Took (s.fed ++ bytes) taken m.frames → TakesFrame tables s' (s.fed ++ bytes) taken o new) → o ≡ Some c → new.over ≡ true
    → b' ≡ record { txs = b.txs ++ txs_in c; refusal = later_refusal b.refusal (refusal_in c) } → Receives tables s (with_piece tables s (Framed bytes)) b' new
loop_over tables s bytes start m new b b' o c st goes mid takes is over brought =
    let here = with_items tables s (flat_map in_frame mid.taken) in
    let n = some_frame tables here (s.fed ++ bytes) ((st.frames goes).0 ++ mid.taken) o c new is (takes here ((st.frames goes).0 ++ mid.taken) mid.come mid.took) in
    let none = (open_from tables s (sym st.come.over ∙ goes)).fault in
    elim n [
      | Whole f took i ↦ mid_over tables s bytes (st.frames goes).0 f c m new b b' (st.frames goes).2 none mid took i over brought
      | Bad e all i ↦ mid_bad tables s bytes (st.frames goes).0 e c m new b b' (st.frames goes).2 none mid all i over brought
    ]

pub loop_more : (tables : List Served) (s : Stream) (bytes : List ℕ) (start m new : program.Stream) (b b' : Brought) (o : Option declared.Outcome) (c : declared.Outcome) (st : Stands tables start s) (goes : start.over ≡ false) (mid : Mid tables s (st.frames goes).0 (s.fed ++ bytes) m b)
    → ((s' : Stream) (taken : List Frame) → HasCome tables m s' → Took (s.fed ++ bytes) taken m.frames → TakesFrame tables s' (s.fed ++ bytes) taken o new) → o ≡ Some c → new.over ≡ false
    → b' ≡ record { txs = b.txs ++ txs_in c; refusal = later_refusal b.refusal (refusal_in c) } → Mid tables s (st.frames goes).0 (s.fed ++ bytes) new b'
loop_more tables s bytes start m new b b' o c st goes mid takes is on brought =
    let here = with_items tables s (flat_map in_frame mid.taken) in
    let n = some_frame tables here (s.fed ++ bytes) ((st.frames goes).0 ++ mid.taken) o c new is (takes here ((st.frames goes).0 ++ mid.taken) mid.come mid.took) in
    elim n [
      | Whole f took i ↦ mid_more tables s (st.frames goes).0 (s.fed ++ bytes) f c m new b b' mid took i on brought
      | Bad e all i ↦ let over = bad_over tables here e c new (open_from tables here (sym mid.come.over ∙ mid.goes)) i in absurd_over new.over over on
    ]

all_append : (P : Tx → Type 0) (xs ys : List Tx) → AllByRecursion P xs → AllByRecursion P ys → AllByRecursion P (xs ++ ys)
all_append P [] ys h k = k
all_append P (x ∷ xs) ys h k = (h.0, all_append P xs ys h.1 k)

-- what holds of each transaction holds with those of one frame more
pub txs_more : (P : Tx → Type 0) (b b' : Brought) (c : declared.Outcome) (o : Option declared.Outcome) → o ≡ Some c → AllByRecursion P b.txs → AllByRecursion P (txs_of o) → b' ≡ record { txs = b.txs ++ txs_in c; refusal = later_refusal b.refusal (refusal_in c) }
    → AllByRecursion P b'.txs
txs_more P b b' c o is h more brought = subst (λ (x : Brought). AllByRecursion P x.txs) (sym brought) (all_append P b.txs (txs_in c) h (subst (λ (x : Option declared.Outcome). AllByRecursion P (txs_of x)) is more))

-- ---- the served tables

pub serves : (tables : List Served) (s : Stream) (m : program.Stream) → HasCome tables m s → m.assembler.tables ≡ tables
serves tables s m h = tables_taken tables (done_in s) (messages_in s.now) m.assembler h.taken

-- transactions of the tables that the program serves are of these
pub of_served : (tables : List Served) (s : Stream) (m : program.Stream) (txs : List Tx) → HasCome tables m s → AreOfServed m.assembler.tables txs → AreOfServed tables txs
of_served tables s m txs h k = subst (λ (ts : List Served). AreOfServed ts txs) (serves tables s m h) k

-- a message brought what it led to
pub served_one : (old : program.Stream) (b : Brought) (c : declared.Outcome) → AreOfServed old.assembler.tables (txs_in c) → b ≡ record { txs = [] ++ txs_in c; refusal = later_refusal None (refusal_in c) } → BringsServed old b.txs
served_one old b c h is tables s st = subst (λ (x : Brought). AreOfServed tables x.txs) (sym is) (of_served tables s old (txs_in c) st.come h)

-- nothing was brought
pub served_none : (old : program.Stream) (b : Brought) → b ≡ record { txs = []; refusal = None } → BringsServed old b.txs
served_none old b is tables s st = subst (λ (x : Brought). AreOfServed tables x.txs) (sym is) tt

-- one frame more was taken
pub served_more : (tables : List Served) (s : Stream) (m : program.Stream) (b b' : Brought) (c : declared.Outcome) (o : Option declared.Outcome) → HasCome tables m s → o ≡ Some c → AreOfServed tables b.txs → AreOfServed m.assembler.tables (txs_of o)
    → b' ≡ record { txs = b.txs ++ txs_in c; refusal = later_refusal b.refusal (refusal_in c) } → AreOfServed tables b'.txs
served_more tables s m b b' c o h is before more brought = txs_more (λ (tx : Tx). AreServed tables tx.defs) b b' c o is before (of_served tables s m (txs_of o) h more) brought

-- the bytes were taken in, and no frame yet
pub loop_starts : (tables : List Served) (s : Stream) (bytes : List ℕ) (start : program.Stream) (frames : Reached) (b : Brought) (st : Stands tables start s) (goes : start.over ≡ false) → Took (s.fed ++ bytes) (st.frames goes).0 frames → b ≡ record { txs = []; refusal = None }
    → Mid tables s (st.frames goes).0 (s.fed ++ bytes) (record { frames = frames; assembler = start.assembler; count = start.count; over = start.over }) b
loop_starts tables s bytes start frames b st goes took is = subst (λ (x : Brought). Mid tables s (st.frames goes).0 (s.fed ++ bytes) (record { frames = frames; assembler = start.assembler; count = start.count; over = start.over }) x) (sym is)
    (mid_start tables s bytes (record { frames = frames; assembler = start.assembler; count = start.count; over = start.over }) (st.frames goes).0 (come_kept tables s start (record { frames = frames; assembler = start.assembler; count = start.count; over = start.over }) st.come refl refl refl) goes took)
