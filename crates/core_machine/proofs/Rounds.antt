-- The rounds of a watch, one after the other.
use Rattle.std.proofs.Common.{append_assoc, ◌≡◌, ℕ, zero, suc, Bool, true, false, List, [], ◌∷◌, ◌++◌, refl, sym, ap, subst, ◌∙◌, Option, None, Some}
use Rattle.std.specs.Prelude.{slice_get, is_some}
use Rattle.std.specs.Bool.{if◌then◌else◌}
use Rattle.std.specs.Option.{option_and_then}
use Rattle.std.proofs.lemmas.List.{append-nil}
use Rattle.http_edge.specs.ReplyText.{reply_text}
use Rattle.fold_client.specs.Client.{take_reply}
use Rattle.fold_client.specs.Following.{Heard}
use Rattle.core_events.specs.declared.out.Out.{Out}
use Rattle.core_events.specs.declared.out.Out.TheVariants as outs
use Rattle.core_events.specs.declared.out.StepError.{StepError}
use Rattle.core_events.specs.declared.out.StepError.TheVariants as errors
use Rattle.core_law.specs.Situation.{Options, Exchange, Customer, Situation, held_of}
use Rattle.core_law.specs.Clients.{Gives, Cut, Block, Refetched, Refused, Turn, Goes, Stops, send_by, take_by, joined, then_goes, goes_on, watch_heard, watch_exchange, watch_open, watched_by, watch}
use Rattle.core_law.specs.Clients as law
use Rattle.core_law.specs.Run.{Event, SendNext, Receive, turn_of, next_of}
use Rattle.core_clients.specs.declared.follower.Received.{Received}
use Rattle.core_machine.specs.declared.machine.Machine.{Machine}
use Rattle.core_machine.specs.declared.watching.Round.{Round}
use Rattle.core_machine.specs.Customers.{TookIt, Receipt}
use Rattle.core_machine.specs.Standing.{Stands}
use Rattle.core_machine.specs.Turns.{IsOut, AreOuts, GoesOn, StopsBy}
use Rattle.core_machine.specs.Watching.{has_reply, watch_from, ClosesStay, IsRound}
use Rattle.core_machine.proofs.Finishing.{outs_both}
use Rattle.core_machine.proofs.Staying.{some_in, some_weaker, keep_same, closes_next}

-- ---- what was put out

-- it stays what it is, where the connections of exchanges end with the replies as before
out_stays : (xs ys : List Exchange) (a : law.Out) (b : Out) → ClosesStay xs ys → IsOut xs a b → IsOut ys a b
out_stays xs ys (Gives i heard) b closes is = some_in (slice_get xs i) is (λ x at e. some_weaker (slice_get ys i) (λ y same. e ∙ ap (λ c. outs.Given i (reply_text heard.given.reply c)) (sym same)) (closes i x at))
out_stays xs ys (Cut i) b closes is = is
out_stays xs ys (Block n handle offset rows) b closes is = is
out_stays xs ys (Refetched n) b closes is = is
out_stays xs ys (Refused n status) b closes is = is

outs_stay : (xs ys : List Exchange) (as_ : List law.Out) (bs : List Out) → ClosesStay xs ys → AreOuts xs as_ bs → AreOuts ys as_ bs
outs_stay xs ys [] [] closes h = tt
outs_stay xs ys [] (b ∷ bs) closes h = absurd h
outs_stay xs ys (a ∷ as_) [] closes h = absurd h
outs_stay xs ys (a ∷ as_) (b ∷ bs) closes h = (out_stays xs ys a b closes h.0, outs_stay xs ys as_ bs closes h.1)

-- ---- one round

-- what stops one turn stops what goes on from it
stops_then : (rest : Situation → Turn) (t : Turn) (error : StepError) → StopsBy t error → StopsBy (then_goes rest t) error
stops_then rest t (errors.Unfit cause) h = ap (then_goes rest) h
stops_then rest t errors.TooManyExchanges h = ap (then_goes rest) h
stops_then rest t errors.OutOfMemory h = tt

module _ (o : Options) (s : Situation) (n : ℕ) (texts : List Out) (m : Machine) where
  abbrev Watched : (Situation → Turn) → Turn
  Watched rest = watched_by o rest s n (slice_get s.customers n)

  round_on : (ev : Event) (t : Turn) → turn_of o s ev ≡ t → ((rest : Situation → Turn) → Watched rest ≡ then_goes rest t) → GoesOn o t texts m → IsRound o s n (record { outs = texts; goes_on = true }) m
  round_on ev (Stops error) is watched g = absurd g
  round_on ev (Goes outs next) is watched g = record { outs = outs; next = next; watched = watched; goes = g; closes = subst (λ (u : Turn). ClosesStay s.exchanges (next_of s u).exchanges) is (closes_next o s ev) }

  round_over : (ev : Event) (t : Turn) → turn_of o s ev ≡ t → ((rest : Situation → Turn) → Watched rest ≡ t) → GoesOn o t texts m → IsRound o s n (record { outs = texts; goes_on = false }) m
  round_over ev (Stops error) is watched g = absurd g
  round_over ev (Goes outs next) is watched g = record { outs = outs; next = next; watched = watched; goes = g; closes = subst (λ (u : Turn). ClosesStay s.exchanges (next_of s u).exchanges) is (closes_next o s ev) }

  -- a round in which it asks
  abbrev waits : Option Customer → Option ℕ
  waits a = option_and_then (λ (c : Customer). c.waiting) a

  asks_open : (c : Customer) → c.waiting ≡ None → slice_get s.customers n ≡ Some c → (rest : Situation → Turn) → Watched rest ≡ then_goes rest (send_by o s n (slice_get s.customers n))
  asks_open c none at rest = ap (watched_by o rest s n) at ∙ ap (watch_open o rest s n c) none ∙ ap (λ (a : Option Customer). then_goes rest (send_by o s n a)) (sym at)

  asks_by : (a : Option Customer) → slice_get s.customers n ≡ a → waits a ≡ None → GoesOn o (turn_of o s (SendNext n)) texts m → IsRound o s n (record { outs = texts; goes_on = true }) m
  asks_by None at none g = absurd (subst (λ (a : Option Customer). GoesOn o (send_by o s n a) texts m) at g)
  asks_by (Some c) at none g = round_on (SendNext n) (turn_of o s (SendNext n)) refl (asks_open c none at) g

  pub asks : None ≡ waits (slice_get s.customers n) → GoesOn o (turn_of o s (SendNext n)) texts m → IsRound o s n (record { outs = texts; goes_on = true }) m
  asks none g = asks_by (slice_get s.customers n) refl (sym none) g

  -- one in which it has an open exchange
  module _ (e : ℕ) where
    open_there : {P : Type 0} (a : Option Customer) → slice_get s.customers n ≡ a → Some e ≡ waits a → ((c : Customer) → slice_get s.customers n ≡ Some c → c.waiting ≡ Some e → P) → P
    open_there None at is go = cc
    open_there (Some c) at is go = go c at (sym is)

    opens : (c : Customer) → slice_get s.customers n ≡ Some c → c.waiting ≡ Some e → (rest : Situation → Turn) → Watched rest ≡ watch_exchange rest s n e c (slice_get s.exchanges e)
    opens c at is rest = ap (watched_by o rest s n) at ∙ ap (watch_open o rest s n c) is

    -- which has no reply
    unheard : (c : Customer) (x : Option Exchange) (rest : Situation → Turn) → has_reply x ≡ false → watch_exchange rest s n e c x ≡ Goes [] s
    unheard c None rest lacks = refl
    unheard c (Some x) rest lacks = given x.given lacks
      where
        given : (g : Option Heard) → is_some g ≡ false → watch_heard rest s n e c g ≡ Goes [] s
        given None lacks = refl
        given (Some h) lacks = cc

    pub holds : Some e ≡ waits (slice_get s.customers n) → has_reply (slice_get s.exchanges e) ≡ false → texts ≡ [] → Stands o s m → IsRound o s n (record { outs = texts; goes_on = false }) m
    holds is lacks none stands = open_there (slice_get s.customers n) refl is (λ c at waiting. record {
      outs = [];
      next = s;
      watched = λ rest. opens c at waiting rest ∙ unheard c (slice_get s.exchanges e) rest lacks;
      goes = (subst (AreOuts s.exchanges []) (sym none) tt, stands);
      closes = keep_same (λ (x : Exchange). x.close) s.exchanges;
    })

    -- or has one
    heard_there : {P : Type 0} (x : Option Exchange) → has_reply x ≡ true → ((y : Exchange) (h : Heard) → x ≡ Some y → y.given ≡ Some h → P) → P
    heard_there {P} None has go = cc
    heard_there {P} (Some y) has go = given y.given refl has
      where
        given : (g : Option Heard) → y.given ≡ g → is_some g ≡ true → P
        given None is has = cc
        given (Some h) is has = go y h refl is

    abbrev goes_after : Customer → Heard → Bool
    goes_after c h = goes_on (take_reply (held_of c) h.given.reply h.body).outcome

    takes : (c : Customer) (x : Exchange) (h : Heard) → slice_get s.customers n ≡ Some c → c.waiting ≡ Some e → slice_get s.exchanges e ≡ Some x → x.given ≡ Some h → (rest : Situation → Turn)
        → Watched rest ≡ (if goes_after c h then then_goes rest (take_by s n e (Some c)) else take_by s n e (Some c))
    takes c x h at waiting there given rest = opens c at waiting rest ∙ ap (watch_exchange rest s n e c) there ∙ ap (watch_heard rest s n e c) given

    took_by : (c : Customer) (x : Exchange) (h : Heard) (b : Bool) → slice_get s.customers n ≡ Some c → c.waiting ≡ Some e → slice_get s.exchanges e ≡ Some x → x.given ≡ Some h → b ≡ goes_after c h → GoesOn o (take_by s n e (Some c)) texts m
        → IsRound o s n (record { outs = texts; goes_on = b }) m
    took_by c x h true at waiting there given is g = round_on (Receive n e) (take_by s n e (Some c)) (ap (take_by s n e) at) (λ rest. takes c x h at waiting there given rest ∙ ap (λ b. if b then then_goes rest (take_by s n e (Some c)) else take_by s n e (Some c)) (sym is)) g
    took_by c x h false at waiting there given is g = round_over (Receive n e) (take_by s n e (Some c)) (ap (take_by s n e) at) (λ rest. takes c x h at waiting there given rest ∙ ap (λ b. if b then then_goes rest (take_by s n e (Some c)) else take_by s n e (Some c)) (sym is)) g

    stopped : (c : Customer) (h : Heard) (rest : Situation → Turn) (b : Bool) (error : StepError) → StopsBy (take_by s n e (Some c)) error → StopsBy (if b then then_goes rest (take_by s n e (Some c)) else take_by s n e (Some c)) error
    stopped c h rest true error st = stops_then rest (take_by s n e (Some c)) error st
    stopped c h rest false error st = st

    pub takes_not : (error : StepError) → Some e ≡ waits (slice_get s.customers n) → has_reply (slice_get s.exchanges e) ≡ true → StopsBy (take_by s n e (slice_get s.customers n)) error → (rest : Situation → Turn) → StopsBy (Watched rest) error
    takes_not error is has st rest = open_there (slice_get s.customers n) refl is (λ c at waiting. heard_there (slice_get s.exchanges e) has (λ x h there given.
        subst (λ (t : Turn). StopsBy t error) (sym (takes c x h at waiting there given rest)) (stopped c h rest (goes_after c h) error (subst (λ (a : Option Customer). StopsBy (take_by s n e a) error) at st))))

  -- it is stopped where it asks
  pub asks_not : (error : StepError) → None ≡ waits (slice_get s.customers n) → StopsBy (turn_of o s (SendNext n)) error → (rest : Situation → Turn) → StopsBy (Watched rest) error
  asks_not error none st rest = pick (slice_get s.customers n) refl (sym none)
    where
      pick : (a : Option Customer) → slice_get s.customers n ≡ a → waits a ≡ None → StopsBy (Watched rest) error
      pick None at is = subst (λ (t : Turn). StopsBy t error) (ap (send_by o s n) at ∙ sym (ap (watched_by o rest s n) at)) st
      pick (Some c) at is = subst (λ (t : Turn). StopsBy t error) (sym (asks_open c is at rest)) (stops_then rest (send_by o s n (slice_get s.customers n)) error st)

-- it took the reply of its open exchange
pub took : (o : Options) (s : Situation) (n e : ℕ) (received : Received) (m : Machine) → Some e ≡ option_and_then (λ (c : Customer). c.waiting) (slice_get s.customers n) → has_reply (slice_get s.exchanges e) ≡ true → Receipt o s n e (slice_get s.customers n) (slice_get s.exchanges e) received m
    → IsRound o s n (record { outs = received.outs; goes_on = received.goes_on }) m
took o s n e received m is has r = open_there o s n received.outs m e (slice_get s.customers n) refl is (λ c at waiting. heard_there o s n received.outs m e (slice_get s.exchanges e) has (λ x h there given.
    let t : TookIt o s n e c x (Some h) received m = subst (λ (g : Option Heard). TookIt o s n e c x g received m) given (subst (λ (b : Option Exchange). Receipt o s n e (Some c) b received m) there (subst (λ (a : Option Customer). Receipt o s n e a (slice_get s.exchanges e) received m) at r)) in
    took_by o s n received.outs m e c x h received.goes_on at waiting there given t.1 t.0))

-- ---- round after round

-- A watch of k rounds has come so far: what it put out, and where it goes on from with the rounds that are left.
pub record HasWatched (o : Options) (s : Situation) (n k left : ℕ) (m : Machine) (texts : List Out) : Type 0 where
  pub outs : List law.Out
  pub now : Situation
  pub whole : watch o k n s ≡ joined outs (watch o left n now)
  pub are : AreOuts now.exchanges outs texts
  pub stands : Stands o now m

joined_none : (t : Turn) → joined [] t ≡ t
joined_none (Goes more next) = refl
joined_none (Stops error) = refl

joined_twice : (xs ys : List law.Out) (t : Turn) → joined xs (joined ys t) ≡ joined (xs ++ ys) t
joined_twice xs ys (Goes more next) = ap (λ zs. Goes zs next) (sym (append_assoc xs ys more))
joined_twice xs ys (Stops error) = refl

joined_stops : (xs : List law.Out) (t : Turn) (error : StepError) → StopsBy t error → StopsBy (joined xs t) error
joined_stops xs t (errors.Unfit cause) h = ap (joined xs) h
joined_stops xs t errors.TooManyExchanges h = ap (joined xs) h
joined_stops xs t errors.OutOfMemory h = tt

module _ (o : Options) (s : Situation) (n k : ℕ) where
  pub begins : (m : Machine) (texts : List Out) → texts ≡ [] → Stands o s m → HasWatched o s n k k m texts
  begins m texts none stands = record { outs = []; now = s; whole = sym (joined_none (watch o k n s)); are = subst (AreOuts s.exchanges []) (sym none) tt; stands = stands }

  module _ (left j : ℕ) (m m' : Machine) (texts : List Out) (one : left ≡ suc j) (w : HasWatched o s n k left m texts) where
    abbrev rest : Situation → Turn
    rest next = watch o j n next

    -- one round more
    whole_more : (x : Turn) → watched_by o rest w.now n (slice_get w.now.customers n) ≡ x → watch o k n s ≡ joined w.outs x
    whole_more x is = w.whole ∙ ap (λ l. joined w.outs (watch o l n w.now)) one ∙ ap (joined w.outs) is

    all_are : (round : Round) (r : IsRound o w.now n round m') → AreOuts r.next.exchanges (w.outs ++ r.outs) (texts ++ round.outs)
    all_are round r = outs_both r.next.exchanges w.outs r.outs texts round.outs (outs_stay w.now.exchanges r.next.exchanges w.outs texts r.closes w.are) r.goes.0

    pub more : (round : Round) → round.goes_on ≡ true → IsRound o w.now n round m' → HasWatched o s n k j m' (texts ++ round.outs)
    more round on r = record {
      outs = w.outs ++ r.outs;
      now = r.next;
      whole = whole_more (joined r.outs (watch o j n r.next)) (r.watched rest ∙ ap (watch_from rest r.outs r.next) on) ∙ joined_twice w.outs r.outs (watch o j n r.next);
      are = all_are round r;
      stands = r.goes.1;
    }

    pub over : (round : Round) → round.goes_on ≡ false → IsRound o w.now n round m' → GoesOn o (watch o k n s) (texts ++ round.outs) m'
    over round off r = subst (λ (t : Turn). GoesOn o t (texts ++ round.outs) m') (sym (whole_more (Goes r.outs r.next) (r.watched rest ∙ ap (watch_from rest r.outs r.next) off))) (all_are round r, r.goes.1)

    pub stops : (error : StepError) → ((rest : Situation → Turn) → StopsBy (watched_by o rest w.now n (slice_get w.now.customers n)) error) → StopsBy (watch o k n s) error
    stops error h = subst (λ (t : Turn). StopsBy t error) (sym (whole_more (watched_by o rest w.now n (slice_get w.now.customers n)) refl)) (joined_stops w.outs (watched_by o rest w.now n (slice_get w.now.customers n)) error (h rest))

  -- no round is left
  pub spent : (left : ℕ) (m : Machine) (texts : List Out) → left ≡ zero → HasWatched o s n k left m texts → GoesOn o (watch o k n s) texts m
  spent left m texts none w = subst (λ (t : Turn). GoesOn o t texts m) (sym (w.whole ∙ ap (λ l. joined w.outs (watch o l n w.now)) none)) (subst (λ xs. AreOuts w.now.exchanges xs texts) (sym (append-nil w.outs)) w.are, w.stands)
