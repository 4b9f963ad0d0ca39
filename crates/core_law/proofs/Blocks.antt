-- What a client asks and takes, and the blocks that it puts out.
use Rattle.std.proofs.Common.{◌≡◌, ℕ, zero, suc, Bool, true, false, List, [], ◌∷◌, ◌++◌, length, map, refl, sym, ◌∙◌, ap, subst, Option, None, Some, IfSome}
use Rattle.std.specs.Bool.{if◌then◌else◌}
use Rattle.std.specs.List.{slice_get, AllByRecursion}
use Rattle.std.specs.Prelude.{is_none, IsSomeAnd}
use Rattle.std.specs.FinMap as fin
use Rattle.shape_base.specs.declared.history.History.{History}
use Rattle.shape_base.proofs.Lemmas.{Decides-same_text}
use Rattle.http_edge.specs.declared.error_code.ErrorCode.TheVariants as codes
use Rattle.http_edge.specs.World.{World, IsGoodWorld}
use Rattle.http_edge.specs.Lawful.{Refuses, IsLawful}
use Rattle.http_edge.specs.Fair.{IsFair}
use Rattle.http_edge.proofs.Lemmas.{lawful_is_fair}
use Rattle.fold_client.specs.Client.{Held, Outcome, UpToDate, More, Refetch, ServerRefused, BadReply, ForeignHandle, BadFold, take_reply}
use Rattle.fold_client.specs.Following.{Heard, IsFairFor, Following, start, took, follow, followed, AreFair, IsRight}
use Rattle.fold_client.proofs.Steps.{client_law}
use Rattle.core_events.specs.declared.out.StepError.TheVariants as errors
use Rattle.core_events.specs.declared.out.Unfit.TheVariants as unfit
use Rattle.core_law.specs.Situation.{Options, Server, Exchange, Customer, Situation, world_of, held_of, next_target, next_asked, identity_of}
use Rattle.core_law.specs.Steps.{change_at, settled, request}
use Rattle.core_law.specs.Clients.{Out, Turn, Goes, Stops, is_unfit, never, has_room, waits_at, is_long, requested, sent, send_by, took_one, out_of, took_heard, take_heard, is_next, take_exchange, take_by, joined, then_goes, goes_on, watch_heard, watch_exchange, watch_open, watched_by, watch}
use Rattle.core_law.specs.Run.{outs_of}
use Rattle.core_law.specs.Laws.{IsFirst, IsRightBlock, IsRightOut}
use Rattle.core_law.proofs.Lists.{changed_here}
use Rattle.core_law.proofs.Server.{better_same, better_trans, extends_trans}
use Rattle.core_law.proofs.Fields.{HasFields, HasReplyFields, taken_fields}
use Rattle.core_law.proofs.Targets.{reads_nothing, has_target, reads_next}
use Rattle.core_law.proofs.Exchanges.{SaysFor, Fine, FineCustomer, Good}
use Rattle.core_law.proofs.Turns.{all_changed, all_changed_at, all_at, all_both, Moved, TurnOk, stays_ok, stops_ok, gives_right, map_both, finished_ok, request_moved}

-- what is put out is right whatever situation comes after it
abbrev ArePlainOuts : List Out → Type 0
ArePlainOuts outs = (w : World) (next : Situation) → AllByRecursion (IsRightOut w) (map {B = Out × Situation} (λ out. (out, next)) outs)

-- ---- lists of replies

followed_one_more : (f : Following) (xs : List Heard) (x : Heard) → followed f (xs ++ x ∷ []) ≡ follow (followed f xs) x
followed_one_more f [] x = refl
followed_one_more f (y ∷ xs) x = followed_one_more (follow f y) xs x

fair_one_more : (w : World) (identity : List ℕ) (f : Following) (xs : List Heard) (x : Heard) → AreFair w identity f xs → IsFairFor w identity (followed f xs).held x → AreFair w identity f (xs ++ x ∷ [])
fair_one_more w identity f [] x h k = (k, tt)
fair_one_more w identity f (y ∷ xs) x h k = (h.0, fair_one_more w identity (follow f y) xs x h.1 k)

requested_if : (R : Type 0) (o : Options) (s : Situation) (n : ℕ) (c : Customer) (b : Bool) → slice_get s.customers n ≡ Some c
    → Moved R o s (if b then request o s false None (Refuses codes.HeadTooLong) false else request o s false (Some (next_target c)) (next_asked c) false)
requested_if R o s n c true at = let m = request_moved o s false None false (Refuses codes.HeadTooLong) in record {
  better = m.better;
  roles = m.roles;
  good = λ h step z Q told sound world now on routed g. m.good h step z Q told sound world now on (λ q. reads_nothing None (Refuses codes.HeadTooLong) (λ ask e. cc)) g;
}
requested_if R o s n c false at = let m = request_moved o s false (Some (next_target c)) false (next_asked c) in record {
  better = m.better;
  roles = m.roles;
  good = λ h step z Q told sound world now on routed g. m.good h step z Q told sound world now on (λ q. let is = all_at (FineCustomer o (world_of o h step z)) s.customers n c at (g.customers q) in reads_next o c.query c.asked (held_of c) is.first is.fields) g;
}

sent_ok : (R : Type 0) (o : Options) (s : Situation) (n : ℕ) (c : Customer) → slice_get s.customers n ≡ Some c → TurnOk R o s (sent o s n c)
sent_ok R o s n c at =
    let next = requested o s c in
    let moved = requested_if R o s n c (is_long (next_target c)) at in
    finished_ok R o s (record next { customers = change_at (waits_at (length s.exchanges)) next.customers n }) never (record {
      better = moved.better;
      roles = moved.roles;
      good = λ h step z Q told sound world now on routed g. let m = moved.good h step z Q told sound world now on routed g in
          record { exchanges = m.exchanges; customers = λ q. all_changed (FineCustomer o (world_of o h step z)) (waits_at (length s.exchanges)) next.customers n (λ x is. record { first = is.first; fair = is.fair; fields = is.fields }) (m.customers q) };
    })

send_if : (R : Type 0) (o : Options) (s : Situation) (n : ℕ) (c : Customer) (b : Bool) → slice_get s.customers n ≡ Some c → TurnOk R o s (if b then sent o s n c else Stops errors.TooManyExchanges)
send_if R o s n c true at = sent_ok R o s n c at
send_if R o s n c false at = stops_ok R o s errors.TooManyExchanges

pub send_ok : (R : Type 0) (o : Options) (s : Situation) (n : ℕ) (c : Option Customer) → slice_get s.customers n ≡ c → TurnOk R o s (send_by o s n c)
send_ok R o s n None at = stops_ok R o s (errors.Unfit unfit.NoClient)
send_ok R o s n (Some c) at = send_if R o s n c (has_room s) at

sent_plain : (o : Options) (s : Situation) (n : ℕ) (c : Customer) → ArePlainOuts (outs_of (sent o s n c))
sent_plain o s n c w next =
    let asked_now = requested o s c in
    let t : Situation = record asked_now { customers = change_at (waits_at (length s.exchanges)) asked_now.customers n } in
    gives_right w next 0 s.exchanges (settled o never t).exchanges

send_if_plain : (o : Options) (s : Situation) (n : ℕ) (c : Customer) (b : Bool) → ArePlainOuts (outs_of (if b then sent o s n c else Stops errors.TooManyExchanges))
send_if_plain o s n c true = sent_plain o s n c
send_if_plain o s n c false = λ w next. tt

-- ---- what it takes

-- the block of a client that is up to date
right_outs : (w : World) (n : ℕ) (next : Situation) (c : Customer) (xs : List Heard) (x : Heard) (held : Held) (outcome : Outcome) → slice_get next.customers n ≡ Some c → c.took ≡ xs ++ x ∷ [] → held_of c ≡ held
    → IsRight w (identity_of c) (followed start xs) (followed start c.took) x.given.shown outcome → AllByRecursion (IsRightOut w) (map {B = Out × Situation} (λ out. (out, next)) (out_of n held outcome))
right_outs w n next c xs x held UpToDate at took same is = (
  subst (λ found. IsSomeAnd found (λ c. IsRightBlock w c held.handle held.offset (fin.entries held.rows))) (sym at)
      (record { earlier = xs; last = x; took = took; current = is; names = ap (λ (d : Held). d.handle) (sym same); ends = ap (λ (d : Held). d.offset) (sym same); are = ap (λ (d : Held). fin.entries d.rows) (sym same) }),
  tt,
)
right_outs w n next c xs x held More at took same is = tt
right_outs w n next c xs x held Refetch at took same is = (tt, tt)
right_outs w n next c xs x held (ServerRefused status) at took same is = (tt, tt)
right_outs w n next c xs x held BadReply at took same is = tt
right_outs w n next c xs x held (ForeignHandle asked got) at took same is = tt
right_outs w n next c xs x held (BadFold offset key) at took same is = tt

-- the target of the exchange is the client's next one
record IsNext (c : Customer) (target : Option (List ℕ)) : Type 0 where
  there : target ≡ Some (next_target c)

next_is : (c : Customer) (target : Option (List ℕ)) → is_next c target ≡ true → IsNext c target
next_is c None e = cc
next_is c (Some text) e = record { there = ap (λ t. Some t) ((Decides-same_text text (next_target c)).0 e) }

fair_for : (o : Options) (h : History) (step : ℕ → ℕ) (z : Server) (v : Server) (c : Customer) (x : Exchange) (heard : Heard) → IsGoodWorld (world_of o h step z) → x.given ≡ Some heard → IsNext c x.target → Fine (Unit {0}) o v (world_of o h step z) x → IsFirst o c.query c.asked → HasFields (held_of c)
    → IsFairFor (world_of o h step z) (identity_of c) (held_of c) heard
fair_for o h step z v c x heard world given next fine first fields =
    let w = world_of o h step z in
    let says : SaysFor x.asked heard = subst (λ g. IfSome g (SaysFor x.asked)) given fine.says in
    let lawful : IsLawful w x.asked heard.given = subst (λ g. IfSome g (λ heard. IsLawful w x.asked heard.given)) given fine.lawful in
    record {
      asks = λ ask e. (fine.read tt).asks c.query (held_of c) ask (has_target c.query (held_of c) first.texts fields) next.there (sym says.asks ∙ e);
      fair = subst (λ asked. IsFair w asked heard.given) (sym says.asks) (lawful_is_fair w x.asked heard.given world lawful);
      says = says.says;
    }

unit_fine : (Q : Type 0) (o : Options) (v : Server) (w : World) (x : Exchange) → Q → Fine Q o v w x → Fine (Unit {0}) o v w x
unit_fine Q o v w x q is = record { lawful = is.lawful; says = is.says; role = is.role; read = λ u. is.read q; fields = λ u. is.fields q }

took_ok : (R : Type 0) (o : Options) (s : Situation) (n e : ℕ) (c : Customer) (x : Exchange) (heard : Heard) → slice_get s.customers n ≡ Some c → slice_get s.exchanges e ≡ Some x → x.given ≡ Some heard → is_next c x.target ≡ true → TurnOk R o s (took_heard s n c heard)
took_ok R o s n e c x heard at there given address =
    let fair : (h : History) (step : ℕ → ℕ) (z : Server) (Q : Type 0) → Q → IsGoodWorld (world_of o h step z) → Good Q o (world_of o h step z) s → IsFairFor (world_of o h step z) (identity_of c) (held_of c) heard = λ h step z Q q world g.
    let is = all_at (FineCustomer o (world_of o h step z)) s.customers n c at (g.customers q) in
    fair_for o h step z s.server c x heard world given (next_is c x.target address) (unit_fine Q o s.server (world_of o h step z) x q (all_at (Fine Q o s.server (world_of o h step z)) s.exchanges e x there g.exchanges)) is.first is.fields in
    let same : followed start (c.took ++ heard ∷ []) ≡ follow (followed start c.took) heard = followed_one_more start c.took heard in
    record {
      better = better_same o s.server;
      roles = λ r. r;
      good = λ h step z Q told sound world now on routed g.
          let w = world_of o h step z in
          record {
            exchanges = g.exchanges;
            customers = λ q. all_changed_at (FineCustomer o w) (took_one heard) s.customers n c at (λ is. record {
              first = is.first;
              fair = fair_one_more w (identity_of c) start c.took heard is.fair (fair h step z Q q world g);
              fields = subst (λ f. HasFields f.held) (sym same) (taken_fields (held_of c) heard.given.reply heard.body is.fields
                  (subst (λ g. IfSome g (λ heard. HasReplyFields heard.given.reply)) given ((all_at (Fine Q o s.server w) s.exchanges e x there g.exchanges).fields q)));
            }) (g.customers q);
          };
      right = λ h step z Q told sound world now on routed q g.
          let w = world_of o h step z in
          let is = all_at (FineCustomer o w) s.customers n c at (g.customers q) in
          let right = (client_law w (identity_of c) c.took world is.fair).1 heard (fair h step z Q q world g) in
          let next : Situation = record s { customers = change_at (took_one heard) s.customers n } in
          right_outs w n next (took_one heard c) c.took heard (take_reply (held_of c) heard.given.reply heard.body).held (took (followed start c.took) heard) (changed_here (took_one heard) s.customers n c at) refl (ap (λ f. f.held) same)
          (subst (λ f. IsRight w (identity_of c) (followed start c.took) f heard.given.shown (took (followed start c.took) heard)) (sym same) right);
    }

take_heard_ok : (R : Type 0) (o : Options) (s : Situation) (n e : ℕ) (c : Customer) (x : Exchange) (given : Option Heard) → slice_get s.customers n ≡ Some c → slice_get s.exchanges e ≡ Some x → x.given ≡ given → is_next c x.target ≡ true → TurnOk R o s (take_heard s n c given)
take_heard_ok R o s n e c x None at there is address = stops_ok R o s (errors.Unfit unfit.NoReply)
take_heard_ok R o s n e c x (Some heard) at there is address = took_ok R o s n e c x heard at there is address

take_if : (R : Type 0) (o : Options) (s : Situation) (n e : ℕ) (c : Customer) (x : Exchange) (a b : Bool) → is_next c x.target ≡ b → slice_get s.customers n ≡ Some c → slice_get s.exchanges e ≡ Some x
    → TurnOk R o s (if a then is_unfit unfit.NoReply else if b then take_heard s n c x.given else is_unfit unfit.WrongAddress)
take_if R o s n e c x true b address at there = stops_ok R o s (errors.Unfit unfit.NoReply)
take_if R o s n e c x false true address at there = take_heard_ok R o s n e c x x.given at there refl address
take_if R o s n e c x false false address at there = stops_ok R o s (errors.Unfit unfit.WrongAddress)

take_exchange_ok : (R : Type 0) (o : Options) (s : Situation) (n e : ℕ) (c : Customer) (x : Option Exchange) → slice_get s.customers n ≡ Some c → slice_get s.exchanges e ≡ x → TurnOk R o s (take_exchange s n c x)
take_exchange_ok R o s n e c None at there = stops_ok R o s (errors.Unfit unfit.NoExchange)
take_exchange_ok R o s n e c (Some x) at there = take_if R o s n e c x (is_none x.given) (is_next c x.target) refl at there

pub take_ok : (R : Type 0) (o : Options) (s : Situation) (n e : ℕ) (c : Option Customer) → slice_get s.customers n ≡ c → TurnOk R o s (take_by s n e c)
take_ok R o s n e None at = stops_ok R o s (errors.Unfit unfit.NoClient)
take_ok R o s n e (Some c) at = take_exchange_ok R o s n e c (slice_get s.exchanges e) at refl

-- ---- watches

outs_on : (n : ℕ) (c : Held) (t : Outcome) → goes_on t ≡ true → ArePlainOuts (out_of n c t)
outs_on n c UpToDate e w next = cc
outs_on n c More e w next = tt
outs_on n c Refetch e w next = (tt, tt)
outs_on n c (ServerRefused status) e w next = cc
outs_on n c BadReply e w next = cc
outs_on n c (ForeignHandle asked got) e w next = cc
outs_on n c (BadFold offset key) e w next = cc

joined_turns : (R : Type 0) (o : Options) (s : Situation) (outs : List Out) (next : Situation) (t : Turn) → TurnOk R o s (Goes outs next) → ArePlainOuts outs → TurnOk R o next t → TurnOk R o s (joined outs t)
joined_turns R o s outs next (Stops error) first plain then_ok = stops_ok R o s error
joined_turns R o s outs next (Goes more last) first plain then_ok = record {
  better = better_trans o s.server next.server last.server first.better then_ok.better;
  roles = λ r. then_ok.roles (first.roles r);
  good = λ h step z Q told sound world now on routed g.
      then_ok.good h step z Q told sound world (first.better.sound now) on routed (first.good h step z Q told sound world now (extends_trans next.server last.server z then_ok.better.on on) routed g);
  right = λ h step z Q told sound world now on routed q g.
      let w = world_of o h step z in
      let a = first.good h step z Q told sound world now (extends_trans next.server last.server z then_ok.better.on on) routed g in
      let b = then_ok.right h step z Q told sound world (first.better.sound now) on routed q a in
      subst (AllByRecursion (IsRightOut w)) (sym (map_both last outs more)) (all_both (IsRightOut w) (map {B = Out × Situation} (λ out. (out, last)) outs) (map {B = Out × Situation} (λ out. (out, last)) more) (plain w last) b);
}

then_ok : (R : Type 0) (o : Options) (s : Situation) (go : Situation → Turn) (t : Turn) → TurnOk R o s t → ArePlainOuts (outs_of t) → ((next : Situation) → TurnOk R o next (go next)) → TurnOk R o s (then_goes go t)
then_ok R o s go (Stops error) first plain more = stops_ok R o s error
then_ok R o s go (Goes outs next) first plain more = joined_turns R o s outs next (go next) first plain (more next)

abbrev GoesOk : Type 0 → Options → (Situation → Turn) → Type 1
GoesOk R o go = (next : Situation) → TurnOk R o next (go next)

took_plain : (s : Situation) (n : ℕ) (c : Customer) (x : Heard) (a b : Bool) (given : Option Heard) → given ≡ Some x → goes_on (take_reply (held_of c) x.given.reply x.body).outcome ≡ true
    → ArePlainOuts (outs_of (if a then is_unfit unfit.NoReply else if b then take_heard s n c given else is_unfit unfit.WrongAddress))
took_plain s n c x true b given e on = λ w next. tt
took_plain s n c x false false given e on = λ w next. tt
took_plain s n c x false true None e on = λ w next. cc
took_plain s n c x false true (Some y) e on =
    let same : y ≡ x = cc in
    outs_on n (take_reply (held_of c) y.given.reply y.body).held (take_reply (held_of c) y.given.reply y.body).outcome (subst (λ z. goes_on (take_reply (held_of c) z.given.reply z.body).outcome ≡ true) (sym same) on)

take_plain : (s : Situation) (n : ℕ) (c : Customer) (found : Option Exchange) (x : Exchange) (heard : Heard) → found ≡ Some x → x.given ≡ Some heard → goes_on (take_reply (held_of c) heard.given.reply heard.body).outcome ≡ true → ArePlainOuts (outs_of (take_exchange s n c found))
take_plain s n c None x heard e f on = λ w next. cc
take_plain s n c (Some y) x heard e f on = let same : y ≡ x = cc in took_plain s n c heard (is_none y.given) (is_next c y.target) y.given (ap (λ (z : Exchange). z.given) same ∙ f) on

watch_heard_if : (R : Type 0) (o : Options) (go : Situation → Turn) (s : Situation) (n e : ℕ) (c : Customer) (x : Exchange) (heard : Heard) (b : Bool) → goes_on (take_reply (held_of c) heard.given.reply heard.body).outcome ≡ b → GoesOk R o go → slice_get s.customers n ≡ Some c → slice_get s.exchanges e ≡ Some x → x.given ≡ Some heard
    → TurnOk R o s (if b then then_goes go (take_by s n e (Some c)) else take_by s n e (Some c))
watch_heard_if R o go s n e c x heard true on more at there given = then_ok R o s go (take_by s n e (Some c)) (take_ok R o s n e (Some c) at) (take_plain s n c (slice_get s.exchanges e) x heard there given on) more
watch_heard_if R o go s n e c x heard false on more at there given = take_ok R o s n e (Some c) at

watch_heard_ok : (R : Type 0) (o : Options) (go : Situation → Turn) (s : Situation) (n e : ℕ) (c : Customer) (x : Exchange) (given : Option Heard) → GoesOk R o go → slice_get s.customers n ≡ Some c → slice_get s.exchanges e ≡ Some x → x.given ≡ given → TurnOk R o s (watch_heard go s n e c given)
watch_heard_ok R o go s n e c x None more at there is = stays_ok R o s
watch_heard_ok R o go s n e c x (Some heard) more at there is = watch_heard_if R o go s n e c x heard (goes_on (take_reply (held_of c) heard.given.reply heard.body).outcome) refl more at there is

watch_exchange_ok : (R : Type 0) (o : Options) (go : Situation → Turn) (s : Situation) (n e : ℕ) (c : Customer) (x : Option Exchange) → GoesOk R o go → slice_get s.customers n ≡ Some c → slice_get s.exchanges e ≡ x → TurnOk R o s (watch_exchange go s n e c x)
watch_exchange_ok R o go s n e c None more at there = stays_ok R o s
watch_exchange_ok R o go s n e c (Some x) more at there = watch_heard_ok R o go s n e c x x.given more at there refl

watch_open_ok : (R : Type 0) (o : Options) (go : Situation → Turn) (s : Situation) (n : ℕ) (c : Customer) (e : Option ℕ) → GoesOk R o go → slice_get s.customers n ≡ Some c → TurnOk R o s (watch_open o go s n c e)
watch_open_ok R o go s n c None more at = then_ok R o s go (send_by o s n (Some c)) (send_ok R o s n (Some c) at) (send_if_plain o s n c (has_room s)) more
watch_open_ok R o go s n c (Some e) more at = watch_exchange_ok R o go s n e c (slice_get s.exchanges e) more at refl

watched_ok : (R : Type 0) (o : Options) (go : Situation → Turn) (s : Situation) (n : ℕ) (c : Option Customer) → GoesOk R o go → slice_get s.customers n ≡ c → TurnOk R o s (watched_by o go s n c)
watched_ok R o go s n None more at = stops_ok R o s (errors.Unfit unfit.NoClient)
watched_ok R o go s n (Some c) more at = watch_open_ok R o go s n c c.waiting more at

pub watch_ok : (R : Type 0) (o : Options) (rounds n : ℕ) (s : Situation) → TurnOk R o s (watch o rounds n s)
watch_ok R o zero n s = stays_ok R o s
watch_ok R o (suc rounds) n s = watched_ok R o (λ next. watch o rounds n next) s n (slice_get s.customers n) (watch_ok R o rounds n) refl
