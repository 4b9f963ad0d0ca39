-- Whole runs: their replies are lawful and fair, and their blocks are right.
use Rattle.std.proofs.Common.{◌≡◌, ℕ, zero, suc, Bool, true, false, List, [], ◌∷◌, length, map, refl, subst, lit<, Option, None, Some, IfSome}
use Rattle.std.specs.Bool.{if◌then◌else◌}
use Rattle.std.specs.List.{slice_get, AllByRecursion}
use Rattle.std.specs.Prelude.{nat_lt}
use Rattle.shape_base.specs.declared.change.Tx.{Tx}
use Rattle.shape_base.specs.declared.cause.Cause.TheVariants.{Deleted}
use Rattle.shape_base.specs.declared.history.History.{History}
use Rattle.shape_base.specs.RegistryHistory.{is_live}
use Rattle.http_edge.specs.declared.error_code.ErrorCode.TheVariants as codes
use Rattle.http_edge.specs.World.{World, IsGoodWorld}
use Rattle.http_edge.specs.Lawful.{Asked, Refuses, IsLawful}
use Rattle.http_edge.proofs.Lemmas.{lawful_is_fair}
use Rattle.core_events.specs.declared.out.StepError.TheVariants as errors
use Rattle.core_events.specs.declared.out.Unfit.TheVariants as unfit
use Rattle.fold_client.specs.declared.client.Query.{Query}
use Rattle.fold_client.specs.Following.{Heard}
use Rattle.core_law.specs.Situation.{Options, Shape, Server, shape_at, HasNone, Exchange, Situation, at_start, world_of}
use Rattle.core_law.specs.Steps.{after_commits, dropped, with_exchange, with_role, exchange_at, request, owned_by}
use Rattle.core_law.specs.Clients.{Out, Cut, Goes, Stops, is_unfit, finished, never, has_room}
use Rattle.core_law.specs.Run as run
use Rattle.core_law.specs.Run.{RequestCame, HeadCut, SnapshotCame, SnapshotEnded, Committed, Remove, Moment, Joined, SendNext, Receive, Watch, commit, is_late_at, join, rounds, turn_of, next_of, outs_of, after, told}
use Rattle.core_law.specs.Laws.{IsStart, IsRead, IsFirst, IsRoutedEvent, IsTold, IsLawfulExchange, IsFairReply, IsFairExchange, IsRightOut, RepliesAreLawful, RepliesAreFair, Headline}
use Rattle.core_law.proofs.Server.{Sound, Extends, Better, better_same, better_trans, drops}
use Rattle.core_law.proofs.ServerSteps.{commits_better}
use Rattle.core_law.proofs.Fields.{nothing_fields}
use Rattle.core_law.proofs.Targets.{ReadsBack, reads_of}
use Rattle.core_law.proofs.Replies.{HasRole}
use Rattle.core_law.proofs.Exchanges.{SaysFor, Fine, FineCustomer, Good}
use Rattle.core_law.proofs.Shapes.{good_world, of_requests}
use Rattle.core_law.proofs.Turns.{AllRoles, all_one_more, all_both, all_to, Moved, TurnOk, stays_ok, stops_ok, moved_server, finished_ok, request_moved, cut_fine, snap_ok, fail_ok}
use Rattle.core_law.proofs.Blocks.{send_ok, take_ok, watch_ok}

-- ---- each event

-- what is owed for one premise is owed for a stronger one
moved_for : (R S : Type 0) (o : Options) (s t : Situation) → (R → S) → Moved S o s t → Moved R o s t
moved_for R S o s t f moved = record { better = moved.better; roles = moved.roles; good = λ h step z Q told sound world now on routed g. moved.good h step z Q told sound world now on (λ q. f (routed q)) g }

come_if : (o : Options) (s : Situation) (target : Option (List ℕ)) (asked : Asked) (close b : Bool) → TurnOk (IsRead o target asked) o s (if b then finished o never s (request o s true target asked close) else Stops errors.TooManyExchanges)
come_if o s target asked close true = finished_ok (IsRead o target asked) o s (request o s true target asked close) never (moved_for (IsRead o target asked) (ReadsBack target asked) o s (request o s true target asked close) (reads_of o target asked) (request_moved o s true target close asked))
come_if o s target asked close false = stops_ok (IsRead o target asked) o s errors.TooManyExchanges

cut_if : (R : Type 0) (o : Options) (s : Situation) (b : Bool) → TurnOk R o s (if b then Goes (Cut (length s.exchanges) ∷ []) (with_exchange s (with_role HasNone (exchange_at true None (Refuses codes.BadHead) false s.clock))) else Stops errors.TooManyExchanges)
cut_if R o s true = record {
  better = better_same o s.server;
  roles = λ r. all_one_more (λ (x : Exchange). HasRole s.server x.asked x.role) s.exchanges (with_role HasNone (exchange_at true None (Refuses codes.BadHead) false s.clock)) r tt;
  good = λ h step z Q told sound world now on routed g. let w = world_of o h step z in
      record { exchanges = all_one_more (Fine Q o s.server w) s.exchanges (with_role HasNone (exchange_at true None (Refuses codes.BadHead) false s.clock)) g.exchanges (cut_fine o s true None false Q s.server w codes.BadHead); customers = g.customers };
  right = λ h step z Q told sound world now on routed q g. (tt, tt);
}
cut_if R o s false = stops_ok R o s errors.TooManyExchanges

commit_ok : (R : Type 0) (o : Options) (s : Situation) (txs : List Tx) → TurnOk R o s (commit o s txs)
commit_ok R o s txs = finished_ok R o s (record s { server = after_commits o s.server txs }) never (moved_server R o s (after_commits o s.server txs) (commits_better o s.server txs))

remove_if : (R : Type 0) (o : Options) (s : Situation) (n : ℕ) (b : Bool) → TurnOk R o s (if b then finished o never s (record s { server = dropped s.server n Deleted }) else Goes [] s)
remove_if R o s n true = finished_ok R o s (record s { server = dropped s.server n Deleted }) never (moved_server R o s (dropped s.server n Deleted) (drops o s.server n Deleted))
remove_if R o s n false = stays_ok R o s

moment_if : (R : Type 0) (o : Options) (s : Situation) (now : ℕ) (b : Bool) → TurnOk R o s (if b then is_unfit unfit.ClockBack else finished o (is_late_at o now) s (record s { clock = now }))
moment_if R o s now true = stops_ok R o s (errors.Unfit unfit.ClockBack)
moment_if R o s now false = finished_ok R o s (record s { clock = now }) (is_late_at o now) (record { better = better_same o s.server; roles = λ r. r; good = λ h step z Q told sound world now on routed g. record { exchanges = g.exchanges; customers = g.customers } })

joined_ok : (o : Options) (s : Situation) (query : Query) (asked : Asked) → TurnOk (IsFirst o query asked) o s (Goes [] (join s query asked))
joined_ok o s query asked = record {
  better = better_same o s.server;
  roles = λ r. r;
  good = λ h step z Q told sound world now on routed g. let w = world_of o h step z in
      record { exchanges = g.exchanges; customers = λ q. all_one_more (FineCustomer o w) s.customers (record { query = query; asked = asked; waiting = None; took = [] }) (g.customers q) (record { first = routed q; fair = tt; fields = nothing_fields }) };
  right = λ h step z Q told sound world now on routed q g. tt;
}

turn_ok : (o : Options) (s : Situation) (e : run.Event) → TurnOk (IsRoutedEvent o e) o s (turn_of o s e)
turn_ok o s (RequestCame target asked close) = come_if o s target asked close (has_room s)
turn_ok o s HeadCut = cut_if (Unit {0}) o s (has_room s)
turn_ok o s (SnapshotCame e x) = snap_ok (Unit {0}) o s e x (owned_by (slice_get s.exchanges e)) refl
turn_ok o s (SnapshotEnded e fault) = fail_ok (Unit {0}) o s e fault (owned_by (slice_get s.exchanges e)) refl
turn_ok o s (Committed txs) = commit_ok (Unit {0}) o s txs
turn_ok o s (Remove n) = remove_if (Unit {0}) o s n (is_live s.server.registry n)
turn_ok o s (Moment now) = moment_if (Unit {0}) o s now (nat_lt now s.clock)
turn_ok o s (Joined query asked) = joined_ok o s query asked
turn_ok o s (SendNext n) = send_ok (Unit {0}) o s n (slice_get s.customers n) refl
turn_ok o s (Receive n e) = take_ok (Unit {0}) o s n e (slice_get s.customers n) refl
turn_ok o s (Watch n) = watch_ok (Unit {0}) o rounds n s

-- ---- the whole run

after_better : (o : Options) (s : Situation) (es : List run.Event) → Better o s.server (after o s es).server
after_better o s [] = better_same o s.server
after_better o s (e ∷ es) = better_trans o s.server (next_of s (turn_of o s e)).server _ (turn_ok o s e).better (after_better o (next_of s (turn_of o s e)) es)

pub after_extends : (o : Options) (s : Situation) (es : List run.Event) → Extends s.server (after o s es).server
after_extends o s es = (after_better o s es).on

roles_all : (o : Options) (s : Situation) (es : List run.Event) → AllRoles s → AllRoles (after o s es)
roles_all o s [] r = r
roles_all o s (e ∷ es) r = roles_all o (next_of s (turn_of o s e)) es ((turn_ok o s e).roles r)

pub roles_after : (o : Options) (es : List run.Event) → AllRoles (after o at_start es)
roles_after o es = roles_all o at_start es tt

abbrev AreRouted : Options → List run.Event → Type 0
AreRouted o es = AllByRecursion (IsRoutedEvent o) es

record Ran (Q : Type 0) (o : Options) (w : World) (s : Situation) (es : List run.Event) : Type 0 where
  good : Good Q o w (after o s es)
  right : Q → AllByRecursion (IsRightOut w) (told o s es)

ran : (Q : Type 0) (o : Options) (h : History) (step : ℕ → ℕ) (z : Server) (s : Situation) (es : List run.Event) → (after o s es).server ≡ z → IsTold o h step z → Sound o z → IsGoodWorld (world_of o h step z) → Sound o s.server → (Q → AreRouted o es) → Good Q o (world_of o h step z) s → Ran Q o (world_of o h step z) s es
ran Q o h step z s [] end told_of sound world now routed good = record { good = good; right = λ q. tt }
ran Q o h step z s (e ∷ es) end told_of sound world now routed good =
    let w = world_of o h step z in
    let next = next_of s (turn_of o s e) in
    let ok = turn_ok o s e in
    let on = subst (Extends next.server) end (after_better o next es).on in
    let kept = ok.good h step z Q told_of sound world now on (λ q. (routed q).0) good in
    let rest = ran Q o h step z next es end told_of sound world (ok.better.sound now) (λ q. (routed q).1) kept in
    record { good = rest.good; right = λ q. all_both (IsRightOut w) (map {B = Out × Situation} (λ out. (out, next)) (outs_of (turn_of o s e))) (told o next es) (ok.right h step z Q told_of sound world now on (λ q. (routed q).0) q good) (rest.right q) }

pub sound_start : (o : Options) → IsStart o → Sound o at_start.server
sound_start o start = record { start = start; legal = tt; counted = refl; few = lit< tt; shapes = λ n x h. none n x h; ready = λ n h. cc; named = λ i n h. cc }
  where
    none : {P : Type 0} (n : ℕ) (x : Shape) → shape_at [] n ≡ Some x → P
    none zero x h = cc
    none (suc n) x h = cc

pub sound_after : (o : Options) (es : List run.Event) → IsStart o → Sound o (after o at_start es).server
sound_after o es start = (after_better o at_start es).sound (sound_start o start)

whole : (Q : Type 0) (o : Options) (h : History) (step : ℕ → ℕ) (es : List run.Event) → IsStart o → (Q → AreRouted o es) → IsTold o h step (after o at_start es).server → Ran Q o (world_of o h step (after o at_start es).server) at_start es
whole Q o h step es start routed told_of =
    let z = (after o at_start es).server in
    let sound = sound_after o es start in
    ran Q o h step z at_start es refl told_of sound (good_world o h step (after o at_start es).server told_of sound) (sound_start o start) routed (record { exchanges = tt; customers = λ q. tt })

-- ---- the laws

pub replies_are_lawful : RepliesAreLawful
replies_are_lawful o h step es start told_of =
    let z = (after o at_start es).server in
    let w = world_of o h step (after o at_start es).server in
    all_to (Fine ⊥ o z w) (IsLawfulExchange w) (after o at_start es).exchanges (λ x is. is.lawful) (whole ⊥ o h step es start (λ q. absurd q) told_of).good.exchanges

fair_of : (w : World) (x : Exchange) (given : Option Heard) → IsGoodWorld w → IfSome given (λ heard. IsLawful w x.asked heard.given) → IfSome given (SaysFor x.asked) → IfSome given (IsFairReply w x.asked)
fair_of w x None world lawful says = tt
fair_of w x (Some heard) world lawful says = record { asks = says.asks; fair = lawful_is_fair w x.asked heard.given world lawful; says = says.says }

pub replies_are_fair : RepliesAreFair
replies_are_fair o h step es start told_of =
    let z = (after o at_start es).server in
    let w = world_of o h step (after o at_start es).server in
    let world = good_world o h step z told_of (sound_after o es start) in
    all_to (Fine ⊥ o z w) (IsFairExchange w) (after o at_start es).exchanges (λ x is. fair_of w x x.given world is.lawful is.says) (whole ⊥ o h step es start (λ q. absurd q) told_of).good.exchanges

pub headline : Headline
headline o h step es start routed told_of = ((whole (Unit {0}) o h step es start (λ q. routed) told_of).right tt, of_requests o (after o at_start es).server (sound_after o es start))
