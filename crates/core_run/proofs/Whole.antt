-- Whole runs over bytes: their replies are lawful, and their blocks are right.
use Rattle.std.proofs.Common.{◌≡◌, ℕ, Bool, zero, suc, List, [], ◌∷◌, length, take, map, sym, ◌∙◌, ap, subst}
use Rattle.std.specs.List.{slice_get, AllByRecursion}
use Rattle.std.specs.Prelude.{IfSome, IsSomeAnd}
use Rattle.shape_base.specs.declared.change.Tx.{Tx}
use Rattle.shape_base.specs.declared.history.History.{History}
use Rattle.shape_base.specs.declared.served.Served.{Served}
use Rattle.shape_base.specs.Tables.{commits_of}
use Rattle.shape_base.specs.Transactions.{meaning}
use Rattle.tx_assembler.specs.Shown.{shown}
use Rattle.http_edge.specs.World.{World}
use Rattle.http_edge.specs.Lawful.{Asked, IsLawful}
use Rattle.fold_client.specs.Following.{Heard}
use Rattle.core_law.specs.Situation.{Options, Exchange, world_of}
use Rattle.core_law.specs.Situation as law
use Rattle.core_law.specs.Clients.{Out, Gives, Cut, Block, Refetched, Refused}
use Rattle.core_law.specs.Run.{told}
use Rattle.core_law.specs.Laws as laws
use Rattle.core_law.specs.Laws.{IsLawfulExchange, IsRightOut, AreOfRequests}
use Rattle.sync_core.specs.Run.{Situation}
use Rattle.core_run.specs.Steps.{brought_in, told_in}
use Rattle.core_run.specs.Laws.{stretches_of, LeadsToEvents, CommitsAreShown, IsToldBy, RepliesAreLawful, HasLawful, IsLawfulOut, OutsAreLawful, Headline}
use Rattle.core_run.proofs.Giving.{WasGiven, IsGivenAmong, IsToldAmong, replies_are_given}

-- what a history owes the events that a run comes to
told_by : (o : Options) (h : History) (step : ℕ → ℕ) (next : Situation) → next.core.server.commits ≡ shown o.tables (stretches_of next.stream) → IsToldBy o h step next → laws.IsTold o h step next.core.server
told_by o h step next commits t =
    let same : shown h.tables (stretches_of next.stream) ≡ next.core.server.commits = ap (λ (tables : List Served). shown tables (stretches_of next.stream)) t.tables ∙ sym commits in
    record {
      good = t.good;
      tables = t.tables;
      shows = subst (λ (txs : List Tx). map meaning (take (length txs) (commits_of h.steps)) ≡ map meaning txs) same t.shows.front;
      honest = t.honest;
    }

pub replies_are_lawful : LeadsToEvents → CommitsAreShown → laws.RepliesAreLawful → RepliesAreLawful
replies_are_lawful leads_to shown_so lawful o h step events steps next start leads t =
    let c = leads_to o events steps next leads in
    let told_so = told_by o h step next (shown_so o events steps next leads) t in
    subst (λ (s : law.Situation). AllByRecursion (IsLawfulExchange (world_of o h step s.server)) s.exchanges) (sym c.core) (lawful o h step (brought_in steps) start (subst (λ (s : law.Situation). laws.IsTold o h step s.server) c.core told_so))

pub headline : LeadsToEvents → CommitsAreShown → laws.Headline → Headline
headline leads_to shown_so right o h step events steps next start leads t =
    let c = leads_to o events steps next leads in
    let told_so = told_by o h step next (shown_so o events steps next leads) t in
    let r = right o h step (brought_in steps) start c.routed (subst (λ (s : law.Situation). laws.IsTold o h step s.server) c.core told_so) in
    record {
      blocks = subst (λ (outs : List (Out × law.Situation)). AllByRecursion (IsRightOut (world_of o h step next.core.server)) outs) (sym c.outs)
          (subst (λ (s : law.Situation). AllByRecursion (IsRightOut (world_of o h step s.server)) (told o law.at_start (brought_in steps))) (sym c.core) r.0);
      shapes = subst (λ (s : law.Situation). AreOfRequests o s.server) (sym c.core) r.1;
    }

-- ---- what was put out

pub lawful_at : (w : World) (xs : List Exchange) (e : ℕ) (request : Asked × Bool) (heard : Heard) → AllByRecursion (IsLawfulExchange w) xs → WasGiven xs e request heard → IsSomeAnd (slice_get xs e) (HasLawful w heard)
lawful_at w [] e r heard all h = absurd h
lawful_at w (x ∷ xs) zero r heard all h = record { given = h.given; lawful = subst (λ given. IfSome given (λ (y : Heard). IsLawful w x.asked y.given)) h.given all.0 }
lawful_at w (x ∷ xs) (suc e) r heard all h = lawful_at w xs e r heard all.1 h

lawful_out : (w : World) (xs : List Exchange) (s : law.Situation) (out : Out) → AllByRecursion (IsLawfulExchange w) xs → IsGivenAmong xs out → IsLawfulOut w xs (out, s)
lawful_out w xs s (Gives e heard) all h = lawful_at w xs e h.0 heard all h.1
lawful_out w xs s (Cut e) all h = tt
lawful_out w xs s (Block n handle offset rows) all h = tt
lawful_out w xs s (Refetched n) all h = tt
lawful_out w xs s (Refused n status) all h = tt

lawful_all : (w : World) (xs : List Exchange) (outs : List (Out × law.Situation)) → AllByRecursion (IsLawfulExchange w) xs → AllByRecursion (IsToldAmong xs) outs → AllByRecursion (IsLawfulOut w xs) outs
lawful_all w xs [] all h = tt
lawful_all w xs (out ∷ outs) all h = (lawful_out w xs out.1 out.0 all h.0, lawful_all w xs outs all h.1)

pub outs_are_lawful : LeadsToEvents → RepliesAreLawful → OutsAreLawful
outs_are_lawful leads_to lawful o h step events steps next start leads t =
    let c = leads_to o events steps next leads in
    let given = replies_are_given o law.at_start (brought_in steps) in
    let here : AllByRecursion (IsToldAmong next.core.exchanges) (told o law.at_start (brought_in steps)) = subst (λ (s : law.Situation). AllByRecursion (IsToldAmong s.exchanges) (told o law.at_start (brought_in steps))) (sym c.core) given in
    lawful_all (world_of o h step next.core.server) next.core.exchanges (told_in steps) (lawful o h step events steps next start leads t) (subst (AllByRecursion (IsToldAmong next.core.exchanges)) (sym c.outs) here)
