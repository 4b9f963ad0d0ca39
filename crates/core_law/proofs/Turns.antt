-- Each event keeps the server sound, the replies lawful, and the blocks right.
use Rattle.std.proofs.Common.{◌≡◌, ℕ, zero, suc, ◌+◌, Bool, true, false, not, ◌&&◌, ◌||◌, ◌==◌, List, [], ◌∷◌, ◌++◌, length, map, refl, sym, ◌∙◌, ap, subst, arith, lit<, Option, None, Some, IfSome}
use Rattle.std.specs.Bool.{if◌then◌else◌}
use Rattle.std.specs.List.{slice_get, AllByRecursion}
use Rattle.std.specs.Option.{option_map, option_and_then, option_or}
use Rattle.std.specs.Prelude.{is_none}
use Rattle.std.proofs.lemmas.Bool.{and_parts}
use Rattle.std.proofs.lemmas.List.{append-nil}
use Rattle.shape_base.specs.declared.ask.Ask.{Ask}
use Rattle.shape_base.specs.declared.ask.Named.{Named}
use Rattle.shape_base.specs.declared.ask.Named.TheVariants.{Absent, Known, Strange}
use Rattle.shape_base.specs.declared.cause.Cause.{Cause}
use Rattle.shape_base.specs.declared.cause.Cause.TheVariants as causes
use Rattle.shape_base.specs.declared.change.Tx.{Tx}
use Rattle.shape_base.specs.declared.definition.TableDef.{TableDef}
use Rattle.shape_base.specs.declared.history.History.{History}
use Rattle.shape_base.specs.declared.registry_event.RegistryEvent.{RegistryEvent}
use Rattle.shape_base.specs.declared.registry_event.RegistryEvent.TheVariants.{Removed, Redefined}
use Rattle.shape_base.specs.Tables.{same_def}
use Rattle.shape_base.specs.Snapshot.{Snapshot, definition_in}
use Rattle.shape_base.specs.Visibility.{Visibility, is_visible}
use Rattle.shape_base.specs.Shape.{have_truths}
use Rattle.shape_base.specs.RegistryHistory.{Registration, registrations, live_registrations, had_ready, was_removed, removal_of, is_live, is_starting, live_under, last_lsn, definition_after, catalog_after}
use Rattle.shape_registry.proofs.Catalog.{catalog_placed}
use Rattle.shape_json.specs.ShapeHistory.{Reader, snapshot_in, Dropped}
use Rattle.http_edge.specs.declared.error_code.ErrorCode.{ErrorCode}
use Rattle.http_edge.specs.declared.error_code.ErrorCode.TheVariants as codes
use Rattle.http_edge.specs.declared.error_code.Detail.TheVariants as details
use Rattle.fold_client.specs.Following.{Heard}
use Rattle.http_edge.specs.World.{World, IsGoodWorld}
use Rattle.http_edge.specs.Lawful.{Asked, Refuses, AsksFor, is_of_snapshot, refusal_to_register, refusal_of_limit}
use Rattle.core_events.specs.declared.out.StepError.{StepError}
use Rattle.core_events.specs.declared.out.StepError.TheVariants as errors
use Rattle.core_events.specs.declared.out.Unfit.TheVariants as unfit
use Rattle.core_law.specs.Situation.{Options, Shape, Server, shape_at, Role, Reads, Waits, Owns, HasNone, Exchange, Situation, world_of, known_of, reader_under, reader_for}
use Rattle.core_law.specs.Steps.{change_at, heard_at, refused_with, settled_one, settled, dropped, redefined, with_shape_event, with_shape, after_commit, with_exchange, refused_at, with_role, registered_for, opened, asked_first, asked_named, asked_for, exchange_at, request, Fault, LinkFailed, IsBad, TooLarge, code_of, owned_in, owned_by, id_before, stale_by, untrue_by, or_else, refusal_of_snapshot, changed_in, snapshot_ends, started, snapped}
use Rattle.core_law.specs.Clients.{Out, Turn, Goes, Stops, is_unfit, new_reply, given_now, finished, never}
use Rattle.core_law.specs.Run.{next_of, outs_of}
use Rattle.core_law.specs.Laws.{IsTold, IsRightOut}
use Rattle.core_law.proofs.Server.{Sound, Extends, Better, better_same, better_trans, redefines_some, drops}
use Rattle.core_law.proofs.ServerSteps.{HasRoom, registers, commit_better, starts, live_from_starting}
use Rattle.core_law.proofs.Registrations.{live_registered, registered_now, removed_now, cause_now}
use Rattle.core_law.proofs.Replies.{HasWait, HasRole, unregistered, unready, snapshot_lawful}
use Rattle.core_law.proofs.Targets.{ReadsBack, reads_nothing}
use Rattle.core_law.proofs.Exchanges.{Fine, FineCustomer, Good, role_on, fine_on, settled_fine, refused_fine}

-- ---- lists

pub all_one_more : {A : Type 0} (P : A → Type 0) (xs : List A) (x : A) → AllByRecursion P xs → P x → AllByRecursion P (xs ++ x ∷ [])
all_one_more P [] x h k = (k, tt)
all_one_more P (y ∷ ys) x h k = (h.0, all_one_more P ys x h.1 k)

pub all_both : {A : Type 0} (P : A → Type 0) (xs ys : List A) → AllByRecursion P xs → AllByRecursion P ys → AllByRecursion P (xs ++ ys)
all_both P [] ys h k = k
all_both P (x ∷ xs) ys h k = (h.0, all_both P xs ys h.1 k)

pub all_to : {A : Type 0} (P R : A → Type 0) (xs : List A) → ((x : A) → P x → R x) → AllByRecursion P xs → AllByRecursion R xs
all_to P R [] step h = tt
all_to P R (x ∷ xs) step h = (step x h.0, all_to P R xs step h.1)

all_mapped : {A : Type 0} (P : A → Type 0) (f : A → A) (xs : List A) → ((x : A) → P x → P (f x)) → AllByRecursion P xs → AllByRecursion P (map f xs)
all_mapped P f [] step h = tt
all_mapped P f (x ∷ xs) step h = (step x h.0, all_mapped P f xs step h.1)

pub all_changed : {A : Type 0} (P : A → Type 0) (f : A → A) (xs : List A) (i : ℕ) → ((x : A) → P x → P (f x)) → AllByRecursion P xs → AllByRecursion P (change_at f xs i)
all_changed P f [] i step h = tt
all_changed P f (x ∷ xs) zero step h = (step x h.0, h.1)
all_changed P f (x ∷ xs) (suc i) step h = (h.0, all_changed P f xs i step h.1)

pub all_changed_at : {A : Type 0} (P : A → Type 0) (f : A → A) (xs : List A) (i : ℕ) (x : A) → slice_get xs i ≡ Some x → (P x → P (f x)) → AllByRecursion P xs → AllByRecursion P (change_at f xs i)
all_changed_at P f [] i x e step h = tt
all_changed_at P f (y ∷ xs) zero x e step h = let same : x ≡ y = cc in (subst (λ z. P z → P (f z)) same step h.0, h.1)
all_changed_at P f (y ∷ xs) (suc i) x e step h = (h.0, all_changed_at P f xs i x e step h.1)

pub all_at : {A : Type 0} (P : A → Type 0) (xs : List A) (i : ℕ) (x : A) → slice_get xs i ≡ Some x → AllByRecursion P xs → P x
all_at P [] i x e h = cc
all_at P (y ∷ xs) zero x e h = let same : y ≡ x = cc in subst P same h.0
all_at P (y ∷ xs) (suc i) x e h = all_at P xs i x e h.1

-- ---- what one event owes

-- what was good stays so, in the world that any later server tells
abbrev pub KeepsGood : Type 0 → Options → Situation → Situation → Type 1
KeepsGood R o s t = (h : History) (step : ℕ → ℕ) (z : Server) (Q : Type 0) → IsTold o h step z → Sound o z → IsGoodWorld (world_of o h step z) → Sound o s.server → Extends t.server z → (Q → R) → Good Q o (world_of o h step z) s → Good Q o (world_of o h step z) t

-- each exchange's role fits what it asked
abbrev pub AllRoles : Situation → Type 0
AllRoles s = AllByRecursion (λ (x : Exchange). HasRole s.server x.asked x.role) s.exchanges

-- a situation moves on; R is what its event owes where events are routed
pub record Moved (R : Type 0) (o : Options) (s t : Situation) : Type 1 where
  pub better : Better o s.server t.server
  pub roles : AllRoles s → AllRoles t
  pub good : KeepsGood R o s t

-- what is put out is right
abbrev pub AreRight : World → Turn → Situation → Type 0
AreRight w t next = AllByRecursion (IsRightOut w) (map {B = Out × Situation} (λ out. (out, next)) (outs_of t))

pub record TurnOk (R : Type 0) (o : Options) (s : Situation) (t : Turn) : Type 1 where
  pub better : Better o s.server (next_of s t).server
  pub roles : AllRoles s → AllRoles (next_of s t)
  pub good : KeepsGood R o s (next_of s t)
  pub right : (h : History) (step : ℕ → ℕ) (z : Server) (Q : Type 0) → IsTold o h step z → Sound o z → IsGoodWorld (world_of o h step z) → Sound o s.server → Extends (next_of s t).server z → (Q → R) → Q → Good Q o (world_of o h step z) s → AreRight (world_of o h step z) t (next_of s t)

pub moved_not : (R : Type 0) (o : Options) (s : Situation) → Moved R o s s
moved_not R o s = record { better = better_same o s.server; roles = λ r. r; good = λ h step z Q told sound world now on routed g. g }

-- nothing is put out, and nothing changes
pub stays_ok : (R : Type 0) (o : Options) (s : Situation) → TurnOk R o s (Goes [] s)
stays_ok R o s = record { better = better_same o s.server; roles = λ r. r; good = λ h step z Q told sound world now on routed g. g; right = λ h step z Q told sound world now on routed q g. tt }

pub stops_ok : (R : Type 0) (o : Options) (s : Situation) (error : StepError) → TurnOk R o s (Stops error)
stops_ok R o s error = record { better = better_same o s.server; roles = λ r. r; good = λ h step z Q told sound world now on routed g. g; right = λ h step z Q told sound world now on routed q g. tt }

-- the same exchanges and clients, over a server that goes on
same_parts : (Q : Type 0) (o : Options) (w : World) (s t : Situation) → Extends s.server t.server → t.exchanges ≡ s.exchanges → t.customers ≡ s.customers → Good Q o w s → Good Q o w t
same_parts Q o w s t on exchanges customers g = record {
  exchanges = subst (AllByRecursion (Fine Q o t.server w)) (sym exchanges) (all_to (Fine Q o s.server w) (Fine Q o t.server w) s.exchanges (λ x is. fine_on Q o s.server t.server w x on is) g.exchanges);
  customers = λ q. subst (AllByRecursion (FineCustomer o w)) (sym customers) (g.customers q);
}

roles_on : (s : Situation) (v : Server) → Extends s.server v → AllRoles s → AllByRecursion (λ (x : Exchange). HasRole v x.asked x.role) s.exchanges
roles_on s v on r = all_to (λ (x : Exchange). HasRole s.server x.asked x.role) (λ (x : Exchange). HasRole v x.asked x.role) s.exchanges (λ x is. role_on s.server v x.asked x.role on is) r

pub moved_server : (R : Type 0) (o : Options) (s : Situation) (v : Server) → Better o s.server v → Moved R o s (record s { server = v })
moved_server R o s v better = record { better = better; roles = roles_on s v better.on; good = λ h step z Q told sound world now on routed g. same_parts Q o (world_of o h step z) s (record s { server = v }) better.on refl refl g }

-- ---- exchanges are answered

new_right : (w : World) (next : Situation) (i : ℕ) (outside : Bool) (a b : Option Heard) → AllByRecursion (IsRightOut w) (map (λ out. (out, next)) (new_reply i outside a b))
new_right w next i false a b = tt
new_right w next i true (Some g) b = tt
new_right w next i true None None = tt
new_right w next i true None (Some g) = (tt, tt)

pub map_both : (next : Situation) (xs ys : List Out) → map {B = Out × Situation} (λ out. (out, next)) (xs ++ ys) ≡ map {B = Out × Situation} (λ out. (out, next)) xs ++ map {B = Out × Situation} (λ out. (out, next)) ys
map_both next [] ys = refl
map_both next (x ∷ xs) ys = ap (λ zs. (x, next) ∷ zs) (map_both next xs ys)

pub both_right : (w : World) (next : Situation) (xs ys : List Out) → AllByRecursion (IsRightOut w) (map (λ out. (out, next)) xs) → AllByRecursion (IsRightOut w) (map (λ out. (out, next)) ys) → AllByRecursion (IsRightOut w) (map (λ out. (out, next)) (xs ++ ys))
both_right w next xs ys h k = subst (AllByRecursion (IsRightOut w)) (sym (map_both next xs ys)) (all_both (IsRightOut w) (map (λ out. (out, next)) xs) (map (λ out. (out, next)) ys) h k)

pub gives_right : (w : World) (next : Situation) (i : ℕ) (xs ys : List Exchange) → AllByRecursion (IsRightOut w) (map (λ out. (out, next)) (given_now i xs ys))
gives_right w next i [] [] = tt
gives_right w next i (x ∷ xs) [] = tt
gives_right w next i [] (y ∷ ys) = both_right w next (new_reply i y.outside None y.given) (given_now (i + 1) [] ys) (new_right w next i y.outside None y.given) (gives_right w next (i + 1) [] ys)
gives_right w next i (x ∷ xs) (y ∷ ys) = both_right w next (new_reply i y.outside x.given y.given) (given_now (i + 1) xs ys) (new_right w next i y.outside x.given y.given) (gives_right w next (i + 1) xs ys)

settled_role : (o : Options) (v : Server) (late : Exchange → Bool) (x : Exchange) (given : Option Heard) → HasRole v x.asked x.role → HasRole v (settled_one o v late x given).asked (settled_one o v late x given).role
settled_role o v late x None has = has
settled_role o v late x (Some heard) has = has

pub finished_ok : (R : Type 0) (o : Options) (s t : Situation) (late : Exchange → Bool) → Moved R o s t → TurnOk R o s (finished o late s t)
finished_ok R o s t late moved = record {
  better = moved.better;
  roles = λ r. all_mapped (λ (x : Exchange). HasRole t.server x.asked x.role) (λ x. settled_one o t.server late x x.given) t.exchanges (λ x has. settled_role o t.server late x x.given has) (moved.roles r);
  good = λ h step z Q told sound world now on routed g.
      let w = world_of o h step z in
      let m = moved.good h step z Q told sound world now on routed g in record {
        exchanges = all_mapped (Fine Q o t.server w) (λ x. settled_one o t.server late x x.given) t.exchanges (λ x is. settled_fine Q o h step t.server z late x x.given refl told (moved.better.sound now) on world is) m.exchanges;
        customers = m.customers;
      };
  right = λ h step z Q told sound world now on routed q g. gives_right (world_of o h step z) (settled o late t) 0 s.exchanges (settled o late t).exchanges;
}

-- ---- requests

-- an exchange comes, over a server that goes on
pub moved_exchange : (R : Type 0) (o : Options) (s : Situation) (v : Server) (x : Exchange) → Better o s.server v → HasRole v x.asked x.role
    → ((h : History) (step : ℕ → ℕ) (z : Server) (Q : Type 0) → IsTold o h step z → Sound o v → Extends v z → (Q → R) → Fine Q o v (world_of o h step z) x) → Moved R o s (with_exchange (record s { server = v }) x)
moved_exchange R o s v x better has fine = record {
  better = better;
  roles = λ r. all_one_more (λ (x : Exchange). HasRole v x.asked x.role) s.exchanges x (roles_on s v better.on r) has;
  good = λ h step z Q told sound world now on routed g.
      let w = world_of o h step z in
      let m = same_parts Q o w s (record s { server = v }) better.on refl refl g in
      record { exchanges = all_one_more (Fine Q o v w) s.exchanges x m.exchanges (fine h step z Q told (better.sound now) on routed); customers = m.customers };
}

module _ (o : Options) (s : Situation) (outside : Bool) (target : Option (List ℕ)) (close : Bool) where
  abbrev Routed : Asked → Type 0
  Routed asked = ReadsBack target asked

  abbrev new : Asked → Exchange
  new asked = exchange_at outside target asked close s.clock

  plain_fine : (Q : Type 0) (v : Server) (w : World) (asked : Asked) (role : Role) → HasRole v asked role → (Q → Routed asked) → Fine Q o v w (with_role role (new asked))
  plain_fine Q v w asked role has routed = record { lawful = tt; says = tt; role = has; read = routed; fields = λ q. tt }

  plain_moved : (asked : Asked) (role : Role) → HasRole s.server asked role → Moved (Routed asked) o s (with_exchange s (with_role role (new asked)))
  plain_moved asked role has = moved_exchange (Routed asked) o s s.server (with_role role (new asked)) (better_same o s.server) has (λ h step z Q told sound on routed. plain_fine Q s.server (world_of o h step z) asked role has routed)

  record Defined (ask : Ask) (reader : Reader) : Type 0 where
    definition : TableDef
    found : definition_after o.catalog s.server.registry ask.table ≡ Some definition
    reads : reader_under o ask definition ≡ Some reader

  defined : (ask : Ask) (reader : Reader) (d : Option TableDef) → definition_after o.catalog s.server.registry ask.table ≡ d → option_and_then (reader_under o ask) d ≡ Some reader → Defined ask reader
  defined ask reader None e h = cc
  defined ask reader (Some d) e h = record { definition = d; found = e; reads = h }

  abbrev owner : Ask → Exchange
  owner ask = with_role (Owns (length s.server.shapes + 1)) (new (AsksFor ask))

  -- a shape is registered, where the server is sound
  registered_better : (ask : Ask) (reader : Reader) → Defined ask reader → live_under s.server.registry ask.identity ≡ None → HasRoom o.limits.shapes s.server.registry → Better o s.server (with_shape s.server ask reader)
  registered_better ask reader d free room = record {
    sound = λ sound. (step_of sound).sound sound;
    on = (registers_on ask reader);
  }
    where
      placed_at : Sound o s.server → d.definition.table ≡ ask.table
      placed_at sound = subst (λ found. IfSome found (λ x. x.table ≡ ask.table)) d.found (catalog_placed o.catalog s.server.registry sound.start.placed ask.table)

      step_of : Sound o s.server → Better o s.server (with_shape s.server ask reader)
      step_of sound = registers o s.server ask reader d.definition (placed_at sound) d.reads free room

      registers_on : (ask : Ask) (reader : Reader) → Extends s.server (with_shape s.server ask reader)
      registers_on ask reader = Rattle.core_law.proofs.ServerSteps.shape_on s.server ask reader

  owner_role_is : (ask : Ask) (reader : Reader) → ask.named ≡ Absent → HasWait (with_shape s.server ask reader) (AsksFor ask) (length s.server.shapes + 1)
  owner_role_is ask reader first = record { ask = ask; is = refl; first = first; under = registered_now s.server.registry (length s.server.shapes + 1) ask.identity ask.table (Rattle.shape_base.specs.RegistryHistory.last_id s.server.registry) }

  registered_moved : (ask : Ask) (reader : Option Reader) → option_and_then (reader_under o ask) (definition_after o.catalog s.server.registry ask.table) ≡ reader → ask.named ≡ Absent → live_under s.server.registry ask.identity ≡ None → HasRoom o.limits.shapes s.server.registry
      → Moved (Routed (AsksFor ask)) o s (registered_for s (new (AsksFor ask)) ask reader)
  registered_moved ask None e first free room = plain_moved (AsksFor ask) Reads tt
  registered_moved ask (Some reader) e first free room =
      moved_exchange (Routed (AsksFor ask)) o s (with_shape s.server ask reader) (owner ask) (registered_better ask reader (defined ask reader (definition_after o.catalog s.server.registry ask.table) refl e) free room) (owner_role_is ask reader first)
      (λ h step z Q told sound on routed. plain_fine Q (with_shape s.server ask reader) (world_of o h step z) (AsksFor ask) (Owns (length s.server.shapes + 1)) (owner_role_is ask reader first) routed)

  either_none : (a b : Option ErrorCode) → option_or a b ≡ None → b ≡ None
  either_none None b e = e
  either_none (Some code) b e = cc

  no_limit : (a b : Bool) (code : ErrorCode) → (if a || b then Some code else None) ≡ None → (a ≡ false) × (b ≡ false)
  no_limit true b code e = cc
  no_limit false true code e = cc
  no_limit false false code e = (refl, refl)

  has_room : (ask : Ask) → refusal_to_register (known_of o s.server) s.server.registry ask ≡ None → HasRoom o.limits.shapes s.server.registry
  has_room ask e = let p = no_limit _ _ _ (either_none _ (refusal_of_limit (known_of o s.server) s.server.registry) e) in record { room = p.0; few = p.1 }

  opened_moved : (ask : Ask) (code : Option ErrorCode) → refusal_to_register (known_of o s.server) s.server.registry ask ≡ code → ask.named ≡ Absent → live_under s.server.registry ask.identity ≡ None → Moved (Routed (AsksFor ask)) o s (opened o s (new (AsksFor ask)) ask code)
  opened_moved ask (Some code) why first free = moved_exchange (Routed (AsksFor ask)) o s s.server (refused_at s.server code (new (AsksFor ask))) (better_same o s.server) tt
      (λ h step z Q told sound on routed. refused_fine Q o s.server (world_of o h step z) code (new (AsksFor ask)) (unregistered o h step s.server z told sound on ask code first free (unready s.server.registry ask.identity free) why)
      (plain_fine Q s.server (world_of o h step z) (AsksFor ask) Reads tt routed))
  opened_moved ask None why first free = registered_moved ask (reader_for o s.server.registry ask) refl first free (has_room ask why)

  first_moved : (ask : Ask) (n : Option ℕ) → live_under s.server.registry ask.identity ≡ n → ask.named ≡ Absent → Moved (Routed (AsksFor ask)) o s (asked_first o s (new (AsksFor ask)) ask n)
  first_moved ask (Some n) e first = plain_moved (AsksFor ask) (Waits n) (record { ask = ask; is = refl; first = first; under = live_registered s.server.registry ask.identity n e })
  first_moved ask None e first = opened_moved ask (refusal_to_register (known_of o s.server) s.server.registry ask) refl first e

  named_moved : (ask : Ask) (named : Named) → ask.named ≡ named → Moved (Routed (AsksFor ask)) o s (asked_named o s (new (AsksFor ask)) ask named)
  named_moved ask Absent e = first_moved ask (live_under s.server.registry ask.identity) refl e
  named_moved ask (Known handle) e = plain_moved (AsksFor ask) Reads tt
  named_moved ask Strange e = plain_moved (AsksFor ask) Reads tt

  pub request_moved : (asked : Asked) → Moved (ReadsBack target asked) o s (request o s outside target asked close)
  request_moved (Refuses code) = plain_moved (Refuses code) Reads tt
  request_moved (AsksFor ask) = named_moved ask ask.named refl

  pub cut_fine : (Q : Type 0) (v : Server) (w : World) (code : ErrorCode) → Fine Q o v w (with_role HasNone (exchange_at outside None (Refuses code) close s.clock))
  cut_fine Q v w code = record { lawful = tt; says = tt; role = tt; read = λ q. reads_nothing None (Refuses code) (λ ask e. cc); fields = λ q. tt }

-- ---- snapshots

-- an exchange that owns a number
record Owner (x : Option Exchange) (n : ℕ) : Type 0 where
  exchange : Exchange
  there : x ≡ Some exchange
  owns : exchange.role ≡ Owns n

owner_role : (x : Exchange) (n : ℕ) (role : Role) → x.role ≡ role → owned_in role ≡ Some n → x.role ≡ Owns n
owner_role x n Reads e h = cc
owner_role x n (Waits m) e h = cc
owner_role x n (Owns m) e h = e ∙ (let same : m ≡ n = cc in ap (λ k. Owns k) same)
owner_role x n HasNone e h = cc

owner_of : (x : Option Exchange) (n : ℕ) → owned_by x ≡ Some n → Owner x n
owner_of None n h = cc
owner_of (Some x) n h = record { exchange = x; there = refl; owns = owner_role x n x.role refl h }

-- the registry after a number's snapshot was refused
abbrev more_of : Option TableDef → List RegistryEvent
more_of None = []
more_of (Some d) = Redefined d ∷ []

redefined_more : (v : Server) (d : Option TableDef) → (redefined v d).registry ≡ v.registry ++ more_of d
redefined_more v None = sym (append-nil v.registry)
redefined_more v (Some d) = refl

removed_if : (v : Server) (n : ℕ) (cause : Cause) (b : Bool) → b ≡ true → (if b then Rattle.core_law.specs.Steps.with_registry v (Removed n cause) else v).registry ≡ v.registry ++ Removed n cause ∷ []
removed_if v n cause true e = refl
removed_if v n cause false e = cc

ends_registry : (v : Server) (n : ℕ) (cause : Cause) (d : Option TableDef) → is_live v.registry n ≡ true → (redefined (dropped v n cause) d).registry ≡ v.registry ++ Removed n cause ∷ more_of d
ends_registry v n cause d live = redefined_more (dropped v n cause) d ∙ ap (λ es. es ++ more_of d) (removed_if (with_shape_event v n (Dropped cause)) n cause (is_live v.registry n) live) ∙ Rattle.std.proofs.Common.append_assoc v.registry (Removed n cause ∷ []) (more_of d)

not_true : (b : Bool) → not b ≡ true → b ≡ false
not_true true h = cc
not_true false h = refl

ends_moved : (R : Type 0) (o : Options) (s : Situation) (e n : ℕ) (code : ErrorCode) (d : Option TableDef) → owned_by (slice_get s.exchanges e) ≡ Some n → is_starting s.server.registry n ≡ true → is_of_snapshot code ≡ true → Moved R o s (snapshot_ends s e n code d)
ends_moved R o s e n code d owned starting own =
    let v = redefined (dropped s.server n causes.SnapshotFailed) d in
    let better = better_trans o s.server (dropped s.server n causes.SnapshotFailed) (redefined (dropped s.server n causes.SnapshotFailed) d) (drops o s.server n causes.SnapshotFailed) (redefines_some o (dropped s.server n causes.SnapshotFailed) d) in
    let x = owner_of (slice_get s.exchanges e) n owned in
    let live = live_from_starting s.server.registry n starting in
    let registry = ends_registry s.server n causes.SnapshotFailed d live in
    let unremoved = not_true (was_removed s.server.registry n) (and_parts (Rattle.shape_base.specs.RegistryHistory.was_registered s.server.registry n) (not (was_removed s.server.registry n)) live).1 in
    record {
      better = better;
      roles = λ r. all_changed (λ (y : Exchange). HasRole v y.asked y.role) (refused_at v code) s.exchanges e (λ y is. is) (roles_on s v better.on r);
      good = λ h step z Q told sound world now on routed g.
          let w = world_of o h step z in
          let m = same_parts Q o w s (record s { server = v }) better.on refl refl g in
          record {
            exchanges = all_changed_at (Fine Q o v w) (refused_at v code) s.exchanges e x.exchange x.there (λ is. refused_fine Q o v w code x.exchange
                (snapshot_lawful o h step v z told (better.sound now) on x.exchange.asked n code (subst (HasRole v x.exchange.asked) x.owns is.role)
                (ap (λ es. was_removed es n) registry ∙ removed_now s.server.registry (more_of d) n causes.SnapshotFailed)
                (ap (λ es. option_map (λ r. r.cause) (removal_of es n)) registry ∙ cause_now s.server.registry (more_of d) n causes.SnapshotFailed unremoved) own)
                is) m.exchanges;
            customers = m.customers;
          };
    }

-- what a snapshot is refused with is a refusal of a snapshot
stale_own : (v : Visibility) (xid : Option ℕ) (code : ErrorCode) → stale_by v xid ≡ Some code → is_of_snapshot code ≡ true
stale_own v None code h = cc
stale_own v (Some xid) code h = pick (is_visible v xid) h
  where
    pick : (b : Bool) → (if b then None else Some (codes.SnapshotStale xid v.xmax)) ≡ Some code → is_of_snapshot code ≡ true
    pick true e = cc
    pick false e = let same : codes.SnapshotStale xid v.xmax ≡ code = cc in ap is_of_snapshot (sym same)

untrue_own : (b : Bool) (code : ErrorCode) → (if b then None else Some (codes.SnapshotRefused details.BadValue)) ≡ Some code → is_of_snapshot code ≡ true
untrue_own true code h = cc
untrue_own false code h = let same : codes.SnapshotRefused details.BadValue ≡ code = cc in ap is_of_snapshot (sym same)

else_own : (a b : Option ErrorCode) (code : ErrorCode) → ((c : ErrorCode) → a ≡ Some c → is_of_snapshot c ≡ true) → ((c : ErrorCode) → b ≡ Some c → is_of_snapshot c ≡ true) → or_else a b ≡ Some code → is_of_snapshot code ≡ true
else_own None b code h k e = k code e
else_own (Some c) b code h k e = h code e

own_if : (txs : List Tx) (x : Shape) (snap : Snapshot) (a : Bool) (code : ErrorCode) → (if a then or_else (stale_by snap.visibility (id_before txs x.before)) (untrue_by x.reader.knows snap) else Some codes.DefinitionChanged) ≡ Some code → is_of_snapshot code ≡ true
own_if txs x snap true code h = else_own (stale_by snap.visibility (id_before txs x.before)) (untrue_by x.reader.knows snap) code (λ c e. stale_own snap.visibility (id_before txs x.before) c e) (λ c e. untrue_own (have_truths x.reader.knows snap.rows) c e) h
own_if txs x snap false code h = let same : codes.DefinitionChanged ≡ code = cc in ap is_of_snapshot (sym same)

snapped_moved : (R : Type 0) (o : Options) (s : Situation) (e n : ℕ) (x : Shape) (snap : Snapshot) (r : Option ErrorCode) → refusal_of_snapshot s.server.commits x snap ≡ r → shape_at s.server.shapes n ≡ Some x → is_starting s.server.registry n ≡ true → is_none (snapshot_in x.events) ≡ true → owned_by (slice_get s.exchanges e) ≡ Some n → Moved R o s (snapped o s e n x snap r)
snapped_moved R o s e n x snap (Some code) is at starting none owned = ends_moved R o s e n code (changed_in snap x.reader.knows.definition) owned starting (own_if s.server.commits x snap (same_def (definition_in snap x.reader.knows.definition.table) x.reader.knows.definition) code is)
snapped_moved R o s e n x snap None is at starting none owned = moved_server R o s (started o s.server n x snap) (starts o s.server n x snap at starting none is)

snap_if : (R : Type 0) (o : Options) (s : Situation) (e n : ℕ) (x : Shape) (snap : Snapshot) (b : Bool) → (is_starting s.server.registry n && is_none (snapshot_in x.events)) ≡ b → shape_at s.server.shapes n ≡ Some x → owned_by (slice_get s.exchanges e) ≡ Some n
    → TurnOk R o s (if b then finished o never s (snapped o s e n x snap (refusal_of_snapshot s.server.commits x snap)) else is_unfit unfit.NotASnapshot)
snap_if R o s e n x snap true is at owned = let p = and_parts (is_starting s.server.registry n) (is_none (snapshot_in x.events)) is in
    finished_ok R o s (snapped o s e n x snap (refusal_of_snapshot s.server.commits x snap)) never (snapped_moved R o s e n x snap (refusal_of_snapshot s.server.commits x snap) refl at p.0 p.1 owned)
snap_if R o s e n x snap false is at owned = stops_ok R o s (errors.Unfit unfit.NotASnapshot)

snap_shape_ok : (R : Type 0) (o : Options) (s : Situation) (e n : ℕ) (x : Snapshot) (shape : Option Shape) → shape_at s.server.shapes n ≡ shape → owned_by (slice_get s.exchanges e) ≡ Some n → TurnOk R o s (Rattle.core_law.specs.Run.snap_shape o s e n x shape)
snap_shape_ok R o s e n x None at owned = stops_ok R o s (errors.Unfit unfit.NotASnapshot)
snap_shape_ok R o s e n x (Some shape) at owned = snap_if R o s e n shape x (is_starting s.server.registry n && is_none (snapshot_in shape.events)) refl at owned

pub snap_ok : (R : Type 0) (o : Options) (s : Situation) (e : ℕ) (x : Snapshot) (n : Option ℕ) → owned_by (slice_get s.exchanges e) ≡ n → TurnOk R o s (Rattle.core_law.specs.Run.snap o s e x n)
snap_ok R o s e x None owned = stops_ok R o s (errors.Unfit unfit.NotASnapshot)
snap_ok R o s e x (Some n) owned = snap_shape_ok R o s e n x (shape_at s.server.shapes n) refl owned

fault_own : (fault : Fault) → is_of_snapshot (code_of fault) ≡ true
fault_own LinkFailed = refl
fault_own (IsBad detail) = refl
fault_own (TooLarge bytes limit) = refl

fail_if : (R : Type 0) (o : Options) (s : Situation) (e n : ℕ) (fault : Fault) (b : Bool) → is_starting s.server.registry n ≡ b → owned_by (slice_get s.exchanges e) ≡ Some n → TurnOk R o s (if b then finished o never s (snapshot_ends s e n (code_of fault) None) else is_unfit unfit.NotASnapshot)
fail_if R o s e n fault true is owned = finished_ok R o s (snapshot_ends s e n (code_of fault) None) never (ends_moved R o s e n (code_of fault) None owned is (fault_own fault))
fail_if R o s e n fault false is owned = stops_ok R o s (errors.Unfit unfit.NotASnapshot)

pub fail_ok : (R : Type 0) (o : Options) (s : Situation) (e : ℕ) (fault : Fault) (n : Option ℕ) → owned_by (slice_get s.exchanges e) ≡ n → TurnOk R o s (Rattle.core_law.specs.Run.fail o s e fault n)
fail_ok R o s e fault None owned = stops_ok R o s (errors.Unfit unfit.NotASnapshot)
fail_ok R o s e fault (Some n) owned = fail_if R o s e n fault (is_starting s.server.registry n) refl owned
