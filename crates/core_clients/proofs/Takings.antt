-- A client that takes a reply.
use Rattle.std.proofs.Common.{◌≡◌, ℕ, Bool, true, false, if◌then◌else◌, List, length, ◌≤◌, Result, Ok, Err, OnErr, refl, sym, ap, ◌∙◌, subst, Option, None, Some, is_some}
use Rattle.std.specs.Prelude.{slice_get, slice_set}
use Rattle.shape_base.specs.declared.offset.Offset.{Offset}
use Rattle.shape_base.specs.declared.entry.Entry.{Entry}
use Rattle.shape_base.specs.declared.handle.Handle.{Handle}
use Rattle.shape_base.specs.declared.reply.Reply.{Reply}
use Rattle.shape_base.specs.Shape.{Map}
use Rattle.shape_base.specs.Log.{fold_from, first_fault}
use Rattle.fold_client.specs.declared.body.Body.{Body}
use Rattle.fold_client.specs.Following.{Heard, start}
use Rattle.fold_client.specs.Taking.{held_by}
use Rattle.core_law.specs.Situation.{Customer, held_of}
use Rattle.core_law.specs.Steps.{change_at}
use Rattle.core_law.specs.Clients.{took_one}
use Rattle.core_clients.specs.declared.follower.Follower.{Follower}
use Rattle.core_clients.specs.declared.follower.Received.{Received}
use Rattle.core_clients.specs.Standing.{StandsFor, EachStands}
use Rattle.core_clients.specs.Taking.{IsReceived, after_of, IsReceivedBy, IsHeard, SparesOrTook, EachSpared}
use Rattle.core_clients.specs.Following.{TookIt, LostIt}
use Rattle.core_clients.proofs.Standings.{followed_last, StandsThere, stands_there, stands_at, stands_changed, each_spared, stands_past, no_customer}
use Rattle.fold_client.specs.Client.{Held, UpToDate, ServerRefused, BadReply, ForeignHandle, After, refused, refetched, fault_at, is_bad, same_handle, comes_back, with_rows, with_handle, with_parts, take_reply, Says}

-- up to date only with a handle
abbrev pub HasHandle : After → Type 0
HasHandle a = a.outcome ≡ UpToDate → is_some a.held.handle ≡ true

either : (b : Bool) (x y : After) → HasHandle x → HasHandle y → HasHandle (if b then x else y)
either true x y h k = h
either false x y h k = k

at_fault : (c : Held) (e : Option Entry) → HasHandle (refused c (fault_at e))
at_fault c None h = cc
at_fault c (Some e) h = cc

at_rows : (c : Held) (h : Handle) (end : Offset) (cursor : Option ℕ) (body : Body) (rows : Option Map) → HasHandle (with_rows c h end cursor body rows)
at_rows c h end cursor body None = at_fault c (first_fault body.entries c.rows)
at_rows c h end cursor body (Some rows) = λ e. refl

at_foreign : (c : Held) (asked got : Handle) → HasHandle (refused c (ForeignHandle asked got))
at_foreign c asked got e = cc

at_handle : (c : Held) (present : Option Handle) (h : Handle) (end : Offset) (cursor : Option ℕ) (body : Body) → HasHandle (with_handle c present h end cursor body)
at_handle c None h end cursor body = at_rows c h end cursor body (fold_from body.entries c.rows)
at_handle c (Some asked) h end cursor body = either (same_handle asked h) _ _ (at_rows c h end cursor body (fold_from body.entries c.rows)) (at_foreign c asked h)

at_bad : (c : Held) → HasHandle (refused c BadReply)
at_bad c e = cc

at_parts : (c : Held) (cursor : Option ℕ) (h : Option Handle) (end : Option Offset) (body : Option Body) → HasHandle (with_parts c cursor h end body)
at_parts c cursor None end body = at_bad c
at_parts c cursor (Some h) None body = at_bad c
at_parts c cursor (Some h) (Some end) None = at_bad c
at_parts c cursor (Some h) (Some end) (Some body) = either (is_bad c.offset end cursor body) _ _ (at_bad c) (at_handle c c.handle h end cursor body)

at_refetch : (c : Held) (named : Option Handle) → HasHandle (refetched c named)
at_refetch c named e = cc

at_status : (c : Held) (status : ℕ) → HasHandle (refused c (ServerRefused status))
at_status c status e = cc

has_handle : (c : Held) (reply : Reply) (body : Option Body) → HasHandle (take_reply c reply body)
has_handle c reply body = either _ _ _ (at_refetch c reply.handle) (either _ _ _ (either (comes_back c.handle c.left reply.handle) _ _ (at_refetch c None) (at_parts c reply.cursor reply.handle reply.offset body)) (at_status c reply.status))

pub handle_there : (c now : Held) (reply : Reply) (body : Option Body) → take_reply c reply body ≡ record { held = now; outcome = UpToDate } → is_some now.handle ≡ true
handle_there c now reply body e = subst (λ (a : After). is_some a.held.handle ≡ true) e (has_handle c reply body (ap (λ (a : After). a.outcome) e))

-- up to date, and the block of what is held is put out
pub up_to_date_took : (n : ℕ) (before now : Held) (reply : Reply) (r : Received) → ((body : Option Body) → Says reply.body body → take_reply before reply body ≡ record { held = now; outcome = UpToDate })
    → (is_some now.handle ≡ true → IsReceived n (record { held = now; outcome = UpToDate }) r) → TookIt n before reply now r
up_to_date_took n before now reply r meets block body says =
    let e = meets body says in
    (subst (λ (a : After). IsReceived n a r) (sym e) (block (handle_there before now reply body e)), sym (ap (λ (a : After). a.held) e))

-- ---- a client that stands for a customer takes a reply

-- it took the reply and waits no longer
pub record HasTaken (n : ℕ) (reply : Reply) (f g : Follower) (r : Received) : Type 0 where
  pub took : TookIt n (held_by f.client) reply (held_by g.client) r
  pub query : g.client.query ≡ f.client.query
  pub waiting : g.waiting ≡ None

-- it was to take the reply, and memory was wanted
pub record HasLost (reply : Reply) (f g : Follower) : Type 0 where
  pub lost : LostIt (held_by f.client) reply (held_by g.client)
  pub query : g.client.query ≡ f.client.query
  pub waiting : g.waiting ≡ f.waiting

-- what it makes of the reply is what the customer makes of it
same_after : (reply : Reply) (f : Follower) (c : Customer) (h : Heard) → StandsFor f c → IsHeard reply h → take_reply (held_by f.client) reply h.body ≡ after_of c h
same_after reply f c h stands heard = ap (λ (x : Held). take_reply x reply h.body) stands.held ∙ ap (λ (x : Reply). take_reply (held_of c) x h.body) (sym heard.reply_is)

held_then : (c : Customer) (h : Heard) → (after_of c h).held ≡ held_of (took_one h c)
held_then c h = ap (λ x. x.held) (sym (followed_last start c.took h))

received_by : (n : ℕ) (h : Heard) (f : Follower) (r : Received) (o : Option Customer) → StandsThere (Some f) o → ((c : Customer) → StandsFor f c → IsReceived n (after_of c h) r) → IsReceivedBy n h o (Some r)
received_by n h f r None stands k = absurd stands
received_by n h f r (Some c) stands k = k c stands

pub takes_reply : (fs : List Follower) (n : ℕ) (reply : Reply) (f g : Follower) (r : Received) → slice_get fs n ≡ Some f → HasTaken n reply f g r
    → (cs : List Customer) (h : Heard) → EachStands fs cs → IsHeard reply h → IsReceivedBy n h (slice_get cs n) (Some r) × EachStands (slice_set fs n g) (change_at (took_one h) cs n)
takes_reply fs n reply f g r is taken cs h stands heard =
    let took = taken.took h.body heard.says in (
      received_by n h f r (slice_get cs n) (subst (λ (o : Option Follower). StandsThere o (slice_get cs n)) is (stands_there fs cs n stands))
          (λ c one. subst (λ (a : After). IsReceived n a r) (same_after reply f c h one heard) took.0),
      stands_changed (took_one h) g fs cs n stands (λ c at. let one = stands_at fs cs n f c stands is at in record {
        query = taken.query ∙ one.query;
        held = took.1 ∙ ap (λ (a : After). a.held) (same_after reply f c h one heard) ∙ held_then c h;
        waiting = taken.waiting;
      }),
    )

pub no_taker : (fs : List Follower) (n : ℕ) → length fs ≤ n → (cs : List Customer) (h : Heard) → EachStands fs cs → IsReceivedBy n h (slice_get cs n) None × EachStands fs (change_at (took_one h) cs n)
no_taker fs n past cs h stands = (subst (λ (o : Option Customer). IsReceivedBy n h o None) (sym (no_customer fs cs n stands past)) tt, stands_past (took_one h) fs cs n stands past)

pub loses_reply : (fs : List Follower) (n : ℕ) (reply : Reply) (f g : Follower) → slice_get fs n ≡ Some f → HasLost reply f g
    → (cs : List Customer) (h : Heard) → EachStands fs cs → IsHeard reply h → EachSpared h (slice_set fs n g) cs n
loses_reply fs n reply f g is lost cs h stands heard = each_spared h g fs cs n stands (λ c at. let one = stands_at fs cs n f c stands is at in record {
  query = lost.query ∙ one.query;
  held = subst (λ (a : After). SparesOrTook (held_of c) a (held_by g.client)) (same_after reply f c h one heard) (subst (λ (x : Held). SparesOrTook x (take_reply (held_by f.client) reply h.body) (held_by g.client)) one.held (lost.lost h.body heard.says));
  waiting = lost.waiting ∙ one.waiting;
})

pub at_error : {A E : Type 0} (r : Result A E) (P : Type 0) → P → OnErr r P
at_error (Ok x) P h = tt
at_error (Err e) P h = h
