-- What exchanges keep in their places, whatever happens, and that a snapshot stays begun, or refused.
use Rattle.std.proofs.Common.{◌≡◌, ℕ, zero, suc, ◌≤◌, Bool, List, [], ◌∷◌, ◌++◌, length, map, refl, sym, ap, subst, ◌∙◌, arith, Option, None, Some}
use Rattle.std.specs.Prelude.{slice_get, IsSomeAnd}
use Rattle.std.specs.Option.{option_map}
use Rattle.std.proofs.lemmas.Option.{slice_get-map}
use Rattle.shape_base.specs.declared.change.Tx.{Tx}
use Rattle.shape_json.specs.ShapeHistory.{Reader}
use Rattle.http_edge.specs.declared.error_code.ErrorCode.{ErrorCode}
use Rattle.fold_client.specs.Following.{Heard}
use Rattle.core_law.specs.Situation.{Options, Server, Role, Exchange, Situation, at_start}
use Rattle.core_law.specs.Steps.{change_at, settled_one, refused_at, owned_in, owned_by, id_before}
use Rattle.core_law.specs.Run.{Event, turn_of, next_of, after}
use Rattle.core_law.proofs.ExchangeSteps.{Steps, after_steps}
use Rattle.core_law.proofs.Lemmas.{place_stays, after_one_more}
use Rattle.core_law.proofs.Reaching.{reached_sound}
use Rattle.core_law.proofs.ServerSteps.{id_stays}
use Rattle.core_law.proofs.Whole.{after_extends}
use Rattle.core_server.specs.SnapshotLaws.{StaysUnderWay}
use Rattle.core_server.specs.Snapshots.{refusal_in, IsUnderWay}
use Rattle.core_machine.specs.Snapshots.{SnapshotsStay, RefusalsStay, ExchangesStay}

-- ---- small facts

pub some_in : {A : Type 0} {Q : A → Type 0} {P : Type 0} (a : Option A) → IsSomeAnd a Q → ((x : A) → a ≡ Some x → Q x → P) → P
some_in None h go = absurd h
some_in (Some x) h go = go x refl h

pub some_weaker : {A : Type 0} {P Q : A → Type 0} (a : Option A) → ((x : A) → P x → Q x) → IsSomeAnd a P → IsSomeAnd a Q
some_weaker None step h = absurd h
some_weaker (Some x) step h = step x h

-- ---- a field that no event changes

-- each has the same in its place
abbrev pub Keep : {A : Type 0} → (Exchange → A) → List Exchange → List Exchange → Type 0
Keep f xs ys = (i : ℕ) (x : Exchange) → slice_get xs i ≡ Some x → IsSomeAnd (slice_get ys i) (λ y. f y ≡ f x)

pub keep_same : {A : Type 0} (f : Exchange → A) (xs : List Exchange) → Keep f xs xs
keep_same f xs i x at = subst (λ (a : Option Exchange). IsSomeAnd a (λ (y : Exchange). f y ≡ f x)) (sym at) refl

module _ (A : Type 0) (f : Exchange → A) (settles : (o : Options) (v : Server) (late : Exchange → Bool) (x : Exchange) (g : Option Heard) → f (settled_one o v late x g) ≡ f x) (refuses : (v : Server) (code : ErrorCode) (x : Exchange) → f (refused_at v code x) ≡ f x) where
  keep_join : (xs ys zs : List Exchange) → Keep f xs ys → Keep f ys zs → Keep f xs zs
  keep_join xs ys zs h k i x at = some_in (slice_get ys i) (h i x at) (λ y there same. some_weaker (slice_get zs i) (λ z is. is ∙ same) (k i y there))

  keep_more : (xs : List Exchange) (y : Exchange) → Keep f xs (xs ++ y ∷ [])
  keep_more xs y i x at = subst (λ (a : Option Exchange). IsSomeAnd a (λ (z : Exchange). f z ≡ f x)) (sym (place_stays xs (y ∷ []) i x at)) refl

  keep_settled : (o : Options) (v : Server) (late : Exchange → Bool) (xs : List Exchange) → Keep f xs (map (λ (x : Exchange). settled_one o v late x x.given) xs)
  keep_settled o v late xs i x at = subst (λ (a : Option Exchange). IsSomeAnd a (λ (y : Exchange). f y ≡ f x))
      (sym (slice_get-map (λ (y : Exchange). settled_one o v late y y.given) xs i ∙ ap (option_map (λ (y : Exchange). settled_one o v late y y.given)) at)) (settles o v late x x.given)

  keep_changed : (g : Exchange → Exchange) → ((x : Exchange) → f (g x) ≡ f x) → (xs : List Exchange) (e : ℕ) → Keep f xs (change_at g xs e)
  keep_changed g keeps [] e i x at = cc
  keep_changed g keeps (y ∷ ys) zero zero x at = let same : y ≡ x = cc in keeps y ∙ ap f same
  keep_changed g keeps (y ∷ ys) zero (suc i) x at = keep_same f ys i x at
  keep_changed g keeps (y ∷ ys) (suc e) zero x at = let same : y ≡ x = cc in ap f same
  keep_changed g keeps (y ∷ ys) (suc e) (suc i) x at = keep_changed g keeps ys e i x at

  abbrev KeepAs : List Exchange → ℕ → List Exchange → ℕ → Type 0
  KeepAs xs now ys later = Keep f xs ys

  steps : (o : Options) → Steps o KeepAs
  steps o = record {
    stays = λ xs now. keep_same f xs;
    joins = λ xs ys zs a b c h k. keep_join xs ys zs h k;
    comes = λ xs now x is. keep_more xs x;
    answers = λ xs now v late. keep_settled o v late xs;
    refuses = λ xs now v code e. keep_changed (refused_at v code) (refuses v code) xs e;
    passes = λ xs now later le. keep_same f xs;
  }

  pub keep_next : (o : Options) (s : Situation) (ev : Event) → Keep f s.exchanges (next_of s (turn_of o s ev)).exchanges
  keep_next o s ev = after_steps o KeepAs (steps o) s (ev ∷ [])

-- whether their connections end with the replies
settled_close : (o : Options) (v : Server) (late : Exchange → Bool) (x : Exchange) (g : Option Heard) → (settled_one o v late x g).close ≡ x.close
settled_close o v late x None = refl
settled_close o v late x (Some h) = refl

pub closes_next : (o : Options) (s : Situation) (ev : Event) → Keep (λ (x : Exchange). x.close) s.exchanges (next_of s (turn_of o s ev)).exchanges
closes_next o s ev = keep_next Bool (λ (x : Exchange). x.close) settled_close (λ v code x. refl) o s ev

-- and their roles
settled_role : (o : Options) (v : Server) (late : Exchange → Bool) (x : Exchange) (g : Option Heard) → (settled_one o v late x g).role ≡ x.role
settled_role o v late x None = refl
settled_role o v late x (Some h) = refl

pub roles_next : (o : Options) (s : Situation) (ev : Event) → Keep (λ (x : Exchange). x.role) s.exchanges (next_of s (turn_of o s ev)).exchanges
roles_next o s ev = keep_next Role (λ (x : Exchange). x.role) settled_role (λ v code x. refl) o s ev

-- so none is taken away
no_fewer : {A : Type 0} (f : Exchange → A) (xs ys : List Exchange) → Keep f xs ys → length xs ≤ length ys
no_fewer f [] ys keep = omega arith
no_fewer f (x ∷ xs) [] keep = absurd (keep zero x refl)
no_fewer f (x ∷ xs) (y ∷ ys) keep = let rest = no_fewer f xs ys (λ i. keep (suc i)) in omega (arith, rest)

pub exchanges_stay : ExchangesStay
exchanges_stay o s ev = no_fewer (λ (x : Exchange). x.role) s.exchanges (next_of s (turn_of o s ev)).exchanges (roles_next o s ev)

-- ---- a snapshot that has begun, or is refused

pub owned_stays : (xs ys : List Exchange) (e n : ℕ) → Keep (λ (x : Exchange). x.role) xs ys → owned_by (slice_get xs e) ≡ Some n → owned_by (slice_get ys e) ≡ Some n
owned_stays xs ys e n keep owned = pick (slice_get xs e) refl owned
  where
    pick : (a : Option Exchange) → slice_get xs e ≡ a → owned_by a ≡ Some n → owned_by (slice_get ys e) ≡ Some n
    pick None at is = cc
    pick (Some x) at is = some_in (slice_get ys e) (keep e x at) (λ y there same. ap owned_by there ∙ ap owned_in same ∙ is)

pub snapshots_stay : StaysUnderWay → SnapshotsStay
snapshots_stay stay o s ev e head rows snap start reached b =
    let next = next_of s (turn_of o s ev) in
    let es = reached.events in
    let next_is : after o at_start (es ++ ev ∷ []) ≡ next = after_one_more o at_start es ev ∙ ap (λ (t : Situation). next_of t (turn_of o t ev)) (sym reached.is) in
    let g = (after_extends o s (ev ∷ [])).shapes b.number b.shape b.at in
    record {
      number = b.number;
      shape = g.now;
      owns = owned_stays s.exchanges next.exchanges e b.number (roles_next o s ev) b.owns;
      at = g.there;
      under_way = subst (λ (t : Situation). IsUnderWay o t.server.commits g.now head rows snap) next_is
          (stay o es (ev ∷ []) b.number b.shape g.now head rows snap start
          (subst (λ (t : Situation). Rattle.core_law.specs.Situation.shape_at t.server.shapes b.number ≡ Some b.shape) reached.is b.at)
          (subst (λ (t : Situation). Rattle.core_law.specs.Situation.shape_at t.server.shapes b.number ≡ Some g.now) (sym next_is) g.there)
          (subst (λ (t : Situation). IsUnderWay o t.server.commits b.shape head rows snap) reached.is b.under_way));
    }

pub refusals_stay : RefusalsStay
refusals_stay o s ev e head rows error start reached r =
    let next = next_of s (turn_of o s ev) in
    let on = after_extends o s (ev ∷ []) in
    let g = on.shapes r.number r.shape r.at in
    let within = ((reached_sound o s start reached).shapes r.number r.shape r.at).before in
    record {
      number = r.number;
      shape = g.now;
      owns = owned_stays s.exchanges next.exchanges e r.number (roles_next o s ev) r.owns;
      at = g.there;
      refused = ap (λ (reader : Reader). refusal_in reader o.limits (id_before next.server.commits g.now.before) head rows) g.alike.reader
          ∙ ap (λ last. refusal_in r.shape.reader o.limits last head rows)
          (ap (id_before next.server.commits) g.alike.before ∙ ap (λ (txs : List Tx). id_before txs r.shape.before) on.commits ∙ id_stays s.server.commits on.txs r.shape.before within)
          ∙ r.refused;
    }
