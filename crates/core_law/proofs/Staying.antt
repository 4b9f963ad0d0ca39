-- A reply that was given stays as it is.
use Rattle.std.proofs.Common.{◌≡◌, ℕ, zero, suc, Bool, List, [], ◌∷◌, ◌++◌, map, refl, sym, ◌∙◌, ap, subst, Option, None, Some, inl, inr}
use Rattle.std.specs.List.{slice_get}
use Rattle.std.specs.Option.{option_or}
use Rattle.std.specs.Prelude.{IsSomeAnd}
use Rattle.http_edge.specs.declared.error_code.ErrorCode.{ErrorCode}
use Rattle.fold_client.specs.Following.{Heard}
use Rattle.core_law.specs.Situation.{Options, Server, Exchange, at_start}
use Rattle.core_law.specs.Steps.{change_at, settled_one, refused_at}
use Rattle.core_law.specs.Run.{after}
use Rattle.core_law.specs.Laws.{StaysGiven, RepliesStay}
use Rattle.core_law.proofs.Lists.{changed_forth, place_stays}
use Rattle.core_law.proofs.ExchangeSteps.{Steps, after_steps}
use Rattle.core_law.proofs.Runs.{after_both}

-- ---- one list of exchanges after the other

-- what stands in a place later: the same reply, where there was one
pub record Later (x : Exchange) (found : Option Exchange) : Type 0 where
  pub now : Exchange
  pub there : found ≡ Some now
  pub same : (heard : Heard) → x.given ≡ Some heard → now.given ≡ Some heard

abbrev Stay : List Exchange → List Exchange → Type 0
Stay xs ys = (e : ℕ) (x : Exchange) → slice_get xs e ≡ Some x → Later x (slice_get ys e)

stay_same : (xs : List Exchange) → Stay xs xs
stay_same xs e x at = record { now = x; there = at; same = λ heard h. h }

stay_trans : (xs ys zs : List Exchange) → Stay xs ys → Stay ys zs → Stay xs zs
stay_trans xs ys zs a b e x at = let f = a e x at in let g = b e f.now f.there in record { now = g.now; there = g.there; same = λ heard h. g.same heard (f.same heard h) }

stay_more : (xs : List Exchange) (y : Exchange) → Stay xs (xs ++ y ∷ [])
stay_more xs y e x at = record { now = x; there = place_stays xs (y ∷ []) e x at; same = λ heard h. h }

mapped_at : (f : Exchange → Exchange) (xs : List Exchange) (e : ℕ) (x : Exchange) → slice_get xs e ≡ Some x → slice_get (map f xs) e ≡ Some (f x)
mapped_at f [] e x at = cc
mapped_at f (y ∷ xs) zero x at = let same : y ≡ x = cc in ap (λ z. Some (f z)) same
mapped_at f (y ∷ xs) (suc e) x at = mapped_at f xs e x at

one_stays : (o : Options) (v : Server) (late : Exchange → Bool) (x : Exchange) (given : Option Heard) (heard : Heard) → given ≡ Some heard → x.given ≡ Some heard → (settled_one o v late x given).given ≡ Some heard
one_stays o v late x None heard e h = cc
one_stays o v late x (Some other) heard e h = h

stay_settled : (o : Options) (v : Server) (late : Exchange → Bool) (xs : List Exchange) → Stay xs (map (λ x. settled_one o v late x x.given) xs)
stay_settled o v late xs e x at = record { now = settled_one o v late x x.given; there = mapped_at (λ x. settled_one o v late x x.given) xs e x at; same = λ heard h. one_stays o v late x x.given heard h h }

option_stays : (given other : Option Heard) (heard : Heard) → given ≡ Some heard → option_or given other ≡ Some heard
option_stays None other heard e = cc
option_stays (Some x) other heard e = e

changed_stays : (f : Exchange → Exchange) (xs : List Exchange) (i : ℕ) → ((x : Exchange) (heard : Heard) → x.given ≡ Some heard → (f x).given ≡ Some heard) → Stay xs (change_at f xs i)
changed_stays f xs i keeps e x at = let g = changed_forth f xs i e x at in record { now = g.now; there = g.there; same = λ heard h. elim g.same_or [ inl same ↦ ap (λ (z : Exchange). z.given) same ∙ h | inr new ↦ ap (λ (z : Exchange). z.given) new ∙ keeps x heard h ] }

-- ---- runs

refuses : (v : Server) (code : ErrorCode) (x : Exchange) (heard : Heard) → x.given ≡ Some heard → (refused_at v code x).given ≡ Some heard
refuses v code x heard h = option_stays x.given _ heard h

abbrev StayAs : List Exchange → ℕ → List Exchange → ℕ → Type 0
StayAs xs now ys later = Stay xs ys

steps : (o : Options) → Steps o StayAs
steps o = record {
  stays = λ xs now. stay_same xs;
  joins = λ xs ys zs a b c h k. stay_trans xs ys zs h k;
  comes = λ xs now x is. stay_more xs x;
  answers = λ xs now v late. stay_settled o v late xs;
  refuses = λ xs now v code e. changed_stays (refused_at v code) xs e (refuses v code);
  passes = λ xs now later le. stay_same xs;
}

some_later : (found : Option Exchange) (x : Exchange) (given : Option Heard) → x.given ≡ given → Later x found → StaysGiven given found
some_later found x None e l = tt
some_later found x (Some heard) e l = subst (λ f. IsSomeAnd f (λ x. x.given ≡ Some heard)) (sym l.there) (l.same heard e)

pub replies_stay : RepliesStay
replies_stay o es fs e x at = subst (λ s. StaysGiven x.given (slice_get s.exchanges e)) (sym (after_both o at_start es fs)) (some_later _ x x.given refl (after_steps o StayAs (steps o) (after o at_start es) fs e x at))
