-- The moments of exchanges rise.
use Rattle.std.proofs.Common.{◌≡◌, ℕ, zero, suc, ◌≤◌, List, [], ◌∷◌, ◌++◌, map, refl, sym, ◌∙◌, ap, subst, arith, Bool, Option, None, Some}
use Rattle.std.specs.List.{AllByRecursion}
use Rattle.fold_client.specs.Following.{Heard}
use Rattle.core_law.specs.Situation.{Options, Server, Exchange, Situation, at_start}
use Rattle.core_law.specs.Steps.{change_at, settled_one, refused_at}
use Rattle.core_law.specs.Reached.{MomentsRise, ExchangesRise}
use Rattle.core_law.proofs.ExchangeSteps.{Comes, Steps, after_steps}
use Rattle.core_law.proofs.Turns.{all_one_more, all_to}

-- Moments rise, up to the clock.
abbrev Rise : List Exchange → ℕ → Type 0
Rise xs now = AllByRecursion (λ (x : Exchange). x.moment ≤ now) xs × MomentsRise xs

abbrev Rises : List Exchange → ℕ → List Exchange → ℕ → Type 0
Rises xs now ys later = Rise xs now → Rise ys later

-- ---- one more

rise_more : (xs : List Exchange) (x : Exchange) → AllByRecursion (λ (y : Exchange). y.moment ≤ x.moment) xs → MomentsRise xs → MomentsRise (xs ++ x ∷ [])
rise_more [] x h k = (tt, tt)
rise_more (y ∷ ys) x h k = (all_one_more (λ (z : Exchange). y.moment ≤ z.moment) ys x k.0 h.0, rise_more ys x h.1 k.1)

more : (o : Options) (xs : List Exchange) (now : ℕ) (x : Exchange) → Comes o now x → Rises xs now (xs ++ x ∷ []) now
more o xs now x is h = (
  all_one_more (λ (y : Exchange). y.moment ≤ now) xs x h.0 (let at = is.moment in omega (arith, at)),
  rise_more xs x (subst (λ m. AllByRecursion (λ (y : Exchange). y.moment ≤ m) xs) (sym is.moment) h.0) h.1,
)

-- ---- what keeps moments

abbrev moments : List Exchange → List ℕ
moments xs = map (λ (x : Exchange). x.moment) xs

all_same : (P : ℕ → Type 0) (xs ys : List Exchange) → moments xs ≡ moments ys → AllByRecursion (λ (x : Exchange). P x.moment) xs → AllByRecursion (λ (x : Exchange). P x.moment) ys
all_same P [] [] e h = tt
all_same P [] (y ∷ ys) e h = cc
all_same P (x ∷ xs) [] e h = cc
all_same P (x ∷ xs) (y ∷ ys) e h = let first : x.moment ≡ y.moment = cc in let rest : moments xs ≡ moments ys = cc in (subst P first h.0, all_same P xs ys rest h.1)

rise_same : (xs ys : List Exchange) → moments xs ≡ moments ys → MomentsRise xs → MomentsRise ys
rise_same [] [] e h = tt
rise_same [] (y ∷ ys) e h = cc
rise_same (x ∷ xs) [] e h = cc
rise_same (x ∷ xs) (y ∷ ys) e h = let first : x.moment ≡ y.moment = cc in let rest : moments xs ≡ moments ys = cc in
    (subst (λ m. AllByRecursion (λ (z : Exchange). m ≤ z.moment) ys) first (all_same (λ m. x.moment ≤ m) xs ys rest h.0), rise_same xs ys rest h.1)

rises_same : (xs ys : List Exchange) (now : ℕ) → moments xs ≡ moments ys → Rises xs now ys now
rises_same xs ys now e h = (all_same (λ m. m ≤ now) xs ys e h.0, rise_same xs ys e h.1)

settled_moment : (o : Options) (v : Server) (late : Exchange → Bool) (x : Exchange) (given : Option Heard) → (settled_one o v late x given).moment ≡ x.moment
settled_moment o v late x None = refl
settled_moment o v late x (Some h) = refl

moments_settled : (o : Options) (v : Server) (late : Exchange → Bool) (xs : List Exchange) → moments xs ≡ moments (map (λ x. settled_one o v late x x.given) xs)
moments_settled o v late [] = refl
moments_settled o v late (x ∷ xs) = ap (λ m. m ∷ moments xs) (sym (settled_moment o v late x x.given)) ∙ ap (λ ms. (settled_one o v late x x.given).moment ∷ ms) (moments_settled o v late xs)

moments_changed : (f : Exchange → Exchange) (xs : List Exchange) (i : ℕ) → ((x : Exchange) → x.moment ≡ (f x).moment) → moments xs ≡ moments (change_at f xs i)
moments_changed f [] i e = refl
moments_changed f (x ∷ xs) zero e = ap (λ m. m ∷ moments xs) (e x)
moments_changed f (x ∷ xs) (suc i) e = ap (λ ms. x.moment ∷ ms) (moments_changed f xs i e)

-- ---- runs

steps : (o : Options) → Steps o Rises
steps o = record {
  stays = λ xs now h. h;
  joins = λ xs ys zs a b c first second h. second (first h);
  comes = λ xs now x is h. more o xs now x is h;
  answers = λ xs now v late h. rises_same xs (map (λ x. settled_one o v late x x.given) xs) now (moments_settled o v late xs) h;
  refuses = λ xs now v code e h. rises_same xs (change_at (refused_at v code) xs e) now (moments_changed (refused_at v code) xs e (λ x. refl)) h;
  passes = λ xs now later le h. (all_to (λ (x : Exchange). x.moment ≤ now) (λ (x : Exchange). x.moment ≤ later) xs (λ x at. (omega (arith, at, le))) h.0, h.1);
}

pub exchanges_rise : ExchangesRise
exchanges_rise o s r = subst (λ (t : Situation). MomentsRise t.exchanges) (sym r.is) (after_steps o Rises (steps o) at_start r.events (tt, tt)).1
