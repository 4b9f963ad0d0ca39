-- The bytes of all logs.
use Rattle.std.proofs.Common.{◌≡◌, ℕ, zero, suc, ◌+◌, ◌≤◌, true, List, [], ◌∷◌, refl, ap, arith, Option, None, Some}
use Rattle.std.specs.Prelude.{is_some}
use Rattle.std.specs.Prelude.{map}
use Rattle.std.specs.List.{slice_get}
use Rattle.std.proofs.lemmas.List.Sums.{sum_by-cons}
use Rattle.shape_base.specs.declared.cause.Cause.{Cause}
use Rattle.shape_base.specs.Snapshot.{Snapshot}
use Rattle.shape_json.specs.ShapeHistory.{Reader, ShapeEvent, ShapeState, Starting, Ready, Gone, snapshot_in, drop_of, state_by}
use Rattle.shape_state.specs.Answers.{log_bytes}
use Rattle.core_law.specs.Situation.{Options, Shape, shape_at}
use Rattle.core_law.specs.Steps.{change_at, change_shape, bytes_in, bytes_kept, all_bytes}

-- the bytes of a log, in the words of a shape
pub log_bytes_is : (s : ShapeState) → log_bytes s ≡ bytes_in s
log_bytes_is (Starting buffer) = refl
log_bytes_is (Ready log) = refl
log_bytes_is (Gone cause) = refl

no_bytes_by : (r : Reader) (o : Option Cause) (snapshot : Option Snapshot) (events : List ShapeEvent) → is_some o ≡ true → bytes_in (state_by r o snapshot events) ≡ 0
no_bytes_by r None snapshot events h = cc
no_bytes_by r (Some cause) snapshot events h = refl

-- a shape that is dropped has none
pub no_bytes : (o : Options) (x : Shape) → is_some (drop_of x.reader o.limits x.events) ≡ true → bytes_kept o x ≡ 0
no_bytes o x h = no_bytes_by x.reader (drop_of x.reader o.limits x.events) (snapshot_in x.events) x.events h

pub all_with : (o : Options) (y : Shape) (xs : List Shape) → all_bytes o (y ∷ xs) ≡ bytes_kept o y + all_bytes o xs
all_with o y xs = sum_by-cons (λ n. n) (bytes_kept o y) (map (bytes_kept o) xs)

changed_by : (o : Options) (f : Shape → Shape) (xs : List Shape) (i : ℕ) (x : Shape) → slice_get xs i ≡ Some x → all_bytes o (change_at f xs i) + bytes_kept o x ≡ all_bytes o xs + bytes_kept o (f x)
changed_by o f [] i x h = cc
changed_by o f (y ∷ xs) zero x h = let e : y ≡ x = cc in let b : bytes_kept o y ≡ bytes_kept o x = ap (bytes_kept o) e in let c : bytes_kept o (f y) ≡ bytes_kept o (f x) = ap (λ z. bytes_kept o (f z)) e in let p = all_with o y xs in let q = all_with o (f y) xs in omega (arith, b, c, p, q)
changed_by o f (y ∷ xs) (suc i) x h = let r = changed_by o f xs i x h in let p = all_with o y xs in let q = all_with o y (change_at f xs i) in omega (arith, r, p, q)

-- where one shape changes, the sum changes by its bytes
pub bytes_changed : (o : Options) (f : Shape → Shape) (xs : List Shape) (n : ℕ) (x : Shape) → shape_at xs n ≡ Some x → all_bytes o (change_shape f xs n) + bytes_kept o x ≡ all_bytes o xs + bytes_kept o (f x)
bytes_changed o f xs zero x h = cc
bytes_changed o f xs (suc i) x h = changed_by o f xs i x h

among_all : (o : Options) (xs : List Shape) (i : ℕ) (x : Shape) → slice_get xs i ≡ Some x → bytes_kept o x ≤ all_bytes o xs
among_all o [] i x h = cc
among_all o (y ∷ xs) zero x h = let e : y ≡ x = cc in let b : bytes_kept o y ≡ bytes_kept o x = ap (bytes_kept o) e in let p = all_with o y xs in omega (arith, b, p)
among_all o (y ∷ xs) (suc i) x h = let r = among_all o xs i x h in let p = all_with o y xs in omega (arith, r, p)

-- one log has at most as many as all have
pub bytes_among : (o : Options) (xs : List Shape) (n : ℕ) (x : Shape) → shape_at xs n ≡ Some x → bytes_kept o x ≤ all_bytes o xs
bytes_among o xs zero x h = cc
bytes_among o xs (suc i) x h = among_all o xs i x h
