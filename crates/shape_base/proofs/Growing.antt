-- Each log is a front of the later ones, and the point never falls.
use Rattle.std.proofs.Common.{◌≡◌, ℕ, zero, suc, ◌-◌, ◌≤◌, Bool, true, false, List, [], ◌∷◌, ◌++◌, take, drop, refl, sym, ◌∙◌, ap, subst, arith, append_assoc}
use Rattle.std.specs.Bool.{if◌then◌else◌}
use Rattle.std.specs.List.{list_any}
use Rattle.shape_base.specs.declared.entry.Entry.{Entry}
use Rattle.shape_base.specs.declared.history.Step.{Step}
use Rattle.shape_base.specs.declared.history.Step.TheVariants.{Commit, Define}
use Rattle.shape_base.specs.declared.history.History.{History}
use Rattle.shape_base.specs.Tables.{Table, changes_of}
use Rattle.shape_base.specs.Shape.{Knows, stops, shown}
use Rattle.shape_base.specs.Log.{later, log_of, start_from, step_of, IsFront}
use Rattle.shape_base.specs.Laws.{LogGrows, PointRises}
use Rattle.shape_base.proofs.LogLaw.{drop-take_more}

front_both : (es fs gs : List Entry) → IsFront gs fs → IsFront (es ++ gs) (es ++ fs)
front_both es fs gs h = record { more = h.more; is = ap (λ xs. es ++ xs) h.is ∙ sym (append_assoc es gs h.more) }

front_if : (b : Bool) (es fs gs : List Entry) → IsFront gs fs → IsFront (if b then [] else es ++ gs) (if b then [] else es ++ fs)
front_if true es fs gs h = record { more = []; is = refl }
front_if false es fs gs h = front_both es fs gs h

later_front : (s : Knows) (ss : List Step) (m : ℕ) → IsFront (later s (take m ss)) (later s ss)
later_front s [] zero = record { more = []; is = refl }
later_front s [] (suc m) = record { more = []; is = refl }
later_front s (x ∷ ss) zero = record { more = later s (x ∷ ss); is = refl }
later_front s (Commit tx ∷ ss) (suc m) = front_if (list_any (stops s) (changes_of s.definition.table tx)) _ _ _ (later_front s ss m)
later_front s (Define d rows ∷ ss) (suc m) = later_front s ss m

take_both : (a b : ℕ) (ss : List Step) → a ≤ b → take a (take b ss) ≡ take a ss
take_both zero b ss h = refl
take_both (suc a) zero ss h = absurd (omega (arith, h))
take_both (suc a) (suc b) [] h = refl
take_both (suc a) (suc b) (x ∷ ss) h = ap (λ xs. x ∷ xs) (take_both a b ss (omega (arith, h)))

step_less : (ss : List Step) (m n : ℕ) → m ≤ n → step_of ss m ≤ step_of ss n
step_less ss zero n h = omega arith
step_less ss (suc m) zero h = absurd (omega (arith, h))
step_less [] (suc m) (suc n) h = omega arith
step_less (Commit tx ∷ ss) (suc m) (suc n) h = let le = step_less ss m n (omega (arith, h)) in omega (arith, le)
step_less (Define d rows ∷ ss) (suc m) (suc n) h = let le = step_less ss (suc m) (suc n) h in omega (arith, le)

pub point_rises : PointRises
point_rises h s k m n le = let steps = step_less h.steps m n le in omega (arith, steps)

later_cut : (h : History) (s : Knows) (k n : ℕ) → later s (drop k (take (step_of h.steps n) h.steps)) ≡ later s (take (step_of h.steps n - k) (drop k h.steps))
later_cut h s k n = ap (later s) (drop-take_more k (step_of h.steps n) h.steps)

-- all entries that a shape's log can have
pub log_front : (h : History) (s : Knows) (snapshot : Table) (k n : ℕ) → IsFront (log_of h s snapshot k n) (start_from 1 (shown s snapshot) ++ later s (drop k h.steps))
log_front h s snapshot k n = front_both (start_from 1 (shown s snapshot)) _ _ (subst (λ es. IsFront es (later s (drop k h.steps))) (sym (later_cut h s k n)) (later_front s (drop k h.steps) (step_of h.steps n - k)))

pub log_grows : LogGrows
log_grows h s snapshot k m n le =
    let steps = step_less h.steps m n le in
    let a = step_of h.steps m - k in
    let b = step_of h.steps n - k in
    let less : step_of h.steps m - k ≤ step_of h.steps n - k = omega (arith, steps) in
    front_both (start_from 1 (shown s snapshot)) _ _
    (subst (λ es. IsFront (later s (drop k (take (step_of h.steps m) h.steps))) es) (sym (later_cut h s k n))
    (subst (λ es. IsFront es (later s (take b (drop k h.steps)))) (ap (later s) (take_both a b (drop k h.steps) less) ∙ sym (later_cut h s k m))
    (later_front s (take b (drop k h.steps)) a)))
