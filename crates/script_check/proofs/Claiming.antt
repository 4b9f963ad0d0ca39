-- Snapshots, one after the other.
use Rattle.std.proofs.Common.{◌≡◌, ℕ, ◌+◌, ◌<◌, ◌++◌, ◌∷◌, [], List, length, take, get_or, sym, ◌∙◌, ap, subst, arith}
use Rattle.std.specs.List.{AllByRecursion}
use Rattle.std.proofs.lemmas.List.{take_more, length-map, take_all}
use Rattle.std.proofs.lemmas.List.FromFn.{length-range_with_len}
use Rattle.shape_base.specs.declared.definition.TableDef.{TableDef}
use Rattle.shape_base.specs.declared.history.History.{History}
use Rattle.shape_base.specs.Tables.{IsGoodHistory}

all_push : {A : Type 0} (P : A → Type 0) (xs : List A) (x : A) → AllByRecursion P xs → P x → AllByRecursion P (xs ++ x ∷ [])
all_push P [] x all here = (here, tt)
all_push P (y ∷ xs) x all here = (all.0, all_push P xs x all.1 here)

-- one more of which it holds
pub all_passed : {A : Type 0} (P : A → Type 0) (xs : List A) (i : ℕ) (x : A) → i < length xs → x ≡ get_or xs i x → P x → AllByRecursion P (take i xs) → AllByRecursion P (take (i + 1) xs)
all_passed {A} P xs i x lt is here before = subst (AllByRecursion P) (sym (take_more xs i x lt ∙ ap (λ (y : A). take i xs ++ y ∷ []) (sym is))) (all_push P (take i xs) x before here)

pub all_of_them : {A : Type 0} (P : A → Type 0) (xs : List A) (n : ℕ) → n ≡ length xs → AllByRecursion P (take n xs) → AllByRecursion P xs
all_of_them P xs n e before = subst (AllByRecursion P) (ap (λ (m : ℕ). take m xs) e ∙ take_all (length xs) xs (omega arith)) before

pub defs_as_many : (h : History) → IsGoodHistory h → length h.defs ≡ length h.tables
defs_as_many h good = sym (length-map h.defs (λ (d : TableDef). d.table)) ∙ ap length good.placed ∙ length-range_with_len 0 (length h.tables)
