-- What follows where a choice came out so.
use Rattle.std.proofs.Common.{◌≡◌, ℕ, eqb, cond, List, length, Option, Some, None, Result, Ok, refl, sym, subst, inl, inr}
use Rattle.std.specs.Option.{option_map, option_and_then}
use Rattle.std.proofs.lemmas.Bool.{eqb-true}
use Rattle.byte_format.proofs.Codec.{chosen}
use Rattle.script.specs.declared.fault.RecordError.{RecordError}
use Rattle.script.specs.Records.{read_or_bad, if_empty}

pub some_is : {A : Type 0} (x y : A) → Some x ≡ Some y → x ≡ y
some_is x y e = cc

abbrev answered : {A : Type 0} → A → Result A RecordError
answered x = Ok x

pub right_is : {A : Type 0} (x y : A) → answered x ≡ answered y → x ≡ y
right_is x y e = cc

-- a kind byte is this one, or the others follow
pub branch : {A : Type 0} (k this : ℕ) (x y z : A) (P : ℕ → Type 0) → cond (eqb k this) x y ≡ z → (x ≡ z → P this) → (y ≡ z → P k) → P k
branch k this x y z P e here there =
    elim (chosen (eqb k this) x y z e) [
      | inl m ↦ subst P (sym (eqb-true k this m.0)) (here m.1)
      | inr m ↦ there m.1
    ]

pub read_is : {A : Type 0} (o : Option A) (x : A) → read_or_bad o ≡ Ok x → o ≡ Some x
read_is (Some y) x e = let same : y ≡ x = cc in subst (λ z. Some y ≡ Some z) same refl
read_is None x e = absurd cc

pub mapped_is : {A B : Type 0} (f : A → B) (o : Option A) (y : B) → option_map f o ≡ Some y → (x : A) × (o ≡ Some x) × (f x ≡ y)
mapped_is f (Some x) y e = (x, refl, some_is (f x) y e)
mapped_is f None y e = absurd cc

pub then_is : {A B : Type 0} (f : A → Option B) (o : Option A) (y : B) → option_and_then f o ≡ Some y → (x : A) × (o ≡ Some x) × (f x ≡ Some y)
then_is f (Some x) y e = (x, refl, e)
then_is f None y e = absurd cc

pub empty_is : {A : Type 0} (bytes : List ℕ) (x y : A) → if_empty bytes x ≡ Some y → (length bytes ≡ 0) × (x ≡ y)
empty_is bytes x y e =
    elim (chosen (eqb (length bytes) 0) (Some x) None (Some y) e) [
      | inl k ↦ (eqb-true (length bytes) 0 k.0, some_is x y k.1)
      | inr k ↦ absurd (let w = k.1 in cc)
    ]
