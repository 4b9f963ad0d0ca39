-- The order of values.
use Rattle.std.proofs.Common.{◌≡◌, ◌↔◌, ℕ, Bool, true, false, List, refl, sym, ap, ◌∙◌}
use Rattle.std.specs.Cmp.{IsTotalOrder, nat_cmp_total, int_cmp_total, bool_cmp_total, on_total, tied_itself}
use Rattle.std.specs.Cmp.Lexicographic.{slice_cmp, nat_list_cmp_total}
use Rattle.std.specs.declared.cmp.Ordering.{Ordering}
use Rattle.std.specs.declared.cmp.Ordering.TheVariants.{Equal}
use Rattle.std.specs.Ordering.{nat_cmp, int_cmp, bool_cmp}
use Rattle.std.proofs.lemmas.Map.Lookups.{exact_unsigned, exact_signed, exact_bytes}
use Rattle.pg_values.specs.declared.kind.Kind.{Kind}
use Rattle.pg_values.specs.declared.kind.Kind.TheVariants.{Boolean, SmallInt, Integer, BigInt, Text, Uuid, Other}
use Rattle.pg_values.specs.Values.{truth_value, number_value, uuid_value, order_of, IsSameValue}

pub total : (kind : Kind) → IsTotalOrder (order_of kind)
total Boolean = on_total truth_value bool_cmp_total
total SmallInt = on_total number_value int_cmp_total
total Integer = on_total number_value int_cmp_total
total BigInt = on_total number_value int_cmp_total
total Text = nat_list_cmp_total
total Uuid = on_total uuid_value nat_cmp_total
total Other = nat_list_cmp_total

exact_truths : (a b : Bool) → bool_cmp a b ≡ Equal → a ≡ b
exact_truths true true h = refl
exact_truths true false h = absurd (cc)
exact_truths false true h = absurd (cc)
exact_truths false false h = refl

-- an order that is equal only at equal values is equal just there
just_there : {K : Type 0} (R : K → K → Ordering) → IsTotalOrder R → (x y : K) → (R x y ≡ Equal → x ≡ y) → (R x y ≡ Equal) ↔ (x ≡ y)
just_there R o x y exact = (exact, λ same. ap (R x) (sym same) ∙ tied_itself o x)

pub equal : (kind : Kind) (a b : List ℕ) → (order_of kind a b ≡ Equal) ↔ IsSameValue kind a b
equal Boolean a b = just_there bool_cmp bool_cmp_total (truth_value a) (truth_value b) (exact_truths (truth_value a) (truth_value b))
equal SmallInt a b = just_there int_cmp int_cmp_total (number_value a) (number_value b) (exact_signed (number_value a) (number_value b))
equal Integer a b = just_there int_cmp int_cmp_total (number_value a) (number_value b) (exact_signed (number_value a) (number_value b))
equal BigInt a b = just_there int_cmp int_cmp_total (number_value a) (number_value b) (exact_signed (number_value a) (number_value b))
equal Text a b = just_there (slice_cmp nat_cmp) nat_list_cmp_total a b (exact_bytes a b)
equal Uuid a b = just_there nat_cmp nat_cmp_total (uuid_value a) (uuid_value b) (exact_unsigned (uuid_value a) (uuid_value b))
equal Other a b = just_there (slice_cmp nat_cmp) nat_list_cmp_total a b (exact_bytes a b)
