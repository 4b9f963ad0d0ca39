-- What an identity finds after its map among many is written.
use Rattle.std.proofs.Common.{◌≡◌, ℕ, zero, suc, ◌<◌, Bool, true, false, cond, List, [], ◌∷◌, ◌++◌, length, map, Option, None, Some, refl, sym, ◌∙◌, ap, subst, inl, inr, arith}
use Rattle.std.specs.Prelude.{slice_get, slice_set, slice_index_or}
use Rattle.std.specs.List.{AllByRecursion}
use Rattle.std.specs.Option.{option_and_then, option_map}
use Rattle.std.specs.Ordering.{nat_cmp}
use Rattle.std.specs.Cmp.Lexicographic.{slice_cmp}
use Rattle.std.specs.Map.{lookup}
use Rattle.std.specs.BTreeMap.{BTreeMap, is_at, get}
use Rattle.std.proofs.lemmas.List.{length-map}
use Rattle.std.proofs.lemmas.Option.{slice_get_read}
use Rattle.shape_registry.specs.declared.names.Live.{Live}
use Rattle.shape_registry.specs.Names.{Parts, part_of, name_under, now_ready, Renames}
use Rattle.shape_registry.proofs.Catalog.{after_set}
use Rattle.shape_registry.proofs.Changes.{same_text_at}

-- an item that is written stands in its place
set_here : {A : Type 0} (xs : List A) (i : ℕ) (x : A) → i < length xs → slice_get (slice_set xs i x) i ≡ Some x
set_here [] i x h = absurd (omega arith)
set_here (y ∷ ys) zero x h = refl
set_here (y ∷ ys) (suc i) x h = set_here ys i x (omega arith)

pub part_in : (maps : List (BTreeMap (List ℕ) Live)) (i : ℕ) → slice_get (map (λ part. part.entries) maps) i ≡ option_map (λ part. part.entries) (slice_get maps i)
part_in [] i = refl
part_in (m ∷ ms) zero = refl
part_in (m ∷ ms) (suc i) = part_in ms i

parts_set : (maps : List (BTreeMap (List ℕ) Live)) (i : ℕ) (new : BTreeMap (List ℕ) Live) → map (λ part. part.entries) (slice_set maps i new) ≡ slice_set (map (λ part. part.entries) maps) i new.entries
parts_set [] i new = refl
parts_set (m ∷ ms) zero new = refl
parts_set (m ∷ ms) (suc i) new = ap (λ parts. m.entries ∷ parts) (parts_set ms i new)

module _ (parts : Parts) (identity : List ℕ) (old new : List (List ℕ × Live)) (live : Option Live) (within : part_of identity < length parts) (stood : slice_get parts (part_of identity) ≡ Some old)
    (updates : (other : List ℕ) → lookup (is_at (slice_cmp nat_cmp other)) new ≡ cond (is_at (slice_cmp nat_cmp identity) other) live (lookup (is_at (slice_cmp nat_cmp other)) old)) where
  -- an identity whose map was written
  renamed_within : (other : List ℕ) → part_of identity ≡ part_of other → name_under (slice_set parts (part_of identity) new) other ≡ cond (is_at (slice_cmp nat_cmp identity) other) live (name_under parts other)
  renamed_within other same = ap (option_and_then (lookup (is_at (slice_cmp nat_cmp other)))) (subst (λ place. slice_get (slice_set parts (part_of identity) new) place ≡ Some new) same (set_here parts (part_of identity) new within))
      ∙ updates other ∙ ap (cond (is_at (slice_cmp nat_cmp identity) other) live) (sym (ap (option_and_then (lookup (is_at (slice_cmp nat_cmp other)))) (subst (λ place. slice_get parts place ≡ Some old) same stood)))

  renamed_elsewhere : (other : List ℕ) (b : Bool) → is_at (slice_cmp nat_cmp identity) other ≡ b → slice_get (slice_set parts (part_of identity) new) (part_of other) ≡ slice_get parts (part_of other)
      → name_under (slice_set parts (part_of identity) new) other ≡ cond (is_at (slice_cmp nat_cmp identity) other) live (name_under parts other)
  renamed_elsewhere other true is same = renamed_within other (ap part_of (same_text_at identity other is))
  renamed_elsewhere other false is same = ap (option_and_then (lookup (is_at (slice_cmp nat_cmp other)))) same ∙ ap (λ b. cond b live (name_under parts other)) (sym is)

  renamed_at : Renames parts (slice_set parts (part_of identity) new) identity live
  renamed_at other = elim (after_set parts (part_of identity) (part_of other) new) [
    | inl same ↦ renamed_elsewhere other (is_at (slice_cmp nat_cmp identity) other) refl same
    | inr written ↦ renamed_within other written.0
  ]

module _ (maps : List (BTreeMap (List ℕ) Live)) (identity : List ℕ) (place : ℕ) (old : BTreeMap (List ℕ) Live) (is : place ≡ part_of identity) (within : place < length maps) (stood : old ≡ slice_index_or maps place old) where
  stood_at : slice_get (map (λ part. part.entries) maps) (part_of identity) ≡ Some old.entries
  stood_at = part_in maps (part_of identity) ∙ ap (option_map (λ part. part.entries)) (subst (λ place. slice_get maps place ≡ Some old) is (slice_get_read maps (length maps) place old refl within stood))

  -- what an identity finds is what the map of its hash has
  pub part_finds : name_under (map (λ part. part.entries) maps) identity ≡ get (slice_cmp nat_cmp) old identity
  part_finds = ap (option_and_then (lookup (is_at (slice_cmp nat_cmp identity)))) stood_at

  -- the map of an identity's hash is written
  pub renamed : (new : BTreeMap (List ℕ) Live) (live : Option Live)
      → ((other : List ℕ) → get (slice_cmp nat_cmp) new other ≡ cond (is_at (slice_cmp nat_cmp identity) other) live (get (slice_cmp nat_cmp) old other))
      → Renames (map (λ part. part.entries) maps) (map (λ part. part.entries) (slice_set maps place new)) identity live
  renamed new live updates = subst (λ place. Renames (map (λ part. part.entries) maps) (map (λ part. part.entries) (slice_set maps place new)) identity live) (sym is)
      (subst (λ parts. Renames (map (λ part. part.entries) maps) parts identity live) (sym (parts_set maps (part_of identity) new))
      (renamed_at (map (λ part. part.entries) maps) identity old.entries new.entries live
      (subst (λ place. place < length (map (λ part. part.entries) maps)) is (subst (λ n. place < n) (sym (length-map maps (λ part. part.entries))) within)) stood_at updates))

-- an identity that finds nothing finds nothing that is ready
pub none_ready : (parts : Parts) (identity : List ℕ) → name_under parts identity ≡ None → Renames parts parts identity (option_map now_ready (name_under parts identity))
none_ready parts identity none other = step (is_at (slice_cmp nat_cmp identity) other) refl
  where
    step : (b : Bool) → is_at (slice_cmp nat_cmp identity) other ≡ b → name_under parts other ≡ cond b (option_map now_ready (name_under parts identity)) (name_under parts other)
    step true is = subst (λ i. name_under parts i ≡ None) (same_text_at identity other is) none ∙ sym (ap (option_map now_ready) none)
    step false is = refl

-- the map that is written has what it had
pub stays : (maps : List (BTreeMap (List ℕ) Live)) (place : ℕ) (old new : BTreeMap (List ℕ) Live) → place < length maps → old ≡ slice_index_or maps place old → new.entries ≡ old.entries
    → map (λ part. part.entries) (slice_set maps place new) ≡ map (λ part. part.entries) maps
stays [] place old new within stood same = refl
stays (m ∷ ms) zero old new within stood same = ap (λ entries. entries ∷ map (λ part. part.entries) ms) (same ∙ ap (λ part. part.entries) stood)
stays (m ∷ ms) (suc place) old new within stood same = ap (λ parts. m.entries ∷ parts) (stays ms place old new (omega arith) stood same)

-- ---- maps of no entries

abbrev pub AreEmpty : List (BTreeMap (List ℕ) Live) → Type 0
AreEmpty maps = AllByRecursion (λ part. part.entries ≡ []) maps

pub empty_push : (maps : List (BTreeMap (List ℕ) Live)) (new : BTreeMap (List ℕ) Live) → AreEmpty maps → new.entries ≡ [] → AreEmpty (maps ++ new ∷ [])
empty_push [] new empty none = (none, tt)
empty_push (m ∷ ms) new empty none = (empty.0, empty_push ms new empty.1 none)

none_at : (maps : List (BTreeMap (List ℕ) Live)) (place : ℕ) (identity : List ℕ) → AreEmpty maps → option_and_then (lookup (is_at (slice_cmp nat_cmp identity))) (slice_get (map (λ part. part.entries) maps) place) ≡ None
none_at [] place identity empty = refl
none_at (m ∷ ms) zero identity empty = ap (lookup (is_at (slice_cmp nat_cmp identity))) empty.0
none_at (m ∷ ms) (suc place) identity empty = none_at ms place identity empty.1

pub none_under : (maps : List (BTreeMap (List ℕ) Live)) → AreEmpty maps → (identity : List ℕ) → name_under (map (λ part. part.entries) maps) identity ≡ None
none_under maps empty identity = none_at maps (part_of identity) identity empty
