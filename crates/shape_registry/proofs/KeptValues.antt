-- The program's map of kept values beside the one that contracts see.
use Rattle.std.proofs.Common.{◌≡◌, ℕ, cond, List, [], ◌∷◌, refl, sym, ◌∙◌, ap, None, Some}
use Rattle.std.specs.Prelude.{is_some}
use Rattle.std.specs.List.{list_any}
use Rattle.std.specs.Map.{lookup, keys_of}
use Rattle.std.proofs.lemmas.Map.Made.{is_some-lookup}
use Rattle.std.specs.Ordering.{nat_cmp, eq_by_cmp}
use Rattle.std.specs.Cmp.{eq_by_cmp_equiv, nat_cmp_total}
use Rattle.std.specs.BTreeMap as tree
use Rattle.std.specs.BTreeMap.{BTreeMap, is_at}
use Rattle.std.specs.FinMap as fin
use Rattle.std.specs.FinMap.{FinMap, find, get-from_entries, get-insert, get-remove, same_map}
use Rattle.std.proofs.lemmas.Map.Lookups.{exact_unsigned}

turn : (k q : ℕ) → is_at (nat_cmp k) q ≡ eq_by_cmp nat_cmp q k
turn k q = (eq_by_cmp_equiv nat_cmp_total).symm k q

module _ {K : Type 0} where
  abbrev pub map_in : BTreeMap ℕ K → FinMap nat_cmp K
  map_in m = fin.from_entries m.entries

  find_at : (es : List (ℕ × K)) (q : ℕ) → find nat_cmp q es ≡ lookup (is_at (nat_cmp q)) es
  find_at [] q = refl
  find_at (e ∷ es) q = ap (cond (is_at (nat_cmp q) e.0) (Some e.1)) (find_at es q)

  pub get_in : (m : BTreeMap ℕ K) (q : ℕ) → fin.get (map_in m) q ≡ tree.get nat_cmp m q
  get_in m q = get-from_entries nat_cmp_total m.entries q ∙ find_at m.entries q

  pub insert_in : (m n : BTreeMap ℕ K) (k : ℕ) (v : K) → ((q : ℕ) → tree.get nat_cmp n q ≡ cond (is_at (nat_cmp k) q) (Some v) (tree.get nat_cmp m q)) → map_in n ≡ fin.insert (map_in m) k v
  insert_in m n k v h = same_map nat_cmp_total exact_unsigned _ _ (λ q. get_in n q ∙ h q ∙ ap (λ b. cond b (Some v) (tree.get nat_cmp m q)) (turn k q) ∙ ap (cond (eq_by_cmp nat_cmp q k) (Some v)) (sym (get_in m q)) ∙ sym (get-insert nat_cmp_total (map_in m) k v q))

  pub remove_in : (m n : BTreeMap ℕ K) (k : ℕ) → ((q : ℕ) → tree.get nat_cmp n q ≡ cond (is_at (nat_cmp k) q) None (tree.get nat_cmp m q)) → map_in n ≡ fin.remove (map_in m) k
  remove_in m n k h = same_map nat_cmp_total exact_unsigned _ _ (λ q. get_in n q ∙ h q ∙ ap (λ b. cond b None (tree.get nat_cmp m q)) (turn k q) ∙ ap (cond (eq_by_cmp nat_cmp q k) None) (sym (get_in m q)) ∙ sym (get-remove nat_cmp_total (map_in m) k q))

  pub same_in : (m n : BTreeMap ℕ K) → ((q : ℕ) → tree.get nat_cmp n q ≡ tree.get nat_cmp m q) → map_in n ≡ map_in m
  same_in m n h = same_map nat_cmp_total exact_unsigned _ _ (λ q. get_in n q ∙ h q ∙ sym (get_in m q))

  -- where the keys stay, the same numbers are found
  pub keys_keep : (old new : BTreeMap ℕ K) → keys_of new.entries ≡ keys_of old.entries → (m : ℕ) → is_some (tree.get nat_cmp new m) ≡ is_some (tree.get nat_cmp old m)
  keys_keep old new h m = is_some-lookup (is_at (nat_cmp m)) new.entries ∙ ap (list_any (is_at (nat_cmp m))) h ∙ sym (is_some-lookup (is_at (nat_cmp m)) old.entries)
