-- A map from names to places keeps the places in the order of the names.
use Rattle.std.proofs.Common.{◌≡◌, ℕ, zero, suc, ◌<◌, Bool, true, false, List, [], ◌∷◌, length, map, drop, refl, sym, ap, subst, ◌∙◌, arith}
use Rattle.std.specs.Prelude.{slice_index_or}
use Rattle.std.specs.Bool.{if◌then◌else◌}
use Rattle.std.specs.List.{AllByRecursion, IsDistinct}
use Rattle.std.specs.Ordering.{nat_cmp, is_lt, is_eq, match_ordering}
use Rattle.std.specs.declared.cmp.Ordering.{Ordering}
use Rattle.std.specs.declared.cmp.Ordering.TheVariants.{Less, Equal, Greater}
use Rattle.std.specs.Cmp.Lexicographic.{slice_cmp}
use Rattle.std.specs.BTreeMap.{insert_entry}
use Rattle.std.specs.Map.{values_of}
use Rattle.std.proofs.lemmas.Map.Text.{is_eq-slice_cmp}
use Rattle.std.proofs.Math.Seq.{drop-cons}
use Rattle.shape_base.specs.declared.definition.TableDef.{TableDef}
use Rattle.shape_base.specs.Tables.{same_text}
use Rattle.shape_base.specs.Shape.{name_at, put_place, by_name}

-- no column in these places has the name
abbrev Lack : TableDef → List ℕ → List ℕ → Type 0
Lack d name ps = AllByRecursion (λ n. same_text name n ≡ false) (map (name_at d) ps)

lack_put_step : (d : TableDef) (name : List ℕ) (p q : ℕ) (qs rest : List ℕ) (b : Bool) → same_text name (name_at d p) ≡ false → Lack d name (q ∷ qs) → Lack d name rest → Lack d name (if b then p ∷ q ∷ qs else q ∷ rest)
lack_put_step d name p q qs rest true h k ih = (h, k)
lack_put_step d name p q qs rest false h k ih = (k.0, ih)

lack_put : (d : TableDef) (name : List ℕ) (p : ℕ) (ps : List ℕ) → same_text name (name_at d p) ≡ false → Lack d name ps → Lack d name (put_place d p ps)
lack_put d name p [] h k = (h, tt)
lack_put d name p (q ∷ qs) h k = lack_put_step d name p q qs (put_place d p qs) (is_lt (slice_cmp nat_cmp (name_at d p) (name_at d q))) h k (lack_put d name p qs h k.1)

lack_by_name : (d : TableDef) (name : List ℕ) (ps : List ℕ) → Lack d name ps → Lack d name (by_name d ps)
lack_by_name d name [] h = tt
lack_by_name d name (p ∷ ps) h = lack_put d name p (by_name d ps) h.0 (lack_by_name d name ps h.1)

lack_behind : (d : TableDef) (ps : List ℕ) (n : ℕ) → n < length ps → IsDistinct same_text (map (name_at d) ps) → Lack d (name_at d (slice_index_or ps n 0)) (drop (suc n) ps)
unfolding IsDistinct
lack_behind d [] n h apart = absurd (omega (arith, h))
lack_behind d (p ∷ ps) zero h apart = apart.0
lack_behind d (p ∷ ps) (suc n) h apart = lack_behind d ps n (omega (arith, h)) apart.1

module _ {K : Type 0} (d : TableDef) (name : K → List ℕ) where
  -- each place stands under its column's name
  abbrev pub AreNamed : List (K × ℕ) → Type 0
  AreNamed es = AllByRecursion (λ e. name e.0 ≡ name_at d e.1) es

  abbrev pub compared : K → K → Ordering
  compared x y = slice_cmp nat_cmp (name x) (name y)

  put_step : (k : K) (p : ℕ) (e : K × ℕ) (es rest : List (K × ℕ)) (o : Ordering) → is_eq o ≡ false → values_of rest ≡ put_place d p (values_of es)
      → values_of (match_ordering o ((k, p) ∷ e ∷ es) ((e.0, p) ∷ es) (e ∷ rest)) ≡ (if is_lt o then p ∷ e.1 ∷ values_of es else e.1 ∷ put_place d p (values_of es))
  put_step k p e es rest Less apart ih = refl
  put_step k p e es rest Equal apart ih = absurd cc
  put_step k p e es rest Greater apart ih = ap (λ (ps : List ℕ). e.1 ∷ ps) ih

  puts : (k : K) (p : ℕ) (es : List (K × ℕ)) → name k ≡ name_at d p → AreNamed es → Lack d (name_at d p) (values_of es) → values_of (insert_entry compared es k p) ≡ put_place d p (values_of es)
  puts k p [] is named lacks = refl
  puts k p (e ∷ es) is named lacks =
      let same : compared k e.0 ≡ slice_cmp nat_cmp (name_at d p) (name_at d e.1) = (λ i. slice_cmp nat_cmp (is i) (named.0 i)) in
      let apart : is_eq (slice_cmp nat_cmp (name_at d p) (name_at d e.1)) ≡ false = is_eq-slice_cmp (name_at d p) (name_at d e.1) ∙ lacks.0 in
      subst (λ (o : Ordering). values_of (match_ordering o ((k, p) ∷ e ∷ es) ((e.0, p) ∷ es) (e ∷ insert_entry compared es k p)) ≡ put_place d p (values_of (e ∷ es))) (sym same)
      (put_step k p e es (insert_entry compared es k p) (slice_cmp nat_cmp (name_at d p) (name_at d e.1)) apart (puts k p es is named.1 lacks.1))

  named_step : (k : K) (p : ℕ) (e : K × ℕ) (es rest : List (K × ℕ)) (o : Ordering) → is_eq o ≡ false → name k ≡ name_at d p → AreNamed (e ∷ es) → AreNamed rest → AreNamed (match_ordering o ((k, p) ∷ e ∷ es) ((e.0, p) ∷ es) (e ∷ rest))
  named_step k p e es rest Less apart is named ih = (is, named)
  named_step k p e es rest Equal apart is named ih = absurd cc
  named_step k p e es rest Greater apart is named ih = (named.0, ih)

  stay_named : (k : K) (p : ℕ) (es : List (K × ℕ)) → name k ≡ name_at d p → AreNamed es → Lack d (name_at d p) (values_of es) → AreNamed (insert_entry compared es k p)
  stay_named k p [] is named lacks = (is, tt)
  stay_named k p (e ∷ es) is named lacks =
      let same : compared k e.0 ≡ slice_cmp nat_cmp (name_at d p) (name_at d e.1) = (λ i. slice_cmp nat_cmp (is i) (named.0 i)) in
      named_step k p e es (insert_entry compared es k p) (compared k e.0) (ap is_eq same ∙ is_eq-slice_cmp (name_at d p) (name_at d e.1) ∙ lacks.0) is named (stay_named k p es is named.1 lacks.1)

  -- one place more
  pub placed : (ps : List ℕ) (n : ℕ) (k : K) (es new : List (K × ℕ)) → n < length ps → IsDistinct same_text (map (name_at d) ps) → name k ≡ name_at d (slice_index_or ps n 0)
      → values_of es ≡ by_name d (drop (suc n) ps) → AreNamed es → new ≡ insert_entry compared es k (slice_index_or ps n 0)
      → (values_of new ≡ by_name d (drop n ps)) × AreNamed new
  placed ps n k es new h apart is order named inserted =
      let p : ℕ = slice_index_or ps n 0 in
      let lacks : Lack d (name_at d p) (values_of es) = subst (λ (qs : List ℕ). Lack d (name_at d p) qs) (sym order) (lack_by_name d (name_at d p) (drop (suc n) ps) (lack_behind d ps n h apart)) in (
        ap values_of inserted ∙ puts k p es is named lacks ∙ ap (put_place d p) order ∙ ap (by_name d) (sym (drop-cons ps n 0 h)),
        subst AreNamed (sym inserted) (stay_named k p es is named lacks),
      )
