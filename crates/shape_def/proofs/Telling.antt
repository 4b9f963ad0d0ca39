-- Identities tell shapes apart.
use Rattle.std.proofs.Common.{◌≡◌, ℕ, List, [], ◌∷◌, ◌++◌, refl, sym, ◌∙◌, ap, arith, append_assoc, Option, None, Some}
use Rattle.std.specs.Prelude.{codes}
use Rattle.shape_base.specs.Shape.{quoted}
use Rattle.shape_base.proofs.Lemmas.{IsApart, quoted_split}
use Rattle.shape_def.specs.Identity.{Names, Shape, in_order, behind_commas, joined, columns_part, clause_part, identity, IsSameChoice, IsSameShape, IdentitiesTell}
use Rattle.shape_def.proofs.Sets.{order_from_set, set_from_order}

-- what follows a name does not go on in quotes

apart_clause : (clause : Option (List ℕ)) → IsApart (clause_part clause)
apart_clause None = tt
apart_clause (Some c) = λ e. absurd (omega (arith, e))

apart_behind : (names : Names) (clause : Option (List ℕ)) → IsApart (behind_commas names ++ clause_part clause)
apart_behind [] clause = apart_clause clause
apart_behind (n ∷ ns) clause = λ e. absurd (omega (arith, e))

apart_columns : (columns : Option Names) (clause : Option (List ℕ)) → IsApart (columns_part columns ++ clause_part clause)
apart_columns None clause = apart_clause clause
apart_columns (Some ns) clause = λ e. absurd (omega (arith, e))

apart_dot : (xs : List ℕ) → IsApart (46 ∷ xs)
apart_dot xs = λ e. absurd (omega (arith, e))

-- the clauses

clause_tells : (a b : Option (List ℕ)) → clause_part a ≡ clause_part b → a ≡ b
clause_tells None None e = refl
clause_tells None (Some y) e = cc
clause_tells (Some x) None e = cc
clause_tells (Some x) (Some y) e = let same : x ≡ y = cc in ap Some same

-- the columns

heads : (a b : ℕ) (xs ys : List ℕ) → a ∷ xs ≡ b ∷ ys → a ≡ b
heads a b xs ys e = cc

seconds : (a b c d : ℕ) (xs ys : List ℕ) → a ∷ c ∷ xs ≡ b ∷ d ∷ ys → c ≡ d
seconds a b c d xs ys e = cc

no_comma : (a : Option (List ℕ)) (rest : List ℕ) → clause_part a ≡ 44 ∷ rest → ⊥
no_comma None rest e = cc
no_comma (Some x) rest e = absurd (omega (arith, heads 32 44 _ _ e))

no_quote : (a : Option (List ℕ)) (rest : List ℕ) → clause_part a ≡ 34 ∷ rest → ⊥
no_quote None rest e = cc
no_quote (Some x) rest e = absurd (omega (arith, heads 32 34 _ _ e))

no_columns : (a : Option (List ℕ)) (rest : List ℕ) → clause_part a ≡ codes " columns " ++ rest → ⊥
no_columns None rest e = cc
no_columns (Some x) rest e = absurd (omega (arith, seconds 32 32 119 99 _ _ e))

behind_tells : (ms ns : Names) (a b : Option (List ℕ)) → behind_commas ms ++ clause_part a ≡ behind_commas ns ++ clause_part b → (ms ≡ ns) × (a ≡ b)
behind_tells [] [] a b e = (refl, clause_tells a b e)
behind_tells [] (n ∷ ns) a b e = absurd (no_comma a _ e)
behind_tells (m ∷ ms) [] a b e = absurd (no_comma b _ (sym e))
behind_tells (m ∷ ms) (n ∷ ns) a b e =
    let cut : 44 ∷ (quoted m ++ (behind_commas ms ++ clause_part a)) ≡ 44 ∷ (quoted n ++ (behind_commas ns ++ clause_part b)) =
    sym (append_assoc (44 ∷ quoted m) (behind_commas ms) (clause_part a)) ∙ e ∙ append_assoc (44 ∷ quoted n) (behind_commas ns) (clause_part b) in
    let tails : quoted m ++ (behind_commas ms ++ clause_part a) ≡ quoted n ++ (behind_commas ns ++ clause_part b) = cc in
    let parts = quoted_split m n _ _ (apart_behind ms a) (apart_behind ns b) tails in
    let rest = behind_tells ms ns a b parts.1 in
    let heads : m ≡ n = parts.0 in let tails : ms ≡ ns = rest.0 in (cc, rest.1)

joined_tells : (ms ns : Names) (a b : Option (List ℕ)) → joined ms ++ clause_part a ≡ joined ns ++ clause_part b → (ms ≡ ns) × (a ≡ b)
joined_tells [] [] a b e = (refl, clause_tells a b e)
joined_tells [] (n ∷ ns) a b e = absurd (no_quote a _ e)
joined_tells (m ∷ ms) [] a b e = absurd (no_quote b _ (sym e))
joined_tells (m ∷ ms) (n ∷ ns) a b e =
    let parts = quoted_split m n _ _ (apart_behind ms a) (apart_behind ns b) (sym (append_assoc (quoted m) (behind_commas ms) (clause_part a)) ∙ e ∙ append_assoc (quoted n) (behind_commas ns) (clause_part b)) in
    let rest = behind_tells ms ns a b parts.1 in
    let heads : m ≡ n = parts.0 in let tails : ms ≡ ns = rest.0 in (cc, rest.1)

ends_tell : (xs ys : Option Names) (a b : Option (List ℕ)) → columns_part xs ++ clause_part a ≡ columns_part ys ++ clause_part b → IsSameChoice xs ys × (a ≡ b)
ends_tell None None a b e = (tt, clause_tells a b e)
ends_tell None (Some ys) a b e = absurd (no_columns a _ e)
ends_tell (Some xs) None a b e = absurd (no_columns b _ (sym e))
ends_tell (Some xs) (Some ys) a b e =
    let cut : joined (in_order xs) ++ clause_part a ≡ joined (in_order ys) ++ clause_part b = cc in
    let parts = joined_tells (in_order xs) (in_order ys) a b cut in
    (set_from_order xs ys parts.0, parts.1)

-- the table

whole : (s : Shape) → identity s ≡ quoted s.ns ++ 46 ∷ (quoted s.name ++ (columns_part s.columns ++ clause_part s.clause))
whole s = append_assoc (quoted s.ns ++ 46 ∷ quoted s.name) (columns_part s.columns) (clause_part s.clause) ∙ append_assoc (quoted s.ns) (46 ∷ quoted s.name) (columns_part s.columns ++ clause_part s.clause)

tells : (a b : Shape) → identity a ≡ identity b → IsSameShape a b
tells a b e =
    let my_ends = columns_part a.columns ++ clause_part a.clause in let other_ends = columns_part b.columns ++ clause_part b.clause in
    let mine = quoted a.name ++ my_ends in let other = quoted b.name ++ other_ends in
    let one = quoted_split a.ns b.ns (46 ∷ mine) (46 ∷ other) (apart_dot mine) (apart_dot other) (sym (whole a) ∙ e ∙ whole b) in
    let dotted : 46 ∷ mine ≡ 46 ∷ other = one.1 in
    let rest : mine ≡ other = cc in
    let two = quoted_split a.name b.name my_ends other_ends (apart_columns a.columns a.clause) (apart_columns b.columns b.clause) rest in
    let ends = ends_tell a.columns b.columns a.clause b.clause two.1 in
    record { ns = one.0; name = two.0; columns = ends.0; clause = ends.1 }

same_columns : (xs ys : Option Names) → IsSameChoice xs ys → columns_part xs ≡ columns_part ys
same_columns None None h = refl
same_columns None (Some ys) h = absurd h
same_columns (Some xs) None h = absurd h
same_columns (Some xs) (Some ys) h = ap (λ (ns : Names). codes " columns " ++ joined ns) (order_from_set xs ys h)

same : (a b : Shape) → IsSameShape a b → identity a ≡ identity b
same a b h =
    let ns : a.ns ≡ b.ns = h.ns in let name : a.name ≡ b.name = h.name in
    let columns : columns_part a.columns ≡ columns_part b.columns = same_columns a.columns b.columns h.columns in
    let clause : clause_part a.clause ≡ clause_part b.clause = ap clause_part h.clause in
    λ i. quoted (ns i) ++ 46 ∷ quoted (name i) ++ columns i ++ clause i

pub identities_tell : IdentitiesTell
identities_tell a b = (tells a b, same a b)
