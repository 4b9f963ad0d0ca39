-- The lengths of what the client writes.
use Rattle.std.proofs.Common.{◌≡◌, ℕ, ◌+◌, ◌-◌, ◌*◌, ◌<◌, ◌≤◌, ◌^◌, Bool, true, false, cond, eqb, List, [], ◌∷◌, ◌++◌, length, ap, append_assoc, arith, codes}
use Rattle.std.specs.List.{flat_map}
use Rattle.std.proofs.lemmas.List.{length-append}
use Rattle.shape_base.specs.Shape.{doubled, quoted}
use Rattle.shape_base.specs.declared.served.Served.{Served}
use Rattle.pg_dialogue.specs.declared.login.Login.{Login}
use Rattle.pg_dialogue.specs.Queries.{apostrophes, select, start_replication, IsShortLogin, IsShortName}

two_or_one : (a : Bool) (x : ℕ) (b : ℕ) → length (cond a (x ∷ x ∷ []) (b ∷ [])) ≤ 2
two_or_one true x b = omega arith
two_or_one false x b = omega arith

twice : (f : ℕ → List ℕ) → ((b : ℕ) → length (f b) ≤ 2) → (xs : List ℕ) → length (flat_map f xs) ≤ 2 * length xs
twice f h [] = omega arith
twice f h (x ∷ xs) = omega (arith, h x, twice f h xs, length-append (f x) (flat_map f xs))

quoted_length : (text : List ℕ) → length (quoted text) ≤ 2 * length text + 2
quoted_length text = omega (arith, twice doubled (λ b. two_or_one (eqb b 34) 34 b) text, length-append (flat_map doubled text) (34 ∷ []))

apostrophes_length : (text : List ℕ) → length (flat_map apostrophes text) ≤ 2 * length text
apostrophes_length text = twice apostrophes (λ b. two_or_one (eqb b 39) 39 b) text

pub select_length : (t : Served) → IsShortName t → length (select t) < 2 ^ 31 + 100
select_length t h =
    omega (arith, h.ns, h.name, quoted_length t.ns, quoted_length t.name, length-append (quoted t.ns) (46 ∷ quoted t.name))

pub short_select : (t : Served) (text : List ℕ) → IsShortName t → text ≡ select t → length text + 5 < 2 ^ 32
short_select t text h e = omega (arith, ap length e, select_length t h)

pub short_describe : (t : Served) (text more : List ℕ) → IsShortName t → text ≡ select t ++ more → length more ≤ 8 → length text + 5 < 2 ^ 32
short_describe t text more h e few = omega (arith, ap length e, select_length t h, length-append (select t) more, few)

pub select_parts : (o0 o1 o2 o3 o4 a ns name : List ℕ) → o1 ≡ o0 ++ a → o2 ≡ o1 ++ ns → o3 ≡ o2 ++ 46 ∷ [] → o4 ≡ o3 ++ name → o4 ≡ o0 ++ ((a ++ ns) ++ 46 ∷ name)
select_parts o0 o1 o2 o3 o4 a ns name p q r s = rw (s, r, q, p) (simp append_assoc)

start_length : (l : Login) → IsShortLogin l → length (start_replication l) < 2 ^ 32 - 1000
start_length l h =
    let publication = quoted l.publication in
    let before : List ℕ = codes "START_REPLICATION SLOT " ++ quoted l.slot ++ codes " LOGICAL 0/0 (proto_version '1', publication_names '" in
    omega (
      arith,
      h.slot,
      h.publication,
      quoted_length l.slot,
      quoted_length l.publication,
      apostrophes_length publication,
      length-append (codes "START_REPLICATION SLOT " ++ quoted l.slot) (codes " LOGICAL 0/0 (proto_version '1', publication_names '"),
      length-append (codes "START_REPLICATION SLOT ") (quoted l.slot),
      length-append before (flat_map apostrophes publication),
      length-append (before ++ flat_map apostrophes publication) (codes "')"),
    )

pub short_start : (l : Login) (text : List ℕ) → IsShortLogin l → text ≡ start_replication l → length text + 5 < 2 ^ 32
short_start l text h e = omega (arith, ap length e, start_length l h)
