-- Key texts that are read byte by byte.
use Rattle.std.proofs.Common.{◌≡◌, ◌≢◌, ℕ, zero, suc, ◌<◌, ◌≤◌, Bool, true, false, ◌==◌, List, [], ◌∷◌, ◌++◌, length, take, drop, refl, sym, ◌∙◌, ap, subst, arith, append_assoc, append-nil, length-append}
use Rattle.std.specs.Bool.{if◌then◌else◌}
use Rattle.std.specs.List.{flat_map, AllByRecursion}
use Rattle.std.specs.Str.{IsUtf8}
use Rattle.std.proofs.lemmas.Bool.Decides.{Decides-eqb}
use Rattle.std.proofs.lemmas.Str.{IsUtf8-nil}
use Rattle.std.proofs.lemmas.Grind.{flat_map-append}
use Rattle.shape_base.specs.Shape.{doubled, quoted}
use Rattle.shape_base.proofs.Lemmas.{IsApart, quoted_split}
use Rattle.std.proofs.Math.Seq.{take-suc}
use Rattle.std.proofs.Common.{get_or, take_all}
use Rattle.change_map.specs.Keys.{Parts, AreParts, Spells, IsKeyText, IsReadAs, BeginsKey, IsLongestFront, parts_text, in_one}
use Rattle.change_map.specs.Reading.{Fits, Wants, joined, closed, separator, opened, spelled, IsPart}
use Rattle.change_map.specs.declared.wanted.Wanted.{Wanted}
use Rattle.change_map.specs.declared.key_reader.Spot.{Spot}
use Rattle.change_map.specs.declared.key_reader.Spot.TheVariants.{Before, Within, Behind}
use Rattle.std.proofs.lemmas.List.{take-append-drop, take-take}

abbrev value_text : List ℕ → List ℕ
value_text v = 47 ∷ quoted v

abbrev AreTexts : List (List ℕ) → Type 0
AreTexts parts = AllByRecursion IsUtf8 parts

-- ---- parts and their spelling

pub are_more : (parts : List (List ℕ)) (p : List ℕ) → AreTexts parts → IsUtf8 p → AreTexts (parts ++ p ∷ [])
are_more [] p h u = (u, tt)
are_more (q ∷ parts) p h u = (h.0, are_more parts p h.1 u)

pub joined_more : (parts : List (List ℕ)) (p : List ℕ) → opened parts ++ quoted p ≡ joined (parts ++ p ∷ [])
joined_more [] p = refl
joined_more (ns ∷ []) p = append_assoc (quoted ns) (46 ∷ []) (quoted p) ∙ sym (append-nil (quoted ns ++ 46 ∷ quoted p))
joined_more (ns ∷ name ∷ values) p =
    let front = quoted ns ++ 46 ∷ quoted name in let all = flat_map value_text values in
    append_assoc (front ++ all) (47 ∷ []) (quoted p) ∙ append_assoc front all (value_text p)
    ∙ ap (λ xs. front ++ xs) (sym (flat_map-append value_text values (p ∷ []) ∙ ap (λ xs. all ++ xs) (append-nil (value_text p))))

closed_more : (parts : List (List ℕ)) (p : List ℕ) → closed (parts ++ p ∷ []) ≡ separator parts ∷ []
closed_more [] p = refl
closed_more (ns ∷ []) p = refl
closed_more (ns ∷ name ∷ values) p = refl

pub opened_more : (parts : List (List ℕ)) (p : List ℕ) → opened (parts ++ p ∷ []) ≡ (opened parts ++ quoted p) ++ separator parts ∷ []
opened_more parts p = ap (λ xs. xs ++ closed (parts ++ p ∷ [])) (sym (joined_more parts p)) ∙ ap (λ ys. (opened parts ++ quoted p) ++ ys) (closed_more parts p)

-- ---- a key text goes on after some of its parts

-- what may stand behind the part that follows these
abbrev IsAfter : List (List ℕ) → List ℕ → Type 0
IsAfter parts [] = 1 < length parts
IsAfter parts (b ∷ bs) = b ≡ separator parts

no_quote : (parts : List (List ℕ)) → separator parts ≢ 34
no_quote [] e = absurd (omega (arith, e))
no_quote (p ∷ parts) e = absurd (omega (arith, e))

apart_after : (parts : List (List ℕ)) (rest : List ℕ) → IsAfter parts rest → IsApart rest
apart_after parts [] h = tt
apart_after parts (b ∷ bs) h = λ e. no_quote parts (sym h ∙ e)

record NextPart (parts : List (List ℕ)) (rest : List ℕ) : Type 0 where
  pub p : List ℕ
  pub others : List ℕ
  pub utf8 : IsUtf8 p
  pub split : rest ≡ quoted p ++ others
  pub after : IsAfter parts others

apart_values : (vs : List (List ℕ)) → IsApart (flat_map value_text vs)
apart_values [] = tt
apart_values (v ∷ vs) = λ e. absurd (omega (arith, e))

apart_more : (vs : List (List ℕ)) (rest : List ℕ) → IsApart (flat_map value_text vs ++ 47 ∷ rest)
apart_more [] rest = λ e. absurd (omega (arith, e))
apart_more (v ∷ vs) rest = λ e. absurd (omega (arith, e))

after_dot : (rest : List ℕ) → IsApart (46 ∷ rest)
after_dot rest = λ e. absurd (omega (arith, e))

after_values : (ns name : List ℕ) (parts vs : List (List ℕ)) → IsAfter (ns ∷ name ∷ parts) (flat_map value_text vs)
after_values ns name parts [] = omega arith
after_values ns name parts (v ∷ vs) = refl

after_name : (ns : List ℕ) (vs : List (List ℕ)) → 0 < length vs → IsAfter (ns ∷ []) (flat_map value_text vs)
after_name ns [] h = absurd (omega (arith, h))
after_name ns (v ∷ vs) h = refl

next_value : (ns name : List ℕ) (parts ds vs : List (List ℕ)) (rest : List ℕ) → AreTexts vs → flat_map value_text ds ++ 47 ∷ rest ≡ flat_map value_text vs → NextPart (ns ∷ name ∷ parts) rest
next_value ns name parts [] [] rest h e = cc
next_value ns name parts [] (v ∷ vs) rest h e = let same : rest ≡ quoted v ++ flat_map value_text vs = cc in record { p = v; others = flat_map value_text vs; utf8 = h.0; split = same; after = after_values ns name parts vs }
next_value ns name parts (d ∷ ds) [] rest h e = cc
next_value ns name parts (d ∷ ds) (v ∷ vs) rest h e =
    let whole : 47 ∷ (quoted d ++ (flat_map value_text ds ++ 47 ∷ rest)) ≡ 47 ∷ (quoted v ++ flat_map value_text vs) = sym (append_assoc (value_text d) (flat_map value_text ds) (47 ∷ rest)) ∙ e in
    let inner : quoted d ++ (flat_map value_text ds ++ 47 ∷ rest) ≡ quoted v ++ flat_map value_text vs = cc in
    let two = quoted_split d v (flat_map value_text ds ++ 47 ∷ rest) (flat_map value_text vs) (apart_more ds rest) (apart_values vs) inner in
    next_value ns name parts ds vs rest h.1 two.1

-- a text, cut after its namespace
text_cut : (p : Parts) → parts_text p ≡ quoted p.ns ++ 46 ∷ (quoted p.name ++ flat_map value_text p.values)
text_cut p = append_assoc (quoted p.ns) (46 ∷ quoted p.name) (flat_map value_text p.values)

next_part : (parts : List (List ℕ)) (rest : List ℕ) (p : Parts) → AreParts p → opened parts ++ rest ≡ parts_text p → NextPart parts rest
next_part [] rest p h e = record { p = p.ns; others = 46 ∷ (quoted p.name ++ flat_map value_text p.values); utf8 = h.ns; split = e ∙ text_cut p; after = refl }
next_part (ns ∷ []) rest p h e =
    let whole : quoted ns ++ 46 ∷ rest ≡ quoted p.ns ++ 46 ∷ (quoted p.name ++ flat_map value_text p.values) = sym (append_assoc (quoted ns) (46 ∷ []) rest) ∙ e ∙ text_cut p in
    let two = quoted_split ns p.ns (46 ∷ rest) (46 ∷ (quoted p.name ++ flat_map value_text p.values)) (after_dot rest) (after_dot (quoted p.name ++ flat_map value_text p.values)) whole in
    let tails : 46 ∷ rest ≡ 46 ∷ (quoted p.name ++ flat_map value_text p.values) = two.1 in
    let same : rest ≡ quoted p.name ++ flat_map value_text p.values = cc in
    record { p = p.name; others = flat_map value_text p.values; utf8 = h.name; split = same; after = after_name ns p.values h.some }
next_part (ns ∷ name ∷ values) rest p h e =
    let vs = flat_map value_text values in let ws = flat_map value_text p.values in
    let cut : opened (ns ∷ name ∷ values) ++ rest ≡ quoted ns ++ 46 ∷ (quoted name ++ (vs ++ 47 ∷ rest)) =
    append_assoc (quoted ns ++ 46 ∷ quoted name ++ vs) (47 ∷ []) rest ∙ append_assoc (quoted ns ++ 46 ∷ quoted name) vs (47 ∷ rest) ∙ append_assoc (quoted ns) (46 ∷ quoted name) (vs ++ 47 ∷ rest) in
    let whole : quoted ns ++ 46 ∷ (quoted name ++ (vs ++ 47 ∷ rest)) ≡ quoted p.ns ++ 46 ∷ (quoted p.name ++ ws) = sym cut ∙ e ∙ text_cut p in
    let two = quoted_split ns p.ns (46 ∷ (quoted name ++ (vs ++ 47 ∷ rest))) (46 ∷ (quoted p.name ++ ws)) (after_dot (quoted name ++ (vs ++ 47 ∷ rest))) (after_dot (quoted p.name ++ ws)) whole in
    let tails : 46 ∷ (quoted name ++ (vs ++ 47 ∷ rest)) ≡ 46 ∷ (quoted p.name ++ ws) = two.1 in
    let names : quoted name ++ (vs ++ 47 ∷ rest) ≡ quoted p.name ++ ws = cc in
    let three = quoted_split name p.name (vs ++ 47 ∷ rest) ws (apart_more values rest) (apart_values p.values) names in
    next_value ns name values values p.values rest h.values three.1

-- ---- within a part

doubled_end : (b : ℕ) (bs us : List ℕ) (t : Bool) → (b == 34) ≡ t → IsApart us → 34 ∷ us ≡ (if t then 34 ∷ 34 ∷ [] else b ∷ []) ++ bs → ⊥
doubled_end b bs us true e h is = let same : us ≡ 34 ∷ bs = cc in subst IsApart same h refl
doubled_end b bs us false e h is = let same : b ≡ 34 = cc in let t : (b == 34) ≡ true = (Decides-eqb b 34).1 same in cc

first_of_two : (x y : ℕ) (xs ys : List ℕ) (b c : Bool) → (x == 34) ≡ b → (y == 34) ≡ c
    → (if b then 34 ∷ 34 ∷ [] else x ∷ []) ++ xs ≡ (if c then 34 ∷ 34 ∷ [] else y ∷ []) ++ ys → (x ≡ y) × (xs ≡ ys)
first_of_two x y xs ys true true e f is = let a : x ≡ 34 = (Decides-eqb x 34).0 e in let b : y ≡ 34 = (Decides-eqb y 34).0 f in (cc, cc)
first_of_two x y xs ys true false e f is = let same : y ≡ 34 = cc in let t : (y == 34) ≡ true = (Decides-eqb y 34).1 same in absurd cc
first_of_two x y xs ys false true e f is = let same : x ≡ 34 = cc in let t : (x == 34) ≡ true = (Decides-eqb x 34).1 same in absurd cc
first_of_two x y xs ys false false e f is = (cc, cc)

record Longer (front part rest others : List ℕ) : Type 0 where
  pub more : List ℕ
  pub whole : part ≡ front ++ more
  pub split : rest ≡ flat_map doubled more ++ 34 ∷ others

longer : (front part rest others : List ℕ) → IsApart others → flat_map doubled front ++ rest ≡ flat_map doubled part ++ 34 ∷ others → Longer front part rest others
longer [] part rest others h e = record { more = part; whole = refl; split = e }
longer (c ∷ front) [] rest others h e = absurd (doubled_end c (flat_map doubled front ++ rest) others (c == 34) refl h (sym e ∙ append_assoc (doubled c) (flat_map doubled front) rest))
longer (c ∷ front) (d ∷ part) rest others h e =
    let both = first_of_two c d (flat_map doubled front ++ rest) (flat_map doubled part ++ 34 ∷ others) (c == 34) (d == 34) refl refl
    (sym (append_assoc (doubled c) (flat_map doubled front) rest) ∙ e ∙ append_assoc (doubled d) (flat_map doubled part) (34 ∷ others)) in
    let l = longer front part rest others h both.1 in
    let same : c ≡ d = both.0 in let tail : part ≡ front ++ l.more = l.whole in
    record { more = l.more; whole = cc; split = l.split }

record Inside (parts : List (List ℕ)) (current rest : List ℕ) : Type 0 where
  pub more : List ℕ
  pub others : List ℕ
  pub utf8 : IsUtf8 (current ++ more)
  pub split : rest ≡ flat_map doubled more ++ 34 ∷ others
  pub after : IsAfter parts others

inside : (parts : List (List ℕ)) (current rest : List ℕ) (p : Parts) → AreParts p → opened parts ++ 34 ∷ (flat_map doubled current ++ rest) ≡ parts_text p → Inside parts current rest
inside parts current rest p h e =
    let n = next_part parts (34 ∷ (flat_map doubled current ++ rest)) p h e in
    let cut : 34 ∷ (flat_map doubled current ++ rest) ≡ 34 ∷ (flat_map doubled n.p ++ 34 ∷ n.others) = n.split ∙ append_assoc (34 ∷ flat_map doubled n.p) (34 ∷ []) n.others in
    let inner : flat_map doubled current ++ rest ≡ flat_map doubled n.p ++ 34 ∷ n.others = cc in
    let l = longer current n.p rest n.others (apart_after parts n.others n.after) inner in
    record { more = l.more; others = n.others; utf8 = subst IsUtf8 l.whole n.utf8; split = l.split; after = n.after }

-- ---- bytes with which no key text goes on

regroup : (bytes rest : List ℕ) (b : ℕ) → (bytes ++ b ∷ []) ++ rest ≡ bytes ++ b ∷ rest
regroup bytes rest b = append_assoc bytes (b ∷ []) rest

first_same : (b : ℕ) (rest part others : List ℕ) → b ∷ rest ≡ quoted part ++ others → b ≡ 34
first_same b rest part others e = cc

pub no_before : (parts : List (List ℕ)) (b : ℕ) → b ≢ 34 → ¬ (BeginsKey (opened parts ++ b ∷ []))
no_before parts b other (more, (p, k)) = let n = next_part parts (b ∷ more) p k.parts (sym (regroup (opened parts) more b) ∙ k.is) in other (first_same b more n.p n.others n.split)

head_same : (b c : ℕ) (rest more others : List ℕ) (t : Bool) → (c == 34) ≡ t → b ∷ rest ≡ ((if t then 34 ∷ 34 ∷ [] else c ∷ []) ++ flat_map doubled more) ++ 34 ∷ others → b ≡ c
head_same b c rest more others true e is = let same : c ≡ 34 = (Decides-eqb c 34).0 e in let quote : b ≡ 34 = cc in cc
head_same b c rest more others false e is = cc

-- what is within, with what follows
within_text : (parts : List (List ℕ)) (current more : List ℕ) (b : ℕ) → ((opened parts ++ 34 ∷ flat_map doubled current) ++ b ∷ []) ++ more ≡ opened parts ++ 34 ∷ (flat_map doubled current ++ b ∷ more)
within_text parts current more b = regroup (opened parts ++ 34 ∷ flat_map doubled current) more b ∙ append_assoc (opened parts) (34 ∷ flat_map doubled current) (b ∷ more)

lacks_none : (left low high : ℕ) (lacked others : List ℕ) → [] ≡ lacked ++ others → Fits left low high lacked → left ≡ 0
lacks_none zero low high lacked others e f = refl
lacks_none (suc n) low high [] others e f = absurd f
lacks_none (suc n) low high (c ∷ cs) others e f = cc

pub no_within : (parts : List (List ℕ)) (current : List ℕ) (b : ℕ) (w : Wanted) → Wants current w → (b ≡ 34 → 0 < w.left) → ((rest : List ℕ) → ¬ (IsUtf8 (current ++ b ∷ rest))) → ¬ (BeginsKey ((opened parts ++ 34 ∷ flat_map doubled current) ++ b ∷ []))
no_within parts current b w k quote never (rest, (p, s)) = let i = inside parts current (b ∷ rest) p s.parts (sym (within_text parts current rest b) ∙ s.is) in of i.more i.others i.utf8 i.split
  where
    of : (more others : List ℕ) → IsUtf8 (current ++ more) → b ∷ rest ≡ flat_map doubled more ++ 34 ∷ others → ⊥
    of [] others u e = let same : b ≡ 34 = cc in let g = k.goes_on [] u in absurd (omega (arith, quote same, lacks_none w.left w.low w.high g.lacked g.others g.split g.fits))
    of (c ∷ more) others u e = let same : b ≡ c = head_same b c rest more others (c == 34) refl e in never more (subst (λ x. IsUtf8 (current ++ x ∷ more)) (sym same) u)

behind_text : (parts : List (List ℕ)) (current more : List ℕ) (b : ℕ) → ((opened parts ++ quoted current) ++ b ∷ []) ++ more ≡ opened parts ++ 34 ∷ (flat_map doubled current ++ 34 ∷ b ∷ more)
behind_text parts current more b = regroup (opened parts ++ quoted current) more b ∙ append_assoc (opened parts) (quoted current) (b ∷ more) ∙ ap (λ xs. opened parts ++ xs) (append_assoc (34 ∷ flat_map doubled current) (34 ∷ []) (b ∷ more))

second_is : (b c : ℕ) (rest more others : List ℕ) (t : Bool) → (c == 34) ≡ t → 34 ∷ b ∷ rest ≡ ((if t then 34 ∷ 34 ∷ [] else c ∷ []) ++ flat_map doubled more) ++ 34 ∷ others → b ≡ 34
second_is b c rest more others true e is = cc
second_is b c rest more others false e is = let same : c ≡ 34 = cc in let t : (c == 34) ≡ true = (Decides-eqb c 34).1 same in absurd cc

pub no_behind : (parts : List (List ℕ)) (current : List ℕ) (b : ℕ) → b ≢ 34 → b ≢ separator parts → ¬ (BeginsKey ((opened parts ++ quoted current) ++ b ∷ []))
no_behind parts current b other apart (rest, (p, s)) = let i = inside parts current (34 ∷ b ∷ rest) p s.parts (sym (behind_text parts current rest b) ∙ s.is) in of i.more i.others i.after i.split
  where
    then_is : (others : List ℕ) → b ∷ rest ≡ others → IsAfter parts others → ⊥
    then_is [] e h = cc
    then_is (x ∷ xs) e h = let same : b ≡ x = cc in apart (same ∙ h)

    of : (more others : List ℕ) → IsAfter parts others → 34 ∷ b ∷ rest ≡ flat_map doubled more ++ 34 ∷ others → ⊥
    of [] others h e = let tail : b ∷ rest ≡ others = cc in then_is others tail h
    of (c ∷ more) others h e = other (second_is b c rest more others (c == 34) refl e)

-- ---- bytes that are no key text

-- a text that ends before a part, or within one
pub not_before : (parts : List (List ℕ)) → ¬ (IsKeyText (opened parts))
not_before parts (p, k) = let n = next_part parts [] p k.parts (append-nil (opened parts) ∙ k.is) in of n.p n.others n.split
  where
    of : (part others : List ℕ) → [] ≡ quoted part ++ others → ⊥
    of part others e = cc

pub not_within : (parts : List (List ℕ)) (current : List ℕ) → ¬ (IsKeyText (opened parts ++ 34 ∷ flat_map doubled current))
not_within parts current (p, k) = let i = inside parts current [] p k.parts (ap (λ xs. opened parts ++ 34 ∷ xs) (append-nil (flat_map doubled current)) ∙ k.is) in omega (arith, ap length i.split, length-append (flat_map doubled i.more) (34 ∷ i.others))

doubled_some : (c : ℕ) (rest : List ℕ) (t : Bool) → 0 < length ((if t then 34 ∷ 34 ∷ [] else c ∷ []) ++ rest)
doubled_some c rest true = omega arith
doubled_some c rest false = omega arith

pub not_behind : (parts : List (List ℕ)) (current : List ℕ) → length parts < 2 → ¬ (IsKeyText (opened parts ++ quoted current))
not_behind parts current few (p, k) = let i = inside parts current (34 ∷ []) p k.parts k.is in of i.more i.others i.after i.split
  where
    then_none : (others : List ℕ) → [] ≡ others → IsAfter parts others → ⊥
    then_none [] e h = absurd (omega (arith, few, h))
    then_none (x ∷ xs) e h = cc

    of : (more others : List ℕ) → IsAfter parts others → 34 ∷ [] ≡ flat_map doubled more ++ 34 ∷ others → ⊥
    of [] others h e = let tail : [] ≡ others = cc in then_none others tail h
    of (c ∷ more) others h e = absurd (omega (arith, ap length e, length-append (flat_map doubled (c ∷ more)) (34 ∷ others), doubled_some c (flat_map doubled more) (c == 34)))

-- ---- bytes that are a key text

last_some : (values : List (List ℕ)) (p : List ℕ) → 0 < length (values ++ p ∷ [])
last_some values p = omega (arith, length-append values (p ∷ []))

pub is_read : (parts : List (List ℕ)) (current : List ℕ) → AreTexts parts → IsUtf8 current → 1 < length parts → IsReadAs (opened parts ++ quoted current) (parts ++ current ∷ [])
is_read [] current h u long = absurd (omega (arith, long))
is_read (ns ∷ []) current h u long = absurd (omega (arith, long))
is_read (ns ∷ name ∷ values) current h u long = (
  record { ns = ns; name = name; values = values ++ current ∷ [] },
  refl,
  record {
    parts = record { ns = h.0; name = h.1.0; values = are_more values current h.1.1 u; some = last_some values current };
    is = joined_more (ns ∷ name ∷ values) current;
  },
)

-- ---- what has been read begins a key text

pub begins_front : (front more : List ℕ) → BeginsKey (front ++ more) → BeginsKey front
begins_front front more (rest, (p, k)) = (more ++ rest, (p, record { parts = k.parts; is = sym (append_assoc front more rest) ∙ k.is }))

no_text : IsUtf8 []
no_text = IsUtf8-nil

begins_joined : (parts : List (List ℕ)) → AreTexts parts → BeginsKey (joined parts)
begins_joined [] h = let p : Parts = record { ns = []; name = []; values = [] ∷ [] } in (parts_text p, (p, record { parts = record { ns = no_text; name = no_text; values = (no_text, tt); some = omega arith }; is = refl }))
begins_joined (ns ∷ []) h =
    let p : Parts = record { ns = ns; name = []; values = [] ∷ [] } in
    let last = flat_map value_text ([] ∷ []) in
    (46 ∷ (quoted [] ++ last), (p, record { parts = record { ns = h.0; name = no_text; values = (no_text, tt); some = omega arith }; is = sym (text_cut p) }))
begins_joined (ns ∷ name ∷ []) h =
    let p : Parts = record { ns = ns; name = name; values = [] ∷ [] } in
    let last = flat_map value_text ([] ∷ []) in
    (last, (p, record { parts = record { ns = h.0; name = h.1.0; values = (no_text, tt); some = omega arith }; is = ap (λ xs. xs ++ last) (append-nil (quoted ns ++ 46 ∷ quoted name)) }))
begins_joined (ns ∷ name ∷ v ∷ values) h =
    let p : Parts = record { ns = ns; name = name; values = v ∷ values } in
    ([], (p, record { parts = record { ns = h.0; name = h.1.0; values = h.1.1; some = omega arith }; is = append-nil (joined (ns ∷ name ∷ v ∷ values)) }))

pub once : (b : ℕ) → b ≢ 34 → doubled b ≡ b ∷ []
once b other = of (b == 34) refl
  where
    of : (t : Bool) → (b == 34) ≡ t → (if t then 34 ∷ 34 ∷ [] else b ∷ []) ≡ b ∷ []
    of true e = absurd (other ((Decides-eqb b 34).0 e))
    of false e = refl

-- some bytes fit, and have no quote
record Filled (left low high : ℕ) : Type 0 where
  pub lacked : List ℕ
  pub fits : Fits left low high lacked
  pub once : flat_map doubled lacked ≡ lacked

filled : (left low high : ℕ) → 128 ≤ low → low ≤ high → Filled left low high
filled zero low high a h = record { lacked = []; fits = tt; once = refl }
filled (suc n) low high a h =
    let rest = filled n 128 191 (omega arith) (omega arith) in
    let first : doubled low ≡ low ∷ [] = once low (λ e. absurd (omega (arith, e, a))) in
    record { lacked = low ∷ rest.lacked; fits = (omega arith, h, rest.fits); once = ap (λ xs. xs ++ flat_map doubled rest.lacked) first ∙ ap (λ xs. low ∷ xs) rest.once }

begins_part : (parts : List (List ℕ)) (p : List ℕ) → AreTexts parts → IsUtf8 p → BeginsKey (opened parts ++ quoted p)
begins_part parts p h u = subst BeginsKey (sym (joined_more parts p)) (begins_joined (parts ++ p ∷ []) (are_more parts p h u))

filled_text : (parts : List (List ℕ)) (current lacked : List ℕ) → flat_map doubled lacked ≡ lacked → (opened parts ++ 34 ∷ flat_map doubled current) ++ (lacked ++ 34 ∷ []) ≡ opened parts ++ quoted (current ++ lacked)
filled_text parts current lacked e =
    append_assoc (opened parts) (34 ∷ flat_map doubled current) (lacked ++ 34 ∷ [])
    ∙ ap (λ xs. opened parts ++ xs) (sym (append_assoc (34 ∷ flat_map doubled current) lacked (34 ∷ []))
    ∙ ap (λ xs. 34 ∷ xs ++ 34 ∷ []) (ap (λ xs. flat_map doubled current ++ xs) (sym e) ∙ sym (flat_map-append doubled current lacked)))

pub begins : (spot : Spot) (parts : List (List ℕ)) (current : List ℕ) → AreTexts parts → IsPart spot current → BeginsKey (spelled spot parts current)
begins Before parts current h k = begins_front (opened parts) (quoted []) (begins_part parts [] h no_text)
begins (Within w) parts current h k =
    let f = filled w.left w.low w.high k.no_ascii k.range in
    begins_front (opened parts ++ 34 ∷ flat_map doubled current) (f.lacked ++ 34 ∷ []) (subst BeginsKey (sym (filled_text parts current f.lacked f.once)) (begins_part parts (current ++ f.lacked) h (k.whole f.lacked f.fits)))
begins Behind parts current h k = begins_part parts current h k

-- ---- what each byte adds

pub first_quote : (parts : List (List ℕ)) (current : List ℕ) → current ≡ [] → opened parts ++ 34 ∷ flat_map doubled current ≡ opened parts ++ 34 ∷ []
first_quote parts current is = ap (λ xs. opened parts ++ 34 ∷ flat_map doubled xs) is

pub one_more : (parts : List (List ℕ)) (current : List ℕ) (b : ℕ) → b ≢ 34 → opened parts ++ 34 ∷ flat_map doubled (current ++ b ∷ []) ≡ (opened parts ++ 34 ∷ flat_map doubled current) ++ b ∷ []
one_more parts current b other =
    let last : flat_map doubled (b ∷ []) ≡ b ∷ [] = append-nil (doubled b) ∙ once b other in
    ap (λ xs. opened parts ++ 34 ∷ xs) (flat_map-append doubled current (b ∷ []) ∙ ap (λ xs. flat_map doubled current ++ xs) last) ∙ sym (append_assoc (opened parts) (34 ∷ flat_map doubled current) (b ∷ []))

pub last_quote : (parts : List (List ℕ)) (current : List ℕ) → opened parts ++ quoted current ≡ (opened parts ++ 34 ∷ flat_map doubled current) ++ 34 ∷ []
last_quote parts current = sym (append_assoc (opened parts) (34 ∷ flat_map doubled current) (34 ∷ []))

pub two_quotes : (parts : List (List ℕ)) (current : List ℕ) → opened parts ++ 34 ∷ flat_map doubled (current ++ 34 ∷ []) ≡ (opened parts ++ quoted current) ++ 34 ∷ []
two_quotes parts current =
    ap (λ xs. opened parts ++ 34 ∷ xs) (flat_map-append doubled current (34 ∷ []))
    ∙ ap (λ xs. opened parts ++ xs) (sym (append_assoc (34 ∷ flat_map doubled current) (34 ∷ []) (34 ∷ []))) ∙ sym (append_assoc (opened parts) (quoted current) (34 ∷ []))

-- ---- the parts of a key text are told by it

values_told : (vs ws : List (List ℕ)) → flat_map value_text vs ≡ flat_map value_text ws → vs ≡ ws
values_told [] [] e = refl
values_told [] (w ∷ ws) e = cc
values_told (v ∷ vs) [] e = cc
values_told (v ∷ vs) (w ∷ ws) e =
    let inner : quoted v ++ flat_map value_text vs ≡ quoted w ++ flat_map value_text ws = cc in
    let two = quoted_split v w (flat_map value_text vs) (flat_map value_text ws) (apart_values vs) (apart_values ws) inner in
    let head : v ≡ w = two.0 in let tail : vs ≡ ws = values_told vs ws two.1 in cc

pub parts_told : (p q : Parts) → parts_text p ≡ parts_text q → in_one p ≡ in_one q
parts_told p q e =
    let mine = quoted p.name ++ flat_map value_text p.values in
    let other = quoted q.name ++ flat_map value_text q.values in
    let one = quoted_split p.ns q.ns (46 ∷ mine) (46 ∷ other) (after_dot mine) (after_dot other) (sym (text_cut p) ∙ e ∙ text_cut q) in
    let rest : 46 ∷ mine ≡ 46 ∷ other = one.1 in
    let tails : mine ≡ other = cc in
    let two = quoted_split p.name q.name (flat_map value_text p.values) (flat_map value_text q.values) (apart_values p.values) (apart_values q.values) tails in
    let a : p.ns ≡ q.ns = one.0 in let b : p.name ≡ q.name = two.0 in let c : p.values ≡ q.values = values_told p.values q.values two.1 in cc

pub read_back : (text : List ℕ) (texts : List (List ℕ)) → IsReadAs text texts → (p : Parts) → Spells p text → texts ≡ in_one p
read_back text texts (q, is, s) p t = is ∙ parts_told q p (sym s.is ∙ t.is)

-- ---- at a spot

pub part_at : (spot other : Spot) (current : List ℕ) → spot ≡ other → IsPart spot current → IsPart other current
part_at spot other current is h = subst (λ (s : Spot). IsPart s current) is h

pub text_at : (spot other : Spot) (parts : List (List ℕ)) (current text : List ℕ) (b : ℕ) → spot ≡ other → text ≡ spelled other parts current ++ b ∷ [] → text ≡ spelled spot parts current ++ b ∷ []
text_at spot other parts current text b is h = subst (λ (s : Spot). text ≡ spelled s parts current ++ b ∷ []) (sym is) h

pub none_at : (spot other : Spot) (parts : List (List ℕ)) (current : List ℕ) (b : ℕ) → spot ≡ other → ¬ (BeginsKey (spelled other parts current ++ b ∷ [])) → ¬ (BeginsKey (spelled spot parts current ++ b ∷ []))
none_at spot other parts current b is h = subst (λ (s : Spot). ¬ (BeginsKey (spelled s parts current ++ b ∷ []))) (sym is) h

-- ---- the place

-- the byte in a place is one with which no key text goes on
pub refused_at : (text : List ℕ) (i b : ℕ) → i < length text → b ≡ get_or text i 0 → BeginsKey (take i text) → ¬ (BeginsKey (take i text ++ b ∷ [])) → ¬ (IsKeyText text) × IsLongestFront text i
refused_at text i b lt is begun none = (whole, record { within = omega (arith, lt); begins = begun; longest = longest })
  where
    front : take (suc i) text ≡ take i text ++ b ∷ []
    front = take-suc text i 0 lt ∙ ap (λ x. take i text ++ x ∷ []) (sym is)

    no_front : ¬ (BeginsKey (take (suc i) text))
    no_front h = none (subst BeginsKey front h)

    longest : (m : ℕ) → i < m → m ≤ length text → ¬ (BeginsKey (take m text))
    longest m more le h =
        let cut : take (suc i) text ++ drop (suc i) (take m text) ≡ take m text = ap (λ xs. xs ++ drop (suc i) (take m text)) (sym (take-take (suc i) m text (omega (arith, more)))) ∙ take-append-drop (suc i) (take m text) in
        no_front (begins_front (take (suc i) text) (drop (suc i) (take m text)) (subst BeginsKey (sym cut) h))

    whole : ¬ (IsKeyText text)
    whole h = no_front (begins_front (take (suc i) text) (drop (suc i) text) (subst BeginsKey (sym (take-append-drop (suc i) text)) ([], subst IsKeyText (sym (append-nil text)) h)))

-- a longer text would be one
pub ended_at : (text : List ℕ) → BeginsKey text → ¬ (IsKeyText text) → ¬ (IsKeyText text) × IsLongestFront text (length text)
ended_at text begun none = (
  none,
  record {
    within = omega arith;
    begins = subst BeginsKey (sym (take_all (length text) text (omega arith))) begun;
    longest = λ m more le. absurd (omega (arith, more, le));
  },
)

pub not_key : (spot : Spot) (parts : List (List ℕ)) (current : List ℕ) → spot ≢ Behind → ¬ (IsKeyText (spelled spot parts current))
not_key Before parts current h = not_before parts
not_key (Within w) parts current h = not_within parts current
not_key Behind parts current h = absurd (h refl)
