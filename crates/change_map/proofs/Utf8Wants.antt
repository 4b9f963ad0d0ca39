-- What UTF-8 wants after some bytes.
use Rattle.std.proofs.Common.{◌≡◌, ◌≢◌, ℕ, suc, ◌+◌, ◌-◌, ◌*◌, ◌<◌, ◌≤◌, true, List, [], ◌∷◌, ◌++◌, length, refl, sym, ◌∙◌, ap, subst, arith, append_assoc, append-nil, inl, inr, ◌⊎◌}
use Rattle.std.specs.Str.{IsUtf8}
use Rattle.std.proofs.Math.Utf8.{encode, encodes, scalars, scalar, scalar_cases}
use Rattle.std.proofs.lemmas.Str.{IsUtf8-append}
use Rattle.std.proofs.lemmas.List.{take_at, drop_at}
use Rattle.std.proofs.iter.FirstChar.{after_text}
use Rattle.std.proofs.str.Laws.{Scalar, Follows, Shape, of1, of2, of3, of4, shape, both, order, one, two, three}
use Rattle.std.proofs.str.Valid.{of_one, of_two, of_three, of_four}
use Rattle.std.specs.Option.{MatchOption}
use Rattle.std.specs.Prelude.{Option, None, Some}
use Rattle.change_map.specs.declared.wanted.Wanted.{Wanted}
use Rattle.change_map.specs.Reading.{Fits, GoesOn, IsWanted, Wants}

-- ---- the first character of a text

record Head (b : ℕ) (rest : List ℕ) : Type 0 where
  pub c : ℕ
  pub others : List ℕ
  pub is : Scalar c
  pub utf8 : IsUtf8 others
  pub split : b ∷ rest ≡ encode c ++ others

head_of : (b : ℕ) (rest cs : List ℕ) → scalars cs ≡ true → encodes cs ≡ b ∷ rest → Head b rest
head_of b rest [] s e = cc
head_of b rest (c ∷ cs) s e = record { c = c; others = encodes cs; is = scalar_cases c (both (scalar c) (scalars cs) s).0; utf8 = (cs, ((both (scalar c) (scalars cs) s).1, refl)); split = sym e }

head : (b : ℕ) (rest : List ℕ) → IsUtf8 (b ∷ rest) → Head b rest
head b rest u = head_of b rest u.0 u.1.0 u.1.1

-- ---- the bytes of a character

-- a character's first byte, and the bytes behind it
data Spelt (c b : ℕ) (rest others : List ℕ) : Type 0 where
  spelt1 : c ≡ b → c < 128 → rest ≡ others → Spelt c b rest others
  spelt2 : (y : ℕ) → 194 ≤ b → b < 224 → Follows y → rest ≡ y ∷ others → Spelt c b rest others
  spelt3 : (y z : ℕ) → 224 ≤ b → b < 240 → Follows y → Follows z → c + 925824 ≡ b * 4096 + y * 64 + z → 2048 ≤ c → rest ≡ y ∷ z ∷ others → Spelt c b rest others
  spelt4 : (y z w : ℕ) → 240 ≤ b → b < 245 → Follows y → Follows z → Follows w → c + 63447168 ≡ b * 262144 + y * 4096 + z * 64 + w → 65536 ≤ c → rest ≡ y ∷ z ∷ w ∷ others → Spelt c b rest others

past_one : (c : ℕ) → 1 < length (encode c) → 128 ≤ c
past_one c h = elim (order c 128) [ inl l ↦ absurd (omega (arith, h, ap length (one c l))) | inr l ↦ l ]

past_two : (c : ℕ) → 2 < length (encode c) → 2048 ≤ c
past_two c h = elim (order c 2048) [ inl l ↦ absurd (omega (arith, h, ap length (two c (past_one c (omega (arith, h))) l))) | inr l ↦ l ]

past_three : (c : ℕ) → 3 < length (encode c) → 65536 ≤ c
past_three c h = elim (order c 65536) [ inl l ↦ absurd (omega (arith, h, ap length (three c (past_two c (omega (arith, h))) l))) | inr l ↦ l ]

below : (c : ℕ) → Scalar c → c < 1114112
below c (inl h) = omega arith
below c (inr h) = h.1

spelt_of : (c b : ℕ) (rest others : List ℕ) → Scalar c → Shape c → b ∷ rest ≡ encode c ++ others → Spelt c b rest others
spelt_of c b rest others s (of1 l e) is = let same : b ∷ rest ≡ c ∷ others = is ∙ ap (λ bs. bs ++ others) e in let first : c ≡ b = cc in spelt1 first l cc
spelt_of c b rest others s (of2 x y l u f k e) is =
    let same : b ∷ rest ≡ x ∷ y ∷ others = is ∙ ap (λ bs. bs ++ others) e in
    let first : b ≡ x = cc in let least : 128 ≤ c = past_one c (omega (arith, ap length e)) in
    spelt2 y (omega (arith, first, least, k, f)) (omega (arith, first, u)) f cc
spelt_of c b rest others s (of3 x y z l u f g k e) is =
    let same : b ∷ rest ≡ x ∷ y ∷ z ∷ others = is ∙ ap (λ bs. bs ++ others) e in
    let first : b ≡ x = cc in let least : 2048 ≤ c = past_two c (omega (arith, ap length e)) in
    spelt3 y z (omega (arith, first, l)) (omega (arith, first, u)) f g (omega (arith, first, k)) least cc
spelt_of c b rest others s (of4 x y z w l u f g h k e) is =
    let same : b ∷ rest ≡ x ∷ y ∷ z ∷ w ∷ others = is ∙ ap (λ bs. bs ++ others) e in
    let first : b ≡ x = cc in let least : 65536 ≤ c = past_three c (omega (arith, ap length e)) in let most = below c s in
    spelt4 y z w (omega (arith, first, l)) (omega (arith, first, k, most, f, g, h)) f g h (omega (arith, first, k)) least cc

-- ---- nothing is wanted after whole characters

utf8_rest : (bytes rest : List ℕ) → IsUtf8 bytes → IsUtf8 (bytes ++ rest) → IsUtf8 rest
utf8_rest bytes rest u v = subst IsUtf8 (drop_at bytes rest (length bytes) refl) (after_text (bytes ++ rest) (length bytes) v (subst IsUtf8 (sym (take_at bytes rest (length bytes) refl)) u))

fits_none : (low high : ℕ) (cs : List ℕ) → Fits 0 low high cs → cs ≡ []
fits_none low high [] h = refl
fits_none low high (c ∷ cs) h = absurd h

pub wants_nothing : (bytes : List ℕ) → IsUtf8 bytes → IsWanted bytes 0 128 191
wants_nothing bytes u = record {
  no_ascii = omega arith;
  range = omega arith;
  whole = λ cs h. subst (λ xs. IsUtf8 (bytes ++ xs)) (sym (fits_none 128 191 cs h)) (subst IsUtf8 (sym (append-nil bytes)) u);
  goes_on = λ rest v. record { lacked = []; others = rest; split = refl; fits = tt; utf8 = utf8_rest bytes rest u v };
}

-- ---- what is wanted after the first byte of a character

record Spelling (b : ℕ) (rest : List ℕ) : Type 0 where
  pub c : ℕ
  pub others : List ℕ
  pub is : Scalar c
  pub utf8 : IsUtf8 others
  pub spelt : Spelt c b rest others

spelling : (b : ℕ) (rest : List ℕ) → IsUtf8 (b ∷ rest) → Spelling b rest
spelling b rest u = let h = head b rest u in record { c = h.c; others = h.others; is = h.is; utf8 = h.utf8; spelt = spelt_of h.c b rest h.others h.is (shape h.c h.is) h.split }

-- bytes that begin no character
never : (b : ℕ) → 128 ≤ b → (b < 194) ⊎ (245 ≤ b) → (rest : List ℕ) → ¬ (IsUtf8 (b ∷ rest))
never b some out rest u = elim ((spelling b rest u).spelt) [
  | spelt1 e l r ↦ absurd (omega (arith, e, l, some))
  | spelt2 y l h f r ↦ elim out [ inl o ↦ absurd (omega (arith, l, o)) | inr o ↦ absurd (omega (arith, h, o)) ]
  | spelt3 y z l h f g k m r ↦ elim out [ inl o ↦ absurd (omega (arith, l, o)) | inr o ↦ absurd (omega (arith, h, o)) ]
  | spelt4 y z w l h f g j k m r ↦ elim out [ inl o ↦ absurd (omega (arith, l, o)) | inr o ↦ absurd (omega (arith, h, o)) ]
]

pub wants_ascii : (b : ℕ) → b < 128 → IsWanted (b ∷ []) 0 128 191
wants_ascii b h = wants_nothing (b ∷ []) (of_one (b ∷ []) 0 (omega arith) h)

pub wants_one : (b : ℕ) → 194 ≤ b → b < 224 → IsWanted (b ∷ []) 1 128 191
wants_one b l h = record {
  no_ascii = omega arith;
  range = omega arith;
  whole = whole;
  goes_on = λ rest u. let s = spelling b rest u in after_one rest s.c s.others s.utf8 s.spelt;
}
  where
    whole : (cs : List ℕ) → Fits 1 128 191 cs → IsUtf8 (b ∷ cs)
    whole [] f = absurd f
    whole (y ∷ []) f = of_two (b ∷ y ∷ []) 0 (omega arith) (l, h) (f.0, omega (arith, f.1))
    whole (y ∷ z ∷ cs) f = absurd f.2

    after_one : (rest : List ℕ) (c : ℕ) (others : List ℕ) → IsUtf8 others → Spelt c b rest others → GoesOn 1 128 191 rest
    after_one rest c others u (spelt1 e k r) = absurd (omega (arith, e, k, l))
    after_one rest c others u (spelt2 y m n f r) = record { lacked = y ∷ []; others = others; split = r; fits = (f.0, omega (arith, f.1), tt); utf8 = u }
    after_one rest c others u (spelt3 y z m n f g k o r) = absurd (omega (arith, m, h))
    after_one rest c others u (spelt4 y z w m n f g j k o r) = absurd (omega (arith, m, h))

-- the second byte of three, without the shorter spellings and the surrogates
pub record IsSecondOfThree (b low high : ℕ) : Type 0 where
  pub lead : (224 ≤ b) × (b < 240)
  pub no_ascii : 128 ≤ low
  pub range : low ≤ high
  pub going : high ≤ 191
  pub good : (y : ℕ) → low ≤ y → y ≤ high → (2048 ≤ (b - 224) * 4096 + (y - 128) * 64) × (((b - 224) * 4096 + (y - 128) * 64 + 64 ≤ 55296) ⊎ (57344 ≤ (b - 224) * 4096 + (y - 128) * 64))
  pub only : (y z c : ℕ) → Follows y → Follows z → c + 925824 ≡ b * 4096 + y * 64 + z → 2048 ≤ c → Scalar c → (low ≤ y) × (y ≤ high)

pub wants_two : (b low high : ℕ) → IsSecondOfThree b low high → IsWanted (b ∷ []) 2 low high
wants_two b low high k = record {
  no_ascii = k.no_ascii;
  range = k.range;
  whole = whole;
  goes_on = λ rest u. let s = spelling b rest u in after_two rest s.c s.others s.is s.utf8 s.spelt;
}
  where
    side : (x z : ℕ) → Follows z → (x + 64 ≤ 55296) ⊎ (57344 ≤ x) → (x + (z - 128) < 55296) ⊎ (57344 ≤ x + (z - 128))
    side x z f (inl p) = inl (omega (arith, f.0, f.1, p))
    side x z f (inr p) = inr (omega (arith, p))

    whole : (cs : List ℕ) → Fits 2 low high cs → IsUtf8 (b ∷ cs)
    whole [] f = absurd f
    whole (y ∷ []) f = absurd f.2
    whole (y ∷ z ∷ []) f =
        let s = k.good y f.0 f.1 in let g : Follows z = (f.2.0, omega (arith, f.2.1)) in
        of_three (b ∷ y ∷ z ∷ []) 0 (omega arith) k.lead (omega (arith, k.no_ascii, f.0), omega (arith, k.going, f.1)) g (omega (arith, s.0)) (side ((b - 224) * 4096 + (y - 128) * 64) z g s.1)
    whole (y ∷ z ∷ w ∷ cs) f = absurd f.2.2

    after_two : (rest : List ℕ) (c : ℕ) (others : List ℕ) → Scalar c → IsUtf8 others → Spelt c b rest others → GoesOn 2 low high rest
    after_two rest c others v u (spelt1 e m r) = absurd (omega (arith, e, m, k.lead.0))
    after_two rest c others v u (spelt2 y m n f r) = absurd (omega (arith, n, k.lead.0))
    after_two rest c others v u (spelt3 y z m n f g e o r) = let at = k.only y z c f g e o v in record { lacked = y ∷ z ∷ []; others = others; split = r; fits = (at.0, at.1, (g.0, omega (arith, g.1), tt)); utf8 = u }
    after_two rest c others v u (spelt4 y z w m n f g j e o r) = absurd (omega (arith, m, k.lead.1))

-- the second byte of four, without the shorter spellings and what is past the last character
pub record IsSecondOfFour (b low high : ℕ) : Type 0 where
  pub lead : (240 ≤ b) × (b < 245)
  pub no_ascii : 128 ≤ low
  pub range : low ≤ high
  pub going : high ≤ 191
  pub good : (y : ℕ) → low ≤ y → y ≤ high → (16 ≤ (b - 240) * 64 + (y - 128)) × ((b - 240) * 64 + (y - 128) < 272)
  pub only : (y z w c : ℕ) → Follows y → Follows z → Follows w → c + 63447168 ≡ b * 262144 + y * 4096 + z * 64 + w → 65536 ≤ c → c < 1114112 → (low ≤ y) × (y ≤ high)

pub wants_three : (b low high : ℕ) → IsSecondOfFour b low high → IsWanted (b ∷ []) 3 low high
wants_three b low high k = record {
  no_ascii = k.no_ascii;
  range = k.range;
  whole = whole;
  goes_on = λ rest u. let s = spelling b rest u in after_three rest s.c s.others s.is s.utf8 s.spelt;
}
  where
    whole : (cs : List ℕ) → Fits 3 low high cs → IsUtf8 (b ∷ cs)
    whole [] f = absurd f
    whole (y ∷ []) f = absurd f.2
    whole (y ∷ z ∷ []) f = absurd f.2.2
    whole (y ∷ z ∷ w ∷ []) f = of_four (b ∷ y ∷ z ∷ w ∷ []) 0 (omega arith) k.lead.0 (omega (arith, k.no_ascii, f.0), omega (arith, k.going, f.1)) (f.2.0, omega (arith, f.2.1)) (f.2.2.0, omega (arith, f.2.2.1)) (k.good y f.0 f.1)
    whole (y ∷ z ∷ w ∷ v ∷ cs) f = absurd f.2.2.2

    after_three : (rest : List ℕ) (c : ℕ) (others : List ℕ) → Scalar c → IsUtf8 others → Spelt c b rest others → GoesOn 3 low high rest
    after_three rest c others v u (spelt1 e m r) = absurd (omega (arith, e, m, k.lead.0))
    after_three rest c others v u (spelt2 y m n f r) = absurd (omega (arith, n, k.lead.0))
    after_three rest c others v u (spelt3 y z m n f g e o r) = absurd (omega (arith, n, k.lead.0))
    after_three rest c others v u (spelt4 y z w m n f g j e o r) = let at = k.only y z w c f g j e o (below c v) in record { lacked = y ∷ z ∷ w ∷ []; others = others; split = r; fits = (at.0, at.1, (g.0, omega (arith, g.1), (j.0, omega (arith, j.1), tt))); utf8 = u }

-- the rows of the standard's table
pub wants_none : (b : ℕ) → 128 ≤ b → (b < 194) ⊎ (245 ≤ b) → (rest : List ℕ) → ¬ (IsUtf8 (b ∷ rest))
wants_none = never

pub wants_e0 : (b : ℕ) → b ≡ 224 → IsWanted (b ∷ []) 2 160 191
wants_e0 b is = wants_two b 160 191 (record {
  lead = (omega (arith, is), omega (arith, is));
  no_ascii = omega arith;
  range = omega arith;
  going = omega arith;
  good = λ y l h. (omega (arith, is, l, h), inl (omega (arith, is, l, h)));
  only = λ y z c f g e m s. (omega (arith, is, f, g, e, m), omega (arith, f));
})

pub wants_ed : (b : ℕ) → b ≡ 237 → IsWanted (b ∷ []) 2 128 159
wants_ed b is = wants_two b 128 159 (record {
  lead = (omega (arith, is), omega (arith, is));
  no_ascii = omega arith;
  range = omega arith;
  going = omega arith;
  good = λ y l h. (omega (arith, is, l, h), inl (omega (arith, is, l, h)));
  only = λ y z c f g e m s. (omega (arith, f), elim s [ inl k ↦ omega (arith, is, f, g, e, k) | inr k ↦ omega (arith, is, f, g, e, k) ]);
})

pub wants_three_bytes : (b : ℕ) → 225 ≤ b → b < 240 → b ≢ 237 → IsWanted (b ∷ []) 2 128 191
wants_three_bytes b l h other = wants_two b 128 191 (record {
  lead = (omega (arith, l), h);
  no_ascii = omega arith;
  range = omega arith;
  going = omega arith;
  good = λ y m n. (omega (arith, l, m, n), elim (order b 237) [ inl k ↦ inl (omega (arith, l, m, n, k)) | inr k ↦ inr (omega (arith, other, k, m, n)) ]);
  only = λ y z c f g e m s. (f.0, omega (arith, f.1));
})

pub wants_f0 : (b : ℕ) → b ≡ 240 → IsWanted (b ∷ []) 3 144 191
wants_f0 b is = wants_three b 144 191 (record {
  lead = (omega (arith, is), omega (arith, is));
  no_ascii = omega arith;
  range = omega arith;
  going = omega arith;
  good = λ y l h. (omega (arith, is, l, h), omega (arith, is, l, h));
  only = λ y z w c f g j e m t. (omega (arith, is, f, g, j, e, m), omega (arith, f));
})

pub wants_four_bytes : (b : ℕ) → 241 ≤ b → b < 244 → IsWanted (b ∷ []) 3 128 191
wants_four_bytes b l h = wants_three b 128 191 (record {
  lead = (omega (arith, l), omega (arith, h));
  no_ascii = omega arith;
  range = omega arith;
  going = omega arith;
  good = λ y m n. (omega (arith, l, h, m, n), omega (arith, l, h, m, n));
  only = λ y z w c f g j e m t. (f.0, omega (arith, f.1));
})

pub wants_f4 : (b : ℕ) → b ≡ 244 → IsWanted (b ∷ []) 3 128 143
wants_f4 b is = wants_three b 128 143 (record {
  lead = (omega (arith, is), omega (arith, is));
  no_ascii = omega arith;
  range = omega arith;
  going = omega arith;
  good = λ y l h. (omega (arith, is, l, h), omega (arith, is, l, h));
  only = λ y z w c f g j e m t. (f.0, omega (arith, is, f, g, j, e, t));
})

-- ---- what is wanted after one more byte

pub whole_of : (bytes : List ℕ) (left low high : ℕ) → IsWanted bytes left low high → left ≡ 0 → IsUtf8 bytes
whole_of bytes left low high k none = subst IsUtf8 (append-nil bytes) (k.whole [] (subst (λ n. Fits n low high []) (sym none) tt))

regroup : (bytes rest : List ℕ) (b : ℕ) → (bytes ++ b ∷ []) ++ rest ≡ bytes ++ b ∷ rest
regroup bytes rest b = append_assoc bytes (b ∷ []) rest

pub wants_next : (bytes : List ℕ) (n left low high b : ℕ) → left ≡ suc n → IsWanted bytes left low high → low ≤ b → b ≤ high → IsWanted (bytes ++ b ∷ []) n 128 191
wants_next bytes n left low high b is k l h = record {
  no_ascii = omega arith;
  range = omega arith;
  whole = λ cs f. subst IsUtf8 (sym (regroup bytes cs b)) (k.whole (b ∷ cs) (subst (λ m. Fits m low high (b ∷ cs)) (sym is) (l, h, f)));
  goes_on = λ rest u. next rest (subst (λ m. GoesOn m low high (b ∷ rest)) is (k.goes_on (b ∷ rest) (subst IsUtf8 (regroup bytes rest b) u)));
}
  where
    of : (rest cs others : List ℕ) → b ∷ rest ≡ cs ++ others → Fits (suc n) low high cs → IsUtf8 others → GoesOn n 128 191 rest
    of rest [] others e f u = absurd f
    of rest (c ∷ cs) others e f u = record { lacked = cs; others = others; split = cc; fits = f.2; utf8 = u }

    next : (rest : List ℕ) → GoesOn (suc n) low high (b ∷ rest) → GoesOn n 128 191 rest
    next rest g = of rest g.lacked g.others g.split g.fits g.utf8

pub wants_no_next : (bytes : List ℕ) (n left low high b : ℕ) → left ≡ suc n → IsWanted bytes left low high → (b < low) ⊎ (high < b) → (rest : List ℕ) → ¬ (IsUtf8 (bytes ++ b ∷ rest))
wants_no_next bytes n left low high b is k out rest u = next (subst (λ m. GoesOn m low high (b ∷ rest)) is (k.goes_on (b ∷ rest) u))
  where
    of : (cs others : List ℕ) → b ∷ rest ≡ cs ++ others → Fits (suc n) low high cs → ⊥
    of [] others e f = f
    of (c ∷ cs) others e f = let same : b ≡ c = cc in elim out [ inl o ↦ absurd (omega (arith, o, same, f.0)) | inr o ↦ absurd (omega (arith, o, same, f.1)) ]

    next : GoesOn (suc n) low high (b ∷ rest) → ⊥
    next g = of g.lacked g.others g.split g.fits

-- behind whole characters the bytes of the next one decide
pub wants_behind : (bytes : List ℕ) (b : ℕ) (o : Option Wanted) → IsUtf8 bytes → MatchOption o ((rest : List ℕ) → ¬ (IsUtf8 (b ∷ rest))) (Wants (b ∷ [])) → MatchOption o ((rest : List ℕ) → ¬ (IsUtf8 (bytes ++ b ∷ rest))) (Wants (bytes ++ b ∷ []))
wants_behind bytes b None u h = λ rest v. h rest (utf8_rest bytes (b ∷ rest) u v)
wants_behind bytes b (Some w) u h = record {
  no_ascii = h.no_ascii;
  range = h.range;
  whole = λ cs f. subst IsUtf8 (sym (regroup bytes cs b)) (IsUtf8-append bytes (b ∷ cs) u (h.whole cs f));
  goes_on = λ rest v. h.goes_on rest (utf8_rest bytes (b ∷ rest) u (subst IsUtf8 (regroup bytes rest b) v));
}

-- an answer that is there
pub given : (bytes : List ℕ) (b : ℕ) (w : Wanted) (o : Option Wanted) → o ≡ Some w → Wants (bytes ++ b ∷ []) w → MatchOption o ((rest : List ℕ) → ¬ (IsUtf8 (bytes ++ b ∷ rest))) (Wants (bytes ++ b ∷ []))
given bytes b w o is h = subst (λ (x : Option Wanted). MatchOption x ((rest : List ℕ) → ¬ (IsUtf8 (bytes ++ b ∷ rest))) (Wants (bytes ++ b ∷ []))) (sym is) h
