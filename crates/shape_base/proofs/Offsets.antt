-- The order of offsets, and the entries up to one and past it.
use Rattle.std.proofs.Common.{◌≡◌, ℕ, ◌≤◌, Bool, true, false, List, [], ◌∷◌, ◌++◌, length, take, drop, refl, sym, ◌∙◌, ap, subst, arith}
use Rattle.std.proofs.lemmas.List.{take-append-drop, length-take-le}
use Rattle.std.proofs.lemmas.Bool.{and_parts, and_from, false_from_ne_true}
use Rattle.std.specs.Bool.{if◌then◌else◌}
use Rattle.std.proofs.lemmas.Bool.Decides.{nat_tests}
use Rattle.shape_base.specs.declared.offset.Offset.{Offset}
use Rattle.shape_base.specs.declared.offset.Offset.TheVariants.{Start, At}
use Rattle.shape_base.specs.declared.entry.Entry.{Entry}
use Rattle.shape_base.specs.Log.{last_offset}
use Rattle.shape_base.specs.Offsets.{is_before, rises_after, upto, past}

pub before_trans : (a b c : Offset) → is_before a b ≡ true → is_before b c ≡ true → is_before a c ≡ true
before_trans Start Start c h k = k
before_trans Start (At b j) Start h k = k
before_trans Start (At b j) (At c k) h l = refl
before_trans (At a i) Start c h k = cc
before_trans (At a i) (At b j) Start h k = k
before_trans (At a i) (At b j) (At c k) h l = grind (arith, nat_tests)

pub not_before_itself : (a : Offset) → is_before a a ≡ false
not_before_itself Start = refl
not_before_itself (At a i) = grind (arith, nat_tests)

-- a ≤ b < c
pub before_least : (a b c : Offset) → is_before b a ≡ false → is_before b c ≡ true → is_before a c ≡ true
before_least Start Start c h k = k
before_least Start (At b j) Start h k = cc
before_least Start (At b j) (At c k) h l = refl
before_least (At a i) Start c h k = cc
before_least (At a i) (At b j) Start h k = k
before_least (At a i) (At b j) (At c k) h l = grind (arith, nat_tests)

-- a < b ≤ c
pub not_before_less : (a b c : Offset) → is_before a b ≡ true → is_before c b ≡ false → is_before c a ≡ false
not_before_less a b c h k = false_from_ne_true _ (λ t. let u : is_before c b ≡ true = before_trans c a b t h in cc)

pub rises_front : (o : Offset) (es fs : List Entry) → rises_after o (es ++ fs) ≡ true → rises_after o es ≡ true
rises_front o [] fs h = refl
rises_front o (e ∷ es) fs h = and_from _ _ (and_parts _ _ h).0 (rises_front e.offset es fs (and_parts (is_before o e.offset) _ h).1)

pub rises_back : (o : Offset) (es fs : List Entry) → rises_after o (es ++ fs) ≡ true → rises_after (last_offset o es) fs ≡ true
rises_back o [] fs h = h
rises_back o (e ∷ es) fs h = rises_back e.offset es fs ((and_parts _ _ h).1)

pub last_least : (o : Offset) (es : List Entry) → rises_after o es ≡ true → is_before (last_offset o es) o ≡ false
last_least o [] h = not_before_itself o
last_least o (e ∷ es) h = let p = and_parts (is_before o e.offset) _ h in not_before_less o e.offset (last_offset e.offset es) p.0 (last_least e.offset es p.1)

pub last_offset-append : (o : Offset) (es fs : List Entry) → last_offset o (es ++ fs) ≡ last_offset (last_offset o es) fs
last_offset-append o [] fs = refl
last_offset-append o (e ∷ es) fs = last_offset-append e.offset es fs

-- nothing is up to an offset from which entries rise
pub upto_none : (o : Offset) (es : List Entry) → rises_after o es ≡ true → upto o es ≡ []
upto_none o [] h = refl
upto_none o (e ∷ es) h = rw ((and_parts (is_before o e.offset) _ h).0) refl

pub upto_last : (o : Offset) (es fs : List Entry) → rises_after o (es ++ fs) ≡ true → upto (last_offset o es) (es ++ fs) ≡ es
upto_last o [] fs h = upto_none o fs h
upto_last o (e ∷ es) fs h = let p = and_parts (is_before o e.offset) _ h in
    rw (last_least e.offset es (rises_front e.offset es fs p.1)) (ap (λ xs. e ∷ xs) (upto_last e.offset es fs p.1))

pub rises_from : (low o : Offset) (es : List Entry) → is_before low o ≡ false → rises_after low es ≡ true → rises_after o es ≡ true
rises_from low o [] h k = refl
rises_from low o (e ∷ es) h k = let p = and_parts (is_before low e.offset) _ k in and_from _ _ (before_least o low e.offset h p.0) p.1

-- More entries past the end change nothing up to an offset that is not past it.
pub upto_more : (low o : Offset) (es fs : List Entry) → rises_after low (es ++ fs) ≡ true → is_before (last_offset low es) o ≡ false → upto o (es ++ fs) ≡ upto o es
upto_more low o [] fs h k = upto_none o fs (rises_from low o fs k h)
upto_more low o (e ∷ es) fs h k = ap (λ (xs : List Entry). if is_before o e.offset then [] else e ∷ xs) (upto_more e.offset o es fs (and_parts (is_before low e.offset) _ h).1 k)

split_if : (b : Bool) (e : Entry) (es us ps : List Entry) → us ++ ps ≡ es → (if b then [] else e ∷ us) ++ (if b then e ∷ es else ps) ≡ e ∷ es
split_if true e es us ps h = refl
split_if false e es us ps h = ap (λ xs. e ∷ xs) h

pub upto_past : (o : Offset) (es : List Entry) → upto o es ++ past o es ≡ es
upto_past o [] = refl
upto_past o (e ∷ es) = split_if (is_before o e.offset) e es (upto o es) (past o es) (upto_past o es)

rises_if : (b : Bool) (o : Offset) (e : Entry) (es ps : List Entry) → is_before o e.offset ≡ b → rises_after e.offset es ≡ true → rises_after o ps ≡ true → rises_after o (if b then e ∷ es else ps) ≡ true
rises_if true o e es ps is h k = and_from _ _ is h
rises_if false o e es ps is h k = k

pub rises_past : (low o : Offset) (es : List Entry) → rises_after low es ≡ true → rises_after o (past o es) ≡ true
rises_past low o [] h = refl
rises_past low o (e ∷ es) h = let p = and_parts (is_before low e.offset) _ h in rises_if (is_before o e.offset) o e es (past o es) refl p.1 (rises_past e.offset o es p.1)

pub rises-append : (o : Offset) (es fs : List Entry) → rises_after o es ≡ true → rises_after (last_offset o es) fs ≡ true → rises_after o (es ++ fs) ≡ true
rises-append o [] fs h k = k
rises-append o (e ∷ es) fs h k = let p = and_parts (is_before o e.offset) _ h in and_from _ _ p.0 (rises-append e.offset es fs p.1 k)

pub rises_more : (o : Offset) (es : List Entry) (e : Entry) → rises_after o es ≡ true → is_before (last_offset o es) e.offset ≡ true → rises_after o (es ++ e ∷ []) ≡ true
rises_more o es e h k = rises-append o es (e ∷ []) h (and_from _ _ k refl)

-- as many entries are not after the end of a front as it has
pub upto_front : (o : Offset) (es : List Entry) (m : ℕ) → m ≤ length es → rises_after o es ≡ true → length (upto (last_offset o (take m es)) es) ≡ m
upto_front o es m le h =
    ap (λ xs. length (upto (last_offset o (take m es)) xs)) (sym (take-append-drop m es))
    ∙ ap length (upto_last o (take m es) (drop m es) (subst (λ xs. rises_after o xs ≡ true) (sym (take-append-drop m es)) h))
    ∙ length-take-le m es le

-- no entry stands at the start
pub upto_start : (es : List Entry) → rises_after (At 0 0) es ≡ true → upto Start es ≡ []
upto_start es h = upto_none Start es (rises_from (At 0 0) Start es refl h)
