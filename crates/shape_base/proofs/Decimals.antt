-- Canonical decimals, and offsets and handles written with them.
use Rattle.std.proofs.Common.{◌≡◌, ℕ, ◌^◌, ◌<◌, List, [], ◌∷◌, ◌++◌, true, false, refl, sym, ◌∙◌, ap, subst, arith, Result, Ok, Err, decimal, codes}
use Rattle.std.proofs.lemmas.Bool.{and_parts}
use Rattle.std.specs.List.{list_all}
use Rattle.std.specs.Char.{digit_value}
use Rattle.std.specs.Str.{IsUtf8, IsAscii}
use Rattle.std.proofs.lemmas.Bool.Decides.{nat_tests}
use Rattle.std.proofs.lemmas.Str.Ascii.{IsAscii-nil, IsAscii-cons}
use Rattle.std.proofs.lemmas.Str.{IsUtf8-from_ascii}
use Rattle.shape_base.specs.declared.offset.Offset.{Offset}
use Rattle.shape_base.specs.declared.offset.Offset.TheVariants.{Start, At}
use Rattle.shape_base.specs.declared.handle.Handle.{Handle}
use Rattle.shape_base.specs.Decimal.{IsSplit, LacksByte}
use Rattle.shape_base.specs.OffsetText.{offset_text, IsOffset}
use Rattle.shape_base.specs.Handle.{is_run_byte, is_run, IsHandle, handle_text}
use Rattle.std.specs.Str.Parse.{ParsesUnsigned, AllDigits, digits_value}
use Rattle.std.proofs.lemmas.Fmt.{parse-decimal, decimal_is_IsNumeral}
use Rattle.shape_base.specs.Tables.{same_text}
use Rattle.shape_base.proofs.Tests.{Decides-same_text}

pub never_refused : {E : Type 0} (n : ℕ) (bs : List ℕ) (e : E) → n < 2 ^ 64 → bs ≡ decimal n → ParsesUnsigned {E = E} 64 10 bs (Err e) → ⊥
never_refused {E} n bs e small is parsed = let r : ◌≡◌ {A = Result ℕ E} (Err e) (Ok n) = parse-decimal {E = E} 64 n bs (Err e) small small is parsed in cc

pub parsed_as : (n m : ℕ) (bs : List ℕ) → n < 2 ^ 64 → bs ≡ decimal n → ParsesUnsigned {E = ℕ} 64 10 bs (Ok m) → m ≡ n
parsed_as n m bs small is parsed = let r : ◌≡◌ {A = Result ℕ ℕ} (Ok m) (Ok n) = parse-decimal {E = ℕ} 64 n bs (Ok m) small small is parsed in cc

-- texts that a test tells apart are not equal
pub apart : (a b : List ℕ) → same_text a b ≡ false → a ≡ b → ⊥
apart a b h e = let t = (Decides-same_text a b).1 e in cc

-- ---- texts in two parts

pub lacks : (separator : ℕ) → (digit_value separator < 10 → ⊥) → (ds : List ℕ) → AllDigits 10 ds → LacksByte separator ds
lacks separator none [] h = tt
lacks separator none (d ∷ ds) h = (λ e. none (subst (λ (x : ℕ). digit_value x < 10) e h.0), lacks separator none ds h.1)

pub decimal_lacks : (separator n : ℕ) → (digit_value separator < 10 → ⊥) → n < 2 ^ 64 → LacksByte separator (decimal n)
decimal_lacks separator n none small = lacks separator none (decimal n) (decimal_is_IsNumeral n small).0.1

pub decimal-injective : (m n : ℕ) → m < 2 ^ 64 → n < 2 ^ 64 → decimal m ≡ decimal n → m ≡ n
decimal-injective m n h k e = sym (decimal_is_IsNumeral m h).1 ∙ ap (digits_value 10) e ∙ (decimal_is_IsNumeral n k).1

-- a text with that byte does not lack it
pub has : (separator : ℕ) (bytes front back : List ℕ) → LacksByte separator bytes → bytes ≡ front ++ separator ∷ back → ⊥
has separator [] [] back h e = cc
has separator [] (f ∷ front) back h e = cc
has separator (b ∷ bytes) [] back h e = h.0 (cc)
has separator (b ∷ bytes) (f ∷ front) back h e = has separator bytes front back h.1 (cc)

halves : (separator : ℕ) (a a' b b' : List ℕ) → LacksByte separator a → LacksByte separator a' → a ++ separator ∷ b ≡ a' ++ separator ∷ b' → (a ≡ a') × (b ≡ b')
halves separator [] [] b b' h k e = (refl, cc)
halves separator [] (x ∷ a') b b' h k e = absurd (k.0 (cc))
halves separator (x ∷ a) [] b b' h k e = absurd (h.0 (cc))
halves separator (x ∷ a) (y ∷ a') b b' h k e =
    let first : x ≡ y = cc in
    let rest : a ++ separator ∷ b ≡ a' ++ separator ∷ b' = cc in
    let same = halves separator a a' b b' h.1 k.1 rest in
    (cc, same.1)

-- the parts of a text are its only ones
pub split_once : (separator : ℕ) (bytes a a' b b' : List ℕ) → IsSplit separator bytes a b → LacksByte separator a' → bytes ≡ a' ++ separator ∷ b' → (a ≡ a') × (b ≡ b')
split_once separator bytes a a' b b' s k e = halves separator a a' b b' s.first k (sym s.whole ∙ e)

-- ---- texts of no offset

pub no_offset_whole : (text : List ℕ) → (text ≡ codes "-1" → ⊥) → LacksByte 95 text → (o : Offset) → IsOffset o → text ≡ offset_text o → ⊥
no_offset_whole text start lacking Start small e = start e
no_offset_whole text start lacking (At lsn pos) small e = has 95 text (decimal lsn) (decimal pos) lacking e

pub no_offset_lsn : (text a b : List ℕ) → (text ≡ codes "-1" → ⊥) → IsSplit 95 text a b → ((n : ℕ) → n < 2 ^ 64 → a ≡ decimal n → ⊥) → (o : Offset) → IsOffset o → text ≡ offset_text o → ⊥
no_offset_lsn text a b start split none Start small e = start e
no_offset_lsn text a b start split none (At lsn pos) small e = none lsn small.0 (split_once 95 text a (decimal lsn) b (decimal pos) split (decimal_lacks 95 lsn (λ h. absurd (omega arith)) small.0) e).0

pub no_offset_pos : (text a b : List ℕ) → (text ≡ codes "-1" → ⊥) → IsSplit 95 text a b → ((n : ℕ) → n < 2 ^ 64 → b ≡ decimal n → ⊥) → (o : Offset) → IsOffset o → text ≡ offset_text o → ⊥
no_offset_pos text a b start split none Start small e = start e
no_offset_pos text a b start split none (At lsn pos) small e = none pos small.1 (split_once 95 text a (decimal lsn) b (decimal pos) split (decimal_lacks 95 lsn (λ h. absurd (omega arith)) small.0) e).1

-- ---- texts of no handle

handle_parts : (text a b : List ℕ) → IsSplit 45 text a b → (h : Handle) → IsHandle h → text ≡ handle_text h → (a ≡ decimal h.number) × (b ≡ h.run)
handle_parts text a b split h good e = split_once 45 text a (decimal h.number) b h.run split (decimal_lacks 45 h.number (λ k. absurd (omega arith)) good.small) e

pub no_handle_whole : (text : List ℕ) → LacksByte 45 text → (h : Handle) → IsHandle h → text ≡ handle_text h → ⊥
no_handle_whole text lacking h good e = has 45 text (decimal h.number) h.run lacking e

pub no_handle_number : (text a b : List ℕ) → IsSplit 45 text a b → ((n : ℕ) → n < 2 ^ 64 → a ≡ decimal n → ⊥) → (h : Handle) → IsHandle h → text ≡ handle_text h → ⊥
no_handle_number text a b split none h good e = none h.number good.small (handle_parts text a b split h good e).0

pub no_handle_zero : (text a b : List ℕ) (n : ℕ) → IsSplit 45 text a b → a ≡ decimal n → n ≡ 0 → (h : Handle) → IsHandle h → text ≡ handle_text h → ⊥
no_handle_zero text a b n split is zero h good e =
    let same = decimal-injective n h.number (omega arith) good.small (sym is ∙ (handle_parts text a b split h good e).0) in
    let counted = good.counted in
    omega arith

pub no_handle_run : (text a b : List ℕ) → IsSplit 45 text a b → is_run b ≡ false → (h : Handle) → IsHandle h → text ≡ handle_text h → ⊥
no_handle_run text a b split bad h good e = let named = sym bad ∙ ap is_run (handle_parts text a b split h good e).1 ∙ good.named in cc

-- ---- the name of a run is ASCII

run_byte_small : (b : ℕ) → is_run_byte b ≡ true → b < 128
run_byte_small b h = grind (arith, nat_tests)

run_ascii : (run : List ℕ) → list_all is_run_byte run ≡ true → IsAscii run
run_ascii [] h = IsAscii-nil
run_ascii (b ∷ run) h = let p = and_parts (is_run_byte b) _ h in IsAscii-cons b run (run_byte_small b p.0) (run_ascii run p.1)

pub run_utf8 : (run : List ℕ) → is_run run ≡ true → IsUtf8 run
run_utf8 run h = IsUtf8-from_ascii run (run_ascii run (and_parts _ _ (and_parts _ _ h).1).1)
