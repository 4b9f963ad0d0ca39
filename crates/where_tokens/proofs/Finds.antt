-- What stands at a place, the lexer finds; and how scanning steps.
use Rattle.std.proofs.Common.{◌≡◌, ◌<◌, ◌≤◌, ◌+◌, ℕ, zero, suc, List, [], ◌∷◌, ◌++◌, length, Bool, true, false, Option, Some, None, nat_eq, refl, ap, subst, ◌∙◌, append_assoc, arith, length-append}
use Rattle.std.proofs.lemmas.Bool.Decides.{nat_tests}
use Rattle.std.specs.Char.{is_ascii_digit}
use Rattle.where_lexer.specs.declared.token.CmpOp.TheVariants as ops
use Rattle.where_lexer.specs.declared.token.Token.{Token}
use Rattle.where_lexer.specs.declared.token.Token.TheVariants as tokens
use Rattle.where_lexer.specs.Lexing.{begins_word, goes_word, is_space, run, past, word, number, unquoted, named, texted, sign, token_at, scan_with, scan, scanned}
use Rattle.where_lexer.specs.Texts.{doubled}
use Rattle.where_lexer.proofs.Lemmas.{run_past, run_all, past_all, is_true, is_false, pair_at, Other, unquoted_doubled}
use Rattle.where_tokens.specs.TokenTexts.{NotFirst, is_byte, Stands, a_word, an_integer, a_name, a_string, IsAt, found, TokenStands, ScanSteps}
use Rattle.where_tokens.specs.TokenTexts as texts
use Rattle.where_tokens.proofs.Found.{Sound, token_sound}

pub no_run : (test : ℕ → Bool) (rest : List ℕ) → NotFirst test rest → run test rest ≡ []
unfolding run
no_run test [] h = refl
no_run test (b ∷ bs) h = is_false (test b) _ _ h

pub no_past : (test : ℕ → Bool) (rest : List ℕ) → NotFirst test rest → past test rest ≡ rest
unfolding past
no_past test [] h = refl
no_past test (b ∷ bs) h = is_false (test b) _ _ h

pub digit_no_word : (b : ℕ) → is_ascii_digit b ≡ true → begins_word b ≡ false
digit_no_word b e = grind (arith, nat_tests)

pub other : (q : ℕ) (rest : List ℕ) → NotFirst (is_byte q) rest → Other q rest
other q [] h = tt
other q (b ∷ bs) h = h

pub less_found : (rest : List ℕ) → NotFirst (is_byte 61) rest → NotFirst (is_byte 62) rest → token_at (60 ∷ rest) ≡ found (tokens.Compare ops.Lt) rest
unfolding token_at sign
less_found [] h k = refl
less_found (b ∷ bs) h k = is_false (nat_eq b 61) _ _ h ∙ is_false (nat_eq b 62) _ _ k

pub greater_found : (rest : List ℕ) → NotFirst (is_byte 61) rest → token_at (62 ∷ rest) ≡ found (tokens.Compare ops.Gt) rest
unfolding token_at sign
greater_found [] h = refl
greater_found (b ∷ bs) h = is_false (nat_eq b 61) _ _ h

pub stands_found : {front : List ℕ} {t : Token} {rest : List ℕ} → Stands front t rest → token_at (front ++ rest) ≡ found t rest
unfolding token_at sign
stands_found (a_word b bs rest e h k) = is_true (begins_word b) _ _ e ∙ pair_at bs rest (λ r. word (b ∷ r)) _ _ (run_all goes_word bs rest h (no_run goes_word rest k)) (past_all goes_word bs rest h (no_past goes_word rest k))
stands_found (an_integer d ds rest h k) = is_false (begins_word d) _ _ (digit_no_word d h.0) ∙ is_true (is_ascii_digit d) _ _ h.0 ∙ pair_at ds rest (λ r. number (d ∷ r)) _ _ (run_all is_ascii_digit ds rest h.1 (no_run is_ascii_digit rest k)) (past_all is_ascii_digit ds rest h.1 (no_past is_ascii_digit rest k))
stands_found (a_name b bs rest k) = ap (λ r. named (unquoted 34 false r)) (append_assoc (doubled 34 (b ∷ bs)) (34 ∷ []) rest) ∙ ap named (unquoted_doubled 34 (b ∷ bs) rest (other 34 rest k))
stands_found (a_string bs rest k) = ap (λ r. texted (unquoted 39 false r)) (append_assoc (doubled 39 bs) (39 ∷ []) rest) ∙ ap texted (unquoted_doubled 39 bs rest (other 39 rest k))
stands_found (texts.opening rest) = refl
stands_found (texts.closing rest) = refl
stands_found (texts.comma rest) = refl
stands_found (texts.minus rest) = refl
stands_found (texts.equal rest) = refl
stands_found (texts.differs rest) = refl
stands_found (texts.differs_too rest) = refl
stands_found (texts.less rest h k) = less_found rest h k
stands_found (texts.less_equal rest) = refl
stands_found (texts.greater rest h) = greater_found rest h
stands_found (texts.greater_equal rest) = refl

pub token_stands : TokenStands
token_stands bytes t rest = (
  λ e. subst (λ o. Sound bytes o) e (token_sound bytes),
  λ s. ap token_at s.cut ∙ stands_found s.stands,
)

-- steps

pub stands_some : {front : List ℕ} {t : Token} {rest : List ℕ} → Stands front t rest → 0 < length front
stands_some (a_word b bs rest e h k) = omega arith
stands_some (an_integer d ds rest h k) = omega arith
stands_some (a_name b bs rest k) = omega arith
stands_some (a_string bs rest k) = omega arith
stands_some (texts.opening rest) = omega arith
stands_some (texts.closing rest) = omega arith
stands_some (texts.comma rest) = omega arith
stands_some (texts.minus rest) = omega arith
stands_some (texts.equal rest) = omega arith
stands_some (texts.differs rest) = omega arith
stands_some (texts.differs_too rest) = omega arith
stands_some (texts.less rest h k) = omega arith
stands_some (texts.less_equal rest) = omega arith
stands_some (texts.greater rest h) = omega arith
stands_some (texts.greater_equal rest) = omega arith

pub rest_shorter : (bytes : List ℕ) (t : Token) (rest : List ℕ) → IsAt bytes t rest → length rest < length bytes
rest_shorter bytes t rest s =
    let l : length bytes ≡ length s.front + length rest = ap length s.cut ∙ length-append s.front rest in
    let p : 0 < length s.front = stands_some s.stands in
    omega arith

pub past_shorter : (test : ℕ → Bool) (bytes : List ℕ) → length (past test bytes) ≤ length bytes
past_shorter test bytes =
    let l : length bytes ≡ length (run test bytes) + length (past test bytes) = ap length (run_past test bytes) ∙ length-append (run test bytes) (past test bytes) in
    omega arith

pub scan_same : (n m : ℕ) (bytes : List ℕ) → length bytes < n → length bytes < m → scan n bytes ≡ scan m bytes
unfolding scan
scan_same zero m bytes h k = absurd (omega arith)
scan_same (suc n) zero bytes h k = absurd (omega arith)
scan_same (suc n) (suc m) bytes h k = by (λ rest a b. scan_same n m rest a b) (token_at (past is_space bytes)) (token_sound (past is_space bytes)) where
  short : length (past is_space bytes) ≤ length bytes
  short = past_shorter is_space bytes

  by : ((rest : List ℕ) → length rest < n → length rest < m → scan n rest ≡ scan m rest) → (o : Option (Token × List ℕ)) → Sound (past is_space bytes) o → scan_with (λ rest. scan n rest) (past is_space bytes) o ≡ scan_with (λ rest. scan m rest) (past is_space bytes) o
  by ih None s = refl
  by ih (Some x) s =
      let l : length x.1 < length (past is_space bytes) = rest_shorter (past is_space bytes) x.0 x.1 s in
      ap (λ r. scan_with (λ u. r) (past is_space bytes) (Some x)) (ih x.1 (omega (arith, short)) (omega (arith, short)))

pub scan_steps : ScanSteps
unfolding scan
scan_steps bytes = by (token_at (past is_space bytes)) (token_sound (past is_space bytes)) where
  short : length (past is_space bytes) ≤ length bytes
  short = past_shorter is_space bytes

  by : (o : Option (Token × List ℕ)) → Sound (past is_space bytes) o → scan_with (λ rest. scan (length bytes) rest) (past is_space bytes) o ≡ scan_with (λ rest. scanned rest) (past is_space bytes) o
  by None s = refl
  by (Some x) s =
      let l : length x.1 < length (past is_space bytes) = rest_shorter (past is_space bytes) x.0 x.1 s in
      ap (λ r. scan_with (λ u. r) (past is_space bytes) (Some x)) (scan_same (length bytes) (suc (length x.1)) x.1 (omega (arith, short)) (omega arith))
