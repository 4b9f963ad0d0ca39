-- What a token of each kind leaves.
use Rattle.std.proofs.Common.{◌≡◌, ◌≢◌, ◌<◌, ◌≤◌, ◌+◌, ◌*◌, ◌-◌, ◌^◌, ℕ, zero, suc, min, List, [], ◌∷◌, ◌++◌, length, take, get_or, Bool, true, false, cond, Option, Some, None, nat_eq, refl, sym, ap, subst, ◌∙◌, arith}
use Rattle.std.proofs.lemmas.List.{append-nil, take_all, take_more}
use Rattle.std.proofs.lemmas.Bool.{eqb-true}
use Rattle.std.proofs.lemmas.Bool.Decides.{nat_tests}
use Rattle.std.proofs.lemmas.Int.Digits.{digits_value_push}
use Rattle.std.specs.Str.{IsUtf8}
use Rattle.std.specs.Char.{is_ascii_digit, digit_value}
use Rattle.std.specs.Str.Parse.{digits_value}
use Rattle.std.proofs.lemmas.Str.{IsUtf8-nil}
use Rattle.where_lexer.specs.declared.token.Token.{Token}
use Rattle.where_lexer.specs.declared.token.Token.TheVariants as tokens
use Rattle.where_lexer.specs.Lexing.{also, is_space, begins_word, goes_word, run, past, word, number, named, texted, unquoted, sign, token_at}
use Rattle.where_lexer.proofs.Spans.{run_step}
use Rattle.where_lexer.proofs.TextLaws.{is_true, is_false}
use Rattle.where_lexer.specs.Classes.{PassAll}
use Rattle.where_lexer.proofs.Quotes.{cut_before, after_ascii, run_past, past_head}

abbrev pub seen : Token → List ℕ → Option (Token × List ℕ)
seen t rest = Some (t, rest)

pub goes_first : (b : ℕ) → begins_word b ≡ true → goes_word b ≡ true
goes_first b e = is_true (begins_word b) true (also (is_ascii_digit b) (nat_eq b 36)) e

pub word_token : (b : ℕ) (bs : List ℕ) → begins_word b ≡ true → seen (word (run goes_word (b ∷ bs))) (past goes_word (b ∷ bs)) ≡ token_at (b ∷ bs)
unfolding token_at
word_token b bs e =
    let s = run_step goes_word b bs (goes_first b e) in
    ap (λ u. seen (word u) (past goes_word (b ∷ bs))) s.0 ∙ ap (λ u. seen (word (b ∷ run goes_word bs)) u) s.1 ∙ sym (is_true (begins_word b) _ _ e)

pub digit_token : (b : ℕ) (bs : List ℕ) → begins_word b ≡ false → is_ascii_digit b ≡ true → seen (number (run is_ascii_digit (b ∷ bs))) (past is_ascii_digit (b ∷ bs)) ≡ token_at (b ∷ bs)
unfolding token_at
digit_token b bs w e =
    let s = run_step is_ascii_digit b bs e in
    ap (λ u. seen (number u) (past is_ascii_digit (b ∷ bs))) s.0 ∙ ap (λ u. seen (number (b ∷ run is_ascii_digit bs)) u) s.1 ∙ sym (is_false (begins_word b) _ _ w ∙ is_true (is_ascii_digit b) _ _ e)

pub name_token : (b : ℕ) (bs : List ℕ) → b ≡ 34 → named (unquoted 34 false bs) ≡ token_at (b ∷ bs)
unfolding token_at
name_token b bs e = sym (ap (λ x. token_at (x ∷ bs)) e)

pub string_token : (b : ℕ) (bs : List ℕ) → b ≡ 39 → texted (unquoted 39 false bs) ≡ token_at (b ∷ bs)
unfolding token_at
string_token b bs e = sym (ap (λ x. token_at (x ∷ bs)) e)

pub sign_token : (b : ℕ) (bs : List ℕ) → begins_word b ≡ false → is_ascii_digit b ≡ false → nat_eq b 34 ≡ false → nat_eq b 39 ≡ false → sign b bs ≡ token_at (b ∷ bs)
unfolding token_at
sign_token b bs w d n s = sym (is_false (begins_word b) _ _ w ∙ is_false (is_ascii_digit b) _ _ d ∙ is_false (nat_eq b 34) _ _ n ∙ is_false (nat_eq b 39) _ _ s)

-- texts

pub not_word_small : (b : ℕ) → goes_word b ≡ false → b < 128
not_word_small b e = grind (arith, nat_tests)

pub words_cut : (bytes : List ℕ) → IsUtf8 bytes → IsUtf8 (run goes_word bytes) × IsUtf8 (past goes_word bytes)
words_cut bytes u = by (past goes_word bytes) refl where
  by : (rest : List ℕ) → past goes_word bytes ≡ rest → IsUtf8 (run goes_word bytes) × IsUtf8 (past goes_word bytes)
  by [] e = (subst IsUtf8 (run_past goes_word bytes ∙ ap (λ v. run goes_word bytes ++ v) e ∙ append-nil (run goes_word bytes)) u, subst IsUtf8 (sym e) IsUtf8-nil)
  by (d ∷ ds) e =
      let c = cut_before (run goes_word bytes) d ds (subst IsUtf8 (run_past goes_word bytes ∙ ap (λ v. run goes_word bytes ++ v) e) u) (not_word_small d (past_head goes_word bytes d ds e)) in
      (c.0, subst IsUtf8 (sym e) c.1)

pub past_ascii : (test : ℕ → Bool) → ((b : ℕ) → test b ≡ true → b < 128) → (bytes : List ℕ) → IsUtf8 bytes → IsUtf8 (past test bytes)
unfolding past
past_ascii test h [] u = u
past_ascii test h (b ∷ bs) u = by (λ v. past_ascii test h bs v) (test b) refl where
  by : (IsUtf8 bs → IsUtf8 (past test bs)) → (c : Bool) → test b ≡ c → IsUtf8 (cond c (past test bs) (b ∷ bs))
  by ih true i = ih (after_ascii b bs u (h b i))
  by ih false i = u

pub digit_small : (b : ℕ) → is_ascii_digit b ≡ true → b < 128
digit_small b e = grind (arith, nat_tests)

-- numbers

pub pass_at : (bs : List ℕ) (k : ℕ) → PassAll is_ascii_digit bs → k < length bs → (48 ≤ get_or bs k 0) × (get_or bs k 0 ≤ 57)
pass_at [] k h l = absurd (omega arith)
pass_at (b ∷ bs) zero h l = digit_range b h.0 where
  digit_range : (b : ℕ) → is_ascii_digit b ≡ true → (48 ≤ b) × (b ≤ 57)
  digit_range b e = grind (arith, nat_tests)
pass_at (b ∷ bs) (suc k) h l = pass_at bs k h.1 (omega arith)

pub digit_is : (c : ℕ) → 48 ≤ c → c ≤ 57 → digit_value c ≡ c - 48
digit_is c h k = grind (arith, nat_tests)

pub saturated : (v n d : ℕ) → n ≡ min v (2 ^ 64 - 1) → min (min (n * 10) (2 ^ 64 - 1) + d) (2 ^ 64 - 1) ≡ min (v * 10 + d) (2 ^ 64 - 1)
saturated v n d e = omega arith

pub number_step : (bytes : List ℕ) (i n m : ℕ) → i < length bytes → PassAll is_ascii_digit bytes → n ≡ min (digits_value 10 (take i bytes)) (2 ^ 64 - 1) → m ≡ min (min (n * 10) (2 ^ 64 - 1) + (get_or bytes i 0 - 48)) (2 ^ 64 - 1) → m ≡ min (digits_value 10 (take (i + 1) bytes)) (2 ^ 64 - 1)
number_step bytes i n m l p e f =
    let r = pass_at bytes i p l in
    f ∙ saturated (digits_value 10 (take i bytes)) n (get_or bytes i 0 - 48) e
    ∙ ap (λ d. min (digits_value 10 (take i bytes) * 10 + d) (2 ^ 64 - 1)) (sym (digit_is (get_or bytes i 0) r.0 r.1))
    ∙ ap (λ v. min v (2 ^ 64 - 1)) (sym (ap (digits_value 10) (take_more bytes i 0 l) ∙ digits_value_push 10 (take i bytes) (get_or bytes i 0)))

pub number_done : (bytes : List ℕ) (i n : ℕ) → length bytes ≤ i → n ≡ min (digits_value 10 (take i bytes)) (2 ^ 64 - 1) → tokens.Digits n ≡ number bytes
unfolding number
number_done bytes i n l e = ap (λ m. tokens.Digits m) (e ∙ ap (λ u. min (digits_value 10 u) (2 ^ 64 - 1)) (take_all i bytes l))

-- at the calls

pub none_read : (bytes : List ℕ) → bytes ≡ [] → None ≡ token_at bytes
unfolding token_at
none_read bytes e = ap token_at (sym e)

pub word_read : (bytes : List ℕ) (b : ℕ) (bs front after : List ℕ) (t : Token) → bytes ≡ b ∷ bs → begins_word b ≡ true → front ≡ run goes_word bytes → after ≡ past goes_word bytes → t ≡ word front → seen t after ≡ token_at bytes
word_read bytes b bs front after t e w f a k =
    ap (λ x. seen x after) k ∙ ap (λ u. seen (word u) after) (f ∙ ap (run goes_word) e) ∙ ap (λ u. seen (word (run goes_word (b ∷ bs))) u) (a ∙ ap (past goes_word) e) ∙ word_token b bs w ∙ ap token_at (sym e)

pub number_read : (bytes : List ℕ) (b : ℕ) (bs front after : List ℕ) (t : Token) → bytes ≡ b ∷ bs → begins_word b ≡ false → is_ascii_digit b ≡ true → front ≡ run is_ascii_digit bytes → after ≡ past is_ascii_digit bytes → t ≡ number front → seen t after ≡ token_at bytes
number_read bytes b bs front after t e w d f a k =
    ap (λ x. seen x after) k ∙ ap (λ u. seen (number u) after) (f ∙ ap (run is_ascii_digit) e) ∙ ap (λ u. seen (number (run is_ascii_digit (b ∷ bs))) u) (a ∙ ap (past is_ascii_digit) e) ∙ digit_token b bs w d ∙ ap token_at (sym e)

pub name_read : (bytes : List ℕ) (b : ℕ) (bs : List ℕ) (o : Option (Token × List ℕ)) → bytes ≡ b ∷ bs → b ≡ 34 → o ≡ named (unquoted 34 false bs) → o ≡ token_at bytes
name_read bytes b bs o e q k = k ∙ name_token b bs q ∙ ap token_at (sym e)

pub string_read : (bytes : List ℕ) (b : ℕ) (bs : List ℕ) (o : Option (Token × List ℕ)) → bytes ≡ b ∷ bs → b ≡ 39 → o ≡ texted (unquoted 39 false bs) → o ≡ token_at bytes
string_read bytes b bs o e q k = k ∙ string_token b bs q ∙ ap token_at (sym e)

pub differ_byte : (b q : ℕ) → b ≢ q → nat_eq b q ≡ false
differ_byte b q h = by (nat_eq b q) refl where
  by : (c : Bool) → nat_eq b q ≡ c → c ≡ false
  by true e = absurd (h (eqb-true b q e))
  by false e = refl

pub sign_read : (bytes : List ℕ) (b : ℕ) (bs : List ℕ) (o : Option (Token × List ℕ)) → bytes ≡ b ∷ bs → begins_word b ≡ false → is_ascii_digit b ≡ false → b ≢ 34 → b ≢ 39 → o ≡ sign b bs → o ≡ token_at bytes
sign_read bytes b bs o e w d n s k = k ∙ sign_token b bs w d (differ_byte b 34 n) (differ_byte b 39 s) ∙ ap token_at (sym e)

pub not_begin_small : (b : ℕ) → begins_word b ≡ false → b < 128
not_begin_small b e = grind (arith, nat_tests)

pub space_small : (b : ℕ) → is_space b ≡ true → b < 128
space_small b e = grind (arith, nat_tests)
