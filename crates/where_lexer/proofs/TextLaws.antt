-- The canonical text of tokens has these tokens.
use Rattle.std.proofs.Common.{◌≡◌, ◌<◌, ◌≤◌, ◌+◌, ◌-◌, ◌^◌, ℕ, zero, suc, min, List, [], ◌∷◌, ◌++◌, length, Bool, true, false, cond, Option, Some, nat_eq, refl, sym, ap, subst, ◌∙◌, append_assoc, arith, length-append, eq-eqb}
use Rattle.std.specs.Char.{is_ascii_digit}
use Rattle.std.proofs.lemmas.Bool.{eqb-true}
use Rattle.std.proofs.lemmas.Bool.Decides.{nat_tests}
use Rattle.std.proofs.lemmas.Fmt.{decimal_is_IsNumeral}
use Rattle.std.specs.Fmt.{decimal}
use Rattle.std.proofs.lemmas.Str.Parse.{tells_digits}
use Rattle.std.specs.Str.Parse.{AllDigits, digits_value}
use Rattle.where_lexer.specs.declared.token.CmpOp.{CmpOp}
use Rattle.where_lexer.specs.declared.token.CmpOp.TheVariants as ops
use Rattle.where_lexer.specs.declared.token.Token.{Token}
use Rattle.where_lexer.specs.declared.token.Token.TheVariants as tokens
use Rattle.where_lexer.specs.Lexing.{is_space, begins_word, goes_word, run, past, word, number, with_byte, unquoted, named, texted, sign, token_at, Scanned, scan_with, scan}
use Rattle.where_lexer.specs.Classes.{PassAll}
use Rattle.where_lexer.specs.Texts.{doubled, op_text, token_text, binds_right, binds_left, gap, text_after, text_of, IsToken, AreTokens, tokens_of, TextAgain}

-- what may come right after a token
pub data Safe : List ℕ → Type 0 where
  at_end : Safe []
  space : {r : List ℕ} → Safe (32 ∷ r)
  close : {r : List ℕ} → Safe (41 ∷ r)
  comma : {r : List ℕ} → Safe (44 ∷ r)

pub safe_run : {rest : List ℕ} → Safe rest → run goes_word rest ≡ []
unfolding run
safe_run at_end = refl
safe_run space = refl
safe_run close = refl
safe_run comma = refl

pub safe_past : {rest : List ℕ} → Safe rest → past goes_word rest ≡ rest
unfolding past
safe_past at_end = refl
safe_past space = refl
safe_past close = refl
safe_past comma = refl

pub safe_digit_run : {rest : List ℕ} → Safe rest → run is_ascii_digit rest ≡ []
unfolding run
safe_digit_run at_end = refl
safe_digit_run space = refl
safe_digit_run close = refl
safe_digit_run comma = refl

pub safe_digit_past : {rest : List ℕ} → Safe rest → past is_ascii_digit rest ≡ rest
unfolding past
safe_digit_past at_end = refl
safe_digit_past space = refl
safe_digit_past close = refl
safe_digit_past comma = refl

pub run_all : (test : ℕ → Bool) (bs rest : List ℕ) → PassAll test bs → run test rest ≡ [] → run test (bs ++ rest) ≡ bs
unfolding run
run_all test [] rest h e = e
run_all test (b ∷ bs) rest h e = ap (λ c. cond c (b ∷ run test (bs ++ rest)) []) h.0 ∙ ap (λ r. b ∷ r) (run_all test bs rest h.1 e)

pub past_all : (test : ℕ → Bool) (bs rest : List ℕ) → PassAll test bs → past test rest ≡ rest → past test (bs ++ rest) ≡ rest
unfolding past
past_all test [] rest h e = e
past_all test (b ∷ bs) rest h e = ap (λ c. cond c (past test (bs ++ rest)) (b ∷ (bs ++ rest))) h.0 ∙ past_all test bs rest h.1 e

pub is_true : {A : Type 0} (b : Bool) (x y : A) → b ≡ true → cond b x y ≡ x
is_true b x y e = ap (λ c. cond c x y) e

pub is_false : {A : Type 0} (b : Bool) (x y : A) → b ≡ false → cond b x y ≡ y
is_false b x y e = ap (λ c. cond c x y) e

abbrev pub found : Token → List ℕ → Option (Token × List ℕ)
found t rest = Some (t, rest)

pub pair_at : (x y : List ℕ) (f : List ℕ → Token) (u v : List ℕ) → u ≡ x → v ≡ y → found (f u) v ≡ found (f x) y
pair_at x y f u v e g = ap (λ w. found (f w) v) e ∙ ap (λ w. found (f x) w) g

pub word_at : (b : ℕ) (bs rest : List ℕ) → begins_word b ≡ true → PassAll goes_word bs → Safe rest → token_at (b ∷ (bs ++ rest)) ≡ found (word (b ∷ bs)) rest
unfolding token_at
word_at b bs rest e h s = is_true (begins_word b) _ _ e ∙ pair_at bs rest (λ r. word (b ∷ r)) _ _ (run_all goes_word bs rest h (safe_run s)) (past_all goes_word bs rest h (safe_past s))

pub number_at : (b : ℕ) (bs rest : List ℕ) → begins_word b ≡ false → is_ascii_digit b ≡ true → PassAll is_ascii_digit bs → Safe rest → token_at (b ∷ (bs ++ rest)) ≡ found (number (b ∷ bs)) rest
unfolding token_at
number_at b bs rest w e h s = is_false (begins_word b) _ _ w ∙ is_true (is_ascii_digit b) _ _ e ∙ pair_at bs rest (λ r. number (b ∷ r)) _ _ (run_all is_ascii_digit bs rest h (safe_digit_run s)) (past_all is_ascii_digit bs rest h (safe_digit_past s))

-- quotes

pub same_byte : (q : ℕ) → nat_eq q q ≡ true
same_byte q = eq-eqb q q refl

abbrev pub Other : ℕ → List ℕ → Type 0
Other q [] = Unit {0}
Other q (b ∷ bs) = nat_eq b q ≡ false

pub closed : (q : ℕ) (rest : List ℕ) → Other q rest → unquoted q true rest ≡ Some ([], rest)
unfolding unquoted
closed q [] h = refl
closed q (b ∷ bs) h = is_false (nat_eq b q) _ _ h

pub unquoted_by : (q b : ℕ) (bs rest : List ℕ) → unquoted q false (doubled q bs ++ q ∷ rest) ≡ Some (bs, rest) → (c : Bool) → nat_eq b q ≡ c → unquoted q false ((cond c (q ∷ q ∷ doubled q bs) (b ∷ doubled q bs)) ++ q ∷ rest) ≡ Some (b ∷ bs, rest)
unfolding unquoted
unquoted_by q b bs rest ih true e =
    let same : b ≡ q = eqb-true b q e in
    is_true (nat_eq q q) _ _ (same_byte q) ∙ is_true (nat_eq q q) _ _ (same_byte q) ∙ ap (λ o. with_byte q o) ih ∙ ap (λ x. Some (x ∷ bs, rest)) (sym same)
unquoted_by q b bs rest ih false e = is_false (nat_eq b q) _ _ e ∙ ap (λ o. with_byte b o) ih

pub unquoted_doubled : (q : ℕ) (bs rest : List ℕ) → Other q rest → unquoted q false (doubled q bs ++ q ∷ rest) ≡ Some (bs, rest)
unfolding unquoted
unquoted_doubled q [] rest h = is_true (nat_eq q q) _ _ (same_byte q) ∙ closed q rest h
unquoted_doubled q (b ∷ bs) rest h = unquoted_by q b bs rest (unquoted_doubled q bs rest h) (nat_eq b q) refl

pub safe_other : {rest : List ℕ} → Safe rest → Other 34 rest × Other 39 rest
safe_other at_end = (tt, tt)
safe_other space = (refl, refl)
safe_other close = (refl, refl)
safe_other comma = (refl, refl)

-- signs

pub op_at : (op : CmpOp) {rest : List ℕ} → Safe rest → token_at (op_text op ++ rest) ≡ found (tokens.Compare op) rest
unfolding token_at sign
op_at ops.Eq s = refl
op_at ops.Ne s = refl
op_at ops.Le s = refl
op_at ops.Ge s = refl
op_at ops.Lt at_end = refl
op_at ops.Lt space = refl
op_at ops.Lt close = refl
op_at ops.Lt comma = refl
op_at ops.Gt at_end = refl
op_at ops.Gt space = refl
op_at ops.Gt close = refl
op_at ops.Gt comma = refl

pub digit_begins : (b : ℕ) → 48 ≤ b → b ≤ 57 → begins_word b ≡ false
digit_begins b h k = grind (arith, nat_tests)

pub digit_no_space : (b : ℕ) → 48 ≤ b → b ≤ 57 → is_space b ≡ false
digit_no_space b h k = grind (arith, nat_tests)

pub digit_passes : (b : ℕ) → 48 ≤ b → b ≤ 57 → is_ascii_digit b ≡ true
digit_passes b h k = grind (arith, nat_tests)

pub digits_pass : (ds : List ℕ) → AllDigits 10 ds → PassAll is_ascii_digit ds
digits_pass [] h = tt
digits_pass (d ∷ ds) h = let p = tells_digits.parts d ds h in (digit_passes d p.0.0 p.0.1, digits_pass ds p.1)

pub digits_at : (ds rest : List ℕ) → 0 < length ds → AllDigits 10 ds → Safe rest → token_at (ds ++ rest) ≡ found (number ds) rest
digits_at [] rest l h s = absurd (omega arith)
digits_at (d ∷ ds) rest l h s = let p = tells_digits.parts d ds h in number_at d ds rest (digit_begins d p.0.0 p.0.1) (digits_pass (d ∷ ds) h).0 (digits_pass (d ∷ ds) h).1 s

pub digits_no_space : (ds r : List ℕ) → 0 < length ds → AllDigits 10 ds → past is_space (ds ++ r) ≡ ds ++ r
unfolding past
digits_no_space [] r l h = absurd (omega arith)
digits_no_space (d ∷ ds) r l h = let p = tells_digits.parts d ds h in is_false (is_space d) _ _ (digit_no_space d p.0.0 p.0.1)

-- decimals

pub numeral_value : (n : ℕ) → n < 2 ^ 64 → number (decimal n) ≡ tokens.Digits n
unfolding number
numeral_value n h =
    let v : digits_value 10 (decimal n) ≡ n = (decimal_is_IsNumeral n h).1 in
    ap (λ m. tokens.Digits (min m (2 ^ 64 - 1))) v ∙ ap (λ m. tokens.Digits m) (least n h)
  where
    least : (n : ℕ) → n < 2 ^ 64 → min n (2 ^ 64 - 1) ≡ n
    least n h = omega arith

pub decimal_at : (n : ℕ) (rest : List ℕ) → n < 2 ^ 64 → Safe rest → token_at (decimal n ++ rest) ≡ found (tokens.Digits n) rest
decimal_at n rest h s =
    let d = (decimal_is_IsNumeral n h).0 in
    digits_at (decimal n) rest d.0 d.1 s ∙ ap (λ t. found t rest) (numeral_value n h)

-- names and strings

pub name_at : (b : ℕ) (bs rest : List ℕ) → Safe rest → token_at (34 ∷ ((doubled 34 (b ∷ bs) ++ 34 ∷ []) ++ rest)) ≡ found (tokens.Name (b ∷ bs)) rest
unfolding token_at
name_at b bs rest s =
    ap (λ r. named (unquoted 34 false r)) (append_assoc (doubled 34 (b ∷ bs)) (34 ∷ []) rest) ∙ ap named (unquoted_doubled 34 (b ∷ bs) rest (safe_other s).0)

pub quoted_at : (bs rest : List ℕ) → Safe rest → token_at (39 ∷ ((doubled 39 bs ++ 39 ∷ []) ++ rest)) ≡ found (tokens.Quoted bs) rest
unfolding token_at
quoted_at bs rest s =
    ap (λ r. texted (unquoted 39 false r)) (append_assoc (doubled 39 bs) (39 ∷ []) rest) ∙ ap texted (unquoted_doubled 39 bs rest (safe_other s).1)

-- what may follow a token
abbrev pub MayFollow : Token → List ℕ → Type 0
MayFollow tokens.Open rest = Unit {0}
MayFollow tokens.Minus rest = Unit {0}
MayFollow t rest = Safe rest

pub read_again : (t : Token) (rest : List ℕ) → IsToken t → MayFollow t rest → token_at (token_text t ++ rest) ≡ found t rest
unfolding token_at sign word
read_again tokens.Open rest i s = refl
read_again tokens.Close rest i s = refl
read_again tokens.Comma rest i s = refl
read_again tokens.Minus rest i s = refl
read_again (tokens.Compare op) rest i s = op_at op s
read_again tokens.And rest i s = word_at 65 (78 ∷ 68 ∷ []) rest refl (refl, (refl, tt)) s
read_again tokens.Or rest i s = word_at 79 (82 ∷ []) rest refl (refl, tt) s
read_again tokens.Not rest i s = word_at 78 (79 ∷ 84 ∷ []) rest refl (refl, (refl, tt)) s
read_again tokens.Is rest i s = word_at 73 (83 ∷ []) rest refl (refl, tt) s
read_again tokens.Null rest i s = word_at 78 (85 ∷ 76 ∷ 76 ∷ []) rest refl (refl, (refl, (refl, tt))) s
read_again tokens.True rest i s = word_at 84 (82 ∷ 85 ∷ 69 ∷ []) rest refl (refl, (refl, (refl, tt))) s
read_again tokens.False rest i s = word_at 70 (65 ∷ 76 ∷ 83 ∷ 69 ∷ []) rest refl (refl, (refl, (refl, (refl, tt)))) s
read_again tokens.Unknown rest i s = word_at 85 (78 ∷ 75 ∷ 78 ∷ 79 ∷ 87 ∷ 78 ∷ []) rest refl (refl, (refl, (refl, (refl, (refl, (refl, tt)))))) s
read_again tokens.Distinct rest i s = word_at 68 (73 ∷ 83 ∷ 84 ∷ 73 ∷ 78 ∷ 67 ∷ 84 ∷ []) rest refl (refl, (refl, (refl, (refl, (refl, (refl, (refl, tt))))))) s
read_again tokens.From rest i s = word_at 70 (82 ∷ 79 ∷ 77 ∷ []) rest refl (refl, (refl, (refl, tt))) s
read_again tokens.In rest i s = word_at 73 (78 ∷ []) rest refl (refl, tt) s
read_again tokens.Between rest i s = word_at 66 (69 ∷ 84 ∷ 87 ∷ 69 ∷ 69 ∷ 78 ∷ []) rest refl (refl, (refl, (refl, (refl, (refl, (refl, tt)))))) s
read_again tokens.Like rest i s = word_at 76 (73 ∷ 75 ∷ 69 ∷ []) rest refl (refl, (refl, (refl, tt))) s
read_again (tokens.Name []) rest i s = absurd i
read_again (tokens.Name (b ∷ bs)) rest i s = name_at b bs rest s
read_again (tokens.Quoted text) rest i s = quoted_at text rest s
read_again (tokens.Digits n) rest i s = decimal_at n rest i s

pub gap_left : (t u : Token) (r : List ℕ) → binds_right t ≡ false → (gap t u ++ r) ≡ (cond (binds_left u) [] (32 ∷ []) ++ r)
gap_left t u r e = ap (λ c. cond c [] (cond (binds_left u) [] (32 ∷ [])) ++ r) e

pub safe_left : (u : Token) (r : List ℕ) → Safe (cond (binds_left u) [] (32 ∷ []) ++ (token_text u ++ r))
safe_left tokens.Close r = close
safe_left tokens.Comma r = comma
safe_left u r = space

pub safe_after : (t : Token) (ts : List Token) → binds_right t ≡ false → Safe (text_after t ts)
safe_after t [] e = at_end
safe_after t (u ∷ ts) e = subst Safe (sym (gap_left t u (token_text u ++ text_after u ts) e)) (safe_left u (text_after u ts))

pub follows : (t : Token) (ts : List Token) → MayFollow t (text_after t ts)
follows tokens.Open ts = tt
follows tokens.Minus ts = tt
follows t ts = safe_after t ts refl

-- spaces

pub no_space : (t : Token) (r : List ℕ) → IsToken t → past is_space (token_text t ++ r) ≡ token_text t ++ r
unfolding past
no_space (tokens.Compare op) r i = by op where
  by : (op : CmpOp) → past is_space (op_text op ++ r) ≡ op_text op ++ r
  by ops.Eq = refl
  by ops.Ne = refl
  by ops.Lt = refl
  by ops.Le = refl
  by ops.Gt = refl
  by ops.Ge = refl
no_space (tokens.Digits n) r i = let d = (decimal_is_IsNumeral n i).0 in digits_no_space (decimal n) r d.0 d.1
no_space t r i = refl

pub past_gap : (t u : Token) (r : List ℕ) → past is_space r ≡ r → past is_space (gap t u ++ r) ≡ r
unfolding past
past_gap t u r e = by (binds_right t) (binds_left u) where
  by : (b c : Bool) → past is_space (cond b [] (cond c [] (32 ∷ [])) ++ r) ≡ r
  by true c = e
  by false true = e
  by false false = e

-- the whole text

abbrev pub Reads : Scanned → List Token → Type 0
Reads s ts = (tokens_of s ≡ ts) × (s.left ≡ 0)

pub scan_one : (n : ℕ) (front : List ℕ) (t : Token) (rest : List ℕ) (ts : List Token) → past is_space front ≡ token_text t ++ rest → token_at (token_text t ++ rest) ≡ found t rest → Reads (scan n rest) ts → Reads (scan (suc n) front) (t ∷ ts)
unfolding scan
scan_one n front t rest ts e f r =
    let step : scan (suc n) front ≡ scan_with (λ u. scan n u) (token_text t ++ rest) (found t rest) = ap (λ u. scan_with (λ v. scan n v) u (token_at u)) e ∙ ap (λ o. scan_with (λ v. scan n v) (token_text t ++ rest) o) f in
    (ap tokens_of step ∙ ap (λ us. t ∷ us) r.0, ap (λ s. s.left) step ∙ r.1)

pub scan_none : (n : ℕ) → Reads (scan n []) []
unfolding scan past token_at
scan_none zero = (refl, refl)
scan_none (suc n) = (refl, refl)

pub scan_after : (n : ℕ) (t : Token) (ts : List Token) → length ts ≤ n → AreTokens ts → Reads (scan n (text_after t ts)) ts
scan_after n t [] h i = scan_none n
scan_after zero t (u ∷ ts) h i = absurd (omega arith)
scan_after (suc n) t (u ∷ ts) h i =
    scan_one n (text_after t (u ∷ ts)) u (text_after u ts) ts (past_gap t u (token_text u ++ text_after u ts) (no_space u (text_after u ts) i.0)) (read_again u (text_after u ts) i.0 (follows u ts)) (scan_after n u ts (omega arith) i.1)

pub some_text : (t : Token) → IsToken t → 0 < length (token_text t)
some_text (tokens.Compare op) i = by op where
  by : (op : CmpOp) → 0 < length (op_text op)
  by ops.Eq = omega arith
  by ops.Ne = omega arith
  by ops.Lt = omega arith
  by ops.Le = omega arith
  by ops.Gt = omega arith
  by ops.Ge = omega arith
some_text (tokens.Digits n) i = (decimal_is_IsNumeral n i).0.0
some_text t i = omega arith

pub enough_after : (t : Token) (ts : List Token) → AreTokens ts → length ts ≤ length (text_after t ts)
enough_after t [] i = omega arith
enough_after t (u ∷ ts) i =
    let a : length ts ≤ length (text_after u ts) = enough_after u ts i.1 in
    let b : 0 < length (token_text u) = some_text u i.0 in
    let c : length (gap t u ++ (token_text u ++ text_after u ts)) ≡ length (gap t u) + (length (token_text u) + length (text_after u ts)) = simp length-append in
    omega arith

pub text_again : TextAgain
text_again [] i = scan_none (suc 0)
text_again (t ∷ ts) i =
    scan_one (length (text_of (t ∷ ts))) (text_of (t ∷ ts)) t (text_after t ts) ts (no_space t (text_after t ts) i.0) (read_again t (text_after t ts) i.0 (follows t ts))
    (scan_after (length (text_of (t ∷ ts))) t ts many i.1)
  where
    many : length ts ≤ length (text_of (t ∷ ts))
    many =
        let a : length ts ≤ length (text_after t ts) = enough_after t ts i.1 in
        let c : length (token_text t ++ text_after t ts) ≡ length (token_text t) + length (text_after t ts) = length-append (token_text t) (text_after t ts) in
        omega arith
