-- The loop over the tokens of a text.
use Rattle.std.proofs.Common.{◌≡◌, ◌<◌, ◌-◌, ℕ, suc, List, [], ◌∷◌, ◌++◌, length, map, Option, Some, None, sym, ap, ◌∙◌, append_assoc, arith}
use Rattle.std.proofs.lemmas.List.{append-nil}
use Rattle.std.specs.Str.{IsUtf8}
use Rattle.where_lexer.specs.declared.token.Token.{Token}
use Rattle.where_lexer.specs.Lexing.{is_space, past, token_at, Scanned, scan_with, scan, scanned}
use Rattle.where_lexer.specs.Seen.{IsLexed}

abbrev pub names : Scanned → List Token
names s = map (λ p. p.token) s.tokens

abbrev pub lefts_of : Scanned → List ℕ
lefts_of s = map (λ p. p.left) s.tokens

-- with these tokens before those of the rest, for which so many steps are left
pub record Scanning (whole : Scanned) (steps : ℕ) (tokens : List Token) (lefts rest : List ℕ) : Type 0 where
  pub tokens_are : tokens ++ names (scan steps rest) ≡ names whole
  pub lefts_are : lefts ++ lefts_of (scan steps rest) ≡ lefts_of whole
  pub left_is : (scan steps rest).left ≡ whole.left
  pub utf8 : IsUtf8 rest

pub scanning_start : (text : List ℕ) (steps : ℕ) → steps ≡ suc (length text) → IsUtf8 text → Scanning (scanned text) steps [] [] text
scanning_start text steps e u =
    let same : scan steps text ≡ scanned text = ap (λ n. scan n text) e in
    record { tokens_are = ap names same; lefts_are = ap lefts_of same; left_is = ap (λ s. s.left) same; utf8 = u }

pub scan_step : (n : ℕ) (rest bytes : List ℕ) (o : Option (Token × List ℕ)) → bytes ≡ past is_space rest → o ≡ token_at bytes → scan (suc n) rest ≡ scan_with (λ u. scan n u) bytes o
unfolding scan
scan_step n rest bytes o e f = ap (λ u. scan_with (λ v. scan n v) u (token_at u)) (sym e) ∙ ap (λ t. scan_with (λ v. scan n v) bytes t) (sym f)

pub scanning_stop : (whole : Scanned) (steps : ℕ) (tokens : List Token) (lefts rest bytes : List ℕ) → 0 < steps → Scanning whole steps tokens lefts rest → bytes ≡ past is_space rest → None ≡ token_at bytes → (left : ℕ) → left ≡ length bytes → IsLexed whole tokens lefts left
scanning_stop whole steps tokens lefts rest bytes h s e f left k =
    let z : steps ≡ suc (steps - 1) = omega arith in
    let step : scan steps rest ≡ scan_with (λ u. scan (steps - 1) u) bytes None = ap (λ n. scan n rest) z ∙ scan_step (steps - 1) rest bytes None e f in
    record {
      tokens_are = sym (append-nil tokens) ∙ ap (λ t. tokens ++ names t) (sym step) ∙ s.tokens_are;
      lefts_are = sym (append-nil lefts) ∙ ap (λ t. lefts ++ lefts_of t) (sym step) ∙ s.lefts_are;
      left_is = k ∙ ap (λ t. t.left) (sym step) ∙ s.left_is;
    }

pub scanning_done : (whole : Scanned) (steps : ℕ) (tokens : List Token) (lefts rest : List ℕ) → steps ≡ 0 → Scanning whole steps tokens lefts rest → (left : ℕ) → left ≡ length rest → IsLexed whole tokens lefts left
unfolding scan
scanning_done whole steps tokens lefts rest z s left k =
    let step : scan steps rest ≡ scan 0 rest = ap (λ n. scan n rest) z in
    record {
      tokens_are = sym (append-nil tokens) ∙ ap (λ t. tokens ++ names t) (sym step) ∙ s.tokens_are;
      lefts_are = sym (append-nil lefts) ∙ ap (λ t. lefts ++ lefts_of t) (sym step) ∙ s.lefts_are;
      left_is = k ∙ ap (λ t. t.left) (sym step) ∙ s.left_is;
    }

pub scanning_more : (whole : Scanned) (steps more : ℕ) (tokens : List Token) (lefts rest bytes : List ℕ) (t : Token) (after : List ℕ) (left : ℕ) (tokens' : List Token) (lefts' : List ℕ) → steps ≡ suc more → Scanning whole steps tokens lefts rest → bytes ≡ past is_space rest → Some (t, after) ≡ token_at bytes → IsUtf8 after → left ≡ length bytes → tokens' ≡ tokens ++ t ∷ [] → lefts' ≡ lefts ++ left ∷ [] → Scanning whole more tokens' lefts' after
scanning_more whole steps more tokens lefts rest bytes t after left tokens' lefts' z s e f u k x y =
    let step : scan steps rest ≡ scan_with (λ v. scan more v) bytes (Some (t, after)) = ap (λ n. scan n rest) z ∙ scan_step more rest bytes (Some (t, after)) e f in
    record {
      tokens_are = ap (λ v. v ++ names (scan more after)) x ∙ append_assoc tokens (t ∷ []) (names (scan more after)) ∙ ap (λ v. tokens ++ names v) (sym step) ∙ s.tokens_are;
      lefts_are = ap (λ v. v ++ lefts_of (scan more after)) (y ∙ ap (λ v. lefts ++ v ∷ []) k) ∙ append_assoc lefts (length bytes ∷ []) (lefts_of (scan more after)) ∙ ap (λ v. lefts ++ lefts_of v) (sym step) ∙ s.lefts_are;
      left_is = ap (λ v. v.left) (sym step) ∙ s.left_is;
      utf8 = u;
    }
