-- What the lexer finds, stands there.
use Rattle.std.proofs.Common.{◌≡◌, ℕ, List, [], ◌∷◌, ◌++◌, Bool, true, false, cond, Option, Some, None, nat_eq, refl, sym, ap, subst, ◌∙◌, append_assoc}
use Rattle.std.proofs.lemmas.Bool.{eqb-true}
use Rattle.std.specs.Char.{is_ascii_digit}
use Rattle.where_lexer.specs.declared.token.CmpOp.TheVariants as ops
use Rattle.where_lexer.specs.declared.token.Token.{Token}
use Rattle.where_lexer.specs.declared.token.Token.TheVariants as tokens
use Rattle.where_lexer.specs.Lexing.{begins_word, goes_word, run, past, word, number, with_byte, unquoted, name_before, named, texted, less, greater, differs, sign, token_at}
use Rattle.where_lexer.specs.Texts.{doubled}
use Rattle.where_lexer.proofs.Lemmas.{run_past, run_passes, same_byte}
use Rattle.where_tokens.specs.TokenTexts.{NotFirst, is_byte, Stands, a_word, an_integer, a_name, a_string, IsAt}
use Rattle.where_tokens.specs.TokenTexts as texts

abbrev pub Sound : List ℕ → Option (Token × List ℕ) → Type 0
Sound bytes None = Unit {0}
Sound bytes (Some x) = IsAt bytes x.0 x.1

pub past_not : (test : ℕ → Bool) (bs : List ℕ) → NotFirst test (past test bs)
unfolding past
past_not test [] = tt
past_not test (b ∷ bs) = by (past_not test bs) (test b) refl where
  by : NotFirst test (past test bs) → (c : Bool) → test b ≡ c → NotFirst test (cond c (past test bs) (b ∷ bs))
  by ih true i = ih
  by ih false i = i

-- quotes

abbrev pub before : ℕ → Bool → List ℕ
before q true = q ∷ []
before q false = []

abbrev pub Closes : ℕ → Bool → List ℕ → Option (List ℕ × List ℕ) → Type 0
Closes q flag bs None = Unit {0}
Closes q flag bs (Some x) = (before q flag ++ bs ≡ doubled q x.0 ++ q ∷ x.1) × NotFirst (is_byte q) x.1

pub closes_byte : (q b : ℕ) (bs : List ℕ) (o : Option (List ℕ × List ℕ)) → nat_eq b q ≡ false → Closes q false bs o → Closes q false (b ∷ bs) (with_byte b o)
closes_byte q b bs None i h = tt
closes_byte q b bs (Some x) i h = (ap (λ r. b ∷ r) h.0 ∙ sym (ap (λ c. cond c (q ∷ q ∷ doubled q x.0) (b ∷ doubled q x.0) ++ q ∷ x.1) i), h.1)

pub closes_quote : (q b : ℕ) (bs : List ℕ) (o : Option (List ℕ × List ℕ)) → nat_eq b q ≡ true → Closes q true bs o → Closes q false (b ∷ bs) o
closes_quote q b bs None i h = tt
closes_quote q b bs (Some x) i h = (ap (λ c. c ∷ bs) (eqb-true b q i) ∙ h.0, h.1)

pub closes_twice : (q b : ℕ) (bs : List ℕ) (o : Option (List ℕ × List ℕ)) → nat_eq b q ≡ true → Closes q false bs o → Closes q true (b ∷ bs) (with_byte q o)
closes_twice q b bs None i h = tt
closes_twice q b bs (Some x) i h = (ap (λ c. q ∷ c ∷ bs) (eqb-true b q i) ∙ ap (λ r. q ∷ q ∷ r) h.0 ∙ sym (ap (λ c. cond c (q ∷ q ∷ doubled q x.0) (q ∷ doubled q x.0) ++ q ∷ x.1) (same_byte q)), h.1)

pub closes : (q : ℕ) (flag : Bool) (bs : List ℕ) → Closes q flag bs (unquoted q flag bs)
unfolding unquoted
closes q false [] = tt
closes q true [] = (refl, tt)
closes q false (b ∷ bs) = by (closes q true bs) (closes q false bs) (nat_eq b q) refl where
  by : Closes q true bs (unquoted q true bs) → Closes q false bs (unquoted q false bs) → (c : Bool) → nat_eq b q ≡ c → Closes q false (b ∷ bs) (cond c (unquoted q true bs) (with_byte b (unquoted q false bs)))
  by h k true i = closes_quote q b bs (unquoted q true bs) i h
  by h k false i = closes_byte q b bs (unquoted q false bs) i k
closes q true (b ∷ bs) = by (closes q false bs) (nat_eq b q) refl where
  by : Closes q false bs (unquoted q false bs) → (c : Bool) → nat_eq b q ≡ c → Closes q true (b ∷ bs) (cond c (with_byte q (unquoted q false bs)) (Some ([], b ∷ bs)))
  by h true i = closes_twice q b bs (unquoted q false bs) i h
  by h false i = (refl, i)

pub quoted_cut : (q : ℕ) (bs content rest : List ℕ) → bs ≡ doubled q content ++ q ∷ rest → q ∷ bs ≡ (q ∷ (doubled q content ++ q ∷ [])) ++ rest
quoted_cut q bs content rest e = ap (λ r. q ∷ r) (e ∙ sym (append_assoc (doubled q content) (q ∷ []) rest))

pub name_sound : (bs name rest : List ℕ) → bs ≡ doubled 34 name ++ 34 ∷ rest → NotFirst (is_byte 34) rest → Sound (34 ∷ bs) (name_before name rest)
name_sound bs [] rest e h = tt
name_sound bs (c ∷ cs) rest e h = record { front = 34 ∷ (doubled 34 (c ∷ cs) ++ 34 ∷ []); cut = quoted_cut 34 bs (c ∷ cs) rest e; stands = a_name c cs rest h }

pub named_sound : (bs : List ℕ) (o : Option (List ℕ × List ℕ)) → Closes 34 false bs o → Sound (34 ∷ bs) (named o)
named_sound bs None h = tt
named_sound bs (Some x) h = name_sound bs x.0 x.1 h.0 h.1

pub texted_sound : (bs : List ℕ) (o : Option (List ℕ × List ℕ)) → Closes 39 false bs o → Sound (39 ∷ bs) (texted o)
texted_sound bs None h = tt
texted_sound bs (Some x) h = record { front = 39 ∷ (doubled 39 x.0 ++ 39 ∷ []); cut = quoted_cut 39 bs x.0 x.1 h.0; stands = a_string x.0 x.1 h.1 }

-- signs

abbrev pub at_sign : (bytes front rest : List ℕ) (t : Token) → bytes ≡ front ++ rest → Stands front t rest → IsAt bytes t rest
at_sign bytes front rest t e s = record { front = front; cut = e; stands = s }

pub less_sound : (bs : List ℕ) → Sound (60 ∷ bs) (less bs)
less_sound [] = at_sign (60 ∷ []) (60 ∷ []) [] (tokens.Compare ops.Lt) refl (texts.less [] tt tt)
less_sound (b ∷ bs) = by (nat_eq b 61) refl (nat_eq b 62) refl where
  by : (c : Bool) → nat_eq b 61 ≡ c → (d : Bool) → nat_eq b 62 ≡ d → Sound (60 ∷ b ∷ bs) (cond c (Some (tokens.Compare ops.Le, bs)) (cond d (Some (tokens.Compare ops.Ne, bs)) (Some (tokens.Compare ops.Lt, b ∷ bs))))
  by true i d j = at_sign (60 ∷ b ∷ bs) (60 ∷ 61 ∷ []) bs (tokens.Compare ops.Le) (ap (λ x. 60 ∷ x ∷ bs) (eqb-true b 61 i)) (texts.less_equal bs)
  by false i true j = at_sign (60 ∷ b ∷ bs) (60 ∷ 62 ∷ []) bs (tokens.Compare ops.Ne) (ap (λ x. 60 ∷ x ∷ bs) (eqb-true b 62 j)) (texts.differs bs)
  by false i false j = at_sign (60 ∷ b ∷ bs) (60 ∷ []) (b ∷ bs) (tokens.Compare ops.Lt) refl (texts.less (b ∷ bs) i j)

pub greater_sound : (bs : List ℕ) → Sound (62 ∷ bs) (greater bs)
greater_sound [] = at_sign (62 ∷ []) (62 ∷ []) [] (tokens.Compare ops.Gt) refl (texts.greater [] tt)
greater_sound (b ∷ bs) = by (nat_eq b 61) refl where
  by : (c : Bool) → nat_eq b 61 ≡ c → Sound (62 ∷ b ∷ bs) (cond c (Some (tokens.Compare ops.Ge, bs)) (Some (tokens.Compare ops.Gt, b ∷ bs)))
  by true i = at_sign (62 ∷ b ∷ bs) (62 ∷ 61 ∷ []) bs (tokens.Compare ops.Ge) (ap (λ x. 62 ∷ x ∷ bs) (eqb-true b 61 i)) (texts.greater_equal bs)
  by false i = at_sign (62 ∷ b ∷ bs) (62 ∷ []) (b ∷ bs) (tokens.Compare ops.Gt) refl (texts.greater (b ∷ bs) i)

pub differs_sound : (bs : List ℕ) → Sound (33 ∷ bs) (differs bs)
differs_sound [] = tt
differs_sound (b ∷ bs) = by (nat_eq b 61) refl where
  by : (c : Bool) → nat_eq b 61 ≡ c → Sound (33 ∷ b ∷ bs) (cond c (Some (tokens.Compare ops.Ne, bs)) None)
  by true i = at_sign (33 ∷ b ∷ bs) (33 ∷ 61 ∷ []) bs (tokens.Compare ops.Ne) (ap (λ x. 33 ∷ x ∷ bs) (eqb-true b 61 i)) (texts.differs_too bs)
  by false i = tt

-- at the byte that is told
pub at_byte : (b k : ℕ) (bs : List ℕ) (o : Option (Token × List ℕ)) → nat_eq b k ≡ true → Sound (k ∷ bs) o → Sound (b ∷ bs) o
at_byte b k bs o e h = subst (λ x. Sound (x ∷ bs) o) (sym (eqb-true b k e)) h

pub sign_sound : (b : ℕ) (bs : List ℕ) → Sound (b ∷ bs) (sign b bs)
unfolding sign
sign_sound b bs = by (nat_eq b 40) refl (nat_eq b 41) refl (nat_eq b 44) refl (nat_eq b 45) refl (nat_eq b 61) refl (nat_eq b 60) refl (nat_eq b 62) refl (nat_eq b 33) refl where
  by : (c1 : Bool) → nat_eq b 40 ≡ c1 → (c2 : Bool) → nat_eq b 41 ≡ c2 → (c3 : Bool) → nat_eq b 44 ≡ c3 → (c4 : Bool) → nat_eq b 45 ≡ c4 → (c5 : Bool) → nat_eq b 61 ≡ c5 → (c6 : Bool) → nat_eq b 60 ≡ c6 → (c7 : Bool) → nat_eq b 62 ≡ c7 → (c8 : Bool) → nat_eq b 33 ≡ c8
      → Sound (b ∷ bs) (cond c1 (Some (tokens.Open, bs)) (cond c2 (Some (tokens.Close, bs)) (cond c3 (Some (tokens.Comma, bs)) (cond c4 (Some (tokens.Minus, bs)) (cond c5 (Some (tokens.Compare ops.Eq, bs)) (cond c6 (less bs) (cond c7 (greater bs) (cond c8 (differs bs) None))))))))
  by true e c2 e2 c3 e3 c4 e4 c5 e5 c6 e6 c7 e7 c8 e8 = at_byte b 40 bs (Some (tokens.Open, bs)) e (at_sign (40 ∷ bs) (40 ∷ []) bs tokens.Open refl (texts.opening bs))
  by false e1 true e c3 e3 c4 e4 c5 e5 c6 e6 c7 e7 c8 e8 = at_byte b 41 bs (Some (tokens.Close, bs)) e (at_sign (41 ∷ bs) (41 ∷ []) bs tokens.Close refl (texts.closing bs))
  by false e1 false e2 true e c4 e4 c5 e5 c6 e6 c7 e7 c8 e8 = at_byte b 44 bs (Some (tokens.Comma, bs)) e (at_sign (44 ∷ bs) (44 ∷ []) bs tokens.Comma refl (texts.comma bs))
  by false e1 false e2 false e3 true e c5 e5 c6 e6 c7 e7 c8 e8 = at_byte b 45 bs (Some (tokens.Minus, bs)) e (at_sign (45 ∷ bs) (45 ∷ []) bs tokens.Minus refl (texts.minus bs))
  by false e1 false e2 false e3 false e4 true e c6 e6 c7 e7 c8 e8 = at_byte b 61 bs (Some (tokens.Compare ops.Eq, bs)) e (at_sign (61 ∷ bs) (61 ∷ []) bs (tokens.Compare ops.Eq) refl (texts.equal bs))
  by false e1 false e2 false e3 false e4 false e5 true e c7 e7 c8 e8 = at_byte b 60 bs (less bs) e (less_sound bs)
  by false e1 false e2 false e3 false e4 false e5 false e6 true e c8 e8 = at_byte b 62 bs (greater bs) e (greater_sound bs)
  by false e1 false e2 false e3 false e4 false e5 false e6 false e7 true e = at_byte b 33 bs (differs bs) e (differs_sound bs)
  by false e1 false e2 false e3 false e4 false e5 false e6 false e7 false e8 = tt

pub token_sound : (bytes : List ℕ) → Sound bytes (token_at bytes)
unfolding token_at
token_sound [] = tt
token_sound (b ∷ bs) = by (begins_word b) refl (is_ascii_digit b) refl (nat_eq b 34) refl (nat_eq b 39) refl where
  by : (c1 : Bool) → begins_word b ≡ c1 → (c2 : Bool) → is_ascii_digit b ≡ c2 → (c3 : Bool) → nat_eq b 34 ≡ c3 → (c4 : Bool) → nat_eq b 39 ≡ c4
      → Sound (b ∷ bs) (cond c1 (Some (word (b ∷ run goes_word bs), past goes_word bs)) (cond c2 (Some (number (b ∷ run is_ascii_digit bs), past is_ascii_digit bs)) (cond c3 (named (unquoted 34 false bs)) (cond c4 (texted (unquoted 39 false bs)) (sign b bs)))))
  by true e c2 e2 c3 e3 c4 e4 = at_sign (b ∷ bs) (b ∷ run goes_word bs) (past goes_word bs) (word (b ∷ run goes_word bs)) (ap (λ r. b ∷ r) (run_past goes_word bs)) (a_word b (run goes_word bs) (past goes_word bs) e (run_passes goes_word bs) (past_not goes_word bs))
  by false e1 true e c3 e3 c4 e4 = at_sign (b ∷ bs) (b ∷ run is_ascii_digit bs) (past is_ascii_digit bs) (number (b ∷ run is_ascii_digit bs)) (ap (λ r. b ∷ r) (run_past is_ascii_digit bs)) (an_integer b (run is_ascii_digit bs) (past is_ascii_digit bs) (e, run_passes is_ascii_digit bs) (past_not is_ascii_digit bs))
  by false e1 false e2 true e c4 e4 = at_byte b 34 bs (named (unquoted 34 false bs)) e (named_sound bs (unquoted 34 false bs) (closes 34 false bs))
  by false e1 false e2 false e3 true e = at_byte b 39 bs (texted (unquoted 39 false bs)) e (texted_sound bs (unquoted 39 false bs) (closes 39 false bs))
  by false e1 false e2 false e3 false e4 = sign_sound b bs
