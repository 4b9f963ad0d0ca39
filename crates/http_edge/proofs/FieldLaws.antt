-- White space round an option, and the fields of a head by their spans.
use Rattle.std.proofs.Common.{◌≡◌, ℕ, Bool, true, false, List, [], ◌∷◌, ◌++◌, reverse, refl, sym, ap, ◌∙◌, codes}
use Rattle.std.proofs.lemmas.List.{reverse-append, reverse-reverse}
use Rattle.httparse.specs.Grammar.{is_ows, skip_ows, trim_ows}
use Rattle.http_edge.specs.Head.{is_named, is_close}

-- ---- white space

pub skip_white : (text rest : List ℕ) (b : ℕ) (w : Bool) → text ≡ b ∷ rest → w ≡ is_ows b → w ≡ true → skip_ows text ≡ skip_ows rest
skip_white text rest b w is test white = rw (is, ← test, white) refl

pub skip_other : (text rest : List ℕ) (b : ℕ) (w : Bool) → text ≡ b ∷ rest → w ≡ is_ows b → w ≡ false → skip_ows text ≡ text
skip_other text rest b w is test other = rw (is, ← test, other) refl

turned : (text rest : List ℕ) (b : ℕ) → text ≡ rest ++ b ∷ [] → reverse text ≡ b ∷ reverse rest
turned text rest b is = ap reverse is ∙ reverse-append rest (b ∷ [])

pub skip_white_behind : (text rest : List ℕ) (b : ℕ) (w : Bool) → text ≡ rest ++ b ∷ [] → w ≡ is_ows b → w ≡ true → skip_ows (reverse text) ≡ skip_ows (reverse rest)
skip_white_behind text rest b w is test white = skip_white (reverse text) (reverse rest) b w (turned text rest b is) test white

pub skip_other_behind : (text rest : List ℕ) (b : ℕ) (w : Bool) → text ≡ rest ++ b ∷ [] → w ≡ is_ows b → w ≡ false → skip_ows (reverse text) ≡ reverse text
skip_other_behind text rest b w is test other = skip_other (reverse text) (reverse rest) b w (turned text rest b is) test other

pub trimmed : (bytes front both : List ℕ) → front ≡ skip_ows bytes → reverse both ≡ skip_ows (reverse front) → both ≡ trim_ows bytes
unfolding trim_ows
trimmed bytes front both is_front is_both = sym (reverse-reverse both) ∙ ap reverse (is_both ∙ ap (λ l. skip_ows (reverse l)) is_front)

pub close_trimmed : (option front both : List ℕ) (r : Bool) → front ≡ skip_ows option → reverse both ≡ skip_ows (reverse front) → r ≡ is_named both (codes "close") → r ≡ is_close option
close_trimmed option front both r is_front is_both test = test ∙ ap (λ l. is_named l (codes "close")) (trimmed option front both is_front is_both)
