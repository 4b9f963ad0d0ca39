-- Where a space stands in bytes that begin a head.
use Rattle.std.proofs.Common.{◌≡◌, ℕ, Bool, true, false, List, [], ◌∷◌, ◌++◌, refl, sym, ap, ◌∙◌, subst, arith}
use Rattle.std.proofs.lemmas.Bool.{false≢true}
use Rattle.std.proofs.lemmas.List.Elements.{All-head, All-tail}
use Rattle.shape_base.specs.Decimal.{LacksByte, IsSplit}
use Rattle.httparse.specs.Grammar.{AllPass, is_token_byte, is_uri_byte, LineEnd, crlf, lf, print_blank}

-- the first space is one place
pub one_split : (a b x y : List ℕ) → LacksByte 32 a → LacksByte 32 b → a ++ 32 ∷ x ≡ b ++ 32 ∷ y → (a ≡ b) × (x ≡ y)
one_split [] [] x y p q e = (refl, cc)
one_split [] (c ∷ b) x y p q e = let first : c ≡ 32 = cc in absurd (q.0 first)
one_split (c ∷ a) [] x y p q e = let first : c ≡ 32 = cc in absurd (p.0 first)
one_split (c ∷ a) (d ∷ b) x y p q e =
    let first : c ≡ d = cc in
    let others : a ++ 32 ∷ x ≡ b ++ 32 ∷ y = cc in
    let same = one_split a b x y p.1 q.1 others in
    (cc, same.1)

pub no_space : (a b : List ℕ) → LacksByte 32 (a ++ 32 ∷ b) → ⊥
no_space [] b lacks = lacks.0 refl
no_space (c ∷ a) b lacks = no_space a b lacks.1

-- bytes without a space, in front of what begins with others and a space, stand in front of those others
pub in_front : (a b x y : List ℕ) → LacksByte 32 a → a ++ x ≡ b ++ 32 ∷ y → (more : List ℕ) × (b ≡ a ++ more)
in_front [] b x y lacks e = (b, refl)
in_front (c ∷ a) [] x y lacks e = let first : c ≡ 32 = cc in absurd (lacks.0 first)
in_front (c ∷ a) (d ∷ b) x y lacks e =
    let first : d ≡ c = cc in
    let others : a ++ x ≡ b ++ 32 ∷ y = cc in
    let rest = in_front a b x y lacks.1 others in
    (rest.0, let same = rest.1 in cc)

pub lacks_both : (a b : List ℕ) → LacksByte 32 a → LacksByte 32 b → LacksByte 32 (a ++ b)
lacks_both [] b p q = q
lacks_both (c ∷ a) b p q = (p.0, lacks_both a b p.1 q)

passing_lack : (test : ℕ → Bool) → test 32 ≡ false → (bytes : List ℕ) → AllPass test bytes → LacksByte 32 bytes
passing_lack test fails [] all = tt
passing_lack test fails (b ∷ bytes) all = (
  λ e. false≢true (sym fails ∙ ap test (sym e) ∙ All-head (λ c. test c ≡ true) b bytes all),
  passing_lack test fails bytes (All-tail (λ c. test c ≡ true) b bytes all),
)

pub token_lacks : (bytes : List ℕ) → AllPass is_token_byte bytes → LacksByte 32 bytes
unfolding is_token_byte
token_lacks bytes all = passing_lack is_token_byte refl bytes all

pub target_lacks : (bytes : List ℕ) → AllPass is_uri_byte bytes → LacksByte 32 bytes
target_lacks bytes all = passing_lack is_uri_byte refl bytes all

pub blank_lacks : (ends : List LineEnd) → LacksByte 32 (print_blank ends)
blank_lacks [] = tt
blank_lacks (crlf ∷ ends) = (λ e. absurd (omega (arith, e)), (λ e. absurd (omega (arith, e)), blank_lacks ends))
blank_lacks (lf ∷ ends) = (λ e. absurd (omega (arith, e)), blank_lacks ends)

-- bytes with one space have no other
pub not_only : (bytes a b c d : List ℕ) → IsSplit 32 bytes a b → IsSplit 32 b c d → (before rest : List ℕ) → bytes ≡ before ++ 32 ∷ rest → LacksByte 32 before → LacksByte 32 rest → ⊥
not_only bytes a b c d first next before rest e p q =
    let same = one_split a before b rest first.first p (sym first.whole ∙ e) in
    no_space c d (subst (LacksByte 32) (sym same.1 ∙ next.whole) q)
