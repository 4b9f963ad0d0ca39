-- Writing an identity, byte by byte.
use Rattle.std.proofs.Common.{◌≡◌, ℕ, ◌<◌, Bool, true, false, List, [], ◌∷◌, ◌++◌, refl, sym, ◌∙◌, ap, subst, arith, append_assoc, append-nil}
use Rattle.std.specs.Prelude.{codes}
use Rattle.std.specs.Bool.{if◌then◌else◌}
use Rattle.std.specs.Str.{IsUtf8}
use Rattle.std.proofs.lemmas.Str.{IsUtf8-append, IsUtf8-from_ascii}
use Rattle.std.proofs.lemmas.Str.Ascii.{IsAscii-cons, IsAscii-nil}
use Rattle.shape_base.specs.Shape.{quoted}
use Rattle.shape_base.proofs.Lemmas.{IsUtf8-quoted}
use Rattle.shape_def.specs.Identity.{Names, behind_commas, joined}

one_ascii : (b : ℕ) → b < 128 → IsUtf8 (b ∷ [])
one_ascii b h = IsUtf8-from_ascii (b ∷ []) (IsAscii-cons b [] h IsAscii-nil)

more_ascii : (b : ℕ) (bs : List ℕ) → b < 128 → IsUtf8 bs → IsUtf8 (b ∷ bs)
more_ascii b bs h k = IsUtf8-append (b ∷ []) bs (one_ascii b h) k

pub columns_utf8 : IsUtf8 (codes " columns ")
columns_utf8 = more_ascii 32 _ (omega arith) (more_ascii 99 _ (omega arith) (more_ascii 111 _ (omega arith) (more_ascii 108 _ (omega arith) (more_ascii 117 _ (omega arith) (more_ascii 109 _ (omega arith) (more_ascii 110 _ (omega arith) (more_ascii 115 _ (omega arith) (one_ascii 32 (omega arith)))))))))

pub where_utf8 : IsUtf8 (codes " where ")
where_utf8 = more_ascii 32 _ (omega arith) (more_ascii 119 _ (omega arith) (more_ascii 104 _ (omega arith) (more_ascii 101 _ (omega arith) (more_ascii 114 _ (omega arith) (more_ascii 101 _ (omega arith) (one_ascii 32 (omega arith)))))))

pub with_part : (out part new : List ℕ) → new ≡ out ++ part → IsUtf8 part → IsUtf8 out → IsUtf8 new
with_part out part new is h k = subst IsUtf8 (sym is) (IsUtf8-append out part k h)

pub with_byte : (out new : List ℕ) (b : ℕ) → b < 128 → new ≡ out ++ b ∷ [] → IsUtf8 out → IsUtf8 new
with_byte out new b h is k = with_part out (b ∷ []) new is (one_ascii b h) k

pub with_name : (out words new : List ℕ) → new ≡ out ++ quoted words → IsUtf8 words → IsUtf8 out → IsUtf8 new
with_name out words new is h k = with_part out (quoted words) new is (IsUtf8-quoted words h) k

-- what is left of the names, from the first or from a later one on
abbrev pub left_of : Bool → Names → List ℕ
left_of true names = joined names
left_of false names = behind_commas names

pub left_none : (first : Bool) → left_of first [] ≡ []
left_none true = refl
left_none false = refl

pub names_left : (first : Bool) (n : List ℕ) (ns rest : Names) (out mid new all : List ℕ) → rest ≡ n ∷ ns → mid ≡ out ++ (if first then [] else 44 ∷ []) → new ≡ mid ++ quoted n → out ++ left_of first rest ≡ all → new ++ left_of false ns ≡ all
names_left true n ns rest out mid new all cut m w e =
    ap (λ x. x ++ behind_commas ns) (w ∙ ap (λ y. y ++ quoted n) (m ∙ append-nil out)) ∙ append_assoc out (quoted n) (behind_commas ns) ∙ ap (λ (r : Names). out ++ joined r) (sym cut) ∙ e
names_left false n ns rest out mid new all cut m w e =
    ap (λ x. x ++ behind_commas ns) (w ∙ ap (λ y. y ++ quoted n) m ∙ append_assoc out (44 ∷ []) (quoted n)) ∙ append_assoc out (44 ∷ quoted n) (behind_commas ns) ∙ ap (λ (r : Names). out ++ behind_commas r) (sym cut) ∙ e

pub names_done : (first : Bool) (rest : Names) (out all : List ℕ) → rest ≡ [] → out ++ left_of first rest ≡ all → out ≡ all
names_done first rest out all none e = sym (append-nil out) ∙ ap (λ x. out ++ x) (sym (left_none first)) ∙ ap (λ (r : Names). out ++ left_of first r) (sym none) ∙ e
