-- The pairs of a form, decoded one after the other.
use Rattle.std.proofs.Common.{◌≡◌, ◌⊎◌, true, ℕ, ◌<◌, List, [], ◌∷◌, ◌++◌, map, sym, ap, ◌∙◌, subst, inl, inr, append_assoc, arith}
use Rattle.std.specs.List.{All, list_all}
use Rattle.std.proofs.lemmas.List.Elements.{All-nil, All-cons}
use Rattle.std.proofs.lemmas.Bool.{and_parts}
use Rattle.std.proofs.lemmas.Bool.Decides.{nat_tests}
use Rattle.std.specs.Str.{IsUtf8, IsAscii}
use Rattle.std.proofs.lemmas.Str.Ascii.{IsAscii-nil, IsAscii-cons}
use Rattle.std.proofs.lemmas.Str.{IsUtf8-from_ascii}
use Rattle.form_urlencoded.specs.Form.{decode, parse, IsPlain}
use Rattle.form_urlencoded.proofs.FormLemmas.{decode_plain}
use Rattle.http_edge.specs.Parameters.{Pair, AreTexts, decoded, stands_for_itself, pair_of, pairs_of}
use Rattle.http_edge.specs.declared.parameters.Parameter.{Parameter}
use Rattle.std.proofs.lemmas.List.{map-append}
use Rattle.http_edge.specs.declared.refusal.Refusal.{Refusal}
use Rattle.http_edge.specs.declared.refusal.Refusal.TheVariants as refusals

-- ---- bytes that stand for themselves

plain_byte : (b : ℕ) → stands_for_itself b ≡ true → IsPlain b
plain_byte b h = (λ e. grind (arith, nat_tests), λ e. grind (arith, nat_tests))

all_plain : (raw : List ℕ) → list_all stands_for_itself raw ≡ true → All IsPlain raw
all_plain [] h = All-nil IsPlain
all_plain (b ∷ raw) h = let p = and_parts (stands_for_itself b) _ h in All-cons IsPlain b raw (plain_byte b p.0) (all_plain raw p.1)

all_ascii : (raw : List ℕ) → list_all stands_for_itself raw ≡ true → IsAscii raw
all_ascii [] h = IsAscii-nil
all_ascii (b ∷ raw) h = let p = and_parts (stands_for_itself b) _ h in let s : b < 128 = grind (arith, nat_tests, p.0) in IsAscii-cons b raw s (all_ascii raw p.1)

pub plain_decoded : (raw : List ℕ) → list_all stands_for_itself raw ≡ true → raw ≡ decode raw
plain_decoded raw h = sym (decode_plain raw (all_plain raw h))

pub plain_utf8 : (raw : List ℕ) → list_all stands_for_itself raw ≡ true → IsUtf8 (decode raw)
plain_utf8 raw h = subst IsUtf8 (plain_decoded raw h) (IsUtf8-from_ascii raw (all_ascii raw h))

-- ---- one more pair

next_pair : (query : List ℕ) (ps : List Parameter) (p : Parameter) (raw left : List Pair) (n : Pair) → parse query ≡ pairs_of ps ++ map decoded raw → raw ≡ n ∷ left → pair_of p ≡ decoded n → parse query ≡ pairs_of (ps ++ p ∷ []) ++ map decoded left
next_pair query ps p raw left n e cut is =
    e ∙ ap (λ x. pairs_of ps ++ map decoded x) cut ∙ (λ i. pairs_of ps ++ (sym is i) ∷ map decoded left) ∙ sym (append_assoc (pairs_of ps) (pair_of p ∷ []) (map decoded left)) ∙ ap (λ x. x ++ map decoded left) (sym (map-append pair_of ps (p ∷ [])))

texts_push : (front : List Pair) (p : Pair) → AreTexts front → IsUtf8 p.0 × IsUtf8 p.1 → AreTexts (front ++ p ∷ [])
texts_push [] p texts h = (h, tt)
texts_push (q ∷ front) p texts h = (texts.0, texts_push front p texts.1 h)

next_texts : (ps : List Parameter) (p : Parameter) (n : Pair) → AreTexts (pairs_of ps) → pair_of p ≡ decoded n → IsUtf8 (decode n.0) × IsUtf8 (decode n.1) → AreTexts (pairs_of (ps ++ p ∷ []))
next_texts ps p n texts is h =
    subst AreTexts (sym (map-append pair_of ps (p ∷ []))) (texts_push (pairs_of ps) (pair_of p) texts (subst (λ (x : Pair). IsUtf8 x.0 × IsUtf8 x.1) (sym is) h))

texts_at : (front rest : List Pair) (p : Pair) → AreTexts (front ++ p ∷ rest) → IsUtf8 p.0 × IsUtf8 p.1
texts_at [] rest p texts = texts.0
texts_at (q ∷ front) rest p texts = texts_at front rest p texts.1

bad_pair : (query : List ℕ) (ps : List Parameter) (raw left : List Pair) (n : Pair) → parse query ≡ pairs_of ps ++ map decoded raw → raw ≡ n ∷ left → (IsUtf8 (decode n.0) × IsUtf8 (decode n.1) → ⊥) → AreTexts (parse query) → ⊥
bad_pair query ps raw left n e cut bad texts = bad (texts_at (pairs_of ps) (map decoded left) (decoded n) (subst AreTexts (e ∙ ap (λ x. pairs_of ps ++ map decoded x) cut) texts))

pub next_pairs : (query : List ℕ) (ps qs : List Parameter) (p : Parameter) (raw left : List Pair) (n : Pair) → parse query ≡ pairs_of ps ++ map decoded raw → AreTexts (pairs_of ps) → raw ≡ n ∷ left → (pair_of p ≡ decoded n) × (IsUtf8 (decode n.0) × IsUtf8 (decode n.1)) → qs ≡ ps ++ p ∷ [] → (parse query ≡ pairs_of qs ++ map decoded left) × AreTexts (pairs_of qs)
next_pairs query ps qs p raw left n e texts cut read is =
    subst (λ (x : List Parameter). (parse query ≡ pairs_of x ++ map decoded left) × AreTexts (pairs_of x)) (sym is) (next_pair query ps p raw left n e cut read.0, next_texts ps p n texts read.0 read.1)

pub no_texts : (query : List ℕ) (ps : List Parameter) (raw left : List Pair) (n : Pair) (r : Refusal) → parse query ≡ pairs_of ps ++ map decoded raw → raw ≡ n ∷ left → (r ≡ refusals.OutOfMemory) ⊎ ((r ≡ refusals.BadEscape) × (IsUtf8 (decode n.0) × IsUtf8 (decode n.1) → ⊥)) → (r ≡ refusals.OutOfMemory) ⊎ ((r ≡ refusals.BadEscape) × (AreTexts (parse query) → ⊥))
no_texts query ps raw left n r e cut (inl memory) = inl memory
no_texts query ps raw left n r e cut (inr bad) = inr (bad.0, bad_pair query ps raw left n e cut bad.1)
