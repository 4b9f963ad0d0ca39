-- What the loops over rows, columns, tables and definitions rest on.
use Rattle.std.proofs.Common.{◌≡◌, ℕ, ◌+◌, ◌<◌, Bool, true, false, List, [], ◌∷◌, ◌++◌, length, refl, sym, ap, ◌∙◌, append_assoc, arith, None, Some, Ok, Err, Option}
use Rattle.std.proofs.lemmas.Str.{is_utf8-from_IsUtf8, IsUtf8-from_is_utf8, utf8_valid_len-IsValidUpTo}
use Rattle.std.specs.Str.{IsUtf8, IsValidUpTo, is_utf8}
use Rattle.std.specs.Str.Lossy.{utf8_valid_len}
use Rattle.std.specs.Option.{option_map}
use Rattle.std.specs.Prelude.{if◌then◌else◌}
use Rattle.shape_base.specs.declared.value.Value.{Value}
use Rattle.shape_base.specs.declared.definition.Column.{Column}
use Rattle.shape_base.specs.Tables.{Values}
use Rattle.pgout.specs.declared.message.Field.{Field}
use Rattle.pgout.specs.declared.message.ColumnSent.{ColumnSent}
use Rattle.tx_assembler.specs.declared.answer.AssembleError.{AssembleError}
use Rattle.tx_assembler.specs.declared.answer.AssembleError.TheVariants as errors
use Rattle.tx_assembler.specs.Answers.{Answer, next, Refuses}
use Rattle.tx_assembler.specs.Rows.{text_of, value_of, values_of, columns_of}
use Rattle.tx_assembler.specs.Kept.{place_where}

-- ---- texts

pub text_is : (bytes : List ℕ) → IsUtf8 bytes → text_of bytes ≡ Ok bytes
text_is bytes h = ap (λ b. if b then Ok bytes else Err (errors.NotUtf8 (utf8_valid_len bytes))) (is_utf8-from_IsUtf8 bytes h)

not_utf8 : (bytes : List ℕ) → ¬ (IsUtf8 bytes) → (b : Bool) → is_utf8 bytes ≡ b → is_utf8 bytes ≡ false
not_utf8 bytes h true e = absurd (h (IsUtf8-from_is_utf8 bytes e))
not_utf8 bytes h false e = e

pub text_is_not : (bytes : List ℕ) (place : ℕ) → ¬ (IsUtf8 bytes) → IsValidUpTo bytes place → text_of bytes ≡ Err (errors.NotUtf8 place)
text_is_not bytes place not upto =
    ap (λ b. if b then Ok bytes else Err (errors.NotUtf8 (utf8_valid_len bytes))) (not_utf8 bytes not (is_utf8 bytes) refl)
    ∙ ap (λ n. Err (errors.NotUtf8 n)) (utf8_valid_len-IsValidUpTo bytes place upto)

-- ---- lists that are made item by item

shift : {A : Type 0} (made : List A) (x : A) (rest : Answer (List A)) → next (next rest (λ xs. Ok (x ∷ xs))) (λ xs. Ok (made ++ xs)) ≡ next rest (λ xs. Ok ((made ++ x ∷ []) ++ xs))
shift made x (Ok xs) = ap Ok (sym (append_assoc made (x ∷ []) xs))
shift made x (Err e) = refl

pub values_more : (before : Values) (column : ℕ) (f : Field) (fs : List Field) (v : Value) (made : Values) (all : Answer Values)
    → all ≡ next (values_of before column (f ∷ fs)) (λ vs. Ok (made ++ vs)) → value_of before column f ≡ Ok v
    → all ≡ next (values_of before (column + 1) fs) (λ vs. Ok ((made ++ v ∷ []) ++ vs))
values_more before column f fs v made all h e =
    h ∙ ap (λ (a : Answer Value). next (next a (λ w. next (values_of before (column + 1) fs) (λ vs. Ok (w ∷ vs)))) (λ vs. Ok (made ++ vs))) e
    ∙ shift made v (values_of before (column + 1) fs)

pub values_stop : (before : Values) (column : ℕ) (f : Field) (fs : List Field) (e : AssembleError) (made : Values) (all : Answer Values)
    → all ≡ next (values_of before column (f ∷ fs)) (λ vs. Ok (made ++ vs)) → Refuses e (value_of before column f) → Refuses e all
values_stop before column f fs e made all h stop m =
    h ∙ ap (λ (a : Answer Value). next (next a (λ w. next (values_of before (column + 1) fs) (λ vs. Ok (w ∷ vs)))) (λ vs. Ok (made ++ vs))) (stop m)

pub columns_more : (c : ColumnSent) (cs : List ColumnSent) (name : List ℕ) (made : List Column) (all : Answer (List Column))
    → all ≡ next (columns_of (c ∷ cs)) (λ xs. Ok (made ++ xs)) → text_of c.name ≡ Ok name
    → all ≡ next (columns_of cs) (λ xs. Ok ((made ++ record { name = name; oid = c.oid } ∷ []) ++ xs))
columns_more c cs name made all h e =
    h ∙ ap (λ (a : Answer (List ℕ)). next (next a (λ n. next (columns_of cs) (λ xs. Ok (record { name = n; oid = c.oid } ∷ xs)))) (λ xs. Ok (made ++ xs))) e
    ∙ shift made (record { name = name; oid = c.oid }) (columns_of cs)

pub columns_stop : (c : ColumnSent) (cs : List ColumnSent) (e : AssembleError) (made : List Column) (all : Answer (List Column))
    → all ≡ next (columns_of (c ∷ cs)) (λ xs. Ok (made ++ xs)) → Refuses e (text_of c.name) → Refuses e all
columns_stop c cs e made all h stop m =
    h ∙ ap (λ (a : Answer (List ℕ)). next (next a (λ n. next (columns_of cs) (λ xs. Ok (record { name = n; oid = c.oid } ∷ xs)))) (λ xs. Ok (made ++ xs))) (stop m)

-- ---- places

-- a place behind so many others
abbrev pub behind : ℕ → Option ℕ → Option ℕ
behind n place = option_map (λ p. n + p) place

behind_one : (n : ℕ) (place : Option ℕ) → behind n (option_map (λ p. p + 1) place) ≡ behind (n + 1) place
behind_one n None = refl
behind_one n (Some p) = ap Some (omega arith)

pub place_here : {A : Type 0} (passes : A → Bool) (x : A) (xs : List A) (n : ℕ) (all : Option ℕ) → all ≡ behind n (place_where passes (x ∷ xs)) → passes x ≡ true → all ≡ Some n
place_here passes x xs n all h e = h ∙ ap (λ b. behind n (if b then Some 0 else option_map (λ p. p + 1) (place_where passes xs))) e ∙ ap Some (omega arith)

pub place_later : {A : Type 0} (passes : A → Bool) (x : A) (xs : List A) (n : ℕ) (all : Option ℕ) → all ≡ behind n (place_where passes (x ∷ xs)) → passes x ≡ false → all ≡ behind (n + 1) (place_where passes xs)
place_later passes x xs n all h e = h ∙ ap (λ b. behind n (if b then Some 0 else option_map (λ p. p + 1) (place_where passes xs))) e ∙ behind_one n (place_where passes xs)

pub place_first : (place : Option ℕ) → place ≡ behind 0 place
place_first None = refl
place_first (Some p) = ap Some (omega arith)

empty_of : {A : Type 0} (xs : List A) → length xs < 1 → xs ≡ []
empty_of [] h = refl
empty_of (x ∷ xs) h = absurd (omega (arith, h))

pub place_nowhere : {A : Type 0} (passes : A → Bool) (xs : List A) (n : ℕ) (all : Option ℕ) → all ≡ behind n (place_where passes xs) → length xs < 1 → all ≡ None
place_nowhere passes xs n all h e = h ∙ ap (λ ys. behind n (place_where passes ys)) (empty_of xs e)
