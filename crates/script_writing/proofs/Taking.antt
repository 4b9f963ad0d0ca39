-- What is read of bytes is spelled by these bytes, and fits.
use Rattle.std.proofs.Common.{◌≡◌, ℕ, zero, suc, ◌^◌, ◌<◌, Bool, true, eqb, ltb, cond, List, [], ◌∷◌, ◌++◌, length, Some, None, Result, Ok, Err, refl, sym, ap, subst, ◌∙◌, ◌&&◌, inl, inr}
use Rattle.std.specs.List.{AllByRecursion}
use Rattle.std.specs.Int.{w16, w32, w64}
use Rattle.std.specs.Str.{is_utf8}
use Rattle.std.proofs.lemmas.Bool.{lt-ltb, eqb-true}
use Rattle.std.proofs.lemmas.List.{append-nil, append_assoc, nil_from_length}
use Rattle.byte_format.specs.Format.{Read, ◌>>=◌, mapped, number_at, string_at, chunk_at, times}
use Rattle.byte_format.proofs.Codec.{IsBytes, wide16, wide32, wide64, bind_ok, ok_is, chosen, number_takes, string_is, mapped_ok}
use Rattle.byte_format.proofs.Lists.{chunk_placed}
use Rattle.shape_base.specs.declared.definition.Column.{Column}
use Rattle.shape_base.specs.declared.value.Value.{Value}
use Rattle.shape_base.specs.declared.value.Value.TheVariants.{Null, Words}
use Rattle.script.specs.Texts.{utf8_part, text_at, long_text_at}
use Rattle.script.specs.Rows.{column_at, columns_at, value_behind, value_at, row_at, rows_at}
use Rattle.script.specs.Records.{all_of}
use Rattle.script_writing.specs.Parts.{Spelling, ◌&◌, raw, int16, int32, int64, is_text, has_no_zero, text, long_text, all, short_list, long_list, column, value, row, rows}
use Rattle.script_writing.proofs.Utf8.{is_passed}
use Rattle.script_writing.proofs.Reading.{on, all_bytes, column_on}

pub passed : (a b : Bool) → a ≡ true → b ≡ true → (a && b) ≡ true
passed a b p q = rw (p, q) refl

-- the front of the bytes is this spelling
pub record IsTaken (s : Spelling) (bytes rest : List ℕ) : Type 0 where
  pub parts : bytes ≡ s.bytes ++ rest
  pub in_range : IsBytes rest
  pub fits : s.fits ≡ true

abbrev pub AreTaken : {A : Type 0} → (List ℕ → Read A) → (A → Spelling) → Type 0
AreTaken {A} read f = (bytes : List ℕ) (x : A) (rest : List ℕ) → IsBytes bytes → read bytes ≡ Ok (x, rest) → IsTaken (f x) bytes rest

pub joined : (s t : Spelling) (bytes mid rest : List ℕ) → IsTaken s bytes mid → IsTaken t mid rest → IsTaken (s & t) bytes rest
joined s t bytes mid rest p q = record {
  parts = p.parts ∙ ap (λ (bs : List ℕ). s.bytes ++ bs) q.parts ∙ sym (append_assoc s.bytes t.bytes rest);
  in_range = q.in_range;
  fits = passed s.fits t.fits p.fits q.fits;
}

pub int16_taken : AreTaken (number_at w16) int16
int16_taken bytes n rest h e = let t = number_takes w16 (2 ^ 16) wide16 bytes n rest h e in record { parts = t.0.parts; in_range = t.0.in_range; fits = lt-ltb n (2 ^ 16) t.1 }

pub int32_taken : AreTaken (number_at w32) int32
int32_taken bytes n rest h e = let t = number_takes w32 (2 ^ 32) wide32 bytes n rest h e in record { parts = t.0.parts; in_range = t.0.in_range; fits = lt-ltb n (2 ^ 32) t.1 }

pub int64_taken : AreTaken (number_at w64) int64
int64_taken bytes n rest h e = let t = number_takes w64 (2 ^ 64) wide64 bytes n rest h e in record { parts = t.0.parts; in_range = t.0.in_range; fits = lt-ltb n (2 ^ 64) t.1 }

no_zero : (bytes : List ℕ) → AllByRecursion (λ b. (0 < b) × (b < 256)) bytes → has_no_zero bytes ≡ true
no_zero [] h = refl
no_zero (b ∷ bytes) h = passed (ltb 0 b) (has_no_zero bytes) (lt-ltb 0 b h.0.0) (no_zero bytes h.1)

-- a part that is UTF-8
part_is : (y x : List ℕ × List ℕ) → utf8_part y ≡ Ok x → (is_utf8 y.0 ≡ true) × (y ≡ x)
part_is y x e =
    elim (chosen (is_utf8 y.0) (Ok y) (Err 0) (Ok x) e) [
      | inl k ↦ (k.0, ok_is y x k.1)
      | inr k ↦ absurd (let w = k.1 in cc)
    ]

pub text_taken : AreTaken text_at text
unfolding text_at
text_taken bytes x rest h e =
    let a = bind_ok (string_at bytes) utf8_part (x, rest) e in
    let b = part_is a.0 (x, rest) a.2 in
    let t = string_is.takes bytes a.0.0 a.0.1 h a.1 in
    let one : IsTaken (text a.0.0) bytes a.0.1 = record { parts = t.0.parts; in_range = t.0.in_range; fits = passed (is_text a.0.0) (has_no_zero a.0.0) (is_passed a.0.0 b.0) (no_zero a.0.0 t.1) } in
    subst (λ (y : List ℕ × List ℕ). IsTaken (text y.0) bytes y.1) b.1 one

pub long_text_taken : AreTaken long_text_at long_text
unfolding long_text_at
long_text_taken bytes x rest h e =
    let a = bind_ok (chunk_at bytes) utf8_part (x, rest) e in
    let b = part_is a.0 (x, rest) a.2 in
    let t = chunk_placed.codec.takes bytes a.0.0 a.0.1 h a.1 in
    let sized : (int32 (length a.0.0) & raw a.0.0).fits ≡ true = passed (ltb (length a.0.0) (2 ^ 32)) true (lt-ltb (length a.0.0) (2 ^ 32) t.1.0) refl in
    let one : IsTaken (long_text a.0.0) bytes a.0.1 = record { parts = t.0.parts; in_range = t.0.in_range; fits = passed (is_text a.0.0) _ (is_passed a.0.0 b.0) sized } in
    subst (λ (y : List ℕ × List ℕ). IsTaken (long_text y.0) bytes y.1) b.1 one

words_taken : (bytes : List ℕ) (v : Value) (rest : List ℕ) → IsBytes bytes → mapped Words (long_text_at bytes) ≡ Ok (v, rest) → IsTaken (value v) (116 ∷ bytes) rest
words_taken bytes v rest h e =
    let a = mapped_ok Words (long_text_at bytes) (v, rest) e in
    let t = long_text_taken bytes a.0.0 a.0.1 h a.1 in
    let one : IsTaken (value (Words a.0.0)) (116 ∷ bytes) a.0.1 = record { parts = ap (λ (bs : List ℕ). 116 ∷ bs) t.parts; in_range = t.in_range; fits = t.fits } in
    subst (λ (y : Value × List ℕ). IsTaken (value y.0) (116 ∷ bytes) y.1) a.2 one

behind_taken : (b : ℕ) (bytes : List ℕ) (v : Value) (rest : List ℕ) → IsBytes bytes → value_behind b bytes ≡ Ok (v, rest) → IsTaken (value v) (b ∷ bytes) rest
behind_taken b bytes v rest h e =
    elim (chosen (eqb b 110) (Ok (Null, bytes)) (cond (eqb b 116) (mapped Words (long_text_at bytes)) (Err 0)) (Ok (v, rest)) e) [
      | inl k ↦
          subst (λ (c : ℕ). IsTaken (value v) (c ∷ bytes) rest) (sym (eqb-true b 110 k.0))
          (subst (λ (y : Value × List ℕ). IsTaken (value y.0) (110 ∷ bytes) y.1) (ok_is (Null, bytes) (v, rest) k.1) (record { parts = refl; in_range = h; fits = refl }))
      | inr k ↦
          elim (chosen (eqb b 116) (mapped Words (long_text_at bytes)) (Err 0) (Ok (v, rest)) k.1) [
            | inl m ↦ subst (λ (c : ℕ). IsTaken (value v) (c ∷ bytes) rest) (sym (eqb-true b 116 m.0)) (words_taken bytes v rest h m.1)
            | inr m ↦ absurd (let w = m.1 in cc)
          ]
    ]

pub value_taken : AreTaken value_at value
value_taken [] v rest h e = absurd cc
value_taken (b ∷ bytes) v rest h e = behind_taken b bytes v rest h.1 e

-- so many of them
pub record AreAllTaken {A : Type 0} (f : A → Spelling) (n : ℕ) (xs : List A) (bytes rest : List ℕ) : Type 0 where
  pub count : length xs ≡ n
  pub taken : IsTaken (all f xs) bytes rest

pub times_taken : {A : Type 0} (read : List ℕ → Read A) (f : A → Spelling) → AreTaken read f → (n : ℕ) (bytes : List ℕ) (xs : List A) (rest : List ℕ) → IsBytes bytes → times read n bytes ≡ Ok (xs, rest) → AreAllTaken f n xs bytes rest
unfolding times
times_taken {A} read f p zero bytes xs rest h e = subst (λ (y : List A × List ℕ). AreAllTaken f 0 y.0 bytes y.1) (ok_is ([], bytes) (xs, rest) e) (record { count = refl; taken = record { parts = refl; in_range = h; fits = refl } })
times_taken {A} read f p (suc n) bytes xs rest h e =
    let a = bind_ok (read bytes) (λ first. times read n first.1 >>= λ others. Ok (first.0 ∷ others.0, others.1)) (xs, rest) e in
    let b = bind_ok (times read n a.0.1) (λ others. Ok (a.0.0 ∷ others.0, others.1)) (xs, rest) a.2 in
    let t = p bytes a.0.0 a.0.1 h a.1 in
    let u = times_taken read f p n a.0.1 b.0.0 b.0.1 t.in_range b.1 in
    let both = joined (f a.0.0) (all f b.0.0) bytes a.0.1 b.0.1 t u.taken in
    let one : IsTaken (all f (a.0.0 ∷ b.0.0)) bytes b.0.1 = record { parts = both.parts ∙ ap (λ (bs : List ℕ). bs ++ b.0.1) (sym (all_bytes f a.0.0 b.0.0)); in_range = both.in_range; fits = both.fits } in
    subst (λ (y : List A × List ℕ). AreAllTaken f (suc n) y.0 bytes y.1) (ok_is (a.0.0 ∷ b.0.0, b.0.1) (xs, rest) b.2) (record { count = ap suc u.count; taken = one })

pub short_list_taken : {A : Type 0} (read : List ℕ → Read A) (f : A → Spelling) → AreTaken read f → AreTaken (on (number_at w16) (times read)) (short_list f)
short_list_taken read f p bytes xs rest h e =
    let a = bind_ok (number_at w16 bytes) (λ n. times read n.0 n.1) (xs, rest) e in
    let t = int16_taken bytes a.0.0 a.0.1 h a.1 in
    let u = times_taken read f p a.0.0 a.0.1 xs rest t.in_range a.2 in
    joined (int16 (length xs)) (all f xs) bytes a.0.1 rest (subst (λ (n : ℕ). IsTaken (int16 n) bytes a.0.1) (sym u.count) t) u.taken

pub long_list_taken : {A : Type 0} (read : List ℕ → Read A) (f : A → Spelling) → AreTaken read f → AreTaken (on (number_at w32) (times read)) (long_list f)
long_list_taken read f p bytes xs rest h e =
    let a = bind_ok (number_at w32 bytes) (λ n. times read n.0 n.1) (xs, rest) e in
    let t = int32_taken bytes a.0.0 a.0.1 h a.1 in
    let u = times_taken read f p a.0.0 a.0.1 xs rest t.in_range a.2 in
    joined (int32 (length xs)) (all f xs) bytes a.0.1 rest (subst (λ (n : ℕ). IsTaken (int32 n) bytes a.0.1) (sym u.count) t) u.taken

column_taken : AreTaken column_at column
column_taken bytes c rest h e =
    let a = bind_ok (text_at bytes) (λ name. column_on name.0 name.1) (c, rest) e in
    let with_name : ℕ × List ℕ → Result (Column × List ℕ) ℕ = λ oid. Ok (record { name = a.0.0; oid = oid.0 }, oid.1) in
    let b = bind_ok (number_at w32 a.0.1) with_name (c, rest) a.2 in
    let t = text_taken bytes a.0.0 a.0.1 h a.1 in
    let u = int32_taken a.0.1 b.0.0 b.0.1 t.in_range b.1 in
    let made : Column = record { name = a.0.0; oid = b.0.0 } in
    subst (λ (y : Column × List ℕ). IsTaken (column y.0) bytes y.1) (ok_is (made, b.0.1) (c, rest) b.2) (joined (text a.0.0) (int32 b.0.0) bytes a.0.1 b.0.1 t u)

pub columns_taken : AreTaken columns_at (short_list column)
columns_taken = short_list_taken column_at column column_taken

pub row_taken : AreTaken row_at row
row_taken = short_list_taken value_at value value_taken

pub rows_taken : AreTaken rows_at rows
rows_taken = long_list_taken row_at row row_taken

-- all of the bytes
pub record IsAllTaken (s : Spelling) (bytes : List ℕ) : Type 0 where
  pub is : bytes ≡ s.bytes
  pub fits : s.fits ≡ true

all_ok : {A : Type 0} (r : Read A) (x : A) → all_of r ≡ Some x → (rest : List ℕ) × (r ≡ Ok (x, rest)) × (length rest ≡ 0)
all_ok {A} (Ok y) x e =
    elim (chosen (eqb (length y.1) 0) (Some y.0) None (Some x) e) [
      | inl k ↦ let same : y.0 ≡ x = (let w = k.1 in cc) in (y.1, ap (λ (z : A). Ok (z, y.1)) same, eqb-true _ _ k.0)
      | inr k ↦ absurd (let w = k.1 in cc)
    ]
all_ok (Err d) x e = absurd cc

pub whole_taken : {A : Type 0} (read : List ℕ → Read A) (f : A → Spelling) → AreTaken read f → (bytes : List ℕ) (x : A) → IsBytes bytes → all_of (read bytes) ≡ Some x → IsAllTaken (f x) bytes
whole_taken read f p bytes x h e =
    let a = all_ok (read bytes) x e in
    let t = p bytes x a.0 h a.1 in
    record { is = t.parts ∙ ap (λ (bs : List ℕ). (f x).bytes ++ bs) (nil_from_length a.0 a.2) ∙ append-nil (f x).bytes; fits = t.fits }
