-- Parts are read back from their bytes.
use Rattle.std.proofs.Common.{◌≡◌, ℕ, zero, suc, ◌^◌, ◌<◌, Bool, true, false, ltb, cond, List, [], ◌∷◌, ◌++◌, length, take, drop, Some, Ok, Err, refl, sym, ap, ◌∙◌, arith, ◌&&◌}
use Rattle.std.specs.Int.{w16, w32, w64, to_be_bytes}
use Rattle.std.proofs.lemmas.Bool.{ltb-true, le-ltb}
use Rattle.std.proofs.lemmas.List.{append-nil, append_assoc, length-append, take_at, drop_at}
use Rattle.std.proofs.lemmas.List.Concat.{flat_map-cons}
use Rattle.byte_format.specs.Format.{Read, ◌>>=◌, mapped, number_at, string_at, chunk_at, times}
use Rattle.byte_format.proofs.Codec.{wide16, wide32, wide64, number_again}
use Rattle.shape_base.specs.declared.definition.Column.{Column}
use Rattle.shape_base.specs.declared.value.Value.{Value}
use Rattle.shape_base.specs.declared.value.Value.TheVariants.{Null, Words}
use Rattle.script.specs.Texts.{text_at, long_text_at}
use Rattle.script.specs.Rows.{column_at, columns_at, value_at, row_at, rows_at}
use Rattle.script.specs.Records.{all_of}
use Rattle.script_writing.specs.Parts.{Spelling, ◌&◌, int16, int32, int64, has_no_zero, text, long_text, all, short_list, long_list, column, value, row, rows}
use Rattle.script_writing.proofs.Utf8.{is_read}

pub both : (a b : Bool) → (a && b) ≡ true → (a ≡ true) × (b ≡ true)
both true b h = (refl, h)
both false b h = absurd cc

-- a value is read from its bytes, whatever follows
abbrev pub IsRead : {A : Type 0} → (List ℕ → Read A) → Spelling → A → Type 0
IsRead read s x = (rest : List ℕ) → read (s.bytes ++ rest) ≡ Ok (x, rest)

-- what reads one part, and then goes on
abbrev pub on : {A C : Type 0} → (List ℕ → Read A) → (A → List ℕ → Read C) → List ℕ → Read C
on read next bytes = read bytes >>= λ a. next a.0 a.1

pub then : {A C : Type 0} (read : List ℕ → Read A) (next : A → List ℕ → Read C) (s t : Spelling) (x : A) (z : C) → IsRead read s x → IsRead (next x) t z → IsRead (on read next) (s & t) z
then {A} {C} read next s t x z p q rest =
    ap (on read next) (append_assoc s.bytes t.bytes rest) ∙ ap (λ (r : Read A). r >>= λ a. next a.0 a.1) (p (t.bytes ++ rest)) ∙ q rest

pub last : {A C : Type 0} (read : List ℕ → Read A) (f : A → C) (s : Spelling) (x : A) → IsRead read s x → IsRead (on read (λ a bytes. Ok (f a, bytes))) s (f x)
last {A} {C} read f s x p rest = ap (λ (r : Read A). r >>= λ a. Ok (f a.0, a.1)) (p rest)

-- all of the bytes
pub whole : {A : Type 0} (read : List ℕ → Read A) (s : Spelling) (x : A) → IsRead read s x → all_of (read s.bytes) ≡ Some x
whole read s x p = ap all_of (ap read (sym (append-nil s.bytes)) ∙ p [])

pub int16_read : (n : ℕ) → (int16 n).fits ≡ true → IsRead (number_at w16) (int16 n) n
int16_read n h rest = number_again w16 (2 ^ 16) wide16 n rest (ltb-true n (2 ^ 16) h)

pub int32_read : (n : ℕ) → (int32 n).fits ≡ true → IsRead (number_at w32) (int32 n) n
int32_read n h rest = number_again w32 (2 ^ 32) wide32 n rest (ltb-true n (2 ^ 32) h)

pub int64_read : (n : ℕ) → (int64 n).fits ≡ true → IsRead (number_at w64) (int64 n) n
int64_read n h rest = number_again w64 (2 ^ 64) wide64 n rest (ltb-true n (2 ^ 64) h)

string_read : (bytes rest : List ℕ) → has_no_zero bytes ≡ true → string_at ((bytes ++ 0 ∷ []) ++ rest) ≡ Ok (bytes, rest)
unfolding string_at
string_read [] rest h = refl
string_read (zero ∷ bytes) rest h = absurd (let w : false ≡ true = h in cc)
string_read (suc b ∷ bytes) rest h = rw (string_read bytes rest (both (ltb 0 (suc b)) (has_no_zero bytes) h).1) refl

pub text_read : (bytes : List ℕ) → (text bytes).fits ≡ true → IsRead text_at (text bytes) bytes
unfolding text_at
text_read bytes h rest =
    let e = both _ (has_no_zero bytes) h in
    rw (string_read bytes rest e.1, is_read bytes e.0) refl

chunk_read : (bytes rest : List ℕ) → length bytes < 2 ^ 32 → chunk_at ((to_be_bytes w32 (length bytes) ++ bytes) ++ rest) ≡ Ok (bytes, rest)
unfolding chunk_at
chunk_read bytes rest lt =
    let n = length bytes in
    let long : ltb (length (bytes ++ rest)) n ≡ false = le-ltb _ _ (omega (arith, length-append bytes rest)) in
    let step : Read ℕ → Read (List ℕ) = λ r. r >>= λ m. cond (ltb (length m.1) m.0) (Err 0) (Ok (take m.0 m.1, drop m.0 m.1)) in
    ap (λ (bs : List ℕ). step (number_at w32 bs)) (append_assoc (to_be_bytes w32 n) bytes rest)
    ∙ ap step (number_again w32 (2 ^ 32) wide32 n (bytes ++ rest) lt)
    ∙ rw (long, take_at bytes rest n refl, drop_at bytes rest n refl) refl

pub long_text_read : (bytes : List ℕ) → (long_text bytes).fits ≡ true → IsRead long_text_at (long_text bytes) bytes
unfolding long_text_at
long_text_read bytes h rest =
    let e = both _ _ h in
    let lt : length bytes < 2 ^ 32 = ltb-true _ _ (both (ltb (length bytes) (2 ^ 32)) true e.1).0 in
    rw (chunk_read bytes rest lt, is_read bytes e.0) refl

pub value_read : (v : Value) → (value v).fits ≡ true → IsRead value_at (value v) v
value_read Null h rest = refl
value_read (Words words) h rest = ap (mapped Words) (long_text_read words (both true _ h).1 rest)

pub times_cons : {A : Type 0} (read : List ℕ → Read A) (s t : Spelling) (x : A) (n : ℕ) (xs : List A) → IsRead read s x → IsRead (times read n) t xs → IsRead (times read (suc n)) (s & t) (x ∷ xs)
unfolding times
times_cons {A} read s t x n xs p q = then read (λ (y : A) (bytes : List ℕ). times read n bytes >>= λ others. Ok (y ∷ others.0, others.1)) s t x (x ∷ xs) p (last (times read n) (λ (others : List A). x ∷ others) t xs q)

pub times_nil : {A : Type 0} (read : List ℕ → Read A) (rest : List ℕ) → times read 0 rest ≡ Ok ([], rest)
unfolding times
times_nil read rest = refl

pub all_bytes : {A : Type 0} (f : A → Spelling) (x : A) (xs : List A) → (all f (x ∷ xs)).bytes ≡ (f x & all f xs).bytes
all_bytes {A} f x xs = flat_map-cons (λ (y : A). (f y).bytes) x xs

abbrev pub AreRead : {A : Type 0} → (List ℕ → Read A) → (A → Spelling) → Type 0
AreRead {A} read f = (x : A) → (f x).fits ≡ true → IsRead read (f x) x

pub all_read : {A : Type 0} (read : List ℕ → Read A) (f : A → Spelling) → AreRead read f → (xs : List A) → (all f xs).fits ≡ true → IsRead (times read (length xs)) (all f xs) xs
all_read read f p [] h rest = times_nil read rest
all_read read f p (x ∷ xs) h rest =
    let e = both (f x).fits (all f xs).fits h in
    ap (λ (bs : List ℕ). times read (suc (length xs)) (bs ++ rest)) (all_bytes f x xs)
    ∙ times_cons read (f x) (all f xs) x (length xs) xs (p x e.0) (all_read read f p xs e.1) rest

pub short_list_read : {A : Type 0} (read : List ℕ → Read A) (f : A → Spelling) → AreRead read f → AreRead (on (number_at w16) (times read)) (short_list f)
short_list_read read f p xs h =
    let e = both (int16 (length xs)).fits (all f xs).fits h in
    then (number_at w16) (times read) (int16 (length xs)) (all f xs) (length xs) xs (int16_read (length xs) e.0) (all_read read f p xs e.1)

pub long_list_read : {A : Type 0} (read : List ℕ → Read A) (f : A → Spelling) → AreRead read f → AreRead (on (number_at w32) (times read)) (long_list f)
long_list_read read f p xs h =
    let e = both (int32 (length xs)).fits (all f xs).fits h in
    then (number_at w32) (times read) (int32 (length xs)) (all f xs) (length xs) xs (int32_read (length xs) e.0) (all_read read f p xs e.1)

abbrev pub column_on : List ℕ → List ℕ → Read Column
column_on name = on (number_at w32) (λ (oid : ℕ) bytes. Ok (record { name = name; oid = oid }, bytes))

pub column_read : AreRead column_at column
column_read c h =
    let e = both (text c.name).fits (int32 c.oid).fits h in
    then text_at column_on (text c.name) (int32 c.oid) c.name c (text_read c.name e.0) (last (number_at w32) (λ (oid : ℕ). record { name = c.name; oid = oid }) (int32 c.oid) c.oid (int32_read c.oid e.1))

pub columns_read : AreRead columns_at (short_list column)
columns_read = short_list_read column_at column column_read

pub row_read : AreRead row_at row
row_read = short_list_read value_at value value_read

pub rows_read : AreRead rows_at rows
rows_read = long_list_read row_at row row_read
