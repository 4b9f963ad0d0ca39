-- Formats: how values are spelled in bytes, and how they are read from left to right.
use Rattle.std.proofs.Common.{inl, inr}
use Rattle.std.specs.Prelude.{◌≡◌, ◌⊎◌, ℕ, zero, suc, ◌<◌, ◌^◌, List, [], ◌∷◌, ◌++◌, length, take, drop, Result, Ok, Err, nat_lt, ◌==◌, if◌then◌else◌}
use Rattle.std.specs.List.{flat_map, AllByRecursion}
use Rattle.std.specs.Int.{Width, w16, w32, w64, byte_len, from_be_bytes, to_be_bytes}
use Rattle.byte_format.specs.declared.fault.ReadError.{ReadError}
use Rattle.byte_format.specs.declared.fault.ReadError.TheVariants as errors

-- A value and the bytes after it; or how many bytes there are from the first wrong one on, none where the bytes end too early.
abbrev pub Read : Type 0 → Type 0
Read A = Result (A × List ℕ) ℕ

-- How values are spelled, how one is read from the front of bytes, and which values have a spelling.
pub record Format (A : Type 0) : Type 1 where
  pub spell : A → List ℕ
  pub read : List ℕ → Read A
  pub Fits : A → Type 0

-- ---- what readers return

abbrev pub Fails : {Y : Type 0} → ReadError → Result Y ℕ → Type 0
Fails errors.OutOfMemory read = Unit {0}
Fails (errors.Wrong left) read = read ≡ Err left

-- What a function returned, seen by view, is what reading gives, unless memory ran out.
abbrev pub Gives : {X Y : Type 0} → (X → Y) → Result X ReadError → Result Y ℕ → Type 0
Gives view (Ok x) read = read ≡ Ok (view x)
Gives view (Err e) read = Fails e read

-- ---- steps of reading

infixl 10 ◌>>=◌
-- one step, and the next where it did not stop
abbrev pub ◌>>=◌ : {A B : Type 0} → Result A ℕ → (A → Result B ℕ) → Result B ℕ
(Ok x) >>= f = f x
(Err left) >>= f = Err left

-- what is read, under another name
abbrev pub mapped : {A B : Type 0} → (A → B) → Read A → Read B
mapped f (Ok x) = Ok (f x.0, x.1)
mapped f (Err left) = Err left

-- ---- numbers

abbrev pub number_at : Width → List ℕ → Read ℕ
number_at w bytes = if nat_lt (length bytes) (byte_len w) then Err 0 else Ok (from_be_bytes w (take (byte_len w) bytes), drop (byte_len w) bytes)

-- a number below the limit, in bytes, the high one first
abbrev pub number : Width → ℕ → Format ℕ
number w limit = record { spell = to_be_bytes w; read = number_at w; Fits = λ n. n < limit }

abbrev pub int16 : Format ℕ
int16 = number w16 (2 ^ 16)

abbrev pub int32 : Format ℕ
int32 = number w32 (2 ^ 32)

abbrev pub int64 : Format ℕ
int64 = number w64 (2 ^ 64)

abbrev pub byte_at : List ℕ → Read ℕ
byte_at [] = Err 0
byte_at (b ∷ bytes) = Ok (b, bytes)

-- one byte
abbrev pub byte : Format ℕ
byte = record { spell = λ b. b ∷ []; read = byte_at; Fits = λ b. b < 256 }

-- ---- no bytes

abbrev pub nothing_at : List ℕ → Read (Unit {0})
nothing_at bytes = Ok (tt, bytes)

-- no bytes at all
abbrev pub nothing : Format (Unit {0})
nothing = record { spell = λ x. []; read = nothing_at; Fits = λ x. Unit {0} }

-- ---- strings and chunks

unfoldable pub string_at : List ℕ → Read (List ℕ)
string_at [] = Err 0
string_at (zero ∷ bytes) = Ok ([], bytes)
string_at (suc b ∷ bytes) = string_at bytes >>= λ text. Ok (suc b ∷ text.0, text.1)

-- bytes other than zero, and a zero byte
abbrev pub string : Format (List ℕ)
string = record { spell = λ text. text ++ 0 ∷ []; read = string_at; Fits = AllByRecursion (λ b. (0 < b) × (b < 256)) }

unfoldable pub chunk_at : List ℕ → Read (List ℕ)
chunk_at bytes = number_at w32 bytes >>= λ n. if nat_lt (length n.1) n.0 then Err 0 else Ok (take n.0 n.1, drop n.0 n.1)

-- a length of four bytes, and that many bytes
abbrev pub chunk : Format (List ℕ)
chunk = record { spell = λ text. to_be_bytes w32 (length text) ++ text; read = chunk_at; Fits = λ text. (length text < 2 ^ 32) × AllByRecursion (λ b. b < 256) text }

-- ---- one after the other

infixr 30 ◌&◌
abbrev pub ◌&◌ : {A B : Type 0} → Format A → Format B → Format (A × B)
f & g = record {
  spell = λ x. f.spell x.0 ++ g.spell x.1;
  read = λ bytes. f.read bytes >>= λ a. g.read a.1 >>= λ b. Ok ((a.0, b.0), b.1);
  Fits = λ x. f.Fits x.0 × g.Fits x.1;
}

-- the bytes after this byte
abbrev pub tag_at : ℕ → List ℕ → Result (List ℕ) ℕ
tag_at tag [] = Err 0
tag_at tag (b ∷ bytes) = if b == tag then Ok bytes else Err (suc (length bytes))

-- this byte and no other, before the rest
abbrev pub after : {A : Type 0} → ℕ → Format A → Format A
after tag f = record { spell = λ x. tag ∷ f.spell x; read = λ bytes. tag_at tag bytes >>= f.read; Fits = f.Fits }

-- the same format under another name
abbrev pub named : {A B : Type 0} → (A → B) → (B → A) → Format A → Format B
named to from f = record { spell = λ y. f.spell (from y); read = λ bytes. mapped to (f.read bytes); Fits = λ y. f.Fits (from y) }

-- ---- counts and items

-- n of them
unfoldable pub times : {A : Type 0} → (List ℕ → Read A) → ℕ → List ℕ → Read (List A)
times read zero bytes = Ok ([], bytes)
times read (suc n) bytes = read bytes >>= λ first. times read n first.1 >>= λ others. Ok (first.0 ∷ others.0, others.1)

-- a count of two bytes, and that many of them
abbrev pub counted : {A : Type 0} → Format A → Format (List A)
counted f = record {
  spell = λ xs. to_be_bytes w16 (length xs) ++ flat_map f.spell xs;
  read = λ bytes. number_at w16 bytes >>= λ n. times f.read n.0 n.1;
  Fits = λ xs. (length xs < 2 ^ 16) × AllByRecursion f.Fits xs;
}

-- a count of four bytes, and that many of them
abbrev pub long_counted : {A : Type 0} → Format A → Format (List A)
long_counted f = record {
  spell = λ xs. to_be_bytes w32 (length xs) ++ flat_map f.spell xs;
  read = λ bytes. number_at w32 bytes >>= λ n. times f.read n.0 n.1;
  Fits = λ xs. (length xs < 2 ^ 32) × AllByRecursion f.Fits xs;
}

-- a count of four bytes, something else, and that many of them
abbrev pub counted_past : {A B : Type 0} → Format A → Format B → Format (A × List B)
counted_past between f = record {
  spell = λ x. to_be_bytes w32 (length x.1) ++ (between.spell x.0 ++ flat_map f.spell x.1);
  read = λ bytes. number_at w32 bytes >>= λ n. between.read n.1 >>= λ a. times f.read n.0 a.1 >>= λ xs. Ok ((a.0, xs.0), xs.1);
  Fits = λ x. (length x.1 < 2 ^ 32) × (between.Fits x.0 × AllByRecursion f.Fits x.1);
}

-- ---- choices by a first byte

-- the bytes of a value, and when it has a spelling
pub record Spelling : Type 1 where
  pub bytes : List ℕ
  pub Fits : Type 0

-- a first byte, and what follows it in a format of its own
abbrev pub tagged : {A : Type 0} → ℕ → Format A → A → Spelling
tagged tag f x = record { bytes = tag ∷ f.spell x; Fits = f.Fits x }

-- no spelling at all
abbrev pub unspelled : Spelling
unspelled = record { bytes = []; Fits = ⊥ }

-- how to go on after a first byte
abbrev pub Branches : Type 0 → Type 0
Branches A = ℕ → List ℕ → Read A

-- with this first byte the body is read so and named so
abbrev pub branch : {A B : Type 0} → ℕ → Format A → (A → B) → Branches B → Branches B
branch tag f name others first bytes = if first == tag then mapped name (f.read bytes) else others first bytes

-- no other first byte
abbrev pub no_branch : {A : Type 0} → Branches A
no_branch first bytes = Err (suc (length bytes))

abbrev pub first_at : {A : Type 0} → Branches A → List ℕ → Read A
first_at branches [] = Err 0
first_at branches (b ∷ bytes) = branches b bytes

-- each value has a first byte and what follows; a reader goes by the first byte
abbrev pub choice : {A : Type 0} → (A → Spelling) → Branches A → Format A
choice sent branches = record { spell = λ x. (sent x).bytes; read = first_at branches; Fits = λ x. (sent x).Fits }

-- a first byte chooses this format; without it the other one stands there
abbrev pub alt_at : {A B : Type 0} → ℕ → (List ℕ → Read A) → (List ℕ → Read B) → List ℕ → Read (A ⊎ B)
alt_at tag f g [] = Err 0
alt_at tag f g (b ∷ bytes) = if b == tag then mapped inl (f bytes) else mapped inr (g (b ∷ bytes))

abbrev pub alt_spell : {A B : Type 0} → ℕ → (A → List ℕ) → (B → List ℕ) → A ⊎ B → List ℕ
alt_spell tag f g (inl x) = tag ∷ f x
alt_spell tag f g (inr y) = g y

abbrev pub AltFits : {A B : Type 0} → (A → Type 0) → (B → Type 0) → A ⊎ B → Type 0
AltFits P Q (inl x) = P x
AltFits P Q (inr y) = Q y

abbrev pub alt : {A B : Type 0} → ℕ → Format A → Format B → Format (A ⊎ B)
alt tag f g = record { spell = alt_spell tag f.spell g.spell; read = alt_at tag f.read g.read; Fits = AltFits f.Fits g.Fits }
