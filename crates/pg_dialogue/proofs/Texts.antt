-- Texts that have to be UTF-8: of an ErrorResponse, of columns and of rows.
use Rattle.std.proofs.Common.{◌≡◌, ℕ, Bool, true, false, cond, List, [], ◌∷◌, ◌++◌, map, Option, Some, None, Result, Ok, Err, refl, sym, ap, ◌∙◌, append_assoc}
use Rattle.std.specs.List.{list_all}
use Rattle.std.specs.Str.{IsUtf8, is_utf8}
use Rattle.std.proofs.lemmas.Str.{IsUtf8-from_is_utf8, is_utf8-from_IsUtf8}
use Rattle.shape_base.specs.declared.definition.Column.{Column}
use Rattle.shape_base.specs.declared.value.Value as values
use Rattle.shape_base.specs.declared.value.Value.TheVariants as value
use Rattle.pg_dialogue.specs.declared.wire_error.WireError.{WireError}
use Rattle.pg_dialogue.specs.declared.wire_error.WireError.TheVariants.{ErrorResponse, BadReply, NotUtf8}
use Rattle.pg_dialogue.specs.declared.contents.Field.{Field}
use Rattle.pg_dialogue.specs.declared.contents.Sent.{Sent}
use Rattle.pg_dialogue.specs.declared.contents.Sent.TheVariants.{Null, Chars}
use Rattle.pg_dialogue.specs.Columns.{next, text_at, columns_of, value_at, values_of}
use Rattle.pg_dialogue.specs.Replies.{error_with, is_name, column_of, is_text, value_of}

not_utf8 : (b : Bool) (text : List ℕ) → is_utf8 text ≡ b → (IsUtf8 text → ⊥) → is_utf8 text ≡ false
not_utf8 true text e denied = absurd (denied (IsUtf8-from_is_utf8 text e))
not_utf8 false text e denied = e

pub text_is : (place : ℕ) (bytes text : List ℕ) → IsUtf8 bytes → text ≡ bytes → text_at place bytes ≡ Ok text
text_is place bytes text utf8 same = rw (is_utf8-from_IsUtf8 bytes utf8) (ap Ok (sym same))

pub text_is_not : (place : ℕ) (bytes : List ℕ) → (IsUtf8 bytes → ⊥) → text_at place bytes ≡ Err (NotUtf8 place)
text_is_not place bytes denied = rw (not_utf8 (is_utf8 bytes) bytes refl denied) refl

-- the SQLSTATE of an ErrorResponse
pub told : (place : ℕ) (o : Option (List ℕ)) (code text : List ℕ) → Some code ≡ o → text ≡ code → IsUtf8 code → ErrorResponse text ≡ error_with place o
told place o code text e same utf8 = rw (← e, is_utf8-from_IsUtf8 code utf8) (ap ErrorResponse same)

pub untold : (place : ℕ) (o : Option (List ℕ)) (code : List ℕ) → Some code ≡ o → (IsUtf8 code → ⊥) → BadReply place ≡ error_with place o
untold place o code e denied = rw (← e, not_utf8 (is_utf8 code) code refl denied) refl

pub none_told : (place : ℕ) (o : Option (List ℕ)) → None ≡ o → BadReply place ≡ error_with place o
none_told place o e = rw (← e) refl

-- ---- one after the other

-- what was read before, and what is still read
abbrev pub with_front : {A : Type 0} → List A → Result (List A) WireError → Result (List A) WireError
with_front front read = next read (λ xs. Ok (front ++ xs))

pub more : {A : Type 0} (front : List A) (x : A) (r : Result (List A) WireError) → with_front front (next r (λ xs. Ok (x ∷ xs))) ≡ with_front (front ++ x ∷ []) r
more front x (Ok xs) = ap Ok (simp append_assoc)
more front x (Err e) = refl

pub column_more : (place : ℕ) (front : List Column) (f : Field) (fs : List Field) (name : List ℕ) (total : Result (List Column) WireError) → text_at place f.name ≡ Ok name
    → with_front front (columns_of place (f ∷ fs)) ≡ total → with_front (front ++ record { name = name; oid = f.oid } ∷ []) (columns_of place fs) ≡ total
column_more place front f fs name total e so_far =
    let one : with_front front (columns_of place (f ∷ fs)) ≡ with_front (front ++ record { name = name; oid = f.oid } ∷ []) (columns_of place fs)
    = ap (λ (r : Result (List ℕ) WireError). with_front front (next r (λ n. next (columns_of place fs) (λ cs. Ok (record { name = n; oid = f.oid } ∷ cs))))) e ∙ more front (record { name = name; oid = f.oid }) (columns_of place fs) in
    sym one ∙ so_far

pub column_stops : (place : ℕ) (front : List Column) (f : Field) (fs : List Field) (e : WireError) (total : Result (List Column) WireError) → text_at place f.name ≡ Err e
    → with_front front (columns_of place (f ∷ fs)) ≡ total → total ≡ Err e
column_stops place front f fs e total h so_far =
    sym so_far ∙ ap (λ (r : Result (List ℕ) WireError). with_front front (next r (λ n. next (columns_of place fs) (λ cs. Ok (record { name = n; oid = f.oid } ∷ cs))))) h

pub value_more : (place : ℕ) (front : List values.Value) (s : Sent) (ss : List Sent) (v : values.Value) (total : Result (List values.Value) WireError) → value_at place s ≡ Ok v
    → with_front front (values_of place (s ∷ ss)) ≡ total → with_front (front ++ v ∷ []) (values_of place ss) ≡ total
value_more place front s ss v total e so_far =
    let one : with_front front (values_of place (s ∷ ss)) ≡ with_front (front ++ v ∷ []) (values_of place ss)
    = ap (λ (r : Result values.Value WireError). with_front front (next r (λ x. next (values_of place ss) (λ vs. Ok (x ∷ vs))))) e ∙ more front v (values_of place ss) in
    sym one ∙ so_far

pub value_stops : (place : ℕ) (front : List values.Value) (s : Sent) (ss : List Sent) (e : WireError) (total : Result (List values.Value) WireError) → value_at place s ≡ Err e
    → with_front front (values_of place (s ∷ ss)) ≡ total → total ≡ Err e
value_stops place front s ss e total h so_far =
    sym so_far ∙ ap (λ (r : Result values.Value WireError). with_front front (next r (λ x. next (values_of place ss) (λ vs. Ok (x ∷ vs))))) h

-- ---- all at once

cons_if : (b : Bool) (place : ℕ) (c : Column) (cs : List Column) → next (cond b (Ok cs) (Err (NotUtf8 place))) (λ ys. Ok (c ∷ ys)) ≡ cond b (Ok (c ∷ cs)) (Err (NotUtf8 place))
cons_if true place c cs = refl
cons_if false place c cs = refl

columns_by : (a : Bool) (place : ℕ) (f : Field) (fs : List Field) → is_utf8 f.name ≡ a → columns_of place fs ≡ cond (list_all is_name fs) (Ok (map column_of fs)) (Err (NotUtf8 place))
    → columns_of place (f ∷ fs) ≡ cond (list_all is_name (f ∷ fs)) (Ok (map column_of (f ∷ fs))) (Err (NotUtf8 place))
columns_by true place f fs e h = rw (e, h) (cons_if (list_all is_name fs) place (column_of f) (map column_of fs))
columns_by false place f fs e h = rw e refl

-- all columns, where each name is UTF-8
pub columns_are : (place : ℕ) (fs : List Field) → columns_of place fs ≡ cond (list_all is_name fs) (Ok (map column_of fs)) (Err (NotUtf8 place))
columns_are place [] = refl
columns_are place (f ∷ fs) = columns_by (is_utf8 f.name) place f fs refl (columns_are place fs)

value_if : (b : Bool) (place : ℕ) (v : values.Value) (vs : List values.Value) → next (cond b (Ok vs) (Err (NotUtf8 place))) (λ ys. Ok (v ∷ ys)) ≡ cond b (Ok (v ∷ vs)) (Err (NotUtf8 place))
value_if true place v vs = refl
value_if false place v vs = refl

values_by : (a : Bool) (place : ℕ) (text : List ℕ) (ss : List Sent) → is_utf8 text ≡ a → values_of place ss ≡ cond (list_all is_text ss) (Ok (map value_of ss)) (Err (NotUtf8 place))
    → values_of place (Chars text ∷ ss) ≡ cond (list_all is_text (Chars text ∷ ss)) (Ok (map value_of (Chars text ∷ ss))) (Err (NotUtf8 place))
values_by true place text ss e h = rw (e, h) (value_if (list_all is_text ss) place (value.Words text) (map value_of ss))
values_by false place text ss e h = rw e refl

-- all values, where each text is UTF-8
pub values_are : (place : ℕ) (ss : List Sent) → values_of place ss ≡ cond (list_all is_text ss) (Ok (map value_of ss)) (Err (NotUtf8 place))
values_are place [] = refl
values_are place (Null ∷ ss) = rw (values_are place ss) (value_if (list_all is_text ss) place value.Null (map value_of ss))
values_are place (Chars text ∷ ss) = values_by (is_utf8 text) place text ss refl (values_are place ss)
