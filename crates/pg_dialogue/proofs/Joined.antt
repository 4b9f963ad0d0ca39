-- Replies that are put together from columns or values.
use Rattle.std.proofs.Common.{◌≡◌, ◌⊎◌, inl, inr, ℕ, Bool, true, false, cond, List, ◌++◌, length, map, Some, Result, Ok, Err, refl, sym, ap, ◌∙◌, append_assoc}
use Rattle.std.specs.List.{list_all}
use Rattle.shape_base.specs.declared.definition.Column.{Column}
use Rattle.shape_base.specs.declared.value.Value as values
use Rattle.pg_dialogue.specs.declared.wire_error.WireError.{WireError}
use Rattle.pg_dialogue.specs.declared.wire_error.WireError.TheVariants.{OutOfMemory, NotUtf8}
use Rattle.pg_dialogue.specs.declared.contents.Field.{Field}
use Rattle.pg_dialogue.specs.declared.contents.Sent.{Sent}
use Rattle.pg_dialogue.specs.declared.wanted.News.TheVariants.{Acknowledged, Described, Row}
use Rattle.pg_dialogue.specs.Columns.{next, columns_of, values_of}
use Rattle.pg_dialogue.specs.Replies.{Reply, is_name, column_of, table_of, columns_in, one_column, described, is_text, value_of, row_with}
use Rattle.pg_dialogue.proofs.Texts.{columns_are, values_are}

-- an error is handed on
pub pass_on : {A : Type 0} (e : WireError) (r : Result A WireError) (f : A → Reply) (total : Reply) → total ≡ next r f → (e ≡ OutOfMemory) ⊎ (r ≡ Err e) → (e ≡ OutOfMemory) ⊎ (total ≡ Err e)
pass_on e r f total same (inl h) = inl h
pass_on {A} e r f total same (inr h) = inr (same ∙ ap (λ (x : Result A WireError). next x f) h)

after_if : {A : Type 0} (b : Bool) (x : A) (e : WireError) (f : A → Reply) → cond b (f x) (Err e) ≡ next (cond b (Ok x) (Err e)) f
after_if true x e f = refl
after_if false x e f = refl

abbrev pub acknowledged : List Column → Reply
acknowledged cs = Ok (Some Acknowledged)

pub one_column_is : (place n : ℕ) (fs : List Field) → n ≡ 1 → n ≡ length fs → one_column place fs ≡ next (columns_of place fs) acknowledged
one_column_is place n fs one len =
    let size : length fs ≡ 1 = sym len ∙ one in
    rw (size, columns_are place fs) (after_if (list_all is_name fs) (map column_of fs) (NotUtf8 place) acknowledged)

abbrev pub of_oid : ℕ → List Column → Reply
of_oid oid cs = Ok (Some (Described oid cs))

pub described_is : (place oid : ℕ) (fs : List Field) → Some oid ≡ table_of fs → described place fs ≡ next (columns_of place fs) (of_oid oid)
described_is place oid fs e =
    ap (columns_in place fs) (sym e) ∙ after_if (list_all is_name fs) (map column_of fs) (NotUtf8 place) (of_oid oid) ∙ ap (λ (r : Result (List Column) WireError). next r (of_oid oid)) (sym (columns_are place fs))

abbrev pub as_row : List values.Value → Reply
as_row vs = Ok (Some (Row vs))

pub row_is : (place : ℕ) (ss : List Sent) → row_with place (Ok ss) ≡ next (values_of place ss) as_row
row_is place ss = after_if (list_all is_text ss) (map value_of ss) (NotUtf8 place) as_row ∙ ap (λ (r : Result (List values.Value) WireError). next r as_row) (sym (values_are place ss))

-- pieces that are written one after the other
pub four : (o0 o1 o2 o3 o4 a b c d : List ℕ) → o1 ≡ o0 ++ a → o2 ≡ o1 ++ b → o3 ≡ o2 ++ c → o4 ≡ o3 ++ d → o4 ≡ o0 ++ (a ++ (b ++ (c ++ d)))
four o0 o1 o2 o3 o4 a b c d p q r s = rw (s, r, q, p) (simp append_assoc)
