-- A message that is refused is the server's doing: it is never taken for a fault of the link.
use Rattle.std.proofs.Common.{◌≡◌, ◌⊎◌, inl, inr, ℕ, Bool, true, false, cond, eqb, ◌||◌, List, [], ◌∷◌, length, map, Option, None, Some, Result, Ok, Err, refl, sym, ap, ◌∙◌, subst}
use Rattle.std.specs.List.{list_all}
use Rattle.std.specs.Str.{is_utf8}
use Rattle.byte_format.specs.Format.{Read, int32, string}
use Rattle.byte_format.specs.Whole.{whole}
use Rattle.pg_wire.specs.ErrorFields.{sqlstate_of}
use Rattle.pg_dialogue.specs.declared.wire_error.WireError.{WireError}
use Rattle.pg_dialogue.specs.declared.wire_error.WireError.TheVariants.{OutOfMemory, LinkFault, ErrorResponse, BadReply, NotUtf8}
use Rattle.pg_dialogue.specs.declared.contents.Field.{Field}
use Rattle.pg_dialogue.specs.declared.contents.Sent.{Sent}
use Rattle.pg_dialogue.specs.declared.contents.Sent.TheVariants.{Null, Chars}
use Rattle.pg_dialogue.specs.declared.wanted.Wanted.{Wanted}
use Rattle.pg_dialogue.specs.declared.wanted.Wanted.TheVariants.{Authentication, Started, Completed, Ready, SnapshotColumn, SnapshotText, TableColumns, TableRow, CopyBoth}
use Rattle.pg_dialogue.specs.declared.wanted.News.TheVariants.{Acknowledged, Shown, Described, Row}
use Rattle.pg_dialogue.specs.Contents.{row_description, data_row}
use Rattle.pg_dialogue.specs.Course.{is_said}
use Rattle.pg_dialogue.specs.Replies.{Reply, bad, error_with, error_response, allowed, ready, acknowledged_if, acknowledged_after, completed, one_column, fields_with, table_of, columns_in, is_name, column_of, is_text, value_of, described, row_with, text_with, reply_to, reply}

abbrev Inside : Reply → Type 0
Inside (Ok x) = Unit {0}
Inside (Err e) = is_said e ≡ true

either : (b : Bool) (x y : Reply) → Inside x → Inside y → Inside (cond b x y)
either true x y p q = p
either false x y p q = q

bad_in : (place : ℕ) → Inside (bad place)
bad_in place = refl

acknowledged_in : (b : Bool) (place : ℕ) → Inside (acknowledged_if b place)
acknowledged_in true place = tt
acknowledged_in false place = bad_in place

utf8_in : (b : Bool) (place : ℕ) (x : Reply) → Inside x → Inside (cond b x (Err (NotUtf8 place)))
utf8_in b place x p = either b x (Err (NotUtf8 place)) p refl

error_by : (b : Bool) (place : ℕ) (code : List ℕ) → is_said (cond b (ErrorResponse code) (BadReply place)) ≡ true
error_by true place code = refl
error_by false place code = refl

error_in : (place : ℕ) (o : Option (List ℕ)) → is_said (error_with place o) ≡ true
error_in place (Some code) = error_by (is_utf8 code) place code
error_in place None = refl

allowed_in : (place : ℕ) (r : Read ℕ) → Inside (allowed place r)
allowed_in place (Ok x) = either (eqb x.0 0) (acknowledged_if (eqb (length x.1) 0) place) _ (acknowledged_in (eqb (length x.1) 0) place) refl
allowed_in place (Err left) = bad_in place

after_in : (place : ℕ) (r : Result (List ℕ) ℕ) → Inside (acknowledged_after place r)
after_in place (Ok tag) = tt
after_in place (Err left) = bad_in place

completed_in : (place kind : ℕ) (payload : List ℕ) → Inside (completed place kind payload)
completed_in place kind payload = either (eqb kind 67) (acknowledged_after place (whole string payload)) (bad place) (after_in place (whole string payload)) (bad_in place)

one_in : (place : ℕ) (fields : List Field) → Inside (one_column place fields)
one_in place fields = either (eqb (length fields) 1) (cond (list_all is_name fields) (Ok (Some Acknowledged)) (Err (NotUtf8 place))) (bad place) (utf8_in (list_all is_name fields) place (Ok (Some Acknowledged)) tt) (bad_in place)

columns_inside : (place : ℕ) (fields : List Field) (o : Option ℕ) → Inside (columns_in place fields o)
columns_inside place fields None = bad_in place
columns_inside place fields (Some oid) = utf8_in (list_all is_name fields) place (Ok (Some (Described oid (map column_of fields)))) tt

fields_in : (next : ℕ → List Field → Reply) (place : ℕ) (r : Result (List Field) ℕ) → ((fields : List Field) → Inside (next place fields)) → Inside (fields_with next place r)
fields_in next place (Ok fields) h = h fields
fields_in next place (Err left) h = bad_in place

row_in : (place : ℕ) (r : Result (List Sent) ℕ) → Inside (row_with place r)
row_in place (Ok sent) = utf8_in (list_all is_text sent) place (Ok (Some (Row (map value_of sent)))) tt
row_in place (Err left) = bad_in place

text_in : (place : ℕ) (r : Result (List Sent) ℕ) → Inside (text_with place r)
text_in place (Ok []) = bad_in place
text_in place (Ok (Null ∷ [])) = bad_in place
text_in place (Ok (Chars text ∷ [])) = utf8_in (is_utf8 text) place (Ok (Some (Shown text))) tt
text_in place (Ok (Null ∷ _ ∷ _)) = bad_in place
text_in place (Ok (Chars text ∷ _ ∷ _)) = bad_in place
text_in place (Err left) = bad_in place

reply_to_in : (w : Wanted) (place kind : ℕ) (payload : List ℕ) → Inside (reply_to w place kind payload)
reply_to_in Authentication place kind payload = either (eqb kind 82) (allowed place (int32.read payload)) (bad place) (allowed_in place (int32.read payload)) (bad_in place)
reply_to_in Started place kind payload = either (eqb kind 75) (Ok None) (ready place kind payload) tt (acknowledged_in _ place)
reply_to_in Completed place kind payload = completed_in place kind payload
reply_to_in Ready place kind payload = acknowledged_in _ place
reply_to_in SnapshotColumn place kind payload = either (eqb kind 84) (fields_with one_column place (whole row_description payload)) (bad place) (fields_in one_column place (whole row_description payload) (one_in place)) (bad_in place)
reply_to_in SnapshotText place kind payload = either (eqb kind 68) (text_with place (whole data_row payload)) (bad place) (text_in place (whole data_row payload)) (bad_in place)
reply_to_in TableColumns place kind payload = either (eqb kind 84) (fields_with described place (whole row_description payload)) (bad place) (fields_in described place (whole row_description payload) (λ fields. columns_inside place fields (table_of fields))) (bad_in place)
reply_to_in TableRow place kind payload = either (eqb kind 68) (row_with place (whole data_row payload)) (completed place kind payload) (row_in place (whole data_row payload)) (completed_in place kind payload)
reply_to_in CopyBoth place kind payload = acknowledged_in _ place

reply_in : (w : Wanted) (place kind : ℕ) (payload : List ℕ) → Inside (reply w place kind payload)
unfolding reply
reply_in w place kind payload =
    either (eqb kind 83 || eqb kind 78) (Ok None) _ tt (either (eqb kind 69) (Err (error_response place payload)) (reply_to w place kind payload) (error_in place (sqlstate_of payload)) (reply_to_in w place kind payload))

pub said_by : (w : Wanted) (place kind : ℕ) (payload : List ℕ) (error : WireError) → reply w place kind payload ≡ Err error → is_said error ≡ true
said_by w place kind payload error h = subst Inside h (reply_in w place kind payload)

pub no_link_fault : (w : Wanted) (place kind : ℕ) (payload : List ℕ) (error : WireError) → (error ≡ OutOfMemory) ⊎ (reply w place kind payload ≡ Err error) → error ≡ LinkFault → ⊥
no_link_fault w place kind payload error (inl h) e = let k = sym h ∙ e in cc
no_link_fault w place kind payload error (inr h) e = let k = sym (ap is_said e) ∙ said_by w place kind payload error h in cc

abbrev pub answer_of : WireError → Result (Unit {0}) WireError
answer_of e = Err e

pub no_link_answer : (w : Wanted) (place kind : ℕ) (payload : List ℕ) (error : WireError) → (error ≡ OutOfMemory) ⊎ (reply w place kind payload ≡ Err error) → answer_of error ≡ answer_of LinkFault → ⊥
no_link_answer w place kind payload error h e = let k : error ≡ LinkFault = cc in no_link_fault w place kind payload error h k
