-- Each reply that an exchange gets can be written.
use Rattle.std.proofs.Common.{◌≡◌, ℕ, zero, suc, ◌+◌, ◌/◌, ◌%◌, ◌≤◌, ◌<◌, Bool, true, false, ◌==◌, List, [], ◌∷◌, ◌++◌, refl, sym, subst, arith, Option, None, Some, IfSome, decimal}
use Rattle.std.specs.Bool.{if◌then◌else◌}
use Rattle.std.specs.Option.{option_map}
use Rattle.std.specs.List.{list_all, flat_map}
use Rattle.std.specs.Prelude.{nat_lt}
use Rattle.std.specs.Fmt.{digit_glyph, digits_onto, digits}
use Rattle.std.proofs.lemmas.Bool.{and_parts, and_from}
use Rattle.std.proofs.lemmas.Bool.Decides.{nat_tests}
use Rattle.form_urlencoded.specs.Form.{is_unchanged, space, serialize_byte, byte_serialize}
use Rattle.percent_encoding.specs.Percent.{percent_encode_byte}
use Rattle.shape_base.specs.declared.ask.Ask.{Ask}
use Rattle.shape_base.specs.declared.definition.Column.{Column}
use Rattle.shape_base.specs.Handle.{IsHandle}
use Rattle.shape_base.specs.Shape.{Knows}
use Rattle.shape_base.specs.RegistryHistory.{was_removed, was_registered_under}
use Rattle.shape_json.specs.Answer.{Answer, Paged, Gone, OffsetAhead, NotYet, Starting, Unregistered, answer_of}
use Rattle.shape_json.proofs.Lemmas.{pages_are_asked, gone_names_ready}
use Rattle.http_edge.specs.declared.error_code.ErrorCode.{ErrorCode}
use Rattle.http_edge.specs.declared.error_code.ErrorCode.TheVariants as codes
use Rattle.http_edge.specs.Refusals.{status_of}
use Rattle.http_edge.specs.ReplyText.{is_visible}
use Rattle.http_edge.specs.Schema.{column_text, columns_text, selected_columns, schema_text}
use Rattle.http_edge.specs.Status.{is_status}
use Rattle.http_edge.specs.World.{Kept}
use Rattle.http_edge.specs.Lawful.{Asked, Refuses, AsksFor}
use Rattle.core_law.specs.Situation.{Options, Server, Role, Reads, Waits, Owns, HasNone, answers_from, known_of}
use Rattle.core_law.specs.Steps.{Written, refused_with, written_as, written_to, reply_now}
use Rattle.core_law.specs.Reached.{HasText, RepliesHaveTexts}
use Rattle.core_law.proofs.Lists.{some_same}
use Rattle.core_law.proofs.Server.{Sound}
use Rattle.core_law.proofs.Exchanges.{handle_fits, some_handle}
use Rattle.core_law.proofs.Reaching.{reached_sound}

-- ---- visible bytes

abbrev AreVisible : List ℕ → Type 0
AreVisible bytes = list_all is_visible bytes ≡ true

visible_both : (a b : List ℕ) → AreVisible a → AreVisible b → AreVisible (a ++ b)
visible_both [] b h k = k
visible_both (x ∷ a) b h k = let p = and_parts (is_visible x) (list_all is_visible a) h in and_from (is_visible x) (list_all is_visible (a ++ b)) p.0 (visible_both a b p.1 k)

visible_first : (x : ℕ) (a : List ℕ) → is_visible x ≡ true → AreVisible a → AreVisible (x ∷ a)
visible_first x a h k = and_from (is_visible x) (list_all is_visible a) h k

visible_from : (b : ℕ) → 33 ≤ b → b ≤ 126 → is_visible b ≡ true
visible_from b low high = grind (arith, nat_tests, low, high)

glyph_visible : (upper : Bool) (d : ℕ) → d < 16 → is_visible (digit_glyph upper d) ≡ true
glyph_visible upper d small = pick (nat_lt d 10) upper
  where
    pick : (a b : Bool) → is_visible (if a then 48 + d else (if b then 55 + d else 87 + d)) ≡ true
    pick true b = visible_from (48 + d) (omega arith) (omega (arith, small))
    pick false true = visible_from (55 + d) (omega arith) (omega (arith, small))
    pick false false = visible_from (87 + d) (omega arith) (omega (arith, small))

digit_visible : (n : ℕ) (acc : List ℕ) → AreVisible acc → AreVisible (digit_glyph false (n % 10) ∷ acc)
digit_visible n acc h = visible_first (digit_glyph false (n % 10)) acc (glyph_visible false (n % 10) (omega arith)) h

either_visible : (b : Bool) (xs ys : List ℕ) → AreVisible xs → AreVisible ys → AreVisible (if b then xs else ys)
either_visible true xs ys h k = h
either_visible false xs ys h k = k

onto_visible : (k n : ℕ) (acc : List ℕ) → AreVisible acc → AreVisible (digits_onto k 10 false n acc)
onto_visible zero n acc h = h
onto_visible (suc k) n acc h = let more = digit_visible n acc h in
    either_visible (n / 10 == 0) (digit_glyph false (n % 10) ∷ acc) (digits_onto k 10 false (n / 10) (digit_glyph false (n % 10) ∷ acc)) more (onto_visible k (n / 10) (digit_glyph false (n % 10) ∷ acc) more)

decimal_visible : (n : ℕ) → AreVisible (decimal n)
unfolding digits
decimal_visible n = onto_visible 64 n [] refl

escaped_visible : (b : ℕ) → AreVisible (percent_encode_byte b)
unfolding percent_encode_byte
escaped_visible b =
    let low = visible_first (digit_glyph true (b % 16)) [] (glyph_visible true (b % 16) (omega arith)) refl in
    visible_first 37 (digit_glyph true (b / 16 % 16) ∷ digit_glyph true (b % 16) ∷ []) refl (visible_first (digit_glyph true (b / 16 % 16)) (digit_glyph true (b % 16) ∷ []) (glyph_visible true (b / 16 % 16) (omega arith)) low)

unchanged_visible : (b : ℕ) → is_unchanged b ≡ true → is_visible b ≡ true
unchanged_visible b h = grind (arith, nat_tests, h)

byte_visible : (b : ℕ) → AreVisible (serialize_byte b)
byte_visible b = pick (is_unchanged b) (b == space) refl
  where
    pick : (u s : Bool) → is_unchanged b ≡ u → AreVisible (if u then b ∷ [] else (if s then 43 ∷ [] else percent_encode_byte b))
    pick true s is = visible_first b [] (unchanged_visible b is) refl
    pick false true is = refl
    pick false false is = escaped_visible b

bytes_visible : (bytes : List ℕ) → AreVisible (flat_map serialize_byte bytes)
bytes_visible [] = refl
bytes_visible (b ∷ bytes) = visible_both (serialize_byte b) (flat_map serialize_byte bytes) (byte_visible b) (bytes_visible bytes)

name_visible : (name : List ℕ) → AreVisible (byte_serialize name)
unfolding byte_serialize
name_visible name = bytes_visible name

column_visible : (c : Column) → AreVisible (column_text c)
column_visible c = visible_both (byte_serialize c.name) (58 ∷ decimal c.oid) (name_visible c.name) (visible_first 58 (decimal c.oid) refl (decimal_visible c.oid))

others_visible : (cs : List Column) → AreVisible (flat_map (λ d. 44 ∷ column_text d) cs)
others_visible [] = refl
others_visible (c ∷ cs) = visible_both (44 ∷ column_text c) (flat_map (λ d. 44 ∷ column_text d) cs) (visible_first 44 (column_text c) refl (column_visible c)) (others_visible cs)

columns_visible : (cs : List Column) → AreVisible (columns_text cs)
columns_visible [] = refl
columns_visible (c ∷ cs) = visible_both (column_text c) (flat_map (λ d. 44 ∷ column_text d) cs) (column_visible c) (others_visible cs)

schema_visible : (s : Knows) → AreVisible (schema_text s)
unfolding schema_text
schema_visible s = columns_visible (selected_columns s)

kept_visible : (kept : Option Kept) → IfSome (option_map (λ (s : Kept). schema_text s.knows) kept) (λ schema. list_all is_visible schema ≡ true)
kept_visible None = tt
kept_visible (Some s) = schema_visible s.knows

-- ---- statuses

refusal_status : (code : ErrorCode) → is_status (status_of code) ≡ true
unfolding is_status
refusal_status codes.HeadTooLong = refl
refusal_status codes.BadHead = refl
refusal_status codes.BodyRefused = refl
refusal_status codes.MethodRefused = refl
refusal_status codes.PathUnknown = refl
refusal_status codes.BadEscape = refl
refusal_status codes.RepeatedParameter = refl
refusal_status codes.MissingTable = refl
refusal_status codes.TableNotServed = refl
refusal_status codes.WhereTooLong = refl
refusal_status (codes.WhereSyntax place) = refl
refusal_status codes.BadOffset = refl
refusal_status codes.HandleNeeded = refl
refusal_status codes.LiveAtStart = refl
refusal_status codes.OffsetAhead = refl
refusal_status codes.UnknownColumn = refl
refusal_status codes.KeyNotSelected = refl
refusal_status (codes.WhereType atom) = refl
refusal_status (codes.SnapshotRefused detail) = refl
refusal_status codes.SnapshotLink = refl
refusal_status codes.SnapshotLost = refl
refusal_status codes.DefinitionChanged = refl
refusal_status (codes.SnapshotStale last xmax) = refl
refusal_status (codes.TooManyShapes limit live) = refl
refusal_status (codes.ShapeTooLarge bytes limit) = refl
refusal_status codes.OutOfMemory = refl

page_status : is_status 200 ≡ true
unfolding is_status
page_status = refl

conflict_status : is_status 409 ≡ true
unfolding is_status
conflict_status = refl

-- ---- replies

abbrev CanBeWritten : Written → Type 0
CanBeWritten w = HasText w.reply

refusal_text : (code : ErrorCode) → CanBeWritten (refused_with code)
refusal_text code = record { status = refusal_status code; handle = tt; schema = tt }

answer_text : (o : Options) (v : Server) (late : Bool) (ask : Ask) (answer : Answer) (w : Written) → Sound o v → answer_of (answers_from o v late) ask ≡ answer → written_as o v ask answer ≡ Some w → CanBeWritten w
answer_text o v late ask (Paged handle from page) w sound e gives =
    let p = pages_are_asked (answers_from o v late) ask handle from page e in
    let under = (and_parts (was_registered_under v.registry ask.identity handle.number) _ p.under).0 in
    subst CanBeWritten (some_same _ w gives) (record {
      status = page_status;
      handle = subst (λ run. IsHandle (record { number = handle.number; run = run })) (sym p.run) (handle_fits o v ask.identity handle.number sound under);
      schema = kept_visible ((known_of o v).shapes handle.number);
    })
answer_text o v late ask (Gone named) w sound e gives = subst CanBeWritten (some_same _ w gives) (record { status = conflict_status; handle = some_handle o v late ask named sound (gone_names_ready (answers_from o v late) ask named e).other; schema = tt })
answer_text o v late ask (OffsetAhead end) w sound e gives = subst CanBeWritten (some_same _ w gives) (refusal_text codes.OffsetAhead)
answer_text o v late ask NotYet w sound e gives = cc
answer_text o v late ask (Starting n) w sound e gives = cc
answer_text o v late ask Unregistered w sound e gives = cc

to_text : (o : Options) (v : Server) (late : Bool) (asked : Asked) (w : Written) → Sound o v → written_to o v late asked ≡ Some w → CanBeWritten w
to_text o v late (Refuses code) w sound e = subst CanBeWritten (some_same _ w e) (refusal_text code)
to_text o v late (AsksFor ask) w sound e = answer_text o v late ask (answer_of (answers_from o v late) ask) w sound refl e

unless_text : (o : Options) (v : Server) (late : Bool) (asked : Asked) (w : Written) (b : Bool) → Sound o v → (if b then Some (refused_with codes.SnapshotLost) else written_to o v late asked) ≡ Some w → CanBeWritten w
unless_text o v late asked w true sound e = subst CanBeWritten (some_same _ w e) (refusal_text codes.SnapshotLost)
unless_text o v late asked w false sound e = to_text o v late asked w sound e

text_now : (o : Options) (v : Server) (late : Bool) (asked : Asked) (role : Role) (w : Written) → Sound o v → reply_now o v late asked role ≡ Some w → CanBeWritten w
text_now o v late asked Reads w sound e = to_text o v late asked w sound e
text_now o v late asked (Waits n) w sound e = unless_text o v late asked w (was_removed v.registry n) sound e
text_now o v late asked (Owns n) w sound e = unless_text o v late asked w (was_removed v.registry n) sound e
text_now o v late asked HasNone w sound e = cc

pub replies_have_texts : RepliesHaveTexts
replies_have_texts o s late asked role w start r e = text_now o s.server late asked role w (reached_sound o s start r) e
