-- The values of the lines of a reply's head: what no value's text is, and what texts lack.
use Rattle.std.proofs.Common.{◌≡◌, ◌≢◌, ℕ, ◌<◌, ◌≤◌, ◌^◌, Bool, true, false, List, [], ◌∷◌, ◌++◌, Option, Some, None, IfSome, refl, sym, ap, subst, ◌∙◌, arith, option_map, codes, decimal, ◌==◌, ◌+◌, ◌/◌, ◌%◌, if◌then◌else◌}
use Rattle.std.proofs.lemmas.Bool.{and_parts}
use Rattle.std.proofs.lemmas.Bool.Decides.{nat_tests, Decides-eqb}
use Rattle.std.proofs.lemmas.Fmt.{decimal_is_IsNumeral, decimal_injective, decimal_step, decimal_digit}
use Rattle.std.specs.List.{list_all}
use Rattle.std.specs.Char.{digit_value}
use Rattle.std.specs.Str.{IsUtf8, IsAscii}
use Rattle.std.specs.Str.Parse.{AllDigits}
use Rattle.std.proofs.lemmas.Str.Ascii.{IsAscii-nil, IsAscii-cons}
use Rattle.std.proofs.lemmas.Str.{IsUtf8-from_ascii}
use Rattle.shape_base.specs.declared.handle.Handle.{Handle}
use Rattle.shape_base.specs.declared.offset.Offset.{Offset}
use Rattle.shape_base.specs.declared.offset.Offset.TheVariants.{Start, At}
use Rattle.shape_base.specs.Decimal.{LacksByte}
use Rattle.shape_base.specs.Tables.{same_text}
use Rattle.shape_base.specs.Handle.{is_run_byte, IsHandle, handle_text}
use Rattle.shape_base.specs.OffsetText.{IsOffset, offset_text}
use Rattle.shape_base.proofs.Lemmas.{Decides-same_text}
use Rattle.http_edge.specs.declared.reply_head.ReplyHead.{ReplyHead}
use Rattle.http_edge.specs.Status.{is_status, phrase}
use Rattle.http_edge.specs.ReplyText.{status_text, cache_text, is_visible, IsReplyHead}
use Rattle.http_edge.specs.ReplyLines.{behind, Fixed, Optional, Lines, lines_of}
use Rattle.http_edge.specs.ReplyValues.{status_in, late_status_in, AreFixedValues, AreOptionalValues, AreLinesOf}
use Rattle.http_edge.proofs.LineLaws.{behind_front, AreFixed, AreOptional}
use Rattle.http_edge.proofs.WritingLaws.{each_status, status_is_code}

-- ---- statuses

-- the three digits of a status
abbrev digits_of : ℕ → List ℕ
digits_of n = (48 + n / 10 / 10) ∷ (48 + n / 10 % 10) ∷ (48 + n % 10) ∷ []

three_digits : (n : ℕ) → 100 ≤ n → n < 1000 → decimal n ≡ digits_of n
three_digits n low high = decimal_step n (omega arith) (omega arith) ∙ ap (λ d. d ++ ((48 + n % 10) ∷ [])) (decimal_step (n / 10) (omega arith) (omega arith) ∙ ap (λ d. d ++ ((48 + n / 10 % 10) ∷ [])) (decimal_digit (n / 10 / 10) (omega arith)))

abbrev words_of : ℕ → List ℕ
words_of s = digits_of s ++ 32 ∷ phrase s

status_words : (s : ℕ) → 100 ≤ s → s < 1000 → status_text s ≡ words_of s
status_words s low high = ap (λ d. d ++ 32 ∷ phrase s) (three_digits s low high)

abbrev WordsRead : ℕ → Type 0
WordsRead s = status_in (words_of s) ≡ Some s

words_read : (s : ℕ) → is_status s ≡ true → WordsRead s
unfolding status_in late_status_in phrase
words_read = each_status WordsRead (refl, (refl, (refl, (refl, (refl, (refl, (refl, (refl, (refl, (refl, tt))))))))))

pub status_read : (s : ℕ) → is_status s ≡ true → status_in (status_text s) ≡ Some s
status_read s h = let code = status_is_code s h in ap status_in (status_words s code.0 code.1) ∙ words_read s h

-- a value that is read as a status is that status's text
pub record IsStatusOf (v : List ℕ) (s : ℕ) : Type 0 where
  pub known : is_status s ≡ true
  pub text : v ≡ status_text s

one_status : (v words : List ℕ) (s a : ℕ) (b : Bool) (rest : Option ℕ) → same_text v words ≡ b → is_status a ≡ true → status_text a ≡ words → (rest ≡ Some s → IsStatusOf v s) → (if b then Some a else rest) ≡ Some s → IsStatusOf v s
one_status v words s a true rest t known text more e = let same : a ≡ s = cc in record { known = subst (λ (x : ℕ). is_status x ≡ true) same known; text = (Decides-same_text v words).0 t ∙ sym text ∙ ap status_text same }
one_status v words s a false rest t known text more e = more e

no_status : (v : List ℕ) (s : ℕ) → None ≡ Some s → IsStatusOf v s
no_status v s e = absurd cc

late_status_sound : (v : List ℕ) (s : ℕ) → late_status_in v ≡ Some s → IsStatusOf v s
unfolding late_status_in is_status phrase
late_status_sound v s = one_status v (codes "413 Payload Too Large") s 413 _ _ refl refl (status_words 413 (omega arith) (omega arith))
    (one_status v (codes "431 Request Header Fields Too Large") s 431 _ _ refl refl (status_words 431 (omega arith) (omega arith))
    (one_status v (codes "500 Internal Server Error") s 500 _ _ refl refl (status_words 500 (omega arith) (omega arith))
    (one_status v (codes "502 Bad Gateway") s 502 _ _ refl refl (status_words 502 (omega arith) (omega arith))
    (one_status v (codes "503 Service Unavailable") s 503 _ _ refl refl (status_words 503 (omega arith) (omega arith)) (no_status v s)))))

pub status_sound : (v : List ℕ) (s : ℕ) → status_in v ≡ Some s → IsStatusOf v s
unfolding status_in is_status phrase
status_sound v s = one_status v (codes "200 OK") s 200 _ _ refl refl (status_words 200 (omega arith) (omega arith))
    (one_status v (codes "400 Bad Request") s 400 _ _ refl refl (status_words 400 (omega arith) (omega arith))
    (one_status v (codes "404 Not Found") s 404 _ _ refl refl (status_words 404 (omega arith) (omega arith))
    (one_status v (codes "405 Method Not Allowed") s 405 _ _ refl refl (status_words 405 (omega arith) (omega arith))
    (one_status v (codes "409 Conflict") s 409 _ _ refl refl (status_words 409 (omega arith) (omega arith)) (late_status_sound v s)))))

-- ---- bytes that texts lack

pub lacks_digits : (separator : ℕ) → (digit_value separator < 10 → ⊥) → (ds : List ℕ) → AllDigits 10 ds → LacksByte separator ds
lacks_digits separator none [] h = tt
lacks_digits separator none (d ∷ ds) h = (λ e. none (subst (λ (x : ℕ). digit_value x < 10) e h.0), lacks_digits separator none ds h.1)

pub decimal_lacks : (n : ℕ) → n < 2 ^ 64 → LacksByte 13 (decimal n)
decimal_lacks n small = lacks_digits 13 (λ h. absurd (omega arith)) (decimal n) (decimal_is_IsNumeral n small).0.1

lacks_append : (a b : List ℕ) → LacksByte 13 a → LacksByte 13 b → LacksByte 13 (a ++ b)
lacks_append [] b h k = k
lacks_append (x ∷ a) b h k = (h.0, lacks_append a b h.1 k)

not_cr : (b : ℕ) → (13 < b) → b ≢ 13
not_cr b h e = absurd (omega arith)

lacks_visible : (bytes : List ℕ) → list_all is_visible bytes ≡ true → LacksByte 13 bytes
lacks_visible [] h = tt
lacks_visible (b ∷ bytes) h = let p = and_parts (is_visible b) _ h in let s : 13 < b = grind (arith, nat_tests, p.0) in (not_cr b s, lacks_visible bytes p.1)

lacks_run : (bytes : List ℕ) → list_all is_run_byte bytes ≡ true → LacksByte 13 bytes
lacks_run [] h = tt
lacks_run (b ∷ bytes) h = let p = and_parts (is_run_byte b) _ h in let s : 13 < b = grind (arith, nat_tests, p.0) in (not_cr b s, lacks_run bytes p.1)

-- a literal byte that is no CR
lacks_literal : (b : ℕ) → (b == 13) ≡ false → b ≢ 13
lacks_literal b h e = let t = (Decides-eqb b 13).1 e in absurd cc

visible_ascii : (bytes : List ℕ) → list_all is_visible bytes ≡ true → IsAscii bytes
visible_ascii [] h = IsAscii-nil
visible_ascii (b ∷ bytes) h = let p = and_parts (is_visible b) _ h in let s : b < 128 = grind (arith, nat_tests, p.0) in IsAscii-cons b bytes s (visible_ascii bytes p.1)

pub visible_utf8 : (bytes : List ℕ) → list_all is_visible bytes ≡ true → IsUtf8 bytes
visible_utf8 bytes h = IsUtf8-from_ascii bytes (visible_ascii bytes h)

handle_lacks : (h : Handle) → IsHandle h → LacksByte 13 (handle_text h)
handle_lacks h good = lacks_append (decimal h.number) (45 ∷ h.run) (decimal_lacks h.number good.small) (lacks_literal 45 refl, lacks_run h.run (and_parts _ _ (and_parts _ _ good.named).1).1)

offset_lacks : (o : Offset) → IsOffset o → LacksByte 13 (offset_text o)
offset_lacks Start good = (lacks_literal 45 refl, (lacks_literal 49 refl, tt))
offset_lacks (At lsn pos) good = lacks_append (decimal lsn) (95 ∷ decimal pos) (decimal_lacks lsn good.0) (lacks_literal 95 refl, decimal_lacks pos good.1)

abbrev is_no_cr : Bool → Bool
is_no_cr true = false
is_no_cr false = true

no_cr : (b : Bool) → is_no_cr b ≡ true → b ≡ false
no_cr true h = absurd cc
no_cr false h = refl

-- whether a list lacks a CR, as a test
lacks_by : (bytes : List ℕ) → list_all (λ b. is_no_cr (b == 13)) bytes ≡ true → LacksByte 13 bytes
lacks_by [] h = tt
lacks_by (b ∷ bytes) h = let p = and_parts (is_no_cr (b == 13)) _ h in (lacks_literal b (no_cr (b == 13) p.0), lacks_by bytes p.1)

-- ---- what is refused

pub apart : (a b : List ℕ) → same_text a b ≡ false → a ≡ b → ⊥
apart a b h e = let t = (Decides-same_text a b).1 e in absurd cc

pub status_refused : (f : Fixed) → None ≡ status_in f.status → (s n a : ℕ) → AreFixedValues f s n a → ⊥
status_refused f none s n a are = let e : status_in f.status ≡ Some s = ap (λ (x : Fixed). status_in x.status) are.is ∙ status_read s are.status in absurd cc

pub kind_refused : (f : Fixed) → same_text f.kind (codes "application/json") ≡ false → (s n a : ℕ) → AreFixedValues f s n a → ⊥
kind_refused f other s n a are = apart f.kind (codes "application/json") other (ap (λ (x : Fixed). x.kind) are.is)

pub length_refused : (f : Fixed) → ((n : ℕ) → n < 2 ^ 64 → f.length ≡ decimal n → ⊥) → (s n a : ℕ) → AreFixedValues f s n a → ⊥
length_refused f none s n a are = none n are.length (ap (λ (x : Fixed). x.length) are.is)

pub age_refused : (f : Fixed) → ((a : ℕ) → a < 2 ^ 32 → f.cache ≡ cache_text a → ⊥) → (s n a : ℕ) → AreFixedValues f s n a → ⊥
age_refused f none s n a are = none a are.age (ap (λ (x : Fixed). x.cache) are.is)

-- ---- ages

cache_front : (a : ℕ) (b : Bool) → b ≡ false → (a == 0) ≡ b → cache_text a ≡ codes "public, max-age=" ++ decimal a
cache_front a true h e = absurd cc
cache_front a false h e = rw e refl

-- the text of an age is `no-store`, or a number that is not 0 behind the words
age_cases : (P : Type 0) (a : ℕ) (value : List ℕ) → value ≡ cache_text a → (value ≡ codes "no-store" → P) → ((a ≡ 0 → ⊥) → value ≡ codes "public, max-age=" ++ decimal a → P) → P
age_cases P a value e f g = go (a == 0) refl
  where
    go : (b : Bool) → (a == 0) ≡ b → P
    go true t = f (e ∙ ap cache_text ((Decides-eqb a 0).0 t))
    go false t = g (λ z. let y = (Decides-eqb a 0).1 z in absurd cc) (e ∙ cache_front a false refl t)

pub age_behind : (value : List ℕ) → same_text value (codes "no-store") ≡ false → None ≡ behind (codes "public, max-age=") value → (a : ℕ) → a < 2 ^ 32 → value ≡ cache_text a → ⊥
age_behind value other none a small e = age_cases ⊥ a value e (apart value (codes "no-store") other)
    (λ _ is. let found : behind (codes "public, max-age=") value ≡ Some (decimal a) = ap (behind (codes "public, max-age=")) is ∙ behind_front (codes "public, max-age=") (decimal a) in absurd cc)

pub age_digits : (value digits : List ℕ) → same_text value (codes "no-store") ≡ false → Some digits ≡ behind (codes "public, max-age=") value → ((n : ℕ) → n < 2 ^ 64 → digits ≡ decimal n → ⊥) → (a : ℕ) → a < 2 ^ 32 → value ≡ cache_text a → ⊥
age_digits value digits other is none a small e = age_cases ⊥ a value e (apart value (codes "no-store") other)
    (λ _ front. let found : behind (codes "public, max-age=") value ≡ Some (decimal a) = ap (behind (codes "public, max-age=")) front ∙ behind_front (codes "public, max-age=") (decimal a) in let s : digits ≡ decimal a = cc in none a (omega arith) s)

pub age_number : (value digits : List ℕ) (n : ℕ) → same_text value (codes "no-store") ≡ false → Some digits ≡ behind (codes "public, max-age=") value → digits ≡ decimal n → n < 2 ^ 64
    → ((n < 2 ^ 32) → (n ≡ 0 → ⊥) → ⊥) → (a : ℕ) → a < 2 ^ 32 → value ≡ cache_text a → ⊥
age_number value digits n other is dn fits none a small e = age_cases ⊥ a value e (apart value (codes "no-store") other)
    (λ some front. let found : behind (codes "public, max-age=") value ≡ Some (decimal a) = ap (behind (codes "public, max-age=")) front ∙ behind_front (codes "public, max-age=") (decimal a) in
    let s : decimal n ≡ decimal a = cc in let same : n ≡ a = decimal_injective n a fits (omega arith) s in none (omega arith) (λ z. some (sym same ∙ z)))

pub age_text : (value digits : List ℕ) (n : ℕ) → value ≡ codes "public, max-age=" ++ digits → digits ≡ decimal n → (n == 0) ≡ false → value ≡ cache_text n
age_text value digits n is e t = is ∙ ap (λ d. codes "public, max-age=" ++ d) e ∙ sym (cache_front n false refl t)

-- ---- the lines of a head have no CR in their values

abbrev WordsLack : ℕ → Type 0
WordsLack s = list_all (λ b. is_no_cr (b == 13)) (words_of s) ≡ true

words_lack : (s : ℕ) → is_status s ≡ true → WordsLack s
unfolding phrase
words_lack = each_status WordsLack (refl, (refl, (refl, (refl, (refl, (refl, (refl, (refl, (refl, (refl, tt))))))))))

status_lacks : (s : ℕ) → is_status s ≡ true → LacksByte 13 (status_text s)
status_lacks s h = let code = status_is_code s h in subst (LacksByte 13) (sym (status_words s code.0 code.1)) (lacks_by (words_of s) (words_lack s h))

cache_lacks : (a : ℕ) → a < 2 ^ 32 → LacksByte 13 (cache_text a)
cache_lacks a small = age_cases (LacksByte 13 (cache_text a)) a (cache_text a) refl (λ e. subst (LacksByte 13) (sym e) (lacks_by (codes "no-store") refl))
    (λ _ e. subst (LacksByte 13) (sym e) (lacks_append (codes "public, max-age=") (decimal a) (lacks_by (codes "public, max-age=") refl) (decimal_lacks a (omega arith))))

abbrev Lacks : Option (List ℕ) → Type 0
Lacks o = IfSome o (LacksByte 13)

lacks_mapped : {A : Type 0} (G : A → Type 0) (text : A → List ℕ) → ((a : A) → G a → LacksByte 13 (text a)) → (o : Option A) → IfSome o G → Lacks (option_map text o)
lacks_mapped G text f None h = tt
lacks_mapped G text f (Some a) h = f a h

lacks_schema : (o : Option (List ℕ)) → IfSome o (λ schema. list_all is_visible schema ≡ true) → Lacks o
lacks_schema None h = tt
lacks_schema (Some schema) h = lacks_visible schema h

pub fixed_lacks : (h : ReplyHead) → IsReplyHead h → AreFixed (lines_of h).fixed
fixed_lacks h good = record { status = status_lacks h.status good.status; kind = lacks_by (codes "application/json") refl; length = decimal_lacks h.length good.length; cache = cache_lacks h.max_age good.max_age }

pub optional_lacks : (h : ReplyHead) → IsReplyHead h → AreOptional (lines_of h).optional
optional_lacks h good = record {
  handle = lacks_mapped IsHandle handle_text handle_lacks h.handle good.handle;
  offset = lacks_mapped IsOffset offset_text offset_lacks h.offset good.offset;
  schema = lacks_schema h.schema good.schema;
  cursor = lacks_mapped (λ n. n < 2 ^ 64) decimal decimal_lacks h.cursor good.cursor;
}

-- ---- the fixed values

pub fixed_values_read : (f : Fixed) (s n a : ℕ) → Some s ≡ status_in f.status → same_text f.kind (codes "application/json") ≡ true → f.length ≡ decimal n → f.cache ≡ cache_text a → n < 2 ^ 64 → a < 2 ^ 32 → AreFixedValues f s n a
fixed_values_read f s n a e k l c small age = let st = status_sound f.status s (sym e) in let kind = (Decides-same_text f.kind (codes "application/json")).0 k in
    record { status = st.known; length = small; age = age; is = λ i. record { status = st.text i; kind = kind i; length = l i; cache = c i } }

-- ---- the optional values

abbrev Maybe : Type 0
Maybe = Option (List ℕ)

pub handle_refused : (o : Optional) → ((h : Option Handle) → IfSome h IsHandle → o.handle ≡ option_map handle_text h → ⊥) → (h : Option Handle) (f : Option Offset) (s : Maybe) (n : Option ℕ) → AreOptionalValues o h f s n → ⊥
handle_refused o none h f s n are = none h are.handle (ap (λ (x : Optional). x.handle) are.is)

pub offset_refused : (o : Optional) → ((f : Option Offset) → IfSome f IsOffset → o.offset ≡ option_map offset_text f → ⊥) → (h : Option Handle) (f : Option Offset) (s : Maybe) (n : Option ℕ) → AreOptionalValues o h f s n → ⊥
offset_refused o none h f s n are = none f are.offset (ap (λ (x : Optional). x.offset) are.is)

pub schema_refused : (o : Optional) → ((s : Maybe) → IfSome s (λ schema. list_all is_visible schema ≡ true) → o.schema ≡ s → ⊥) → (h : Option Handle) (f : Option Offset) (s : Maybe) (n : Option ℕ) → AreOptionalValues o h f s n → ⊥
schema_refused o none h f s n are = none s are.schema (ap (λ (x : Optional). x.schema) are.is)

pub cursor_refused : (o : Optional) → ((n : Option ℕ) → IfSome n (λ cursor. cursor < 2 ^ 64) → o.cursor ≡ option_map decimal n → ⊥) → (h : Option Handle) (f : Option Offset) (s : Maybe) (n : Option ℕ) → AreOptionalValues o h f s n → ⊥
cursor_refused o none h f s n are = none n are.cursor (ap (λ (x : Optional). x.cursor) are.is)

-- ---- the head

pub head_fixed : (l : Lines) (head : ReplyHead) → AreLinesOf l head → AreFixedValues l.fixed head.status head.length head.max_age
head_fixed l head are = record { status = are.good.status; length = are.good.length; age = are.good.max_age; is = ap (λ (x : Lines). x.fixed) are.are }

pub head_optional : (l : Lines) (head : ReplyHead) → AreLinesOf l head → AreOptionalValues l.optional head.handle head.offset head.schema head.cursor
head_optional l head are = record { handle = are.good.handle; offset = are.good.offset; schema = are.good.schema; cursor = are.good.cursor; is = ap (λ (x : Lines). x.optional) are.are }

pub no_store : (value : List ℕ) → same_text value (codes "no-store") ≡ true → value ≡ cache_text 0
no_store value t = (Decides-same_text value (codes "no-store")).0 t

pub optional_values_read : (o : Optional) (h : Option Handle) (f : Option Offset) (s : Maybe) (n : Option ℕ) → (IfSome h IsHandle) × (o.handle ≡ option_map handle_text h) → (IfSome f IsOffset) × (o.offset ≡ option_map offset_text f)
    → (IfSome s (λ schema. list_all is_visible schema ≡ true)) × (o.schema ≡ s) → (IfSome n (λ cursor. cursor < 2 ^ 64)) × (o.cursor ≡ option_map decimal n) → AreOptionalValues o h f s n
optional_values_read o h f s n a b c d = record { handle = a.0; offset = b.0; schema = c.0; cursor = d.0; is = λ i. record { handle = a.1 i; offset = b.1 i; schema = c.1 i; cursor = d.1 i } }

pub head_read : (l : Lines) (head : ReplyHead) → AreFixedValues l.fixed head.status head.length head.max_age → AreOptionalValues l.optional head.handle head.offset head.schema head.cursor → l.allow ≡ (head.status == 405) → l.close ≡ head.close → AreLinesOf l head
head_read l head f o e c = record {
  good = record { status = f.status; length = f.length; max_age = f.age; handle = o.handle; offset = o.offset; schema = o.schema; cursor = o.cursor };
  are = λ i. record { fixed = f.is i; optional = o.is i; allow = e i; close = c i };
}

pub allow_refused : (l : Lines) (s n a : ℕ) → AreFixedValues l.fixed s n a → (l.allow ≡ (s == 405) → ⊥) → (head : ReplyHead) → AreLinesOf l head → ⊥
allow_refused l s n a f other head are =
    let g = head_fixed l head are in
    let e : status_text s ≡ status_text head.status = ap (λ (x : Fixed). x.status) (sym f.is ∙ g.is) in
    let t : Some s ≡ Some head.status = sym (status_read s f.status) ∙ ap status_in e ∙ status_read head.status g.status in
    let same : s ≡ head.status = cc in
    other (ap (λ (x : Lines). x.allow) are.are ∙ ap (λ x. x == 405) (sym same))

-- ---- one age for a text

abbrev first_byte : List ℕ → ℕ
first_byte [] = 0
first_byte (b ∷ bytes) = b

abbrev got_text : Option (List ℕ) → List ℕ
got_text None = []
got_text (Some text) = text

pub age_same : (a b : ℕ) → a < 2 ^ 32 → b < 2 ^ 32 → cache_text a ≡ cache_text b → a ≡ b
age_same a b small less e = go (a == 0) (b == 0) refl refl
  where
    go : (x y : Bool) → (a == 0) ≡ x → (b == 0) ≡ y → a ≡ b
    go true true s t = (Decides-eqb a 0).0 s ∙ sym ((Decides-eqb b 0).0 t)
    go true false s t = let f : first_byte (cache_text 0) ≡ first_byte (codes "public, max-age=" ++ decimal b) = ap first_byte (sym (ap cache_text ((Decides-eqb a 0).0 s)) ∙ e ∙ cache_front b false refl t) in absurd (omega (arith, f))
    go false true s t = let f : first_byte (cache_text 0) ≡ first_byte (codes "public, max-age=" ++ decimal a) = ap first_byte (sym (ap cache_text ((Decides-eqb b 0).0 t)) ∙ sym e ∙ cache_front a false refl s) in absurd (omega (arith, f))
    go false false s t =
        let f = ap (λ x. got_text (behind (codes "public, max-age=") x)) (sym (cache_front a false refl s) ∙ e ∙ cache_front b false refl t) in
        let g : decimal a ≡ decimal b = sym (ap got_text (behind_front (codes "public, max-age=") (decimal a))) ∙ f ∙ ap got_text (behind_front (codes "public, max-age=") (decimal b)) in
        decimal_injective a b (omega arith) (omega arith) g
