-- Heads: which bytes some continuation makes one, and what the parser's spans say of one.
use Rattle.std.proofs.Common.{◌≡◌, ◌≢◌, ℕ, ◌<◌, ◌≤◌, ◌==◌, Bool, true, false, inl, inr, List, [], ◌∷◌, ◌++◌, length, take, drop, map, MatchBool, IsUtf8, codes, refl, sym, ap, ◌∙◌, ◌||◌, subst, arith, append_assoc, append-nil, length-append, min, Result, Ok, Err}
use Rattle.std.specs.List.{list_any, flat_map}
use Rattle.std.proofs.Math.Nat.{min_comm}
use Rattle.std.proofs.lemmas.Bool.Decides.{nat_tests}
use Rattle.std.proofs.lemmas.List.{length-map, length-take, take_min}
use Rattle.std.proofs.lemmas.List.Elements.{All-append, All-cons, All-nil}
use Rattle.std.proofs.lemmas.Str.{IsUtf8-append, IsUtf8-from_ascii}
use Rattle.std.proofs.lemmas.Str.Ascii.{IsAscii-cons, IsAscii-nil}
use Rattle.shape_base.specs.Tables.{same_text}
use Rattle.shape_base.specs.Decimal.{LacksByte, IsSplit}
use Rattle.httparse.specs.Grammar.{AllPass, is_uri_byte, IsToken, LineEnd, crlf, lf, print_end, print_blank, print_version, Field, field_value, print_field, print_section, RequestHead, print_request, IsRequestHead, ReadsRequest, NeverHasRequest, MayBecomeRequest}
use Rattle.httparse.specs.Spans.{span_bytes, header_bytes, name_and_value, IsRequestAt, IsRequestOf as IsHeadOf, RequestExceeds, RequestOverflows}
use Rattle.httparse.specs.declared.spans.HeaderSpan.{HeaderSpan}
use Rattle.httparse.specs.declared.spans.RequestSpans.{RequestSpans}
use Rattle.httparse.specs.declared.Error.{Error}
use Rattle.httparse.specs.declared.Error.TheVariants.{HeaderName, HeaderValue, NewLine, Status, Token, TooManyHeaders, Version}
use Rattle.httparse.proofs.GrammarLemmas.{cons-append, print_request-append}
use Rattle.http_edge.specs.TextFront.{BeginsText, BeginsNoText}
use Rattle.http_edge.specs.declared.request.Request.{Request}
use Rattle.http_edge.specs.declared.request.HeadError.{HeadError}
use Rattle.http_edge.specs.declared.request.HeadError.TheVariants as errors
use Rattle.http_edge.specs.Head.{front, says_body, says_close, closes, CanBegin, HasManyFields, HasRequest, Asks, IsRequestAnswer, IsHeadAnswer}
use Rattle.http_edge.proofs.Spaces.{one_split, in_front, lacks_both, token_lacks, target_lacks, blank_lacks}

-- ---- continuations

-- a head whose target begins with these bytes and goes on with more
with_target : List LineEnd → List ℕ → List ℕ → List ℕ → RequestHead
with_target blank method target more = record { blank = blank; method = method; target = target ++ (more ++ 47 ∷ []); minor = 0; line_end = lf; fields = []; last = lf }

regrouped : (a b t m v : List ℕ) → (a ++ b ++ 32 ∷ t) ++ (m ++ 47 ∷ 32 ∷ v) ≡ a ++ (b ++ 32 ∷ ((t ++ (m ++ 47 ∷ [])) ++ 32 ∷ v))
regrouped a b t m v = simp (append_assoc, cons-append)

slash : IsUtf8 (47 ∷ [])
slash = IsUtf8-from_ascii (47 ∷ []) (IsAscii-cons 47 [] (omega arith) IsAscii-nil)

ended : (target more : List ℕ) → IsUtf8 (target ++ more) → IsUtf8 (target ++ (more ++ 47 ∷ []))
ended target more text = subst IsUtf8 (append_assoc target more (47 ∷ [])) (IsUtf8-append (target ++ more) (47 ∷ []) text slash)

Uri : ℕ → Type 0
Uri b = is_uri_byte b ≡ true

target_goes_on : (bytes : List ℕ) (blank : List LineEnd) (method target : List ℕ) → IsToken method → AllPass is_uri_byte target → bytes ≡ print_blank blank ++ method ++ 32 ∷ target → BeginsText target → CanBegin bytes
unfolding with_target
target_goes_on bytes blank method target token all e begins =
    let more = begins.more in
    let h = with_target blank method target more in
    let v = codes "HTTP/1.0\n\n" in
    let after = more ++ 47 ∷ 32 ∷ v in
    let slashed : AllPass is_uri_byte (more ++ 47 ∷ []) = All-append (λ b. is_uri_byte b ≡ true) more (47 ∷ []) begins.of_target (All-cons (λ b. is_uri_byte b ≡ true) 47 [] refl (All-nil _)) in
    let valid : IsRequestHead h = record {
      method = token;
      target = (omega (arith, length-append target (more ++ 47 ∷ []), length-append more (47 ∷ [])), All-append (λ b. is_uri_byte b ≡ true) target (more ++ 47 ∷ []) all slashed);
      target_text = ended target more begins.text;
      minor = omega arith;
      fields = All-nil _;
    } in
    record {
      more = after;
      head = h;
      begins = record { rest = []; reads = (valid, ap (λ l. l ++ after) e ∙ regrouped (print_blank blank) method target more v ∙ sym (print_request-append h [])) };
    }

may_begin : (bytes : List ℕ) → ((more : List ℕ) × (h : RequestHead) × ReadsRequest (bytes ++ more) h []) → CanBegin bytes
may_begin bytes m = record { more = m.0; head = m.1; begins = record { rest = []; reads = m.2 } }

-- the space behind the method is the only one where the bytes end inside the target
only_space : (bytes : List ℕ) (blank : List LineEnd) (method target : List ℕ) → IsToken method → bytes ≡ print_blank blank ++ method ++ 32 ∷ target → LacksByte 32 (print_blank blank ++ method)
only_space bytes blank method target token e = lacks_both (print_blank blank) method (blank_lacks blank) (token_lacks method token.1)

begins_here : (bytes before target : List ℕ) → IsSplit 32 bytes before target → MayBecomeRequest bytes → BeginsText target → CanBegin bytes
begins_here bytes before target split (inl m) text = may_begin bytes m
begins_here bytes before target split (inr m) text =
    let same = one_split before (print_blank m.0 ++ m.1) target m.2 split.first (only_space bytes m.0 m.1 m.2 m.3 m.5) (sym split.whole ∙ m.5) in
    target_goes_on bytes m.0 m.1 m.2 m.3 m.4 m.5 (subst BeginsText same.1 text)

-- a head goes on behind its method with a space, its target and a space
behind_method : (h : RequestHead) (rest : List ℕ) → (after : List ℕ) × (print_request h ++ rest ≡ (print_blank h.blank ++ h.method) ++ 32 ∷ (h.target ++ 32 ∷ after))
behind_method h rest = (
  print_version h.minor ++ (print_end h.line_end ++ (print_section h.fields h.last ++ rest)),
  print_request-append h rest ∙ sym (append_assoc (print_blank h.blank) h.method _),
)

never_here : (bytes before target : List ℕ) → IsSplit 32 bytes before target → LacksByte 32 target → BeginsNoText target → NeverHasRequest bytes
never_here bytes before target split lacks none more h rest reads =
    let after = behind_method h rest in
    let e : before ++ 32 ∷ (target ++ more) ≡ (print_blank h.blank ++ h.method) ++ 32 ∷ (h.target ++ 32 ∷ after.0) = sym (append_assoc before (32 ∷ target) more) ∙ ap (λ l. l ++ more) (sym split.whole) ∙ reads.1 ∙ after.1 in
    let same = one_split before (print_blank h.blank ++ h.method) (target ++ more) (h.target ++ 32 ∷ after.0) split.first (lacks_both (print_blank h.blank) h.method (blank_lacks h.blank) (token_lacks h.method reads.0.method.1)) e in
    let front = in_front target h.target more after.0 lacks same.1 in
    none.none front.0 (subst IsUtf8 front.1 reads.0.target_text)

pub with_one_space : (bytes before target : List ℕ) (b : Bool) → IsSplit 32 bytes before target → LacksByte 32 target → MayBecomeRequest bytes → MatchBool b (BeginsText target) (BeginsNoText target)
    → MatchBool b (CanBegin bytes) (NeverHasRequest bytes)
with_one_space bytes before target true split lacks may text = begins_here bytes before target split may text
with_one_space bytes before target false split lacks may none = never_here bytes before target split lacks none

pub without_one_space : (bytes : List ℕ) → ((before rest : List ℕ) → bytes ≡ before ++ 32 ∷ rest → LacksByte 32 before → LacksByte 32 rest → ⊥) → MayBecomeRequest bytes → CanBegin bytes
without_one_space bytes absent (inl m) = may_begin bytes m
without_one_space bytes absent (inr m) = absurd (absent (print_blank m.0 ++ m.1) m.2 m.5 (only_space bytes m.0 m.1 m.2 m.3 m.5) (target_lacks m.2 m.4))

-- ---- room for fields

fields_length : (fields : List Field) → length fields ≤ length (flat_map print_field fields)
fields_length [] = omega arith
fields_length (f ∷ fields) =
    let rest = fields_length fields in
    omega (arith, length-append (print_field f) (flat_map print_field fields), length-append (f.name ++ 58 ∷ f.raw) (print_end f.end), length-append f.name (58 ∷ f.raw))

end_length : (end : LineEnd) → 0 < length (print_end end)
end_length crlf = omega arith
end_length lf = omega arith

-- a head has more bytes than fields
fewer_fields : (h : RequestHead) → length h.fields < length (print_request h)
unfolding print_request
fewer_fields h =
    let start = print_blank h.blank ++ h.method ++ 32 ∷ h.target ++ 32 ∷ print_version h.minor ++ print_end h.line_end in
    let lines = flat_map print_field h.fields in
    omega (arith, length-append start (print_section h.fields h.last), length-append lines (print_end h.last), fields_length h.fields, end_length h.last)

-- there is room for as many fields as there are bytes
pub has_room : (bytes : List ℕ) (room : ℕ) → length bytes ≤ room → RequestExceeds room bytes → ⊥
has_room bytes room fits over =
    let front = over.0 in
    let h = over.3 in
    let whole = ap length over.4.1 in
    omega (arith, ap length over.2, length-append front over.1, whole, length-append front (10 ∷ []), length-append (print_request h) [], fewer_fields h, over.5)

pub never_begins : (bytes : List ℕ) (room : ℕ) (e : Error) → length bytes ≤ room → (e ≢ TooManyHeaders → NeverHasRequest bytes) → (e ≡ TooManyHeaders → RequestExceeds room bytes) → NeverHasRequest bytes
never_begins bytes room HeaderName fits never many = never (λ e. cc)
never_begins bytes room HeaderValue fits never many = never (λ e. cc)
never_begins bytes room NewLine fits never many = never (λ e. cc)
never_begins bytes room Status fits never many = never (λ e. cc)
never_begins bytes room Token fits never many = never (λ e. cc)
never_begins bytes room TooManyHeaders fits never many = absurd (has_room bytes room fits (many refl))
never_begins bytes room Version fits never many = never (λ e. cc)

pub many_fields : (bytes : List ℕ) (h : RequestHead) (rest : List ℕ) → RequestOverflows 64 bytes → ReadsRequest bytes h rest → HasManyFields bytes
many_fields bytes h rest over reads = record {
  head = h;
  has = record { rest = rest; reads = reads };
  many = over [] h rest (subst (λ l. ReadsRequest l h rest) (sym (append-nil bytes)) reads);
}

-- ---- the fields by their spans

any_mapped : {A B : Type 0} (f : A → B) (test : B → Bool) (xs : List A) → list_any (λ x. test (f x)) xs ≡ list_any test (map f xs)
any_mapped f test [] = refl
any_mapped f test (x ∷ xs) = ap (λ b. test (f x) || b) (any_mapped f test xs)

pub any_field : (test : List ℕ → List ℕ → Bool) (bytes : List ℕ) (spans : List HeaderSpan) (fields : List Field) → map (header_bytes bytes) spans ≡ map name_and_value fields
    → list_any (λ s. test (span_bytes bytes s.name) (span_bytes bytes s.value)) spans ≡ list_any (λ f. test f.name (field_value f)) fields
any_field test bytes spans fields same =
    any_mapped (header_bytes bytes) (λ p. test p.0 p.1) spans ∙ ap (list_any (λ p. test p.0 p.1)) same ∙ sym (any_mapped name_and_value (λ p. test p.0 p.1) fields)

pub few_fields : (bytes : List ℕ) (spans : List HeaderSpan) (count : ℕ) (fields : List Field) → length spans ≤ 64 → map (header_bytes bytes) (take count spans) ≡ map name_and_value fields → length fields ≤ 64
few_fields bytes spans count fields few same =
    omega (arith, ap length same, length-map (take count spans) (header_bytes bytes), length-map fields name_and_value, length-take count spans)

-- ---- the bytes that are looked at

take_least : (l : List ℕ) (n : ℕ) → take (min (length l) n) l ≡ take n l
take_least l n = ap (λ k. take k l) (min_comm (length l) n) ∙ take_min n l

pub looked_at : (input : List ℕ) (n : ℕ) → n ≡ min (length input) 16384 → take n input ≡ front input
looked_at input n is = ap (λ k. take k input) is ∙ take_least input 16384

pub answered : (input bytes : List ℕ) (r : Result Request HeadError) → bytes ≡ front input → IsRequestAnswer bytes r → IsHeadAnswer input r
answered input bytes (Ok r) is asks = subst (λ l. Asks l r) is asks
answered input bytes (Err errors.Partial) is none = absurd none
answered input bytes (Err errors.HeadTooLong) is none = absurd none
answered input bytes (Err errors.BadHead) is none = absurd none
answered input bytes (Err errors.BodyRefused) is has = subst (λ l. HasRequest l true) is has
answered input bytes (Err errors.OutOfMemory) is none = tt

-- ---- what a whole head says

pub has_request : (bytes : List ℕ) (fields : List HeaderSpan) (spans : RequestSpans) (h : RequestHead) (body : Bool) → length fields ≤ 64 → IsRequestAt bytes fields spans h
    → body ≡ list_any (λ s. says_body (span_bytes bytes s.name) (span_bytes bytes s.value)) (take spans.headers fields) → HasRequest bytes body
has_request bytes fields spans h body few at is = record {
  head = h;
  has = record { rest = drop spans.len bytes; reads = at.reads };
  few = few_fields bytes fields spans.headers h.fields few at.fields;
  body_is = sym (is ∙ any_field says_body bytes (take spans.headers fields) h.fields at.fields);
}

pub closes_by : (bytes : List ℕ) (fields : List HeaderSpan) (spans : RequestSpans) (h : RequestHead) → IsRequestAt bytes fields spans h
    → (spans.version == 0) || list_any (λ s. says_close (span_bytes bytes s.name) (span_bytes bytes s.value)) (take spans.headers fields) ≡ closes h
closes_by bytes fields spans h at = ap (λ v. (v == 0) || list_any (λ s. says_close (span_bytes bytes s.name) (span_bytes bytes s.value)) (take spans.headers fields)) at.version
    ∙ ap (λ b. (h.minor == 0) || b) (any_field says_close bytes (take spans.headers fields) h.fields at.fields)

pub at_first : (v : ℕ) (r x : Bool) → r ≡ (v == 0) → v ≡ 0 → r ≡ ((v == 0) || x)
at_first v r x is old = grind (arith, nat_tests)

pub at_last : (v : ℕ) (r x y : Bool) → v ≢ 0 → r ≡ y → y ≡ x → r ≡ ((v == 0) || x)
at_last v r x y new is same = grind (arith, nat_tests)

pub asks : (bytes : List ℕ) (fields : List HeaderSpan) (spans : RequestSpans) (head : IsHeadOf bytes fields spans) (get close : Bool) (target : List ℕ) → length fields ≤ 64
    → false ≡ list_any (λ s. says_body (span_bytes bytes s.name) (span_bytes bytes s.value)) (take spans.headers fields)
    → get ≡ same_text (span_bytes bytes spans.method) (codes "GET") → target ≡ span_bytes bytes spans.path
    → close ≡ ((spans.version == 0) || list_any (λ s. says_close (span_bytes bytes s.name) (span_bytes bytes s.value)) (take spans.headers fields))
    → Asks bytes (record { length = spans.len; get = get; target = target; close = close })
unfolding has_request
asks bytes fields spans head get close target few body is_get is_target is_close =
    let h = head.0 in
    let at = head.1 in
    record {
      request = has_request bytes fields spans h false few at body;
      says = record {
        length_is = at.len;
        get_is = is_get ∙ ap (λ l. same_text l (codes "GET")) at.method;
        target_is = is_target ∙ at.path;
        close_is = is_close ∙ closes_by bytes fields spans h at;
      };
    }
