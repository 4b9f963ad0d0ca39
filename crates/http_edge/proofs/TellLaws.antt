-- Two heads with one text are one head.
use Rattle.std.proofs.Common.{◌≡◌, ℕ, ◌<◌, ◌^◌, Bool, true, false, List, [], ◌∷◌, ◌++◌, length, take, drop, Option, Some, None, IfSome, Ok, Err, inl, inr, refl, sym, ap, subst, ◌∙◌, arith, append_assoc, option_map, decimal, length-append}
use Rattle.std.proofs.lemmas.Fmt.{decimal_injective, decimal_is_IsNumeral}
use Rattle.std.proofs.Math.Seq.{take-append_seam, drop-append_seam}
use Rattle.std.specs.Char.{digit_value}
use Rattle.std.specs.Str.{IsUtf8}
use Rattle.shape_base.specs.declared.reply.Reply.{Reply}
use Rattle.shape_base.specs.declared.handle.Handle.{Handle}
use Rattle.shape_base.specs.declared.offset.Offset.{Offset}
use Rattle.shape_base.specs.declared.offset.Offset.TheVariants.{Start, At}
use Rattle.shape_base.specs.Decimal.{LacksByte}
use Rattle.shape_base.specs.Handle.{IsHandle, handle_text}
use Rattle.shape_base.specs.OffsetText.{IsOffset, offset_text}
use Rattle.http_edge.specs.declared.reply_head.ReplyHead.{ReplyHead}
use Rattle.http_edge.specs.declared.reply_error.ReplyError.TheVariants as errors
use Rattle.http_edge.specs.ReplyText.{IsReplyHead, IsReply, head_of, head_text, reply_text}
use Rattle.http_edge.specs.ReplyLines.{lines_of, lines_text, Lines}
use Rattle.http_edge.specs.ReplyValues.{status_in}
use Rattle.http_edge.specs.ReplyAnswer.{has_end, Begins}
use Rattle.http_edge.specs.TextLaws.{ReplyTextsTell, ReplyIsReadBack}
use Rattle.http_edge.proofs.ValueLaws.{status_read, lacks_digits, age_same}
use Rattle.http_edge.proofs.ReadingLaws.{begins_lines, same_lines, head_lines, lines_end}

-- ---- options

abbrev given : {A : Type 0} → A → Option A → A
given d None = d
given d (Some a) = a

abbrev Here : {A : Type 0} → Option A → Type 0
Here None = ⊥
Here (Some a) = Unit {0}

pub some_same : {A : Type 0} (a b : A) → ◌≡◌ {A = Option A} (Some a) (Some b) → a ≡ b
some_same a b e = ap (given a) e

option_same : {A : Type 0} (G : A → Type 0) (text : A → List ℕ) → ((a b : A) → G a → G b → text a ≡ text b → a ≡ b) → (o p : Option A) → IfSome o G → IfSome p G → option_map text o ≡ option_map text p → o ≡ p
option_same G text f None None g h e = refl
option_same G text f None (Some b) g h e = absurd (subst Here (sym e) tt)
option_same G text f (Some a) None g h e = absurd (subst Here e tt)
option_same G text f (Some a) (Some b) g h e = ap Some (f a b g h (some_same (text a) (text b) e))

-- ---- values

halves : (separator : ℕ) (a a' b b' : List ℕ) → LacksByte separator a → LacksByte separator a' → a ++ separator ∷ b ≡ a' ++ separator ∷ b' → (a ≡ a') × (b ≡ b')
halves separator [] [] b b' h k e = (refl, cc)
halves separator [] (x ∷ a') b b' h k e = absurd (k.0 (cc))
halves separator (x ∷ a) [] b b' h k e = absurd (h.0 (cc))
halves separator (x ∷ a) (y ∷ a') b b' h k e =
    let first : x ≡ y = cc in
    let rest : a ++ separator ∷ b ≡ a' ++ separator ∷ b' = cc in
    let same = halves separator a a' b b' h.1 k.1 rest in
    (cc, same.1)

no_digit : (separator n : ℕ) → (digit_value separator < 10 → ⊥) → n < 2 ^ 64 → LacksByte separator (decimal n)
no_digit separator n none small = lacks_digits separator none (decimal n) (decimal_is_IsNumeral n small).0.1

pub handle_same : (a b : Handle) → IsHandle a → IsHandle b → handle_text a ≡ handle_text b → a ≡ b
handle_same a b g h e =
    let parts = halves 45 (decimal a.number) (decimal b.number) a.run b.run (no_digit 45 a.number (λ k. absurd (omega arith)) g.small) (no_digit 45 b.number (λ k. absurd (omega arith)) h.small) e in
    let n = decimal_injective a.number b.number g.small h.small parts.0 in
    λ i. record { number = n i; run = parts.1 i }

abbrev first_byte : List ℕ → ℕ
first_byte [] = 0
first_byte (b ∷ bytes) = b

-- bytes without a hyphen do not begin as -1 does
no_start : (ds rest : List ℕ) → LacksByte 45 ds → 45 ∷ 49 ∷ [] ≡ ds ++ 95 ∷ rest → ⊥
no_start [] rest h e = let f : 45 ≡ 95 = ap first_byte e in absurd (omega (arith, f))
no_start (d ∷ ds) rest h e = h.0 (sym (ap first_byte e))

pub start_apart : (l p : ℕ) → l < 2 ^ 64 → offset_text Start ≡ offset_text (At l p) → ⊥
start_apart l p small e = no_start (decimal l) (decimal p) (no_digit 45 l (λ k. absurd (omega arith)) small) e

pub offset_same : (a b : Offset) → IsOffset a → IsOffset b → offset_text a ≡ offset_text b → a ≡ b
offset_same Start Start g h e = refl
offset_same Start (At m q) g h e = absurd (start_apart m q h.0 e)
offset_same (At l p) Start g h e = absurd (start_apart l p g.0 (sym e))
offset_same (At l p) (At m q) g h e =
    let parts = halves 95 (decimal l) (decimal m) (decimal p) (decimal q) (no_digit 95 l (λ k. absurd (omega arith)) g.0) (no_digit 95 m (λ k. absurd (omega arith)) h.0) e in
    let n = decimal_injective l m g.0 h.0 parts.0 in
    let k = decimal_injective p q g.1 h.1 parts.1 in
    λ i. At (n i) (k i)

-- ---- heads

pub heads_same : (h g : ReplyHead) → IsReplyHead h → IsReplyHead g → lines_of h ≡ lines_of g → h ≡ g
heads_same h g a b e =
    let st : ◌≡◌ {A = Option ℕ} (Some h.status) (Some g.status) = sym (status_read h.status a.status) ∙ ap status_in (ap (λ (x : Lines). x.fixed.status) e) ∙ status_read g.status b.status in
    let s = some_same h.status g.status st in
    let n = decimal_injective h.length g.length a.length b.length (ap (λ (x : Lines). x.fixed.length) e) in
    let age = age_same h.max_age g.max_age a.max_age b.max_age (ap (λ (x : Lines). x.fixed.cache) e) in
    let handle = option_same IsHandle handle_text handle_same h.handle g.handle a.handle b.handle (ap (λ (x : Lines). x.optional.handle) e) in
    let offset = option_same IsOffset offset_text offset_same h.offset g.offset a.offset b.offset (ap (λ (x : Lines). x.optional.offset) e) in
    let cursor = option_same (λ n. n < 2 ^ 64) decimal (λ m n p q. decimal_injective m n p q) h.cursor g.cursor a.cursor b.cursor (ap (λ (x : Lines). x.optional.cursor) e) in
    λ i. record { status = s i; length = n i; max_age = age i; handle = handle i; offset = offset i; schema = (e i).optional.schema; cursor = cursor i; close = (e i).close }

pub begins_once : (input : List ℕ) (h g : ReplyHead) (x y : List ℕ) → Begins input h x → Begins input g y → (h ≡ g) × (x ≡ y)
begins_once input h g x y a b = let both = same_lines (lines_of h) (lines_of g) x y (sym (begins_lines input h x a) ∙ begins_lines input g y b) in (heads_same h g a.good b.good both.0, both.1)

-- ---- replies

with_close : (r : Reply) (c : Bool) → IsReplyHead (head_of r false) → IsReplyHead (head_of r c)
with_close r c g = record { status = g.status; length = g.length; max_age = g.max_age; handle = g.handle; offset = g.offset; schema = g.schema; cursor = g.cursor }

reply_begins : (r : Reply) (c : Bool) (x : List ℕ) → IsReply r → Begins (reply_text r c ++ x) (head_of r c) (r.body ++ x)
reply_begins r c x good = record { good = with_close r c good.0; whole = append_assoc (head_text (head_of r c)) r.body x }

bodies : (a b x y : List ℕ) → length a ≡ length b → a ++ x ≡ b ++ y → (a ≡ b) × (x ≡ y)
bodies a b x y n e = (
  sym (take-append_seam a x) ∙ ap (take (length a)) e ∙ ap (λ k. take k (b ++ y)) n ∙ take-append_seam b y,
  sym (drop-append_seam a x) ∙ ap (drop (length a)) e ∙ ap (λ k. drop k (b ++ y)) n ∙ drop-append_seam b y,
)

pub texts_tell : ReplyTextsTell
texts_tell r s c d x y good other e =
    let a = reply_begins r c x good in
    let b : Begins (reply_text r c ++ x) (head_of s d) (s.body ++ y) = subst (λ t. Begins t (head_of s d) (s.body ++ y)) (sym e) (reply_begins s d y other) in
    let both = begins_once (reply_text r c ++ x) (head_of r c) (head_of s d) (r.body ++ x) (s.body ++ y) a b in
    let parts = bodies r.body s.body x y (ap (λ (h : ReplyHead). h.length) both.0) both.1 in (
      λ i. record { status = (both.0 i).status; handle = (both.0 i).handle; offset = (both.0 i).offset; schema = (both.0 i).schema; cursor = (both.0 i).cursor; max_age = (both.0 i).max_age; body = parts.0 i },
      (ap (λ (h : ReplyHead). h.close) both.0, parts.1),
    )

long_body : (a x : List ℕ) → length (a ++ x) < length a → ⊥
long_body a x h = absurd (let e = length-append a x in omega (arith, h, e))

not_both : (b : Bool) → b ≡ true → b ≡ false → ⊥
not_both b t f = absurd cc

head_rest : (r : Reply) (c : Bool) (rest : List ℕ) → reply_text r c ++ rest ≡ lines_text (lines_of (head_of r c)) (r.body ++ rest)
head_rest r c rest = append_assoc (head_text (head_of r c)) r.body rest ∙ head_lines (head_of r c) (r.body ++ rest)

pub read_back : ReplyIsReadBack
read_back r close rest (Ok (s, n)) good is =
    let t = texts_tell r s close is.close rest is.rest good is.good is.whole in
    let m : n ≡ length (reply_text r close) = is.long ∙ (λ i. length (reply_text ((sym t.0) i) ((sym t.1.0) i))) in
    inl (λ i. Ok ((sym t.0) i, m i))
read_back r close rest (Err errors.Partial) good (inl none) = absurd (not_both _ (ap has_end (head_rest r close rest) ∙ lines_end (lines_of (head_of r close)) (r.body ++ rest)) none)
read_back r close rest (Err errors.Partial) good (inr short) =
    let both = begins_once (reply_text r close ++ rest) (head_of r close) short.head (r.body ++ rest) short.rest (reply_begins r close rest good) short.begins in
    absurd (long_body r.body rest (subst (λ (k : ℕ). length (r.body ++ rest) < k) (sym (ap (λ (h : ReplyHead). h.length) both.0)) (subst (λ (x : List ℕ). length x < short.head.length) (sym both.1) short.short)))
read_back r close rest (Err errors.BadReply) good is =
    absurd ((is.1 (head_of r close) (r.body ++ rest) (reply_begins r close rest good)).1 (subst IsUtf8 (sym (take-append_seam r.body rest)) good.1))
read_back r close rest (Err errors.OutOfMemory) good is = inr refl
