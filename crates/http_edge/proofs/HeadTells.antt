-- The bytes determine how a head is answered.
use Rattle.std.proofs.Common.{◌≡◌, ℕ, ◌<◌, ◌≤◌, Bool, true, false, ◌⊎◌, inl, inr, List, [], length, nat_lt, MatchBool, Ok, Err, refl, sym, ap, ◌∙◌, subst, arith, append-nil}
use Rattle.std.proofs.lemmas.Bool.{false≢true}
use Rattle.std.proofs.lemmas.Bool.Decides.{nat_tests}
use Rattle.httparse.specs.Grammar.{RequestHead, print_request, ReadsRequest, HasNoRequest, NeverHasRequest}
use Rattle.httparse.proofs.GrammarLemmas.{request_unique}
use Rattle.http_edge.specs.declared.request.Request.{Request}
use Rattle.http_edge.specs.declared.request.HeadError.TheVariants as errors
use Rattle.http_edge.specs.Head.{front, has_body, HasHead, HasMore, IsUnfinished, IsRequestOf, HasRequest, HasManyFields, Asks}
use Rattle.http_edge.specs.HeadLaws.{HeadsTell}

pub one_head : (bytes : List ℕ) (h k : RequestHead) → HasHead bytes h → HasHead bytes k → h ≡ k
one_head bytes h k x y = (request_unique bytes h k x.rest y.rest x.reads y.reads).0

pub some_head : (bytes : List ℕ) (h : RequestHead) → HasHead bytes h → HasNoRequest bytes → ⊥
some_head bytes h x none = none h x.rest x.reads

pub may_have_head : (bytes : List ℕ) (h : RequestHead) → HasHead bytes h → NeverHasRequest bytes → ⊥
may_have_head bytes h x never = never [] h x.rest (subst (λ l. ReadsRequest l h x.rest) (sym (append-nil bytes)) x.reads)

may_begin : (bytes : List ℕ) → IsUnfinished bytes → NeverHasRequest bytes → ⊥
may_begin bytes x never = let m = x.can_begin in never m.more m.head m.begins.rest m.begins.reads

few_or_many : (bytes : List ℕ) (body : Bool) → HasRequest bytes body → HasManyFields bytes → ⊥
few_or_many bytes body x y =
    let same = ap (λ (h : RequestHead). length h.fields) (one_head bytes x.head y.head x.has y.has) in
    omega (arith, x.few, y.many)

body_or_none : (bytes : List ℕ) → HasRequest bytes true → HasRequest bytes false → ⊥
body_or_none bytes x y = false≢true (sym y.body_is ∙ ap has_body (one_head bytes y.head x.head y.has x.has) ∙ x.body_is)

same_request : (r s : Request) → r.length ≡ s.length → r.get ≡ s.get → r.target ≡ s.target → r.close ≡ s.close → r ≡ s
same_request r s a b c d i = record { length = a i; get = b i; target = c i; close = d i }

said_once : (h : RequestHead) (r s : Request) → IsRequestOf h r → IsRequestOf h s → r ≡ s
said_once h r s x y = same_request r s (x.length_is ∙ sym y.length_is) (x.get_is ∙ sym y.get_is) (x.target_is ∙ sym y.target_is) (x.close_is ∙ sym y.close_is)

one_request : (bytes : List ℕ) (r s : Request) → Asks bytes r → Asks bytes s → r ≡ s
one_request bytes r s x y =
    let same = one_head bytes y.request.head x.request.head y.request.has x.request.has in
    said_once x.request.head r s x.says (subst (λ h. IsRequestOf h s) same y.says)

-- a whole head is no unfinished one, and no head of many fields
long_or_asked : (bytes : List ℕ) (body : Bool) (long : Type 0) → HasRequest bytes body → HasManyFields bytes ⊎ (long × IsUnfinished bytes) → ⊥
long_or_asked bytes body long x (inl y) = few_or_many bytes body x y
long_or_asked bytes body long x (inr y) = some_head bytes x.head x.has y.1.none

long_or_never : (bytes : List ℕ) (long : Type 0) → HasManyFields bytes ⊎ (long × IsUnfinished bytes) → NeverHasRequest bytes → ⊥
long_or_never bytes long (inl x) never = may_have_head bytes x.head x.has never
long_or_never bytes long (inr x) never = may_begin bytes x.1 never

long_or_partial : (bytes : List ℕ) (n : ℕ) → HasManyFields bytes ⊎ ((16384 < n) × IsUnfinished bytes) → (n ≤ 16384) × IsUnfinished bytes → ⊥
long_or_partial bytes n (inl x) y = some_head bytes x.head x.has y.1.none
long_or_partial bytes n (inr x) y = let above = x.0 in let below = y.0 in omega arith

pub tell : HeadsTell
tell input (Err errors.OutOfMemory) b x y = inr (inl refl)
tell input a (Err errors.OutOfMemory) x y = inr (inr refl)
tell input (Ok r) (Ok s) x y = inl (ap Ok (one_request (front input) r s x y))
tell input (Ok r) (Err errors.Partial) x y = absurd (some_head (front input) x.request.head x.request.has y.1.none)
tell input (Ok r) (Err errors.HeadTooLong) x y = absurd (long_or_asked (front input) false _ x.request y)
tell input (Ok r) (Err errors.BadHead) x y = absurd (may_have_head (front input) x.request.head x.request.has y)
tell input (Ok r) (Err errors.BodyRefused) x y = absurd (body_or_none (front input) y x.request)
tell input (Err errors.Partial) (Ok s) x y = absurd (some_head (front input) y.request.head y.request.has x.1.none)
tell input (Err errors.Partial) (Err errors.Partial) x y = inl refl
tell input (Err errors.Partial) (Err errors.HeadTooLong) x y = absurd (long_or_partial (front input) (length input) y x)
tell input (Err errors.Partial) (Err errors.BadHead) x y = absurd (may_begin (front input) x.1 y)
tell input (Err errors.Partial) (Err errors.BodyRefused) x y = absurd (some_head (front input) y.head y.has x.1.none)
tell input (Err errors.HeadTooLong) (Ok s) x y = absurd (long_or_asked (front input) false _ y.request x)
tell input (Err errors.HeadTooLong) (Err errors.Partial) x y = absurd (long_or_partial (front input) (length input) x y)
tell input (Err errors.HeadTooLong) (Err errors.HeadTooLong) x y = inl refl
tell input (Err errors.HeadTooLong) (Err errors.BadHead) x y = absurd (long_or_never (front input) _ x y)
tell input (Err errors.HeadTooLong) (Err errors.BodyRefused) x y = absurd (long_or_asked (front input) true _ y x)
tell input (Err errors.BadHead) (Ok s) x y = absurd (may_have_head (front input) y.request.head y.request.has x)
tell input (Err errors.BadHead) (Err errors.Partial) x y = absurd (may_begin (front input) y.1 x)
tell input (Err errors.BadHead) (Err errors.HeadTooLong) x y = absurd (long_or_never (front input) _ y x)
tell input (Err errors.BadHead) (Err errors.BadHead) x y = inl refl
tell input (Err errors.BadHead) (Err errors.BodyRefused) x y = absurd (may_have_head (front input) y.head y.has x)
tell input (Err errors.BodyRefused) (Ok s) x y = absurd (body_or_none (front input) x y.request)
tell input (Err errors.BodyRefused) (Err errors.Partial) x y = absurd (some_head (front input) x.head x.has y.1.none)
tell input (Err errors.BodyRefused) (Err errors.HeadTooLong) x y = absurd (long_or_asked (front input) true _ x y)
tell input (Err errors.BodyRefused) (Err errors.BadHead) x y = absurd (may_have_head (front input) x.head x.has y)
tell input (Err errors.BodyRefused) (Err errors.BodyRefused) x y = inl refl

-- ---- more bytes

-- the length of a head that is there decides whether more bytes follow it
pub more_behind : (input : List ℕ) (h : RequestHead) → HasHead (front input) h → length (print_request h) < length input → HasMore input
more_behind input h has more = record { head = h; has = has; more = more }

pub none_behind : (input : List ℕ) (h : RequestHead) → HasHead (front input) h → length input ≤ length (print_request h) → HasMore input → ⊥
none_behind input h has last m =
    let same = ap (λ (k : RequestHead). length (print_request k)) (one_head (front input) m.head h m.has has) in
    omega (arith, m.more, last, same)

follows_by : (b : Bool) (input : List ℕ) (h : RequestHead) → HasHead (front input) h → (b ≡ true → length (print_request h) < length input) → (b ≡ false → length input ≤ length (print_request h)) → MatchBool b (HasMore input) (HasMore input → ⊥)
follows_by true input h has more last = more_behind input h has (more refl)
follows_by false input h has more last = none_behind input h has (last refl)

pub follows : (input bytes : List ℕ) (h : RequestHead) (rest : List ℕ) (n : ℕ) → bytes ≡ front input → ReadsRequest bytes h rest → n ≡ length (print_request h) → MatchBool (nat_lt n (length input)) (HasMore input) (HasMore input → ⊥)
follows input bytes h rest n is reads len =
    let has : HasHead (front input) h = record { rest = rest; reads = subst (λ l. ReadsRequest l h rest) is reads } in
    follows_by (nat_lt n (length input)) input h has
    (λ yes. grind (arith, nat_tests, yes, len))
    (λ no. grind (arith, nat_tests, no, len))

-- none follow where there is no head
pub none_without : (input : List ℕ) → HasNoRequest (front input) → HasMore input → ⊥
none_without input none m = some_head (front input) m.head m.has none

pub none_ever : (input : List ℕ) → NeverHasRequest (front input) → HasMore input → ⊥
none_ever input never m = may_have_head (front input) m.head m.has never
