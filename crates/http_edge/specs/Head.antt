-- What reading the head of a request must answer (RFC 9112, sections 2 to 6; `httparse` has the grammar).
use Rattle.std.specs.Prelude.{◌≡◌, ℕ, ◌<◌, ◌≤◌, ◌⊎◌, Bool, true, false, ◌&&◌, ◌||◌, not, ◌==◌, List, ◌++◌, length, take, Result, Ok, Err, codes}
use Rattle.std.specs.List.{list_any, slice_split}
use Rattle.std.specs.Str.{str_eq_ignore_ascii_case}
use Rattle.shape_base.specs.Tables.{same_text}
use Rattle.httparse.specs.Grammar.{field_value, trim_ows, RequestHead, print_request, ReadsRequest, HasNoRequest, NeverHasRequest}
use Rattle.http_edge.specs.declared.request.Request.{Request}
use Rattle.http_edge.specs.declared.request.HeadError.{HeadError}
use Rattle.http_edge.specs.declared.request.HeadError.TheVariants as errors

-- the bytes that are looked at: the first 16,384, or all where there are fewer
abbrev pub front : List ℕ → List ℕ
front input = take 16384 input

-- the bytes begin with a head
pub record HasHead (bytes : List ℕ) (h : RequestHead) : Type 0 where
  pub rest : List ℕ
  pub reads : ReadsRequest bytes h rest

-- more bytes follow the head with which the first of these begin
pub record HasMore (input : List ℕ) : Type 0 where
  pub head : RequestHead
  pub has : HasHead (front input) head
  pub more : length (print_request head) < length input

-- some bytes can follow that make these begin with a head
pub record CanBegin (bytes : List ℕ) : Type 0 where
  pub more : List ℕ
  pub head : RequestHead
  pub begins : HasHead (bytes ++ more) head

-- the bytes have no whole head, and some continuation of them makes one
pub record IsUnfinished (bytes : List ℕ) : Type 0 where
  pub none : HasNoRequest bytes
  pub can_begin : CanBegin bytes

-- names of fields are the same in any case (RFC 9110, section 5.1)
abbrev pub is_named : List ℕ → List ℕ → Bool
is_named name other = str_eq_ignore_ascii_case name other

-- a body follows: a transfer coding, or a length that is not written 0
abbrev pub says_body : List ℕ → List ℕ → Bool
says_body name value = is_named name (codes "transfer-encoding") || (is_named name (codes "content-length") && not (same_text value (codes "0")))

abbrev pub has_body : RequestHead → Bool
has_body h = list_any (λ f. says_body f.name (field_value f)) h.fields

-- the connection is closed after the reply: the token close, in any case, stands in a list of options (RFC 9110, section 7.6.1)
abbrev pub is_close : List ℕ → Bool
is_close option = is_named (trim_ows option) (codes "close")

abbrev pub has_close : List ℕ → Bool
has_close value = list_any is_close (slice_split (λ b. b == 44) value)

abbrev pub says_close : List ℕ → List ℕ → Bool
says_close name value = is_named name (codes "connection") && has_close value

abbrev pub closes : RequestHead → Bool
closes h = (h.minor == 0) || list_any (λ f. says_close f.name (field_value f)) h.fields

-- what a head says
pub record IsRequestOf (h : RequestHead) (r : Request) : Type 0 where
  pub length_is : r.length ≡ length (print_request h)
  pub get_is : r.get ≡ same_text h.method (codes "GET")
  pub target_is : r.target ≡ h.target
  pub close_is : r.close ≡ closes h

-- a whole head of 64 fields at most, and whether a body follows it
pub record HasRequest (bytes : List ℕ) (body : Bool) : Type 0 where
  pub head : RequestHead
  pub has : HasHead bytes head
  pub few : length head.fields ≤ 64
  pub body_is : has_body head ≡ body

-- a whole head of more fields
pub record HasManyFields (bytes : List ℕ) : Type 0 where
  pub head : RequestHead
  pub has : HasHead bytes head
  pub many : 64 < length head.fields

-- a whole head of 64 fields at most, which no body follows, and what it says
pub record Asks (bytes : List ℕ) (r : Request) : Type 0 where
  pub request : HasRequest bytes false
  pub says : IsRequestOf request.head r

-- Why this is the answer.
abbrev pub IsHeadAnswer : List ℕ → Result Request HeadError → Type 0
IsHeadAnswer input (Ok r) = Asks (front input) r
IsHeadAnswer input (Err errors.Partial) = (length input ≤ 16384) × IsUnfinished (front input)
IsHeadAnswer input (Err errors.HeadTooLong) = HasManyFields (front input) ⊎ ((16384 < length input) × IsUnfinished (front input))
IsHeadAnswer input (Err errors.BadHead) = NeverHasRequest (front input)
IsHeadAnswer input (Err errors.BodyRefused) = HasRequest (front input) true
IsHeadAnswer input (Err errors.OutOfMemory) = Unit {0}

-- the same of bytes with a whole head of 64 fields at most
abbrev pub IsRequestAnswer : List ℕ → Result Request HeadError → Type 0
IsRequestAnswer bytes (Ok r) = Asks bytes r
IsRequestAnswer bytes (Err errors.Partial) = ⊥
IsRequestAnswer bytes (Err errors.HeadTooLong) = ⊥
IsRequestAnswer bytes (Err errors.BadHead) = ⊥
IsRequestAnswer bytes (Err errors.BodyRefused) = HasRequest bytes true
IsRequestAnswer bytes (Err errors.OutOfMemory) = Unit {0}
