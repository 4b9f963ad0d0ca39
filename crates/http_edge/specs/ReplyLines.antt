-- The lines of a reply's head, read from the front of bytes, before their values are looked at.
use Rattle.std.specs.Prelude.{ℕ, Bool, true, false, ◌==◌, if◌then◌else◌, List, [], ◌∷◌, ◌++◌, Option, Some, None, codes, option_map, option_and_then, decimal}
use Rattle.shape_base.specs.Handle.{handle_text}
use Rattle.shape_base.specs.OffsetText.{offset_text}
use Rattle.http_edge.specs.declared.reply_head.ReplyHead.{ReplyHead}
use Rattle.http_edge.specs.ReplyText.{crlf, line, line_if, status_text, cache_text}

-- what stands behind a front, where the bytes begin with it
unfoldable pub behind : List ℕ → List ℕ → Option (List ℕ)
behind [] text = Some text
behind (b ∷ front) [] = None
behind (b ∷ front) (c ∷ text) = if b == c then behind front text else None

-- the bytes before the first CR, and those after the CR LF there
unfoldable pub to_end : List ℕ → Option (List ℕ × List ℕ)
to_end [] = None
to_end (b ∷ text) = if b == 13 then option_map (λ rest. ([], rest)) (behind (10 ∷ []) text) else option_map (λ parts. (b ∷ parts.0, parts.1)) (to_end text)

-- the value of a field with this name, and what stands behind its line
unfoldable pub value_of : List ℕ → List ℕ → Option (List ℕ × List ℕ)
value_of name text = option_and_then to_end (behind name text)

abbrev pub present : List ℕ × List ℕ → Option (List ℕ) × List ℕ
present parts = (Some parts.0, parts.1)

-- the same of a field that may be absent; first what stands behind its name is known, if it is there
abbrev pub found_value : List ℕ → Option (List ℕ) → Option (Option (List ℕ) × List ℕ)
found_value text None = Some (None, text)
found_value text (Some rest) = option_map present (to_end rest)

unfoldable pub value_if : List ℕ → List ℕ → Option (Option (List ℕ) × List ℕ)
value_if name text = found_value text (behind name text)

-- whether a line stands there, and what stands behind it
abbrev pub found_flag : List ℕ → Option (List ℕ) → Bool × List ℕ
found_flag text None = (false, text)
found_flag text (Some rest) = (true, rest)

unfoldable pub flag_of : List ℕ → List ℕ → Bool × List ℕ
flag_of words text = found_flag text (behind words text)

-- the values that each head has, as they stand there
pub record Fixed : Type 0 where
  pub status : List ℕ
  pub kind : List ℕ
  pub length : List ℕ
  pub cache : List ℕ

-- the values that a head may lack
pub record Optional : Type 0 where
  pub handle : Option (List ℕ)
  pub offset : Option (List ℕ)
  pub schema : Option (List ℕ)
  pub cursor : Option (List ℕ)

pub record Lines : Type 0 where
  pub fixed : Fixed
  pub optional : Optional
  pub allow : Bool
  pub close : Bool

unfoldable pub fixed_in : List ℕ → Option (Fixed × List ℕ)
fixed_in text =
    option_and_then (λ a. option_and_then (λ b. option_and_then (λ c. option_map (λ d. (record { status = a.0; kind = b.0; length = c.0; cache = d.0 }, d.1))
    (value_of (codes "cache-control: ") c.1)) (value_of (codes "content-length: ") b.1)) (value_of (codes "content-type: ") a.1)) (value_of (codes "HTTP/1.1 ") text)

unfoldable pub optional_in : List ℕ → Option (Optional × List ℕ)
optional_in text =
    option_and_then (λ a. option_and_then (λ b. option_and_then (λ c. option_map (λ d. (record { handle = a.0; offset = b.0; schema = c.0; cursor = d.0 }, d.1))
    (value_if (codes "electric-cursor: ") c.1)) (value_if (codes "electric-schema: ") b.1)) (value_if (codes "electric-offset: ") a.1)) (value_if (codes "electric-handle: ") text)

-- the flags, and the empty line
unfoldable pub flags_in : List ℕ → Option ((Bool × Bool) × List ℕ)
flags_in text =
    option_map (λ rest. (((flag_of (codes "allow: GET\r\n") text).0, (flag_of (codes "connection: close\r\n") (flag_of (codes "allow: GET\r\n") text).1).0), rest))
    (behind crlf (flag_of (codes "connection: close\r\n") (flag_of (codes "allow: GET\r\n") text).1).1)

-- the lines of the head that the bytes begin with, and what stands behind it
unfoldable pub lines_in : List ℕ → Option (Lines × List ℕ)
lines_in text =
    option_and_then (λ a. option_and_then (λ b. option_map (λ c. (record { fixed = a.0; optional = b.0; allow = c.0.0; close = c.0.1 }, c.1))
    (flags_in b.1)) (optional_in a.1)) (fixed_in text)

-- a line exactly where the flag is set
abbrev pub flag_text : Bool → List ℕ → List ℕ
flag_text true words = words
flag_text false words = []

abbrev pub fixed_text : Fixed → List ℕ → List ℕ
fixed_text f rest = line (codes "HTTP/1.1 ") f.status ++ (line (codes "content-type: ") f.kind ++ (line (codes "content-length: ") f.length ++ (line (codes "cache-control: ") f.cache ++ rest)))

abbrev pub optional_text : Optional → List ℕ → List ℕ
optional_text o rest =
    line_if (codes "electric-handle: ") (λ value. value) o.handle ++ (line_if (codes "electric-offset: ") (λ value. value) o.offset
    ++ (line_if (codes "electric-schema: ") (λ value. value) o.schema ++ (line_if (codes "electric-cursor: ") (λ value. value) o.cursor ++ rest)))

abbrev pub flags_text : Bool → Bool → List ℕ → List ℕ
flags_text allow close rest = flag_text allow (codes "allow: GET\r\n") ++ (flag_text close (codes "connection: close\r\n") ++ (crlf ++ rest))

-- the text of these lines
unfoldable pub lines_text : Lines → List ℕ → List ℕ
lines_text l rest = fixed_text l.fixed (optional_text l.optional (flags_text l.allow l.close rest))

-- the lines that a head has
abbrev pub lines_of : ReplyHead → Lines
lines_of h = record {
  fixed = record {
    status = status_text h.status;
    kind = codes "application/json";
    length = decimal h.length;
    cache = cache_text h.max_age;
  };
  optional = record {
    handle = option_map handle_text h.handle;
    offset = option_map offset_text h.offset;
    schema = h.schema;
    cursor = option_map decimal h.cursor;
  };
  allow = h.status == 405;
  close = h.close;
}
