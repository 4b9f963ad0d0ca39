-- The text of a reply (RFC 9112, section 4): a status line, header lines in one order, each ended by CR LF, an empty line, and the body.
use Rattle.std.specs.Prelude.{◌≡◌, ℕ, ◌<◌, ◌^◌, Bool, true, false, ◌&&◌, ◌==◌, nat_le, if◌then◌else◌, List, [], ◌∷◌, ◌++◌, length, Option, Some, None, IfSome, codes, decimal}
use Rattle.std.specs.List.{list_all}
use Rattle.std.specs.Str.{IsUtf8}
use Rattle.shape_base.specs.declared.reply.Reply.{Reply}
use Rattle.shape_base.specs.Handle.{IsHandle, handle_text}
use Rattle.shape_base.specs.OffsetText.{IsOffset, offset_text}
use Rattle.http_edge.specs.declared.reply_head.ReplyHead.{ReplyHead}
use Rattle.http_edge.specs.Status.{is_status, phrase}

abbrev pub crlf : List ℕ
crlf = 13 ∷ 10 ∷ []

-- a visible byte of ASCII, and no space
abbrev pub is_visible : ℕ → Bool
is_visible b = nat_le 33 b && nat_le b 126

-- the numbers fit their types, the handle and the offset have texts, and the schema has visible bytes alone
pub record IsReplyHead (h : ReplyHead) : Type 0 where
  pub status : is_status h.status ≡ true
  pub length : h.length < 2 ^ 64
  pub max_age : h.max_age < 2 ^ 32
  pub handle : IfSome h.handle IsHandle
  pub offset : IfSome h.offset IsOffset
  pub schema : IfSome h.schema (λ schema. list_all is_visible schema ≡ true)
  pub cursor : IfSome h.cursor (λ cursor. cursor < 2 ^ 64)

-- a line of a field that is there in any case
abbrev pub line : List ℕ → List ℕ → List ℕ
line name value = name ++ value ++ crlf

-- a line exactly where there is a value
abbrev pub line_if : {A : Type 0} → List ℕ → (A → List ℕ) → Option A → List ℕ
line_if name text None = []
line_if name text (Some value) = line name (text value)

-- whether and how long a cache may keep the reply (RFC 9111, section 5.2.2); age 0 stands for no-store
abbrev pub cache_text : ℕ → List ℕ
cache_text age = if age == 0 then codes "no-store" else codes "public, max-age=" ++ decimal age

abbrev pub allow_line : ℕ → List ℕ
allow_line status = if status == 405 then codes "allow: GET" ++ crlf else []

abbrev pub close_line : Bool → List ℕ
close_line close = if close then codes "connection: close" ++ crlf else []

-- a status and its phrase
abbrev pub status_text : ℕ → List ℕ
status_text status = decimal status ++ 32 ∷ phrase status

-- The text of a head: each optional line stands exactly where its value is present, and `allow: GET` exactly under 405.
unfoldable pub head_text : ReplyHead → List ℕ
head_text h =
    line (codes "HTTP/1.1 ") (status_text h.status)
    ++ line (codes "content-type: ") (codes "application/json")
    ++ line (codes "content-length: ") (decimal h.length)
    ++ line (codes "cache-control: ") (cache_text h.max_age)
    ++ line_if (codes "electric-handle: ") handle_text h.handle
    ++ line_if (codes "electric-offset: ") offset_text h.offset
    ++ line_if (codes "electric-schema: ") (λ schema. schema) h.schema
    ++ line_if (codes "electric-cursor: ") decimal h.cursor
    ++ allow_line h.status
    ++ close_line h.close
    ++ crlf

-- the head of a reply, with which the connection is closed or not
abbrev pub head_of : Reply → Bool → ReplyHead
head_of r close = record {
  status = r.status;
  length = length r.body;
  max_age = r.max_age;
  handle = r.handle;
  offset = r.offset;
  schema = r.schema;
  cursor = r.cursor;
  close = close;
}

-- The text of a reply: its head, and its body.
abbrev pub reply_text : Reply → Bool → List ℕ
reply_text r close = head_text (head_of r close) ++ r.body

-- the reply has a text
abbrev pub IsReply : Reply → Type 0
IsReply r = IsReplyHead (head_of r false) × IsUtf8 r.body
