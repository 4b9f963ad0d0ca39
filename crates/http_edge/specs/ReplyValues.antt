-- The values of the lines of a reply's head.
use Rattle.std.specs.Prelude.{◌≡◌, ℕ, true, if◌then◌else◌, List, Option, Some, None, IfSome, codes, option_map, decimal, ◌<◌, ◌^◌}
use Rattle.std.specs.List.{list_all}
use Rattle.shape_base.specs.declared.handle.Handle.{Handle}
use Rattle.shape_base.specs.declared.offset.Offset.{Offset}
use Rattle.http_edge.specs.declared.reply_head.ReplyHead.{ReplyHead}
use Rattle.shape_base.specs.Tables.{same_text}
use Rattle.shape_base.specs.Handle.{IsHandle, handle_text}
use Rattle.shape_base.specs.OffsetText.{IsOffset, offset_text}
use Rattle.http_edge.specs.Status.{is_status}
use Rattle.http_edge.specs.ReplyText.{status_text, cache_text, is_visible, IsReplyHead}
use Rattle.http_edge.specs.ReplyLines.{Fixed, Optional, Lines, lines_of}

-- the status with this number and phrase, from 413 on
unfoldable pub late_status_in : List ℕ → Option ℕ
late_status_in value =
    if same_text value (codes "413 Payload Too Large") then Some 413 else (
    if same_text value (codes "431 Request Header Fields Too Large") then Some 431 else (
    if same_text value (codes "500 Internal Server Error") then Some 500 else (
    if same_text value (codes "502 Bad Gateway") then Some 502 else (
    if same_text value (codes "503 Service Unavailable") then Some 503 else None))))

-- the status with this number and phrase
unfoldable pub status_in : List ℕ → Option ℕ
status_in value =
    if same_text value (codes "200 OK") then Some 200 else (
    if same_text value (codes "400 Bad Request") then Some 400 else (
    if same_text value (codes "404 Not Found") then Some 404 else (
    if same_text value (codes "405 Method Not Allowed") then Some 405 else (
    if same_text value (codes "409 Conflict") then Some 409 else late_status_in value))))

abbrev pub fixed_of : ℕ → ℕ → ℕ → Fixed
fixed_of status length age = record { status = status_text status; kind = codes "application/json"; length = decimal length; cache = cache_text age }

-- the numbers of the lines that each head has
pub record AreFixedValues (f : Fixed) (s n a : ℕ) : Type 0 where
  pub status : is_status s ≡ true
  pub length : n < 2 ^ 64
  pub age : a < 2 ^ 32
  pub is : f ≡ fixed_of s n a

abbrev pub optional_of : Option Handle → Option Offset → Option (List ℕ) → Option ℕ → Optional
optional_of handle offset schema cursor = record { handle = option_map handle_text handle; offset = option_map offset_text offset; schema = schema; cursor = option_map decimal cursor }

-- the values of the lines that a head may lack
pub record AreOptionalValues (o : Optional) (h : Option Handle) (f : Option Offset) (s : Option (List ℕ)) (n : Option ℕ) : Type 0 where
  pub handle : IfSome h IsHandle
  pub offset : IfSome f IsOffset
  pub schema : IfSome s (λ schema. list_all is_visible schema ≡ true)
  pub cursor : IfSome n (λ cursor. cursor < 2 ^ 64)
  pub is : o ≡ optional_of h f s n

-- the lines are those of a head
pub record AreLinesOf (l : Lines) (h : ReplyHead) : Type 0 where
  pub good : IsReplyHead h
  pub are : l ≡ lines_of h
