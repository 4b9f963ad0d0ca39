-- What reading a reply must answer.
use Rattle.std.specs.Prelude.{◌≡◌, ℕ, ◌<◌, ◌≤◌, ◌⊎◌, Bool, true, false, ◌||◌, is_some, List, [], ◌∷◌, ◌++◌, length, take, Result, Ok, Err, codes}
use Rattle.std.specs.Str.{IsUtf8}
use Rattle.shape_base.specs.declared.reply.Reply.{Reply}
use Rattle.http_edge.specs.declared.reply_head.ReplyHead.{ReplyHead}
use Rattle.http_edge.specs.declared.reply_error.ReplyError.{ReplyError}
use Rattle.http_edge.specs.declared.reply_error.ReplyError.TheVariants as errors
use Rattle.http_edge.specs.ReplyText.{IsReplyHead, IsReply, head_text, reply_text}
use Rattle.http_edge.specs.ReplyLines.{behind}

-- an empty line stands in the bytes: CR LF CR LF
unfoldable pub has_end : List ℕ → Bool
has_end [] = false
has_end (b ∷ text) = is_some (behind (codes "\r\n\r\n") (b ∷ text)) || has_end text

-- the bytes begin with the text of a head, and this stands behind it
pub record Begins (input : List ℕ) (h : ReplyHead) (rest : List ℕ) : Type 0 where
  pub good : IsReplyHead h
  pub whole : input ≡ head_text h ++ rest

-- the bytes begin with the text of a reply, which has this length
pub record IsRead (input : List ℕ) (r : Reply) (n : ℕ) : Type 0 where
  pub close : Bool
  pub rest : List ℕ
  pub good : IsReply r
  pub whole : input ≡ reply_text r close ++ rest
  pub long : n ≡ length (reply_text r close)

-- fewer bytes follow a head than it states
pub record IsShort (input : List ℕ) : Type 0 where
  pub head : ReplyHead
  pub rest : List ℕ
  pub begins : Begins input head rest
  pub short : length rest < head.length

-- the bytes begin with no head, or with one whose whole body is not UTF-8
abbrev pub HasNoReply : List ℕ → Type 0
HasNoReply input = (h : ReplyHead) (rest : List ℕ) → Begins input h rest → (h.length ≤ length rest) × ¬ (IsUtf8 (take h.length rest))

-- Why this is the answer.
abbrev pub IsReplyAnswer : List ℕ → Result (Reply × ℕ) ReplyError → Type 0
IsReplyAnswer input (Ok x) = IsRead input x.0 x.1
IsReplyAnswer input (Err errors.Partial) = (has_end input ≡ false) ⊎ IsShort input
IsReplyAnswer input (Err errors.BadReply) = (has_end input ≡ true) × HasNoReply input
IsReplyAnswer input (Err errors.OutOfMemory) = Unit {0}
