-- Laws over the definitions of texts.
use Rattle.std.specs.Prelude.{◌≡◌, ℕ, Bool, List, ◌++◌, length, Result, Ok, Err, ◌⊎◌}
use Rattle.shape_base.specs.declared.reply.Reply.{Reply}
use Rattle.http_edge.specs.declared.reply_error.ReplyError.{ReplyError}
use Rattle.http_edge.specs.declared.reply_error.ReplyError.TheVariants as errors
use Rattle.http_edge.specs.ReplyText.{IsReply, reply_text}
use Rattle.http_edge.specs.ReplyAnswer.{IsReplyAnswer}

-- Bytes that begin with the texts of two replies begin with one: the same reply, the same word on the connection, and the same bytes behind it.
abbrev pub ReplyTextsTell : Type 0
ReplyTextsTell = (r s : Reply) (c d : Bool) (x y : List ℕ) → IsReply r → IsReply s → reply_text r c ++ x ≡ reply_text s d ++ y → (r ≡ s) × ((c ≡ d) × (x ≡ y))

-- A reply's text is read back as that reply, whatever follows, or memory is wanted.
abbrev pub ReplyIsReadBack : Type 0
ReplyIsReadBack = (r : Reply) (close : Bool) (rest : List ℕ) (result : Result (Reply × ℕ) ReplyError) → IsReply r → IsReplyAnswer (reply_text r close ++ rest) result
    → (result ≡ Ok (r, length (reply_text r close))) ⊎ (result ≡ Err errors.OutOfMemory)
