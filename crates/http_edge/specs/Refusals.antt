-- Refusals as replies: their status, and their body, a JSON object (RFC 8259) whose members stand in byte order of their names.
use Rattle.std.specs.Prelude.{ℕ, List, None, codes}
use Rattle.serde_json.specs.Data.{string, number, unsigned, object, Members, no_members, member}
use Rattle.serde_json.specs.Written.{compact_text}
use Rattle.shape_base.specs.declared.reply.Reply.{Reply}
use Rattle.http_edge.specs.declared.error_code.ErrorCode.{ErrorCode}
use Rattle.http_edge.specs.declared.error_code.ErrorCode.TheVariants as codes_of
use Rattle.http_edge.specs.declared.error_code.Detail.{Detail}
use Rattle.http_edge.specs.declared.error_code.Detail.TheVariants as details

-- the status (RFC 9110, section 15)
abbrev pub status_of : ErrorCode → ℕ
status_of codes_of.HeadTooLong = 431
status_of codes_of.BadHead = 400
status_of codes_of.BodyRefused = 413
status_of codes_of.MethodRefused = 405
status_of codes_of.PathUnknown = 404
status_of codes_of.BadEscape = 400
status_of codes_of.RepeatedParameter = 400
status_of codes_of.MissingTable = 400
status_of codes_of.TableNotServed = 400
status_of codes_of.WhereTooLong = 400
status_of (codes_of.WhereSyntax place) = 400
status_of codes_of.BadOffset = 400
status_of codes_of.HandleNeeded = 400
status_of codes_of.LiveAtStart = 400
status_of codes_of.OffsetAhead = 400
status_of codes_of.UnknownColumn = 400
status_of codes_of.KeyNotSelected = 400
status_of (codes_of.WhereType atom) = 400
status_of (codes_of.SnapshotRefused detail) = 502
status_of codes_of.SnapshotLink = 503
status_of codes_of.SnapshotLost = 503
status_of codes_of.DefinitionChanged = 503
status_of (codes_of.SnapshotStale last xmax) = 503
status_of (codes_of.TooManyShapes limit live) = 503
status_of (codes_of.ShapeTooLarge bytes limit) = 503
status_of codes_of.OutOfMemory = 500

-- the word that stands for it
abbrev pub word_of : ErrorCode → List ℕ
word_of codes_of.HeadTooLong = codes "head_too_long"
word_of codes_of.BadHead = codes "bad_head"
word_of codes_of.BodyRefused = codes "body_refused"
word_of codes_of.MethodRefused = codes "method_refused"
word_of codes_of.PathUnknown = codes "path_unknown"
word_of codes_of.BadEscape = codes "bad_escape"
word_of codes_of.RepeatedParameter = codes "repeated_parameter"
word_of codes_of.MissingTable = codes "missing_table"
word_of codes_of.TableNotServed = codes "table_not_served"
word_of codes_of.WhereTooLong = codes "where_too_long"
word_of (codes_of.WhereSyntax place) = codes "where_syntax"
word_of codes_of.BadOffset = codes "bad_offset"
word_of codes_of.HandleNeeded = codes "handle_needed"
word_of codes_of.LiveAtStart = codes "live_at_start"
word_of codes_of.OffsetAhead = codes "offset_ahead"
word_of codes_of.UnknownColumn = codes "unknown_column"
word_of codes_of.KeyNotSelected = codes "key_not_selected"
word_of (codes_of.WhereType atom) = codes "where_type"
word_of (codes_of.SnapshotRefused detail) = codes "snapshot_refused"
word_of codes_of.SnapshotLink = codes "snapshot_link"
word_of codes_of.SnapshotLost = codes "snapshot_lost"
word_of codes_of.DefinitionChanged = codes "definition_changed"
word_of (codes_of.SnapshotStale last xmax) = codes "snapshot_stale"
word_of (codes_of.TooManyShapes limit live) = codes "too_many_shapes"
word_of (codes_of.ShapeTooLarge bytes limit) = codes "shape_too_large"
word_of codes_of.OutOfMemory = codes "out_of_memory"

-- the word for what was wrong with a snapshot
abbrev pub detail_word : Detail → List ℕ
detail_word (details.ErrorResponse sqlstate) = codes "error_response"
detail_word details.BadReply = codes "bad_reply"
detail_word details.AuthWanted = codes "auth_wanted"
detail_word details.Ended = codes "ended"
detail_word details.NotUtf8 = codes "not_utf8"
detail_word details.TooLong = codes "too_long"
detail_word details.BadSnapshot = codes "bad_snapshot"
detail_word details.WrongWidth = codes "wrong_width"
detail_word details.BadValue = codes "bad_value"
detail_word details.NullKey = codes "null_key"
detail_word details.DuplicateKey = codes "duplicate_key"
detail_word details.KeyMissing = codes "key_missing"

-- "error":"word", and then further members
abbrev pub error_member : ErrorCode → Members → Members
error_member code others = member (codes "error") (string (word_of code)) others

abbrev pub number_member : List ℕ → ℕ → Members → Members
number_member name n others = member name (number (unsigned n)) others

-- the SQLSTATE, where the database answered with an error
abbrev pub sqlstate_member : Detail → Members
sqlstate_member (details.ErrorResponse sqlstate) = member (codes "sqlstate") (string sqlstate) no_members
sqlstate_member other = no_members

-- The members of the body, in byte order of their names.
abbrev pub members_of : ErrorCode → Members
members_of (codes_of.WhereSyntax place) = error_member (codes_of.WhereSyntax place) (number_member (codes "place") place no_members)
members_of (codes_of.WhereType atom) = member (codes "atom") (number (unsigned atom)) (error_member (codes_of.WhereType atom) no_members)
members_of (codes_of.SnapshotRefused detail) = member (codes "detail") (string (detail_word detail)) (error_member (codes_of.SnapshotRefused detail) (sqlstate_member detail))
members_of (codes_of.SnapshotStale last xmax) = error_member (codes_of.SnapshotStale last xmax) (number_member (codes "last") last (number_member (codes "xmax") xmax no_members))
members_of (codes_of.TooManyShapes limit live) = error_member (codes_of.TooManyShapes limit live) (number_member (codes "limit") limit (number_member (codes "live") live no_members))
members_of (codes_of.ShapeTooLarge bytes limit) = number_member (codes "bytes") bytes (error_member (codes_of.ShapeTooLarge bytes limit) (number_member (codes "limit") limit no_members))
members_of code = error_member code no_members

-- {"error":"word",..}
abbrev pub error_body : ErrorCode → List ℕ
error_body code = compact_text (object (members_of code))

-- The reply that refuses a request; no cache may keep it.
abbrev pub refusal : ErrorCode → Reply
refusal code = record {
  status = status_of code;
  handle = None;
  offset = None;
  schema = None;
  cursor = None;
  max_age = 0;
  body = error_body code;
}
