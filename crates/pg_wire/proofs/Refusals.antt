-- What an ErrorResponse says.
use Rattle.std.proofs.Common.{◌≡◌, ℕ, Bool, true, false, cond, List, Option, Some, Ok, refl, sym, ap, ◌∙◌}
use Rattle.std.specs.Str.{IsUtf8, is_utf8}
use Rattle.std.proofs.lemmas.Str.{IsUtf8-from_is_utf8, is_utf8-from_IsUtf8}
use Rattle.pg_wire.specs.declared.frame.FrameError.{FrameError}
use Rattle.pg_wire.specs.declared.frame.FrameError.TheVariants.{BadFrame, ServerError}
use Rattle.pg_wire.specs.ErrorFields.{sqlstate_of}
use Rattle.pg_wire.specs.declared.frame.Frame.{Frame}
use Rattle.pg_wire.specs.declared.content.Content.{Content}
use Rattle.pg_wire.specs.declared.content.Content.TheVariants as contents
use Rattle.pg_wire.specs.FrameList.{error_with, error_response, or_bad}
use Rattle.pg_wire.specs.Contents.{shown, IsShown}

not_utf8 : (b : Bool) (code : List ℕ) → is_utf8 code ≡ b → (IsUtf8 code → ⊥) → is_utf8 code ≡ false
not_utf8 true code e denied = absurd (denied (IsUtf8-from_is_utf8 code e))
not_utf8 false code e denied = e

answer_by : ℕ → List ℕ → Bool → FrameError
answer_by place code b = cond b (ServerError place code) (BadFrame place)

pub told : (place : ℕ) (payload code text : List ℕ) → Some code ≡ sqlstate_of payload → text ≡ code → IsUtf8 code → ServerError place text ≡ error_response place payload
unfolding answer_by
told place payload code text e same utf8 = ap (ServerError place) same ∙ ap (answer_by place code) (sym (is_utf8-from_IsUtf8 code utf8)) ∙ ap (error_with place) e

pub untold : (place : ℕ) (payload code : List ℕ) → Some code ≡ sqlstate_of payload → (IsUtf8 code → ⊥) → BadFrame place ≡ error_response place payload
unfolding answer_by
untold place payload code e denied = ap (answer_by place code) (sym (not_utf8 (is_utf8 code) code refl denied)) ∙ ap (error_with place) e

-- what a payload gives, or that it is wrong
pub given_or_bad : (payload : List ℕ) (place : ℕ) (c : Content) (frame : Option Frame) → IsShown payload (Some c) frame → or_bad place frame ≡ Ok (shown payload c)
given_or_bad payload place contents.Passed frame e = absurd e
given_or_bad payload place (contents.Wal start end) frame e = ap (or_bad place) e
given_or_bad payload place (contents.Keepalive end wanted) frame e = ap (or_bad place) e
given_or_bad payload place contents.Done frame e = ap (or_bad place) e
