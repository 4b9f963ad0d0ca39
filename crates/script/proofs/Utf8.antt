-- Bytes that are UTF-8, and others.
use Rattle.std.proofs.Common.{◌≡◌, ℕ, List, Ok, Err, refl}
use Rattle.std.proofs.lemmas.Bool.{false_from_ne_true}
use Rattle.std.proofs.lemmas.Str.{is_utf8-from_IsUtf8, IsUtf8-from_is_utf8}
use Rattle.std.specs.Str.{is_utf8, IsUtf8}
use Rattle.script.specs.Texts.{if_utf8}

pub is_text : (bytes : List ℕ) → IsUtf8 bytes → if_utf8 bytes ≡ Ok bytes
is_text bytes h = rw (is_utf8-from_IsUtf8 bytes h) refl

pub is_no_text : (bytes : List ℕ) → ¬ (IsUtf8 bytes) → if_utf8 bytes ≡ Err 0
is_no_text bytes h = rw (false_from_ne_true (is_utf8 bytes) (λ e. h (IsUtf8-from_is_utf8 bytes e))) refl
