-- Texts are UTF-8.
use Rattle.std.proofs.Common.{◌≡◌, ℕ, List, true}
use Rattle.std.proofs.lemmas.Str.{is_utf8-from_IsUtf8}
use Rattle.std.specs.Str.{is_utf8, IsUtf8}
use Rattle.script_writing.specs.Parts.{is_text}

pub passes : (bytes : List ℕ) → IsUtf8 bytes → is_text bytes ≡ true
unfolding is_text
passes bytes h = is_utf8-from_IsUtf8 bytes h

pub is_read : (bytes : List ℕ) → is_text bytes ≡ true → is_utf8 bytes ≡ true
unfolding is_text
is_read bytes h = h

pub is_passed : (bytes : List ℕ) → is_utf8 bytes ≡ true → is_text bytes ≡ true
unfolding is_text
is_passed bytes h = h
