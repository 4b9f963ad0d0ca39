-- Texts of a script: UTF-8.
use Rattle.std.specs.Prelude.{ℕ, if◌then◌else◌, List, Result, Ok, Err}
use Rattle.std.specs.Str.{is_utf8}
use Rattle.byte_format.specs.Format.{Read, ◌>>=◌, string_at, chunk_at}

-- the bytes, where they are UTF-8
abbrev pub if_utf8 : List ℕ → Result (List ℕ) ℕ
if_utf8 bytes = if is_utf8 bytes then Ok bytes else Err 0

-- a text that was read, where it is UTF-8
abbrev pub utf8_part : List ℕ × List ℕ → Read (List ℕ)
utf8_part x = if is_utf8 x.0 then Ok x else Err 0

-- a String: bytes other than zero, and a zero byte
unfoldable pub text_at : List ℕ → Read (List ℕ)
text_at bytes = string_at bytes >>= utf8_part

-- a length of four bytes, and that many bytes
unfoldable pub long_text_at : List ℕ → Read (List ℕ)
long_text_at bytes = chunk_at bytes >>= utf8_part
