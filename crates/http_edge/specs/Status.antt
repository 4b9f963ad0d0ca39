-- The statuses of replies (RFC 9110, section 15).
use Rattle.std.specs.Prelude.{ℕ, Bool, List, [], ◌∷◌, ◌==◌, unwrap_or}
use Rattle.std.specs.List.{list_any}
use Rattle.http.specs.StatusCode.{reason_phrase}

-- the statuses that a reply may have
abbrev pub statuses : List ℕ
statuses = 200 ∷ 400 ∷ 404 ∷ 405 ∷ 409 ∷ 413 ∷ 431 ∷ 500 ∷ 502 ∷ 503 ∷ []

unfoldable pub is_status : ℕ → Bool
is_status status = list_any (λ known. known == status) statuses

-- the phrase of a status
unfoldable pub phrase : ℕ → List ℕ
phrase status = unwrap_or (reason_phrase status) []
