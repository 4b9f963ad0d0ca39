-- Texts of uuids.
use Rattle.std.proofs.Common.{◌≡◌, ℕ, ◌<◌, List, length, All, true, false, Option, Some, None, is_some, inl, refl, sym, ap, ◌∙◌}
use Rattle.std.specs.Int.{from_be_bytes, w128}
use Rattle.uuid.specs.Text.{hyphenated_text, lower, parsed, parsed_hyphenated}
use Rattle.uuid.proofs.RoundTrips.{parses_hyphenated_text}
use Rattle.pg_values.specs.declared.kind.Kind.TheVariants.{Uuid}
use Rattle.pg_values.specs.Values.{has_value, uuid_value, number_of_bytes}

pub printed : (bytes : List ℕ) → length bytes ≡ 16 → All (λ b. b < 256) bytes
    → (has_value Uuid (hyphenated_text lower bytes) ≡ true) × (uuid_value (hyphenated_text lower bytes) ≡ from_be_bytes w128 bytes)
printed bytes len small = let read = parses_hyphenated_text lower bytes (inl refl) len small in (ap is_some (sym read), ap number_of_bytes (sym read))

none_of : (o : Option (List ℕ)) → ((u : List ℕ) → o ≡ Some u → ⊥) → is_some o ≡ false
none_of None h = refl
none_of (Some u) h = absurd (h u refl)

-- a text of 36 bytes that is read in no form has no value
pub unread : (text : List ℕ) → length text ≡ 36 → ((u : List ℕ) → parsed text ≡ Some u → ⊥) → has_value Uuid text ≡ false
unread text len h = let same : parsed text ≡ parsed_hyphenated text = rw len refl in none_of (parsed_hyphenated text) (λ u e. h u (same ∙ e))
