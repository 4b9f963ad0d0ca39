-- How far a stream was taken.
use Rattle.std.specs.Prelude.{refl, ℕ, List}
use Rattle.std.specs.Coded.{Coded, code_by, coded×, coded_list, coded_ℕ}

-- the place of the first byte that was not taken, from 0, and the bytes that were fed from there on
pub record Reached : Type 0 where
  pub place : ℕ
  pub rest : List ℕ

-- it is stored as the pair of its fields
abbrev pub reached_code : Coded Reached
reached_code = code_by (ℕ × List ℕ) (coded× coded_ℕ (coded_list coded_ℕ)) (λ r. (r.place, r.rest)) (λ p. record { place = p.0; rest = p.1 }) (λ _. refl)
