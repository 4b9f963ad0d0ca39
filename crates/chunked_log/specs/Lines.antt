-- Texts in one buffer, each with its offset.
use Rattle.std.specs.Prelude.{ℕ, List, [], ◌∷◌, map, take, drop}
use Rattle.std.specs.List.{sum}
use Rattle.shape_base.specs.declared.offset.Offset.{Offset}
use Rattle.chunked_log.specs.declared.written.Line.{Line}

abbrev pub offsets_in : List Line → List Offset
offsets_in lines = map (λ (l : Line). l.offset) lines

abbrev pub sizes_in : List Line → List ℕ
sizes_in lines = map (λ (l : Line). l.size) lines

abbrev pub size_in : List Line → ℕ
size_in lines = sum (sizes_in lines)

-- the texts, one behind the other, of these sizes
abbrev pub texts_in : List Line → List ℕ → List (List ℕ)
texts_in [] bytes = []
texts_in (l ∷ ls) bytes = take l.size bytes ∷ texts_in ls (drop l.size bytes)
