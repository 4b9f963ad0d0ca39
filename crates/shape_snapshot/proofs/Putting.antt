-- An entry is put: its number, and the room that is left.
use Rattle.std.proofs.Common.{◌≡◌, ℕ, ◌+◌, ◌-◌, ◌<◌, ◌≤◌, ◌^◌, Bool, false, List, [], ◌∷◌, ◌++◌, length, refl, sym, ◌∙◌, ap, arith, length-append, None, Some}
use Rattle.std.specs.Prelude.{min, nat_lt}
use Rattle.std.specs.Bool.{if◌then◌else◌}
use Rattle.std.proofs.lemmas.Bool.Decides.{nat_tests}
use Rattle.shape_base.specs.declared.offset.Offset.{Offset}
use Rattle.shape_base.specs.declared.offset.Offset.TheVariants.{At}
use Rattle.shape_base.specs.declared.entry.Entry.{Entry}
use Rattle.shape_base.specs.declared.limits.Limits.{Limits}
use Rattle.shape_log.specs.Texts.{end_of, last_from}
use Rattle.shape_json.specs.Body.{entry_text, size_of, capped}
use Rattle.shape_json.specs.ShapeHistory.{bytes_of}
use Rattle.chunked_log.specs.Chunked.{Chunked, Texts, Writes}
use Rattle.shape_snapshot.specs.declared.faults.SnapError.TheVariants as errors
use Rattle.shape_snapshot.specs.Refusals.{refusal_by}
use Rattle.shape_snapshot.proofs.Growing.{bytes_more}

-- ---- numbers

last_more : (o : Offset) (os : List Offset) (p : Offset) → last_from o (os ++ p ∷ []) ≡ p
last_more o [] p = refl
last_more o (x ∷ os) p = last_more x os p

-- the entry's offset is the last one, and is its number
pub numbered_more : (old new : Chunked) (written : Texts) (e : Entry) → e.offset ≡ At 0 (length old.texts + 1) → Writes written (e ∷ []) → new.offsets ≡ old.offsets ++ written.offsets → new.texts ≡ old.texts ++ written.texts
    → end_of new.offsets ≡ At 0 (length new.texts)
numbered_more old new written e at writes offsets texts =
    let count : length new.texts ≡ length old.texts + 1 = ap length texts ∙ ap (λ (ts : List (List ℕ)). length (old.texts ++ ts)) writes.texts ∙ length-append old.texts (entry_text e ∷ []) in
    ap end_of offsets ∙ ap (λ (os : List Offset). end_of (old.offsets ++ os)) writes.offsets ∙ last_more (At 0 0) old.offsets e.offset ∙ at ∙ ap (At 0) (sym count)

-- ---- room

-- the key is new, and the sum keeps to the limit
pub fits : (l : Limits) (came : Bool) (key : List ℕ) (entries : List Entry) (e : Entry) (b size sum : ℕ) → came ≡ false → b ≡ bytes_of entries → size ≡ size_of e → sum ≡ min (b + size) (2 ^ 64 - 1) → sum ≤ l.log
    → refusal_by l came key (bytes_of (entries ++ e ∷ [])) ≡ None
fits l came key entries e b size sum new is small all within =
    let less : l.log < 2 ^ 63 = l.log_fits in
    let bytes = bytes_more entries e in
    let full : nat_lt l.log (bytes_of (entries ++ e ∷ [])) ≡ false = grind (arith, nat_tests) in
    ap (λ (c : Bool). refusal_by l c key (bytes_of (entries ++ e ∷ []))) new ∙ ap (λ (c : Bool). if c then Some (errors.LogFull (capped (bytes_of (entries ++ e ∷ []))) l.log) else None) full
