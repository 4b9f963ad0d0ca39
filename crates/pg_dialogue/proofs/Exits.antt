-- What is answered where memory ran out.
use Rattle.std.proofs.Common.{◌≡◌, inl, Bool, true, false, List, [], ◌++◌, length, ℕ, refl, sym, ap, ◌∙◌, subst, arith}
use Rattle.std.proofs.lemmas.List.{append-nil, length-append}
use Rattle.shape_base.specs.Outside.{AddsFront}
use Rattle.pg_dialogue.specs.declared.wire_error.WireError.{WireError}
use Rattle.pg_dialogue.specs.declared.wire_error.WireError.TheVariants.{OutOfMemory}
use Rattle.pg_dialogue.specs.Dialogue.{Heard, Ends}
use Rattle.pg_dialogue.specs.Links.{is_outside, WritesBy}

adds_nothing : (old piece : List ℕ) → AddsFront old old piece
adds_nothing old piece = record { longer = omega arith; more = piece; whole = refl }

-- nothing was written
pub memory_writes : (e : WireError) (old piece : List ℕ) → e ≡ OutOfMemory → WritesBy (is_outside e) old old piece
memory_writes e old piece h = subst (λ (x : WireError). WritesBy (is_outside x) old old piece) (sym h) (adds_nothing old piece)

pub memory_ends : (e : WireError) (h : Heard) → e ≡ OutOfMemory → Ends e h
memory_ends e h m = inl m

exactly_by : (b : Bool) (old new piece : List ℕ) → new ≡ old ++ piece → WritesBy b old new piece
exactly_by true old new piece e = record { longer = omega (arith, ap length e, length-append old piece); more = []; whole = append-nil new ∙ e }
exactly_by false old new piece e = e

-- all was written before
pub written_before : (error : WireError) (old new piece : List ℕ) → new ≡ old ++ piece → WritesBy (is_outside error) old new piece
written_before error old new piece e = exactly_by (is_outside error) old new piece e
