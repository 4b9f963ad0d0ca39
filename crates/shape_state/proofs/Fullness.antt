-- What a commit adds, and the limits.
use Rattle.std.proofs.Common.{◌≡◌, ℕ, ◌+◌, ◌<◌, ◌≤◌, ◌^◌, Bool, true, false, true≢false, List, refl, sym, ◌∙◌, ap, ap₂, subst, arith, Option, None, Some}
use Rattle.std.specs.Prelude.{nat_lt, is_some, is_none, min, Result, Ok, Err, IfOk}
use Rattle.std.specs.Bool.{if◌then◌else◌}
use Rattle.std.specs.List.{list_any}
use Rattle.std.proofs.lemmas.Bool.Decides.{nat_tests}
use Rattle.shape_base.specs.declared.cause.Cause.{Cause}
use Rattle.shape_base.specs.declared.cause.Cause.TheVariants.{LogFull, AllLogsFull, PendingFull}
use Rattle.shape_base.specs.declared.change.Tx.{Tx}
use Rattle.shape_base.specs.declared.entry.Entry.{Entry}
use Rattle.shape_base.specs.declared.limits.Limits.{Limits}
use Rattle.shape_base.specs.declared.memory.OutOfMemory.{OutOfMemory}
use Rattle.shape_base.specs.Tables.{Own, changes_of}
use Rattle.shape_base.specs.Shape.{stops}
use Rattle.shape_json.specs.Body.{capped}
use Rattle.shape_json.specs.ShapeHistory.{Reader, or_else, first_stop, bytes_of, entries_in, log_full, all_full, pending_full, bytes_with, drop_by}
use Rattle.chunked_log.specs.Chunked.{Writes}
use Rattle.shape_state.specs.declared.adding.Addition.{Addition}
use Rattle.shape_state.specs.declared.adding.Addition.TheVariants.{Fits, Drops}
use Rattle.shape_state.specs.Additions.{IsWeighed, IsAddition}
use Rattle.shape_json.proofs.LawProofs.{stops_have_cause}

abbrev pub own_changes : Reader → Tx → List Own
own_changes r tx = changes_of r.knows.definition.table tx

none_if : (o : Option Cause) → is_some o ≡ false → o ≡ None
none_if None e = refl
none_if (Some c) e = absurd (true≢false e)

-- where nothing stops the shape there is no cause
pub no_stop : (r : Reader) (tx : Tx) → false ≡ list_any (stops r.knows) (own_changes r tx) → first_stop r tx.lsn (own_changes r tx) ≡ None
no_stop r tx e = none_if (first_stop r tx.lsn (own_changes r tx)) (stops_have_cause r tx.lsn (own_changes r tx) ∙ sym e)

-- where something does, there is one
pub some_stop : (r : Reader) (tx : Tx) (o : Option Cause) → true ≡ list_any (stops r.knows) (own_changes r tx) → o ≡ first_stop r tx.lsn (own_changes r tx) → o ≡ None → ⊥
some_stop r tx o e is none = let all : true ≡ false = e ∙ sym (stops_have_cause r tx.lsn (own_changes r tx)) ∙ ap is_some (sym is ∙ none) in true≢false all

over : (limit b sum : ℕ) (c d : Option Cause) → sum ≡ capped b → limit < sum → (if nat_lt limit b then c else d) ≡ c
over limit b sum c d is lt = let t : nat_lt limit b ≡ true = (let h : limit < b = omega (arith, is, lt) in grind (arith, nat_tests)) in ap (λ (x : Bool). if x then c else d) t

under : (limit b sum : ℕ) (c d : Option Cause) → sum ≡ capped b → limit < 2 ^ 63 → sum ≤ limit → (if nat_lt limit b then c else d) ≡ d
under limit b sum c d is small le = let t : nat_lt limit b ≡ false = (let h : b ≤ limit = omega (arith, is, small, le) in grind (arith, nat_tests)) in ap (λ (x : Bool). if x then c else d) t

pub log_over : (l : Limits) (bytes sum : ℕ) → sum ≡ capped bytes → l.log < sum → log_full l bytes ≡ Some (LogFull sum l.log)
log_over l bytes sum is lt = over l.log bytes sum (Some (LogFull (capped bytes) l.log)) None is lt ∙ ap (λ (n : ℕ). Some (LogFull n l.log)) (sym is)

pub log_fits : (l : Limits) (bytes sum : ℕ) → sum ≡ capped bytes → sum ≤ l.log → log_full l bytes ≡ None
log_fits l bytes sum is le = under l.log bytes sum (Some (LogFull (capped bytes) l.log)) None is l.log_fits le

-- what entries do to a log is what their commit does, where it does not stop the shape
pub added : (r : Reader) (l : Limits) (bytes : ℕ) (tx : Tx) (es : List Entry) (a : Addition) → first_stop r tx.lsn (own_changes r tx) ≡ None → es ≡ entries_in r.knows tx → IsWeighed l bytes es a → IsAddition r l bytes tx a
added r l bytes tx es (Fits written) none is weighed = (
  ap₂ (λ (o : Option Cause) (n : ℕ). or_else o (log_full l (bytes + n))) none (ap bytes_of (sym is)) ∙ weighed.0,
  subst (λ (fs : List Entry). Writes written fs) is weighed.1,
)
added r l bytes tx es (Drops cause) none is weighed = ap₂ (λ (o : Option Cause) (n : ℕ). or_else o (log_full l (bytes + n))) none (ap bytes_of (sym is)) ∙ weighed

pub all_over : (l : Limits) (bytes sum : ℕ) → sum ≡ capped bytes → l.all < sum → Some (AllLogsFull sum l.all) ≡ all_full l bytes
all_over l bytes sum is lt = sym (over l.all bytes sum (Some (AllLogsFull (capped bytes) l.all)) None is lt ∙ ap (λ (n : ℕ). Some (AllLogsFull n l.all)) (sym is))

pub all_fits : (l : Limits) (bytes sum : ℕ) → sum ≡ capped bytes → sum ≤ l.all → None ≡ all_full l bytes
all_fits l bytes sum is le = sym (under l.all bytes sum (Some (AllLogsFull (capped bytes) l.all)) None is l.all_fit le)

pub pending_over : (l : Limits) (bytes sum : ℕ) → sum ≡ capped bytes → l.pending < sum → Some (PendingFull sum l.pending) ≡ pending_full l bytes
pending_over l bytes sum is lt = sym (over l.pending bytes sum (Some (PendingFull (capped bytes) l.pending)) None is lt ∙ ap (λ (n : ℕ). Some (PendingFull n l.pending)) (sym is))

pub pending_fits : (l : Limits) (bytes sum : ℕ) → sum ≡ capped bytes → sum ≤ l.pending → None ≡ pending_full l bytes
pending_fits l bytes sum is le = sym (under l.pending bytes sum (Some (PendingFull (capped bytes) l.pending)) None is l.pending_fits le)
