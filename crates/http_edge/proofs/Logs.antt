-- The logs of a world's numbers: they rise, they are plain, each is a front of the later ones, and they fold to rows.
use Rattle.std.proofs.Common.{◌≡◌, ℕ, ◌≤◌, ◌||◌, arith, Bool, true, false, List, [], take, drop, refl, sym, ◌∙◌, ap, Option, None, Some, IsSome}
use Rattle.std.proofs.lemmas.List.{take-append-drop}
use Rattle.shape_base.specs.declared.offset.Offset.TheVariants.{At}
use Rattle.shape_base.specs.declared.history.History.{History}
use Rattle.shape_base.specs.declared.registry_event.RegistryEvent.{RegistryEvent}
use Rattle.shape_base.specs.Tables.{IsGoodHistory}
use Rattle.shape_base.specs.Offsets.{rises_after}
use Rattle.shape_base.specs.Log.{fold, IsFront}
use Rattle.shape_base.specs.RegistryHistory.{had_ready, was_registered_under}
use Rattle.shape_base.proofs.Lemmas.{whole_rises, log_front, log_grows, point_rises, offsets_rise, log_fold, had_ready-append, was_registered_under-append}
use Rattle.shape_json.specs.Plain.{ArePlain}
use Rattle.shape_json.specs.Reading.{HaveOffsets}
use Rattle.shape_json.proofs.Lemmas.{log_is_plain}
use Rattle.http_edge.specs.World.{Kept, World, log_kept, log_at, IsGoodKept, IsGoodWorld}
use Rattle.http_edge.specs.Reach.{point_kept, point_at, rows_kept, rows_at, whole_kept, whole_log}

-- ---- of a shape, where there is one

rises_kept : (h : History) (o : Option Kept) → IsGoodHistory h → rises_after (At 0 0) (whole_kept h o) ≡ true
rises_kept h None good = refl
rises_kept h (Some s) good = whole_rises h s.knows s.snapshot s.step good.rise

front_kept : (h : History) (o : Option Kept) (n : ℕ) → IsFront (log_kept h o n) (whole_kept h o)
front_kept h None n = record { more = []; is = refl }
front_kept h (Some s) n = log_front h s.knows s.snapshot s.step n

grows_kept : (h : History) (o : Option Kept) (m n : ℕ) → m ≤ n → IsFront (log_kept h o m) (log_kept h o n)
grows_kept h None m n le = record { more = []; is = refl }
grows_kept h (Some s) m n le = log_grows h s.knows s.snapshot s.step m n le

point_rises_kept : (h : History) (o : Option Kept) (m n : ℕ) → m ≤ n → point_kept h o m ≤ point_kept h o n
point_rises_kept h None m n le = omega arith
point_rises_kept h (Some s) m n le = point_rises h s.knows s.step m n le

log_rises_kept : (h : History) (o : Option Kept) (n : ℕ) → IsGoodHistory h → rises_after (At 0 0) (log_kept h o n) ≡ true
log_rises_kept h None n good = refl
log_rises_kept h (Some s) n good = offsets_rise h s.knows s.snapshot s.step n good

plain_kept : (h : History) (o : Option Kept) (n : ℕ) → IsGoodKept h o → ArePlain (log_kept h o n)
plain_kept h None n good = refl
plain_kept h (Some s) n good = log_is_plain h s.knows s.snapshot s.step n good.test

offsets_kept : (h : History) (o : Option Kept) (n : ℕ) → IsGoodKept h o → HaveOffsets (log_kept h o n)
offsets_kept h None n good = tt
offsets_kept h (Some s) n good = good.offsets n

folds_kept : (h : History) (o : Option Kept) (n : ℕ) → IsGoodHistory h → IsGoodKept h o → (fold (log_kept h o n) ≡ rows_kept h o (point_kept h o n)) × IsSome (rows_kept h o (point_kept h o n))
folds_kept h None n good shape = absurd shape
folds_kept h (Some s) n good shape = log_fold h s.knows s.snapshot s.step n good shape.served shape.test shape.honest shape.truths

-- ---- of a number

pub whole_rises_at : (w : World) (number : ℕ) → IsGoodWorld w → rises_after (At 0 0) (whole_log w number) ≡ true
whole_rises_at w number good = rises_kept w.history (w.shapes number) good.history

pub front_at : (w : World) (number n : ℕ) → IsFront (log_at w number n) (whole_log w number)
front_at w number n = front_kept w.history (w.shapes number) n

pub grows_at : (w : World) (number m n : ℕ) → m ≤ n → IsFront (log_at w number m) (log_at w number n)
grows_at w number m n le = grows_kept w.history (w.shapes number) m n le

pub point_rises_at : (w : World) (number m n : ℕ) → m ≤ n → point_at w number m ≤ point_at w number n
point_rises_at w number m n le = point_rises_kept w.history (w.shapes number) m n le

pub rises_at : (w : World) (number n : ℕ) → IsGoodWorld w → rises_after (At 0 0) (log_at w number n) ≡ true
rises_at w number n good = log_rises_kept w.history (w.shapes number) n good.history

pub plain_at : (w : World) (number n : ℕ) → IsGoodWorld w → had_ready w.events number ≡ true → ArePlain (log_at w number n)
plain_at w number n good ready = plain_kept w.history (w.shapes number) n (good.shapes number ready)

pub offsets_at : (w : World) (number n : ℕ) → IsGoodWorld w → had_ready w.events number ≡ true → HaveOffsets (log_at w number n)
offsets_at w number n good ready = offsets_kept w.history (w.shapes number) n (good.shapes number ready)

pub folds_at : (w : World) (number n : ℕ) → IsGoodWorld w → had_ready w.events number ≡ true → (fold (log_at w number n) ≡ rows_at w number (point_at w number n)) × IsSome (rows_at w number (point_at w number n))
folds_at w number n good ready = folds_kept w.history (w.shapes number) n good.history (good.shapes number ready)

-- ---- what was seen of the registry stays

or_more : (a b c : Bool) → c ≡ (a || b) → a ≡ true → c ≡ true
or_more true b c is h = is
or_more false b c is h = cc

pub ready_later : (w : World) (seen number : ℕ) → had_ready (take seen w.events) number ≡ true → had_ready w.events number ≡ true
ready_later w seen number h =
    or_more (had_ready (take seen w.events) number) (had_ready (drop seen w.events) number) (had_ready w.events number)
    (ap (λ (es : List RegistryEvent). had_ready es number) (sym (take-append-drop seen w.events)) ∙ had_ready-append (take seen w.events) (drop seen w.events) number) h

pub under_later : (w : World) (identity : List ℕ) (seen number : ℕ) → was_registered_under (take seen w.events) identity number ≡ true → was_registered_under w.events identity number ≡ true
under_later w identity seen number h =
    or_more (was_registered_under (take seen w.events) identity number) (was_registered_under (drop seen w.events) identity number) (was_registered_under w.events identity number)
    (ap (λ (es : List RegistryEvent). was_registered_under es identity number) (sym (take-append-drop seen w.events)) ∙ was_registered_under-append (take seen w.events) (drop seen w.events) identity number) h
