-- A commit comes to a shape that stands for its events.
use Rattle.std.proofs.Common.{◌≡◌, ℕ, Bool, List, [], ◌∷◌, ◌++◌, Option, Some, None, refl, sym, ap, ◌∙◌, subst, append-nil}
use Rattle.std.specs.Prelude.{is_some}
use mathlib.Core.List.{IsPrefix}
use Rattle.lock_events.specs.Written.{Written}
use Rattle.shape_base.specs.declared.cause.Cause.{Cause}
use Rattle.shape_base.specs.declared.cause.Cause.TheVariants.{NoMemory}
use Rattle.shape_base.specs.declared.change.Tx.{Tx}
use Rattle.shape_base.specs.declared.limits.Limits.{Limits}
use Rattle.shape_base.specs.Snapshot.{Snapshot}
use Rattle.shape_base.specs.Tables.{Values}
use Rattle.shape_base.specs.Shape.{Knows}
use Rattle.shape_json.specs.ShapeHistory.{Reader, ShapeEvent, Took, Dropped, snapshot_in, or_else, drop_at, drop_of}
use Rattle.shape_json.proofs.Histories.{drop_next}
use Rattle.shape_state.specs.Reading.{reader_of}
use Rattle.shape_state.specs.Standing.{Stands}
use Rattle.shape_state.specs.declared.state.State.{State}
use Rattle.shape_lock.specs.declared.start.ShapeStart.{ShapeStart}
use Rattle.shape_lock.specs.declared.marks.Marks.{Marks}
use Rattle.shape_lock.specs.declared.fate.Fate.{Fate}
use Rattle.shape_lock.specs.declared.fate.Fate.TheVariants.{Appended, Buffered, Stopped, Found, Starved}
use Rattle.shape_lock.specs.Starts.{drop_in}
use Rattle.shape_lock.specs.Locked.{IsLocked, start_of, marks_of, lsns}
use Rattle.shape_lock.specs.Passes.{made_by, taken_by, gone_by, IsFate, IsFateOf, IsFedBy}
use Rattle.shape_lock.proofs.Lengths.{prefix_trans, prefix_both, lsns_append, lsns_longer}
use Rattle.shape_lock.proofs.Holding.{snapshot_took, snapshot_dropped}

came_by : (es : List ShapeEvent) (fate : Fate) (tx : Tx) (others : ℕ) → lsns (es ++ made_by fate tx others) ≡ lsns es ++ taken_by fate tx.lsn
came_by es Appended tx others = lsns_append es (Took tx others ∷ [])
came_by es Buffered tx others = lsns_append es (Took tx others ∷ [])
came_by es (Stopped cause) tx others = lsns_append es (Took tx others ∷ [])
came_by es (Found cause) tx others = lsns_append es []
came_by es Starved tx others = lsns_append es (Dropped NoMemory ∷ [])

shot_by : (es : List ShapeEvent) (fate : Fate) (tx : Tx) (others : ℕ) → snapshot_in (es ++ made_by fate tx others) ≡ snapshot_in es
shot_by es Appended tx others = snapshot_took es tx others
shot_by es Buffered tx others = snapshot_took es tx others
shot_by es (Stopped cause) tx others = snapshot_took es tx others
shot_by es (Found cause) tx others = ap snapshot_in (append-nil es)
shot_by es Starved tx others = snapshot_dropped es NoMemory

module _ (r : Reader) (l : Limits) (es : List ShapeEvent) where
  drop_then : (e : ShapeEvent) (o : Option Cause) → drop_of r l es ≡ None → drop_at r l es e ≡ o → drop_of r l (es ++ e ∷ []) ≡ o
  drop_then e o none at = drop_next r l es e ∙ (ap (λ (x : Option Cause). or_else x (drop_at r l es e)) none ∙ at)

  gone_then : (tx : Tx) (others : ℕ) (fate : Fate) → IsFate r l es tx others fate → drop_of r l (es ++ made_by fate tx others) ≡ gone_by fate
  gone_then tx others Appended h = drop_then (Took tx others) None h.0 h.1
  gone_then tx others Buffered h = drop_then (Took tx others) None h.0 h.1
  gone_then tx others (Stopped cause) h = drop_then (Took tx others) (Some cause) h.0 h.1
  gone_then tx others (Found cause) h = ap (drop_of r l) (append-nil es) ∙ h
  gone_then tx others Starved h = drop_then (Dropped NoMemory) (Some NoMemory) h refl

module _ {A : Type 0} (knows : A → Knows) (unread : A → Values → ℕ → Bool) where
  -- why it is dropped afterwards
  pub gone_is : (f : Option (ShapeStart A)) (es : List ShapeEvent) (tx : Tx) (others : ℕ) (fate : Fate) → IsFateOf knows unread f es tx others fate → drop_in knows unread f (es ++ made_by fate tx others) ≡ gone_by fate
  gone_is None es tx others fate h = absurd h
  gone_is (Some x) es tx others fate h = gone_then (reader_of (knows x.test.value) (unread x.test.value)) x.limits es tx others fate h

  module _ (test : A) (state : State) (marks : Marks) (f : Option (ShapeStart A)) (es : List ShapeEvent) (h : IsLocked knows unread test state marks f es) where
    -- the list of the one who feeds it
    pub pen_is : (pen : Written ℕ) → IsFedBy f pen → marks.fed.of ≡ pen.of
    pen_is pen fed = let e : pen.of ≡ marks.feed.value.of = subst (λ (f : Option (ShapeStart A)). IsFedBy f pen) h.about fed in h.same_feed ∙ sym e

    -- has just what came
    pub fed_same : (pen : List ℕ) (k : List ShapeEvent) → IsPrefix marks.fed.list pen → IsPrefix pen (lsns k) → IsPrefix k es → lsns es ≡ pen
    fed_same pen k front known seen = prefix_both (lsns es) pen (subst (λ (l : List ℕ). IsPrefix l pen) h.fed_is front) (prefix_trans pen (lsns k) (lsns es) known (lsns_longer k es seen))

    pub renewed : (w : Written ℕ) → w.of ≡ marks.fed.of → w.list ≡ lsns es → IsLocked knows unread test state (record marks { fed = w }) f es
    renewed w of list = record { about = h.about; stands = h.stands; same_feed = of ∙ h.same_feed; same_seal = h.same_seal; fed_is = list; sealed_is = h.sealed_is }

    -- afterwards
    pub fed_on : (test' : A) (state' : State) (tx : Tx) (others : ℕ) (fate : Fate) (w : Written ℕ) → test' ≡ test → state'.limits ≡ state.limits → Stands (reader_of (knows test') (unread test')) state' (es ++ made_by fate tx others) → w.of ≡ marks.fed.of
        → w.list ≡ lsns es ++ taken_by fate tx.lsn → IsLocked knows unread test' state' (record marks { fed = w }) f (es ++ made_by fate tx others)
    fed_on test' state' tx others fate w same limits stands of list = record {
      about = h.about ∙ (λ i. Some (start_of (sym same i) (sym limits i) marks));
      stands = stands;
      same_feed = of ∙ h.same_feed;
      same_seal = h.same_seal;
      fed_is = list ∙ sym (came_by es fate tx others);
      sealed_is = h.sealed_is ∙ ap (λ (o : Option Snapshot). marks_of (is_some o)) (sym (shot_by es fate tx others));
    }

  pub told_is : (es : List ShapeEvent) (tx : Tx) (others : ℕ) (fate : Fate) (old new : List ℕ) → lsns es ≡ old → new ≡ old ++ taken_by fate tx.lsn → new ≡ lsns (es ++ made_by fate tx others)
  told_is es tx others fate old new same is = is ∙ (ap (λ (l : List ℕ). l ++ taken_by fate tx.lsn) (sym same) ∙ sym (came_by es fate tx others))
