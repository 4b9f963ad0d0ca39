-- What a state that stands for its events stands for afterwards.
use Rattle.std.proofs.Common.{◌≡◌, ℕ, ◌<◌, Bool, true, false, List, [], ◌∷◌, ◌++◌, Option, Some, None, refl, sym, ap, ◌∙◌, subst, append-nil}
use Rattle.std.specs.Prelude.{is_some, unwrap_or, Result, Ok, Err, OnOk}
use Rattle.std.specs.declared.snapshot.Snapshot.{Snapshot as Snap}
use Rattle.lock_events.specs.Written.{Written}
use Rattle.std.specs.List.{last_or, AllByRecursion}
use mathlib.Core.List.{IsPrefix}
use Rattle.front_lock.specs.Passes.{mine, IsSameLock, IsSameShare}
use Rattle.shape_base.specs.declared.cause.Cause.{Cause}
use Rattle.shape_base.specs.declared.change.Tx.{Tx}
use Rattle.shape_base.specs.declared.limits.Limits.{Limits}
use Rattle.shape_base.specs.declared.offset.Offset.{Offset}
use Rattle.shape_base.specs.Snapshot.{Snapshot}
use Rattle.shape_base.specs.Tables.{Values}
use Rattle.shape_base.specs.Shape.{Knows}
use Rattle.shape_json.specs.ShapeHistory.{Reader, ShapeEvent, Snapped, Took, Dropped, snapshot_in, or_else, drop_of, last_lsn, state_by, state_after}
use Rattle.shape_json.proofs.Histories.{drop_next}
use Rattle.shape_state.specs.Reading.{reader_of}
use Rattle.shape_state.specs.Standing.{Stands, with_event, after}
use Rattle.shape_state.specs.Answers.{IsPaged, stage_of}
use Rattle.shape_state.specs.declared.state.State.{State}
use Rattle.shape_state.specs.declared.paged.Paged.{Paged}
use Rattle.shape_lock.specs.declared.start.ShapeStart.{ShapeStart}
use Rattle.shape_lock.specs.declared.marks.Marks.{Marks}
use Rattle.shape_lock.specs.Stages.{cause_in}
use Rattle.shape_lock.specs.Starts.{state_in, drop_in, IsLegalIn, IsPagedIn}
use Rattle.shape_lock.specs.Locked.{IsLocked, kept, start_of, marks_of, lsns}
use Rattle.shape_lock.specs.Passes.{Sight, GoesOn, Owes}
use Rattle.shape_lock.proofs.Lengths.{prefix_trans, lsns_append}

-- ---- stages

cause_by : (r : Reader) (o : Option Cause) (s : Option Snapshot) (es : List ShapeEvent) → cause_in (stage_of (state_by r o s es)) ≡ o
cause_by r (Some c) s es = refl
cause_by r None None es = refl
cause_by r None (Some s) es = refl

-- ---- longer histories

pub snapshot_dropped : (es : List ShapeEvent) (cause : Cause) → snapshot_in (es ++ Dropped cause ∷ []) ≡ snapshot_in es
snapshot_dropped [] cause = refl
snapshot_dropped (Snapped x ∷ es) cause = refl
snapshot_dropped (Took y n ∷ es) cause = snapshot_dropped es cause
snapshot_dropped (Dropped c ∷ es) cause = snapshot_dropped es cause

pub came_dropped : (es : List ShapeEvent) (cause : Cause) → lsns (es ++ Dropped cause ∷ []) ≡ lsns es
came_dropped es cause = lsns_append es (Dropped cause ∷ []) ∙ append-nil (lsns es)

pub came_snapped : (es : List ShapeEvent) (s : Snapshot) → lsns (es ++ Snapped s ∷ []) ≡ lsns es
came_snapped es s = lsns_append es (Snapped s ∷ []) ∙ append-nil (lsns es)

pub came_took : (es : List ShapeEvent) (tx : Tx) (others : ℕ) → lsns (es ++ Took tx others ∷ []) ≡ lsns es ++ tx.lsn ∷ []
came_took es tx others = lsns_append es (Took tx others ∷ [])

pub snapshot_took : (es : List ShapeEvent) (tx : Tx) (others : ℕ) → snapshot_in (es ++ Took tx others ∷ []) ≡ snapshot_in es
snapshot_took [] tx others = refl
snapshot_took (Snapped x ∷ es) tx others = refl
snapshot_took (Took y n ∷ es) tx others = snapshot_took es tx others
snapshot_took (Dropped c ∷ es) tx others = snapshot_took es tx others

pub snapshot_came : (es : List ShapeEvent) (s : Snapshot) → is_some (snapshot_in (es ++ Snapped s ∷ [])) ≡ true
snapshot_came [] s = refl
snapshot_came (Snapped x ∷ es) s = refl
snapshot_came (Took y n ∷ es) s = snapshot_came es s
snapshot_came (Dropped c ∷ es) s = snapshot_came es s

pub after_is : (r : Reader) (l : Limits) (es : List ShapeEvent) (e : ShapeEvent) → drop_of r l es ≡ None → after r l es e ≡ es ++ e ∷ []
after_is r l es e none = ap (λ (o : Option Cause). with_event o es e) none

pub on_one : {X E : Type 0} (r : Result X E) (P Q : Type 0) → (P → Q) → OnOk r P → OnOk r Q
on_one (Ok x) P Q f p = f p
on_one (Err e) P Q f p = tt

pub on_both : {X E : Type 0} (r : Result X E) (P Q S : Type 0) → (P → Q → S) → OnOk r P → OnOk r Q → OnOk r S
on_both (Ok x) P Q S f p q = f p q
on_both (Err e) P Q S f p q = tt

-- ---- the last commit

below_last : (o : Option ℕ) (xs : List ℕ) (n : ℕ) → unwrap_or o 0 < n → AllByRecursion (λ k. k < n) xs → unwrap_or (last_or o xs) 0 < n
below_last o [] n h all = h
below_last o (x ∷ xs) n h all = below_last (Some x) xs n all.0 all.1

pub last_below : (es : List ShapeEvent) (n : ℕ) → 0 < n → AllByRecursion (λ k. k < n) (lsns es) → last_lsn es < n
last_below es n h all = below_last None (lsns es) n h all

-- ---- marks

pub no_mark : (b : Bool) → marks_of b ≡ [] → b ≡ false
no_mark true e = absurd (cc)
no_mark false e = refl

is_none : {B : Type 0} (o : Option B) → is_some o ≡ false → o ≡ None
is_none None e = refl
is_none (Some x) e = absurd (cc)

pub none_before : (es : List ShapeEvent) (front : List Bool) → front ≡ marks_of (is_some (snapshot_in es)) → IsPrefix front [] → snapshot_in es ≡ None
none_before es [] e p = is_none (snapshot_in es) (no_mark (is_some (snapshot_in es)) (sym e))
none_before es (x ∷ xs) e p = absurd (let q = p.1 in cc)

module _ {A : Type 0} (knows : A → Knows) (unread : A → Values → ℕ → Bool) where
  pub drop_by_stage : (f : Option (ShapeStart A)) (es : List ShapeEvent) → cause_in (stage_of (state_in knows unread f es)) ≡ drop_in knows unread f es
  drop_by_stage None es = refl
  drop_by_stage (Some x) es = cause_by (reader_of (knows x.test.value) (unread x.test.value)) (drop_of (reader_of (knows x.test.value) (unread x.test.value)) x.limits es) (snapshot_in es) es

  pub drop_there : (f f' : Option (ShapeStart A)) (es es' : List ShapeEvent) → f' ≡ f → es' ≡ es → drop_in knows unread f' es' ≡ drop_in knows unread f es
  drop_there f f' es es' a b = λ i. drop_in knows unread (a i) (b i)

  pub state_there : (f f' : Option (ShapeStart A)) (es es' : List ShapeEvent) → f' ≡ f → es' ≡ es → state_in knows unread f' es' ≡ state_in knows unread f es
  state_there f f' es es' a b = λ i. state_in knows unread (a i) (b i)

  module _ (test : A) (state : State) (marks : Marks) (f : Option (ShapeStart A)) (es : List ShapeEvent) (h : IsLocked knows unread test state marks f es) where
    pub legal_in : IsLegalIn knows unread f es
    legal_in = subst (λ (f : Option (ShapeStart A)). IsLegalIn knows unread f es) (sym h.about) h.stands.legal

    pub state_is : state_in knows unread f es ≡ state_after (reader_of (knows test) (unread test)) state.limits es
    state_is = ap (λ (f : Option (ShapeStart A)). state_in knows unread f es) h.about

    pub drop_is : drop_in knows unread f es ≡ drop_of (reader_of (knows test) (unread test)) state.limits es
    drop_is = ap (λ (f : Option (ShapeStart A)). drop_in knows unread f es) h.about

    pub paged_in : (o : Offset) (live late : Bool) (p : Paged) → IsPaged state.limits.chunk (state_after (reader_of (knows test) (unread test)) state.limits es) o live late p → IsPagedIn knows unread f es o live late p
    paged_in o live late p is = subst (λ (f : Option (ShapeStart A)). IsPagedIn knows unread f es o live late p) (sym h.about) is

    -- the shape goes on, and the marks stay
    pub goes : (new : State) (es' : List ShapeEvent) → new.limits ≡ state.limits → Stands (reader_of (knows test) (unread test)) new es' → lsns es' ≡ lsns es → snapshot_in es' ≡ snapshot_in es → IsLocked knows unread test new marks f es'
    goes new es' same stands came shot = record {
      about = h.about ∙ ap (λ (l : Limits). Some (start_of test l marks)) (sym same);
      stands = stands;
      same_feed = h.same_feed;
      same_seal = h.same_seal;
      fed_is = h.fed_is ∙ sym came;
      sealed_is = h.sealed_is ∙ ap (λ (o : Option Snapshot). marks_of (is_some o)) (sym shot);
    }

    -- the same where the test is an equal one
    pub goes_as : (test' : A) (new : State) (es' : List ShapeEvent) → test' ≡ test → new.limits ≡ state.limits → Stands (reader_of (knows test) (unread test)) new es' → lsns es' ≡ lsns es → snapshot_in es' ≡ snapshot_in es → IsLocked knows unread test' new marks f es'
    goes_as test' new es' e same stands came shot = subst (λ (t : A). IsLocked knows unread t new marks f es') (sym e) (goes new es' same stands came shot)

    -- it has its snapshot now
    pub sealed_on : (test' : A) (state' : State) (shot : Snapshot) (w : Written Bool) → test' ≡ test → state'.limits ≡ state.limits → Stands (reader_of (knows test') (unread test')) state' (es ++ Snapped shot ∷ []) → w.of ≡ marks.seal.value.of → w.list ≡ true ∷ []
        → IsLocked knows unread test' state' (record marks { sealed = w }) f (es ++ Snapped shot ∷ [])
    sealed_on test' state' shot w same limits stands of list = record {
      about = h.about ∙ (λ i. Some (start_of (sym same i) (sym limits i) marks));
      stands = stands;
      same_feed = h.same_feed;
      same_seal = of;
      fed_is = h.fed_is ∙ sym (came_snapped es shot);
      sealed_is = list ∙ sym (ap marks_of (snapshot_came es shot));
    }

    pub owes_is : (w : Written Bool) → Owes f w → (w.of ≡ marks.seal.value.of) × (w.list ≡ [])
    owes_is w owes = subst (λ (f : Option (ShapeStart A)). Owes f w) h.about owes

    -- one that is dropped now
    pub dropped_is : (cause : Cause) → drop_in knows unread f es ≡ None → drop_in knows unread f (es ++ Dropped cause ∷ []) ≡ Some cause
    dropped_is cause = subst (λ (f : Option (ShapeStart A)). drop_in knows unread f es ≡ None → drop_in knows unread f (es ++ Dropped cause ∷ []) ≡ Some cause) (sym h.about)
        (λ none. drop_next (reader_of (knows test) (unread test)) state.limits es (Dropped cause) ∙ ap (λ (o : Option Cause). or_else o (Some cause)) none)

-- equal data
pub start_is : {A : Type 0} (test test' : A) (limits limits' : Limits) (feed : Snap (Written ℕ)) (feed' : Written ℕ) (seal : Snap (Written Bool)) (seal' : Written Bool) → test ≡ test' → limits ≡ limits' → feed.value ≡ feed' → seal.value ≡ seal'
    → ◌≡◌ {A = ShapeStart A} (record { test = kept test; limits = limits; feed = feed; seal = seal }) (record { test = kept test'; limits = limits'; feed = kept feed'; seal = kept seal' })
start_is test test' limits limits' feed feed' seal seal' a b c d = λ i. record { test = kept (a i); limits = b i; feed = record { marker = record {}; value = c i }; seal = record { marker = record {}; value = d i } }

-- ---- passes

module _ {A : Type 0} (knows : A → Knows) (unread : A → Values → ℕ → Bool) where
  -- a step between, which only looked
  pub goes_from : (k h k' : Sight A) (made : List ShapeEvent) → IsSameLock k h → IsSameShare k h → IsPrefix k.seen h.seen → mine h ≡ mine k → GoesOn knows unread h k' made → GoesOn knows unread k k' made
  goes_from k h k' made lock share seen own on = record {
    lock = (on.lock.0 ∙ lock.0, on.lock.1 ∙ lock.1);
    share = (on.share.0 ∙ share.0, on.share.1 ∙ share.1);
    seen = prefix_trans k.seen h.seen k'.seen seen on.seen;
    mine = on.mine ∙ ap (λ (l : List ShapeEvent). l ++ made) own;
    legal = on.legal;
  }

  module _ (k h k' : Sight A) (test : A) (state : State) (marks : Marks) (lock : IsSameLock k h × IsSameShare k h) (seen : IsPrefix k.seen h.seen) (own : mine h ≡ mine k) (lock' : IsSameLock h k' × IsSameShare h k') where
    -- the state was taken and given back with these events
    pub goes_on : (made : List ShapeEvent) → k'.seen ≡ h.seen ++ made → mine k' ≡ mine h ++ made → IsLocked knows unread test state marks k.fixed (h.seen ++ made) → GoesOn knows unread k k' made
    goes_on made seen' own' locked = record {
      lock = (lock'.0.0 ∙ lock.0.0, lock'.0.1 ∙ lock.0.1);
      share = (lock'.1.0 ∙ lock.1.0, lock'.1.1 ∙ lock.1.1);
      seen = prefix_trans k.seen h.seen k'.seen seen (made, sym seen');
      mine = own' ∙ ap (λ (l : List ShapeEvent). l ++ made) own;
      legal = subst (λ (f : Option (ShapeStart A)). IsLegalIn knows unread f k'.seen) (sym (lock'.0.1 ∙ lock.0.1)) (subst (λ (es : List ShapeEvent). IsLegalIn knows unread k.fixed es) (sym seen') (legal_in knows unread test state marks k.fixed (h.seen ++ made) locked));
    }

    -- as it stood
    pub goes_back : k'.seen ≡ h.seen → mine k' ≡ mine h → IsLocked knows unread test state marks k.fixed h.seen → GoesOn knows unread k k' []
    goes_back seen' own' locked = goes_on [] (seen' ∙ sym (append-nil h.seen)) (own' ∙ sym (append-nil (mine h))) (subst (λ (es : List ShapeEvent). IsLocked knows unread test state marks k.fixed es) (sym (append-nil h.seen)) locked)
