-- A shape's history with one event more.
use Rattle.std.proofs.Common.{◌≡◌, ℕ, ◌+◌, Bool, true, false, true≢false, List, [], ◌∷◌, ◌++◌, refl, sym, subst, ap, ap₂, ◌∙◌, append_assoc, append-nil, Option, None, Some}
use Rattle.std.specs.Prelude.{is_some, ◌||◌}
use Rattle.std.specs.Bool.{if◌then◌else◌}
use Rattle.std.specs.List.{list_any}
use Rattle.shape_base.specs.declared.entry.Entry.{Entry}
use Rattle.shape_base.specs.declared.change.Tx.{Tx}
use Rattle.shape_base.specs.declared.limits.Limits.{Limits}
use Rattle.shape_base.specs.declared.cause.Cause.{Cause}
use Rattle.shape_base.specs.Tables.{changes_of}
use Rattle.shape_base.specs.Visibility.{Visibility, is_visible}
use Rattle.shape_base.specs.Snapshot.{Snapshot}
use Rattle.shape_base.specs.Shape.{Knows, stops, shown}
use Rattle.shape_base.specs.Log.{start_from, unseen, entries_past}
use Rattle.shape_json.specs.ShapeHistory.{Reader, ShapeEvent, Snapped, Took, Dropped, snapshot_in, taken, log_after, or_else, first_stop, all_full, bytes_of, entries_in, bytes_with, drop_by, drop_among, is_empty, is_passed, drop_at_commit, drop_at, drop_from, drop_of}
use Rattle.shape_json.specs.Laws.{DropNext, TookAdds}
use Rattle.shape_json.proofs.LawProofs.{stops_have_cause}

-- ---- the first cause

else_none : (a : Option Cause) → or_else a None ≡ a
else_none None = refl
else_none (Some c) = refl

else_assoc : (a b c : Option Cause) → or_else a (or_else b c) ≡ or_else (or_else a b) c
else_assoc None b c = refl
else_assoc (Some x) b c = refl

none_first : (a b : Option Cause) → or_else a b ≡ None → a ≡ None
none_first None b e = refl
none_first (Some x) b e = absurd (cc)

none_later : (a b : Option Cause) → or_else a b ≡ None → b ≡ None
none_later None b e = e
none_later (Some x) b e = absurd (cc)

module _ (r : Reader) (l : Limits) where
  drop_next_from : (before events : List ShapeEvent) (event : ShapeEvent) → drop_from r l before (events ++ event ∷ []) ≡ or_else (drop_from r l before events) (drop_at r l (before ++ events) event)
  drop_next_from before [] event = else_none (drop_at r l before event) ∙ ap (λ (es : List ShapeEvent). drop_at r l es event) (sym (append-nil before))
  drop_next_from before (first ∷ events) event =
      ap (or_else (drop_at r l before first)) (drop_next_from (before ++ first ∷ []) events event ∙ ap (λ (es : List ShapeEvent). or_else (drop_from r l (before ++ first ∷ []) events) (drop_at r l es event)) (append_assoc before (first ∷ []) events))
      ∙ else_assoc (drop_at r l before first) (drop_from r l (before ++ first ∷ []) events) (drop_at r l (before ++ first ∷ events) event)

pub drop_next : DropNext
drop_next r l events event = drop_next_from r l [] events event

-- ---- the parts of a longer history

taken-append : (events more : List ShapeEvent) → taken (events ++ more) ≡ taken events ++ taken more
taken-append [] more = refl
taken-append (Snapped x ∷ events) more = taken-append events more
taken-append (Took tx others ∷ events) more = ap (λ (txs : List Tx). tx ∷ txs) (taken-append events more)
taken-append (Dropped cause ∷ events) more = taken-append events more

abbrev or_snapshot : Option Snapshot → Option Snapshot → Option Snapshot
or_snapshot None later = later
or_snapshot (Some x) later = Some x

snapshot-append : (events more : List ShapeEvent) → snapshot_in (events ++ more) ≡ or_snapshot (snapshot_in events) (snapshot_in more)
snapshot-append [] more = refl
snapshot-append (Snapped x ∷ events) more = refl
snapshot-append (Took tx others ∷ events) more = snapshot-append events more
snapshot-append (Dropped cause ∷ events) more = snapshot-append events more

-- ---- commits that a snapshot does not show

unseen_if : (b : Bool) (v : Visibility) (first : Tx) (txs more : List Tx)
    → (is_empty (unseen v txs) ≡ false → unseen v (txs ++ more) ≡ unseen v txs ++ more)
    → is_empty (if b then unseen v txs else first ∷ txs) ≡ false
    → ◌≡◌ {A = List Tx} (if b then unseen v (txs ++ more) else first ∷ (txs ++ more)) ((if b then unseen v txs else first ∷ txs) ++ more)
unseen_if true v first txs more rest some = rest some
unseen_if false v first txs more rest some = refl

-- from the first that is not shown on all are there
unseen_on : (v : Visibility) (txs more : List Tx) → is_empty (unseen v txs) ≡ false → unseen v (txs ++ more) ≡ unseen v txs ++ more
unseen_on v [] more some = absurd (true≢false some)
unseen_on v (first ∷ txs) more some = unseen_if (is_visible v first.xid) v first txs more (unseen_on v txs more) some

none_if : (b : Bool) (v : Visibility) (first : Tx) (txs more : List Tx)
    → (is_empty (unseen v txs) ≡ true → unseen v (txs ++ more) ≡ unseen v more)
    → is_empty (if b then unseen v txs else first ∷ txs) ≡ true
    → ◌≡◌ {A = List Tx} (if b then unseen v (txs ++ more) else first ∷ (txs ++ more)) (unseen v more)
none_if true v first txs more rest none = rest none
none_if false v first txs more rest none = absurd (true≢false (sym none))

-- where all are shown, what comes later decides
unseen_none : (v : Visibility) (txs more : List Tx) → is_empty (unseen v txs) ≡ true → unseen v (txs ++ more) ≡ unseen v more
unseen_none v [] more none = refl
unseen_none v (first ∷ txs) more none = none_if (is_visible v first.xid) v first txs more (unseen_none v txs more) none

is_empty_nil : (txs : List Tx) → is_empty txs ≡ true → txs ≡ []
is_empty_nil [] e = refl
is_empty_nil (tx ∷ txs) e = absurd (true≢false (sym e))

not_both : (txs : List Tx) (tx : Tx) → is_empty (txs ++ tx ∷ []) ≡ true → ⊥
not_both [] tx e = true≢false (sym e)
not_both (x ∷ txs) tx e = true≢false (sym e)

one_if : (b : Bool) (tx : Tx) → is_empty (if b then [] else tx ∷ []) ≡ false → ◌≡◌ {A = List Tx} (if b then [] else tx ∷ []) (tx ∷ [])
one_if true tx e = absurd (true≢false e)
one_if false tx e = refl

module _ (v : Visibility) (txs : List Tx) (tx : Tx) where
  -- a commit that is passed over follows commits that are all shown
  passed_at : (b : Bool) → is_empty (unseen v txs) ≡ b → is_empty (unseen v (txs ++ tx ∷ [])) ≡ true → unseen v txs ≡ []
  passed_at true e passed = is_empty_nil (unseen v txs) e
  passed_at false e passed = absurd (not_both (unseen v txs) tx (sym (ap is_empty (unseen_on v txs (tx ∷ []) e)) ∙ passed))

  pub passed_none : is_empty (unseen v (txs ++ tx ∷ [])) ≡ true → unseen v txs ≡ []
  passed_none = passed_at (is_empty (unseen v txs)) refl

  behind_at : (b : Bool) → is_empty (unseen v txs) ≡ b → is_empty (unseen v (txs ++ tx ∷ [])) ≡ false → unseen v (txs ++ tx ∷ []) ≡ unseen v txs ++ tx ∷ []
  behind_at false e not_passed = unseen_on v txs (tx ∷ []) e
  behind_at true e not_passed =
      let alone = unseen_none v txs (tx ∷ []) e in
      alone ∙ one_if (is_visible v tx.xid) tx (sym (ap is_empty alone) ∙ not_passed) ∙ ap (λ (l : List Tx). l ++ tx ∷ []) (sym (is_empty_nil (unseen v txs) e))

  -- a commit that is not passed over stands behind those that are not shown
  pub behind : is_empty (unseen v (txs ++ tx ∷ [])) ≡ false → unseen v (txs ++ tx ∷ []) ≡ unseen v txs ++ tx ∷ []
  behind = behind_at (is_empty (unseen v txs)) refl

-- ---- no commit that is not shown stops a shape that stands

abbrev halts : Knows → Tx → Bool
halts s tx = list_any (stops s) (changes_of s.definition.table tx)

both_false : (a b : Bool) → (a || b) ≡ false → (a ≡ false) × (b ≡ false)
both_false true b e = absurd (true≢false e)
both_false false b e = (refl, e)

any_false : (s : Knows) (xs ys : List Tx) → list_any (halts s) xs ≡ false → list_any (halts s) ys ≡ false → list_any (halts s) (xs ++ ys) ≡ false
any_false s [] ys h k = k
any_false s (x ∷ xs) ys h k = let parts = both_false (halts s x) (list_any (halts s) xs) h in ap₂ (λ (a b : Bool). a || b) parts.0 (any_false s xs ys parts.1 k)

past_if : (b : Bool) (es x y : List Entry) → b ≡ false → ◌≡◌ {A = List Entry} (if b then [] else es ++ (x ++ y)) ((if b then [] else es ++ x) ++ y)
past_if true es x y e = absurd (true≢false e)
past_if false es x y e = sym (append_assoc es x y)

past_both : (s : Knows) (xs ys : List Tx) → list_any (halts s) xs ≡ false → entries_past s (xs ++ ys) ≡ entries_past s xs ++ entries_past s ys
past_both s [] ys h = refl
past_both s (x ∷ xs) ys h =
    let parts = both_false (halts s x) (list_any (halts s) xs) h in
    ap (λ (l : List Entry). if halts s x then [] else entries_in s x ++ l) (past_both s xs ys parts.1) ∙ past_if (halts s x) (entries_in s x) (entries_past s xs) (entries_past s ys) parts.0

module _ (r : Reader) (l : Limits) where
  stands_by : (bytes : ℕ) (tx : Tx) → drop_by r l bytes tx ≡ None → halts r.knows tx ≡ false
  stands_by bytes tx e = sym (stops_have_cause r tx.lsn (changes_of r.knows.definition.table tx)) ∙ ap is_some (none_first (first_stop r tx.lsn (changes_of r.knows.definition.table tx)) _ e)

  stands_among : (bytes : ℕ) (txs : List Tx) → drop_among r l bytes txs ≡ None → list_any (halts r.knows) txs ≡ false
  stands_among bytes [] e = refl
  stands_among bytes (tx ∷ txs) e =
      ap₂ (λ (a b : Bool). a || b) (stands_by bytes tx (none_first (drop_by r l bytes tx) (drop_among r l (bytes_with r.knows bytes tx) txs) e))
      (stands_among (bytes_with r.knows bytes tx) txs (none_later (drop_by r l bytes tx) (drop_among r l (bytes_with r.knows bytes tx) txs) e))

  abbrev NoStop : List ShapeEvent → Type 0
  NoStop events = (x : Snapshot) → snapshot_in events ≡ Some x → list_any (halts r.knows) (unseen x.visibility (taken events)) ≡ false

  some_snapshot : (x y : Snapshot) → ◌≡◌ {A = Option Snapshot} (Some x) (Some y) → x ≡ y
  some_snapshot x y e = cc

  -- a snapshot comes
  snapped_at : (before : List ShapeEvent) (y : Snapshot) (had : Option Snapshot) → snapshot_in before ≡ had → drop_at r l before (Snapped y) ≡ None → NoStop before
      → (x : Snapshot) → or_snapshot had (Some y) ≡ Some x → list_any (halts r.knows) (unseen x.visibility (taken before)) ≡ false
  snapped_at before y None e none stands x is =
      subst (λ (z : Snapshot). list_any (halts r.knows) (unseen z.visibility (taken before)) ≡ false) (some_snapshot y x is) (stands_among (bytes_of (start_from 1 (shown r.knows y.rows))) (unseen y.visibility (taken before)) none)
  snapped_at before y (Some z) e none stands x is = stands x (e ∙ is)

  took_if : (x : Snapshot) (txs : List Tx) (tx : Tx) (bytes others : ℕ) (b : Bool) → is_passed x txs tx ≡ b
      → ◌≡◌ {A = Option Cause} (if b then None else or_else (drop_by r l bytes tx) (all_full l (bytes_with r.knows bytes tx + others))) None
      → list_any (halts r.knows) (unseen x.visibility txs) ≡ false → list_any (halts r.knows) (unseen x.visibility (txs ++ tx ∷ [])) ≡ false
  took_if x txs tx bytes others true passed none stands = ap (list_any (halts r.knows)) (is_empty_nil (unseen x.visibility (txs ++ tx ∷ [])) passed)
  took_if x txs tx bytes others false not_passed none stands =
      ap (list_any (halts r.knows)) (behind x.visibility txs tx not_passed)
      ∙ any_false r.knows (unseen x.visibility txs) (tx ∷ []) stands (ap (λ (b : Bool). b || false) (stands_by bytes tx (none_first (drop_by r l bytes tx) (all_full l (bytes_with r.knows bytes tx + others)) none)))

  took_at : (before : List ShapeEvent) (tx : Tx) (others : ℕ) (had : Option Snapshot) → snapshot_in before ≡ had → drop_at_commit r l had before tx others ≡ None → NoStop before
      → (x : Snapshot) → or_snapshot had None ≡ Some x → list_any (halts r.knows) (unseen x.visibility (taken before ++ tx ∷ [])) ≡ false
  took_at before tx others None e none stands x is = absurd (cc)
  took_at before tx others (Some z) e none stands x is =
      subst (λ (y : Snapshot). list_any (halts r.knows) (unseen y.visibility (taken before ++ tx ∷ [])) ≡ false) (some_snapshot z x is)
      (took_if z (taken before) tx (bytes_of (log_after r.knows z before)) others (is_passed z (taken before) tx) refl none (stands z e))

  stands_next : (before : List ShapeEvent) (event : ShapeEvent) → drop_at r l before event ≡ None → NoStop before → NoStop (before ++ event ∷ [])
  stands_next before (Snapped y) none stands x is =
      ap (λ (txs : List Tx). list_any (halts r.knows) (unseen x.visibility txs)) (taken-append before (Snapped y ∷ []) ∙ append-nil (taken before))
      ∙ snapped_at before y (snapshot_in before) refl none stands x (sym (snapshot-append before (Snapped y ∷ [])) ∙ is)
  stands_next before (Took tx others) none stands x is =
      ap (λ (txs : List Tx). list_any (halts r.knows) (unseen x.visibility txs)) (taken-append before (Took tx others ∷ []))
      ∙ took_at before tx others (snapshot_in before) refl none stands x (sym (snapshot-append before (Took tx others ∷ [])) ∙ is)
  stands_next before (Dropped cause) none stands x is = absurd (cc)

  stands_from : (before events : List ShapeEvent) → drop_from r l before events ≡ None → NoStop before → NoStop (before ++ events)
  stands_from before [] none stands = subst NoStop (sym (append-nil before)) stands
  stands_from before (event ∷ events) none stands =
      subst NoStop (append_assoc before (event ∷ []) events)
      (stands_from (before ++ event ∷ []) events (none_later (drop_at r l before event) (drop_from r l (before ++ event ∷ []) events) none)
      (stands_next before event (none_first (drop_at r l before event) (drop_from r l (before ++ event ∷ []) events) none) stands))

  nothing_stops : NoStop []
  nothing_stops x is = refl

  adds_if : (x : Snapshot) (events : List ShapeEvent) (tx : Tx) (others : ℕ) (b : Bool) → is_passed x (taken events) tx ≡ b
      → ◌≡◌ {A = Option Cause} (if b then None else or_else (drop_by r l (bytes_of (log_after r.knows x events)) tx) (all_full l (bytes_with r.knows (bytes_of (log_after r.knows x events)) tx + others))) None
      → list_any (halts r.knows) (unseen x.visibility (taken events)) ≡ false
      → entries_past r.knows (unseen x.visibility (taken events ++ tx ∷ [])) ≡ entries_past r.knows (unseen x.visibility (taken events)) ++ (if b then [] else entries_in r.knows tx)
  adds_if x events tx others true passed none stands =
      ap (entries_past r.knows) (is_empty_nil (unseen x.visibility (taken events ++ tx ∷ [])) passed ∙ sym (passed_none x.visibility (taken events) tx passed)) ∙ sym (append-nil (entries_past r.knows (unseen x.visibility (taken events))))
  adds_if x events tx others false not_passed none stands =
      let goes = stands_by (bytes_of (log_after r.knows x events)) tx (none_first (drop_by r l (bytes_of (log_after r.knows x events)) tx) _ none) in
      ap (entries_past r.knows) (behind x.visibility (taken events) tx not_passed)
      ∙ past_both r.knows (unseen x.visibility (taken events)) (tx ∷ []) stands
      ∙ ap (λ (l : List Entry). entries_past r.knows (unseen x.visibility (taken events)) ++ l) (alone (halts r.knows tx) (entries_in r.knows tx) goes)
    where
      alone : (b : Bool) (es : List Entry) → b ≡ false → ◌≡◌ {A = List Entry} (if b then [] else es ++ []) es
      alone true es e = absurd (true≢false e)
      alone false es e = append-nil es

  adds : (x : Snapshot) (events : List ShapeEvent) (tx : Tx) (others : ℕ) → snapshot_in events ≡ Some x → drop_of r l (events ++ Took tx others ∷ []) ≡ None
      → log_after r.knows x (events ++ Took tx others ∷ []) ≡ log_after r.knows x events ++ (if is_passed x (taken events) tx then [] else entries_in r.knows tx)
  adds x events tx others is none =
      let both : or_else (drop_of r l events) (drop_at r l events (Took tx others)) ≡ None = sym (drop_next_from r l [] events (Took tx others)) ∙ none in
      let stands = stands_from [] events (none_first (drop_of r l events) (drop_at r l events (Took tx others)) both) nothing_stops x is in
      let last : drop_at_commit r l (Some x) events tx others ≡ None = ap (λ (o : Option Snapshot). drop_at_commit r l o events tx others) (sym is) ∙ none_later (drop_of r l events) (drop_at r l events (Took tx others)) both in
      let start = start_from 1 (shown r.knows x.rows) in
      ap (λ (txs : List Tx). start ++ entries_past r.knows (unseen x.visibility txs)) (taken-append events (Took tx others ∷ []))
      ∙ ap (λ (l : List Entry). start ++ l) (adds_if x events tx others (is_passed x (taken events) tx) refl last stands)
      ∙ sym (append_assoc start (entries_past r.knows (unseen x.visibility (taken events))) (if is_passed x (taken events) tx then [] else entries_in r.knows tx))

pub took_adds : TookAdds
took_adds r l snapshot events tx others = adds r l snapshot events tx others
