-- Commits that are added to a log, one behind the other.
use Rattle.std.proofs.Common.{◌≡◌, ℕ, zero, suc, ◌+◌, ◌<◌, ◌≤◌, Bool, true, false, true≢false, List, [], ◌∷◌, ◌++◌, length, map, drop, get_or, refl, sym, subst, ap, ap₂, ◌∙◌, arith, append_assoc, append-nil, Option, None, Some}
use Rattle.std.specs.Prelude.{is_some, ◌||◌, ◌==◌}
use Rattle.std.specs.Bool.{if◌then◌else◌}
use Rattle.std.specs.List.{sum, list_any, flat_map, AllByRecursion}
use Rattle.std.proofs.lemmas.List.{map-append, drop_more}
use Rattle.std.proofs.lemmas.Bool.Decides.{nat_tests}
use Rattle.std.proofs.lemmas.List.Sums.{sum_by-append}
use Rattle.std.proofs.Math.ListN.{drop_of_length-le}
use Rattle.shape_base.specs.declared.cause.Cause.{Cause}
use Rattle.shape_base.specs.declared.change.Tx.{Tx}
use Rattle.shape_base.specs.declared.entry.Entry.{Entry}
use Rattle.shape_base.specs.declared.limits.Limits.{Limits}
use Rattle.shape_base.specs.declared.offset.Offset.{Offset}
use Rattle.shape_base.specs.declared.offset.Offset.TheVariants.{At}
use Rattle.shape_base.specs.Offsets.{rises_after}
use Rattle.shape_base.specs.Tables.{changes_of}
use Rattle.shape_base.specs.Shape.{Knows, stops}
use Rattle.shape_base.specs.Transactions.{IsWhole, LsnsRise}
use Rattle.shape_base.specs.Visibility.{Visibility, is_visible}
use Rattle.shape_base.specs.Log as logs
use Rattle.shape_base.specs.Log.{unseen, entries_past}
use Rattle.shape_log.specs.Texts.{end_of, last_from, rise_after}
use Rattle.shape_json.specs.Body.{entry_text}
use Rattle.shape_json.specs.ShapeHistory.{Reader, or_else, first_stop, entries_in, bytes_of, bytes_with, log_full, drop_by, drop_among, is_empty}
use Rattle.shape_json.proofs.LawProofs.{stops_have_cause}
use Rattle.chunked_log.specs.Chunked.{Chunked, Texts, Writes, Holds, offsets_of}
use Rattle.chunked_log.proofs.Lemmas.{last_is}
use Rattle.shape_state.specs.Later.{lsn_in}
use Rattle.shape_state.proofs.Ends.{commit_rises, changes_at, end_at}
use Rattle.shape_state.proofs.Buffering.{rises_is}

none_first : (a b : Option Cause) → or_else a b ≡ None → a ≡ None
none_first None b e = refl
none_first (Some x) b e = absurd (cc)

none_later : (a b : Option Cause) → or_else a b ≡ None → b ≡ None
none_later None b e = e
none_later (Some x) b e = absurd (cc)

-- a commit that does not drop the shape does not stop it
goes_on : (r : Reader) (l : Limits) (bytes : ℕ) (tx : Tx) → drop_by r l bytes tx ≡ None → list_any (stops r.knows) (changes_of r.knows.definition.table tx) ≡ false
goes_on r l bytes tx e =
    sym (stops_have_cause r tx.lsn (changes_of r.knows.definition.table tx)) ∙ ap is_some (none_first (first_stop r tx.lsn (changes_of r.knows.definition.table tx)) (log_full l (bytes_with r.knows bytes tx)) e)

-- its written entries may stand behind a log that ends before it
pub fits_behind : (r : Reader) (l : Limits) (bytes : ℕ) (tx : Tx) (written : Texts) (end : Offset) → drop_by r l bytes tx ≡ None → Writes written (entries_in r.knows tx) → lsn_in end < tx.lsn → rise_after end written.offsets ≡ true
fits_behind r l bytes tx written end none writes lt =
    ap (rise_after end) writes.offsets ∙ rises_is end (entries_in r.knows tx) ∙ commit_rises r.knows tx end (goes_on r l bytes tx none) lt

last_more : (o : Offset) (xs ys : List Offset) → last_from o (xs ++ ys) ≡ last_from (last_from o xs) ys
last_more o [] ys = refl
last_more o (x ∷ xs) ys = last_more x xs ys

-- the log ends at the commit, or before it
pub ends_with : (r : Reader) (tx : Tx) (written : Texts) (old new : List Offset) → Writes written (entries_in r.knows tx) → new ≡ old ++ written.offsets → lsn_in (end_of old) < tx.lsn → lsn_in (end_of new) ≤ tx.lsn
ends_with r tx written old new writes is lt =
    let all : end_of new ≡ logs.last_offset (end_of old) (entries_in r.knows tx) = ap end_of is ∙ last_more (At 0 0) old written.offsets ∙ ap (last_from (end_of old)) writes.offsets ∙ last_is (end_of old) (entries_in r.knows tx) in
    subst (λ (o : Offset). lsn_in o ≤ tx.lsn) (sym all) (end_at tx.lsn (entries_in r.knows tx) (end_of old) (changes_at r.knows tx.lsn (changes_of r.knows.definition.table tx)) (omega (arith, lt)))

bytes_more : (es fs : List Entry) → bytes_of (es ++ fs) ≡ bytes_of es + bytes_of fs
bytes_more es fs = ap sum (map-append (λ (e : Entry). length (entry_text e)) es fs) ∙ sum_by-append (λ x. x) (map (λ (e : Entry). length (entry_text e)) es) (map (λ (e : Entry). length (entry_text e)) fs)

-- ---- one after the other

-- what a log of these entries has got, where so many commits are added
pub record AddsOn (r : Reader) (l : Limits) (log : Chunked) (entries : List Entry) (txs : List Tx) (left : List Tx) : Type 0 where
  pub front : List Entry
  pub holds : Holds log front
  pub drops : drop_among r l (bytes_of front) left ≡ drop_among r l (bytes_of entries) txs
  pub adds : front ++ flat_map (entries_in r.knows) left ≡ entries ++ flat_map (entries_in r.knows) txs

pub adds_more : (r : Reader) (l : Limits) (old new : Chunked) (entries : List Entry) (txs : List Tx) (tx : Tx) (left : List Tx) (cause : Option Cause) → AddsOn r l old entries txs (tx ∷ left)
    → ((es : List Entry) → Holds old es → cause ≡ drop_by r l (bytes_of es) tx) → ((es : List Entry) → Holds old es → cause ≡ None → Holds new (es ++ entries_in r.knows tx)) → cause ≡ None → AddsOn r l new entries txs left
adds_more r l old new entries txs tx left cause on found held none = record {
  front = on.front ++ entries_in r.knows tx;
  holds = held on.front on.holds none;
  drops = ap (λ (n : ℕ). drop_among r l n left) (bytes_more on.front (entries_in r.knows tx))
      ∙ ap (λ (o : Option Cause). or_else o (drop_among r l (bytes_with r.knows (bytes_of on.front) tx) left)) (sym none ∙ found on.front on.holds) ∙ on.drops;
  adds = append_assoc on.front (entries_in r.knows tx) (flat_map (entries_in r.knows) left) ∙ on.adds;
}

some_first : (stop later : Option Cause) → is_some stop ≡ true → or_else stop later ≡ stop
some_first None later e = absurd (true≢false (sym e))
some_first (Some y) later e = refl

pub drops_here : (r : Reader) (l : Limits) (old : Chunked) (entries : List Entry) (txs : List Tx) (tx : Tx) (left : List Tx) (cause : Option Cause) → AddsOn r l old entries txs (tx ∷ left) → ((es : List Entry) → Holds old es → cause ≡ drop_by r l (bytes_of es) tx) → is_some cause ≡ true
    → cause ≡ drop_among r l (bytes_of entries) txs
drops_here r l old entries txs tx left cause on found some =
    let rest = drop_among r l (bytes_with r.knows (bytes_of on.front) tx) left in
    sym (some_first cause rest some) ∙ ap (λ (o : Option Cause). or_else o rest) (found on.front on.holds) ∙ on.drops

past_if : (b : Bool) (es fs gs : List Entry) → b ≡ false → fs ≡ gs → ◌≡◌ {A = List Entry} (if b then [] else es ++ fs) (es ++ gs)
past_if true es fs gs e h = absurd (true≢false e)
past_if false es fs gs e h = ap (λ (xs : List Entry). es ++ xs) h

past_all : (r : Reader) (l : Limits) (bytes : ℕ) (txs : List Tx) → drop_among r l bytes txs ≡ None → entries_past r.knows txs ≡ flat_map (entries_in r.knows) txs
past_all r l bytes [] e = refl
past_all r l bytes (tx ∷ txs) e =
    past_if (list_any (stops r.knows) (changes_of r.knows.definition.table tx)) (entries_in r.knows tx) (entries_past r.knows txs) (flat_map (entries_in r.knows) txs)
    (goes_on r l bytes tx (none_first (drop_by r l bytes tx) (drop_among r l (bytes_with r.knows bytes tx) txs) e))
    (past_all r l (bytes_with r.knows bytes tx) txs (none_later (drop_by r l bytes tx) (drop_among r l (bytes_with r.knows bytes tx) txs) e))

-- all were added
pub adds_all : (r : Reader) (l : Limits) (log : Chunked) (entries : List Entry) (txs left : List Tx) → AddsOn r l log entries txs left → left ≡ [] → (None ≡ drop_among r l (bytes_of entries) txs) × Holds log (entries ++ entries_past r.knows txs)
adds_all r l log entries txs left on none =
    let all : None ≡ drop_among r l (bytes_of entries) txs = ap (drop_among r l (bytes_of on.front)) (sym none) ∙ on.drops in (
      all,
      subst (Holds log) (sym (append-nil on.front) ∙ ap (λ (xs : List Tx). on.front ++ flat_map (entries_in r.knows) xs) (sym none) ∙ on.adds ∙ ap (λ (es : List Entry). entries ++ es) (sym (past_all r l (bytes_of entries) txs (sym all)))) on.holds,
    )

pub from_less : (a b : ℕ) (txs : List Tx) → a ≤ b → LsnsRise b txs → LsnsRise a txs
from_less a b [] le h = tt
from_less a b (tx ∷ txs) le h = (omega (arith, h.0, le), h.1)

pub all_at : (txs : List Tx) (i : ℕ) (d : Tx) → AllByRecursion IsWhole txs → i < length txs → IsWhole (get_or txs i d)
all_at [] i d h lt = absurd (omega (arith, lt))
all_at (x ∷ txs) zero d h lt = h.0
all_at (x ∷ txs) (suc i) d h lt = all_at txs i d h.1 (omega (arith, lt))

pub none_if : (o : Option Cause) → is_some o ≡ false → o ≡ None
none_if None e = refl
none_if (Some c) e = absurd (true≢false e)

-- ---- those that are not shown

unseen_true : (b : Bool) (v : Visibility) (x : Tx) (txs : List Tx) → b ≡ true → ◌≡◌ {A = List Tx} (if b then unseen v txs else x ∷ txs) (unseen v txs)
unseen_true true v x txs e = refl
unseen_true false v x txs e = absurd (true≢false (sym e))

unseen_false : (b : Bool) (v : Visibility) (x : Tx) (txs : List Tx) → b ≡ false → ◌≡◌ {A = List Tx} (if b then unseen v txs else x ∷ txs) (x ∷ txs)
unseen_false true v x txs e = absurd (true≢false e)
unseen_false false v x txs e = refl

-- the first of these is shown
pub shown_first : (v : Visibility) (txs : List Tx) (i : ℕ) (x : Tx) → i < length txs → x ≡ get_or txs i x → is_visible v x.xid ≡ true → unseen v (drop i txs) ≡ unseen v (drop (i + 1) txs)
shown_first v txs i x lt is e = ap (unseen v) (drop_more txs i x lt ∙ ap (λ (y : Tx). y ∷ drop (i + 1) txs) (sym is)) ∙ unseen_true (is_visible v x.xid) v x (drop (i + 1) txs) e

-- it is not
pub unseen_first : (v : Visibility) (txs : List Tx) (i : ℕ) (x : Tx) → i < length txs → x ≡ get_or txs i x → is_visible v x.xid ≡ false → unseen v (drop i txs) ≡ drop i txs
unseen_first v txs i x lt is e =
    let first : drop i txs ≡ x ∷ drop (i + 1) txs = drop_more txs i x lt ∙ ap (λ (y : Tx). y ∷ drop (i + 1) txs) (sym is) in
    ap (unseen v) first ∙ unseen_false (is_visible v x.xid) v x (drop (i + 1) txs) e ∙ sym first

pub unseen_last : (v : Visibility) (txs : List Tx) (i : ℕ) → length txs ≤ i → unseen v (drop i txs) ≡ []
unseen_last v txs i le = ap (unseen v) (drop_of_length-le txs le)

whole_if : (b : Bool) (v : Visibility) (x : Tx) (txs : List Tx) → AllByRecursion IsWhole (x ∷ txs) → AllByRecursion IsWhole (unseen v txs) → AllByRecursion IsWhole (if b then unseen v txs else x ∷ txs)
whole_if true v x txs h rest = rest
whole_if false v x txs h rest = h

pub unseen_whole : (v : Visibility) (txs : List Tx) → AllByRecursion IsWhole txs → AllByRecursion IsWhole (unseen v txs)
unseen_whole v [] h = tt
unseen_whole v (x ∷ txs) h = whole_if (is_visible v x.xid) v x txs h (unseen_whole v txs h.1)

pub empty_is : (txs : List Tx) (b : Bool) → b ≡ (length txs == 0) → b ≡ is_empty txs
empty_is [] b e = e
empty_is (x ∷ txs) b e = e ∙ (let h : (length (x ∷ txs) == 0) ≡ false = grind (arith, nat_tests) in h)
