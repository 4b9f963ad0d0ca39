-- The ends of logs, and commits behind them.
use Rattle.std.proofs.Common.{◌≡◌, ℕ, suc, ◌+◌, ◌-◌, ◌*◌, ◌<◌, ◌≤◌, length, Bool, true, false, List, [], ◌∷◌, ◌++◌, map, refl, sym, ◌∙◌, ap, subst, arith, append-nil, Option, None, Some}
use Rattle.std.specs.Prelude.{unwrap_or, slice_get}
use Rattle.std.specs.Bool.{if◌then◌else◌}
use Rattle.std.specs.List.{last_or, list_any, flat_map, AllByRecursion}
use Rattle.shape_base.specs.declared.offset.Offset.{Offset}
use Rattle.shape_base.specs.declared.offset.Offset.TheVariants.{Start, At}
use Rattle.shape_base.specs.declared.entry.Cell.{Cell}
use Rattle.shape_base.specs.declared.entry.Entry.{Entry}
use Rattle.shape_base.specs.declared.change.Tx.{Tx}
use Rattle.shape_base.specs.Tables.{Table, Own, same_text, changes_of}
use Rattle.shape_base.specs.Shape.{Knows, Keyed, stops, emit, pick, old_of, new_of, entries_of, update_at, differing, shown}
use Rattle.shape_base.specs.Visibility.{Visibility, is_visible}
use Rattle.shape_base.specs.Transactions.{LsnsRise}
use Rattle.shape_base.specs.Offsets.{rises_after}
use Rattle.shape_base.specs.Log.{start_from, unseen, entries_past, log_over, last_offset, end_of}
use Rattle.shape_base.proofs.Lemmas.{last_offset-append, commits_rise, unseen_rise, lsn_of}
use Rattle.shape_json.specs.ShapeHistory.{entries_in}
use Rattle.shape_state.specs.Later.{lsn_in, last_of}

lsn_is : (o : Offset) → lsn_of o ≡ lsn_in o
lsn_is Start = refl
lsn_is (At lsn pos) = refl

-- ---- entries of one LSN

pub AreAt : ℕ → List Entry → Type 0
AreAt lsn [] = Unit {0}
AreAt lsn (e ∷ es) = (lsn_in e.offset ≡ lsn) × AreAt lsn es

both_at : (lsn : ℕ) (es fs : List Entry) → AreAt lsn es → AreAt lsn fs → AreAt lsn (es ++ fs)
unfolding AreAt
both_at lsn [] fs h k = k
both_at lsn (e ∷ es) fs h k = (h.0, both_at lsn es fs h.1 k)

update_there : (lsn pos : ℕ) (key : List ℕ) (cs : List Cell) → AreAt lsn (update_at lsn pos key cs)
unfolding AreAt
update_there lsn pos key [] = tt
update_there lsn pos key (c ∷ cs) = (refl, tt)

pair_at : (lsn j : ℕ) (o n : Keyed) (b : Bool) → same_text o.0 n.0 ≡ b → AreAt lsn (entries_of lsn j (Some o) (Some n))
unfolding AreAt
pair_at lsn j o n true e = rw e (update_there lsn (2 * j) n.0 (differing o.1 n.1))
pair_at lsn j o n false e = rw e (refl, (refl, tt))

change_at : (lsn j : ℕ) (o n : Option Keyed) → AreAt lsn (entries_of lsn j o n)
unfolding AreAt
change_at lsn j None None = tt
change_at lsn j None (Some n) = (refl, tt)
change_at lsn j (Some o) None = (refl, tt)
change_at lsn j (Some o) (Some n) = pair_at lsn j o n (same_text o.0 n.0) refl

pub changes_at : (s : Knows) (lsn : ℕ) (os : List Own) → AreAt lsn (flat_map (emit s lsn) os)
unfolding AreAt
changes_at s lsn [] = tt
changes_at s lsn (o ∷ os) = both_at lsn (emit s lsn o) (flat_map (emit s lsn) os) (change_at lsn o.number (pick s (old_of o.kind)) (pick s (new_of o.kind))) (changes_at s lsn os)

start_at : (i : ℕ) (ks : List Keyed) → AreAt 0 (start_from i ks)
unfolding AreAt
start_at i [] = tt
start_at i (k ∷ ks) = (refl, start_at (i + 1) ks)

pub end_at : (lsn : ℕ) (es : List Entry) (from : Offset) → AreAt lsn es → lsn_in from ≤ lsn → lsn_in (last_offset from es) ≤ lsn
unfolding AreAt
end_at lsn [] from h le = le
end_at lsn (e ∷ es) from h le = end_at lsn es e.offset h.1 (omega (arith, h.0))

-- the end of a log with a commit's entries behind it
pub end_with : (s : Knows) (tx : Tx) (es : List Entry) → lsn_in (end_of es) ≤ tx.lsn → lsn_in (end_of (es ++ entries_in s tx)) ≤ tx.lsn
end_with s tx es le =
    subst (λ (o : Offset). lsn_in o ≤ tx.lsn) (sym (last_offset-append (At 0 0) es (entries_in s tx))) (end_at tx.lsn (entries_in s tx) (end_of es) (changes_at s tx.lsn (changes_of s.definition.table tx)) le)

alone_if : (b : Bool) (es : List Entry) → b ≡ false → ◌≡◌ {A = List Entry} (if b then [] else es ++ []) es
alone_if true es e = cc
alone_if false es e = append-nil es

-- the entries of a commit that does not stop the shape rise from an offset of a lower LSN
pub commit_rises : (s : Knows) (tx : Tx) (o : Offset) → list_any (stops s) (changes_of s.definition.table tx) ≡ false → lsn_in o < tx.lsn → rises_after o (entries_in s tx) ≡ true
commit_rises s tx o goes lt =
    subst (λ (es : List Entry). rises_after o es ≡ true) (alone_if (list_any (stops s) (changes_of s.definition.table tx)) (entries_in s tx) goes)
    (commits_rise s (tx ∷ []) (lsn_in o) (lt, tt) o (omega (arith, lsn_is o)))

-- ---- LSNs that rise

abbrev last_from : Option ℕ → List Tx → ℕ
last_from o txs = unwrap_or (last_or o (map (λ (tx : Tx). tx.lsn) txs)) 0

pub rise_behind : (txs : List Tx) (o : Option ℕ) (tx : Tx) → LsnsRise (unwrap_or o 0) txs → last_from o txs < tx.lsn → LsnsRise (unwrap_or o 0) (txs ++ tx ∷ [])
rise_behind [] o tx h lt = (lt, tt)
rise_behind (x ∷ txs) o tx h lt = (h.0, rise_behind txs (Some x.lsn) tx h.1 lt)

above : (txs : List Tx) (n : ℕ) → LsnsRise n txs → n ≤ last_from (Some n) txs
above [] n h = omega arith
above (x ∷ txs) n h = omega (arith, h.0, above txs x.lsn h.1)

past_if : (s : Knows) (x : Tx) (txs : List Tx) (o : Option ℕ) (from : Offset) (b : Bool) → list_any (stops s) (changes_of s.definition.table x) ≡ b → lsn_in from ≤ x.lsn → x.lsn ≤ last_from (Some x.lsn) txs
    → ((to : Offset) → lsn_in to ≤ x.lsn → lsn_in (last_offset to (entries_past s txs)) ≤ last_from (Some x.lsn) txs)
    → lsn_in (last_offset from (if b then [] else entries_in s x ++ entries_past s txs)) ≤ last_from (Some x.lsn) txs
past_if s x txs o from true e le up rest = omega (arith, le, up)
past_if s x txs o from false e le up rest =
    subst (λ (to : Offset). lsn_in to ≤ last_from (Some x.lsn) txs) (sym (last_offset-append from (entries_in s x) (entries_past s txs)))
    (rest (last_offset from (entries_in s x)) (end_at x.lsn (entries_in s x) from (changes_at s x.lsn (changes_of s.definition.table x)) le))

past_end : (s : Knows) (txs : List Tx) (o : Option ℕ) (from : Offset) → LsnsRise (unwrap_or o 0) txs → lsn_in from ≤ unwrap_or o 0 → lsn_in (last_offset from (entries_past s txs)) ≤ last_from o txs
past_end s [] None from h le = le
past_end s [] (Some n) from h le = le
past_end s (x ∷ txs) o from h le = past_if s x txs o from (list_any (stops s) (changes_of s.definition.table x)) refl (omega (arith, h.0, le)) (above txs x.lsn h.1) (λ to low. past_end s txs (Some x.lsn) to h.1 low)

-- a lower LSN before them
lower : (txs : List Tx) (o : Option ℕ) (n : ℕ) → unwrap_or o 0 ≤ n → last_from o txs ≤ last_from (Some n) txs
lower [] None n le = le
lower [] (Some m) n le = le
lower (x ∷ txs) o n le = omega arith

unseen_if : (v : Visibility) (x : Tx) (txs : List Tx) (o : Option ℕ) (b : Bool) → is_visible v x.xid ≡ b → unwrap_or o 0 < x.lsn → LsnsRise x.lsn txs → last_from (Some x.lsn) (unseen v txs) ≤ last_from (Some x.lsn) txs
    → last_from o (if b then unseen v txs else x ∷ txs) ≤ last_from (Some x.lsn) txs
unseen_if v x txs o true e lt h rest = omega (arith, lower (unseen v txs) o x.lsn (omega (arith, lt)), rest)
unseen_if v x txs o false e lt h rest = omega arith

-- those that are not shown have no later LSN
unseen_last : (v : Visibility) (txs : List Tx) (o : Option ℕ) → LsnsRise (unwrap_or o 0) txs → last_from o (unseen v txs) ≤ last_from o txs
unseen_last v [] o h = omega arith
unseen_last v (x ∷ txs) o h = unseen_if v x txs o (is_visible v x.xid) refl h.0 h.1 (unseen_last v txs (Some x.lsn) h.1)

-- the end of a log over a snapshot and commits is at most the last one's LSN
pub over_end : (s : Knows) (v : Visibility) (rows : Table) (txs : List Tx) → LsnsRise 0 txs → lsn_in (end_of (log_over s v rows txs)) ≤ last_of txs
over_end s v rows txs h =
    let start = start_from 1 (shown s rows) in
    let low : lsn_in (end_of start) ≤ 0 = end_at 0 start (At 0 0) (start_at 1 (shown s rows)) (omega arith) in
    let rest = past_end s (unseen v txs) None (end_of start) (unseen_rise v txs 0 h) low in
    subst (λ (o : Offset). lsn_in o ≤ last_of txs) (sym (last_offset-append (At 0 0) start (entries_past s (unseen v txs)))) (omega (arith, rest, unseen_last v txs None h))

-- the last of the commits is the one in the last place
pub last_tx : (txs : List Tx) (o : Option ℕ) (x : Tx) → slice_get txs (length txs - 1) ≡ Some x → x.lsn ≡ last_from o txs
last_tx [] o x h = absurd (cc)
last_tx (y ∷ []) o x h = let e : y ≡ x = cc in ap (λ (t : Tx). t.lsn) (sym e)
last_tx (y ∷ z ∷ txs) o x h =
    let next : length (y ∷ z ∷ txs) - 1 ≡ suc (length (z ∷ txs) - 1) = omega arith in
    last_tx (z ∷ txs) (Some y.lsn) x (subst (λ (n : ℕ). slice_get (y ∷ z ∷ txs) n ≡ Some x) next h)
