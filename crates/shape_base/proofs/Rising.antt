-- The offsets of a log rise.
use Rattle.std.proofs.Common.{◌≡◌, ℕ, ◌+◌, ◌*◌, ◌<◌, ◌≤◌, Bool, true, false, ◌==◌, List, [], ◌∷◌, ◌++◌, drop, refl, sym, subst, arith, append_assoc, Option, None, Some}
use Rattle.std.proofs.lemmas.Bool.{and_from}
use Rattle.std.specs.Bool.{if◌then◌else◌}
use Rattle.std.specs.List.{list_any, flat_map, slice_get}
use Rattle.std.proofs.lemmas.Bool.Decides.{nat_tests}
use Rattle.shape_base.specs.declared.offset.Offset.{Offset}
use Rattle.shape_base.specs.declared.offset.Offset.TheVariants.{Start, At}
use Rattle.shape_base.specs.declared.entry.Cell.{Cell}
use Rattle.shape_base.specs.declared.entry.Entry.{Entry}
use Rattle.shape_base.specs.declared.change.Change.{Change}
use Rattle.shape_base.specs.declared.change.ChangeKind.{ChangeKind}
use Rattle.shape_base.specs.declared.definition.TableDef.{TableDef}
use Rattle.shape_base.specs.declared.history.Step.{Step}
use Rattle.shape_base.specs.declared.history.Step.TheVariants.{Commit, Define}
use Rattle.shape_base.specs.declared.history.History.{History}
use Rattle.shape_base.specs.Tables.{Table, Own, same_text, own_of, own_from, changes_of, RiseFrom}
use Rattle.shape_base.specs.Shape.{Knows, Keyed, stops, emit, pick, old_of, new_of, entries_of, update_at, differing, shown}
use Rattle.shape_base.specs.declared.change.Tx.{Tx}
use Rattle.shape_base.specs.Visibility.{Visibility, is_visible}
use Rattle.shape_base.specs.Transactions.{LsnsRise}
use Rattle.shape_base.specs.Log.{later, log_of, log_over, unseen, entries_past, start_from}
use Rattle.shape_base.specs.Offsets.{is_before, rises_after}
use Rattle.shape_base.specs.Laws.{OffsetsRise}
use Rattle.shape_base.proofs.EndLaw.{rise_past}
use Rattle.shape_base.proofs.Growing.{log_front}
use Rattle.shape_base.proofs.Offsets.{before_trans, rises_front}

abbrev pub lsn_of : Offset → ℕ
lsn_of Start = 0
lsn_of (At lsn pos) = lsn

pub before_lsn : (o : Offset) (lsn pos : ℕ) → lsn_of o < lsn → is_before o (At lsn pos) ≡ true
before_lsn Start lsn pos h = refl
before_lsn (At a i) lsn pos h = grind (arith, nat_tests)

pub lsn_before : (o : Offset) (lsn pos : ℕ) → is_before o (At lsn pos) ≡ true → lsn_of o ≤ lsn
lsn_before Start lsn pos h = omega arith
lsn_before (At a i) lsn pos h = grind (arith, nat_tests)

pub before_pos : (lsn i j : ℕ) → i < j → is_before (At lsn i) (At lsn j) ≡ true
before_pos lsn i j h = grind (arith, nat_tests)

rise_start : (i : ℕ) (ks : List Keyed) (more : List Entry) → ((o : Offset) → lsn_of o ≤ 0 → rises_after o more ≡ true) → rises_after (At 0 i) (start_from (i + 1) ks ++ more) ≡ true
rise_start i [] more h = h (At 0 i) (omega arith)
rise_start i (k ∷ ks) more h = and_from _ _ (before_pos 0 i (i + 1) (omega arith)) (rise_start (i + 1) ks more h)

-- what comes after a change rises from any offset before the next
abbrev RisesOn : ℕ → ℕ → List Entry → Type 0
RisesOn lsn j more = (o : Offset) → is_before o (At lsn (2 * (j + 1))) ≡ true → rises_after o more ≡ true

skip : (lsn j : ℕ) (low : Offset) → is_before low (At lsn (2 * j)) ≡ true → is_before low (At lsn (2 * (j + 1))) ≡ true
skip lsn j low h = before_trans low (At lsn (2 * j)) (At lsn (2 * (j + 1))) h (before_pos lsn (2 * j) (2 * (j + 1)) (omega arith))

rise_update : (lsn j : ℕ) (low : Offset) (key : List ℕ) (cs : List Cell) (more : List Entry) → is_before low (At lsn (2 * j)) ≡ true → RisesOn lsn j more → rises_after low (update_at lsn (2 * j) key cs ++ more) ≡ true
rise_update lsn j low key [] more h k = k low (skip lsn j low h)
rise_update lsn j low key (c ∷ cs) more h k = and_from _ _ h (k (At lsn (2 * j)) (before_pos lsn (2 * j) (2 * (j + 1)) (omega arith)))

rise_both : (lsn j : ℕ) (low : Offset) (o n : Keyed) (b : Bool) (more : List Entry) → same_text o.0 n.0 ≡ b → is_before low (At lsn (2 * j)) ≡ true → RisesOn lsn j more → rises_after low (entries_of lsn j (Some o) (Some n) ++ more) ≡ true
rise_both lsn j low o n true more e h k = rw e (rise_update lsn j low n.0 (differing o.1 n.1) more h k)
rise_both lsn j low o n false more e h k = rw e (and_from _ _ h (and_from _ _ (before_pos lsn (2 * j) (2 * j + 1) (omega arith)) (k (At lsn (2 * j + 1)) (before_pos lsn (2 * j + 1) (2 * (j + 1)) (omega arith)))))

rise_entries : (lsn j : ℕ) (low : Offset) (o n : Option Keyed) (more : List Entry) → is_before low (At lsn (2 * j)) ≡ true → RisesOn lsn j more → rises_after low (entries_of lsn j o n ++ more) ≡ true
rise_entries lsn j low None None more h k = k low (skip lsn j low h)
rise_entries lsn j low None (Some n) more h k = and_from _ _ h (k (At lsn (2 * j)) (before_pos lsn (2 * j) (2 * (j + 1)) (omega arith)))
rise_entries lsn j low (Some o) None more h k = and_from _ _ h (k (At lsn (2 * j)) (before_pos lsn (2 * j) (2 * (j + 1)) (omega arith)))
rise_entries lsn j low (Some o) (Some n) more h k = rise_both lsn j low o n (same_text o.0 n.0) more refl h k

rise_if : (s : Knows) (lsn j : ℕ) (low : Offset) (x : Own) (b : Bool) (rest : List Own) (more : List Entry) → x.number ≡ j → is_before low (At lsn (2 * j)) ≡ true → RisesOn lsn j (flat_map (emit s lsn) rest ++ more) → rises_after low (flat_map (emit s lsn) (if b then x ∷ rest else rest) ++ more) ≡ true
rise_if s lsn j low x true rest more is h k = subst (λ es. rises_after low es ≡ true) (sym (append_assoc {A = Entry} (emit s lsn x) (flat_map (emit s lsn) rest) more))
    (rise_entries lsn x.number low (pick s (old_of x.kind)) (pick s (new_of x.kind)) _ (subst (λ i. is_before low (At lsn (2 * i)) ≡ true) (sym is) h) (subst (λ i. RisesOn lsn i (flat_map (emit s lsn) rest ++ more)) (sym is) k))
rise_if s lsn j low x false rest more is h k = k low (skip lsn j low h)

rise_own_of : (s : Knows) (t lsn j : ℕ) (low : Offset) (kind : ChangeKind) (d : Option TableDef) (rest : List Own) (more : List Entry) → is_before low (At lsn (2 * j)) ≡ true → RisesOn lsn j (flat_map (emit s lsn) rest ++ more) → rises_after low (flat_map (emit s lsn) (own_of t j kind d rest) ++ more) ≡ true
rise_own_of s t lsn j low kind None rest more h k = k low (skip lsn j low h)
rise_own_of s t lsn j low kind (Some d) rest more h k = rise_if s lsn j low (record { number = j; definition = d; kind = kind }) (d.table == t) rest more refl h k

rise_own : (s : Knows) (t lsn : ℕ) (defs : List TableDef) (j : ℕ) (cs : List Change) (low : Offset) (more : List Entry) → is_before low (At lsn (2 * j)) ≡ true → ((o : Offset) → lsn_of o ≤ lsn → rises_after o more ≡ true) → rises_after low (flat_map (emit s lsn) (own_from t defs j cs) ++ more) ≡ true
rise_own s t lsn defs j [] low more h k = k low (lsn_before low lsn (2 * j) h)
rise_own s t lsn defs j (c ∷ cs) low more h k = rise_own_of s t lsn j low c.kind (slice_get defs c.def) (own_from t defs (j + 1) cs) more h (λ o before. rise_own s t lsn defs (j + 1) cs o more before k)

stop_or_rise : (b : Bool) (o : Offset) (es : List Entry) → rises_after o es ≡ true → rises_after o (if b then [] else es) ≡ true
stop_or_rise true o es h = refl
stop_or_rise false o es h = h

rise_later : (s : Knows) (ss : List Step) (base : ℕ) → RiseFrom base ss → (o : Offset) → lsn_of o ≤ base → rises_after o (later s ss) ≡ true
rise_later s [] base h o le = refl
rise_later s (Commit tx ∷ ss) base h o le = stop_or_rise (list_any (stops s) (changes_of s.definition.table tx)) o _
    (rise_own s s.definition.table tx.lsn tx.defs 0 tx.changes o (later s ss) (before_lsn o tx.lsn (2 * 0) (omega (arith, h.0, le))) (λ x less. rise_later s ss tx.lsn h.1 x less))
rise_later s (Define d rows ∷ ss) base h o le = rise_later s ss base h o le

pub whole_rises : (h : History) (s : Knows) (snapshot : Table) (k : ℕ) → RiseFrom 0 h.steps → rises_after (At 0 0) (start_from 1 (shown s snapshot) ++ later s (drop k h.steps)) ≡ true
whole_rises h s snapshot k rise = rise_start 0 (shown s snapshot) (later s (drop k h.steps)) (λ o le. rise_later s (drop k h.steps) 0 (rise_past k 0 h.steps rise) o le)

pub offsets_rise : OffsetsRise
offsets_rise h s snapshot k n good =
    let front = log_front h s snapshot k n in
    rises_front (At 0 0) (log_of h s snapshot k n) front.more (subst (λ es. rises_after (At 0 0) es ≡ true) front.is (whole_rises h s snapshot k good.rise))

-- ---- over a list of commits

pub commits_rise : (s : Knows) (txs : List Tx) (base : ℕ) → LsnsRise base txs → (o : Offset) → lsn_of o ≤ base → rises_after o (entries_past s txs) ≡ true
commits_rise s [] base h o le = refl
commits_rise s (tx ∷ txs) base h o le = stop_or_rise (list_any (stops s) (changes_of s.definition.table tx)) o _
    (rise_own s s.definition.table tx.lsn tx.defs 0 tx.changes o (entries_past s txs) (before_lsn o tx.lsn (2 * 0) (omega (arith, h.0, le))) (λ x less. commits_rise s txs tx.lsn h.1 x less))

from_less : (a b : ℕ) (txs : List Tx) → a ≤ b → LsnsRise b txs → LsnsRise a txs
from_less a b [] le h = tt
from_less a b (tx ∷ txs) le h = (omega (arith, h.0, le), h.1)

unseen_if : (v : Visibility) (tx : Tx) (txs : List Tx) (base : ℕ) (b : Bool) → LsnsRise base (tx ∷ txs) → LsnsRise tx.lsn (unseen v txs) → LsnsRise base (if b then unseen v txs else tx ∷ txs)
unseen_if v tx txs base true h rest = from_less base tx.lsn (unseen v txs) (omega (arith, h.0)) rest
unseen_if v tx txs base false h rest = h

pub unseen_rise : (v : Visibility) (txs : List Tx) (base : ℕ) → LsnsRise base txs → LsnsRise base (unseen v txs)
unseen_rise v [] base h = tt
unseen_rise v (tx ∷ txs) base h = unseen_if v tx txs base (is_visible v tx.xid) h (unseen_rise v txs tx.lsn h.1)

-- The log over a snapshot and commits whose LSNs rise has offsets that rise.
pub over_rises : (s : Knows) (v : Visibility) (snapshot : Table) (txs : List Tx) → LsnsRise 0 txs → rises_after (At 0 0) (log_over s v snapshot txs) ≡ true
over_rises s v snapshot txs h = rise_start 0 (shown s snapshot) (entries_past s (unseen v txs)) (λ o le. commits_rise s (unseen v txs) 0 (unseen_rise v txs 0 h) o le)
