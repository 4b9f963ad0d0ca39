-- A transaction stays whole while it grows.
use Rattle.std.proofs.Common.{◌≡◌, ℕ, zero, suc, ◌+◌, ◌≤◌, Bool, true, false, List, [], ◌∷◌, ◌++◌, length, refl, sym, ap, subst, ◌∙◌, arith, add-one, length-append, None, Some, Ok, Err, Option}
use Rattle.std.proofs.lemmas.Bool.Decides.{Decides-eqb}
use Rattle.std.specs.Prelude.{nat_le, ◌||◌, slice_get, IfSome, if◌then◌else◌, ◌==◌}
use Rattle.std.specs.List.{list_any, AllByRecursion}
use Rattle.std.specs.Option.{option_map, IsSomeAnd}
use Rattle.shape_base.proofs.Lemmas.{Decides-same_def}
use Rattle.shape_base.specs.declared.definition.TableDef.{TableDef}
use Rattle.shape_base.specs.declared.change.Change.{Change}
use Rattle.shape_base.specs.declared.change.ChangeKind.{ChangeKind}
use Rattle.shape_base.specs.declared.change.ChangeKind.TheVariants as kinds
use Rattle.shape_base.specs.declared.change.Tx.{Tx}
use Rattle.shape_base.specs.Tables.{Values, same_def}
use Rattle.pgout.specs.declared.message.Field.{Field}
use Rattle.pgout.specs.declared.message.Before.{Before}
use Rattle.pgout.specs.declared.message.Before.TheVariants.{Absent, Key, Whole}
use Rattle.pgout.specs.declared.message.Message.{Message}
use Rattle.pgout.specs.declared.message.Message.TheVariants.{Begin, Logical, Commit, Origin, Relation, TypeName, Insert, Update, Delete, Truncate}
use Rattle.tx_assembler.specs.declared.answer.AssembleError.{AssembleError}
use Rattle.tx_assembler.specs.declared.answer.AssembleError.TheVariants as errors
use Rattle.tx_assembler.specs.Answers.{Answer, next}
use Rattle.tx_assembler.specs.Rows.{value_of, values_of, row_of}
use Rattle.tx_assembler.specs.Kept.{DefinedChange, place_of_definition, with_change_at, with_change, with_changes, with_bytes, change_under, inserted, update_of, updated, delete_of, deleted, truncated, changes_of, bytes_of_some, bytes_kept}
use Rattle.pgout.specs.Grammar.{spelled}
use Rattle.std.proofs.lemmas.Bool.{leb-true}
use Rattle.tx_assembler.specs.Feeding.{within_limit, grown, taken_by, empty_tx, ended}
use Rattle.tx_assembler.proofs.Targets.{truncate_size}
use Rattle.tx_assembler.specs.Whole.{most_bytes, AreOnce, IsAssembled}
use Rattle.shape_base.specs.Transactions.{IsAsWide, IsUnder}

-- ---- answers

abbrev IsErrs : {A : Type 0} → Answer A → Type 0
IsErrs (Ok x) = ⊥
IsErrs (Err e) = Unit {0}

pub not_err : {A : Type 0} (e : AssembleError) (x : A) → ◌≡◌ {A = Answer A} (Err e) (Ok x) → ⊥
not_err e x h = subst IsErrs h tt

abbrev taken_out : {A : Type 0} → A → Answer A → A
taken_out y (Ok x) = x
taken_out y (Err e) = y

ok_is : {A : Type 0} (x y : A) → ◌≡◌ {A = Answer A} (Ok x) (Ok y) → x ≡ y
ok_is x y h = ap (taken_out x) h

-- what follows an answer holds, where it holds of each value that the answer may be
pub through : {A B : Type 0} (P : A → Type 0) (Q : B → Type 0) (a : Answer A) (f : A → Answer B) → ((x : A) → a ≡ Ok x → P x) → ((x : A) → P x → (y : B) → f x ≡ Ok y → Q y) → (y : B) → next a f ≡ Ok y → Q y
through P Q (Ok x) f p q y h = q x (p x refl) y h
through P Q (Err e) f p q y h = absurd (not_err e y h)

pub said : {A : Type 0} (P : A → Type 0) (x y : A) → ◌≡◌ {A = Answer A} (Ok x) (Ok y) → P x → P y
said P x y h p = subst P (ok_is x y h) p

-- ---- widths

values_wide : (before : Values) (column : ℕ) (fields : List Field) (vs : Values) → values_of before column fields ≡ Ok vs → length vs ≡ length fields
values_wide before column [] vs h = said (λ (ws : Values). length ws ≡ 0) [] vs h refl
values_wide before column (f ∷ fs) vs h =
    through (λ v. Unit {0}) (λ (ws : Values). length ws ≡ length (f ∷ fs)) (value_of before column f) (λ v. next (values_of before (column + 1) fs) (λ ws. Ok (v ∷ ws))) (λ v e. tt)
    (λ v u ws e. through (λ (xs : Values). length xs ≡ length fs) (λ (ys : Values). length ys ≡ length (f ∷ fs)) (values_of before (column + 1) fs) (λ xs. Ok (v ∷ xs)) (values_wide before (column + 1) fs)
    (λ xs p ys g. said (λ (zs : Values). length zs ≡ length (f ∷ fs)) (v ∷ xs) ys g (ap suc p)) ws e) vs h

row_turn : (width : ℕ) (before : Values) (fields : List Field) (vs : Values) (b : Bool) → (b ≡ true → length fields ≡ width)
    → (if b then values_of before 0 fields else Err (errors.WrongWidth (length fields) width)) ≡ Ok vs → length vs ≡ width
row_turn width before fields vs true t h = values_wide before 0 fields vs h ∙ t refl
row_turn width before fields vs false t h = absurd (not_err _ vs h)

row_wide : (width : ℕ) (before : Values) (fields : List Field) (vs : Values) → row_of width before fields ≡ Ok vs → length vs ≡ width
row_wide width before fields vs h = row_turn width before fields vs (length fields == width) (λ t. (Decides-eqb (length fields) width).0 t) h

-- ---- the changes that a message brings

abbrev IsWide : DefinedChange → Type 0
IsWide c = IsAsWide c.definition c.kind

inserted_wide : (row : List Field) (d : TableDef) (k : ChangeKind) → inserted row d ≡ Ok k → IsAsWide d k
inserted_wide row d k h =
    through (λ (vs : Values). length vs ≡ length d.columns) (IsAsWide d) (row_of (length d.columns) [] row) (λ new. Ok (kinds.Insert new)) (row_wide (length d.columns) [] row)
    (λ vs p k g. said (IsAsWide d) (kinds.Insert vs) k g p) k h

update_wide : (old row : List Field) (d : TableDef) (k : ChangeKind) → update_of old row d ≡ Ok k → IsAsWide d k
update_wide old row d k h =
    through (λ (vs : Values). length vs ≡ length d.columns) (IsAsWide d) (row_of (length d.columns) [] old) (λ old. next (row_of (length d.columns) old row) (λ new. Ok (kinds.Update old new))) (row_wide (length d.columns) [] old)
    (λ vs p k g. through (λ (ws : Values). length ws ≡ length d.columns) (IsAsWide d) (row_of (length d.columns) vs row) (λ new. Ok (kinds.Update vs new)) (row_wide (length d.columns) vs row)
    (λ ws q k g. said (IsAsWide d) (kinds.Update vs ws) k g (p, q)) k g) k h

updated_wide : (oid : ℕ) (before : Before) (row : List Field) (d : TableDef) (k : ChangeKind) → updated oid before row d ≡ Ok k → IsAsWide d k
updated_wide oid Absent row d k h = absurd (not_err _ k h)
updated_wide oid (Key old) row d k h = absurd (not_err _ k h)
updated_wide oid (Whole old) row d k h = update_wide old row d k h

delete_wide : (old : List Field) (d : TableDef) (k : ChangeKind) → delete_of old d ≡ Ok k → IsAsWide d k
delete_wide old d k h =
    through (λ (vs : Values). length vs ≡ length d.columns) (IsAsWide d) (row_of (length d.columns) [] old) (λ old. Ok (kinds.Delete old)) (row_wide (length d.columns) [] old)
    (λ vs p k g. said (IsAsWide d) (kinds.Delete vs) k g p) k h

deleted_wide : (oid : ℕ) (before : Before) (d : TableDef) (k : ChangeKind) → deleted oid before d ≡ Ok k → IsAsWide d k
deleted_wide oid Absent d k h = absurd (not_err _ k h)
deleted_wide oid (Key old) d k h = absurd (not_err _ k h)
deleted_wide oid (Whole old) d k h = delete_wide old d k h

-- changes that are wide, and no more of them than so many
pub record AreKept (most : ℕ) (cs : List DefinedChange) : Type 0 where
  pub wide : AllByRecursion IsWide cs
  pub few : length cs ≤ most

one_kept : (oid : ℕ) (target : Option (Option TableDef)) (kind : TableDef → Answer ChangeKind) → ((d : TableDef) (k : ChangeKind) → kind d ≡ Ok k → IsAsWide d k) → (cs : List DefinedChange) → change_under oid target kind ≡ Ok cs → AreKept 1 cs
one_kept oid None kind w cs h = absurd (not_err _ cs h)
one_kept oid (Some None) kind w cs h = said (AreKept 1) [] cs h (record { wide = tt; few = omega arith })
one_kept oid (Some (Some d)) kind w cs h =
    through (IsAsWide d) (AreKept 1) (kind d) (λ k. Ok (record { definition = d; kind = k } ∷ [])) (w d)
    (λ k p cs g. said (AreKept 1) (record { definition = d; kind = k } ∷ []) cs g (record { wide = (p, tt); few = omega arith })) cs h

both_kept : (m n : ℕ) (a b : List DefinedChange) → AreKept m a → AreKept n b → AreKept (m + n) (a ++ b)
both_kept m n [] b h k = record { wide = k.wide; few = omega (arith, k.few) }
both_kept m n (c ∷ a) b h k =
    let rest = both_kept (length a) n a b (record { wide = h.wide.1; few = omega arith }) k in
    record { wide = (h.wide.0, rest.wide); few = omega (arith, h.few, rest.few) }

truncated_kept : (target : ℕ → Option (Option TableDef)) (oids : List ℕ) (cs : List DefinedChange) → truncated target oids ≡ Ok cs → AreKept (length oids) cs
truncated_kept target [] cs h = said (AreKept 0) [] cs h (record { wide = tt; few = omega arith })
truncated_kept target (oid ∷ oids) cs h =
    through (AreKept 1) (AreKept (length (oid ∷ oids))) (change_under oid (target oid) (λ d. Ok kinds.Truncate)) (λ a. next (truncated target oids) (λ b. Ok (a ++ b)))
    (one_kept oid (target oid) (λ d. Ok kinds.Truncate) (λ d k e. said (IsAsWide d) kinds.Truncate k e tt))
    (λ a p cs g. through (AreKept (length oids)) (AreKept (length (oid ∷ oids))) (truncated target oids) (λ b. Ok (a ++ b)) (truncated_kept target oids)
    (λ b q cs g. said (AreKept (length (oid ∷ oids))) (a ++ b) cs g (let both = both_kept 1 (length oids) a b p q in record { wide = both.wide; few = omega (arith, both.few) })) cs g) cs h

-- ---- the transaction with a change more

abbrev Finds : List TableDef → ChangeKind → ℕ → Type 0
Finds defs kind p = IsSomeAnd (slice_get defs p) (λ d. IsAsWide d kind)

found_turn : (e : TableDef) (defs : List TableDef) (d : TableDef) (kind : ChangeKind) (b : Bool) (place : Option ℕ) → same_def e d ≡ b → IsAsWide d kind → IfSome place (Finds defs kind)
    → IfSome (if b then Some 0 else option_map (λ p. p + 1) place) (Finds (e ∷ defs) kind)
found_turn e defs d kind true place t w f = subst (λ x. IsAsWide x kind) (sym ((Decides-same_def e d).0 t)) w
found_turn e defs d kind false None t w f = tt
found_turn e defs d kind false (Some p) t w f = rw add-one f

found : (defs : List TableDef) (d : TableDef) (kind : ChangeKind) → IsAsWide d kind → IfSome (place_of_definition defs d) (Finds defs kind)
found [] d kind w = tt
found (e ∷ defs) d kind w = found_turn e defs d kind (same_def e d) (place_of_definition defs d) refl w (found defs d kind w)

under_more : (defs more : List TableDef) (kind : ChangeKind) (p : ℕ) → Finds defs kind p → Finds (defs ++ more) kind p
under_more [] more kind p h = absurd h
under_more (d ∷ defs) more kind zero h = h
under_more (d ∷ defs) more kind (suc p) h = under_more defs more kind p h

all_more : (defs more : List TableDef) (cs : List Change) → AllByRecursion (IsUnder defs) cs → AllByRecursion (IsUnder (defs ++ more)) cs
all_more defs more [] h = tt
all_more defs more (c ∷ cs) h = (under_more defs more c.kind c.def h.0, all_more defs more cs h.1)

all_last : (defs : List TableDef) (cs : List Change) (c : Change) → AllByRecursion (IsUnder defs) cs → IsUnder defs c → AllByRecursion (IsUnder defs) (cs ++ c ∷ [])
all_last defs [] c h k = (k, tt)
all_last defs (x ∷ cs) c h k = (h.0, all_last defs cs c h.1 k)

finds_last : (defs : List TableDef) (d : TableDef) (kind : ChangeKind) → IsAsWide d kind → Finds (defs ++ d ∷ []) kind (length defs)
finds_last [] d kind w = w
finds_last (e ∷ defs) d kind w = finds_last defs d kind w

abbrev IsNones : {A : Type 0} → Option A → Type 0
IsNones None = Unit {0}
IsNones (Some x) = ⊥

nowhere_turn : (e d : TableDef) (place : Option ℕ) (b : Bool) → IsNones (if b then Some 0 else option_map (λ p. p + 1) place) → (b ≡ false) × IsNones place
nowhere_turn e d place true h = absurd h
nowhere_turn e d None false h = (refl, tt)
nowhere_turn e d (Some p) false h = absurd h

any_turn : (a b c : Bool) → (a || b) ≡ false → (b ≡ false → c ≡ false) → (a || c) ≡ false
any_turn true b c h f = h
any_turn false b c h f = f h

any_last : (d e : TableDef) (ds : List TableDef) → list_any (same_def d) ds ≡ false → same_def d e ≡ false → list_any (same_def d) (ds ++ e ∷ []) ≡ false
any_last d e [] h k = rw k refl
any_last d e (x ∷ ds) h k = any_turn (same_def d x) (list_any (same_def d) ds) (list_any (same_def d) (ds ++ e ∷ [])) h (λ g. any_last d e ds g k)

once_last : (ds : List TableDef) (d : TableDef) → AreOnce ds → IsNones (place_of_definition ds d) → AreOnce (ds ++ d ∷ [])
once_last [] d h n = (refl, tt)
once_last (e ∷ ds) d h n =
    let parts = nowhere_turn e d (place_of_definition ds d) (same_def e d) n in
    (any_last e d ds h.0 parts.0, once_last ds d h.1 parts.1)

-- what stays while a transaction grows
pub record Grows (tx : Tx) : Type 0 where
  pub under : AllByRecursion (IsUnder tx.defs) tx.changes
  pub once : AreOnce tx.defs

grows_at : (tx : Tx) (c : DefinedChange) (place : Option ℕ) → Grows tx → IsWide c → IfSome place (Finds tx.defs c.kind) → (IsNones place → IsNones (place_of_definition tx.defs c.definition)) → Grows (with_change_at tx c place)
grows_at tx c (Some p) g w f n = record { under = all_last tx.defs tx.changes (record { def = p; kind = c.kind }) g.under f; once = g.once }
grows_at tx c None g w f n = record {
  under = all_last (tx.defs ++ c.definition ∷ []) tx.changes (record { def = length tx.defs; kind = c.kind }) (all_more tx.defs (c.definition ∷ []) tx.changes g.under) (finds_last tx.defs c.definition c.kind w);
  once = once_last tx.defs c.definition g.once (n tt);
}

grows : (tx : Tx) (cs : List DefinedChange) → Grows tx → AllByRecursion IsWide cs → Grows (with_changes tx cs)
grows tx [] g w = g
grows tx (c ∷ cs) g w = grows (with_change tx c) cs (grows_at tx c (place_of_definition tx.defs c.definition) g w.0 (found tx.defs c.definition c.kind w.0) (λ n. n)) w.1

count_at : (tx : Tx) (c : DefinedChange) (place : Option ℕ) → length (with_change_at tx c place).changes ≡ length tx.changes + 1
count_at tx c (Some p) = length-append tx.changes (record { def = p; kind = c.kind } ∷ [])
count_at tx c None = length-append tx.changes (record { def = length tx.defs; kind = c.kind } ∷ [])

count : (tx : Tx) (cs : List DefinedChange) → length (with_changes tx cs).changes ≡ length tx.changes + length cs
count tx [] = omega arith
count tx (c ∷ cs) = omega (arith, count (with_change tx c) cs, count_at tx c (place_of_definition tx.defs c.definition))

-- ---- the transaction after a message

few_bytes : (n most : ℕ) (cs : List DefinedChange) → length cs ≤ most → most ≤ n → length cs ≤ bytes_of_some n cs
few_bytes n most [] h k = omega arith
few_bytes n most (c ∷ cs) h k = omega (arith, h, k)

limit_turn : (bytes most out : ℕ) (b : Bool) → (b ≡ true → bytes ≤ most) → (if b then Ok bytes else Err (errors.TxTooLarge bytes most)) ≡ Ok out → (out ≡ bytes) × (bytes ≤ most)
limit_turn bytes most out true t h = (sym (ok_is bytes out h), t refl)
limit_turn bytes most out false t h = absurd (not_err _ out h)

within_is : (bytes out : ℕ) → within_limit bytes ≡ Ok out → (out ≡ bytes) × (bytes ≤ most_bytes)
within_is bytes out h = limit_turn bytes most_bytes out (nat_le bytes most_bytes) (λ t. leb-true bytes most_bytes t) h

whole_with : (tx : Tx) (cs : List DefinedChange) (more out : ℕ) → IsAssembled tx → AllByRecursion IsWide cs → length cs ≤ more → out ≡ tx.bytes + more → out ≤ most_bytes → IsAssembled (with_bytes (with_changes tx cs) out)
unfolding most_bytes
whole_with tx cs more out whole w few is small =
    let g = grows tx cs (record { under = whole.whole.under; once = whole.once }) w in
    let fewer : length (with_changes tx cs).changes ≤ out = omega (arith, count tx cs, whole.few, few, is) in
    record { whole = record { under = g.under; few = omega (arith, fewer, small) }; once = g.once; few = fewer; within = small }

whole_grown : (tx : Tx) (cs : List DefinedChange) (more : ℕ) (new : Tx) → IsAssembled tx → AllByRecursion IsWide cs → length cs ≤ more → grown tx more cs ≡ Ok new → IsAssembled new
whole_grown tx cs more new whole w few h =
    through (λ out. (out ≡ tx.bytes + more) × (tx.bytes + more ≤ most_bytes)) IsAssembled (within_limit (tx.bytes + more)) (λ bytes. Ok (with_bytes (with_changes tx cs) bytes)) (within_is (tx.bytes + more))
    (λ out p new g. said IsAssembled (with_bytes (with_changes tx cs) out) new g (whole_with tx cs more out whole w few p.0 (omega (arith, p.0, p.1)))) new h

whole_by : (tx : Tx) (m : Message) (target : ℕ → Option (Option TableDef)) (most : ℕ) (new : Tx) → IsAssembled tx → ((cs : List DefinedChange) → changes_of target m ≡ Ok cs → AreKept most cs) → most ≤ length (spelled m) → taken_by tx m target ≡ Ok new → IsAssembled new
whole_by tx m target most new whole kept size h =
    through (AreKept most) IsAssembled (changes_of target m) (λ cs. grown tx (bytes_kept m cs) cs) kept
    (λ cs p new g. whole_grown tx cs (bytes_kept m cs) new whole p.wide (few_bytes (length (spelled m)) most cs p.few size) g) new h

nothing_kept : (cs : List DefinedChange) → ◌≡◌ {A = Answer (List DefinedChange)} (Ok []) (Ok cs) → AreKept 0 cs
nothing_kept cs h = said (AreKept 0) [] cs h (record { wide = tt; few = omega arith })

none_kept : (oid : ℕ) (target : Option (Option TableDef)) (kind : TableDef → Answer ChangeKind) → ((d : TableDef) (k : ChangeKind) → kind d ≡ Ok k → ⊥) → (cs : List DefinedChange) → change_under oid target kind ≡ Ok cs → AreKept 0 cs
none_kept oid None kind w cs h = absurd (not_err _ cs h)
none_kept oid (Some None) kind w cs h = nothing_kept cs h
none_kept oid (Some (Some d)) kind w cs h = through (λ k. ⊥) (AreKept 0) (kind d) (λ k. Ok (record { definition = d; kind = k } ∷ [])) (w d) (λ k p cs g. absurd p) cs h

update_size : (oid : ℕ) (before : Before) (row : List Field) → 1 ≤ length (spelled (Update oid before row))
update_size oid Absent row = omega arith
update_size oid (Key old) row = omega arith
update_size oid (Whole old) row = omega arith

-- a transaction stays whole with each message
pub whole_taken : (tx : Tx) (m : Message) (target : ℕ → Option (Option TableDef)) (new : Tx) → IsAssembled tx → taken_by tx m target ≡ Ok new → IsAssembled new
whole_taken tx (Insert oid row) target new whole h = whole_by tx (Insert oid row) target 1 new whole (one_kept oid (target oid) (inserted row) (inserted_wide row)) (omega arith) h
whole_taken tx (Update oid before row) target new whole h = whole_by tx (Update oid before row) target 1 new whole (one_kept oid (target oid) (updated oid before row) (updated_wide oid before row)) (update_size oid before row) h
whole_taken tx (Delete oid Absent) target new whole h = whole_by tx (Delete oid Absent) target 0 new whole (none_kept oid (target oid) (deleted oid Absent) (λ d k e. not_err _ k e)) (omega arith) h
whole_taken tx (Delete oid (Key old)) target new whole h = whole_by tx (Delete oid (Key old)) target 1 new whole (one_kept oid (target oid) (deleted oid (Key old)) (deleted_wide oid (Key old))) (omega arith) h
whole_taken tx (Delete oid (Whole old)) target new whole h = whole_by tx (Delete oid (Whole old)) target 1 new whole (one_kept oid (target oid) (deleted oid (Whole old)) (deleted_wide oid (Whole old))) (omega arith) h
whole_taken tx (Truncate options oids) target new whole h = whole_by tx (Truncate options oids) target (length oids) new whole (truncated_kept target oids) (omega (arith, truncate_size options oids)) h
whole_taken tx (Begin lsn time xid) target new whole h = whole_by tx (Begin lsn time xid) target 0 new whole nothing_kept (omega arith) h
whole_taken tx (Logical flags lsn prefix content) target new whole h = whole_by tx (Logical flags lsn prefix content) target 0 new whole nothing_kept (omega arith) h
whole_taken tx (Commit flags lsn end time) target new whole h = whole_by tx (Commit flags lsn end time) target 0 new whole nothing_kept (omega arith) h
whole_taken tx (Origin lsn name) target new whole h = whole_by tx (Origin lsn name) target 0 new whole nothing_kept (omega arith) h
whole_taken tx (Relation oid ns name identity columns) target new whole h = whole_by tx (Relation oid ns name identity columns) target 0 new whole nothing_kept (omega arith) h
whole_taken tx (TypeName oid ns name) target new whole h = whole_by tx (TypeName oid ns name) target 0 new whole nothing_kept (omega arith) h

-- a transaction that begins is whole
pub whole_empty : (lsn xid : ℕ) → IsAssembled (empty_tx lsn xid)
unfolding most_bytes
whole_empty lsn xid = record { whole = record { under = tt; few = omega arith }; once = tt; few = omega arith; within = omega arith }

-- a transaction that ends stays whole
pub whole_ended : (tx : Tx) (end : ℕ) → IsAssembled tx → IsAssembled (ended tx end)
whole_ended tx end whole = record { whole = record { under = whole.whole.under; few = whole.whole.few }; once = whole.once; few = whole.few; within = whole.within }
