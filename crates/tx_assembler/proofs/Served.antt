-- The definitions of a transaction stay of served tables, with few columns, while it grows.
use Rattle.std.proofs.Common.{◌≡◌, ℕ, ◌+◌, ◌<◌, Bool, true, false, cond, List, [], ◌∷◌, ◌++◌, length, sym, ap, subst, suc, arith, None, Some, Ok, Option}
use Rattle.std.specs.Prelude.{if◌then◌else◌, IfSome}
use Rattle.std.specs.List.{AllByRecursion}
use Rattle.std.specs.Option.{option_map}
use Rattle.std.specs.Ordering.{nat_cmp, eq_by_cmp}
use Rattle.std.specs.FinMap as map
use Rattle.std.specs.FinMap.{get-insert, get-empty}
use Rattle.std.specs.Cmp.{nat_cmp_total}
use Rattle.shape_base.specs.declared.change.Tx.{Tx}
use Rattle.shape_base.specs.declared.change.ChangeKind.{ChangeKind}
use Rattle.shape_base.specs.declared.change.ChangeKind.TheVariants as kinds
use Rattle.shape_base.specs.declared.definition.Column.{Column}
use Rattle.shape_base.specs.declared.definition.TableDef.{TableDef}
use Rattle.shape_base.specs.declared.served.Served.{Served}
use Rattle.pgout.specs.declared.message.ColumnSent.{ColumnSent}
use Rattle.pgout.specs.declared.message.Message.{Message}
use Rattle.pgout.specs.declared.message.Message.TheVariants.{Begin, Logical, Commit, Origin, Relation, TypeName, Insert, Update, Delete, Truncate}
use Rattle.relation_cache.specs.declared.relation.Relation as described
use Rattle.relation_cache.specs.Relations.{ByOid}
use Rattle.tx_assembler.specs.Answers.{Answer, next}
use Rattle.tx_assembler.specs.Rows.{text_of, namespace_of, columns_of, relation_of}
use Rattle.tx_assembler.specs.Kept.{DefinedChange, place_where, is_named, table_named, definition_of, target_of, change_under, inserted, updated, deleted, truncated, changes_of, bytes_kept, place_of_definition, with_change_at, with_change, with_changes, with_bytes}
use Rattle.tx_assembler.specs.Feeding.{within_limit, grown, taken_by}
use Rattle.tx_assembler.specs.Served.{IsServed, AreServed, IsNarrow, AreNarrow}
use Rattle.tx_assembler.proofs.Wholes.{not_err, said, through}

-- ---- relations

columns_count : (cs : List ColumnSent) (made : List Column) → columns_of cs ≡ Ok made → length made ≡ length cs
columns_count [] made h = said (λ (xs : List Column). length xs ≡ 0) [] made h (omega arith)
columns_count (c ∷ cs) made h =
    through (λ name. Unit {0}) (λ (xs : List Column). length xs ≡ length (c ∷ cs)) (text_of c.name) (λ name. next (columns_of cs) (λ xs. Ok (record { name = name; oid = c.oid } ∷ xs))) (λ name e. tt)
    (λ name u xs e. through (λ (ys : List Column). length ys ≡ length cs) (λ (ys : List Column). length ys ≡ length (c ∷ cs)) (columns_of cs) (λ ys. Ok (record { name = name; oid = c.oid } ∷ ys)) (columns_count cs)
    (λ ys p xs g. said (λ (zs : List Column). length zs ≡ length (c ∷ cs)) (record { name = name; oid = c.oid } ∷ ys) xs g (ap suc p)) xs e) made h

-- a relation has as many columns as its message
pub relation_narrow : (oid : ℕ) (ns name : List ℕ) (columns : List ColumnSent) (r : described.Relation) → length columns < 65536 → relation_of oid ns name columns ≡ Ok r → IsNarrow r
relation_narrow oid ns name columns r few h =
    through (λ ns. Unit {0}) IsNarrow (text_of (namespace_of ns)) (λ ns. next (text_of name) (λ name. next (columns_of columns) (λ made. Ok (record { oid = oid; ns = ns; name = name; columns = made })))) (λ ns e. tt)
    (λ ns u r h. through (λ name. Unit {0}) IsNarrow (text_of name) (λ name. next (columns_of columns) (λ made. Ok (record { oid = oid; ns = ns; name = name; columns = made }))) (λ name e. tt)
    (λ name u r h. through (λ (made : List Column). length made < 65536) IsNarrow (columns_of columns) (λ made. Ok (record { oid = oid; ns = ns; name = name; columns = made })) (λ made e. omega (arith, columns_count columns made e, few))
    (λ made p r h. said IsNarrow (record { oid = oid; ns = ns; name = name; columns = made }) r h p) r h) r h) r h

narrow_one : (r : described.Relation) (before : Option described.Relation) (b : Bool) → IsNarrow r → IfSome before IsNarrow → IfSome (cond b (Some r) before) IsNarrow
narrow_one r before true n h = n
narrow_one r before false n h = h

pub narrow_put : (relations : ByOid) (r : described.Relation) → AreNarrow relations → IsNarrow r → AreNarrow (map.insert relations r.oid r)
narrow_put relations r h n oid =
    subst (λ (x : Option described.Relation). IfSome x IsNarrow) (sym (get-insert nat_cmp_total relations r.oid r oid)) (narrow_one r (map.get relations oid) (eq_by_cmp nat_cmp oid r.oid) n (h oid))

pub narrow_none : AreNarrow map.empty
narrow_none oid = subst (λ (x : Option described.Relation). IfSome x IsNarrow) (sym (get-empty nat_cmp oid)) tt

-- ---- the definition of a table

within_turn : (count : ℕ) (b : Bool) (place : Option ℕ) → IfSome place (λ p. p < count) → IfSome (if b then Some 0 else option_map (λ p. p + 1) place) (λ p. p < suc count)
within_turn count true place h = omega arith
within_turn count false None h = tt
within_turn count false (Some p) h = omega (arith, h)

place_within : {A : Type 0} (passes : A → Bool) (xs : List A) → IfSome (place_where passes xs) (λ p. p < length xs)
place_within passes [] = tt
place_within passes (x ∷ xs) = within_turn (length xs) (passes x) (place_where passes xs) (place_within passes xs)

definition_so : (tables : List Served) (r : described.Relation) (place : Option ℕ) → IsNarrow r → IfSome place (λ p. p < length tables) → IfSome (option_map (λ t. record { table = t; oid = r.oid; columns = r.columns }) place) (IsServed tables)
definition_so tables r None n h = tt
definition_so tables r (Some p) n h = record { served = h; few = n }

-- what a table's changes come under
abbrev IsTarget : List Served → Option (Option TableDef) → Type 0
IsTarget tables target = IfSome target (λ d. IfSome d (IsServed tables))

target_so : (tables : List Served) (r : Option described.Relation) → IfSome r IsNarrow → IsTarget tables (option_map (definition_of tables) r)
target_so tables None n = tt
target_so tables (Some r) n = definition_so tables r (table_named tables r.ns r.name) n (place_within (is_named r.ns r.name) tables)

targets_so : (tables : List Served) (relations : ByOid) → AreNarrow relations → (oid : ℕ) → IsTarget tables (target_of tables (map.get relations) oid)
targets_so tables relations n oid = target_so tables (map.get relations oid) (n oid)

-- ---- the changes that a message brings

abbrev IsOfServed : List Served → DefinedChange → Type 0
IsOfServed tables c = IsServed tables c.definition

all_append : {A : Type 0} (P : A → Type 0) (xs ys : List A) → AllByRecursion P xs → AllByRecursion P ys → AllByRecursion P (xs ++ ys)
all_append P [] ys h k = k
all_append P (x ∷ xs) ys h k = (h.0, all_append P xs ys h.1 k)

module _ (tables : List Served) where
  one_served : (oid : ℕ) (target : Option (Option TableDef)) (kind : TableDef → Answer ChangeKind) (cs : List DefinedChange) → IsTarget tables target → change_under oid target kind ≡ Ok cs → AllByRecursion (IsOfServed tables) cs
  one_served oid None kind cs t h = absurd (not_err _ cs h)
  one_served oid (Some None) kind cs t h = said (AllByRecursion (IsOfServed tables)) [] cs h tt
  one_served oid (Some (Some d)) kind cs t h =
      through (λ k. Unit {0}) (AllByRecursion (IsOfServed tables)) (kind d) (λ k. Ok (record { definition = d; kind = k } ∷ [])) (λ k e. tt)
      (λ k u cs g. said (AllByRecursion (IsOfServed tables)) (record { definition = d; kind = k } ∷ []) cs g (t, tt)) cs h

  none_served : (cs : List DefinedChange) → ◌≡◌ {A = Answer (List DefinedChange)} (Ok []) (Ok cs) → AllByRecursion (IsOfServed tables) cs
  none_served cs h = said (AllByRecursion (IsOfServed tables)) [] cs h tt

  module _ (target : ℕ → Option (Option TableDef)) (each : (oid : ℕ) → IsTarget tables (target oid)) where
    truncated_served : (oids : List ℕ) (cs : List DefinedChange) → truncated target oids ≡ Ok cs → AllByRecursion (IsOfServed tables) cs
    truncated_served [] cs h = none_served cs h
    truncated_served (oid ∷ oids) cs h =
        through (AllByRecursion (IsOfServed tables)) (AllByRecursion (IsOfServed tables)) (change_under oid (target oid) (λ d. Ok kinds.Truncate)) (λ a. next (truncated target oids) (λ b. Ok (a ++ b)))
        (λ a e. one_served oid (target oid) (λ d. Ok kinds.Truncate) a (each oid) e)
        (λ a p cs g. through (AllByRecursion (IsOfServed tables)) (AllByRecursion (IsOfServed tables)) (truncated target oids) (λ b. Ok (a ++ b)) (truncated_served oids)
        (λ b q cs g. said (AllByRecursion (IsOfServed tables)) (a ++ b) cs g (all_append (IsOfServed tables) a b p q)) cs g) cs h

    changes_served : (m : Message) (cs : List DefinedChange) → changes_of target m ≡ Ok cs → AllByRecursion (IsOfServed tables) cs
    changes_served (Insert oid row) cs h = one_served oid (target oid) (inserted row) cs (each oid) h
    changes_served (Update oid before row) cs h = one_served oid (target oid) (updated oid before row) cs (each oid) h
    changes_served (Delete oid before) cs h = one_served oid (target oid) (deleted oid before) cs (each oid) h
    changes_served (Truncate options oids) cs h = truncated_served oids cs h
    changes_served (Begin lsn time xid) cs h = none_served cs h
    changes_served (Logical flags lsn prefix content) cs h = none_served cs h
    changes_served (Commit flags lsn end time) cs h = none_served cs h
    changes_served (Origin lsn name) cs h = none_served cs h
    changes_served (Relation oid ns name identity columns) cs h = none_served cs h
    changes_served (TypeName oid ns name) cs h = none_served cs h

  -- ---- the transaction after a message

  defs_at : (tx : Tx) (c : DefinedChange) (place : Option ℕ) → AreServed tables tx.defs → IsOfServed tables c → AreServed tables (with_change_at tx c place).defs
  defs_at tx c (Some p) h k = h
  defs_at tx c None h k = all_append (IsServed tables) tx.defs (c.definition ∷ []) h (k, tt)

  defs_with : (tx : Tx) (cs : List DefinedChange) → AreServed tables tx.defs → AllByRecursion (IsOfServed tables) cs → AreServed tables (with_changes tx cs).defs
  defs_with tx [] h k = h
  defs_with tx (c ∷ cs) h k = defs_with (with_change tx c) cs (defs_at tx c (place_of_definition tx.defs c.definition) h k.0) k.1

  defs_grown : (tx : Tx) (more : ℕ) (cs : List DefinedChange) (new : Tx) → AreServed tables tx.defs → AllByRecursion (IsOfServed tables) cs → grown tx more cs ≡ Ok new → AreServed tables new.defs
  defs_grown tx more cs new h k g =
      through (λ bytes. Unit {0}) (λ (t : Tx). AreServed tables t.defs) (within_limit (tx.bytes + more)) (λ bytes. Ok (with_bytes (with_changes tx cs) bytes)) (λ bytes e. tt)
      (λ bytes u new g. said (λ (t : Tx). AreServed tables t.defs) (with_bytes (with_changes tx cs) bytes) new g (defs_with tx cs h k)) new g

  -- with each message
  served_taken : (tx : Tx) (m : Message) (target : ℕ → Option (Option TableDef)) (new : Tx) → ((oid : ℕ) → IsTarget tables (target oid)) → AreServed tables tx.defs → taken_by tx m target ≡ Ok new → AreServed tables new.defs
  served_taken tx m target new each h g =
      through (AllByRecursion (IsOfServed tables)) (λ (t : Tx). AreServed tables t.defs) (changes_of target m) (λ cs. grown tx (bytes_kept m cs) cs) (changes_served target each m)
      (λ cs p new g. defs_grown tx (bytes_kept m cs) cs new h p g) new g

pub served_on : (tables now : List Served) (relations : ByOid) (tx : Tx) (m : Message) (new : Tx) → now ≡ tables → AreNarrow relations → AreServed tables tx.defs → taken_by tx m (target_of now (map.get relations)) ≡ Ok new → AreServed tables new.defs
served_on tables now relations tx m new is n h g =
    served_taken tables tx m (target_of tables (map.get relations)) new (targets_so tables relations n) h (subst (λ (ts : List Served). taken_by tx m (target_of ts (map.get relations)) ≡ Ok new) is g)
