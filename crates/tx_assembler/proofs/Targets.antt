-- What a message's table leads to.
use Rattle.std.proofs.lemmas.Bool.{le-leb}
use Rattle.std.proofs.lemmas.List.{append-nil}
use Rattle.std.proofs.Common.{◌≡◌, ℕ, Result, ◌*◌, ◌+◌, ◌<◌, ◌≤◌, take, append_assoc, Bool, true, false, List, [], ◌∷◌, ◌++◌, length, refl, sym, ap, subst, ◌∙◌, arith, None, Some, Ok, Err, Option}
use Rattle.std.specs.Option.{option_map}
use Rattle.std.specs.Prelude.{if◌then◌else◌, ◌||◌, nat_le}
use Rattle.shape_base.specs.declared.definition.TableDef.{TableDef}
use Rattle.shape_base.specs.declared.change.ChangeKind.{ChangeKind}
use Rattle.shape_base.specs.declared.change.ChangeKind.TheVariants as kinds
use Rattle.shape_base.specs.declared.change.Change.{Change}
use Rattle.shape_base.specs.declared.change.Tx.{Tx}
use Rattle.shape_base.specs.declared.served.Served.{Served}
use Rattle.pgout.specs.declared.message.Message.{Message}
use Rattle.std.specs.List.{flat_map}
use Rattle.byte_format.specs.Format.{int32}
use Rattle.pgout.specs.declared.message.Message.TheVariants as messages
use Rattle.pgout.specs.Grammar.{spelled}
use Rattle.relation_cache.specs.declared.relation.Relation as described
use Rattle.tx_assembler.specs.declared.answer.AssembleError.{AssembleError}
use Rattle.tx_assembler.specs.declared.answer.AssembleError.TheVariants as errors
use Rattle.tx_assembler.specs.Answers.{Answer, next, Refuses}
use Rattle.tx_assembler.specs.Kept.{DefinedChange, table_named, definition_of, change_under, target_of, truncated, bytes_of_some, bytes_kept, place_of_definition, with_change_at, with_change, with_changes, with_bytes}
use Rattle.tx_assembler.specs.Whole.{most_bytes}
use Rattle.tx_assembler.specs.Feeding.{grown, taken_by}
use Rattle.tx_assembler.specs.Taking.{IsTaken, HasMore, definition_at, with_one, served_under, some_served, truncation, truncations}

-- ---- answers

abbrev IsErrs : {A : Type 0} → Answer A → Type 0
IsErrs (Ok x) = ⊥
IsErrs (Err e) = Unit {0}

abbrev IsFalses : Bool → Type 0
IsFalses true = ⊥
IsFalses false = Unit {0}

take_front : {A : Type 0} (xs ys : List A) → take (length xs) (xs ++ ys) ≡ xs
take_front [] ys = refl
take_front (x ∷ xs) ys = ap (λ zs. x ∷ zs) (take_front xs ys)

abbrev taken_out : {A : Type 0} → A → Answer A → A
taken_out y (Ok x) = x
taken_out y (Err e) = y

not_err : {A : Type 0} (e : AssembleError) (x : A) → ◌≡◌ {A = Answer A} (Err e) (Ok x) → ⊥
not_err e x h = subst IsErrs h tt

bool_apart : false ≡ true → ⊥
bool_apart h = subst IsFalses h tt

pub next_next : {A B C : Type 0} (a : Answer A) (f : A → Answer B) (g : B → Answer C) → next (next a f) g ≡ next a (λ x. next (f x) g)
next_next (Ok x) f g = refl
next_next (Err e) f g = refl

pub refuses_next : {A B : Type 0} (e : AssembleError) (a : Answer A) (f : A → Answer B) → Refuses e a → Refuses e (next a f)
refuses_next e a f h m = ap (λ x. next x f) (h m)

-- ---- targets

module _ (tables : List Served) (known : ℕ → Option described.Relation) (oid : ℕ) where
  pub target_unknown : known oid ≡ None → target_of tables known oid ≡ None
  target_unknown h = ap (option_map (definition_of tables)) h

  placed : (r : described.Relation) (place : Option ℕ) → known oid ≡ Some r → table_named tables r.ns r.name ≡ place → target_of tables known oid ≡ Some (option_map (λ t. definition_at t r) place)
  placed r place h e = ap (option_map (definition_of tables)) h ∙ ap (λ p. Some (option_map (λ t. definition_at t r) p)) e

  pub target_unserved : (r : described.Relation) → known oid ≡ Some r → table_named tables r.ns r.name ≡ None → target_of tables known oid ≡ Some None
  target_unserved r h e = placed r None h e

  pub target_served : (r : described.Relation) (p : ℕ) → known oid ≡ Some r → table_named tables r.ns r.name ≡ Some p → target_of tables known oid ≡ Some (Some (definition_at p r))
  target_served r p h e = placed r (Some p) h e

-- ---- one change

within : (bytes most : ℕ) → bytes ≤ most → (if nat_le (bytes + 0) most then Ok (bytes + 0) else Err (errors.TxTooLarge (bytes + 0) most)) ≡ Ok bytes
within bytes most h =
    let plus : bytes + 0 ≡ bytes = omega arith in
    ap (λ n. if nat_le n most then Ok n else Err (errors.TxTooLarge n most)) plus
    ∙ ap (λ b. if b then Ok bytes else Err (errors.TxTooLarge bytes most)) (le-leb bytes most h)

-- a message that brings no change leaves a transaction as it was
pub nothing_more : (tx : Tx) → tx.bytes ≤ most_bytes → grown tx 0 [] ≡ Ok tx
nothing_more tx h = ap (λ (b : Answer ℕ). next b (λ bytes. Ok (with_bytes tx bytes))) (within tx.bytes most_bytes h)

module _ (tx : Tx) (m : Message) (oid : ℕ) (kind : TableDef → Answer ChangeKind) (target : Option (Option TableDef)) where
  -- what the transaction is after one change of this table
  abbrev pub after_one : Answer Tx
  after_one = next (change_under oid target kind) (λ cs. grown tx (bytes_kept m cs) cs)

  pub one_unknown : target ≡ None → after_one ≡ Err (errors.UnknownRelation oid)
  one_unknown h = ap (λ t. next (change_under oid t kind) (λ cs. grown tx (bytes_kept m cs) cs)) h

  pub one_unserved : target ≡ Some None → tx.bytes ≤ most_bytes → after_one ≡ Ok tx
  one_unserved h small = ap (λ t. next (change_under oid t kind) (λ cs. grown tx (bytes_kept m cs) cs)) h ∙ nothing_more tx small

  pub one_served : (d : TableDef) (size : ℕ) → target ≡ Some (Some d) → length (spelled m) ≡ size → after_one ≡ next (kind d) (with_one tx size d)
  one_served d size h e =
      ap (λ t. next (change_under oid t kind) (λ cs. grown tx (bytes_kept m cs) cs)) h
      ∙ next_next (kind d) (λ k. Ok (record { definition = d; kind = k } ∷ [])) (λ cs. grown tx (bytes_kept m cs) cs)
      ∙ ap (λ n. next (kind d) (with_one tx n d)) e

-- ---- truncations

ok_is : {A : Type 0} (x y : A) → ◌≡◌ {A = Answer A} (Ok x) (Ok y) → x ≡ y
ok_is x y h = ap (taken_out x) h

served_turn : (found here : Bool) (later : Answer Bool) → next (next later (λ l. Ok (here || l))) (λ l. Ok (found || l)) ≡ next later (λ l. Ok ((found || here) || l))
served_turn true here (Ok l) = refl
served_turn false here (Ok l) = refl
served_turn found here (Err e) = refl

pub served_more : (target : ℕ → Option (Option TableDef)) (oid : ℕ) (oids : List ℕ) (found here : Bool) (all : Answer Bool)
    → all ≡ next (some_served target (oid ∷ oids)) (λ l. Ok (found || l)) → served_under oid (target oid) ≡ Ok here
    → all ≡ next (some_served target oids) (λ l. Ok ((found || here) || l))
served_more target oid oids found here all h e =
    h ∙ ap (λ (a : Answer Bool). next (next a (λ here. next (some_served target oids) (λ l. Ok (here || l)))) (λ l. Ok (found || l))) e
    ∙ served_turn found here (some_served target oids)

pub served_stop : (target : ℕ → Option (Option TableDef)) (oid : ℕ) (oids : List ℕ) (found : Bool) (e : AssembleError) (all : Answer Bool)
    → all ≡ next (some_served target (oid ∷ oids)) (λ l. Ok (found || l)) → Refuses e (served_under oid (target oid)) → Refuses e all
served_stop target oid oids found e all h stop m =
    h ∙ ap (λ (a : Answer Bool). next (next a (λ here. next (some_served target oids) (λ l. Ok (here || l)))) (λ l. Ok (found || l))) (stop m)

pub served_end : (target : ℕ → Option (Option TableDef)) (oids : List ℕ) (found : Bool) (all : Answer Bool)
    → all ≡ next (some_served target oids) (λ l. Ok (found || l)) → length oids < 1 → all ≡ Ok found
served_end target [] true all h e = h
served_end target [] false all h e = h
served_end target (oid ∷ oids) found all h e = absurd (omega (arith, e))

one_more : (t : Option (Option TableDef)) (oid : ℕ) (rest : Answer (List DefinedChange)) (later : Answer Bool) (cs : List DefinedChange) → rest ≡ next later (λ b. Ok cs)
    → next (change_under oid t (λ d. Ok kinds.Truncate)) (λ c. next rest (λ more. Ok (c ++ more)))
    ≡ next (next (served_under oid t) (λ here. next later (λ l. Ok (here || l)))) (λ b. Ok (truncation t ++ cs))
one_more None oid rest later cs h = refl
one_more (Some None) oid rest (Ok l) cs h = ap (λ (a : Answer (List DefinedChange)). next a (λ more. Ok more)) h
one_more (Some None) oid rest (Err e) cs h = ap (λ (a : Answer (List DefinedChange)). next a (λ more. Ok more)) h
one_more (Some (Some d)) oid rest (Ok l) cs h = ap (λ (a : Answer (List DefinedChange)). next a (λ more. Ok (record { definition = d; kind = kinds.Truncate } ∷ more))) h
one_more (Some (Some d)) oid rest (Err e) cs h = ap (λ (a : Answer (List DefinedChange)). next a (λ more. Ok (record { definition = d; kind = kinds.Truncate } ∷ more))) h

pub truncated_is : (target : ℕ → Option (Option TableDef)) (oids : List ℕ) → truncated target oids ≡ next (some_served target oids) (λ b. Ok (truncations target oids))
truncated_is target [] = refl
truncated_is target (oid ∷ oids) = one_more (target oid) oid (truncated target oids) (some_served target oids) (truncations target oids) (truncated_is target oids)

abbrev has_some : List DefinedChange → Bool
has_some [] = false
has_some (c ∷ cs) = true

one_there : (t : Option (Option TableDef)) (oid : ℕ) (later : Answer Bool) (cs : List DefinedChange) (b : Bool) → ((l : Bool) → later ≡ Ok l → has_some cs ≡ l)
    → next (served_under oid t) (λ here. next later (λ l. Ok (here || l))) ≡ Ok b → has_some (truncation t ++ cs) ≡ b
one_there None oid later cs b h e = absurd (not_err _ _ e)
one_there (Some None) oid (Ok l) cs b h e = h l refl ∙ ok_is l b e
one_there (Some None) oid (Err x) cs b h e = absurd (not_err _ _ e)
one_there (Some (Some d)) oid (Ok l) cs b h e = ok_is true b e
one_there (Some (Some d)) oid (Err x) cs b h e = absurd (not_err _ _ e)

there : (target : ℕ → Option (Option TableDef)) (oids : List ℕ) (b : Bool) → some_served target oids ≡ Ok b → has_some (truncations target oids) ≡ b
there target [] b e = ok_is false b e
there target (oid ∷ oids) b e = one_there (target oid) oid (some_served target oids) (truncations target oids) b (λ l. there target oids l) e

some_bytes : (n : ℕ) (cs : List DefinedChange) → has_some cs ≡ true → bytes_of_some n cs ≡ n
some_bytes n [] h = absurd (bool_apart h)
some_bytes n (c ∷ cs) h = refl

no_some : (cs : List DefinedChange) → has_some cs ≡ false → cs ≡ []
no_some [] h = refl
no_some (c ∷ cs) h = absurd (bool_apart (sym h))

-- what a Truncate adds where a table is served
pub truncates : (target : ℕ → Option (Option TableDef)) (oids : List ℕ) (tx : Tx) (n : ℕ) → some_served target oids ≡ Ok true
    → next (truncated target oids) (λ cs. grown tx (bytes_of_some n cs) cs) ≡ grown tx n (truncations target oids)
truncates target oids tx n e =
    ap (λ (a : Answer (List DefinedChange)). next a (λ cs. grown tx (bytes_of_some n cs) cs)) (truncated_is target oids ∙ ap (λ (a : Answer Bool). next a (λ b. Ok (truncations target oids))) e)
    ∙ ap (λ k. grown tx k (truncations target oids)) (some_bytes n (truncations target oids) (there target oids true e))

pub truncates_none : (target : ℕ → Option (Option TableDef)) (oids : List ℕ) (tx : Tx) (n : ℕ) → some_served target oids ≡ Ok false → tx.bytes ≤ most_bytes
    → next (truncated target oids) (λ cs. grown tx (bytes_of_some n cs) cs) ≡ Ok tx
truncates_none target oids tx n e small =
    ap (λ (a : Answer (List DefinedChange)). next a (λ cs. grown tx (bytes_of_some n cs) cs)) (truncated_is target oids ∙ ap (λ (a : Answer Bool). next a (λ b. Ok (truncations target oids))) e)
    ∙ ap (λ cs. grown tx (bytes_of_some n cs) cs) (no_some (truncations target oids) (there target oids false e))
    ∙ nothing_more tx small

pub truncates_refused : (target : ℕ → Option (Option TableDef)) (oids : List ℕ) (tx : Tx) (n : ℕ) (e : AssembleError) → Refuses e (some_served target oids)
    → Refuses e (next (truncated target oids) (λ cs. grown tx (bytes_of_some n cs) cs))
truncates_refused target oids tx n e h m =
    ap (λ (a : Answer (List DefinedChange)). next a (λ cs. grown tx (bytes_of_some n cs) cs)) (truncated_is target oids ∙ ap (λ (a : Answer Bool). next a (λ b. Ok (truncations target oids))) (h m))

-- ---- growing transactions

pub with_both : (tx : Tx) (a b : List DefinedChange) → with_changes (with_changes tx a) b ≡ with_changes tx (a ++ b)
with_both tx [] b = refl
with_both tx (c ∷ a) b = with_both (with_change tx c) a b

abbrev with_lists : Tx → List TableDef → List Change → Tx
with_lists tx ds cs = record { xid = tx.xid; lsn = tx.lsn; end = tx.end; bytes = tx.bytes; defs = ds; changes = cs }

pub more_none : (tx : Tx) → HasMore tx tx
more_none tx = record { defs = []; changes = []; same = ap (λ ds. with_lists tx ds tx.changes) (sym (append-nil tx.defs)) ∙ ap (λ cs. with_lists tx (tx.defs ++ []) cs) (sym (append-nil tx.changes)) }

more_at : (old tx : Tx) (c : DefinedChange) (place : Option ℕ) → HasMore old tx → HasMore old (with_change_at tx c place)
more_at old tx c (Some p) h = record {
  defs = h.defs;
  changes = h.changes ++ record { def = p; kind = c.kind } ∷ [];
  same = ap (λ (t : Tx). with_lists t t.defs (t.changes ++ record { def = p; kind = c.kind } ∷ [])) h.same ∙ ap (λ cs. with_lists old (old.defs ++ h.defs) cs) (append_assoc old.changes h.changes (record { def = p; kind = c.kind } ∷ []));
}
more_at old tx c None h = record {
  defs = h.defs ++ c.definition ∷ [];
  changes = h.changes ++ record { def = length tx.defs; kind = c.kind } ∷ [];
  same = ap (λ (t : Tx). with_lists t (t.defs ++ c.definition ∷ []) (t.changes ++ record { def = length tx.defs; kind = c.kind } ∷ [])) h.same
      ∙ ap (λ cs. with_lists old ((old.defs ++ h.defs) ++ c.definition ∷ []) cs) (append_assoc old.changes h.changes (record { def = length tx.defs; kind = c.kind } ∷ []))
      ∙ ap (λ ds. with_lists old ds (old.changes ++ (h.changes ++ record { def = length tx.defs; kind = c.kind } ∷ []))) (append_assoc old.defs h.defs (c.definition ∷ []));
}

pub more_changes : (old tx : Tx) (cs : List DefinedChange) → HasMore old tx → HasMore old (with_changes tx cs)
more_changes old tx [] h = h
more_changes old tx (c ∷ cs) h = more_changes old (with_change tx c) cs (more_at old tx c (place_of_definition tx.defs c.definition) h)

pub cut_is : (old new : Tx) → HasMore old new → record { xid = new.xid; lsn = new.lsn; end = new.end; bytes = new.bytes; defs = take (length old.defs) new.defs; changes = take (length old.changes) new.changes } ≡ old
cut_is old new h =
    ap (λ (t : Tx). with_lists t (take (length old.defs) t.defs) (take (length old.changes) t.changes)) h.same
    ∙ ap (λ ds. with_lists old ds (take (length old.changes) (old.changes ++ h.changes))) (take_front old.defs h.defs)
    ∙ ap (λ cs. with_lists old old.defs cs) (take_front old.changes h.changes)

-- ---- the size of a Truncate

oids_size : (oids : List ℕ) → length (flat_map int32.spell oids) ≡ 4 * length oids
oids_size [] = refl
oids_size (oid ∷ oids) = omega (arith, oids_size oids)

pub truncate_size : (options : ℕ) (oids : List ℕ) → length (spelled (messages.Truncate options oids)) ≡ 6 + 4 * length oids
truncate_size options oids = omega (arith, oids_size oids)

pub truncate_taken : {A : Type 0} (result : Result A AssembleError) (old new : Tx) (target : ℕ → Option (Option TableDef)) (options : ℕ) (oids slice : List ℕ) → slice ≡ oids
    → IsTaken result old new (next (truncated target slice) (λ cs. grown old (bytes_of_some (6 + 4 * length slice) cs) cs))
    → IsTaken result old new (taken_by old (messages.Truncate options oids) target)
truncate_taken result old new target options oids slice e h =
    subst (λ n. IsTaken result old new (next (truncated target oids) (λ cs. grown old (bytes_of_some n cs) cs))) (sym (truncate_size options oids))
    (subst (λ (xs : List ℕ). IsTaken result old new (next (truncated target xs) (λ cs. grown old (bytes_of_some (6 + 4 * length xs) cs) cs))) e h)
