-- Where the assembler stands after messages of a stretch, one more at a time.
use Rattle.std.proofs.Common.{◌≡◌, ℕ, ◌+◌, ◌<◌, ◌≤◌, max, Bool, true, false, cond, List, [], ◌∷◌, ◌++◌, refl, sym, ap, subst, ◌∙◌, arith, Ok, Err, Option, Some, None}
use Rattle.std.proofs.Math.Path.{fun_ext}
use Rattle.std.specs.Prelude.{nat_le, ◌==◌, if◌then◌else◌}
use Rattle.std.specs.Ordering.{nat_cmp, eq_by_cmp}
use Rattle.std.specs.FinMap as fin
use Rattle.std.specs.FinMap.{get-insert, get-empty}
use Rattle.std.specs.Cmp.{nat_cmp_total, eq_by_cmp_equiv, Equal-is}
use Rattle.std.proofs.lemmas.Map.Lookups.{exact_unsigned}
use Rattle.std.proofs.lemmas.List.{append-nil}
use Rattle.std.proofs.lemmas.Bool.Decides.{nat_tests, Decides-eqb}
use Rattle.pgout.specs.declared.message.ColumnSent.{ColumnSent}
use Rattle.pgout.specs.declared.message.Message.{Message}
use Rattle.pgout.specs.declared.message.Message.TheVariants.{Begin, Commit, Origin, TypeName, Relation, Insert, Update, Delete, Truncate, Logical}
use Rattle.shape_base.specs.declared.change.Tx.{Tx}
use Rattle.shape_base.specs.declared.definition.Column.{Column}
use Rattle.shape_base.specs.declared.served.Served.{Served}
use Rattle.relation_cache.specs.declared.relation.Relation as described
use Rattle.relation_cache.specs.Relations.{ByOid}
use Rattle.tx_assembler.specs.declared.answer.AssembleError.TheVariants as errors
use Rattle.tx_assembler.specs.declared.answer.Fed.{Fed}
use Rattle.tx_assembler.specs.declared.answer.Fed.TheVariants as answers
use Rattle.tx_assembler.specs.declared.stage.Stage.{Stage}
use Rattle.tx_assembler.specs.declared.stage.Stage.TheVariants.{Outside, Passing, Taking}
use Rattle.tx_assembler.specs.Answers.{Answer, next}
use Rattle.tx_assembler.specs.Rows.{text_of, namespace_of, columns_of, relation_of}
use Rattle.tx_assembler.specs.Kept.{DefinedChange, target_of, changes_of, bytes_kept, place_of_definition, with_change_at, with_change, with_changes, with_bytes}
use Rattle.tx_assembler.specs.Situation.{Situation}
use Rattle.tx_assembler.specs.Whole.{most_bytes}
use Rattle.tx_assembler.specs.Feeding.{Turn, empty_tx, begun, same_lsn, closed, committed, related, grown, changed, received, unless_refused, turn_of}
use Rattle.tx_assembler.specs.Shown.{if_made, described_by, or_else, last_relation, is_commit, pieces_of, concat, has_commit, rest_of, or_begin, begin_of, xid_in, lsn_in, or_end, end_of, if_kept, changes_after, changes_in, bytes_in, tx_with, greatest_of, Verdict, refusal_in, begin_refused, commit_refused, changes_refused, change_refused, refused_after}
use Rattle.tx_assembler.specs.Stream.{due_for, due_after}
use Rattle.tx_assembler.proofs.Targets.{with_both}
use Rattle.tx_assembler.proofs.Pieces.{pieces_quiet, rest_quiet, pieces_closed, rest_closed, joined, relation_more, changes_more, bytes_more, greatest_more}

abbrev Begun : Type 0
Begun = Option (ℕ × ℕ)

-- ---- begins and ends

begin_turn : (x : Message) (b y : Begun) → or_begin x (or_else b y) ≡ or_else (or_begin x b) y
begin_turn (Begin lsn time xid) b y = refl
begin_turn (Commit flags lsn end time) b y = refl
begin_turn (Origin lsn name) b y = refl
begin_turn (TypeName oid ns name) b y = refl
begin_turn (Relation oid ns name identity columns) b y = refl
begin_turn (Insert oid row) b y = refl
begin_turn (Update oid before row) b y = refl
begin_turn (Delete oid before) b y = refl
begin_turn (Truncate options oids) b y = refl
begin_turn (Logical flags lsn prefix content) b y = refl

begin_then : (ms : List Message) (m : Message) → begin_of (ms ++ m ∷ []) ≡ or_else (begin_of ms) (or_begin m None)
begin_then [] m = refl
begin_then (x ∷ ms) m = ap (or_begin x) (begin_then ms m) ∙ begin_turn x (begin_of ms) (or_begin m None)

or_none : (b : Begun) → or_else b None ≡ b
or_none None = refl
or_none (Some x) = refl

abbrev IsTrues : Bool → Type 0
IsTrues true = Unit {0}
IsTrues false = ⊥

true_apart : true ≡ false → ⊥
true_apart h = subst IsTrues h tt

end_by : (x : Message) (n : ℕ) → is_commit x ≡ false → or_end x n ≡ n
end_by (Begin lsn time xid) n h = refl
end_by (Commit flags lsn end time) n h = absurd (true_apart h)
end_by (Origin lsn name) n h = refl
end_by (TypeName oid ns name) n h = refl
end_by (Relation oid ns name identity columns) n h = refl
end_by (Insert oid row) n h = refl
end_by (Update oid before row) n h = refl
end_by (Delete oid before) n h = refl
end_by (Truncate options oids) n h = refl
end_by (Logical flags lsn prefix content) n h = refl

end_then : (ms : List Message) (m : Message) → has_commit ms ≡ false → end_of (ms ++ m ∷ []) ≡ or_end m 0
end_then [] m h = refl
end_then (x ∷ ms) m h =
    elim (is_commit x) as (λ b. is_commit x ≡ b → (if b then true else has_commit ms) ≡ false → or_end x (end_of (ms ++ m ∷ [])) ≡ or_end m 0) [
      | true ↦ λ e k. absurd (true_apart k)
      | false ↦ λ e k. end_by x (end_of (ms ++ m ∷ [])) e ∙ end_then ms m k
    ] refl h

none_left : (ms : List Message) → has_commit (rest_of ms) ≡ false
none_left [] = refl
none_left (x ∷ ms) =
    elim (has_commit (x ∷ ms)) as (λ b. has_commit (x ∷ ms) ≡ b → has_commit (if b then rest_of ms else x ∷ ms) ≡ false) [
      | true ↦ λ e. none_left ms
      | false ↦ λ e. e
    ] refl

-- ---- transactions so far

with_at : (t : Tx) (e b : ℕ) (c : DefinedChange) (place : Option ℕ) → with_change_at (tx_with t e b) c place ≡ tx_with (with_change_at t c place) e b
with_at t e b c None = refl
with_at t e b c (Some p) = refl

with_all : (t : Tx) (e b : ℕ) (cs : List DefinedChange) → with_changes (tx_with t e b) cs ≡ tx_with (with_changes t cs) e b
with_all t e b [] = refl
with_all t e b (c ∷ cs) = ap (λ (x : Tx). with_changes x cs) (with_at t e b c (place_of_definition t.defs c.definition)) ∙ with_all (with_change t c) e b cs

lsn_at : (t : Tx) (c : DefinedChange) (place : Option ℕ) → (with_change_at t c place).lsn ≡ t.lsn
lsn_at t c None = refl
lsn_at t c (Some p) = refl

lsn_stays : (t : Tx) (cs : List DefinedChange) → (with_changes t cs).lsn ≡ t.lsn
lsn_stays t [] = refl
lsn_stays t (c ∷ cs) = lsn_stays (with_change t c) cs ∙ lsn_at t c (place_of_definition t.defs c.definition)

-- the transaction of a Begin with these changes and bytes so far
abbrev so_far : ℕ × ℕ → List DefinedChange → ℕ → Tx
so_far begin cs bytes = tx_with (with_changes (empty_tx begin.0 begin.1) cs) 0 bytes

more_so_far : (begin : ℕ × ℕ) (cs more : List DefinedChange) (b n : ℕ) → with_bytes (with_changes (so_far begin cs b) more) n ≡ so_far begin (cs ++ more) n
more_so_far begin cs more b n =
    ap (λ (t : Tx). with_bytes t n) (with_all (with_changes (empty_tx begin.0 begin.1) cs) 0 b more)
    ∙ ap (λ (t : Tx). tx_with t 0 n) (with_both (empty_tx begin.0 begin.1) cs more)

-- ---- where the assembler stands

abbrev pub stage_by : Begun → ℕ → List DefinedChange → ℕ → Stage
stage_by None last cs bytes = Outside
stage_by (Some begin) last cs bytes = if nat_le begin.0 last then Passing begin.0 else Taking (so_far begin cs bytes)

abbrev situation : List Served → ByOid → ℕ → Stage → Situation
situation tables known last stage = record { tables = tables; relations = known; last = last; stage = stage }

abbrev pub standing : List Served → ℕ → List Message → ByOid → Situation
standing tables last before known =
    situation tables known (greatest_of last (pieces_of before))
    (stage_by (begin_of (rest_of before)) (greatest_of last (pieces_of before)) (changes_in tables (concat (pieces_of before)) (rest_of before)) (bytes_in tables (concat (pieces_of before)) (rest_of before)))

never_refused : (b : Begun) (last : ℕ) (cs : List DefinedChange) (bytes : ℕ) (turn : Answer Turn) → unless_refused (stage_by b last cs bytes) turn ≡ turn
never_refused None last cs bytes turn = refl
never_refused (Some begin) last cs bytes turn =
    elim (nat_le begin.0 last) as (λ t. unless_refused (if t then Passing begin.0 else Taking (so_far begin cs bytes)) turn ≡ turn) [
      | true ↦ refl
      | false ↦ refl
    ]

-- what is known after a message
abbrev put_made : ByOid → Answer described.Relation → ByOid
put_made known (Ok r) = fin.insert known r.oid r
put_made known (Err e) = known

abbrev pub put_by : ByOid → Message → ByOid
put_by known (Relation oid ns name identity columns) = put_made known (relation_of oid ns name columns)
put_by known (Begin lsn time xid) = known
put_by known (Commit flags lsn end time) = known
put_by known (Origin lsn name) = known
put_by known (TypeName oid ns name) = known
put_by known (Logical flags lsn prefix content) = known
put_by known (Insert oid row) = known
put_by known (Update oid before row) = known
put_by known (Delete oid before) = known
put_by known (Truncate options oids) = known

-- a turn, unless there is a cause to refuse
abbrev pub turn_by : Verdict → Turn → Answer Turn
turn_by None turn = Ok turn
turn_by (Some e) turn = Err e

-- what holds of messages that were not refused, and of what is known after them
pub record Stands (tables : List Served) (before : List Message) (known : ByOid) : Type 0 where
  pub relations : (oid : ℕ) → fin.get known oid ≡ last_relation before oid
  pub quiet : begin_of (rest_of before) ≡ None → changes_in tables (concat (pieces_of before)) (rest_of before) ≡ []
  pub still : begin_of (rest_of before) ≡ None → bytes_in tables (concat (pieces_of before)) (rest_of before) ≡ 0

-- ---- each kind of message, from any stage

kept_turn : (tables : List Served) (known : ByOid) (last : ℕ) (stage : Stage) (begin : ℕ × ℕ) (cs : List DefinedChange) (b : ℕ) (m : Message) (a : Answer (List DefinedChange))
    → next (next a (λ more. grown (so_far begin cs b) (bytes_kept m more) more)) (λ tx. Ok (situation tables known last (Taking tx), answers.Nothing))
    ≡ turn_by (changes_refused a m b) (situation tables known last (Taking (so_far begin (cs ++ if_kept a) (b + bytes_kept m (if_kept a)))), answers.Nothing)
kept_turn tables known last stage begin cs b m (Err e) = refl
kept_turn tables known last stage begin cs b m (Ok more) =
    elim (nat_le (b + bytes_kept m more) most_bytes) as (λ t. next (next (if t then Ok (b + bytes_kept m more) else Err (errors.TxTooLarge (b + bytes_kept m more) most_bytes)) (λ n. Ok (with_bytes (with_changes (so_far begin cs b) more) n))) (λ tx. Ok (situation tables known last (Taking tx), answers.Nothing))
    ≡ turn_by (refusal_in (if t then Ok (b + bytes_kept m more) else Err (errors.TxTooLarge (b + bytes_kept m more) most_bytes))) (situation tables known last (Taking (so_far begin (cs ++ more) (b + bytes_kept m more))), answers.Nothing)) [
      | true ↦ ap (λ (tx : Tx). Ok (situation tables known last (Taking tx), answers.Nothing)) (more_so_far begin cs more b (b + bytes_kept m more))
      | false ↦ refl
    ]

changed_turn : (tables : List Served) (known : ByOid) (last : ℕ) (begin : Begun) (cs : List DefinedChange) (b kind : ℕ) (m : Message) (a : Answer (List DefinedChange)) → changes_of (target_of tables (fin.get known)) m ≡ a
    → changed (situation tables known last (stage_by begin last cs b)) (stage_by begin last cs b) kind m
    ≡ turn_by (change_refused begin last kind (changes_refused a m b)) (situation tables known last (stage_by begin last (cs ++ if_kept a) (b + bytes_kept m (if_kept a))), answers.Nothing)
changed_turn tables known last None cs b kind m a h = refl
changed_turn tables known last (Some begin) cs b kind m a h =
    elim (nat_le begin.0 last) as (λ t. changed (situation tables known last (if t then Passing begin.0 else Taking (so_far begin cs b))) (if t then Passing begin.0 else Taking (so_far begin cs b)) kind m
    ≡ turn_by (if t then None else changes_refused a m b) (situation tables known last (if t then Passing begin.0 else Taking (so_far begin (cs ++ if_kept a) (b + bytes_kept m (if_kept a)))), answers.Nothing)) [
      | true ↦ refl
      | false ↦ ap (λ (x : Answer (List DefinedChange)). next (next x (λ more. grown (so_far begin cs b) (bytes_kept m more) more)) (λ tx. Ok (situation tables known last (Taking tx), answers.Nothing))) h
          ∙ kept_turn tables known last Outside begin cs b m a
    ]

pub begun_turn : (tables : List Served) (known : ByOid) (last : ℕ) (begin : Begun) (cs : List DefinedChange) (b lsn xid : ℕ) → (begin ≡ None → cs ≡ []) → (begin ≡ None → b ≡ 0)
    → begun (situation tables known last (stage_by begin last cs b)) (stage_by begin last cs b) lsn xid
    ≡ turn_by (begin_refused begin) (situation tables known last (stage_by (or_else begin (Some (lsn, xid))) last (cs ++ []) (b + 0)), answers.Nothing)
begun_turn tables known last None cs b lsn xid quiet still =
    ap (λ (x : List DefinedChange). Ok (situation tables known last (stage_by (Some (lsn, xid)) last (x ++ []) 0), answers.Nothing)) (sym (quiet refl))
    ∙ ap (λ n. Ok (situation tables known last (stage_by (Some (lsn, xid)) last (cs ++ []) (n + 0)), answers.Nothing)) (sym (still refl))
begun_turn tables known last (Some begin) cs b lsn xid quiet still =
    elim (nat_le begin.0 last) as (λ t. begun (situation tables known last (if t then Passing begin.0 else Taking (so_far begin cs b))) (if t then Passing begin.0 else Taking (so_far begin cs b)) lsn xid ≡ Err (errors.OutOfOrder 66 66)) [
      | true ↦ refl
      | false ↦ refl
    ]

-- what a Commit closes
abbrev closing : Begun → ℕ → List DefinedChange → ℕ → ℕ → Fed
closing begin last cs bytes end =
    if nat_le (lsn_in begin) last then answers.Repeat (lsn_in begin) last
    else answers.Tx (tx_with (with_changes (empty_tx (lsn_in begin) (xid_in begin)) cs) end bytes)

passing_turn : (tables : List Served) (known : ByOid) (last begin lsn end : ℕ) → max last begin ≡ last
    → next (same_lsn begin lsn) (λ x. Ok (closed (situation tables known last (Passing begin)) (Passing begin) lsn end))
    ≡ turn_by (commit_refused (Some (begin, 0)) lsn) (situation tables known (max last begin) Outside, answers.Repeat begin last)
passing_turn tables known last begin lsn end top =
    elim (begin == lsn) as (λ q. (begin == lsn) ≡ q → next (if q then Ok (tt {0}) else Err (errors.LsnMismatch begin lsn)) (λ x. Ok (closed (situation tables known last (Passing begin)) (Passing begin) lsn end))
    ≡ turn_by (if q then None else Some (errors.LsnMismatch begin lsn)) (situation tables known (max last begin) Outside, answers.Repeat begin last)) [
      | true ↦ λ e. ap (λ l. Ok (situation tables known l Outside, answers.Repeat lsn last)) (sym top) ∙ ap (λ l. Ok (situation tables known (max last begin) Outside, answers.Repeat l last)) (sym ((Decides-eqb begin lsn).0 e))
      | false ↦ λ e. refl
    ] refl

taking_turn : (tables : List Served) (known : ByOid) (last : ℕ) (begin : ℕ × ℕ) (cs : List DefinedChange) (b lsn end : ℕ) → max last begin.0 ≡ begin.0
    → next (same_lsn begin.0 lsn) (λ x. Ok (closed (situation tables known last (Taking (so_far begin cs b))) (Taking (so_far begin cs b)) lsn end))
    ≡ turn_by (commit_refused (Some begin) lsn) (situation tables known (max last begin.0) Outside, answers.Tx (tx_with (with_changes (empty_tx begin.0 begin.1) cs) end b))
taking_turn tables known last begin cs b lsn end top =
    elim (begin.0 == lsn) as (λ q. (begin.0 == lsn) ≡ q → next (if q then Ok (tt {0}) else Err (errors.LsnMismatch begin.0 lsn)) (λ x. Ok (closed (situation tables known last (Taking (so_far begin cs b))) (Taking (so_far begin cs b)) lsn end))
    ≡ turn_by (if q then None else Some (errors.LsnMismatch begin.0 lsn)) (situation tables known (max last begin.0) Outside, answers.Tx (tx_with (with_changes (empty_tx begin.0 begin.1) cs) end b))) [
      | true ↦ λ e. ap (λ l. Ok (situation tables known l Outside, answers.Tx (tx_with (with_changes (empty_tx begin.0 begin.1) cs) end b))) (sym (top ∙ (Decides-eqb begin.0 lsn).0 e))
      | false ↦ λ e. refl
    ] refl

committed_turn : (tables : List Served) (known : ByOid) (last : ℕ) (begin : Begun) (cs : List DefinedChange) (b lsn end : ℕ)
    → committed (situation tables known last (stage_by begin last cs b)) (stage_by begin last cs b) lsn end
    ≡ turn_by (commit_refused begin lsn) (situation tables known (max last (lsn_in begin)) Outside, closing begin last cs b end)
committed_turn tables known last None cs b lsn end = refl
committed_turn tables known last (Some begin) cs b lsn end =
    elim (nat_le begin.0 last) as (λ t. nat_le begin.0 last ≡ t → committed (situation tables known last (if t then Passing begin.0 else Taking (so_far begin cs b))) (if t then Passing begin.0 else Taking (so_far begin cs b)) lsn end
    ≡ turn_by (commit_refused (Some begin) lsn) (situation tables known (max last begin.0) Outside, if t then answers.Repeat begin.0 last else answers.Tx (tx_with (with_changes (empty_tx begin.0 begin.1) cs) end b))) [
      | true ↦ λ e. passing_turn tables known last begin.0 lsn end (let le : begin.0 ≤ last = grind (arith, nat_tests) in omega (arith, le))
      | false ↦ λ e. ap (λ n. next (same_lsn n lsn) (λ x. Ok (closed (situation tables known last (Taking (so_far begin cs b))) (Taking (so_far begin cs b)) lsn end))) (lsn_stays (empty_tx begin.0 begin.1) cs)
          ∙ taking_turn tables known last begin cs b lsn end (let lt : last < begin.0 = grind (arith, nat_tests) in omega (arith, lt))
    ] refl

related_turn : (tables : List Served) (known : ByOid) (last : ℕ) (stage : Stage) (a : Answer described.Relation)
    → next a (related (situation tables known last stage)) ≡ turn_by (refusal_in a) (situation tables (put_made known a) last stage, answers.Nothing)
related_turn tables known last stage (Ok r) = refl
related_turn tables known last stage (Err e) = refl

-- ---- one message more

abbrev more_of : List Served → List Message → Message → List DefinedChange
more_of tables before m = if_kept (changes_after tables before m)

begin_next : (before : List Message) (m : Message) → is_commit m ≡ false → begin_of (rest_of (before ++ m ∷ [])) ≡ or_else (begin_of (rest_of before)) (or_begin m None)
begin_next before m h = ap begin_of (rest_quiet before m h) ∙ begin_then (rest_of before) m

changes_next : (tables : List Served) (before : List Message) (m : Message) → is_commit m ≡ false
    → changes_in tables (concat (pieces_of (before ++ m ∷ []))) (rest_of (before ++ m ∷ [])) ≡ changes_in tables (concat (pieces_of before)) (rest_of before) ++ more_of tables before m
changes_next tables before m h =
    ap (λ (ps : List (List Message)). changes_in tables (concat ps) (rest_of (before ++ m ∷ []))) (pieces_quiet before m h)
    ∙ ap (changes_in tables (concat (pieces_of before))) (rest_quiet before m h)
    ∙ changes_more tables (concat (pieces_of before)) (rest_of before) m
    ∙ ap (λ (xs : List Message). changes_in tables (concat (pieces_of before)) (rest_of before) ++ more_of tables xs m) (joined before)

bytes_next : (tables : List Served) (before : List Message) (m : Message) → is_commit m ≡ false
    → bytes_in tables (concat (pieces_of (before ++ m ∷ []))) (rest_of (before ++ m ∷ [])) ≡ bytes_in tables (concat (pieces_of before)) (rest_of before) + bytes_kept m (more_of tables before m)
bytes_next tables before m h =
    ap (λ (ps : List (List Message)). bytes_in tables (concat ps) (rest_of (before ++ m ∷ []))) (pieces_quiet before m h)
    ∙ ap (bytes_in tables (concat (pieces_of before))) (rest_quiet before m h)
    ∙ bytes_more tables (concat (pieces_of before)) (rest_of before) m
    ∙ ap (λ (xs : List Message). bytes_in tables (concat (pieces_of before)) (rest_of before) + bytes_kept m (more_of tables xs m)) (joined before)

moved : (tables : List Served) (last : ℕ) (before : List Message) (known : ByOid) (m : Message) → is_commit m ≡ false
    → standing tables last (before ++ m ∷ []) known
    ≡ situation tables known (greatest_of last (pieces_of before)) (stage_by (or_else (begin_of (rest_of before)) (or_begin m None)) (greatest_of last (pieces_of before))
    (changes_in tables (concat (pieces_of before)) (rest_of before) ++ more_of tables before m) (bytes_in tables (concat (pieces_of before)) (rest_of before) + bytes_kept m (more_of tables before m)))
moved tables last before known m h =
    let now = before ++ m ∷ [] in
    ap (λ l. situation tables known l (stage_by (begin_of (rest_of now)) l (changes_in tables (concat (pieces_of now)) (rest_of now)) (bytes_in tables (concat (pieces_of now)) (rest_of now)))) (ap (greatest_of last) (pieces_quiet before m h))
    ∙ ap (λ (o : Begun). situation tables known (greatest_of last (pieces_of before)) (stage_by o (greatest_of last (pieces_of before)) (changes_in tables (concat (pieces_of now)) (rest_of now)) (bytes_in tables (concat (pieces_of now)) (rest_of now)))) (begin_next before m h)
    ∙ ap (λ (cs : List DefinedChange). situation tables known (greatest_of last (pieces_of before)) (stage_by (or_else (begin_of (rest_of before)) (or_begin m None)) (greatest_of last (pieces_of before)) cs (bytes_in tables (concat (pieces_of now)) (rest_of now)))) (changes_next tables before m h)
    ∙ ap (λ n. situation tables known (greatest_of last (pieces_of before)) (stage_by (or_else (begin_of (rest_of before)) (or_begin m None)) (greatest_of last (pieces_of before)) (changes_in tables (concat (pieces_of before)) (rest_of before) ++ more_of tables before m) n)) (bytes_next tables before m h)

moved_on : (tables : List Served) (last : ℕ) (before : List Message) (known : ByOid) (m : Message) → is_commit m ≡ false → or_begin m None ≡ None
    → standing tables last (before ++ m ∷ []) known
    ≡ situation tables known (greatest_of last (pieces_of before)) (stage_by (begin_of (rest_of before)) (greatest_of last (pieces_of before))
    (changes_in tables (concat (pieces_of before)) (rest_of before) ++ more_of tables before m) (bytes_in tables (concat (pieces_of before)) (rest_of before) + bytes_kept m (more_of tables before m)))
moved_on tables last before known m h none =
    moved tables last before known m h
    ∙ ap (λ (o : Begun). situation tables known (greatest_of last (pieces_of before)) (stage_by o (greatest_of last (pieces_of before)) (changes_in tables (concat (pieces_of before)) (rest_of before) ++ more_of tables before m)
    (bytes_in tables (concat (pieces_of before)) (rest_of before) + bytes_kept m (more_of tables before m)))) (ap (or_else (begin_of (rest_of before))) none ∙ or_none (begin_of (rest_of before)))

moved_still : (tables : List Served) (last : ℕ) (before : List Message) (known : ByOid) (m : Message) → is_commit m ≡ false → or_begin m None ≡ None → more_of tables before m ≡ []
    → standing tables last (before ++ m ∷ []) known ≡ standing tables last before known
moved_still tables last before known m h none nothing =
    let cs = changes_in tables (concat (pieces_of before)) (rest_of before) in
    let b = bytes_in tables (concat (pieces_of before)) (rest_of before) in
    let plus : b + 0 ≡ b = omega arith in
    moved_on tables last before known m h none
    ∙ ap (λ (more : List DefinedChange). situation tables known (greatest_of last (pieces_of before)) (stage_by (begin_of (rest_of before)) (greatest_of last (pieces_of before)) (cs ++ more) (b + bytes_kept m more))) nothing
    ∙ ap (λ (xs : List DefinedChange). situation tables known (greatest_of last (pieces_of before)) (stage_by (begin_of (rest_of before)) (greatest_of last (pieces_of before)) xs (b + 0))) (append-nil cs)
    ∙ ap (λ n. situation tables known (greatest_of last (pieces_of before)) (stage_by (begin_of (rest_of before)) (greatest_of last (pieces_of before)) cs n)) plus

-- a Commit
moved_out : (tables : List Served) (last : ℕ) (before : List Message) (known : ByOid) (m : Message) → is_commit m ≡ true → or_begin m None ≡ None
    → standing tables last (before ++ m ∷ []) known ≡ situation tables known (max (greatest_of last (pieces_of before)) (lsn_in (begin_of (rest_of before)))) Outside
moved_out tables last before known m h none =
    let now = before ++ m ∷ [] in
    ap (λ (r : List Message). situation tables known (greatest_of last (pieces_of now)) (stage_by (begin_of r) (greatest_of last (pieces_of now)) (changes_in tables (concat (pieces_of now)) r) (bytes_in tables (concat (pieces_of now)) r))) (rest_closed before m h)
    ∙ ap (λ (ps : List (List Message)). situation tables known (greatest_of last ps) Outside) (pieces_closed before m h)
    ∙ ap (λ l. situation tables known l Outside) (greatest_more last (pieces_of before) (rest_of before ++ m ∷ []))
    ∙ ap (λ (o : Begun). situation tables known (max (greatest_of last (pieces_of before)) (lsn_in o)) Outside) (begin_then (rest_of before) m ∙ ap (or_else (begin_of (rest_of before))) none ∙ or_none (begin_of (rest_of before)))

closed_so : (tables : List Served) (last : ℕ) (before : List Message) (m : Message) → is_commit m ≡ true → or_begin m None ≡ None → more_of tables (concat (pieces_of before) ++ rest_of before) m ≡ []
    → due_for tables (concat (pieces_of before)) last (rest_of before ++ m ∷ [])
    ≡ closing (begin_of (rest_of before)) last (changes_in tables (concat (pieces_of before)) (rest_of before)) (bytes_in tables (concat (pieces_of before)) (rest_of before)) (or_end m 0)
closed_so tables last before m h none nothing =
    let p = rest_of before ++ m ∷ [] in
    let c = concat (pieces_of before) in
    let cs = changes_in tables c (rest_of before) in
    let b = bytes_in tables c (rest_of before) in
    let plus : b + 0 ≡ b = omega arith in
    ap (λ (o : Begun). closing o last (changes_in tables c p) (bytes_in tables c p) (end_of p)) (begin_then (rest_of before) m ∙ ap (or_else (begin_of (rest_of before))) none ∙ or_none (begin_of (rest_of before)))
    ∙ ap (λ (xs : List DefinedChange). closing (begin_of (rest_of before)) last xs (bytes_in tables c p) (end_of p)) (changes_more tables c (rest_of before) m ∙ ap (λ (xs : List DefinedChange). cs ++ xs) nothing ∙ append-nil cs)
    ∙ ap (λ n. closing (begin_of (rest_of before)) last cs n (end_of p)) (bytes_more tables c (rest_of before) m ∙ ap (λ (xs : List DefinedChange). b + bytes_kept m xs) nothing ∙ plus)
    ∙ ap (closing (begin_of (rest_of before)) last cs b) (end_then (rest_of before) m (none_left before))

-- ---- a turn

module _ (tables : List Served) (last : ℕ) (before : List Message) (known : ByOid) (s : Stands tables before known) where
  targets : (m : Message) → changes_of (target_of tables (fin.get known)) m ≡ changes_after tables before m
  targets m = ap (λ (f : ℕ → Option described.Relation). changes_of (target_of tables f) m) (fun_ext s.relations)

  quiet_turn : (m : Message) → is_commit m ≡ false → or_begin m None ≡ None → more_of tables before m ≡ []
      → ◌≡◌ {A = Answer Turn} (Ok (standing tables last before known, answers.Nothing)) (Ok (standing tables last (before ++ m ∷ []) known, answers.Nothing))
  quiet_turn m h none nothing = ap (λ (x : Situation). Ok (x, answers.Nothing)) (sym (moved_still tables last before known m h none nothing))

  change_turn : (m : Message) (kind : ℕ) → is_commit m ≡ false → or_begin m None ≡ None
      → changed (standing tables last before known) (standing tables last before known).stage kind m
      ≡ turn_by (change_refused (begin_of (rest_of before)) (greatest_of last (pieces_of before)) kind (changes_refused (changes_after tables before m) m (bytes_in tables (concat (pieces_of before)) (rest_of before))))
      (standing tables last (before ++ m ∷ []) known, answers.Nothing)
  change_turn m kind h none =
      changed_turn tables known (greatest_of last (pieces_of before)) (begin_of (rest_of before)) (changes_in tables (concat (pieces_of before)) (rest_of before)) (bytes_in tables (concat (pieces_of before)) (rest_of before)) kind m (changes_after tables before m) (targets m)
      ∙ ap (λ (x : Situation). turn_by (change_refused (begin_of (rest_of before)) (greatest_of last (pieces_of before)) kind (changes_refused (changes_after tables before m) m (bytes_in tables (concat (pieces_of before)) (rest_of before)))) (x, answers.Nothing))
      (sym (moved_on tables last before known m h none))

  begin_turned : (lsn time xid : ℕ) → received (standing tables last before known) (Begin lsn time xid)
      ≡ turn_by (refused_after tables last before (Begin lsn time xid)) (standing tables last (before ++ Begin lsn time xid ∷ []) known, answers.Nothing)
  begin_turned lsn time xid =
      begun_turn tables known (greatest_of last (pieces_of before)) (begin_of (rest_of before)) (changes_in tables (concat (pieces_of before)) (rest_of before)) (bytes_in tables (concat (pieces_of before)) (rest_of before)) lsn xid s.quiet s.still
      ∙ ap (λ (x : Situation). turn_by (begin_refused (begin_of (rest_of before))) (x, answers.Nothing)) (sym (moved tables last before known (Begin lsn time xid) refl))

  commit_turned : (flags lsn end time : ℕ) → received (standing tables last before known) (Commit flags lsn end time)
      ≡ turn_by (refused_after tables last before (Commit flags lsn end time)) (standing tables last (before ++ Commit flags lsn end time ∷ []) known, due_after tables last before (Commit flags lsn end time))
  commit_turned flags lsn end time =
      committed_turn tables known (greatest_of last (pieces_of before)) (begin_of (rest_of before)) (changes_in tables (concat (pieces_of before)) (rest_of before)) (bytes_in tables (concat (pieces_of before)) (rest_of before)) lsn end
      ∙ ap (λ (x : Situation). turn_by (commit_refused (begin_of (rest_of before)) lsn) (x, closing (begin_of (rest_of before)) (greatest_of last (pieces_of before)) (changes_in tables (concat (pieces_of before)) (rest_of before)) (bytes_in tables (concat (pieces_of before)) (rest_of before)) end))
      (sym (moved_out tables last before known (Commit flags lsn end time) refl refl))
      ∙ ap (λ (fed : Fed). turn_by (commit_refused (begin_of (rest_of before)) lsn) (standing tables last (before ++ Commit flags lsn end time ∷ []) known, fed))
      (sym (closed_so tables (greatest_of last (pieces_of before)) before (Commit flags lsn end time) refl refl refl))

  relation_turned : (oid : ℕ) (ns name : List ℕ) (identity : ℕ) (columns : List ColumnSent) → received (standing tables last before known) (Relation oid ns name identity columns)
      ≡ turn_by (refused_after tables last before (Relation oid ns name identity columns)) (standing tables last (before ++ Relation oid ns name identity columns ∷ []) (put_by known (Relation oid ns name identity columns)), answers.Nothing)
  relation_turned oid ns name identity columns =
      related_turn tables known (greatest_of last (pieces_of before)) (standing tables last before known).stage (relation_of oid ns name columns)
      ∙ ap (λ (x : Situation). turn_by (refusal_in (relation_of oid ns name columns)) (x, answers.Nothing))
      (sym (moved_still tables last before (put_by known (Relation oid ns name identity columns)) (Relation oid ns name identity columns) refl refl refl))

  received_so : (m : Message) → received (standing tables last before known) m ≡ turn_by (refused_after tables last before m) (standing tables last (before ++ m ∷ []) (put_by known m), due_after tables last before m)
  received_so (Begin lsn time xid) = begin_turned lsn time xid
  received_so (Commit flags lsn end time) = commit_turned flags lsn end time
  received_so (Origin lsn name) = quiet_turn (Origin lsn name) refl refl refl
  received_so (TypeName oid ns name) = quiet_turn (TypeName oid ns name) refl refl refl
  received_so (Logical flags lsn prefix content) = quiet_turn (Logical flags lsn prefix content) refl refl refl
  received_so (Relation oid ns name identity columns) = relation_turned oid ns name identity columns
  received_so (Insert oid row) = change_turn (Insert oid row) 73 refl refl
  received_so (Update oid old row) = change_turn (Update oid old row) 85 refl refl
  received_so (Delete oid old) = change_turn (Delete oid old) 68 refl refl
  received_so (Truncate options oids) = change_turn (Truncate options oids) 84 refl refl

  -- the turn at a message after others that were not refused
  pub turned : (m : Message) → turn_of (standing tables last before known) m ≡ turn_by (refused_after tables last before m) (standing tables last (before ++ m ∷ []) (put_by known m), due_after tables last before m)
  turned m = never_refused (begin_of (rest_of before)) (greatest_of last (pieces_of before)) (changes_in tables (concat (pieces_of before)) (rest_of before)) (bytes_in tables (concat (pieces_of before)) (rest_of before)) (received (standing tables last before known) m) ∙ received_so m

-- ---- what still holds after a message

cmp_same : (a b : ℕ) → eq_by_cmp nat_cmp a b ≡ (b == a)
cmp_same a b =
    elim (b == a) as (λ q. (b == a) ≡ q → eq_by_cmp nat_cmp a b ≡ q) [
      | true ↦ λ e. ap (eq_by_cmp nat_cmp a) ((Decides-eqb b a).0 e) ∙ (eq_by_cmp_equiv nat_cmp_total).refl a
      | false ↦ λ e. elim (eq_by_cmp nat_cmp a b) as (λ p. eq_by_cmp nat_cmp a b ≡ p → p ≡ false) [
        | true ↦ λ f. absurd (true_apart (sym ((Decides-eqb b a).1 (sym (exact_unsigned a b ((Equal-is (nat_cmp a b)).0 f)))) ∙ e))
        | false ↦ λ f. refl
      ] refl
    ] refl

abbrev IsOks : {A : Type 0} → Answer A → Type 0
IsOks (Ok x) = Unit {0}
IsOks (Err e) = ⊥

abbrev oid_in : ℕ → Answer described.Relation → ℕ
oid_in o (Ok r) = r.oid
oid_in o (Err e) = o

made_oid : (oid : ℕ) (ns name : Answer (List ℕ)) (columns : Answer (List Column)) (r : described.Relation)
    → next ns (λ ns. next name (λ name. next columns (λ made. Ok (record { oid = oid; ns = ns; name = name; columns = made })))) ≡ Ok r → r.oid ≡ oid
made_oid oid (Ok ns) (Ok name) (Ok columns) r h = ap (λ (a : Answer described.Relation). oid_in oid a) (sym h)
made_oid oid (Ok ns) (Ok name) (Err e) r h = absurd (subst IsOks (sym h) tt)
made_oid oid (Ok ns) (Err e) columns r h = absurd (subst IsOks (sym h) tt)
made_oid oid (Err e) name columns r h = absurd (subst IsOks (sym h) tt)

get_put : (known : ByOid) (o : ℕ) (a : Answer described.Relation) (before : List Message) (oid : ℕ) → ((r : described.Relation) → a ≡ Ok r → r.oid ≡ o) → fin.get known oid ≡ last_relation before oid
    → fin.get (put_made known a) oid ≡ or_else (if o == oid then if_made a else None) (last_relation before oid)
get_put known o (Err e) before oid made h =
    elim (o == oid) as (λ q. fin.get known oid ≡ or_else (if q then None else None) (last_relation before oid)) [ true ↦ h | false ↦ h ]
get_put known o (Ok r) before oid made h =
    get-insert nat_cmp_total known r.oid r oid
    ∙ ap (λ q. cond q (Some r) (fin.get known oid)) (cmp_same oid r.oid ∙ ap (λ n. n == oid) (made r refl))
    ∙ elim (o == oid) as (λ q. cond q (Some r) (fin.get known oid) ≡ or_else (if q then Some r else None) (last_relation before oid)) [ true ↦ refl | false ↦ h ]

put_so : (known : ByOid) (before : List Message) (m : Message) (oid : ℕ) → fin.get known oid ≡ last_relation before oid → fin.get (put_by known m) oid ≡ or_else (described_by oid m) (last_relation before oid)
put_so known before (Relation o ns name identity columns) oid h = get_put known o (relation_of o ns name columns) before oid (made_oid o (text_of (namespace_of ns)) (text_of name) (columns_of columns)) h
put_so known before (Begin lsn time xid) oid h = h
put_so known before (Commit flags lsn end time) oid h = h
put_so known before (Origin lsn name) oid h = h
put_so known before (TypeName o ns name) oid h = h
put_so known before (Logical flags lsn prefix content) oid h = h
put_so known before (Insert o row) oid h = h
put_so known before (Update o old row) oid h = h
put_so known before (Delete o old) oid h = h
put_so known before (Truncate options oids) oid h = h

abbrev IsNones : {A : Type 0} → Option A → Type 0
IsNones None = Unit {0}
IsNones (Some x) = ⊥

none_first : (x y : Begun) → or_else x y ≡ None → x ≡ None
none_first None y h = refl
none_first (Some x) y h = absurd (subst IsNones (sym h) tt)

-- outside of a transaction a message that is not refused brings no change
brings_by : (begin : Begun) (last kind : ℕ) (v : Verdict) (a : Answer (List DefinedChange)) → change_refused begin last kind v ≡ None → begin ≡ None → if_kept a ≡ []
brings_by None last kind v a h e = absurd (subst IsNones (sym h) tt)
brings_by (Some begin) last kind v a h e = absurd (subst IsNones (sym e) tt)

brings : (tables : List Served) (last : ℕ) (before : List Message) (m : Message) → refused_after tables last before m ≡ None → begin_of (rest_of before) ≡ None → more_of tables before m ≡ []
brings tables last before (Begin lsn time xid) h e = refl
brings tables last before (Commit flags lsn end time) h e = refl
brings tables last before (Origin lsn name) h e = refl
brings tables last before (TypeName oid ns name) h e = refl
brings tables last before (Logical flags lsn prefix content) h e = refl
brings tables last before (Relation oid ns name identity columns) h e = refl
brings tables last before (Insert oid row) h e = brings_by _ _ _ _ (changes_after tables before (Insert oid row)) h e
brings tables last before (Update oid old row) h e = brings_by _ _ _ _ (changes_after tables before (Update oid old row)) h e
brings tables last before (Delete oid old) h e = brings_by _ _ _ _ (changes_after tables before (Delete oid old)) h e
brings tables last before (Truncate options oids) h e = brings_by _ _ _ _ (changes_after tables before (Truncate options oids)) h e

module _ (tables : List Served) (last : ℕ) (before : List Message) (known : ByOid) (s : Stands tables before known) (m : Message) (h : refused_after tables last before m ≡ None) where
  quiet_so : (q : Bool) → is_commit m ≡ q → begin_of (rest_of (before ++ m ∷ [])) ≡ None → changes_in tables (concat (pieces_of (before ++ m ∷ []))) (rest_of (before ++ m ∷ [])) ≡ []
  quiet_so true e none = ap (changes_in tables (concat (pieces_of (before ++ m ∷ [])))) (rest_closed before m e)
  quiet_so false e none =
      let out = none_first (begin_of (rest_of before)) (or_begin m None) (sym (begin_next before m e) ∙ none) in
      changes_next tables before m e ∙ ap (λ (xs : List DefinedChange). xs ++ more_of tables before m) (s.quiet out) ∙ brings tables last before m h out

  still_so : (q : Bool) → is_commit m ≡ q → begin_of (rest_of (before ++ m ∷ [])) ≡ None → bytes_in tables (concat (pieces_of (before ++ m ∷ []))) (rest_of (before ++ m ∷ [])) ≡ 0
  still_so true e none = ap (bytes_in tables (concat (pieces_of (before ++ m ∷ [])))) (rest_closed before m e)
  still_so false e none =
      let out = none_first (begin_of (rest_of before)) (or_begin m None) (sym (begin_next before m e) ∙ none) in
      bytes_next tables before m e ∙ ap (λ n. n + bytes_kept m (more_of tables before m)) (s.still out) ∙ ap (λ (xs : List DefinedChange). 0 + bytes_kept m xs) (brings tables last before m h out)

  pub stands_on : Stands tables (before ++ m ∷ []) (put_by known m)
  stands_on = record {
    relations = λ oid. put_so known before m oid (s.relations oid) ∙ sym (relation_more before m oid);
    quiet = quiet_so (is_commit m) refl;
    still = still_so (is_commit m) refl;
  }

pub stands_first : (tables : List Served) → Stands tables [] fin.empty
stands_first tables = record { relations = λ oid. get-empty nat_cmp oid; quiet = λ e. refl; still = λ e. refl }
