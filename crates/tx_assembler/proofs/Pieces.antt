-- Messages of a stretch, one more at a time.
use Rattle.std.proofs.Common.{◌≡◌, ℕ, ◌+◌, ◌<◌, ◌≤◌, max, Bool, true, false, List, [], ◌∷◌, ◌++◌, map, refl, sym, ap, ◌∙◌, arith, append_assoc, Option, Some, None}
use Rattle.std.specs.Prelude.{nat_le, if◌then◌else◌}
use Rattle.std.proofs.lemmas.List.{append-nil}
use Rattle.std.proofs.lemmas.Bool.Decides.{nat_tests}
use Rattle.pgout.specs.declared.message.Message.{Message}
use Rattle.pgout.specs.declared.message.Message.TheVariants.{Begin, Commit, Origin, TypeName, Relation, Insert, Update, Delete, Truncate, Logical}
use Rattle.shape_base.specs.declared.served.Served.{Served}
use Rattle.shape_base.specs.declared.change.Tx.{Tx}
use Rattle.relation_cache.specs.declared.relation.Relation as described
use Rattle.tx_assembler.specs.Kept.{DefinedChange, bytes_kept}
use Rattle.tx_assembler.specs.Shown.{Sent, messages_of, or_else, described_by, last_relation, is_commit, before_first, pieces_of, concat, has_commit, rest_of, or_begin, begin_of, lsn_of, if_kept, changes_after, changes_in, bytes_in, tx_of, greatest_of, Verdict, refused_after, unless_refused, taken_from, shown_in}

pub all_sent : (ms : List Message) → messages_of (map Sent ms) ≡ ms
all_sent [] = refl
all_sent (m ∷ ms) = ap (λ (xs : List Message). m ∷ xs) (all_sent ms)

-- ---- what counts

taken_by : (tables : List Served) (last : ℕ) (before ms : List Message) (m x : Message) (v : Verdict) → unless_refused v x (taken_from tables last (before ++ x ∷ []) ms) ≡ x ∷ ms
    → (taken_from tables last (before ++ x ∷ []) ms ≡ ms → taken_from tables last (before ++ x ∷ []) (ms ++ m ∷ []) ≡ ms ++ m ∷ [])
    → unless_refused v x (taken_from tables last (before ++ x ∷ []) (ms ++ m ∷ [])) ≡ x ∷ (ms ++ m ∷ [])
taken_by tables last before ms m x None h next = ap (λ (xs : List Message). x ∷ xs) (next cc)
taken_by tables last before ms m x (Some e) h next = cc

pub taken_more : (tables : List Served) (last : ℕ) (before ms : List Message) (m : Message) → taken_from tables last before ms ≡ ms → refused_after tables last (before ++ ms) m ≡ None → taken_from tables last before (ms ++ m ∷ []) ≡ ms ++ m ∷ []
taken_more tables last before [] m h none = rw (sym (ap (λ (xs : List Message). refused_after tables last xs m) (append-nil before)) ∙ none) refl
taken_more tables last before (x ∷ ms) m h none =
    taken_by tables last before ms m x (refused_after tables last before x) h
    (λ rest. taken_more tables last (before ++ x ∷ []) ms m rest (ap (λ (xs : List Message). refused_after tables last xs m) (append_assoc before (x ∷ []) ms) ∙ none))

-- ---- pieces

no_pieces : (ms : List Message) → has_commit ms ≡ false → pieces_of ms ≡ []
no_pieces [] h = refl
no_pieces (m ∷ ms) h = elim (is_commit m) as (λ b. (if b then true else has_commit ms) ≡ false → (if b then (m ∷ []) ∷ pieces_of ms else before_first m (pieces_of ms)) ≡ []) [
  | true ↦ λ k. cc
  | false ↦ λ k. ap (before_first m) (no_pieces ms k)
] h

all_rest : (ms : List Message) → has_commit ms ≡ false → rest_of ms ≡ ms
all_rest [] h = refl
all_rest (m ∷ ms) h = rw h refl

rest_has : (m : Message) (ms : List Message) → has_commit (m ∷ ms) ≡ true → rest_of (m ∷ ms) ≡ rest_of ms
rest_has m ms h = rw h refl

pub record HasPiece (ms : List Message) : Type 0 where
  pub first : List Message
  pub others : List (List Message)
  pub is : pieces_of ms ≡ first ∷ others

has_piece : (ms : List Message) → has_commit ms ≡ true → HasPiece ms
has_piece [] h = cc
has_piece (m ∷ ms) h = elim (is_commit m) as (λ b. is_commit m ≡ b → (if b then true else has_commit ms) ≡ true → HasPiece (m ∷ ms)) [
  | true ↦ λ e k. record { first = m ∷ []; others = pieces_of ms; is = rw e refl }
  | false ↦ λ e k. let p = has_piece ms k in record { first = m ∷ p.first; others = p.others; is = rw (e, p.is) refl }
] refl h

pub pieces_quiet : (ms : List Message) (m : Message) → is_commit m ≡ false → pieces_of (ms ++ m ∷ []) ≡ pieces_of ms
pieces_quiet [] m h = rw h refl
pieces_quiet (x ∷ ms) m h = ap (λ (ps : List (List Message)). if is_commit x then (x ∷ []) ∷ ps else before_first x ps) (pieces_quiet ms m h)

commit_quiet : (ms : List Message) (m : Message) → is_commit m ≡ false → has_commit (ms ++ m ∷ []) ≡ has_commit ms
commit_quiet [] m h = rw h refl
commit_quiet (x ∷ ms) m h = ap (λ (b : Bool). if is_commit x then true else b) (commit_quiet ms m h)

rest_by : (x : Message) (ms : List Message) (m : Message) (b : Bool) → has_commit (x ∷ ms) ≡ b → has_commit (x ∷ (ms ++ m ∷ [])) ≡ b → rest_of (ms ++ m ∷ []) ≡ rest_of ms ++ m ∷ [] → rest_of (x ∷ (ms ++ m ∷ [])) ≡ rest_of (x ∷ ms) ++ m ∷ []
rest_by x ms m true e f h = rw (e, f) h
rest_by x ms m false e f h = rw (e, f) refl

pub rest_quiet : (ms : List Message) (m : Message) → is_commit m ≡ false → rest_of (ms ++ m ∷ []) ≡ rest_of ms ++ m ∷ []
rest_quiet [] m h = rw h refl
rest_quiet (x ∷ ms) m h = rest_by x ms m (has_commit (x ∷ ms)) refl (commit_quiet (x ∷ ms) m h) (rest_quiet ms m h)

-- a Commit closes a piece
closes_by : (x : Message) (ms : List Message) (m : Message) (b : Bool) → is_commit x ≡ false → has_commit ms ≡ b → pieces_of (ms ++ m ∷ []) ≡ pieces_of ms ++ (rest_of ms ++ m ∷ []) ∷ []
    → before_first x (pieces_of (ms ++ m ∷ [])) ≡ before_first x (pieces_of ms) ++ (rest_of (x ∷ ms) ++ m ∷ []) ∷ []
closes_by x ms m true e h k =
    let p = has_piece ms h in
    let all : has_commit (x ∷ ms) ≡ true = rw (e, h) refl in
    ap (before_first x) (k ∙ ap (λ (ps : List (List Message)). ps ++ (rest_of ms ++ m ∷ []) ∷ []) p.is)
    ∙ sym (ap (λ (ps : List (List Message)). before_first x ps ++ (rest_of (x ∷ ms) ++ m ∷ []) ∷ []) p.is ∙ ap (λ (r : List Message). ((x ∷ p.first) ∷ p.others) ++ (r ++ m ∷ []) ∷ []) (rest_has x ms all))
closes_by x ms m false e h k =
    let none : has_commit (x ∷ ms) ≡ false = rw (e, h) refl in
    ap (before_first x) (k ∙ ap (λ (ps : List (List Message)). ps ++ (rest_of ms ++ m ∷ []) ∷ []) (no_pieces ms h) ∙ ap (λ (r : List Message). (r ++ m ∷ []) ∷ []) (all_rest ms h))
    ∙ sym (ap (λ (ps : List (List Message)). before_first x ps ++ (rest_of (x ∷ ms) ++ m ∷ []) ∷ []) (no_pieces ms h) ∙ ap (λ (r : List Message). (r ++ m ∷ []) ∷ []) (all_rest (x ∷ ms) none))

closes_at : (x : Message) (ms : List Message) (m : Message) (b : Bool) → is_commit x ≡ b → pieces_of (ms ++ m ∷ []) ≡ pieces_of ms ++ (rest_of ms ++ m ∷ []) ∷ []
    → pieces_of (x ∷ (ms ++ m ∷ [])) ≡ pieces_of (x ∷ ms) ++ (rest_of (x ∷ ms) ++ m ∷ []) ∷ []
closes_at x ms m true e k = rw e (ap (λ (ps : List (List Message)). (x ∷ []) ∷ ps) k)
closes_at x ms m false e k =
    ap (λ (b : Bool). if b then (x ∷ []) ∷ pieces_of (ms ++ m ∷ []) else before_first x (pieces_of (ms ++ m ∷ []))) e ∙ closes_by x ms m (has_commit ms) e refl k
    ∙ ap (λ (b : Bool). (if b then (x ∷ []) ∷ pieces_of ms else before_first x (pieces_of ms)) ++ (rest_of (x ∷ ms) ++ m ∷ []) ∷ []) (sym e)

pub pieces_closed : (ms : List Message) (m : Message) → is_commit m ≡ true → pieces_of (ms ++ m ∷ []) ≡ pieces_of ms ++ (rest_of ms ++ m ∷ []) ∷ []
pieces_closed [] m h = rw h refl
pieces_closed (x ∷ ms) m h = closes_at x ms m (is_commit x) refl (pieces_closed ms m h)

ends_closed : (ms : List Message) (m : Message) → is_commit m ≡ true → has_commit (ms ++ m ∷ []) ≡ true
ends_closed [] m h = rw h refl
ends_closed (x ∷ ms) m h = elim (is_commit x) as (λ b. (if b then true else has_commit (ms ++ m ∷ [])) ≡ true) [ true ↦ refl | false ↦ ends_closed ms m h ]

pub rest_closed : (ms : List Message) (m : Message) → is_commit m ≡ true → rest_of (ms ++ m ∷ []) ≡ []
rest_closed [] m h = rw h refl
rest_closed (x ∷ ms) m h = rest_has x (ms ++ m ∷ []) (ends_closed (x ∷ ms) m h) ∙ rest_closed ms m h

-- the pieces and the rest are all messages
joined_by : (m : Message) (ms : List Message) (b : Bool) → is_commit m ≡ false → has_commit ms ≡ b → concat (pieces_of ms) ++ rest_of ms ≡ ms → concat (before_first m (pieces_of ms)) ++ rest_of (m ∷ ms) ≡ m ∷ ms
joined_by m ms true e h k =
    let p = has_piece ms h in
    let all : has_commit (m ∷ ms) ≡ true = rw (e, h) refl in
    ap (λ (ps : List (List Message)). concat (before_first m ps) ++ rest_of (m ∷ ms)) p.is ∙ ap (λ (r : List Message). concat (before_first m (p.first ∷ p.others)) ++ r) (rest_has m ms all)
    ∙ ap (λ (xs : List Message). m ∷ xs) (ap (λ (ps : List (List Message)). concat ps ++ rest_of ms) (sym p.is) ∙ k)
joined_by m ms false e h k =
    let none : has_commit (m ∷ ms) ≡ false = rw (e, h) refl in
    ap (λ (ps : List (List Message)). concat (before_first m ps) ++ rest_of (m ∷ ms)) (no_pieces ms h) ∙ all_rest (m ∷ ms) none

joined_at : (m : Message) (ms : List Message) (b : Bool) → is_commit m ≡ b → concat (pieces_of ms) ++ rest_of ms ≡ ms → concat (pieces_of (m ∷ ms)) ++ rest_of (m ∷ ms) ≡ m ∷ ms
joined_at m ms true e k =
    let all : has_commit (m ∷ ms) ≡ true = rw e refl in
    ap (λ (r : List Message). concat (pieces_of (m ∷ ms)) ++ r) (rest_has m ms all) ∙ ap (λ (b : Bool). concat (if b then (m ∷ []) ∷ pieces_of ms else before_first m (pieces_of ms)) ++ rest_of ms) e ∙ ap (λ (xs : List Message). m ∷ xs) k
joined_at m ms false e k = ap (λ (b : Bool). concat (if b then (m ∷ []) ∷ pieces_of ms else before_first m (pieces_of ms)) ++ rest_of (m ∷ ms)) e ∙ joined_by m ms (has_commit ms) e refl k

pub joined : (ms : List Message) → concat (pieces_of ms) ++ rest_of ms ≡ ms
joined [] = refl
joined (m ∷ ms) = joined_at m ms (is_commit m) refl (joined ms)

-- ---- one message more

begin_by : (m : Message) (o o' : Option (ℕ × ℕ)) (begin : ℕ × ℕ) → (o ≡ Some begin → o' ≡ Some begin) → or_begin m o ≡ Some begin → or_begin m o' ≡ Some begin
begin_by (Begin lsn time xid) o o' begin next h = h
begin_by (Commit flags lsn end time) o o' begin next h = next h
begin_by (Origin lsn name) o o' begin next h = next h
begin_by (TypeName oid ns name) o o' begin next h = next h
begin_by (Relation oid ns name identity columns) o o' begin next h = next h
begin_by (Insert oid row) o o' begin next h = next h
begin_by (Update oid before row) o o' begin next h = next h
begin_by (Delete oid before) o o' begin next h = next h
begin_by (Truncate options oids) o o' begin next h = next h
begin_by (Logical flags lsn prefix content) o o' begin next h = next h

last_of : (o : Option described.Relation) → or_else None o ≡ or_else o None
last_of None = refl
last_of (Some r) = refl

or_else-same : (x y z : Option described.Relation) → or_else (or_else x y) z ≡ or_else x (or_else y z)
or_else-same None y z = refl
or_else-same (Some r) y z = refl

pub begin_more : (ms : List Message) (m : Message) (begin : ℕ × ℕ) → begin_of ms ≡ Some begin → begin_of (ms ++ m ∷ []) ≡ Some begin
begin_more [] m begin h = cc
begin_more (x ∷ ms) m begin h = begin_by x (begin_of ms) (begin_of (ms ++ m ∷ [])) begin (begin_more ms m begin) h

pub relation_more : (ms : List Message) (m : Message) (oid : ℕ) → last_relation (ms ++ m ∷ []) oid ≡ or_else (described_by oid m) (last_relation ms oid)
relation_more [] m oid = last_of (described_by oid m)
relation_more (x ∷ ms) m oid = ap (λ (o : Option described.Relation). or_else o (described_by oid x)) (relation_more ms m oid) ∙ or_else-same (described_by oid m) (last_relation ms oid) (described_by oid x)

pub changes_more : (tables : List Served) (before ms : List Message) (m : Message) → changes_in tables before (ms ++ m ∷ []) ≡ changes_in tables before ms ++ if_kept (changes_after tables (before ++ ms) m)
changes_more tables before [] m = append-nil (if_kept (changes_after tables before m)) ∙ ap (λ (xs : List Message). if_kept (changes_after tables xs m)) (sym (append-nil before))
changes_more tables before (x ∷ ms) m =
    ap (λ (cs : List DefinedChange). if_kept (changes_after tables before x) ++ cs) (changes_more tables (before ++ x ∷ []) ms m)
    ∙ sym (append_assoc (if_kept (changes_after tables before x)) (changes_in tables (before ++ x ∷ []) ms) (if_kept (changes_after tables ((before ++ x ∷ []) ++ ms) m)))
    ∙ ap (λ (xs : List Message). (if_kept (changes_after tables before x) ++ changes_in tables (before ++ x ∷ []) ms) ++ if_kept (changes_after tables xs m)) (append_assoc before (x ∷ []) ms)

pub bytes_more : (tables : List Served) (before ms : List Message) (m : Message) → bytes_in tables before (ms ++ m ∷ []) ≡ bytes_in tables before ms + bytes_kept m (if_kept (changes_after tables (before ++ ms) m))
bytes_more tables before [] m =
    let e = ap (λ (xs : List Message). bytes_kept m (if_kept (changes_after tables xs m))) (append-nil before) in
    omega (arith, e)
bytes_more tables before (x ∷ ms) m =
    let rest = bytes_more tables (before ++ x ∷ []) ms m in
    let e = ap (λ (xs : List Message). bytes_kept m (if_kept (changes_after tables xs m))) (append_assoc before (x ∷ []) ms) in
    omega (arith, rest, e)

-- ---- one transaction more

concat_more : (ps : List (List Message)) (p : List Message) → concat (ps ++ p ∷ []) ≡ concat ps ++ p
concat_more [] p = append-nil p
concat_more (q ∷ ps) p = ap (λ (xs : List Message). q ++ xs) (concat_more ps p) ∙ sym (append_assoc q (concat ps) p)

pub greatest_more : (last : ℕ) (ps : List (List Message)) (p : List Message) → greatest_of last (ps ++ p ∷ []) ≡ max (greatest_of last ps) (lsn_of p)
greatest_more last [] p = refl
greatest_more last (q ∷ ps) p = greatest_more (max last (lsn_of q)) ps p

-- the transaction of a piece, where it is no repeat
abbrev pub one_shown : List Served → List Message → ℕ → List Message → List Tx
one_shown tables before last p = if nat_le (lsn_of p) last then [] else tx_of tables before p ∷ []

shown_by_piece : (tables : List Served) (before : List Message) (last : ℕ) (q : List Message) (ps : List (List Message)) (p : List Message) (b : Bool) → nat_le (lsn_of q) last ≡ b
    → ((l : ℕ) → shown_in tables (before ++ q) l (ps ++ p ∷ []) ≡ shown_in tables (before ++ q) l ps ++ one_shown tables ((before ++ q) ++ concat ps) (greatest_of l ps) p)
    → (if b then shown_in tables (before ++ q) last (ps ++ p ∷ []) else tx_of tables before q ∷ shown_in tables (before ++ q) (lsn_of q) (ps ++ p ∷ []))
    ≡ (if b then shown_in tables (before ++ q) last ps else tx_of tables before q ∷ shown_in tables (before ++ q) (lsn_of q) ps) ++ one_shown tables (before ++ (q ++ concat ps)) (greatest_of (max last (lsn_of q)) ps) p
shown_by_piece tables before last q ps p true e next =
    let same : max last (lsn_of q) ≡ last = let le : lsn_of q ≤ last = grind (arith, nat_tests) in omega (arith, le) in
    next last ∙ ap (λ (xs : List Message). shown_in tables (before ++ q) last ps ++ one_shown tables xs (greatest_of last ps) p) (append_assoc before q (concat ps))
    ∙ ap (λ (l : ℕ). shown_in tables (before ++ q) last ps ++ one_shown tables (before ++ (q ++ concat ps)) (greatest_of l ps) p) (sym same)
shown_by_piece tables before last q ps p false e next =
    let same : max last (lsn_of q) ≡ lsn_of q = let lt : last < lsn_of q = grind (arith, nat_tests) in omega (arith, lt) in
    ap (λ (txs : List Tx). tx_of tables before q ∷ txs) (next (lsn_of q) ∙ ap (λ (xs : List Message). shown_in tables (before ++ q) (lsn_of q) ps ++ one_shown tables xs (greatest_of (lsn_of q) ps) p) (append_assoc before q (concat ps))
    ∙ ap (λ (l : ℕ). shown_in tables (before ++ q) (lsn_of q) ps ++ one_shown tables (before ++ (q ++ concat ps)) (greatest_of l ps) p) (sym same))

pub shown_more : (tables : List Served) (before : List Message) (last : ℕ) (ps : List (List Message)) (p : List Message)
    → shown_in tables before last (ps ++ p ∷ []) ≡ shown_in tables before last ps ++ one_shown tables (before ++ concat ps) (greatest_of last ps) p
shown_more tables before last [] p = ap (λ (xs : List Message). one_shown tables xs last p) (sym (append-nil before))
shown_more tables before last (q ∷ ps) p = shown_by_piece tables before last q ps p (nat_le (lsn_of q) last) refl (λ l. shown_more tables (before ++ q) l ps p)
