-- A snapshot that begins, and takes its rows.
use Rattle.std.proofs.Common.{◌≡◌, ℕ, Bool, true, false, List, [], ◌∷◌, ◌++◌, refl, ap, sym, ◌∙◌, subst, append_assoc, Option, None, Some, inl, inr}
use Rattle.std.specs.Bool.{if◌then◌else◌}
use Rattle.std.specs.Prelude.{Result, Ok, Err}
use Rattle.std.specs.FinMap as fin
use Rattle.std.proofs.lemmas.List.{append-nil}
use Rattle.shape_base.specs.declared.change.Tx.{Tx}
use Rattle.shape_base.specs.declared.definition.TableDef.{TableDef}
use Rattle.shape_base.specs.declared.limits.Limits.{Limits}
use Rattle.shape_base.specs.Tables.{Values, Table}
use Rattle.shape_base.specs.Visibility.{Visibility, is_visible}
use Rattle.shape_base.specs.RegistryHistory.{is_live}
use Rattle.shape_json.specs.ShapeHistory.{Reader}
use Rattle.pg_dialogue.specs.declared.login.SnapHead.{SnapHead}
use Rattle.shape_def.specs.declared.defining.Def.{Def}
use Rattle.shape_snapshot.specs.declared.faults.SnapError.{SnapError}
use Rattle.shape_snapshot.specs.declared.faults.SnapError.TheVariants.{DefinitionChanged, Stale}
use Rattle.shape_snapshot.specs.Refusals.{seen_of, definition_got, is_defined_so, fresh_of, started_over, start_of, refusal_of, or_else, IsRefusal, IsCause}
use Rattle.shape_snapshot.specs.Taken.{HasTaken}
use Rattle.core_law.specs.Situation.{Options, Shape, shape_at}
use Rattle.core_law.specs.Situation as law
use Rattle.core_law.specs.Steps.{id_before}
use Rattle.core_law.proofs.Lists.{some_same}
use Rattle.core_server.specs.declared.server.Server.{Server}
use Rattle.core_server.specs.Standing.{Kept, knows_in, reader_of, reader_in, Stands}
use Rattle.core_server.specs.Snapshots.{Snap, error_in, first_refused, refusal_in, IsUnderWay}
use Rattle.core_server.proofs.Dropping.{live_shape}

-- ---- the first refusal, with one row more

else_none : (a : Option SnapError) → or_else a None ≡ a
else_none None = refl
else_none (Some e) = refl

else_both : (a b c : Option SnapError) → or_else a (or_else b c) ≡ or_else (or_else a b) c
else_both None b c = refl
else_both (Some e) b c = refl

first_push : (r : Reader) (l : Limits) (before rows : Table) (row : Values) → first_refused r l before (rows ++ row ∷ []) ≡ or_else (first_refused r l before rows) (refusal_of r l (before ++ rows) row)
first_push r l before [] row = else_none (refusal_of r l before row) ∙ ap (λ (rs : Table). refusal_of r l rs row) (sym (append-nil before))
first_push r l before (one ∷ rows) row = ap (or_else (refusal_of r l before one)) (first_push r l (before ++ one ∷ []) rows row ∙ ap (λ (rs : Table). or_else (first_refused r l (before ++ one ∷ []) rows) (refusal_of r l rs row)) (append_assoc before (one ∷ []) rows))
    ∙ else_both (refusal_of r l before one) (first_refused r l (before ++ one ∷ []) rows) (refusal_of r l (before ++ one ∷ rows) row)

-- where nothing was refused, what refuses the next row does
with_row : (r : Reader) (l : Limits) (last : Option ℕ) (head : SnapHead) (rows : Table) (row : Values) → refusal_in r l last head rows ≡ None → refusal_in r l last head (rows ++ row ∷ []) ≡ refusal_of r l rows row
with_row r l last head rows row none = let start = error_in (start_of r.knows.definition last head) in
    ap (or_else start) (first_push r l [] rows row) ∙ else_both start (first_refused r l [] rows) (refusal_of r l rows row) ∙ ap (λ a. or_else a (refusal_of r l rows row)) none

-- ---- a row

module _ (o : Options) (txs : List Tx) (x : Shape) (head : SnapHead) (rows : Table) (row : Values) (old : Snap) (u : IsUnderWay o txs x head rows old) where
  -- what it has taken, in its own words
  pub has_taken : HasTaken (reader_of old.emitter.test) old.limits old.kept rows
  has_taken = subst (λ r. HasTaken r old.limits old.kept rows) (sym u.reader) (subst (λ l. HasTaken x.reader l old.kept rows) (sym u.limits) u.taken)

  refusal_is : refusal_in x.reader o.limits (id_before txs x.before) head (rows ++ row ∷ []) ≡ refusal_of (reader_of old.emitter.test) old.limits rows row
  refusal_is = with_row x.reader o.limits (id_before txs x.before) head rows row u.none ∙ ap (λ r. refusal_of r o.limits rows row) (sym u.reader) ∙ ap (λ l. refusal_of (reader_of old.emitter.test) l rows row) (sym u.limits)

  pub row_refused : (e : SnapError) → IsCause (refusal_of (reader_of old.emitter.test) old.limits rows row) e → IsCause (refusal_in x.reader o.limits (id_before txs x.before) head (rows ++ row ∷ [])) e
  row_refused e h = subst (λ a. IsCause a e) (sym refusal_is) h

  module _ (new : Snap) (test : new.emitter.test ≡ old.emitter.test) (limits : new.limits ≡ old.limits) (vis : new.vis ≡ old.vis) (least : new.kept.log.least ≡ old.kept.log.least) where
    goes_on : (all : Table) → refusal_in x.reader o.limits (id_before txs x.before) head all ≡ None → HasTaken (reader_of new.emitter.test) new.limits new.kept all → IsUnderWay o txs x head all new
    goes_on all none taken = record {
      reader = ap reader_of test ∙ u.reader;
      limits = limits ∙ u.limits;
      least = least ∙ u.least;
      shows = u.shows ∙ ap (λ v. Ok v) (sym vis);
      none = none;
      taken = subst (λ l. HasTaken x.reader l new.kept all) (limits ∙ u.limits) (subst (λ r. HasTaken r new.limits new.kept all) (ap reader_of test ∙ u.reader) taken);
    }

    pub row_taken : refusal_of (reader_of old.emitter.test) old.limits rows row ≡ None → HasTaken (reader_of new.emitter.test) new.limits new.kept (rows ++ row ∷ []) → IsUnderWay o txs x head (rows ++ row ∷ []) new
    row_taken none taken = goes_on (rows ++ row ∷ []) (refusal_is ∙ none) taken

    pub row_not_taken : HasTaken (reader_of new.emitter.test) new.limits new.kept rows → IsUnderWay o txs x head rows new
    row_not_taken taken = goes_on rows u.none taken

-- ---- the head

fresh_shows : (last : Option ℕ) (v w : Visibility) → fresh_of last w ≡ Ok v → w ≡ v
fresh_shows None v w h = cc
fresh_shows (Some xid) v w h = pick (is_visible w xid) h
  where
    pick : (b : Bool) → (if b then Ok w else Err (Stale xid w.xmax)) ≡ Ok v → w ≡ v
    pick true h = cc
    pick false h = cc

shows_if : (d : TableDef) (last : Option ℕ) (head : SnapHead) (v w : Visibility) (b : Bool) → (if b then fresh_of last w else Err (DefinitionChanged d (definition_got d head))) ≡ Ok v → w ≡ v
shows_if d last head v w true h = fresh_shows last v w h
shows_if d last head v w false h = cc

start_shows : (d : TableDef) (last : Option ℕ) (head : SnapHead) (v : Visibility) (a : Result Visibility SnapError) → started_over d last head a ≡ Ok v → a ≡ Ok v
start_shows d last head v (Err e) h = cc
start_shows d last head v (Ok w) h = ap (λ w. Ok w) (shows_if d last head v w (is_defined_so d head) h)

module _ (o : Options) (v : law.Server) (s : Server) (n : ℕ) (x : Shape) (k : Kept) (last : Option ℕ) (head : SnapHead) (h : Stands o v s) (live : is_live v.registry n ≡ true) (there : fin.get s.registry.kept n ≡ Some k) (at : shape_at v.shapes n ≡ Some x)
    (is : id_before v.commits x.before ≡ last) where
  reads : reader_in k ≡ x.reader
  reads = let l = live_shape o v s n k h live there in sym l.kept.reader ∙ ap (λ (x : Shape). x.reader) (some_same l.shape x (sym l.at ∙ at))

  start_is : start_of x.reader.knows.definition (id_before v.commits x.before) head ≡ start_of (knows_in k.emitter.test).definition last head
  start_is = ap (λ (r : Reader). start_of r.knows.definition (id_before v.commits x.before) head) (sym reads) ∙ ap (λ last. start_of (knows_in k.emitter.test).definition last head) is

  begun_by : (snap : Snap) → start_of (knows_in k.emitter.test).definition last head ≡ Ok snap.vis → HasTaken (reader_in k) s.limits snap.kept [] → snap.emitter.test ≡ k.emitter.test → snap.limits ≡ s.limits → snap.kept.log.least ≡ s.limits.chunk
      → IsUnderWay o v.commits x head [] snap
  begun_by snap started taken test limits least = record {
    reader = ap reader_of test ∙ reads;
    limits = limits ∙ h.limits;
    least = least ∙ ap (λ (l : Limits). l.chunk) h.limits;
    shows = start_shows (knows_in k.emitter.test).definition last head snap.vis (seen_of head) started;
    none = ap (λ a. or_else (error_in a) None) (start_is ∙ started);
    taken = subst (λ l. HasTaken x.reader l snap.kept []) h.limits (subst (λ r. HasTaken r s.limits snap.kept []) reads taken);
  }

  pub begun : (snap : Snap) (t : Def) → t ≡ k.emitter.test → start_of (knows_in t).definition last head ≡ Ok snap.vis → HasTaken (reader_of t) s.limits snap.kept [] → snap.emitter.test ≡ t → snap.limits ≡ s.limits → snap.kept.log.least ≡ s.limits.chunk
      → IsUnderWay o v.commits x head [] snap
  begun snap t same started taken test limits least = begun_by snap (subst (λ t. start_of (knows_in t).definition last head ≡ Ok snap.vis) same started) (subst (λ t. HasTaken (reader_of t) s.limits snap.kept []) same taken) (test ∙ same) limits least

  cause_of : (a : Result Visibility SnapError) (e : SnapError) → IsRefusal a e → IsCause (or_else (error_in a) None) e
  cause_of a e (inl memory) = inl memory
  cause_of a e (inr err) = inr (ap (λ a. or_else (error_in a) None) err)

  pub begin_refused : (e : SnapError) (t : Def) → t ≡ k.emitter.test → IsRefusal (start_of (knows_in t).definition last head) e → IsCause (refusal_in x.reader o.limits (id_before v.commits x.before) head []) e
  begin_refused e t same r = subst (λ a. IsCause (or_else (error_in a) None) e) (sym (start_is ∙ ap (λ t. start_of (knows_in t).definition last head) (sym same))) (cause_of (start_of (knows_in t).definition last head) e r)
