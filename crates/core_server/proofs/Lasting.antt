-- The last commit and the last transaction taken, and what a snapshot under way keeps.
use Rattle.std.proofs.Common.{◌≡◌, ℕ, suc, ◌+◌, Bool, true, false, List, [], ◌∷◌, ◌++◌, length, refl, ap, sym, ◌∙◌, subst, arith, length-append, Option, None, Some}
use Rattle.std.specs.Bool.{if◌then◌else◌}
use Rattle.std.specs.Option.{option_map}
use Rattle.std.specs.List.{last_or}
use Rattle.shape_base.specs.declared.cause.Cause.{Cause}
use Rattle.shape_base.specs.declared.change.Tx.{Tx}
use Rattle.shape_base.specs.declared.definition.TableDef.{TableDef}
use Rattle.shape_base.specs.declared.registry_event.RegistryEvent.{RegistryEvent}
use Rattle.shape_base.specs.declared.registry_event.RegistryEvent.TheVariants.{Registered, Ready, Removed, Took, Redefined}
use Rattle.shape_base.specs.Tables.{Table}
use Rattle.shape_base.specs.RegistryHistory.{Taken, transaction_in, transactions, is_live, last_id}
use Rattle.shape_json.specs.ShapeHistory.{Reader, Snapped, Dropped, drop_of}
use Rattle.shape_registry.proofs.Growing.{part_stays, part_grows}
use Rattle.pg_dialogue.specs.declared.login.SnapHead.{SnapHead}
use Rattle.core_law.specs.Situation.{Options, Shape, Server, Situation, at_start}
use Rattle.core_law.specs.Steps.{with_registry, with_shape_event, redefined, with_commit, definition_by, removed_for, swept_from, id_before, started_by}
use Rattle.core_law.specs.Run as run
use Rattle.core_law.specs.Run.{next_of, turn_of, after}
use Rattle.core_law.proofs.Lists.{last_place, some_same}
use Rattle.core_law.proofs.Server.{Extends}
use Rattle.core_law.proofs.ServerSteps.{id_stays}
use Rattle.core_law.proofs.Serving.{Kept, always}
use Rattle.core_law.proofs.Whole.{after_extends, sound_after}
use Rattle.core_server.specs.Snapshots.{Snap, refusal_in, IsUnderWay}
use Rattle.core_server.specs.SnapshotLaws.{LastIsTaken, StaysUnderWay}

-- ---- the last commit

-- the last commit is the last transaction that was taken
abbrev IsLast : Server → Type 0
IsLast v = id_before v.commits (length v.commits) ≡ last_id v.registry

id_of : List Taken → Option ℕ
id_of ts = option_map (λ (t : Taken). t.xid) (last_or None ts)

same_id : (es : List RegistryEvent) (e : RegistryEvent) → transaction_in e ≡ None → last_id (es ++ e ∷ []) ≡ last_id es
same_id es e none = ap (λ (ts : List Taken). option_map (λ (t : Taken). t.xid) (last_or None ts)) (part_stays transaction_in es e none)

stays : (v : Server) (e : RegistryEvent) → transaction_in e ≡ None → IsLast v → IsLast (with_registry v e)
stays v e none p = p ∙ sym (same_id v.registry e none)

redefines : (v : Server) (d : Option TableDef) → IsLast v → IsLast (redefined v d)
redefines v None p = p
redefines v (Some d) p = stays v (Redefined d) refl p

removes_if : (v w : Server) (b : Bool) → IsLast v → IsLast w → IsLast (if b then w else v)
removes_if v w true p q = q
removes_if v w false p q = p

starts_by : (v : Server) (n : ℕ) (d : Option Cause) → IsLast v → IsLast (started_by v n d)
starts_by v n None p = stays v (Ready n) refl p
starts_by v n (Some cause) p = stays v (Removed n cause) refl p

last_pushed : {A : Type 0} (d : Option A) (xs : List A) (x : A) → last_or d (xs ++ x ∷ []) ≡ Some x
last_pushed d [] x = refl
last_pushed d (y ∷ ys) x = last_pushed (Some y) ys x

commits : (o : Options) (v : Server) (tx : Tx) → IsLast (with_commit o v tx)
commits o v tx =
    let t : Taken = record { lsn = tx.lsn; xid = tx.xid } in
    ap (id_before (v.commits ++ tx ∷ [])) (let l = length-append v.commits (tx ∷ []) in let e : length (v.commits ++ tx ∷ []) ≡ suc (length v.commits) = omega (arith, l) in e)
    ∙ ap (option_map (λ (tx : Tx). tx.xid)) (last_place v.commits tx)
    ∙ sym (ap (λ (ts : List Taken). option_map (λ (t : Taken). t.xid) (last_or None ts)) (part_grows transaction_in v.registry (Took tx.lsn tx.xid) t refl) ∙ ap (option_map (λ (t : Taken). t.xid)) (last_pushed None (transactions v.registry) t))

removes : (v : Server) (tx : Tx) (n : ℕ) (x : Shape) (d : Option Cause) → IsLast v → IsLast (removed_for v tx n x d)
removes v tx n x None p = p
removes v tx n x (Some cause) p = removes_if v (redefined (with_registry v (Removed n cause)) (definition_by x.reader.knows tx cause)) (is_live v.registry n) p
    (redefines (with_registry v (Removed n cause)) (definition_by x.reader.knows tx cause) (stays v (Removed n cause) refl p))

sweeps : (o : Options) (tx : Tx) (n : ℕ) (xs : List Shape) (v : Server) → IsLast v → IsLast (swept_from o tx n xs v)
sweeps o tx n [] v p = p
sweeps o tx n (x ∷ xs) v p = sweeps o tx (n + 1) xs (removed_for v tx n x (drop_of x.reader o.limits x.events)) (removes v tx n x (drop_of x.reader o.limits x.events) p)

kept : (o : Options) → Kept o IsLast
kept o = record {
  registers = λ v ask reader reads free room p. p ∙ sym (same_id v.registry (Registered (length v.shapes + 1) ask.identity ask.table (last_id v.registry)) refl);
  drops = λ v n cause live p. removes_if (with_shape_event v n (Dropped cause)) (with_registry (with_shape_event v n (Dropped cause)) (Removed n cause)) (is_live v.registry n) p (stays (with_shape_event v n (Dropped cause)) (Removed n cause) refl p);
  redefines = λ v d p. redefines v d p;
  starts = λ v n x snap at starting none allowed p. starts_by (with_shape_event v n (Snapped snap)) n (drop_of x.reader o.limits (x.events ++ Snapped snap ∷ [])) p;
  commits = λ v tx rises p. sweeps o tx 1 (with_commit o v tx).shapes (with_commit o v tx) (commits o v tx);
}

pub last_is_taken : LastIsTaken
last_is_taken o events = always o IsLast (kept o) events refl

-- ---- a snapshot under way

after_both : (o : Options) (s : Situation) (es fs : List run.Event) → after o s (es ++ fs) ≡ after o (after o s es) fs
after_both o s [] fs = refl
after_both o s (e ∷ es) fs = after_both o (next_of s (turn_of o s e)) es fs

-- it goes by the reader of its shape and the commit before that
pub same_way : (o : Options) (txs more : List Tx) (x y : Shape) (head : SnapHead) (rows : Table) (snap : Snap) → y.reader ≡ x.reader → id_before more y.before ≡ id_before txs x.before → IsUnderWay o txs x head rows snap → IsUnderWay o more y head rows snap
same_way o txs more x y head rows snap reads last h = record {
  reader = h.reader ∙ sym reads;
  limits = h.limits;
  least = h.least;
  shows = h.shows;
  none = ap (λ (r : Reader). refusal_in r o.limits (id_before more y.before) head rows) reads ∙ ap (λ last. refusal_in x.reader o.limits last head rows) last ∙ h.none;
  taken = subst (λ (r : Reader). Rattle.shape_snapshot.specs.Taken.HasTaken r o.limits snap.kept rows) (sym reads) h.taken;
}

pub stays_under_way : StaysUnderWay
stays_under_way o events later n x y head rows snap start at there h =
    let v = (after o at_start events).server in
    let w = (after o at_start (events ++ later)).server in
    let on : Extends v w = subst (λ (s : Situation). Extends v s.server) (sym (after_both o at_start events later)) (after_extends o (after o at_start events) later) in
    let g = on.shapes n x at in
    let same : g.now ≡ y = some_same g.now y (sym g.there ∙ there) in
    let before : y.before ≡ x.before = ap (λ (z : Shape). z.before) (sym same) ∙ g.alike.before in
    let reads : y.reader ≡ x.reader = ap (λ (z : Shape). z.reader) (sym same) ∙ g.alike.reader in
    let within = ((sound_after o events start).shapes n x at).before in
    same_way o v.commits w.commits x y head rows snap reads
    (ap (id_before w.commits) before ∙ ap (λ txs. id_before txs x.before) on.commits ∙ id_stays v.commits on.txs x.before within) h
