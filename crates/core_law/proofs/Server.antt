-- What a server keeps through its steps.
use Rattle.std.proofs.Common.{◌≡◌, ℕ, zero, suc, ◌^◌, ◌≤◌, ◌<◌, Bool, true, false, ◌||◌, List, [], ◌∷◌, ◌++◌, length, drop, refl, sym, ◌∙◌, ap, subst, append_assoc, Option, None, Some, ◌⊎◌, inl, inr}
use Rattle.std.specs.Bool.{if◌then◌else◌}
use Rattle.std.specs.Prelude.{is_none}
use Rattle.std.proofs.lemmas.List.{append-nil}
use Rattle.shape_base.specs.declared.ask.Ask.{Ask}
use Rattle.shape_base.specs.declared.cause.Cause.{Cause}
use Rattle.shape_base.specs.declared.change.Tx.{Tx}
use Rattle.shape_base.specs.declared.definition.TableDef.{TableDef}
use Rattle.shape_base.specs.declared.registry_event.RegistryEvent.{RegistryEvent}
use Rattle.shape_base.specs.declared.registry_event.RegistryEvent.TheVariants.{Removed, Redefined}
use Rattle.shape_base.specs.Tables.{same_def}
use Rattle.shape_base.specs.Snapshot.{Snapshot, definition_in}
use Rattle.shape_base.specs.Shape.{have_truths}
use Rattle.shape_base.specs.RegistryHistory.{registration_in, registrations, had_ready, was_removed, was_registered_under, is_live, MayFollow, IsLegal}
use Rattle.shape_base.proofs.Lemmas.{was_registered_under-append, was_removed-append, had_ready-append, legal_next}
use Rattle.shape_json.specs.ShapeHistory.{Reader, ShapeEvent, Snapped, Took, Dropped, taken, snapshot_in}
use Rattle.shape_registry.proofs.Growing.{part_stays}
use Rattle.core_law.specs.Situation.{Options, Shape, Server, shape_at, reader_under}
use Rattle.core_law.specs.Steps.{with_event, change_shape, with_registry, with_shape_event, redefined, removed, dropped, id_before, stale_by}
use Rattle.core_law.specs.Laws.{IsStart}
use Rattle.core_law.proofs.Lists.{Before, changed_back, Later, changed_forth, changed_here, length_changed}

-- ---- the facts

-- one of the shapes of a number is the other later on
pub record Alike (x y : Shape) : Type 0 where
  pub ask : y.ask ≡ x.ask
  pub reader : y.reader ≡ x.reader
  pub before : y.before ≡ x.before
  pub snapshot : (snap : Snapshot) → snapshot_in x.events ≡ Some snap → snapshot_in y.events ≡ Some snap

pub record IsShape (o : Options) (v : Server) (n : ℕ) (x : Shape) : Type 0 where
  pub before : x.before ≤ length v.commits
  pub definition : TableDef
  pub placed : definition.table ≡ x.ask.table
  pub reads : reader_under o x.ask definition ≡ Some x.reader
  pub took : was_removed v.registry n ≡ false → taken x.events ≡ drop x.before v.commits

pub record FitsShape (txs : List Tx) (r : Reader) (before : ℕ) (snap : Snapshot) : Type 0 where
  pub definition : same_def (definition_in snap r.knows.definition.table) r.knows.definition ≡ true
  pub last : stale_by snap.visibility (id_before txs before) ≡ None
  pub truths : have_truths r.knows snap.rows ≡ true

pub record Started (v : Server) (n : ℕ) : Type 0 where
  pub shape : Shape
  pub snapshot : Snapshot
  pub at : shape_at v.shapes n ≡ Some shape
  pub is : snapshot_in shape.events ≡ Some snapshot
  pub fits : FitsShape v.commits shape.reader shape.before snapshot

-- a number that is registered under an identity has a shape of it
pub record Named (v : Server) (n : ℕ) (identity : List ℕ) : Type 0 where
  pub shape : Shape
  pub at : shape_at v.shapes n ≡ Some shape
  pub same : shape.ask.identity ≡ identity

pub record Sound (o : Options) (v : Server) : Type 0 where
  pub start : IsStart o
  pub legal : IsLegal o.limits.shapes v.registry
  pub counted : length (registrations v.registry) ≡ length v.shapes
  pub few : length v.shapes < 2 ^ 64
  pub shapes : (n : ℕ) (x : Shape) → shape_at v.shapes n ≡ Some x → IsShape o v n x
  pub ready : (n : ℕ) → had_ready v.registry n ≡ true → Started v n
  pub named : (i : List ℕ) (n : ℕ) → was_registered_under v.registry i n ≡ true → Named v n i

pub record GoesOn (v w : Server) (n : ℕ) (x : Shape) : Type 0 where
  pub now : Shape
  pub there : shape_at w.shapes n ≡ Some now
  pub alike : Alike x now

-- nothing of the one server is lost in the other
pub record Extends (v w : Server) : Type 0 where
  pub events : List RegistryEvent
  pub registry : w.registry ≡ v.registry ++ events
  pub txs : List Tx
  pub commits : w.commits ≡ v.commits ++ txs
  pub shapes : (n : ℕ) (x : Shape) → shape_at v.shapes n ≡ Some x → GoesOn v w n x

pub record Better (o : Options) (v w : Server) : Type 0 where
  pub sound : Sound o v → Sound o w
  pub on : Extends v w

-- ---- one after the other

pub alike_same : (x : Shape) → Alike x x
alike_same x = record { ask = refl; reader = refl; before = refl; snapshot = λ snap h. h }

pub alike_trans : (x y z : Shape) → Alike x y → Alike y z → Alike x z
alike_trans x y z a b = record { ask = b.ask ∙ a.ask; reader = b.reader ∙ a.reader; before = b.before ∙ a.before; snapshot = λ snap h. b.snapshot snap (a.snapshot snap h) }

pub extends_same : (v : Server) → Extends v v
extends_same v = record { events = []; registry = sym (append-nil v.registry); txs = []; commits = sym (append-nil v.commits); shapes = λ n x h. record { now = x; there = h; alike = alike_same x } }

pub extends_trans : (u v w : Server) → Extends u v → Extends v w → Extends u w
extends_trans u v w a b = record {
  events = a.events ++ b.events;
  registry = b.registry ∙ ap (λ es. es ++ b.events) a.registry ∙ append_assoc u.registry a.events b.events;
  txs = a.txs ++ b.txs;
  commits = b.commits ∙ ap (λ es. es ++ b.txs) a.commits ∙ append_assoc u.commits a.txs b.txs;
  shapes = λ n x h. let g = a.shapes n x h in let k = b.shapes n g.now g.there in record { now = k.now; there = k.there; alike = alike_trans x g.now k.now g.alike k.alike };
}

pub better_same : (o : Options) (v : Server) → Better o v v
better_same o v = record { sound = λ s. s; on = extends_same v }

pub better_trans : (o : Options) (u v w : Server) → Better o u v → Better o v w → Better o u w
better_trans o u v w a b = record { sound = λ s. b.sound (a.sound s); on = extends_trans u v w a.on b.on }

-- ---- shapes with one event more

snapshot_stays : (es : List ShapeEvent) (e : ShapeEvent) (snap : Snapshot) → snapshot_in es ≡ Some snap → snapshot_in (es ++ e ∷ []) ≡ Some snap
snapshot_stays [] e snap h = cc
snapshot_stays (Snapped x ∷ es) e snap h = h
snapshot_stays (Took tx others ∷ es) e snap h = snapshot_stays es e snap h
snapshot_stays (Dropped cause ∷ es) e snap h = snapshot_stays es e snap h

pub snapshot_comes : (es : List ShapeEvent) (snap : Snapshot) → is_none (snapshot_in es) ≡ true → snapshot_in (es ++ Snapped snap ∷ []) ≡ Some snap
snapshot_comes [] snap h = refl
snapshot_comes (Snapped x ∷ es) snap h = cc
snapshot_comes (Took tx others ∷ es) snap h = snapshot_comes es snap h
snapshot_comes (Dropped cause ∷ es) snap h = snapshot_comes es snap h

pub taken-append : (es fs : List ShapeEvent) → taken (es ++ fs) ≡ taken es ++ taken fs
taken-append [] fs = refl
taken-append (Snapped x ∷ es) fs = taken-append es fs
taken-append (Took tx others ∷ es) fs = ap (λ txs. tx ∷ txs) (taken-append es fs)
taken-append (Dropped cause ∷ es) fs = taken-append es fs

pub alike_event : (e : ShapeEvent) (x : Shape) → Alike x (with_event e x)
alike_event e x = record { ask = refl; reader = refl; before = refl; snapshot = λ snap h. snapshot_stays x.events e snap h }

pub alike_or : (e : ShapeEvent) (x y : Shape) → (y ≡ x) ⊎ (y ≡ with_event e x) → Alike x y
alike_or e x y (inl h) = subst (λ z. Alike x z) (sym h) (alike_same x)
alike_or e x y (inr h) = subst (λ z. Alike x z) (sym h) (alike_event e x)

shape_of : (o : Options) (v w : Server) (n : ℕ) (x y : Shape) → w.commits ≡ v.commits → w.registry ≡ v.registry → Alike x y → taken y.events ≡ taken x.events → IsShape o v n x → IsShape o w n y
shape_of o v w n x y commits registry alike same is = record {
  before = subst (λ m. m ≤ length w.commits) (sym alike.before) (subst (λ txs. x.before ≤ length txs) (sym commits) is.before);
  definition = is.definition;
  placed = is.placed ∙ ap (λ (ask : Ask). ask.table) (sym alike.ask);
  reads = ap (λ ask. reader_under o ask is.definition) alike.ask ∙ is.reads ∙ ap (λ (r : Reader). Some r) (sym alike.reader);
  took = λ h. same ∙ is.took (subst (λ es. was_removed es n ≡ false) registry h) ∙ ap (drop x.before) (sym commits) ∙ ap (λ m. drop m w.commits) (sym alike.before);
}

fits_alike : (txs : List Tx) (x y : Shape) (snap : Snapshot) → Alike x y → FitsShape txs x.reader x.before snap → FitsShape txs y.reader y.before snap
fits_alike txs x y snap alike h = subst (λ r. FitsShape txs r y.before snap) (sym alike.reader) (subst (λ m. FitsShape txs x.reader m snap) (sym alike.before) h)

pub named_on : (v w : Server) (n : ℕ) (i : List ℕ) → ((x : Shape) → shape_at v.shapes n ≡ Some x → GoesOn v w n x) → Named v n i → Named w n i
named_on v w n i on h = let g = on h.shape h.at in record { shape = g.now; at = g.there; same = ap (λ (ask : Ask). ask.identity) g.alike.ask ∙ h.same }

pub started_on : (v w : Server) (n : ℕ) → ((snap : Snapshot) (r : Reader) (before : ℕ) (x : Shape) → shape_at v.shapes n ≡ Some x → x.before ≡ before → FitsShape v.commits r before snap → FitsShape w.commits r before snap) → ((x : Shape) → shape_at v.shapes n ≡ Some x → GoesOn v w n x) → Started v n → Started w n
started_on v w n fits on h = let g = on h.shape h.at in record {
  shape = g.now;
  snapshot = h.snapshot;
  at = g.there;
  is = g.alike.snapshot h.snapshot h.is;
  fits = fits_alike w.commits h.shape g.now h.snapshot g.alike (fits h.snapshot h.shape.reader h.shape.before h.shape h.at refl h.fits);
}

-- ---- one registry event that registers nothing and makes nothing ready

pub either_false : (a b : Bool) → (a || b) ≡ false → a ≡ false
either_false true b h = cc
either_false false b h = refl

pub first_true : (a b : Bool) → (a || b) ≡ true → b ≡ false → a ≡ true
first_true true b h e = refl
first_true false b h e = cc

-- the shape stays one, whatever the registry says more
pub shape_stays : (o : Options) (v : Server) (e : RegistryEvent) (n : ℕ) (x : Shape) → IsShape o v n x → IsShape o (with_registry v e) n x
shape_stays o v e n x is = record {
  before = is.before;
  definition = is.definition;
  placed = is.placed;
  reads = is.reads;
  took = λ live. is.took (either_false (was_removed v.registry n) (was_removed (e ∷ []) n) (sym (was_removed-append v.registry (e ∷ []) n) ∙ live));
}

quiet : (o : Options) (v : Server) (e : RegistryEvent) → registration_in e ≡ None → ((m : ℕ) → had_ready (e ∷ []) m ≡ false) → ((i : List ℕ) (m : ℕ) → was_registered_under (e ∷ []) i m ≡ false) → (Sound o v → MayFollow o.limits.shapes v.registry e) → Better o v (with_registry v e)
quiet o v e none unready unnamed next = record {
  sound = λ s. record {
    start = s.start;
    legal = legal_next o.limits.shapes v.registry e s.legal (next s);
    counted = ap length (part_stays registration_in v.registry e none) ∙ s.counted;
    few = s.few;
    shapes = λ n x h. shape_stays o v e n x (s.shapes n x h);
    ready = λ n h. let g = s.ready n (first_true (had_ready v.registry n) (had_ready (e ∷ []) n) (sym (had_ready-append v.registry (e ∷ []) n) ∙ h) (unready n)) in
        record { shape = g.shape; snapshot = g.snapshot; at = g.at; is = g.is; fits = g.fits };
    named = λ i n h. let g = s.named i n (first_true (was_registered_under v.registry i n) (was_registered_under (e ∷ []) i n) (sym (was_registered_under-append v.registry (e ∷ []) i n) ∙ h) (unnamed i n)) in record { shape = g.shape; at = g.at; same = g.same };
  };
  on = record { events = e ∷ []; registry = refl; txs = []; commits = sym (append-nil v.commits); shapes = λ n x h. record { now = x; there = h; alike = alike_same x } };
}

pub removes : (o : Options) (v : Server) (n : ℕ) (cause : Cause) → is_live v.registry n ≡ true → Better o v (with_registry v (Removed n cause))
removes o v n cause live = quiet o v (Removed n cause) refl (λ m. refl) (λ i m. refl) (λ s. live)

pub redefines : (o : Options) (v : Server) (d : TableDef) → Better o v (with_registry v (Redefined d))
redefines o v d = quiet o v (Redefined d) refl (λ m. refl) (λ i m. refl) (λ s. tt)

pub redefines_some : (o : Options) (v : Server) (d : Option TableDef) → Better o v (redefined v d)
redefines_some o v None = better_same o v
redefines_some o v (Some d) = redefines o v d

removed_if : (o : Options) (v : Server) (n : ℕ) (cause : Cause) (b : Bool) → is_live v.registry n ≡ b → Better o v (if b then with_registry v (Removed n cause) else v)
removed_if o v n cause true live = removes o v n cause live
removed_if o v n cause false live = better_same o v

removed_better : (o : Options) (v : Server) (n : ℕ) (cause : Cause) → Better o v (removed v n cause)
removed_better o v n cause = removed_if o v n cause (is_live v.registry n) refl

-- ---- one event more for one shape, which is no commit

at_changed_back : (f : Shape → Shape) (xs : List Shape) (n m : ℕ) (y : Shape) → shape_at (change_shape f xs n) m ≡ Some y → Before f (shape_at xs m) y
at_changed_back f xs n zero y h = cc
at_changed_back f xs zero (suc j) y h = record { was = y; there = h; same_or = inl refl }
at_changed_back f xs (suc i) (suc j) y h = changed_back f xs i j y h

at_changed_forth : (f : Shape → Shape) (xs : List Shape) (n m : ℕ) (x : Shape) → shape_at xs m ≡ Some x → Later f (shape_at (change_shape f xs n) m) x
at_changed_forth f xs n zero x h = cc
at_changed_forth f xs zero (suc j) x h = record { now = x; there = h; same_or = inl refl }
at_changed_forth f xs (suc i) (suc j) x h = changed_forth f xs i j x h

pub at_changed_here : (f : Shape → Shape) (xs : List Shape) (n : ℕ) (x : Shape) → shape_at xs n ≡ Some x → shape_at (change_shape f xs n) n ≡ Some (f x)
at_changed_here f xs zero x h = cc
at_changed_here f xs (suc i) x h = changed_here f xs i x h

length_changed_shape : (f : Shape → Shape) (xs : List Shape) (n : ℕ) → length (change_shape f xs n) ≡ length xs
length_changed_shape f xs zero = refl
length_changed_shape f xs (suc i) = length_changed f xs i

taken_or : (e : ShapeEvent) (x y : Shape) → taken (e ∷ []) ≡ [] → (y ≡ x) ⊎ (y ≡ with_event e x) → taken y.events ≡ taken x.events
taken_or e x y none (inl h) = ap (λ z. taken z.events) h
taken_or e x y none (inr h) = ap (λ z. taken z.events) h ∙ taken-append x.events (e ∷ []) ∙ ap (λ txs. taken x.events ++ txs) none ∙ append-nil (taken x.events)

event_on : (v : Server) (n : ℕ) (e : ShapeEvent) (m : ℕ) (x : Shape) → shape_at v.shapes m ≡ Some x → GoesOn v (with_shape_event v n e) m x
event_on v n e m x h = let g = at_changed_forth (with_event e) v.shapes n m x h in record { now = g.now; there = g.there; alike = alike_or e x g.now g.same_or }

pub event_better : (o : Options) (v : Server) (n : ℕ) (e : ShapeEvent) → taken (e ∷ []) ≡ [] → Better o v (with_shape_event v n e)
event_better o v n e none = record {
  sound = λ s. record {
    start = s.start;
    legal = s.legal;
    counted = s.counted ∙ sym (length_changed_shape (with_event e) v.shapes n);
    few = subst (λ k. k < 2 ^ 64) (sym (length_changed_shape (with_event e) v.shapes n)) s.few;
    shapes = λ m y h. let b = at_changed_back (with_event e) v.shapes n m y h in shape_of o v (with_shape_event v n e) m b.was y refl refl (alike_or e b.was y b.same_or) (taken_or e b.was y none b.same_or) (s.shapes m b.was b.there);
    ready = λ m h. started_on v (with_shape_event v n e) m (λ snap r before x at is fits. fits) (λ x at. event_on v n e m x at) (s.ready m h);
    named = λ i m h. named_on v (with_shape_event v n e) m i (λ x at. event_on v n e m x at) (s.named i m h);
  };
  on = record { events = []; registry = sym (append-nil v.registry); txs = []; commits = sym (append-nil v.commits); shapes = λ m x h. event_on v n e m x h };
}

-- dropped from outside
pub drops : (o : Options) (v : Server) (n : ℕ) (cause : Cause) → Better o v (dropped v n cause)
drops o v n cause = better_trans o v (with_shape_event v n (Dropped cause)) _ (event_better o v n (Dropped cause) refl) (removed_better o (with_shape_event v n (Dropped cause)) n cause)
