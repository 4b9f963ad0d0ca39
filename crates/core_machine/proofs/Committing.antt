-- Commits that come together: the server takes them one after the other, and then those are answered that await a number of which an answer can tell.
use Rattle.std.proofs.Common.{◌≡◌, ℕ, ◌+◌, ◌<◌, ◌≤◌, Bool, true, false, ◌||◌, List, [], ◌∷◌, length, get_or, drop, refl, sym, ap, subst, ◌∙◌, None, arith}
use Rattle.std.specs.Prelude.{nat_lt}
use Rattle.std.specs.Bool.{if◌then◌else◌}
use Rattle.std.specs.List.{list_any}
use Rattle.std.specs.Ordering.{nat_cmp, eq_by_cmp}
use Rattle.std.specs.BTreeMap.{is_at}
use Rattle.std.specs.BTreeSet.{BTreeSet}
use Rattle.std.specs.Set as set
use Rattle.std.proofs.lemmas.Bool.Decides.{nat_tests, Decides-ltb}
use Rattle.std.proofs.lemmas.List.{drop_more}
use Rattle.shape_base.specs.declared.change.Tx.{Tx}
use Rattle.shape_base.specs.RegistryHistory.{last_lsn}
use Rattle.core_events.specs.declared.out.Out.{Out}
use Rattle.core_law.specs.Situation.{Options, Server, Situation}
use Rattle.core_law.specs.Steps.{after_commit, unless_repeat, after_commits}
use Rattle.core_law.specs.Clients.{never}
use Rattle.core_law.specs.Run.{Committed, turn_of}
use Rattle.core_law.specs.Waiting.{IsAsBefore}
use Rattle.core_law.proofs.Lemmas.{others_wait}
use Rattle.core_server.specs.declared.server.Server.{Server as KeptServer}
use Rattle.core_server.specs.Committing.{IsTold}
use Rattle.core_server.specs.Standing as server
use Rattle.core_exchanges.specs.Indexing.{is_among}
use Rattle.core_exchanges.proofs.Lemmas.{among_keys}
use Rattle.core_machine.specs.declared.machine.Machine.{Machine}
use Rattle.core_machine.specs.Awaiting.{awaits_any, AreAnswered}
use Rattle.core_machine.specs.Committing.{AreTakable, IsQuietBut, IsTaken, AreTaken}
use Rattle.core_machine.specs.Opening.{SparesClients}
use Rattle.core_machine.specs.Standing.{Stands}
use Rattle.core_machine.specs.Turns.{GoesOn}
use Rattle.core_machine.proofs.Changing.{awaiting_any_settles}
use Rattle.core_machine.proofs.Quiet.{quiet_here, quiet_then}
use Rattle.core_machine.proofs.Removing.{next_by, goes_by, around, change_same}
use Rattle.core_machine.proofs.Requests.{refused_as}
use Rattle.core_machine.proofs.Lasts.{lasts_committed}

-- ---- numbers and places

-- what was added to a set is among its keys, and what was among them
pub united : (old new : BTreeSet ℕ) (xs : List ℕ) → set.IsUnion (eq_by_cmp nat_cmp) old.keys xs new.keys → (n : ℕ) → is_among n new.keys ≡ (is_among n old.keys || is_among n xs)
united old new xs both n = among_keys n new.keys ∙ both n ∙ ap (λ b. b || list_any (is_at (nat_cmp n)) xs) (sym (among_keys n old.keys)) ∙ ap (λ b. is_among n old.keys || b) (sym (among_keys n xs))

-- ---- one commit

repeats : (o : Options) (v : Server) (tx : Tx) → tx.lsn ≤ last_lsn v.registry → unless_repeat o v tx ≡ v
repeats o v tx old = let no : nat_lt (last_lsn v.registry) tx.lsn ≡ false = grind (arith, nat_tests, old) in ap (λ b. if b then after_commit o v tx else v) no

pub passed_over : (o : Options) (v : Server) (tx : Tx) (new : KeptServer) (told : List ℕ) → server.Stands o v new → tx.lsn ≤ last_lsn v.registry → IsTaken o v tx new told told
passed_over o v tx new told stands old = record {
  stands = subst (λ w. server.Stands o w new) (sym (repeats o v tx old)) stands;
  more = λ n out. out;
  quiet = λ n out. subst (λ w. IsAsBefore v w n) (sym (repeats o v tx old)) (quiet_here v n);
}

comes : (o : Options) (v : Server) (tx : Tx) → last_lsn v.registry < tx.lsn → unless_repeat o v tx ≡ after_commit o v tx
comes o v tx later = ap (λ b. if b then after_commit o v tx else v) ((Decides-ltb (last_lsn v.registry) tx.lsn).1 later)

either : (a b : Bool) → (a || b) ≡ false → (a ≡ false) × (b ≡ false)
either true b e = cc
either false true e = cc
either false false e = (refl, refl)

pub taken_up : (o : Options) (v : Server) (tx : Tx) (new : KeptServer) (before told numbers : List ℕ) → last_lsn v.registry < tx.lsn → server.Stands o (after_commit o v tx) new → IsTold v (after_commit o v tx) numbers
    → ((n : ℕ) → is_among n told ≡ (is_among n before || is_among n numbers)) → IsTaken o v tx new before told
taken_up o v tx new before told numbers later stands is more = record {
  stands = subst (λ w. server.Stands o w new) (sym (comes o v tx later)) stands;
  more = λ n out. (parts n out).0;
  quiet = λ n out. subst (λ w. IsAsBefore v w n) (sym (comes o v tx later)) (is.quiet n (parts n out).1);
}
  where
    parts : (n : ℕ) → is_among n told ≡ false → (is_among n before ≡ false) × (is_among n numbers ≡ false)
    parts n out = either (is_among n before) (is_among n numbers) (sym (more n) ∙ out)

-- ---- one after the other

-- once some were taken: the others lead to the same server
pub record Midway (o : Options) (v : Server) (txs rest : List Tx) (new : KeptServer) (told : List ℕ) : Type 0 where
  pub now : Server
  pub stands : server.Stands o now new
  pub same : after_commits o now rest ≡ after_commits o v txs
  pub quiet : IsQuietBut told v now

pub record Taking (old new : KeptServer) (txs rest : List Tx) (told : List ℕ) : Type 0 where
  pub situated : server.IsSituated new
  pub takable : AreTakable new.tables rest
  pub midway : (o : Options) (v : Server) → server.Stands o v old → Midway o v txs rest new told

pub begins : (old : KeptServer) (txs : List Tx) (told : List ℕ) → server.IsSituated old → AreTakable old.tables txs → Taking old old txs txs told
begins old txs told situated takable = record { situated = situated; takable = takable; midway = λ o v h. record { now = v; stands = h; same = refl; quiet = λ n out. quiet_here v n } }

pub goes_on : (old new next : KeptServer) (txs : List Tx) (tx : Tx) (rest : List Tx) (before told : List ℕ) → Taking old new txs (tx ∷ rest) before → ((o : Options) (v : Server) → server.Stands o v new → IsTaken o v tx next before told) → next.tables ≡ new.tables → Taking old next txs rest told
goes_on old new next txs tx rest before told t taken tables = let w = t.situated in record {
  situated = record { options = w.options; situation = unless_repeat w.options w.situation tx; stands = (taken w.options w.situation w.stands).stands };
  takable = subst (λ ts. AreTakable ts rest) (sym tables) t.takable.1;
  midway = λ o v h. let m = t.midway o v h in let k = taken o m.now m.stands in record {
    now = unless_repeat o m.now tx;
    stands = k.stands;
    same = m.same;
    quiet = λ n out. quiet_then v m.now (unless_repeat o m.now tx) n (m.quiet n (k.more n out)) (k.quiet n out);
  };
}

pub ends : (old new : KeptServer) (txs : List Tx) (told : List ℕ) → Taking old new txs [] told → (o : Options) (v : Server) → server.Stands o v old → AreTaken o v txs new told
ends old new txs told t o v h = let m = t.midway o v h in record { stands = subst (λ w. server.Stands o w new) m.same m.stands; quiet = subst (IsQuietBut told v) m.same m.quiet }

-- the commits that are left begin with the next one
pub next_here : (txs : List Tx) (i : ℕ) (tx : Tx) → i < length txs → tx ≡ get_or txs i tx → drop i txs ≡ tx ∷ drop (i + 1) txs
next_here txs i tx lt is = drop_more txs i tx lt ∙ ap (λ y. y ∷ drop (i + 1) txs) (sym is)

-- ---- the machine

module _ (o : Options) (s : Situation) (txs : List Tx) where
  abbrev pub with_commits : Situation
  with_commits = record s { server = after_commits o s.server txs }

  pub committed : (m m' : Machine) (told : List ℕ) (now : List Out) → Stands o s m → AreTaken o s.server txs m'.server told → SparesClients m m' → m'.lasts ≡ m.lasts → AreAnswered o (next_by o s (Committed txs)) s.exchanges m' (awaits_any told) None now
      → GoesOn o (turn_of o s (Committed txs)) now m'
  committed m m' told now h taken spares lasts aw = goes_by o s with_commits (Committed txs) never refl h.start h.reached (λ v is. is) m' now false None aw.places
      (awaiting_any_settles others_wait o s with_commits (Committed txs) told 0 None aw.places h.start h.reached h.of_tables refl (change_same (refused_as with_commits.server None) s.exchanges 0 (λ x. refl)) aw.await (λ none. cc) taken.quiet)
      h.said h.of_tables (around o s m m' h spares) taken.stands aw.halfway.exchanges aw.outs_are
      (ap (λ l. l.items) lasts ∙ h.lasts ∙ sym (lasts_committed o s txs h.start h.reached))
