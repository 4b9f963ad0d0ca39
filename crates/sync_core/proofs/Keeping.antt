-- What is kept of snapshots stands for what came, whatever happens.
use Rattle.std.proofs.Common.{◌≡◌, ◌⊎◌, inl, inr, ℕ, ◌≤◌, Bool, true, false, ◌==◌, if◌then◌else◌, List, [], ◌∷◌, ◌++◌, length, refl, sym, ap, subst, ◌∙◌, arith, Option, None, Some}
use Rattle.std.specs.Prelude.{is_some}
use Rattle.std.specs.Ordering.{nat_cmp}
use Rattle.std.specs.Cmp.{unsigned_tied}
use Rattle.std.specs.BTreeMap.{is_at}
use Rattle.std.proofs.lemmas.Bool.Decides.{Decides-eqb}
use Rattle.std.proofs.lemmas.List.{append-nil, flat_map_more}
use Rattle.std.proofs.lemmas.Option.{slice_get_past}
use Rattle.shape_base.specs.Tables.{Table}
use Rattle.pg_dialogue.specs.declared.login.SnapHead.{SnapHead}
use Rattle.core_law.specs.Situation.{Options, Exchange, Situation}
use Rattle.core_law.specs.Steps.{owned_by}
use Rattle.core_law.specs.Clients.{Out, Goes}
use Rattle.core_law.specs.Run.{Event, turn_of, next_of}
use Rattle.core_law.specs.Laws.{IsStart}
use Rattle.core_law.specs.Reached.{IsReached}
use Rattle.core_machine.specs.Faults.{if_starting, under_way}
use Rattle.core_machine.specs.Snapshots.{SnapshotsStay, RefusalsStay, UnderWayIsKnown, ExchangesStay}
use Rattle.sync_core.specs.declared.snapshots.Taken.{Taken}
use Rattle.sync_core.specs.declared.snapshots.Taken.TheVariants as takens
use Rattle.sync_core.specs.declared.snapshots.UnderWay as program
use Rattle.sync_core.specs.Run.{said_to}
use Rattle.sync_core.specs.UnderWay.{Holds, TakenOf, IsUnderWay}
use Rattle.sync_core.specs.Kept.{Kept, kept_for, IsKept, IsUntouched, AreKept, KeepsOthers, KeptStays}

-- ---- small facts

unequal : (n m : ℕ) (b : Bool) → (n == m) ≡ b → (n ≡ m → ⊥) → b ≡ false
unequal n m true e other = absurd (other ((Decides-eqb n m).0 e))
unequal n m false e other = refl

-- a query for one number does not find another
pub elsewhere : (e q : ℕ) → (e ≡ q → ⊥) → is_at (nat_cmp e) q ≡ false
elsewhere e q other = unsigned_tied e q ∙ unequal e q (e == q) refl other

same_or_other : (n m : ℕ) → (n ≡ m) ⊎ (n ≡ m → ⊥)
same_or_other n m = pick (n == m) refl
  where
    pick : (b : Bool) → (n == m) ≡ b → (n ≡ m) ⊎ (n ≡ m → ⊥)
    pick true e = inl ((Decides-eqb n m).0 e)
    pick false e = inr (λ is. let same : (n == m) ≡ true = (Decides-eqb n m).1 is in cc)

-- ---- what came

module _ (e : ℕ) (pieces : List (ℕ × List ℕ)) (bytes : List ℕ) where
  said_more : (q : ℕ) → said_to q (pieces ++ (e, bytes) ∷ []) ≡ said_to q pieces ++ (if e == q then bytes else [])
  said_more q = sym (flat_map_more (λ (p : ℕ × List ℕ). if p.0 == q then p.1 else []) [] pieces (e, bytes))

  -- a piece comes to its own exchange
  pub said_here : said_to e (pieces ++ (e, bytes) ∷ []) ≡ said_to e pieces ++ bytes
  said_here = said_more e ∙ ap (λ (b : Bool). said_to e pieces ++ (if b then bytes else [])) ((Decides-eqb e e).1 refl)

  -- and to no other
  pub said_apart : (q : ℕ) → (e ≡ q → ⊥) → said_to q (pieces ++ (e, bytes) ∷ []) ≡ said_to q pieces
  said_apart q other = said_more q ∙ ap (λ (b : Bool). said_to q pieces ++ (if b then bytes else [])) (unequal e q (e == q) refl other) ∙ append-nil (said_to q pieces)

-- ---- what is kept for one exchange

module _ (o : Options) (s : Situation) (event : Event) (begun : SnapshotsStay) (refused : RefusalsStay) (start : IsStart o) (reached : IsReached o s) where
  holds_on : (e : ℕ) (head : SnapHead) (rows : Table) (taken : Taken) → Holds o s e head rows taken → Holds o (next_of s (turn_of o s event)) e head rows taken
  holds_on e head rows takens.Nothing h = h
  holds_on e head rows (takens.Rows snap) h = begun o s event e head rows snap start reached h
  holds_on e head rows (takens.Refused error) h = refused o s event e head rows error start reached h

  taken_on : (e : ℕ) (head : Option SnapHead) (rows : Table) (taken : Taken) → TakenOf o s e head rows taken → TakenOf o (next_of s (turn_of o s event)) e head rows taken
  taken_on e None rows taken h = h
  taken_on e (Some head) rows taken h = record { few = h.few; holds = holds_on e head rows taken h.holds }

  kept_on : (e : ℕ) (said : List ℕ) (kept : Option program.UnderWay) → IsKept o s e said kept → IsKept o (next_of s (turn_of o s event)) e said kept
  kept_on e said None h = h
  kept_on e said (Some under) h = record { given = h.given; took = h.took; goes = h.goes; taken = taken_on e h.given.head h.given.rows under.taken h.taken }

untouched_is_kept : (o : Options) (s : Situation) (e : ℕ) (pieces : List (ℕ × List ℕ)) (kept : Kept) → IsUntouched e pieces kept → IsKept o s e (said_to e pieces) (kept_for kept e)
untouched_is_kept o s e pieces kept u = subst (λ (k : Option program.UnderWay). IsKept o s e (said_to e pieces) k) (sym u.none) u.unsaid

-- where none came a snapshot under way with no bytes stands for what came
pub none_came : (o : Options) (s : Situation) (e : ℕ) (said : List ℕ) (under : program.UnderWay) → said ≡ [] → IsUnderWay o s e [] under → IsUnderWay o s e said under
none_came o s e said under none u = subst (λ (fed : List ℕ). IsUnderWay o s e fed under) (sym none) u

-- ---- what is kept for all

-- at the start nothing
pub none_kept : (o : Options) (s : Situation) (kept : Kept) → ((e : ℕ) → kept_for kept e ≡ None) → AreKept o s [] kept
none_kept o s kept none = record {
  owners = λ e owns. untouched_is_kept o s e [] kept (record { unsaid = refl; none = none e });
  unmade = λ e past. record { unsaid = refl; none = none e };
}

pub kept_stays : SnapshotsStay → RefusalsStay → UnderWayIsKnown → ExchangesStay → KeptStays
kept_stays begun refused known grow o s event pieces kept start reached h = record {
  owners = λ e owns. pick e (known o s event e start reached owns);
  unmade = λ e past. h.unmade e (let more = grow o s event in omega (arith, more, past));
}
  where
    pick : (e : ℕ) → (is_some (under_way s e) ≡ true) ⊎ (length s.exchanges ≤ e) → IsKept o (next_of s (turn_of o s event)) e (said_to e pieces) (kept_for kept e)
    pick e (inl owned) = kept_on o s event begun refused start reached e (said_to e pieces) (kept_for kept e) (h.owners e owned)
    pick e (inr new) = untouched_is_kept o (next_of s (turn_of o s event)) e pieces kept (h.unmade e new)

-- where an event goes on
pub kept_next : KeptStays → (o : Options) (s : Situation) (event : Event) (pieces : List (ℕ × List ℕ)) (kept : Kept) → IsStart o → IsReached o s → AreKept o s pieces kept → (outs : List Out) (next : Situation) → turn_of o s event ≡ Goes outs next → AreKept o next pieces kept
kept_next law o s event pieces kept start reached h outs next turn = subst (λ (x : Situation). AreKept o x pieces kept) (ap (next_of s) turn) (law o s event pieces kept start reached h)

-- whoever owns a snapshot under way was made
pub owner_made : (s : Situation) (e : ℕ) → is_some (under_way s e) ≡ true → length s.exchanges ≤ e → ⊥
owner_made s e owns past =
    let none : under_way s e ≡ None = ap (λ (x : Option Exchange). if_starting s (owned_by x)) (slice_get_past s.exchanges e past) in
    let never : false ≡ true = ap is_some (sym none) ∙ owns in
    cc

never_owns : {P : Type 0} (s : Situation) (e : ℕ) → under_way s e ≡ None → is_some (under_way s e) ≡ true → P
never_owns s e none owns = let never : false ≡ true = ap is_some (sym none) ∙ owns in cc

-- what is kept for one exchange changes
module _ (o : Options) (s : Situation) (pieces more : List (ℕ × List ℕ)) (e : ℕ) (old new : Kept) (h : AreKept o s pieces old) (others : KeepsOthers e old new) (apart : (q : ℕ) → (e ≡ q → ⊥) → said_to q more ≡ said_to q pieces) where
  changes : (is_some (under_way s e) ≡ true → IsKept o s e (said_to e more) (kept_for new e)) → (length s.exchanges ≤ e → IsUntouched e more new) → AreKept o s more new
  changes own past = record {
    owners = λ q owns. owner q (same_or_other e q) owns;
    unmade = λ q later. still q (same_or_other e q) later;
  }
    where
      owner : (q : ℕ) → (e ≡ q) ⊎ (e ≡ q → ⊥) → is_some (under_way s q) ≡ true → IsKept o s q (said_to q more) (kept_for new q)
      owner q (inl is) owns = subst (λ (i : ℕ). IsKept o s i (said_to i more) (kept_for new i)) is (own (subst (λ (i : ℕ). is_some (under_way s i) ≡ true) (sym is) owns))
      owner q (inr other) owns = subst (λ (k : Option program.UnderWay). IsKept o s q (said_to q more) k) (sym (others q other)) (subst (λ (said : List ℕ). IsKept o s q said (kept_for old q)) (sym (apart q other)) (h.owners q owns))

      still : (q : ℕ) → (e ≡ q) ⊎ (e ≡ q → ⊥) → length s.exchanges ≤ q → IsUntouched q more new
      still q (inl is) later = subst (λ (i : ℕ). IsUntouched i more new) is (past (subst (λ (i : ℕ). length s.exchanges ≤ i) (sym is) later))
      still q (inr other) later = let u = h.unmade q later in record { unsaid = apart q other ∙ u.unsaid; none = others q other ∙ u.none }

-- a piece came, and more is to come
pub piece_waits : (o : Options) (s : Situation) (pieces : List (ℕ × List ℕ)) (e : ℕ) (bytes : List ℕ) (old new : Kept) (under : program.UnderWay) → AreKept o s pieces old → KeepsOthers e old new → is_some (under_way s e) ≡ true → kept_for new e ≡ Some under
    → IsUnderWay o s e (said_to e (pieces ++ (e, bytes) ∷ [])) under → AreKept o s (pieces ++ (e, bytes) ∷ []) new
piece_waits o s pieces e bytes old new under h others owns is u = changes o s pieces (pieces ++ (e, bytes) ∷ []) e old new h others (said_apart e pieces bytes)
    (λ _. subst (λ (k : Option program.UnderWay). IsKept o s e (said_to e (pieces ++ (e, bytes) ∷ [])) k) (sym is) u) (λ past. absurd (owner_made s e owns past))

-- a piece came, and with it the exchange's snapshot ended
pub piece_ends : (o : Options) (s : Situation) (pieces : List (ℕ × List ℕ)) (e : ℕ) (bytes : List ℕ) (old new : Kept) → AreKept o s pieces old → KeepsOthers e old new → under_way s e ≡ None → (length s.exchanges ≤ e → ⊥) → AreKept o s (pieces ++ (e, bytes) ∷ []) new
piece_ends o s pieces e bytes old new h others none made = changes o s pieces (pieces ++ (e, bytes) ∷ []) e old new h others (said_apart e pieces bytes) (λ owns. never_owns s e none owns) (λ past. absurd (made past))

-- it ended with no piece, and nothing of it is kept
pub end_lets_go : (o : Options) (s : Situation) (pieces : List (ℕ × List ℕ)) (e : ℕ) (old new : Kept) → AreKept o s pieces old → KeepsOthers e old new → under_way s e ≡ None → kept_for new e ≡ None → AreKept o s pieces new
end_lets_go o s pieces e old new h others none gone = changes o s pieces pieces e old new h others (λ q other. refl) (λ owns. never_owns s e none owns) (λ past. record { unsaid = (h.unmade e past).unsaid; none = gone })
