-- What is found for a handle that is named is decided by the one that is live under its identity.
use Rattle.std.proofs.Common.{◌≡◌, ℕ, Bool, true, false, cond, ◌&&◌, ◌==◌, List, map, Option, None, Some, refl, sym, ◌∙◌, ap, subst}
use Rattle.std.specs.Prelude.{IfSome, IsSomeAnd, find}
use Rattle.std.specs.Option.{option_map}
use Rattle.std.proofs.lemmas.Bool.Decides.{Decides-eqb}
use Rattle.shape_base.specs.declared.handle.Handle.{Handle}
use Rattle.shape_base.specs.Tables.{same_text}
use Rattle.shape_base.specs.RegistryHistory.{LiveHandle, RegistryState}
use Rattle.shape_registry.specs.declared.found.Found.{Found}
use Rattle.shape_registry.specs.declared.found.Found.TheVariants as found
use Rattle.shape_registry.specs.declared.handles.LiveEntry.{LiveEntry}
use Rattle.shape_registry.specs.declared.names.Live.{Live}
use Rattle.shape_registry.specs.State.{live_at, live_as, found_live, ready_number, gone_in, found_named}
use Rattle.shape_registry.specs.Entries.{handle_in, live_of, name_of, AreLinked, entry_at}
use Rattle.shape_registry.specs.Names.{found_ready, ready_of, found_handle}
use Rattle.shape_registry.proofs.Linked.{text_decides, find_number, found_under}

false_if : (b : Bool) → (b ≡ true → ⊥) → b ≡ false
false_if true h = absurd (h refl)
false_if false h = refl

not_and : (a b : Bool) → b ≡ false → (a && b) ≡ false
not_and true b h = h
not_and false b h = refl

-- two choices by the same test
same_choice : (a b c : Bool) (f f' g g' : Found) → b ≡ true → c ≡ true → f ≡ f' → g ≡ g' → cond (a && b) f g ≡ cond (a && c) f' g'
same_choice true b c f f' g g' is same first second = ap (λ b. cond b f g) is ∙ first ∙ sym (ap (λ c. cond c f' g') same)
same_choice false b c f f' g g' is same first second = second

there : (o : Option LiveEntry) (identity : List ℕ) → o ≡ None → IsSomeAnd o (λ x. x.identity ≡ identity) → ⊥
there None identity e h = h
there (Some x) identity e h = cc

the_identity : (o : Option LiveEntry) (x : LiveEntry) (identity : List ℕ) → o ≡ Some x → IsSomeAnd o (λ x. x.identity ≡ identity) → x.identity ≡ identity
the_identity None x identity e h = absurd h
the_identity (Some y) x identity e h = let same : y ≡ x = cc in subst (λ (x : LiveEntry). x.identity ≡ identity) same h

module _ (s : RegistryState) (names : List ℕ → Option Live) (entries : List (ℕ × LiveEntry)) (identity : List ℕ) (h : Handle) where
  -- the handle that is live under the identity has its entry
  live_entry : (l : LiveHandle) → names identity ≡ Some (live_of l) → IfSome (names identity) (λ live. IsSomeAnd (entry_at entries live.number) (λ x. x.identity ≡ identity))
      → (h.number == l.number) ≡ true → IsSomeAnd (entry_at entries h.number) (λ x. x.identity ≡ identity)
  live_entry l is back same = subst (λ n. IsSomeAnd (entry_at entries n) (λ x. x.identity ≡ identity)) (sym ((Decides-eqb h.number l.number).0 same))
      (let P : Option Live → Type 0 = λ o. IfSome o (λ live. IsSomeAnd (entry_at entries live.number) (λ x. x.identity ≡ identity)) in subst P is back)

  gone_is : (l : LiveHandle) → live_as s identity ≡ Some l → gone_in s identity ≡ found.Gone (ready_of (live_of l))
  gone_is l is = ap (λ u. found.Gone (ready_number u)) is

  both_named : (x : LiveEntry) (l : LiveHandle) (b : Bool) → same_text x.identity identity ≡ b → entry_at entries h.number ≡ Some x → live_as s identity ≡ Some l → names identity ≡ Some (live_of l)
      → names x.identity ≡ Some (name_of h.number x) → IfSome (names identity) (λ live. IsSomeAnd (entry_at entries live.number) (λ x. x.identity ≡ identity))
      → found_named s identity h (Some (handle_in (h.number, x))) ≡ found_handle s.run h (Some (live_of l))
  both_named x l true t at is named forth back = let e : Some (name_of h.number x) ≡ Some (live_of l) = sym (subst (λ i. names i ≡ Some (name_of h.number x)) ((text_decides x.identity identity).0 t) forth) ∙ named in
      let same : name_of h.number x ≡ live_of l = cc in
      same_choice (same_text h.run s.run) (same_text x.identity identity) (h.number == l.number) (found_ready (name_of h.number x)) (found_ready (live_of l)) (gone_in s identity) (found.Gone (ready_of (live_of l)))
      t ((Decides-eqb h.number l.number).1 (ap (λ live. live.number) same)) (ap found_ready same) (gone_is l is)
  both_named x l false t at is named forth back = let apart : (h.number == l.number) ≡ false
      = false_if (h.number == l.number) (λ same. let here : same_text x.identity identity ≡ true = (text_decides x.identity identity).1 (the_identity (entry_at entries h.number) x identity at (live_entry l named back same)) in cc) in
      ap (λ b. cond b (found_live (handle_in (h.number, x))) (gone_in s identity)) (not_and (same_text h.run s.run) (same_text x.identity identity) t) ∙ gone_is l is
      ∙ sym (ap (λ b. cond b (found_ready (live_of l)) (found.Gone (ready_of (live_of l)))) (not_and (same_text h.run s.run) (h.number == l.number) apart))

  named_step : (o : Option LiveEntry) (u : Option LiveHandle) → entry_at entries h.number ≡ o → live_as s identity ≡ u → names identity ≡ option_map live_of u
      → IfSome o (λ x. names x.identity ≡ Some (name_of h.number x)) → IfSome (names identity) (λ live. IsSomeAnd (entry_at entries live.number) (λ x. x.identity ≡ identity))
      → found_named s identity h (option_map (λ x. handle_in (h.number, x)) o) ≡ found_handle s.run h (option_map live_of u)
  named_step None None at is named forth back = ap (λ u. found.Gone (ready_number u)) is
  named_step None (Some l) at is named forth back = let apart : (h.number == l.number) ≡ false = false_if (h.number == l.number) (λ same. there (entry_at entries h.number) identity at (live_entry l named back same)) in
      gone_is l is ∙ sym (ap (λ b. cond b (found_ready (live_of l)) (found.Gone (ready_of (live_of l)))) (not_and (same_text h.run s.run) (h.number == l.number) apart))
  named_step (Some x) None at is named forth back = let apart : same_text x.identity identity ≡ false
      = false_if (same_text x.identity identity) (λ t. let e : names identity ≡ Some (name_of h.number x) = subst (λ i. names i ≡ Some (name_of h.number x)) ((text_decides x.identity identity).0 t) forth in cc) in
      ap (λ b. cond b (found_live (handle_in (h.number, x))) (gone_in s identity)) (not_and (same_text h.run s.run) (same_text x.identity identity) apart) ∙ ap (λ u. found.Gone (ready_number u)) is
  named_step (Some x) (Some l) at is named forth back = both_named x l (same_text x.identity identity) refl at is named forth back

  pub found_by_name : (given : ℕ) → AreLinked names entries given → s.live ≡ map handle_in entries → found_named s identity h (live_at s h.number) ≡ found_handle s.run h (names identity)
  found_by_name given linked lives = let under : names identity ≡ option_map live_of (live_as s identity) = found_under names entries given linked identity ∙ ap (λ ls. option_map live_of (find (λ l. same_text l.identity identity) ls)) (sym lives) in
      ap (found_named s identity h) (ap (find (λ l. l.number == h.number)) lives ∙ find_number entries h.number)
      ∙ named_step (entry_at entries h.number) (live_as s identity) refl refl under (linked.forth h.number) (linked.back identity)
      ∙ sym (ap (found_handle s.run h) under)
