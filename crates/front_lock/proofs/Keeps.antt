-- Each step keeps the rule.
use Rattle.std.proofs.Common.{◌≡◌, ◌≢◌, ◌⊎◌, ℕ, zero, suc, ◌+◌, ◌-◌, ◌*◌, ◌%◌, ◌<◌, ◌≤◌, ◌||◌, eqb, cond, Bool, true, false, List, [], ◌∷◌, ◌++◌, length, get_or, set, sym, refl, ap, ◌∙◌, subst, inl, inr, ⊎_elim, arith, length-append, length-set, eq-eqb, ne_eqb, max, Option, Some, None, IsSome}
use Rattle.std.proofs.lemmas.Bool.{or_cases, or_left, or_right}
use mathlib.Core.List.{IsPrefix}
use mathlib.Core.Logic.{dite}
use mathlib.Core.Option.{some, none, some-ne-none, some-injective}
use mathlib.Core.Option as maybe
use native.Mathlib.Decide.{ℕ_discrete, dec_le}
use lib.ListN.{get_elem?}
use prog.Atomic.{either}
use Rattle.atomic_table.specs.Table.{State, Me, step, keeps, takes, gives, stepped, Allows, Splits, Joins, opening, Final, Seen}
use Rattle.atomic_table.proofs.Lists.{at_set, set_here, set_else, set_again}
use Rattle.front_lock.specs.declared.view.View.{View}
use Rattle.front_lock.specs.declared.view.Stage.{Stage}
use Rattle.front_lock.specs.declared.view.Stage.TheVariants.{Idle, Waits, Served, Noted}
use Rattle.front_lock.specs.Rule.{doubled, picked, marked, added, first_view, worth, IsWhole, ticket_of, drawn, IsAt, Knows, Kept, staged, caught_up, grown, left_half, right_half, noted, spent, joined, CatchesUp, looks, enters, draws, turns, counts, leaves}
use Rattle.std.proofs.Math.Nat.{mod-add-mod}
use Rattle.front_lock.proofs.Lists.{prefix_self, prefix_none, prefix_more, prefix_length, prefix_whole, longest_of, longest_length, past_marks, any_of_at, any_of_length, marked_length, marked_before, marked_last, picked_grown, picked_all, doubled_add, doubled_zero, doubled_more, doubled_positive, sum_set, sum_append, sum_twice, sum_none, sum_has_two, there}

-- where a seat is
module _ (serving ticket : ℕ) (P Q : Type 0) where
  at_map : (st : Stage) → (P → Q) → IsAt serving ticket P st → IsAt serving ticket Q st
  at_map Idle f h = tt
  at_map (Waits t) f h = h
  at_map (Served t) f h = h
  at_map (Noted t) f h = (h.0, h.1, f h.2)

  at_not_noted : (st : Stage) → ((t : ℕ) → st ≡ Noted t → ⊥) → IsAt serving ticket P st → IsAt serving ticket Q st
  at_not_noted Idle n h = tt
  at_not_noted (Waits t) n h = h
  at_not_noted (Served t) n h = h
  at_not_noted (Noted t) n h = absurd (n t refl)

  -- the next ticket is drawn
  at_drawn : (st : Stage) → (P → Q) → IsAt serving ticket P st → IsAt serving (ticket + 1) Q st
  at_drawn Idle f h = tt
  at_drawn (Waits t) f h = let b = h.1 in (h.0, omega arith)
  at_drawn (Served t) f h = let b = h.1 in (h.0, omega arith)
  at_drawn (Noted t) f h = let b = h.1 in (h.0, omega arith, f h.2)

  -- the next ticket is served
  at_served : (st : Stage) → ((t : ℕ) → ticket_of st ≡ Some t → t ≢ serving) → IsAt serving ticket P st → IsAt (serving + 1) ticket Q st
  at_served Idle n h = tt
  at_served (Waits t) n h = let a = h.0 in let b = n t refl in (omega arith, h.1)
  at_served (Served t) n h = absurd (n t refl h.0)
  at_served (Noted t) n h = absurd (n t refl h.0)

  at_bounds : (st : Stage) (t : ℕ) → ticket_of st ≡ Some t → IsAt serving ticket P st → (serving ≤ t) × (t < ticket)
  at_bounds Idle t e h = absurd (cc)
  at_bounds (Waits u) t e h = let i : u ≡ t = cc in let a = h.0 in let b = h.1 in (omega arith, omega arith)
  at_bounds (Served u) t e h = let i : u ≡ t = cc in let a = h.0 in let b = h.1 in (omega arith, omega arith)
  at_bounds (Noted u) t e h = let i : u ≡ t = cc in let a = h.0 in let b = h.1 in (omega arith, omega arith)

-- lists of views
module _ {V : Type 0} where
  set_all : (K : ℕ → V → Type 0) (vs : List V) (id : ℕ) (w : V) → K id w → ((j : ℕ) (d : V) → j ≢ id → get_elem? vs j ≡ some d → K j d)
      → (j : ℕ) (d : V) → get_elem? (set vs id w) j ≡ some d → K j d
  set_all K vs id w mine others j d e = ⊎_elim (λ (t : (j ≡ id) × (w ≡ d)). subst (λ (x : ℕ × V). K x.0 x.1) (λ i. (sym t.0 i, t.1 i)) mine)
      (λ (t : (j ≢ id) × (get_elem? vs j ≡ some d)). others j d t.0 t.1) (at_set vs id j w d e)

  at_end : (l : List V) (a b : V) (j : ℕ) → get_elem? (l ++ a ∷ []) j ≡ some b → (get_elem? l j ≡ some b) ⊎ ((j ≡ length l) × (a ≡ b))
  at_end [] a b zero e = inr (refl, some-injective a b e)
  at_end [] a b (suc j) e = absurd (some-ne-none b (sym e))
  at_end (x ∷ xs) a b zero e = inl e
  at_end (x ∷ xs) a b (suc j) e = ⊎_elim (λ t. inl t) (λ t. inr (ap suc t.0, t.1)) (at_end xs a b j e)

  at_inside : (l : List V) (j : ℕ) (a : V) → get_elem? l j ≡ some a → j < length l
  at_inside [] j a e = absurd (some-ne-none a (sym e))
  at_inside (x ∷ xs) zero a e = omega arith
  at_inside (x ∷ xs) (suc j) a e = omega (arith, at_inside xs j a e)

  at_before : (l m : List V) (j : ℕ) (a : V) → get_elem? l j ≡ some a → get_elem? (l ++ m) j ≡ some a
  at_before [] m j a e = absurd (some-ne-none a (sym e))
  at_before (x ∷ xs) m zero a e = e
  at_before (x ∷ xs) m (suc j) a e = at_before xs m j a e

-- a place of the history changes hands
abbrev given : ℕ → ℕ → (ℕ → ℕ) → ℕ → ℕ
given n id owner k = cond (eqb k n) id (owner k)

given_here : (n id : ℕ) (owner : ℕ → ℕ) (k : ℕ) → k ≡ n → given n id owner k ≡ id
given_here n id owner k e = ap (λ b. cond b id (owner k)) (eq-eqb k n e)

given_else : (n id : ℕ) (owner : ℕ → ℕ) (k : ℕ) → k ≢ n → given n id owner k ≡ owner k
given_else n id owner k e = ap (λ b. cond b id (owner k)) (ne_eqb k n e)

-- all places of one seat change hands
abbrev handed : ℕ → ℕ → (ℕ → ℕ) → ℕ → ℕ
handed other id owner k = cond (eqb (owner k) other) id (owner k)

handed_here : (other id : ℕ) (owner : ℕ → ℕ) (k : ℕ) → owner k ≡ other → handed other id owner k ≡ id
handed_here other id owner k e = ap (λ b. cond b id (owner k)) (eq-eqb (owner k) other e)

handed_else : (other id : ℕ) (owner : ℕ → ℕ) (k : ℕ) → owner k ≢ other → handed other id owner k ≡ owner k
handed_else other id owner k e = ap (λ b. cond b id (owner k)) (ne_eqb (owner k) other e)

module _ {S E F : Type 0} (stands : S → F → ℕ → List E → Type 0) (fixed : F) where
  abbrev V : Type 0
  V = View E F

  abbrev St : Type 0
  St = State (Option S) V

  abbrev M : Type 0
  M = Me (Option S) V

  abbrev Homes : Type 0
  Homes = List (maybe.Option (Option S))

  abbrev Rule : St → Type 0
  Rule = Kept stands fixed

  abbrev Home : Homes → List V → List E → Type 0
  Home homes views history = ((x : S) × (homes ≡ some (Some x) ∷ []) × stands x fixed 0 history) ⊎ ((j : ℕ) × (v : V) × (get_elem? views j ≡ some v) × (t : ℕ) × (v.stage ≡ Noted t))

  abbrev Longest : List V → List E → Type 0
  Longest views history = (j : ℕ) × (v : V) × (get_elem? views j ≡ some v) × (v.seen ≡ history)

  abbrev Apart : List V → Type 0
  Apart views = (i j : ℕ) (v w : V) (t : ℕ) → get_elem? views i ≡ some v → get_elem? views j ≡ some w → ticket_of v.stage ≡ Some t → ticket_of w.stage ≡ Some t → i ≡ j

  home_set : (homes : Homes) (views : List V) (history : List E) (id : ℕ) (v w : V) → get_elem? views id ≡ some v → ((t : ℕ) → v.stage ≡ Noted t → w.stage ≡ Noted t)
      → Home homes views history → Home homes (set views id w) history
  home_set homes views history id v w at keep (inl h) = inl h
  home_set homes views history id v w at keep (inr (j, u, there_j, t, is)) = dite (ℕ_discrete j id)
      (λ e. let same : u ≡ v = some-injective u v (sym there_j ∙ (ap (get_elem? views) e ∙ at)) in
      inr (id, w, set_here views id w (at_inside views id v at), t, keep t (ap (λ (x : V). x.stage) (sym same) ∙ is)))
      (λ ne. inr (j, u, set_else views id j w ne ∙ there_j, t, is))

  longest_set : (views : List V) (history : List E) (id : ℕ) (v w : V) → get_elem? views id ≡ some v → (v.seen ≡ history → w.seen ≡ history) → Longest views history → Longest (set views id w) history
  longest_set views history id v w at keep (j, u, there_j, is) = dite (ℕ_discrete j id)
      (λ e. let same : u ≡ v = some-injective u v (sym there_j ∙ (ap (get_elem? views) e ∙ at)) in
      (id, w, set_here views id w (at_inside views id v at), keep (ap (λ (x : V). x.seen) (sym same) ∙ is)))
      (λ ne. (j, u, set_else views id j w ne ∙ there_j, is))

  apart_set : (views : List V) (id : ℕ) (w : V) → Apart views
      → ((j : ℕ) (d : V) (t : ℕ) → j ≢ id → get_elem? views j ≡ some d → ticket_of w.stage ≡ Some t → ticket_of d.stage ≡ Some t → ⊥) → Apart (set views id w)
  apart_set views id w apart new i j a b t ai bj ta tb = ⊎_elim
      (λ (p : (i ≡ id) × (w ≡ a)). ⊎_elim
      (λ (q : (j ≡ id) × (w ≡ b)). p.0 ∙ sym q.0)
      (λ (q : (j ≢ id) × (get_elem? views j ≡ some b)). absurd (new j b t q.0 q.1 (ap (λ (x : V). ticket_of x.stage) p.1 ∙ ta) tb))
      (at_set views id j w b bj))
      (λ (p : (i ≢ id) × (get_elem? views i ≡ some a)). ⊎_elim
      (λ (q : (j ≡ id) × (w ≡ b)). absurd (new i a t p.0 p.1 (ap (λ (x : V). ticket_of x.stage) q.1 ∙ tb) ta))
      (λ (q : (j ≢ id) × (get_elem? views j ≡ some b)). apart i j a b t p.1 q.1 ta tb)
      (at_set views id j w b bj))
      (at_set views id i w a ai)

  apart_end : (views : List V) (w : V) → w.stage ≡ Idle → Apart views → Apart (views ++ w ∷ [])
  apart_end views w idle apart i j a b t ai bj ta tb = ⊎_elim
      (λ (p : get_elem? views i ≡ some a). ⊎_elim
      (λ (q : get_elem? views j ≡ some b). apart i j a b t p q ta tb)
      (λ (q : (j ≡ length views) × (w ≡ b)). let n : None ≡ Some t = ap ticket_of (sym idle) ∙ (ap (λ (x : V). ticket_of x.stage) q.1 ∙ tb) in absurd (cc))
      (at_end views w b j bj))
      (λ (p : (i ≡ length views) × (w ≡ a)). let n : None ≡ Some t = ap ticket_of (sym idle) ∙ (ap (λ (x : V). ticket_of x.stage) p.1 ∙ ta) in absurd (cc))
      (at_end views w a i ai)

  -- the seat keeps its ticket
  same_ticket : (views : List V) (id : ℕ) (v w : V) → get_elem? views id ≡ some v → ticket_of w.stage ≡ ticket_of v.stage → Apart views
      → (j : ℕ) (d : V) (t : ℕ) → j ≢ id → get_elem? views j ≡ some d → ticket_of w.stage ≡ Some t → ticket_of d.stage ≡ Some t → ⊥
  same_ticket views id v w at same apart j d t ne there_j tw td = ne (apart j id d v t there_j at td (sym same ∙ tw))

  no_ticket : (w : V) (t : ℕ) → w.stage ≡ Idle → ticket_of w.stage ≡ Some t → ⊥
  no_ticket w t is e = let n : None ≡ Some t = ap ticket_of (sym is) ∙ e in absurd (cc)

  -- One seat changes its view, and keeps its share
  rebuilt : (s : St) (r : Rule s) (id : ℕ) (v w : V) → get_elem? s.views id ≡ some v
      → (words : List ℕ) (homes : Homes) (history : List E) (owner : ℕ → ℕ) (serving ticket : ℕ)
      → words ≡ length history % 18446744073709551616 ∷ ticket ∷ serving ∷ [] → ticket < 18446744073709551616 → serving ≤ ticket → ((x : S) × stands x fixed 0 history)
      → Knows history serving ticket fixed owner r.depth (homes ≡ none ∷ []) id w
      → ((j : ℕ) (d : V) → j ≢ id → get_elem? s.views j ≡ some d → Knows history serving ticket fixed owner r.depth (homes ≡ none ∷ []) j d)
      → ((j : ℕ) (d : V) (t : ℕ) → j ≢ id → get_elem? s.views j ≡ some d → ticket_of w.stage ≡ Some t → ticket_of d.stage ≡ Some t → ⊥)
      → ((k : ℕ) → k < length history → owner k < length s.views) → w.part ≡ v.part → w.depth ≡ v.depth → drawn w.stage + serving + r.ticket ≡ drawn v.stage + r.serving + ticket → Longest (set s.views id w) history → Home homes (set s.views id w) history
      → Rule record { words = words; homes = homes; views = set s.views id w }
  rebuilt s r id v w at words homes history owner serving ticket is fits order legal mine others apart held part depth count longest home = record {
    history = history;
    owner = owner;
    serving = serving;
    ticket = ticket;
    depth = r.depth;
    words = is;
    fits = fits;
    order = order;
    legal = legal;
    each = set_all (Knows history serving ticket fixed owner r.depth (homes ≡ none ∷ [])) s.views id w mine others;
    apart = apart_set s.views id w r.apart apart;
    held = λ k h. subst (λ (n : ℕ). owner k < n) (sym (length-set s.views id w)) (held k h);
    whole = let same : worth r.depth w ≡ worth r.depth v = λ i. doubled (r.depth - depth i) (part i) in let total = r.whole in omega (arith, sum_set (worth r.depth) s.views id v w at);
    counted = let was = r.counted in omega (arith, sum_set (λ (x : V). drawn x.stage) s.views id v w at);
    longest_seen = longest;
    home = home;
  }

  -- nothing changes
  unmoved : (s : St) (r : Rule s) (i id : ℕ) (v : V) (ws : List ℕ) → get_elem? s.views id ≡ some v → ws ≡ s.words → Rule record { words = ws; homes = s.homes; views = set s.views id v }
  unmoved s r i id v ws at same = subst (λ (x : List ℕ × List V). Rule record { words = x.0; homes = s.homes; views = x.1 }) (λ i. (sym same i, sym (set_again s.views id v at) i)) r

  -- the words
  word0 : (s : St) (r : Rule s) → get_or s.words 0 0 ≡ length r.history % 18446744073709551616
  word0 s r = ap (λ ws. get_or ws 0 0) r.words

  word1 : (s : St) (r : Rule s) → get_or s.words 1 0 ≡ r.ticket
  word1 s r = ap (λ ws. get_or ws 1 0) r.words

  word2 : (s : St) (r : Rule s) → get_or s.words 2 0 ≡ r.serving
  word2 s r = ap (λ ws. get_or ws 2 0) r.words

  -- beside the whole share there is none
  others_none : (s : St) (r : Rule s) (id : ℕ) (v : V) → get_elem? s.views id ≡ some v → IsWhole v → (j : ℕ) (d : V) → j ≢ id → get_elem? s.views j ≡ some d → d.part ≡ 0
  others_none s r id v at whole j d ne there_j = let kv = r.each id v at in let two = sum_has_two (worth r.depth) s.views j id d v ne there_j at in let total = r.whole in let fine = kv.fine in
      let up : (r.depth - v.depth) + v.depth ≡ r.depth = omega arith in
      let mine : worth r.depth v ≡ doubled r.depth 1 = ap (doubled (r.depth - v.depth)) whole ∙ (sym (doubled_more (r.depth - v.depth) v.depth 1) ∙ ap (λ (n : ℕ). doubled n 1) up) in
      let none_left : worth r.depth d ≡ 0 = omega arith in doubled_positive (r.depth - d.depth) d.part none_left

  -- with the whole share all places are one's own
  has_all : (s : St) (r : Rule s) (id : ℕ) (v : V) → get_elem? s.views id ≡ some v → IsWhole v → (k : ℕ) → k < length r.history → get_or v.own k false ≡ true
  has_all s r id v at whole k inside = let j : ℕ = r.owner k in let d = there s.views j (r.held k inside) in let kd = r.each j d.0 d.1 in let kv = r.each id v at in
      dite (ℕ_discrete j id)
      (λ e. kv.owned k inside e)
      (λ ne. let bare = kd.bare (others_none s r id v at whole j d.0 ne d.1) in
      let no : false ≡ true = ap (λ (bs : List Bool). get_or bs k false) (sym bare) ∙ kd.owned k inside refl in absurd (cc))

  catches : (s : St) (r : Rule s) (id : ℕ) (v : V) → get_elem? s.views id ≡ some v → CatchesUp v r.history
  catches s r id v at = let kv = r.each id v at in record {
    sees = kv.sees;
    tells = kv.tells;
    once = kv.once;
    alike = λ share share_told. kv.same share ∙ sym (kv.alike share_told);
    whole = λ whole. let all = has_all s r id v at whole in let short = kv.short in
        let long : length r.history ≤ length v.own = dite (dec_le (length r.history) (length v.own)) (λ le. le)
        (λ no. let lt : length v.own < length r.history = omega arith in let x : false ≡ true = sym (past_marks v.own (length v.own) (omega arith)) ∙ all (length v.own) lt in absurd (cc)) in
        (prefix_whole v.seen r.history kv.sees (omega arith), picked_all v.own r.history all);
  }

  over : (f : F) (x : S) (es : List E) → f ≡ fixed → stands x fixed 0 es → stands x f 0 es
  over f x es same h = subst (λ (y : F). stands x y 0 es) (sym same) h

  under : (f : F) (x : S) (es : List E) → f ≡ fixed → stands x f 0 es → stands x fixed 0 es
  under f x es same h = subst (λ (y : F). stands x y 0 es) same h

  -- the view that has caught up
  knows_now : (s : St) (r : Rule s) (id : ℕ) (v : V) (stage : Stage) (out : Type 0) → get_elem? s.views id ≡ some v → (v.part ≡ 0 → stage ≡ Idle)
      → IsAt r.serving r.ticket ((r.history ≡ r.history) × out) stage → Knows r.history r.serving r.ticket fixed r.owner r.depth out id (staged stage (caught_up r.history v))
  knows_now s r id v stage out at rests h = let kv = r.each id v at in record {
    same = kv.same;
    alike = kv.alike;
    sees = prefix_self r.history;
    tells = prefix_none r.history;
    short = let a = kv.short in let b = prefix_length v.seen r.history kv.sees in omega arith;
    owns = kv.owns;
    owned = kv.owned;
    once = kv.once;
    bare = kv.bare;
    rests = rests;
    fine = kv.fine;
    at = h;
  }

  -- the view at another stage
  knows_at : (history : List E) (serving ticket serving' ticket' : ℕ) (owner : ℕ → ℕ) (depth : ℕ) (out out' : Type 0) (j : ℕ) (v : V) (stage : Stage)
      → Knows history serving ticket fixed owner depth out j v → (v.part ≡ 0 → stage ≡ Idle) → IsAt serving' ticket' ((v.seen ≡ history) × out') stage → Knows history serving' ticket' fixed owner depth out' j (staged stage v)
  knows_at history serving ticket serving' ticket' owner depth out out' j v stage k rests h = record {
    same = k.same;
    alike = k.alike;
    sees = k.sees;
    tells = k.tells;
    short = k.short;
    owns = k.owns;
    owned = k.owned;
    once = k.once;
    bare = k.bare;
    rests = rests;
    fine = k.fine;
    at = h;
  }

  pub look_keeps : (slots id : ℕ) (me : M) → 0 < me.0.part → Allows Rule slots id me 0 (λ n. n) (looks stands (step slots 0 0 0 none) me)
  look_keeps slots id me some_share s r _ at _ = let v : V = me.0 in let kv = r.each id v at in (
    caught_up r.history v,
    keeps,
    tt,
    rebuilt s r id v (caught_up r.history v) at (set s.words 0 (get_or s.words 0 0)) s.homes r.history r.owner r.serving r.ticket (ap (λ ws. set ws 0 (get_or ws 0 0)) r.words) r.fits r.order r.legal
        (knows_now s r id v v.stage (s.homes ≡ none ∷ []) at kv.rests (at_map r.serving r.ticket ((v.seen ≡ r.history) × (s.homes ≡ none ∷ [])) ((r.history ≡ r.history) × (s.homes ≡ none ∷ [])) v.stage (λ h. (refl, h.1)) kv.at))
        (λ j d _ e. r.each j d e) (same_ticket s.views id v (caught_up r.history v) at refl r.apart) r.held refl refl refl (id, caught_up r.history v, set_here s.views id (caught_up r.history v) (at_inside s.views id v at), refl)
        (home_set s.homes s.views r.history id v (caught_up r.history v) at (λ t e. e) r.home),
    (r.history, catches s r id v at, (r.legal.0, over v.fixed.value r.legal.0 r.history (kv.same some_share) r.legal.1), refl),
  )

  pub draw_keeps : (slots id old new : ℕ) (me : M) → me.0.stage ≡ Idle → 0 < me.0.part → old < 18446744073709551615 → new ≡ old + 1
      → Allows Rule slots id me 1 (λ n. either (eqb n old) new n) (draws (step slots 1 old new none) me)
  draw_keeps slots id old new me idle some_share low next s r _ at _ = let v : V = me.0 in let x : ℕ = get_or s.words 1 0 in let kv = r.each id v at in let now : x ≡ r.ticket = word1 s r in dite (ℕ_discrete x old)
      (λ is. let w : V = staged (Waits x) v in let order = r.order in let t' : new ≡ r.ticket + 1 = omega arith in (
        w,
        keeps,
        tt,
        subst (λ b. Rule (stepped s 1 (either b new x) id me.1 w keeps)) (sym (eq-eqb x old is))
            (rebuilt s r id v w at (set s.words 1 new) s.homes r.history r.owner r.serving (r.ticket + 1)
            (ap (λ ws. set ws 1 new) r.words ∙ ap (λ (z : ℕ). length r.history % 18446744073709551616 ∷ z ∷ r.serving ∷ []) t') (omega arith) (omega arith) r.legal
            (knows_at r.history r.serving r.ticket r.serving (r.ticket + 1) r.owner r.depth (s.homes ≡ none ∷ []) (s.homes ≡ none ∷ []) id v (Waits x) kv (λ no_share. absurd (omega arith)) (omega arith, omega arith))
            (λ j d _ e. let kd = r.each j d e in
            knows_at r.history r.serving r.ticket r.serving (r.ticket + 1) r.owner r.depth (s.homes ≡ none ∷ []) (s.homes ≡ none ∷ []) j d d.stage kd kd.rests
            (at_drawn r.serving r.ticket ((d.seen ≡ r.history) × (s.homes ≡ none ∷ [])) ((d.seen ≡ r.history) × (s.homes ≡ none ∷ [])) d.stage (λ h. h) kd.at))
            (λ j d t _ e tw td. let kd = r.each j d e in let b = at_bounds r.serving r.ticket ((d.seen ≡ r.history) × (s.homes ≡ none ∷ [])) ((d.seen ≡ r.history) × (s.homes ≡ none ∷ [])) d.stage t td kd.at in let b1 = b.1 in let same : x ≡ t = cc in omega arith)
            r.held refl refl (let none_yet : drawn v.stage ≡ 0 = ap drawn idle in omega arith) (longest_set s.views r.history id v w at (λ h. h) r.longest_seen) (home_set s.homes s.views r.history id v w at (λ t e. absurd (cc)) r.home)),
        (λ _. refl, λ ne. absurd (ne is)),
      ))
      (λ ne. (
        v,
        keeps,
        tt,
        subst (λ b. Rule (stepped s 1 (either b new x) id me.1 v keeps)) (sym (ne_eqb x old ne))
            (unmoved s r 1 id v (set s.words 1 x) at (ap (λ ws. set ws 1 (get_or ws 1 0)) r.words ∙ sym r.words)),
        (λ is. absurd (ne is), λ _. refl),
      ))

  pub turn_keeps : (slots id mine : ℕ) (me : M) → me.0.stage ≡ Waits mine → Allows Rule slots id me 2 (λ n. n) (turns (step slots 2 0 0 none) me)
  turn_keeps slots id mine me waits s r _ at _ = let v : V = me.0 in let x : ℕ = get_or s.words 2 0 in let kv = r.each id v at in let now : x ≡ r.serving = word2 s r in
      let P : Type 0 = (v.seen ≡ r.history) × (s.homes ≡ none ∷ []) in let place = at_bounds r.serving r.ticket P P v.stage mine (ap ticket_of waits) kv.at in let p0 = place.0 in let p1 = place.1 in dite (ℕ_discrete x mine)
      (λ is. let w : V = staged (Served mine) v in (
        w,
        keeps,
        tt,
        rebuilt s r id v w at (set s.words 2 x) s.homes r.history r.owner r.serving r.ticket (ap (λ ws. set ws 2 (get_or ws 2 0)) r.words) r.fits r.order r.legal
            (knows_at r.history r.serving r.ticket r.serving r.ticket r.owner r.depth (s.homes ≡ none ∷ []) (s.homes ≡ none ∷ []) id v (Served mine) kv (λ no_share. let no_ticket_there : Idle ≡ Waits mine = sym (kv.rests no_share) ∙ waits in absurd (cc)) (omega arith, p1))
            (λ j d _ e. r.each j d e) (same_ticket s.views id v w at (sym (ap ticket_of waits)) r.apart) r.held refl refl (let one : drawn v.stage ≡ 1 = ap drawn waits in omega arith) (longest_set s.views r.history id v w at (λ h. h) r.longest_seen)
            (home_set s.homes s.views r.history id v w at (λ t e. absurd (cc)) r.home),
        λ t e. let same : mine ≡ t = cc in (λ _. ap (λ (z : ℕ). (staged (Served z) v, me.1)) same, λ ne. absurd (ne (is ∙ same))),
      ))
      (λ ne. (
        v,
        keeps,
        tt,
        unmoved s r 2 id v (set s.words 2 x) at (ap (λ ws. set ws 2 (get_or ws 2 0)) r.words ∙ sym r.words),
        λ t e. let same : mine ≡ t = cc in (λ is. absurd (ne (is ∙ sym same)), λ _. refl),
      ))

  -- where a seat is served, no other has the slot
  served_home : (s : St) (r : Rule s) (id mine : ℕ) (v : V) → get_elem? s.views id ≡ some v → v.stage ≡ Served mine → (x : S) × (s.homes ≡ some (Some x) ∷ []) × stands x fixed 0 r.history
  served_home s r id mine v at served = ⊎_elim (λ (h : (x : S) × (s.homes ≡ some (Some x) ∷ []) × stands x fixed 0 r.history). h)
      (λ (h : (j : ℕ) × (u : V) × (get_elem? s.views j ≡ some u) × (t : ℕ) × (u.stage ≡ Noted t)).
      let u : V = h.1 in let kv = subst (IsAt r.serving r.ticket ((v.seen ≡ r.history) × (s.homes ≡ none ∷ []))) served (r.each id v at).at in
      let ku = subst (IsAt r.serving r.ticket ((u.seen ≡ r.history) × (s.homes ≡ none ∷ []))) h.4 (r.each h.0 u h.2).at in
      let e1 : mine ≡ r.serving = kv.0 in let e2 : h.3 ≡ r.serving = ku.0 in let t : h.3 ≡ mine = omega arith in
      let j : h.0 ≡ id = r.apart h.0 id u v mine h.2 at (ap ticket_of h.4 ∙ ap Some t) (ap ticket_of served) in
      let same : u ≡ v = some-injective u v (sym h.2 ∙ (ap (get_elem? s.views) j ∙ at)) in
      let no : Noted h.3 ≡ Served mine = sym h.4 ∙ (ap (λ (y : V). y.stage) same ∙ served) in absurd (cc))
      r.home

  pub enter_keeps : (slots id mine : ℕ) (me : M) → me.0.stage ≡ Served mine → 0 < me.0.part → Allows Rule slots id me 0 (λ n. n) (enters stands (step slots 0 0 0 none) me)
  enter_keeps slots id mine me served some_share s r _ at _ = let v : V = me.0 in let kv = r.each id v at in let home = served_home s r id mine v at served in let x : S = home.0 in
      let w : V = staged (Noted mine) (caught_up r.history v) in let gone : set s.homes 0 none ≡ none ∷ [] = ap (λ hs. set hs 0 none) home.1 in
      let place = subst (IsAt r.serving r.ticket ((v.seen ≡ r.history) × (s.homes ≡ none ∷ []))) served kv.at in (
        w,
        takes 0 (Some x),
        ap (λ hs. get_elem? hs 0) home.1,
        rebuilt s r id v w at (set s.words 0 (get_or s.words 0 0)) (set s.homes 0 none) r.history r.owner r.serving r.ticket (ap (λ ws. set ws 0 (get_or ws 0 0)) r.words) r.fits r.order r.legal
            (knows_now s r id v (Noted mine) (set s.homes 0 none ≡ none ∷ []) at (λ no_share. absurd (omega arith)) (place.0, place.1, (refl, gone)))
            (λ j d _ e. let kd = r.each j d e in
            knows_at r.history r.serving r.ticket r.serving r.ticket r.owner r.depth (s.homes ≡ none ∷ []) (set s.homes 0 none ≡ none ∷ []) j d d.stage kd kd.rests
            (at_map r.serving r.ticket ((d.seen ≡ r.history) × (s.homes ≡ none ∷ [])) ((d.seen ≡ r.history) × (set s.homes 0 none ≡ none ∷ [])) d.stage (λ h. (h.0, gone)) kd.at))
            (same_ticket s.views id v w at (sym (ap ticket_of served)) r.apart) r.held refl refl (let one : drawn v.stage ≡ 1 = ap drawn served in omega arith) (id, w, set_here s.views id w (at_inside s.views id v at), refl)
            (inr (id, w, set_here s.views id w (at_inside s.views id v at), mine, refl)),
        λ t e. let same : mine ≡ t = cc in
            (r.history, x, catches s r id v at, over v.fixed.value x r.history (kv.same some_share) home.2, ap (λ (z : ℕ). (staged (Noted z) (caught_up r.history v), (0, Some x) ∷ me.1)) same),
      )

  -- where a seat has the slot, it has seen all, and no other is served
  noted_at : (s : St) (r : Rule s) (id mine : ℕ) (v : V) → get_elem? s.views id ≡ some v → v.stage ≡ Noted mine
      → (mine ≡ r.serving) × (mine < r.ticket) × (v.seen ≡ r.history) × (s.homes ≡ none ∷ [])
  noted_at s r id mine v at is = let k = subst (IsAt r.serving r.ticket ((v.seen ≡ r.history) × (s.homes ≡ none ∷ []))) is (r.each id v at).at in (k.0, k.1, k.2.0, k.2.1)

  count_one : (slots id mine : ℕ) (e : E) (x : S) (me : M) → me.0.stage ≡ Noted mine → 0 < me.0.part → stands x me.0.fixed.value 0 (me.0.seen ++ e ∷ [])
      → Allows Rule slots id me 0 (λ n. (n + 1) % 18446744073709551616) (counts (Some e) (step slots 0 1 0 none) me)
  count_one slots id mine e x me is some_share after s r _ at _ = let v : V = me.0 in let kv = r.each id v at in let now = noted_at s r id mine v at is in
      let n : ℕ = length r.history in let longer : List E = r.history ++ e ∷ [] in let w : V = grown (Some e) v in let owner : ℕ → ℕ = given n id r.owner in
      let size : length longer ≡ n + 1 = length-append r.history (e ∷ []) in let size_seen : length v.seen ≡ n = ap length now.2 in
      let seen_now : v.seen ++ e ∷ [] ≡ longer = ap (λ l. l ++ e ∷ []) now.2 in
      let stays : stands x fixed 0 longer = subst (stands x fixed 0) seen_now (under v.fixed.value x (v.seen ++ e ∷ []) (kv.same some_share) after) in
      let n_last : n ≡ length v.seen = sym size_seen in (
        w,
        keeps,
        tt,
        rebuilt s r id v w at (set s.words 0 ((get_or s.words 0 0 + 1) % 18446744073709551616)) s.homes longer owner r.serving r.ticket
            (ap (λ ws. set ws 0 ((get_or ws 0 0 + 1) % 18446744073709551616)) r.words
            ∙ ap (λ (z : ℕ). z ∷ r.ticket ∷ r.serving ∷ []) (mod-add-mod n 18446744073709551616 1 ∙ ap (λ (z : ℕ). z % 18446744073709551616) (sym size)))
            r.fits r.order (x, stays)
            record {
              same = kv.same;
              alike = kv.alike;
              sees = subst (λ l. IsPrefix l longer) (sym seen_now) (prefix_self longer);
              tells = prefix_more v.told r.history (e ∷ []) kv.tells;
              short = omega (arith, marked_length v.own v.seen, length-append v.seen (e ∷ []));
              owns = λ k inside own. dite (ℕ_discrete k n) (λ last. given_here n id r.owner k last)
                  (λ ne. let before : k < n = omega arith in given_else n id r.owner k ne ∙ kv.owns k before (sym (marked_before v.own v.seen k (omega arith)) ∙ own));
              owned = λ k inside own. dite (ℕ_discrete k n) (λ last. ap (λ (z : ℕ). get_or (marked v.own v.seen) z false) (last ∙ n_last) ∙ marked_last v.own v.seen)
                  (λ ne. let before : k < n = omega arith in marked_before v.own v.seen k (omega arith) ∙ kv.owned k before (sym (given_else n id r.owner k ne) ∙ own));
              once = kv.once;
              bare = λ zero_share. absurd (omega arith);
              rests = λ zero_share. absurd (omega arith);
              fine = kv.fine;
              at = subst (IsAt r.serving r.ticket ((v.seen ++ e ∷ [] ≡ longer) × (s.homes ≡ none ∷ []))) (sym is) (now.0, now.1, (seen_now, now.3));
            }
            (λ j d ne there_j. let kd = r.each j d there_j in let shorter = prefix_length d.seen r.history kd.sees in let short = kd.short in record {
              same = kd.same;
              alike = kd.alike;
              sees = prefix_more d.seen r.history (e ∷ []) kd.sees;
              tells = prefix_more d.told r.history (e ∷ []) kd.tells;
              short = kd.short;
              owns = λ k inside own. dite (ℕ_discrete k n) (λ last. let past : false ≡ true = sym (past_marks d.own k (omega arith)) ∙ own in absurd (cc))
                  (λ other. let before : k < n = omega arith in given_else n id r.owner k other ∙ kd.owns k before own);
              owned = λ k inside own. dite (ℕ_discrete k n) (λ last. absurd (ne (sym own ∙ given_here n id r.owner k last)))
                  (λ other. let before : k < n = omega arith in kd.owned k before (sym (given_else n id r.owner k other) ∙ own));
              once = kd.once;
              bare = kd.bare;
              rests = kd.rests;
              fine = kd.fine;
              at = at_not_noted r.serving r.ticket ((d.seen ≡ r.history) × (s.homes ≡ none ∷ [])) ((d.seen ≡ longer) × (s.homes ≡ none ∷ [])) d.stage
                  (λ t noted_j. let other = noted_at s r j t d there_j noted_j in let same : t ≡ mine = other.0 ∙ sym now.0 in ne (r.apart j id d v mine there_j at (ap ticket_of noted_j ∙ ap Some same) (ap ticket_of is)))
                  kd.at;
            })
            (same_ticket s.views id v w at refl r.apart)
            (λ k inside. dite (ℕ_discrete k n) (λ last. let here : owner k ≡ id = given_here n id r.owner k last in let within = at_inside s.views id v at in omega arith)
            (λ other. let same : owner k ≡ r.owner k = given_else n id r.owner k other in let within = r.held k (omega arith) in omega arith))
            refl refl refl (id, w, set_here s.views id w (at_inside s.views id v at), seen_now)
            (inr (id, w, set_here s.views id w (at_inside s.views id v at), mine, is)),
        refl,
      )

  pub count_keeps : (slots id mine : ℕ) (event : Option E) (x : S) (me : M) → IsSome event → me.0.stage ≡ Noted mine → 0 < me.0.part → stands x me.0.fixed.value 0 (me.0.seen ++ added true event)
      → Allows Rule slots id me 0 (λ n. (n + 1) % 18446744073709551616) (counts event (step slots 0 1 0 none) me)
  count_keeps slots id mine (Some e) x me _ is some_share after = count_one slots id mine e x me is some_share after
  count_keeps slots id mine None x me missing is some_share after = absurd (cc)

  abbrev homes_back : St → M → Homes
  homes_back s me = Rattle.atomic_table.specs.Table.put_back s.homes me.1

  pub leave_keeps : (slots id mine : ℕ) (x : S) (me : M) → me.0.stage ≡ Noted mine → 0 < me.0.part → me.1 ≡ (0, Some x) ∷ [] → stands x me.0.fixed.value 0 me.0.seen
      → Allows Rule slots id me 2 (λ n. (n + 1) % 18446744073709551616) (leaves (step slots 2 1 0 none) me)
  leave_keeps slots id mine x me is some_share has after s r _ at _ = let v : V = me.0 in let kv = r.each id v at in let now = noted_at s r id mine v at is in let w : V = staged Idle v in
      let stays : stands x fixed 0 r.history = subst (stands x fixed 0) now.2 (under v.fixed.value x v.seen (kv.same some_share) after) in
      let fits = r.fits in let is_served : mine ≡ r.serving = now.0 in let below : mine < r.ticket = now.1 in let small : (r.serving + 1) % 18446744073709551616 ≡ r.serving + 1 = omega arith in
      let back : homes_back s me ≡ some (Some x) ∷ [] = ap (λ cs. Rattle.atomic_table.specs.Table.put_back s.homes cs) has ∙ ap (λ hs. set hs 0 (some (Some x))) now.3 in (
        w,
        gives,
        tt,
        rebuilt s r id v w at (set s.words 2 ((get_or s.words 2 0 + 1) % 18446744073709551616)) (homes_back s me) r.history r.owner (r.serving + 1) r.ticket
            (ap (λ ws. set ws 2 ((get_or ws 2 0 + 1) % 18446744073709551616)) r.words ∙ ap (λ (z : ℕ). length r.history % 18446744073709551616 ∷ r.ticket ∷ z ∷ []) small)
            r.fits (omega arith) r.legal
            (knows_at r.history r.serving r.ticket (r.serving + 1) r.ticket r.owner r.depth (s.homes ≡ none ∷ []) (homes_back s me ≡ none ∷ []) id v Idle kv (λ _. refl) tt)
            (λ j d ne there_j. let kd = r.each j d there_j in
            knows_at r.history r.serving r.ticket (r.serving + 1) r.ticket r.owner r.depth (s.homes ≡ none ∷ []) (homes_back s me ≡ none ∷ []) j d d.stage kd kd.rests
            (at_served r.serving r.ticket ((d.seen ≡ r.history) × (s.homes ≡ none ∷ [])) ((d.seen ≡ r.history) × (homes_back s me ≡ none ∷ [])) d.stage
            (λ t has_t same. ne (r.apart j id d v mine there_j at (has_t ∙ ap Some (same ∙ sym is_served)) (ap ticket_of is))) kd.at))
            (λ j d t _ _ tw _. no_ticket w t refl tw)
            r.held refl refl (let one : drawn v.stage ≡ 1 = ap drawn is in omega arith) (longest_set s.views r.history id v w at (λ h. h) r.longest_seen) (inl (x, back, stays)),
        ap (λ (cs : List (ℕ × Option S)). (w, Rattle.atomic_table.specs.Table.rest cs)) has,
      )

  worth_finer : (depth : ℕ) (v : V) → v.depth ≤ depth → worth (suc depth) v ≡ 2 * worth depth v
  worth_finer depth v fine = let e : suc depth - v.depth ≡ suc (depth - v.depth) = omega arith in ap (λ (n : ℕ). doubled n v.part) e

  -- a seat's share is cut in two, and a new seat has one half
  pub halves_keep : (id : ℕ) (v : V) → Splits Rule id v (left_half v) (right_half v)
  halves_keep id v s r at = let l : V = left_half v in let w : V = right_half v in let kv = r.each id v at in let fine = kv.fine in let depth : ℕ = suc r.depth in
      let K : ℕ → V → Type 0 = Knows r.history r.serving r.ticket fixed r.owner depth (s.homes ≡ none ∷ []) in
      let finer : (j : ℕ) (d : V) → get_elem? s.views j ≡ some d → K j d = (λ j d e. let kd = r.each j d e in let fd = kd.fine in record { same = kd.same; alike = kd.alike; sees = kd.sees; tells = kd.tells; short = kd.short; owns = kd.owns; owned = kd.owned; once = kd.once; bare = kd.bare; rests = kd.rests; fine = omega arith; at = kd.at }) in
      let left_fine : v.depth + 1 ≤ depth = omega arith in
      record {
        history = r.history;
        owner = r.owner;
        serving = r.serving;
        ticket = r.ticket;
        depth = depth;
        words = r.words;
        fits = r.fits;
        order = r.order;
        legal = r.legal;
        each = λ j d e. ⊎_elim
            (λ (h : get_elem? (set s.views id l) j ≡ some d).
            set_all K s.views id l (record { same = kv.same; alike = kv.alike; sees = kv.sees; tells = kv.tells; short = kv.short; owns = kv.owns; owned = kv.owned; once = kv.once; bare = kv.bare; rests = kv.rests; fine = left_fine; at = kv.at }) (λ i x _ at_i. finer i x at_i) j d h)
            (λ (h : (j ≡ length (set s.views id l)) × (w ≡ d)). subst (λ (z : V). K j z) h.1 record {
              same = kv.same;
              alike = λ none_told. absurd (omega arith);
              sees = kv.sees;
              tells = prefix_none r.history;
              short = omega arith;
              owns = λ k _ own. absurd (cc);
              owned = λ k inside own. let within = r.held k inside in let past = h.0 in let as_long = length-set s.views id l in absurd (omega arith);
              once = λ k a b. absurd (cc);
              bare = λ _. refl;
              rests = λ _. refl;
              fine = left_fine;
              at = tt;
            })
            (at_end (set s.views id l) w d j e);
        apart = apart_end (set s.views id l) w refl (apart_set s.views id l r.apart (same_ticket s.views id v l at refl r.apart));
        held = λ k inside. let within = r.held k inside in omega (arith, length-append (set s.views id l) (w ∷ []), length-set s.views id l);
        whole = let total = r.whole in let twice = sum_twice (worth r.depth) (worth depth) s.views (λ j x e. worth_finer r.depth x (r.each j x e).fine) in
            let more = sum_append (worth depth) (set s.views id l) w in let change = sum_set (worth depth) s.views id v l at in
            let mine = worth_finer r.depth v fine in let less : depth - (v.depth + 1) ≡ r.depth - v.depth = omega arith in
            let half : worth depth l ≡ worth r.depth v = ap (λ (n : ℕ). doubled n v.part) less in let half' : worth depth w ≡ worth r.depth v = ap (λ (n : ℕ). doubled n v.part) less in
            let double : doubled depth 1 ≡ 2 * doubled r.depth 1 = refl in omega arith;
        counted = let was = r.counted in omega (arith, sum_append (λ (x : V). drawn x.stage) (set s.views id l) w, sum_set (λ (x : V). drawn x.stage) s.views id v l at);
        longest_seen = let h = longest_set s.views r.history id v l at (λ e. e) r.longest_seen in (h.0, h.1, at_before (set s.views id l) (w ∷ []) h.0 h.1 h.2, h.3);
        home = ⊎_elim (λ h. inl h) (λ (h : (j : ℕ) × (u : V) × (get_elem? (set s.views id l) j ≡ some u) × (t : ℕ) × (u.stage ≡ Noted t)). inr (h.0, h.1, at_before (set s.views id l) (w ∷ []) h.0 h.1 h.2, h.3, h.4))
            (home_set s.homes s.views r.history id v l at (λ t e. e) r.home);
      }

  -- a new seat has seen as much, and has no share
  pub note_keeps : (id : ℕ) (v : V) → Splits Rule id v v (noted v)
  note_keeps id v s r at = let w : V = noted v in let kv = r.each id v at in let K : ℕ → V → Type 0 = Knows r.history r.serving r.ticket fixed r.owner r.depth (s.homes ≡ none ∷ []) in
      let same_views : set s.views id v ≡ s.views = set_again s.views id v at in
      subst (λ (vs : List V). Rule record { words = s.words; homes = s.homes; views = vs ++ w ∷ [] }) (sym same_views) record {
        history = r.history;
        owner = r.owner;
        serving = r.serving;
        ticket = r.ticket;
        depth = r.depth;
        words = r.words;
        fits = r.fits;
        order = r.order;
        legal = r.legal;
        each = λ j d e. ⊎_elim (λ (h : get_elem? s.views j ≡ some d). r.each j d h)
            (λ (h : (j ≡ length s.views) × (w ≡ d)). subst (λ (z : V). K j z) h.1 record {
              same = λ no_share. absurd (omega arith);
              alike = λ none_told. absurd (omega arith);
              sees = kv.sees;
              tells = prefix_none r.history;
              short = omega arith;
              owns = λ k _ own. absurd (cc);
              owned = λ k inside own. let within = r.held k inside in let past = h.0 in absurd (omega arith);
              once = λ k a b. absurd (cc);
              bare = λ _. refl;
              rests = λ _. refl;
              fine = omega arith;
              at = tt;
            })
            (at_end s.views w d j e);
        apart = apart_end s.views w refl r.apart;
        held = λ k inside. let within = r.held k inside in omega (arith, length-append s.views (w ∷ []));
        whole = let total = r.whole in omega (arith, sum_append (worth r.depth) s.views w, doubled_zero (r.depth - 0));
        counted = let was = r.counted in omega (arith, sum_append (λ (x : V). drawn x.stage) s.views w);
        longest_seen = let h = r.longest_seen in (h.0, h.1, at_before s.views (w ∷ []) h.0 h.1 h.2, h.3);
        home = ⊎_elim (λ h. inl h) (λ (h : (j : ℕ) × (u : V) × (get_elem? s.views j ≡ some u) × (t : ℕ) × (u.stage ≡ Noted t)). inr (h.0, h.1, at_before s.views (w ∷ []) h.0 h.1 h.2, h.3, h.4)) r.home;
      }

  worth_joined : (depth : ℕ) (v w : V) → v.depth ≤ depth → w.depth ≤ depth → worth depth (joined v w) ≡ worth depth v + worth depth w
  worth_joined depth v w fv fw = let m : ℕ = max v.depth w.depth in let a : (depth - m) + (m - v.depth) ≡ depth - v.depth = omega arith in let b : (depth - m) + (m - w.depth) ≡ depth - w.depth = omega arith in
      doubled_add (depth - m) (doubled (m - v.depth) v.part) (doubled (m - w.depth) w.part)
      ∙ (λ i. (sym (doubled_more (depth - m) (m - v.depth) v.part) ∙ ap (λ (n : ℕ). doubled n v.part) a) i + (sym (doubled_more (depth - m) (m - w.depth) w.part) ∙ ap (λ (n : ℕ). doubled n w.part) b) i)

  pub share_positive : (v w : V) → 0 < v.part → 0 < (joined v w).part
  share_positive v w h = let n : ℕ = max v.depth w.depth - v.depth in dite (ℕ_discrete (doubled n v.part) 0) (λ e. let none_left = doubled_positive n v.part e in absurd (omega arith)) (λ ne. omega arith)

  -- a seat takes in another's view
  pub join_keeps : (nothing : F) (id : ℕ) (v : V) (other : ℕ) (w : V) → 0 < v.part → v.stage ≡ Idle → w.stage ≡ Idle → Joins Rule id v other w (joined v w) (spent nothing)
  join_keeps nothing id v other w some_share v_idle w_idle s r at apart_ids there_other = let u : V = joined v w in let gone : V = spent nothing in let vs : List V = set s.views id u in
      let at' : get_elem? s.views other ≡ some w = sym (set_else s.views id other u apart_ids) ∙ there_other in let kv = r.each id v at in let kw = r.each other w at' in
      let owner : ℕ → ℕ = handed other id r.owner in let K : ℕ → V → Type 0 = Knows r.history r.serving r.ticket fixed owner r.depth (s.homes ≡ none ∷ []) in
      let fv = kv.fine in let fw = kw.fine in let sv = kv.short in let sw = kw.short in
      let disjoint : (k : ℕ) → get_or v.own k false ≡ true → get_or w.own k false ≡ true → ⊥ = (λ k a b.
      let pv = prefix_length v.seen r.history kv.sees in
      dite (dec_le (suc k) (length r.history)) (λ inside. apart_ids (sym (kw.owns k inside b) ∙ kv.owns k inside a))
      (λ outside. let past : false ≡ true = sym (past_marks v.own k (omega arith)) ∙ a in absurd (cc))) in
      let ku : K id u = record {
        same = λ _. kv.same some_share;
        alike = kw.same;
        sees = longest_of v.seen w.seen r.history kv.sees kw.sees;
        tells = kw.sees;
        short = omega (arith, any_of_length v.own w.own, longest_length v.seen w.seen);
        owns = λ k inside own. ⊎_elim
            (λ (h : get_or v.own k false ≡ true). let is = kv.owns k inside h in handed_else other id r.owner k (λ e. apart_ids (sym e ∙ is)) ∙ is)
            (λ (h : get_or w.own k false ≡ true). handed_here other id r.owner k (kw.owns k inside h))
            (or_cases (get_or v.own k false) (get_or w.own k false) (sym (any_of_at v.own w.own k) ∙ own));
        owned = λ k inside own. any_of_at v.own w.own k ∙ dite (ℕ_discrete (r.owner k) other)
            (λ e. or_right (get_or v.own k false) (get_or w.own k false) (kw.owned k inside e))
            (λ ne. or_left (get_or v.own k false) (get_or w.own k false) (kv.owned k inside (sym (handed_else other id r.owner k ne) ∙ own)));
        once = λ k a b. disjoint k a b;
        bare = λ no_share. let p = share_positive v w some_share in absurd (omega arith);
        rests = λ _. v_idle;
        fine = omega arith;
        at = subst (IsAt r.serving r.ticket ((u.seen ≡ r.history) × (s.homes ≡ none ∷ []))) (sym v_idle) tt;
      } in
      let kg : K other gone = record {
        same = λ no_share. absurd (omega arith);
        alike = λ none_told. absurd (omega arith);
        sees = prefix_none r.history;
        tells = prefix_none r.history;
        short = omega arith;
        owns = λ k _ own. absurd (cc);
        owned = λ k inside own. dite (ℕ_discrete (r.owner k) other) (λ e. absurd (apart_ids (sym own ∙ handed_here other id r.owner k e))) (λ ne. absurd (ne (sym (handed_else other id r.owner k ne) ∙ own)));
        once = λ k a b. absurd (cc);
        bare = λ _. refl;
        rests = λ _. refl;
        fine = omega arith;
        at = tt;
      } in
      let others : (j : ℕ) (d : V) → j ≢ id → j ≢ other → get_elem? s.views j ≡ some d → K j d = (λ j d ne ne' e. let kd = r.each j d e in record {
        same = kd.same;
        alike = kd.alike;
        sees = kd.sees;
        tells = kd.tells;
        short = kd.short;
        owns = λ k inside own. let is = kd.owns k inside own in handed_else other id r.owner k (λ e. ne' (sym is ∙ e)) ∙ is;
        owned = λ k inside own. dite (ℕ_discrete (r.owner k) other) (λ e. absurd (ne (sym own ∙ handed_here other id r.owner k e))) (λ no_other. kd.owned k inside (sym (handed_else other id r.owner k no_other) ∙ own));
        once = kd.once;
        bare = kd.bare;
        rests = kd.rests;
        fine = kd.fine;
        at = kd.at;
      }) in
      record {
        history = r.history;
        owner = owner;
        serving = r.serving;
        ticket = r.ticket;
        depth = r.depth;
        words = r.words;
        fits = r.fits;
        order = r.order;
        legal = r.legal;
        each = set_all K vs other gone kg (λ j d ne e. set_all (λ i x. i ≢ other → K i x) s.views id u (λ _. ku) (λ i x ni ei no. others i x ni no ei) j d e ne);
        apart = apart_set vs other gone (apart_set s.views id u r.apart (same_ticket s.views id v u at refl r.apart)) (λ j d t _ _ tw _. no_ticket gone t refl tw);
        held = λ k inside. let lengths : length (set vs other gone) ≡ length s.views = length-set vs other gone ∙ length-set s.views id u in
            dite (ℕ_discrete (r.owner k) other) (λ e. let here = handed_here other id r.owner k e in let within = at_inside s.views id v at in omega arith)
            (λ ne. let same = handed_else other id r.owner k ne in let within = r.held k inside in omega arith);
        whole = let total = r.whole in let one = sum_set (worth r.depth) s.views id v u at in let two = sum_set (worth r.depth) vs other w gone there_other in
            let nothing = doubled_zero (r.depth - 0) in let both = worth_joined r.depth v w fv fw in omega arith;
        counted = let was = r.counted in let one = sum_set (λ (x : V). drawn x.stage) s.views id v u at in let two = sum_set (λ (x : V). drawn x.stage) vs other w gone there_other in
            let no_ticket_left : drawn w.stage ≡ 0 = ap drawn w_idle in omega arith;
        longest_seen = let within = longest_of v.seen w.seen r.history kv.sees kw.sees in let size = longest_length v.seen w.seen in let h = r.longest_seen in
            let here : (length r.history ≤ length v.seen) ⊎ (length r.history ≤ length w.seen) → Longest (set vs other gone) r.history = (λ big. let all : u.seen ≡ r.history = prefix_whole u.seen r.history within (⊎_elim (λ b. omega arith) (λ b. omega arith) big) in
            (id, u, set_else vs other id gone (λ e. apart_ids (sym e)) ∙ set_here s.views id u (at_inside s.views id v at), all)) in
            dite (ℕ_discrete h.0 id) (λ e. let same : h.1 ≡ v = some-injective h.1 v (sym h.2 ∙ (ap (get_elem? s.views) e ∙ at)) in let size_v = ap length (ap (λ (x : V). x.seen) (sym same) ∙ h.3) in here (inl (omega arith)))
            (λ ne. dite (ℕ_discrete h.0 other) (λ e. let same : h.1 ≡ w = some-injective h.1 w (sym h.2 ∙ (ap (get_elem? s.views) e ∙ at')) in let size_w = ap length (ap (λ (x : V). x.seen) (sym same) ∙ h.3) in here (inr (omega arith)))
            (λ ne'. (h.0, h.1, set_else vs other h.0 gone ne' ∙ (set_else s.views id h.0 u ne ∙ h.2), h.3)));
        home = home_set s.homes vs r.history other w gone there_other (λ t e. let no : Idle ≡ Noted t = sym w_idle ∙ e in absurd (cc)) (home_set s.homes s.views r.history id v u at (λ t e. e) r.home);
      }

  -- the first seat
  pub opens : (x : S) (xs : List (Option S)) → xs ≡ Some x ∷ [] → stands x fixed 0 [] → Rule (opening (0 ∷ 0 ∷ 0 ∷ []) xs (first_view fixed))
  opens x xs is start = subst (λ (l : List (Option S)). Rule (opening (0 ∷ 0 ∷ 0 ∷ []) l (first_view fixed))) (sym is) record {
    history = [];
    owner = λ _. 0;
    serving = 0;
    ticket = 0;
    depth = 0;
    words = refl;
    fits = omega arith;
    order = omega arith;
    legal = (x, start);
    each = λ j d e. let v : V = first_view fixed in ⊎_elim (λ (h : get_elem? [] j ≡ some d). absurd (some-ne-none d (sym h)))
        (λ (h : (j ≡ 0) × (v ≡ d)). subst (λ (z : V). Knows [] 0 0 fixed (λ _. 0) 0 (some (Some x) ∷ [] ≡ none ∷ []) j z) h.1 record {
          same = λ _. refl;
          alike = λ none_told. absurd (omega arith);
          sees = prefix_none [];
          tells = prefix_none [];
          short = omega arith;
          owns = λ k inside own. absurd (omega arith);
          owned = λ k inside own. absurd (omega arith);
          once = λ k a b. absurd (cc);
          bare = λ _. refl;
          rests = λ _. refl;
          fine = omega arith;
          at = tt;
        })
        (at_end [] v d j e);
    apart = apart_end [] (first_view fixed) refl (λ i j v w t ei. absurd (some-ne-none v (sym ei)));
    held = λ k inside. absurd (omega arith);
    whole = refl;
    counted = refl;
    longest_seen = (0, first_view fixed, refl, refl);
    home = inl (x, refl, start);
  }

  -- with the whole share, no other has a ticket
  all_served : (s : St) (r : Rule s) (id : ℕ) (v : V) → get_elem? s.views id ≡ some v → v.stage ≡ Idle → IsWhole v → r.ticket ≡ r.serving
  all_served s r id v at idle whole = let counted = r.counted in
      let none_drawn = sum_none (λ (x : V). drawn x.stage) s.views (λ j d e. dite (ℕ_discrete j id)
      (λ same. let is : d ≡ v = some-injective d v (sym e ∙ (ap (get_elem? s.views) same ∙ at)) in ap (λ (x : V). drawn x.stage) is ∙ ap drawn idle)
      (λ ne. ap drawn ((r.each j d e).rests (others_none s r id v at whole j d ne e)))) in omega arith

  -- where each ticket has been served, the state is at home
  pub closes : (id : ℕ) (v : V) (ws : List ℕ) (xs : List (Option S)) (ticket serving : ℕ) → 0 < v.part → Final (Seen Rule id v) ws xs → get_elem? ws 1 ≡ some ticket → get_elem? ws 2 ≡ some serving → ticket ≡ serving
      → (x : S) × (get_elem? xs 0 ≡ some (Some x)) × (events : List E) × IsPrefix v.seen events × stands x v.fixed.value 0 events × (IsWhole v → events ≡ v.seen)
  closes id v ws xs ticket serving some_share (s, seen_rule, words, _, values) t_is s_is same = let r = seen_rule.0 in let at = seen_rule.1 in let kv = r.each id v at in
      let now : ws ≡ length r.history % 18446744073709551616 ∷ r.ticket ∷ r.serving ∷ [] = sym words ∙ r.words in
      let t : r.ticket ≡ ticket = some-injective r.ticket ticket (sym (ap (λ l. get_elem? l 1) now) ∙ t_is) in
      let u : r.serving ≡ serving = some-injective r.serving serving (sym (ap (λ l. get_elem? l 2) now) ∙ s_is) in
      let home : (x : S) × (s.homes ≡ some (Some x) ∷ []) × stands x fixed 0 r.history = ⊎_elim (λ (h : (x : S) × (s.homes ≡ some (Some x) ∷ []) × stands x fixed 0 r.history). h)
      (λ (h : (j : ℕ) × (y : V) × (get_elem? s.views j ≡ some y) × (n : ℕ) × (y.stage ≡ Noted n)). let k = noted_at s r h.0 h.3 h.1 h.2 h.4 in let k0 = k.0 in let k1 = k.1 in absurd (omega arith)) r.home in
      let all = catches s r id v at in
      (home.0, values 0 (Some home.0) (ap (λ hs. get_elem? hs 0) home.1), r.history, kv.sees, over v.fixed.value home.0 r.history (kv.same some_share) home.2, λ whole. sym (all.whole whole).0)

  -- with the whole share of an idle seat, each ticket has been served
  pub closes_whole : (id : ℕ) (v : V) (ws : List ℕ) (xs : List (Option S)) (ticket serving : ℕ) → v.stage ≡ Idle → IsWhole v → Final (Seen Rule id v) ws xs → get_elem? ws 1 ≡ some ticket → get_elem? ws 2 ≡ some serving
      → ticket ≡ serving
  closes_whole id v ws xs ticket serving idle whole (s, seen_rule, words, _, values) t_is s_is = let r = seen_rule.0 in let at = seen_rule.1 in
      let now : ws ≡ length r.history % 18446744073709551616 ∷ r.ticket ∷ r.serving ∷ [] = sym words ∙ r.words in
      let t : r.ticket ≡ ticket = some-injective r.ticket ticket (sym (ap (λ l. get_elem? l 1) now) ∙ t_is) in
      let u : r.serving ≡ serving = some-injective r.serving serving (sym (ap (λ l. get_elem? l 2) now) ∙ s_is) in
      sym t ∙ (all_served s r id v at idle whole ∙ u)

pub grown_mine : {E : Type 0} (event : Option E) (own : List Bool) (seen : List E) → IsSome event → picked (marked own seen) (seen ++ added true event) ≡ picked own seen ++ added true event
grown_mine (Some e) own seen _ = picked_grown own seen e
grown_mine None own seen missing = absurd (cc)

pub grown_short : {E : Type 0} (event : Option E) (own : List Bool) (seen : List E) → IsSome event → length (marked own seen) ≤ length (seen ++ added true event)
grown_short (Some e) own seen _ = omega (arith, marked_length own seen, length-append seen (e ∷ []))
grown_short None own seen missing = absurd (cc)
