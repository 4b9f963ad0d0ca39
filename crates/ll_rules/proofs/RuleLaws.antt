-- The laws of rules, and that each way to put rules together keeps them.
use Rattle.std.proofs.Common.{◌≡◌, List, [], ◌∷◌, ◌++◌, Bool, true, false, cond, inl, inr, refl, sym, ap, subst, ◌∙◌, append_assoc}
use Rattle.ll_rules.specs.Rules.{Fault, TooDeep, Answer, Read, Refuse, then, Rule, leads, nothing, sequence, choice, barred}

-- both at their end, or the same first token
abbrev pub Alike : {T : Type 0} → List T → List T → Type 0
Alike [] [] = Unit {0}
Alike [] (u ∷ us) = ⊥
Alike (t ∷ ts) [] = ⊥
Alike (t ∷ ts) (u ∷ us) = t ≡ u

-- what was read so far decides, with the next token
abbrev pub Local : {T A : Type 0} → Rule T A → List T → List T → (List T → Answer T A) → Type 0
Local {T = T} p used rest answer = (other : List T) → Alike rest other → p.read (used ++ other) ≡ answer other

-- it can be completed
abbrev pub Viable : {T A : Type 0} → Rule T A → List T → Type 0
Viable {T = T} {A = A} p used = (more : List T) × (a : A) × p.spells (used ++ more) a

pub record GoodRead {T A : Type 0} (p : Rule T A) (ts : List T) (a : A) (rest : List T) : Type 0 where
  pub used : List T
  pub cut : ts ≡ used ++ rest
  pub spelled : p.spells used a
  pub local : Local p used rest (λ other. Read a other)

pub record GoodRefuse {T A : Type 0} (p : Rule T A) (ts : List T) (fault : Fault) (rest : List T) : Type 0 where
  pub used : List T
  pub cut : ts ≡ used ++ rest
  pub viable : Viable p used
  pub local : Local p used rest (λ other. Refuse fault other)

abbrev pub Good : {T A : Type 0} → Rule T A → List T → Answer T A → Type 0
Good p ts (Read a rest) = GoodRead p ts a rest
Good p ts (Refuse fault rest) = GoodRefuse p ts fault rest

pub record Lawful {T A : Type 0} (p : Rule T A) : Type 0 where
  pub again : (used rest : List T) (a : A) → p.spells used a → p.ends rest → p.read (used ++ rest) ≡ Read a rest
  pub good : (ts : List T) → Good p ts (p.read ts)
  pub some : Viable p []

pub alike_append : {T : Type 0} (front r s : List T) → Alike r s → Alike (front ++ r) (front ++ s)
alike_append [] r s h = h
alike_append (t ∷ front) r s h = refl

pub leads_alike : {T : Type 0} (test : T → Bool) (r s : List T) → Alike r s → leads test r ≡ leads test s
leads_alike test [] [] h = refl
leads_alike test [] (u ∷ us) h = absurd h
leads_alike test (t ∷ ts) [] h = absurd h
leads_alike test (t ∷ ts) (u ∷ us) h = ap test h

pub leads_front : {T : Type 0} (test : T → Bool) (r s : List T) → leads test r ≡ true → leads test (r ++ s) ≡ true
leads_front test [] s h = cc
leads_front test (t ∷ ts) s h = h

pub leads_cut : {T : Type 0} (test : T → Bool) (ts used rest other : List T) → ts ≡ used ++ rest → Alike rest other → leads test (used ++ other) ≡ leads test ts
leads_cut test ts used rest other e h = sym (ap (leads test) e ∙ leads_alike test (used ++ rest) (used ++ other) (alike_append used rest other h))

-- after each other

pub second_good : {T A B : Type 0} (p : Rule T A) (q : A → Rule T B) (ends : List T → Type 0) (ts : List T) (a : A) (rest : List T) → GoodRead p ts a rest → (y : Answer T B) → Good (q a) rest y → Good (sequence p q ends) ts y
second_good {T = T} {A = A} {B = B} p q ends ts a rest g (Read b end) k = record {
  used = g.used ++ k.used;
  cut = g.cut ∙ ap (λ r. g.used ++ r) k.cut ∙ sym (append_assoc g.used k.used end);
  spelled = (g.used, k.used, a, refl, g.spelled, k.spelled);
  local = λ other h.
      let met : Alike rest (k.used ++ other) = subst (λ r. Alike r (k.used ++ other)) (sym k.cut) (alike_append k.used end other h) in
      let first : p.read ((g.used ++ k.used) ++ other) ≡ Read a (k.used ++ other) = ap p.read (append_assoc g.used k.used other) ∙ g.local (k.used ++ other) met in
      ap (λ x. then x (λ a rest. (q a).read rest)) first ∙ k.local other h;
}
second_good {T = T} {A = A} {B = B} p q ends ts a rest g (Refuse fault end) k = record {
  used = g.used ++ k.used;
  cut = g.cut ∙ ap (λ r. g.used ++ r) k.cut ∙ sym (append_assoc g.used k.used end);
  viable = (k.viable.0, k.viable.1, (g.used, k.used ++ k.viable.0, a, append_assoc g.used k.used k.viable.0, g.spelled, k.viable.2));
  local = λ other h.
      let met : Alike rest (k.used ++ other) = subst (λ r. Alike r (k.used ++ other)) (sym k.cut) (alike_append k.used end other h) in
      let first : p.read ((g.used ++ k.used) ++ other) ≡ Read a (k.used ++ other) = ap p.read (append_assoc g.used k.used other) ∙ g.local (k.used ++ other) met in
      ap (λ x. then x (λ a rest. (q a).read rest)) first ∙ k.local other h;
}

pub then_good : {T A B : Type 0} (p : Rule T A) (q : A → Rule T B) (ends : List T → Type 0) (ts : List T) (x : Answer T A) → Good p ts x → ((a : A) (rest : List T) → x ≡ Read a rest → Good (q a) rest ((q a).read rest)) → ((a : A) → Viable (q a) []) → Good (sequence p q ends) ts (then x (λ a rest. (q a).read rest))
then_good p q ends ts (Read a rest) g h s = second_good p q ends ts a rest g ((q a).read rest) (h a rest refl)
then_good p q ends ts (Refuse fault rest) g h s = record {
  used = g.used;
  cut = g.cut;
  viable =
      let v = s g.viable.1 in
      (g.viable.0 ++ v.0, v.1, (g.used ++ g.viable.0, v.0, g.viable.1, sym (append_assoc g.used g.viable.0 v.0), g.viable.2, v.2));
  local = λ other h. ap (λ x. then x (λ a rest. (q a).read rest)) (g.local other h);
}

pub sequence_again : {T A B : Type 0} (p : Rule T A) (q : A → Rule T B) (ends : List T → Type 0) (used rest : List T) (b : B) (s : (sequence p q ends).spells used b) → p.read (s.0 ++ (s.1 ++ rest)) ≡ Read s.2 (s.1 ++ rest) → (q s.2).read (s.1 ++ rest) ≡ Read b rest → (sequence p q ends).read (used ++ rest) ≡ Read b rest
sequence_again p q ends used rest b s e f =
    ap (λ ts. then (p.read ts) (λ a rest. (q a).read rest)) (ap (λ u. u ++ rest) s.3 ∙ append_assoc s.0 s.1 rest) ∙ ap (λ x. then x (λ a rest. (q a).read rest)) e ∙ f

pub sequence_lawful : {T A B : Type 0} (p : Rule T A) (q : A → Rule T B) (ends : List T → Type 0) → Lawful p → ((a : A) → Lawful (q a))
    → ((a : A) (second rest : List T) (b : B) → (q a).spells second b → ends rest → p.ends (second ++ rest))
    → ((a : A) (rest : List T) → ends rest → (q a).ends rest)
    → Lawful (sequence p q ends)
sequence_lawful p q ends lp lq meets ends_q = record {
  again = λ used rest b s e. sequence_again p q ends used rest b s (lp.again s.0 (s.1 ++ rest) s.2 s.4 (meets s.2 s.1 rest b s.5 e)) ((lq s.2).again s.1 rest b s.5 (ends_q s.2 rest e));
  good = λ ts. then_good p q ends ts (p.read ts) (lp.good ts) (λ a rest e. (lq a).good rest) (λ a. (lq a).some);
  some =
      let v = (lq lp.some.1).some in
      (lp.some.0 ++ v.0, v.1, (lp.some.0, v.0, lp.some.1, refl, lp.some.2, v.2));
}

-- nothing

pub nothing_lawful : {T A : Type 0} (a : A) → Lawful (nothing {T = T} a)
nothing_lawful a = record {
  again = λ used rest b s e. ap (λ u. Read a (u ++ rest)) s.0 ∙ ap (λ c. Read c rest) (sym s.1);
  good = λ ts. record { used = []; cut = refl; spelled = (refl, refl); local = λ other h. refl };
  some = ([], a, (refl, refl));
}

-- one or the other

pub chosen_first : {T A : Type 0} (test : T → Bool) (p q : Rule T A) (ends : List T → Type 0) (ts : List T) (x : Answer T A) → leads test ts ≡ true → Good p ts x → Good (choice test p q ends) ts x
chosen_first test p q ends ts (Read a rest) e g = record {
  used = g.used;
  cut = g.cut;
  spelled = inl g.spelled;
  local = λ other h. ap (λ b. cond b (p.read (g.used ++ other)) (q.read (g.used ++ other))) (leads_cut test ts g.used rest other g.cut h ∙ e) ∙ g.local other h;
}
chosen_first test p q ends ts (Refuse fault rest) e g = record {
  used = g.used;
  cut = g.cut;
  viable = (g.viable.0, g.viable.1, inl g.viable.2);
  local = λ other h. ap (λ b. cond b (p.read (g.used ++ other)) (q.read (g.used ++ other))) (leads_cut test ts g.used rest other g.cut h ∙ e) ∙ g.local other h;
}

pub chosen_second : {T A : Type 0} (test : T → Bool) (p q : Rule T A) (ends : List T → Type 0) (ts : List T) (x : Answer T A) → leads test ts ≡ false → Good q ts x → Good (choice test p q ends) ts x
chosen_second test p q ends ts (Read a rest) e g = record {
  used = g.used;
  cut = g.cut;
  spelled = inr g.spelled;
  local = λ other h. ap (λ b. cond b (p.read (g.used ++ other)) (q.read (g.used ++ other))) (leads_cut test ts g.used rest other g.cut h ∙ e) ∙ g.local other h;
}
chosen_second test p q ends ts (Refuse fault rest) e g = record {
  used = g.used;
  cut = g.cut;
  viable = (g.viable.0, g.viable.1, inr g.viable.2);
  local = λ other h. ap (λ b. cond b (p.read (g.used ++ other)) (q.read (g.used ++ other))) (leads_cut test ts g.used rest other g.cut h ∙ e) ∙ g.local other h;
}

pub choice_good : {T A : Type 0} (test : T → Bool) (p q : Rule T A) (ends : List T → Type 0) (ts : List T) → (leads test ts ≡ true → Good p ts (p.read ts)) → (leads test ts ≡ false → Good q ts (q.read ts)) → (b : Bool) → leads test ts ≡ b → Good (choice test p q ends) ts (cond b (p.read ts) (q.read ts))
choice_good test p q ends ts gp gq true e = chosen_first test p q ends ts (p.read ts) e (gp e)
choice_good test p q ends ts gp gq false e = chosen_second test p q ends ts (q.read ts) e (gq e)

pub choice_again : {T A : Type 0} (test : T → Bool) (p q : Rule T A) (ends : List T → Type 0) (used rest : List T) (a : A)
    → (s : (choice test p q ends).spells used a)
    → (p.spells used a → (leads test (used ++ rest) ≡ true) × (p.read (used ++ rest) ≡ Read a rest))
    → (q.spells used a → (leads test (used ++ rest) ≡ false) × (q.read (used ++ rest) ≡ Read a rest))
    → (choice test p q ends).read (used ++ rest) ≡ Read a rest
choice_again test p q ends used rest a (inl s) f g = ap (λ b. cond b (p.read (used ++ rest)) (q.read (used ++ rest))) (f s).0 ∙ (f s).1
choice_again test p q ends used rest a (inr s) f g = ap (λ b. cond b (p.read (used ++ rest)) (q.read (used ++ rest))) (g s).0 ∙ (g s).1

pub choice_lawful : {T A : Type 0} (test : T → Bool) (p q : Rule T A) (ends : List T → Type 0) → Lawful p → Lawful q
    → ((used : List T) (a : A) → p.spells used a → leads test used ≡ true)
    → ((used rest : List T) (a : A) → q.spells used a → ends rest → leads test (used ++ rest) ≡ false)
    → ((rest : List T) → ends rest → p.ends rest)
    → ((rest : List T) → ends rest → q.ends rest)
    → Lawful (choice test p q ends)
choice_lawful test p q ends lp lq heads_p heads_q ends_p ends_q = record {
  again = λ used rest a s e. choice_again test p q ends used rest a s
      (λ sp. (leads_front test used rest (heads_p used a sp), lp.again used rest a sp (ends_p rest e)))
      (λ sq. (heads_q used rest a sq e, lq.again used rest a sq (ends_q rest e)));
  good = λ ts. choice_good test p q ends ts (λ e. lp.good ts) (λ e. lq.good ts) (leads test ts) refl;
  some = (lq.some.0, lq.some.1, inr lq.some.2);
}

-- barred

pub barred_second : {T A : Type 0} (test : T → Bool) (q : Rule T A) (ts : List T) (x : Answer T A) → leads test ts ≡ false → Good q ts x → Good (barred test q) ts x
barred_second test q ts (Read a rest) e g = record {
  used = g.used;
  cut = g.cut;
  spelled = g.spelled;
  local = λ other h. ap (λ b. cond b (Refuse TooDeep (g.used ++ other)) (q.read (g.used ++ other))) (leads_cut test ts g.used rest other g.cut h ∙ e) ∙ g.local other h;
}
barred_second test q ts (Refuse fault rest) e g = record {
  used = g.used;
  cut = g.cut;
  viable = g.viable;
  local = λ other h. ap (λ b. cond b (Refuse TooDeep (g.used ++ other)) (q.read (g.used ++ other))) (leads_cut test ts g.used rest other g.cut h ∙ e) ∙ g.local other h;
}

pub barred_good : {T A : Type 0} (test : T → Bool) (q : Rule T A) (ts : List T) → Lawful q → (b : Bool) → leads test ts ≡ b → Good (barred test q) ts (cond b (Refuse TooDeep ts) (q.read ts))
barred_good test q ts lq true e = record {
  used = [];
  cut = refl;
  viable = lq.some;
  local = λ other h. ap (λ b. cond b (Refuse TooDeep other) (q.read other)) (leads_cut test ts [] ts other refl h ∙ e);
}
barred_good test q ts lq false e = barred_second test q ts (q.read ts) e (lq.good ts)

pub barred_lawful : {T A : Type 0} (test : T → Bool) (q : Rule T A) → Lawful q
    → ((used rest : List T) (a : A) → q.spells used a → q.ends rest → leads test (used ++ rest) ≡ false)
    → Lawful (barred test q)
barred_lawful test q lq heads_q = record {
  again = λ used rest a s e. ap (λ b. cond b (Refuse TooDeep (used ++ rest)) (q.read (used ++ rest))) (heads_q used rest a s e) ∙ lq.again used rest a s e;
  good = λ ts. barred_good test q ts lq (leads test ts) refl;
  some = lq.some;
}
