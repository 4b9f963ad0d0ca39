-- One token, the end, and any number of values.
use Rattle.std.proofs.Common.{◌≡◌, ℕ, zero, suc, ◌≤◌, List, [], ◌∷◌, ◌++◌, length, Bool, true, false, cond, Option, Some, None, refl, sym, ap, subst, ◌∙◌, append_assoc, arith, length-append}
use Rattle.std.proofs.lemmas.List.{append-nil}
use Rattle.ll_rules.specs.Rules.{Syntax, Answer, Read, Refuse, then, Rule, leads, nothing, sequence, taken, one_read, one, end_read, end, more_read, more_spells, more}
use Rattle.ll_rules.proofs.RuleLaws.{Alike, Viable, GoodRead, Good, Lawful, leads_alike, then_good, nothing_lawful}

-- one token

pub one_again : {T A : Type 0} (f : T → Option A) (t : T) (ts : List T) (a : A) → f t ≡ Some a → one_read f (t ∷ ts) ≡ Read a ts
one_again f t ts a e = ap (λ o. taken o t ts) e

pub one_good_taken : {T A : Type 0} (f : T → Option A) (t : T) (ts : List T) → Viable (one f) [] → (o : Option A) → f t ≡ o → Good (one f) (t ∷ ts) (taken o t ts)
one_good_taken f t ts v None e = record {
  used = [];
  cut = refl;
  viable = v;
  local = λ other h. one_refused f t ts e other h;
} where
  one_refused : {T A : Type 0} (f : T → Option A) (t : T) (ts : List T) → f t ≡ None → (other : List T) → Alike (t ∷ ts) other → one_read f other ≡ Refuse Syntax other
  one_refused f t ts e [] h = absurd h
  one_refused f t ts e (u ∷ us) h = ap (λ o. taken o u us) (ap f (sym h) ∙ e)
one_good_taken f t ts v (Some a) e = record {
  used = t ∷ [];
  cut = refl;
  spelled = (t, refl, e);
  local = λ other h. one_again f t other a e;
}

pub one_good : {T A : Type 0} (f : T → Option A) → Viable (one f) [] → (ts : List T) → Good (one f) ts (one_read f ts)
one_good f v [] = record { used = []; cut = refl; viable = v; local = λ other h. one_at_end f other h } where
  one_at_end : {T A : Type 0} (f : T → Option A) (other : List T) → Alike [] other → one_read f other ≡ Refuse Syntax other
  one_at_end f [] h = refl
  one_at_end f (u ∷ us) h = absurd h
one_good f v (t ∷ ts) = one_good_taken f t ts v (f t) refl

pub one_lawful : {T A : Type 0} (f : T → Option A) (t : T) (a : A) → f t ≡ Some a → Lawful (one f)
one_lawful {T = T} f t a e = record {
  again = λ used rest b s h. ap (λ u. one_read f (u ++ rest)) s.1 ∙ one_again f s.0 rest b s.2;
  good = λ ts. one_good f (t ∷ [], a, (t, refl, e)) ts;
  some = (t ∷ [], a, (t, refl, e));
}

-- the end

pub end_good : {T A : Type 0} (a : A) (ts : List T) → Good (end a) ts (end_read a ts)
end_good a [] = record { used = []; cut = refl; spelled = (refl, refl); local = λ other h. end_at_end a other h } where
  end_at_end : {T A : Type 0} (a : A) (other : List T) → Alike [] other → end_read a other ≡ Read a other
  end_at_end a [] h = refl
  end_at_end a (u ∷ us) h = absurd h
end_good a (t ∷ ts) = record { used = []; cut = refl; viable = ([], a, (refl, refl)); local = λ other h. end_too_far a t ts other h } where
  end_too_far : {T A : Type 0} (a : A) (t : T) (ts other : List T) → Alike (t ∷ ts) other → end_read a other ≡ Refuse Syntax other
  end_too_far a t ts [] h = absurd h
  end_too_far a t ts (u ∷ us) h = refl

pub end_lawful : {T A : Type 0} (a : A) → Lawful (end {T = T} a)
end_lawful a = record {
  again = λ used rest b s e. ap (λ u. end_read a (u ++ rest)) s.0 ∙ ap (λ r. end_read a r) e ∙ ap (λ c. Read c []) (sym s.1) ∙ ap (λ r. Read b r) (sym e);
  good = λ ts. end_good a ts;
  some = ([], a, (refl, refl));
}

-- any number

-- what is read takes no more tokens than there are
pub shorter : {T A : Type 0} (p : Rule T A) (ts : List T) (a : A) (rest : List T) → GoodRead p ts a rest → length rest ≤ length ts
shorter {T = T} p ts a rest g = omega (arith, length-append g.used rest, ap length g.cut)

pub read_shorter : {T A : Type 0} (p : Rule T A) → Lawful p → (ts : List T) (a : A) (rest : List T) → p.read ts ≡ Read a rest → length rest ≤ length ts
read_shorter p l ts a rest e = shorter p ts a rest (subst (λ x. Good p ts x) e (l.good ts))

pub then_same : {T A B : Type 0} (x : Answer T A) (f g : A → List T → Answer T B) → ((a : A) (rest : List T) → x ≡ Read a rest → f a rest ≡ g a rest) → then x f ≡ then x g
then_same (Read a rest) f g h = h a rest refl
then_same (Refuse fault rest) f g h = refl

pub enough : {T A : Type 0} (test : T → Bool) (p : Rule T A) → Lawful p → (n m : ℕ) (ts : List T) → length ts ≤ n → length ts ≤ m → more_read test p.read n ts ≡ more_read test p.read m ts
enough test p l zero zero ts h k = refl
enough test p l zero (suc m) [] h k = refl
enough test p l zero (suc m) (t ∷ ts) h k = absurd (omega arith)
enough test p l (suc n) zero [] h k = refl
enough test p l (suc n) zero (t ∷ ts) h k = absurd (omega arith)
enough test p l (suc n) (suc m) [] h k = refl
enough test p l (suc n) (suc m) (t ∷ ts) h k =
    ap (λ x. cond (test t) x (Read [] (t ∷ ts))) (then_same (p.read ts) _ _ (λ a rest e.
    let s : length rest ≤ length ts = read_shorter p l ts a rest e in
    ap (λ y. then y (λ others end. Read (a ∷ others) end)) (enough test p l n m rest (omega arith) (omega arith))))

-- what is read after a token that passes the test
abbrev pub tail : {T A : Type 0} → (T → Bool) → Rule T A → (List T → Type 0) → Rule T (List A)
tail test p ends = sequence p (λ a. sequence (more test p ends) (λ others. nothing (a ∷ others)) ends) ends

pub more_step : {T A : Type 0} (test : T → Bool) (p : Rule T A) (ends : List T → Type 0) → Lawful p → (t : T) (ts : List T) → (more test p ends).read (t ∷ ts) ≡ cond (test t) ((tail test p ends).read ts) (Read [] (t ∷ ts))
more_step test p ends l t ts =
    ap (λ x. cond (test t) x (Read [] (t ∷ ts))) (then_same (p.read ts) _ _ (λ a rest e.
    let s : length rest ≤ length ts = read_shorter p l ts a rest e in
    ap (λ y. then y (λ others end. Read (a ∷ others) end)) (enough test p l (length ts) (length rest) rest s (omega arith))))

pub more_stop : {T A : Type 0} (test : T → Bool) (p : Rule T A) (n : ℕ) (ts : List T) → leads test ts ≡ false → more_read test p.read n ts ≡ Read [] ts
more_stop test p zero ts e = refl
more_stop test p (suc n) [] e = refl
more_stop test p (suc n) (t ∷ ts) e = ap (λ b. cond b (then (p.read ts) (λ a rest. then (more_read test p.read n rest) (λ others end. Read (a ∷ others) end))) (Read [] (t ∷ ts))) e

pub tail_spells : {T A : Type 0} (test : T → Bool) (p : Rule T A) (ends : List T → Type 0) (t : T) (used : List T) (all : List A) → test t ≡ true → (tail test p ends).spells used all → more_spells test p.spells (t ∷ used) all
tail_spells test p ends t used all e s =
    let inner = s.5 in
    let nil = inner.5 in
    let cut : t ∷ used ≡ t ∷ (s.0 ++ inner.0) = ap (λ u. t ∷ u) (s.3 ∙ ap (λ u. s.0 ++ u) (inner.3 ∙ ap (λ u. inner.0 ++ u) nil.0 ∙ append-nil inner.0)) in
    subst (λ x. more_spells test p.spells (t ∷ used) x) (sym nil.1) (t, s.0, inner.0, cut, e, s.4, inner.4)

pub tail_good : {T A : Type 0} (test : T → Bool) (p : Rule T A) (ends : List T → Type 0) → Lawful p → (t : T) (ts : List T) (x : Answer T (List A)) → test t ≡ true → Good (tail test p ends) ts x → Good (more test p ends) (t ∷ ts) x
tail_good test p ends l t ts (Read all rest) e g = record {
  used = t ∷ g.used;
  cut = ap (λ u. t ∷ u) g.cut;
  spelled = tail_spells test p ends t g.used all e g.spelled;
  local = λ other h. more_step test p ends l t (g.used ++ other) ∙ ap (λ b. cond b ((tail test p ends).read (g.used ++ other)) (Read [] (t ∷ (g.used ++ other)))) e ∙ g.local other h;
}
tail_good test p ends l t ts (Refuse fault rest) e g = record {
  used = t ∷ g.used;
  cut = ap (λ u. t ∷ u) g.cut;
  viable = (g.viable.0, g.viable.1, tail_spells test p ends t (g.used ++ g.viable.0) g.viable.1 e g.viable.2);
  local = λ other h. more_step test p ends l t (g.used ++ other) ∙ ap (λ b. cond b ((tail test p ends).read (g.used ++ other)) (Read [] (t ∷ (g.used ++ other)))) e ∙ g.local other h;
}

pub more_empty : {T A : Type 0} (test : T → Bool) (p : Rule T A) (ends : List T → Type 0) (ts : List T) → leads test ts ≡ false → Good (more test p ends) ts (Read [] ts)
more_empty test p ends ts e = record {
  used = [];
  cut = refl;
  spelled = refl;
  local = λ other h. more_stop test p (length other) other (sym (leads_alike test ts other h) ∙ e);
}

pub more_good_step : {T A : Type 0} (test : T → Bool) (p : Rule T A) (ends : List T → Type 0) → Lawful p → (t : T) (ts : List T) → Good (tail test p ends) ts ((tail test p ends).read ts) → (b : Bool) → test t ≡ b → Good (more test p ends) (t ∷ ts) (cond b ((tail test p ends).read ts) (Read [] (t ∷ ts)))
more_good_step test p ends l t ts g true e = tail_good test p ends l t ts ((tail test p ends).read ts) e g
more_good_step test p ends l t ts g false e = more_empty test p ends (t ∷ ts) e

pub more_good : {T A : Type 0} (test : T → Bool) (p : Rule T A) (ends : List T → Type 0) → Lawful p → (n : ℕ) (ts : List T) → length ts ≤ n → Good (more test p ends) ts ((more test p ends).read ts)
more_good test p ends l n [] h = more_empty test p ends [] refl
more_good test p ends l zero (t ∷ ts) h = absurd (omega arith)
more_good test p ends l (suc n) (t ∷ ts) h =
    subst (λ x. Good (more test p ends) (t ∷ ts) x) (sym (more_step test p ends l t ts))
    (more_good_step test p ends l t ts
    (then_good p (λ a. sequence (more test p ends) (λ others. nothing (a ∷ others)) ends) ends ts (p.read ts) (l.good ts)
    (λ a rest e.
    let s : length rest ≤ length ts = read_shorter p l ts a rest e in
    then_good (more test p ends) (λ others. nothing (a ∷ others)) ends rest ((more test p ends).read rest) (more_good test p ends l n rest (omega arith))
    (λ others end f. (nothing_lawful (a ∷ others)).good end) (λ others. (nothing_lawful (a ∷ others)).some))
    (λ a. ([], a ∷ [], ([], [], [], refl, refl, (refl, refl)))))
    (test t) refl)

pub more_again : {T A : Type 0} (test : T → Bool) (p : Rule T A) (ends : List T → Type 0) → Lawful p
    → ((rest : List T) → ends rest → leads test rest ≡ false)
    → ((rest : List T) → ends rest → p.ends rest)
    → ((t : T) (rest : List T) → test t ≡ true → p.ends (t ∷ rest))
    → (all : List A) (used rest : List T) → more_spells test p.spells used all → ends rest → (more test p ends).read (used ++ rest) ≡ Read all rest
more_again test p ends l stops ends_p goes [] used rest s e =
    ap (λ u. (more test p ends).read (u ++ rest)) s ∙ more_stop test p (length rest) rest (stops rest e)
more_again {T = T} {A = A} test p ends l stops ends_p goes (a ∷ others) used rest s e =
    let t = s.0 in
    let first = s.1 in
    let second = s.2 in
    let after : p.ends (second ++ rest) = next others second s.6 in
    let e1 : p.read ((first ++ second) ++ rest) ≡ Read a (second ++ rest) = ap p.read (append_assoc first second rest) ∙ l.again first (second ++ rest) a s.5 after in
    let e2 : (tail test p ends).read ((first ++ second) ++ rest) ≡ Read (a ∷ others) rest =
    ap (λ x. then x (λ b r. then ((more test p ends).read r) (λ bs end. Read (b ∷ bs) end))) e1 ∙ ap (λ x. then x (λ bs end. Read (a ∷ bs) end)) (more_again test p ends l stops ends_p goes others second rest s.6 e) in
    ap (λ u. (more test p ends).read (u ++ rest)) s.3 ∙ more_step test p ends l t ((first ++ second) ++ rest) ∙ ap (λ b. cond b ((tail test p ends).read ((first ++ second) ++ rest)) (Read [] (t ∷ ((first ++ second) ++ rest)))) s.4 ∙ e2
  where
    next : (bs : List A) (second : List T) → more_spells test p.spells second bs → p.ends (second ++ rest)
    next [] second h = subst (λ u. p.ends (u ++ rest)) (sym h) (ends_p rest e)
    next (b ∷ bs) second h = subst (λ u. p.ends (u ++ rest)) (sym h.3) (goes h.0 ((h.1 ++ h.2) ++ rest) h.4)

pub more_lawful : {T A : Type 0} (test : T → Bool) (p : Rule T A) (ends : List T → Type 0) → Lawful p
    → ((rest : List T) → ends rest → leads test rest ≡ false)
    → ((rest : List T) → ends rest → p.ends rest)
    → ((t : T) (rest : List T) → test t ≡ true → p.ends (t ∷ rest))
    → Lawful (more test p ends)
more_lawful test p ends l stops ends_p goes = record {
  again = λ used rest all s e. more_again test p ends l stops ends_p goes all used rest s e;
  good = λ ts. more_good test p ends l (length ts) ts (omega arith);
  some = ([], [], refl);
}
