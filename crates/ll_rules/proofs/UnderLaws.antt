-- What a rule with a smaller limit answers, the one with the larger limit answers too, but where the limit was met: there the opening token can stand.
use Rattle.std.proofs.Common.{◌≡◌, ℕ, zero, suc, ◌≤◌, List, [], ◌∷◌, ◌++◌, length, Bool, true, false, cond, Option, Some, None, refl, sym, ap, subst, ◌∙◌, append_assoc, arith}
use Rattle.ll_rules.specs.Rules.{Syntax, TooDeep, Answer, Read, Refuse, then, Rule, leads, nothing, sequence, choice, taken, one_read, one, end_read, end, more}
use Rattle.ll_rules.proofs.RuleLaws.{Alike, GoodRead, Good, Lawful, leads_cut, alike_append}
use Rattle.ll_rules.proofs.MoreLaws.{tail, more_step, more_stop, read_shorter}

-- the opening token at which the limit was met begins what the larger limit reads
pub record Opens {T A : Type 0} (p : Rule T A) (ts rest : List T) : Type 0 where
  pub used : List T
  pub token : T
  pub others : List T
  pub cut : ts ≡ used ++ token ∷ others
  pub at : rest ≡ token ∷ others
  pub stands : p.read (used ++ token ∷ []) ≡ Refuse Syntax []

-- p has the larger limit
abbrev pub Under : {T A : Type 0} → Rule T A → List T → Answer T A → Type 0
Under p ts (Read a rest) = p.read ts ≡ Read a rest
Under p ts (Refuse Syntax rest) = p.read ts ≡ Refuse Syntax rest
Under p ts (Refuse TooDeep rest) = Opens p ts rest

pub under_second : {T A B : Type 0} (p : Rule T A) (q : A → Rule T B) (ends : List T → Type 0) (ts : List T) (a : A) (rest : List T) → GoodRead p ts a rest → p.read ts ≡ Read a rest → (y : Answer T B) → Under (q a) rest y → Under (sequence p q ends) ts y
under_second p q ends ts a rest g e (Read b end) k = ap (λ x. then x (λ c r. (q c).read r)) e ∙ k
under_second p q ends ts a rest g e (Refuse Syntax end) k = ap (λ x. then x (λ c r. (q c).read r)) e ∙ k
under_second p q ends ts a rest g e (Refuse TooDeep end) k = record {
  used = g.used ++ k.used;
  token = k.token;
  others = k.others;
  cut = g.cut ∙ ap (λ r. g.used ++ r) k.cut ∙ sym (append_assoc g.used k.used (k.token ∷ k.others));
  at = k.at;
  stands =
      let met : Alike rest (k.used ++ k.token ∷ []) = subst (λ r. Alike r (k.used ++ k.token ∷ [])) (sym k.cut) (alike_append k.used (k.token ∷ k.others) (k.token ∷ []) refl) in
      ap (λ u. then (p.read u) (λ c r. (q c).read r)) (append_assoc g.used k.used (k.token ∷ [])) ∙ ap (λ x. then x (λ c r. (q c).read r)) (g.local (k.used ++ k.token ∷ []) met) ∙ k.stands;
}

pub then_under : {T A B : Type 0} (p : Rule T A) (q : A → Rule T B) (ends : List T → Type 0) (ts : List T) (low : A → List T → Answer T B) → Lawful p → (x : Answer T A) → Under p ts x → ((a : A) (rest : List T) → x ≡ Read a rest → Under (q a) rest (low a rest)) → Under (sequence p q ends) ts (then x low)
then_under p q ends ts low l (Read a rest) u h =
    under_second p q ends ts a rest (subst (λ x. Good p ts x) u (l.good ts)) u (low a rest) (h a rest refl)
then_under p q ends ts low l (Refuse Syntax rest) u h = ap (λ x. then x (λ c r. (q c).read r)) u
then_under p q ends ts low l (Refuse TooDeep rest) u h = record {
  used = u.used;
  token = u.token;
  others = u.others;
  cut = u.cut;
  at = u.at;
  stands = ap (λ x. then x (λ c r. (q c).read r)) u.stands;
}

-- a choice whose first is p where the test passes
pub first_under : {T A : Type 0} (test : T → Bool) (p q : Rule T A) (ends : List T → Type 0) (ts : List T) (x : Answer T A) → leads test ts ≡ true → Under p ts x → Under (choice test p q ends) ts x
first_under test p q ends ts (Read a rest) e u = ap (λ b. cond b (p.read ts) (q.read ts)) e ∙ u
first_under test p q ends ts (Refuse Syntax rest) e u = ap (λ b. cond b (p.read ts) (q.read ts)) e ∙ u
first_under test p q ends ts (Refuse TooDeep rest) e u = record {
  used = u.used;
  token = u.token;
  others = u.others;
  cut = u.cut;
  at = u.at;
  stands = ap (λ b. cond b (p.read (u.used ++ u.token ∷ [])) (q.read (u.used ++ u.token ∷ []))) (leads_cut test ts u.used (u.token ∷ u.others) (u.token ∷ []) u.cut refl ∙ e) ∙ u.stands;
}

pub second_under : {T A : Type 0} (test : T → Bool) (p q : Rule T A) (ends : List T → Type 0) (ts : List T) (x : Answer T A) → leads test ts ≡ false → Under q ts x → Under (choice test p q ends) ts x
second_under test p q ends ts (Read a rest) e u = ap (λ b. cond b (p.read ts) (q.read ts)) e ∙ u
second_under test p q ends ts (Refuse Syntax rest) e u = ap (λ b. cond b (p.read ts) (q.read ts)) e ∙ u
second_under test p q ends ts (Refuse TooDeep rest) e u = record {
  used = u.used;
  token = u.token;
  others = u.others;
  cut = u.cut;
  at = u.at;
  stands = ap (λ b. cond b (p.read (u.used ++ u.token ∷ [])) (q.read (u.used ++ u.token ∷ []))) (leads_cut test ts u.used (u.token ∷ u.others) (u.token ∷ []) u.cut refl ∙ e) ∙ u.stands;
}

pub choice_under_by : {T A : Type 0} (test : T → Bool) (p q : Rule T A) (ends : List T → Type 0) (ts : List T) (x y : Answer T A) → Under p ts x → Under q ts y → (b : Bool) → leads test ts ≡ b → Under (choice test p q ends) ts (cond b x y)
choice_under_by test p q ends ts x y u v true e = first_under test p q ends ts x e u
choice_under_by test p q ends ts x y u v false e = second_under test p q ends ts y e v

pub choice_under : {T A : Type 0} (test : T → Bool) (p q : Rule T A) (ends : List T → Type 0) (ts : List T) (x y : Answer T A) → Under p ts x → Under q ts y → Under (choice test p q ends) ts (cond (leads test ts) x y)
choice_under test p q ends ts x y u v = choice_under_by test p q ends ts x y u v (leads test ts) refl

pub barred_opens : {T A : Type 0} (test : T → Bool) (p q : Rule T A) (ends : List T → Type 0) (ts : List T) → ((t : T) → test t ≡ true → p.read (t ∷ []) ≡ Refuse Syntax []) → leads test ts ≡ true → Opens (choice test p q ends) ts ts
barred_opens test p q ends [] h e = absurd (no e) where
  no : false ≡ true → ⊥
  no e = cc
barred_opens test p q ends (t ∷ ts) h e = record {
  used = [];
  token = t;
  others = ts;
  cut = refl;
  at = refl;
  stands = ap (λ b. cond b (p.read (t ∷ [])) (q.read (t ∷ []))) e ∙ h t e;
}

pub barred_under_by : {T A : Type 0} (test : T → Bool) (p q : Rule T A) (ends : List T → Type 0) (ts : List T) (y : Answer T A) → ((t : T) → test t ≡ true → p.read (t ∷ []) ≡ Refuse Syntax []) → Under q ts y → (b : Bool) → leads test ts ≡ b → Under (choice test p q ends) ts (cond b (Refuse TooDeep ts) y)
barred_under_by test p q ends ts y h v true e = barred_opens test p q ends ts h e
barred_under_by test p q ends ts y h v false e = second_under test p q ends ts y e v

pub barred_under : {T A : Type 0} (test : T → Bool) (p q : Rule T A) (ends : List T → Type 0) (ts : List T) (y : Answer T A) → ((t : T) → test t ≡ true → p.read (t ∷ []) ≡ Refuse Syntax []) → Under q ts y → Under (choice test p q ends) ts (cond (leads test ts) (Refuse TooDeep ts) y)
barred_under test p q ends ts y h v = barred_under_by test p q ends ts y h v (leads test ts) refl

pub taken_under : {T A : Type 0} (f : T → Option A) (t : T) (ts : List T) (o : Option A) → f t ≡ o → Under (one f) (t ∷ ts) (taken o t ts)
taken_under f t ts None e = ap (λ o. taken o t ts) e
taken_under f t ts (Some a) e = ap (λ o. taken o t ts) e

pub one_under : {T A : Type 0} (f : T → Option A) (ts : List T) → Under (one f) ts (one_read f ts)
one_under f [] = refl
one_under f (t ∷ ts) = taken_under f t ts (f t) refl

pub end_under : {T A : Type 0} (a : A) (ts : List T) → Under (end a) ts (end_read a ts)
end_under a [] = refl
end_under a (t ∷ ts) = refl

-- any number
pub tail_under : {T A : Type 0} (test : T → Bool) (p : Rule T A) (ends : List T → Type 0) → Lawful p → (t : T) (ts : List T) (x : Answer T (List A)) → test t ≡ true → Under (tail test p ends) ts x → Under (more test p ends) (t ∷ ts) x
tail_under test p ends l t ts (Read a rest) e u = more_step test p ends l t ts ∙ ap (λ b. cond b ((tail test p ends).read ts) (Read [] (t ∷ ts))) e ∙ u
tail_under test p ends l t ts (Refuse Syntax rest) e u = more_step test p ends l t ts ∙ ap (λ b. cond b ((tail test p ends).read ts) (Read [] (t ∷ ts))) e ∙ u
tail_under test p ends l t ts (Refuse TooDeep rest) e u = record {
  used = t ∷ u.used;
  token = u.token;
  others = u.others;
  cut = ap (λ r. t ∷ r) u.cut;
  at = u.at;
  stands = more_step test p ends l t (u.used ++ u.token ∷ []) ∙ ap (λ b. cond b ((tail test p ends).read (u.used ++ u.token ∷ [])) (Read [] (t ∷ (u.used ++ u.token ∷ [])))) e ∙ u.stands;
}

pub more_under_step : {T A : Type 0} (test : T → Bool) (p : Rule T A) (ends : List T → Type 0) → Lawful p → (t : T) (ts : List T) (x : Answer T (List A)) → Under (tail test p ends) ts x → (b : Bool) → test t ≡ b → Under (more test p ends) (t ∷ ts) (cond b x (Read [] (t ∷ ts)))
more_under_step test p ends l t ts x u true e = tail_under test p ends l t ts x e u
more_under_step test p ends l t ts x u false e = more_stop test p (length (t ∷ ts)) (t ∷ ts) e

-- low has the smaller limit
pub more_under_at : {T A : Type 0} (test : T → Bool) (low p : Rule T A) (ends : List T → Type 0) → Lawful low → Lawful p → ((ts : List T) → Under p ts (low.read ts)) → ((others : List T) → Lawful (more test p ends)) → (n : ℕ) (ts : List T) → length ts ≤ n → Under (more test p ends) ts ((more test low ends).read ts)
more_under_at test low p ends k l h m n [] e = refl
more_under_at test low p ends k l h m zero (t ∷ ts) e = absurd (omega arith)
more_under_at test low p ends k l h m (suc n) (t ∷ ts) e =
    subst (λ x. Under (more test p ends) (t ∷ ts) x) (sym (more_step test low ends k t ts))
    (more_under_step test p ends l t ts ((tail test low ends).read ts)
    (then_under p (λ a. sequence (more test p ends) (λ others. nothing (a ∷ others)) ends) ends ts _ l (low.read ts) (h ts)
    (λ a rest f.
    let s : length rest ≤ length ts = read_shorter low k ts a rest f in
    then_under (more test p ends) (λ others. nothing (a ∷ others)) ends rest _ (m []) ((more test low ends).read rest) (more_under_at test low p ends k l h m n rest (omega arith))
    (λ others end g. refl)))
    (test t) refl)

pub more_under : {T A : Type 0} (test : T → Bool) (low p : Rule T A) (ends : List T → Type 0) → Lawful low → Lawful p → Lawful (more test p ends) → ((ts : List T) → Under p ts (low.read ts)) → (ts : List T) → Under (more test p ends) ts ((more test low ends).read ts)
more_under test low p ends k l m h ts = more_under_at test low p ends k l h (λ others. m) (length ts) ts (omega arith)
