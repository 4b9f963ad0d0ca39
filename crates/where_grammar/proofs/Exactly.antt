-- Reading is exact.
use Rattle.std.proofs.Common.{◌≡◌, ℕ, zero, suc, ◌+◌, List, [], ◌∷◌, ◌++◌, refl, sym, ap, subst, ◌∙◌, arith, append_assoc}
use Rattle.std.proofs.lemmas.List.{append-nil, append_cancel_right}
use Rattle.where_lexer.specs.declared.token.Token.{Token}
use Rattle.where_grammar.specs.Tree.{Tree}
use Rattle.ll_rules.specs.Rules.{Fault, Syntax, TooDeep, Answer, Read, Refuse, then, end_read}
use Rattle.where_grammar.specs.Grammar.{or, not, clause}
use Rattle.where_grammar.specs.Meaning.{IsClause, CanGoOn, IsStuck, IsRight, clause_of, Exact, Whole}
use Rattle.ll_rules.proofs.Lemmas.{GoodRead, GoodRefuse, Good, Alike, Under}
use Rattle.where_grammar.proofs.GrammarLaws.{clause_lawful}
use Rattle.where_grammar.proofs.GrammarUnder.{clause_over}

pub clause_ends : (depth : ℕ) → (clause depth).ends []
unfolding clause
clause_ends depth = refl

pub whole : Whole
whole depth tokens tree s = ap (λ u. (clause depth).read u) (sym (append-nil tokens)) ∙ (clause_lawful depth).again tokens [] tree s (clause_ends depth)

pub ends_empty : (x : Answer Token Tree) (tree : Tree) (rest : List Token) → then x (λ a r. end_read a r) ≡ Read tree rest → rest ≡ []
ends_empty (Read a []) tree rest e = cc
ends_empty (Read a (t ∷ ts)) tree rest e = cc
ends_empty (Refuse fault r) tree rest e = cc

pub clause_rest : (depth : ℕ) (tokens : List Token) (tree : Tree) (rest : List Token) → clause_of depth tokens ≡ Read tree rest → rest ≡ []
unfolding clause
clause_rest depth tokens tree rest e = ends_empty ((or (not depth)).read tokens) tree rest e

pub spelled : (depth : ℕ) (tokens : List Token) (tree : Tree) (rest : List Token) → clause_of depth tokens ≡ Read tree rest → IsClause depth tokens tree
spelled depth tokens tree rest e =
    let g : GoodRead (clause depth) tokens tree rest = subst (λ x. Good (clause depth) tokens x) e ((clause_lawful depth).good tokens) in
    let cut : tokens ≡ g.used = g.cut ∙ ap (λ r. g.used ++ r) (clause_rest depth tokens tree rest e) ∙ append-nil g.used in
    subst (λ u. (clause depth).spells u tree) (sym cut) g.spelled

pub up_one : (depth : ℕ) (tokens : List Token) (tree : Tree) → IsClause depth tokens tree → IsClause (suc depth) tokens tree
up_one depth tokens tree s =
    let u : Under (clause (suc depth)) tokens (Read tree []) = subst (λ x. Under (clause (suc depth)) tokens x) (whole depth tokens tree s) (clause_over depth tokens) in
    spelled (suc depth) tokens tree [] u

pub raise : (P : ℕ → Type 0) → ((n : ℕ) → P n → P (suc n)) → (m k : ℕ) → P m → P (k + m)
raise P step m zero p = let e : m ≡ zero + m = omega arith in subst P e p
raise P step m (suc k) p = let e : suc (k + m) ≡ suc k + m = omega arith in subst P e (step (k + m) (raise P step m k p))

pub up : (depth more : ℕ) (tokens : List Token) (tree : Tree) → IsClause depth tokens tree → IsClause (more + depth) tokens tree
up depth more tokens tree s = raise (λ n. IsClause n tokens tree) (λ n h. up_one n tokens tree h) depth more s

pub wrong_up : (depth more : ℕ) (tokens rest : List Token) → clause_of depth tokens ≡ Refuse Syntax rest → clause_of (more + depth) tokens ≡ Refuse Syntax rest
wrong_up depth more tokens rest e = raise (λ n. clause_of n tokens ≡ Refuse Syntax rest)
    (λ n h. subst (λ x. Under (clause (suc n)) tokens x) h (clause_over n tokens)) depth more e

-- with what stands before the fault and its token nothing is read
pub refused : (depth : ℕ) (tokens front : List Token) (fault : Fault) (rest : List Token) → clause_of depth tokens ≡ Refuse fault rest → tokens ≡ front ++ rest → (other : List Token) → Alike rest other → (tree : Tree) → ¬ (IsClause depth (front ++ other) tree)
refused depth tokens front fault rest e cut other h tree s =
    let g : GoodRefuse (clause depth) tokens fault rest = subst (λ x. Good (clause depth) tokens x) e ((clause_lawful depth).good tokens) in
    let same : g.used ≡ front = append_cancel_right g.used front rest (sym g.cut ∙ cut) in
    let no : clause_of depth (front ++ other) ≡ Refuse fault other = ap (λ u. clause_of depth (u ++ other)) (sym same) ∙ g.local other h in
    let yes : clause_of depth (front ++ other) ≡ Read tree [] = whole depth (front ++ other) tree s in
    two tree other fault (sym yes ∙ no)
  where
    two : (tree : Tree) (other : List Token) (fault : Fault) → Read tree [] ≡ Refuse fault other → ⊥
    two tree other fault e = cc

pub level : (depth more : ℕ) → more + depth ≡ depth + more
level depth more = omega arith

pub stuck : (depth : ℕ) (tokens front rest : List Token) → clause_of depth tokens ≡ Refuse Syntax rest → tokens ≡ front ++ rest → IsStuck front rest
stuck depth tokens front [] e cut = λ other tree s.
    let high : IsClause (depth + other) front tree = up other depth front tree s in
    refused (depth + other) tokens front Syntax [] (subst (λ n. clause_of n tokens ≡ Refuse Syntax []) (level depth other) (wrong_up depth other tokens [] e)) cut [] tt tree
    (subst (λ u. IsClause (depth + other) u tree) (sym (append-nil front)) high)
stuck depth tokens front (t ∷ rest) e cut = λ other go.
    let high : IsClause (depth + other) (front ++ t ∷ go.0) go.1 = up other depth (front ++ t ∷ go.0) go.1 (subst (λ u. IsClause other u go.1) (append_assoc front (t ∷ []) go.0) go.2) in
    refused (depth + other) tokens front Syntax (t ∷ rest) (subst (λ n. clause_of n tokens ≡ Refuse Syntax (t ∷ rest)) (level depth other) (wrong_up depth other tokens (t ∷ rest) e)) cut (t ∷ go.0) refl go.1 high

pub same_tree : (depth : ℕ) (tokens : List Token) (tree : Tree) → IsClause depth tokens tree → (other : ℕ) (tree' : Tree) → IsClause other tokens tree' → tree' ≡ tree
same_tree depth tokens tree s other tree' s' =
    let a : clause_of (depth + other) tokens ≡ Read tree' [] = whole (depth + other) tokens tree' (up other depth tokens tree' s') in
    let b : clause_of (other + depth) tokens ≡ Read tree [] = whole (other + depth) tokens tree (up depth other tokens tree s) in
    one_value tree' tree [] (sym a ∙ ap (λ n. clause_of n tokens) (level other depth) ∙ b)
  where
    one_value : (x y : Tree) (r : List Token) → Read x r ≡ Read y r → x ≡ y
    one_value x y r e = cc

pub right : (depth : ℕ) (tokens : List Token) (x : Answer Token Tree) → clause_of depth tokens ≡ x → Under (clause (suc depth)) tokens x → IsRight depth tokens x
right depth tokens (Read tree rest) e u = record {
  whole = clause_rest depth tokens tree rest e;
  spelled = spelled depth tokens tree rest e;
  only = same_tree depth tokens tree (spelled depth tokens tree rest e);
}
right depth tokens (Refuse Syntax rest) e u =
    let g : GoodRefuse (clause depth) tokens Syntax rest = subst (λ x. Good (clause depth) tokens x) e ((clause_lawful depth).good tokens) in
    record {
      front = g.used;
      cut = g.cut;
      goes = g.viable;
      stuck = stuck depth tokens g.used rest e g.cut;
    }
right depth tokens (Refuse TooDeep rest) e u =
    let g : GoodRefuse (clause depth) tokens TooDeep rest = subst (λ x. Good (clause depth) tokens x) e ((clause_lawful depth).good tokens) in
    let cut : tokens ≡ g.used ++ u.token ∷ u.others = g.cut ∙ ap (λ r. g.used ++ r) u.at in
    let same : u.used ≡ g.used = append_cancel_right u.used g.used (u.token ∷ u.others) (sym u.cut ∙ cut) in
    let above : GoodRefuse (clause (suc depth)) (u.used ++ u.token ∷ []) Syntax [] = subst (λ x. Good (clause (suc depth)) (u.used ++ u.token ∷ []) x) u.stands ((clause_lawful (suc depth)).good (u.used ++ u.token ∷ [])) in
    let reach : u.used ++ u.token ∷ [] ≡ above.used = above.cut ∙ append-nil above.used in
    let deeper : CanGoOn (suc depth) (u.used ++ u.token ∷ []) = subst (λ v. CanGoOn (suc depth) v) (sym reach) above.viable in
    let e' : clause_of depth tokens ≡ Refuse TooDeep (u.token ∷ u.others) = e ∙ ap (λ r. Refuse TooDeep r) u.at in
    record {
      front = g.used;
      opening = u.token;
      others = u.others;
      cut = cut;
      at = u.at;
      goes = g.viable;
      passes = λ go. refused depth tokens g.used TooDeep (u.token ∷ u.others) e' cut (u.token ∷ go.0) refl go.1 (subst (λ v. IsClause depth v go.1) (append_assoc g.used (u.token ∷ []) go.0) go.2);
      deeper = subst (λ v. CanGoOn (suc depth) (v ++ u.token ∷ [])) same deeper;
    }

pub exact : Exact
exact depth tokens = right depth tokens (clause_of depth tokens) refl (clause_over depth tokens)
