-- A list of tokens has one right answer.
use Rattle.std.proofs.Common.{◌≡◌, ℕ, suc, List, [], ◌∷◌, ◌++◌, refl, sym, ap, subst, ◌∙◌, append_assoc}
use Rattle.std.proofs.lemmas.List.{append-nil}
use Rattle.where_lexer.specs.declared.token.Token.{Token}
use Rattle.where_grammar.specs.Tree.{Tree}
use Rattle.ll_rules.specs.Rules.{Syntax, TooDeep, Answer, Read, Refuse}
use Rattle.where_grammar.specs.Meaning.{IsClause, CanGoOn, IsStuck, IsSyntaxFault, IsDepthFault, IsRight, clause_of, OneAnswer}
use Rattle.where_grammar.proofs.Exactly.{exact, whole}

-- how two ways to cut one list lie
pub data Cuts (a b c d : List Token) : Type 0 where
  same : a ≡ c → b ≡ d → Cuts a b c d
  before : (t : Token) (m r : List Token) → b ≡ t ∷ r → c ≡ a ++ t ∷ m → Cuts a b c d
  behind : (t : Token) (m r : List Token) → d ≡ t ∷ r → a ≡ c ++ t ∷ m → Cuts a b c d

pub longer : (t u : Token) (a b c d : List Token) → t ≡ u → Cuts a b c d → Cuts (t ∷ a) b (u ∷ c) d
longer t u a b c d e (same p q) = same (ap (λ x. x ∷ a) e ∙ ap (λ r. u ∷ r) p) q
longer t u a b c d e (before v m r p q) = before v m r p (ap (λ r. u ∷ r) q ∙ ap (λ x. x ∷ (a ++ v ∷ m)) (sym e))
longer t u a b c d e (behind v m r p q) = behind v m r p (ap (λ r. t ∷ r) q ∙ ap (λ x. x ∷ (c ++ v ∷ m)) e)

pub cuts : (a b c d : List Token) → a ++ b ≡ c ++ d → Cuts a b c d
cuts [] b [] d e = same refl e
cuts [] b (u ∷ c) d e = before u c (c ++ d) e refl
cuts (t ∷ a) b [] d e = behind t a (a ++ b) (sym e) refl
cuts (t ∷ a) b (u ∷ c) d e = longer t u a b c d (heads e) (cuts a b c d (tails e)) where
  heads : t ∷ (a ++ b) ≡ u ∷ (c ++ d) → t ≡ u
  heads e = cc

  tails : t ∷ (a ++ b) ≡ u ∷ (c ++ d) → a ++ b ≡ c ++ d
  tails e = cc

-- where more goes on, less does
pub goes_front : (depth : ℕ) (a m : List Token) (t : Token) → CanGoOn depth (a ++ t ∷ m) → CanGoOn depth (a ++ t ∷ [])
goes_front depth a m t go = (m ++ go.0, go.1, subst (λ u. IsClause depth u go.1) (append_assoc a (t ∷ m) go.0 ∙ sym (append_assoc a (t ∷ []) (m ++ go.0))) go.2)

pub goes_at : (depth : ℕ) (a m c : List Token) (t : Token) → c ≡ a ++ t ∷ m → CanGoOn depth c → CanGoOn depth (a ++ t ∷ [])
goes_at depth a m c t e go = goes_front depth a m t (subst (λ u. CanGoOn depth u) e go)

pub whole_goes : (depth : ℕ) (tokens : List Token) (tree : Tree) → IsClause depth tokens tree → CanGoOn depth tokens
whole_goes depth tokens tree s = ([], tree, subst (λ u. IsClause depth u tree) (sym (append-nil tokens)) s)

pub not_stuck : (depth : ℕ) (front rest : List Token) (t : Token) (r : List Token) → rest ≡ t ∷ r → IsStuck front rest → ¬ (CanGoOn depth (front ++ t ∷ []))
not_stuck depth front rest t r e s = subst (λ x. IsStuck front x) e s depth

pub stuck_whole : (depth : ℕ) (tokens front rest : List Token) (tree : Tree) → tokens ≡ front ++ rest → IsStuck front rest → ¬ (IsClause depth tokens tree)
stuck_whole depth tokens front [] tree cut s = λ k. s depth tree (subst (λ u. IsClause depth u tree) (cut ∙ append-nil front) k)
stuck_whole depth tokens front (t ∷ rest) tree cut s = λ k. s depth (goes_at depth front rest tokens t cut (whole_goes depth tokens tree k))

pub one_syntax : (depth : ℕ) (tokens rest rest' : List Token) → IsSyntaxFault depth tokens rest → IsSyntaxFault depth tokens rest' → rest ≡ rest'
one_syntax depth tokens rest rest' f g = by (cuts f.front rest g.front rest' (sym f.cut ∙ g.cut)) where
  by : Cuts f.front rest g.front rest' → rest ≡ rest'
  by (same p q) = q
  by (before t m r p q) = absurd (not_stuck depth f.front rest t r p f.stuck (goes_at depth f.front m g.front t q g.goes))
  by (behind t m r p q) = absurd (not_stuck depth g.front rest' t r p g.stuck (goes_at depth g.front m f.front t q f.goes))

pub first_token : (t u : Token) (r s : List Token) → t ∷ r ≡ u ∷ s → t ≡ u
first_token t u r s e = cc

pub never_both : (depth : ℕ) (tokens rest rest' : List Token) → IsSyntaxFault depth tokens rest → IsDepthFault depth tokens rest' → ⊥
never_both depth tokens rest rest' f g = by (cuts f.front rest g.front (g.opening ∷ g.others) (sym f.cut ∙ g.cut)) where
  by : Cuts f.front rest g.front (g.opening ∷ g.others) → ⊥
  by (same p q) = not_stuck (suc depth) f.front rest g.opening g.others q f.stuck (subst (λ u. CanGoOn (suc depth) (u ++ g.opening ∷ [])) (sym p) g.deeper)
  by (before t m r p q) = not_stuck depth f.front rest t r p f.stuck (goes_at depth f.front m g.front t q g.goes)
  by (behind t m r p q) = g.passes (goes_at depth g.front m f.front g.opening (q ∙ ap (λ x. g.front ++ x ∷ m) (sym (first_token g.opening t g.others r p))) f.goes)

pub one_deep : (depth : ℕ) (tokens rest rest' : List Token) → IsDepthFault depth tokens rest → IsDepthFault depth tokens rest' → rest ≡ rest'
one_deep depth tokens rest rest' f g = by (cuts f.front (f.opening ∷ f.others) g.front (g.opening ∷ g.others) (sym f.cut ∙ g.cut)) where
  by : Cuts f.front (f.opening ∷ f.others) g.front (g.opening ∷ g.others) → rest ≡ rest'
  by (same p q) = f.at ∙ q ∙ sym g.at
  by (before t m r p q) = absurd (f.passes (goes_at depth f.front m g.front f.opening (q ∙ ap (λ x. f.front ++ x ∷ m) (sym (first_token f.opening t f.others r p))) g.goes))
  by (behind t m r p q) = absurd (g.passes (goes_at depth g.front m f.front g.opening (q ∙ ap (λ x. g.front ++ x ∷ m) (sym (first_token g.opening t g.others r p))) f.goes))

pub deep_whole : (depth : ℕ) (tokens rest : List Token) (tree : Tree) → IsDepthFault depth tokens rest → ¬ (IsClause depth tokens tree)
deep_whole depth tokens rest tree f = λ k. f.passes (goes_at depth f.front f.others tokens f.opening f.cut (whole_goes depth tokens tree k))

pub syntax_found : (depth : ℕ) (tokens rest : List Token) → IsSyntaxFault depth tokens rest → (x : Answer Token Tree) → IsRight depth tokens x → x ≡ Refuse Syntax rest
syntax_found depth tokens rest f (Read tree end) r = absurd (stuck_whole depth tokens f.front rest tree f.cut f.stuck r.spelled)
syntax_found depth tokens rest f (Refuse Syntax end) r = ap (λ u. Refuse Syntax u) (one_syntax depth tokens end rest r f)
syntax_found depth tokens rest f (Refuse TooDeep end) r = absurd (never_both depth tokens rest end f r)

pub deep_found : (depth : ℕ) (tokens rest : List Token) → IsDepthFault depth tokens rest → (x : Answer Token Tree) → IsRight depth tokens x → x ≡ Refuse TooDeep rest
deep_found depth tokens rest f (Read tree end) r = absurd (deep_whole depth tokens rest tree f r.spelled)
deep_found depth tokens rest f (Refuse Syntax end) r = absurd (never_both depth tokens end rest r f)
deep_found depth tokens rest f (Refuse TooDeep end) r = ap (λ u. Refuse TooDeep u) (one_deep depth tokens end rest r f)

pub one_answer : OneAnswer
one_answer depth tokens (Read tree rest) r = whole depth tokens tree r.spelled ∙ ap (λ u. Read tree u) (sym r.whole)
one_answer depth tokens (Refuse Syntax rest) r = syntax_found depth tokens rest r (clause_of depth tokens) (exact depth tokens)
one_answer depth tokens (Refuse TooDeep rest) r = deep_found depth tokens rest r (clause_of depth tokens) (exact depth tokens)
