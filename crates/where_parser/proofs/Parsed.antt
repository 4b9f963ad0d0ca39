-- From the answer to the tokens to what is said of the text.
use Rattle.std.proofs.Common.{◌≡◌, ◌<◌, ◌-◌, inl, inr, ℕ, suc, zero, List, length, Bool, true, false, cond, nat_eq, Result, Ok, Err, IfOk, MatchResult, refl, sym, ap, subst, ◌∙◌, arith}
use Rattle.std.proofs.lemmas.Bool.{eqb-true, eq-eqb}
use Rattle.std.proofs.lemmas.Bool.Decides.{nat_tests}
use Rattle.where_lexer.specs.declared.token.Token.{Token}
use Rattle.where_lexer.specs.Lexing.{scanned}
use Rattle.where_parser.specs.declared.expr.Expr as exprs
use Rattle.where_parser.specs.declared.parsing.ParseError.{ParseError}
use Rattle.where_parser.specs.declared.parsing.ParseError.TheVariants as errors
use Rattle.ll_rules.specs.Rules.{Answer, Read, Refuse, Syntax, TooDeep}
use Rattle.where_grammar.specs.Tree.{Tree}
use Rattle.where_grammar.specs.Clause.{tokens_in, IsClauseText}
use Rattle.where_grammar.specs.Meaning.{IsRight, clause_of}
use Rattle.where_grammar.proofs.Lemmas.{exact, whole, one_answer, one_tree}
use Rattle.where_parser.specs.View.{tree_of}
use Rattle.where_parser.specs.Whole.{place_of, IsSyntaxAt, IsDeepAt, IsTreeOf, Faulty, answer_of, Gave}

abbrev pub Stray : List ℕ → ℕ
Stray text = length text - (scanned text).left

abbrev pub Answers : Type 0
Answers = Result Tree ParseError

abbrev pub good : Tree → Answers
good tree = Ok tree

abbrev pub bad : ParseError → Answers
bad error = Err error

-- what each answer says

pub ok_tree : (text : List ℕ) (x : Answer Token Tree) (tree : Tree) → clause_of 64 (tokens_in text) ≡ x → IsRight 64 (tokens_in text) x → answer_of text x ≡ good tree → IsTreeOf text tree
ok_tree text (Read t rest) tree e r k = by (nat_eq (scanned text).left 0) refl k where
  by : (b : Bool) → nat_eq (scanned text).left 0 ≡ b → cond b (good t) (bad (errors.Syntax (Stray text))) ≡ good tree → IsTreeOf text tree
  by true i k = subst (IsTreeOf text) (same k) (record { clause = at; only = λ depth other s. one_tree 64 depth text t other at s }) where
    same : good t ≡ good tree → t ≡ tree
    same k = cc

    at : IsClauseText 64 text t
    at = record { clause = r.spelled; whole = eqb-true (scanned text).left 0 i }
  by false i k = absurd (no k) where
    no : bad (errors.Syntax (Stray text)) ≡ good tree → ⊥
    no k = cc
ok_tree text (Refuse Syntax rest) tree e r k = cc
ok_tree text (Refuse TooDeep rest) tree e r k = cc

pub syntax_at : (text : List ℕ) (x : Answer Token Tree) (place : ℕ) → IsRight 64 (tokens_in text) x → answer_of text x ≡ bad (errors.Syntax place) → IsSyntaxAt text place
syntax_at text (Read t rest) place r k = by (nat_eq (scanned text).left 0) refl k where
  by : (b : Bool) → nat_eq (scanned text).left 0 ≡ b → cond b (good t) (bad (errors.Syntax (Stray text))) ≡ bad (errors.Syntax place) → IsSyntaxAt text place
  by true i k = absurd (no k) where
    no : good t ≡ bad (errors.Syntax place) → ⊥
    no k = cc
  by false i k = inr (t, record { clause = r.spelled; left = some (scanned text).left i; at = same k }) where
    same : bad (errors.Syntax (Stray text)) ≡ bad (errors.Syntax place) → place ≡ Stray text
    same k = cc

    some : (n : ℕ) → nat_eq n 0 ≡ false → 0 < n
    some zero i = cc
    some (suc n) i = omega arith
syntax_at text (Refuse Syntax rest) place r k = inl (rest, record { fault = r; at = same k }) where
  same : bad (errors.Syntax (place_of text rest)) ≡ bad (errors.Syntax place) → place ≡ place_of text rest
  same k = cc
syntax_at text (Refuse TooDeep rest) place r k = cc

pub deep_at : (text : List ℕ) (x : Answer Token Tree) (place : ℕ) → IsRight 64 (tokens_in text) x → answer_of text x ≡ bad (errors.TooDeep place) → IsDeepAt text place
deep_at text (Read t rest) place r k = by (nat_eq (scanned text).left 0) k where
  by : (b : Bool) → cond b (good t) (bad (errors.Syntax (Stray text))) ≡ bad (errors.TooDeep place) → IsDeepAt text place
  by true k = cc
  by false k = cc
deep_at text (Refuse Syntax rest) place r k = cc
deep_at text (Refuse TooDeep rest) place r k = (rest, record { fault = r; at = same k }) where
  same : bad (errors.TooDeep (place_of text rest)) ≡ bad (errors.TooDeep place) → place ≡ place_of text rest
  same k = cc

-- which answer each text has

pub tree_answer : (text : List ℕ) (tree : Tree) → IsClauseText 64 text tree → answer_of text (clause_of 64 (tokens_in text)) ≡ good tree
tree_answer text tree s =
    ap (answer_of text) (whole 64 (tokens_in text) tree s.clause)
    ∙ ap (λ b. cond b (good tree) (bad (errors.Syntax (Stray text)))) (eq-eqb (scanned text).left 0 s.whole)

pub not_zero : (n : ℕ) → nat_eq (suc n) 0 ≡ false
not_zero n = grind (arith, nat_tests)

pub syntax_answer : (text : List ℕ) (place : ℕ) → IsSyntaxAt text place → answer_of text (clause_of 64 (tokens_in text)) ≡ bad (errors.Syntax place)
syntax_answer text place (inl f) = ap (answer_of text) (one_answer 64 (tokens_in text) (Refuse Syntax f.0) f.1.fault) ∙ ap (λ p. failed p) (sym f.1.at) where
  failed : ℕ → Answers
  failed p = bad (errors.Syntax p)
syntax_answer text place (inr f) =
    ap (answer_of text) (whole 64 (tokens_in text) f.0 f.1.clause)
    ∙ ap (λ b. cond b (good f.0) (bad (errors.Syntax (Stray text)))) (more (scanned text).left f.1.left) ∙ ap (λ p. failed p) (sym f.1.at)
  where
    failed : ℕ → Answers
    failed p = bad (errors.Syntax p)

    more : (n : ℕ) → 0 < n → nat_eq n 0 ≡ false
    more zero l = absurd (omega arith)
    more (suc n) l = not_zero n

pub deep_answer : (text : List ℕ) (place : ℕ) → IsDeepAt text place → answer_of text (clause_of 64 (tokens_in text)) ≡ bad (errors.TooDeep place)
deep_answer text place f = ap (answer_of text) (one_answer 64 (tokens_in text) (Refuse TooDeep f.0) f.1.fault) ∙ ap (λ p. failed p) (sym f.1.at) where
  failed : ℕ → Answers
  failed p = bad (errors.TooDeep p)

-- what the answer to each text says

pub tree_said : (text : List ℕ) (tree : Tree) → answer_of text (clause_of 64 (tokens_in text)) ≡ good tree → IsTreeOf text tree
tree_said text tree e = ok_tree text (clause_of 64 (tokens_in text)) tree refl (exact 64 (tokens_in text)) e

pub syntax_said : (text : List ℕ) (place : ℕ) → answer_of text (clause_of 64 (tokens_in text)) ≡ bad (errors.Syntax place) → IsSyntaxAt text place
syntax_said text place e = syntax_at text (clause_of 64 (tokens_in text)) place (exact 64 (tokens_in text)) e

pub deep_said : (text : List ℕ) (place : ℕ) → answer_of text (clause_of 64 (tokens_in text)) ≡ bad (errors.TooDeep place) → IsDeepAt text place
deep_said text place e = deep_at text (clause_of 64 (tokens_in text)) place (exact 64 (tokens_in text)) e

pub memory_not_said : (text : List ℕ) → answer_of text (clause_of 64 (tokens_in text)) ≡ bad errors.OutOfMemory → ⊥
memory_not_said text e = by (clause_of 64 (tokens_in text)) e where
  whole_or_stray : (b : Bool) (tree : Tree) (place : ℕ) → cond b (good tree) (bad (errors.Syntax place)) ≡ bad errors.OutOfMemory → ⊥
  whole_or_stray true tree place k = cc
  whole_or_stray false tree place k = cc

  by : (x : Answer Token Tree) → answer_of text x ≡ bad errors.OutOfMemory → ⊥
  by (Read tree rest) k = whole_or_stray (nat_eq (scanned text).left 0) tree (Stray text) k
  by (Refuse Syntax rest) k = cc
  by (Refuse TooDeep rest) k = cc

-- what was returned

abbrev pub Returned : List ℕ → Result exprs.Expr ParseError → Type 0
Returned text result = Gave result (answer_of text (clause_of 64 (tokens_in text)))

pub tree_clause : (text : List ℕ) (result : Result exprs.Expr ParseError) → Returned text result → IfOk result (λ e. IsTreeOf text (tree_of e))
tree_clause text (Ok e) g = ok_tree text (clause_of 64 (tokens_in text)) (tree_of e) refl (exact 64 (tokens_in text)) g
tree_clause text (Err error) g = tt

pub read_clause : (text : List ℕ) (result : Result exprs.Expr ParseError) → Returned text result → (tree : Tree) → IsClauseText 64 text tree → MatchResult result (λ e. tree_of e ≡ tree) (λ error. error ≡ errors.OutOfMemory)
read_clause text (Ok e) g tree s = same (sym g ∙ tree_answer text tree s) where
  same : good (tree_of e) ≡ good tree → tree_of e ≡ tree
  same k = cc
read_clause text (Err errors.OutOfMemory) g tree s = refl
read_clause text (Err (errors.Syntax place)) g tree s = absurd (no (sym g ∙ tree_answer text tree s)) where
  no : bad (errors.Syntax place) ≡ good tree → ⊥
  no k = cc
read_clause text (Err (errors.TooDeep place)) g tree s = absurd (no (sym g ∙ tree_answer text tree s)) where
  no : bad (errors.TooDeep place) ≡ good tree → ⊥
  no k = cc

pub given_syntax : (text : List ℕ) (place : ℕ) (result : Result exprs.Expr ParseError) → result ≡ Err (errors.Syntax place) → Returned text result → IsSyntaxAt text place
given_syntax text place result e g = syntax_at text (clause_of 64 (tokens_in text)) place (exact 64 (tokens_in text)) (subst (Returned text) e g)

pub given_deep : (text : List ℕ) (place : ℕ) (result : Result exprs.Expr ParseError) → result ≡ Err (errors.TooDeep place) → Returned text result → IsDeepAt text place
given_deep text place result e g = deep_at text (clause_of 64 (tokens_in text)) place (exact 64 (tokens_in text)) (subst (Returned text) e g)

pub faulty : (result : Result exprs.Expr ParseError) (answer : Answers) (error : ParseError) → answer ≡ bad error → Gave result answer → Faulty error result
faulty (Ok e) answer error k g = absurd (no (sym k ∙ g)) where
  no : bad error ≡ good (tree_of e) → ⊥
  no k = cc
faulty (Err errors.OutOfMemory) answer error k g = inr refl
faulty (Err (errors.Syntax place)) answer error k g = inl (same (sym k ∙ g)) where
  same : bad error ≡ bad (errors.Syntax place) → errors.Syntax place ≡ error
  same k = cc
faulty (Err (errors.TooDeep place)) answer error k g = inl (same (sym k ∙ g)) where
  same : bad error ≡ bad (errors.TooDeep place) → errors.TooDeep place ≡ error
  same k = cc

pub syntax_clause : (text : List ℕ) (result : Result exprs.Expr ParseError) → Returned text result → (place : ℕ) → IsSyntaxAt text place → Faulty (errors.Syntax place) result
syntax_clause text result g place s = faulty result (answer_of text (clause_of 64 (tokens_in text))) (errors.Syntax place) (syntax_answer text place s) g

pub deep_clause : (text : List ℕ) (result : Result exprs.Expr ParseError) → Returned text result → (place : ℕ) → IsDeepAt text place → Faulty (errors.TooDeep place) result
deep_clause text result g place s = faulty result (answer_of text (clause_of 64 (tokens_in text))) (errors.TooDeep place) (deep_answer text place s) g
