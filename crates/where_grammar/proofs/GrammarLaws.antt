-- The rules of the grammar are lawful.
use Rattle.std.proofs.Common.{◌≡◌, ℕ, zero, suc, List, [], ◌∷◌, ◌++◌, Bool, true, false, cond, inl, inr, Option, Some, refl, sym, ap, subst, ◌∙◌}
use Rattle.std.proofs.lemmas.List.{append-nil}
use Rattle.where_lexer.specs.declared.token.CmpOp.TheVariants as ops
use Rattle.where_grammar.specs.declared.words.IsTest.TheVariants as tests
use Rattle.where_lexer.specs.declared.token.Token.{Token}
use Rattle.where_lexer.specs.declared.token.Token.TheVariants as tokens
use Rattle.where_grammar.specs.Tree.{Tree, NotOf, IsOf, DistinctOf, Compared, WithinOf, BetweenOf, LikeOf, NullOf, trees}
use Rattle.ll_rules.specs.Rules.{Rule, leads, nothing, sequence, choice, barred, is_some_of, one, end, more, more_spells}
use Rattle.where_grammar.specs.Grammar.{an_open, a_close, a_comma, a_minus, an_and, an_or, a_not, an_is, a_distinct, a_from, an_in, a_between, a_like, an_op, a_test, a_pattern, a_negative, a_leaf, has, either, Without, Whatever, begins_range, goes_cmp, goes_is, goes_and, goes_or, after, plain, group, maybe_not, within, between, like, predicate, range_tail, range, cmp_tail, cmp, is_right, is_tail, is, is_over, all_of, any_of, and, or, not_least, not_inside, not, clause}
use Rattle.ll_rules.proofs.Lemmas.{Lawful, leads_front, sequence_lawful, nothing_lawful, choice_lawful, barred_lawful, one_lawful, end_lawful, more_lawful}

-- each text of the rule begins with a token that passes the test
abbrev pub Begins : {A : Type 0} → Rule Token A → (Token → Bool) → Type 0
Begins {A = A} p test = (used : List Token) (a : A) → p.spells used a → leads test used ≡ true

abbrev pub Apart : (Token → Bool) → (Token → Bool) → Type 0
Apart f g = (t : Token) → f t ≡ true → g t ≡ false

pub without : (f g : Token → Bool) → Apart f g → (used rest : List Token) → leads f used ≡ true → Without g (used ++ rest)
without f g h [] rest e = absurd (no e) where
  no : false ≡ true → ⊥
  no e = cc
without f g h (t ∷ ts) rest e = h t e

pub either_false : (b c : Bool) → cond b true c ≡ false → (b ≡ false) × (c ≡ false)
either_false true c e = absurd (no e) where
  no : true ≡ false → ⊥
  no e = cc
either_false false c e = (refl, e)

pub without_both : (f g : Token → Bool) (rest : List Token) → Without (either f g) rest → Without f rest × Without g rest
without_both f g [] e = (refl, refl)
without_both f g (t ∷ ts) e = either_false (f t) (g t) e

pub either_first : (f g : Token → Bool) (ts : List Token) → leads f ts ≡ true → leads (either f g) ts ≡ true
either_first f g [] e = e
either_first f g (t ∷ ts) e = ap (λ b. cond b true (g t)) e

pub true_or : (b : Bool) → cond b true true ≡ true
true_or true = refl
true_or false = refl

pub either_second : (f g : Token → Bool) (ts : List Token) → leads g ts ≡ true → leads (either f g) ts ≡ true
either_second f g [] e = e
either_second f g (t ∷ ts) e = ap (λ b. cond (f t) true b) e ∙ true_or (f t)

pub apart_either : (f g h : Token → Bool) → Apart f h → Apart g h → Apart (either f g) h
apart_either f g h p q t e = by (f t) refl e where
  by : (b : Bool) → f t ≡ b → cond b true (g t) ≡ true → h t ≡ false
  by true i e = p t i
  by false i e = q t e

pub sequence_begins : {A B : Type 0} (p : Rule Token A) (q : A → Rule Token B) (ends : List Token → Type 0) (test : Token → Bool) → Begins p test → Begins (sequence p q ends) test
sequence_begins p q ends test h used b s = ap (leads test) s.3 ∙ leads_front test s.0 s.1 (h s.0 s.2 s.4)

pub one_begins : {A : Type 0} (f : Token → Option A) → Begins (one f) (has f)
one_begins f used a s = ap (leads (has f)) s.1 ∙ ap is_some_of s.2

pub after_begins : {A B : Type 0} (f : Token → Option A) (p : Rule Token B) → Begins (after f p) (has f)
after_begins f p = sequence_begins (one f) (λ mark. p) p.ends (has f) (one_begins f)

pub choice_begins : {A : Type 0} (test : Token → Bool) (p q : Rule Token A) (ends : List Token → Type 0) (f g : Token → Bool) → Begins p f → Begins q g → Begins (choice test p q ends) (either f g)
choice_begins test p q ends f g bp bq used a (inl s) = either_first f g used (bp used a s)
choice_begins test p q ends f g bp bq used a (inr s) = either_second f g used (bq used a s)

pub after_lawful : {A B : Type 0} (f : Token → Option A) (t : Token) (a : A) → f t ≡ Some a → (p : Rule Token B) → Lawful p → Lawful (after f p)
after_lawful f t a e p l = sequence_lawful (one f) (λ mark. p) p.ends (one_lawful f t a e) (λ mark. l) (λ mark second rest b s h. tt) (λ mark rest h. h)

-- a rule, and then a value made of what it read
pub made_lawful : {A B : Type 0} (p : Rule Token A) (f : A → B) (ends : List Token → Type 0) → Lawful p → ((rest : List Token) → ends rest → p.ends rest) → Lawful (sequence p (λ a. nothing (f a)) ends)
made_lawful p f ends l h = sequence_lawful p (λ a. nothing (f a)) ends l (λ a. nothing_lawful (f a))
    (λ a second rest b s e. subst (λ u. p.ends (u ++ rest)) (sym s.0) (h rest e)) (λ a rest e. tt)

pub more_meets : {A : Type 0} (test : Token → Bool) (p : Rule Token A) (P : List Token → Type 0) (rest : List Token) → P rest → ((t : Token) (r : List Token) → test t ≡ true → P (t ∷ r)) → (all : List A) (second : List Token) → more_spells test p.spells second all → P (second ++ rest)
more_meets test p P rest h k [] second s = subst (λ u. P (u ++ rest)) (sym s) h
more_meets test p P rest h k (b ∷ bs) second s = subst (λ u. P (u ++ rest)) (sym s.3) (k s.0 ((s.1 ++ s.2) ++ rest) s.4)

-- any number, and then a value made of them
pub made_meets : {A B : Type 0} (test : Token → Bool) (p : Rule Token A) (ends ends' : List Token → Type 0) (f : List A → B) (P : List Token → Type 0) (rest second : List Token) (b : B) → P rest → ((t : Token) (r : List Token) → test t ≡ true → P (t ∷ r)) → (sequence (more test p ends) (λ all. nothing (f all)) ends').spells second b → P (second ++ rest)
made_meets test p ends ends' f P rest second b h k s =
    let e : second ≡ s.0 = s.3 ∙ ap (λ u. s.0 ++ u) s.5.0 ∙ append-nil s.0 in
    subst (λ u. P (u ++ rest)) (sym e) (more_meets test p P rest h k s.2 s.0 s.4)

-- atoms

abbrev begins_plain : Token → Bool
begins_plain = either (has a_minus) (has a_leaf)

pub leaf_minus : Apart (has a_leaf) (has a_minus)
leaf_minus tokens.Minus e = cc
leaf_minus t e = refl

pub plain_lawful : Lawful plain
plain_lawful = choice_lawful (has a_minus) (after a_minus (one a_negative)) (one a_leaf) Whatever
    (after_lawful a_minus tokens.Minus tt refl (one a_negative) (one_lawful a_negative (tokens.Digits 0) _ refl))
    (one_lawful a_leaf tokens.Null NullOf refl)
    (after_begins a_minus (one a_negative))
    (λ used rest a s e. without (has a_leaf) (has a_minus) leaf_minus used rest (one_begins a_leaf used a s))
    (λ rest e. tt) (λ rest e. tt)

pub plain_begins : Begins plain (either (has a_minus) (has a_leaf))
plain_begins = choice_begins (has a_minus) (after a_minus (one a_negative)) (one a_leaf) Whatever (has a_minus) (has a_leaf) (after_begins a_minus (one a_negative)) (one_begins a_leaf)

pub plain_open : Apart (either (has a_minus) (has a_leaf)) (has an_open)
plain_open tokens.Open e = cc
plain_open t e = refl

pub close_or : Apart (has a_close) goes_or
close_or tokens.Close e = refl
close_or t e = absurd (no e) where
  no : false ≡ true → ⊥
  no e = cc

pub group_lawful : (inner : Rule Token Tree) → Lawful inner → ((rest : List Token) → Without goes_or rest → inner.ends rest) → Lawful (group inner)
group_lawful inner l h = after_lawful an_open tokens.Open tt refl (sequence inner (λ tree. after a_close (nothing tree)) Whatever)
    (sequence_lawful inner (λ tree. after a_close (nothing tree)) Whatever l (λ tree. after_lawful a_close tokens.Close tt refl (nothing tree) (nothing_lawful tree))
    (λ tree second rest b s e. h (second ++ rest) (without (has a_close) goes_or close_or second rest (after_begins a_close (nothing tree) second b s)))
    (λ tree rest e. tt))

-- ranges

pub not_nothing : (used rest : List Token) (test : Token → Bool) → used ≡ [] → Without test rest → Without test (used ++ rest)
not_nothing used rest test e h = ap (λ u. leads test (u ++ rest)) e ∙ h

pub maybe_not_lawful : Lawful (maybe_not (Without (has a_not)))
maybe_not_lawful = choice_lawful (has a_not) (after a_not (nothing true)) (nothing false) (Without (has a_not))
    (after_lawful a_not tokens.Not tt refl (nothing true) (nothing_lawful true)) (nothing_lawful false)
    (after_begins a_not (nothing true))
    (λ used rest a s e. not_nothing used rest (has a_not) s.0 e)
    (λ rest e. tt) (λ rest e. tt)

pub close_comma : Apart (has a_close) (has a_comma)
close_comma tokens.Comma e = cc
close_comma t e = refl

abbrev pub Always : {A : Type 0} → Rule Token A → Type 0
Always p = (rest : List Token) → p.ends rest

pub listed_lawful : (atom : Rule Token Tree) (left : Tree) (negated : Bool) → Lawful atom → Always atom → (first : Tree) → Lawful (sequence (more (has a_comma) atom (Without (has a_comma))) (λ others. after a_close (nothing (WithinOf left negated (trees (first ∷ others))))) Whatever)
listed_lawful atom left negated l h first =
    sequence_lawful (more (has a_comma) atom (Without (has a_comma))) (λ others. after a_close (nothing (WithinOf left negated (trees (first ∷ others))))) Whatever
    (more_lawful (has a_comma) atom (Without (has a_comma)) l (λ rest e. e) (λ rest e. h rest) (λ t rest e. h (t ∷ rest)))
    (λ others. after_lawful a_close tokens.Close tt refl (nothing (WithinOf left negated (trees (first ∷ others)))) (nothing_lawful (WithinOf left negated (trees (first ∷ others)))))
    (λ others second rest b s e. without (has a_close) (has a_comma) close_comma second rest (after_begins a_close (nothing (WithinOf left negated (trees (first ∷ others)))) second b s))
    (λ others rest e. tt)

pub within_lawful : (atom : Rule Token Tree) (left : Tree) (negated : Bool) → Lawful atom → Always atom → Lawful (within atom left negated)
within_lawful atom left negated l h = after_lawful an_in tokens.In tt refl _ (after_lawful an_open tokens.Open tt refl _
    (sequence_lawful atom (λ first. sequence (more (has a_comma) atom (Without (has a_comma))) (λ others. after a_close (nothing (WithinOf left negated (trees (first ∷ others))))) Whatever) Whatever
    l (listed_lawful atom left negated l h) (λ first second rest b s e. h (second ++ rest)) (λ first rest e. tt)))

pub between_lawful : (atom : Rule Token Tree) (left : Tree) (negated : Bool) → Lawful atom → Always atom → Lawful (between atom left negated)
between_lawful atom left negated l h = after_lawful a_between tokens.Between tt refl _
    (sequence_lawful atom (λ low. after an_and (sequence atom (λ high. nothing (BetweenOf left negated low high)) Whatever)) Whatever l
    (λ low. after_lawful an_and tokens.And tt refl _ (made_lawful atom (λ high. BetweenOf left negated low high) Whatever l (λ rest e. h rest)))
    (λ low second rest b s e. h (second ++ rest)) (λ low rest e. tt))

pub like_lawful : (left : Tree) (negated : Bool) → Lawful (like left negated)
like_lawful left negated = after_lawful a_like tokens.Like tt refl _
    (made_lawful (one a_pattern) (λ pattern. LikeOf left negated pattern) Whatever (one_lawful a_pattern (tokens.Quoted []) [] refl) (λ rest e. tt))

pub like_between : Apart (has a_like) (has a_between)
like_between tokens.Between e = cc
like_between t e = refl

abbrev pub begins_predicate : Token → Bool
begins_predicate = either (has an_in) (either (has a_between) (has a_like))

pub other_in : Apart (either (has a_between) (has a_like)) (has an_in)
other_in tokens.In e = cc
other_in t e = refl

pub within_begins : (atom : Rule Token Tree) (left : Tree) (negated : Bool) → Begins (within atom left negated) (has an_in)
within_begins atom left negated used b s = ap (leads (has an_in)) s.3 ∙ leads_front (has an_in) s.0 s.1 (one_begins an_in s.0 s.2 s.4)

pub between_begins : (atom : Rule Token Tree) (left : Tree) (negated : Bool) → Begins (between atom left negated) (has a_between)
between_begins atom left negated used b s = ap (leads (has a_between)) s.3 ∙ leads_front (has a_between) s.0 s.1 (one_begins a_between s.0 s.2 s.4)

pub like_begins : (left : Tree) (negated : Bool) → Begins (like left negated) (has a_like)
like_begins left negated used b s = ap (leads (has a_like)) s.3 ∙ leads_front (has a_like) s.0 s.1 (one_begins a_like s.0 s.2 s.4)

pub second_begins : (atom : Rule Token Tree) (left : Tree) (negated : Bool) → Begins (choice (has a_between) (between atom left negated) (like left negated) Whatever) (either (has a_between) (has a_like))
second_begins atom left negated = choice_begins (has a_between) (between atom left negated) (like left negated) Whatever (has a_between) (has a_like) (between_begins atom left negated) (like_begins left negated)

pub predicate_begins : (atom : Rule Token Tree) (left : Tree) (negated : Bool) → Begins (predicate atom left negated) begins_predicate
predicate_begins atom left negated = choice_begins (has an_in) (within atom left negated) (choice (has a_between) (between atom left negated) (like left negated) Whatever) Whatever (has an_in) (either (has a_between) (has a_like)) (within_begins atom left negated) (second_begins atom left negated)

pub predicate_lawful : (atom : Rule Token Tree) (left : Tree) (negated : Bool) → Lawful atom → Always atom → Lawful (predicate atom left negated)
predicate_lawful atom left negated l h = choice_lawful (has an_in) (within atom left negated) (choice (has a_between) (between atom left negated) (like left negated) Whatever) Whatever
    (within_lawful atom left negated l h)
    (choice_lawful (has a_between) (between atom left negated) (like left negated) Whatever (between_lawful atom left negated l h) (like_lawful left negated)
    (between_begins atom left negated)
    (λ used rest a s e. without (has a_like) (has a_between) like_between used rest (like_begins left negated used a s))
    (λ rest e. tt) (λ rest e. tt))
    (within_begins atom left negated)
    (λ used rest a s e. without (either (has a_between) (has a_like)) (has an_in) other_in used rest (second_begins atom left negated used a s))
    (λ rest e. tt) (λ rest e. tt)

pub predicate_not : Apart begins_predicate (has a_not)
predicate_not tokens.Not e = cc
predicate_not t e = refl

-- a rule after an optional NOT
pub after_maybe_begins : {A : Type 0} (q : Bool → Rule Token A) (ends : List Token → Type 0) (test : Token → Bool) → ((negated : Bool) → Begins (q negated) test) → Begins (sequence (maybe_not (Without (has a_not))) q ends) (either (has a_not) test)
after_maybe_begins q ends test h used b s = by s.4 where
  by : (maybe_not (Without (has a_not))).spells s.0 s.2 → leads (either (has a_not) test) used ≡ true
  by (inl x) = ap (leads (either (has a_not) test)) s.3 ∙ leads_front (either (has a_not) test) s.0 s.1 (either_first (has a_not) test s.0 (after_begins a_not (nothing true) s.0 s.2 x))
  by (inr x) = ap (leads (either (has a_not) test)) (s.3 ∙ ap (λ u. u ++ s.1) x.0) ∙ either_second (has a_not) test s.1 (h s.2 s.1 b s.5)

pub after_maybe_lawful : {A : Type 0} (q : Bool → Rule Token A) (ends : List Token → Type 0) (test : Token → Bool) → ((negated : Bool) → Lawful (q negated)) → ((negated : Bool) → Begins (q negated) test) → Apart test (has a_not) → ((negated : Bool) (rest : List Token) → ends rest → (q negated).ends rest) → Lawful (sequence (maybe_not (Without (has a_not))) q ends)
after_maybe_lawful q ends test l h apart k = sequence_lawful (maybe_not (Without (has a_not))) q ends maybe_not_lawful l
    (λ negated second rest b s e. without test (has a_not) apart second rest (h negated second b s)) k

-- a tail that may be left out
pub tail_lawful : {A : Type 0} (test : Token → Bool) (p : Rule Token A) (a : A) (ends : List Token → Type 0) → Lawful p → Begins p test → ((rest : List Token) → ends rest → Without test rest) → ((rest : List Token) → ends rest → p.ends rest) → Lawful (choice test p (nothing a) ends)
tail_lawful test p a ends l b h k = choice_lawful test p (nothing a) ends l (nothing_lawful a) b
    (λ used rest x s e. not_nothing used rest test s.0 (h rest e)) k (λ rest e. tt)

-- what a tail that may be left out begins with does not go on with what stands before it
pub tail_meets : {A : Type 0} (test goes : Token → Bool) (p : Rule Token A) (a : A) (ends : List Token → Type 0) → Begins p test → Apart test goes → ((rest : List Token) → ends rest → Without goes rest) → (second rest : List Token) (b : A) → (choice test p (nothing a) ends).spells second b → ends rest → Without goes (second ++ rest)
tail_meets test goes p a ends h apart k second rest b (inl s) e = without test goes apart second rest (h second b s)
tail_meets test goes p a ends h apart k second rest b (inr s) e = not_nothing second rest goes s.0 (k rest e)

pub range_part_begins : (atom : Rule Token Tree) (left : Tree) → Begins (sequence (maybe_not (Without (has a_not))) (λ negated. predicate atom left negated) Whatever) begins_range
range_part_begins atom left = after_maybe_begins (λ negated. predicate atom left negated) Whatever begins_predicate (λ negated. predicate_begins atom left negated)

pub range_tail_lawful : (atom : Rule Token Tree) (left : Tree) → Lawful atom → Always atom → Lawful (range_tail atom left)
range_tail_lawful atom left l h = tail_lawful begins_range (sequence (maybe_not (Without (has a_not))) (λ negated. predicate atom left negated) Whatever) left (Without begins_range)
    (after_maybe_lawful (λ negated. predicate atom left negated) Whatever begins_predicate (λ negated. predicate_lawful atom left negated l h) (λ negated. predicate_begins atom left negated) predicate_not (λ negated rest e. tt))
    (range_part_begins atom left) (λ rest e. e) (λ rest e. tt)

pub range_lawful : (atom : Rule Token Tree) → Lawful atom → Always atom → Lawful (range atom)
range_lawful atom l h = sequence_lawful atom (λ left. range_tail atom left) (Without begins_range) l (λ left. range_tail_lawful atom left l h)
    (λ left second rest b s e. h (second ++ rest)) (λ left rest e. e)

-- comparisons

abbrev pub compared : Rule Token Tree → Tree → Rule Token Tree
compared part left = sequence (one an_op) (λ op. sequence part (λ right. nothing (Compared op left right)) part.ends) part.ends

pub compared_lawful : (part : Rule Token Tree) (left : Tree) → Lawful part → Lawful (compared part left)
compared_lawful part left l = sequence_lawful (one an_op) (λ op. sequence part (λ right. nothing (Compared op left right)) part.ends) part.ends
    (one_lawful an_op (tokens.Compare ops.Eq) ops.Eq refl) (λ op. made_lawful part (λ right. Compared op left right) part.ends l (λ rest e. e))
    (λ op second rest b s e. tt) (λ op rest e. e)

pub compared_begins : (part : Rule Token Tree) (left : Tree) → Begins (compared part left) (has an_op)
compared_begins part left used b s = ap (leads (has an_op)) s.3 ∙ leads_front (has an_op) s.0 s.1 (one_begins an_op s.0 s.2 s.4)

pub op_range : Apart (has an_op) begins_range
op_range (tokens.Compare op) e = refl
op_range t e = absurd (no e) where
  no : false ≡ true → ⊥
  no e = cc

pub cmp_lawful : (atom : Rule Token Tree) → Lawful atom → Always atom → Lawful (cmp (range atom))
cmp_lawful atom l h = sequence_lawful (range atom) (λ left. cmp_tail (range atom) left) (Without goes_cmp) (range_lawful atom l h)
    (λ left. tail_lawful (has an_op) (compared (range atom) left) left (Without goes_cmp) (compared_lawful (range atom) left (range_lawful atom l h)) (compared_begins (range atom) left)
    (λ rest e. (without_both (has an_op) begins_range rest e).0) (λ rest e. (without_both (has an_op) begins_range rest e).1))
    (λ left second rest b s e. tail_meets (has an_op) begins_range (compared (range atom) left) left (Without goes_cmp) (compared_begins (range atom) left) op_range (λ r f. (without_both (has an_op) begins_range r f).1) second rest b s e)
    (λ left rest e. e)

-- IS

abbrev pub distinct : Rule Token Tree → Tree → Bool → Rule Token Tree
distinct part left negated = after a_distinct (after a_from (sequence part (λ right. nothing (DistinctOf left negated right)) part.ends))

abbrev pub tested : Tree → Bool → Rule Token Tree
tested left negated = sequence (one a_test) (λ test. nothing (IsOf left negated test)) Whatever

pub distinct_begins : (part : Rule Token Tree) (left : Tree) (negated : Bool) → Begins (distinct part left negated) (has a_distinct)
distinct_begins part left negated used b s = ap (leads (has a_distinct)) s.3 ∙ leads_front (has a_distinct) s.0 s.1 (one_begins a_distinct s.0 s.2 s.4)

pub tested_begins : (left : Tree) (negated : Bool) → Begins (tested left negated) (has a_test)
tested_begins left negated used b s = ap (leads (has a_test)) s.3 ∙ leads_front (has a_test) s.0 s.1 (one_begins a_test s.0 s.2 s.4)

pub test_distinct : Apart (has a_test) (has a_distinct)
test_distinct tokens.Distinct e = cc
test_distinct t e = refl

pub is_right_lawful : (part : Rule Token Tree) (left : Tree) (negated : Bool) → Lawful part → ((rest : List Token) → Without goes_cmp rest → part.ends rest) → Lawful (is_right part left negated)
is_right_lawful part left negated l h = choice_lawful (has a_distinct) (distinct part left negated) (tested left negated) (Without goes_cmp)
    (after_lawful a_distinct tokens.Distinct tt refl _ (after_lawful a_from tokens.From tt refl _ (made_lawful part (λ right. DistinctOf left negated right) part.ends l (λ rest e. e))))
    (made_lawful (one a_test) (λ test. IsOf left negated test) Whatever (one_lawful a_test tokens.Null tests.Null refl) (λ rest e. tt))
    (distinct_begins part left negated)
    (λ used rest a s e. without (has a_test) (has a_distinct) test_distinct used rest (tested_begins left negated used a s))
    h (λ rest e. tt)

abbrev pub begins_right : Token → Bool
begins_right = either (has a_distinct) (has a_test)

pub right_begins : (part : Rule Token Tree) (left : Tree) (negated : Bool) → Begins (is_right part left negated) begins_right
right_begins part left negated = choice_begins (has a_distinct) (distinct part left negated) (tested left negated) (Without goes_cmp) (has a_distinct) (has a_test) (distinct_begins part left negated) (tested_begins left negated)

pub right_not : Apart begins_right (has a_not)
right_not tokens.Not e = cc
right_not t e = refl

abbrev pub asked : Rule Token Tree → Tree → Rule Token Tree
asked part left = after an_is (sequence (maybe_not (Without (has a_not))) (λ negated. is_right part left negated) (Without goes_cmp))

pub asked_begins : (part : Rule Token Tree) (left : Tree) → Begins (asked part left) (has an_is)
asked_begins part left used b s = ap (leads (has an_is)) s.3 ∙ leads_front (has an_is) s.0 s.1 (one_begins an_is s.0 s.2 s.4)

pub is_cmp : Apart (has an_is) goes_cmp
is_cmp tokens.Is e = refl
is_cmp t e = absurd (no e) where
  no : false ≡ true → ⊥
  no e = cc

pub is_lawful : (part : Rule Token Tree) → Lawful part → ((rest : List Token) → Without goes_cmp rest → part.ends rest) → Lawful (is part)
is_lawful part l h = sequence_lawful part (λ left. is_tail part left) (Without goes_is) l
    (λ left. tail_lawful (has an_is) (asked part left) left (Without goes_is)
    (after_lawful an_is tokens.Is tt refl _ (after_maybe_lawful (λ negated. is_right part left negated) (Without goes_cmp) begins_right (λ negated. is_right_lawful part left negated l h) (λ negated. right_begins part left negated) right_not (λ negated rest e. e)))
    (asked_begins part left)
    (λ rest e. (without_both (has an_is) goes_cmp rest e).0) (λ rest e. (without_both (has an_is) goes_cmp rest e).1))
    (λ left second rest b s e. h (second ++ rest) (tail_meets (has an_is) goes_cmp (asked part left) left (Without goes_is) (asked_begins part left) is_cmp (λ r f. (without_both (has an_is) goes_cmp r f).1) second rest b s e))
    (λ left rest e. e)

pub is_over_lawful : (atom : Rule Token Tree) → Lawful atom → Always atom → Lawful (is_over atom)
is_over_lawful atom l h = is_lawful (cmp (range atom)) (cmp_lawful atom l h) (λ rest e. e)

pub is_over_begins : (atom : Rule Token Tree) (test : Token → Bool) → Begins atom test → Begins (is_over atom) test
is_over_begins atom test h = sequence_begins (cmp (range atom)) (λ left. is_tail (cmp (range atom)) left) (Without goes_is) test
    (sequence_begins (range atom) (λ left. cmp_tail (range atom) left) (Without goes_cmp) test
    (sequence_begins atom (λ left. range_tail atom left) (Without begins_range) test h))

-- AND and OR

pub and_is : Apart (has an_and) goes_is
and_is tokens.And e = refl
and_is t e = absurd (no e) where
  no : false ≡ true → ⊥
  no e = cc

pub or_and : Apart (has an_or) goes_and
or_and tokens.Or e = refl
or_and t e = absurd (no e) where
  no : false ≡ true → ⊥
  no e = cc

-- a member, and others behind a word
pub members_lawful : (word low : Token → Bool) (member : Rule Token Tree) (f : Tree → List Tree → Tree) → Apart word low → Lawful member → ((rest : List Token) → Without low rest → member.ends rest)
    → Lawful (sequence member (λ first. sequence (more word member (Without (either word low))) (λ others. nothing (f first others)) (Without (either word low))) (Without (either word low)))
members_lawful word low member f apart l h =
    sequence_lawful member (λ first. sequence (more word member (Without (either word low))) (λ others. nothing (f first others)) (Without (either word low))) (Without (either word low)) l
    (λ first. made_lawful (more word member (Without (either word low))) (λ others. f first others) (Without (either word low))
    (more_lawful word member (Without (either word low)) l
    (λ rest e. (without_both word low rest e).0)
    (λ rest e. h rest (without_both word low rest e).1)
    (λ t rest e. h (t ∷ rest) (apart t e)))
    (λ rest e. e))
    (λ first second rest b s e. made_meets word member (Without (either word low)) (Without (either word low)) (λ others. f first others) member.ends rest second b
    (h rest (without_both word low rest e).1) (λ t r k. h (t ∷ r) (apart t k)) s)
    (λ first rest e. e)

pub or_lawful : (member : Rule Token Tree) → Lawful member → ((rest : List Token) → Without goes_is rest → member.ends rest) → Lawful (or member)
or_lawful member l h = members_lawful (has an_or) goes_and (and member) any_of or_and (members_lawful (has an_and) goes_is member all_of and_is l h) (λ rest e. e)

-- NOT, and the whole

pub least_begins : Begins (barred (has an_open) plain) (either (has a_minus) (has a_leaf))
least_begins = plain_begins

pub plain_not : Apart (either (has a_minus) (has a_leaf)) (has a_not)
plain_not tokens.Not e = cc
plain_not t e = refl

pub least_atom_lawful : Lawful (barred (has an_open) plain)
least_atom_lawful = barred_lawful (has an_open) plain plain_lawful
    (λ used rest a s e. without (either (has a_minus) (has a_leaf)) (has an_open) plain_open used rest (plain_begins used a s))

pub not_least_lawful : Lawful not_least
not_least_lawful = barred_lawful (has a_not) (is_over (barred (has an_open) plain)) (is_over_lawful (barred (has an_open) plain) least_atom_lawful (λ rest. tt))
    (λ used rest a s e. without (either (has a_minus) (has a_leaf)) (has a_not) plain_not used rest (is_over_begins (barred (has an_open) plain) (either (has a_minus) (has a_leaf)) least_begins used a s))

abbrev pub atom_over : Rule Token Tree → Rule Token Tree
atom_over inner = choice (has an_open) (group (or inner)) plain Whatever

abbrev pub begins_atom : Token → Bool
begins_atom = either (has an_open) (either (has a_minus) (has a_leaf))

pub group_begins : (clause : Rule Token Tree) → Begins (group clause) (has an_open)
group_begins clause used b s = ap (leads (has an_open)) s.3 ∙ leads_front (has an_open) s.0 s.1 (one_begins an_open s.0 s.2 s.4)

pub atom_over_lawful : (inner : Rule Token Tree) → Lawful inner → ((rest : List Token) → Without goes_is rest → inner.ends rest) → Lawful (atom_over inner)
atom_over_lawful inner l h = choice_lawful (has an_open) (group (or inner)) plain Whatever (group_lawful (or inner) (or_lawful inner l h) (λ rest e. e)) plain_lawful
    (group_begins (or inner))
    (λ used rest a s e. without (either (has a_minus) (has a_leaf)) (has an_open) plain_open used rest (plain_begins used a s))
    (λ rest e. tt) (λ rest e. tt)

pub atom_over_begins : (inner : Rule Token Tree) → Begins (atom_over inner) begins_atom
atom_over_begins inner = choice_begins (has an_open) (group (or inner)) plain Whatever (has an_open) (either (has a_minus) (has a_leaf)) (group_begins (or inner)) plain_begins

pub atom_not : Apart begins_atom (has a_not)
atom_not tokens.Not e = cc
atom_not t e = refl

abbrev pub negation : Rule Token Tree → Rule Token Tree
negation inner = after a_not (sequence inner (λ tree. nothing (NotOf tree)) (Without goes_is))

pub negation_begins : (inner : Rule Token Tree) → Begins (negation inner) (has a_not)
negation_begins inner used b s = ap (leads (has a_not)) s.3 ∙ leads_front (has a_not) s.0 s.1 (one_begins a_not s.0 s.2 s.4)

pub not_inside_lawful : (inner : Rule Token Tree) → Lawful inner → ((rest : List Token) → Without goes_is rest → inner.ends rest) → Lawful (not_inside inner)
not_inside_lawful inner l h = choice_lawful (has a_not) (negation inner) (is_over (atom_over inner)) (Without goes_is)
    (after_lawful a_not tokens.Not tt refl _ (made_lawful inner (λ tree. NotOf tree) (Without goes_is) l h))
    (is_over_lawful (atom_over inner) (atom_over_lawful inner l h) (λ rest. tt))
    (negation_begins inner)
    (λ used rest a s e. without begins_atom (has a_not) atom_not used rest (is_over_begins (atom_over inner) begins_atom (atom_over_begins inner) used a s))
    (λ rest e. e) (λ rest e. e)

pub not_ends : (depth : ℕ) (rest : List Token) → Without goes_is rest → (not depth).ends rest
unfolding not
not_ends zero rest e = e
not_ends (suc depth) rest e = e

pub not_lawful : (depth : ℕ) → Lawful (not depth)
unfolding not
not_lawful zero = not_least_lawful
not_lawful (suc depth) = not_inside_lawful (not depth) (not_lawful depth) (not_ends depth)

pub or_not_lawful : (depth : ℕ) → Lawful (or (not depth))
or_not_lawful depth = or_lawful (not depth) (not_lawful depth) (not_ends depth)

pub clause_lawful : (depth : ℕ) → Lawful (clause depth)
unfolding clause
clause_lawful depth = sequence_lawful (or (not depth)) (λ tree. end tree) (λ rest. rest ≡ []) (or_not_lawful depth) (λ tree. end_lawful tree)
    (λ tree second rest b s e. ap (leads goes_or) (ap (λ u. u ++ rest) s.0 ∙ e)) (λ tree rest e. e)
