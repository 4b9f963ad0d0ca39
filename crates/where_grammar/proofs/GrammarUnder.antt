-- What the grammar reads with one level more.
use Rattle.std.proofs.Common.{◌≡◌, ℕ, zero, suc, List, [], ◌∷◌, Bool, true, false, Option, Some, refl}
use Rattle.where_lexer.specs.declared.token.CmpOp.TheVariants as ops
use Rattle.where_grammar.specs.declared.words.IsTest.TheVariants as tests
use Rattle.where_lexer.specs.declared.token.Token.{Token}
use Rattle.where_lexer.specs.declared.token.Token.TheVariants as tokens
use Rattle.where_grammar.specs.Tree.{Tree, NotOf, IsOf, DistinctOf, Compared, WithinOf, BetweenOf, LikeOf, trees}
use Rattle.ll_rules.specs.Rules.{Syntax, Answer, Refuse, then, one_read, Rule, nothing, sequence, choice, barred, one, end, more}
use Rattle.where_grammar.specs.Grammar.{an_open, a_close, a_comma, a_minus, an_and, an_or, a_not, an_is, a_distinct, a_from, an_in, a_between, a_like, an_op, a_test, a_pattern, a_negative, a_leaf, has, either, Without, Whatever, begins_range, goes_cmp, goes_is, goes_and, after, plain, group, maybe_not, within, between, like, predicate, range_tail, range, cmp_tail, cmp, is_right, is_tail, is_over, all_of, any_of, and, or, not, clause}
use Rattle.ll_rules.proofs.Lemmas.{Lawful, one_lawful, more_lawful, Under, then_under, choice_under, barred_under, one_under, end_under, more_under}
use Rattle.where_grammar.proofs.GrammarLaws.{Always, Apart, without_both, compared, distinct, tested, asked, negation, atom_over, maybe_not_lawful, range_lawful, cmp_lawful, members_lawful, and_is, or_and, atom_over_lawful, not_ends, not_lawful, or_not_lawful, least_atom_lawful}

-- p has the larger limit
abbrev pub Over : {A : Type 0} → Rule Token A → Rule Token A → Type 0
Over p low = (ts : List Token) → Under p ts (low.read ts)

pub sequence_over : {A B : Type 0} (p low : Rule Token A) (q under : A → Rule Token B) (ends ends' : List Token → Type 0) → Lawful p → Over p low → ((a : A) → Over (q a) (under a)) → Over (sequence p q ends) (sequence low under ends')
sequence_over p low q under ends ends' l h k ts = then_under p q ends ts (λ a rest. (under a).read rest) l (low.read ts) (h ts) (λ a rest e. k a rest)

pub choice_over : {A : Type 0} (test : Token → Bool) (p lowp q lowq : Rule Token A) (ends ends' : List Token → Type 0) → Over p lowp → Over q lowq → Over (choice test p q ends) (choice test lowp lowq ends')
choice_over test p lowp q lowq ends ends' h k ts = choice_under test p q ends ts (lowp.read ts) (lowq.read ts) (h ts) (k ts)

pub nothing_over : {A : Type 0} (a : A) → Over (nothing a) (nothing a)
nothing_over a ts = refl

-- of the lower rule only how it reads matters
pub after_over : {A B : Type 0} (f : Token → Option A) (t : Token) (a : A) → f t ≡ Some a → (p : Rule Token B) (low : List Token → Answer Token B) → ((ts : List Token) → Under p ts (low ts)) → (ts : List Token) → Under (after f p) ts (then (one_read f ts) (λ mark rest. low rest))
after_over f t a e p low h ts = then_under (one f) (λ mark. p) p.ends ts (λ mark rest. low rest) (one_lawful f t a e) (one_read f ts) (one_under f ts) (λ mark rest g. h rest)

pub made_over : {A B : Type 0} (p low : Rule Token A) (f : A → B) (ends ends' : List Token → Type 0) → Lawful p → Over p low → Over (sequence p (λ a. nothing (f a)) ends) (sequence low (λ a. nothing (f a)) ends')
made_over p low f ends ends' l h = sequence_over p low (λ a. nothing (f a)) (λ a. nothing (f a)) ends ends' l h (λ a. nothing_over (f a))

pub plain_over : Over plain plain
plain_over = choice_over (has a_minus) (after a_minus (one a_negative)) (after a_minus (one a_negative)) (one a_leaf) (one a_leaf) Whatever Whatever
    (after_over a_minus tokens.Minus tt refl (one a_negative) _ (one_under a_negative)) (one_under a_leaf)

pub maybe_not_over : Over (maybe_not (Without (has a_not))) (maybe_not (Without (has a_not)))
maybe_not_over = choice_over (has a_not) (after a_not (nothing true)) (after a_not (nothing true)) (nothing false) (nothing false) (Without (has a_not)) (Without (has a_not))
    (after_over a_not tokens.Not tt refl (nothing true) _ (nothing_over true)) (nothing_over false)

module _ (atom low : Rule Token Tree) (l : Lawful atom) (k : Lawful low) (every : Always atom) (low_every : Always low) (h : Over atom low) where
  commas : Lawful (more (has a_comma) atom (Without (has a_comma)))
  commas = more_lawful (has a_comma) atom (Without (has a_comma)) l (λ rest e. e) (λ rest e. every rest) (λ t rest e. every (t ∷ rest))

  within_over : (left : Tree) (negated : Bool) → Over (within atom left negated) (within low left negated)
  within_over left negated =
      after_over an_in tokens.In tt refl _ _ (after_over an_open tokens.Open tt refl _ _
      (sequence_over atom low
      (λ first. sequence (more (has a_comma) atom (Without (has a_comma))) (λ others. after a_close (nothing (WithinOf left negated (trees (first ∷ others))))) Whatever)
      (λ first. sequence (more (has a_comma) low (Without (has a_comma))) (λ others. after a_close (nothing (WithinOf left negated (trees (first ∷ others))))) Whatever)
      Whatever Whatever l h
      (λ first. sequence_over (more (has a_comma) atom (Without (has a_comma))) (more (has a_comma) low (Without (has a_comma)))
      (λ others. after a_close (nothing (WithinOf left negated (trees (first ∷ others)))))
      (λ others. after a_close (nothing (WithinOf left negated (trees (first ∷ others)))))
      Whatever Whatever commas (more_under (has a_comma) low atom (Without (has a_comma)) k l commas h)
      (λ others. after_over a_close tokens.Close tt refl (nothing (WithinOf left negated (trees (first ∷ others)))) _ (nothing_over (WithinOf left negated (trees (first ∷ others))))))))

  between_over : (left : Tree) (negated : Bool) → Over (between atom left negated) (between low left negated)
  between_over left negated =
      after_over a_between tokens.Between tt refl _ _
      (sequence_over atom low
      (λ first. after an_and (sequence atom (λ high. nothing (BetweenOf left negated first high)) Whatever))
      (λ first. after an_and (sequence low (λ high. nothing (BetweenOf left negated first high)) Whatever))
      Whatever Whatever l h
      (λ first. after_over an_and tokens.And tt refl _ _ (made_over atom low (λ high. BetweenOf left negated first high) Whatever Whatever l h)))

  like_over : (left : Tree) (negated : Bool) → Over (like left negated) (like left negated)
  like_over left negated = after_over a_like tokens.Like tt refl _ _
      (made_over (one a_pattern) (one a_pattern) (λ pattern. LikeOf left negated pattern) Whatever Whatever (one_lawful a_pattern (tokens.Quoted []) [] refl) (one_under a_pattern))

  predicate_over : (left : Tree) (negated : Bool) → Over (predicate atom left negated) (predicate low left negated)
  predicate_over left negated = choice_over (has an_in) (within atom left negated) (within low left negated)
      (choice (has a_between) (between atom left negated) (like left negated) Whatever)
      (choice (has a_between) (between low left negated) (like left negated) Whatever) Whatever Whatever
      (within_over left negated)
      (choice_over (has a_between) (between atom left negated) (between low left negated) (like left negated) (like left negated) Whatever Whatever (between_over left negated) (like_over left negated))

  range_over : Over (range atom) (range low)
  range_over = sequence_over atom low (λ left. range_tail atom left) (λ left. range_tail low left) (Without begins_range) (Without begins_range) l h
      (λ left. choice_over begins_range
      (sequence (maybe_not (Without (has a_not))) (λ negated. predicate atom left negated) Whatever)
      (sequence (maybe_not (Without (has a_not))) (λ negated. predicate low left negated) Whatever)
      (nothing left) (nothing left) (Without begins_range) (Without begins_range)
      (sequence_over (maybe_not (Without (has a_not))) (maybe_not (Without (has a_not))) (λ negated. predicate atom left negated) (λ negated. predicate low left negated) Whatever Whatever maybe_not_lawful maybe_not_over (λ negated. predicate_over left negated))
      (nothing_over left))

  cmp_over : Over (cmp (range atom)) (cmp (range low))
  cmp_over = sequence_over (range atom) (range low) (λ left. cmp_tail (range atom) left) (λ left. cmp_tail (range low) left) (Without goes_cmp) (Without goes_cmp) (range_lawful atom l every) range_over
      (λ left. choice_over (has an_op) (compared (range atom) left) (compared (range low) left) (nothing left) (nothing left) (Without goes_cmp) (Without goes_cmp)
      (sequence_over (one an_op) (one an_op)
      (λ op. sequence (range atom) (λ right. nothing (Compared op left right)) (Without begins_range))
      (λ op. sequence (range low) (λ right. nothing (Compared op left right)) (Without begins_range))
      (Without begins_range) (Without begins_range) (one_lawful an_op (tokens.Compare ops.Eq) ops.Eq refl) (one_under an_op)
      (λ op. made_over (range atom) (range low) (λ right. Compared op left right) (Without begins_range) (Without begins_range) (range_lawful atom l every) range_over))
      (nothing_over left))

  is_right_over : (left : Tree) (negated : Bool) → Over (is_right (cmp (range atom)) left negated) (is_right (cmp (range low)) left negated)
  is_right_over left negated = choice_over (has a_distinct) (distinct (cmp (range atom)) left negated) (distinct (cmp (range low)) left negated) (tested left negated) (tested left negated) (Without goes_cmp) (Without goes_cmp)
      (after_over a_distinct tokens.Distinct tt refl _ _ (after_over a_from tokens.From tt refl _ _
      (made_over (cmp (range atom)) (cmp (range low)) (λ right. DistinctOf left negated right) (Without goes_cmp) (Without goes_cmp) (cmp_lawful atom l every) cmp_over)))
      (made_over (one a_test) (one a_test) (λ test. IsOf left negated test) Whatever Whatever (one_lawful a_test tokens.Null tests.Null refl) (one_under a_test))

  is_over_over : Over (is_over atom) (is_over low)
  is_over_over = sequence_over (cmp (range atom)) (cmp (range low)) (λ left. is_tail (cmp (range atom)) left) (λ left. is_tail (cmp (range low)) left) (Without goes_is) (Without goes_is) (cmp_lawful atom l every) cmp_over
      (λ left. choice_over (has an_is) (asked (cmp (range atom)) left) (asked (cmp (range low)) left) (nothing left) (nothing left) (Without goes_is) (Without goes_is)
      (after_over an_is tokens.Is tt refl _ _
      (sequence_over (maybe_not (Without (has a_not))) (maybe_not (Without (has a_not))) (λ negated. is_right (cmp (range atom)) left negated) (λ negated. is_right (cmp (range low)) left negated) (Without goes_cmp) (Without goes_cmp) maybe_not_lawful maybe_not_over (λ negated. is_right_over left negated)))
      (nothing_over left))

pub members_over : (word low_goes : Token → Bool) (member low : Rule Token Tree) (f : Tree → List Tree → Tree) → Apart word low_goes → Lawful member → Lawful low → ((rest : List Token) → Without low_goes rest → member.ends rest) → Over member low
    → Over (sequence member (λ first. sequence (more word member (Without (either word low_goes))) (λ others. nothing (f first others)) (Without (either word low_goes))) (Without (either word low_goes)))
    (sequence low (λ first. sequence (more word low (Without (either word low_goes))) (λ others. nothing (f first others)) (Without (either word low_goes))) (Without (either word low_goes)))
members_over word goes member low f apart l k h o =
    sequence_over member low
    (λ first. sequence (more word member (Without (either word goes))) (λ others. nothing (f first others)) (Without (either word goes)))
    (λ first. sequence (more word low (Without (either word goes))) (λ others. nothing (f first others)) (Without (either word goes)))
    (Without (either word goes)) (Without (either word goes)) l o
    (λ first. made_over (more word member (Without (either word goes))) (more word low (Without (either word goes))) (λ others. f first others) (Without (either word goes)) (Without (either word goes)) members
    (more_under word low member (Without (either word goes)) k l members o))
  where
    members : Lawful (more word member (Without (either word goes)))
    members = more_lawful word member (Without (either word goes)) l
        (λ rest e. (without_both word goes rest e).0)
        (λ rest e. h rest (without_both word goes rest e).1)
        (λ t rest e. h (t ∷ rest) (apart t e))

pub or_over : (member low : Rule Token Tree) → Lawful member → Lawful low → ((rest : List Token) → Without goes_is rest → member.ends rest) → ((rest : List Token) → Without goes_is rest → low.ends rest) → Over member low → Over (or member) (or low)
or_over member low l k h i o = members_over (has an_or) goes_and (and member) (and low) any_of or_and
    (members_lawful (has an_and) goes_is member all_of and_is l h) (members_lawful (has an_and) goes_is low all_of and_is k i) (λ rest e. e)
    (members_over (has an_and) goes_is member low all_of and_is l k h o)

pub not_at_end : (depth : ℕ) → (not depth).read [] ≡ Refuse Syntax []
unfolding not
not_at_end zero = refl
not_at_end (suc depth) = refl

pub or_at_end : (depth : ℕ) → (or (not depth)).read [] ≡ Refuse Syntax []
or_at_end depth = rw (not_at_end depth) refl

pub opens_group : (depth : ℕ) (t : Token) → has an_open t ≡ true → (group (or (not depth))).read (t ∷ []) ≡ Refuse Syntax []
opens_group depth tokens.Open e = rw (not_at_end depth) refl
opens_group depth t e = absurd (no e) where
  no : false ≡ true → ⊥
  no e = cc

pub opens_not : (depth : ℕ) (t : Token) → has a_not t ≡ true → (negation (not depth)).read (t ∷ []) ≡ Refuse Syntax []
opens_not depth tokens.Not e = rw (not_at_end depth) refl
opens_not depth t e = absurd (no e) where
  no : false ≡ true → ⊥
  no e = cc

pub group_over : (depth : ℕ) → Over (or (not (suc depth))) (or (not depth)) → Over (group (or (not (suc depth)))) (group (or (not depth)))
group_over depth h = after_over an_open tokens.Open tt refl _ _
    (sequence_over (or (not (suc depth))) (or (not depth)) (λ tree. after a_close (nothing tree)) (λ tree. after a_close (nothing tree)) Whatever Whatever (or_not_lawful (suc depth)) h
    (λ tree. after_over a_close tokens.Close tt refl (nothing tree) _ (nothing_over tree)))

pub not_over : (depth : ℕ) → Over (not (suc depth)) (not depth)
unfolding not
not_over zero = λ ts. barred_under (has a_not) (negation (not zero)) (is_over (atom_over (not zero))) (Without goes_is) ts ((is_over (barred (has an_open) plain)).read ts) (opens_not zero)
    (is_over_over (atom_over (not zero)) (barred (has an_open) plain) (atom_over_lawful (not zero) (not_lawful zero) (not_ends zero)) least_atom_lawful (λ rest. tt) (λ rest. tt)
    (λ us. barred_under (has an_open) (group (or (not zero))) plain Whatever us (plain.read us) (opens_group zero) (plain_over us)) ts)
not_over (suc depth) = choice_over (has a_not) (negation (not (suc depth))) (negation (not depth)) (is_over (atom_over (not (suc depth)))) (is_over (atom_over (not depth))) (Without goes_is) (Without goes_is)
    (after_over a_not tokens.Not tt refl _ _ (made_over (not (suc depth)) (not depth) (λ tree. NotOf tree) (Without goes_is) (Without goes_is) (not_lawful (suc depth)) (not_over depth)))
    (is_over_over (atom_over (not (suc depth))) (atom_over (not depth)) (atom_over_lawful (not (suc depth)) (not_lawful (suc depth)) (not_ends (suc depth))) (atom_over_lawful (not depth) (not_lawful depth) (not_ends depth)) (λ rest. tt) (λ rest. tt)
    (choice_over (has an_open) (group (or (not (suc depth)))) (group (or (not depth))) plain plain Whatever Whatever
    (group_over depth (or_over (not (suc depth)) (not depth) (not_lawful (suc depth)) (not_lawful depth) (not_ends (suc depth)) (not_ends depth) (not_over depth)))
    plain_over))

pub clause_over : (depth : ℕ) → Over (clause (suc depth)) (clause depth)
unfolding clause
clause_over depth = sequence_over (or (not (suc depth))) (or (not depth)) (λ tree. end tree) (λ tree. end tree) (λ rest. rest ≡ []) (λ rest. rest ≡ []) (or_not_lawful (suc depth))
    (or_over (not (suc depth)) (not depth) (not_lawful (suc depth)) (not_lawful depth) (not_ends (suc depth)) (not_ends depth) (not_over depth))
    (λ tree. end_under tree)
