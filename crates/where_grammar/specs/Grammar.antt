-- The grammar of clauses, over tokens.
use Rattle.std.specs.Prelude.{◌≡◌, ℕ, zero, suc, List, [], ◌∷◌, Bool, true, false, cond, Option, Some, None, pos, neg_ℤ, nat_lt, ◌^◌}
use Rattle.where_lexer.specs.declared.token.CmpOp.{CmpOp}
use Rattle.where_grammar.specs.declared.words.IsTest.{IsTest}
use Rattle.where_grammar.specs.declared.words.IsTest.TheVariants as tests
use Rattle.where_lexer.specs.declared.token.Token.{Token}
use Rattle.where_lexer.specs.declared.token.Token.TheVariants as tokens
use Rattle.where_grammar.specs.Tree.{Tree, AnyOf, AllOf, NotOf, IsOf, DistinctOf, Compared, WithinOf, BetweenOf, LikeOf, NameOf, IntOf, QuotedOf, BoolOf, NullOf, trees}
use Rattle.ll_rules.specs.Rules.{Rule, leads, nothing, sequence, choice, barred, is_some_of, one, end, more}

-- a token without a value of its own
abbrev pub Mark : Type 0
Mark = Unit {0}

abbrev pub an_open : Token → Option Mark
an_open tokens.Open = Some tt
an_open t = None

abbrev pub a_close : Token → Option Mark
a_close tokens.Close = Some tt
a_close t = None

abbrev pub a_comma : Token → Option Mark
a_comma tokens.Comma = Some tt
a_comma t = None

abbrev pub a_minus : Token → Option Mark
a_minus tokens.Minus = Some tt
a_minus t = None

abbrev pub an_and : Token → Option Mark
an_and tokens.And = Some tt
an_and t = None

abbrev pub an_or : Token → Option Mark
an_or tokens.Or = Some tt
an_or t = None

abbrev pub a_not : Token → Option Mark
a_not tokens.Not = Some tt
a_not t = None

abbrev pub an_is : Token → Option Mark
an_is tokens.Is = Some tt
an_is t = None

abbrev pub a_distinct : Token → Option Mark
a_distinct tokens.Distinct = Some tt
a_distinct t = None

abbrev pub a_from : Token → Option Mark
a_from tokens.From = Some tt
a_from t = None

abbrev pub an_in : Token → Option Mark
an_in tokens.In = Some tt
an_in t = None

abbrev pub a_between : Token → Option Mark
a_between tokens.Between = Some tt
a_between t = None

abbrev pub a_like : Token → Option Mark
a_like tokens.Like = Some tt
a_like t = None

abbrev pub an_op : Token → Option CmpOp
an_op (tokens.Compare op) = Some op
an_op t = None

abbrev pub a_test : Token → Option IsTest
a_test tokens.Null = Some tests.Null
a_test tokens.True = Some tests.True
a_test tokens.False = Some tests.False
a_test tokens.Unknown = Some tests.Unknown
a_test t = None

abbrev pub a_pattern : Token → Option (List ℕ)
a_pattern (tokens.Quoted text) = Some text
a_pattern t = None

-- an integer behind a minus sign
abbrev pub a_negative : Token → Option Tree
a_negative (tokens.Digits n) = cond (nat_lt (2 ^ 63) n) None (Some (IntOf (neg_ℤ (pos n))))
a_negative t = None

abbrev pub a_leaf : Token → Option Tree
a_leaf (tokens.Name name) = Some (NameOf name)
a_leaf (tokens.Digits n) = cond (nat_lt n (2 ^ 63)) (Some (IntOf (pos n))) None
a_leaf (tokens.Quoted text) = Some (QuotedOf text)
a_leaf tokens.True = Some (BoolOf true)
a_leaf tokens.False = Some (BoolOf false)
a_leaf tokens.Null = Some NullOf
a_leaf t = None

-- the token has a value
abbrev pub has : {A : Type 0} → (Token → Option A) → Token → Bool
has f t = is_some_of (f t)

abbrev pub either : (Token → Bool) → (Token → Bool) → Token → Bool
either f g t = cond (f t) true (g t)

-- no token here passes the test
abbrev pub Without : (Token → Bool) → List Token → Type 0
Without test rest = leads test rest ≡ false

abbrev pub Whatever : List Token → Type 0
Whatever rest = Unit {0}

-- tokens that go on with a part of each level
abbrev pub begins_range : Token → Bool
begins_range = either (has a_not) (either (has an_in) (either (has a_between) (has a_like)))

abbrev pub goes_cmp : Token → Bool
goes_cmp = either (has an_op) begins_range

abbrev pub goes_is : Token → Bool
goes_is = either (has an_is) goes_cmp

abbrev pub goes_and : Token → Bool
goes_and = either (has an_and) goes_is

abbrev pub goes_or : Token → Bool
goes_or = either (has an_or) goes_and

-- a token, and then the rule
abbrev pub after : {A B : Type 0} → (Token → Option A) → Rule Token B → Rule Token B
after f p = sequence (one f) (λ mark. p) p.ends

-- atom := ( or ) | name | [-] integer | string | TRUE | FALSE | NULL
abbrev pub plain : Rule Token Tree
plain = choice (has a_minus) (after a_minus (one a_negative)) (one a_leaf) Whatever

abbrev pub group : Rule Token Tree → Rule Token Tree
group clause = after an_open (sequence clause (λ tree. after a_close (nothing tree)) Whatever)

-- [NOT]
abbrev pub maybe_not : (List Token → Type 0) → Rule Token Bool
maybe_not ends = choice (has a_not) (after a_not (nothing true)) (nothing false) ends

-- IN ( atom { , atom } )
abbrev pub within : Rule Token Tree → Tree → Bool → Rule Token Tree
within atom left negated =
    after an_in (after an_open (sequence atom (λ first. sequence (more (has a_comma) atom (Without (has a_comma))) (λ others. after a_close (nothing (WithinOf left negated (trees (first ∷ others))))) Whatever) Whatever))

-- BETWEEN atom AND atom
abbrev pub between : Rule Token Tree → Tree → Bool → Rule Token Tree
between atom left negated =
    after a_between (sequence atom (λ low. after an_and (sequence atom (λ high. nothing (BetweenOf left negated low high)) Whatever)) Whatever)

-- LIKE string
abbrev pub like : Tree → Bool → Rule Token Tree
like left negated = after a_like (sequence (one a_pattern) (λ pattern. nothing (LikeOf left negated pattern)) Whatever)

abbrev pub predicate : Rule Token Tree → Tree → Bool → Rule Token Tree
predicate atom left negated = choice (has an_in) (within atom left negated) (choice (has a_between) (between atom left negated) (like left negated) Whatever) Whatever

-- range := atom [ [NOT] IN .. | [NOT] BETWEEN .. | [NOT] LIKE .. ]
abbrev pub range_tail : Rule Token Tree → Tree → Rule Token Tree
range_tail atom left = choice begins_range (sequence (maybe_not (Without (has a_not))) (λ negated. predicate atom left negated) Whatever) (nothing left) (Without begins_range)

abbrev pub range : Rule Token Tree → Rule Token Tree
range atom = sequence atom (λ left. range_tail atom left) (Without begins_range)

-- cmp := range [ op range ]
abbrev pub cmp_tail : Rule Token Tree → Tree → Rule Token Tree
cmp_tail part left = choice (has an_op) (sequence (one an_op) (λ op. sequence part (λ right. nothing (Compared op left right)) part.ends) part.ends) (nothing left) (Without goes_cmp)

abbrev pub cmp : Rule Token Tree → Rule Token Tree
cmp part = sequence part (λ left. cmp_tail part left) (Without goes_cmp)

-- is := cmp [ IS [NOT] ( NULL | TRUE | FALSE | UNKNOWN | DISTINCT FROM cmp ) ]
abbrev pub is_right : Rule Token Tree → Tree → Bool → Rule Token Tree
is_right part left negated = choice (has a_distinct)
    (after a_distinct (after a_from (sequence part (λ right. nothing (DistinctOf left negated right)) part.ends)))
    (sequence (one a_test) (λ test. nothing (IsOf left negated test)) Whatever) (Without goes_cmp)

abbrev pub is_tail : Rule Token Tree → Tree → Rule Token Tree
is_tail part left = choice (has an_is)
    (after an_is (sequence (maybe_not (Without (has a_not))) (λ negated. is_right part left negated) (Without goes_cmp)))
    (nothing left) (Without goes_is)

abbrev pub is : Rule Token Tree → Rule Token Tree
is part = sequence part (λ left. is_tail part left) (Without goes_is)

abbrev pub is_over : Rule Token Tree → Rule Token Tree
is_over atom = is (cmp (range atom))

-- and := not { AND not }, or := and { OR and }
abbrev pub all_of : Tree → List Tree → Tree
all_of first [] = first
all_of first (second ∷ others) = AllOf (trees (first ∷ second ∷ others))

abbrev pub any_of : Tree → List Tree → Tree
any_of first [] = first
any_of first (second ∷ others) = AnyOf (trees (first ∷ second ∷ others))

abbrev pub and : Rule Token Tree → Rule Token Tree
and member = sequence member (λ first. sequence (more (has an_and) member (Without goes_and)) (λ others. nothing (all_of first others)) (Without goes_and)) (Without goes_and)

abbrev pub or : Rule Token Tree → Rule Token Tree
or member = sequence (and member) (λ first. sequence (more (has an_or) (and member) (Without goes_or)) (λ others. nothing (any_of first others)) (Without goes_or)) (Without goes_or)

-- not := NOT not | is, with so many groups and NOT words round each token at most
abbrev pub not_least : Rule Token Tree
not_least = barred (has a_not) (is_over (barred (has an_open) plain))

abbrev pub not_inside : Rule Token Tree → Rule Token Tree
not_inside inner = choice (has a_not) (after a_not (sequence inner (λ tree. nothing (NotOf tree)) (Without goes_is)))
    (is_over (choice (has an_open) (group (or inner)) plain Whatever)) (Without goes_is)

unfoldable pub not : ℕ → Rule Token Tree
not zero = not_least
not (suc depth) = not_inside (not depth)

-- an atom with so many groups inside at most
unfoldable pub atom : ℕ → Rule Token Tree
atom zero = barred (has an_open) plain
atom (suc depth) = choice (has an_open) (group (or (not depth))) plain Whatever

-- a whole clause, nested so deep at most
unfoldable pub clause : ℕ → Rule Token Tree
clause depth = sequence (or (not depth)) (λ tree. end tree) (λ rest. rest ≡ [])
