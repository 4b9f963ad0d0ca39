-- Key values and key texts.
use Rattle.std.proofs.Common.{◌≡◌, ℕ, suc, ◌+◌, ◌<◌, ◌≤◌, Bool, true, false, List, [], ◌∷◌, ◌++◌, length, map, take, drop, get_or, refl, sym, ◌∙◌, ap, subst, arith, add-one, append_assoc, Option, None, Some, min, ◌&&◌, ◌||◌, ◌==◌}
use Rattle.std.proofs.lemmas.Bool.{false_from_ne_true, or_from, or_right}
use Rattle.std.specs.Prelude.{nat_le}
use Rattle.std.specs.Option.{MatchOption}
use Rattle.std.specs.List.{list_any, flat_map, slice_index_or, AllByRecursion}
use Rattle.std.specs.Str.{IsUtf8}
use Rattle.std.proofs.Math.Seq.{take-suc, drop-cons}
use Rattle.std.proofs.lemmas.Bool.Decides.{nat_tests, Decides-eqb}
use Rattle.std.proofs.lemmas.List.Folds.{flat_map-map}
use Rattle.std.proofs.lemmas.Str.{IsUtf8-append, IsUtf8-from_ascii}
use Rattle.std.proofs.lemmas.Str.Ascii.{IsAscii-nil, IsAscii-cons}
use Rattle.shape_base.specs.declared.value.Value.{Value}
use Rattle.shape_base.specs.declared.value.Value.TheVariants.{Null}
use Rattle.shape_base.specs.Tables.{Values, is_null, lacks_key, key_values, same_row, same_text}
use Rattle.shape_base.specs.Shape.{Knows, IsTest, IsLeast, quoted, words_of, key_text}
use Rattle.shape_base.proofs.Lemmas.{Decides-same_text, Decides-same_row, IsUtf8-quoted, key_texts_tell, all_key_texts_tell}
use Rattle.change_map.specs.Keys.{is_null_key, AreParts, parts_of, parts_text, TellsKey}
use Rattle.change_map.proofs.Places.{some_key}

-- ---- the least key column that is null

abbrev pub IsNullKey : List ℕ → Values → Option ℕ → Type 0
IsNullKey key row o = MatchOption o (lacks_key key row ≡ false) (λ column. (lacks_key key row ≡ true) × IsLeast (is_null_key key row) column)

last : (b : Bool) → (b || false) ≡ b
last true = refl
last false = refl

turn : (a b c : Bool) → (a || (b || c)) ≡ ((a || b) || c)
turn true b c = refl
turn false b c = refl

any_none : (b c : Bool) → (b || c) ≡ false → (b ≡ false) × (c ≡ false)
any_none true c h = cc
any_none false c h = (refl, h)

lacks_more : (key : List ℕ) (row : Values) (p : ℕ) → lacks_key (key ++ p ∷ []) row ≡ (lacks_key key row || is_null (slice_index_or row p Null))
lacks_more [] row p = last (is_null (slice_index_or row p Null))
lacks_more (q ∷ key) row p = ap (λ b. is_null (slice_index_or row q Null) || b) (lacks_more key row p) ∙ turn (is_null (slice_index_or row q Null)) (lacks_key key row) (is_null (slice_index_or row p Null))

any_more : (key : List ℕ) (m p : ℕ) → list_any (λ q. q == m) (key ++ p ∷ []) ≡ (list_any (λ q. q == m) key || (p == m))
any_more [] m p = last (p == m)
any_more (q ∷ key) m p = ap (λ b. (q == m) || b) (any_more key m p) ∙ turn (q == m) (list_any (λ r. r == m) key) (p == m)

-- a column that was none before is the new one
none_more : (a b n : Bool) → (a && n) ≡ false → (b && n) ≡ false → ((a || b) && n) ≡ false
none_more true b n h k = h
none_more false b n h k = k

some_more : (a b n : Bool) → (a && n) ≡ true → ((a || b) && n) ≡ true
some_more true b n h = h
some_more false b n h = cc

some_new : (a b n : Bool) → b ≡ true → n ≡ true → ((a || b) && n) ≡ true
some_new true b n h k = k
some_new false b n h k = rw h k

-- no key column is null, so each that is null is none
given_step : (m q : ℕ) (n : Bool) (row : Values) (b : Bool) (rest : Bool) → (q == m) ≡ b → is_null (slice_index_or row q Null) ≡ false → (rest && is_null (slice_index_or row m Null)) ≡ false → ((b || rest) && is_null (slice_index_or row m Null)) ≡ false
given_step m q n row true rest e h k = subst (λ x. is_null (slice_index_or row x Null) ≡ false) ((Decides-eqb q m).0 e) h
given_step m q n row false rest e h k = k

given_none : (key : List ℕ) (row : Values) (m : ℕ) → lacks_key key row ≡ false → is_null_key key row m ≡ false
given_none [] row m h = refl
given_none (q ∷ key) row m h = let both = any_none (is_null (slice_index_or row q Null)) (lacks_key key row) h in given_step m q true row (q == m) (list_any (λ r. r == m) key) refl both.0 (given_none key row m both.1)

-- the last column is not null
other_last : (row : Values) (p m : ℕ) (b : Bool) → (p == m) ≡ b → is_null (slice_index_or row p Null) ≡ false → (b && is_null (slice_index_or row m Null)) ≡ false
other_last row p m true e h = subst (λ x. is_null (slice_index_or row x Null) ≡ false) ((Decides-eqb p m).0 e) h
other_last row p m false e h = refl

-- the last column is another
less_last : (p m : ℕ) (n : Bool) → m < p → ((p == m) && n) ≡ false
less_last p m n lt = rw (false_from_ne_true (p == m) (λ e. let same = (Decides-eqb p m).0 e in absurd (omega (arith, same, lt)))) refl

null_kept : (key : List ℕ) (row : Values) (p : ℕ) (o : Option ℕ) → is_null (slice_index_or row p Null) ≡ false → IsNullKey key row o → IsNullKey (key ++ p ∷ []) row o
null_kept key row p None given h = lacks_more key row p ∙ or_from _ _ h given
null_kept key row p (Some c) given h = (
  lacks_more key row p ∙ rw h.0 refl,
  record {
    passes = ap (λ b. b && is_null (slice_index_or row c Null)) (any_more key c p) ∙ some_more (list_any (λ q. q == c) key) (p == c) _ h.1.passes;
    least = λ m lt. ap (λ b. b && is_null (slice_index_or row m Null)) (any_more key m p) ∙ none_more (list_any (λ q. q == m) key) (p == m) _ (h.1.least m lt) (other_last row p m (p == m) refl given);
  },
)

least_last : (key : List ℕ) (row : Values) (p : ℕ) → is_null (slice_index_or row p Null) ≡ true → ((m : ℕ) → m < p → is_null_key key row m ≡ false) → IsLeast (is_null_key (key ++ p ∷ []) row) p
least_last key row p null before = record {
  passes = ap (λ b. b && is_null (slice_index_or row p Null)) (any_more key p p) ∙ some_new (list_any (λ q. q == p) key) (p == p) _ ((Decides-eqb p p).1 refl) null;
  least = λ m lt. ap (λ b. b && is_null (slice_index_or row m Null)) (any_more key m p) ∙ none_more (list_any (λ q. q == m) key) (p == m) _ (before m lt) (less_last p m (is_null (slice_index_or row m Null)) lt);
}

least_before : (key : List ℕ) (row : Values) (p c : ℕ) → c ≤ p → IsLeast (is_null_key key row) c → IsLeast (is_null_key (key ++ p ∷ []) row) c
least_before key row p c le h = record {
  passes = ap (λ b. b && is_null (slice_index_or row c Null)) (any_more key c p) ∙ some_more (list_any (λ q. q == c) key) (p == c) _ h.passes;
  least = λ m lt. ap (λ b. b && is_null (slice_index_or row m Null)) (any_more key m p) ∙ none_more (list_any (λ q. q == m) key) (p == m) _ (h.least m lt) (less_last p m (is_null (slice_index_or row m Null)) (omega (arith, le, lt)));
}

lesser_of : (key : List ℕ) (row : Values) (p c new : ℕ) (b : Bool) → nat_le p c ≡ b → is_null (slice_index_or row p Null) ≡ true → IsLeast (is_null_key key row) c → new ≡ min p c → IsLeast (is_null_key (key ++ p ∷ []) row) new
lesser_of key row p c new true e null h is = let le : p ≤ c = grind (arith, nat_tests) in let same : new ≡ p = omega (arith, le, is) in subst (λ x. IsLeast (is_null_key (key ++ p ∷ []) row) x) (sym same) (least_last key row p null (λ m lt. h.least m (omega (arith, le, lt))))
lesser_of key row p c new false e null h is = let lt : c < p = grind (arith, nat_tests) in let same : new ≡ c = omega (arith, lt, is) in subst (λ x. IsLeast (is_null_key (key ++ p ∷ []) row) x) (sym same) (least_before key row p c (omega (arith, lt)) h)

null_added : (key : List ℕ) (row : Values) (p : ℕ) (o : Option ℕ) (new : ℕ) → is_null (slice_index_or row p Null) ≡ true → IsNullKey key row o → MatchOption o (new ≡ p) (λ c. new ≡ min p c) → IsNullKey (key ++ p ∷ []) row (Some new)
null_added key row p None new null h is = (lacks_more key row p ∙ or_right _ _ null, subst (λ x. IsLeast (is_null_key (key ++ p ∷ []) row) x) (sym is) (least_last key row p null (λ m lt. given_none key row m h)))
null_added key row p (Some c) new null h is = (lacks_more key row p ∙ or_right _ _ null, lesser_of key row p c new (nat_le p c) refl null h.1 is)

pub null_next : (key : List ℕ) (row : Values) (i d : ℕ) (o : Option ℕ) → i < length key → is_null (slice_index_or row (get_or key i d) Null) ≡ false → IsNullKey (take i key) row o → IsNullKey (take (i + 1) key) row o
null_next key row i d o lt given h = rw add-one (subst (λ ks. IsNullKey ks row o) (sym (take-suc key i d lt)) (null_kept (take i key) row (get_or key i d) o given h))

pub null_taken : (key : List ℕ) (row : Values) (i d : ℕ) (o : Option ℕ) (new : ℕ) → i < length key → is_null (slice_index_or row (get_or key i d) Null) ≡ true → IsNullKey (take i key) row o → MatchOption o (new ≡ get_or key i d) (λ c. new ≡ min (get_or key i d) c) → IsNullKey (take (i + 1) key) row (Some new)
null_taken key row i d o new lt null h is = rw add-one (subst (λ ks. IsNullKey ks row (Some new)) (sym (take-suc key i d lt)) (null_added (take i key) row (get_or key i d) o new null h is))

-- ---- key texts

pub tells_key : (s : Knows) (row : Values) (text : List ℕ) → lacks_key s.key row ≡ false → text ≡ key_text s row → TellsKey s row text
tells_key s row text given is t other there same = all_key_texts_tell s t row other given there (sym is ∙ same)

-- the key text is that of its parts
pub text_of_parts : (s : Knows) (row : Values) → key_text s row ≡ parts_text (parts_of s row)
text_of_parts s row = ap (λ vs. quoted s.served.ns ++ 46 ∷ quoted s.served.name ++ vs) (sym (flat_map-map (λ v. 47 ∷ quoted v) words_of (key_values s.key row)))

-- key values are equal exactly where key texts are
pub same_keys : (s : Knows) (old new : Values) (b : Bool) → lacks_key s.key old ≡ false → lacks_key s.key new ≡ false → same_row (key_values s.key old) (key_values s.key new) ≡ b → same_text (key_text s old) (key_text s new) ≡ b
same_keys s old new true h k e = let same : key_values s.key old ≡ key_values s.key new = (Decides-same_row _ _).0 e in (Decides-same_text (key_text s old) (key_text s new)).1 (ap (λ vs. quoted s.served.ns ++ 46 ∷ quoted s.served.name ++ flat_map (λ v. 47 ∷ quoted (words_of v)) vs) same)
same_keys s old new false h k e = false_from_ne_true _ (λ t. let same : key_values s.key old ≡ key_values s.key new = key_texts_tell s old new h k ((Decides-same_text _ _).0 t) in let yes : same_row (key_values s.key old) (key_values s.key new) ≡ true = (Decides-same_row _ _).1 same in cc)

-- ---- texts

pub one_ascii : (b : ℕ) → b < 128 → IsUtf8 (b ∷ [])
one_ascii b h = IsUtf8-from_ascii (b ∷ []) (IsAscii-cons b [] h IsAscii-nil)

pub with_value : (out words new : List ℕ) → new ≡ out ++ 47 ∷ quoted words → IsUtf8 words → IsUtf8 out → IsUtf8 new
with_value out words new is h k = subst IsUtf8 (sym is) (IsUtf8-append out (47 ∷ quoted words) k (IsUtf8-append (47 ∷ []) (quoted words) (one_ascii 47 (omega arith)) (IsUtf8-quoted words h)))

pub front_utf8 : (ns name front : List ℕ) → front ≡ quoted ns ++ 46 ∷ quoted name → IsUtf8 ns → IsUtf8 name → IsUtf8 front
front_utf8 ns name front is h k = subst IsUtf8 (sym is) (IsUtf8-append (quoted ns) (46 ∷ quoted name) (IsUtf8-quoted ns h) (IsUtf8-append (46 ∷ []) (quoted name) (one_ascii 46 (omega arith)) (IsUtf8-quoted name k)))

-- what is left, with one more
pub words_left : (key : List ℕ) (row : Values) (i : ℕ) (v : Value) → i < length key → v ≡ slice_index_or row (get_or key i 0) Null → IsUtf8 (words_of v) → AllByRecursion IsUtf8 (map words_of (key_values (drop (i + 1) key) row)) → AllByRecursion IsUtf8 (map words_of (key_values (drop i key) row))
words_left key row i v lt is item = rw add-one (λ rest. subst (λ ks. AllByRecursion IsUtf8 (map words_of (key_values ks row))) (sym (drop-cons key i 0 lt)) (subst (λ (x : Value). IsUtf8 (words_of x)) is item, rest))

abbrev value_part : Value → List ℕ
value_part v = 47 ∷ quoted (words_of v)

pub values_left : (key : List ℕ) (row : Values) (i : ℕ) (v : Value) (out new : List ℕ) → i < length key → v ≡ slice_index_or row (get_or key i 0) Null → new ≡ out ++ value_part v → out ++ flat_map value_part (key_values (drop i key) row) ≡ new ++ flat_map value_part (key_values (drop (i + 1) key) row)
values_left key row i v out new lt is added = rw add-one (ap (λ ks. out ++ flat_map value_part (key_values ks row)) (drop-cons key i 0 lt)
    ∙ sym (append_assoc out (value_part (slice_index_or row (get_or key i 0) Null)) (flat_map value_part (key_values (drop (suc i) key) row)))
    ∙ ap (λ xs. xs ++ flat_map value_part (key_values (drop (suc i) key) row)) (ap (λ (x : Value). out ++ value_part x) (sym is) ∙ sym added))

length_values : (key : List ℕ) (row : Values) → length (map words_of (key_values key row)) ≡ length key
length_values [] row = refl
length_values (p ∷ key) row = ap (λ n. suc n) (length_values key row)

pub are_parts : (s : Knows) (row : Values) → IsTest s → IsUtf8 s.served.ns → IsUtf8 s.served.name → AllByRecursion IsUtf8 (map words_of (key_values s.key row)) → AreParts (parts_of s row)
are_parts s row test ns name values = record { ns = ns; name = name; values = values; some = subst (λ n. 0 < n) (sym (length_values s.key row)) (some_key s test) }
