-- Names and values of a query, one after the other.
use Rattle.std.proofs.Common.{◌≡◌, ◌⊎◌, ◌||◌, ℕ, Bool, true, false, if◌then◌else◌, List, [], ◌∷◌, ◌++◌, map, filter, refl, sym, ap, ◌∙◌, subst, inl, inr, Option, None, Some, codes, append_assoc, append-nil}
use Rattle.std.specs.List.{list_all}
use Rattle.std.specs.Str.{IsUtf8}
use Rattle.std.proofs.lemmas.List.{map-append}
use Rattle.std.proofs.lemmas.List.Elements.{filter-append}
use Rattle.std.proofs.lemmas.List.Folds.{list_all-append}
use Rattle.std.proofs.lemmas.Bool.{and_parts, and_from}
use Rattle.form_urlencoded.specs.Form.{parse}
use Rattle.shape_base.specs.Tables.{same_text}
use Rattle.shape_base.proofs.Lemmas.{Decides-same_text}
use Rattle.http_edge.specs.Parameters.{Pair, AreTexts, decoded, has_bad_percent}
use Rattle.fold_client.specs.declared.client.Query.{Query}
use Rattle.core_clients.specs.declared.query.Values.{Values}
use Rattle.core_clients.specs.declared.query.QueryError.{QueryError}
use Rattle.core_clients.specs.declared.query.QueryError.TheVariants as errors
use Rattle.core_clients.specs.QueryForm.{is_known, values_under, alone, IsQueryOf, IsQueryForm}
use Rattle.core_clients.specs.Reading.{AreRead}
use Rattle.core_clients.specs.Laws.{FormsTell}

-- ---- values under a name

under_append : (k : List ℕ) (xs ys : List Pair) → values_under k (xs ++ ys) ≡ values_under k xs ++ values_under k ys
under_append k xs ys = ap (map (λ (p : Pair). p.1)) (filter-append (λ (p : Pair). same_text p.0 k) xs ys) ∙ map-append (λ (p : Pair). p.1) (filter (λ (p : Pair). same_text p.0 k) xs) (filter (λ (p : Pair). same_text p.0 k) ys)

-- the value of a pair, where it has the name
abbrev pub value_if : Bool → List ℕ → List (List ℕ) → List (List ℕ)
value_if b value rest = if b then value ∷ rest else rest

under_pair : (k n value : List ℕ) (rest : List Pair) (b : Bool) → same_text n k ≡ b → values_under k ((n, value) ∷ rest) ≡ value_if b value (values_under k rest)
under_pair k n value rest true h = ap (λ (b : Bool). map (λ (p : Pair). p.1) (if b then (n, value) ∷ filter (λ (p : Pair). same_text p.0 k) rest else filter (λ (p : Pair). same_text p.0 k) rest)) h
under_pair k n value rest false h = ap (λ (b : Bool). map (λ (p : Pair). p.1) (if b then (n, value) ∷ filter (λ (p : Pair). same_text p.0 k) rest else filter (λ (p : Pair). same_text p.0 k) rest)) h

-- what is kept under a name after one more pair: the pair's value, where it has the name and nothing was kept
pub record Keeps (k n value : List ℕ) (old new : Option (List ℕ)) : Type 0 where
  pub test : Bool
  pub tested : same_text n k ≡ test
  pub kept : alone old ++ value_if test value [] ≡ alone new

keeps_on : (k n value : List ℕ) (front : List Pair) (old new : Option (List ℕ)) → Keeps k n value old new → values_under k front ≡ alone old → values_under k (front ++ (n, value) ∷ []) ≡ alone new
keeps_on k n value front old new h is = under_append k front ((n, value) ∷ []) ∙ ap (λ x. values_under k front ++ x) (under_pair k n value [] h.test h.tested) ∙ ap (λ x. x ++ value_if h.test value []) is ∙ h.kept

pub other_name : (k n value : List ℕ) (x : Option (List ℕ)) → same_text n k ≡ false → Keeps k n value x x
other_name k n value x h = record { test = false; tested = h; kept = append-nil (alone x) }

pub first_value : (k n value : List ℕ) (old new : Option (List ℕ)) → same_text n k ≡ true → old ≡ None → new ≡ Some value → Keeps k n value old new
first_value k n value old new h none some = record { test = true; tested = h; kept = ap (λ (x : Option (List ℕ)). alone x ++ value ∷ []) none ∙ sym (ap alone some) }

-- ---- one more pair

texts_push : (front : List Pair) (p : Pair) → AreTexts front → IsUtf8 p.0 × IsUtf8 p.1 → AreTexts (front ++ p ∷ [])
texts_push [] p texts h = (h, tt)
texts_push (q ∷ front) p texts h = (texts.0, texts_push front p texts.1 h)

known_push : (front : List Pair) (p : Pair) → list_all is_known front ≡ true → is_known p ≡ true → list_all is_known (front ++ p ∷ []) ≡ true
known_push front p h k = list_all-append is_known front (p ∷ []) ∙ and_from (list_all is_known front) (list_all is_known (p ∷ [])) h (and_from (is_known p) true k refl)

pub read_more : (front : List Pair) (n value : List ℕ) (v w : Values) → is_known (n, value) ≡ true → Keeps (codes "table") n value v.table w.table → Keeps (codes "columns") n value v.columns w.columns → Keeps (codes "where") n value v.clause w.clause
    → IsUtf8 n → IsUtf8 value → AreRead front v → AreRead (front ++ (n, value) ∷ []) w
read_more front n value v w known table columns clause name text read = record {
  texts = texts_push front (n, value) read.texts (name, text);
  known = known_push front (n, value) read.known known;
  table = keeps_on (codes "table") n value front v.table w.table table read.table;
  columns = keeps_on (codes "columns") n value front v.columns w.columns columns read.columns;
  clause = keeps_on (codes "where") n value front v.clause w.clause clause read.clause;
}

-- ---- a pair that no query has

pub unknown_name : (front rest : List Pair) (p : Pair) (q : Query) → is_known p ≡ false → IsQueryOf (front ++ p ∷ rest) q → ⊥
unknown_name front rest p q h is =
    let all = and_parts (list_all is_known front) (list_all is_known (p ∷ rest)) (sym (list_all-append is_known front (p ∷ rest)) ∙ is.known) in
    let here = and_parts (is_known p) (list_all is_known rest) all.1 in
    cc (here.0, h)

two_alone : (x value : List ℕ) (rest : List (List ℕ)) (y : Option (List ℕ)) → x ∷ value ∷ rest ≡ alone y → ⊥
two_alone x value rest None h = cc
two_alone x value rest (Some y) h = cc

twice_under : (k n value : List ℕ) (front rest : List Pair) (old y : Option (List ℕ)) → same_text n k ≡ true → (old ≡ None → ⊥) → values_under k front ≡ alone old → values_under k (front ++ (n, value) ∷ rest) ≡ alone y → ⊥
twice_under k n value front rest None y h some is all = some refl
twice_under k n value front rest (Some x) y h some is all =
    two_alone x value (values_under k rest) y (sym (under_append k front ((n, value) ∷ rest) ∙ ap (λ t. values_under k front ++ t) (under_pair k n value rest true h) ∙ ap (λ t. t ++ value ∷ values_under k rest) is) ∙ all)

pub second_table : (front rest : List Pair) (n value : List ℕ) (v : Values) (q : Query) → same_text n (codes "table") ≡ true → (v.table ≡ None → ⊥) → AreRead front v → IsQueryOf (front ++ (n, value) ∷ rest) q → ⊥
second_table front rest n value v q h some read is = twice_under (codes "table") n value front rest v.table (Some q.table) h some read.table is.table

pub second_columns : (front rest : List Pair) (n value : List ℕ) (v : Values) (q : Query) → same_text n (codes "columns") ≡ true → (v.columns ≡ None → ⊥) → AreRead front v → IsQueryOf (front ++ (n, value) ∷ rest) q → ⊥
second_columns front rest n value v q h some read is = twice_under (codes "columns") n value front rest v.columns q.columns h some read.columns is.columns

pub second_clause : (front rest : List Pair) (n value : List ℕ) (v : Values) (q : Query) → same_text n (codes "where") ≡ true → (v.clause ≡ None → ⊥) → AreRead front v → IsQueryOf (front ++ (n, value) ∷ rest) q → ⊥
second_clause front rest n value v q h some read is = twice_under (codes "where") n value front rest v.clause q.clause h some read.clause is.clause

texts_at : (front rest : List Pair) (p : Pair) → AreTexts (front ++ p ∷ rest) → IsUtf8 p.0 × IsUtf8 p.1
texts_at [] rest p texts = texts.0
texts_at (q ∷ front) rest p texts = texts_at front rest p texts.1

pub no_text : (front rest : List Pair) (p : Pair) (q : Query) → (IsUtf8 p.0 × IsUtf8 p.1 → ⊥) → IsQueryOf (front ++ p ∷ rest) q → ⊥
no_text front rest p q bad is = bad (texts_at front rest p is.texts)

-- ---- all pairs

-- these pairs of the form were read, and those are left
pub record ReadSoFar (form : List ℕ) (left : List Pair) (v : Values) : Type 0 where
  pub front : List Pair
  pub cut : parse form ≡ front ++ map decoded left
  pub read : AreRead front v

pub nothing_read : (form : List ℕ) (left : List Pair) (v : Values) → parse form ≡ map decoded left → v ≡ record { table = None; columns = None; clause = None } → ReadSoFar form left v
nothing_read form left v cut is = record { front = []; cut = cut; read = subst (AreRead []) (sym is) (record { texts = tt; known = refl; table = refl; columns = refl; clause = refl }) }

cut_next : (form : List ℕ) (front left rest : List Pair) (n : Pair) → parse form ≡ front ++ map decoded left → left ≡ n ∷ rest → parse form ≡ front ++ decoded n ∷ map decoded rest
cut_next form front left rest n cut is = cut ∙ ap (λ x. front ++ map decoded x) is

pub next_read : (form : List ℕ) (left rest : List Pair) (n : Pair) (v w : Values) → (so : ReadSoFar form left v) → left ≡ n ∷ rest → AreRead (so.front ++ decoded n ∷ []) w → ReadSoFar form rest w
next_read form left rest n v w so is read = record {
  front = so.front ++ decoded n ∷ [];
  cut = cut_next form so.front left rest n so.cut is ∙ sym (append_assoc so.front (decoded n ∷ []) (map decoded rest));
  read = read;
}

pub none_next : (form : List ℕ) (left rest : List Pair) (n : Pair) (v : Values) (e : QueryError) → ReadSoFar form left v → left ≡ n ∷ rest
    → (e ≡ errors.OutOfMemory) ⊎ ((e ≡ errors.BadPayload) × ((front more : List Pair) (q : Query) → AreRead front v → IsQueryOf (front ++ decoded n ∷ more) q → ⊥))
    → (e ≡ errors.OutOfMemory) ⊎ ((e ≡ errors.BadPayload) × ((q : Query) → IsQueryOf (parse form) q → ⊥))
none_next form left rest n v e so is (inl memory) = inl memory
none_next form left rest n v e so is (inr bad) = inr (bad.0, λ q h. bad.1 so.front (map decoded rest) q so.read (subst (λ (x : List Pair). IsQueryOf x q) (cut_next form so.front left rest n so.cut is) h))

pub all_read : (form : List ℕ) (left : List Pair) (v : Values) → ReadSoFar form left v → left ≡ [] → AreRead (parse form) v
all_read form left v so is = subst (λ (x : List Pair). AreRead x v) (sym (so.cut ∙ ap (λ x. so.front ++ map decoded x) is ∙ append-nil so.front)) so.read

-- ---- the query

pub query_read : (form table : List ℕ) (v : Values) → has_bad_percent form ≡ false → AreRead (parse form) v → v.table ≡ Some table → IsQueryForm form (record { table = table; columns = v.columns; clause = v.clause })
query_read form table v escapes read is = record { escapes = escapes; query = record { texts = read.texts; known = read.known; table = read.table ∙ ap alone is; columns = read.columns; clause = read.clause } }

pub no_table : (form : List ℕ) (v : Values) (q : Query) → AreRead (parse form) v → v.table ≡ None → IsQueryForm form q → ⊥
no_table form v q read is h = let e : [] ≡ q.table ∷ [] = sym (read.table ∙ ap alone is) ∙ h.query.table in cc

-- ---- forms tell queries

alone_tells : (x y : Option (List ℕ)) → alone x ≡ alone y → x ≡ y
alone_tells None None h = refl
alone_tells None (Some y) h = cc
alone_tells (Some x) None h = cc
alone_tells (Some x) (Some y) h = cc

pub forms_tell : FormsTell
forms_tell bytes q r a b =
    let table : q.table ≡ r.table = let e = sym a.query.table ∙ b.query.table in cc in
    let columns = alone_tells q.columns r.columns (sym a.query.columns ∙ b.query.columns) in
    let clause = alone_tells q.clause r.clause (sym a.query.clause ∙ b.query.clause) in
    λ i. record { table = table i; columns = columns i; clause = clause i }

-- ---- a value under each name

known_name : (k n value : List ℕ) → same_text n k ≡ true → is_known (k, value) ≡ true → is_known (n, value) ≡ true
known_name k n value h known = ap (λ x. is_known (x, value)) ((Decides-same_text n k).0 h) ∙ known

other_than : (k j n : List ℕ) → same_text n k ≡ true → same_text k j ≡ false → same_text n j ≡ false
other_than k j n h other = ap (λ x. same_text x j) ((Decides-same_text n k).0 h) ∙ other

pub table_added : (v : Values) (new : Option (List ℕ)) (n value : List ℕ) → same_text n (codes "table") ≡ true → (v.table ≡ None) × (new ≡ Some value)
    → (front : List Pair) → IsUtf8 n → IsUtf8 value → AreRead front v → AreRead (front ++ (n, value) ∷ []) (record { table = new; columns = v.columns; clause = v.clause })
table_added v new n value h put front name text read = read_more front n value v (record { table = new; columns = v.columns; clause = v.clause }) (known_name (codes "table") n value h refl)
    (first_value (codes "table") n value v.table new h put.0 put.1)
    (other_name (codes "columns") n value v.columns (other_than (codes "table") (codes "columns") n h refl))
    (other_name (codes "where") n value v.clause (other_than (codes "table") (codes "where") n h refl)) name text read

pub columns_added : (v : Values) (new : Option (List ℕ)) (n value : List ℕ) → same_text n (codes "columns") ≡ true → (v.columns ≡ None) × (new ≡ Some value)
    → (front : List Pair) → IsUtf8 n → IsUtf8 value → AreRead front v → AreRead (front ++ (n, value) ∷ []) (record { table = v.table; columns = new; clause = v.clause })
columns_added v new n value h put front name text read = read_more front n value v (record { table = v.table; columns = new; clause = v.clause }) (known_name (codes "columns") n value h refl)
    (other_name (codes "table") n value v.table (other_than (codes "columns") (codes "table") n h refl))
    (first_value (codes "columns") n value v.columns new h put.0 put.1)
    (other_name (codes "where") n value v.clause (other_than (codes "columns") (codes "where") n h refl)) name text read

pub clause_added : (v : Values) (new : Option (List ℕ)) (n value : List ℕ) → same_text n (codes "where") ≡ true → (v.clause ≡ None) × (new ≡ Some value)
    → (front : List Pair) → IsUtf8 n → IsUtf8 value → AreRead front v → AreRead (front ++ (n, value) ∷ []) (record { table = v.table; columns = v.columns; clause = new })
clause_added v new n value h put front name text read = read_more front n value v (record { table = v.table; columns = v.columns; clause = new }) (known_name (codes "where") n value h refl)
    (other_name (codes "table") n value v.table (other_than (codes "where") (codes "table") n h refl))
    (other_name (codes "columns") n value v.columns (other_than (codes "where") (codes "columns") n h refl))
    (first_value (codes "where") n value v.clause new h put.0 put.1) name text read

pub not_known : (n value : List ℕ) → same_text n (codes "table") ≡ false → same_text n (codes "columns") ≡ false → same_text n (codes "where") ≡ false → is_known (n, value) ≡ false
not_known n value a b c = ap (λ t. t || (same_text n (codes "columns") || (same_text n (codes "where") || false))) a ∙ ap (λ t. t || (same_text n (codes "where") || false)) b ∙ ap (λ t. t || false) c

-- ---- a pair that is no text

abbrev pub NoQuery : List ℕ → List ℕ → Values → Type 0
NoQuery n value v = (front rest : List Pair) (q : Query) → AreRead front v → IsQueryOf (front ++ (n, value) ∷ rest) q → ⊥

pub no_name : (n value : List ℕ) (v : Values) (e : QueryError) → (e ≡ errors.OutOfMemory) ⊎ ((e ≡ errors.BadPayload) × (IsUtf8 n → ⊥)) → (e ≡ errors.OutOfMemory) ⊎ ((e ≡ errors.BadPayload) × NoQuery n value v)
no_name n value v e (inl memory) = inl memory
no_name n value v e (inr bad) = inr (bad.0, λ front rest q read is. no_text front rest (n, value) q (λ t. bad.1 t.0) is)

pub no_value : (n value : List ℕ) (v : Values) (e : QueryError) → (e ≡ errors.OutOfMemory) ⊎ ((e ≡ errors.BadPayload) × (IsUtf8 value → ⊥)) → (e ≡ errors.OutOfMemory) ⊎ ((e ≡ errors.BadPayload) × NoQuery n value v)
no_value n value v e (inl memory) = inl memory
no_value n value v e (inr bad) = inr (bad.0, λ front rest q read is. no_text front rest (n, value) q (λ t. bad.1 t.1) is)
