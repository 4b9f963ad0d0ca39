-- Texts between quotes.
use Rattle.std.proofs.Common.{◌≡◌, ◌≢◌, ◌<◌, ◌+◌, ℕ, zero, suc, List, [], ◌∷◌, ◌++◌, length, get_or, Bool, true, false, cond, Option, Some, None, nat_eq, refl, sym, ap, subst, ◌∙◌, append_assoc, arith, length-append}
use Rattle.std.proofs.lemmas.List.{append-nil}
use Rattle.std.proofs.lemmas.Bool.{eqb-true, eq-eqb}
use Rattle.std.proofs.Math.Seq.{drop-append_seam, take-append_seam, get_or-append_seam}
use Rattle.std.specs.Str.{IsUtf8}
use Rattle.std.proofs.lemmas.Str.{IsUtf8-take, IsUtf8-drop, IsUtf8-append, IsUtf8-nil, IsUtf8-from_ascii, IsCharBoundary-before_ascii, IsCharBoundary-after_ascii}
use Rattle.where_lexer.specs.Lexing.{run, past, with_byte, unquoted}
use Rattle.where_lexer.specs.Classes.{besides}

-- cuts

pub cut_before : (xs : List ℕ) (b : ℕ) (bs : List ℕ) → IsUtf8 (xs ++ b ∷ bs) → b < 128 → IsUtf8 xs × IsUtf8 (b ∷ bs)
cut_before xs b bs u h =
    let l : length xs < length (xs ++ b ∷ bs) = simp length-append (omega arith) in
    let e : get_or (xs ++ b ∷ bs) (length xs) 0 ≡ b = get_or-append_seam xs b bs 0 in
    let c = IsCharBoundary-before_ascii (xs ++ b ∷ bs) (length xs) l (omega arith) in
    (subst IsUtf8 (take-append_seam xs (b ∷ bs)) (IsUtf8-take (xs ++ b ∷ bs) (length xs) u c), subst IsUtf8 (drop-append_seam xs (b ∷ bs)) (IsUtf8-drop (xs ++ b ∷ bs) (length xs) u c))

pub after_ascii : (b : ℕ) (bs : List ℕ) → IsUtf8 (b ∷ bs) → b < 128 → IsUtf8 bs
after_ascii b bs u h = IsUtf8-drop (b ∷ bs) 1 u (IsCharBoundary-after_ascii (b ∷ bs) 0 u (omega arith) h)

pub run_past : (test : ℕ → Bool) (bytes : List ℕ) → bytes ≡ run test bytes ++ past test bytes
unfolding run past
run_past test [] = refl
run_past test (b ∷ bs) = by (run_past test bs) (test b) where
  by : bs ≡ run test bs ++ past test bs → (c : Bool) → b ∷ bs ≡ cond c (b ∷ run test bs) [] ++ cond c (past test bs) (b ∷ bs)
  by ih true = ap (λ r. b ∷ r) ih
  by ih false = refl

-- what comes after a run begins with a byte that does not pass
pub past_head : (test : ℕ → Bool) (bytes : List ℕ) (b : ℕ) (bs : List ℕ) → past test bytes ≡ b ∷ bs → test b ≡ false
unfolding past
past_head test [] b bs e = absurd (no e) where
  no : [] ≡ b ∷ bs → ⊥
  no e = cc
past_head test (c ∷ cs) b bs e = by (past_head test cs b bs) (test c) refl e where
  by : (past test cs ≡ b ∷ bs → test b ≡ false) → (d : Bool) → test c ≡ d → cond d (past test cs) (c ∷ cs) ≡ b ∷ bs → test b ≡ false
  by ih true i k = ih k
  by ih false i k = let s : c ≡ b = first k in subst (λ x. test x ≡ false) s i where
    first : (c ∷ cs) ≡ b ∷ bs → c ≡ b
    first k = cc

pub besides_false : (q b : ℕ) → besides q b ≡ false → nat_eq b q ≡ true
besides_false q b e = by (nat_eq b q) e where
  by : (c : Bool) → cond c false true ≡ false → c ≡ true
  by true k = refl
  by false k = cc

abbrev pub with_content : List ℕ → Option (List ℕ × List ℕ) → Option (List ℕ × List ℕ)
with_content xs None = None
with_content xs (Some x) = Some (xs ++ x.0, x.1)

pub content_twice : (xs ys : List ℕ) (o : Option (List ℕ × List ℕ)) → with_content xs (with_content ys o) ≡ with_content (xs ++ ys) o
content_twice xs ys None = refl
content_twice xs ys (Some x) = ap (λ c. between_quotes c x.1) (sym (append_assoc xs ys x.0)) where
  between_quotes : List ℕ → List ℕ → Option (List ℕ × List ℕ)
  between_quotes c r = Some (c, r)

pub content_byte : (b : ℕ) (xs : List ℕ) (o : Option (List ℕ × List ℕ)) → with_byte b (with_content xs o) ≡ with_content (b ∷ xs) o
content_byte b xs None = refl
content_byte b xs (Some x) = refl

pub content_none : (o : Option (List ℕ × List ℕ)) → o ≡ with_content [] o
content_none None = refl
content_none (Some x) = refl

pub unquoted_run : (q : ℕ) (bytes : List ℕ) → unquoted q false bytes ≡ with_content (run (besides q) bytes) (unquoted q false (past (besides q) bytes))
unfolding run past unquoted
unquoted_run q [] = refl
unquoted_run q (b ∷ bs) = by (unquoted_run q bs) (nat_eq b q) refl where
  by : unquoted q false bs ≡ with_content (run (besides q) bs) (unquoted q false (past (besides q) bs)) → (c : Bool) → nat_eq b q ≡ c → cond c (unquoted q true bs) (with_byte b (unquoted q false bs)) ≡ with_content (cond (cond c false true) (b ∷ run (besides q) bs) []) (unquoted q false (cond (cond c false true) (past (besides q) bs) (b ∷ bs)))
  by ih true i = content_none (unquoted q true bs) ∙ ap (λ o. with_content [] o) (sym (ap (λ d. cond d (unquoted q true bs) (with_byte b (unquoted q false bs))) i))
  by ih false i = ap (λ o. with_byte b o) ih ∙ content_byte b (run (besides q) bs) (unquoted q false (past (besides q) bs))

-- so far content was read, and rest is left
pub record Quoting (q : ℕ) (bytes content rest : List ℕ) : Type 0 where
  pub same : with_content content (unquoted q false rest) ≡ unquoted q false bytes
  pub content_utf8 : IsUtf8 content
  pub rest_utf8 : IsUtf8 rest

pub quoting_start : (q : ℕ) (bytes : List ℕ) → IsUtf8 bytes → Quoting q bytes [] bytes
quoting_start q bytes u = record { same = sym (content_none (unquoted q false bytes)); content_utf8 = IsUtf8-nil; rest_utf8 = u }

pub at_quote : (q b : ℕ) (tail : List ℕ) → nat_eq b q ≡ true → unquoted q false (b ∷ tail) ≡ unquoted q true tail
unfolding unquoted
at_quote q b tail e = ap (λ c. cond c (unquoted q true tail) (with_byte b (unquoted q false tail))) e

pub quoting_here : (q : ℕ) (bytes content rest front after : List ℕ) → Quoting q bytes content rest → front ≡ run (besides q) rest → after ≡ past (besides q) rest → with_content (content ++ front) (unquoted q false after) ≡ unquoted q false bytes
quoting_here q bytes content rest front after s e f =
    ap (λ u. with_content (content ++ u) (unquoted q false after)) e ∙ ap (λ u. with_content (content ++ run (besides q) rest) (unquoted q false u)) f
    ∙ sym (content_twice content (run (besides q) rest) (unquoted q false (past (besides q) rest))) ∙ ap (λ o. with_content content o) (sym (unquoted_run q rest)) ∙ s.same

pub quoting_none : (q : ℕ) (bytes content rest front after : List ℕ) → Quoting q bytes content rest → front ≡ run (besides q) rest → after ≡ past (besides q) rest → after ≡ [] → None ≡ unquoted q false bytes
unfolding unquoted
quoting_none q bytes content rest front after s e f z = ap (λ u. with_content (content ++ front) (unquoted q false u)) (sym z) ∙ quoting_here q bytes content rest front after s e f

pub quote_cut : (q : ℕ) (rest front after : List ℕ) (b : ℕ) (tail : List ℕ) → q < 128 → IsUtf8 rest → front ≡ run (besides q) rest → after ≡ past (besides q) rest → after ≡ b ∷ tail → (b ≡ q) × IsUtf8 front × IsUtf8 tail
quote_cut q rest front after b tail h u e f z =
    let same : b ≡ q = eqb-true b q (besides_false q b (past_head (besides q) rest b tail (sym f ∙ z))) in
    let whole : IsUtf8 (front ++ b ∷ tail) = subst IsUtf8 (run_past (besides q) rest ∙ ap (λ v. v ++ past (besides q) rest) (sym e) ∙ ap (λ v. front ++ v) (sym f ∙ z)) u in
    let small : b < 128 = omega arith in
    let cut = cut_before front b tail whole small in
    (same, cut.0, after_ascii b tail cut.1 small)

pub quoting_done : (q : ℕ) (bytes content rest front after : List ℕ) (b : ℕ) (tail : List ℕ) → q < 128 → Quoting q bytes content rest → front ≡ run (besides q) rest → after ≡ past (besides q) rest → after ≡ b ∷ tail → unquoted q true tail ≡ Some ([], tail) → with_content (content ++ front) (Some ([], tail)) ≡ unquoted q false bytes
quoting_done q bytes content rest front after b tail h s e f z k =
    let c = quote_cut q rest front after b tail h s.rest_utf8 e f z in
    ap (λ o. with_content (content ++ front) o) (sym k ∙ sym (at_quote q b tail (eq-eqb b q c.0)) ∙ ap (λ u. unquoted q false u) (sym z)) ∙ quoting_here q bytes content rest front after s e f

pub quoting_more : (q : ℕ) (bytes content rest front after : List ℕ) (b d : ℕ) (more : List ℕ) → q < 128 → Quoting q bytes content rest → front ≡ run (besides q) rest → after ≡ past (besides q) rest → after ≡ b ∷ d ∷ more → d ≡ q → Quoting q bytes ((content ++ front) ++ q ∷ []) more
unfolding unquoted
quoting_more q bytes content rest front after b d more h s e f z k =
    let c = quote_cut q rest front after b (d ∷ more) h s.rest_utf8 e f z in
    let small : d < 128 = omega arith in
    let step : unquoted q false after ≡ with_byte q (unquoted q false more) =
    ap (λ u. unquoted q false u) z ∙ at_quote q b (d ∷ more) (eq-eqb b q c.0) ∙ ap (λ t. cond t (with_byte q (unquoted q false more)) (Some ([], d ∷ more))) (eq-eqb d q k) in
    record {
      same = sym (content_twice (content ++ front) (q ∷ []) (unquoted q false more)) ∙ ap (λ o. with_content (content ++ front) o) (sym (ap (λ o. with_byte q o) (content_none (unquoted q false more)) ∙ content_byte q [] (unquoted q false more))) ∙ ap (λ o. with_content (content ++ front) o) (sym step) ∙ quoting_here q bytes content rest front after s e f;
      content_utf8 = IsUtf8-append (content ++ front) (q ∷ []) (IsUtf8-append content front s.content_utf8 c.1) (IsUtf8-from_ascii (q ∷ []) (ascii_one q h));
      rest_utf8 = after_ascii d more c.2 small;
    }
  where
    ascii_one : (q : ℕ) → q < 128 → (i : ℕ) → get_or (q ∷ []) i 0 < 128
    ascii_one q h zero = h
    ascii_one q h (suc i) = omega arith

pub besides_true : (q b : ℕ) → b ≢ q → besides q b ≡ true
besides_true q b h = by (nat_eq b q) refl where
  by : (c : Bool) → nat_eq b q ≡ c → cond c false true ≡ true
  by true e = absurd (h (eqb-true b q e))
  by false e = refl

pub besides_same : (q b : ℕ) → b ≡ q → besides q b ≡ false
besides_same q b e = ap (λ c. cond c false true) (eq-eqb b q e)

pub quoting_step : (q : ℕ) (bytes content rest front after content' : List ℕ) (b : ℕ) (tail : List ℕ) (d : ℕ) (more last : List ℕ) → q < 128 → Quoting q bytes content rest → front ≡ run (besides q) rest → after ≡ past (besides q) rest → content' ≡ content ++ front → after ≡ b ∷ tail → tail ≡ d ∷ more → d ≡ q → last ≡ content' ++ q ∷ [] → Quoting q bytes last more
quoting_step q bytes content rest front after content' b tail d more last h s e f x y z k l =
    subst (λ u. Quoting q bytes u more) (sym (l ∙ ap (λ u. u ++ q ∷ []) x)) (quoting_more q bytes content rest front after b d more h s e f (y ∙ ap (λ u. b ∷ u) z) k)

pub quoting_less : (q : ℕ) (rest after : List ℕ) (b : ℕ) (tail : List ℕ) (d : ℕ) (more : List ℕ) → after ≡ past (besides q) rest → after ≡ b ∷ tail → tail ≡ d ∷ more → length more < length rest
quoting_less q rest after b tail d more f y z =
    let a : length rest ≡ length (run (besides q) rest ++ past (besides q) rest) = ap length (run_past (besides q) rest) in
    let c : length (run (besides q) rest ++ past (besides q) rest) ≡ length (run (besides q) rest) + length (past (besides q) rest) = length-append (run (besides q) rest) (past (besides q) rest) in
    let g : length (past (besides q) rest) ≡ suc (suc (length more)) = ap length (sym f ∙ y ∙ ap (λ u. b ∷ u) z) in
    omega arith

-- what is answered behind the closing quote
pub record Quoted (q : ℕ) (bytes content tail : List ℕ) : Type 0 where
  pub read : Some (content, tail) ≡ unquoted q false bytes
  pub content_utf8 : IsUtf8 content
  pub tail_utf8 : IsUtf8 tail

abbrev pub ClosedBy : ℕ → List ℕ → Type 0
ClosedBy q tail = unquoted q true tail ≡ with_content [] (Some ([], tail))

pub closed_end : (q : ℕ) (tail : List ℕ) → tail ≡ [] → ClosedBy q tail
unfolding unquoted
closed_end q [] e = refl
closed_end q (b ∷ bs) e = absurd (no e) where
  no : b ∷ bs ≡ [] → ⊥
  no e = cc

pub closed_other : (q d : ℕ) (tail more : List ℕ) → tail ≡ d ∷ more → d ≢ q → ClosedBy q tail
unfolding unquoted
closed_other q d tail more e n =
    let not_same : nat_eq d q ≡ false = other (nat_eq d q) refl in
    ap (λ u. unquoted q true u) e ∙ ap (λ c. cond c (with_byte q (unquoted q false more)) (Some ([], d ∷ more))) not_same ∙ ap (λ u. with_content [] (with_content [] (shut u))) (sym e)
  where
    shut : List ℕ → Option (List ℕ × List ℕ)
    shut u = Some ([], u)

    other : (c : Bool) → nat_eq d q ≡ c → nat_eq d q ≡ false
    other true i = absurd (n (eqb-true d q i))
    other false i = i

pub quoting_ended : (q : ℕ) (bytes content rest front after content' : List ℕ) (b : ℕ) (tail : List ℕ) → q < 128 → Quoting q bytes content rest → front ≡ run (besides q) rest → after ≡ past (besides q) rest → content' ≡ content ++ front → after ≡ b ∷ tail → ClosedBy q tail → Quoted q bytes content' tail
quoting_ended q bytes content rest front after content' b tail h s e f x y k =
    let c = quote_cut q rest front after b tail h s.rest_utf8 e f y in
    let whole : IsUtf8 (content ++ front) = IsUtf8-append content front s.content_utf8 c.1 in
    record {
      read = ap (λ u. made u tail) (x ∙ sym (append-nil (content ++ front))) ∙ quoting_done q bytes content rest front after b tail h s e f y k;
      content_utf8 = subst IsUtf8 (sym x) whole;
      tail_utf8 = c.2;
    }
  where
    made : List ℕ → List ℕ → Option (List ℕ × List ℕ)
    made u v = Some (u, v)

pub quoted_read : (q : ℕ) (bytes content tail text : List ℕ) → Quoted q bytes content tail → text ≡ content → Some (text, tail) ≡ unquoted q false bytes
quoted_read q bytes content tail text s e = ap (λ u. made u tail) e ∙ s.read where
  made : List ℕ → List ℕ → Option (List ℕ × List ℕ)
  made u v = Some (u, v)

pub ascii_before : (bytes : List ℕ) (b : ℕ) (rest : List ℕ) → bytes ≡ b ∷ rest → b < 128 → IsUtf8 bytes → IsUtf8 rest
ascii_before bytes b rest e h u = after_ascii b rest (subst IsUtf8 e u) h
