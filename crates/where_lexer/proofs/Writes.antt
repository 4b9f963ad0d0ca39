-- What is written token by token is the canonical text of the tokens.
use Rattle.std.proofs.Common.{◌≡◌, ◌<◌, ◌+◌, ℕ, suc, List, [], ◌∷◌, ◌++◌, length, Bool, true, false, cond, Option, Some, None, nat_eq, refl, sym, ap, subst, ◌∙◌, append_assoc, arith, length-append}
use Rattle.std.specs.Borrow.{Bor}
use Rattle.std.proofs.lemmas.List.{append-nil}
use Rattle.std.specs.Str.{IsUtf8}
use Rattle.std.proofs.lemmas.Str.{IsUtf8-append}
use Rattle.where_lexer.specs.declared.token.Token.{Token}
use Rattle.where_lexer.specs.Classes.{besides}
use Rattle.where_lexer.specs.Lexing.{run, past}
use Rattle.where_lexer.specs.Texts.{doubled, token_text, binds_right, gap, text_after, text_of}
use Rattle.where_lexer.specs.Writing.{Written, blank, put, with_tokens, IsFront, IsRun}
use Rattle.where_lexer.proofs.Lower.{one_ascii}
use Rattle.where_lexer.proofs.Quotes.{run_past, besides_false, past_head, quote_cut}

pub written_none : (w : Written) → with_tokens w [] ≡ w
unfolding with_tokens
written_none w = refl

pub written_first : (w : Written) (t : Token) (ts : List Token) → with_tokens w (t ∷ ts) ≡ with_tokens (put w t) ts
unfolding with_tokens
written_first w t ts = refl

pub written_append : (w : Written) (ts us : List Token) → with_tokens w (ts ++ us) ≡ with_tokens (with_tokens w ts) us
unfolding with_tokens
written_append w [] us = refl
written_append w (t ∷ ts) us = written_append (put w t) ts us

pub written_after : (text : List ℕ) (t : Token) (ts : List Token) → (with_tokens (record { text = text; joins = binds_right t }) ts).text ≡ text ++ text_after t ts
unfolding with_tokens
written_after text t [] = sym (append-nil text)
written_after text t (u ∷ ts) =
    written_after (text ++ (gap t u ++ token_text u)) u ts
    ∙ append_assoc text (gap t u ++ token_text u) (text_after u ts) ∙ ap (λ r. text ++ r) (append_assoc (gap t u) (token_text u) (text_after u ts))

-- the canonical text of tokens is what stands when they are written on a blank page
pub written_text : (ts : List Token) → (with_tokens blank ts).text ≡ text_of ts
unfolding with_tokens
written_text [] = refl
written_text (t ∷ ts) = written_after (token_text t) t ts

-- a text with its quotes doubled, run by run

pub doubled_run : (q : ℕ) (bs : List ℕ) → doubled q bs ≡ run (besides q) bs ++ doubled q (past (besides q) bs)
unfolding run past
doubled_run q [] = refl
doubled_run q (b ∷ bs) = by (doubled_run q bs) (nat_eq b q) refl where
  by : doubled q bs ≡ run (besides q) bs ++ doubled q (past (besides q) bs) → (c : Bool) → nat_eq b q ≡ c → cond c (q ∷ q ∷ doubled q bs) (b ∷ doubled q bs) ≡ cond (cond c false true) (b ∷ run (besides q) bs) [] ++ doubled q (cond (cond c false true) (past (besides q) bs) (b ∷ bs))
  by ih true i = sym (ap (λ c. cond c (q ∷ q ∷ doubled q bs) (b ∷ doubled q bs)) i)
  by ih false i = ap (λ r. b ∷ r) ih

pub doubled_end : (q : ℕ) (rest front after : List ℕ) → front ≡ run (besides q) rest → after ≡ past (besides q) rest → after ≡ [] → front ≡ doubled q rest
doubled_end q rest front after e f z = sym (append-nil front) ∙ ap (λ u. u ++ []) e ∙ ap (λ u. run (besides q) rest ++ doubled q u) (sym z ∙ f) ∙ sym (doubled_run q rest)

pub doubled_more : (q : ℕ) (rest front after : List ℕ) (b : ℕ) (tail : List ℕ) → front ≡ run (besides q) rest → after ≡ past (besides q) rest → after ≡ b ∷ tail → doubled q rest ≡ front ++ (q ∷ q ∷ doubled q tail)
doubled_more q rest front after b tail e f z =
    doubled_run q rest ∙ ap (λ u. u ++ doubled q (past (besides q) rest)) (sym e) ∙ ap (λ u. front ++ doubled q u) (sym f ∙ z)
    ∙ ap (λ c. front ++ cond c (q ∷ q ∷ doubled q tail) (b ∷ doubled q tail)) (besides_false q b (past_head (besides q) rest b tail (sym f ∙ z)))

pub front_cut : (q : ℕ) (rest front after : List ℕ) (b : ℕ) (tail : List ℕ) → q < 128 → IsUtf8 rest → front ≡ run (besides q) rest → after ≡ past (besides q) rest → after ≡ b ∷ tail → IsFront q rest front tail
front_cut q rest front after b tail h u e f z =
    let c = quote_cut q rest front after b tail h u e f z in
    record {
      cut = doubled_more q rest front after b tail e f z;
      front_utf8 = c.1;
      tail_utf8 = c.2;
      shorter =
          let a : length rest ≡ length (run (besides q) rest) + length (past (besides q) rest) = ap length (run_past (besides q) rest) ∙ length-append (run (besides q) rest) (past (besides q) rest) in
          let g : length (past (besides q) rest) ≡ suc (length tail) = ap length (sym f ∙ z) in
          omega arith;
    }

pub last_utf8 : (q : ℕ) (rest front after : List ℕ) → IsUtf8 rest → front ≡ run (besides q) rest → after ≡ past (besides q) rest → after ≡ [] → IsUtf8 front
last_utf8 q rest front after u e f z = subst IsUtf8 (run_past (besides q) rest ∙ ap (λ v. v ++ past (besides q) rest) (sym e) ∙ ap (λ v. front ++ v) (sym f ∙ z) ∙ append-nil front) u

-- so far so much is written, and rest is left
pub record Doubling (q : ℕ) (old text bytes rest : List ℕ) : Type 0 where
  pub same : bytes ++ doubled q rest ≡ old ++ doubled q text
  pub utf8 : IsUtf8 old → IsUtf8 bytes
  pub rest_utf8 : IsUtf8 rest

pub doubling_start : (q : ℕ) (old text : List ℕ) → IsUtf8 text → Doubling q old text old text
doubling_start q old text u = record { same = refl; utf8 = λ h. h; rest_utf8 = u }

pub joined_utf8 : (old piece new : List ℕ) → new ≡ old ++ piece → IsUtf8 piece → IsUtf8 old → IsUtf8 new
joined_utf8 old piece new e u v = subst IsUtf8 (sym e) (IsUtf8-append old piece v u)

pub two_utf8 : (q : ℕ) → q < 128 → IsUtf8 (q ∷ q ∷ [])
two_utf8 q h = IsUtf8-append (q ∷ []) (q ∷ []) (one_ascii q h) (one_ascii q h)

pub doubling_step : (q : ℕ) (old text bytes rest front bytes' bytes'' tail : List ℕ) → q < 128 → Doubling q old text bytes rest → IsFront q rest front tail → bytes' ≡ bytes ++ front → bytes'' ≡ bytes' ++ q ∷ q ∷ [] → Doubling q old text bytes'' tail
doubling_step q old text bytes rest front bytes' bytes'' tail h d i e f = record {
  same = ap (λ u. u ++ doubled q tail) (f ∙ ap (λ u. u ++ q ∷ q ∷ []) e) ∙ append_assoc (bytes ++ front) (q ∷ q ∷ []) (doubled q tail) ∙ append_assoc bytes front (q ∷ q ∷ doubled q tail) ∙ ap (λ u. bytes ++ u) (sym i.cut) ∙ d.same;
  utf8 = λ u. joined_utf8 bytes' (q ∷ q ∷ []) bytes'' f (two_utf8 q h) (joined_utf8 bytes front bytes' e i.front_utf8 (d.utf8 u));
  rest_utf8 = i.tail_utf8;
}

pub run_last : (q : ℕ) (rest front : List ℕ) (o : Option (Bor (List ℕ))) → IsRun q rest front o → o ≡ None → IsUtf8 front
run_last q rest front o h e = (subst (λ x. IsRun q rest front x) e h).1

pub run_front : (q : ℕ) (rest front : List ℕ) (o : Option (Bor (List ℕ))) (tail : Bor (List ℕ)) → IsRun q rest front o → o ≡ Some tail → IsFront q rest front tail.now
run_front q rest front o tail h e = subst (λ x. IsRun q rest front x) e h
