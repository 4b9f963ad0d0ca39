-- The loop that writes the members of a list.
use Rattle.std.proofs.Common.{◌≡◌, ℕ, ◌++◌, sym, ap, ◌∙◌}
use Rattle.where_lexer.specs.declared.token.Token.{Token}
use Rattle.where_lexer.specs.Writing.{Written, put, with_tokens}
use Rattle.where_lexer.proofs.Lemmas.{written_append, written_first}
use Rattle.where_grammar.specs.Tree.{Tree, Trees, TreeAnd}
use Rattle.where_grammar.specs.Printing.{part, others}

pub others_step : (start before behind after : Written) (word : Token) (need : ℕ) (list left : Trees) (e : Tree) (rest : Trees) → with_tokens before (others word need left) ≡ with_tokens start (others word need list) → left ≡ TreeAnd e rest → behind ≡ put before word → after ≡ with_tokens behind (part need e) → with_tokens after (others word need rest) ≡ with_tokens start (others word need list)
others_step start before behind after word need list left e rest i l p q =
    ap (λ u. with_tokens u (others word need rest)) (q ∙ ap (λ u. with_tokens u (part need e)) p)
    ∙ sym (written_append (put before word) (part need e) (others word need rest))
    ∙ sym (written_first before word (part need e ++ others word need rest))
    ∙ ap (λ u. with_tokens before (others word need u)) (sym l) ∙ i
