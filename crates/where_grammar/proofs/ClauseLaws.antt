-- The laws of clauses as texts.
use Rattle.std.proofs.Common.{◌≡◌, ℕ, List, sym, ap, subst}
use Rattle.where_lexer.specs.Texts.{AreTokens}
use Rattle.where_lexer.proofs.Lemmas.{text_again, scanned_tokens}
use Rattle.where_grammar.specs.Tree.{Tree}
use Rattle.where_grammar.specs.Printing.{canonical}
use Rattle.where_grammar.specs.Meaning.{IsClause}
use Rattle.where_grammar.specs.Clause.{tokens_in, IsClauseText, canonical_text, PrintedAgain, OneTree, OneCanonicalText, IsAgain}
use Rattle.where_grammar.proofs.Exactly.{same_tree}
use Rattle.where_grammar.proofs.Printed.{clause_fits, printed}
use Rattle.where_grammar.proofs.Named.{clause_named, canonical_tokens}

pub printed_again : PrintedAgain
printed_again depth text tree s =
    let good : AreTokens (canonical tree) = canonical_tokens tree depth (clause_fits depth (tokens_in text) tree s.clause) (clause_named depth (tokens_in text) tree (scanned_tokens text) s.clause) in
    let again = text_again (canonical tree) good in
    record {
      clause = subst (λ ts. IsClause depth ts tree) (sym again.0) (printed depth tree (clause_fits depth (tokens_in text) tree s.clause));
      whole = again.1;
    }

pub one_tree : OneTree
one_tree depth depth' text tree tree' s s' = same_tree depth (tokens_in text) tree s.clause depth' tree' s'.clause

pub one_canonical_text : OneCanonicalText
one_canonical_text depth depth' text text' tree tree' s s' = (
  λ e. sym (one_tree depth depth' (canonical_text tree) tree tree' (printed_again depth text tree s) (subst (λ t. IsClauseText depth' t tree') (sym e) (printed_again depth' text' tree' s'))),
  λ e. ap canonical_text e,
)

pub is_again : (tree : Tree) (printed : List ℕ) → printed ≡ canonical_text tree → IsAgain tree printed
is_again tree printed e = λ depth text s. subst (λ t. IsClauseText depth t tree) (sym e) (printed_again depth text tree s)
