use Rattle.std.proofs.Common.{◌≡◌, ap, ◌∙◌, rules}
use Rattle.where_lexer.specs.Texts.{text_of}
use Rattle.where_lexer.proofs.Writes.{written_text}
use Rattle.where_lexer.proofs.writing.Writer.into_text.Goals as goal

pub returns-clause-canonical : goal.returns-clause-canonical
returns-clause-canonical c = λ ts e. let same : c.args.self.text ≡ text_of ts = ap (λ w. w.text) e ∙ written_text ts in let made : c.of_bytes.result ≡ c.args.self.text = search rules in made ∙ same
