use Rattle.std.proofs.Common.{◌≡◌, ◌⊎◌, sym, subst}
use Rattle.where_parser.specs.View.{tree_of}
use Rattle.shape_def.specs.Clauses.{answer_in}
use Rattle.http_edge.specs.declared.refusal.Refusal.{Refusal}
use Rattle.http_edge.specs.declared.refusal.Refusal.TheVariants as refusals
use Rattle.http_edge.specs.Tried.{IsSyntaxRefusal}
use Rattle.http_edge.proofs.RouteLaws.{is_canonical, is_refused}
use Rattle.http_edge.proofs.route_values.canonical.Goals as goal

pub returns-in_ok-print-in-Ok-clause-read : goal.returns-in_ok-print-in-Ok-clause-read
returns-in_ok-print-in-Ok-clause-read c = is_canonical c.args.clause.now c.in_ok-print-in-Ok.field-0 (tree_of c.in-Ok.tree) c.in-Ok.ensures.tree c.in_ok-print-in-Ok.ensures.text

pub returns-in-Err-clause-refused : goal.returns-in-Err-clause-refused
returns-in-Err-clause-refused c = subst (λ (x : Refusal). (x ≡ refusals.OutOfMemory) ⊎ IsSyntaxRefusal (answer_in c.args.clause.now) x) (sym c.refusal_of.ensures) (is_refused c.args.clause.now c.in-Err.error (λ place e. c.in-Err.ensures.syntax place cc) (λ place e. c.in-Err.ensures.too_deep place cc))
