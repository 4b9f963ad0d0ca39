use Rattle.std.proofs.Common.{◌≡◌, ◌++◌, List, ℕ, ap, ap₂, ◌∙◌, codes}
use Rattle.shape_json.specs.Buffer.{ending}
use Rattle.shape_json.proofs.Writing.{joins}
use Rattle.shape_json.proofs.Endings.{is_empty, no_length, is_empty-inner_text, body_is}
use Rattle.shape_json.proofs.body.close_body.Goals as goal

pub returns : goal.returns
returns c es h =
    let alone : c.is_empty.result ≡ is_empty es = c.is_empty.ensures ∙ no_length c.args.inner.now ∙ ap is_empty h ∙ is_empty-inner_text es in
    let written = joins (joins c.put.ensures c.put_bytes.ensures) c.put-2.ensures in
    c.of_bytes.ensures ∙ written.is ∙ ap (λ (l : List ℕ). l ++ (codes "[" ++ c.args.inner.now ++ c.ending-ending.result.now)) c.in_ok-out.ensures.items
    ∙ ap₂ (λ (i t : List ℕ). codes "[" ++ i ++ t) h (c.ending-ending.ensures ∙ ap (λ b. ending b c.args.control) alone) ∙ body_is es c.args.control
