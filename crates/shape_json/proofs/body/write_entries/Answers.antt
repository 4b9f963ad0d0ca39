use Rattle.std.proofs.Common.{◌≡◌, ◌++◌, List, ℕ, ap, ap₂, ◌∙◌, codes}
use Rattle.shape_json.specs.Body.{inner_text}
use Rattle.shape_json.specs.Buffer.{ending}
use Rattle.shape_json.proofs.Writing.{joins}
use Rattle.shape_json.proofs.Endings.{is_empty, no_length, body_is}
use Rattle.shape_json.proofs.body.write_entries.Goals as goal

pub returns : goal.returns
returns c =
    let es = c.args.entries.now in
    let alone : c.is_empty.result ≡ is_empty es = c.is_empty.ensures ∙ no_length c.as_slice-entries.result.now ∙ ap is_empty c.as_slice-entries.ensures in
    let written = joins (joins c.put.ensures c.put_entries.ensures) c.put-2.ensures in
    c.of_bytes.ensures ∙ written.is ∙ ap (λ (l : List ℕ). l ++ (codes "[" ++ inner_text c.as_slice-entries.result.now ++ c.ending-ending.result.now)) c.in_ok-out.ensures.items
    ∙ ap₂ (λ (i t : List ℕ). codes "[" ++ i ++ t) (ap inner_text c.as_slice-entries.ensures) (c.ending-ending.ensures ∙ ap (λ b. ending b c.args.control) alone) ∙ body_is es c.args.control
