use Rattle.std.proofs.Common.{◌≡◌, List, ℕ, Some, Option, option_and_then, sym, ap, ◌∙◌}
use Rattle.serde_json.specs.Data.{Data}
use Rattle.serde_json.specs.Find.{as_str}
use Rattle.shape_base.specs.declared.offset.Offset.{Offset}
use Rattle.shape_base.specs.declared.offset.Offset.TheVariants.{Start, At}
use Rattle.shape_base.specs.OffsetText.{offset_text}
use Rattle.shape_json.proofs.Offsets.{offset_once}
use Rattle.shape_json.proofs.Reading.{some_string}
use Rattle.shape_json.proofs.read.offset_in.Goals as goal

pub returns-in-Ok-Start : goal.returns-in-Ok-Start
returns-in-Ok-Start c o small e =
    let found : ◌≡◌ {A = Option (List ℕ)} (Some c.in_ok-string_in.field-0.now) (Some (offset_text o)) = c.in_ok-string_in.ensures ∙ ap (λ (d : Option Data). option_and_then as_str d) e in
    let text : offset_text c.in-Ok-Start.field-0 ≡ offset_text o = sym c.in-Ok-Start.ensures.read ∙ c.as_bytes.ensures.value ∙ some_string _ _ found in
    ap (λ (p : Offset). Some p) (offset_once Start o tt small (ap offset_text (sym c.in-Ok-Start.field-0-is) ∙ text))

pub returns-in-Ok-At : goal.returns-in-Ok-At
returns-in-Ok-At c o small e =
    let found : ◌≡◌ {A = Option (List ℕ)} (Some c.in_ok-string_in.field-0.now) (Some (offset_text o)) = c.in_ok-string_in.ensures ∙ ap (λ (d : Option Data). option_and_then as_str d) e in
    let text : offset_text c.in-Ok-At.field-0 ≡ offset_text o = sym c.in-Ok-At.ensures.read ∙ c.as_bytes.ensures.value ∙ some_string _ _ found in
    ap (λ (p : Offset). Some p) (c.position.ensures.at ∙ offset_once (At c.in-Ok-At.lsn c.in-Ok-At.pos) o c.position.ensures.bits small (ap offset_text (sym c.in-Ok-At.field-0-is) ∙ text))
