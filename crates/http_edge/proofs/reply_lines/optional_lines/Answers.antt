use Rattle.std.proofs.Common.{option_map, arith}
use Rattle.std.proofs.lemmas.Grind.{common_steps}
use Rattle.http_edge.specs.ReplySeen.{seen}
use Rattle.http_edge.proofs.ChainLaws.{optional_made, optional_none}
use Rattle.http_edge.proofs.reply_lines.optional_lines.Goals as goal

pub returns-clause-read : goal.returns-clause-read
returns-clause-read c = optional_made _ _ _ _ _ _ _ _ _ c.in_ok-handle.ensures.read c.in_ok-offset.ensures.read c.in_ok-schema.ensures.read c.in_ok-cursor.ensures.read

pub returns-in_err-cursor-clause-read : goal.returns-in_err-cursor-clause-read
returns-in_err-cursor-clause-read c = grind (
  arith,
  common_steps,
  optional_none c.args.text.now c.in_ok-handle.text.now c.in_ok-offset.text.now c.in_ok-schema.text.now (option_map seen c.in_ok-handle.handle) (option_map seen c.in_ok-offset.offset) (option_map seen c.in_ok-schema.schema)
      c.in_ok-handle.ensures.read c.in_ok-offset.ensures.read c.in_ok-schema.ensures.read c.in_err-cursor.ensures.read,
)
