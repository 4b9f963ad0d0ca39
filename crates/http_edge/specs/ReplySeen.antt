-- What contracts see of the parts of a head that borrow its bytes.
use Rattle.std.specs.Prelude.{ℕ, List, Option, option_map}
use Rattle.std.specs.Borrow.{Bor}
use Rattle.http_edge.specs.declared.reply_lines.FixedLines.{FixedLines}
use Rattle.http_edge.specs.declared.reply_lines.OptionalLines.{OptionalLines}
use Rattle.http_edge.specs.declared.reply_lines.ReplyLines.{ReplyLines}
use Rattle.http_edge.specs.ReplyLines.{Fixed, Optional, Lines}

abbrev pub seen : Bor (List ℕ) → List ℕ
seen bytes = bytes.now

abbrev pub seen_pair : Bor (List ℕ) × Bor (List ℕ) → List ℕ × List ℕ
seen_pair p = (p.0.now, p.1.now)

abbrev pub seen_maybe : Option (Bor (List ℕ)) × Bor (List ℕ) → Option (List ℕ) × List ℕ
seen_maybe p = (option_map seen p.0, p.1.now)

abbrev pub seen_fixed : FixedLines → Fixed
seen_fixed f = record { status = f.status.now; kind = f.kind.now; length = f.length.now; cache = f.cache.now }

abbrev pub seen_optional : OptionalLines → Optional
seen_optional o = record { handle = option_map seen o.handle; offset = option_map seen o.offset; schema = option_map seen o.schema; cursor = option_map seen o.cursor }

abbrev pub seen_lines : ReplyLines → Lines
seen_lines l = record { fixed = seen_fixed l.fixed; optional = seen_optional l.optional; allow = l.allow; close = l.close }
