use Rattle.std.proofs.Common.{◌≡◌, ◌++◌, IfSome, option_map}
use Rattle.std.specs.Str.{IsUtf8}
use Rattle.form_urlencoded.specs.Form.{split}
use Rattle.http_edge.specs.ReplySeen.{seen}
use Rattle.http_edge.specs.Tried.{pieces_of}
use Rattle.http_edge.proofs.NameLaws.{left_in}
use Rattle.http_edge.proofs.route_values.names_in.Given as goal

abbrev pub invariant-names : goal.invariant-names
invariant-names l = (split 44 l.fn.names ≡ l.out ++ pieces_of (option_map seen l.rest)) × IfSome (option_map seen l.rest) IsUtf8

abbrev pub decreases-names : goal.decreases-names
decreases-names l = left_in (option_map seen l.rest)
