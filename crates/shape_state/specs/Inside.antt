-- What commits that wait keep.
use Rattle.std.specs.Prelude.{◌≡◌}
use Rattle.std.specs.List.{AllByRecursion}
use Rattle.shape_base.specs.Transactions.{IsWhole, LsnsRise}
use Rattle.shape_json.specs.Body.{capped}
use Rattle.shape_json.specs.ShapeHistory.{pending_bytes}
use Rattle.shape_state.specs.declared.commits.Commits.TheInside.{Inside}

-- their bytes are counted, each is whole, and their LSNs rise
pub record IsBuffer (c : Inside) : Type 0 where
  pub counted : c.bytes ≡ capped (pending_bytes c.txs.items)
  pub whole : AllByRecursion IsWhole c.txs.items
  pub rise : LsnsRise 0 c.txs.items
