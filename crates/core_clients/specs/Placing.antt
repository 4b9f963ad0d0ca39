-- What a client's next target asks for.
use Rattle.std.specs.Prelude.{is_some, unwrap_or}
use Rattle.shape_base.specs.declared.ask.Ask.{Ask}
use Rattle.fold_client.specs.Client.{Held}
use Rattle.fold_client.specs.Following.{named_by}

-- what its first target asked for, from where it stands
abbrev pub placed_ask : Held → Ask → Ask
placed_ask c ask = record ask { named = named_by c.handle; offset = c.offset; live = is_some c.cursor; cursor = unwrap_or c.cursor 0 }
