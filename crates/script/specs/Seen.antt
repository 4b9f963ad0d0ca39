-- A record as contracts see it.
use Rattle.script.specs.declared.record.Item as raw
use Rattle.script.specs.Records.{Item}

abbrev pub item_seen : raw.Item → Item
item_seen r = record { kind = r.kind; payload = r.payload.items }
