-- The entries that a cache keeps by their targets.
use Rattle.std.specs.Prelude.{List, String, map, string_bytes}
use Rattle.lru.specs.LruCache.{LruCache}
use Rattle.cache_core.specs.Entries.{Cached}
use Rattle.cache_core.specs.declared.cache.Kept.{Kept}

abbrev pub cached : {A : Type 0} → String A × Kept → Cached
cached e = record { target = string_bytes e.0; reply = e.1.reply; put_at = e.1.put_at }

abbrev pub entries_in : {A : Type 0} → LruCache (String A) Kept → List Cached
entries_in c = map cached c.entries
