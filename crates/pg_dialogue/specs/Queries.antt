-- What the client writes (PostgreSQL manual, 55.7 Message Formats, 55.4 Streaming Replication Protocol).
use Rattle.std.specs.Prelude.{ℕ, ◌+◌, ◌<◌, ◌^◌, ◌==◌, if◌then◌else◌, List, [], ◌∷◌, ◌++◌, length, codes}
use Rattle.std.specs.List.{flat_map}
use Rattle.byte_format.specs.Format.{int32, string}
use Rattle.shape_base.specs.Shape.{quoted}
use Rattle.shape_base.specs.declared.served.Served.{Served}
use Rattle.pg_dialogue.specs.declared.login.Login.{Login}

-- a name and its value
abbrev pub pair : List ℕ → List ℕ → List ℕ
pair name value = string.spell name ++ string.spell value

-- StartupMessage: Int32 length, Int32 protocol version 3.0, names and values, and a zero byte
abbrev pub startup_message : List ℕ → List ℕ
startup_message pairs = int32.spell (9 + length pairs) ++ int32.spell 196608 ++ pairs ++ 0 ∷ []

-- Query: Byte1('Q'), Int32 length, String query
abbrev pub query : List ℕ → List ℕ
query text = 81 ∷ int32.spell (5 + length text) ++ string.spell text

-- who asks, and of which database
abbrev pub user_pairs : Login → List ℕ
user_pairs l = pair (codes "user") l.user ++ pair (codes "database") l.database

unfoldable pub startup : Login → List ℕ
startup l = startup_message (user_pairs l)

-- for a replication connection that knows the database
unfoldable pub replication_startup : Login → List ℕ
replication_startup l = startup_message (user_pairs l ++ pair (codes "replication") (codes "database"))

unfoldable pub begin_query : List ℕ
begin_query = query (codes "BEGIN ISOLATION LEVEL REPEATABLE READ READ ONLY")

unfoldable pub snapshot_query : List ℕ
snapshot_query = query (codes "SELECT pg_current_snapshot()")

unfoldable pub commit_query : List ℕ
commit_query = query (codes "COMMIT")

-- all rows of the table, each quote in its names doubled
abbrev pub select : Served → List ℕ
select t = codes "SELECT * FROM " ++ quoted t.ns ++ 46 ∷ quoted t.name

unfoldable pub select_query : Served → List ℕ
select_query t = query (select t)

-- no row of the table
unfoldable pub describe_query : Served → List ℕ
describe_query t = query (select t ++ codes " LIMIT 0")

-- an apostrophe twice, each other byte once
abbrev pub apostrophes : ℕ → List ℕ
apostrophes b = if b == 39 then 39 ∷ 39 ∷ [] else b ∷ []

-- the changes of the publication in the slot, from where the slot stands; each quote in the names doubled, and each apostrophe in the publication's
abbrev pub start_replication : Login → List ℕ
start_replication l = codes "START_REPLICATION SLOT " ++ quoted l.slot ++ codes " LOGICAL 0/0 (proto_version '1', publication_names '" ++ flat_map apostrophes (quoted l.publication) ++ codes "')"

unfoldable pub start_query : Login → List ℕ
start_query l = query (start_replication l)

-- The names are so short that each message has a length of 32 bits.
pub record IsShortLogin (l : Login) : Type 0 where
  pub user : length l.user < 2 ^ 29
  pub database : length l.database < 2 ^ 29
  pub slot : length l.slot < 2 ^ 29
  pub publication : length l.publication < 2 ^ 29

pub record IsShortName (t : Served) : Type 0 where
  pub ns : length t.ns < 2 ^ 29
  pub name : length t.name < 2 ^ 29
