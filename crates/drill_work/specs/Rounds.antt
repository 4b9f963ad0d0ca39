-- The rounds of a drill.
use Rattle.std.specs.Prelude.{◌≡◌, ℕ, zero, suc, ◌+◌, ◌*◌, ◌≤◌, ◌==◌, nat_lt, if◌then◌else◌, List, [], ◌∷◌, ◌++◌}
use Rattle.drill_work.specs.declared.plain.Plain.{Plain}
use Rattle.drill_work.specs.declared.plain.Statement.{Statement}
use Rattle.drill_work.specs.declared.plain.Statement.TheVariants.{Truncate}
use Rattle.drill_work.specs.declared.drill.Drill.{Drill}
use Rattle.drill_work.specs.declared.drill.Turn.{Turn}
use Rattle.drill_work.specs.declared.drill.Turn.TheVariants.{Streams, Asks, Gives}
use Rattle.drill_work.specs.Chance.{after, drawn}
use Rattle.drill_work.specs.Changes.{AllChanges, changes}

-- what a round brings, and the drill after it
pub record Rounded : Type 0 where
  pub turn : Turn
  pub drill : Drill

abbrev pub rounded : Turn → Drill → Rounded
rounded turn d = record { turn = turn; drill = d }

-- the drill of a number, before its first round: the table is empty, and the first id is 1
abbrev pub begun : ℕ → Drill
begun n = record { chance = record { state = n }; plain = record { rows = []; fresh = 1 }; commits = 0; queue = []; rounds = 0 }

-- the drill after numbers were drawn
abbrev pub drawn_to : ℕ → Drill → Drill
drawn_to x d = record { chance = record { state = x }; plain = d.plain; commits = d.commits; queue = d.queue; rounds = d.rounds }

-- the drill with another table
abbrev pub with_table : Plain → Drill → Drill
with_table t d = record { chance = d.chance; plain = t; commits = d.commits; queue = d.queue; rounds = d.rounds }

-- a commit of these changes is made and queued
abbrev pub enqueued : List Statement → Drill → Drill
enqueued ss d = record { chance = d.chance; plain = d.plain; commits = d.commits + 1; queue = d.queue ++ record { number = d.commits; statements = ss } ∷ []; rounds = d.rounds }

-- the queue is empty
abbrev pub emptied : Drill → Drill
emptied d = record { chance = d.chance; plain = d.plain; commits = d.commits; queue = []; rounds = d.rounds }

-- the whole queue is streamed
abbrev pub streamed : Drill → Rounded
streamed d = rounded (Streams d.queue) (emptied d)

-- nothing is streamed
abbrev pub kept : Drill → Rounded
kept d = rounded (Streams []) d

-- the queue waits in one of three cases
abbrev pub released_by : ℕ → Drill → Rounded
released_by n d = if n == 0 then kept d else streamed d

abbrev pub committed_as : AllChanges → Drill → Rounded
committed_as c d = released_by (drawn 3 c.state) (drawn_to (after c.state) (enqueued c.statements (with_table c.plain d)))

-- a commit of one to four changes is made and queued
unfoldable pub committed : Drill → Rounded
committed d = committed_as (changes (1 + drawn 4 d.chance.state) (after d.chance.state) d.plain) d

-- no row is left, and ids are not used again
abbrev pub without_rows : Plain → Plain
without_rows t = record { rows = []; fresh = t.fresh }

abbrev pub truncated_by : ℕ → Drill → Rounded
truncated_by n d = if n == 0 then streamed (enqueued (Truncate ∷ []) (with_table (without_rows d.plain) d)) else kept d

-- in one of fifty cases a commit with one truncation is made and queued, and the queue is streamed
unfoldable pub truncated : Drill → Rounded
truncated d = truncated_by (drawn 50 d.chance.state) (drawn_to (after d.chance.state) d)

-- one of four clients; in one of four cases it looks for an earlier reply
unfoldable pub asked : Drill → Rounded
asked d = rounded (Asks (drawn 4 d.chance.state) (drawn 4 (after d.chance.state) == 0)) (drawn_to (after (after d.chance.state)) d)

-- snapshots get their rows, and twenty seconds are gone for each round
abbrev pub gave : Drill → Rounded
gave d = rounded (Gives (20000 * (d.rounds + 1))) d

-- six of ten rounds commit, one may truncate, two are a client's, and one gives
unfoldable pub turn_by : ℕ → Drill → Rounded
turn_by a d = if nat_lt a 6 then committed d else if a == 6 then truncated d else if nat_lt a 9 then asked d else gave d

-- one round more was run
abbrev pub counted : Rounded → Rounded
counted r = rounded r.turn (record { chance = r.drill.chance; plain = r.drill.plain; commits = r.drill.commits; queue = r.drill.queue; rounds = r.drill.rounds + 1 })

-- One round.
unfoldable pub round : Drill → Rounded
round d = counted (turn_by (drawn 10 d.chance.state) (drawn_to (after d.chance.state) d))

abbrev pub then_turns : (Drill → List Turn) → Rounded → List Turn
then_turns others r = r.turn ∷ others r.drill

-- what the next n rounds bring
unfoldable pub turns : ℕ → Drill → List Turn
turns zero d = []
turns (suc n) d = then_turns (turns n) (round d)

-- Numbers stay small: a commit uses at most four ids, a round makes at most one commit, and there are at most 2,000 rounds.
pub record IsSound (d : Drill) : Type 0 where
  pub ids : d.plain.fresh ≤ 4 * d.commits + 1
  pub commits : d.commits ≤ d.rounds
  pub rounds : d.rounds ≤ 2000

-- at most one commit more, and at most four ids for each
pub record IsWithin (d e : Drill) : Type 0 where
  pub rounds : e.rounds ≡ d.rounds
  pub commits : e.commits ≤ d.commits + 1
  pub ids : e.plain.fresh + 4 * d.commits ≤ d.plain.fresh + 4 * e.commits
