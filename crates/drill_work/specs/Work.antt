-- The events of a drill.
use Rattle.std.specs.Prelude.{ℕ, Bool, true, false, List, [], ◌∷◌, codes, Option, None, Some}
use Rattle.core_events.specs.declared.event.Event.{Event}
use Rattle.core_events.specs.declared.event.Event.TheVariants as events
use Rattle.drill_work.specs.declared.drill.Turn.{Turn}
use Rattle.drill_work.specs.declared.drill.Turn.TheVariants.{Streams, Asks, Gives}
use Rattle.drill_work.specs.declared.notes.Note.{Note}
use Rattle.drill_work.specs.Messages.{streamed_events}
use Rattle.drill_work.specs.Notes.{given}

abbrev pub new_client : List ℕ → Event
new_client query = events.NewClient query

-- Four clients: with no clause, and with `n < 50`, `n >= 50` and `n = 7 OR s = 'k'`, as web forms.
abbrev pub opening : List Event
opening =
    new_client (codes "table=items")
    ∷ new_client (codes "table=items&where=n+%3C+50")
    ∷ new_client (codes "table=items&where=n+%3E%3D+50")
    ∷ new_client (codes "table=items&where=n+%3D+7+OR+s+%3D+%27k%27") ∷ []

-- a client takes the reply of an earlier exchange, or watches
abbrev pub asked_of : ℕ → Option ℕ → Event
asked_of client None = events.Watch client
asked_of client (Some exchange) = events.Receive client exchange

-- an earlier exchange counts only where the client looks for one
abbrev pub asked_by : ℕ → Bool → Option ℕ → Event
asked_by client true earlier_exchange = asked_of client earlier_exchange
asked_by client false earlier_exchange = asked_of client None

-- What a round asks of the core, by the notes, by the exchanges that own a snapshot under way, and by the first earlier exchange with a reply to the client's next request.
abbrev pub turn_events : Turn → List Note → List ℕ → Option ℕ → List Event
turn_events (Streams commits) notes under_way earlier_exchange = streamed_events commits
turn_events (Asks client earlier) notes under_way earlier_exchange = asked_by client earlier earlier_exchange ∷ []
turn_events (Gives now) notes under_way earlier_exchange = given notes under_way now
