-- Laws over the definitions.
use Rattle.std.specs.Prelude.{◌≤◌, List, ◌++◌, length}
use Rattle.shape_base.specs.declared.registry_event.RegistryEvent.{RegistryEvent}
use Rattle.http_edge.specs.World.{World, Given, IsGoodWorld}
use Rattle.http_edge.specs.Lawful.{Asked, IsLawful}
use Rattle.http_edge.specs.Fair.{IsFair}

-- In a good history a lawful reply is fair.
abbrev pub LawfulIsFair : Type 0
LawfulIsFair = (w : World) (asked : Asked) (g : Given) → IsGoodWorld w → IsLawful w asked g → IsFair w asked g

-- A reply that was fair stays so, whatever happens to the registry later.
abbrev pub FairStays : Type 0
FairStays = (w : World) (later : List RegistryEvent) (asked : Asked) (g : Given) → g.seen ≤ length w.events → IsFair w asked g → IsFair (record w { events = w.events ++ later }) asked g
