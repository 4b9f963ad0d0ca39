-- A law over the definition of what a request is answered.
use Rattle.std.specs.Prelude.{◌≡◌, ◌⊎◌, List, Err}
use Rattle.shape_base.specs.declared.served.Served.{Served}
use Rattle.http_edge.specs.declared.request.Request.{Request}
use Rattle.http_edge.specs.declared.refusal.Refusal.TheVariants as refusals
use Rattle.http_edge.specs.Route.{Routed, IsRouteAnswer}

-- A request and the served tables determine the answer: two answers are equal, unless memory was wanted.
abbrev pub RoutesTell : Type 0
RoutesTell = (tables : List Served) (request : Request) (a b : Routed) → IsRouteAnswer tables request a → IsRouteAnswer tables request b
    → (a ≡ b) ⊎ ((a ≡ Err refusals.OutOfMemory) ⊎ (b ≡ Err refusals.OutOfMemory))
