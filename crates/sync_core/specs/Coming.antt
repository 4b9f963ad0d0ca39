-- What the program's readings of heads and queries stand for.
use Rattle.std.specs.Prelude.{◌≡◌, ◌⊎◌, ◌<◌, ℕ, List, length}
use Rattle.shape_base.specs.declared.served.Served.{Served}
use Rattle.http_edge.specs.declared.error_code.ErrorCode.{ErrorCode}
use Rattle.http_edge.specs.Head.{HasMore}
use Rattle.http_edge.specs.Route.{Routed, IsRouted}
use Rattle.fold_client.specs.declared.client.Query.{Query}
use Rattle.fold_client.specs.Client.{nothing_held}
use Rattle.fold_client.specs.Target.{target_text}
use Rattle.core_events.specs.declared.out.Unfit.TheVariants as unfit
use Rattle.core_law.specs.Laws.{get_of}
use Rattle.core_law.specs.Run.{RequestCame, HeadCut, Joined}
use Rattle.core_exchanges.specs.declared.exchange.Asked.{Asked}
use Rattle.core_exchanges.specs.declared.exchange.Asked.TheVariants as asks
use Rattle.core_exchanges.specs.Standing.{asked_of}
use Rattle.core_machine.specs.Firsts.{first_asked, IsServedFirst}
use Rattle.sync_core.specs.declared.reading.Coming.{Coming}
use Rattle.sync_core.specs.declared.reading.Coming.TheVariants as comings
use Rattle.sync_core.specs.declared.reading.Joining.{Joining}
use Rattle.sync_core.specs.declared.reading.Joining.TheVariants as joinings
use Rattle.sync_core.specs.Reading.{Reading, Brings, Misfits, asked_as, refused_head}

abbrev pub reading_of : Coming → Reading
reading_of (comings.Request target asked close) = Brings (RequestCame target (asked_of asked) close)
reading_of comings.Cut = Brings HeadCut
reading_of comings.More = Misfits unfit.BadPayload

abbrev pub joining_of : Joining → Reading
joining_of (joinings.Query query first) = Brings (Joined query (first_asked first))
joining_of joinings.Unread = Misfits unfit.BadPayload

-- a client with this query joins, and a GET of its first target was routed
pub record JoinsWith (tables : List Served) (query : Query) (reading : Reading) : Type 0 where
  pub routed : Routed
  pub is : IsRouted tables (get_of (target_text query nothing_held)) routed
  pub reads : reading ≡ Brings (Joined query (asked_as routed))

-- a refused head behind which more bytes may stand
abbrev pub IsRefusedWhole : List ℕ → ErrorCode → Coming → Type 0
IsRefusedWhole bytes code coming = (HasMore bytes × (coming ≡ comings.More)) ⊎ ((HasMore bytes → ⊥) × (reading_of coming ≡ refused_head code))

-- what is asked for is of a served table
abbrev pub IsServedAsk : List Served → Asked → Type 0
IsServedAsk tables (asks.Refused code) = Unit {0}
IsServedAsk tables (asks.AsksFor ask) = ask.table < length tables

abbrev pub IsServedIn : List Served → Coming → Type 0
IsServedIn tables (comings.Request target asked close) = IsServedAsk tables asked
IsServedIn tables comings.Cut = Unit {0}
IsServedIn tables comings.More = Unit {0}

abbrev pub IsServedJoining : List Served → Joining → Type 0
IsServedJoining tables (joinings.Query query first) = IsServedFirst tables first
IsServedJoining tables joinings.Unread = Unit {0}
