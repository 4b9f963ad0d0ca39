-- What an event comes to, once its bytes are read: something that happens to the server and its clients, nothing, or a cause for which it does not fit.
use Rattle.std.specs.Prelude.{◌≡◌, ℕ, ◌⊎◌, true, List, None, Some, Result, Ok, Err}
use Rattle.shape_base.specs.declared.served.Served.{Served}
use Rattle.http_edge.specs.declared.error_code.ErrorCode.{ErrorCode}
use Rattle.http_edge.specs.declared.error_code.ErrorCode.TheVariants as codes
use Rattle.http_edge.specs.declared.request.Request.{Request}
use Rattle.http_edge.specs.declared.request.HeadError.{HeadError}
use Rattle.http_edge.specs.declared.request.HeadError.TheVariants as heads
use Rattle.http_edge.specs.Head.{HasMore, IsHeadAnswer}
use Rattle.http_edge.specs.Route.{Routed, IsRouted}
use Rattle.http_edge.specs.Lawful.{Asked, Refuses, AsksFor}
use Rattle.fold_client.specs.declared.client.Query.{Query}
use Rattle.fold_client.specs.Client.{nothing_held}
use Rattle.fold_client.specs.Target.{target_text}
use Rattle.core_events.specs.declared.out.Unfit.{Unfit}
use Rattle.core_events.specs.declared.out.Unfit.TheVariants as unfit
use Rattle.core_law.specs.Laws.{get_of}
use Rattle.core_law.specs.Run.{RequestCame, HeadCut, Joined}
use Rattle.core_law.specs.Run as law
use Rattle.core_clients.specs.QueryForm.{IsQueryForm}
use Rattle.core_machine.specs.Firsts.{code_of}

pub data Reading : Type 0 where
  -- nothing happens to the server and its clients
  Passes : Reading
  Brings : (event : law.Event) → Reading
  Misfits : (cause : Unfit) → Reading

-- ---- requests

-- what was routed, as it is asked for
abbrev pub asked_as : Routed → Asked
asked_as (Ok ask) = AsksFor ask
asked_as (Err refusal) = Refuses (code_of refusal)

-- a request came with its target and what that asks for
pub record IsRequest (tables : List Served) (request : Request) (reading : Reading) : Type 0 where
  pub routed : Routed
  pub is : IsRouted tables request routed
  pub reads : reading ≡ Brings (RequestCame (Some request.target) (asked_as routed) request.close)

-- a head that is refused has no target, and its connection ends with the reply
abbrev pub refused_head : ErrorCode → Reading
refused_head code = Brings (RequestCame None (Refuses code) true)

-- What a head comes to, by how it is answered: it may be cut off.
abbrev pub IsOfHead : List Served → Result Request HeadError → Reading → Type 0
IsOfHead tables (Ok request) reading = IsRequest tables request reading
IsOfHead tables (Err heads.Partial) reading = reading ≡ Brings HeadCut
IsOfHead tables (Err heads.HeadTooLong) reading = reading ≡ refused_head codes.HeadTooLong
IsOfHead tables (Err heads.BadHead) reading = reading ≡ refused_head codes.BadHead
IsOfHead tables (Err heads.BodyRefused) reading = reading ≡ refused_head codes.BodyRefused
IsOfHead tables (Err heads.OutOfMemory) reading = ⊥

pub record IsHeadRead (tables : List Served) (bytes : List ℕ) (reading : Reading) : Type 0 where
  pub answer : Result Request HeadError
  pub is : IsHeadAnswer bytes answer
  pub reads : IsOfHead tables answer reading

-- The bytes of a request's head: they do not fit where more bytes follow a whole head.
abbrev pub ReadsHead : List Served → List ℕ → Reading → Type 0
ReadsHead tables bytes reading = (HasMore bytes × (reading ≡ Misfits unfit.BadPayload)) ⊎ ((HasMore bytes → ⊥) × IsHeadRead tables bytes reading)

-- ---- clients

-- a client joins with a query, and what a GET of its first target asks for
pub record IsJoining (tables : List Served) (bytes : List ℕ) (reading : Reading) : Type 0 where
  pub query : Query
  pub form : IsQueryForm bytes query
  pub routed : Routed
  pub is : IsRouted tables (get_of (target_text query nothing_held)) routed
  pub reads : reading ≡ Brings (Joined query (asked_as routed))

-- The web form of a client's query.
abbrev pub ReadsQuery : List Served → List ℕ → Reading → Type 0
ReadsQuery tables bytes reading = (((query : Query) → IsQueryForm bytes query → ⊥) × (reading ≡ Misfits unfit.BadPayload)) ⊎ IsJoining tables bytes reading
