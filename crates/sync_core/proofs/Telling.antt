-- An event comes to one thing.
use Rattle.std.proofs.Common.{◌≡◌, ◌⊎◌, inl, inr, ℕ, List, sym, ap, subst, ◌∙◌, Some, Result, Ok, Err}
use Rattle.shape_base.specs.declared.served.Served.{Served}
use Rattle.http_edge.specs.declared.request.Request.{Request}
use Rattle.http_edge.specs.declared.request.HeadError.{HeadError}
use Rattle.http_edge.specs.declared.request.HeadError.TheVariants as heads
use Rattle.http_edge.specs.declared.refusal.Refusal.TheVariants as refusals
use Rattle.http_edge.specs.HeadLaws.{HeadsTell}
use Rattle.http_edge.specs.RouteLaws.{RoutesTell}
use Rattle.http_edge.specs.Route.{Routed, IsRouted}
use Rattle.fold_client.specs.declared.client.Query.{Query}
use Rattle.fold_client.specs.Client.{nothing_held}
use Rattle.fold_client.specs.Target.{target_text}
use Rattle.core_events.specs.declared.event.Event.TheVariants as events
use Rattle.core_law.specs.Laws.{get_of}
use Rattle.core_law.specs.Run.{RequestCame, Joined}
use Rattle.core_clients.specs.Laws.{FormsTell}
use Rattle.sync_core.specs.Reading.{Reading, Brings, asked_as, IsRequest, IsOfHead, IsHeadRead, ReadsHead, IsJoining, ReadsQuery}
use Rattle.sync_core.specs.Laws.{ReadingsTell}
use Rattle.sync_core.proofs.Readings.{never_out}

same : {A : Type 0} {x y z : A} → x ≡ z → y ≡ z → x ≡ y
same a b = a ∙ sym b

module _ (routes : RoutesTell) (tables : List Served) where
  one_routed : (request : Request) (a b : Routed) → IsRouted tables request a → IsRouted tables request b → a ≡ b
  one_routed request a b x y = pick (routes tables request a b (inr x) (inr y))
    where
      pick : (a ≡ b) ⊎ ((a ≡ Err refusals.OutOfMemory) ⊎ (b ≡ Err refusals.OutOfMemory)) → a ≡ b
      pick (inl is) = is
      pick (inr (inl out)) = absurd (never_out tables request (subst (λ (r : Routed). IsRouted tables request r) out x))
      pick (inr (inr out)) = absurd (never_out tables request (subst (λ (r : Routed). IsRouted tables request r) out y))

  -- ---- heads

  one_request : (request : Request) (a b : Reading) → IsRequest tables request a → IsRequest tables request b → a ≡ b
  one_request request a b x y = x.reads ∙ ap (λ (r : Routed). Brings (RequestCame (Some request.target) (asked_as r) request.close)) (one_routed request x.routed y.routed x.is y.is) ∙ sym y.reads

  one_of_head : (answer : Result Request HeadError) (a b : Reading) → IsOfHead tables answer a → IsOfHead tables answer b → a ≡ b
  one_of_head (Ok request) a b x y = one_request request a b x y
  one_of_head (Err heads.Partial) a b x y = same x y
  one_of_head (Err heads.HeadTooLong) a b x y = same x y
  one_of_head (Err heads.BadHead) a b x y = same x y
  one_of_head (Err heads.BodyRefused) a b x y = same x y
  one_of_head (Err heads.OutOfMemory) a b x y = absurd x

  one_head_read : HeadsTell → (bytes : List ℕ) (a b : Reading) → IsHeadRead tables bytes a → IsHeadRead tables bytes b → a ≡ b
  one_head_read tell bytes a b x y = pick (tell bytes x.answer y.answer x.is y.is)
    where
      pick : (x.answer ≡ y.answer) ⊎ ((x.answer ≡ Err heads.OutOfMemory) ⊎ (y.answer ≡ Err heads.OutOfMemory)) → a ≡ b
      pick (inl is) = one_of_head y.answer a b (subst (λ (r : Result Request HeadError). IsOfHead tables r a) is x.reads) y.reads
      pick (inr (inl out)) = absurd (subst (λ (r : Result Request HeadError). IsOfHead tables r a) out x.reads)
      pick (inr (inr out)) = absurd (subst (λ (r : Result Request HeadError). IsOfHead tables r b) out y.reads)

  one_head : HeadsTell → (bytes : List ℕ) (a b : Reading) → ReadsHead tables bytes a → ReadsHead tables bytes b → a ≡ b
  one_head tell bytes a b (inl x) (inl y) = same x.1 y.1
  one_head tell bytes a b (inl x) (inr y) = absurd (y.0 x.0)
  one_head tell bytes a b (inr x) (inl y) = absurd (x.0 y.0)
  one_head tell bytes a b (inr x) (inr y) = one_head_read tell bytes a b x.1 y.1

  -- ---- queries

  one_joining : FormsTell → (bytes : List ℕ) (a b : Reading) → IsJoining tables bytes a → IsJoining tables bytes b → a ≡ b
  one_joining tell bytes a b x y =
      let query : x.query ≡ y.query = tell bytes x.query y.query x.form y.form in
      let is : IsRouted tables (get_of (target_text y.query nothing_held)) x.routed = subst (λ (q : Query). IsRouted tables (get_of (target_text q nothing_held)) x.routed) query x.is in
      x.reads ∙ ap (λ (q : Query). Brings (Joined q (asked_as x.routed))) query ∙ ap (λ (r : Routed). Brings (Joined y.query (asked_as r))) (one_routed (get_of (target_text y.query nothing_held)) x.routed y.routed is y.is) ∙ sym y.reads

  one_query : FormsTell → (bytes : List ℕ) (a b : Reading) → ReadsQuery tables bytes a → ReadsQuery tables bytes b → a ≡ b
  one_query tell bytes a b (inl x) (inl y) = same x.1 y.1
  one_query tell bytes a b (inl x) (inr y) = absurd (x.0 y.query y.form)
  one_query tell bytes a b (inr x) (inl y) = absurd (y.0 x.query x.form)
  one_query tell bytes a b (inr x) (inr y) = one_joining tell bytes a b x y

-- ---- events

pub readings_tell : HeadsTell → RoutesTell → FormsTell → ReadingsTell
readings_tell heads routes forms o s events.Anew a b x y = same x y
readings_tell heads routes forms o s (events.Message bytes) a b x y = same x y
readings_tell heads routes forms o s (events.FrameBytes bytes) a b x y = same x y
readings_tell heads routes forms o s (events.RequestHead bytes) a b x y = one_head routes o.tables heads bytes a b x y
readings_tell heads routes forms o s (events.SnapBytes e bytes) a b x y = same x y
readings_tell heads routes forms o s (events.Snapshot e head rows) a b x y = same x y
readings_tell heads routes forms o s (events.SnapEnd e failed) a b x y = same x y
readings_tell heads routes forms o s (events.NewClient pairs) a b x y = one_query routes o.tables forms pairs a b x y
readings_tell heads routes forms o s (events.SendNext n) a b x y = same x y
readings_tell heads routes forms o s (events.Receive n e) a b x y = same x y
readings_tell heads routes forms o s (events.Watch n) a b x y = same x y
readings_tell heads routes forms o s (events.Remove n) a b x y = same x y
readings_tell heads routes forms o s (events.Moment now) a b x y = same x y
