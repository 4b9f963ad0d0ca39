-- What a snapshot leaves of a shape and of its server.
use Rattle.std.specs.Prelude.{◌≡◌, ℕ, List}
use Rattle.std.specs.Ordering.{nat_cmp}
use Rattle.std.specs.FinMap as fin
use Rattle.std.specs.FinMap.{FinMap}
use Rattle.shape_base.specs.Snapshot.{Snapshot}
use Rattle.shape_base.specs.declared.registry_event.RegistryEvent.{RegistryEvent}
use Rattle.shape_base.specs.declared.registry_event.RegistryEvent.TheVariants as events
use Rattle.shape_json.specs.ShapeHistory.{ShapeEvent, Snapped, state_after}
use Rattle.shape_registry.specs.Registry.{Adds}
use Rattle.shape_snapshot.specs.Taken.{HasTaken}
use Rattle.shape_state.specs.declared.paged.Stage.{Stage}
use Rattle.shape_state.specs.declared.paged.Stage.TheVariants as stages
use Rattle.shape_state.specs.Standing as shape
use Rattle.shape_state.specs.Standing.{IsUnready, after}
use Rattle.shape_state.specs.Answers.{stage_of, log_bytes}
use Rattle.core_server.specs.declared.server.Server.{Server}
use Rattle.core_server.specs.Standing.{Kept, reader_of, reader_in}
use Rattle.core_server.specs.Snapshots.{Snap, ReadsAs}

-- what is kept may be given the snapshot
pub record MayReady (snap : Snap) (k : Kept) : Type 0 where
  pub unready : IsUnready k.state.kept
  pub reads : ReadsAs snap k
  pub least : snap.kept.log.least ≡ k.state.limits.chunk

-- What is kept after a snapshot: it stands for the events with the snapshot behind them; where it is in its life then, and the bytes of its log.
pub record IsReadied (old : Kept) (snap : Snap) (now : Stage) (size : ℕ) (new : Kept) : Type 0 where
  pub test : new.emitter.test ≡ old.emitter.test
  pub limits : new.state.limits ≡ old.state.limits
  pub stands : (events : List ShapeEvent) (snapshot : Snapshot) → shape.Stands (reader_in old) old.state events → snapshot.visibility ≡ snap.vis → HasTaken (reader_of snap.emitter.test) snap.limits snap.kept snapshot.rows
      → shape.Stands (reader_in old) new.state (after (reader_in old) old.state.limits events (Snapped snapshot))
  pub stage : (events : List ShapeEvent) → shape.Stands (reader_in new) new.state events → now ≡ stage_of (state_after (reader_in new) new.state.limits events)
  pub bytes : (events : List ShapeEvent) → shape.Stands (reader_in new) new.state events → size ≡ log_bytes (state_after (reader_in new) new.state.limits events)

-- a number is removed where its shape is dropped, and else ready
abbrev pub event_of : ℕ → Stage → RegistryEvent
event_of number stages.Starting = events.Ready number
event_of number stages.Ready = events.Ready number
event_of number (stages.Gone cause) = events.Removed number cause

abbrev pub kept_by : {K : Type 0} → FinMap nat_cmp K → ℕ → Stage → FinMap nat_cmp K
kept_by kept number stages.Starting = kept
kept_by kept number stages.Ready = kept
kept_by kept number (stages.Gone cause) = fin.remove kept number

-- The registry has one event more, keeps these shapes, and this is the sum of their bytes.
pub record IsSettled (old : Server) (event : RegistryEvent) (values : FinMap nat_cmp Kept) (sum : ℕ) (new : Server) : Type 0 where
  pub run : new.run ≡ old.run
  pub limits : new.limits ≡ old.limits
  pub tables : new.tables ≡ old.tables
  pub adds : Adds old.registry.state event new.registry.state
  pub catalog : new.registry.state.catalog ≡ old.registry.state.catalog
  pub kept : new.registry.kept ≡ values
  pub total : new.total ≡ sum
