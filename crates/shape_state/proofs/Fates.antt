-- What is prepared, by what a shape keeps.
use Rattle.std.proofs.Common.{◌≡◌, ℕ, List, sym, subst, ap, Option, None, Some}
use Rattle.std.specs.Prelude.{Result, Ok, Err, IfOk}
use Rattle.shape_base.specs.declared.cause.Cause.{Cause}
use Rattle.shape_base.specs.declared.change.Tx.{Tx}
use Rattle.shape_base.specs.declared.limits.Limits.{Limits}
use Rattle.shape_base.specs.declared.memory.OutOfMemory.{OutOfMemory}
use Rattle.shape_json.specs.ShapeHistory.{Reader, ShapeEvent, drop_of, taken}
use Rattle.shape_state.specs.Buffered.{Buffered}
use Rattle.shape_state.specs.declared.prepared.Prepared.{Prepared}
use Rattle.shape_state.specs.declared.prepared.Prepared.TheVariants as prepared
use Rattle.shape_state.specs.Standing.{IsWaiting}
use Rattle.shape_state.specs.Answers.{IsPreparedBy, IsPreparedWhere, IsPrepared}

pub prepared_ok : (r : Reader) (l : Limits) (events : List ShapeEvent) (tx : Tx) (others : ℕ) (result : Result Prepared OutOfMemory) → drop_of r l events ≡ None → IfOk result (IsPreparedBy r l events tx others) → IfOk result (IsPrepared r l events tx others)
prepared_ok r l events tx others (Ok p) none h = subst (λ (o : Option Cause). IsPreparedWhere o r l events tx others p) (sym none) h
prepared_ok r l events tx others (Err e) none h = tt

pub prepared_gone : (r : Reader) (l : Limits) (events : List ShapeEvent) (tx : Tx) (others : ℕ) (cause : Cause) → drop_of r l events ≡ Some cause → IsPrepared r l events tx others prepared.Skip
prepared_gone r l events tx others cause gone = subst (λ (o : Option Cause). IsPreparedWhere o r l events tx others prepared.Skip) (sym gone) tt

pub waiting_still : (r : Reader) (l : Limits) (events : List ShapeEvent) (old new : Buffered) → IsWaiting r l events old → new.txs ≡ old.txs → IsWaiting r l events new
waiting_still r l events old new is same = record { stands = is.stands; none = is.none; txs = subst (λ (ts : List Tx). ts ≡ taken events) (sym same) is.txs }
