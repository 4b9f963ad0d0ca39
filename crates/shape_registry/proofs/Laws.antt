-- What a registry that stands for a history answers and keeps, by that history. Other crates cite these.
use Rattle.std.proofs.Common.{◌≡◌, ℕ, ◌+◌, ◌<◌, true, List, [], ◌∷◌, ◌++◌, map, None, sym, ◌∙◌, ap, subst}
use Rattle.std.specs.Prelude.{is_some, length}
use Rattle.std.specs.Option.{option_map}
use Rattle.shape_base.specs.declared.ask.Named.{Named}
use Rattle.shape_base.specs.declared.cause.Cause.{Cause}
use Rattle.shape_base.specs.declared.definition.TableDef.{TableDef}
use Rattle.shape_base.specs.declared.registry_event.RegistryEvent.{RegistryEvent}
use Rattle.shape_base.specs.declared.registry_event.RegistryEvent.TheVariants.{Registered, Ready, Removed, Took, Redefined}
use Rattle.shape_base.specs.RegistryHistory.{RegistryStart, RegistryState, registrations, transactions, is_live, live_numbers, last_id, last_lsn, catalog_after, MayFollow, Stands}
use Rattle.shape_registry.specs.declared.standing.Standing.TheVariants as standings
use Rattle.shape_registry.specs.State.{live_at, standing_in, id_in, lsn_in, found_in, refusal_in, after}
use Rattle.shape_registry.specs.ByHistory.{standing_after, before_after, found_after, refusal_after}
pub use Rattle.shape_registry.proofs.Catalog.{catalog_placed}
use Rattle.shape_registry.proofs.Following.{stands_next}
use Rattle.shape_registry.proofs.Meanings.{standing_is, before_is, live_is, found_is_after, refusal_is, may_register, may_start, numbers_are}

module _ (start : RegistryStart) (es : List RegistryEvent) (s : RegistryState) (stands : Stands start es s) where
  -- one event more that may follow
  pub stands_after : (e : RegistryEvent) → MayFollow start.limit es e → Stands start (es ++ e ∷ []) (after s e)
  stands_after e may = stands_next start es s e stands may

  -- ---- what is answered

  pub standing_by_history : (number : ℕ) → standing_in s number ≡ standing_after es number
  standing_by_history number = ap (λ s. standing_in s number) stands.kept ∙ standing_is start es number

  pub before_by_history : (number : ℕ) → option_map (λ l. l.before) (live_at s number) ≡ before_after es number
  before_by_history number = ap (λ s. option_map (λ l. l.before) (live_at s number)) stands.kept ∙ before_is start es number

  pub live_by_history : (number : ℕ) → is_some (live_at s number) ≡ is_live es number
  live_by_history number = ap (λ s. is_some (live_at s number)) stands.kept ∙ live_is start es number

  pub found_by_history : (identity : List ℕ) (named : Named) → found_in s identity named ≡ found_after start.run es identity named
  found_by_history identity named = ap (λ s. found_in s identity named) stands.kept ∙ found_is_after start es identity named stands.legal

  pub refusal_by_history : (identity : List ℕ) → refusal_in s identity ≡ refusal_after start.limit es identity
  refusal_by_history identity = ap (λ s. refusal_in s identity) stands.kept ∙ refusal_is start es identity stands.legal

  pub numbers_by_history : map (λ l. l.number) s.live ≡ live_numbers es
  numbers_by_history = ap (λ s. map (λ l. l.number) s.live) stands.kept ∙ numbers_are start es

  pub last_by_history : id_in s ≡ last_id es
  last_by_history = ap id_in stands.kept

  pub last_lsn_by_history : lsn_in s ≡ last_lsn es
  last_lsn_by_history = ap lsn_in stands.kept

  pub taken_by_history : s.taken ≡ length (transactions es)
  taken_by_history = ap (λ s. s.taken) stands.kept

  pub catalog_by_history : s.catalog ≡ catalog_after start.catalog es
  catalog_by_history = ap (λ s. s.catalog) stands.kept

  -- ---- what follows

  pub adds_registered : (number : ℕ) (identity : List ℕ) (table : ℕ) → number ≡ s.given + 1 → refusal_in s identity ≡ None → Stands start (es ++ Registered number identity table (id_in s) ∷ []) (after s (Registered number identity table (id_in s)))
  adds_registered number identity table is none = let next : number ≡ length (registrations es) + 1 = is ∙ ap (λ s. s.given + 1) stands.kept in
      let may = may_register start es identity table stands.legal (subst (λ s. refusal_in s identity ≡ None) stands.kept none) in
      stands_after (Registered number identity table (id_in s)) (record { next = next; free = may.free; room = may.room; last = last_by_history })

  pub adds_ready : (number : ℕ) → standing_in s number ≡ standings.Starting → Stands start (es ++ Ready number ∷ []) (after s (Ready number))
  adds_ready number h = stands_after (Ready number) (may_start start es number (subst (λ s. standing_in s number ≡ standings.Starting) stands.kept h))

  pub adds_removed : (number : ℕ) (cause : Cause) → is_some (live_at s number) ≡ true → Stands start (es ++ Removed number cause ∷ []) (after s (Removed number cause))
  adds_removed number cause h = stands_after (Removed number cause) (sym (live_by_history number) ∙ h)

  pub adds_took : (lsn xid : ℕ) → lsn_in s < lsn → Stands start (es ++ Took lsn xid ∷ []) (after s (Took lsn xid))
  adds_took lsn xid h = stands_after (Took lsn xid) (subst (λ s. lsn_in s < lsn) stands.kept h)

  pub adds_redefined : (definition : TableDef) → Stands start (es ++ Redefined definition ∷ []) (after s (Redefined definition))
  adds_redefined definition = stands_after (Redefined definition) tt
