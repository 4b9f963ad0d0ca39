-- A snapshot that the holder of a pass gave is one that the pass has seen.
use Rattle.std.proofs.Common.{◌≡◌, Bool, true, false, List, [], ◌∷◌, ◌++◌, sym, subst}
use Rattle.std.specs.Prelude.{IsSome}
use Rattle.front_lock.specs.Rule.{picked}
use Rattle.shape_base.specs.Snapshot.{Snapshot}
use Rattle.shape_json.specs.ShapeHistory.{ShapeEvent, Snapped, Took, Dropped, snapshot_in}

-- what was picked out of a history has no other snapshot
picked_in : (own : List Bool) (es : List ShapeEvent) → IsSome (snapshot_in (picked own es)) → IsSome (snapshot_in es)
picked_in [] es h = absurd (cc)
picked_in (b ∷ own) [] h = h
picked_in (b ∷ own) (Snapped s ∷ es) h = cc
picked_in (true ∷ own) (Took tx others ∷ es) h = picked_in own es h
picked_in (true ∷ own) (Dropped cause ∷ es) h = picked_in own es h
picked_in (false ∷ own) (Took tx others ∷ es) h = picked_in own es h
picked_in (false ∷ own) (Dropped cause ∷ es) h = picked_in own es h

last_in : (es : List ShapeEvent) (s : Snapshot) → IsSome (snapshot_in (es ++ Snapped s ∷ []))
last_in [] s = cc
last_in (Snapped x ∷ es) s = cc
last_in (Took tx others ∷ es) s = last_in es s
last_in (Dropped cause ∷ es) s = last_in es s

pub snapped_seen : (own : List Bool) (seen before : List ShapeEvent) (s : Snapshot) → picked own seen ≡ before ++ Snapped s ∷ [] → IsSome (snapshot_in seen)
snapped_seen own seen before s h = picked_in own seen (subst (λ (es : List ShapeEvent). IsSome (snapshot_in es)) (sym h) (last_in before s))
