-- The laws of the folding client.
use Rattle.std.specs.Prelude.{◌≡◌, ℕ, ◌<◌, List, ◌∷◌, ◌++◌, Some}
use Rattle.shape_base.specs.declared.handle.Handle.{Handle}
use Rattle.http_edge.specs.World.{World, IsGoodWorld}
use Rattle.fold_client.specs.Client.{Refetch}
use Rattle.fold_client.specs.Following.{Heard, IsFairFor, start, took, follow, followed, AreFair, Holds, IsRight}

-- After any list of fair replies, aged and repeated ones too, the rows are the handle's, and each next fair reply is taken as it is to be.
abbrev pub ClientLaw : Type 0
ClientLaw = (w : World) (identity : List ℕ) (xs : List Heard) → IsGoodWorld w → AreFair w identity start xs
    → Holds w (followed start xs) × ((x : Heard) → IsFairFor w identity (followed start xs).held x → IsRight w identity (followed start xs) (follow (followed start xs) x) x.given.shown (took (followed start xs) x))

-- A handle that was left never comes back, nor one before it.
abbrev pub NeverBack : Type 0
NeverBack = (w : World) (identity : List ℕ) (xs : List Heard) (x : Heard) (ys : List Heard) (p q : Handle) → IsGoodWorld w → AreFair w identity start (xs ++ x ∷ ys)
    → (followed start xs).held.handle ≡ Some p → took (followed start xs) x ≡ Refetch → (followed start (xs ++ x ∷ ys)).held.handle ≡ Some q → (p.run ≡ q.run) × (p.number < q.number)
