-- What a client puts out, as the program has it.
use Rattle.std.specs.Prelude.{◌≡◌, List, [], ◌∷◌, map, Some}
use Rattle.shape_base.specs.declared.handle.Handle.{Handle}
use Rattle.fold_client.specs.Rows.{keyed_row}
use Rattle.core_law.specs.Clients.{Gives, Cut, Block, Refetched, Refused}
use Rattle.core_law.specs.Clients as law
use Rattle.core_events.specs.declared.out.Out.{Out}
use Rattle.core_events.specs.declared.out.Out.TheVariants as outs

-- What one thing is that a client puts out: a block has its handle, its offset and its rows in byte order of their keys. Replies and cut heads are no client's.
abbrev pub IsOfClient : law.Out → Out → Type 0
IsOfClient (Gives exchange heard) out = ⊥
IsOfClient (Cut exchange) out = ⊥
IsOfClient (Block n handle offset rows) out = (h : Handle) × ((handle ≡ Some h) × (out ≡ outs.Block n h offset (map keyed_row rows)))
IsOfClient (Refetched n) out = out ≡ outs.Refetched n
IsOfClient (Refused n status) out = out ≡ outs.Refused n status

-- one for each, in order
abbrev pub AreOfClient : List law.Out → List Out → Type 0
AreOfClient [] [] = Unit {0}
AreOfClient [] (y ∷ ys) = ⊥
AreOfClient (x ∷ xs) [] = ⊥
AreOfClient (x ∷ xs) (y ∷ ys) = IsOfClient x y × AreOfClient xs ys
