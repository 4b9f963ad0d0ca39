-- What a cache keeps: a list of replies, the most recently used first.
use Rattle.std.specs.Prelude.{ℕ, ◌-◌, ◌*◌, ◌==◌, nat_lt, Bool, not, if◌then◌else◌, List, ◌∷◌, filter, take, Option, None, Some}
use Rattle.std.specs.List.{find}
use Rattle.shape_base.specs.declared.reply.Reply.{Reply}
use Rattle.shape_base.specs.Tables.{same_text}

-- a reply that was put for a target, and the moment of its put in milliseconds
pub record Cached : Type 0 where
  pub target : List ℕ
  pub reply : Reply
  pub put_at : ℕ

-- what a cache keeps, the most recently used first, and how many it may keep
pub record Contents : Type 0 where
  pub capacity : ℕ
  pub entries : List Cached

-- it is for this target
abbrev pub is_for : List ℕ → Cached → Bool
is_for target e = same_text target e.target

-- those for the other targets, in their order
abbrev pub others : List ℕ → List Cached → List Cached
others target = filter (λ e. not (is_for target e))

-- One goes first, before those for the other targets, and the last goes out where there would be too many.
abbrev pub in_front : ℕ → Cached → List Cached → List Cached
in_front capacity e es = take capacity (e ∷ others e.target es)

-- The entries after a put: a reply of age 0 is not kept, and none for its target stays; any other goes first.
abbrev pub after_put : ℕ → Cached → List Cached → List Cached
after_put capacity e es = if e.reply.max_age == 0 then others e.target es else in_front capacity e es

-- It is younger than its age: fewer milliseconds passed since its put. A moment before the put counts as that of the put.
abbrev pub is_young : ℕ → Cached → Bool
is_young now e = nat_lt (now - e.put_at) (1000 * e.reply.max_age)

abbrev pub if_young : ℕ → Option Cached → Option Cached
if_young now None = None
if_young now (Some e) = if is_young now e then Some e else None

-- what a get finds: the entry for the target, if it is younger than its age
abbrev pub found : List ℕ → ℕ → List Cached → Option Cached
found target now es = if_young now (find (is_for target) es)

-- the entries, with one that was found in front
abbrev pub promoted : Option Cached → List Cached → List Cached
promoted None es = es
promoted (Some e) es = e ∷ others e.target es

-- The entries after a get: what it finds goes first, and all stay where it finds nothing.
abbrev pub after_get : List ℕ → ℕ → List Cached → List Cached
after_get target now es = promoted (found target now es) es
