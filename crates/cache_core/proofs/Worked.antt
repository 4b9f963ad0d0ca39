-- A cache of capacity 1, and a reply of age 5 that was put at 0: it is given at 4,999 milliseconds, and no more at 5,000.
use Rattle.std.proofs.Common.{◌≡◌, ℕ, List, [], ◌∷◌, refl, codes, Some, None}
use Rattle.shape_base.specs.declared.reply.Reply.{Reply}
use Rattle.cache_core.specs.Entries.{Cached, found}
use Rattle.cache_core.specs.Uses.{Put, Got, entries_after, last_put}

abbrev reply_of : ℕ → ℕ → Reply
reply_of status age = record { status = status; handle = None; offset = None; schema = None; cursor = None; max_age = age; body = [] }

abbrev put_of : List ℕ → ℕ → ℕ → ℕ → Cached
put_of target status age now = record { target = target; reply = reply_of status age; put_at = now }

abbrev first : Cached
first = put_of (codes "/a") 200 5 0

given_at_4999 : found (codes "/a") 4999 (entries_after 1 (Put first ∷ [])) ≡ Some first
given_at_4999 = refl

none_at_5000 : found (codes "/a") 5000 (entries_after 1 (Put first ∷ [])) ≡ None
none_at_5000 = refl

it_is_the_last : last_put (codes "/a") (Put first ∷ []) ≡ Some first
it_is_the_last = refl

-- of two the least recently used goes out, which is the second once the first was given
abbrev second : Cached
second = put_of (codes "/b") 201 5 1

abbrev third : Cached
third = put_of (codes "/c") 202 5 3

two_stay : entries_after 2 (Put third ∷ Got (codes "/a") 2 ∷ Put second ∷ Put first ∷ []) ≡ third ∷ first ∷ []
two_stay = refl

-- a reply of age 0 takes out the one for its target
none_stays : entries_after 2 (Put (put_of (codes "/a") 409 0 2) ∷ Put second ∷ Put first ∷ []) ≡ second ∷ []
none_stays = refl
