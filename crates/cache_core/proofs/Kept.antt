-- The entries of a cache beside those of its map.
use Rattle.std.proofs.Common.{◌≡◌, ℕ, suc, ◌+◌, ◌-◌, ◌*◌, ◌≤◌, ◌<◌, nat_lt, Bool, true, false, cond, List, [], ◌∷◌, length, map, take, refl, sym, ◌∙◌, ap, subst, Option, None, Some, is_some, string_bytes, arith}
use Rattle.std.proofs.lemmas.List.{take_all, take-map, length-map}
use Rattle.std.specs.Prelude.{String, if◌then◌else◌}
use Rattle.std.specs.List.{AllByRecursion, IsDistinct, find}
use Rattle.std.specs.Map.{keys_of, lookup, lookup_entry, remove_entry}
use Rattle.std.specs.Option.{option_map, option_map_or}
use Rattle.std.specs.Str.{bytes_eq}
use Rattle.std.specs.String.{string_eq}
use Rattle.lru.specs.LruCache as lru
use Rattle.lru.proofs.CallerLemmas.{Contains-lookup_entry}
use Rattle.shape_base.proofs.Lemmas.{Decides-same_text}
use Rattle.cache_core.specs.Entries.{Cached, Contents, is_for, others, in_front, is_young, if_young, found, promoted, after_get}
use Rattle.cache_core.specs.Inside.{cached, entries_in}
use Rattle.cache_core.specs.declared.cache.Kept.{Kept}

young_if : (b : Bool) (e : Cached) → b ≡ is_some (if b then Some e else None)
young_if true e = refl
young_if false e = refl

reply_if : (k : Kept) (e : Cached) (b : Bool) → k.reply ≡ e.reply → is_some (if b then Some e else None) ≡ true → Some k.reply ≡ option_map (λ (x : Cached). x.reply) (if b then Some e else None)
reply_if k e true same h = ap Some same
reply_if k e false same h = cc

-- an entry with another target
abbrev with_target : List ℕ → Kept → List Cached → List Cached
with_target x v rest = record { target = x; reply = v.reply; put_at = v.put_at } ∷ rest

abbrev contents : ℕ → List Cached → Contents
contents capacity es = record { capacity = capacity; entries = es }

module _ {A : Type 0} where
  -- the key is that of a target
  abbrev pub is_key : List ℕ → String A → Bool
  is_key q k = bytes_eq q (string_bytes k)

  mapped : (b : Bool) (e : String A × Kept) (o : Option (String A × Kept)) → cond b (Some (cached e)) (option_map cached o) ≡ option_map cached (cond b (Some e) o)
  mapped true e o = refl
  mapped false e o = refl

  find_in : (q : List ℕ) (es : List (String A × Kept)) → find (is_for q) (map cached es) ≡ option_map cached (lookup_entry (is_key q) es)
  find_in q [] = refl
  find_in q (e ∷ es) = ap (cond (is_key q e.0) (Some (cached e))) (find_in q es) ∙ mapped (is_key q e.0) e (lookup_entry (is_key q) es)

  valued : (b : Bool) (e : String A × Kept) (o : Option (String A × Kept)) → cond b (Some e.1) (option_map (λ p. p.1) o) ≡ option_map (λ p. p.1) (cond b (Some e) o)
  valued true e o = refl
  valued false e o = refl

  lookup_in : (q : List ℕ) (es : List (String A × Kept)) → lookup (is_key q) es ≡ option_map (λ p. p.1) (lookup_entry (is_key q) es)
  lookup_in q [] = refl
  lookup_in q (e ∷ es) = ap (cond (is_key q e.0) (Some e.1)) (lookup_in q es) ∙ valued (is_key q e.0) e (lookup_entry (is_key q) es)

  -- ---- those for the other targets

  apart_stay : (k : String A) (es : List (String A × Kept)) → AllByRecursion (λ y. string_eq k y ≡ false) (keys_of es) → others (string_bytes k) (map cached es) ≡ map cached es
  apart_stay k [] h = refl
  apart_stay k (e ∷ es) h = rw h.0 (ap (λ r. cached e ∷ r) (apart_stay k es h.1))

  none_stay : (q : List ℕ) (es : List (String A × Kept)) → lookup_entry (is_key q) es ≡ None → others q (map cached es) ≡ map cached es
  none_stay q [] h = refl
  none_stay q (e ∷ es) h = (elim (is_key q e.0) as (λ b. is_key q e.0 ≡ b → others q (map cached (e ∷ es)) ≡ map cached (e ∷ es)) [
    | true ↦ λ t. let no = rw t at h in cc
    | false ↦ λ t. rw t (ap (λ r. cached e ∷ r) (none_stay q es (rw t at h)))
  ]) refl

  pub others_in : (q : List ℕ) (es : List (String A × Kept)) → IsDistinct string_eq (keys_of es) → map cached (remove_entry (is_key q) es) ≡ others q (map cached es)
  unfolding IsDistinct
  others_in q [] d = refl
  others_in q (e ∷ es) d = (elim (is_key q e.0) as (λ b. is_key q e.0 ≡ b → map cached (remove_entry (is_key q) (e ∷ es)) ≡ others q (map cached (e ∷ es))) [
    | true ↦ λ t. let same : string_bytes e.0 ≡ q = sym ((Decides-same_text q (string_bytes e.0)).0 t) in rw t (sym (subst (λ x. others x (map cached es) ≡ map cached es) same (apart_stay e.0 es d.0)))
    | false ↦ λ t. rw t (ap (λ r. cached e ∷ r) (others_in q es d.1))
  ]) refl

  removed : (q : List ℕ) (es : List (String A × Kept)) (e : String A × Kept) → lookup_entry (is_key q) es ≡ Some e → length (remove_entry (is_key q) es) + 1 ≡ length es
  removed q [] e h = cc
  removed q (f ∷ es) e h = (elim (is_key q f.0) as (λ b. is_key q f.0 ≡ b → length (remove_entry (is_key q) (f ∷ es)) + 1 ≡ length (f ∷ es)) [
    | true ↦ λ t. rw t (omega arith)
    | false ↦ λ t. let less = removed q es e (rw t at h) in rw t (omega arith)
  ]) refl

  its_key : (q : List ℕ) (es : List (String A × Kept)) (e : String A × Kept) → lookup_entry (is_key q) es ≡ Some e → q ≡ string_bytes e.0
  its_key q es e h = (Decides-same_text q (string_bytes e.0)).0 (Contains-lookup_entry (is_key q) es e h).1

  -- ---- a get

  young_at : (now : ℕ) (k : Kept) (o : Option (String A × Kept)) → Some k ≡ option_map (λ p. p.1) o → nat_lt (now - k.put_at) (1000 * k.reply.max_age) ≡ is_some (if_young now (option_map cached o))
  young_at now k None h = cc
  young_at now k (Some e) h = let same : k ≡ e.1 = cc in ap (λ (x : Kept). nat_lt (now - x.put_at) (1000 * x.reply.max_age)) same ∙ young_if (is_young now (cached e)) (cached e)

  pub young_in : (q : List ℕ) (now : ℕ) (k : Kept) (es : List (String A × Kept)) → Some k ≡ lookup (is_key q) es → nat_lt (now - k.put_at) (1000 * k.reply.max_age) ≡ is_some (found q now (map cached es))
  young_in q now k es h = young_at now k (lookup_entry (is_key q) es) (h ∙ lookup_in q es) ∙ ap (λ o. is_some (if_young now o)) (sym (find_in q es))

  old_at : (now : ℕ) (o : Option (String A × Kept)) → None ≡ option_map (λ p. p.1) o → false ≡ is_some (if_young now (option_map cached o))
  old_at now None h = refl
  old_at now (Some e) h = cc

  pub none_in : (q : List ℕ) (now : ℕ) (es : List (String A × Kept)) → None ≡ lookup (is_key q) es → false ≡ is_some (found q now (map cached es))
  none_in q now es h = old_at now (lookup_entry (is_key q) es) (h ∙ lookup_in q es) ∙ ap (λ o. is_some (if_young now o)) (sym (find_in q es))

  young_goes : (q : List ℕ) (es : List (String A × Kept)) (e : String A × Kept) (b : Bool) → IsDistinct string_eq (keys_of es) → q ≡ string_bytes e.0 → is_some (if b then Some (cached e) else None) ≡ true → map cached (e ∷ remove_entry (is_key q) es) ≡ promoted (if b then Some (cached e) else None) (map cached es)
  young_goes q es e true d same h = ap (λ r. cached e ∷ r) (others_in q es d ∙ ap (λ x. others x (map cached es)) same)
  young_goes q es e false d same h = cc

  goes_first : (q : List ℕ) (now : ℕ) (es : List (String A × Kept)) (o : Option (String A × Kept)) → IsDistinct string_eq (keys_of es) → lookup_entry (is_key q) es ≡ o → is_some (if_young now (option_map cached o)) ≡ true → map cached (option_map_or (λ e. e ∷ remove_entry (is_key q) es) o es) ≡ promoted (if_young now (option_map cached o)) (map cached es)
  goes_first q now es None d is h = cc
  goes_first q now es (Some e) d is h = young_goes q es e (is_young now (cached e)) d (its_key q es e is) h

  -- what is found goes first
  pub got_in : (q : List ℕ) (now : ℕ) (es : List (String A × Kept)) → IsDistinct string_eq (keys_of es) → is_some (found q now (map cached es)) ≡ true → map cached (lru.promoted (is_key q) es) ≡ after_get q now (map cached es)
  got_in q now es d h = goes_first q now es (lookup_entry (is_key q) es) d refl (sym (ap (λ o. is_some (if_young now o)) (find_in q es)) ∙ h) ∙ ap (λ o. promoted (if_young now o) (map cached es)) (sym (find_in q es))

  reply_at : (now : ℕ) (k : Kept) (o : Option (String A × Kept)) → Some k ≡ option_map (λ p. p.1) o → is_some (if_young now (option_map cached o)) ≡ true → Some k.reply ≡ option_map (λ (x : Cached). x.reply) (if_young now (option_map cached o))
  reply_at now k None h young = cc
  reply_at now k (Some e) h young = let same : k ≡ e.1 = cc in reply_if k (cached e) (is_young now (cached e)) (ap (λ (x : Kept). x.reply) same) young

  -- it is the reply that was found
  pub reply_in : (q : List ℕ) (now : ℕ) (k : Kept) (es : List (String A × Kept)) → Some k ≡ lookup (is_key q) es → is_some (found q now (map cached es)) ≡ true → Some k.reply ≡ option_map (λ (x : Cached). x.reply) (found q now (map cached es))
  reply_in q now k es h young = reply_at now k (lookup_entry (is_key q) es) (h ∙ lookup_in q es) (sym (ap (λ o. is_some (if_young now o)) (find_in q es)) ∙ young) ∙ ap (λ o. option_map (λ (x : Cached). x.reply) (if_young now o)) (sym (find_in q es))

  -- ---- a put

  cut : (cap : ℕ) (e : String A × Kept) (es : List (String A × Kept)) → 0 < cap → map cached (e ∷ take (cap - 1) es) ≡ take cap (cached e ∷ map cached es)
  cut cap e es h = let is : cap ≡ suc (cap - 1) = omega arith in
      ap (λ r. cached e ∷ r) (sym (take-map cached (cap - 1) es)) ∙ ap (λ (n : ℕ). take n (cached e ∷ map cached es)) (sym is)

  put_front : (c : lru.LruCache (String A) Kept) (k : String A) (v : Kept) (o : Option (String A × Kept)) → lru.IsValid string_eq c → lookup_entry (is_key (string_bytes k)) c.entries ≡ o → map cached (option_map_or (λ e. (e.0, v) ∷ remove_entry (is_key (string_bytes k)) c.entries) o ((k, v) ∷ take (c.cap - 1) c.entries)) ≡ take c.cap (cached (k, v) ∷ others (string_bytes k) (map cached c.entries))
  put_front c k v None valid is = cut c.cap (k, v) c.entries valid.2 ∙ ap (λ r. take c.cap (cached (k, v) ∷ r)) (sym (none_stay (string_bytes k) c.entries is))
  put_front c k v (Some e) valid is =
      let less = removed (string_bytes k) c.entries e is in
      let fit : length (cached (k, v) ∷ map cached (remove_entry (is_key (string_bytes k)) c.entries)) ≤ c.cap = omega (arith, length-map (remove_entry (is_key (string_bytes k)) c.entries) cached, valid.1) in
      ap (λ (x : List ℕ). with_target x v (map cached (remove_entry (is_key (string_bytes k)) c.entries))) (sym (its_key (string_bytes k) c.entries e is))
      ∙ sym (take_all c.cap _ fit)
      ∙ ap (λ r. take c.cap (cached (k, v) ∷ r)) (others_in (string_bytes k) c.entries valid.0)

  -- a reply that is put goes first
  pub put_in : (c : lru.LruCache (String A) Kept) (k : String A) (v : Kept) → lru.IsValid string_eq c → map cached (lru.put_entries string_eq c k v) ≡ in_front c.cap (cached (k, v)) (map cached c.entries)
  put_in c k v valid = put_front c k v (lookup_entry (is_key (string_bytes k)) c.entries) valid refl

  -- ---- what the map tells of a call

  pub removes : (c n : lru.LruCache (String A) Kept) (q t : List ℕ) (before : Contents) → lru.IsValid string_eq c → n ≡ lru.lru_cache (remove_entry (is_key q) c.entries) c.cap → q ≡ t → contents c.cap (entries_in c) ≡ before → contents n.cap (entries_in n) ≡ contents before.capacity (others t before.entries)
  removes c n q t before valid is key was =
      ap (λ (x : lru.LruCache (String A) Kept). contents x.cap (entries_in x)) is ∙ ap (contents c.cap) (others_in q c.entries valid.0 ∙ ap (λ (x : List ℕ). others x (entries_in c)) key) ∙ ap (λ (b : Contents). contents b.capacity (others t b.entries)) was

  pub keeps : (c n : lru.LruCache (String A) Kept) (k : String A) (v : Kept) (e : Cached) (before : Contents) → lru.IsValid string_eq c → n ≡ lru.lru_cache (lru.put_entries string_eq c k v) c.cap → cached (k, v) ≡ e → contents c.cap (entries_in c) ≡ before → contents n.cap (entries_in n) ≡ contents before.capacity (in_front before.capacity e before.entries)
  keeps c n k v e before valid is new was =
      ap (λ (x : lru.LruCache (String A) Kept). contents x.cap (entries_in x)) is ∙ ap (contents c.cap) (put_in c k v valid ∙ ap (λ (x : Cached). in_front c.cap x (entries_in c)) new) ∙ ap (λ (b : Contents). contents b.capacity (in_front b.capacity e b.entries)) was

  -- a get of a target that the map finds young
  pub record Gets (c n : lru.LruCache (String A) Kept) (q t : List ℕ) (now : ℕ) (before : Contents) (r : Option Kept) : Type 0 where
    pub valid : lru.IsValid string_eq c
    pub young : is_some (found t now (entries_in c)) ≡ true
    pub key : q ≡ t
    pub value : r ≡ lookup (is_key q) c.entries
    pub promotes : n ≡ lru.lru_cache (lru.promoted (is_key q) c.entries) c.cap
    pub was : contents c.cap (entries_in c) ≡ before

  pub ends : (c n : lru.LruCache (String A) Kept) (q t : List ℕ) (now : ℕ) (before : Contents) (r : Option Kept) → Gets c n q t now before r → contents n.cap (entries_in n) ≡ contents before.capacity (after_get t now before.entries)
  ends c n q t now before r g =
      let young : is_some (found q now (map cached c.entries)) ≡ true = ap (λ (x : List ℕ). is_some (found x now (entries_in c))) g.key ∙ g.young in
      ap (λ (x : lru.LruCache (String A) Kept). contents x.cap (entries_in x)) g.promotes
      ∙ ap (contents c.cap) (got_in q now c.entries g.valid.0 young ∙ ap (λ (x : List ℕ). after_get x now (entries_in c)) g.key)
      ∙ ap (λ (b : Contents). contents b.capacity (after_get t now b.entries)) g.was

  pub gives : (c n : lru.LruCache (String A) Kept) (q t : List ℕ) (now : ℕ) (before : Contents) (k : Kept) → Gets c n q t now before (Some k) → Some k.reply ≡ option_map (λ (x : Cached). x.reply) (found t now before.entries)
  gives c n q t now before k g =
      let young : is_some (found q now (map cached c.entries)) ≡ true = ap (λ (x : List ℕ). is_some (found x now (entries_in c))) g.key ∙ g.young in
      reply_in q now k c.entries g.value young
      ∙ ap (λ (x : List ℕ). option_map (λ (y : Cached). y.reply) (found x now (entries_in c))) g.key
      ∙ ap (λ (b : Contents). option_map (λ (y : Cached). y.reply) (found t now b.entries)) g.was

  -- there is one
  pub never : (c n : lru.LruCache (String A) Kept) (q t : List ℕ) (now : ℕ) (before : Contents) → Gets c n q t now before None → ⊥
  never c n q t now before g =
      let young : is_some (found q now (map cached c.entries)) ≡ true = ap (λ (x : List ℕ). is_some (found x now (entries_in c))) g.key ∙ g.young in
      let none = none_in q now c.entries g.value in cc
