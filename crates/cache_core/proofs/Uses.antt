-- What is found was put last.
use Rattle.std.proofs.Common.{◌≡◌, ◌==◌, ℕ, zero, suc, Bool, true, false, cond, List, [], ◌∷◌, take, refl, sym, ◌∙◌, ap, subst, Option, None, Some, IfSome}
use Rattle.std.specs.Prelude.{if◌then◌else◌}
use Rattle.std.specs.List.{find}
use Rattle.std.specs.Option.{option_map}
use Rattle.shape_base.specs.declared.reply.Reply.{Reply}
use Rattle.shape_base.specs.Tables.{same_text}
use Rattle.shape_base.proofs.Lemmas.{Decides-same_text}
use Rattle.cache_core.specs.Entries.{Cached, is_for, others, after_put, is_young, if_young, found, promoted, after_get}
use Rattle.cache_core.specs.Uses.{Use, Put, Got, entries_after, last_put, IsLastPut}

find_take : (test : Cached → Bool) (n : ℕ) (es : List Cached) (e : Cached) → find test (take n es) ≡ Some e → find test es ≡ Some e
find_take test zero es e h = cc
find_take test (suc n) [] e h = h
find_take test (suc n) (f ∷ es) e h = (elim (test f) as (λ b. test f ≡ b → find test (f ∷ es) ≡ Some e) [
  | true ↦ λ t. rw t (rw t at h)
  | false ↦ λ t. rw t (find_take test n es e (rw t at h))
]) refl

-- none for a target is among the others
find_none : (t : List ℕ) (es : List Cached) → find (is_for t) (others t es) ≡ None
find_none t [] = refl
find_none t (e ∷ es) = (elim (is_for t e) as (λ b. is_for t e ≡ b → find (is_for t) (others t (e ∷ es)) ≡ None) [
  | true ↦ λ h. rw h (find_none t es)
  | false ↦ λ h. rw (h, h) (find_none t es)
]) refl

-- that for another target is
find_others : (t u : List ℕ) (es : List Cached) → same_text t u ≡ false → find (is_for t) (others u es) ≡ find (is_for t) es
find_others t u [] d = refl
find_others t u (e ∷ es) d = (elim (is_for u e) as (λ b. is_for u e ≡ b → find (is_for t) (others u (e ∷ es)) ≡ find (is_for t) (e ∷ es)) [
  | true ↦ λ h. let same : u ≡ e.target = (Decides-same_text u e.target).0 h in let off : is_for t e ≡ false = subst (λ x. same_text t x ≡ false) same d in rw (h, off) (find_others t u es d)
  | false ↦ λ h. rw h (ap (cond (is_for t e) (Some e)) (find_others t u es d))
]) refl

-- ---- a put

put_other : (t : List ℕ) (capacity : ℕ) (p e : Cached) (es : List Cached) (b : Bool) → is_for t p ≡ false → find (is_for t) (if b then others p.target es else take capacity (p ∷ others p.target es)) ≡ Some e → find (is_for t) es ≡ Some e
put_other t capacity p e es true off h = sym (find_others t p.target es off) ∙ h
put_other t capacity p e es false off h = sym (find_others t p.target es off) ∙ (rw off at (find_take (is_for t) capacity (p ∷ others p.target es) e h))

put_same : (t : List ℕ) (capacity : ℕ) (p e : Cached) (es : List Cached) (b : Bool) → is_for t p ≡ true → find (is_for t) (if b then others p.target es else take capacity (p ∷ others p.target es)) ≡ Some e → Some p ≡ Some e
put_same t capacity p e es true on h = let same : t ≡ p.target = (Decides-same_text t p.target).0 on in let none = find_none t es in let no : find (is_for t) (others t es) ≡ Some e = subst (λ x. find (is_for t) (others x es) ≡ Some e) (sym same) h in cc
put_same t capacity p e es false on h = rw on at (find_take (is_for t) capacity (p ∷ others p.target es) e h)

after_a_put : (t : List ℕ) (capacity : ℕ) (p e : Cached) (es : List Cached) (o : Option Cached) → (find (is_for t) es ≡ Some e → o ≡ Some e) → find (is_for t) (after_put capacity p es) ≡ Some e → (if is_for t p then Some p else o) ≡ Some e
after_a_put t capacity p e es o before h = (elim (is_for t p) as (λ b. is_for t p ≡ b → (if is_for t p then Some p else o) ≡ Some e) [
  | true ↦ λ on. rw on (put_same t capacity p e es (p.reply.max_age == 0) on h)
  | false ↦ λ off. rw off (before (put_other t capacity p e es (p.reply.max_age == 0) off h))
]) refl

-- ---- a get

passes : (test : Cached → Bool) (es : List Cached) (e : Cached) → find test es ≡ Some e → test e ≡ true
passes test [] e h = cc
passes test (f ∷ es) e h = (elim (test f) as (λ b. test f ≡ b → test e ≡ true) [
  | true ↦ λ t. let is : Some f ≡ Some e = rw t at h in let same : f ≡ e = cc in subst (λ x. test x ≡ true) same t
  | false ↦ λ t. passes test es e (rw t at h)
]) refl

get_if : (t u : List ℕ) (g : Cached) (es : List Cached) (b : Bool) → find (is_for u) es ≡ Some g → find (is_for t) (promoted (if b then Some g else None) es) ≡ find (is_for t) es
get_if t u g es true is = (elim (is_for t g) as (λ b. is_for t g ≡ b → find (is_for t) (g ∷ others g.target es) ≡ find (is_for t) es) [
  | true ↦ λ on. let same : u ≡ t = (Decides-same_text u g.target).0 (passes (is_for u) es g is) ∙ sym ((Decides-same_text t g.target).0 on) in rw on (sym (subst (λ x. find (is_for x) es ≡ Some g) same is))
  | false ↦ λ off. rw off (find_others t g.target es off)
]) refl
get_if t u g es false is = refl

get_at : (t u : List ℕ) (now : ℕ) (es : List Cached) (o : Option Cached) → find (is_for u) es ≡ o → find (is_for t) (promoted (if_young now o) es) ≡ find (is_for t) es
get_at t u now es None is = refl
get_at t u now es (Some g) is = get_if t u g es (is_young now g) is

-- a get keeps what is there for each target
after_a_get : (t u : List ℕ) (now : ℕ) (es : List Cached) → find (is_for t) (after_get u now es) ≡ find (is_for t) es
after_a_get t u now es = get_at t u now es (find (is_for u) es) refl

-- ---- all uses

last_kept : (t : List ℕ) (capacity : ℕ) (uses : List Use) (e : Cached) → find (is_for t) (entries_after capacity uses) ≡ Some e → last_put t uses ≡ Some e
last_kept t capacity [] e h = cc
last_kept t capacity (Put p ∷ earlier) e h = after_a_put t capacity p e (entries_after capacity earlier) (last_put t earlier) (last_kept t capacity earlier e) h
last_kept t capacity (Got u now ∷ earlier) e h = last_kept t capacity earlier e (sym (after_a_get t u now (entries_after capacity earlier)) ∙ h)

given_if : (t : List ℕ) (now : ℕ) (uses : List Use) (e : Cached) (b : Bool) → last_put t uses ≡ Some e → is_young now e ≡ b → IfSome (option_map (λ (x : Cached). x.reply) (if b then Some e else None)) (IsLastPut t now uses)
given_if t now uses e true last young = record { entry = e; last = last; reply_is = refl; young = young }
given_if t now uses e false last young = tt

given_at : (t : List ℕ) (now : ℕ) (uses : List Use) (o : Option Cached) → ((e : Cached) → o ≡ Some e → last_put t uses ≡ Some e) → IfSome (option_map (λ (x : Cached). x.reply) (if_young now o)) (IsLastPut t now uses)
given_at t now uses None last = tt
given_at t now uses (Some e) last = given_if t now uses e (is_young now e) (last e refl) refl

-- what a get gives was put last
pub given_last : (t : List ℕ) (now capacity : ℕ) (uses : List Use) (es : List Cached) (o : Option Reply) → o ≡ option_map (λ (x : Cached). x.reply) (found t now es) → es ≡ entries_after capacity uses → IfSome o (IsLastPut t now uses)
given_last t now capacity uses es o is reached = rw (is, reached) (given_at t now uses (find (is_for t) (entries_after capacity uses)) (last_kept t capacity uses))
