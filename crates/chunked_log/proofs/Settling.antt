-- Pages for good.
use Rattle.std.proofs.Common.{◌≡◌, ℕ, zero, suc, ◌-◌, List, [], ◌∷◌, ◌++◌, length, map, take, drop, sym, ap, subst, ◌∙◌, append_assoc, Some}
use Rattle.std.specs.Prelude.{slice_get, slice_range}
use Rattle.std.specs.List.{AllByRecursion}
use Rattle.std.proofs.Math.Seq.{take-append_seam}
use Rattle.std.proofs.lemmas.List.{take-map, take-append-drop}
use Rattle.std.proofs.lemmas.Option.{same_Some}
use Rattle.shape_base.specs.declared.offset.Offset.{Offset}
use Rattle.shape_base.specs.declared.entry.Entry.{Entry}
use Rattle.shape_base.specs.declared.page.Page.{Page}
use Rattle.shape_json.specs.Body.{entry_text}
use Rattle.shape_base.specs.OffsetText.{IsOffset}
use Rattle.shape_json.specs.Page.{page_of}
use Rattle.chunked_log.specs.Chunked.{Chunked, Carries}
use Rattle.chunked_log.specs.Settled.{IsSettled, AreSettled}
use Rattle.chunked_log.specs.declared.settled.SettledPage.{SettledPage}

pub all_at : {A : Type 0} (P : A → Type 0) (xs : List A) (i : ℕ) (x : A) → slice_get xs i ≡ Some x → AllByRecursion P xs → P x
all_at P [] i x h all = absurd (cc)
all_at P (y ∷ xs) zero x h all = subst P (same_Some y x h) all.0
all_at P (y ∷ xs) (suc i) x h all = all_at P xs i x h all.1

pub all_with : {A : Type 0} (P : A → Type 0) (xs : List A) (x : A) → AllByRecursion P xs → P x → AllByRecursion P (xs ++ x ∷ [])
all_with P [] x all last = (last, tt)
all_with P (y ∷ xs) x all last = (all.0, all_with P xs x all.1 last)

all_front : {A : Type 0} (P : A → Type 0) (n : ℕ) (xs : List A) → AllByRecursion P xs → AllByRecursion P (take n xs)
all_front P zero xs all = tt
all_front P (suc n) [] all = tt
all_front P (suc n) (x ∷ xs) all = (all.0, all_front P n xs all.1)

all_back : {A : Type 0} (P : A → Type 0) (n : ℕ) (xs : List A) → AllByRecursion P xs → AllByRecursion P (drop n xs)
all_back P zero xs all = all
all_back P (suc n) [] all = tt
all_back P (suc n) (x ∷ xs) all = all_back P n xs all.1

pub all_between : {A : Type 0} (P : A → Type 0) (from to : ℕ) (xs : List A) → AllByRecursion P xs → AllByRecursion P (slice_range xs from to)
all_between P from to xs all = all_front P (to - from) (drop from xs) (all_back P from xs all)

pub all_joined : {A : Type 0} (P : A → Type 0) (xs ys : List A) → AllByRecursion P xs → AllByRecursion P ys → AllByRecursion P (xs ++ ys)
all_joined P [] ys all more = more
all_joined P (x ∷ xs) ys all more = (all.0, all_joined P xs ys all.1 more)

front_of : {A B : Type 0} (f : A → B) (xs : List A) (ys more : List B) → ys ++ more ≡ map f xs → ys ≡ map f (take (length ys) xs)
front_of f xs ys more h = sym (take-append_seam ys more) ∙ ap (take (length ys)) h ∙ take-map f (length ys) xs

-- a page for good is one of the log with more texts too
stays : (offsets later : List Offset) (texts behind : List (List ℕ)) (least : ℕ) (after : Offset) (page : Page) → length offsets ≡ length texts → IsSettled offsets texts least after page
    → IsSettled (offsets ++ later) (texts ++ behind) least after page
stays offsets later texts behind least after page same h = record {
  some = h.some;
  utf8 = h.utf8;
  stays = λ entries more has_offsets has_texts short.
      let n = length offsets in
      subst (λ (es : List Entry). Carries page (page_of least es after))
      (sym (append_assoc (take n entries) (drop n entries) more) ∙ ap (λ (es : List Entry). es ++ more) (take-append-drop n entries))
      (h.stays (take n entries) (drop n entries ++ more) (front_of (λ (e : Entry). e.offset) entries offsets later has_offsets)
      (front_of entry_text entries texts behind has_texts ∙ ap (λ (k : ℕ). map entry_text (take k entries)) (sym same))
      (all_front (λ (e : Entry). IsOffset e.offset) n entries short));
}

pub all_stay : (offsets later : List Offset) (texts behind : List (List ℕ)) (least : ℕ) (pages : List SettledPage) → length offsets ≡ length texts
    → AreSettled offsets texts least pages
    → AreSettled (offsets ++ later) (texts ++ behind) least pages
all_stay offsets later texts behind least [] same all = tt
all_stay offsets later texts behind least (s ∷ pages) same all = (stays offsets later texts behind least s.after s.page same all.0, all_stay offsets later texts behind least pages same all.1)

-- a copy of a page for good, of what contracts see of the log
pub seen : (offsets : List Offset) (texts : List (List ℕ)) (least : ℕ) (log : Chunked) (after : Offset) (page twin : Page) → offsets ≡ log.offsets → texts ≡ log.texts → least ≡ log.least → twin ≡ page → IsSettled offsets texts least after page
    → IsSettled log.offsets log.texts log.least after twin
seen offsets texts least log after page twin os ts l is kept =
    subst (λ (p : Page). IsSettled log.offsets log.texts log.least after p) (sym is)
    (subst (λ (n : ℕ). IsSettled log.offsets log.texts n after page) l (subst (λ (xs : List (List ℕ)). IsSettled log.offsets xs least after page) ts (subst (λ (xs : List Offset). IsSettled xs texts least after page) os kept)))
