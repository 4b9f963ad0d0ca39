-- Each exchange is answered as the definitions settle it.
use Rattle.std.proofs.Common.{◌≡◌, ℕ, Bool, true, false, ◌==◌, List, refl, sym, ap, subst, ◌∙◌, Option, None, Some}
use Rattle.std.specs.Prelude.{slice_get, is_some}
use Rattle.std.specs.Bool.{if◌then◌else◌}
use Rattle.std.specs.Option.{option_map, option_or}
use Rattle.http_edge.specs.declared.error_code.ErrorCode.{ErrorCode}
use Rattle.fold_client.specs.Following.{Heard}
use Rattle.core_law.specs.Situation.{Options, Server, Exchange}
use Rattle.core_law.specs.Steps.{Written, heard_at, reply_now, settled_one, refused_with, refused_at}
use Rattle.core_exchanges.specs.Indexing.{is_among}
use Rattle.core_machine.specs.declared.answering.Refusal.{Refusal}
use Rattle.core_machine.specs.Replying.{refused_in, answered_in}

module _ (o : Options) (v : Server) (late : Exchange → Bool) where
  settled_same : (b : Bool) (y : Exchange) (g : Option Heard) → (g ≡ None → late y ≡ b) → settled_one o v late y g ≡ settled_one o v (λ _. b) y g
  settled_same b y None h = ap (λ c. record y { given = option_map (heard_at v y.asked) (reply_now o v c y.asked y.role) }) (h refl)
  settled_same b y (Some g) h = refl

  settled_stays : (y : Exchange) (g : Option Heard) → y.given ≡ g → (g ≡ None → reply_now o v (late y) y.asked y.role ≡ None) → settled_one o v late y g ≡ y
  settled_stays y None e h = ap (λ (w : Option Written). record y { given = option_map (heard_at v y.asked) w }) (h refl) ∙ ap (λ (g : Option Heard). record y { given = g }) (sym e)
  settled_stays y (Some g) e h = refl

  or_given : (g : Option Heard) (h : Heard) → option_or g (Some h) ≡ None → ⊥
  or_given None h e = cc
  or_given (Some g) h e = cc

  late_if : (b c : Bool) (code : ErrorCode) (x : Exchange) → (x.given ≡ None → late x ≡ b) → (if c then refused_at v code x else x).given ≡ None → late (if c then refused_at v code x else x) ≡ b
  late_if b true code x h none = absurd (or_given x.given (heard_at v x.asked (refused_with code)) none)
  late_if b false code x h none = h none

  late_refused : (b : Bool) (r : Option Refusal) (q : ℕ) (x : Exchange) → (x.given ≡ None → late x ≡ b) → (refused_in v r q x).given ≡ None → late (refused_in v r q x) ≡ b
  late_refused b None q x h none = h none
  late_refused b (Some r) q x h none = late_if b (r.index == q) r.code x h none

  given_if : (c : Bool) (code : ErrorCode) (x : Exchange) (g : Option Heard) → x.given ≡ g → is_some g ≡ true → (if c then refused_at v code x else x) ≡ x
  given_if true code x None e some = cc
  given_if true code x (Some g) e some = ap (λ (h : Option Heard). record x { given = option_or h (Some (heard_at v x.asked (refused_with code))) }) e ∙ ap (λ (h : Option Heard). record x { given = h }) (sym e)
  given_if false code x g e some = refl

  given_refused : (r : Option Refusal) (q : ℕ) (x : Exchange) → is_some x.given ≡ true → refused_in v r q x ≡ x
  given_refused None q x some = refl
  given_refused (Some r) q x some = given_if (r.index == q) r.code x x.given refl some

  module _ (b : Bool) (r : Option Refusal) (places : List ℕ) (xs : List Exchange) where
    -- those in the places are as late as they are answered, and the others get nothing
    pub record Agrees : Type 0 where
      pub late_as : (q : ℕ) (x : Exchange) → slice_get xs q ≡ Some x → is_among q places ≡ true → x.given ≡ None → late x ≡ b
      pub refused : (q : ℕ) (x : Exchange) → slice_get xs q ≡ Some x → is_among q places ≡ false → x.given ≡ None → refused_in v r q x ≡ x
      pub none : (q : ℕ) (x : Exchange) → slice_get xs q ≡ Some x → is_among q places ≡ false → x.given ≡ None → reply_now o v (late x) x.asked x.role ≡ None

    module _ (h : Agrees) where
      stays_at : (q : ℕ) (x : Exchange) (g : Option Heard) → x.given ≡ g → slice_get xs q ≡ Some x → is_among q places ≡ false → settled_one o v late (refused_in v r q x) (refused_in v r q x).given ≡ x
      stays_at q x None e at out = subst (λ (y : Exchange). settled_one o v late y y.given ≡ x) (sym (h.refused q x at out e)) (settled_stays x x.given refl (λ none. h.none q x at out e))
      stays_at q x (Some g) e at out = subst (λ (y : Exchange). settled_one o v late y y.given ≡ x) (sym (given_refused r q x (ap is_some e))) (settled_stays x x.given refl (λ none. absurd (both e none)))
        where
          both : x.given ≡ Some g → x.given ≡ None → ⊥
          both e none = cc

      agree_at : (q : ℕ) (a : Option Exchange) (c : Bool) → slice_get xs q ≡ a → is_among q places ≡ c
          → option_map (λ (y : Exchange). settled_one o v late y y.given) (option_map (refused_in v r q) a) ≡ (if c then option_map (answered_in o v b r q) a else a)
      agree_at q None true at c = refl
      agree_at q None false at c = refl
      agree_at q (Some x) true at c = ap (λ (y : Exchange). Some y) (settled_same b (refused_in v r q x) (refused_in v r q x).given (late_refused b r q x (h.late_as q x at c)))
      agree_at q (Some x) false at c = ap (λ (y : Exchange). Some y) (stays_at q x x.given refl at c)

      pub agree : (ts : List Exchange) → ((q : ℕ) → slice_get ts q ≡ option_map (refused_in v r q) (slice_get xs q)) → (q : ℕ)
          → option_map (λ (y : Exchange). settled_one o v late y y.given) (slice_get ts q) ≡ (if is_among q places then option_map (answered_in o v b r q) (slice_get xs q) else slice_get xs q)
      agree ts base q = ap (option_map (λ (y : Exchange). settled_one o v late y y.given)) (base q) ∙ agree_at q (slice_get xs q) (is_among q places) refl refl
