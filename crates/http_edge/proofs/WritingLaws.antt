-- Lines that are added part by part, and the statuses of replies.
use Rattle.std.proofs.Common.{◌≡◌, ℕ, Bool, true, false, List, [], ◌∷◌, ◌++◌, ◌||◌, ◌==◌, refl, subst, ap, ◌∙◌, arith, append_assoc}
use Rattle.std.specs.List.{AllByRecursion, list_any}
use Rattle.std.proofs.lemmas.Bool.Decides.{Decides-eqb}
use Rattle.http.specs.StatusCode.{IsStatusCode}
use Rattle.http_edge.specs.Status.{statuses, is_status}
use Rattle.http_edge.specs.ReplyText.{line, crlf}

pub line_after : (old name value : List ℕ) → ((old ++ name) ++ value) ++ crlf ≡ old ++ line name value
line_after old name value = simp append_assoc

pub four_lines : (o1 o2 o3 o4 a b c d : List ℕ) → o1 ≡ a → o2 ≡ o1 ++ b → o3 ≡ o2 ++ c → o4 ≡ o3 ++ d → o4 ≡ a ++ b ++ c ++ d
four_lines o1 o2 o3 o4 a b c d e1 e2 e3 e4 = e4 ∙ ap (λ t. t ++ d) (e3 ∙ ap (λ t. t ++ c) (e2 ∙ ap (λ t. t ++ b) e1))

-- what holds of each number of a list holds of one that is among them
one_of_two : (P : ℕ → Type 0) (x s : ℕ) (b c : Bool) → (b ≡ true → P s) → (c ≡ true → P s) → (b || c) ≡ true → P s
one_of_two P x s true c f g h = f refl
one_of_two P x s false c f g h = g h

among : (P : ℕ → Type 0) (s : ℕ) (xs : List ℕ) → AllByRecursion P xs → list_any (λ known. known == s) xs ≡ true → P s
among P s [] all h = absurd cc
among P s (x ∷ xs) all h = one_of_two P x s (x == s) (list_any (λ known. known == s) xs) (λ e. subst P ((Decides-eqb x s).0 e) all.0) (λ e. among P s xs all.1 e) h

-- what holds of each status
pub each_status : (P : ℕ → Type 0) → AllByRecursion P statuses → (s : ℕ) → is_status s ≡ true → P s
unfolding is_status
each_status P all s h = among P s statuses all h

pub status_is_code : (s : ℕ) → is_status s ≡ true → IsStatusCode s
status_is_code = each_status IsStatusCode ((omega arith, omega arith), ((omega arith, omega arith), ((omega arith, omega arith), ((omega arith, omega arith), ((omega arith, omega arith), ((omega arith, omega arith), ((omega arith, omega arith), ((omega arith, omega arith), ((omega arith, omega arith), ((omega arith, omega arith), tt))))))))))
