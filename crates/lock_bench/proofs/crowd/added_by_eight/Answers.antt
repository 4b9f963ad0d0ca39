use Rattle.std.proofs.Common.{◌≡◌, ◌*◌, ◌+◌, ℕ, ap, sym, ◌∙◌, arith}
use Rattle.front_lock.specs.Rule.{doubled}
use Rattle.lock_bench.proofs.crowd.added_by_eight.Goals as goal

pub list_of-requires-clause-whole : goal.list_of-requires-clause-whole
list_of-requires-clause-whole g c = let was = c.in-Ok.pass in let now = c.in-Ok-by_eight.whole in
    let first = c.in-Ok.ensures.whole in let sum = c.in-Ok-by_eight.ensures.lock in
    let one : was.part ≡ 1 = first.0 ∙ ap (λ (n : ℕ). doubled n 1) first.1 in
    let deep : now.depth ≡ was.depth + 3 = sum.2 in let parts : now.part ≡ 8 * was.part = sum.1 in let shallow : was.depth ≡ 0 = first.1 in
    let levels : now.depth ≡ 3 = omega arith in
    let all : now.part ≡ 8 = omega arith in
    let whole : now.part ≡ doubled now.depth 1 = all ∙ sym (ap (λ (n : ℕ). doubled n 1) levels) in
    (whole, c.in-Ok-by_eight.ensures.whole whole)
