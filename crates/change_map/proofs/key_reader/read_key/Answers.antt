use Rattle.std.proofs.Common.{ℕ, List, ◌∷◌, ◌≡◌, ◌++◌, [], Bool, false, length, take, get_or, refl, subst, arith, take_all, ◌∙◌}
use Rattle.std.specs.Prelude.{Option}
use Rattle.std.specs.Option.{MatchOption}
use Rattle.change_map.specs.Keys.{IsKeyText, IsReadAs, BeginsKey, IsLongestFront}
use Rattle.change_map.specs.Reading.{Takes, read_so_far}
use Rattle.change_map.proofs.ReadLaws.{begins, refused_at, ended_at, read_back}
use Rattle.change_map.proofs.key_reader.read_key.Goals as goal

pub returns-then-not-branch-clause-refused : goal.returns-then-not-branch-clause-refused
returns-then-not-branch-clause-refused c = λ place e.
    let r = c.loop-place.reader in let i = c.loop-place.place in let text = c.args.text.now in
    let b = get_or text i 0 in let known = c.loop-place.invariant in
    let same : i ≡ place = cc in
    let begun : BeginsKey (take i text) = subst BeginsKey known.read (begins r.spot r.done.items r.current.items known.reading.done known.reading.part) in
    let none : Takes r c.take.new.self b false = subst (λ (t : Bool). Takes r c.take.new.self b t) c.if-not-branch.true c.in_ok-take.ensures in
    subst (λ (n : ℕ). ¬ (IsKeyText text) × IsLongestFront text n) same
    (refused_at text i b (omega arith) refl begun (subst (λ (xs : List ℕ). ¬ (BeginsKey (xs ++ b ∷ []))) known.read none))

pub returns-in-Some-clause-back : goal.returns-in-Some-clause-back
returns-in-Some-clause-back c =
    let r = c.loop-place.reader in let text = c.args.text.now in
    let whole : read_so_far r ≡ text = c.loop-place.invariant.read ∙ take_all c.loop-place.place text (omega arith) in
    let told : IsReadAs (read_so_far r) c.in-Some.parts = subst (λ (o : Option (List (List ℕ))). MatchOption o (¬ (IsKeyText (read_so_far r))) (λ texts. IsReadAs (read_so_far r) texts)) c.in-Some.is c.in_ok-parts.ensures in
    read_back text c.in-Some.parts (subst (λ (xs : List ℕ). IsReadAs xs c.in-Some.parts) whole told)

pub returns-in-None-clause-refused : goal.returns-in-None-clause-refused
returns-in-None-clause-refused c = λ place e.
    let r = c.loop-place.reader in let text = c.args.text.now in let known = c.loop-place.invariant in
    let same : length text ≡ place = cc in
    let whole : read_so_far r ≡ text = known.read ∙ take_all c.loop-place.place text (omega arith) in
    let begun : BeginsKey text = subst BeginsKey whole (begins r.spot r.done.items r.current.items known.reading.done known.reading.part) in
    let none : ¬ (IsKeyText (read_so_far r)) = subst (λ (o : Option (List (List ℕ))). MatchOption o (¬ (IsKeyText (read_so_far r))) (λ texts. IsReadAs (read_so_far r) texts)) c.in-None.is c.in_ok-parts.ensures in
    subst (λ (n : ℕ). ¬ (IsKeyText text) × IsLongestFront text n) same (ended_at text begun (subst (λ (xs : List ℕ). ¬ (IsKeyText xs)) whole none))
