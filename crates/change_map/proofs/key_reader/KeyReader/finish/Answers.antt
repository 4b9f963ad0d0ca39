use Rattle.std.proofs.Common.{List, [], ◌∷◌, ◌++◌, ◌≡◌, ℕ, length, sym, subst, arith, rules, ◌<◌}
use Rattle.std.proofs.lemmas.Grind.{common_steps}
use Rattle.std.specs.Str.{IsUtf8}
use Rattle.change_map.specs.Keys.{IsKeyText, IsReadAs}
use Rattle.change_map.specs.Reading.{spelled}
use Rattle.change_map.specs.declared.key_reader.Spot.{Spot}
use Rattle.change_map.specs.declared.key_reader.Spot.TheVariants.{Behind}
use Rattle.change_map.proofs.ReadLaws.{part_at, not_key, not_behind, is_read}
use Rattle.change_map.proofs.key_reader.KeyReader.finish.Goals as goal

pub returns-in_default : goal.returns-in_default
returns-in_default c = not_key c.args.self.spot c.args.self.done.items c.args.self.current.items c.in_default.not-Behind

pub returns-then-len-lt2 : goal.returns-then-len-lt2
returns-then-len-lt2 c =
    let r = c.args.self in
    let few : length r.done.items < 2 = omega (arith, r.done.ok.0) in
    subst (λ (s : Spot). ¬ (IsKeyText (spelled s r.done.items r.current.items))) (sym c.in-Behind.is) (not_behind r.done.items r.current.items few)

pub returns : goal.returns
returns c =
    let r = c.args.self in
    let u : IsUtf8 r.current.items = part_at r.spot Behind r.current.items c.in-Behind.is c.requires.part in
    let long : 1 < length r.done.items = omega (arith, r.done.ok.0) in
    let all : c.from_vec.result ≡ r.done.items ++ r.current.items ∷ [] = first_of (search rules, grind (arith, common_steps)) in
    subst (λ (parts : List (List ℕ)). IsReadAs (spelled r.spot r.done.items r.current.items) parts) (sym all)
    (subst (λ (s : Spot). IsReadAs (spelled s r.done.items r.current.items) (r.done.items ++ r.current.items ∷ [])) (sym c.in-Behind.is) (is_read r.done.items r.current.items c.requires.done u long))
