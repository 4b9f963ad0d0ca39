use Rattle.std.proofs.Common.{List, [], ◌∷◌, ◌++◌, ◌≡◌, ℕ, sym, ap, subst, arith, rules, ◌∙◌}
use Rattle.std.proofs.lemmas.Grind.{common_steps}
use Rattle.std.specs.List.{flat_map, AllByRecursion}
use Rattle.std.specs.Str.{IsUtf8}
use Rattle.std.proofs.lemmas.Str.{IsUtf8-append}
use Rattle.shape_base.specs.Shape.{doubled}
use Rattle.change_map.specs.declared.key_reader.Spot.TheVariants.{Behind}
use Rattle.change_map.specs.Reading.{opened, separator}
use Rattle.change_map.proofs.KeyLaws.{one_ascii}
use Rattle.change_map.proofs.ReadLaws.{are_more, part_at, text_at, none_at, no_behind, two_quotes, opened_more}
use Rattle.change_map.proofs.key_reader.KeyReader.take_behind.Goals as goal

pub returns-then-byte-eq34 : goal.returns-then-byte-eq34
returns-then-byte-eq34 c =
    let r = c.args.self.now in
    let u : IsUtf8 r.current.items = part_at r.spot Behind r.current.items c.requires.behind c.requires.reading.part in
    let more : c.push.new.self.items ≡ r.current.items ++ 34 ∷ [] = c.in_ok-push.ensures.items in (
      record { done = c.requires.reading.done; part = c.nothing.ensures c.push.new.self.items (subst IsUtf8 (sym more) (IsUtf8-append r.current.items (34 ∷ []) u (one_ascii 34 (omega arith)))) },
      text_at r.spot Behind r.done.items r.current.items _ c.args.byte c.requires.behind
          (ap (λ xs. opened r.done.items ++ 34 ∷ flat_map doubled xs) more ∙ two_quotes r.done.items r.current.items ∙ ap (λ b. (opened r.done.items ++ (34 ∷ flat_map doubled r.current.items ++ 34 ∷ [])) ++ b ∷ []) (sym c.if-byte-eq34.true)),
    )

pub returns-then-byte-separator : goal.returns-then-byte-separator
returns-then-byte-separator c =
    let r = c.args.self.now in
    none_at r.spot Behind r.done.items r.current.items c.args.byte c.requires.behind
    (no_behind r.done.items r.current.items c.args.byte c.if-byte-eq34.false (λ e. c.if-byte-separator.true (e ∙ sym (c.separator.ensures ∙ ap separator c.as_slice.ensures.value))))

pub returns : goal.returns
returns c =
    let r = c.args.self.now in
    let u : IsUtf8 r.current.items = part_at r.spot Behind r.current.items c.requires.behind c.requires.reading.part in
    let more : c.push-2.new.self.items ≡ r.done.items ++ r.current.items ∷ [] = first_of (search rules, grind (arith, common_steps)) in
    let none : c.replace-part.new.dest.items ≡ [] = first_of (search rules, grind (arith, common_steps)) in (
      record { done = subst (λ (parts : List (List ℕ)). AllByRecursion IsUtf8 parts) (sym more) (are_more r.done.items r.current.items c.requires.reading.done u); part = none },
      text_at r.spot Behind r.done.items r.current.items _ c.args.byte c.requires.behind
          (ap opened more ∙ opened_more r.done.items r.current.items ∙ ap (λ b. (opened r.done.items ++ (34 ∷ flat_map doubled r.current.items ++ 34 ∷ [])) ++ b ∷ []) (sym (c.if-byte-separator.false ∙ c.separator.ensures ∙ ap separator c.as_slice.ensures.value))),
    )
