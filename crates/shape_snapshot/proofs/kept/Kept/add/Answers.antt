use Rattle.std.proofs.Common.{◌≡◌, ◌∙◌, ◌+◌, [], ◌∷◌, length, ap, sym, subst, List}
use Rattle.shape_base.specs.declared.entry.Entry.{Entry}
use Rattle.shape_base.specs.declared.offset.Offset.TheVariants.{At}
use Rattle.chunked_log.specs.Chunked.{Writes}
use Rattle.shape_snapshot.proofs.Growing.{has_more}
use Rattle.shape_snapshot.proofs.Putting.{numbered_more}
use Rattle.shape_snapshot.proofs.kept.Kept.add.Goals as goal

pub invariant_of-self-2 : goal.invariant_of-self-2
invariant_of-self-2 c =
    let one : c.from_vec-entries.result ≡ c.args.entry ∷ [] = c.from_vec-entries.ensures ∙ (c.in_ok-vec.ensures).items in
    let writes : Writes c.in_ok-written.written (c.args.entry ∷ []) = subst (λ (es : List Entry). Writes c.in_ok-written.written es) one c.in_ok-written.ensures in
    record {
      numbered = numbered_more c.reserve.new.self c.append.new.self c.in_ok-written.written c.args.entry (c.requires ∙ ap (λ n. At 0 (n + 1)) (ap length (sym c.reserve.ensures.texts))) writes c.append.ensures.offsets c.append.ensures.texts;
    }

pub returns-clause-keys : goal.returns-clause-keys
returns-clause-keys c = has_more c.args.self.now.keys c.insert.new.self c.in_ok-key.key c.args.entry.key c.in_ok-key.ensures ((c.in_ok-_is_new.ensures).updates.0)
