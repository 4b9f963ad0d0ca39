use Rattle.std.proofs.Common.{◌≡◌, ◌≤◌, ℕ, ◌++◌, ◌∷◌, [], true, sym, ap, subst, List}
use Rattle.shape_base.specs.declared.entry.Entry.{Entry}
use Rattle.shape_base.specs.declared.offset.Offset.TheVariants.{At}
use Rattle.shape_base.specs.Offsets.{is_before, rises_after}
use Rattle.shape_base.specs.Log.{end_of}
use Rattle.shape_log.specs.Logged.{Logged}
use Rattle.shape_base.proofs.Lemmas.{rises_more}
use Rattle.shape_log.proofs.Bounds.{room_left}
use Rattle.shape_log.proofs.log.Log.append.Goals as goal

pub invariant_of-self : goal.invariant_of-self
invariant_of-self c =
    let items : c.push.new.self.items ≡ c.self.inside.entries.items ++ c.args.entry ∷ [] = rw c.unwrap.ensures at c.push.ensures.items in
    let same = ap (λ (l : Logged). l.entries) (sym c.self.view_is) in
    let after = subst (λ (es : List Entry). is_before (end_of es) c.args.entry.offset ≡ true) same c.requires.after in
    record {
      rises = subst (λ (es : List Entry). rises_after (At 0 0) es ≡ true) (sym items) (rises_more (At 0 0) c.self.inside.entries.items c.args.entry c.self.invariant.rises after);
      room = room_left _ _ _ _ _ c.self.invariant.room (subst (λ (n : ℕ). 1 ≤ n) (ap (λ (l : Logged). l.spare) (sym c.self.view_is)) c.requires.room) (rw c.unwrap.ensures at c.push.ensures.len) c.push.ensures.capacity;
    }
