use Rattle.std.proofs.Common.{ℕ, List, [], ◌∷◌, ◌++◌, ◌∙◌, Ok, sym, ap, subst}
use Rattle.sync_core.specs.declared.snapshots.Progress.{Progress}
use Rattle.sync_core.specs.Run.{said_to}
use Rattle.sync_core.specs.UnderWay.{IsUnderWay}
use Rattle.sync_core.specs.Kept.{IsReceived}
use Rattle.sync_core.proofs.Keeping.{elsewhere, said_here, piece_waits}
use Rattle.sync_core.proofs.dialogues.Dialogues.receive.Goals as goal

pub returns-in-Waits-clause-others : goal.returns-in-Waits-clause-others
returns-in-Waits-clause-others c other apart = c.in_ok-insert.ensures.updates.2 other (elsewhere c.args.exchange other apart) ∙ c.take-under.ensures.others other apart

pub returns-in-Waits-clause-received : goal.returns-in-Waits-clause-received
returns-in-Waits-clause-received c o s pieces st owns h =
    let e = c.args.exchange in
    let bytes = c.args.bytes.now in
    let more = said_to e (pieces ++ (e, bytes) ∷ []) in
    let fed = subst (λ (said : List ℕ). IsUnderWay o s e said c.feed.new.self) (sym (said_here e pieces bytes)) (c.in_ok-feed.ensures o s e (said_to e pieces) (c.take-under.ensures.taken o s (said_to e pieces) (h.owners e owns))) in
    let stands = c.in_ok-progress.ensures.waits o s more st fed (ap Ok c.in-Waits.is) in
    subst (λ (p : Progress). IsReceived o s pieces e bytes c.insert.new.self p) c.in-Waits.is
    (record {
      stood = c.in_ok-progress.ensures.stood o s more st fed;
      waits = λ _. piece_waits o s pieces e bytes c.args.self.now.kept c.insert.new.self c.go_on.new.self h (returns-in-Waits-clause-others c) owns c.in_ok-insert.ensures.updates.1 stands;
    })

pub returns : goal.returns
returns c = record {
  received = λ o s pieces st owns h.
      let e = c.args.exchange in
      let bytes = c.args.bytes.now in
      let fed = subst (λ (said : List ℕ). IsUnderWay o s e said c.feed.new.self) (sym (said_here e pieces bytes)) (c.in_ok-feed.ensures o s e (said_to e pieces) (c.take-under.ensures.taken o s (said_to e pieces) (h.owners e owns))) in
      record {
        stood = c.in_ok-progress.ensures.stood o s (said_to e (pieces ++ (e, bytes) ∷ [])) st fed;
        waits = λ is. absurd (c.in_default.not-Waits is);
      };
  none = λ _. c.take-under.ensures.none;
  others = c.take-under.ensures.others;
}
