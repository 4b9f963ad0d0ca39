use Rattle.std.proofs.Common.{ℕ, ◌++◌, sym, ap, subst, ◌∙◌, arith}
use Rattle.shape_json.specs.Page.{page_of}
use Rattle.chunked_log.specs.Chunked.{Chunked, Carries}
use Rattle.chunked_log.specs.declared.settled.SettledPage.{SettledPage}
use Rattle.chunked_log.specs.Settled.{IsSettled, AreSettled}
use Rattle.chunked_log.proofs.Settling.{all_with}
use Rattle.chunked_log.proofs.log.ChunkedLog.settle_next.Goals as goal

pub invariant_of-self-2 : goal.invariant_of-self-2
invariant_of-self-2 c =
    let os = c.self.inside.log.offsets in
    let ts = c.self.inside.log.texts in
    let least = c.self.inside.cutter.least in
    record {
      cut = c.self.invariant.cut;
      same = c.self.invariant.same;
      texts = c.self.invariant.texts;
      settled = subst (AreSettled os ts least) (sym c.in_ok-push.ensures.ok)
          (all_with (λ (s : SettledPage). IsSettled os ts least s.after s.page) c.self.inside.settled (record { after = c.end-after.result; page = c.in-Ok.page }) c.self.invariant.settled (record {
            some = omega (arith, c.if-page-eq0.false);
            utf8 = c.in-Ok.ensures.utf8;
            stays = λ entries more offsets texts short. subst (λ (n : ℕ). Carries c.in-Ok.page (page_of n (entries ++ more) c.end-after.result)) (sym (ap (λ (l : Chunked). l.least) c.self.view_is))
                (c.in-Ok.ensures.settles entries more (record { offsets = sym (ap (λ (l : Chunked). l.offsets) c.self.view_is) ∙ offsets; texts = sym (ap (λ (l : Chunked). l.texts) c.self.view_is) ∙ texts; short = short }) c.if-page.false);
          }));
    }
