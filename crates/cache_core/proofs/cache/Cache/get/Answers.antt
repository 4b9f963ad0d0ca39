use Rattle.std.proofs.Common.{refl, sym, ◌∙◌, Some}
use Rattle.cache_core.proofs.Kept.{Gets, ends, gives, never}
use Rattle.cache_core.proofs.Uses.{given_last}
use Rattle.cache_core.proofs.cache.Cache.get.Goals as goal

pub returns-in_err-kept : goal.returns-in_err-kept
returns-in_err-kept c = absurd (never c.self.inside.replies c.get.follows.lender-at-none c.as_str.result.now c.args.target.now c.args.now c.args.self.now (record {
  valid = c.len-count.ensures.valid;
  young = sym c.has_young.ensures ∙ c.if-not-has_young.false;
  key = c.as_str.ensures;
  value = c.in_err-kept.ensures.value;
  promotes = c.get.follows.holds-at-none;
  was = c.self.view_is;
}))

pub returns : goal.returns
returns c =
    let g : Gets c.self.inside.replies c.get.follows.lender-at-none c.as_str.result.now c.args.target.now c.args.now c.args.self.now (Some c.in_ok-kept.kept.now) = record {
      valid = c.len-count.ensures.valid;
      young = sym c.has_young.ensures ∙ c.if-not-has_young.false;
      key = c.as_str.ensures;
      value = c.in_ok-kept.ensures.value;
      promotes = c.get.follows.holds-at-none;
      was = c.self.view_is;
    } in
    let given = gives c.self.inside.replies c.get.follows.lender-at-none c.as_str.result.now c.args.target.now c.args.now c.args.self.now c.in_ok-kept.kept.now g in (
      (refl, λ _. tt, ends c.self.inside.replies c.get.follows.lender-at-none c.as_str.result.now c.args.target.now c.args.now c.args.self.now (Some c.in_ok-kept.kept.now) g),
      record { after = tt; found = given; last_put = λ uses reached. given_last c.args.target.now c.args.now c.args.self.now.capacity uses c.args.self.now.entries (Some c.in_ok-kept.kept.now.reply) given reached },
    )
