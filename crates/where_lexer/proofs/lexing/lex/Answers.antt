use Rattle.std.proofs.Common.{◌<◌, ◌+◌, ◌-◌, length, sym, ap, ◌∙◌, subst, refl, arith}
use Rattle.std.specs.Str.{IsUtf8}
use Rattle.where_lexer.specs.Lexing.{scanned, is_space}
use Rattle.where_lexer.specs.Seen.{token_seen, RestIsUtf8}
use Rattle.where_lexer.proofs.TokenLaws.{past_ascii, space_small}
use Rattle.where_lexer.proofs.Scanning.{scanning_start, scanning_stop, scanning_done, scanning_more}
use Rattle.where_lexer.proofs.lexing.lex.Goals as goal

pub loop-step-init : goal.loop-step-init
loop-step-init c = rw (c.new-tokens.ensures.items, c.new-lefts.ensures.items) (scanning_start c.args.text.now (length c.args.text.now + 1 - 0) (omega arith) c.requires)

pub token-requires : goal.token-requires
token-requires c = subst IsUtf8 (sym c.span.ensures.rest) (past_ascii is_space space_small c.loop-step.rest.now c.loop-step.invariant.utf8)

pub loop-step-preserved : goal.loop-step-preserved
loop-step-preserved c =
    scanning_more (scanned c.args.text.now) (length c.args.text.now + 1 - c.loop-step.step) (length c.args.text.now + 1 - (c.loop-step.step + 1)) c.loop-step.tokens.items c.loop-step.lefts.items c.loop-step.rest.now c.span.result.1.now
    c.in-Some.found c.in-Some.after.now (length c.span.result.1.now) c.push.new.self.items c.push-in-Some.new.self.items
    (omega (arith, c.loop-step-test.true)) c.loop-step.invariant c.span.ensures.rest (sym (ap token_seen c.in-Some.is) ∙ c.in_ok-token.ensures.read)
    (subst RestIsUtf8 c.in-Some.is c.in_ok-token.ensures.rest) refl c.in_ok-push-in-Some.ensures.items c.in_ok-push-in-Some-2.ensures.items

pub returns-in-None : goal.returns-in-None
returns-in-None c =
    let s : 0 < length c.args.text.now + 1 - c.loop-step.step = omega (arith, c.loop-step-test.true) in
    scanning_stop (scanned c.args.text.now) (length c.args.text.now + 1 - c.loop-step.step) c.loop-step.tokens.items c.loop-step.lefts.items c.loop-step.rest.now c.span.result.1.now s c.loop-step.invariant c.span.ensures.rest (sym (ap token_seen c.in-None.is) ∙ c.in_ok-token.ensures.read) (length c.span.result.1.now) refl

pub returns : goal.returns
returns c = scanning_done (scanned c.args.text.now) (length c.args.text.now + 1 - c.loop-step.step) c.loop-step.tokens.items c.loop-step.lefts.items c.loop-step.rest.now (omega (arith, c.loop-step-test.false)) c.loop-step.invariant (length c.loop-step.rest.now) refl
