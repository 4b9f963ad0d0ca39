use Rattle.std.proofs.Common.{◌≡◌, ℕ, List, sym, subst}
use Rattle.std.specs.Str.{IsUtf8}
use Rattle.where_lexer.proofs.Writes.{joined_utf8, doubling_step, run_last, run_front}
use Rattle.where_lexer.proofs.writing.push_doubled.Goals as goal

pub returns-in_default-clause-utf8 : goal.returns-in_default-clause-utf8
returns-in_default-clause-utf8 c = λ u. joined_utf8 c.loop-tail.bytes.items c.next_run.result.0.now c.extend_from_slice.new.self.items c.in_ok-extend_from_slice.ensures.items (run_last c.args.quote c.loop-tail.rest.now c.next_run.result.0.now c.next_run.result.1 c.next_run.ensures c.in_default.is) (c.loop-tail.invariant.utf8 u)

pub returns-in_err-extend_from_slice-2-clause-utf8 : goal.returns-in_err-extend_from_slice-2-clause-utf8
returns-in_err-extend_from_slice-2-clause-utf8 c = λ u. subst-utf8 c.in_err-extend_from_slice-2.ensures.items (joined_utf8 c.loop-tail.bytes.items c.next_run.result.0.now c.extend_from_slice.new.self.items c.in_ok-extend_from_slice.ensures.items (run_front c.args.quote c.loop-tail.rest.now c.next_run.result.0.now c.next_run.result.1 c.in-Some.tail c.next_run.ensures c.in-Some.is).front_utf8 (c.loop-tail.invariant.utf8 u)) where
  subst-utf8 : {a b : List ℕ} → a ≡ b → IsUtf8 b → IsUtf8 a
  subst-utf8 e h = subst IsUtf8 (sym e) h

pub loop-tail-preserved : goal.loop-tail-preserved
loop-tail-preserved c = doubling_step c.args.quote c.args.bytes.now.items c.args.text.now c.loop-tail.bytes.items c.loop-tail.rest.now c.next_run.result.0.now c.extend_from_slice.new.self.items _ c.in-Some.tail.now c.requires.ascii c.loop-tail.invariant (run_front c.args.quote c.loop-tail.rest.now c.next_run.result.0.now c.next_run.result.1 c.in-Some.tail c.next_run.ensures c.in-Some.is) c.in_ok-extend_from_slice.ensures.items c.in_ok-extend_from_slice-2.ensures.items
