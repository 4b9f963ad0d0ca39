use Rattle.std.proofs.Common.{List, [], ap, subst, append-nil, arith}
use Rattle.shape_base.specs.declared.entry.Entry.{Entry}
use Rattle.shape_json.specs.Page.{page_of}
use Rattle.chunked_log.specs.Chunked.{Chunked, Carries}
use Rattle.chunked_log.proofs.Settling.{seen}
use Rattle.chunked_log.proofs.log.ChunkedLog.page.Goals as goal

pub returns-in_ok-twin-in-Some-clause-page : goal.returns-in_ok-twin-in-Some-clause-page
returns-in_ok-twin-in-Some-clause-page c = λ entries held.
    let log = c.self.inside.log in
    let kept = seen log.offsets log.texts c.self.inside.cutter.least c.args.self.now c.args.offset c.in-Some.page.now c.in_ok-twin-in-Some.field-0 (ap (λ (l : Chunked). l.offsets) c.self.view_is) (ap (λ (l : Chunked). l.texts) c.self.view_is) (ap (λ (l : Chunked). l.least) c.self.view_is) c.in_ok-twin-in-Some.ensures (c.in-Some.ensures log.offsets log.texts c.self.inside.cutter.least c.self.invariant.settled) in
    subst (λ (es : List Entry). Carries c.in_ok-twin-in-Some.field-0 (page_of c.args.self.now.least es c.args.offset)) (append-nil entries) (kept.stays entries [] held.offsets held.texts held.short)

pub returns-in_ok-twin-in-Some-clause-settles : goal.returns-in_ok-twin-in-Some-clause-settles
returns-in_ok-twin-in-Some-clause-settles c = λ entries more held closed.
    let log = c.self.inside.log in
    let kept = seen log.offsets log.texts c.self.inside.cutter.least c.args.self.now c.args.offset c.in-Some.page.now c.in_ok-twin-in-Some.field-0 (ap (λ (l : Chunked). l.offsets) c.self.view_is) (ap (λ (l : Chunked). l.texts) c.self.view_is) (ap (λ (l : Chunked). l.least) c.self.view_is) c.in_ok-twin-in-Some.ensures (c.in-Some.ensures log.offsets log.texts c.self.inside.cutter.least c.self.invariant.settled) in
    kept.stays entries more held.offsets held.texts held.short

pub returns-in_ok-twin-in-Some-clause-filled : goal.returns-in_ok-twin-in-Some-clause-filled
returns-in_ok-twin-in-Some-clause-filled c = λ entries held none.
    let log = c.self.inside.log in
    let kept = seen log.offsets log.texts c.self.inside.cutter.least c.args.self.now c.args.offset c.in-Some.page.now c.in_ok-twin-in-Some.field-0 (ap (λ (l : Chunked). l.offsets) c.self.view_is) (ap (λ (l : Chunked). l.texts) c.self.view_is) (ap (λ (l : Chunked). l.least) c.self.view_is) c.in_ok-twin-in-Some.ensures (c.in-Some.ensures log.offsets log.texts c.self.inside.cutter.least c.self.invariant.settled) in
    absurd (omega (arith, kept.some, none))

pub returns-in_ok-twin-in-Some-clause-utf8 : goal.returns-in_ok-twin-in-Some-clause-utf8
returns-in_ok-twin-in-Some-clause-utf8 c =
    let log = c.self.inside.log in
    let kept = seen log.offsets log.texts c.self.inside.cutter.least c.args.self.now c.args.offset c.in-Some.page.now c.in_ok-twin-in-Some.field-0 (ap (λ (l : Chunked). l.offsets) c.self.view_is) (ap (λ (l : Chunked). l.texts) c.self.view_is) (ap (λ (l : Chunked). l.least) c.self.view_is) c.in_ok-twin-in-Some.ensures (c.in-Some.ensures log.offsets log.texts c.self.inside.cutter.least c.self.invariant.settled) in
    kept.utf8
