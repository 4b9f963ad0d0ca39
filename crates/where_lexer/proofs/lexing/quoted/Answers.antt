use Rattle.where_lexer.proofs.Quotes.{quoting_step, quoting_less, quoting_ended, quoted_read, closed_end, closed_other, quoting_none}
use Rattle.where_lexer.proofs.lexing.quoted.Goals as goal

pub loop-content-smaller : goal.loop-content-smaller
loop-content-smaller c = quoting_less c.args.quote c.loop-content.rest.now c.until.result.1.now c.in-Some.field-0-0 c.in-Some.tail.now c.in-Some-next_byte.next c.in-Some-next_byte.more.now c.until.ensures.rest c.in-Some.ensures c.in-Some-next_byte.ensures

pub loop-content-preserved : goal.loop-content-preserved
loop-content-preserved c =
    quoting_step c.args.quote c.args.bytes.now c.loop-content.content.items c.loop-content.rest.now c.until.result.0.now c.until.result.1.now c.extend_from_slice.new.self.items
    c.in-Some.field-0-0 c.in-Some.tail.now c.in-Some-next_byte.next c.in-Some-next_byte.more.now c.push.new.self.items
    c.requires.ascii c.loop-content.invariant c.until.ensures.front c.until.ensures.rest c.in_ok-extend_from_slice.ensures.items c.in-Some.ensures c.in-Some-next_byte.ensures c.if-next-quote.false c.in_ok-push.ensures.items

pub returns-in_default-clause-read : goal.returns-in_default-clause-read
returns-in_default-clause-read c = quoting_none c.args.quote c.args.bytes.now c.loop-content.content.items c.loop-content.rest.now c.until.result.0.now c.until.result.1.now c.loop-content.invariant c.until.ensures.front c.until.ensures.rest c.in_default.ensures

pub of_bytes-requires : goal.of_bytes-requires
of_bytes-requires c = (quoting_ended c.args.quote c.args.bytes.now c.loop-content.content.items c.loop-content.rest.now c.until.result.0.now c.until.result.1.now c.extend_from_slice.new.self.items c.in-Some.field-0-0 c.in-Some.tail.now
    c.requires.ascii c.loop-content.invariant c.until.ensures.front c.until.ensures.rest c.in_ok-extend_from_slice.ensures.items c.in-Some.ensures (closed_end c.args.quote c.in-Some.tail.now c.in_default-next_byte.ensures)).content_utf8

pub returns-in_default-next_byte-clause-read : goal.returns-in_default-next_byte-clause-read
returns-in_default-next_byte-clause-read c =
    quoted_read c.args.quote c.args.bytes.now c.extend_from_slice.new.self.items c.in-Some.tail.now c.of_bytes.result
    (quoting_ended c.args.quote c.args.bytes.now c.loop-content.content.items c.loop-content.rest.now c.until.result.0.now c.until.result.1.now c.extend_from_slice.new.self.items c.in-Some.field-0-0 c.in-Some.tail.now
    c.requires.ascii c.loop-content.invariant c.until.ensures.front c.until.ensures.rest c.in_ok-extend_from_slice.ensures.items c.in-Some.ensures (closed_end c.args.quote c.in-Some.tail.now c.in_default-next_byte.ensures))
    c.of_bytes.ensures

pub of_bytes-requires-then-next-quote : goal.of_bytes-requires-then-next-quote
of_bytes-requires-then-next-quote c = (quoting_ended c.args.quote c.args.bytes.now c.loop-content.content.items c.loop-content.rest.now c.until.result.0.now c.until.result.1.now c.extend_from_slice.new.self.items c.in-Some.field-0-0 c.in-Some.tail.now
    c.requires.ascii c.loop-content.invariant c.until.ensures.front c.until.ensures.rest c.in_ok-extend_from_slice.ensures.items c.in-Some.ensures (closed_other c.args.quote c.in-Some-next_byte.next c.in-Some.tail.now c.in-Some-next_byte.more.now c.in-Some-next_byte.ensures c.if-next-quote.true)).content_utf8

pub returns-then-next-quote-clause-read : goal.returns-then-next-quote-clause-read
returns-then-next-quote-clause-read c =
    quoted_read c.args.quote c.args.bytes.now c.extend_from_slice.new.self.items c.in-Some.tail.now c.of_bytes-then-next-quote.result
    (quoting_ended c.args.quote c.args.bytes.now c.loop-content.content.items c.loop-content.rest.now c.until.result.0.now c.until.result.1.now c.extend_from_slice.new.self.items c.in-Some.field-0-0 c.in-Some.tail.now
    c.requires.ascii c.loop-content.invariant c.until.ensures.front c.until.ensures.rest c.in_ok-extend_from_slice.ensures.items c.in-Some.ensures (closed_other c.args.quote c.in-Some-next_byte.next c.in-Some.tail.now c.in-Some-next_byte.more.now c.in-Some-next_byte.ensures c.if-next-quote.true))
    c.of_bytes-then-next-quote.ensures

pub returns-then-next-quote-clause-rest : goal.returns-then-next-quote-clause-rest
returns-then-next-quote-clause-rest c =
    (quoting_ended c.args.quote c.args.bytes.now c.loop-content.content.items c.loop-content.rest.now c.until.result.0.now c.until.result.1.now c.extend_from_slice.new.self.items c.in-Some.field-0-0 c.in-Some.tail.now
    c.requires.ascii c.loop-content.invariant c.until.ensures.front c.until.ensures.rest c.in_ok-extend_from_slice.ensures.items c.in-Some.ensures (closed_other c.args.quote c.in-Some-next_byte.next c.in-Some.tail.now c.in-Some-next_byte.more.now c.in-Some-next_byte.ensures c.if-next-quote.true)).tail_utf8
