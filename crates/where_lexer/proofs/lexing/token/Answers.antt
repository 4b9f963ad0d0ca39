use Rattle.std.proofs.Common.{◌≡◌, ◌<◌, sym, arith, subst, refl, false, IfOk}
use Rattle.where_lexer.specs.Lexing.{named, texted, unquoted, token_at}
use Rattle.where_lexer.specs.Seen.{token_seen}
use Rattle.std.specs.Str.{IsUtf8}
use Rattle.std.specs.Char.{is_ascii_digit}
use Rattle.where_lexer.specs.Classes.{PassAll}
use Rattle.where_lexer.proofs.Quotes.{ascii_before}
use Rattle.where_lexer.proofs.Lower.{run_passes}
use Rattle.where_lexer.proofs.TokenLaws.{none_read, word_read, number_read, name_read, string_read, sign_read, words_cut, past_ascii, digit_small, not_begin_small}
use Rattle.where_lexer.proofs.lexing.token.Goals as goal

pub returns-in_default-clause-read : goal.returns-in_default-clause-read
returns-in_default-clause-read c = none_read c.args.bytes.now c.in_default.ensures

pub word-requires : goal.word-requires
word-requires c = subst IsUtf8 (sym c.span.ensures.front) (words_cut c.args.bytes.now c.requires).0

pub returns-then-begins_word-clause-read : goal.returns-then-begins_word-clause-read
returns-then-begins_word-clause-read c = word_read c.args.bytes.now c.in-Some.first c.in-Some.rest.now c.span.result.0.now c.span.result.1.now c.in_ok-word.field-0 c.in-Some.ensures (sym c.if-begins_word.ensures) c.span.ensures.front c.span.ensures.rest c.in_ok-word.ensures

pub returns-then-begins_word-clause-rest : goal.returns-then-begins_word-clause-rest
returns-then-begins_word-clause-rest c = subst IsUtf8 (sym c.span.ensures.rest) (words_cut c.args.bytes.now c.requires).1

pub number-requires : goal.number-requires
number-requires c = subst (λ u. PassAll is_ascii_digit u) (sym c.span-then-is_ascii_digit.ensures.front) (run_passes is_ascii_digit c.args.bytes.now)

pub returns-then-is_ascii_digit-clause-read : goal.returns-then-is_ascii_digit-clause-read
returns-then-is_ascii_digit-clause-read c = number_read c.args.bytes.now c.in-Some.first c.in-Some.rest.now c.span-then-is_ascii_digit.result.0.now c.span-then-is_ascii_digit.result.1.now _ c.in-Some.ensures (sym c.if-begins_word.ensures) (sym c.if-is_ascii_digit.ensures.value) c.span-then-is_ascii_digit.ensures.front c.span-then-is_ascii_digit.ensures.rest c.number.ensures

pub returns-then-is_ascii_digit-clause-rest : goal.returns-then-is_ascii_digit-clause-rest
returns-then-is_ascii_digit-clause-rest c = subst IsUtf8 (sym c.span-then-is_ascii_digit.ensures.rest) (past_ascii is_ascii_digit digit_small c.args.bytes.now c.requires)

pub name-requires : goal.name-requires
name-requires c = let s : c.in-Some.first < 128 = omega (arith, c.if-first-eq34.true) in ascii_before c.args.bytes.now c.in-Some.first c.in-Some.rest.now c.in-Some.ensures s c.requires

pub string-requires : goal.string-requires
string-requires c = let s : c.in-Some.first < 128 = omega (arith, c.if-first-eq39.true) in ascii_before c.args.bytes.now c.in-Some.first c.in-Some.rest.now c.in-Some.ensures s c.requires

pub returns-then-first-eq34-clause-read : goal.returns-then-first-eq34-clause-read
returns-then-first-eq34-clause-read c =
    let e : named (unquoted 34 false c.in-Some.rest.now) ≡ token_at c.args.bytes.now = name_read c.args.bytes.now c.in-Some.first c.in-Some.rest.now (named (unquoted 34 false c.in-Some.rest.now)) c.in-Some.ensures c.if-first-eq34.true refl in
    subst (λ t. IfOk c.name.result (λ o. token_seen o ≡ t)) e c.name.ensures.read

pub returns-then-first-eq39-clause-read : goal.returns-then-first-eq39-clause-read
returns-then-first-eq39-clause-read c =
    let e : texted (unquoted 39 false c.in-Some.rest.now) ≡ token_at c.args.bytes.now = string_read c.args.bytes.now c.in-Some.first c.in-Some.rest.now (texted (unquoted 39 false c.in-Some.rest.now)) c.in-Some.ensures c.if-first-eq39.true refl in
    subst (λ t. IfOk c.string.result (λ o. token_seen o ≡ t)) e c.string.ensures.read

pub returns-clause-read : goal.returns-clause-read
returns-clause-read c = sign_read c.args.bytes.now c.in-Some.first c.in-Some.rest.now _ c.in-Some.ensures (sym c.if-begins_word.ensures) (sym c.if-is_ascii_digit.ensures.value) c.if-first-eq34.false c.if-first-eq39.false c.sign.ensures.read

pub returns-clause-rest : goal.returns-clause-rest
returns-clause-rest c = c.sign.ensures.rest (ascii_before c.args.bytes.now c.in-Some.first c.in-Some.rest.now c.in-Some.ensures (not_begin_small c.in-Some.first (sym c.if-begins_word.ensures)) c.requires)
