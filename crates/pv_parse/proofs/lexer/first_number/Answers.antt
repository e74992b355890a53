-- The digits at the front are one number, and no longer front is a token.
use Rattle.std.proofs.Common.{◌≤◌, arith}
use Rattle.pv_parse.proofs.LexerLemmas.{front_is_digits, number_starts, some_at}
use Rattle.pv_base.specs.Name.{is_digit}
use Rattle.pv_parse.proofs.lexer.first_number.Goals as goal

pub returns-clause-token : goal.returns-clause-token
returns-clause-token c =
    let digits = c.number_size-size.ensures in
    let some : 1 ≤ c.number_size-size.result = some_at is_digit c.args.text.now c.number_size-size.result c.requires.digit (λ h. digits.end (omega (arith, h))) in
    rw c.split_at.ensures.front (number_starts c.args.text.now c.number_size-size.result c.requires.digit some digits.within digits.each digits.end)

pub returns-clause-digits : goal.returns-clause-digits
returns-clause-digits c =
    let digits = c.number_size-size.ensures in
    let some : 1 ≤ c.number_size-size.result = some_at is_digit c.args.text.now c.number_size-size.result c.requires.digit (λ h. digits.end (omega (arith, h))) in
    rw c.split_at.ensures.front (front_is_digits c.args.text.now c.number_size-size.result some digits.within digits.each)
