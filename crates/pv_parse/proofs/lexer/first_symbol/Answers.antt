-- The first two bytes where they are listed, else the first one where it is, else a stray byte.
use Rattle.std.proofs.Common.{sym}
use Rattle.pv_parse.proofs.LexerLemmas.{pair_starts, single_starts, stray_starts}
use Rattle.pv_parse.proofs.TokenKinds.{unfound}
use Rattle.pv_parse.proofs.lexer.first_symbol.Goals as goal

pub returns-in-Some-clause-token : goal.returns-in-Some-clause-token
returns-in-Some-clause-token c = pair_starts c.args.text.now _ c.requires.other (sym c.in-Some.ensures.token)

pub returns-in-Some-listed_single-clause-token : goal.returns-in-Some-listed_single-clause-token
returns-in-Some-listed_single-clause-token c =
    let pair = unfound c.listed_pair.result _ c.listed_pair.ensures.token c.in_default.not-Some in
    single_starts c.args.text.now _ c.requires.other c.requires.some pair (sym c.in-Some-listed_single.ensures.token)

pub returns-in-None-clause-token : goal.returns-in-None-clause-token
returns-in-None-clause-token c =
    let pair = unfound c.listed_pair.result _ c.listed_pair.ensures.token c.in_default.not-Some in
    stray_starts c.args.text.now c.requires.other c.requires.no_blank c.requires.some pair (sym c.in-None.ensures.token)
