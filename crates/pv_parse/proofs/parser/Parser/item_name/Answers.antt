-- A token that is no name, or none.
use Rattle.pv_parse.specs.TokenView.{token_of}
use Rattle.pv_parse.proofs.RequirementLemmas.{name-end, name-other, other-name}
use Rattle.pv_parse.proofs.parser.Parser.item_name.Goals as goal

pub returns-in_default-clause-stops : goal.returns-in_default-clause-stops
returns-in_default-clause-stops c = rw (c.malformed.ensures, c.in_default.ensures.none) (name-end c.args.self.now c.args.depth)

pub returns-in_default-token : goal.returns-in_default-token
returns-in_default-token c =
    let other = other-name c.in-Some.next.token c.in_default-token.not-Name in
    let column = rw c.in-Some.ensures.some at c.malformed-in_default-token.ensures in
    record {
      read = tt;
      stops = rw column (name-other c.args.self.now c.args.depth c.in-Some.next.column (token_of c.in-Some.next.token) c.args.tokens.now _ c.in-Some.ensures.some other);
    }
