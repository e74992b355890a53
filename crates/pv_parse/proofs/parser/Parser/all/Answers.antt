-- No token is left behind a whole program.
use Rattle.std.proofs.lemmas.Result.{err_from_is_err_and}
use Rattle.pv_parse.specs.TokenView.{located_of}
use Rattle.pv_parse.proofs.ParseLemmas.{reads-all, faults-more, faults-of}
use Rattle.pv_parse.proofs.parser.Parser.all.Goals as goal

pub returns-in_err-program-clause-faults : goal.returns-in_err-program-clause-faults
returns-in_err-program-clause-faults c =
    let p = err_from_is_err_and c.from_residual.result c.from_residual.ensures.1 in
    rw (p.1, p.2) (faults-of c.args.self.now c.args.tokens.now _ c.in_err-program.ensures.stops)

pub returns-in-Some-clause-faults : goal.returns-in-Some-clause-faults
returns-in-Some-clause-faults c =
    let read = rw c.in-Some.ensures.some at c.in_ok-program.ensures.read in
    faults-more c.args.self.now c.args.tokens.now (located_of c.in-Some.next) _ c.in_ok-program.program read

pub returns-clause-read : goal.returns-clause-read
returns-clause-read c =
    let read = rw c.in_default.ensures.none at c.in_ok-program.ensures.read in
    reads-all c.args.self.now c.args.tokens.now c.in_ok-program.program read
