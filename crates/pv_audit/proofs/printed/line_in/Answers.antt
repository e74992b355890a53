-- The first word says what stands behind it.
use Rattle.std.proofs.Common.{ap}
use Rattle.pv_script.specs.LineFaults.{texts}
use Rattle.pv_audit.proofs.RestLemmas.{line-empty, line-found-in, line-unknown}
use Rattle.pv_audit.proofs.printed.line_in.Goals as goal

pub returns-in_default : goal.returns-in_default
returns-in_default c = line-empty c.args.catalog.now (texts c.args.words.now) (ap texts c.in_default.ensures.none)

pub returns-in_default-first_of : goal.returns-in_default-first_of
returns-in_default-first_of c =
    line-unknown c.args.catalog.now (texts c.args.words.now) c.in-Some.word.now (texts c.in-Some.rest.now) c.in-Some.ensures.some c.in_default-first_of.ensures.none

pub returns : goal.returns
returns c =
    line-found-in c.args.catalog.now (texts c.args.words.now) c.in-Some.word.now (texts c.in-Some.rest.now) c.in-Some-first_of.first c.rest_in.result
    c.in-Some.ensures.some c.in-Some-first_of.ensures.some c.rest_in.ensures
