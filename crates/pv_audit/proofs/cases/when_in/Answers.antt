-- A condition is `if` and its literals.
use Rattle.pv_audit.proofs.WhenLemmas.{no-when-found}
use Rattle.pv_script.specs.LineFaults.{texts}
use Rattle.pv_audit.proofs.cases.when_in.Goals as goal

pub returns-clause-none : goal.returns-clause-none
returns-clause-none c =
    no-when-found (texts c.args.words.now) c.in-Some.word.now (texts c.in-Some.literals.now) c.literals_in.result c.in-Some.ensures.some c.literals_in.ensures.none
