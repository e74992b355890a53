-- Cases are no more than their words, and canonical or not.
use Rattle.pv_audit.proofs.FoundCaseLemmas.{few-by-words, found-other}
use Rattle.pv_script.specs.LineFaults.{texts}
use Rattle.pv_audit.proofs.cases.cases_in.Goals as goal

pub are_canonical-requires-clause-few_cases : goal.are_canonical-requires-clause-few_cases
are_canonical-requires-clause-few_cases c =
    let are = rw c.in-Some.is at c.in_ok-cases.ensures.cases in
    rw c.deref.ensures.value (few-by-words c.args.words.now c.in-Some.cases.items are c.requires.few).0

pub are_canonical-requires-clause-few_literals : goal.are_canonical-requires-clause-few_literals
are_canonical-requires-clause-few_literals c =
    let are = rw c.in-Some.is at c.in_ok-cases.ensures.cases in
    rw c.deref.ensures.value (few-by-words c.args.words.now c.in-Some.cases.items are c.requires.few).1

pub returns-then-not-branch : goal.returns-then-not-branch
returns-then-not-branch c =
    found-other (texts c.args.words.now) c.in-Some.cases.items (rw c.in-Some.is at c.in_ok-cases.ensures.some) (rw c.in-Some.is at c.in_ok-cases.ensures.each)
    (rw c.in-Some.is at c.in_ok-cases.ensures.cases)
    (λ polyvalue. c.in_ok-are_canonical.ensures.other c.if-not-branch.true (rw c.deref.ensures.value polyvalue))
