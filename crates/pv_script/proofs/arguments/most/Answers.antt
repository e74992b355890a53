-- The word isn't a number in the range.
use Rattle.pv_script.proofs.FieldLemmas.{bad-most}
use Rattle.pv_script.proofs.arguments.most.Goals as goal

pub returns-in-None-clause-fault : goal.returns-in-None-clause-fault
returns-in-None-clause-fault c = λ sites. bad-most sites c.args.word.now (rw c.from.ensures at (c.in-None.ensures.none sites))
