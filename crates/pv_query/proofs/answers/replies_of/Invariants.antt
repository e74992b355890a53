-- The replies so far, and those that the cases left bring, are the possible ones.
use Rattle.std.proofs.Common.{◌≡◌, drop}
use Rattle.std.specs.Prelude.{◌++◌, map}
use Rattle.pv_base.specs.Polyvalue.{Case}
use Rattle.pv_base.specs.contracts.reply.ReplyPartialEq.TheImpl as reply_eq
use Rattle.pv_model.specs.PossibleAnswers.{possible}
use Rattle.pv_query.proofs.RepeatLemmas.{left_of}
use Rattle.pv_query.proofs.answers.replies_of.Given as goal

abbrev pub invariant-loop-case : goal.invariant-loop-case
invariant-loop-case l =
    (l.replies ++ left_of reply_eq.ghosts.eq l.replies (map (λ (case : Case _). case.value) (drop l.case-index l.cases))) ≡ possible reply_eq.ghosts.eq l.fn.cases
