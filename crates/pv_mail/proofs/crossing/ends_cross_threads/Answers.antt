-- Each of the four lists may cross threads.
use denote.Param.SendFields.{declared_send}
use Rattle.pv_mail.specs.contracts.ends.Ends as ends
use Rattle.pv_mail.proofs.crossing.ends_cross_threads.Goals as goal

pub returns : goal.returns
returns c =
    declared_send ends.the_type (
      record { owned = c.sends.ensures.owned; leaving = λ k x w. tt },
      (
        record { owned = c.sends-2.ensures.owned; leaving = λ k x w. tt },
        (record { owned = c.sends-3.ensures.owned; leaving = λ k x w. tt }, (record { owned = c.sends-4.ensures.owned; leaving = λ k x w. tt }, tt)),
      ),
    )
