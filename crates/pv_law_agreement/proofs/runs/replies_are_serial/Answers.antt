-- The lemma on what was read, along the acts that come later.
use Rattle.pv_law_agreement.proofs.AnswerLemmas.{reply-possible, serial-answer}
use Rattle.pv_law_agreement.proofs.GroundLemmas.{grounds-from}
use Rattle.pv_law_agreement.proofs.RunLemmas.{all-kept, falls-back, kept-along, order-grows}
use Rattle.pv_law_agreement.proofs.runs.replies_are_serial.Goals as goal

pub returns : goal.returns
returns c = λ setup w u acts later n txn entry works votes a fits in_a records heeds.
    let kept = all-kept setup w acts in
    let after = kept-along setup w u later kept in
    let more = order-grows setup w u later in (
      serial-answer setup w u (grounds-from setup w kept.settled) kept.support kept.values (falls-back setup w u kept.settled later) (grounds-from setup u after.settled).distinct
          more.0 more.1 n txn entry works votes a fits in_a records heeds,
      reply-possible records entry a,
    )
