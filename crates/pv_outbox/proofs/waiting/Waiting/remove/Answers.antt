-- At other transactions all places stay.
use Rattle.std.proofs.Common.{◌∙◌, false, ap}
use Rattle.std.specs.Option.{option_map_or}
use Rattle.pv_outbox.specs.Covers.{waits_for}
use Rattle.pv_outbox.proofs.WaitingLemmas.{is_in, key-apart}
use Rattle.pv_outbox.proofs.waiting.Waiting.remove.Goals as goal

pub returns : goal.returns
returns c = λ other place apart.
    ap (λ found. option_map_or (is_in place) found false) (c.swap_remove.ensures.updates.2 other (key-apart c.args.txn other apart))
    ∙ ap (λ waiting. waits_for waiting other place) c.self.view_is
