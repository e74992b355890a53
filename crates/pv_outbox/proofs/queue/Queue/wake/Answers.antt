-- Those that wait are among the candidates.
use Rattle.std.proofs.Common.{◌∙◌, ap}
use Rattle.std.specs.List.{Contains}
use Rattle.std.proofs.lemmas.List.Elements.{All-contains}
use Rattle.std.proofs.lemmas.Result.{on_ok_weaker}
use Rattle.pv_outbox.specs.Covers.{Queued, waits_for}
use Rattle.pv_outbox.proofs.ListLemmas.{any-contains}
use Rattle.pv_outbox.proofs.queue.Queue.wake.Goals as goal

pub returns-clause-woken : goal.returns-clause-woken
returns-clause-woken c =
    on_ok_weaker c.put_all.result
    (λ all place waits.
    All-contains (Contains c.put_all.new.self) c.places.result.now place all
    (any-contains place c.places.result.now
    (c.places.ensures place ∙ ap (λ (queue : Queued). waits_for queue.waiting c.args.txn place) c.self.view_is ∙ waits)))
    c.put_all.ensures.placed
