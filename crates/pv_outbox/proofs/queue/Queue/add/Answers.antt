-- It waits for each transaction that its condition names, and is a candidate.
use Rattle.std.proofs.Common.{◌∙◌, ap, sym, subst}
use Rattle.std.specs.List.{Contains}
use Rattle.std.proofs.lemmas.List.Elements.{All-contains}
use Rattle.std.proofs.lemmas.Result.{on_ok_weaker}
use Rattle.pv_outbox.specs.Covers.{Queued, WaitsIfUnknown, waits_for}
use Rattle.pv_outbox.proofs.queue.Queue.add.Goals as goal

pub returns-clause-more : goal.returns-clause-more
returns-clause-more c = record {
  candidates = λ place is.
      c.put.ensures.more place
      (subst (λ (queue : Queued). Contains queue.candidates place) (sym c.self-2.view_is) (c.wait_for_all.ensures.more.candidates place is));
  waiting = λ txn place is.
      ap (λ (queue : Queued). waits_for queue.waiting txn place) c.self-2.view_is ∙ c.wait_for_all.ensures.more.waiting txn place is;
}

pub returns-clause-waits : goal.returns-clause-waits
returns-clause-waits c =
    on_ok_weaker c.put.result
    (λ placed txn named unknown.
    ap (λ (queue : Queued). waits_for queue.waiting txn c.args.place) c.self-2.view_is
    ∙ All-contains (WaitsIfUnknown c.args.facts.now.state c.wait_for_all.new.self c.args.place) c.deref.result.now txn c.in_ok-wait_for_all.ensures.waits
    (subst (λ txns. Contains txns txn) (sym c.deref.ensures.value) (c.in_ok-txns.ensures.names.whole txn named)) unknown)
    c.put.ensures.placed
