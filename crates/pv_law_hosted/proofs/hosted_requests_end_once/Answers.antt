use Rattle.pv_law_hosted.proofs.EndLemmas.{reported-home, reported-once}
use Rattle.pv_law_hosted.proofs.hosted_requests_end_once.Goals as goal

pub returns-clause-once : goal.returns-clause-once
returns-clause-once c setup d events n mirrored below = reported-once setup d events n mirrored below (c.no_txn_ends_twice.ensures.run setup events mirrored.well)

pub returns-clause-home : goal.returns-clause-home
returns-clause-home c setup d events n reported txn mirrored below there tells =
    reported-home setup d events n mirrored below (c.txns_end_at_home.ensures.run setup events mirrored.well) reported txn there tells
