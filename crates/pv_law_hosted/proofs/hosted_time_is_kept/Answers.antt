use Rattle.pv_law_hosted.proofs.TimeLemmas.{not-before}
use Rattle.pv_law_hosted.proofs.hosted_time_is_kept.Goals as goal

pub returns : goal.returns
returns c setup d events n site next input held txn mirrored below here may stepped there is before =
    not-before setup d events mirrored n below site next here input may stepped (λ at. c.no_txn_is_begun_twice.ensures.run at) held txn there is before
