use Rattle.std.proofs.Common.{rules, ◌≡◌, ◌<◌, length, drop, sym, subst}
use Rattle.pv_host.specs.Waiting.{AreRecords}
use Rattle.pv_host.proofs.WaitingLemmas.{long-records}
use Rattle.pv_host.proofs.waiting.Waiting.next_length.Goals as goal

pub record_length-requires : goal.record_length-requires
record_length-requires c =
    let others : c.split_at.result.1.now ≡ drop c.self.inside.frozen c.self.inside.bytes.items = search rules in
    let some : 0 < length c.split_at.result.1.now = search rules in
    long-records _ c.split_at.result.1.now (subst (AreRecords _) (sym others) c.self.invariant.pending) some
