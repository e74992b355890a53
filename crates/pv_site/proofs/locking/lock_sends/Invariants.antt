use Rattle.std.proofs.Common.{◌≡◌, ◌++◌, map, drop}
use Rattle.pv_protocol.specs.Lock.{lock_sends}
use Rattle.pv_site.specs.Values.{outgoing_of}
use Rattle.pv_site.proofs.locking.lock_sends.Given as goal

abbrev pub invariant-loop-part : goal.invariant-loop-part
invariant-loop-part l = lock_sends l.fn.txn l.fn.parts ≡ map outgoing_of l.sends.items ++ lock_sends l.fn.txn (drop l.part-index l.parts)
