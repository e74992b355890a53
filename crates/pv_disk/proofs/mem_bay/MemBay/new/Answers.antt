-- There is room for a berth for each disk.
use Rattle.std.proofs.Common.{rules, ap, length, arith}
use Rattle.std.proofs.lemmas.Iterator.Adapters.{YieldsList-from_vec}
use Rattle.std.proofs.lemmas.Iterator.Consumers.{YieldsList-turn}
use Rattle.std.proofs.lemmas.List.{length-map}
use Rattle.pv_disk.specs.MemBay.{first_berth}
use Rattle.pv_disk.proofs.mem_bay.MemBay.new.Goals as goal

pub push_reserved-requires : goal.push_reserved-requires
push_reserved-requires c =
    let turn = YieldsList-turn (YieldsList-from_vec {s = c.into_iter-disk-iterator.result} c.args.disks.items (search rules) (search rules)) c.loop-disk.yielded
    c.loop-disk.disk-iterator c.loop-disk.yielded_by c.next.result c.next.new.self c.in-Some.disk c.in-Some.is c.next.ensures.steps in
    omega (arith, turn.0, c.loop-disk.invariant.1, ap length c.loop-disk.invariant.0, length-map c.loop-disk.yielded first_berth, c.loop-disk.berths.ok.0)
