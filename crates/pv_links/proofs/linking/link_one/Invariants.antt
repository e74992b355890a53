use Rattle.std.proofs.Common.{◌≡◌, ◌≤◌, length}
use Rattle.pv_links.specs.Links.{AreLinked}
use Rattle.pv_links.proofs.linking.link_one.Given as goal

abbrev pub invariant-loop-to : goal.invariant-loop-to
invariant-loop-to g l =
    (l.to ≡ length l.outs.items) × (length l.outs.items ≤ length l.fn.ins.items) × AreLinked l.plan l.outs.items l.fn.ins.items l.ins.items
