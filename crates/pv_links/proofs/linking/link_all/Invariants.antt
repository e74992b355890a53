use Rattle.std.proofs.Common.{◌≡◌, ◌≤◌, length}
use Rattle.pv_links.specs.Links.{AreEnds}
use Rattle.pv_links.proofs.linking.link_all.Given as goal

abbrev pub invariant-loop : goal.invariant-loop
invariant-loop g l = (l.counter ≡ length l.outs.items) × (l.counter ≤ l.sites) × AreEnds l.plan l.sites l.outs.items l.ins.items
