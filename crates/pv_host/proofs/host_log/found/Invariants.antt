use Rattle.std.proofs.Common.{◌≡◌, take}
use Rattle.pv_host.proofs.host_log.found.Given as goal

abbrev pub invariant-loop-content : goal.invariant-loop-content
invariant-loop-content l = l.found.items ≡ take l.content-index l.contents
