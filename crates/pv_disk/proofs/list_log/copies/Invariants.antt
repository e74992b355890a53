use Rattle.std.proofs.Common.{◌≡◌, map, take}
use Rattle.pv_disk.proofs.list_log.copies.Given as goal

abbrev pub invariant-loop-content : goal.invariant-loop-content
invariant-loop-content l = map (λ it. it.items) l.all.items ≡ map (λ it. it.items) (take l.content-index l.contents)
