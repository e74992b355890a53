-- What waits still waits where the host has written.
use Rattle.std.proofs.Common.{rules, subst, sym}
use Rattle.pv_handle.proofs.KeepLemmas.{same-keeps, writes-keeps}
use Rattle.pv_handle.proofs.bytes.ByteSite.written.Goals as goal
use Rattle.pv_handle.proofs.bytes.ByteSite.written.Goals.{in-Some+then-write-place, in-Some+else-write-place, in-None}
use Rattle.pv_handle.specs.ByteView.{IsByteSite}

pub invariant_of-self-2 : goal.invariant_of-self-2
invariant_of-self-2 c =
    let inside = c.match-next_write.self-inside in
    let was : IsByteSite inside = elim c.match-next_write.branch [
      | in-Some+then-write-place w ↦ subst IsByteSite (sym w.self-inside-is) (same-keeps c.self.inside _ c.self.invariant (search rules))
      | in-Some+else-write-place w ↦ subst IsByteSite (sym w.self-inside-is) (same-keeps c.self.inside _ c.self.invariant (search rules))
      | in-None w ↦ subst IsByteSite (sym w.self-inside-is) (same-keeps c.self.inside _ c.self.invariant (search rules))
    ] in
    let keeps = writes-keeps inside c.written.new.self was c.written.ensures in
    record { stored = keeps.stored; given = keeps.given }
