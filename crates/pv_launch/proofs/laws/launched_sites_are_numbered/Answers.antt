-- They stand in the order of their numbers.
use Rattle.std.proofs.Common.{◌≡◌, ◌+◌, ℕ, get_or, subst, arith}
use Rattle.pv_launch.proofs.OrderedLemmas.{numbered-at}
use Rattle.pv_launch.proofs.laws.launched_sites_are_numbered.Goals as goal
use Rattle.pv_launch.specs.Launching.{IsLaunched}

pub returns : goal.returns
returns g c = λ catalog old new sites launched n any less.
    let here : 0 + n ≡ n = omega arith in
    subst (λ (m : ℕ). IsLaunched g.B.Bay.model g.B.D.Disk.model catalog old m (get_or sites n any)) here
    (numbered-at (IsLaunched g.B.Bay.model g.B.D.Disk.model catalog old) 0 sites launched.launched n any less)
