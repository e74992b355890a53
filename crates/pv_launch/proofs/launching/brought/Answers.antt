-- All disks are out, or those that are go back.
use Rattle.std.proofs.Common.{Err, subst, ◌∙◌}
use Rattle.pv_launch.proofs.BayLemmas.{short-brings, taken-brings}
use Rattle.pv_launch.specs.Launching.{TakesAll}
use Rattle.pv_launch.proofs.launching.brought.Goals as goal

pub returns-in-Ok-clause-brings : goal.returns-in-Ok-clause-brings
returns-in-Ok-clause-brings g c =
    let takes = c.in-Ok.ensures in
    taken-brings g.B.Bay.model g.B.D.Disk.model c.args.catalog.now c.args.bay.now c.take_all.new.bay c.in-Ok.disks.items takes.0 (takes.1 ∙ c.sites.ensures.count) takes.2
    c.ask_and_begin.result c.ask_and_begin.ensures

pub returns-in-Err-clause-brings : goal.returns-in-Err-clause-brings
returns-in-Err-clause-brings g c =
    short-brings g.B.Bay.model g.B.D.Disk.model c.args.catalog.now c.args.bay.now c.take_all.new.bay c.in-Err.given_up
    (subst (λ n. TakesAll g.B.Bay.model g.B.D.Disk.model n c.args.bay.now c.take_all.new.bay (Err c.in-Err.given_up)) c.sites.ensures.count c.in-Err.ensures)
