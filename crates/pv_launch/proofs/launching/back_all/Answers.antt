-- One more disk is back.
use Rattle.std.proofs.Common.{◌≡◌, ◌∷◌, [], ◌++◌, option_to_list, length, sym, ap, subst, ◌∙◌}
use Rattle.pv_disk.specs.BayAnswers.{TakesBack}
use Rattle.pv_launch.proofs.BayLemmas.{back-end, back-more, back-none}
use Rattle.pv_launch.proofs.launching.back_all.Goals as goal

pub loop-disk-init : goal.loop-disk-init
loop-disk-init g c = back-none g.B.Bay.model g.B.D.Disk.model c.args.disks.items c.args.bay.now

pub loop-disk-preserved : goal.loop-disk-preserved
loop-disk-preserved g c =
    let before = c.loop-disk.disks.items in
    let after = c.pop.new.self.items in
    let disk = c.in-Some.disk in
    let is : before ≡ after ++ disk ∷ [] = c.pop.ensures.items ∙ ap (λ r. after ++ option_to_list r) c.in-Some.is in
    let last : c.len.result ≡ length after = c.len.ensures ∙ c.pop.new.self.ok.0 in
    back-more g.B.Bay.model g.B.D.Disk.model c.args.disks.items before after disk c.args.bay.now c.loop-disk.bay c.back.new.self is c.loop-disk.invariant
    (subst (λ n. TakesBack g.B.Bay.model g.B.D.Disk.model c.loop-disk.bay c.back.new.self n disk) last c.back.ensures.effect)

pub returns : goal.returns
returns g c =
    back-end g.B.Bay.model g.B.D.Disk.model c.args.disks.items c.loop-disk.disks.items c.args.bay.now c.loop-disk.bay
    (sym c.loop-disk.disks.ok.0 ∙ c.in_default.ensures.cases.0) c.loop-disk.invariant
