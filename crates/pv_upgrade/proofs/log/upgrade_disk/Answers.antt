-- The disk is settled first, and then there is something to do, or not.
use Rattle.std.proofs.Common.{sym, ◌∙◌, subst}
use Rattle.pv_upgrade.proofs.FindLemmas.{done-upgrades, if-upgrades-after, settled-keeps}
use Rattle.pv_upgrade.specs.Finding.{IsFound, IsQuiet}
use Rattle.pv_upgrade.proofs.log.upgrade_disk.Goals as goal

pub replace-requires-clause-renews : goal.replace-requires-clause-renews
replace-requires-clause-renews g c = λ was known.
    subst (IsFound c.args.limit was) c.in-Ok-Old.field-0-is (c.in-Ok-Old.ensures.found was (c.in-Ok.ensures.1 was (sym c.in-Ok.ensures.0.content ∙ known)))

pub returns-in-Ok-Done-clause-upgrades : goal.returns-in-Ok-Done-clause-upgrades
returns-in-Ok-Done-clause-upgrades g c =
    done-upgrades g.D.Disk.model c.args.limit c.args.disk c.settled_contents.new.disk c.in-Ok-Done.told c.in-Ok.ensures.0
    (subst (IsQuiet c.args.limit) c.in-Ok-Done.field-0-is c.in-Ok-Done.ensures.quiet)
    (λ was known. subst (IsFound c.args.limit was) c.in-Ok-Done.field-0-is (c.in-Ok-Done.ensures.found was (c.in-Ok.ensures.1 was known)))

pub returns-in-Ok-Old-clause-keeps : goal.returns-in-Ok-Old-clause-keeps
returns-in-Ok-Old-clause-keeps g c = settled-keeps g.D.Disk.model c.args.disk c.settled_contents.new.disk c.replace.result.0 c.in-Ok.ensures.0 c.replace.ensures.keeps

pub returns-in-Ok-Old-clause-upgrades : goal.returns-in-Ok-Old-clause-upgrades
returns-in-Ok-Old-clause-upgrades g c =
    if-upgrades-after g.D.Disk.model c.args.limit c.args.disk c.settled_contents.new.disk c.replace.result.0 c.replace.result.1 c.in-Ok.ensures.0 c.replace.ensures.upgrades
