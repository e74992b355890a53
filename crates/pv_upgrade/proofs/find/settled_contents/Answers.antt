use Rattle.pv_upgrade.proofs.FindLemmas.{look-finds}
use Rattle.pv_upgrade.proofs.find.settled_contents.Goals as goal

pub returns : goal.returns
returns g c =
    look-finds g.D.Disk.model c.args.disk.now c.sync.new.self c.sync.result c.sync.ensures.effect c.sync.ensures.goes c.if-is_err.ensures.value c.look.new.disk c.look.result
    c.look.ensures.effect c.look.ensures.answer
