-- No disk of a new bay is out.
use Rattle.pv_show.proofs.RestLemmas.{rest-of-new}
use Rattle.pv_show_tests.proofs.tests.bay_of.Goals as goal

pub returns : goal.returns
returns c = rest-of-new c.args.disks.items c.new.result c.new.ensures.bay
