-- No disk of a new bay is out.
use Rattle.pv_app.proofs.BayLemmas.{memory-rest}
use Rattle.pv_app.proofs.bay_tests.bay_of.Goals as goal

pub returns : goal.returns
returns c = memory-rest c.new.result c.args.disks.items _ c.new.ensures.bay
