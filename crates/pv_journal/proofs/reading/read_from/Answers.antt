use Rattle.std.proofs.Common.{length}
use Rattle.pv_disk_model.specs.Calls.{read}
use Rattle.pv_law_calls.proofs.LookLemmas.{looks_failed, looks_ok}
use Rattle.pv_journal.proofs.reading.read_from.Goals as goal

pub returns-in-Ok-clause-effect : goal.returns-in-Ok-clause-effect
returns-in-Ok-clause-effect g c =
    looks_ok g.D.Disk.model c.args.disk.now c.read_at.new.self (read c.args.place (length c.args.into.now)) tt tt c.in-Ok.ensures.goes c.in-Ok.ensures.effect

pub returns-in-Err-clause-effect : goal.returns-in-Err-clause-effect
returns-in-Err-clause-effect g c =
    looks_failed g.D.Disk.model c.args.disk.now c.read_at.new.self (read c.args.place (length c.args.into.now)) _ tt c.in-Err.ensures.goes c.in-Err.ensures.effect
