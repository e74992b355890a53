use Rattle.pv_disk_model.specs.Calls.{len}
use Rattle.pv_law_calls.proofs.GivenLemmas.{gives_none}
use Rattle.pv_law_calls.proofs.LookLemmas.{looks_failed, looks_ok}
use Rattle.pv_journal.proofs.reading.size_of_disk.Goals as goal

pub returns-in-Ok-clause-effect : goal.returns-in-Ok-clause-effect
returns-in-Ok-clause-effect g c = looks_ok g.D.Disk.model c.args.disk.now c.len.new.self len c.in-Ok.size tt c.in-Ok.ensures.goes c.in-Ok.ensures.effect

pub returns-in-Err-clause-effect : goal.returns-in-Err-clause-effect
returns-in-Err-clause-effect g c = looks_failed g.D.Disk.model c.args.disk.now c.len.new.self len _ tt c.in-Err.ensures.goes c.in-Err.ensures.effect

pub returns-in-Ok-clause-gave : goal.returns-in-Ok-clause-gave
returns-in-Ok-clause-gave g c = gives_none g.D.Disk.model c.args.disk.now c.len.new.self c.in-Ok.ensures.gives
