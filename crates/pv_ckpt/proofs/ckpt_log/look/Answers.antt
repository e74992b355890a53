use Rattle.std.proofs.Common.{ℕ, Vec, Global}
use Rattle.pv_ckpt.specs.declared.reading.Found.{Found}
use Rattle.pv_ckpt.proofs.OpenLemmas.{found_answer, found_of_reads, passed_on, refused_answer, refused_of_reads}
use Rattle.pv_ckpt.proofs.ckpt_log.look.Goals as goal

pub returns-in-Ok-clause-answer : goal.returns-in-Ok-clause-answer
returns-in-Ok-clause-answer g c bytes is = found_answer bytes c.in-Ok.found (c.in-Ok.ensures.found bytes is)

pub returns-in-Ok-clause-reads : goal.returns-in-Ok-clause-reads
returns-in-Ok-clause-reads g c = found_of_reads g.D.Disk.model c.args.disk.now c.read_log.new.disk c.in-Ok.found c.in-Ok.ensures.gave

pub returns-in-Err-clause-answer : goal.returns-in-Err-clause-answer
returns-in-Err-clause-answer g c bytes is = refused_answer bytes c.in-Err.e (λ place known. c.in-Err.ensures.not_ours place known bytes is)

pub returns-in-Err-clause-reads : goal.returns-in-Err-clause-reads
returns-in-Err-clause-reads g c = refused_of_reads g.D.Disk.model c.args.disk.now c.read_log.new.disk c.in-Err.e c.in-Err.ensures.gave_none

pub returns-in-Err-clause-effect : goal.returns-in-Err-clause-effect
returns-in-Err-clause-effect g c = passed_on g.D.Disk.model c.args.disk.now c.read_log.new.disk Found (Vec (Vec ℕ Global) Global) c.in-Err.e c.in-Err.ensures.effect
