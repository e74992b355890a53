-- It stands for the records that were read.
use Rattle.std.proofs.Common.{refl}
use Rattle.pv_outbox.proofs.OpeningLemmas.{has-opened}
use Rattle.pv_outbox.proofs.outbox.Outbox.open.Goals as goal

pub returns-in-Ok-of-clause-opened : goal.returns-in-Ok-of-clause-opened
returns-in-Ok-of-clause-opened g c = has-opened g.L.Log.model c.args.log _ c.in-Ok.facts c.in-Ok-of.ensures refl c.in-Ok.ensures.loaded
