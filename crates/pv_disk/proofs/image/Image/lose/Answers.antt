use Rattle.pv_disk.proofs.HistoryLemmas.{made_all}
use Rattle.pv_disk.proofs.image.Image.lose.Goals as goal

pub returns-clause-made : goal.returns-clause-made
returns-clause-made c = rw (← c.self.view_is) (made_all _ _ _ c.self.invariant.0)
