use Rattle.pv_disk.proofs.HistoryLemmas.{made_all, all_inside}
use Rattle.pv_disk.proofs.image.Image.tear.Goals as goal

pub fill-requires : goal.fill-requires
fill-requires c = rw (c.deref.ensures.value, c.deref_mut.ensures.value) (all_inside _ _ _ c.self.invariant.0)

pub returns-clause-made : goal.returns-clause-made
returns-clause-made c = rw (← c.self.view_is) (made_all _ _ _ c.self.invariant.0)
