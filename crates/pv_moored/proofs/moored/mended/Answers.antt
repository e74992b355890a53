use Rattle.std.proofs.Common.{None, refl, sym, subst, ◌∙◌}
use Rattle.pv_ckpt.specs.Armed.{Holds}
use Rattle.pv_moored.proofs.moored.mended.Goals as goal

pub returns : goal.returns
returns c = λ contents standing armed fired holds. (
  sym holds.fired ∙ (sym c.fired.ensures ∙ c.in-Some.is),
  subst (Holds contents standing None None) (sym c.mend.ensures)
      (record { stands = holds.stands; settled = holds.settled; armed = refl; fired = refl; reads = holds.reads }),
)
