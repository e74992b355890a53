use Rattle.std.proofs.Common.{◌∙◌, None, sym, subst}
use Rattle.pv_world.proofs.RestartDisks.{spells-mended}
use Rattle.pv_world.proofs.restart.mended.Goals as goal
use Rattle.pv_world.specs.Disks.{Spells}

pub returns : goal.returns
returns c = λ records standing armed fired spells. (
  sym spells.holds.fired ∙ (sym c.fired.ensures ∙ c.in-Some.is),
  subst (Spells records standing None None) (sym c.mend.ensures) (spells-mended records standing armed fired c.args.disk spells),
)
