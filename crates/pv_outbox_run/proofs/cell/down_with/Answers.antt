-- What each event comes to.
use Rattle.std.proofs.Common.{[], Some, None, refl, sym, subst}
use Rattle.pv_outbox_run.specs.Does.{Does}
use Rattle.pv_outbox_run.specs.Stands.{Comes}
use Rattle.pv_outbox_run.proofs.CellLemmas.{does-down}
use Rattle.pv_outbox_script.specs.declared.event.Event.{Event}
use Rattle.pv_outbox_script.specs.declared.event.Event.TheVariants.{Arm, Mend}
use Rattle.pv_outbox_run.proofs.cell.down_with.Goals as goal

pub returns-in_ok-cell-in-Start : goal.returns-in_ok-cell-in-Start
returns-in_ok-cell-in-Start c = λ box is.
    subst (λ (event : Event). Comes box event (c.in_ok-cell-in-Start.cell, Some c.in_ok-cell-in-Start.told)) (sym c.in-Start.is) (c.in_ok-cell-in-Start.ensures box is)

pub returns-in-Arm : goal.returns-in-Arm
returns-in-Arm c = λ box is. (
  record box { armed = Some (record { left = c.in-Arm.k; mode = c.in-Arm.mode; stop = c.in-Arm.stop }) },
  c.disk_armed.ensures box is,
  subst
      (λ (event : Event). Does box event [] (record box { armed = Some (record { left = c.in-Arm.k; mode = c.in-Arm.mode; stop = c.in-Arm.stop }) }))
      (sym c.in-Arm.is)
      (does-down box (Arm c.in-Arm.k c.in-Arm.mode c.in-Arm.stop) []
      (record box { armed = Some (record { left = c.in-Arm.k; mode = c.in-Arm.mode; stop = c.in-Arm.stop }) }) is.down (refl, refl)),
)

pub returns-in-Mend : goal.returns-in-Mend
returns-in-Mend c = λ box is. (
  record box { armed = None },
  c.disk_mended.ensures box is,
  subst (λ (event : Event). Does box event [] (record box { armed = None })) (sym c.in-Mend.is) (does-down box Mend [] (record box { armed = None }) is.down (refl, refl)),
)
