-- What each event comes to.
use Rattle.std.proofs.Common.{[], ◌∷◌, Some, None, refl, sym, subst}
use Rattle.pv_outbox_run.specs.Does.{Does}
use Rattle.pv_outbox_run.specs.Stands.{Comes}
use Rattle.pv_outbox_run.proofs.CellLemmas.{does-up, stops-up}
use Rattle.pv_outbox_script.specs.declared.event.Event.{Event}
use Rattle.pv_outbox_script.specs.declared.event.Event.TheVariants.{Arm, Mend, Start}
use Rattle.pv_outbox_run.specs.declared.cell.Cell.TheVariants.{Up, Down}
use Rattle.pv_outbox_run.specs.declared.told.Told.TheVariants as told
use Rattle.pv_outbox_run.proofs.cell.up_with.Goals as goal

pub returns-in_ok-cell-in-Hold : goal.returns-in_ok-cell-in-Hold
returns-in_ok-cell-in-Hold c = λ box is.
    subst (λ (event : Event). Comes box event (c.in_ok-cell-in-Hold.cell, Some c.in_ok-cell-in-Hold.told)) (sym c.in-Hold.is) (c.in_ok-cell-in-Hold.ensures box is)

pub returns-in_ok-cell-in-Learn : goal.returns-in_ok-cell-in-Learn
returns-in_ok-cell-in-Learn c = λ box is.
    subst (λ (event : Event). Comes box event (c.in_ok-cell-in-Learn.cell, Some c.in_ok-cell-in-Learn.told)) (sym c.in-Learn.is) (c.in_ok-cell-in-Learn.ensures box is)

pub returns-in_ok-cell-in-Take : goal.returns-in_ok-cell-in-Take
returns-in_ok-cell-in-Take c = λ box is.
    subst (λ (event : Event). Comes box event (c.in_ok-cell-in-Take.cell, Some c.in_ok-cell-in-Take.told)) (sym c.in-Take.is) (c.in_ok-cell-in-Take.ensures box is)

pub returns-in-Stop : goal.returns-in-Stop
returns-in-Stop c = λ box is.
    subst (λ (event : Event). Comes box event (Down c.close-in-Stop.result, Some told.Stopped)) (sym c.in-Stop.is)
    (stops-up c.args.outbox box is c.close.result c.close-in-Stop.result c.close.ensures c.close-in-Stop.ensures)

pub returns-in-Start : goal.returns-in-Start
returns-in-Start c = λ box is.
    subst (λ (event : Event). Comes box event (Up c.args.outbox, Some told.Up)) (sym c.in-Start.is)
    (box, is, does-up box Start (told.Up ∷ []) box is.up (refl, refl))

pub returns-in-Arm : goal.returns-in-Arm
returns-in-Arm c = λ box is. (
  record box { armed = Some (record { left = c.in-Arm.k; mode = c.in-Arm.mode; stop = c.in-Arm.stop }) },
  c.up_armed.ensures box is,
  subst
      (λ (event : Event). Does box event [] (record box { armed = Some (record { left = c.in-Arm.k; mode = c.in-Arm.mode; stop = c.in-Arm.stop }) }))
      (sym c.in-Arm.is)
      (does-up box (Arm c.in-Arm.k c.in-Arm.mode c.in-Arm.stop) []
      (record box { armed = Some (record { left = c.in-Arm.k; mode = c.in-Arm.mode; stop = c.in-Arm.stop }) }) is.up (refl, refl)),
)

pub returns-in-Mend : goal.returns-in-Mend
returns-in-Mend c = λ box is. (
  record box { armed = None },
  c.up_mended.ensures box is,
  subst (λ (event : Event). Does box event [] (record box { armed = None })) (sym c.in-Mend.is) (does-up box Mend [] (record box { armed = None }) is.up (refl, refl)),
)
