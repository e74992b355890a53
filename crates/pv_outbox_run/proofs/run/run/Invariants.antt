-- The text so far is what the events so far print, and the cell is the outbox then.
use Rattle.std.proofs.Common.{◌≡◌, List, take}
use Rattle.pv_outbox_run.specs.Box.{Box, first_box}
use Rattle.pv_outbox_run.specs.Does.{Runs}
use Rattle.pv_outbox_run.specs.Stands.{Stands}
use Rattle.pv_outbox_run.specs.ToldText.{told_texts}
use Rattle.pv_outbox_run.specs.declared.told.Told.{Told}
use Rattle.pv_outbox_run.proofs.run.run.Given as goal

abbrev pub invariant-loop-event : goal.invariant-loop-event
invariant-loop-event l =
    (says : List Told) × (box : Box) × Runs first_box (take l.event-index l.events) says box × Stands l.cell box × (l.text.items ≡ told_texts says)
