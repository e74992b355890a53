-- A box in its turn may cross threads where the box may.
use denote.RattleType.{RattleType}
use denote.Param.Send.{IsSend, sendable, view_send}
use denote.Param.SendFields.{declared_send}
use Rattle.std.proofs.Crossing.{crosses}
use Rattle.pv_cell.specs.contracts.site_box.SiteBox as box
use Rattle.pv_disk.specs.declared.log.Log.{Ghosts}
use Rattle.pv_shown.specs.contracts.shown.Shown as shown
use Rattle.pv_shown.specs.contracts.shown.Shown.TheInside as inside

pub shown_send : (L : RattleType) (g : Ghosts L.Denot) → IsSend (box.the_row L g) → IsSend (shown.the_row L g)
shown_send L g sent = view_send _ _ _ _ _ (declared_send (inside.the_type L g) (sent, (search (sendable, crosses), tt)))
