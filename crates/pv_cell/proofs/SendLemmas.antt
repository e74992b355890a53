-- A box may cross threads where each of its fields may.
use denote.RattleType.{RattleType}
use denote.Param.Send.{IsSend}
use denote.Param.SendFields.{FieldsHave, declared_send}
use Rattle.pv_disk.specs.declared.log.Log.{Ghosts}
use Rattle.pv_cell.specs.contracts.site_box.SiteBox as box

pub box_send : (L : RattleType) (g : Ghosts L.Denot) → FieldsHave IsSend (box.the_type L g).parts → IsSend (box.the_row L g)
box_send L g fields = declared_send (box.the_type L g) fields
