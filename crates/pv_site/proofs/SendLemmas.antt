-- A site may cross threads where its log and its parts may, and its parts where the fields may that have a model.
use denote.RattleType.{RattleType}
use denote.Param.Send.{IsSend, view_send, sendable}
use denote.Param.SendFields.{declared_send, as_row_send}
use denote.Struct.Field.{row_field}
use Rattle.std.proofs.Crossing.{crosses}
use Rattle.pv_base.specs.contracts.catalog.Catalog as catalog
use Rattle.pv_coord.specs.contracts.coord.Coord as coord
use Rattle.pv_disk.specs.declared.log.Log.{Ghosts}
use Rattle.pv_locks.specs.contracts.locks.Locks as locks
use Rattle.pv_site.specs.contracts.parts.SiteParts as parts
use Rattle.pv_site.specs.contracts.site.Site as site
use Rattle.pv_site.specs.contracts.site.Site.TheInside as inside
use Rattle.pv_site.specs.contracts.surplus.Surplus as surplus
use Rattle.pv_store.specs.contracts.store.Store as store

pub parts_send : IsSend catalog.the_row → IsSend locks.the_row → IsSend coord.the_row → IsSend store.the_row → IsSend surplus.the_row → IsSend parts.the_row
parts_send catalog_sent locks_sent coord_sent store_sent surplus_sent =
    declared_send parts.the_type (search sendable, (catalog_sent, (locks_sent, (coord_sent, (store_sent, (surplus_sent, tt))))))

pub site_send : (L : RattleType) (g : Ghosts L.Denot) → IsSend L → IsSend parts.the_row → IsSend (site.the_row L g)
site_send L g log_sent parts_sent = view_send _ _ _ _ _ (declared_send (inside.the_type L g)
    (search (sendable, crosses), (as_row_send (row_field L) log_sent, (parts_sent, (search sendable, (search sendable, (search sendable, tt)))))))
