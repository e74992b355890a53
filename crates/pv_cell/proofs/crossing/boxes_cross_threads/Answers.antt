-- Each field may cross threads.
use denote.Exit.{Kept}
use denote.Hole.{as_row}
use denote.Param.Send.{Quiet, sendable}
use Rattle.std.proofs.Crossing.{crosses}
use Rattle.std.specs.Prelude.{None, Some}
use Rattle.std.specs.contracts.option.Option as option
use Rattle.pv_mail.specs.contracts.arrival.Arrival as arrival
use Rattle.pv_mail.specs.declared.arrival.Arrival.TheVariants.{Parcel, Request}
use Rattle.pv_cell.proofs.SendLemmas.{box_send}
use Rattle.pv_cell.proofs.crossing.boxes_cross_threads.Goals as goal
use Rattle.pv_cell.specs.contracts.crossing.boxes_cross_threads as contract

-- What was taken and counts once more leaves nothing behind.
quiet : (k : Kept) → Quiet ((as_row (option.the_field arrival.the_row)).exit k)
quiet k None w = tt
quiet k (Some (Request client request)) w = ((tt, ((tt, (tt, (tt, (tt, ((tt, tt), tt))))), tt)), tt)
quiet k (Some (Parcel from parcel)) w = ((tt, ((tt, (tt, (tt, tt))), tt)), tt)

pub returns : goal.returns
returns g c =
    box_send (contract.L-row g.row.L) g.L.Log (
      search (sendable, crosses),
      (
        search sendable,
        (
          record { owned = c.sites_cross_threads.ensures.owned; leaving = λ k x w. tt },
          (
            record { owned = c.ends_cross_threads.ensures.owned; leaving = λ k x w. (tt, (tt, (tt, (tt, tt)))) },
            (
              record { owned = c.sends.ensures.owned; leaving = λ k x w. tt },
              (
                search sendable,
                (
                  search sendable,
                  (
                    record { owned = c.sends-2.ensures.owned; leaving = λ k x w. tt },
                    (record { owned = c.sends-3.ensures.owned; leaving = quiet }, (search sendable, (search sendable, tt))),
                  ),
                ),
              ),
            ),
          ),
        ),
      ),
    )
