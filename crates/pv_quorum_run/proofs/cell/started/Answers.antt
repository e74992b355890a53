-- What opening the log comes to.
use Rattle.std.proofs.Common.{subst}
use Rattle.pv_moored.specs.Opening.{HasOpened}
use Rattle.pv_moored.specs.declared.moored.Opened.{Opened}
use Rattle.pv_quorum_run.proofs.CellLemmas.{begun-broken, begun-up, opened-is}
use Rattle.pv_quorum_run.specs.Cells.{contents_by}
use Rattle.pv_quorum_run.proofs.cell.started.Goals as goal

pub opened_on-requires-clause-seat : goal.opened_on-requires-clause-seat
opened_on-requires-clause-seat c =
    let seat = c.requires.seat.0 in
    let is = c.requires.seat.1 in
    let opened = subst (λ (o : Opened). HasOpened (contents_by seat.records) is.standing seat.arm o) c.in-Up.is (c.in_ok-log.ensures (contents_by seat.records) is.standing seat.arm is.holds) in
    (record seat { arm = opened.0 }, opened-is c.args.count c.args.me c.args.disk seat is c.in-Up.log opened)

pub returns-in_ok-up-in-Up : goal.returns-in_ok-up-in-Up
returns-in_ok-up-in-Up c = λ seat is.
    let opened = subst (λ (o : Opened). HasOpened (contents_by seat.records) is.standing seat.arm o) c.in-Up.is (c.in_ok-log.ensures (contents_by seat.records) is.standing seat.arm is.holds) in
    begun-up c.args.count c.args.me c.args.disk seat is c.in-Up.log opened c.in_ok-up-in-Up.up
    (c.in_ok-up-in-Up.ensures (record seat { arm = opened.0 }) (opened-is c.args.count c.args.me c.args.disk seat is c.in-Up.log opened))

pub returns-in-Broke : goal.returns-in-Broke
returns-in-Broke c = λ seat is.
    let opened = subst (λ (o : Opened). HasOpened (contents_by seat.records) is.standing seat.arm o) c.in-Broke.is (c.in_ok-log.ensures (contents_by seat.records) is.standing seat.arm is.holds) in
    begun-broken c.args.count c.args.me c.args.disk seat is c.in-Broke.disk c.in-Broke.stops opened
