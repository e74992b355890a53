-- The log is opened, and the outbox on it; or the sync fired.
use Rattle.std.proofs.Common.{true, subst}
use Rattle.pv_moored.specs.Opening.{HasOpened}
use Rattle.pv_outbox_run.proofs.CellLemmas.{comes-started, comes-unstarted, opened-is}
use Rattle.pv_outbox_run.proofs.cell.started.Goals as goal

pub open_log-requires : goal.open_log-requires
open_log-requires c = (c.requires.1.contents, c.requires.1.standing, c.requires.0.armed, c.requires.1.holds)

pub opened_on-requires : goal.opened_on-requires
opened_on-requires c =
    let is = c.requires.1 in
    let opened = subst (HasOpened is.contents is.standing c.requires.0.armed) c.in-Up.is (c.in_ok-made.ensures is.contents is.standing c.requires.0.armed is.holds) in
    (record c.requires.0 { armed = opened.0; is_up = true }, opened-is c.args.disk c.requires.0 is c.in-Up.log opened)

pub returns-in_ok-outbox-in-Up : goal.returns-in_ok-outbox-in-Up
returns-in_ok-outbox-in-Up c = λ box is.
    let opened = subst (HasOpened is.contents is.standing box.armed) c.in-Up.is (c.in_ok-made.ensures is.contents is.standing box.armed is.holds) in
    comes-started c.args.disk box is c.in-Up.log opened c.in_ok-outbox-in-Up.outbox
    (c.in_ok-outbox-in-Up.ensures (record box { armed = opened.0; is_up = true }) (opened-is c.args.disk box is c.in-Up.log opened))

pub returns-in-Broke : goal.returns-in-Broke
returns-in-Broke c = λ box is.
    let opened = subst (HasOpened is.contents is.standing box.armed) c.in-Broke.is (c.in_ok-made.ensures is.contents is.standing box.armed is.holds) in
    comes-unstarted c.args.disk box is c.in-Broke.disk c.in-Broke.stops c.broken.result c.broken.ensures opened
