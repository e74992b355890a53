-- The sites and rows that are left are the first ones, and those behind them have their boxes, the last of which is the first one.
use Rattle.std.proofs.Common.{◌≡◌, ◌+◌, length}
use Rattle.pv_opening.proofs.BoxLemmas.{Begin, BoxedFrom, RowsBegin}
use Rattle.pv_opening.specs.Boxing.{HaveEach}
use Rattle.pv_opening.proofs.boxing.box_all.Given as goal

abbrev pub invariant-loop-site : goal.invariant-loop-site
invariant-loop-site g l =
    (length l.boxes.items + length l.sites.items ≡ length l.fn.sites.items) × Begin l.sites.items l.fn.sites.items
    × HaveEach (length l.sites.items) l.rows × RowsBegin l.rows l.fn.rows
    × BoxedFrom g.L.Log.model l.catalog l.fn.sites.items l.fn.rows (length l.sites.items) l.boxes.items

abbrev pub decreases-loop-site : goal.decreases-loop-site
decreases-loop-site g l = length l.sites.items
