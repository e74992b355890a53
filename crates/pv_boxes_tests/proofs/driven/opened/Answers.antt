-- New boxes can be called.
use Rattle.std.proofs.Common.{◌<◌, sym, subst}
use Rattle.pv_boxes_tests.proofs.driven.opened.Goals as goal

pub returns : goal.returns
returns g c =
    let are = c.in_ok-all.ensures.boxes_are in
    λ k any within. (are.1 k any.site any (subst (λ n. k < n) (sym are.0) within)).is_box
