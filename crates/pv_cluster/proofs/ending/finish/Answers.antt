-- The rings between sites are looked at, and the clients are told.
use Rattle.std.proofs.Common.{◌≡◌, ℕ, ◌<◌, List, length, get_or, refl, sym, subst}
use Rattle.pv_cell.specs.declared.site_box.SiteBox.{SiteBox}
use Rattle.pv_closing.specs.Boxes.{IsClosedBox}
use Rattle.pv_closing.specs.Clients.{AreTold}
use Rattle.pv_cluster.proofs.EndLemmas.{closed-last, ends, last-count}
use Rattle.pv_cluster.proofs.LookLemmas.{are-linked}
use Rattle.pv_cluster.proofs.StillLemmas.{stands-later, still-became}
use Rattle.pv_cluster.proofs.ending.finish.Goals as goal

pub look_at_sites-requires : goal.look_at_sites-requires
look_at_sites-requires g c =
    let M = g.L.Log.model in
    let script = c.args.script.now in
    let was = c.requires.closed in
    let boxes = c.args.boxes.items in
    are-linked M script boxes was.asking
    (stands-later M script c.boxes_lend_their_ends.ensures.is_box c.boxes_lend_their_ends.ensures.course c.boxes_lend_their_ends.ensures.same
    c.boxes_stand_on.ensures.together was.round boxes was.asking was.standing was.still)

pub lines_of-requires-clause-count : goal.lines_of-requires-clause-count
lines_of-requires-clause-count g c =
    let M = g.L.Log.model in
    let script = c.args.script.now in
    let later =
    stands-later M script c.boxes_lend_their_ends.ensures.is_box c.boxes_lend_their_ends.ensures.course c.boxes_lend_their_ends.ensures.same
    c.boxes_stand_on.ensures.together in
    subst (λ (all : List (SiteBox _)). length all ≡ script.catalog.sites) (sym c.deref.ensures.value)
    (last-count M script c.requires.script (λ k any less. (c.live_scripts_are_small.ensures.fit script k any c.requires.script less).0) later
    c.boxes_lend_their_ends.ensures.is_box c.boxes_fit_together.ensures c.boxes_pass_messages_in_order.ensures c.args.boxes.items c.look_at_sites.new.boxes.items
    c.requires.closed c.look_at_sites.ensures.still c.look_at_sites.ensures.brought)

pub lines_of-requires-clause-closed : goal.lines_of-requires-clause-closed
lines_of-requires-clause-closed g c =
    let M = g.L.Log.model in
    let script = c.args.script.now in
    let later =
    stands-later M script c.boxes_lend_their_ends.ensures.is_box c.boxes_lend_their_ends.ensures.course c.boxes_lend_their_ends.ensures.same
    c.boxes_stand_on.ensures.together in
    subst (λ (all : List (SiteBox _)). (n : ℕ) (any : SiteBox _) → n < length all → IsClosedBox M script.catalog n (get_or all n any)) (sym c.deref.ensures.value)
    (closed-last M script c.requires.script (λ k any less. (c.live_scripts_are_small.ensures.fit script k any c.requires.script less).0) later
    c.boxes_lend_their_ends.ensures.is_box c.boxes_fit_together.ensures c.boxes_pass_messages_in_order.ensures c.args.boxes.items c.look_at_sites.new.boxes.items
    c.requires.closed c.look_at_sites.ensures.still c.look_at_sites.ensures.brought)

pub returns-clause-closed : goal.returns-clause-closed
returns-clause-closed g c =
    let M = g.L.Log.model in
    let script = c.args.script.now in
    let later =
    stands-later M script c.boxes_lend_their_ends.ensures.is_box c.boxes_lend_their_ends.ensures.course c.boxes_lend_their_ends.ensures.same
    c.boxes_stand_on.ensures.together in
    let lines = c.in_ok-clients.clients.items in
    ends M script c.requires.script (λ k any less. (c.live_scripts_are_small.ensures.fit script k any c.requires.script less).0) later
    c.boxes_lend_their_ends.ensures.is_box c.boxes_fit_together.ensures c.boxes_pass_messages_in_order.ensures c.args.boxes.items c.look_at_sites.new.boxes.items
    c.requires.closed c.look_at_sites.ensures.still c.look_at_sites.ensures.brought lines
    (subst (λ (all : List (SiteBox _)). AreTold all script.clients.items lines) c.deref.ensures.value c.in_ok-clients.ensures)
    (record { boxes = c.look_at_sites.new.boxes; clients = c.in_ok-clients.clients }) refl refl

pub returns-clause-on : goal.returns-clause-on
returns-clause-on g c = still-became g.L.Log.model c.boxes_lend_their_ends.ensures.same c.args.boxes.items c.look_at_sites.new.boxes.items c.look_at_sites.ensures.still
