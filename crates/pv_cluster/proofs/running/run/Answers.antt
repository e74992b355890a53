-- What is opened is served, closed and finished.
use Rattle.std.proofs.Common.{◌≡◌, ◌<◌, ℕ, length, sym, subst, ◌∙◌, arith}
use Rattle.pv_cluster.proofs.LookedLemmas.{all-unlooked, looked-ask}
use Rattle.pv_cluster.proofs.ServeLemmas.{logs-kept, opened-count, opened-go, opened-whole, stand-first, unasked}
use Rattle.pv_cluster.proofs.running.run.Goals as goal

pub serve_boxes-requires-clause-whole : goal.serve_boxes-requires-clause-whole
serve_boxes-requires-clause-whole g c κs lives =
    let opened = c.in_ok-opened.opened in
    opened-whole g.L.Log.model c.args.script.now c.args.sites.items opened.boxes.items opened.clients.items c.in_ok-opened.ensures c.boxes_keep_their_course.ensures.new

pub serve_boxes-requires-clause-count : goal.serve_boxes-requires-clause-count
serve_boxes-requires-clause-count g c κs lives =
    let opened = c.in_ok-opened.opened in
    let count : length opened.boxes.items ≡ c.args.script.now.catalog.sites =
    opened-count g.L.Log.model c.args.script.now c.args.sites.items opened.boxes.items opened.clients.items c.in_ok-opened.ensures c.requires.sites
    c.boxes_keep_their_course.ensures.new in
    let long = opened.boxes.ok.0 in
    let same = c.sites.ensures.count in
    let some = c.sites.ensures.some in
    let few = c.sites.ensures.bound in
    (omega (arith, count, long, same, some), omega (arith, count, long, same, few))

pub serve_boxes-requires-clause-clients : goal.serve_boxes-requires-clause-clients
serve_boxes-requires-clause-clients g c κs lives =
    let opened = c.in_ok-opened.opened in
    unasked g.L.Log.model c.args.script.now c.args.sites.items opened.boxes.items opened.clients.items c.in_ok-opened.ensures

pub close_all-requires-clause-standing : goal.close_all-requires-clause-standing
close_all-requires-clause-standing g c =
    let M = g.L.Log.model in
    let script = c.args.script.now in
    let sites = c.args.sites.items in
    let opened = c.in_ok-opened.opened in
    let boxes = opened.boxes.items in
    let clients = opened.clients.items in
    let law = c.boxes_keep_their_course.ensures.new in
    let left = c.in_ok-boxes.clients.items in
    c.boxes_stand_on.ensures.together script boxes c.in_ok-boxes.boxes.items left left
    (stand-first M script sites boxes clients c.in_ok-opened.ensures c.requires.sites law left c.in_ok-boxes.ensures.clients)
    (opened-go M script sites boxes clients c.in_ok-opened.ensures c.requires.sites law c.in_ok-boxes.boxes.items c.in_ok-boxes.ensures.boxes)
    (looked-ask left left (all-unlooked left))

pub returns-clause-fit : goal.returns-clause-fit
returns-clause-fit g c = c.in_ok-closed.ensures.closed.fit

pub returns-clause-done : goal.returns-clause-done
returns-clause-done g c = c.in_ok-closed.ensures.closed.done

pub returns-clause-passed : goal.returns-clause-passed
returns-clause-passed g c = c.in_ok-closed.ensures.closed.passed

pub returns-clause-plans : goal.returns-clause-plans
returns-clause-plans g c = c.in_ok-closed.ensures.closed.plans

pub returns-clause-boxes : goal.returns-clause-boxes
returns-clause-boxes g c =
    let M = g.L.Log.model in
    let script = c.args.script.now in
    let opened = c.in_ok-opened.opened in
    let ends = c.in_ok-closed.ensures.closed in
    let count = c.requires.sites.0 ∙ sym ends.count in (
      count,
      λ n site any less. (
        ends.boxes n any (subst (λ (m : ℕ). n < m) count less),
        logs-kept M script c.args.sites.items opened.boxes.items opened.clients.items c.in_ok-opened.ensures c.requires.sites c.boxes_keep_their_course.ensures.new
            c.boxes_stay_the_same.ensures.both c.in_ok-boxes.boxes.items c.close_all.new.boxes.items c.in_ok-closed.closed.boxes.items c.in_ok-boxes.ensures.boxes
            c.in_ok-close_all.ensures.on c.in_ok-closed.ensures.on n site any less,
      ),
    )

pub returns-clause-asked : goal.returns-clause-asked
returns-clause-asked g c = c.in_ok-closed.ensures.closed.asked

pub returns-clause-nobody : goal.returns-clause-nobody
returns-clause-nobody g c = c.in_ok-closed.ensures.closed.nobody

pub returns-clause-clients : goal.returns-clause-clients
returns-clause-clients g c = c.in_ok-closed.ensures.closed.clients
