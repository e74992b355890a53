-- One client after another hears.
use Rattle.std.proofs.Common.{◌≡◌, ℕ, ◌<◌, ◌≤◌, ◌+◌, List, All, length, get_or, take, refl, sym, subst, arith}
use Rattle.pv_base.specs.Catalog.{Declared}
use Rattle.pv_base.specs.declared.limits.TheConstants.{MAX_CLIENTS}
use Rattle.pv_cell.specs.declared.site_box.SiteBox.{SiteBox}
use Rattle.pv_closing.proofs.LineLemmas.{AreToldTo, all-are-told, one-told, this-fits, this-looks, told-more}
use Rattle.pv_closing.proofs.LookLemmas.{closed-stands}
use Rattle.pv_closing.proofs.lines.lines_of.Goals as goal
use Rattle.pv_closing.specs.Boxes.{Stands}
use Rattle.pv_opening.specs.Counts.{count_at}
use Rattle.pv_opening.specs.Opening.{IsHere}
use Rattle.pv_script.specs.declared.live.Client.{Client}

pub loop-at-init : goal.loop-at-init
loop-at-init g c =
    subst (AreToldTo c.args.boxes.now c.args.script.now.clients.items 0) (sym c.new-lines.ensures.items)
    (refl, λ k client heard less. absurd (omega (arith, less)))

pub place_of-place-requires-clause-few : goal.place_of-place-requires-clause-few
place_of-place-requires-clause-few g c =
    subst (λ (list : List Client). length list ≤ MAX_CLIENTS) (sym c.deref.ensures.value) (c.live_scripts_are_small.ensures.few c.args.script.now c.requires.script)

pub offset_bounds-boxes-site : goal.offset_bounds-boxes-site
offset_bounds-boxes-site g c =
    let script = c.args.script.now in
    let within : c.loop-at.at < length script.clients.items = omega (arith, c.loop-at-test.true, c.len-at-end.ensures, script.clients.ok.0) in
    omega (arith, (this-fits c.live_scripts_are_small.ensures.fit script c.requires.script c.loop-at.at c.index-client.result.now c.index-client.ensures within).0, c.requires.count)

pub bounds-boxes-site : goal.bounds-boxes-site
bounds-boxes-site g c =
    let script = c.args.script.now in
    let within : c.loop-at.at < length script.clients.items = omega (arith, c.loop-at-test.true, c.len-at-end.ensures, script.clients.ok.0) in
    omega (arith, (this-fits c.live_scripts_are_small.ensures.fit script c.requires.script c.loop-at.at c.index-client.result.now c.index-client.ensures within).0, c.requires.count)

pub lines_by-requires-clause-site : goal.lines_by-requires-clause-site
lines_by-requires-clause-site g c =
    let script = c.args.script.now in
    let client = c.index-client.result.now in
    let box = c.index-boxes-site.result in
    let within : c.loop-at.at < length script.clients.items = omega (arith, c.loop-at-test.true, c.len-at-end.ensures, script.clients.ok.0) in
    let there : client.site.0 < length c.args.boxes.now =
    omega (arith, (this-fits c.live_scripts_are_small.ensures.fit script c.requires.script c.loop-at.at client c.index-client.ensures within).0, c.requires.count) in
    subst (λ (one : SiteBox _). one.site.me ≡ client.site.0) (sym c.index-boxes-site.is) (c.requires.closed client.site.0 box there).number

pub lines_by-requires-clause-stands : goal.lines_by-requires-clause-stands
lines_by-requires-clause-stands g c =
    let script = c.args.script.now in
    let client = c.index-client.result.now in
    let box = c.index-boxes-site.result in
    let within : c.loop-at.at < length script.clients.items = omega (arith, c.loop-at-test.true, c.len-at-end.ensures, script.clients.ok.0) in
    let there : client.site.0 < length c.args.boxes.now =
    omega (arith, (this-fits c.live_scripts_are_small.ensures.fit script c.requires.script c.loop-at.at client c.index-client.ensures within).0, c.requires.count) in
    subst (λ (one : SiteBox _). Stands one) (sym c.index-boxes-site.is)
    (closed-stands _ script.catalog client.site.0 (get_or c.args.boxes.now client.site.0 box) (c.requires.closed client.site.0 box there))

pub lines_by-requires-clause-here : goal.lines_by-requires-clause-here
lines_by-requires-clause-here g c =
    let script = c.args.script.now in
    let client = c.index-client.result.now in
    let box = c.index-boxes-site.result in
    let within : c.loop-at.at < length script.clients.items = omega (arith, c.loop-at-test.true, c.len-at-end.ensures, script.clients.ok.0) in
    let there : client.site.0 < length c.args.boxes.now =
    omega (arith, (this-fits c.live_scripts_are_small.ensures.fit script c.requires.script c.loop-at.at client c.index-client.ensures within).0, c.requires.count) in
    subst (λ (one : SiteBox _). All (IsHere one.site.catalog.items client.site.0) client.requests.items) (sym c.index-boxes-site.is)
    (subst (λ (catalog : Declared). All (IsHere catalog.items client.site.0) client.requests.items) (sym (c.requires.closed client.site.0 box there).catalog_is)
    (this-looks c.live_scripts_are_small.ensures.here script c.requires.script c.loop-at.at client c.index-client.ensures within))

pub lines_by-requires-clause-catalog : goal.lines_by-requires-clause-catalog
lines_by-requires-clause-catalog g c =
    let script = c.args.script.now in
    let client = c.index-client.result.now in
    let box = c.index-boxes-site.result in
    let within : c.loop-at.at < length script.clients.items = omega (arith, c.loop-at-test.true, c.len-at-end.ensures, script.clients.ok.0) in
    let there : client.site.0 < length c.args.boxes.now =
    omega (arith, (this-fits c.live_scripts_are_small.ensures.fit script c.requires.script c.loop-at.at client c.index-client.ensures within).0, c.requires.count) in
    subst (λ (one : SiteBox _). one.site.catalog ≡ script.catalog) (sym c.index-boxes-site.is) (c.requires.closed client.site.0 box there).catalog_is

pub lines_by-requires-clause-few : goal.lines_by-requires-clause-few
lines_by-requires-clause-few g c =
    let script = c.args.script.now in
    let within : c.loop-at.at < length script.clients.items = omega (arith, c.loop-at-test.true, c.len-at-end.ensures, script.clients.ok.0) in
    omega (arith, (this-fits c.live_scripts_are_small.ensures.fit script c.requires.script c.loop-at.at c.index-client.result.now c.index-client.ensures within).1)

pub loop-at-preserved : goal.loop-at-preserved
loop-at-preserved g c =
    let script = c.args.script.now in
    let clients = script.clients.items in
    let boxes = c.args.boxes.now in
    let at = c.loop-at.at in
    let client = c.index-client.result.now in
    let box = c.index-boxes-site.result in
    let place = c.place_of-place.result in
    let within : at < length clients = omega (arith, c.loop-at-test.true, c.len-at-end.ensures, script.clients.ok.0) in
    let there : client.site.0 < length boxes =
    omega (arith, (this-fits c.live_scripts_are_small.ensures.fit script c.requires.script at client c.index-client.ensures within).0, c.requires.count) in
    subst (AreToldTo boxes clients (at + 1)) (sym c.in_ok-push.ensures.items)
    (told-more boxes clients at c.loop-at.lines.items c.in_ok-heard.heard c.loop-at.invariant within
    (one-told boxes clients at client box place c.in_ok-heard.heard c.index-client.ensures within c.index-boxes-site.is there
    (subst (λ (list : List Client). (any : Client) → place ≡ count_at (get_or list at any).site.0 (take at list)) c.deref.ensures.value c.place_of-place.ensures)
    c.in_ok-heard.ensures))

pub returns : goal.returns
returns g c =
    let clients = c.args.script.now.clients in
    let lines = c.loop-at.lines.items in
    let boxes = c.args.boxes.now in
    let done : c.loop-at.at ≡ length clients.items =
    omega (arith, c.loop-at-test.false, c.loop-at.auto.at-end, c.len-at-end.ensures, clients.ok.0) in
    all-are-told boxes clients.items lines (subst (λ (n : ℕ). AreToldTo boxes clients.items n lines) done c.loop-at.invariant)
