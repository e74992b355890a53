use Rattle.std.proofs.Common.{◌<◌, All, length, get_or, refl, sym, subst, ◌∙◌}
use Rattle.pv_opening.proofs.OpenLemmas.{all-opened, rows-new}
use Rattle.pv_opening.proofs.ScriptLemmas.{clients-fit, few-clients}
use Rattle.pv_opening.specs.Boxing.{AreRows, HaveEach}
use Rattle.pv_opening.specs.Meeting.{AreMet}
use Rattle.pv_opening.specs.declared.boxing.EndRows.{EndRows}
use Rattle.pv_post.specs.declared.fault_plan.FaultPlan.{FaultPlan}
use Rattle.pv_opening.proofs.opening.open_all.Goals as goal

pub meet_all-requires-clause-rows : goal.meet_all-requires-clause-rows
meet_all-requires-clause-rows g c = c.in_ok-clients_out.ensures.count ∙ sym c.in_ok-clients_in.ensures.count

pub meet_all-requires-clause-sites : goal.meet_all-requires-clause-sites
meet_all-requires-clause-sites g c =
    let long = c.len-count.ensures ∙ c.args.sites.ok.0 ∙ c.requires.sites.0 in
    let clients = c.args.script.now.clients.items in
    let rows = c.in_ok-clients_in.clients_in.items in
    subst (λ l. All (λ client. client.site.0 < length rows) l) (sym c.deref.ensures.value)
    (λ k any less. subst (λ n. (get_or clients k any).site.0 < n) (sym (c.in_ok-clients_in.ensures.count ∙ long))
    (clients-fit c.args.script.now c.requires.script k any less).0)

pub meet_all-requires-clause-empty : goal.meet_all-requires-clause-empty
meet_all-requires-clause-empty g c = (c.in_ok-clients_in.ensures.empty, c.in_ok-clients_out.ensures.empty)

pub box_all-requires-clause-rows : goal.box_all-requires-clause-rows
box_all-requires-clause-rows g c =
    let script = c.args.script.now in
    let plan : FaultPlan = record { drop_each = script.drop_each; double_each = script.double_each } in
    let rows : EndRows = record {
      sites_in = c.in_ok-sites_out.sites_in;
      sites_out = c.in_ok-sites_out.sites_out;
      clients_in = c.meet_all.new.asked;
      clients_out = c.meet_all.new.told;
    } in
    let linked = c.in_ok-sites_out.ensures in
    let lengths = c.in_ok-clients.ensures.rows in
    let met = subst (λ l. AreMet l c.in_ok-clients.clients.items rows.clients_in.items rows.clients_out.items) c.deref.ensures.value c.in_ok-clients.ensures.met in
    let have : HaveEach c.len-count.result rows =
    (linked.ends.count, linked.count, lengths.0 ∙ c.in_ok-clients_in.ensures.count, lengths.1 ∙ c.in_ok-clients_out.ensures.count) in
    subst (λ n. AreRows n rows) (c.len-count.ensures ∙ c.args.sites.ok.0 ∙ c.requires.sites.0)
    (rows-new plan c.len-count.result script.clients.items c.in_ok-clients.clients.items rows have linked.ends met
    (few-clients script c.requires.script))

pub returns : goal.returns
returns g c =
    let script = c.args.script.now in
    let plan : FaultPlan = record { drop_each = script.drop_each; double_each = script.double_each } in
    let rows : EndRows = record {
      sites_in = c.in_ok-sites_out.sites_in;
      sites_out = c.in_ok-sites_out.sites_out;
      clients_in = c.meet_all.new.asked;
      clients_out = c.meet_all.new.told;
    } in
    let linked = c.in_ok-sites_out.ensures in
    let lengths = c.in_ok-clients.ensures.rows in
    let met = subst (λ l. AreMet l c.in_ok-clients.clients.items rows.clients_in.items rows.clients_out.items) c.deref.ensures.value c.in_ok-clients.ensures.met in
    let have : HaveEach c.len-count.result rows =
    (linked.ends.count, linked.count, lengths.0 ∙ c.in_ok-clients_in.ensures.count, lengths.1 ∙ c.in_ok-clients_out.ensures.count) in
    all-opened plan c.len-count.result script.clients.items c.in_ok-clients.clients.items rows have linked.ends met
    (few-clients script c.requires.script) g.L.Log.model script.catalog c.args.sites.items c.in_ok-boxes.boxes.items (sym (c.len-count.ensures ∙ c.args.sites.ok.0))
    c.in_ok-boxes.ensures script refl refl refl
