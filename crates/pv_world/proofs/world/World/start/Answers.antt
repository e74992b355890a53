use Rattle.std.proofs.Common.{arith, ◌≡◌, refl, sym, ap, subst, ◌∙◌}
use Rattle.pv_protocol.specs.Attempt.{opened}
use Rattle.pv_protocol.specs.World.{site_at}
use Rattle.pv_site.specs.SiteState.{setup_of}
use Rattle.pv_script.specs.LineView.{line_of}
use Rattle.pv_world.proofs.ChangeLemmas.{Ends, ends-come, own-can-start, own-stands, start-ends, with_cell}
use Rattle.pv_world.proofs.EventLemmas.{reached-started}
use Rattle.pv_world.proofs.StandLemmas.{cells-count}
use Rattle.pv_world.specs.Cells.{start_line}
use Rattle.pv_world.proofs.world.World.start.Goals.{in-Up, in-Started, in-Full, in-Spent, in-Broke}
use Rattle.pv_world.proofs.world.World.start.Goals as goal

pub index_mut-requires : goal.index_mut-requires
index_mut-requires c =
    let world = c.args.self.now in
    let stands = c.requires.stands in
    omega (arith, cells-count world stands.0 stands.1.stands, world.cells.ok.0, c.requires.site)

pub start-requires-clause-replayable : goal.start-requires-clause-replayable
start-requires-clause-replayable c =
    let world = c.args.self.now in
    let is = c.requires.stands.0 in
    let stands = c.requires.stands.1 in
    let laws = c.reached_worlds_are_lawful.ensures (setup_of world.catalog) in
    own-can-start world is stands.stands c.args.site.0 c.requires.site c.index_mut.result.now c.index_mut.ensures.value
    (laws is stands.range stands.reached).replayable
    (laws _ stands.range (reached-started (setup_of world.catalog) is stands.reached c.args.site.0 c.requires.site)).replayable

pub returns : goal.returns
returns c is stands =
    let world = c.args.self.now in
    let cell = c.index_mut.result.now in
    let own = own-stands world is stands.stands c.args.site.0 c.requires.site cell c.index_mut.ensures.value in
    let begun = opened (setup_of world.catalog) is c.args.site.0 (site_at is c.args.site.0).running in
    let end = start-ends world is stands.stands c.args.site.0 c.requires.site cell c.index_mut.ensures.value c.start.new.self c.in_ok-start.field-0 (c.in_ok-start.ensures _ own) in
    let line : start_line c.args.site.0 c.in_ok-start.field-0 ≡ line_of c.match-branch-2.line =
    elim c.match-branch-2.branch [
      | in-Up w ↦ ap (start_line c.args.site.0) w.in-Up.is ∙ sym (ap line_of w.line-is)
      | in-Started w ↦ ap (start_line c.args.site.0) w.in-Started.is ∙ sym (ap line_of w.line-is)
      | in-Full w ↦ ap (start_line c.args.site.0) w.in-Full.is ∙ sym (ap line_of w.line-is)
      | in-Spent w ↦ ap (start_line c.args.site.0) w.in-Spent.is ∙ sym (ap line_of w.line-is)
      | in-Broke w ↦ ap (start_line c.args.site.0) w.in-Broke.is ∙ sym w.broken_line-line.ensures ∙ sym (ap line_of w.line-is)
    ] in
    ends-come world _ c.args.lines.now.items c.push.new.self.items begun c.match-branch-2.line c.in_ok-push.field-0
    (subst (Ends (with_cell world c.args.site.0 c.start.new.self) begun) line end) (record { catalog = refl; limit = refl }) c.in_ok-push.ensures.items
