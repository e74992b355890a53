use Rattle.std.proofs.Common.{arith, ◌≡◌, ◌∷◌, [], refl, sym, ap, subst, ◌∙◌}
use Rattle.pv_protocol.specs.Attempt.{packed}
use Rattle.pv_protocol.specs.World.{site_at}
use Rattle.pv_script.specs.LineView.{line_of}
use Rattle.pv_site.specs.SiteState.{setup_of}
use Rattle.pv_world.proofs.ChangeLemmas.{EndsIn, ends-come, own-can-pack, own-stands, packed-ends, silent-ends-come, with_cell}
use Rattle.pv_world.proofs.StandLemmas.{cells-count}
use Rattle.pv_world.proofs.world.World.checkpoint.Goals.{in-Down, in-Spent, in-Broke}
use Rattle.pv_world.proofs.world.World.checkpoint.Goals as goal
use Rattle.pv_world.specs.Cells.{packed_lines}

pub index_mut-requires : goal.index_mut-requires
index_mut-requires c =
    let world = c.args.self.now in
    let stands = c.requires.stands in
    omega (arith, cells-count world stands.0 stands.1.stands, world.cells.ok.0, c.requires.site)

pub checkpoint-requires : goal.checkpoint-requires
checkpoint-requires c =
    let world = c.args.self.now in
    let is = c.requires.stands.0 in
    let stands = c.requires.stands.1 in
    let laws = c.reached_worlds_are_lawful.ensures (setup_of world.catalog) is stands.range stands.reached in
    own-can-pack world is stands.stands c.args.site.0 c.requires.site c.index_mut.result.now c.index_mut.ensures.value laws.replayable laws.range

pub returns-in-Done : goal.returns-in-Done
returns-in-Done c is stands =
    let world = c.args.self.now in
    let cell = c.index_mut.result.now in
    let own = own-stands world is stands.stands c.args.site.0 c.requires.site cell c.index_mut.ensures.value in
    let begun = packed is c.args.site.0 (site_at is c.args.site.0).running in
    let end = packed-ends world is stands.stands c.args.site.0 c.requires.site cell c.index_mut.ensures.value c.checkpoint.new.self c.in_ok-checkpoint.field-0
    (c.in_ok-checkpoint.ensures _ _ _ own) in
    let silent : packed_lines c.args.site.0 c.in_ok-checkpoint.field-0 ≡ [] = ap (packed_lines c.args.site.0) c.in-Done.is in
    let none : EndsIn (with_cell world c.args.site.0 c.checkpoint.new.self) begun [] = subst (EndsIn (with_cell world c.args.site.0 c.checkpoint.new.self) begun) silent end in
    silent-ends-come world _ c.args.lines.now.items begun (tt {0}) none (record { catalog = refl; limit = refl })

pub returns : goal.returns
returns c is stands =
    let world = c.args.self.now in
    let cell = c.index_mut.result.now in
    let own = own-stands world is stands.stands c.args.site.0 c.requires.site cell c.index_mut.ensures.value in
    let begun = packed is c.args.site.0 (site_at is c.args.site.0).running in
    let end = packed-ends world is stands.stands c.args.site.0 c.requires.site cell c.index_mut.ensures.value c.checkpoint.new.self c.in_ok-checkpoint.field-0
    (c.in_ok-checkpoint.ensures _ _ _ own) in
    let line : packed_lines c.args.site.0 c.in_ok-checkpoint.field-0 ≡ line_of c.match-branch-2.line ∷ [] =
    elim c.match-branch-2.branch [
      | in-Down w ↦ ap (packed_lines c.args.site.0) w.in-Down.is ∙ sym (ap (λ line. line_of line ∷ []) w.line-is)
      | in-Spent w ↦ ap (packed_lines c.args.site.0) w.in-Spent.is ∙ sym (ap (λ line. line_of line ∷ []) w.line-is)
      | in-Broke w ↦ ap (packed_lines c.args.site.0) w.in-Broke.is ∙ ap (λ line. line ∷ []) (sym w.broken_line-line.ensures ∙ sym (ap line_of w.line-is))
    ] in
    ends-come world _ c.args.lines.now.items c.push.new.self.items begun c.match-branch-2.line c.in_ok-push.field-0
    (subst (EndsIn (with_cell world c.args.site.0 c.checkpoint.new.self) begun) line end) (record { catalog = refl; limit = refl }) c.in_ok-push.ensures.items
