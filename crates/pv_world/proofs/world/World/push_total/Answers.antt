-- The line of the total is appended.
use Rattle.std.proofs.Common.{[], ◌∷◌, ◌++◌, map, ap, ◌∙◌}
use Rattle.pv_protocol.specs.Report.{total_of}
use Rattle.pv_script.specs.LineView.{line_of}
use Rattle.pv_world.proofs.ReportLemmas.{one-more}
use Rattle.pv_world.proofs.world.World.push_total.Goals as goal

pub returns : goal.returns
unfolding total_of
returns c = λ is stands.
    one-more line_of c.args.lines.now.items c.push.new.self.items c.in_ok-total.field-0 c.in_ok-push.ensures.items
    ∙ ap (λ line. map line_of c.args.lines.now.items ++ line ∷ []) (c.in_ok-total.ensures is stands)
