-- The clients before this one are counted.
use Rattle.std.proofs.Common.{◌∙◌, List, get_or, take, ap}
use Rattle.pv_rings.proofs.EachLemmas.{get_or-any}
use Rattle.pv_script.specs.declared.live.Client.{Client}
use Rattle.pv_closing.proofs.lines.place_of.Goals as goal
use Rattle.pv_opening.specs.Counts.{count_at}

pub returns : goal.returns
returns c any =
    let clients = c.args.clients.now in
    let at = c.args.at in
    let client = c.index-clients-at.result in
    c.count_of.ensures
    ∙ ap (λ (list : List Client). count_at (get_or clients at client).site.0 list) c.split_at.ensures.front
    ∙ ap (λ (one : Client). count_at one.site.0 (take at clients)) (get_or-any clients at any client c.requires.at)
