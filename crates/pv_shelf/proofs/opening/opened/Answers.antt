-- What was declared is published on a shelf on which nothing was.
use Rattle.std.proofs.Common.{◌≡◌, [], ◌∷◌, drop, rules, sym, subst}
use Rattle.pv_shelf.specs.Log.{IsLog}
use Rattle.pv_shelf.proofs.LogLemmas.{first-published, prefix-none, log-one}
use Rattle.pv_shelf.proofs.RuleLemmas.{finds}
use Rattle.pv_shelf.proofs.opening.opened.Goals as goal

pub publish_as-requires : goal.publish_as-requires
publish_as-requires g c next is =
    let before = c.in_ok-writer.writer in
    let writer = c.append.new.self in
    let now = writer.desk.shown.value in
    let none : now.parts.items ≡ [] = search rules in
    let all : next.parts.items ≡ c.args.opening ∷ [] =
    first-published now.parts.items (drop before.behind before.log.items) (drop writer.behind writer.log.items) next.parts.items c.args.opening none c.in_ok-writer.ensures.1 c.in-Ok.ensures.pending is in
    finds _ _ now next (λ _. subst IsLog (sym all) (log-one c.args.opening)) (prefix-none now.parts.items next.parts.items none)
