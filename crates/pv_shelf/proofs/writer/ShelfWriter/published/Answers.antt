-- What was added is published, and what is published then is a log.
use Rattle.std.proofs.Common.{◌≡◌, ◌<◌, List, ◌++◌, drop, length, length-append, arith, sym, ap, subst, ◌∙◌}
use Rattle.std.proofs.lemmas.List.{append-nil}
use Rattle.pv_shelf.specs.Part.{Part}
use Rattle.pv_shelf.specs.Log.{IsLog}
use Rattle.pv_shelf.specs.Shelves.{published, pending, added}
use Rattle.pv_shelf.proofs.LogLemmas.{fold-added}
use Rattle.pv_shelf.proofs.RuleLemmas.{finds}
use Rattle.pv_shelf.proofs.writer.ShelfWriter.published.Goals as goal

pub publish_as-requires : goal.publish_as-requires
publish_as-requires g c next is =
    let now = c.args.self.writer.desk.shown.value in
    let more = drop c.args.self.writer.behind c.args.self.writer.log.items in
    let all : next.parts.items ≡ now.parts.items ++ more = is ∙ fold-added now.parts.items more in
    finds _ _ now next (λ _. subst IsLog (sym all) c.args.self.log) (more, sym all)

pub invariant_of-result : goal.invariant_of-result
invariant_of-result g c =
    let shelf = c.args.self in
    let now = c.publish_as.result.0.desk.shown.value.parts.items in
    let values = rw c.in_default-Ok.is-1 at c.publish_as.ensures.values in
    let rule = rw c.in_default-Ok.is-1 at c.publish_as.ensures.rule in
    let all : now ≡ added shelf = values.0 ∙ fold-added (published shelf) (pending shelf) in
    let size : length now ≡ length (added shelf) = ap (λ (log : List Part). length log) all in
    let some : 0 < length (published shelf) = shelf.some in
    record {
      log = subst (λ (more : List Part). IsLog (now ++ more)) (sym values.1) (subst IsLog (sym (append-nil now)) rule.log);
      some = omega (arith, size, length-append (published shelf) (pending shelf), some);
    }

pub returns-in_default-Ok-clause-published : goal.returns-in_default-Ok-clause-published
returns-in_default-Ok-clause-published g c =
    let values = rw c.in_default-Ok.is-1 at c.publish_as.ensures.values in
    (values.0 ∙ fold-added (published c.args.self) (pending c.args.self), values.1)
