-- Read by read, and then in order, they are the names.
use Rattle.std.proofs.Common.{List, [], refl, ap, subst, ◌∙◌}
use Rattle.std.proofs.lemmas.List.{take_all}
use Rattle.pv_base.specs.Polyvalue.{names}
use Rattle.pv_model.specs.Alternatives.{Read, all_cases}
use Rattle.pv_cases.specs.Names.{Adds}
use Rattle.pv_cases.proofs.AddedNames.{adds-cases, AreNames-added}
use Rattle.pv_split.proofs.outcomes.named_in.Goals as goal

pub loop-read-preserved : goal.loop-read-preserved
loop-read-preserved c =
    adds-cases (λ (read : Read). read.cases) c.args.reads.now c.loop-read.read-index c.read-item.result c.cases.result.now [] c.loop-read.txns.items c.push_names.new.txns.items
    c.loop-read-test.true c.read-item.is (c.cases.ensures.cases ∙ ap (λ (read : Read). read.cases) c.read.view_is) c.loop-read.invariant c.in_ok-push_names.ensures.names

pub returns : goal.returns
returns c =
    AreNames-added (all_cases c.args.reads.now) [] c.loop-read.txns.items c.ordered.result.items refl
    (subst (λ (reads : List Read). Adds (names (all_cases reads)) [] c.loop-read.txns.items)
    (take_all c.loop-read.read-index c.args.reads.now c.loop-read-test.false) c.loop-read.invariant)
    c.ordered.ensures.ascending c.ordered.ensures.same
