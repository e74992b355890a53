-- The reports come behind the events of the merge.
use Rattle.pv_law_histories.specs.Merge.{events_of_merge}
use Rattle.pv_live.proofs.PrintLemmas.{reports-behind, reports-planned}
use Rattle.pv_live.proofs.transcribing.events_and_reports.Goals as goal

pub returns-clause-events : goal.returns-clause-events
returns-clause-events c = λ moments is.
    reports-behind c.in_ok-events.field-0.events.items c.push.new.self.items c.push-2.new.self.items (events_of_merge moments) c.in_ok-push.ensures.items c.in_ok-push-2.ensures.items
    (c.in_ok-events.ensures.events moments is)

pub returns-clause-plans : goal.returns-clause-plans
returns-clause-plans c =
    reports-planned c.args.catalog.now c.in_ok-events.field-0.events.items c.push.new.self.items c.push-2.new.self.items c.in_ok-push.ensures.items c.in_ok-push-2.ensures.items
    c.in_ok-events.ensures.plans
