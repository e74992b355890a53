-- The meetings where the first transaction aborts come first, then those where it commits.
use Rattle.std.proofs.Common.{rules, ◌∙◌, arith}
use Rattle.pv_cases.proofs.CaseSplitLemmas.{ascending-rest, push-none, push-first, still-there}
use Rattle.pv_cases.proofs.meetings.+push_meetings.Goals as goal

pub returns-in_default : goal.returns-in_default
returns-in_default g t c =
    push-none c.args.cases.now c.args.places.now c.args.txns.now c.first_two.result c.args.meetings.now.items c.push.new.self.items
    c.in_default.ensures.cases c.first_two.ensures c.in_ok-push.ensures.items

pub push_meetings-requires : goal.push_meetings-requires
push_meetings-requires g t c κs within = (
  omega (arith, c.in-Some.ensures.cases.1, c.decreases),
  (
    search rules,
    (
      still-there c.args.cases.now c.args.places.now _ _ _ (c.deref.ensures.value ∙ c.in_ok-aborted.ensures) c.requires.there,
      ascending-rest c.in-Some.ensures.cases.0 c.requires.ascending,
    ),
  ),
)

pub push_meetings-requires-2 : goal.push_meetings-requires-2
push_meetings-requires-2 g t c κs within = (
  omega (arith, c.in-Some.ensures.cases.1, c.decreases),
  (
    search rules,
    (
      still-there c.args.cases.now c.args.places.now _ _ _ (c.deref-2.ensures.value ∙ c.in_ok-committed.ensures) c.requires.there,
      ascending-rest c.in-Some.ensures.cases.0 c.requires.ascending,
    ),
  ),
)

pub returns : goal.returns
returns g t c =
    push-first c.args.cases.now c.args.places.now c.args.txns.now c.in-Some.txn.now c.in-Some.rest.now c.deref.result.now c.deref-2.result.now
    c.args.meetings.now.items c.push_meetings.new.meetings.items c.push_meetings-2.new.meetings.items
    c.requires.ascending c.in-Some.ensures.cases.0
    (c.deref.ensures.value ∙ c.in_ok-aborted.ensures) (c.deref-2.ensures.value ∙ c.in_ok-committed.ensures)
    c.in_ok-push_meetings.ensures c.in_ok-push_meetings-2.ensures
