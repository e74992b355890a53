-- What `values_met` owes.
use Rattle.std.proofs.Common.{◌<◌, length, sym, ap, ◌∙◌}
use Rattle.pv_cases.specs.Joining.{value_met}
use Rattle.pv_cases.proofs.ValuesMetLemmas.{one-value-more, no-value-more}
use Rattle.pv_cases.proofs.table.values_met.Goals as goal
use Rattle.pv_cases.proofs.table.values_met.Goals.{in-Some+in_ok-push, in_default}

pub loop-meeting-preserved : goal.loop-meeting-preserved
loop-meeting-preserved g c =
    let within : c.loop-meeting.meeting-index < length c.args.meetings.now = c.loop-meeting-test.true in
    elim c.match-value_met.branch [
      | in-Some+in_ok-push w ↦ one-value-more (value_met c.args.cases.now) c.args.meetings.now c.loop-meeting.meeting-index _ c.loop-meeting.values.items
          c.match-value_met.values.items w.in-Some.value within c.loop-meeting.invariant (sym c.value_met.ensures ∙ w.in-Some.is)
          (ap (λ v. v.items) w.values-is ∙ w.in_ok-push.ensures.items)
      | in_default w ↦ no-value-more (value_met c.args.cases.now) c.args.meetings.now c.loop-meeting.meeting-index _ c.loop-meeting.values.items
          c.match-value_met.values.items within c.loop-meeting.invariant (sym c.value_met.ensures ∙ w.in_default.is)
          (ap (λ v. v.items) w.values-is)
    ]
