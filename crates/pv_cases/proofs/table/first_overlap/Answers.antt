-- What `first_overlap` owes.
use Rattle.std.proofs.Common.{◌<◌, length, subst, sym, ◌∙◌}
use Rattle.std.proofs.lemmas.List.{take_all}
use Rattle.pv_cases.proofs.LeastPairLemmas.{IsLeastOf, more-none, more-first, more-kept, more-less}
use Rattle.pv_cases.proofs.table.first_overlap.Goals as goal
use Rattle.pv_cases.proofs.table.first_overlap.Goals.{in-Some+in-Some-least, in-Some+in_default-least-2, in-Some+in_default-least, in_default}

pub loop-meeting-preserved : goal.loop-meeting-preserved
loop-meeting-preserved c =
    let within : c.loop-meeting.meeting-index < length c.args.meetings.now = c.loop-meeting-test.true in
    elim c.match-zip.branch [
      | in-Some+in-Some-least w ↦ more-kept c.args.meetings.now c.loop-meeting.meeting-index _ c.loop-meeting.least c.match-zip.least w.in-Some-least.other w.in-Some.pair within
          (sym c.zip.ensures ∙ w.in-Some.is) w.in-Some-least.is w.least-is w.if-is_first_or_same.ensures c.loop-meeting.invariant
      | in-Some+in_default-least-2 w ↦ more-less c.args.meetings.now c.loop-meeting.meeting-index _ c.loop-meeting.least c.match-zip.least w.in-Some-least.other w.in-Some.pair within
          (sym c.zip.ensures ∙ w.in-Some.is) w.in-Some-least.is w.least-is w.if-is_first_or_same.ensures c.loop-meeting.invariant
      | in-Some+in_default-least w ↦ more-first c.args.meetings.now c.loop-meeting.meeting-index _ c.loop-meeting.least c.match-zip.least w.in-Some.pair within
          (sym c.zip.ensures ∙ w.in-Some.is) w.in_default-least.is w.least-is c.loop-meeting.invariant
      | in_default w ↦ more-none c.args.meetings.now c.loop-meeting.meeting-index _ c.loop-meeting.least c.match-zip.least within
          (sym c.zip.ensures ∙ w.in_default.is) w.least-is c.loop-meeting.invariant
    ]

pub returns : goal.returns
returns c =
    subst (λ meetings. IsLeastOf meetings c.loop-meeting.least)
    (take_all c.loop-meeting.meeting-index c.args.meetings.now c.loop-meeting-test.false) c.loop-meeting.invariant
