-- Each call is about fewer transactions.
use Rattle.std.proofs.Common.{length}
use Rattle.pv_cases.proofs.meetings.+push_meetings.Given as goal

abbrev pub decreases-push_meetings : goal.decreases-push_meetings
decreases-push_meetings g l = length l.txns.now
