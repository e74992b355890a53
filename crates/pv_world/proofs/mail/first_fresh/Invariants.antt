use Rattle.std.proofs.Common.{◌≤◌}
use Rattle.std.specs.List.{position_or_len}
use Rattle.pv_world.specs.MailView.{marks_from}
use Rattle.pv_world.proofs.mail.first_fresh.Given as goal

abbrev pub invariant-loop-number : goal.invariant-loop-number
invariant-loop-number l = l.number ≤ position_or_len (λ mark. mark) (marks_from l.dropped 0 l.posts)
