-- The contents so far are renewed.
use Rattle.pv_replay.specs.Values.{contents_of}
use Rattle.pv_upgrade.specs.Renewed.{IsRenewed}
use Rattle.pv_upgrade.proofs.contents.renew_all.Given as goal

abbrev pub invariant-loop-content : goal.invariant-loop-content
invariant-loop-content l = IsRenewed (contents_of l.yielded) l.renewed
