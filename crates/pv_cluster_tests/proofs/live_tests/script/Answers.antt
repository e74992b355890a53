-- The script was read from the text.
use Rattle.pv_cluster_tests.proofs.live_tests.script.Goals as goal

pub returns : goal.returns
returns c = ((_, c.in_ok-script.ensures.answer.given), c.in_ok-script.ensures.plans)
