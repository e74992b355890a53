-- The script was read from the text.
use Rattle.pv_boxes_tests.proofs.drive_tests.driven_by.Goals as goal

pub launched-requires : goal.launched-requires
launched-requires c = ((_, c.in_ok-script.ensures.answer.given), c.in_ok-script.ensures.plans)
