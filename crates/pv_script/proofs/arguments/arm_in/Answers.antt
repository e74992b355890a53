-- The call isn't a number in the range, or the mode is none.
use Rattle.std.proofs.Common.{[]}
use Rattle.pv_script.proofs.FieldLemmas.{bad-call-at, bad-mode-at}
use Rattle.pv_script.proofs.arguments.arm_in.Goals as goal

pub returns-in_default-number_in-clause-fault : goal.returns-in_default-number_in-clause-fault
returns-in_default-number_in-clause-fault c =
    bad-call-at c.args.sites c.args.args.now (record { ref_ptr = (0, 0); now = [] }) c.in-len3.len_at_least c.in-len3.len_below (rw c.from.ensures at (c.in_default-number_in.ensures.none c.args.sites))

pub returns-in_default-mode_of-clause-fault : goal.returns-in_default-mode_of-clause-fault
returns-in_default-mode_of-clause-fault c =
    bad-mode-at c.args.sites c.in-Some.site.0 c.in-Some-number_in.k c.args.args.now (record { ref_ptr = (0, 0); now = [] }) c.in-len3.len_at_least c.in-len3.len_below
    c.in-Some.ensures.site.0 c.in-Some.ensures.site.1 (rw c.from.ensures at c.in-Some-number_in.ensures.number) c.in_default-mode_of.ensures.none
