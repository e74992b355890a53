-- The word isn't a number in the range.
use Rattle.std.proofs.Common.{[]}
use Rattle.pv_model.specs.LineForms.{number}
use Rattle.pv_script.proofs.FieldLemmas.{bad-alone}
use Rattle.pv_script.proofs.arguments.number_alone.Goals as goal

pub returns-in-None-clause-fault : goal.returns-in-None-clause-fault
returns-in-None-clause-fault c = λ sites.
    bad-alone (number c.args.least c.args.most) sites c.args.args.now (record { ref_ptr = (0, 0); now = [] }) c.in-len1.len_at_least c.in-len1.len_below (c.in-None.ensures.none sites)
