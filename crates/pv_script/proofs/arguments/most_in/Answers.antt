-- One word is the only one.
use Rattle.std.proofs.Common.{[]}
use Rattle.pv_script.proofs.FieldLemmas.{texts-one}
use Rattle.pv_script.proofs.arguments.most_in.Goals as goal

pub returns-in-len1-clause-fault : goal.returns-in-len1-clause-fault
returns-in-len1-clause-fault c = λ sites.
    rw (texts-one c.args.args.now (record { ref_ptr = (0, 0); now = [] }) c.in-len1.len_at_least c.in-len1.len_below) (c.most.ensures.fault sites)
