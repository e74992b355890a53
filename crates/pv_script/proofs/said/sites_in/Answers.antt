-- The first line begins with `sites`.
use Rattle.std.proofs.Common.{[], length, take, drop, ◌-◌}
use Rattle.pv_script.specs.LineFaults.{texts}
use Rattle.pv_script.proofs.SaidLemmas.{first-nil, first-differs, first-same, sites-count, sites-expected, sites-fault}
use Rattle.pv_script.proofs.said.sites_in.Goals as goal

pub returns-in_default-clause-fault : goal.returns-in_default-clause-fault
returns-in_default-clause-fault c = λ kind line is same. sites-expected kind line (texts c.args.words.now) is same (first-nil c.args.words.now c.in_default.len_below)

pub returns-then-ne-clause-fault : goal.returns-then-ne-clause-fault
returns-then-ne-clause-fault c = λ kind line is same.
    sites-expected kind line (texts c.args.words.now) is same
    (first-differs c.args.words.now (record { ref_ptr = (0, 0); now = [] }) c.as_slice.result.now c.ne.result c.in-len1-up.len_at_least c.ne.ensures c.as_slice.ensures c.if-ne.true)

pub returns-clause-sites : goal.returns-clause-sites
returns-clause-sites c =
    sites-count (texts c.args.words.now) (texts (take (length c.args.words.now - 1) (drop 1 c.args.words.now))) c.count_in.result
    (first-same c.args.words.now (record { ref_ptr = (0, 0); now = [] }) c.as_slice.result.now c.ne.result c.in-len1-up.len_at_least c.ne.ensures c.as_slice.ensures c.if-ne.false)
    c.count_in.ensures.count

pub returns-clause-fault : goal.returns-clause-fault
returns-clause-fault c = λ kind line is same.
    sites-fault kind line (texts c.args.words.now) (texts (take (length c.args.words.now - 1) (drop 1 c.args.words.now))) c.count_in.result is same
    (first-same c.args.words.now (record { ref_ptr = (0, 0); now = [] }) c.as_slice.result.now c.ne.result c.in-len1-up.len_at_least c.ne.ensures c.as_slice.ensures c.if-ne.false)
    (c.count_in.ensures.fault 0)
