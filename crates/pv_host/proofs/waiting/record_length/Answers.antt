use Rattle.std.proofs.Common.{rules, ◌∙◌}
use Rattle.pv_host.proofs.GroupLemmas.{length-read}
use Rattle.pv_host.proofs.waiting.record_length.Goals as goal

pub returns-clause-length : goal.returns-clause-length
returns-clause-length c = λ content more is short.
    length-read c.args.records.now content more c.number_in.result is (search rules) short (c.number_in.ensures ∙ c.split_at.ensures.front)
