-- Their bytes are the same.
use Rattle.std.proofs.Common.{sym, ◌∙◌}
use Rattle.pv_quorum.proofs.TellLemmas.{same-records}
use Rattle.pv_quorum.proofs.laws.contents_tell_records.Goals as goal

pub returns : goal.returns
returns c entries others contents one other = same-records entries others one.range other.range (sym one.bytes_are ∙ other.bytes_are)
