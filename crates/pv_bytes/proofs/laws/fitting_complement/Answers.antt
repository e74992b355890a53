use Rattle.pv_base.proofs.BigEndianLemmas.{twos_complement-lt}
use Rattle.pv_bytes.proofs.laws.fitting_complement.Goals as goal

pub returns : goal.returns
returns c = twos_complement-lt
