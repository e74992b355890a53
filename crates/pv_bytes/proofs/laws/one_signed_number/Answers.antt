use Rattle.pv_base.proofs.BigEndianLemmas.{twos_complement-injective}
use Rattle.pv_bytes.proofs.laws.one_signed_number.Goals as goal

pub returns : goal.returns
returns c = twos_complement-injective
