use Rattle.pv_base.proofs.BigEndianLemmas.{number_of-lt}
use Rattle.pv_bytes.proofs.laws.some_number.Goals as goal

pub returns : goal.returns
returns c = number_of-lt
