use Rattle.pv_base.proofs.BigEndianLemmas.{number_of-big_endian}
use Rattle.pv_bytes.proofs.laws.one_number.Goals as goal

pub returns : goal.returns
returns c = number_of-big_endian
