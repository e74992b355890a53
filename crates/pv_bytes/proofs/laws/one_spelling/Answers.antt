use Rattle.pv_base.proofs.BigEndianLemmas.{big_endian-number_of}
use Rattle.pv_bytes.proofs.laws.one_spelling.Goals as goal

pub returns : goal.returns
returns c = big_endian-number_of
