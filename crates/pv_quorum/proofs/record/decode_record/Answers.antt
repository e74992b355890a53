-- Fewer than 15 bytes are no record's.
use Rattle.std.proofs.Common.{length, ap, arith}
use Rattle.pv_bytes.specs.Reading.{Rest}
use Rattle.pv_quorum.proofs.SpellingLemmas.{record-long}
use Rattle.pv_quorum.proofs.record.decode_record.Goals as goal

pub returns-in-Err : goal.returns-in-Err
returns-in-Err c = λ entry spelled.
    let same = ap (λ (rest : Rest). length rest.left) c.new-take.ensures in
    omega (arith, record-long entry c.args.content.now spelled, same, c.in-Err.ensures.short)
