-- What is spelled isn't long.
use Rattle.std.proofs.Common.{arith}
use Rattle.pv_fields.proofs.SizeLemmas.{record_small}
use Rattle.pv_replay.specs.Values.{record_of}
use Rattle.pv_replay.proofs.record.encode_record.Goals as goal

pub record_length-requires : goal.record_length-requires
record_length-requires c = let small = record_small (record_of c.args.value.now) c.requires.0 c.requires.1 in omega (arith, small)
