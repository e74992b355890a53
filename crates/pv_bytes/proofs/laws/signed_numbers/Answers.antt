-- The cast of the number is such a signed one.
use Rattle.std.proofs.Common.{arith}
use Rattle.std.specs.Int.{w64, cast_signed}
use Rattle.pv_base.proofs.BigEndianLemmas.{twos_complement-cast_signed}
use mir.Facts.{sfits_to_z}
use Rattle.pv_bytes.proofs.laws.signed_numbers.Goals as goal

pub returns : goal.returns
returns c = λ number fits. (cast_signed w64 number, sfits_to_z {w = w64} record { fits = fits }, twos_complement-cast_signed number (omega arith))
