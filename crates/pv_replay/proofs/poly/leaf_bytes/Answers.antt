-- The bytes of the value, behind that of a leaf.
use Rattle.std.proofs.Common.{◌≡◌, ◌∙◌, ◌∷◌, ℕ, List, ap, arith}
use Rattle.std.proofs.lemmas.Int.{to_z-of_z}
use Rattle.std.specs.Int.{cast_unsigned, to_be_bytes, w64}
use Rattle.pv_base.specs.BigEndian.{big_endian}
use Rattle.pv_base.proofs.BigEndianLemmas.{cast_unsigned-twos_complement}
use Rattle.pv_fields.proofs.NumberLemmas.{eight_bytes}
use Rattle.pv_replay.proofs.poly.leaf_bytes.Goals as goal

pub returns : goal.returns
returns c =
    let bits : c.to_be_bytes.result ≡ to_be_bytes w64 (cast_unsigned w64 c.args.value) = grind (arith, to_z-of_z) in
    let value = eight_bytes c.to_be_bytes.result (cast_unsigned w64 c.args.value) bits ∙ ap (big_endian 8) (cast_unsigned-twos_complement c.args.value) in
    ap (λ (bytes : List ℕ). 0 ∷ bytes) value
