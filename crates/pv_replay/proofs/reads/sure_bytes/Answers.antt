-- The bytes of the item, the count of the cases, that of the literals, and the bytes of the value.
use Rattle.std.proofs.Common.{◌≡◌, ◌∙◌, ◌∷◌, ◌++◌, [], ℕ, List, ap, ap₂, sym, arith}
use Rattle.std.proofs.lemmas.Int.{to_z-of_z}
use Rattle.std.specs.Int.{cast_unsigned, to_be_bytes, w64}
use Rattle.pv_base.specs.BigEndian.{big_endian}
use Rattle.pv_base.proofs.BigEndianLemmas.{big_endian-one, bytes_high_first-big_endian, cast_unsigned-twos_complement}
use Rattle.pv_fields.proofs.NumberLemmas.{four_bytes, eight_bytes}
use Rattle.pv_replay.proofs.reads.sure_bytes.Goals as goal

pub returns : goal.returns
returns c =
    let join = λ (front back : List ℕ). front ++ back in
    let item = four_bytes c.to_be_bytes.result c.args.item.0 c.to_be_bytes.ensures in
    let cases : 0 ∷ 1 ∷ [] ≡ big_endian 2 1 = bytes_high_first-big_endian 2 1 in
    let literals : 0 ∷ [] ≡ big_endian 1 0 = sym (big_endian-one 0 (omega arith)) in
    let bits : c.to_be_bytes-2.result ≡ to_be_bytes w64 (cast_unsigned w64 c.args.value) = grind (arith, to_z-of_z) in
    let value = eight_bytes c.to_be_bytes-2.result (cast_unsigned w64 c.args.value) bits ∙ ap (big_endian 8) (cast_unsigned-twos_complement c.args.value) in
    ap₂ join item (ap₂ join cases (ap₂ join literals value))
