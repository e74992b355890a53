-- The bytes of two numbers.
use Rattle.std.proofs.Common.{◌∙◌, ◌++◌, ℕ, List, ap₂, sym}
use Rattle.pv_fields.proofs.NumberLemmas.{four_bytes}
use Rattle.pv_wire.proofs.fields.grant_bytes.Goals as goal

pub returns : goal.returns
returns c = λ bytes spells.
    let epoch = four_bytes c.to_be_bytes.result c.args.grant.epoch c.to_be_bytes.ensures ∙ sym spells.first.spelled in
    let number = four_bytes c.to_be_bytes-2.result c.args.grant.number c.to_be_bytes-2.ensures ∙ sym spells.second.spelled in
    ap₂ (λ (front back : List ℕ). front ++ back) epoch number ∙ sym spells.whole
