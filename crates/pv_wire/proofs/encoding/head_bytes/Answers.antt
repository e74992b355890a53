-- The bytes of two numbers, behind four bytes.
use Rattle.std.proofs.Common.{◌∷◌, ◌++◌, ℕ, List, ap, ap₂}
use Rattle.pv_fields.proofs.NumberLemmas.{four_bytes}
use Rattle.pv_wire.proofs.encoding.head_bytes.Goals as goal

pub returns : goal.returns
returns c =
    let txn = c.args.txn in
    let epoch = four_bytes c.to_be_bytes.result txn.epoch c.to_be_bytes.ensures in
    let number = four_bytes c.to_be_bytes-2.result txn.number c.to_be_bytes-2.ensures in
    ap (λ (numbers : List ℕ). c.args.kind ∷ c.args.from.0 ∷ c.args.to.0 ∷ txn.site.0 ∷ numbers) (ap₂ (λ (front back : List ℕ). front ++ back) epoch number)
