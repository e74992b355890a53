-- The greatest epoch, with one more record.
use Rattle.std.proofs.Common.{◌≡◌, ℕ, ◌≤◌, List, [], ◌∷◌, ◌++◌, ap, arith}
use Rattle.std.specs.Prelude.{max}
use Rattle.pv_format.specs.Contents.{greatest_epoch}
use Rattle.pv_format.specs.Record.{Record, epoch_begun, prepared, outcome_known}

pub epoch-stays : (records : List Record) (more : Record) → greatest_epoch (more ∷ []) ≡ 0 → greatest_epoch (records ++ more ∷ []) ≡ greatest_epoch records
epoch-stays [] more none = none
epoch-stays (epoch_begun epoch ∷ records) more none = ap (λ (last : ℕ). max epoch last) (epoch-stays records more none)
epoch-stays (prepared txn writes ∷ records) more none = epoch-stays records more none
epoch-stays (outcome_known txn commits ∷ records) more none = epoch-stays records more none

pub epoch-rises : (records : List Record) (epoch : ℕ) → greatest_epoch records ≤ epoch → greatest_epoch (records ++ epoch_begun epoch ∷ []) ≡ epoch
epoch-rises [] epoch most = omega arith
epoch-rises (epoch_begun other ∷ records) epoch most =
    let rest : greatest_epoch (records ++ epoch_begun epoch ∷ []) ≡ epoch = epoch-rises records epoch (omega (arith, most)) in omega (arith, most, rest)
epoch-rises (prepared txn writes ∷ records) epoch most = epoch-rises records epoch most
epoch-rises (outcome_known txn commits ∷ records) epoch most = epoch-rises records epoch most
