-- A device that no claim names: transactions as numbers, from which they can be had back. A type that is seen as something with a
-- transaction in it needs such a code.
use Rattle.std.specs.Prelude.{ℕ, refl}
use Rattle.std.specs.Coded.{Coded, code_by, coded_ℕ, coded×}
use Rattle.pv_base.specs.declared.txn.TxnId.{TxnId}

abbrev pub txn_code : Coded TxnId
txn_code =
    code_by (ℕ × (ℕ × ℕ)) (coded× coded_ℕ (coded× coded_ℕ coded_ℕ)) (λ t. (t.site.0, (t.epoch, t.number)))
    (λ p. record { site = record { 0 = p.0 }; epoch = p.1.0; number = p.1.1 }) (λ _. refl)
