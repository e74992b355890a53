-- The total of values that were read.
use Rattle.std.proofs.Common.{◌≡◌, ℕ, ◌<◌, ◌≤◌, List, length, refl, sym, ◌∙◌, arith}
use Rattle.std.specs.Prelude.{ℤ, true, false, Bool, nat_lt, if◌then◌else◌}
use Rattle.std.specs.List.{flat_map}
use Rattle.std.proofs.lemmas.Bool.{false≢true, ltb-true, lt-ltb}
use Rattle.pv_base.specs.Named.{names_of}
use Rattle.pv_base.specs.Polyvalue.{Case, AreNames}
use Rattle.pv_base.specs.declared.txn.TxnId.{TxnId}
use Rattle.pv_law_polyvalues.proofs.NameLemmas.{one-names}
use Rattle.pv_law_step.proofs.NameLists.{names-are}
use Rattle.pv_model.specs.PossibleAnswers.{sums}
use Rattle.pv_protocol.specs.Lines.{Line}
use Rattle.pv_protocol.specs.Report.{total_within}

module _ (limit : ℕ) (values : List (List (Case ℤ))) (txns : List TxnId) (named : AreNames (flat_map (λ value. value) values) txns) where
  of-names : txns ≡ names_of (flat_map (λ value. value) values)
  of-names = one-names _ _ txns (names_of (flat_map (λ value. value) values)) (λ txn. refl) named (names-are (flat_map (λ value. value) values))

  -- The values that name few outcomes have their sums as the total.
  pub total-sums : length txns ≤ limit → total_within limit values (names_of (flat_map (λ value. value) values)) ≡ Line.total (sums values txns)
  total-sums few = rw (← of-names) (by (nat_lt limit (length txns)) refl) where
    by : (over : Bool) → nat_lt limit (length txns) ≡ over → (if over then Line.total_limit (length txns) else Line.total (sums values txns)) ≡ Line.total (sums values txns)
    by false is = refl
    by true is = absurd (omega (arith, ltb-true limit (length txns) is))

  -- Those that name too many have none.
  pub total-limit : limit < length txns → total_within limit values (names_of (flat_map (λ value. value) values)) ≡ Line.total_limit (length txns)
  total-limit many = rw (← of-names) (by (nat_lt limit (length txns)) refl) where
    by : (over : Bool) → nat_lt limit (length txns) ≡ over → (if over then Line.total_limit (length txns) else Line.total (sums values txns)) ≡ Line.total_limit (length txns)
    by true is = refl
    by false is = absurd (false≢true (sym is ∙ lt-ltb limit (length txns) many))
