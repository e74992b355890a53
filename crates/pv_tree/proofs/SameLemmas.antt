-- Equal cases are those of tests with equal sides, or of leaves.
use Rattle.std.proofs.Common.{◌≡◌, ℕ, List, [], ◌∷◌, length, sym, ap, ◌∙◌, arith}
use Rattle.pv_base.specs.declared.txn.TxnId.{TxnId}
use Rattle.pv_base.specs.Polyvalue.{Case}
use Rattle.pv_cases.proofs.CaseCounts.{length-tested, some_case}
use Rattle.pv_cases.proofs.TestLemmas.{one-test}
use Rattle.pv_tree.specs.Meanings.{cases_at}
use Rattle.pv_tree.specs.Nodes.{IsTestAt}
use Rattle.pv_tree.proofs.SettleLemmas.{tested-at}

module _ {V : Type 0} (meanings : List (List (Case V))) (number other : ℕ) where
  pub one-sides : {txn second : TxnId} {aborted committed front back : ℕ} → IsTestAt meanings number txn aborted committed → IsTestAt meanings other second front back
      → cases_at meanings number ≡ cases_at meanings other
      → (txn ≡ second) × ((cases_at meanings aborted ≡ cases_at meanings front) × (cases_at meanings committed ≡ cases_at meanings back))
  one-sides at is same = one-test (tested-at at) (tested-at is) same

  -- A leaf is no test.
  pub leaf-no-test : {value : V} {txn : TxnId} {aborted committed : ℕ} → cases_at meanings number ≡ record { when = []; value = value } ∷ []
      → IsTestAt meanings other txn aborted committed → cases_at meanings number ≡ cases_at meanings other → ⊥
  leaf-no-test {txn = txn} {aborted} {committed} leaf at same =
      omega (
        arith,
        ap length (sym leaf ∙ same ∙ at.is),
        length-tested txn (cases_at meanings aborted) (cases_at meanings committed),
        some_case at.below.sides.aborted_canonical,
        some_case at.below.sides.committed_canonical,
      )
