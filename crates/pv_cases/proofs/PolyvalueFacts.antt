-- What makes cases a polyvalue, and that the search for a case that is met finds one.
use Rattle.std.proofs.Common.{◌≡◌, ℕ, ◌≤◌, List, drop, length, IsTrue, sym, ap, ◌∙◌, subst}
use Rattle.std.specs.List.{Contains}
use Rattle.std.proofs.lemmas.List.{drop_all}
use Rattle.pv_base.specs.declared.txn.TxnId.{TxnId}
use Rattle.pv_base.specs.Polyvalue.{Case, value_at, names, IsCanonical, IsPolyvalue}
use Rattle.pv_law_polyvalues.proofs.NameLemmas.{NamesAtMost-within}
use Rattle.pv_law_polyvalues.proofs.PolyvalueLemmas.{canonical-complete}

module _ {V : Type 0} where
  -- A list that is equal to canonical cases, which name only what stands in a short list, is a polyvalue.
  pub polyvalue-within : (limit : ℕ) (cases whole : List (Case V)) (txns : List TxnId) → whole ≡ cases → IsCanonical cases →
      ((txn : TxnId) → IsTrue (names cases txn) → Contains txns txn) → length txns ≤ limit → IsPolyvalue limit whole
  polyvalue-within limit cases whole txns same canonical within few =
      subst (λ all. IsPolyvalue limit all) (sym same) (record { canonical = canonical; few = NamesAtMost-within limit cases txns within few })

  -- The search for a case that is met doesn't come to the end of canonical cases.
  pub some-met : (cases read : List (Case V)) (assignment : List TxnId) (place : ℕ) → IsCanonical cases →
      value_at cases assignment ≡ value_at (drop place read) assignment → length read ≤ place → ⊥
  some-met cases read assignment place canonical same over =
      let found = canonical-complete cases canonical assignment in
      let none = same ∙ ap (λ (rest : List (Case V)). value_at rest assignment) (drop_all place read over) in
      let both = sym found.1 ∙ none in
      let clash : ⊥ = cc in
      clash
