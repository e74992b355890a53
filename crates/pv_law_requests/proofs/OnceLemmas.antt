-- No transaction stands twice in an order in which no two places are of one.
use Rattle.std.proofs.Common.{◌≡◌, ◌≤◌, Bool, true, false, List, [], ◌∷◌, length, cond, filter, refl, sym, ap, ◌∙◌, arith}
use Rattle.std.specs.List.{Contains}
use Rattle.std.proofs.lemmas.Bool.{false_from_ne_true, le-ltb}
use Rattle.pv_audit.specs.Reports.{stands_twice}
use Rattle.pv_base.proofs.AssignmentLemmas.{same-eq}
use Rattle.pv_base.proofs.ContainsLemmas.{Contains-behind, Contains-first}
use Rattle.pv_base.specs.Assignment.{is_same_txn}
use Rattle.pv_base.specs.declared.txn.TxnId.{TxnId}
use Rattle.pv_law_agreement.proofs.Lists.{cut-at}
use Rattle.pv_law_outcomes.specs.Coherent.{AreOnce}
use Rattle.pv_protocol.specs.Report.{txns_in_order}
use Rattle.pv_protocol.specs.State.{Placed}

module _ (t : TxnId) where
  abbrev kept : List Placed → List TxnId
  kept order = filter (is_same_txn t) (txns_in_order order)

  none-kept : (order : List Placed) → ((placed : Placed) → Contains order placed → is_same_txn t placed.txn ≡ false) → kept order ≡ []
  none-kept [] none = refl
  none-kept (placed ∷ order) none =
      ap (λ (b : Bool). cond b (placed.txn ∷ kept order) (kept order)) (none placed (Contains-first placed order))
      ∙ none-kept order (λ other there. none other (Contains-behind placed order other there))

  one-kept : (order : List Placed) → AreOnce order → length (kept order) ≤ 1
  one-kept [] once = omega arith
  one-kept (placed ∷ order) once =
      by (one-kept order (λ before after other another split there.
      once (placed ∷ before) after other another (ap (λ (rest : List Placed). placed ∷ rest) split) (Contains-behind placed before another there)))
      (is_same_txn t placed.txn) refl
    where
      by : length (kept order) ≤ 1 → (b : Bool) → is_same_txn t placed.txn ≡ b → length (cond b (placed.txn ∷ kept order) (kept order)) ≤ 1
      by later true same =
          let none : kept order ≡ [] =
          none-kept order (λ other there. false_from_ne_true (is_same_txn t other.txn) (λ also.
          let cut = cut-at order other there in
          once (placed ∷ cut.front) cut.rest other placed (ap (λ (rest : List Placed). placed ∷ rest) cut.split) (Contains-first placed cut.front)
          (sym (same-eq {t = t} {u = placed.txn} same) ∙ same-eq {t = t} {u = other.txn} also))) in
          omega (arith, ap length none)
      by later false apart = later

  pub stands-once : (order : List Placed) → AreOnce order → stands_twice (txns_in_order order) t ≡ false
  stands-once order once = le-ltb 1 (length (kept order)) (one-kept order once)
