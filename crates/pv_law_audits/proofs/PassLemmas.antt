-- Of reports that are right nothing is found but a limit.
use Rattle.std.proofs.Common.{◌≡◌, ⊎_elim, ℕ, List, [], ◌∷◌, inl, inr, refl, sym, ap, subst, ◌∙◌}
use Rattle.std.specs.Prelude.{IsTrue}
use Rattle.std.specs.List.{Contains}
use Rattle.std.proofs.lemmas.List.Elements.{All-contains, Contains-append_right}
use Rattle.std.proofs.lemmas.Option.{none-some}
use Rattle.pv_audit.specs.Agreement.{AreOpen, LineAgrees}
use Rattle.pv_audit.specs.Findings.{Finding, no_order, no_item, limit, IsFinding, IsFirstDisagreement, IsVerdict, Verdict, all_agree, at_report, open_lists}
use Rattle.pv_audit.specs.Reports.{Report, is_in, reports}
use Rattle.pv_audit.specs.Traces.{Trace}
use Rattle.pv_base.specs.Catalog.{Declared}
use Rattle.pv_base.specs.declared.txn.TxnId.{TxnId}
use Rattle.pv_base.specs.Named.{with_txns}
use Rattle.pv_base.proofs.ContainsLemmas.{Contains-first, Contains-nil}
use Rattle.pv_law_audits.specs.RightReports.{AreRight, IsPassed, IsRight}
use Rattle.pv_law_polyvalues.proofs.AscendingLemmas.{All-from_members}
use Rattle.pv_law_polyvalues.proofs.TableLemmas.{assigned-listed, contained-commits}
use Rattle.pv_law_step.proofs.NameLists.{united}
use Rattle.pv_law_step.proofs.ShownLemmas.{none-ascend}
use Rattle.pv_protocol.specs.Lines.{Line}

-- Lists of open transactions are of such.
lists-open : (told : Report) (list : List TxnId) → Contains (open_lists told) list → AreOpen told list
lists-open told list there =
    All-from_members (λ t. IsTrue (is_in told.open_ones t)) list
    (λ t among. contained-commits told.open_ones t
    (⊎_elim (λ here. here) (λ none. absurd (Contains-nil t none))
    ((united told.open_ones [] none-ascend).only t (assigned-listed (with_txns told.open_ones []) list there t among))))

module _ (catalog : Declared) (told : Report) (right : IsRight catalog told) where
  -- Each item agrees.
  no-disagreement : (item : ℕ) (txns : List TxnId) → IsFirstDisagreement catalog told item txns → ⊥
  no-disagreement item txns is =
      is.first.fails
      (All-contains (LineAgrees catalog told txns) told.items (Line.item item is.cases)
      (right.agrees txns (lists-open told txns (subst (λ (lists : List (List TxnId)). Contains lists txns) (sym is.first.split)
      (Contains-append_right is.first.before (txns ∷ is.first.after) txns (Contains-first txns is.first.after)))))
      (subst (λ (lines : List Line). Contains lines (Line.item item is.cases)) (sym is.split)
      (Contains-append_right is.front (Line.item item is.cases ∷ is.behind) (Line.item item is.cases) (Contains-first (Line.item item is.cases) is.behind))))

  only-limit : (found : Finding) → IsFinding catalog told found → (names : ℕ) × (found ≡ limit names)
  only-limit (no_order txn) is = absurd (none-some txn (sym right.placed ∙ is))
  only-limit (no_item item txns) is = absurd (no-disagreement item txns is.1)
  only-limit (limit names) is = (names, refl)

pub right-passes : (trace : Trace) (verdict : Verdict) → AreRight trace → IsVerdict trace verdict → IsPassed verdict
right-passes trace (all_agree count) right is = inl (count, refl)
right-passes trace (at_report number found) right is =
    let here =
    All-contains (IsRight trace.catalog) (reports trace) is.told right
    (subst (λ (all : List Report). Contains all is.told) (sym is.split) (Contains-append_right is.front (is.told ∷ is.behind) is.told (Contains-first is.told is.behind))) in
    let only = only-limit trace.catalog is.told here found is.is in
    inr (number, only.0, ap (at_report number) only.1)
