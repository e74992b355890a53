-- The lines of a report that are gone through one by one.
use Rattle.std.proofs.Common.{◌≡◌, ℕ, ◌+◌, ◌<◌, Option, Some, None, List, [], ◌∷◌, ◌++◌, drop, get_or, length, sym, ap, subst, take, ◌∙◌}
use Rattle.std.specs.Prelude.{ℤ, All, slice_get}
use Rattle.std.specs.Option.{MatchOption}
use Rattle.std.proofs.lemmas.List.{at_drop_more, take-append-drop}
use Rattle.std.proofs.lemmas.List.Elements.{All-cons, All-nil, All-tail, All-weaker}
use Rattle.pv_audit.specs.Agreement.{LineAgrees, ReportAgrees}
use Rattle.pv_audit.specs.Differences.{AreSameForOpen, IsAstray, IsFirstList, LineIsFine, NamesOnlyOpen}
use Rattle.pv_audit.specs.Findings as model
use Rattle.pv_audit.specs.Findings.{CanBeRun, IsFine, IsFinding, IsFirstDisagreement, open_lists}
use Rattle.pv_audit.specs.FirstFailures.{IsFirstFailure}
use Rattle.pv_audit.specs.Reports.{Report, order_of}
use Rattle.pv_audit.specs.Values.{AreAllValuesAfter}
use Rattle.pv_audit.specs.VerdictView.{verdict_of}
use Rattle.pv_audit.specs.declared.verdict.Verdict.{Verdict}
use Rattle.pv_audit.proofs.OpenLemmas.{item-astray, item-fine, names-only-open}
use Rattle.pv_base.specs.Catalog.{Declared}
use Rattle.pv_base.specs.Polyvalue.{Case}
use Rattle.pv_base.specs.declared.txn.TxnId.{TxnId}
use Rattle.pv_protocol.specs.Lines.{Line}

module _ (catalog : Declared) (told : Report) where
  -- The first line that doesn't agree is the first disagreement.
  pub astray-first : (all : List Line) (i : ℕ) (d : Line) (item : ℕ) (txns : List TxnId) → all ≡ told.items → i < length all → All (LineIsFine catalog told) (take i all)
      → IsAstray catalog told (get_or all i d) item txns → IsFirstDisagreement catalog told item txns
  astray-first all i d item txns is within fine astray = record {
    front = take i all;
    cases = astray.cases;
    behind = drop (i + 1) all;
    split = sym is ∙ sym (take-append-drop i all)
        ∙ at_drop_more (λ (left : List Line). take i all ++ left) all i d within
        ∙ ap (λ (line : Line). take i all ++ line ∷ drop (i + 1) all) astray.is;
    fine = λ other are. All-weaker (LineIsFine catalog told) (LineAgrees catalog told other) (λ line agrees. agrees other are) (take i all) fine;
    first = subst (λ (line : Line). IsFirstFailure (λ other. LineAgrees catalog told other line) (open_lists told) txns) astray.is astray.first;
  }

  -- Where none doesn't, the report agrees.
  pub all-agreed : (all : List Line) → all ≡ told.items → All (LineIsFine catalog told) all → ReportAgrees catalog told
  all-agreed all is fine = λ txns are.
      subst (All (LineAgrees catalog told txns)) is (All-weaker (LineIsFine catalog told) (LineAgrees catalog told txns) (λ line agrees. agrees txns are) all fine)

  -- A line that prints an item agrees, or doesn't, as its cases and those of the run do.

  module _ (line : Line) (n : ℕ) (cases : List (Case ℤ)) (is : line ≡ Line.item n cases) (values : List (List (Case ℤ)))
      (after : AreAllValuesAfter catalog told (order_of told) values) where
    module _ (serial : List (Case ℤ)) (at : slice_get values n ≡ Some serial) where
      pub serial-open : NamesOnlyOpen told serial
      serial-open = names-only-open told catalog n serial (after.each n serial at)

      pub line-fine : AreSameForOpen told cases serial → LineIsFine catalog told line
      line-fine same = subst (LineIsFine catalog told) (sym is) (item-fine told catalog n serial (after.each n serial at) cases same)

      pub line-astray : (txns : List TxnId) → IsFirstList told cases serial txns → IsAstray catalog told line n txns
      line-astray txns found =
          subst (λ (l : Line). IsAstray catalog told l n txns) (sym is) (item-astray told catalog n serial (after.each n serial at) cases txns found)

  -- What the comparison of a report's items found is what is found of the report.
  pub judged : (number : ℕ) (found : Option Verdict) → CanBeRun catalog told
      → MatchOption found (ReportAgrees catalog told)
      (λ verdict. (item : ℕ) × (txns : List TxnId) × (verdict_of verdict ≡ model.at_report number (model.no_item item txns)) × IsFirstDisagreement catalog told item txns)
      → MatchOption found (IsFine catalog told) (λ verdict. (finding : model.Finding) × (verdict_of verdict ≡ model.at_report number finding) × IsFinding catalog told finding)
  judged number None can agrees = record { can = can; agrees = agrees }
  judged number (Some verdict) can found = (model.no_item found.0 found.1, found.2, (can, found.3))

  -- What is found of a part that is a report is what is found of that.
  pub counted : (old number : ℕ) (list : List Report) (found : Option Verdict) → list ≡ told ∷ [] → number ≡ old + 1
      → MatchOption found (IsFine catalog told) (λ verdict. (finding : model.Finding) × (verdict_of verdict ≡ model.at_report number finding) × IsFinding catalog told finding)
      → MatchOption found ((number ≡ old + length list) × All (IsFine catalog) list)
      (λ verdict. (report : Report) × (finding : model.Finding) × (list ≡ report ∷ []) × (verdict_of verdict ≡ model.at_report (old + 1) finding) × IsFinding catalog report finding)
  counted old number list None is next fine = (
    next ∙ ap (λ (l : List Report). old + length l) (sym is),
    subst (All (IsFine catalog)) (sym is) (All-cons (IsFine catalog) told [] fine (All-nil (IsFine catalog))),
  )
  counted old number list (Some verdict) is next found = (told, found.0, is, found.1 ∙ ap (λ (n : ℕ). model.at_report n found.0) next, found.2)

-- A claim on a report's lines holds of its items.
pub items-all : (P : Line → Type 0) (lines : List Line) (first second third : Line) (items : List Line) → lines ≡ first ∷ (second ∷ (third ∷ items)) → All P lines → All P items
items-all P lines first second third items is all =
    All-tail P third items (All-tail P second (third ∷ items) (All-tail P first (second ∷ (third ∷ items)) (subst (All P) is all)))
