-- The reports of parts that are gone through one by one.
use Rattle.std.proofs.Common.{◌≡◌, ℕ, ◌+◌, List, [], ◌∷◌, ◌++◌, refl, sym, ap, ◌∙◌, length}
use Rattle.std.specs.Prelude.{All}
use Rattle.std.proofs.lemmas.List.{append_assoc, append-nil}
use Rattle.pv_audit.specs.Findings.{Finding, IsFine, IsFinding, IsVerdict, all_agree, at_report}
use Rattle.pv_audit.specs.Reports.{Report, begun_by, report_in, reports, reports_after}
use Rattle.pv_audit.specs.Traces.{Trace, TracePart}
use Rattle.pv_model.specs.Serial.{Ordered}

-- the requests of parts that began transactions, behind others
abbrev pub begun_after : List Ordered → List TracePart → List Ordered
begun_after begun [] = begun
begun_after begun (part ∷ parts) = begun_after (begun ++ begun_by part.event part.lines) parts

pub begun-more : (begun : List Ordered) (parts : List TracePart) (part : TracePart)
    → begun_after begun (parts ++ part ∷ []) ≡ begun_after begun parts ++ begun_by part.event part.lines
begun-more begun [] part = refl
begun-more begun (first ∷ parts) part = begun-more (begun ++ begun_by first.event first.lines) parts part

reports-append : (begun : List Ordered) (front behind : List TracePart) → reports_after begun (front ++ behind) ≡ reports_after begun front ++ reports_after (begun_after begun front) behind
reports-append begun [] behind = refl
reports-append begun (part ∷ front) behind =
    ap (λ (rest : List Report). report_in begun part.event part.lines ++ rest) (reports-append (begun ++ begun_by part.event part.lines) front behind)
    ∙ sym (append_assoc (report_in begun part.event part.lines) (reports_after (begun ++ begun_by part.event part.lines) front) _)

pub reports-more : (parts : List TracePart) (part : TracePart)
    → reports_after [] (parts ++ part ∷ []) ≡ reports_after [] parts ++ report_in (begun_after [] parts) part.event part.lines
reports-more parts part =
    reports-append [] parts (part ∷ [])
    ∙ ap (λ (rest : List Report). reports_after [] parts ++ rest) (append-nil (report_in (begun_after [] parts) part.event part.lines))

-- A finding at the next part is the first one.
pub next-finding : (trace : Trace) (front behind : List TracePart) (part : TracePart) (told : Report) (found : Finding) (number : ℕ)
    → trace.parts ≡ front ++ part ∷ behind → report_in (begun_after [] front) part.event part.lines ≡ told ∷ [] → number ≡ length (reports_after [] front) + 1
    → All (IsFine trace.catalog) (reports_after [] front) → IsFinding trace.catalog told found → IsVerdict trace (at_report number found)
unfolding reports
next-finding trace front behind part told found number split is counted fine finding = record {
  front = reports_after [] front;
  told = told;
  behind = reports_after (begun_after [] front ++ begun_by part.event part.lines) behind;
  split = ap (reports_after []) split ∙ reports-append [] front (part ∷ behind)
      ∙ ap (λ (here : List Report). reports_after [] front ++ (here ++ reports_after (begun_after [] front ++ begun_by part.event part.lines) behind)) is;
  counted = counted;
  fine = fine;
  is = finding;
}

pub all-agree : (trace : Trace) (count : ℕ) → count ≡ length (reports_after [] trace.parts) → All (IsFine trace.catalog) (reports_after [] trace.parts) → IsVerdict trace (all_agree count)
unfolding reports
all-agree trace count is fine = (is, fine)
