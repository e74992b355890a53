-- The lines of a report's items are among those of the part, and what is found of the report is found of the part.
use Rattle.std.proofs.Common.{length, map, refl}
use Rattle.std.proofs.lemmas.Result.{IfOk-weaker}
use Rattle.pv_audit.specs.Differences.{HasPolyvalue, IsItemOf}
use Rattle.pv_audit.specs.ToldView.{report_of}
use Rattle.pv_audit.proofs.AuditLemmas.{counted, items-all}
use Rattle.pv_script.specs.LineView.{line_of}
use Rattle.pv_audit.proofs.auditing.audit_part.Goals as goal

pub audit_one-requires-clause-items : goal.audit_one-requires-clause-items
audit_one-requires-clause-items c =
    items-all (IsItemOf (length c.args.catalog.now.items)) _ _ _ _ (map line_of c.in-Some.head.items.now) c.in-Some.ensures.lines c.requires.items

pub audit_one-requires-clause-polyvalues : goal.audit_one-requires-clause-polyvalues
audit_one-requires-clause-polyvalues c =
    items-all HasPolyvalue _ _ _ _ (map line_of c.in-Some.head.items.now) c.in-Some.ensures.lines c.requires.polyvalues

pub returns : goal.returns
returns c = λ requests first.
    IfOk-weaker c.audit_one.result _ _
    (λ found judged. counted c.args.catalog.now (report_of requests c.in-Some.head) _ _ _ found (c.in-Some.ensures.report requests) refl judged)
    (c.audit_one.ensures requests first)
