-- A broken line is none of a report.
use Rattle.std.proofs.Common.{sym, ◌∙◌, map}
use Rattle.pv_script.specs.LineView.{line_of}
use Rattle.pv_audit.proofs.BelowLemmas.{broken-report, forms-report}
use Rattle.pv_audit.proofs.below.Below.is_report.Goals as goal

pub returns-then-is_some : goal.returns-then-is_some
returns-then-is_some c = λ lines are.
    broken-report c.args.catalog.now lines (map line_of c.args.self.now.lines.items) c.args.self.now.broken c.args.self.now.more (sym c.is_some.ensures ∙ c.if-is_some.true) are

pub returns : goal.returns
returns c = λ lines are.
    forms-report c.args.catalog.now lines (map line_of c.args.self.now.lines.items) c.args.self.now.broken c.args.self.now.more c.is_report.result c.requires.named
    (sym c.is_some.ensures ∙ c.if-is_some.false) (rw c.deref.ensures.value at c.is_report.ensures) are
