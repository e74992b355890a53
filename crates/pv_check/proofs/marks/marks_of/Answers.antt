-- Reading the program marks a table without marks.
use Rattle.std.proofs.Common.{List, sym, subst}
use Rattle.pv_base.specs.declared.limits.TheConstants.{MAX_ITEMS}
use Rattle.pv_check.specs.declared.marks.Mark.{Mark}
use Rattle.pv_check.specs.Marks.{AreMarks}
use Rattle.pv_check.proofs.MarkLemmas.{AreMarks-fresh}
use Rattle.pv_check.proofs.marks.marks_of.Goals as goal

pub returns : goal.returns
returns c =
    subst (λ (marks : List Mark). AreMarks c.args.program.now marks) (sym c.mark_program.ensures)
    (AreMarks-fresh c.args.program.now MAX_ITEMS c.requires)
