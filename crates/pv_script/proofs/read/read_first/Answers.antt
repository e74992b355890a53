-- The first line has to be the count of sites, and there has to be one.
use Rattle.std.proofs.Common.{ap, sym, ◌∙◌}
use Rattle.pv_script.specs.LinesLeft.{LinesLeft}
use Rattle.pv_script.specs.ScriptKinds.{script_of}
use Rattle.pv_script.proofs.FaultLemmas.{refuses-first, lacks-sites}
use Rattle.pv_script.proofs.read.read_first.Goals as goal

pub returns-in_default-clause-fault : goal.returns-in_default-clause-fault
returns-in_default-clause-fault c = λ text same.
    lacks-sites (script_of c.args.script) text c.after_last.result
    (sym (ap (λ (left : LinesLeft). left.numbered) same) ∙ c.in_default.ensures.none)
    (c.after_last.ensures ∙ c.in_default.ensures.after_last ∙ ap (λ (left : LinesLeft). left.after_last) same)

pub returns-in-Err-clause-fault : goal.returns-in-Err-clause-fault
returns-in-Err-clause-fault c = λ text same.
    rw c.at.ensures
    (refuses-first (script_of c.args.script) text c.in-Some.line.number c.in-Some.line.text.now c.next.new.self.numbered c.in-Err.fault
    (sym (ap (λ (left : LinesLeft). left.numbered) same) ∙ c.in-Some.ensures.some) c.in-Err.ensures.fault)
