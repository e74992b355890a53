-- A program may run, or is at fault in whatever line has its text.
use Rattle.std.proofs.Common.{sym, IfSome, subst}
use Rattle.std.proofs.lemmas.Result.{err_from_is_err_and}
use Rattle.pv_base.specs.Catalog.{Declared}
use Rattle.pv_model.specs.ProgramText.{IsProgramText, IsRefused}
use Rattle.pv_parse.specs.Refusals.{refusal_of}
use Rattle.pv_law_programs.proofs.DeclaredItems.{declared-items}
use Rattle.pv_law_programs.proofs.ItemLemmas.{some_items}
use Rattle.pv_script.specs.Said.{before_with}
use Rattle.pv_script.proofs.RequestLemmas.{IsLineFault-parse, IsLineFault-check, MayRun-read}
use Rattle.pv_script.proofs.ScheduleLemmas.{limited}
use Rattle.pv_script.proofs.said.Said.runnable.Goals as goal

pub returns-in_err-program-clause-fault : goal.returns-in_err-program-clause-fault
returns-in_err-program-clause-fault c = λ beside line is.
    let p = err_from_is_err_and c.from_residual.result c.from_residual.ensures.1 in
    rw (p.1, p.2)
    (IsLineFault-parse (before_with beside c.args.self.now) line c.args.query c.args.text.now is c.in_err-program.field-0.0
    (subst (λ (catalog : Declared). IfSome (refusal_of c.in_err-program.field-0.0) (IsRefused catalog c.args.text.now)) (sym (limited c.args.self.now c.requires)) c.in_err-program.ensures.answer.refused))

pub check-requires : goal.check-requires
check-requires c = declared-items c.args.self.now.catalog c.args.text.now c.in_ok-program.program c.in_ok-program.ensures.answer.given

pub returns-in_err-plan-clause-fault : goal.returns-in_err-plan-clause-fault
returns-in_err-plan-clause-fault c = λ beside line is.
    let p = err_from_is_err_and c.from_residual-in_err-plan.result c.from_residual-in_err-plan.ensures.1 in
    let items = some_items c.in_ok-program.program in
    rw (p.1, p.2)
    (IsLineFault-check (before_with beside c.args.self.now) line c.args.query c.args.text.now is c.in_ok-program.program
    (subst (λ (catalog : Declared). IsProgramText catalog c.args.text.now c.in_ok-program.program) (sym (limited c.args.self.now c.requires)) c.in_ok-program.ensures.answer.given)
    items.0 items.1 c.in_err-plan.field-0.0 (c.in_err-plan.ensures.refused items.0 items.1).refused)

pub returns-clause-program : goal.returns-clause-program
returns-clause-program c =
    let items = some_items c.in_ok-program.program in
    (c.in_ok-program.ensures.answer.given, MayRun-read c.in_ok-program.program c.args.query items.0 items.1 (c.in_ok-plan.ensures.refused items.0 items.1).accepted)
