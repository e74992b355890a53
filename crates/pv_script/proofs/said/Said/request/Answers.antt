-- A request has a site, and a program that may run.
use Rattle.std.proofs.Common.{refl, sym, [], get_or, arith, subst}
use Rattle.std.proofs.lemmas.Result.{err_from_is_err_and}
use Rattle.pv_base.specs.Catalog.{Declared}
use Rattle.pv_model.specs.LineForms.{scheduled}
use Rattle.pv_model.specs.ProgramText.{IsProgramText}
use Rattle.pv_script.specs.LineFaults.{texts}
use Rattle.pv_script.specs.Said.{nothing_beside, before_of}
use Rattle.pv_script.proofs.RequestLemmas.{IsLineFault-short, IsLineFault-away, request-line, program-line, IsRequest-read}
use Rattle.pv_script.proofs.ScheduleLemmas.{limited}
use Rattle.pv_script.proofs.said.Said.request.Goals as goal

pub returns-in_default-clause-fault : goal.returns-in_default-clause-fault
returns-in_default-clause-fault c = IsLineFault-short (before_of c.args.self.now) c.args.line.now c.args.query c.args.args.now refl c.requires.head c.in_default.len_below

pub returns-in_default-site_in-clause-fault : goal.returns-in_default-site_in-clause-fault
returns-in_default-site_in-clause-fault c =
    IsLineFault-away (before_of c.args.self.now) c.args.line.now c.args.query c.args.args.now (record { ref_ptr = (0, 0); now = [] }) refl c.requires.head c.in-len2-up.len_at_least (rw c.sites.ensures.count at c.in_default-site_in.ensures.none)

pub returns-in_err-found-clause-fault : goal.returns-in_err-found-clause-fault
returns-in_err-found-clause-fault c =
    let p = err_from_is_err_and c.from_residual.result c.from_residual.ensures.1 in
    let short = c.requires.head.text.short in
    let shorter = c.program_text.ensures.shorter in
    rw (p.1, p.2)
    (c.in_err-found.ensures.fault (nothing_beside scheduled) c.args.line.now
    (program-line (before_of c.args.self.now) c.args.line.now c.args.query (texts c.args.args.now) (get_or c.args.args.now 0 (record { ref_ptr = (0, 0); now = [] })).now c.program_text.result.now c.in-Some.site.0
    (request-line (before_of c.args.self.now) c.args.line.now c.args.query c.args.args.now (record { ref_ptr = (0, 0); now = [] }) c.program_text.result.now c.in-Some.site.0 c.sites.result refl c.requires.head c.in-len2-up.len_at_least c.program_text.ensures.text c.in-Some.ensures.site.0 c.in-Some.ensures.site.1 c.sites.ensures.count)
    (omega arith)))

pub returns-clause-event : goal.returns-clause-event
returns-clause-event c =
    rw c.in_ok-found.ensures.text
    (IsRequest-read (before_of c.args.self.now) c.args.line.now c.args.query (texts c.args.args.now) (get_or c.args.args.now 0 (record { ref_ptr = (0, 0); now = [] })).now c.program_text.result.now c.in-Some.site.0
    c.in_ok-found.found.program
    (request-line (before_of c.args.self.now) c.args.line.now c.args.query c.args.args.now (record { ref_ptr = (0, 0); now = [] }) c.program_text.result.now c.in-Some.site.0 c.sites.result refl c.requires.head c.in-len2-up.len_at_least c.program_text.ensures.text c.in-Some.ensures.site.0 c.in-Some.ensures.site.1 c.sites.ensures.count)
    (subst (λ (catalog : Declared). IsProgramText catalog c.program_text.result.now c.in_ok-found.found.program) (sym (limited c.args.self.now c.requires.limited)) c.in_ok-found.ensures.program.0)
    c.in_ok-found.ensures.program.1)
