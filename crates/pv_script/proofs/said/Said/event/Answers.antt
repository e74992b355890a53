-- A fault of a part of the line is one of the line.
use Rattle.std.proofs.Common.{refl, sym}
use Rattle.std.proofs.lemmas.Result.{err_from_is_err_and}
use Rattle.pv_script.specs.LineFaults.{texts}
use Rattle.pv_script.specs.Said.{before_of}
use Rattle.pv_script.proofs.HeadLemmas.{IsLineFault-twice_sites, IsLineFault-command}
use Rattle.pv_script.proofs.SaidLemmas.{head-of, unknown-fault}
use Rattle.pv_script.proofs.said.Said.event.Goals as goal

pub returns-in_err-words-clause-fault : goal.returns-in_err-words-clause-fault
returns-in_err-words-clause-fault c =
    let p = err_from_is_err_and c.from_residual.result c.from_residual.ensures.1 in
    rw (p.1, p.2) (c.in_err-words.ensures.fault (before_of c.args.self.now) refl)

pub returns-in_err-keyword-clause-fault : goal.returns-in_err-keyword-clause-fault
returns-in_err-keyword-clause-fault c =
    let p = err_from_is_err_and c.from_residual-in_err-keyword.result c.from_residual-in_err-keyword.ensures.1 in
    rw (p.1, p.2)
    (unknown-fault (before_of c.args.self.now) c.args.line.now c.in_ok-words.words.items c.deref.result.now c.args.self.now.catalog.sites c.in_err-keyword.field-0.0
    c.in_ok-words.ensures.words.0 c.in_ok-words.ensures.words.1 c.deref.ensures.value refl c.in_err-keyword.ensures.unknown)

pub returns-in-Sites-clause-fault : goal.returns-in-Sites-clause-fault
returns-in-Sites-clause-fault c =
    IsLineFault-twice_sites (before_of c.args.self.now) c.args.line.now (texts c.in_ok-keyword.args.now)
    (head-of (before_of c.args.self.now) c.args.line.now c.in_ok-words.words.items c.deref.result.now _ (texts c.in_ok-keyword.args.now) c.args.self.now.catalog.sites
    c.in_ok-words.ensures.words.0 c.in_ok-words.ensures.words.1 c.deref.ensures.value (rw c.in-Sites.is at c.in_ok-keyword.ensures.words) refl)

pub returns-in_err-event_in-in-Command-clause-fault : goal.returns-in_err-event_in-in-Command-clause-fault
returns-in_err-event_in-in-Command-clause-fault c =
    let p = err_from_is_err_and c.from_residual-in_err-event_in-in-Command.result c.from_residual-in_err-event_in-in-Command.ensures.1 in
    rw (p.1, p.2)
    (IsLineFault-command (before_of c.args.self.now) c.args.line.now c.sites.result c.in-Command.command (texts c.in_ok-keyword.args.now) c.in_err-event_in-in-Command.field-0.0 refl
    (head-of (before_of c.args.self.now) c.args.line.now c.in_ok-words.words.items c.deref.result.now _ (texts c.in_ok-keyword.args.now) c.args.self.now.catalog.sites
    c.in_ok-words.ensures.words.0 c.in_ok-words.ensures.words.1 c.deref.ensures.value (rw c.in-Command.is at c.in_ok-keyword.ensures.words) refl)
    (sym c.sites.ensures.count) c.in_err-event_in-in-Command.ensures.fault)

pub returns-clause-plan : goal.returns-clause-plan
returns-clause-plan c = c.in_ok-event_in-in-Command.ensures.plan c.args.self.now.catalog
