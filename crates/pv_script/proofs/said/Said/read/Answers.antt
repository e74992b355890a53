-- A fault of a part of the line is one of the line.
use Rattle.std.proofs.Common.{refl, sym, inl, inr}
use Rattle.std.proofs.lemmas.Result.{err_from_is_err_and}
use Rattle.pv_script.specs.LineFaults.{texts}
use Rattle.pv_model.specs.LineForms.{scheduled}
use Rattle.pv_script.specs.Said.{nothing_beside, before_of}
use Rattle.pv_script.proofs.HeadLemmas.{IsLineFault-twice_sites, IsLineFault-command}
use Rattle.pv_script.proofs.SaidLemmas.{head-of, unknown-fault}
use Rattle.pv_script.proofs.said.Said.read.Goals as goal
use Rattle.pv_script.proofs.said.Said.read.Goals.{in-Journal+in_ok-limit-in-Journal, in-Item+in_ok-declare-in-Item}

pub returns-in_err-words-clause-fault : goal.returns-in_err-words-clause-fault
returns-in_err-words-clause-fault c =
    let p = err_from_is_err_and c.from_residual.result c.from_residual.ensures.1 in
    rw (p.1, p.2) (c.in_err-words.ensures.fault (before_of c.args.self.now) refl)

pub returns-in_err-keyword-clause-fault : goal.returns-in_err-keyword-clause-fault
returns-in_err-keyword-clause-fault c =
    let p = err_from_is_err_and c.from_residual-in_err-keyword.result c.from_residual-in_err-keyword.ensures.1 in
    rw (p.1, p.2)
    (unknown-fault (before_of c.args.self.now) c.args.line.now c.in_ok-words.words.items c.deref.result.now c.args.self.now.catalog.sites c.in_err-keyword.field-0.0
    c.in_ok-words.ensures.words.0 c.in_ok-words.ensures.words.1 c.deref.ensures.value refl c.in_err-keyword.ensures.unknown)

pub returns-in-Sites-clause-fault : goal.returns-in-Sites-clause-fault
returns-in-Sites-clause-fault c =
    IsLineFault-twice_sites (before_of c.args.self.now) c.args.line.now (texts c.in_ok-keyword.args.now)
    (head-of (before_of c.args.self.now) c.args.line.now c.in_ok-words.words.items c.deref.result.now _ (texts c.in_ok-keyword.args.now) c.args.self.now.catalog.sites
    c.in_ok-words.ensures.words.0 c.in_ok-words.ensures.words.1 c.deref.ensures.value (rw c.in-Sites.is at c.in_ok-keyword.ensures.words) refl)

pub returns-in_err-limit-in-Journal-clause-fault : goal.returns-in_err-limit-in-Journal-clause-fault
returns-in_err-limit-in-Journal-clause-fault c =
    let p = err_from_is_err_and c.from_residual-in_err-limit-in-Journal.result c.from_residual-in_err-limit-in-Journal.ensures.1 in
    rw (p.1, p.2)
    (c.in_err-limit-in-Journal.ensures.fault (nothing_beside scheduled) c.args.line.now
    (head-of (before_of c.args.self.now) c.args.line.now c.in_ok-words.words.items c.deref.result.now _ (texts c.in_ok-keyword.args.now) c.args.self.now.catalog.sites
    c.in_ok-words.ensures.words.0 c.in_ok-words.ensures.words.1 c.deref.ensures.value (rw c.in-Journal.is at c.in_ok-keyword.ensures.words) refl))

pub returns-in_err-declare-in-Item-clause-fault : goal.returns-in_err-declare-in-Item-clause-fault
returns-in_err-declare-in-Item-clause-fault c =
    let p = err_from_is_err_and c.from_residual-in_err-declare-in-Item.result c.from_residual-in_err-declare-in-Item.ensures.1 in
    rw (p.1, p.2)
    (c.in_err-declare-in-Item.ensures.fault (nothing_beside scheduled) c.args.line.now
    (head-of (before_of c.args.self.now) c.args.line.now c.in_ok-words.words.items c.deref.result.now _ (texts c.in_ok-keyword.args.now) c.args.self.now.catalog.sites
    c.in_ok-words.ensures.words.0 c.in_ok-words.ensures.words.1 c.deref.ensures.value (rw c.in-Item.is at c.in_ok-keyword.ensures.words) refl))

pub returns-in_err-event-in-Command-clause-fault : goal.returns-in_err-event-in-Command-clause-fault
returns-in_err-event-in-Command-clause-fault c =
    let p = err_from_is_err_and c.from_residual-in_err-event-in-Command.result c.from_residual-in_err-event-in-Command.ensures.1 in
    rw (p.1, p.2)
    (IsLineFault-command (before_of c.args.self.now) c.args.line.now c.sites.result c.in-Command.command (texts c.in_ok-keyword.args.now) c.in_err-event-in-Command.field-0.0 refl
    (head-of (before_of c.args.self.now) c.args.line.now c.in_ok-words.words.items c.deref.result.now _ (texts c.in_ok-keyword.args.now) c.args.self.now.catalog.sites
    c.in_ok-words.ensures.words.0 c.in_ok-words.ensures.words.1 c.deref.ensures.value (rw c.in-Command.is at c.in_ok-keyword.ensures.words) refl)
    (sym c.sites.ensures.count) c.in_err-event-in-Command.ensures.fault)

pub returns-in-Command-clause-plan : goal.returns-in-Command-clause-plan
returns-in-Command-clause-plan c = c.in_ok-event-in-Command.ensures.plan c.args.self.now.catalog

pub returns-clause-declares : goal.returns-clause-declares
returns-clause-declares c =
    elim c.match-keyword.branch [
      | in-Journal+in_ok-limit-in-Journal w ↦
          rw w.self-is (inr (inl (w.in_ok-limit-in-Journal.ensures.declares (nothing_beside scheduled) c.args.line.now
          (head-of (before_of c.args.self.now) c.args.line.now c.in_ok-words.words.items c.deref.result.now _ (texts c.in_ok-keyword.args.now) c.args.self.now.catalog.sites
          c.in_ok-words.ensures.words.0 c.in_ok-words.ensures.words.1 c.deref.ensures.value (rw w.in-Journal.is at c.in_ok-keyword.ensures.words) refl))))
      | in-Item+in_ok-declare-in-Item w ↦
          rw w.self-is (inr (inr (inl (w.in_ok-declare-in-Item.ensures.declares (nothing_beside scheduled) c.args.line.now
          (head-of (before_of c.args.self.now) c.args.line.now c.in_ok-words.words.items c.deref.result.now _ (texts c.in_ok-keyword.args.now) c.args.self.now.catalog.sites
          c.in_ok-words.ensures.words.0 c.in_ok-words.ensures.words.1 c.deref.ensures.value (rw w.in-Item.is at c.in_ok-keyword.ensures.words) refl)))))
    ]
