-- A request has a client before it, which may ask for more, and a program that may run.
use Rattle.std.proofs.Common.{refl, ap, sym, ◌∙◌, length, map, arith, eqb-true, subst, List}
use Rattle.std.proofs.lemmas.Result.{err_from_is_err_and}
use Rattle.pv_base.specs.Catalog.{Declared}
use Rattle.pv_model.specs.LiveScript.{Client}
use Rattle.pv_model.specs.ProgramText.{IsProgramText}
use Rattle.pv_script.specs.LiveSaid.{beside_of, before_of_live}
use Rattle.pv_script.specs.LiveView.{client_of, request_of}
use Rattle.pv_script.specs.declared.live.Request.{Request}
use Rattle.pv_script.proofs.LiveRequestLemmas.{IsLineFault-empty, IsLineFault-number, asked-line, DeclaresRequest-read}
use Rattle.pv_script.proofs.LiveSaidLemmas.{some-args, on-ok}
use Rattle.pv_script.proofs.ScheduleLemmas.{limited}
use Rattle.pv_script.proofs.live_said.LiveSaid.request.Goals as goal

pub returns-then-is_empty-clause-fault : goal.returns-then-is_empty-clause-fault
returns-then-is_empty-clause-fault c =
    let none = eqb-true (length c.args.args.now) 0 (sym c.is_empty.ensures ∙ c.if-is_empty.true) in
    IsLineFault-empty (before_of_live c.args.self.now) c.args.line.now c.args.query c.args.args.now refl c.requires.head (omega (arith, none))

pub returns-in_err-number-clause-fault : goal.returns-in_err-number-clause-fault
returns-in_err-number-clause-fault c =
    let p = err_from_is_err_and c.from_residual.result c.from_residual.ensures.1 in
    rw (p.1, p.2)
    (IsLineFault-number (before_of_live c.args.self.now) c.args.line.now c.args.query c.args.args.now refl c.requires.head
    (some-args c.args.args.now c.is_empty.result c.is_empty.ensures c.if-is_empty.false) c.in_err-number.field-0.0
    (rw c.deref.ensures.value at c.in_err-number.ensures.fault))

pub returns-in_err-found-clause-fault : goal.returns-in_err-found-clause-fault
returns-in_err-found-clause-fault c =
    let p = err_from_is_err_and c.from_residual-in_err-found.result c.from_residual-in_err-found.ensures.1 in
    let short = c.requires.head.text.short in
    let shorter = rw c.live_program_text.ensures.text at c.live_program_text.ensures.shorter in
    let client = rw c.deref.ensures.value at c.in_ok-number.ensures.some in
    let number = rw c.deref.ensures.value at c.in_ok-number.ensures.number in
    rw (p.1, p.2)
    (c.in_err-found.ensures.fault (beside_of c.args.self.now) c.args.line.now
    (rw c.live_program_text.ensures.text
    (asked-line (before_of_live c.args.self.now) c.args.line.now c.args.query c.args.args.now refl c.requires.head
    (some-args c.args.args.now c.is_empty.result c.is_empty.ensures c.if-is_empty.false) client
    (omega (arith, number, c.in_ok-number.ensures.room)) (omega (arith, short, shorter)))))

pub returns-clause-declares : goal.returns-clause-declares
returns-clause-declares c =
    let client = rw c.deref.ensures.value at c.in_ok-number.ensures.some in
    let number = rw c.deref.ensures.value at c.in_ok-number.ensures.number in
    let request : Request = record {
      number = c.in_ok-number.number;
      query = c.args.query;
      text = c.in_ok-found.found.text;
      program = c.in_ok-found.found.program;
      plan = c.in_ok-found.found.plan;
    } in
    on-ok c.push_wish.result c.push_wish.ensures.clients
    (λ same. DeclaresRequest-read (before_of_live c.args.self.now) _ c.args.line.now c.args.args.now (request_of request) refl c.requires.head
    (some-args c.args.args.now c.is_empty.result c.is_empty.ensures c.if-is_empty.false)
    (c.in_ok-found.ensures.text ∙ c.live_program_text.ensures.text) client number
    (omega (arith, number, c.in_ok-number.ensures.room))
    (rw c.in_ok-found.ensures.text (subst (λ (catalog : Declared). IsProgramText catalog c.live_program_text.result.now c.in_ok-found.found.program) (sym (limited c.args.self.now.said c.requires.sound.limited)) c.in_ok-found.ensures.program.0))
    c.in_ok-found.ensures.program.1
    (ap (λ (clients : List Client). record (before_of_live c.args.self.now) { clients = clients }) same))

pub returns-clause-sound : goal.returns-clause-sound
returns-clause-sound c =
    let client = rw c.deref.ensures.value at c.in_ok-number.ensures.some in
    on-ok c.push_wish.result (c.push_wish.ensures.plans c.args.self.now.said.catalog c.requires.sound.plans c.in_ok-found.ensures.plan)
    (λ plans. record {
      limited = c.requires.sound.limited;
      early = λ quiet. absurd (client (ap (map client_of) (c.requires.sound.early quiet)));
      plans = plans;
    })
