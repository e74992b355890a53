-- What the step comes to, by its answer.
use Rattle.std.proofs.Common.{ℕ, Err, subst, sym}
use Rattle.pv_ckpt.specs.CkptModel.{ckpt_model}
use Rattle.pv_disk.specs.MemLaws.{mem_model}
use Rattle.pv_law_quorum.specs.Decider.{Answer}
use Rattle.pv_quorum.specs.DeciderState.{IsInput}
use Rattle.pv_quorum.specs.Steps.{Breaks, HasMade, Steps}
use Rattle.pv_quorum.specs.Values.{input_of}
use Rattle.pv_quorum.specs.declared.error.QuorumError.{QuorumError}
use Rattle.pv_quorum_run.proofs.CellLemmas.{here, same-answer, stepped-fallen, stepped-made}
use Rattle.pv_quorum_run.proofs.cell.up_step.Goals as goal

pub step-requires-clause-ready : goal.step-requires-clause-ready
step-requires-clause-ready c = c.requires.seat.3.ready

pub step-requires-clause-input : goal.step-requires-clause-input
step-requires-clause-input c =
    subst (λ (me : ℕ). IsInput me c.args.up.count c.args.input.now) (sym c.requires.seat.3.me_is)
    (subst (λ (count : ℕ). IsInput c.requires.seat.1 count c.args.input.now) (sym c.requires.seat.3.count_is) c.requires.seat.4)

pub returns-in-Ok : goal.returns-in-Ok
returns-in-Ok c = λ count me seat is.
    let input = input_of c.args.input.now in
    stepped-made count me c.args.up seat is input c.appends_to_moored_logs.ensures c.armed_logs.ensures.intact c.step.new.self c.in-Ok.step c.in-Ok.ensures.me c.in-Ok.ensures.count
    c.in-Ok.ensures.ready
    (subst (λ (answer : Answer). HasMade (ckpt_model mem_model) c.args.up c.step.new.self (here count me c.args.up seat is input) c.in-Ok.step answer) (same-answer count me c.args.up seat is input)
    (c.in-Ok.ensures.step (here count me c.args.up seat is input) is.stands))

pub returns-in-Err-Fault : goal.returns-in-Err-Fault
returns-in-Err-Fault c = λ count me seat is.
    let input = input_of c.args.input.now in
    stepped-fallen count me c.args.up seat is input c.appends_to_moored_logs.ensures c.step.new.self
    (subst (λ (answer : Answer). Breaks (ckpt_model mem_model) c.args.up c.step.new.self answer.appended) (same-answer count me c.args.up seat is input)
    (subst (λ (e : QuorumError). Steps (ckpt_model mem_model) c.args.up c.step.new.self (here count me c.args.up seat is input) input (Err e)) c.in-Err-Fault.field-0-is
    (c.in-Err-Fault.ensures.step (here count me c.args.up seat is input) is.stands)))
    c.fallen.result c.fallen.ensures

pub unreachable-requires : goal.unreachable-requires
unreachable-requires c =
    let input = input_of c.args.input.now in
    subst (λ (e : QuorumError). Steps (ckpt_model mem_model) c.args.up c.step.new.self (here c.requires.seat.0 c.requires.seat.1 c.args.up c.requires.seat.2 c.requires.seat.3 input) input (Err e)) c.in-Err-Down.field-0-is
    (c.in-Err-Down.ensures.step (here c.requires.seat.0 c.requires.seat.1 c.args.up c.requires.seat.2 c.requires.seat.3 input) c.requires.seat.3.stands)
