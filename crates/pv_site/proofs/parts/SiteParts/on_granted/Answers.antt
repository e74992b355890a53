-- A grant that is ignored, and one for which others are awaited.
use Rattle.std.proofs.Common.{◌≡◌, ◌∙◌, None, ap, map, subst, sym}
use Rattle.pv_coord.specs.Answers.{arrival, arrival_of, last, program_of}
use Rattle.pv_coord.specs.Coordinator.{CoordMemory, Grants, locking_work, taking}
use Rattle.pv_protocol.specs.State.{Taken}
use Rattle.pv_site.proofs.Answered.{keeping-nothing}
use Rattle.pv_site.proofs.GrantSteps.{ignored-nothing, same-last, waits-step}
use Rattle.pv_site.proofs.Tied.{kept-same}
use Rattle.pv_site.specs.Values.{note_of, outgoing_of}
use Rattle.pv_site.proofs.parts.SiteParts.on_granted.Goals as goal

pub returns-in-Ignored : goal.returns-in-Ignored
returns-in-Ignored c =
    let parts = c.args.self.now in
    let new : Taken = record { site = c.args.from.0; grant = c.args.grant; values = c.args.values.now } in
    keeping-nothing parts (record parts { coord = c.plan_granted.new.self })
    (kept-same parts c.requires.tied c.plan_granted.new.self (ap (λ (memory : CoordMemory). memory.contents) c.in_ok-plan_granted.ensures.unchanged))
    c.nothing.result _ (record { sends = c.nothing.ensures.sends; notes = c.nothing.ensures.notes; locked = c.nothing.ensures.locked })
    (ignored-nothing parts c.requires.tied c.args.txn new (sym c.in_ok-plan_granted.ensures.answer ∙ ap (arrival_of (program_of (locking_work parts.coord.contents c.args.txn))) c.in-Ignored.is))

pub returns-in-Wait : goal.returns-in-Wait
returns-in-Wait c =
    let parts = c.args.self.now in
    let new : Taken = record { site = c.args.from.0; grant = c.args.grant; values = c.args.values.now } in
    waits-step parts c.requires.tied c.args.txn new c.apply_granted.new.self c.nothing-in-Wait.result c.in-Wait.change
    (sym c.in_ok-plan_granted.ensures.answer ∙ ap (arrival_of (program_of (locking_work parts.coord.contents c.args.txn))) c.in-Wait.is)
    (ap (λ (memory : CoordMemory). memory.contents) c.apply_granted.ensures
    ∙ ap (λ (memory : CoordMemory). taking memory.contents c.in-Wait.change None) c.in_ok-plan_granted.ensures.unchanged)
    (ap (map outgoing_of) c.nothing-in-Wait.ensures.sends) (ap (map note_of) c.nothing-in-Wait.ensures.notes) c.nothing-in-Wait.ensures.locked

pub on_last_grant-requires-clause-last : goal.on_last_grant-requires-clause-last
on_last_grant-requires-clause-last c =
    let grants : Grants = record { txn = c.args.txn; taken = record { site = c.args.from.0; grant = c.args.grant; values = c.args.values.now } } in
    let program = program_of (locking_work c.args.self.now.coord.contents c.args.txn) in
    subst (λ (memory : CoordMemory). arrival (locking_work memory.contents c.args.txn) c.in-Last.change
    ≡ last c.in-Last.reads.items (program_of (locking_work memory.contents c.args.txn)) c.in-Last.change)
    (sym c.in_ok-plan_granted.ensures.unchanged)
    (same-last (locking_work c.args.self.now.coord.contents c.args.txn) grants c.in-Last.change c.in-Last.reads.items program
    (sym c.in_ok-plan_granted.ensures.answer ∙ ap (arrival_of program) c.in-Last.is))
