-- The last grant.
use Rattle.std.proofs.Common.{◌∙◌, ℕ, List, None, Some, ap, map, refl, subst, sym}
use Rattle.std.specs.Prelude.{IfSome}
use Rattle.pv_coord.specs.Answers.{arrival, last, program_of}
use Rattle.pv_coord.specs.Coordinator.{CoordMemory, Grants, locking_work, taking}
use Rattle.pv_coord.specs.Work.{Work, grant_from}
use Rattle.pv_model.specs.Alternatives.{Read}
use Rattle.pv_model.specs.Syntax.{Program}
use Rattle.pv_protocol.specs.Coordinate.{is_locking}
use Rattle.pv_protocol.specs.State as state
use Rattle.pv_protocol.specs.Here.{refusing}
use Rattle.pv_protocol.specs.State.{Taken, outcome_limit}
use Rattle.pv_site.proofs.GrantSteps.{is-last, last-apart, last-doubted, last-locked, last-reads, last-refused}
use Rattle.pv_site.proofs.Refused.{entry-found}
use Rattle.pv_site.specs.Doubts.{least_from}
use Rattle.pv_site.specs.LockPoint.{IsTooMany}
use Rattle.pv_site.specs.SiteParts.{StepParts, here_of}
use Rattle.pv_site.specs.Shares.{prepares}
use Rattle.pv_site.specs.Values.{note_of}
use Rattle.pv_split.specs.Splitting.{count_of}
use Rattle.pv_split.specs.declared.joining.SplitError.{SplitError}
use Rattle.pv_site.proofs.parts.SiteParts.on_last_grant.Goals as goal

pub program_at-program-requires : goal.program_at-program-requires
program_at-program-requires c =
    let parts = c.args.self.now in
    let new : Taken = record { site = c.args.from.0; grant = c.args.grant; values = c.args.change.taken.values } in
    let is = is-last parts c.requires.sound.tied c.args.txn new c.args.reads.items (program_of (locking_work parts.coord.contents c.args.txn)) c.args.change
    (ap (arrival (locking_work parts.coord.contents c.args.txn)) (sym c.requires.change) ∙ c.requires.last) in
    (is.taken.work, is.taken.found)

pub computed-requires-clause-apart : goal.computed-requires-clause-apart
computed-requires-clause-apart c =
    let parts = c.args.self.now in
    let new : Taken = record { site = c.args.from.0; grant = c.args.grant; values = c.args.change.taken.values } in
    let is = is-last parts c.requires.sound.tied c.args.txn new c.args.reads.items c.program_at-program.result.now c.args.change
    (ap (arrival (locking_work parts.coord.contents c.args.txn)) (sym c.requires.change)
    ∙ c.requires.last ∙ ap (λ (program : Program). last c.args.reads.items program c.args.change) (sym c.program_at-program.ensures)) in
    last-apart parts c.requires.sound.tied c.args.txn new c.args.reads.items c.program_at-program.result.now is c.requires.sound

pub computed-requires-clause-items : goal.computed-requires-clause-items
computed-requires-clause-items c =
    let parts = c.args.self.now in
    let new : Taken = record { site = c.args.from.0; grant = c.args.grant; values = c.args.change.taken.values } in
    let is = is-last parts c.requires.sound.tied c.args.txn new c.args.reads.items c.program_at-program.result.now c.args.change
    (ap (arrival (locking_work parts.coord.contents c.args.txn)) (sym c.requires.change)
    ∙ c.requires.last ∙ ap (λ (program : Program). last c.args.reads.items program c.args.change) (sym c.program_at-program.ensures)) in
    last-reads parts c.requires.sound.tied c.args.txn new c.args.reads.items c.program_at-program.result.now is c.requires.sound

pub returns-in-Err-OutcomeLimit : goal.returns-in-Err-OutcomeLimit
returns-in-Err-OutcomeLimit c =
    let parts = c.args.self.now in
    let new : Taken = record { site = c.args.from.0; grant = c.args.grant; values = c.args.change.taken.values } in
    let is = is-last parts c.requires.sound.tied c.args.txn new c.args.reads.items c.program_at-program.result.now c.args.change
    (ap (arrival (locking_work parts.coord.contents c.args.txn)) (sym c.requires.change)
    ∙ c.requires.last ∙ ap (λ (program : Program). last c.args.reads.items program c.args.change) (sym c.program_at-program.ensures)) in
    let many : IsTooMany c.args.reads.items c.in-Err-OutcomeLimit.names =
    subst (λ (e : SplitError). IfSome (count_of e) (IsTooMany c.args.reads.items)) c.in-Err-OutcomeLimit.field-0-is c.in-Err-OutcomeLimit.ensures.refused in
    subst (λ (step : state.Step). StepParts parts c.refuse.new.self step c.refuse.result)
    (sym (last-refused parts c.requires.sound.tied c.args.txn new c.args.reads.items c.program_at-program.result.now is c.in-Err-OutcomeLimit.names many))
    (subst (λ (count : ℕ). StepParts parts c.refuse.new.self (refusing (here_of parts) is.taken.work.entry (outcome_limit count)) c.refuse.result)
    c.in-Err-OutcomeLimit.names-is
    (c.refuse.ensures is.taken.work.entry
    (entry-found parts c.requires.sound.tied (λ (w : Work). is_locking w.entry.stage) c.args.txn is.taken.work is.taken.found)))

pub returns-in-Some : goal.returns-in-Some
returns-in-Some c =
    let parts = c.args.self.now in
    let new : Taken = record { site = c.args.from.0; grant = c.args.grant; values = c.args.change.taken.values } in
    let is = is-last parts c.requires.sound.tied c.args.txn new c.args.reads.items c.program_at-program.result.now c.args.change
    (ap (arrival (locking_work parts.coord.contents c.args.txn)) (sym c.requires.change)
    ∙ c.requires.last ∙ ap (λ (program : Program). last c.args.reads.items program c.args.change) (sym c.program_at-program.ensures)) in
    subst (λ (step : state.Step). StepParts parts c.refuse-in-Some.new.self step c.refuse-in-Some.result)
    (sym (last-doubted parts c.requires.sound.tied c.args.txn new c.args.reads.items c.program_at-program.result.now is c.requires.sound c.in_ok-first.first
    c.in-Some.doubt c.in-Ok.joined.writes.items c.in-Ok.joined.reply c.in-Ok.ensures.computed (c.in_ok-first.ensures ∙ ap (λ (some : List Read). least_from parts.store.records c.program_at-program.result.now None some) c.deref.ensures.value) c.in-Some.is))
    (c.refuse-in-Some.ensures is.taken.work.entry
    (entry-found parts c.requires.sound.tied (λ (w : Work). is_locking w.entry.stage) c.args.txn is.taken.work is.taken.found))

pub returns : goal.returns
returns c =
    let parts = c.args.self.now in
    let new : Taken = record { site = c.args.from.0; grant = c.args.grant; values = c.args.change.taken.values } in
    let is = is-last parts c.requires.sound.tied c.args.txn new c.args.reads.items c.program_at-program.result.now c.args.change
    (ap (arrival (locking_work parts.coord.contents c.args.txn)) (sym c.requires.change)
    ∙ c.requires.last ∙ ap (λ (program : Program). last c.args.reads.items program c.args.change) (sym c.program_at-program.ensures)) in
    last-locked parts c.requires.sound.tied c.args.txn new c.args.reads.items c.program_at-program.result.now is c.requires.sound c.apply_granted.new.self _
    c.in-Ok.joined.writes.items c.in-Ok.joined.reply c.in_ok-first.first c.in-Ok.ensures.computed
    (c.in_ok-first.ensures ∙ ap (λ (some : List Read). least_from parts.store.records c.program_at-program.result.now None some) c.deref.ensures.value) c.in_default.is
    (ap (λ (memory : CoordMemory). memory.contents) c.apply_granted.ensures
    ∙ ap (λ (grants : Grants). taking parts.coord.contents grants (Some c.in-Ok.joined.reply)) c.requires.change)
    (λ w found. c.in_ok-sends.ensures w found
    ∙ ap (λ (writes : List Read). prepares c.args.txn writes c.args.from.0 c.args.grant (grant_from w) w.parts) c.deref-2.ensures.value)
    (ap (map note_of) c.new.ensures.items) refl
