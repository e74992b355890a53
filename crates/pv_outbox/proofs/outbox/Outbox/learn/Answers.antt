-- What learning an outcome comes to, by where it ends.
use Rattle.std.proofs.Common.{◌≡◌, ℕ, Ok, false, List, refl, rules, sym, ap, subst, ◌∙◌}
use Rattle.std.specs.Prelude.{⊤}
use Rattle.pv_law_outbox.specs.State.{State, learnt, after, outcome_of}
use Rattle.pv_outbox.specs.Calls.{Learns}
use Rattle.pv_outbox.specs.OutboxState.{OutboxState, IsUsable}
use Rattle.pv_outbox.specs.Spelling.{SpellsRecord}
use Rattle.pv_outbox.specs.Writing.{AppendsBytes}
use Rattle.pv_outbox.proofs.CallLemmas.{ends-append, ends-early, ends-late, ends-room, written-append, learnt-fails}
use Rattle.pv_outbox.proofs.outbox.Outbox.learn.Goals as goal

pub returns-in_err-bytes-clause-learn : goal.returns-in_err-bytes-clause-learn
returns-in_err-bytes-clause-learn g c =
    let M = g.L.Log.model in
    let may = ap (λ (old : OutboxState g.row.L.Denot). outcome_of old.state c.args.txn) (sym c.self.view_is) ∙ sym c.outcome.ensures ∙ c.in_default.is in
    λ up. ends-early M c.args.self.now c.args.self.now c.requires.usable up (learnt c.args.txn c.args.commits) (λ answer. Learns M c.args.self.now c.args.self.now c.args.txn c.args.commits answer) (λ e fails. learnt-fails M c.args.self.now c.args.self.now c.args.txn c.args.commits e ⊤ may fails) c.from_residual.result (search rules) refl refl refl

pub returns-in_err-make_room-clause-learn : goal.returns-in_err-make_room-clause-learn
returns-in_err-make_room-clause-learn g c =
    let M = g.L.Log.model in
    let inside = c.self.inside in
    let now : OutboxState g.row.L.Denot = record { state = inside.memory.facts.state; is_down = inside.down; log = inside.log } in
    let new : OutboxState g.row.L.Denot = record { state = inside.memory.facts.state; is_down = c.make_room.new.down; log = c.make_room.new.log } in
    let usable = subst (λ (old : OutboxState g.row.L.Denot). IsUsable M old) (sym c.self.view_is) c.requires.usable in
    let may = sym c.outcome.ensures ∙ c.in_default.is in
    subst
    (λ (old : OutboxState g.row.L.Denot). old.is_down ≡ false → Learns M old new c.args.txn c.args.commits c.from_residual-in_err-make_room.result)
    c.self.view_is
    (λ up. ends-room M now new usable up (learnt c.args.txn c.args.commits) (λ answer. Learns M now new c.args.txn c.args.commits answer) (λ e fails. learnt-fails M now new c.args.txn c.args.commits e ⊤ may fails) c.deref.result.now (subst (SpellsRecord (learnt c.args.txn c.args.commits)) (sym c.deref.ensures.value) c.in_ok-bytes.ensures)
    c.in_err-make_room.field-0.0 c.make_room.result c.from_residual-in_err-make_room.result c.in_err-make_room.was (search rules) c.make_room.ensures.effect c.make_room.ensures.down (refl))

pub returns-in_err-plan_learn-clause-learn : goal.returns-in_err-plan_learn-clause-learn
returns-in_err-plan_learn-clause-learn g c =
    let M = g.L.Log.model in
    let inside = c.self.inside in
    let now : OutboxState g.row.L.Denot = record { state = inside.memory.facts.state; is_down = inside.down; log = inside.log } in
    let new : OutboxState g.row.L.Denot = record { state = c.plan_learn.new.self.facts.state; is_down = c.make_room.new.down; log = c.make_room.new.log } in
    let usable = subst (λ (old : OutboxState g.row.L.Denot). IsUsable M old) (sym c.self.view_is) c.requires.usable in
    let may = sym c.outcome.ensures ∙ c.in_default.is in
    subst
    (λ (old : OutboxState g.row.L.Denot). old.is_down ≡ false → Learns M old new c.args.txn c.args.commits c.from_residual-in_err-plan_learn.result)
    c.self.view_is
    (λ up. ends-late M now new usable up (learnt c.args.txn c.args.commits) (λ answer. Learns M now new c.args.txn c.args.commits answer) (λ e fails. learnt-fails M now new c.args.txn c.args.commits e ⊤ may fails) c.deref.result.now (subst (SpellsRecord (learnt c.args.txn c.args.commits)) (sym c.deref.ensures.value) c.in_ok-bytes.ensures) c.make_room.new.log c.in_ok-make_room.field-0 c.in_ok-make_room.ensures.effect
    c.from_residual-in_err-plan_learn.result (search rules) (c.plan_learn.ensures.same) c.in_ok-make_room.ensures.down refl)

pub returns-in_err-append-clause-learn : goal.returns-in_err-append-clause-learn
returns-in_err-append-clause-learn g c =
    let M = g.L.Log.model in
    let inside = c.self.inside in
    let now : OutboxState g.row.L.Denot = record { state = inside.memory.facts.state; is_down = inside.down; log = inside.log } in
    let new : OutboxState g.row.L.Denot = record { state = c.plan_learn.new.self.facts.state; is_down = c.append.new.down; log = c.append.new.log } in
    let usable = subst (λ (old : OutboxState g.row.L.Denot). IsUsable M old) (sym c.self.view_is) c.requires.usable in
    let may = sym c.outcome.ensures ∙ c.in_default.is in
    subst
    (λ (old : OutboxState g.row.L.Denot). old.is_down ≡ false → Learns M old new c.args.txn c.args.commits c.from_residual-in_err-append.result)
    c.self.view_is
    (λ up. ends-append M now new usable up (learnt c.args.txn c.args.commits) (λ answer. Learns M now new c.args.txn c.args.commits answer) (λ e fails. learnt-fails M now new c.args.txn c.args.commits e ⊤ may fails) c.deref.result.now (subst (SpellsRecord (learnt c.args.txn c.args.commits)) (sym c.deref.ensures.value) c.in_ok-bytes.ensures) c.make_room.new.log c.in_ok-make_room.field-0 c.in_ok-make_room.ensures.effect
    c.in_err-append.field-0.0 c.append.result c.from_residual-in_err-append.result c.in_err-append.was (search rules) (subst (λ (bytes : List ℕ). AppendsBytes M c.make_room.new.log c.append.new.log bytes c.append.result) (c.deref-2.ensures.value ∙ sym c.deref.ensures.value) c.append.ensures.effect) c.append.ensures.down (c.plan_learn.ensures.same))

pub returns-clause-learn : goal.returns-clause-learn
returns-clause-learn g c =
    let M = g.L.Log.model in
    let inside = c.self.inside in
    let now : OutboxState g.row.L.Denot = record { state = inside.memory.facts.state; is_down = inside.down; log = inside.log } in
    let new : OutboxState g.row.L.Denot = record { state = c.learn.new.self.facts.state; is_down = c.append.new.down; log = c.append.new.log } in
    let usable = subst (λ (old : OutboxState g.row.L.Denot). IsUsable M old) (sym c.self.view_is) c.requires.usable in
    let may = sym c.outcome.ensures ∙ c.in_default.is in
    let unit : ⊤ = tt in
    subst
    (λ (old : OutboxState g.row.L.Denot). old.is_down ≡ false → Learns M old new c.args.txn c.args.commits (Ok unit))
    c.self.view_is
    (λ up. (
      may,
      written-append M now usable up (learnt c.args.txn c.args.commits) c.deref.result.now (subst (SpellsRecord (learnt c.args.txn c.args.commits)) (sym c.deref.ensures.value) c.in_ok-bytes.ensures) c.make_room.new.log c.in_ok-make_room.field-0 c.in_ok-make_room.ensures.effect new c.in_ok-append.field-0
          (subst (λ (bytes : List ℕ). AppendsBytes M c.make_room.new.log c.append.new.log bytes (Ok c.in_ok-append.field-0)) (c.deref-2.ensures.value ∙ sym c.deref.ensures.value) c.in_ok-append.ensures.effect) c.in_ok-append.ensures.down
          (c.learn.ensures ∙ ap (λ (state : State). after state (learnt c.args.txn c.args.commits)) (c.plan_learn.ensures.same)),
    ))
