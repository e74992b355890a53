-- What holding an output comes to, by where it ends.
use Rattle.std.proofs.Common.{◌≡◌, ℕ, Ok, ℤ, false, List, refl, rules, sym, ap, subst, ◌∙◌}
use Rattle.std.specs.Prelude.{⊤}
use Rattle.pv_base.specs.Polyvalue.{Case}
use Rattle.pv_law_outbox.specs.State.{State, held, after, is_held}
use Rattle.pv_outbox.specs.Calls.{Holds}
use Rattle.pv_outbox.specs.OutboxState.{OutboxState, IsUsable}
use Rattle.pv_outbox.specs.Spelling.{SpellsRecord}
use Rattle.pv_outbox.specs.Writing.{AppendsBytes}
use Rattle.pv_outbox.proofs.CallLemmas.{ends-append, ends-early, ends-late, ends-room, written-append, held-fails}
use Rattle.pv_outbox.proofs.outbox.Outbox.hold.Goals as goal

pub returns-in_err-bytes-clause-hold : goal.returns-in_err-bytes-clause-hold
returns-in_err-bytes-clause-hold g c =
    let M = g.L.Log.model in
    let may = ap (λ (old : OutboxState g.row.L.Denot). is_held old.state c.args.output) (sym c.self.view_is) ∙ sym c.is_held.ensures ∙ c.if-is_held.false in
    λ up. ends-early M c.args.self.now c.args.self.now c.requires.usable up (held c.args.output c.args.when.now) (λ answer. Holds M c.args.self.now c.args.self.now c.args.output c.args.when.now answer) (λ e fails. held-fails M c.args.self.now c.args.self.now c.args.output c.args.when.now e ⊤ may fails) c.from_residual.result (search rules) refl refl refl

pub returns-in_err-make_room-clause-hold : goal.returns-in_err-make_room-clause-hold
returns-in_err-make_room-clause-hold g c =
    let M = g.L.Log.model in
    let inside = c.self.inside in
    let now : OutboxState g.row.L.Denot = record { state = inside.memory.facts.state; is_down = inside.down; log = inside.log } in
    let new : OutboxState g.row.L.Denot = record { state = inside.memory.facts.state; is_down = c.make_room.new.down; log = c.make_room.new.log } in
    let usable = subst (λ (old : OutboxState g.row.L.Denot). IsUsable M old) (sym c.self.view_is) c.requires.usable in
    let may = sym c.is_held.ensures ∙ c.if-is_held.false in
    subst
    (λ (old : OutboxState g.row.L.Denot). old.is_down ≡ false → Holds M old new c.args.output c.args.when.now c.from_residual-in_err-make_room.result)
    c.self.view_is
    (λ up. ends-room M now new usable up (held c.args.output c.args.when.now) (λ answer. Holds M now new c.args.output c.args.when.now answer) (λ e fails. held-fails M now new c.args.output c.args.when.now e ⊤ may fails) c.deref.result.now (subst (SpellsRecord (held c.args.output c.args.when.now)) (sym c.deref.ensures.value) c.in_ok-bytes.ensures)
    c.in_err-make_room.field-0.0 c.make_room.result c.from_residual-in_err-make_room.result c.in_err-make_room.was (search rules) c.make_room.ensures.effect c.make_room.ensures.down (refl))

pub returns-in_err-copy-clause-hold : goal.returns-in_err-copy-clause-hold
returns-in_err-copy-clause-hold g c =
    let M = g.L.Log.model in
    let inside = c.self.inside in
    let now : OutboxState g.row.L.Denot = record { state = inside.memory.facts.state; is_down = inside.down; log = inside.log } in
    let new : OutboxState g.row.L.Denot = record { state = c.plan_hold.new.self.facts.state; is_down = c.make_room.new.down; log = c.make_room.new.log } in
    let usable = subst (λ (old : OutboxState g.row.L.Denot). IsUsable M old) (sym c.self.view_is) c.requires.usable in
    let may = sym c.is_held.ensures ∙ c.if-is_held.false in
    subst
    (λ (old : OutboxState g.row.L.Denot). old.is_down ≡ false → Holds M old new c.args.output c.args.when.now c.from_residual-in_err-copy.result)
    c.self.view_is
    (λ up. ends-late M now new usable up (held c.args.output c.args.when.now) (λ answer. Holds M now new c.args.output c.args.when.now answer) (λ e fails. held-fails M now new c.args.output c.args.when.now e ⊤ may fails) c.deref.result.now (subst (SpellsRecord (held c.args.output c.args.when.now)) (sym c.deref.ensures.value) c.in_ok-bytes.ensures) c.make_room.new.log c.in_ok-make_room.field-0 c.in_ok-make_room.ensures.effect
    c.from_residual-in_err-copy.result (search rules) (c.plan_hold.ensures.same) c.in_ok-make_room.ensures.down refl)

pub returns-in_err-append-clause-hold : goal.returns-in_err-append-clause-hold
returns-in_err-append-clause-hold g c =
    let M = g.L.Log.model in
    let inside = c.self.inside in
    let now : OutboxState g.row.L.Denot = record { state = inside.memory.facts.state; is_down = inside.down; log = inside.log } in
    let new : OutboxState g.row.L.Denot = record { state = c.plan_hold.new.self.facts.state; is_down = c.append.new.down; log = c.append.new.log } in
    let usable = subst (λ (old : OutboxState g.row.L.Denot). IsUsable M old) (sym c.self.view_is) c.requires.usable in
    let may = sym c.is_held.ensures ∙ c.if-is_held.false in
    subst
    (λ (old : OutboxState g.row.L.Denot). old.is_down ≡ false → Holds M old new c.args.output c.args.when.now c.from_residual-in_err-append.result)
    c.self.view_is
    (λ up. ends-append M now new usable up (held c.args.output c.args.when.now) (λ answer. Holds M now new c.args.output c.args.when.now answer) (λ e fails. held-fails M now new c.args.output c.args.when.now e ⊤ may fails) c.deref.result.now (subst (SpellsRecord (held c.args.output c.args.when.now)) (sym c.deref.ensures.value) c.in_ok-bytes.ensures) c.make_room.new.log c.in_ok-make_room.field-0 c.in_ok-make_room.ensures.effect
    c.in_err-append.field-0.0 c.append.result c.from_residual-in_err-append.result c.in_err-append.was (search rules) (subst (λ (bytes : List ℕ). AppendsBytes M c.make_room.new.log c.append.new.log bytes c.append.result) (c.deref-2.ensures.value ∙ sym c.deref.ensures.value) c.append.ensures.effect) c.append.ensures.down (c.plan_hold.ensures.same))

pub returns-clause-hold : goal.returns-clause-hold
returns-clause-hold g c =
    let M = g.L.Log.model in
    let inside = c.self.inside in
    let now : OutboxState g.row.L.Denot = record { state = inside.memory.facts.state; is_down = inside.down; log = inside.log } in
    let new : OutboxState g.row.L.Denot = record { state = c.hold.new.self.facts.state; is_down = c.append.new.down; log = c.append.new.log } in
    let usable = subst (λ (old : OutboxState g.row.L.Denot). IsUsable M old) (sym c.self.view_is) c.requires.usable in
    let may = sym c.is_held.ensures ∙ c.if-is_held.false in
    let unit : ⊤ = tt in
    subst
    (λ (old : OutboxState g.row.L.Denot). old.is_down ≡ false → Holds M old new c.args.output c.args.when.now (Ok unit))
    c.self.view_is
    (λ up. (
      may,
      written-append M now usable up (held c.args.output c.args.when.now) c.deref.result.now (subst (SpellsRecord (held c.args.output c.args.when.now)) (sym c.deref.ensures.value) c.in_ok-bytes.ensures) c.make_room.new.log c.in_ok-make_room.field-0 c.in_ok-make_room.ensures.effect new c.in_ok-append.field-0
          (subst (λ (bytes : List ℕ). AppendsBytes M c.make_room.new.log c.append.new.log bytes (Ok c.in_ok-append.field-0)) (c.deref-2.ensures.value ∙ sym c.deref.ensures.value) c.in_ok-append.ensures.effect) c.in_ok-append.ensures.down
          (c.hold.ensures ∙ ap (λ (state : State). after state (held c.args.output c.in_ok-copy.copy)) (c.plan_hold.ensures.same)
          ∙ ap (λ (cases : List (Case ℤ)). after inside.memory.facts.state (held c.args.output cases)) c.in_ok-copy.ensures.copy),
    ))
