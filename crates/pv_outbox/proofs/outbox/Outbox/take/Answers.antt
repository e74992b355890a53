-- What releasing an output comes to, by where it ends.
use Rattle.std.proofs.Common.{◌≡◌, ℕ, Ok, Some, false, List, refl, rules, sym, ap, subst, ◌∙◌}
use Rattle.pv_law_outbox.specs.State.{State, taken, after}
use Rattle.pv_outbox.specs.Calls.{Takes}
use Rattle.pv_outbox.specs.OutboxState.{OutboxState, IsUsable}
use Rattle.pv_outbox.specs.Spelling.{SpellsRecord}
use Rattle.pv_outbox.specs.Writing.{AppendsBytes}
use Rattle.pv_outbox.proofs.CallLemmas.{ends-append, ends-early, ends-late, ends-room, written-append}
use Rattle.pv_outbox.proofs.outbox.Outbox.take.Goals as goal

pub returns-in_err-bytes-clause-take : goal.returns-in_err-bytes-clause-take
returns-in_err-bytes-clause-take g c =
    let M = g.L.Log.model in
    let inside = c.self.inside in
    let now : OutboxState g.row.L.Denot = record { state = inside.memory.facts.state; is_down = inside.down; log = inside.log } in
    let new : OutboxState g.row.L.Denot = record { state = c.next.new.self.facts.state; is_down = inside.down; log = inside.log } in
    let usable = subst (λ (old : OutboxState g.row.L.Denot). IsUsable M old) (sym c.self.view_is) c.requires.usable in
    let may = c.in-Some.ensures.next in
    subst
    (λ (old : OutboxState g.row.L.Denot). old.is_down ≡ false → Takes M old new c.from_residual.result)
    c.self.view_is
    (λ up. ends-early M now new usable up (taken c.in-Some.output) (λ answer. Takes M now new answer) (λ e fails. (c.in-Some.output, may, fails)) c.from_residual.result (search rules) (ap (λ facts. facts.state) c.next.ensures.same) refl refl)

pub returns-in_err-make_room-clause-take : goal.returns-in_err-make_room-clause-take
returns-in_err-make_room-clause-take g c =
    let M = g.L.Log.model in
    let inside = c.self.inside in
    let now : OutboxState g.row.L.Denot = record { state = inside.memory.facts.state; is_down = inside.down; log = inside.log } in
    let new : OutboxState g.row.L.Denot = record { state = c.next.new.self.facts.state; is_down = c.make_room.new.down; log = c.make_room.new.log } in
    let usable = subst (λ (old : OutboxState g.row.L.Denot). IsUsable M old) (sym c.self.view_is) c.requires.usable in
    let may = c.in-Some.ensures.next in
    subst
    (λ (old : OutboxState g.row.L.Denot). old.is_down ≡ false → Takes M old new c.from_residual-in_err-make_room.result)
    c.self.view_is
    (λ up. ends-room M now new usable up (taken c.in-Some.output) (λ answer. Takes M now new answer) (λ e fails. (c.in-Some.output, may, fails)) c.deref.result.now (subst (SpellsRecord (taken c.in-Some.output)) (sym c.deref.ensures.value) c.in_ok-bytes.ensures)
    c.in_err-make_room.field-0.0 c.make_room.result c.from_residual-in_err-make_room.result c.in_err-make_room.was (search rules) c.make_room.ensures.effect c.make_room.ensures.down (ap (λ facts. facts.state) c.next.ensures.same))

pub returns-in_err-plan_take-clause-take : goal.returns-in_err-plan_take-clause-take
returns-in_err-plan_take-clause-take g c =
    let M = g.L.Log.model in
    let inside = c.self.inside in
    let now : OutboxState g.row.L.Denot = record { state = inside.memory.facts.state; is_down = inside.down; log = inside.log } in
    let new : OutboxState g.row.L.Denot = record { state = c.plan_take.new.self.facts.state; is_down = c.make_room.new.down; log = c.make_room.new.log } in
    let usable = subst (λ (old : OutboxState g.row.L.Denot). IsUsable M old) (sym c.self.view_is) c.requires.usable in
    let may = c.in-Some.ensures.next in
    subst
    (λ (old : OutboxState g.row.L.Denot). old.is_down ≡ false → Takes M old new c.from_residual-in_err-plan_take.result)
    c.self.view_is
    (λ up. ends-late M now new usable up (taken c.in-Some.output) (λ answer. Takes M now new answer) (λ e fails. (c.in-Some.output, may, fails)) c.deref.result.now (subst (SpellsRecord (taken c.in-Some.output)) (sym c.deref.ensures.value) c.in_ok-bytes.ensures) c.make_room.new.log c.in_ok-make_room.field-0 c.in_ok-make_room.ensures.effect
    c.from_residual-in_err-plan_take.result (search rules) (c.plan_take.ensures.same ∙ (ap (λ facts. facts.state) c.next.ensures.same)) c.in_ok-make_room.ensures.down refl)

pub returns-in_err-append-clause-take : goal.returns-in_err-append-clause-take
returns-in_err-append-clause-take g c =
    let M = g.L.Log.model in
    let inside = c.self.inside in
    let now : OutboxState g.row.L.Denot = record { state = inside.memory.facts.state; is_down = inside.down; log = inside.log } in
    let new : OutboxState g.row.L.Denot = record { state = c.plan_take.new.self.facts.state; is_down = c.append.new.down; log = c.append.new.log } in
    let usable = subst (λ (old : OutboxState g.row.L.Denot). IsUsable M old) (sym c.self.view_is) c.requires.usable in
    let may = c.in-Some.ensures.next in
    subst
    (λ (old : OutboxState g.row.L.Denot). old.is_down ≡ false → Takes M old new c.from_residual-in_err-append.result)
    c.self.view_is
    (λ up. ends-append M now new usable up (taken c.in-Some.output) (λ answer. Takes M now new answer) (λ e fails. (c.in-Some.output, may, fails)) c.deref.result.now (subst (SpellsRecord (taken c.in-Some.output)) (sym c.deref.ensures.value) c.in_ok-bytes.ensures) c.make_room.new.log c.in_ok-make_room.field-0 c.in_ok-make_room.ensures.effect
    c.in_err-append.field-0.0 c.append.result c.from_residual-in_err-append.result c.in_err-append.was (search rules) (subst (λ (bytes : List ℕ). AppendsBytes M c.make_room.new.log c.append.new.log bytes c.append.result) (c.deref-2.ensures.value ∙ sym c.deref.ensures.value) c.append.ensures.effect) c.append.ensures.down (c.plan_take.ensures.same ∙ (ap (λ facts. facts.state) c.next.ensures.same)))

pub returns-clause-take : goal.returns-clause-take
returns-clause-take g c =
    let M = g.L.Log.model in
    let inside = c.self.inside in
    let now : OutboxState g.row.L.Denot = record { state = inside.memory.facts.state; is_down = inside.down; log = inside.log } in
    let new : OutboxState g.row.L.Denot = record { state = c.take.new.self.facts.state; is_down = c.append.new.down; log = c.append.new.log } in
    let usable = subst (λ (old : OutboxState g.row.L.Denot). IsUsable M old) (sym c.self.view_is) c.requires.usable in
    let may = c.in-Some.ensures.next in
    subst
    (λ (old : OutboxState g.row.L.Denot). old.is_down ≡ false → Takes M old new (Ok (Some c.in-Some.output)))
    c.self.view_is
    (λ up. (
      may,
      written-append M now usable up (taken c.in-Some.output) c.deref.result.now (subst (SpellsRecord (taken c.in-Some.output)) (sym c.deref.ensures.value) c.in_ok-bytes.ensures) c.make_room.new.log c.in_ok-make_room.field-0 c.in_ok-make_room.ensures.effect new c.in_ok-append.field-0
          (subst (λ (bytes : List ℕ). AppendsBytes M c.make_room.new.log c.append.new.log bytes (Ok c.in_ok-append.field-0)) (c.deref-2.ensures.value ∙ sym c.deref.ensures.value) c.in_ok-append.ensures.effect) c.in_ok-append.ensures.down
          (c.take.ensures ∙ ap (λ (state : State). after state (taken c.in-Some.output)) (c.plan_take.ensures.same ∙ (ap (λ facts. facts.state) c.next.ensures.same))),
    ))
