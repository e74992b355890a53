use Rattle.std.proofs.Common.{rules, ◌≡◌, ◌-◌, ℕ, length, arith, ◌∙◌, ap, sym, subst, vec_len, vec_capacity}
use Rattle.pv_host.specs.HostLog.{group_of, left_of}
use Rattle.pv_host.specs.Waiting.{AreRecords, WaitingState}
use Rattle.pv_host.proofs.WaitingLemmas.{group-fits, group-made, others-are, view-is}
use Rattle.pv_host.proofs.waiting.Waiting.ask.Goals as goal

pub close_gate-requires : goal.close_gate-requires
close_gate-requires c =
    let inside = c.self.inside in
    let are = others-are inside c.args.self.now c.self.view_is c.self.invariant c.requires in
    let size = c.group_size-size.ensures c.args.self.now.pending (subst (AreRecords c.args.self.now.pending) (sym c.deref.ensures.value) are) in
    group-fits inside.bytes.items c.group_size-size.result.bytes c.args.room c.args.self.now.pending are (search rules) size.bytes

pub invariant_of-self : goal.invariant_of-self
invariant_of-self c =
    let inside = c.self.inside in
    let are = others-are inside c.args.self.now c.self.view_is c.self.invariant c.requires in
    let size = c.group_size-size.ensures c.args.self.now.pending (subst (AreRecords c.args.self.now.pending) (sym c.deref.ensures.value) are) in
    (group-made inside c.args.self.now c.self.view_is c.self.invariant (record { bytes = c.close_gate.new.bytes; frozen = c.group_size-size.result.bytes })
    c.args.room c.requires (search rules) size.bytes c.close_gate.ensures.items).good

pub returns-clause-asks : goal.returns-clause-asks
returns-clause-asks c =
    let inside = c.self.inside in
    let old = c.args.self.now in
    let group = group_of c.args.room old.pending in
    let left = left_of c.args.room old.pending in
    let are = others-are inside old c.self.view_is c.self.invariant c.requires in
    let size = c.group_size-size.ensures old.pending (subst (AreRecords old.pending) (sym c.deref.ensures.value) are) in
    let made = group-made inside old c.self.view_is c.self.invariant (record { bytes = c.close_gate.new.bytes; frozen = c.group_size-size.result.bytes })
    c.args.room c.requires (search rules) size.bytes c.close_gate.ensures.items in
    let room : vec_capacity c.close_gate.new.bytes - vec_len c.close_gate.new.bytes ≡ vec_capacity inside.bytes - vec_len inside.bytes =
    omega (arith, c.close_gate.ensures.capacity, c.close_gate.ensures.length) in
    view-is (record { bytes = c.close_gate.new.bytes; frozen = c.group_size-size.result.bytes }) group left made
    ∙ ap (λ (n : ℕ). record { asked = group; pending = left; room = n }) (room ∙ ap (λ (state : WaitingState). state.room) c.self.view_is)

pub returns-clause-count : goal.returns-clause-count
returns-clause-count c =
    let inside = c.self.inside in
    let old = c.args.self.now in
    let are = others-are inside old c.self.view_is c.self.invariant c.requires in
    let size = c.group_size-size.ensures old.pending (subst (AreRecords old.pending) (sym c.deref.ensures.value) are) in
    let made = group-made inside old c.self.view_is c.self.invariant (record { bytes = c.close_gate.new.bytes; frozen = c.group_size-size.result.bytes })
    c.args.room c.requires (search rules) size.bytes c.close_gate.ensures.items in
    size.count ∙ ap length (sym made.asked_is)
