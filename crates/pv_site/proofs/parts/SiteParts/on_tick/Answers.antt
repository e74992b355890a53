use Rattle.std.proofs.Common.{◌≡◌, ◌∙◌, ◌++◌, List, map, ap, refl}
use Rattle.std.specs.Prelude.{is_none}
use Rattle.std.specs.List.{filter, flat_map}
use Rattle.pv_base.specs.declared.txn.TxnId.{TxnId}
use Rattle.pv_coord.specs.Coordinator.{Coordinator, CoordMemory}
use Rattle.pv_coord.specs.declared.answer.Expiry.{Expiry}
use Rattle.pv_locks.specs.LockTable.{grant_of}
use Rattle.pv_protocol.specs.State as model
use Rattle.pv_protocol.specs.Tick.{ask_sends}
use Rattle.pv_site.proofs.Entries.{after_tick}
use Rattle.pv_site.proofs.Expired.{store-is, ticked}
use Rattle.pv_site.specs.SiteParts.{here_of}
use Rattle.pv_site.specs.Refusals.{refusal_note, refusal_sends}
use Rattle.pv_site.specs.Values.{outgoing_of}
use Rattle.pv_site.specs.declared.input.Outgoing.{Outgoing}
use Rattle.pv_site.proofs.parts.SiteParts.on_tick.Goals as goal

pub returns : goal.returns
returns c =
    let coord-is : c.plan_tick.new.self.contents ≡ c.args.self.now.coord.contents = ap (λ (memory : CoordMemory). memory.contents) c.plan_tick.ensures.unchanged in
    let refused : map outgoing_of c.push_refusals.new.sends.items
    ≡ flat_map (λ (expiry : Expiry). refusal_sends c.args.self.now.coord.contents expiry.txn) c.in_ok-expiries.expiries.items =
    c.in_ok-push_refusals.ensures
    ∙ ap (λ (sends : List Outgoing). map outgoing_of sends ++ flat_map (λ (expiry : Expiry). refusal_sends c.plan_tick.new.self.contents expiry.txn) c.deref.result.now) c.new-sends.ensures.items
    ∙ ap (λ (coord : Coordinator). flat_map (λ (expiry : Expiry). refusal_sends coord expiry.txn) c.deref.result.now) coord-is
    ∙ ap (flat_map (λ (expiry : Expiry). refusal_sends c.args.self.now.coord.contents expiry.txn)) c.deref.ensures.value in
    ticked c.args.self.now c.requires c.tick.new.self c.apply_tick.new.self c.in_ok-expiries.expiries.items c.in_ok-mentioned.mentioned.items _
    c.tick.ensures (c.apply_tick.ensures.older ∙ ap after_tick coord-is) c.in_ok-expiries.ensures.expiries
    (c.in_ok-mentioned.ensures (here_of c.args.self.now) (store-is c.args.self.now c.requires))
    (c.push_questions.ensures
    ∙ ap (λ (sends : List Outgoing). map outgoing_of sends ++ ask_sends (filter (λ (txn : TxnId). is_none (grant_of c.tick.new.self txn)) c.deref-3.result.now)) c.in_ok-reserve.ensures.items
    ∙ ap (λ (sends : List model.Outgoing). sends ++ ask_sends (filter (λ (txn : TxnId). is_none (grant_of c.tick.new.self txn)) c.deref-3.result.now)) refused
    ∙ ap (λ (txns : List TxnId). flat_map (λ (expiry : Expiry). refusal_sends c.args.self.now.coord.contents expiry.txn) c.in_ok-expiries.expiries.items
    ++ ask_sends (filter (λ (txn : TxnId). is_none (grant_of c.tick.new.self txn)) txns)) c.deref-3.ensures.value)
    (c.in_ok-notes.ensures ∙ ap (map refusal_note) c.deref-2.ensures.value) refl
