-- One event more.
use Rattle.std.proofs.Common.{◌≡◌, ◌<◌, ◌≤◌, ℕ, ◌∷◌, ◌++◌, [], false, List, All, get_or, length, take, sym, ap, subst, ◌∙◌}
use Rattle.std.proofs.lemmas.List.{take_all, take_more}
use Rattle.std.proofs.lemmas.List.Elements.{All-get_or}
use Rattle.pv_quorum_script.specs.Fits.{IsEventFor}
use Rattle.pv_quorum_script.specs.declared.event.QuorumEvent.{QuorumEvent}
use Rattle.pv_quorum_script.specs.declared.event.QuorumEvent.TheVariants.{Propose}
use Rattle.pv_quorum_run.proofs.RunLemmas.{HasRun, none-run, one-run}
use Rattle.pv_quorum_run.proofs.running.text_of_run.Goals as goal

-- what stands for an event where there is none
abbrev no_event : QuorumEvent
no_event = Propose 0 (record { site = record { 0 = 0 }; epoch = 0; number = 0 }) false

pub loop-event-init : goal.loop-event-init
loop-event-init c = none-run c.args.script.now.deciders c.in_ok-table.table c.new-text.result.items c.in_ok-table.ensures.stands c.in_ok-table.ensures.count c.new-text.ensures.items

pub happen-requires-clause-stands : goal.happen-requires-clause-stands
happen-requires-clause-stands c = (c.loop-event.invariant.scene, c.loop-event.invariant.stands)

pub happen-requires-clause-event : goal.happen-requires-clause-event
happen-requires-clause-event c =
    let items = c.deref-event-items.result.now in
    let count = c.args.script.now.deciders in
    let i = c.loop-event.event-index in
    subst (λ (k : ℕ). IsEventFor k (get_or items i no_event)) (sym c.loop-event.invariant.count_is)
    (All-get_or (IsEventFor count) items i no_event c.loop-event-test.true (subst (All (IsEventFor count)) (sym c.deref-event-items.ensures.value) c.requires.events))

pub loop-event-preserved : goal.loop-event-preserved
loop-event-preserved c =
    let events = c.args.script.now.events.items in
    let items = c.deref-event-items.result.now in
    let same : items ≡ events = c.deref-event-items.ensures.value in
    let count = c.args.script.now.deciders in
    let i = c.loop-event.event-index in
    let small : i < length events = subst (λ (all : List QuorumEvent). i < length all) same c.loop-event-test.true in
    subst (λ (front : List QuorumEvent). HasRun count front c.happen.new.self c.happen.new.text.items)
    (sym (take_more events i no_event small ∙ ap (λ (all : List QuorumEvent). take i events ++ get_or all i no_event ∷ []) (sym same)))
    (one-run count (take i events) c.loop-event.table c.happen.new.self c.loop-event.text.items c.happen.new.text.items (get_or items i no_event) c.loop-event.invariant
    (c.in_ok-happen.ensures c.loop-event.invariant.scene c.loop-event.invariant.stands))

pub returns : goal.returns
returns c =
    let events = c.args.script.now.events.items in
    let i = c.loop-event.event-index in
    let past : length events ≤ i = subst (λ (all : List QuorumEvent). length all ≤ i) c.deref-event-items.ensures.value c.loop-event-test.false in
    let all = subst (λ (front : List QuorumEvent). HasRun c.args.script.now.deciders front c.loop-event.table c.loop-event.text.items) (take_all i events past) c.loop-event.invariant in
    (all.lines, all.scene, all.runs, all.text_is)
