-- One event more.
use Rattle.std.proofs.Common.{[], ◌∷◌, ◌++◌, List, take, refl, sym, ap, subst, ◌∙◌}
use Rattle.std.proofs.lemmas.List.{take_all, take_more}
use Rattle.std.proofs.lemmas.List.Elements.{All-get_or}
use Rattle.pv_outbox_run.specs.Box.{first_box}
use Rattle.pv_outbox_run.specs.Does.{Runs}
use Rattle.pv_outbox_run.specs.Stands.{says_of}
use Rattle.pv_outbox_run.specs.ToldText.{told_texts}
use Rattle.pv_outbox_script.specs.Held.{CanHappen}
use Rattle.pv_outbox_script.specs.declared.event.Event.{Event}
use Rattle.pv_outbox_run.proofs.RunLemmas.{runs-more, told_texts-append}
use Rattle.pv_outbox_run.proofs.run.run.Goals as goal

pub loop-event-init : goal.loop-event-init
loop-event-init c = ([], first_box, (refl, refl), c.in_ok-cell.ensures, c.new-text.ensures.items)

pub with-requires-clause-some : goal.with-requires-clause-some
with-requires-clause-some c = (c.loop-event.invariant.1, c.loop-event.invariant.3)

pub with-requires-clause-possible : goal.with-requires-clause-possible
with-requires-clause-possible c =
    subst CanHappen (sym c.event-item.is)
    (All-get_or CanHappen c.args.events.now c.loop-event.event-index c.event-item.result c.loop-event-test.true c.requires)

pub loop-event-preserved : goal.loop-event-preserved
loop-event-preserved c =
    let (says, box, runs, stands, text) = c.loop-event.invariant in
    let made = c.in_ok-next.ensures box stands in (
      says ++ says_of c.in_ok-next.told,
      made.0,
      subst (λ (events : List Event). Runs first_box events (says ++ says_of c.in_ok-next.told) made.0)
          (sym (take_more c.args.events.now c.loop-event.event-index c.event-item.result c.loop-event-test.true
          ∙ ap (λ (event : Event). take c.loop-event.event-index c.args.events.now ++ event ∷ []) (sym c.event-item.is)))
          (runs-more (take c.loop-event.event-index c.args.events.now) first_box box made.0 c.event-item.result says (says_of c.in_ok-next.told) runs made.2),
      made.1,
      c.in_ok-push_some.ensures ∙ ap (λ front. front ++ told_texts (says_of c.in_ok-next.told)) text ∙ sym (told_texts-append says (says_of c.in_ok-next.told)),
    )

pub returns : goal.returns
returns c =
    let (says, box, runs, stands, text) = c.loop-event.invariant in
    let all = subst (λ (events : List Event). Runs first_box events says box) (take_all c.loop-event.event-index c.args.events.now c.loop-event-test.false) runs in
    (says, box, all, text, c.scripts_keep_outputs.ensures.once first_box box c.args.events.now says all)
