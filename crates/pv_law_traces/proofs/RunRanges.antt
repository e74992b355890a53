-- Each number in what a run prints is within its type, where all of its worlds are printable.
use Rattle.std.proofs.Common.{◌≡◌, ℕ, zero, suc, ◌≤◌, ◌^◌, Bool, false, Some, None, Option, All, List, [], ◌∷◌, ◌++◌, length, refl, sym, subst, arith}
use Rattle.std.proofs.lemmas.List.Elements.{All-append, All-cons, All-nil}
use Rattle.std.proofs.lemmas.List.Quantifiers.{position-Some}
use Rattle.pv_audit.specs.Printed.{IsWithin}
use Rattle.pv_law_step.proofs.Lists.{all-head, all-tail}
use Rattle.pv_law_traces.specs.Ranges.{IsNumbered, IsPrintable}
use Rattle.pv_law_traces.proofs.EventRanges.{transition-within}
use Rattle.pv_law_world.proofs.RunRangeLemmas.{run-good}
use Rattle.pv_law_world.proofs.TransitionLemmas.{run-marked, run-transitions}
use Rattle.pv_law_world.specs.Pumps.{AreMarked}
use Rattle.pv_law_world.specs.Ranges.{IsWorldInRange}
use Rattle.pv_law_world.specs.Transitions.{AreTransitions, one_more}
use Rattle.pv_model.specs.Events.{Event, Schedule}
use Rattle.pv_model.specs.LineCauses.{Before}
use Rattle.pv_model.specs.Schedule.{AreLines, IsSchedule, Says, declaration, event, none}
use Rattle.pv_model.specs.Text.{TextLine}
use Rattle.pv_protocol.specs.Pump.{deliveries, enough, next_fresh, with_fresh}
use Rattle.pv_protocol.specs.Run.{lines_of_transitions, run, transitions_of, world_after, worlds_of}
use Rattle.pv_protocol.specs.Run.{printed as printed_by}
use Rattle.pv_protocol.specs.Sound.{IsSetupInRange}
use Rattle.pv_protocol.specs.State.{Setup}
use Rattle.pv_protocol.specs.WellFormed.{IsWellFormed}
use Rattle.pv_protocol.specs.World.{World, opening}
use Rattle.pv_protocol.specs.WorldStep.{Transition, transition_of}

-- ---- the events of a schedule

says-numbered : (before : Before) (line : TextLine) (e : Event) → Says before line e → IsNumbered e
says-numbered before line (Event.submit n query text program) says = tt
says-numbered before line (Event.deliver n) says = omega (arith, says.2.2)
says-numbered before line (Event.pump most) says = tt
says-numbered before line (Event.lose n) says = omega (arith, says.2.2)
says-numbered before line (Event.drop n) says = tt
says-numbered before line (Event.tick n) says = tt
says-numbered before line (Event.stop n) says = tt
says-numbered before line (Event.start n) says = tt
says-numbered before line (Event.arm n call mode stops) says = tt
says-numbered before line (Event.mend n) says = tt
says-numbered before line (Event.checkpoint n) says = tt
says-numbered before line Event.sent says = tt
says-numbered before line Event.report says = tt
says-numbered before line Event.total says = tt

lines-numbered : {before last : Before} {ls : List TextLine} {events : List Event} → AreLines before ls events last → All IsNumbered events
lines-numbered (none before) = All-nil IsNumbered
lines-numbered (declaration before after last line ls events declares more) = lines-numbered more
lines-numbered (event before last line ls e events is more) = All-cons IsNumbered e events (says-numbered before line e is.says) (lines-numbered more)

-- ---- the transitions of a run

-- Worlds of transitions and of others behind them.
record OfBoth (P : World → Type 0) (world : World) (front back : List Transition) : Type 0 where
  first : All P (worlds_of world front)
  second : All P (worlds_of (world_after world front) back)

of-both : (P : World → Type 0) (world : World) (front back : List Transition) → All P (worlds_of world (front ++ back)) → OfBoth P world front back
of-both P world [] back all = record { first = All-cons P world [] (all-head P world _ all) (All-nil P); second = all }
of-both P world (transition ∷ front) back all =
    let rest = of-both P transition.world front back (all-tail P world (worlds_of transition.world (front ++ back)) all) in
    record { first = All-cons P world (worlds_of transition.world front) (all-head P world (worlds_of transition.world (front ++ back)) all) rest.first; second = rest.second }

module _ (setup : Setup) where
  abbrev HasNumber : Transition → Type 0
  HasNumber transition = IsNumbered transition.event

  -- The marks of its messages are no more than 64 bits count.
  abbrev FewMarks : World → Type 0
  FewMarks world = length world.fresh ≤ 2 ^ 64

  one-numbered : (world : World) (e : Event) → IsNumbered e → HasNumber (transition_of setup world e)
  unfolding transition_of
  one-numbered world e numbered = numbered

  deliveries-numbered : (most : ℕ) (world : World) → All FewMarks (worlds_of world (deliveries most setup world)) → All HasNumber (deliveries most setup world)
  deliveries-numbered zero world few = All-nil HasNumber
  deliveries-numbered (suc more) world few = go (next_fresh world) refl (λ now marks. deliveries-numbered more now marks) few
    where
      go : (next : Option ℕ) → next_fresh world ≡ next
          → ((now : World) → All FewMarks (worlds_of now (deliveries more setup now)) → All HasNumber (deliveries more setup now))
          → All FewMarks (worlds_of world (with_fresh next (λ n. let transition = transition_of setup world (Event.deliver n) in transition ∷ deliveries more setup transition.world)))
          → All HasNumber (with_fresh next (λ n. let transition = transition_of setup world (Event.deliver n) in transition ∷ deliveries more setup transition.world))
      go None is behind few = All-nil HasNumber
      go (Some n) is behind few =
          let transition = transition_of setup world (Event.deliver n) in
          let worlds = worlds_of transition.world (deliveries more setup transition.world) in
          let place = position-Some (λ (fresh : Bool). fresh) world.fresh n false is in
          let marks : length world.fresh ≤ 2 ^ 64 = all-head FewMarks world worlds few in
          All-cons HasNumber transition (deliveries more setup transition.world) (one-numbered world (Event.deliver n) (omega (arith, place.0, marks)))
          (behind transition.world (all-tail FewMarks world worlds few))

  event-numbered : (world : World) (e : Event) → IsNumbered e → All FewMarks (worlds_of world (transitions_of setup world e)) → All HasNumber (transitions_of setup world e)
  unfolding transitions_of
  event-numbered world (Event.pump None) numbered few = deliveries-numbered (enough world) world few
  event-numbered world (Event.pump (Some most)) numbered few = deliveries-numbered most world few
  event-numbered world e numbered few = All-cons HasNumber (transition_of setup world e) [] (one-numbered world e numbered) (All-nil HasNumber)

  run-numbered : (world : World) (events : List Event) → All IsNumbered events → All FewMarks (worlds_of world (run setup world events)) → All HasNumber (run setup world events)
  run-numbered world [] numbered few = All-nil HasNumber
  run-numbered world (e ∷ events) numbered few =
      let now = transitions_of setup world e in
      let after = run setup (world_after world now) events in
      let both = of-both FewMarks world now after few in
      All-append HasNumber now after (event-numbered world e (all-head IsNumbered e events numbered) both.first)
      (run-numbered (world_after world now) events (all-tail IsNumbered e events numbered) both.second)

  -- ---- what they print

  module _ (setup_fine : IsSetupInRange setup) where
    lines-within : (world : World) (transitions : List Transition) → AreTransitions setup world transitions → All (IsWorldInRange setup) (worlds_of world transitions)
        → All (IsPrintable setup) (worlds_of world transitions) → All (λ (transition : Transition). IsWellFormed setup.catalog transition.event) transitions
        → All HasNumber transitions → All IsWithin (lines_of_transitions transitions)
    lines-within world [] are fine printable good numbered = All-nil IsWithin
    lines-within world (transition ∷ transitions) (one_more world' transition' transitions' is rest) fine printable good numbered =
        let worlds = worlds_of transition.world transitions in
        let event = transition.event in
        All-append IsWithin transition.lines (lines_of_transitions transitions)
        (subst (λ (t : Transition). All IsWithin t.lines) (sym is)
        (transition-within setup setup_fine world (all-head (IsWorldInRange setup) world worlds fine) (all-head (IsPrintable setup) world worlds printable) event
        (all-head (λ (t : Transition). IsWellFormed setup.catalog t.event) transition transitions good) (all-head HasNumber transition transitions numbered)))
        (lines-within transition.world transitions rest (all-tail (IsWorldInRange setup) world worlds fine) (all-tail (IsPrintable setup) world worlds printable)
        (all-tail (λ (t : Transition). IsWellFormed setup.catalog t.event) transition transitions good) (all-tail HasNumber transition transitions numbered))

    -- The marks are as many as the messages.
    marks-few : (worlds : List World) → All AreMarked worlds → All (IsPrintable setup) worlds → All FewMarks worlds
    marks-few [] marked printable = All-nil FewMarks
    marks-few (world ∷ worlds) marked printable =
        let same : length world.sent ≡ length world.fresh = all-head AreMarked world worlds marked in
        let few = (all-head (IsPrintable setup) world worlds printable).few in
        All-cons FewMarks world worlds (omega (arith, same, few)) (marks-few worlds (all-tail AreMarked world worlds marked) (all-tail (IsPrintable setup) world worlds printable))

    pub run-within : (events : List Event) → All (IsWellFormed setup.catalog) events → All IsNumbered events → All (IsWorldInRange setup) (worlds_of (opening setup) (run setup (opening setup) events))
        → All (IsPrintable setup) (worlds_of (opening setup) (run setup (opening setup) events)) → All IsWithin (printed_by setup events)
    unfolding printed_by
    run-within events good numbered fine printable =
        let all = run setup (opening setup) events in
        lines-within (opening setup) all (run-transitions setup (opening setup) events) fine printable (run-good setup (opening setup) events good)
        (run-numbered (opening setup) events numbered (marks-few (worlds_of (opening setup) all) (run-marked setup events) printable))

pub schedule-numbered : (text : List ℕ) (schedule : Schedule) → IsSchedule text schedule → All IsNumbered schedule.events
schedule-numbered text schedule is = lines-numbered is.are
