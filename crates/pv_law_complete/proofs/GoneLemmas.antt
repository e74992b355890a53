-- What each transition of a run does, with armed faults or with faults anywhere.
use Rattle.std.proofs.Common.{◌≡◌, ℕ, Some, None, List, [], ◌∷◌, sym, ap, subst, ◌∙◌}
use Rattle.std.specs.Prelude.{⊤}
use Rattle.pv_law_acts.specs.Seen.{records_at, memory_at}
use Rattle.pv_law_refusals.proofs.Chains.{AreLinks}
use Rattle.pv_law_refusals.proofs.Moves.{Comes}
use Rattle.pv_law_complete.proofs.GoesLemmas.{IsSame, MakesItsStep, Goes, stays, halts, opens, steps, follow-goes, follow-makes}
use Rattle.pv_law_world.proofs.DisarmLemmas.{site-disarmed, transition-may}
use Rattle.pv_law_world.specs.Transitions as transitions
use Rattle.pv_law_world.specs.Transitions.{AreTransitions}
use Rattle.pv_model.specs.Events.{Event}
use Rattle.pv_protocol.specs.Anywhere as anywhere
use Rattle.pv_protocol.specs.Anywhere.{MayFollow, IsRunWithFaults, disarmed, without_arms}
use Rattle.pv_protocol.specs.State.{Setup, Site, Running, Input}
use Rattle.pv_protocol.specs.Step.{site_step, records_after}
use Rattle.pv_protocol.specs.WellFormed.{IsWellFormed}
use Rattle.pv_protocol.specs.World.{World}
use Rattle.pv_protocol.specs.WorldStep.{Transition, transition_of}

-- What a transition does; and a site that is given something and is up afterwards has made its step.
pub record HasGone (setup : Setup) (w : World) (t : Transition) : Type 0 where
  pub goes : Goes setup w t.event t.world
  pub makes : (n : ℕ) (input : Input) → Comes w t.event n input → (running : Running) → memory_at w n ≡ Some running → (memory_at t.world n ≡ None → ⊥)
      → MakesItsStep w t.world n (site_step setup n (records_at w n) running input)

module _ (setup : Setup) where
  abbrev pub AreGone : World → List Transition → Type 0
  AreGone w [] = ⊤
  AreGone w (t ∷ later) = HasGone setup w t × AreGone t.world later

  follow-gone : (w : World) (t : Transition) → MayFollow setup w t → HasGone setup w t
  follow-gone w t follows = record { goes = follow-goes setup w t follows; makes = follow-makes setup w t follows }

  pub faults-gone : (w : World) (later : List Transition) → IsRunWithFaults setup w later → AreGone w later
  faults-gone w [] run = tt
  faults-gone w (t ∷ later) (anywhere.goes_on w' t' later' follows run) = (follow-gone w t follows, faults-gone t.world later run)

  -- The same with armed faults: they change no records, memory or messages.

  records-armed : (w : World) (n : ℕ) → records_at (disarmed w) n ≡ records_at w n
  records-armed w n = ap (λ (s : Site). s.records) (site-disarmed w n)

  memory-armed : (w : World) (n : ℕ) → memory_at (disarmed w) n ≡ memory_at w n
  memory-armed w n = ap (λ (s : Site). s.running) (site-disarmed w n)

  same-armed : (w v : World) (n : ℕ) → IsSame (disarmed w) (disarmed v) n → IsSame w v n
  same-armed w v n same = record {
    records = sym (records-armed v n) ∙ (same.records ∙ records-armed w n);
    memory = sym (memory-armed v n) ∙ (same.memory ∙ memory-armed w n);
  }

  makes-armed : (w v : World) (n : ℕ) (running : Running) (input : Input) → MakesItsStep (disarmed w) (disarmed v) n (site_step setup n (records_at (disarmed w) n) running input)
      → MakesItsStep w v n (site_step setup n (records_at w n) running input)
  makes-armed w v n running input makes =
      let there : MakesItsStep (disarmed w) (disarmed v) n (site_step setup n (records_at w n) running input) =
      subst (λ rs. MakesItsStep (disarmed w) (disarmed v) n (site_step setup n rs running input)) (records-armed w n) makes in
      record {
        others = λ m other. same-armed w v m (there.others m other);
        memory = sym (memory-armed v n) ∙ there.memory;
        records = sym (records-armed v n) ∙ (there.records ∙ ap (λ rs. records_after rs (site_step setup n (records_at w n) running input)) (records-armed w n));
        sent = there.sent;
      }

  goes-armed : (w v : World) (event : Event) → Goes setup (disarmed w) event (disarmed v) → Goes setup w event v
  goes-armed w v event (stays same sent) = stays (λ n. same-armed w v n (same n)) sent
  goes-armed w v event (halts m same down sent) = halts m (λ n other. same-armed w v n (same n other)) (sym (memory-armed v m) ∙ down) sent
  goes-armed w v event (opens m same down sent) = opens m (λ n other. same-armed w v n (same n other)) (sym (memory-armed w m) ∙ down) sent
  goes-armed w v event (steps m running input comes up makes) = steps m running input comes (sym (memory-armed w m) ∙ up) (makes-armed w v m running input makes)

  transition-gone : (w : World) (t : Transition) → t ≡ transition_of setup w t.event → IsWellFormed setup.catalog t.event → HasGone setup w t
  transition-gone w t is well =
      let follows : MayFollow setup (disarmed w) (without_arms t) = subst (λ (x : Transition). MayFollow setup (disarmed w) (without_arms x)) (sym is) (transition-may setup w t.event well) in
      record {
        goes = goes-armed w t.world t.event (follow-goes setup (disarmed w) (without_arms t) follows);
        makes = λ n input comes running up still.
            makes-armed w t.world n running input
            (follow-makes setup (disarmed w) (without_arms t) follows n input comes running (memory-armed w n ∙ up) (λ down. still (sym (memory-armed t.world n) ∙ down)));
      }

  pub run-gone : (w : World) (later : List Transition) → AreTransitions setup w later → AreLinks setup w later → AreGone w later
  run-gone w [] are links = tt
  run-gone w (t ∷ later) (transitions.one_more w' t' later' is are) links = (transition-gone w t is links.0.well, run-gone t.world later are links.1)
