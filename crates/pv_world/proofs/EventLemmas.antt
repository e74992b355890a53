-- What an event that isn't a pump, and what deliveries make of a world.
use Rattle.std.proofs.Common.{◌≡◌, ℕ, false, List, [], ◌∷◌, ◌++◌, Some, None, refl, sym, ap, subst, ◌∙◌}
use Rattle.std.specs.Prelude.{Result, Ok, Err, slice_get, ⊤}
use Rattle.std.proofs.lemmas.List.{append-nil}
use Rattle.pv_base.specs.Catalog.{Declared}
use Rattle.pv_model.specs.Events.{Event, pump, deliver}
use Rattle.pv_model.specs.Syntax.{Program}
use Rattle.pv_protocol.specs.Attempt.{begun, delivered, given, opened}
use Rattle.pv_protocol.specs.Lines as protocol
use Rattle.pv_protocol.specs.Run.{transitions_of, world_after}
use Rattle.pv_protocol.specs.Sound.{IsSetupInRange}
use Rattle.pv_protocol.specs.State as state
use Rattle.pv_protocol.specs.State.{Setup}
use Rattle.pv_protocol.specs.WellFormed.{CanRun, HasSite, IsWellFormed}
use Rattle.pv_protocol.specs.World as model
use Rattle.pv_protocol.specs.World.{site_at}
use Rattle.pv_protocol.specs.WorldStep.{Transition, ended, transition_of}
use Rattle.pv_script.specs.declared.line.Line.{Line}
use Rattle.pv_site.specs.SiteState.{setup_of}
use Rattle.pv_world.proofs.RunLemmas.{reached-after}
use Rattle.pv_world.specs.Reached.{IsReached}
use Rattle.pv_world.specs.Stands.{Stands, StandsFor}
use Rattle.pv_world.specs.Steps.{Becomes, Comes, IsSameBeside, MakesTransitions, lines_of}
use Rattle.pv_world.specs.declared.error.WorldError.{WorldError}
use Rattle.pv_world.specs.declared.error.WorldError.TheVariants.{SentLimit, NoMemory}
use Rattle.pv_world.specs.declared.world.World.{World}

-- The event isn't a pump.
abbrev pub IsNoPump : Event → Type 0
IsNoPump (pump most) = ⊥
IsNoPump event = ⊤

-- Such an event is one transition.
pub one-transition : (setup : Setup) (is : model.World) (event : Event) → IsNoPump event → transitions_of setup is event ≡ transition_of setup is event ∷ []
unfolding transitions_of
one-transition setup is (Event.pump None) no_pump = absurd no_pump
one-transition setup is (Event.pump (Some most)) no_pump = absurd no_pump
one-transition setup is event no_pump = refl

-- One such event more of a run.
module _ (setup : Setup) (is : model.World) (reached : IsReached setup is) where
  reached-once : (event : Event) → IsNoPump event → IsWellFormed setup.catalog event → IsReached setup (ended (begun setup is event)).1
  unfolding transition_of
  reached-once event no_pump well =
      subst (λ (transitions : List Transition). IsReached setup (world_after is transitions)) (one-transition setup is event no_pump)
      (reached-after setup is event reached well)

  -- A request, a message that is delivered, a tick, and a start.
  pub reached-submitted : (n : ℕ) (program : Program) → HasSite setup.catalog n → CanRun setup.catalog program
      → IsReached setup (ended (given setup is n (state.submit program) (site_at is n).running)).1
  unfolding begun
  reached-submitted n program there runs = reached-once (Event.submit n false [] program) tt (there, runs)

  pub reached-delivered : (n : ℕ) → IsReached setup (ended (delivered setup is n (slice_get is.sent n))).1
  unfolding begun
  reached-delivered n = reached-once (deliver n) tt tt

  pub reached-ticked : (n : ℕ) → HasSite setup.catalog n → IsReached setup (ended (given setup is n state.tick (site_at is n).running)).1
  unfolding begun
  reached-ticked n there = reached-once (Event.tick n) tt there

  pub reached-started : (n : ℕ) → HasSite setup.catalog n → IsReached setup (ended (opened setup is n (site_at is n).running)).1
  unfolding begun
  reached-started n there = reached-once (Event.start n) tt there

module _ (old new : World) (before after : List Line) (is : model.World) (stands : StandsFor old is) where
  -- The world stands for the one after a transition.
  pub stands-after : (next : model.World) → IsReached (setup_of old.catalog) next → IsSameBeside old new → Stands new next → StandsFor new next
  stands-after next reached same now = record {
    stands = now;
    range = subst (λ (c : Declared). IsSetupInRange (setup_of c)) (sym same.catalog) stands.range;
    reached = subst (λ (c : Declared). IsReached (setup_of c) next) (sym same.catalog) reached;
  }

  made-one : {X : Type 0} (transition : Transition) (result : Result X WorldError) → IsReached (setup_of old.catalog) transition.world
      → Becomes old new before after transition.world transition.lines result → MakesTransitions old new before after is (transition ∷ []) result
  made-one transition (Ok x) reached becomes = (
    stands-after transition.world reached becomes.1 becomes.0,
    becomes.1,
    becomes.2 ∙ ap (λ (lines : List protocol.Line). lines_of before ++ lines) (sym (append-nil transition.lines)),
  )
  made-one transition (Err (SentLimit total)) reached becomes = becomes
  made-one transition (Err NoMemory) reached becomes = tt

  pub made-once : {X : Type 0} (event : Event) (result : Result X WorldError) → IsWellFormed old.catalog event → IsNoPump event
      → Comes old new before after (begun (setup_of old.catalog) is event) result
      → MakesTransitions old new before after is (transition_of (setup_of old.catalog) is event ∷ []) result
  unfolding transition_of
  made-once event result well no_pump comes =
      made-one (transition_of (setup_of old.catalog) is event) result
      (subst (λ (transitions : List Transition). IsReached (setup_of old.catalog) (world_after is transitions)) (one-transition (setup_of old.catalog) is event no_pump)
      (reached-after (setup_of old.catalog) is event stands.reached well)) comes

  pub made-event : {X : Type 0} (event : Event) (result : Result X WorldError) → IsWellFormed old.catalog event → IsNoPump event
      → Comes old new before after (begun (setup_of old.catalog) is event) result
      → MakesTransitions old new before after is (transitions_of (setup_of old.catalog) is event) result
  made-event event result well no_pump comes =
      subst (λ (transitions : List Transition). MakesTransitions old new before after is transitions result) (sym (one-transition (setup_of old.catalog) is event no_pump))
      (made-once event result well no_pump comes)

  pub made-delivery : {X : Type 0} (n : ℕ) (result : Result X WorldError) → Comes old new before after (delivered (setup_of old.catalog) is n (slice_get is.sent n)) result
      → MakesTransitions old new before after is (transition_of (setup_of old.catalog) is (deliver n) ∷ []) result
  unfolding begun
  made-delivery n result comes = made-once (deliver n) result tt tt comes
