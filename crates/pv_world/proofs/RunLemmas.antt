-- A run that goes on, and what holds where it ends.
use Rattle.std.proofs.Common.{◌≡◌, ℕ, List, [], ◌∷◌, ◌++◌, append_assoc, refl, sym, ap, ◌∙◌, subst}
use Rattle.std.specs.Prelude.{All}
use Rattle.std.proofs.lemmas.List.{append-nil}
use Rattle.std.proofs.lemmas.List.Elements.{All-append, All-cons, All-nil, All-head, All-tail}
use Rattle.pv_model.specs.Events.{Event}
use Rattle.pv_protocol.specs.Run.{run, transitions_of, world_after, worlds_of}
use Rattle.pv_protocol.specs.State.{Setup}
use Rattle.pv_protocol.specs.WellFormed.{IsWellFormed}
use Rattle.pv_protocol.specs.World.{World, opening}
use Rattle.pv_protocol.specs.WorldStep.{Transition}
use Rattle.pv_law_world.proofs.AppendLemmas.{run-append, world_after-append}
use Rattle.pv_world.specs.Reached.{IsReached}

-- The world where a run ends.
module _ (setup : Setup) (events : List Event) where
  abbrev End : World
  End = world_after (opening setup) (run setup (opening setup) events)

  end-more : (event : Event) → world_after End (transitions_of setup End event) ≡ world_after (opening setup) (run setup (opening setup) (events ++ event ∷ []))
  end-more event =
      sym (ap (λ (transitions : List Transition). world_after (opening setup) transitions) (run-append setup (opening setup) events (event ∷ []))
      ∙ world_after-append (opening setup) (run setup (opening setup) events) (transitions_of setup End event ++ [])
      ∙ ap (λ (transitions : List Transition). world_after End transitions) (append-nil (transitions_of setup End event)))

  end-reached : All (IsWellFormed setup.catalog) events → (event : Event) → IsWellFormed setup.catalog event → IsReached setup (world_after End (transitions_of setup End event))
  end-reached well event good = record {
    events = events ++ event ∷ [];
    well = All-append (IsWellFormed setup.catalog) events (event ∷ []) well (All-cons (IsWellFormed setup.catalog) event [] good (All-nil (IsWellFormed setup.catalog)));
    ends = end-more event;
  }

-- One more event of a run.
pub reached-after : (setup : Setup) (world : World) (event : Event) → IsReached setup world → IsWellFormed setup.catalog event
    → IsReached setup (world_after world (transitions_of setup world event))
reached-after setup world event reached good =
    subst (λ (w : World). IsReached setup (world_after w (transitions_of setup w event))) (sym reached.ends) (end-reached setup reached.events reached.well event good)

pub reached-opening : (setup : Setup) → IsReached setup (opening setup)
reached-opening setup = record { events = []; well = All-nil (IsWellFormed setup.catalog); ends = refl }

-- What holds of all worlds of a run holds of the last one.
pub last-of : (P : World → Type 0) (first : World) (transitions : List Transition) → All P (worlds_of first transitions) → P (world_after first transitions)
last-of P first [] all = All-head P first [] all
last-of P first (transition ∷ transitions) all =
    last-of P transition.world transitions (All-tail P first (worlds_of transition.world transitions) all)

-- The worlds of a run end with the last one.
pub record EndWith (worlds : List World) (world : World) : Type 0 where
  pub before : List World
  pub is : worlds ≡ before ++ world ∷ []

pub end-with : (first : World) (transitions : List Transition) → EndWith (worlds_of first transitions) (world_after first transitions)
end-with first [] = record { before = []; is = refl }
end-with first (transition ∷ transitions) =
    let rest : EndWith (worlds_of transition.world transitions) (world_after transition.world transitions) = end-with transition.world transitions in
    record { before = first ∷ rest.before; is = ap (λ (worlds : List World). first ∷ worlds) rest.is }
