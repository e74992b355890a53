-- The top of the heap.
use Rattle.std.proofs.Common.{◌≤◌, ℕ, List, ap, subst, sym, ◌∙◌}
use Rattle.std.specs.Prelude.{All, slice_get}
use Rattle.pv_outbox.proofs.QueueLemmas.{none-there, top-least, top-there}
use Rattle.pv_outbox.proofs.candidates.Candidates.first.Goals as goal

pub returns-in-Some-clause-first : goal.returns-in-Some-clause-first
returns-in-Some-clause-first c =
    ap (λ (places : List ℕ). slice_get places 0) (sym c.self.view_is)
    ∙ top-there (λ place. place.0) c.self.inside.places.data.items c.in-Some.place.now c.in-Some.ensures.item.3.0 c.in-Some.ensures.lookup

pub returns-in-Some-clause-least : goal.returns-in-Some-clause-least
returns-in-Some-clause-least c =
    subst (All (λ n. c.in-Some.place.now.0 ≤ n)) c.self.view_is
    (top-least (λ place. place.0) c.in-Some.place.now c.self.inside.places.data.items (c.in-Some.ensures.greatest c.self.invariant))

pub returns-in-None-clause-first : goal.returns-in-None-clause-first
returns-in-None-clause-first c =
    sym c.self.view_is ∙ none-there (λ place. place.0) c.self.inside.places.data.items c.in-None.ensures.item.3
