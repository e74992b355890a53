-- All but the top stay.
use Rattle.std.proofs.Common.{◌≡◌, ◌<◌, ℕ, List, Some, length, arith, sym, subst}
use Rattle.std.specs.Prelude.{map, slice_get}
use Rattle.std.specs.List.{Contains}
use Rattle.pv_outbox.proofs.QueueLemmas.{dropped-fewer, dropped-others}
use Rattle.pv_outbox.proofs.candidates.Candidates.drop_first.Goals as goal

pub returns-clause-others : goal.returns-clause-others
returns-clause-others c = λ there is other.
    dropped-others (λ place. place.0) _ c.pop.result c.self.inside.places.data.items c.pop.new.self.data.items c.pop.ensures.top c.pop.ensures.permutation c.pop.ensures.unchanged there
    (subst (λ (places : List ℕ). Contains places there) (sym c.self.view_is) is)
    (λ top. other (subst (λ (places : List ℕ). slice_get places 0 ≡ Some there) c.self.view_is top))

pub returns-clause-fewer : goal.returns-clause-fewer
returns-clause-fewer c = λ some.
    subst (λ (places : List ℕ). length (map (λ place. place.0) c.pop.new.self.data.items) < length places) c.self.view_is
    (dropped-fewer (λ place. place.0) c.pop.result c.self.inside.places.data.items c.pop.new.self.data.items c.self.inside.places.data.len
    (omega (arith, c.self.inside.places.data.ok)) c.pop.ensures.permutation c.pop.ensures.none
    (subst (λ (places : List ℕ). 0 < length places) (sym c.self.view_is) some))
