-- What was there is there still, and so is the place.
use Rattle.std.proofs.Common.{ℕ, List, sym, subst}
use Rattle.std.specs.Prelude.{map}
use Rattle.std.specs.List.{Contains}
use Rattle.pv_outbox.proofs.QueueLemmas.{pushed-kept, pushed-there}
use Rattle.pv_outbox.proofs.candidates.Candidates.put.Goals as goal

pub returns-in_err-push-clause-more : goal.returns-in_err-push-clause-more
returns-in_err-push-clause-more c = λ there is.
    subst (λ items. Contains (map (λ place. place.0) items) there) (sym c.in_err-push.ensures.unchanged.0)
    (subst (λ (places : List ℕ). Contains places there) (sym c.self.view_is) is)

pub returns-clause-more : goal.returns-clause-more
returns-clause-more c = λ there is.
    pushed-kept (λ place. place.0) (record { 0 = c.args.place }) c.self.inside.places.data.items c.push.new.self.data.items c.in_ok-push.ensures.permutation there
    (subst (λ (places : List ℕ). Contains places there) (sym c.self.view_is) is)

pub returns-clause-placed : goal.returns-clause-placed
returns-clause-placed c =
    pushed-there (λ place. place.0) (record { 0 = c.args.place }) c.self.inside.places.data.items c.push.new.self.data.items c.in_ok-push.ensures.permutation
