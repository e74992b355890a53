-- The transaction's items are gone, and at other transactions all items stay.
use Rattle.std.proofs.Common.{◌≡◌, ◌∙◌, Bool, false, None, ap, sym}
use Rattle.std.specs.Prelude.{if◌then◌else◌}
use Rattle.pv_base.specs.Assignment.{is_same_txn}
use Rattle.pv_law_step.proofs.ShownLemmas.{if-same}
use Rattle.pv_store.specs.Kept.{has_place}
use Rattle.pv_store.specs.PlacesView.{Index, places_of}
use Rattle.pv_store.specs.StandingHere.{StandingHere, places_in}
use Rattle.pv_store.proofs.MapFacts.{place-nowhere, place-update}
use Rattle.pv_store.proofs.dependents.Dependents.remove.Goals as goal

pub returns-clause-places : goal.returns-clause-places
returns-clause-places c = λ other item apart.
    place-update places_in c.self.inside.items.entries c.swap_remove.new.self.entries c.args.txn None c.swap_remove.ensures.updates.0 other item
    ∙ ap (λ (test : Bool). if test then false else has_place (places_of c.self.inside.items.entries) other item) apart
    ∙ ap (λ (index : Index). has_place index.places other item) c.self.view_is

pub returns-clause-touched : goal.returns-clause-touched
returns-clause-touched c = λ other item.
    place-update (λ (standing : StandingHere). standing.named) c.self.inside.items.entries c.swap_remove.new.self.entries c.args.txn None c.swap_remove.ensures.updates.0 other item
    ∙ ap (λ (index : Index). if is_same_txn other c.args.txn then false else has_place index.touched other item) c.self.view_is

pub returns-then-is_empty-clause-touched : goal.returns-then-is_empty-clause-touched
returns-then-is_empty-clause-touched c = λ other item.
    let nowhere : has_place c.args.self.now.touched other item ≡ false =
    ap (λ (index : Index). has_place index.touched other item) (sym c.self.view_is)
    ∙ place-nowhere (λ (standing : StandingHere). standing.named) c.self.inside.items.entries (c.is_empty.ensures.0 c.if-is_empty.true) other item in
    nowhere ∙ sym (ap (λ (had : Bool). if is_same_txn other c.args.txn then false else had) nowhere ∙ if-same (is_same_txn other c.args.txn) false)
