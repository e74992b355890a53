-- What the map finds are the items whose values name the transaction.
use Rattle.std.proofs.Common.{◌∙◌, ap, sym}
use Rattle.std.specs.Option.{option_copied}
use Rattle.pv_store.specs.Kept.{has_place}
use Rattle.pv_store.specs.PlacesView.{Index}
use Rattle.pv_store.specs.StandingHere.{StandingHere, is_one_of}
use Rattle.pv_store.proofs.MapFacts.{is_found, place-lookup}
use Rattle.pv_store.proofs.dependents.Dependents.touched.Goals as goal

pub returns-in-Some-clause-items : goal.returns-in-Some-clause-items
returns-in-Some-clause-items c = λ item.
    ap (is_one_of item) c.named.ensures.items
    ∙ ap (is_found (λ (standing : StandingHere). standing.named) item) (ap option_copied (sym c.in-Some.is) ∙ c.get.ensures.value)
    ∙ sym (place-lookup (λ (standing : StandingHere). standing.named) c.self.inside.items.entries c.args.txn item)
    ∙ ap (λ (index : Index). has_place index.touched c.args.txn item) c.self.view_is

pub returns-in-None-clause-items : goal.returns-in-None-clause-items
returns-in-None-clause-items c = λ item.
    ap (is_found (λ (standing : StandingHere). standing.named) item) (ap option_copied (sym c.in-None.is) ∙ c.get.ensures.value)
    ∙ sym (place-lookup (λ (standing : StandingHere). standing.named) c.self.inside.items.entries c.args.txn item)
    ∙ ap (λ (index : Index). has_place index.touched c.args.txn item) c.self.view_is
