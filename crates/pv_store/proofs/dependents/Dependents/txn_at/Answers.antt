-- The key at the place is the transaction of the place.
use Rattle.std.proofs.Common.{◌≡◌, ◌∙◌, zero, suc, ℕ, Some, List, [], ◌∷◌, ap, sym}
use Rattle.std.specs.Prelude.{slice_get}
use Rattle.std.specs.Option.{option_map}
use Rattle.std.proofs.lemmas.Option.{none-some}
use Rattle.pv_base.specs.declared.txn.TxnId.{TxnId}
use Rattle.pv_store.specs.Kept.{txns_of}
use Rattle.pv_store.specs.PlacesView.{Index, places_of}
use Rattle.pv_store.specs.StandingHere.{StandingHere}
use Rattle.pv_store.proofs.dependents.Dependents.txn_at.Goals as goal

at-place : (entries : List (TxnId × StandingHere)) (place : ℕ) (entry : TxnId × StandingHere) → slice_get entries place ≡ Some entry
    → slice_get (txns_of (places_of entries)) place ≡ Some entry.0
at-place [] place entry at = absurd (none-some entry at)
at-place (first ∷ entries) zero entry at = let same : Some first ≡ Some entry = at in ap (option_map (λ (e : TxnId × StandingHere). e.0)) same
at-place (first ∷ entries) (suc place) entry at = at-place entries place entry at

pub returns : goal.returns
returns c =
    ap (λ (index : Index). slice_get (txns_of index.places) c.args.place) (sym c.self.view_is)
    ∙ at-place c.self.inside.items.entries c.args.place (c.unwrap.result.0.now, c.unwrap.result.1.now)
    (sym c.get_index.ensures.entry ∙ ap (option_map _) c.unwrap.ensures)
