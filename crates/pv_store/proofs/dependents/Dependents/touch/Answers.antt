-- The item is among those whose values name the transaction, and nothing is lost.
use Rattle.std.proofs.Common.{◌≡◌, ◌∙◌, ◌==◌, ◌||◌, true, Some, None, ap, sym, subst}
use Rattle.std.specs.Prelude.{if◌then◌else◌}
use Rattle.std.specs.Option.{option_copied_mut, is_some}
use Rattle.std.specs.Map.{lookup}
use Rattle.std.proofs.lemmas.Bool.{false≢true}
use Rattle.pv_base.proofs.AssignmentLemmas.{same-refl}
use Rattle.pv_base.specs.Assignment.{is_same_txn}
use Rattle.pv_store.specs.Kept.{has_place}
use Rattle.pv_store.specs.PlacesView.{Index}
use Rattle.pv_store.specs.StandingHere.{StandingHere, places_in}
use Rattle.pv_store.proofs.MapFacts.{is_key, place-change, place-found, place-more}
use Rattle.pv_store.proofs.dependents.Dependents.touch.Goals as goal

pub touch-requires : goal.touch-requires
touch-requires c =
    let found : lookup (is_key c.args.txn) c.self.inside.items.entries ≡ Some c.in-Some.items.now = sym c.get_mut.ensures.value ∙ ap option_copied_mut c.in-Some.is in
    sym (place-found places_in c.self.inside.items.entries c.args.txn (Some c.in-Some.items.now) found c.args.txn c.args.item.0 (same-refl c.args.txn))
    ∙ subst (λ (index : Index). has_place index.places c.args.txn c.args.item.0 ≡ true) (sym c.self.view_is) c.requires

-- There is an entry, since the item has a place.
pub returns-in_default-clause-more : goal.returns-in_default-clause-more
returns-in_default-clause-more c =
    let none : lookup (is_key c.args.txn) c.self.inside.items.entries ≡ None = sym c.get_mut.ensures.value ∙ ap option_copied_mut c.in_default.is in
    absurd (false≢true
    (sym (place-found places_in c.self.inside.items.entries c.args.txn None none c.args.txn c.args.item.0 (same-refl c.args.txn))
    ∙ subst (λ (index : Index). has_place index.places c.args.txn c.args.item.0 ≡ true) (sym c.self.view_is) c.requires))

pub returns-in_default-clause-touched : goal.returns-in_default-clause-touched
returns-in_default-clause-touched c =
    let none : lookup (is_key c.args.txn) c.self.inside.items.entries ≡ None = sym c.get_mut.ensures.value ∙ ap option_copied_mut c.in_default.is in
    absurd (false≢true
    (sym (place-found places_in c.self.inside.items.entries c.args.txn None none c.args.txn c.args.item.0 (same-refl c.args.txn))
    ∙ subst (λ (index : Index). has_place index.places c.args.txn c.args.item.0 ≡ true) (sym c.self.view_is) c.requires))

pub returns-clause-more : goal.returns-clause-more
returns-clause-more c =
    let map = c.self.inside.items in
    let set = c.touch.new.self in
    let found : lookup (is_key c.args.txn) map.entries ≡ Some c.in-Some.items.now = sym c.get_mut.ensures.value ∙ ap option_copied_mut c.in-Some.is in
    let updates = ((c.get_mut.follows.holds set).3 (ap is_some found)).0 in
    λ other there is.
    place-more places_in map.entries (c.get_mut.follows.lender set).entries c.args.txn (Some c.in-Some.items.now) (Some set) found updates c.touch.ensures.more
    other there (subst (λ (index : Index). has_place index.places other there ≡ true) (sym c.self.view_is) is)

pub returns-clause-touched : goal.returns-clause-touched
returns-clause-touched c =
    let map = c.self.inside.items in
    let set = c.touch.new.self in
    let found : lookup (is_key c.args.txn) map.entries ≡ Some c.in-Some.items.now = sym c.get_mut.ensures.value ∙ ap option_copied_mut c.in-Some.is in
    let updates = ((c.get_mut.follows.holds set).3 (ap is_some found)).0 in
    λ other there.
    place-change (λ (standing : StandingHere). standing.named) map.entries (c.get_mut.follows.lender set).entries c.args.txn (Some c.in-Some.items.now) (Some set) found updates
    (λ item had. item == c.args.item.0 || had) c.touch.ensures.named other there
    ∙ ap (λ (index : Index). if is_same_txn other c.args.txn then there == c.args.item.0 || has_place index.touched other there else has_place index.touched other there) c.self.view_is
