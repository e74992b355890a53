-- The item isn't among those whose values name the transaction, and nothing is lost.
use Rattle.std.proofs.Common.{◌≡◌, ◌∙◌, ◌==◌, ◌&&◌, not, true, Some, None, ap, sym, subst}
use Rattle.std.specs.Prelude.{if◌then◌else◌}
use Rattle.std.specs.Option.{option_copied_mut, is_some}
use Rattle.std.specs.Map.{lookup}
use Rattle.indexmap.specs.IndexMap.{IndexMap}
use Rattle.pv_base.specs.Assignment.{is_same_txn}
use Rattle.pv_store.specs.Kept.{has_place}
use Rattle.pv_store.specs.PlacesView.{Index, places_of, touched_of}
use Rattle.pv_store.specs.StandingHere.{StandingHere, places_in}
use Rattle.pv_store.proofs.MapFacts.{is_key, place-absent, place-change, place-more}
use Rattle.pv_store.proofs.dependents.Dependents.leave.Goals as goal

-- Where there is no entry, the map stays as it is.
pub returns-in_default-clause-more : goal.returns-in_default-clause-more
returns-in_default-clause-more c = λ other there is.
    ap (λ (map : IndexMap _ _ _). has_place (places_of map.entries) other there) c.get_mut.follows.holds-at-none
    ∙ subst (λ (index : Index). has_place index.places other there ≡ true) (sym c.self.view_is) is

pub returns-in_default-clause-touched : goal.returns-in_default-clause-touched
returns-in_default-clause-touched c =
    let none : lookup (is_key c.args.txn) c.self.inside.items.entries ≡ None = sym c.get_mut.ensures.value ∙ ap option_copied_mut c.in_default.is in
    λ other there.
    ap (λ (map : IndexMap _ _ _). has_place (touched_of map.entries) other there) c.get_mut.follows.holds-at-none
    ∙ place-absent (λ (standing : StandingHere). standing.named) c.self.inside.items.entries c.args.txn none (λ item. not (item == c.args.item.0)) other there
    ∙ ap (λ (index : Index). if is_same_txn other c.args.txn then not (there == c.args.item.0) && has_place index.touched other there else has_place index.touched other there) c.self.view_is

pub returns-clause-more : goal.returns-clause-more
returns-clause-more c =
    let map = c.self.inside.items in
    let set = c.leave.new.self in
    let found : lookup (is_key c.args.txn) map.entries ≡ Some c.in-Some.items.now = sym c.get_mut.ensures.value ∙ ap option_copied_mut c.in-Some.is in
    let updates = ((c.get_mut.follows.holds set).3 (ap is_some found)).0 in
    λ other there is.
    place-more places_in map.entries (c.get_mut.follows.lender set).entries c.args.txn (Some c.in-Some.items.now) (Some set) found updates c.leave.ensures.more
    other there (subst (λ (index : Index). has_place index.places other there ≡ true) (sym c.self.view_is) is)

pub returns-clause-touched : goal.returns-clause-touched
returns-clause-touched c =
    let map = c.self.inside.items in
    let set = c.leave.new.self in
    let found : lookup (is_key c.args.txn) map.entries ≡ Some c.in-Some.items.now = sym c.get_mut.ensures.value ∙ ap option_copied_mut c.in-Some.is in
    let updates = ((c.get_mut.follows.holds set).3 (ap is_some found)).0 in
    λ other there.
    place-change (λ (standing : StandingHere). standing.named) map.entries (c.get_mut.follows.lender set).entries c.args.txn (Some c.in-Some.items.now) (Some set) found updates
    (λ item had. not (item == c.args.item.0) && had) c.leave.ensures.named other there
    ∙ ap (λ (index : Index). if is_same_txn other c.args.txn then not (there == c.args.item.0) && has_place index.touched other there else has_place index.touched other there) c.self.view_is
