-- The item is among those of the transaction, and nothing is lost.
use Rattle.std.proofs.Common.{◌≡◌, ◌∙◌, true, List, Some, None, Result, Ok, Err, ap, sym, subst}
use Rattle.std.specs.Option.{option_copied_mut, is_some}
use Rattle.std.specs.Result.{OnOk}
use Rattle.std.specs.Map.{lookup}
use Rattle.std.proofs.lemmas.Bool.{false≢true}
use Rattle.indexmap.specs.IndexMap.{IndexMap}
use Rattle.pv_base.specs.declared.txn.TxnId.{TxnId}
use Rattle.pv_store.specs.Kept.{has_place}
use Rattle.pv_store.specs.PlacesView.{Index, places_of, touched_of}
use Rattle.pv_store.specs.StandingHere.{StandingHere, is_one_of, places_in}
use Rattle.pv_store.proofs.MapFacts.{is_key, place-kept, place-more, place-put}
use Rattle.pv_store.proofs.dependents.Dependents.place.Goals as goal

ok-then : {T E P Q : Type 0} (result : Result T E) → (P → Q) → OnOk result P → OnOk result Q
ok-then (Ok x) then_ p = then_ p
ok-then (Err e) then_ p = p

pub returns-in-Some-clause-more : goal.returns-in-Some-clause-more
returns-in-Some-clause-more c =
    let map = c.self.inside.items in
    let set = c.place.new.self in
    let found : lookup (is_key c.args.txn) map.entries ≡ Some c.in-Some.items.now = sym c.get_mut.ensures.value ∙ ap option_copied_mut c.in-Some.is in
    let updates = ((c.get_mut.follows.holds set).3 (ap is_some found)).0 in
    λ other there is.
    place-more places_in map.entries (c.get_mut.follows.lender set).entries c.args.txn (Some c.in-Some.items.now) (Some set) found updates c.place.ensures.more
    other there (subst (λ (index : Index). has_place index.places other there ≡ true) (sym c.self.view_is) is)

pub returns-in-Some-clause-placed : goal.returns-in-Some-clause-placed
returns-in-Some-clause-placed c =
    let map = c.self.inside.items in
    let set = c.place.new.self in
    let found : lookup (is_key c.args.txn) map.entries ≡ Some c.in-Some.items.now = sym c.get_mut.ensures.value ∙ ap option_copied_mut c.in-Some.is in
    let updates = ((c.get_mut.follows.holds set).3 (ap is_some found)).0 in
    ok-then c.place.result (place-put places_in map.entries (c.get_mut.follows.lender set).entries c.args.txn (Some c.in-Some.items.now) (Some set) found updates c.args.item.0) c.place.ensures.placed

pub returns-in-Some-clause-touched : goal.returns-in-Some-clause-touched
returns-in-Some-clause-touched c =
    let map = c.self.inside.items in
    let set = c.place.new.self in
    let found : lookup (is_key c.args.txn) map.entries ≡ Some c.in-Some.items.now = sym c.get_mut.ensures.value ∙ ap option_copied_mut c.in-Some.is in
    let updates = ((c.get_mut.follows.holds set).3 (ap is_some found)).0 in
    λ other there.
    place-kept (λ (standing : StandingHere). standing.named) map.entries (c.get_mut.follows.lender set).entries c.args.txn (Some c.in-Some.items.now) (Some set) found updates
    (λ item. ap (is_one_of item) c.place.ensures.named) other there
    ∙ ap (λ (index : Index). has_place index.touched other there) c.self.view_is

-- Where there was no entry, the map is as it was before the new one.
pub returns-clause-more : goal.returns-clause-more
returns-clause-more c =
    let same = c.get_mut.follows.holds-at-none in
    let none : lookup (is_key c.args.txn) c.self.inside.items.entries ≡ None = sym c.get_mut.ensures.value ∙ ap option_copied_mut c.in_default.is in
    λ other there is.
    place-more places_in (c.get_mut.follows.lender-at-none).entries c.insert.new.self.entries c.args.txn None (Some c.place-2.new.self)
    (ap (λ (map : IndexMap _ _ _). lookup (is_key c.args.txn) map.entries) same ∙ none) c.in_ok-insert.ensures.updates.0
    (λ item h. absurd (false≢true h))
    other there (ap (λ (map : IndexMap _ _ _). has_place (places_of map.entries) other there) same ∙ subst (λ (index : Index). has_place index.places other there ≡ true) (sym c.self.view_is) is)

pub returns-clause-placed : goal.returns-clause-placed
returns-clause-placed c =
    let same = c.get_mut.follows.holds-at-none in
    let none : lookup (is_key c.args.txn) c.self.inside.items.entries ≡ None = sym c.get_mut.ensures.value ∙ ap option_copied_mut c.in_default.is in
    place-put places_in (c.get_mut.follows.lender-at-none).entries c.insert.new.self.entries c.args.txn None (Some c.place-2.new.self)
    (ap (λ (map : IndexMap _ _ _). lookup (is_key c.args.txn) map.entries) same ∙ none) c.in_ok-insert.ensures.updates.0
    c.args.item.0 c.in_ok-place.ensures.placed

pub returns-clause-touched : goal.returns-clause-touched
returns-clause-touched c =
    let same = c.get_mut.follows.holds-at-none in
    let none : lookup (is_key c.args.txn) c.self.inside.items.entries ≡ None = sym c.get_mut.ensures.value ∙ ap option_copied_mut c.in_default.is in
    λ other there.
    place-kept (λ (standing : StandingHere). standing.named) (c.get_mut.follows.lender-at-none).entries c.insert.new.self.entries c.args.txn None (Some c.place-2.new.self)
    (ap (λ (map : IndexMap _ _ _). lookup (is_key c.args.txn) map.entries) same ∙ none) c.in_ok-insert.ensures.updates.0
    (λ item. ap (is_one_of item) (c.in_ok-place.ensures.named ∙ c.new-items.ensures.named)) other there
    ∙ ap (λ (map : IndexMap _ _ _). has_place (touched_of map.entries) other there) same
    ∙ ap (λ (index : Index). has_place index.touched other there) c.self.view_is

-- A new entry that couldn't be made changes nothing.
pub returns-in_err-place-clause-touched : goal.returns-in_err-place-clause-touched
returns-in_err-place-clause-touched c = λ other there.
    ap (λ (map : IndexMap _ _ _). has_place (touched_of map.entries) other there) c.get_mut.follows.holds-at-none
    ∙ ap (λ (index : Index). has_place index.touched other there) c.self.view_is

pub returns-in_err-insert-clause-touched : goal.returns-in_err-insert-clause-touched
returns-in_err-insert-clause-touched c = λ other there.
    ap (λ (entries : List (TxnId × StandingHere)). has_place (touched_of entries) other there) c.in_err-insert.ensures.err
    ∙ ap (λ (map : IndexMap _ _ _). has_place (touched_of map.entries) other there) c.get_mut.follows.holds-at-none
    ∙ ap (λ (index : Index). has_place index.touched other there) c.self.view_is
