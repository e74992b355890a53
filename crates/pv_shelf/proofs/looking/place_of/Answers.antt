-- The item is found.
use Rattle.std.proofs.Common.{◌≡◌, ℕ, Some, slice_get, ap, subst}
use Rattle.core.specs.Result.{is_ok}
use Rattle.pv_shelf.proofs.PlaceLemmas.{found-place}
use Rattle.pv_shelf.proofs.looking.place_of.Goals as goal

pub unwrap-requires : goal.unwrap-requires
unwrap-requires c =
    ap is_ok (found-place c.args.items.now c.args.item.0 c.binary_search.result c.binary_search.ensures.position c.requires.ascending c.requires.item).1

pub returns : goal.returns
returns c =
    let found = found-place c.args.items.now c.args.item.0 c.binary_search.result c.binary_search.ensures.position c.requires.ascending c.requires.item in
    let here = found.1 in
    let taken = c.unwrap.ensures in
    let same : found.0 ≡ c.unwrap.result = cc in
    subst (λ (place : ℕ). slice_get c.args.items.now place ≡ Some c.args.item.0) same found.2
