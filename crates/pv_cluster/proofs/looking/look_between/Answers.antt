-- The two boxes stand in two parts of the list.
use Rattle.std.proofs.Common.{◌≡◌, ◌<◌, List, ◌++◌, ap, drop, get_or, length, set, sym, subst, take, ◌∙◌, arith}
use Rattle.std.proofs.lemmas.List.{length-append, length-set, with_items_is}
use Rattle.pv_cell.specs.declared.site_box.SiteBox.{SiteBox}
use Rattle.pv_cluster.proofs.LookLemmas.{brought-at, linked-places, linked-ring}
use Rattle.pv_cluster.proofs.StillLemmas.{at-seam, in-front, parts-still}
use Rattle.pv_cluster.proofs.looking.look_between.Goals as goal
use Rattle.pv_cluster.specs.Looks.{AllStill}

pub look_at_both-requires-clause-places : goal.look_at_both-requires-clause-places
look_at_both-requires-clause-places g c =
    let boxes = c.args.boxes.now.items in
    let front = c.split_at_mut-before.result.0.now in
    let behind = c.split_at_mut-before.result.1.now in
    let x = c.index-before-first.result in
    let w = c.index-behind-0.result in
    let one = get_or front c.args.first x in
    let other = get_or behind 0 w in
    let fronts : front ≡ take c.args.second boxes =
    c.split_at_mut-before.ensures.front ∙ ap (λ (l : List (SiteBox _)). take c.args.second l) c.deref_mut.ensures.value in
    let behinds : behind ≡ drop c.args.second boxes =
    c.split_at_mut-before.ensures.back ∙ ap (λ (l : List (SiteBox _)). drop c.args.second l) c.deref_mut.ensures.value in
    let below = c.requires.places.0 in
    let within = c.requires.places.1 in
    linked-places boxes c.args.first c.args.second one c.requires.linked (omega (arith, below, within)) within
    (in-front boxes front c.args.first c.args.second x one fronts below within)

pub look_at_both-requires-clause-others : goal.look_at_both-requires-clause-others
look_at_both-requires-clause-others g c =
    let boxes = c.args.boxes.now.items in
    let front = c.split_at_mut-before.result.0.now in
    let behind = c.split_at_mut-before.result.1.now in
    let x = c.index-before-first.result in
    let w = c.index-behind-0.result in
    let one = get_or front c.args.first x in
    let other = get_or behind 0 w in
    let fronts : front ≡ take c.args.second boxes =
    c.split_at_mut-before.ensures.front ∙ ap (λ (l : List (SiteBox _)). take c.args.second l) c.deref_mut.ensures.value in
    let behinds : behind ≡ drop c.args.second boxes =
    c.split_at_mut-before.ensures.back ∙ ap (λ (l : List (SiteBox _)). drop c.args.second l) c.deref_mut.ensures.value in
    let below = c.requires.places.0 in
    let within = c.requires.places.1 in
    linked-places boxes c.args.second c.args.first other c.requires.linked within (omega (arith, below, within))
    (at-seam boxes behind c.args.second w other behinds within)

pub look_at_both-requires-clause-rings : goal.look_at_both-requires-clause-rings
look_at_both-requires-clause-rings g c =
    let boxes = c.args.boxes.now.items in
    let front = c.split_at_mut-before.result.0.now in
    let behind = c.split_at_mut-before.result.1.now in
    let x = c.index-before-first.result in
    let w = c.index-behind-0.result in
    let one = get_or front c.args.first x in
    let other = get_or behind 0 w in
    let fronts : front ≡ take c.args.second boxes =
    c.split_at_mut-before.ensures.front ∙ ap (λ (l : List (SiteBox _)). take c.args.second l) c.deref_mut.ensures.value in
    let behinds : behind ≡ drop c.args.second boxes =
    c.split_at_mut-before.ensures.back ∙ ap (λ (l : List (SiteBox _)). drop c.args.second l) c.deref_mut.ensures.value in
    let below = c.requires.places.0 in
    let within = c.requires.places.1 in
    let first_in : c.args.first < length boxes = omega (arith, below, within) in (
      linked-ring boxes c.args.first c.args.second one other c.requires.linked first_in within
          (in-front boxes front c.args.first c.args.second x one fronts below within) (at-seam boxes behind c.args.second w one behinds within),
      linked-ring boxes c.args.second c.args.first other one c.requires.linked within first_in (at-seam boxes behind c.args.second w other behinds within)
          (in-front boxes front c.args.first c.args.second x other fronts below within),
    )

pub returns-clause-still : goal.returns-clause-still
returns-clause-still g c =
    let boxes = c.args.boxes.now.items in
    let front = c.split_at_mut-before.result.0.now in
    let behind = c.split_at_mut-before.result.1.now in
    let x = c.index-before-first.result in
    let w = c.index-behind-0.result in
    let one = get_or front c.args.first x in
    let other = get_or behind 0 w in
    let fronts : front ≡ take c.args.second boxes =
    c.split_at_mut-before.ensures.front ∙ ap (λ (l : List (SiteBox _)). take c.args.second l) c.deref_mut.ensures.value in
    let behinds : behind ≡ drop c.args.second boxes =
    c.split_at_mut-before.ensures.back ∙ ap (λ (l : List (SiteBox _)). drop c.args.second l) c.deref_mut.ensures.value in
    let below = c.requires.places.0 in
    let within = c.requires.places.1 in
    let y = c.look_at_both.new.one in
    let z = c.look_at_both.new.other in
    let left = set front c.args.first y ++ set behind 0 z in
    let long : length left ≡ c.args.boxes.now.len =
    omega (
      arith,
      length-append (set front c.args.first y) (set behind 0 z),
      length-set front c.args.first y,
      length-set behind 0 z,
      c.split_at_mut-before.ensures.front_len,
      c.split_at_mut-before.ensures.back_len,
      c.deref_mut.ensures.len,
    ) in
    subst (λ (all : List (SiteBox _)). AllStill boxes all) (sym (with_items_is c.args.boxes.now left long))
    (parts-still boxes front behind c.args.first c.args.second x y w z fronts behinds below within c.look_at_both.ensures.one c.look_at_both.ensures.other)

pub returns-clause-on : goal.returns-clause-on
returns-clause-on g c = λ any.
    let boxes = c.args.boxes.now.items in
    let front = c.split_at_mut-before.result.0.now in
    let behind = c.split_at_mut-before.result.1.now in
    let x = c.index-before-first.result in
    let w = c.index-behind-0.result in
    let one = get_or front c.args.first x in
    let other = get_or behind 0 w in
    let fronts : front ≡ take c.args.second boxes =
    c.split_at_mut-before.ensures.front ∙ ap (λ (l : List (SiteBox _)). take c.args.second l) c.deref_mut.ensures.value in
    let behinds : behind ≡ drop c.args.second boxes =
    c.split_at_mut-before.ensures.back ∙ ap (λ (l : List (SiteBox _)). drop c.args.second l) c.deref_mut.ensures.value in
    let below = c.requires.places.0 in
    let within = c.requires.places.1 in
    brought-at boxes c.args.first c.args.second one other any (in-front boxes front c.args.first c.args.second x any fronts below within)
    (at-seam boxes behind c.args.second w any behinds within) c.look_at_both.ensures.on

pub returns-clause-back : goal.returns-clause-back
returns-clause-back g c = λ any.
    let boxes = c.args.boxes.now.items in
    let front = c.split_at_mut-before.result.0.now in
    let behind = c.split_at_mut-before.result.1.now in
    let x = c.index-before-first.result in
    let w = c.index-behind-0.result in
    let one = get_or front c.args.first x in
    let other = get_or behind 0 w in
    let fronts : front ≡ take c.args.second boxes =
    c.split_at_mut-before.ensures.front ∙ ap (λ (l : List (SiteBox _)). take c.args.second l) c.deref_mut.ensures.value in
    let behinds : behind ≡ drop c.args.second boxes =
    c.split_at_mut-before.ensures.back ∙ ap (λ (l : List (SiteBox _)). drop c.args.second l) c.deref_mut.ensures.value in
    let below = c.requires.places.0 in
    let within = c.requires.places.1 in
    brought-at boxes c.args.second c.args.first other one any (at-seam boxes behind c.args.second w any behinds within)
    (in-front boxes front c.args.first c.args.second x any fronts below within) c.look_at_both.ensures.back
