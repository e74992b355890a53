-- The item goes behind the others, and nothing is lost.
use Rattle.std.proofs.Common.{◌≡◌, ◌==◌, ◌&&◌, not, ◌∙◌, ◌-◌, List, take, ap, sym, subst}
use Rattle.std.proofs.lemmas.List.{take-append-drop}
use Rattle.pv_base.specs.declared.catalog.ItemId.{ItemId}
use Rattle.pv_store.specs.StandingHere.{is_one_of, places_in, StandingHere}
use Rattle.pv_store.proofs.StandingLemmas.{has-left, is_one_of-apart}
use Rattle.pv_store.proofs.standing.Standing.leave.Goals as goal

pub returns-in_default-clause-named : goal.returns-in_default-clause-named
returns-in_default-clause-named c = λ there.
    let named : c.args.self.now.named ≡ c.split_at.result.0.now =
    ap (λ (standing : StandingHere). standing.named) (sym c.self.view_is) ∙ ap (take c.self.inside.named) (sym c.deref.ensures.value) ∙ sym c.split_at.ensures.front in
    subst (λ (named : List ItemId). is_one_of there named ≡ (not (there == c.args.item.0) && is_one_of there named)) (sym named)
    (is_one_of-apart c.split_at.result.0.now c.in_default.field-0 c.args.item there c.in_default.ensures.apart.0 c.in_default.ensures.apart.1)

pub invariant_of-self : goal.invariant_of-self
invariant_of-self c =
    let n = c.self.inside.named in
    let left = has-left c.self.inside.items.items n c.self.invariant.within c.self.invariant.ascending c.split_at.result.0.now (c.split_at.ensures.front ∙ ap (take n) c.deref.ensures.value)
    c.in-Ok.place c.args.item c.in-Ok.ensures.there c.remove-moved.result c.remove-moved.new.self.items c.push_reserved.new.self.items
    c.remove-moved.ensures.value c.remove-moved.ensures.items c.push_reserved.ensures.items in
    record { within = left.within; ascending = left.ascending }

pub returns-clause-more : goal.returns-clause-more
returns-clause-more c = λ there is.
    let n = c.self.inside.named in
    let items = c.self.inside.items.items in
    let left = has-left items n c.self.invariant.within c.self.invariant.ascending c.split_at.result.0.now (c.split_at.ensures.front ∙ ap (take n) c.deref.ensures.value)
    c.in-Ok.place c.args.item c.in-Ok.ensures.there c.remove-moved.result c.remove-moved.new.self.items c.push_reserved.new.self.items
    c.remove-moved.ensures.value c.remove-moved.ensures.items c.push_reserved.ensures.items in
    ap (is_one_of there) (take-append-drop (n - 1) c.push_reserved.new.self.items)
    ∙ left.same there
    ∙ ap (is_one_of there) (sym (take-append-drop n items))
    ∙ ap (λ (standing : StandingHere). is_one_of there (places_in standing)) c.self.view_is
    ∙ is

pub returns-clause-named : goal.returns-clause-named
returns-clause-named c = λ there.
    let n = c.self.inside.named in
    let left = has-left c.self.inside.items.items n c.self.invariant.within c.self.invariant.ascending c.split_at.result.0.now (c.split_at.ensures.front ∙ ap (take n) c.deref.ensures.value)
    c.in-Ok.place c.args.item c.in-Ok.ensures.there c.remove-moved.result c.remove-moved.new.self.items c.push_reserved.new.self.items
    c.remove-moved.ensures.value c.remove-moved.ensures.items c.push_reserved.ensures.items in
    left.named there ∙ ap (λ (standing : StandingHere). not (there == c.args.item.0) && is_one_of there standing.named) c.self.view_is
