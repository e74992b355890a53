-- One box after another is taken apart.
use Rattle.std.proofs.Common.{[], ◌∷◌, ◌++◌, ◌≡◌, map, sym, ap, ◌∙◌, append_assoc, append-nil}
use Rattle.std.proofs.lemmas.List.{map-append, nil_from_length}
use Rattle.pv_cluster_tests.proofs.lived.parts_of.Goals as goal

pub loop-one-init : goal.loop-one-init
loop-one-init g c = (c.into_iter-one-iterator.ensures.into_iter_gives.0, c.new-histories.ensures.items)

pub loop-one-preserved : goal.loop-one-preserved
loop-one-preserved g c =
    let kept = c.loop-one.invariant in
    let done = c.loop-one.yielded in
    let one = c.in-Some.one in (
      append_assoc done (one ∷ []) c.next.new.self.rest.items ∙ ap (λ l. done ++ l) (sym c.in-Some.ensures.steps.0) ∙ kept.0,
      c.in_ok-push.ensures.items ∙ (λ i. kept.1 i ++ c.into_parts-site.ensures.1 i ∷ []) ∙ sym (map-append (λ one. one.history) done (one ∷ [])),
    )

pub returns : goal.returns
returns g c =
    let kept = c.loop-one.invariant in
    let done = c.loop-one.yielded in
    let rest = c.loop-one.one-iterator.rest in
    let none : rest.items ≡ [] = nil_from_length rest.items (sym rest.ok.0 ∙ c.in-None.ensures.steps.0) in
    kept.1 ∙ ap (map (λ one. one.history)) (sym (append-nil done) ∙ ap (λ l. done ++ l) (sym none) ∙ kept.0)
