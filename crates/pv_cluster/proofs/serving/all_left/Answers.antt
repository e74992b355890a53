-- One client after another has ended.
use Rattle.std.proofs.Common.{[], ◌∷◌, ◌++◌, ◌≡◌, sym, ap, subst, ◌∙◌, append_assoc, append-nil}
use Rattle.std.proofs.lemmas.List.{nil_from_length}
use Rattle.pv_rings.specs.Rings.{Each}
use Rattle.pv_cluster.proofs.ListLemmas.{each-none, each-push}
use Rattle.pv_cluster.proofs.serving.all_left.Goals as goal
use Rattle.pv_cluster.specs.Serving.{IsLeftOf}

pub loop-client-init : goal.loop-client-init
loop-client-init c = (
  c.into_iter-client-iterator.ensures.into_iter_gives.0,
  each-none (λ k client ended. IsLeftOf client ended) c.new-left.result.items c.new-left.ensures.items,
)

pub loop-client-preserved : goal.loop-client-preserved
loop-client-preserved c =
    let kept = c.loop-client.invariant in
    let done = c.loop-client.yielded in
    let client = c.in-Some.client in (
      append_assoc done (client ∷ []) c.next.new.self.rest.items ∙ ap (λ l. done ++ l) (sym c.in-Some.ensures.steps.0) ∙ kept.0,
      subst (λ l. Each (λ k client ended. IsLeftOf client ended) (done ++ client ∷ []) l) (sym c.in_ok-push.ensures.items)
          (each-push IsLeftOf done c.loop-client.left.items client c.left_of-ended.result kept.1 c.left_of-ended.ensures),
    )

pub returns : goal.returns
returns c =
    let kept = c.loop-client.invariant in
    let done = c.loop-client.yielded in
    let rest = c.loop-client.client-iterator.rest in
    let none : rest.items ≡ [] = nil_from_length rest.items (sym rest.ok.0 ∙ c.in-None.ensures.steps.0) in
    subst (λ l. Each (λ k client ended. IsLeftOf client ended) l c.loop-client.left.items)
    (sym (append-nil done) ∙ ap (λ l. done ++ l) (sym none) ∙ kept.0) kept.1
