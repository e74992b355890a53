-- One box after another comes from its turn.
use Rattle.std.proofs.Common.{[], ◌∷◌, ◌++◌, ◌≡◌, sym, ap, subst, ◌∙◌, append_assoc, append-nil}
use Rattle.std.proofs.lemmas.List.{nil_from_length}
use Rattle.pv_rings.specs.Rings.{Each}
use Rattle.pv_cluster.proofs.ListLemmas.{each-none, each-push}
use Rattle.pv_cluster.proofs.serving.from_turns.Goals as goal
use Rattle.pv_cluster.specs.Serving.{WentOn}

pub loop-turn-init : goal.loop-turn-init
loop-turn-init g c = (
  c.into_iter-turn-iterator.ensures.into_iter_gives.0,
  each-none (λ k turn one. WentOn g.L.Log.model turn.1 one) c.new-boxes.result.items c.new-boxes.ensures.items,
)

pub loop-turn-preserved : goal.loop-turn-preserved
loop-turn-preserved g c =
    let kept = c.loop-turn.invariant in
    let done = c.loop-turn.yielded in
    let turn = c.in-Some.turn in
    let one = c.into_box-one.result in (
      append_assoc done (turn ∷ []) c.next.new.self.rest.items ∙ ap (λ l. done ++ l) (sym c.in-Some.ensures.steps.0) ∙ kept.0,
      subst (λ l. Each (λ k turn one. WentOn g.L.Log.model turn.1 one) (done ++ turn ∷ []) l) (sym c.in_ok-push.ensures.items)
          (each-push (λ turn one. WentOn g.L.Log.model turn.1 one) done c.loop-turn.boxes.items turn one kept.1
          ((c.into_box-one.ensures.is_box, c.into_box-one.ensures.course), c.into_box-one.ensures.became)),
    )

pub returns : goal.returns
returns g c =
    let kept = c.loop-turn.invariant in
    let done = c.loop-turn.yielded in
    let rest = c.loop-turn.turn-iterator.rest in
    let none : rest.items ≡ [] = nil_from_length rest.items (sym rest.ok.0 ∙ c.in-None.ensures.steps.0) in
    subst (λ l. Each (λ k turn one. WentOn g.L.Log.model turn.1 one) l c.loop-turn.boxes.items)
    (sym (append-nil done) ∙ ap (λ l. done ++ l) (sym none) ∙ kept.0) kept.1
