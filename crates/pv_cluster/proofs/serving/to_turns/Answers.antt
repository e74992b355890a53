-- One box after another comes to its turn.
use Rattle.std.proofs.Common.{[], ◌∷◌, ◌++◌, ◌≡◌, sym, ap, subst, ◌∙◌, append_assoc, append-nil}
use Rattle.std.proofs.lemmas.List.{nil_from_length}
use Rattle.pv_closing.specs.Closing.{IsWhole}
use Rattle.pv_rings.specs.Rings.{Each}
use Rattle.pv_cluster.proofs.ListLemmas.{all-at, each-none, each-push}
use Rattle.pv_cluster.proofs.serving.to_turns.Goals as goal

pub loop-one-init : goal.loop-one-init
loop-one-init g c = (
  c.into_iter-one-iterator.ensures.into_iter_gives.0,
  each-none (λ k one turn. turn ≡ (one, one)) c.new-turns.result.items c.new-turns.ensures.items,
)

pub new-turn-requires-clause-is_box : goal.new-turn-requires-clause-is_box
new-turn-requires-clause-is_box g c =
    (all-at (IsWhole g.L.Log.model) c.args.boxes.items c.loop-one.yielded c.in-Some.one c.next.new.self.rest.items
    (ap (λ l. c.loop-one.yielded ++ l) (sym c.in-Some.ensures.steps.0) ∙ c.loop-one.invariant.0) c.requires).0

pub new-turn-requires-clause-course : goal.new-turn-requires-clause-course
new-turn-requires-clause-course g c =
    (all-at (IsWhole g.L.Log.model) c.args.boxes.items c.loop-one.yielded c.in-Some.one c.next.new.self.rest.items
    (ap (λ l. c.loop-one.yielded ++ l) (sym c.in-Some.ensures.steps.0) ∙ c.loop-one.invariant.0) c.requires).1

pub loop-one-preserved : goal.loop-one-preserved
loop-one-preserved g c =
    let kept = c.loop-one.invariant in
    let done = c.loop-one.yielded in (
      append_assoc done (c.in-Some.one ∷ []) c.next.new.self.rest.items ∙ ap (λ l. done ++ l) (sym c.in-Some.ensures.steps.0) ∙ kept.0,
      subst (λ l. Each (λ k one turn. turn ≡ (one, one)) (done ++ c.in-Some.one ∷ []) l) (sym c.in_ok-push.ensures.items)
          (each-push (λ one turn. turn ≡ (one, one)) done c.loop-one.turns.items c.in-Some.one c.new-turn.result kept.1 c.new-turn.ensures),
    )

pub returns : goal.returns
returns g c =
    let kept = c.loop-one.invariant in
    let done = c.loop-one.yielded in
    let rest = c.loop-one.one-iterator.rest in
    let none : rest.items ≡ [] = nil_from_length rest.items (sym rest.ok.0 ∙ c.in-None.ensures.steps.0) in
    subst (λ l. Each (λ k one turn. turn ≡ (one, one)) l c.loop-one.turns.items) (sym (append-nil done) ∙ ap (λ l. done ++ l) (sym none) ∙ kept.0) kept.1
