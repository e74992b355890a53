use Rattle.std.proofs.Common.{◌≡◌, [], ◌∷◌, ◌++◌, length, sym, ap, subst, ◌∙◌, append_assoc, append-nil, arith}
use Rattle.std.proofs.lemmas.List.{nil_from_length}
use Rattle.pv_crew.specs.Dealing.{AreDealt, AreEmpty}
use Rattle.pv_crew.proofs.DealingLemmas.{dealt-first}
use Rattle.pv_crew.proofs.dealing.deal_all.Goals as goal

pub empty_rounds-requires : goal.empty_rounds-requires
empty_rounds-requires g c =
    let some = c.requires.values in
    let sites = c.len-sites.ensures in
    let long = c.args.values.ok.0 in
    omega arith

pub loop-value-init : goal.loop-value-init
loop-value-init g c =
    let values = c.args.values.items in
    let rounds = c.in_ok-rounds.rounds.items in (
      c.into_iter-value-iterator.ensures.into_iter_gives.0,
      dealt-first g.V.Entries.entries (length values) c.args.workers c.new-turns.result.items rounds c.requires.values c.new-turns.ensures.items
          (subst (λ n. AreEmpty n c.args.workers rounds) (c.len-sites.ensures ∙ c.args.values.ok.0) c.in_ok-rounds.ensures),
    )

pub deal-requires-clause-rounds : goal.deal-requires-clause-rounds
deal-requires-clause-rounds g c = c.loop-value.invariant.1.0

pub loop-value-preserved : goal.loop-value-preserved
loop-value-preserved g c =
    let kept = c.loop-value.invariant in
    let done = c.loop-value.yielded in (
      append_assoc done (c.in-Some.value ∷ []) c.next.new.self.rest.items ∙ ap (λ l. done ++ l) (sym c.in-Some.ensures.steps.0) ∙ kept.0,
      c.in_ok-deal.ensures (length c.args.values.items) done kept.1,
    )

pub returns : goal.returns
returns g c =
    let kept = c.loop-value.invariant in
    let done = c.loop-value.yielded in
    let rest = c.loop-value.value-iterator.rest in
    let none : rest.items ≡ [] = nil_from_length rest.items (sym rest.ok.0 ∙ c.in-None.ensures.steps.0) in
    subst (λ l. AreDealt g.V.Entries.entries (length c.args.values.items) c.args.workers l c.loop-value.turns.items c.loop-value.rounds.items)
    (sym (append-nil done) ∙ ap (λ l. done ++ l) (sym none) ∙ kept.0) kept.1
