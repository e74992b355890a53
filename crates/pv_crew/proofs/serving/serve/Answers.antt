use Rattle.std.proofs.Common.{◌<◌, ◌≤◌, All, length, sym, subst, ◌∙◌}
use Rattle.pv_base.specs.declared.limits.TheConstants.{MAX_SITES}
use Rattle.pv_crew.specs.Rounds.{IsRoundOf}
use Rattle.pv_crew.proofs.ServingLemmas.{dealt-rounds, ended-ready, served}
use Rattle.pv_crew.proofs.serving.serve.Goals as goal

pub deal_all-requires-clause-values : goal.deal_all-requires-clause-values
deal_all-requires-clause-values g c = subst (λ n. 0 < n) c.args.values.ok.0 c.requires.values.0

pub run-requires-clause-turns : goal.run-requires-clause-turns
run-requires-clause-turns g c κs lives =
    subst (λ l. length l ≤ MAX_SITES) (sym c.deref.ensures.value)
    (subst (λ n. n ≤ MAX_SITES) (c.args.values.ok.0 ∙ sym c.in_ok-turns.ensures.1) c.requires.values.1)

pub run-requires-clause-rounds : goal.run-requires-clause-rounds
run-requires-clause-rounds g c κs lives =
    subst (λ l. All (IsRoundOf l) c.in_ok-turns.rounds.items) (sym c.deref.ensures.value)
    (dealt-rounds g.V.Entries.entries c.args.workers c.args.values.items c.in_ok-turns.turns.items c.in_ok-turns.rounds.items c.in_ok-turns.ensures)

pub close_all-requires : goal.close_all-requires
close_all-requires g c =
    ended-ready g.V.Entries.entries c.args.workers c.args.values.items c.in_ok-turns.turns.items c.in_ok-turns.rounds.items c.in_ok-turns.ensures
    c.in_ok-rounds.rounds.items c.in_ok-rounds.ensures.rounds c.requires.workers

pub returns-clause-values : goal.returns-clause-values
returns-clause-values g c =
    served g.V.Entries.entries c.args.workers c.args.values.items c.in_ok-turns.turns.items c.in_ok-turns.rounds.items c.in_ok-turns.ensures
    c.in_ok-rounds.rounds.items c.in_ok-rounds.ensures.rounds c.requires.workers c.in_ok-values.values.items c.in_ok-values.ensures
