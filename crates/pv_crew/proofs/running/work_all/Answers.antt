use Rattle.std.proofs.Common.{rules, get_or, sym, subst}
use Rattle.pv_crew.specs.Rounds.{IsLaterRound, IsRoundOf}
use Rattle.pv_crew.proofs.running.work_all.Goals as goal

pub map_vec-requires-after_bounds : goal.map_vec-requires-after_bounds
map_vec-requires-after_bounds g c κs within = λ i x less is. (c.requires.turns, subst (IsRoundOf c.args.turns.now) (sym is) (c.requires.rounds i x less))

pub returns : goal.returns
returns g c = (
  search rules,
  λ k a b less.
      let job = (c.in_ok-back.ensures.each k b less).1 in subst (λ round. IsLaterRound round (get_or c.in_ok-back.back.items k b)) (sym (job.job_is a)) job.call.met,
)
