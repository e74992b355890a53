use Rattle.std.proofs.Common.{rules, ◌<◌, length, subst}
use Rattle.pv_crew.proofs.SeatedLemmas.{later-first, later-set, ready-set}
use Rattle.pv_crew.proofs.work.work.Goals as goal

pub loop-init : goal.loop-init
loop-init g c = (search rules, search rules, c.requires.round.1, later-first c.args.turns.now c.args.round.seats.items c.requires.round.1)

pub loop-preserved : goal.loop-preserved
loop-preserved g c =
    let kept = c.loop.invariant in
    let at = c.loop.at in
    let turns = c.args.turns.now in
    let seats = c.loop.seats.items in
    let old = c.index_mut.result.now in
    let new = c.visit-took.new.seat in
    let there = c.index_mut.ensures.value in
    let later = c.visit-took.ensures.later in
    let within : at < length seats = subst (λ n. at < n) kept.2.0 kept.0 in (
      search rules,
      search rules,
      ready-set turns seats at old new kept.2 within there later,
      later-set turns seats at old new kept.2 within there later c.args.round.seats.items kept.3,
    )
