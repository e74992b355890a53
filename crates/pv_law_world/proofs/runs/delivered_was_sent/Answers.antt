use Rattle.pv_law_world.proofs.TransitionLemmas.{delivered-was-sent}
use Rattle.pv_law_world.proofs.runs.delivered_was_sent.Goals as goal

pub returns : goal.returns
returns c setup events place number envelope is = delivered-was-sent setup events place number envelope is
