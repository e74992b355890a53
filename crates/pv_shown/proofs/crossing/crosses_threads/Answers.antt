use denote.Exit.{no}
use denote.Param.{param}
use denote.Param.Send.{IsSend, param_send, arg_send}
use Rattle.pv_shown.specs.contracts.shown.Shown.{the_row}
use Rattle.pv_shown.proofs.crossing.crosses_threads.Goals as goal

pub sends-requires-send-T : goal.sends-requires-send-T
sends-requires-send-T g c κs within =
    let sent : IsSend (the_row (param 0 g.row.L) g.L.Log) = record { owned = c.shown_cross_threads.ensures.owned; leaving = λ k x w. tt {0} } in
    param_send _ _ (arg_send _ no _ sent)
