-- A fault of what stands behind the word is one of the line.
use Rattle.std.proofs.lemmas.Result.{err_from_is_err_and}
use Rattle.pv_script.proofs.arguments.event_in.Goals as goal

pub returns-in_err-message_in-in-Deliver-clause-fault : goal.returns-in_err-message_in-in-Deliver-clause-fault
returns-in_err-message_in-in-Deliver-clause-fault c =
    let p = err_from_is_err_and c.from_residual.result c.from_residual.ensures.1 in
    rw (p.1, p.2, c.in-Deliver.is) (c.in_err-message_in-in-Deliver.ensures.fault c.args.sites)

pub returns-in_err-most_in-in-Pump-clause-fault : goal.returns-in_err-most_in-in-Pump-clause-fault
returns-in_err-most_in-in-Pump-clause-fault c =
    let p = err_from_is_err_and c.from_residual-in_err-most_in-in-Pump.result c.from_residual-in_err-most_in-in-Pump.ensures.1 in
    rw (p.1, p.2, c.in-Pump.is) (c.in_err-most_in-in-Pump.ensures.fault c.args.sites)

pub returns-in_err-message_in-in-Lose-clause-fault : goal.returns-in_err-message_in-in-Lose-clause-fault
returns-in_err-message_in-in-Lose-clause-fault c =
    let p = err_from_is_err_and c.from_residual-in_err-message_in-in-Lose.result c.from_residual-in_err-message_in-in-Lose.ensures.1 in
    rw (p.1, p.2, c.in-Lose.is) (c.in_err-message_in-in-Lose.ensures.fault c.args.sites)

pub returns-in_err-nothing_in-in-Sent-clause-fault : goal.returns-in_err-nothing_in-in-Sent-clause-fault
returns-in_err-nothing_in-in-Sent-clause-fault c =
    let p = err_from_is_err_and c.from_residual-in_err-nothing_in-in-Sent.result c.from_residual-in_err-nothing_in-in-Sent.ensures.1 in
    rw (p.1, p.2, c.in-Sent.is) (c.in_err-nothing_in-in-Sent.ensures.fault c.args.sites)

pub returns-in_err-nothing_in-in-Report-clause-fault : goal.returns-in_err-nothing_in-in-Report-clause-fault
returns-in_err-nothing_in-in-Report-clause-fault c =
    let p = err_from_is_err_and c.from_residual-in_err-nothing_in-in-Report.result c.from_residual-in_err-nothing_in-in-Report.ensures.1 in
    rw (p.1, p.2, c.in-Report.is) (c.in_err-nothing_in-in-Report.ensures.fault c.args.sites)

pub returns-in_err-nothing_in-in-Total-clause-fault : goal.returns-in_err-nothing_in-in-Total-clause-fault
returns-in_err-nothing_in-in-Total-clause-fault c =
    let p = err_from_is_err_and c.from_residual-in_err-nothing_in-in-Total.result c.from_residual-in_err-nothing_in-in-Total.ensures.1 in
    rw (p.1, p.2, c.in-Total.is) (c.in_err-nothing_in-in-Total.ensures.fault c.args.sites)
