-- Each line is read by its own function.
use Rattle.std.proofs.Common.{sym, subst}
use Rattle.std.specs.Option.{option_map}
use Rattle.pv_audit.specs.Words.{IsRestOf}
use Rattle.pv_audit.specs.declared.first.First.{First}
use Rattle.pv_script.specs.LineFaults.{texts}
use Rattle.pv_script.specs.LineView.{line_of}
use Rattle.pv_audit.proofs.printed.rest_in.Goals as goal

pub returns-in-Txn : goal.returns-in-Txn
returns-in-Txn c =
    subst (λ (first : First). IsRestOf c.args.catalog.now first (texts c.args.words.now) (option_map line_of c.txn_line.result)) (sym c.in-Txn.is)
    (c.txn_line.ensures c.args.catalog.now)

pub returns-in-Full : goal.returns-in-Full
returns-in-Full c =
    subst (λ (first : First). IsRestOf c.args.catalog.now first (texts c.args.words.now) (option_map line_of c.full_line.result)) (sym c.in-Full.is)
    (c.full_line.ensures c.args.catalog.now)

pub returns-in-Spent : goal.returns-in-Spent
returns-in-Spent c =
    subst (λ (first : First). IsRestOf c.args.catalog.now first (texts c.args.words.now) (option_map line_of c.spent_line.result)) (sym c.in-Spent.is)
    (c.spent_line.ensures c.args.catalog.now)

pub returns-in-Down : goal.returns-in-Down
returns-in-Down c =
    subst (λ (first : First). IsRestOf c.args.catalog.now first (texts c.args.words.now) (option_map line_of c.down_line.result)) (sym c.in-Down.is)
    (c.down_line.ensures c.args.catalog.now)

pub returns-in-Up : goal.returns-in-Up
returns-in-Up c =
    subst (λ (first : First). IsRestOf c.args.catalog.now first (texts c.args.words.now) (option_map line_of c.up_line.result)) (sym c.in-Up.is)
    (c.up_line.ensures c.args.catalog.now)

pub returns-in-Stopped : goal.returns-in-Stopped
returns-in-Stopped c =
    subst (λ (first : First). IsRestOf c.args.catalog.now first (texts c.args.words.now) (option_map line_of c.stopped_line.result)) (sym c.in-Stopped.is)
    (c.stopped_line.ensures c.args.catalog.now)

pub returns-in-Fault : goal.returns-in-Fault
returns-in-Fault c =
    subst (λ (first : First). IsRestOf c.args.catalog.now first (texts c.args.words.now) (option_map line_of c.fault_line.result)) (sym c.in-Fault.is)
    (c.fault_line.ensures c.args.catalog.now)

pub returns-in-Started : goal.returns-in-Started
returns-in-Started c =
    subst (λ (first : First). IsRestOf c.args.catalog.now first (texts c.args.words.now) (option_map line_of c.started_line.result)) (sym c.in-Started.is)
    (c.started_line.ensures c.args.catalog.now)

pub returns-in-No : goal.returns-in-No
returns-in-No c =
    subst (λ (first : First). IsRestOf c.args.catalog.now first (texts c.args.words.now) (option_map line_of c.no_message_line.result)) (sym c.in-No.is)
    (c.no_message_line.ensures c.args.catalog.now)

pub returns-in-Sent : goal.returns-in-Sent
returns-in-Sent c =
    subst (λ (first : First). IsRestOf c.args.catalog.now first (texts c.args.words.now) (option_map line_of c.sent_line.result)) (sym c.in-Sent.is)
    (c.sent_line.ensures c.args.catalog.now)

pub returns-in-End : goal.returns-in-End
returns-in-End c =
    subst (λ (first : First). IsRestOf c.args.catalog.now first (texts c.args.words.now) (option_map line_of c.end_line.result)) (sym c.in-End.is)
    (c.end_line.ensures c.args.catalog.now)
