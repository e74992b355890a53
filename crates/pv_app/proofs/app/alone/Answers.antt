-- The words are one command, whose relation says how it ends.
use Rattle.std.proofs.Common.{map, Some, refl, ap, ◌∙◌, subst}
use Rattle.std.specs.String.{string_bytes}
use Rattle.pv_app.specs.Ends.{Ends}
use Rattle.pv_app.specs.declared.command.Command.TheVariants.{Run, Make, Big, Over, Audit, Outbox, Quorum}
use Rattle.pv_run.specs.KeptDisks.{last_world}
use Rattle.pv_run.specs.Statuses.{run_status}
use Rattle.pv_run.specs.declared.text_end.TextEnd.TheVariants as text
use Rattle.pv_app.proofs.BayLemmas.{rest-after}
use Rattle.pv_app.proofs.CommandLemmas.{found-command, found-is}
use Rattle.pv_app.proofs.app.alone.Goals as goal

pub returns-in-Some-Run-clause-command : goal.returns-in-Some-Run-clause-command
returns-in-Some-Run-clause-command g c = λ command is.
    subst (Ends g.R.Source g.W.Sink g.B.Bay.model g.B.D.Disk.model c.args.source.now c.read_and_run.new.source c.args.sink.now c.read_and_run.new.sink c.args.bay.now
    c.read_and_run.new.bay c.status_of_run.result)
    (ap Run c.in-Some-Run.form-is ∙ found-is (map string_bytes c.args.words.now) c.command_of.result (Run c.in-Some-Run.form) command c.command_of.ensures.some (c.in-Some-Run.is ∙ ap Some c.in-Some-Run.field-0-is) is)
    (c.read_and_run.result, c.status_of_run.ensures, c.read_and_run.ensures)

pub returns-in-Some-Run-clause-handed_back : goal.returns-in-Some-Run-clause-handed_back
returns-in-Some-Run-clause-handed_back g c = λ rest.
    rest-after g.B.Bay.model c.args.bay.now c.read_and_run.new.bay c.read_and_run.result rest
    (λ done.
    let read = c.read_and_run.ensures.given text.Done done in
    let answered = read.2.done (ap run_status done) in
    ((last_world answered.0).sites, read.2.kept (ap run_status done) answered.0 answered.1))
    c.read_and_run.ensures.alone

pub returns-in-Some-Make-clause-command : goal.returns-in-Some-Make-clause-command
returns-in-Some-Make-clause-command g c = λ command is.
    subst (Ends g.R.Source g.W.Sink g.B.Bay.model g.B.D.Disk.model c.args.source.now c.args.source.now c.args.sink.now c.write_made.new.sink c.args.bay.now
    c.args.bay.now c.status_of_make.result)
    (ap Make c.in-Some-Make.number-is ∙ found-is (map string_bytes c.args.words.now) c.command_of.result (Make c.in-Some-Make.number) command c.command_of.ensures.some (c.in-Some-Make.is ∙ ap Some c.in-Some-Make.field-0-is) is)
    (c.write_made.result, c.status_of_make.ensures, c.write_made.ensures, (refl, refl))

pub returns-in-Some-Big-clause-command : goal.returns-in-Some-Big-clause-command
returns-in-Some-Big-clause-command g c = λ command is.
    subst (Ends g.R.Source g.W.Sink g.B.Bay.model g.B.D.Disk.model c.args.source.now c.args.source.now c.args.sink.now c.write_summary_of_number.new.sink c.args.bay.now
    c.args.bay.now c.status_of_big.result)
    (ap Big c.in-Some-Big.number-is ∙ found-is (map string_bytes c.args.words.now) c.command_of.result (Big c.in-Some-Big.number) command c.command_of.ensures.some (c.in-Some-Big.is ∙ ap Some c.in-Some-Big.field-0-is) is)
    (c.write_summary_of_number.result, c.status_of_big.ensures, c.write_summary_of_number.ensures, (refl, refl))

pub returns-in-Some-Over-clause-command : goal.returns-in-Some-Over-clause-command
returns-in-Some-Over-clause-command g c = λ command is.
    subst (Ends g.R.Source g.W.Sink g.B.Bay.model g.B.D.Disk.model c.args.source.now c.read_and_tour.new.source c.args.sink.now c.read_and_tour.new.sink c.args.bay.now
    c.read_and_tour.new.bay c.status_of_tour.result)
    (ap Over c.in-Some-Over.tour-is ∙ found-is (map string_bytes c.args.words.now) c.command_of.result (Over c.in-Some-Over.tour) command c.command_of.ensures.some (c.in-Some-Over.is ∙ ap Some c.in-Some-Over.field-0-is) is)
    (c.read_and_tour.result, c.status_of_tour.ensures, c.read_and_tour.ensures.ends)

pub returns-in-Some-Audit-clause-command : goal.returns-in-Some-Audit-clause-command
returns-in-Some-Audit-clause-command g c = λ command is.
    subst (Ends g.R.Source g.W.Sink g.B.Bay.model g.B.D.Disk.model c.args.source.now c.read_and_audit.new.source c.args.sink.now c.read_and_audit.new.sink c.args.bay.now
    c.args.bay.now c.status_of_audit.result)
    (found-is (map string_bytes c.args.words.now) c.command_of.result Audit command c.command_of.ensures.some (c.in-Some-Audit.is ∙ ap Some c.in-Some-Audit.field-0-is) is)
    (c.read_and_audit.result, c.status_of_audit.ensures, c.read_and_audit.ensures, refl)

pub returns-in-Some-Outbox-clause-command : goal.returns-in-Some-Outbox-clause-command
returns-in-Some-Outbox-clause-command g c = λ command is.
    subst (Ends g.R.Source g.W.Sink g.B.Bay.model g.B.D.Disk.model c.args.source.now c.read_and_run-in-Some-Outbox.new.source c.args.sink.now c.read_and_run-in-Some-Outbox.new.sink c.args.bay.now
    c.args.bay.now c.status_of_script.result)
    (found-is (map string_bytes c.args.words.now) c.command_of.result Outbox command c.command_of.ensures.some (c.in-Some-Outbox.is ∙ ap Some c.in-Some-Outbox.field-0-is) is)
    (c.read_and_run-in-Some-Outbox.result, c.status_of_script.ensures, c.read_and_run-in-Some-Outbox.ensures, refl)

pub returns-in-Some-Quorum-clause-command : goal.returns-in-Some-Quorum-clause-command
returns-in-Some-Quorum-clause-command g c = λ command is.
    subst (Ends g.R.Source g.W.Sink g.B.Bay.model g.B.D.Disk.model c.args.source.now c.read_and_decide.new.source c.args.sink.now c.read_and_decide.new.sink c.args.bay.now
    c.args.bay.now c.status_of_script-in-Some-Quorum.result)
    (found-is (map string_bytes c.args.words.now) c.command_of.result Quorum command c.command_of.ensures.some (c.in-Some-Quorum.is ∙ ap Some c.in-Some-Quorum.field-0-is) is)
    (c.read_and_decide.result, c.status_of_script-in-Some-Quorum.ensures, c.read_and_decide.ensures, refl)

pub read_and_tour-requires : goal.read_and_tour-requires
read_and_tour-requires g c = record {
  rest = c.requires.rest c.in-Some-Over.tour (found-command (map string_bytes c.args.words.now) c.command_of.result (Over c.in-Some-Over.tour) c.command_of.ensures.some (c.in-Some-Over.is ∙ ap Some c.in-Some-Over.field-0-is));
}

pub returns-in-None-clause-command : goal.returns-in-None-clause-command
returns-in-None-clause-command g c = λ command is. absurd (c.command_of.ensures.none c.in-None.is command is)

pub returns-in-None-clause-no_command : goal.returns-in-None-clause-no_command
returns-in-None-clause-no_command g c = λ none. (c.write_usage.result, c.status_of_usage.ensures, c.write_usage.ensures, (refl, refl))
