-- Words for a live run end as its relation says, and others as without threads.
use Rattle.std.proofs.Common.{map, ap, ◌∙◌, subst}
use Rattle.std.specs.String.{string_bytes}
use Rattle.pv_app.specs.Ends.{Ends}
use Rattle.pv_app.specs.declared.command.Command.TheVariants.{Live}
use Rattle.pv_live.specs.LiveEnds.{live_status}
use Rattle.pv_app.proofs.CommandLemmas.{one-command}
use Rattle.pv_app.proofs.app.polydb.Goals as goal

pub read_and_live-requires-clause-workers : goal.read_and_live-requires-clause-workers
read_and_live-requires-clause-workers g c κs lives = (c.in-Some.ensures.some.1, c.in-Some.ensures.some.2)

pub read_and_live-requires-clause-rest : goal.read_and_live-requires-clause-rest
read_and_live-requires-clause-rest g c κs lives = c.requires.live c.in-Some.workers c.in-Some.ensures.some

pub returns-in-Some-clause-command : goal.returns-in-Some-clause-command
returns-in-Some-clause-command g c = λ command is.
    subst (Ends g.R.Source g.W.Sink g.B.Bay.model g.B.D.Disk.model c.args.source.now c.read_and_live.new.source c.args.sink.now c.read_and_live.new.sink c.args.bay.now
    c.read_and_live.new.bay c.status_of_live.result)
    (one-command (map string_bytes c.args.words.now) (Live c.in-Some.workers) command c.in-Some.ensures.some is)
    (c.read_and_live.result, c.status_of_live.ensures, c.read_and_live.ensures)

pub returns-in-Some-clause-handed_back : goal.returns-in-Some-clause-handed_back
returns-in-Some-clause-handed_back g c = λ memory rest.
    c.read_and_live.ensures.handed_back (λ ended. memory c.in-Some.workers c.in-Some.ensures.some (c.status_of_live.ensures ∙ ap live_status ended)) rest

pub returns-in-Some-clause-no_command : goal.returns-in-Some-clause-no_command
returns-in-Some-clause-no_command g c = λ none. absurd (none (Live c.in-Some.workers) c.in-Some.ensures.some)
