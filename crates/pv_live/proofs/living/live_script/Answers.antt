-- The text is written in one piece. Where it wasn't made, nothing is.
use Rattle.std.proofs.Common.{List, ℕ, sym, subst}
use Rattle.std.proofs.KnownBytes.{Keeps-refl}
use Rattle.pv_script.specs.LiveView.{live_script_of}
use Rattle.pv_live.proofs.EndLemmas.{idle-runs, launched-full, lived-rest, lived-runs, refused-rest, refused-runs}
use Rattle.pv_live.specs.Lived.{Lives}
use Rattle.pv_live.specs.LiveEnds.{RunsSites}
use Rattle.pv_live.proofs.living.live_script.Goals as goal

pub returns-in_default-clause-run : goal.returns-in_default-clause-run
returns-in_default-clause-run g c = idle-runs g.W.Sink g.B.Bay.model g.B.D.Disk.model (live_script_of c.args.script.now) c.args.bay.now c.args.sink.now

pub text_of_run-requires-clause-launched : goal.text_of_run-requires-clause-launched
text_of_run-requires-clause-launched g c κs lives = (c.args.bay.now, c.in-Ok-launch.ensures)

pub returns-in-Ok-text_of_run-clause-run : goal.returns-in-Ok-text_of_run-clause-run
returns-in-Ok-text_of_run-clause-run g c =
    let M = g.B.Bay.model in
    let D = g.B.D.Disk.model in
    let script = live_script_of c.args.script.now in
    let lives : Lives M D script c.args.bay.now c.text_of_run.new.bay c.deref.result.now =
    subst (λ (text : List ℕ). Lives M D script c.args.bay.now c.text_of_run.new.bay text) (sym c.deref.ensures.value) (c.in-Ok-text_of_run.ensures.lives c.args.bay.now c.in-Ok-launch.ensures) in
    lived-runs M D script c.args.bay.now c.text_of_run.new.bay g.W.Sink c.args.sink.now c.write_all.new.sink c.write_all.result c.end_of_text.result c.deref.result.now
    c.end_of_text.ensures lives c.write_all.ensures.writes.written c.write_all.ensures.writes.prefix

pub returns-in-Ok-text_of_run-clause-rest : goal.returns-in-Ok-text_of_run-clause-rest
returns-in-Ok-text_of_run-clause-rest g c = λ other.
    let script = live_script_of c.args.script.now in
    lived-rest g.B.Bay.model g.B.D.Disk.model script c.args.bay.now c.text_of_run.new.bay c.in-Ok-text_of_run.text.items (c.in-Ok-text_of_run.ensures.lives c.args.bay.now c.in-Ok-launch.ensures) c.requires.rest

pub returns-in-Err-text_of_run-clause-run : goal.returns-in-Err-text_of_run-clause-run
returns-in-Err-text_of_run-clause-run g c =
    let script = live_script_of c.args.script.now in (
      c.in-Err-text_of_run.ensures.unchanged c.args.bay.now c.in-Ok-launch.ensures,
      launched-full g.B.Bay.model g.B.D.Disk.model script c.args.bay.now c.text_of_run.new.bay c.launch.new.bay c.in-Ok-launch.sites.items c.in-Ok-launch.ensures
          (c.launched_sites_are_numbered.ensures script.catalog c.args.bay.now c.launch.new.bay c.in-Ok-launch.sites.items c.in-Ok-launch.ensures),
      Keeps-refl (g.W.Sink.held c.args.sink.now),
    )

pub returns-in-Err-clause-run : goal.returns-in-Err-clause-run
returns-in-Err-clause-run g c =
    subst (RunsSites g.B.Bay.model g.B.D.Disk.model g.W.Sink (live_script_of c.args.script.now) c.args.bay.now c.launch.new.bay c.args.sink.now c.args.sink.now) (sym c.end_of_launch.ensures)
    (refused-runs g.B.Bay.model g.B.D.Disk.model (live_script_of c.args.script.now) c.args.bay.now c.launch.new.bay g.W.Sink c.args.sink.now c.args.sink.now c.in-Err.why c.in-Err.ensures (Keeps-refl (g.W.Sink.held c.args.sink.now)))

pub returns-in-Err-clause-rest : goal.returns-in-Err-clause-rest
returns-in-Err-clause-rest g c = λ other.
    refused-rest g.B.Bay.model g.B.D.Disk.model (live_script_of c.args.script.now) c.args.bay.now c.launch.new.bay c.in-Err.why c.in-Err.ensures c.requires.rest
