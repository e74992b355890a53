-- A fault of the line's bytes is one of the line.
use Rattle.std.proofs.lemmas.Result.{err_from_is_err_and}
use Rattle.std.proofs.Common.{refl, ap, ◌∙◌}
use Rattle.pv_model.specs.LineCauses.{at_first}
use Rattle.pv_script.specs.LineFaults.{texts}
use Rattle.pv_script.specs.ScriptKinds.{script_of}
use Rattle.pv_script.proofs.said.Said.first.Goals as goal

pub returns-in_err-words-clause-fault : goal.returns-in_err-words-clause-fault
returns-in_err-words-clause-fault c =
    let p = err_from_is_err_and c.from_residual.result c.from_residual.ensures.1 in
    rw (p.1, p.2) (c.in_err-words.ensures.fault (at_first (script_of c.args.script)) refl)

pub returns-in_err-sites-clause-fault : goal.returns-in_err-sites-clause-fault
returns-in_err-sites-clause-fault c =
    let p = err_from_is_err_and c.from_residual-in_err-sites.result c.from_residual-in_err-sites.ensures.1 in
    rw (p.1, p.2) (c.in_err-sites.ensures.fault (script_of c.args.script) c.args.line.now c.in_ok-words.ensures.words.0 (ap texts c.deref.ensures.value ∙ c.in_ok-words.ensures.words.1))
