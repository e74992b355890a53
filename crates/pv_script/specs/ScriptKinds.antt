-- The kinds of scripts, as the definitions have them.
use Rattle.pv_model.specs.LineForms as model
use Rattle.pv_script.specs.declared.script.Script.{Script}
use Rattle.pv_script.specs.declared.script.Script.TheVariants.{Scheduled, Live}

abbrev pub script_of : Script → model.Script
script_of Scheduled = model.scheduled
script_of Live = model.live
