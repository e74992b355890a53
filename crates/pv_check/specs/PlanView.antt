-- Parts as plain data.
use Rattle.pv_check.specs.declared.plan.Part.TheInside.{Inside}
use Rattle.pv_model.specs.Check as model

abbrev pub plan_part : Inside → model.Part
plan_part inside = record { site = inside.site.0; wants = inside.wants.items }
