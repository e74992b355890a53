-- What running statements gives, as plain data.
use Rattle.std.specs.Prelude.{ℤ, List, Option, Some, None, Result, Ok, Err}
use Rattle.pv_base.specs.declared.reply.Decline.{Decline}
use Rattle.pv_model.specs.Meaning as model
use Rattle.pv_model.specs.Meaning.{ended, returned, refused}

-- how a program came out, with the rows then
abbrev pub course_from : Result (Option ℤ) Decline → List model.Row → model.Course
course_from (Ok None) rows = ended rows
course_from (Ok (Some v)) rows = returned v rows
course_from (Err d) rows = refused d
