use Rattle.std.proofs.Common.{◌∷◌, []}
use Rattle.pv_law_histories.proofs.CourseLemmas.{steps-append, course-append}
use Rattle.pv_law_histories.proofs.PostingLemmas.{stamped-append, posted-append}
use Rattle.pv_law_histories.proofs.histories_grow.Goals as goal

pub returns-clause-steps : goal.returns-clause-steps
returns-clause-steps c setup n site entries entry are is = steps-append setup n site entries entry are is

pub returns-clause-course : goal.returns-clause-course
returns-clause-course c setup n site entries entry = course-append setup n site entries (entry ∷ [])

pub returns-clause-stamps : goal.returns-clause-stamps
returns-clause-stamps c last entries entry are is = stamped-append last entries entry are is

pub returns-clause-posted : goal.returns-clause-posted
returns-clause-posted c setup n to site entries entry = posted-append setup n to site entries entry
