-- What is told first of the request is among what is left.
use Rattle.std.proofs.Common.{◌≡◌, ℕ, drop}
use Rattle.pv_told.proofs.lines.word_of.Given as goal
use Rattle.pv_told.specs.Along.{line_among}
use Rattle.pv_told.specs.Words.{told_in}

abbrev pub invariant-loop-one : goal.invariant-loop-one
invariant-loop-one l = (me : ℕ) → line_among l.asker (told_in me (drop l.one-index l.told)) ≡ line_among l.asker (told_in me l.told)
