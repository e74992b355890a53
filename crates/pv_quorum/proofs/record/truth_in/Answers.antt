-- One byte, which is 0 or 1.
use Rattle.std.proofs.Common.{arith}
use Rattle.pv_quorum.proofs.SpellingLemmas.{truth-read, truth-counted, truth-small}
use Rattle.pv_quorum.proofs.record.truth_in.Goals as goal

pub returns-in-len1 : goal.returns-in-len1
returns-in-len1 c = truth-read c.args.value.now (omega (arith, c.in-len1.len_at_least, c.in-len1.len_below)) c.if-byte-le1.true

pub returns-in_default : goal.returns-in_default
returns-in_default c = λ truth is. omega (arith, truth-counted c.args.value.now truth is, c.in_default.len_below)

pub returns-in_default-2 : goal.returns-in_default-2
returns-in_default-2 c = λ truth is. let small = truth-small c.args.value.now truth is in omega (arith, small, c.if-byte-le1.false)

pub returns-in_default-3 : goal.returns-in_default-3
returns-in_default-3 c = λ truth is. omega (arith, truth-counted c.args.value.now truth is, c.in_default.len_at_least)
