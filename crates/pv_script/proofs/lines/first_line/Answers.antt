-- The line ends at the first line feed, or at the end of the text.
use Rattle.std.proofs.Common.{length, arith}
use Rattle.std.proofs.lemmas.List.{take_all, drop_all}
use Rattle.pv_script.proofs.LineLemmas.{lines-at, lines-none}
use Rattle.pv_script.proofs.lines.first_line.Goals as goal

pub returns-in_default-clause-first : goal.returns-in_default-clause-first
returns-in_default-clause-first c =
    let last = lines-none c.args.rest.now c.requires c.in_default.ensures in
    let front = take_all (length c.args.rest.now) c.args.rest.now (omega arith) in
    let back = drop_all (length c.args.rest.now) c.args.rest.now (omega arith) in
    rw (c.split_at.ensures.front, c.split_at.ensures.back, front, back) last

pub returns-clause-first : goal.returns-clause-first
returns-clause-first c =
    let at = lines-at c.args.rest.now c.in-Some.end c.in-Some.ensures.0 c.in-Some.ensures.1 in
    rw (c.split_at-3.ensures.back, c.split_at-2.ensures.back, c.split_at-2.ensures.front) at
