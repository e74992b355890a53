-- Programs in braces stand deeper. In a row of statements, what is read so far goes on with what is left.
use Rattle.std.proofs.Common.{ℕ, ◌+◌, ◌-◌, ◌*◌, length}
use Rattle.pv_parse.proofs.BranchLemmas.{ProgramSoFar}
use Rattle.pv_parse.proofs.parser.Parser.+program.Given as goal

abbrev below : ℕ → ℕ
below depth = (33 - depth) * 4

abbrev pub decreases-program : goal.decreases-program
decreases-program l = below l.depth + 3

abbrev pub decreases-stmt : goal.decreases-stmt
decreases-stmt l = below l.depth + 2

abbrev pub decreases-if_stmt : goal.decreases-if_stmt
decreases-if_stmt l = below l.depth + 1

abbrev pub decreases-body : goal.decreases-body
decreases-body l = below l.depth

abbrev pub invariant-program-loop-stmts : goal.invariant-program-loop-stmts
invariant-program-loop-stmts l = ProgramSoFar l.self l.depth l.fn.tokens l.tokens l.stmts.items

abbrev pub decreases-program-loop-stmts : goal.decreases-program-loop-stmts
decreases-program-loop-stmts l = length l.tokens
