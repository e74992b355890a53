-- Nested parts stand deeper, and a part of the same depth is one that holds closer.
use Rattle.std.proofs.Common.{ℕ, ◌+◌, ◌-◌, ◌*◌, length}
use Rattle.pv_ast.specs.ExprView.{expr_of}
use Rattle.pv_parse.specs.declared.parser.Chain.{Chain}
use Rattle.pv_parse.specs.declared.parser.Chain.TheVariants.{Disjunction, Conjunction, Sum, Product}
use Rattle.pv_parse.specs.ChainView.{chain_of}
use Rattle.pv_parse.proofs.ExpressionLemmas.{ChainSoFar}
use Rattle.pv_parse.proofs.parser.Parser.+expression.Given as goal

abbrev chain_level : Chain → ℕ
chain_level Product = 3
chain_level Sum = 5
chain_level Conjunction = 9
chain_level Disjunction = 11

abbrev below : ℕ → ℕ
below depth = (33 - depth) * 13

abbrev pub decreases-chain : goal.decreases-chain
decreases-chain l = below l.depth + (chain_level l.chain + 1)

abbrev pub decreases-side : goal.decreases-side
decreases-side l = below l.depth + chain_level l.chain

abbrev pub decreases-negated : goal.decreases-negated
decreases-negated l = below l.depth + 8

abbrev pub decreases-comparison : goal.decreases-comparison
decreases-comparison l = below l.depth + 7

abbrev pub decreases-unary : goal.decreases-unary
decreases-unary l = below l.depth + 2

abbrev pub decreases-prefixed : goal.decreases-prefixed
decreases-prefixed l = below l.depth + 1

abbrev pub decreases-negative : goal.decreases-negative
decreases-negative l = below l.depth

abbrev pub decreases-in_brackets : goal.decreases-in_brackets
decreases-in_brackets l = below l.depth

abbrev pub decreases-of_two : goal.decreases-of_two
decreases-of_two l = below l.depth

abbrev pub invariant-chain-loop-left : goal.invariant-chain-loop-left
invariant-chain-loop-left l = ChainSoFar l.self (chain_of l.chain) l.depth l.fn.tokens l.tokens (expr_of l.left)

abbrev pub decreases-chain-loop-left : goal.decreases-chain-loop-left
decreases-chain-loop-left l = length l.tokens
