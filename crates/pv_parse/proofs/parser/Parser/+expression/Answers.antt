-- Each part is put together from what is read of it, and what is at fault in it is at fault in all.
use Rattle.std.proofs.Common.{rules}
use Rattle.std.proofs.lemmas.Result.{err_from_is_err_and}
use Rattle.pv_ast.specs.ExprView.{expr_of}
use Rattle.pv_ast.specs.OpView.{op_of}
use Rattle.pv_parse.specs.ChainView.{chain_of}
use Rattle.pv_parse.proofs.ExpressionLemmas.{chain-first, chain-more, chain-end, chain-stops-first, chain-stops-operator, chain-stops-side, comparison-stops-first, comparison-stops-operator, comparison-stops-right, comparison-alone, comparison-two, negated-comparison, negated-stops-comparison, negated-not, negated-stops-not, negated-deep, IfOk-map, IfErr-map}
use Rattle.pv_parse.proofs.UnaryLemmas.{begins-deep, begins-minus, begins-brackets, begins-two, reads-minus, stops-minus, reads-brackets, stops-brackets-inner, stops-brackets-close, led-word, led-open, led-first, led-comma, led-second, led-stops, led-stops-first, led-stops-comma, led-stops-second, reads-two, unary-end, unary-other, other-token, other-operator}
use Rattle.pv_parse.specs.TokenView.{token_of}
use Rattle.pv_parse.proofs.parser.Parser.+expression.Goals as goal

pub chain-returns-in_err-left-clause-stops : goal.chain-returns-in_err-left-clause-stops
chain-returns-in_err-left-clause-stops t c =
    let p = err_from_is_err_and c.from_residual.result c.from_residual.ensures.1 in
    rw (p.1, p.2) (chain-stops-first c.args.self.now (chain_of c.args.chain) c.args.depth c.args.tokens.now _ c.in_err-left.ensures.stops)

pub chain-loop-left-init : goal.chain-loop-left-init
chain-loop-left-init t c = chain-first c.args.self.now (chain_of c.args.chain) c.args.depth c.args.tokens.now _ (expr_of c.in_ok-left.left) c.in_ok-left.ensures.read

pub chain-returns-in_err-op-clause-stops : goal.chain-returns-in_err-op-clause-stops
chain-returns-in_err-op-clause-stops t c =
    let p = err_from_is_err_and c.from_residual-in_err-op.result c.from_residual-in_err-op.ensures.1 in
    rw (p.1, p.2)
    (chain-stops-operator c.args.self.now (chain_of c.args.chain) c.args.depth c.args.tokens.now c.loop-left.tokens (expr_of c.loop-left.left) _ c.loop-left.invariant c.in_err-op.ensures.stops)

pub chain-returns-in_err-right-clause-stops : goal.chain-returns-in_err-right-clause-stops
chain-returns-in_err-right-clause-stops t c =
    let p = err_from_is_err_and c.from_residual-in_err-right.result c.from_residual-in_err-right.ensures.1 in
    let taken = rw c.in-Some.is at c.in_ok-op.ensures.taken in
    rw (p.1, p.2)
    (chain-stops-side c.args.self.now (chain_of c.args.chain) c.args.depth c.args.tokens.now c.loop-left.tokens _ (expr_of c.loop-left.left) (op_of c.in-Some.op) _ c.loop-left.invariant taken.0 taken.1 c.in_err-right.ensures.stops)

pub chain-loop-left-preserved : goal.chain-loop-left-preserved
chain-loop-left-preserved t c =
    let taken = rw c.in-Some.is at c.in_ok-op.ensures.taken in
    rw c.in_ok-left-2.ensures
    (chain-more c.args.self.now (chain_of c.args.chain) c.args.depth c.args.tokens.now c.loop-left.tokens _ _ (expr_of c.loop-left.left) (expr_of c.in_ok-right.right) (op_of c.in-Some.op) c.loop-left.invariant taken.0 taken.1 c.in_ok-right.ensures.read)

pub chain-returns-clause-read : goal.chain-returns-clause-read
chain-returns-clause-read t c =
    let taken = rw c.in_default.is at c.in_ok-op.ensures.taken in
    rw taken.1 (chain-end c.args.self.now (chain_of c.args.chain) c.args.depth c.args.tokens.now c.loop-left.tokens (expr_of c.loop-left.left) c.loop-left.invariant taken.0)

pub comparison-returns-in_err-left-clause-stops : goal.comparison-returns-in_err-left-clause-stops
comparison-returns-in_err-left-clause-stops t c =
    let p = err_from_is_err_and c.from_residual.result c.from_residual.ensures.1 in
    rw (p.1, p.2) (comparison-stops-first c.args.self.now c.args.depth c.args.tokens.now _ c.in_err-left.ensures.stops)

pub comparison-returns-in_err-op-clause-stops : goal.comparison-returns-in_err-op-clause-stops
comparison-returns-in_err-op-clause-stops t c =
    let p = err_from_is_err_and c.from_residual-in_err-op.result c.from_residual-in_err-op.ensures.1 in
    rw (p.1, p.2) (comparison-stops-operator c.args.self.now c.args.depth c.args.tokens.now _ (expr_of c.in_ok-left.left) _ c.in_ok-left.ensures.read c.in_err-op.ensures.stops)

pub comparison-returns-in_default-clause-read : goal.comparison-returns-in_default-clause-read
comparison-returns-in_default-clause-read t c =
    let taken = rw c.in_default.is at c.in_ok-op.ensures.taken in
    rw taken.1 (comparison-alone c.args.self.now c.args.depth c.args.tokens.now _ (expr_of c.in_ok-left.left) c.in_ok-left.ensures.read taken.0)

pub comparison-returns-in_err-right-clause-stops : goal.comparison-returns-in_err-right-clause-stops
comparison-returns-in_err-right-clause-stops t c =
    let p = err_from_is_err_and c.from_residual-in_err-right.result c.from_residual-in_err-right.ensures.1 in
    let taken = rw c.in-Some.is at c.in_ok-op.ensures.taken in
    rw (p.1, p.2)
    (comparison-stops-right c.args.self.now c.args.depth c.args.tokens.now _ _ (expr_of c.in_ok-left.left) (op_of c.in-Some.op) _ c.in_ok-left.ensures.read taken.0 taken.1 c.in_err-right.ensures.stops)

pub comparison-returns-clause-read : goal.comparison-returns-clause-read
comparison-returns-clause-read t c =
    let taken = rw c.in-Some.is at c.in_ok-op.ensures.taken in
    rw c.in_ok-two.ensures
    (comparison-two c.args.self.now c.args.depth c.args.tokens.now _ _ _ (expr_of c.in_ok-left.left) (expr_of c.in_ok-right.right) (op_of c.in-Some.op) c.in_ok-left.ensures.read taken.0 taken.1 c.in_ok-right.ensures.read)

pub in_brackets-returns-in_err-pass-clause-stops : goal.in_brackets-returns-in_err-pass-clause-stops
in_brackets-returns-in_err-pass-clause-stops t c =
    let p = err_from_is_err_and c.from_residual.result c.from_residual.ensures.1 in
    rw (p.1, p.2, c.in_err-pass.ensures.error _ c.requires.next)
    (begins-deep c.args.self.now _ _ _ c.args.tokens.now _ _ (begins-brackets c.args.self.now c.args.depth _ c.args.tokens.now _ c.requires.next) c.in_err-pass.ensures.deep)

pub in_brackets-returns-in_err-inner-clause-stops : goal.in_brackets-returns-in_err-inner-clause-stops
in_brackets-returns-in_err-inner-clause-stops t c =
    let p = err_from_is_err_and c.from_residual-in_err-inner.result c.from_residual-in_err-inner.ensures.1 in
    let stops = rw c.in_ok-pass.ensures.passed at c.in_err-inner.ensures.stops in
    rw (p.1, p.2) (stops-brackets-inner c.args.self.now c.args.depth _ c.args.tokens.now _ _ c.requires.next c.in_ok-pass.ensures.shallow stops)

pub in_brackets-returns-in_err-expect-clause-stops : goal.in_brackets-returns-in_err-expect-clause-stops
in_brackets-returns-in_err-expect-clause-stops t c =
    let p = err_from_is_err_and c.from_residual-in_err-expect.result c.from_residual-in_err-expect.ensures.1 in
    let read = rw c.in_ok-pass.ensures.passed at c.in_ok-inner.ensures.read in
    rw (p.1, p.2)
    (stops-brackets-close c.args.self.now c.args.depth _ c.args.tokens.now _ _ (expr_of c.in_ok-inner.inner) _ c.requires.next c.in_ok-pass.ensures.shallow read c.in_err-expect.ensures.stops)

pub in_brackets-returns-clause-read : goal.in_brackets-returns-clause-read
in_brackets-returns-clause-read t c =
    let read = rw c.in_ok-pass.ensures.passed at c.in_ok-inner.ensures.read in
    reads-brackets c.args.self.now c.args.depth _ c.args.tokens.now _ _ _ (expr_of c.in_ok-inner.inner) c.requires.next c.in_ok-pass.ensures.shallow read c.in_ok-expect.ensures.passed

pub negated-returns-in_err-take-clause-stops : goal.negated-returns-in_err-take-clause-stops
negated-returns-in_err-take-clause-stops t c =
    let p = err_from_is_err_and c.from_residual.result c.from_residual.ensures.1 in
    rw (p.1, p.2) (negated-deep c.args.self.now c.args.depth c.args.tokens.now _ c.in_err-take.ensures.deep)

pub negated-returns-then-not-branch-clause-read : goal.negated-returns-then-not-branch-clause-read
negated-returns-then-not-branch-clause-read t c =
    let taken = rw c.if-not-branch.true at c.in_ok-take.ensures.taken in
    let read = rw taken.1 at c.comparison.ensures.read in
    IfOk-map c.comparison.result (λ e. negated-comparison c.args.self.now c.args.depth c.args.tokens.now _ (expr_of e) taken.0) read

pub negated-returns-then-not-branch-clause-stops : goal.negated-returns-then-not-branch-clause-stops
negated-returns-then-not-branch-clause-stops t c =
    let taken = rw c.if-not-branch.true at c.in_ok-take.ensures.taken in
    let stops = rw taken.1 at c.comparison.ensures.stops in
    IfErr-map c.comparison.result (λ error. negated-stops-comparison c.args.self.now c.args.depth c.args.tokens.now error taken.0) stops

pub negated-returns-in_err-operand-clause-stops : goal.negated-returns-in_err-operand-clause-stops
negated-returns-in_err-operand-clause-stops t c =
    let p = err_from_is_err_and c.from_residual-in_err-operand.result c.from_residual-in_err-operand.ensures.1 in
    let taken = rw c.if-not-branch.false at c.in_ok-take.ensures.taken in
    rw (p.1, p.2) (negated-stops-not c.args.self.now c.args.depth c.args.tokens.now _ _ taken c.in_err-operand.ensures.stops)

pub negated-returns-clause-read : goal.negated-returns-clause-read
negated-returns-clause-read t c =
    let taken = rw c.if-not-branch.false at c.in_ok-take.ensures.taken in
    rw c.in_ok-new.ensures (negated-not c.args.self.now c.args.depth c.args.tokens.now _ _ (expr_of c.in_ok-operand.operand) taken c.in_ok-operand.ensures.read)

pub negative-returns-in_err-pass-clause-stops : goal.negative-returns-in_err-pass-clause-stops
negative-returns-in_err-pass-clause-stops t c =
    let p = err_from_is_err_and c.from_residual.result c.from_residual.ensures.1 in
    rw (p.1, p.2, c.in_err-pass.ensures.error _ c.requires.next)
    (begins-deep c.args.self.now _ _ _ c.args.tokens.now _ _ (begins-minus c.args.self.now c.args.depth _ c.args.tokens.now _ c.requires.next) c.in_err-pass.ensures.deep)

pub negative-returns-in_err-operand-clause-stops : goal.negative-returns-in_err-operand-clause-stops
negative-returns-in_err-operand-clause-stops t c =
    let p = err_from_is_err_and c.from_residual-in_err-operand.result c.from_residual-in_err-operand.ensures.1 in
    let stops = rw c.in_ok-pass.ensures.passed at c.in_err-operand.ensures.stops in
    rw (p.1, p.2) (stops-minus c.args.self.now c.args.depth _ c.args.tokens.now _ _ c.requires.next c.in_ok-pass.ensures.shallow stops)

pub negative-returns-clause-read : goal.negative-returns-clause-read
negative-returns-clause-read t c =
    let read = rw c.in_ok-pass.ensures.passed at c.in_ok-operand.ensures.read in
    rw c.in_ok-new.ensures (reads-minus c.args.self.now c.args.depth _ c.args.tokens.now _ _ (expr_of c.in_ok-operand.operand) c.requires.next c.in_ok-pass.ensures.shallow read)

pub of_two-returns-in_err-pass-clause-stops : goal.of_two-returns-in_err-pass-clause-stops
of_two-returns-in_err-pass-clause-stops t c =
    let p = err_from_is_err_and c.from_residual.result c.from_residual.ensures.1 in
    rw (p.1, p.2, c.in_err-pass.ensures.error _ c.requires.next)
    (begins-deep c.args.self.now _ _ _ c.args.tokens.now _ _ (begins-two c.args.self.now (op_of c.args.op) c.args.depth _ c.args.tokens.now _ c.requires.next c.requires.prefix) c.in_err-pass.ensures.deep)

pub of_two-returns-in_err-expect-clause-stops : goal.of_two-returns-in_err-expect-clause-stops
of_two-returns-in_err-expect-clause-stops t c =
    let p = err_from_is_err_and c.from_residual-in_err-expect.result c.from_residual-in_err-expect.ensures.1 in
    let stops = rw c.in_ok-pass.ensures.passed at c.in_err-expect.ensures.stops in
    let led = led-word c.args.self.now (op_of c.args.op) c.args.depth _ c.args.tokens.now _ c.requires.next c.requires.prefix c.in_ok-pass.ensures.shallow in
    rw (p.1, p.2) (led-stops c.args.self.now c.args.depth c.args.tokens.now _ _ _ _ led stops)

pub of_two-returns-in_err-left-clause-stops : goal.of_two-returns-in_err-left-clause-stops
of_two-returns-in_err-left-clause-stops t c =
    let p = err_from_is_err_and c.from_residual-in_err-left.result c.from_residual-in_err-left.ensures.1 in
    let opened = rw c.in_ok-pass.ensures.passed at c.in_ok-expect.ensures.passed in
    let led = led-word c.args.self.now (op_of c.args.op) c.args.depth _ c.args.tokens.now _ c.requires.next c.requires.prefix c.in_ok-pass.ensures.shallow in
    let led_open = led-open c.args.self.now c.args.depth c.args.tokens.now _ _ led opened in
    rw (p.1, p.2) (led-stops-first c.args.self.now c.args.depth c.args.tokens.now _ _ led_open c.in_err-left.ensures.stops)

pub of_two-returns-in_err-expect-2-clause-stops : goal.of_two-returns-in_err-expect-2-clause-stops
of_two-returns-in_err-expect-2-clause-stops t c =
    let p = err_from_is_err_and c.from_residual-in_err-expect-2.result c.from_residual-in_err-expect-2.ensures.1 in
    let opened = rw c.in_ok-pass.ensures.passed at c.in_ok-expect.ensures.passed in
    let led = led-word c.args.self.now (op_of c.args.op) c.args.depth _ c.args.tokens.now _ c.requires.next c.requires.prefix c.in_ok-pass.ensures.shallow in
    let led_open = led-open c.args.self.now c.args.depth c.args.tokens.now _ _ led opened in
    let led_first = led-first c.args.self.now c.args.depth c.args.tokens.now _ _ (expr_of c.in_ok-left.left) led_open c.in_ok-left.ensures.read in
    rw (p.1, p.2) (led-stops-comma c.args.self.now c.args.depth c.args.tokens.now _ _ led_first c.in_err-expect-2.ensures.stops)

pub of_two-returns-in_err-right-clause-stops : goal.of_two-returns-in_err-right-clause-stops
of_two-returns-in_err-right-clause-stops t c =
    let p = err_from_is_err_and c.from_residual-in_err-right.result c.from_residual-in_err-right.ensures.1 in
    let opened = rw c.in_ok-pass.ensures.passed at c.in_ok-expect.ensures.passed in
    let led = led-word c.args.self.now (op_of c.args.op) c.args.depth _ c.args.tokens.now _ c.requires.next c.requires.prefix c.in_ok-pass.ensures.shallow in
    let led_open = led-open c.args.self.now c.args.depth c.args.tokens.now _ _ led opened in
    let led_first = led-first c.args.self.now c.args.depth c.args.tokens.now _ _ (expr_of c.in_ok-left.left) led_open c.in_ok-left.ensures.read in
    let led_comma = led-comma c.args.self.now c.args.depth c.args.tokens.now _ _ led_first c.in_ok-expect-2.ensures.passed in
    rw (p.1, p.2) (led-stops-second c.args.self.now c.args.depth c.args.tokens.now _ _ led_comma c.in_err-right.ensures.stops)

pub of_two-returns-in_err-expect-3-clause-stops : goal.of_two-returns-in_err-expect-3-clause-stops
of_two-returns-in_err-expect-3-clause-stops t c =
    let p = err_from_is_err_and c.from_residual-in_err-expect-3.result c.from_residual-in_err-expect-3.ensures.1 in
    let opened = rw c.in_ok-pass.ensures.passed at c.in_ok-expect.ensures.passed in
    let led = led-word c.args.self.now (op_of c.args.op) c.args.depth _ c.args.tokens.now _ c.requires.next c.requires.prefix c.in_ok-pass.ensures.shallow in
    let led_open = led-open c.args.self.now c.args.depth c.args.tokens.now _ _ led opened in
    let led_first = led-first c.args.self.now c.args.depth c.args.tokens.now _ _ (expr_of c.in_ok-left.left) led_open c.in_ok-left.ensures.read in
    let led_comma = led-comma c.args.self.now c.args.depth c.args.tokens.now _ _ led_first c.in_ok-expect-2.ensures.passed in
    let led_second = led-second c.args.self.now c.args.depth c.args.tokens.now _ _ (expr_of c.in_ok-right.right) led_comma c.in_ok-right.ensures.read in
    rw (p.1, p.2) (led-stops c.args.self.now c.args.depth c.args.tokens.now _ _ (λ k. k) _ led_second c.in_err-expect-3.ensures.stops)

pub of_two-returns-clause-read : goal.of_two-returns-clause-read
of_two-returns-clause-read t c =
    let opened = rw c.in_ok-pass.ensures.passed at c.in_ok-expect.ensures.passed in
    rw c.in_ok-two.ensures
    (reads-two c.args.self.now (op_of c.args.op) c.args.depth _ c.args.tokens.now _ _ _ _ _ _ (expr_of c.in_ok-left.left) (expr_of c.in_ok-right.right) c.requires.next c.requires.prefix c.in_ok-pass.ensures.shallow opened c.in_ok-left.ensures.read c.in_ok-expect-2.ensures.passed c.in_ok-right.ensures.read c.in_ok-expect-3.ensures.passed)

pub unary-returns-in_default-clause-stops : goal.unary-returns-in_default-clause-stops
unary-returns-in_default-clause-stops t c =
    rw (c.malformed.ensures, c.in_default.ensures.none) (unary-end c.args.self.now c.args.depth)

pub unary-returns-in_default-token : goal.unary-returns-in_default-token
unary-returns-in_default-token t c =
    let known = c.in_default-token in
    let other = other-token c.in-Some.next.token known.not-Name known.not-Number known.not-Open known.not-Operator in
    let column = rw c.in-Some.ensures.some at c.malformed-in_default-token.ensures in
    record {
      read = tt;
      stops = rw column (unary-other c.args.self.now c.args.depth c.in-Some.next.column (token_of c.in-Some.next.token) c.args.tokens.now _ c.in-Some.ensures.some other);
    }

pub prefixed-returns-clause-stops : goal.prefixed-returns-clause-stops
prefixed-returns-clause-stops t c =
    rw c.malformed.ensures (unary-other c.args.self.now c.args.depth _ _ c.args.tokens.now _ c.requires.next (other-operator (op_of c.args.op) (search rules) (search rules)))
