-- A literal is a sign and a transaction.
use Rattle.pv_audit.proofs.SignLemmas.{literal-name, no-bytes, no-sign, signed-literal}
use Rattle.pv_audit.proofs.words.literal_in.Goals as goal

pub returns-in_err-byte-clause-none : goal.returns-in_err-byte-clause-none
returns-in_err-byte-clause-none c = rw c.from_residual.ensures (λ literal fits is. no-bytes c.args.word.now literal c.in_err-byte.ensures.none is)

pub returns-in_err-commits-clause-none : goal.returns-in_err-commits-clause-none
returns-in_err-commits-clause-none c = rw c.from_residual-in_err-commits.ensures (λ literal fits is.
    no-sign c.args.word.now c.in_ok-byte.name.now c.in_ok-byte.byte literal c.in_ok-byte.ensures.some c.in_err-commits.ensures.none is)

pub returns-in_err-txn-clause-none : goal.returns-in_err-txn-clause-none
returns-in_err-txn-clause-none c = rw c.from_residual-in_err-txn.ensures (λ literal fits is.
    c.in_err-txn.ensures.none literal.txn fits (literal-name c.args.word.now c.in_ok-byte.name.now c.in_ok-byte.byte literal c.in_ok-byte.ensures.some is))

pub returns-clause-literal : goal.returns-clause-literal
returns-clause-literal c =
    signed-literal c.args.word.now c.in_ok-byte.name.now c.in_ok-byte.byte c.in_ok-commits.commits c.in_ok-txn.txn c.in_ok-byte.ensures.some c.in_ok-commits.ensures.some c.in_ok-txn.ensures.txn
