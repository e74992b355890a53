-- A word that isn't one makes the words others.
use Rattle.pv_audit.specs.Printed.{IsTxn}
use Rattle.pv_audit.proofs.ReadListLemmas.{unread-at}
use Rattle.pv_protocol.specs.LineText.{literal_text}
use Rattle.pv_audit.proofs.cases.literals_in.Goals as goal

pub returns-in_default-clause-none : goal.returns-in_default-clause-none
returns-in_default-clause-none c = unread-at (λ literal. IsTxn literal.txn) literal_text c.args.words.now c.loop-word.word-index _ c.loop-word-test.true c.in_default.ensures.none
