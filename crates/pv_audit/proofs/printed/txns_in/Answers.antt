-- A word that isn't one makes the words others.
use Rattle.pv_audit.specs.Printed.{IsTxn}
use Rattle.pv_audit.proofs.ReadListLemmas.{unread-at}
use Rattle.pv_base.specs.Txn.{txn_text}
use Rattle.pv_audit.proofs.printed.txns_in.Goals as goal

pub returns-in_default : goal.returns-in_default
returns-in_default c = unread-at IsTxn txn_text c.args.words.now c.loop-word.word-index _ c.loop-word-test.true c.in_default.ensures.none
