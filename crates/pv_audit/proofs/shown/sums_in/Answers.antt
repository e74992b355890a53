-- A word that isn't one makes the words others.
use Rattle.std.specs.Fmt.{signed_decimal}
use Rattle.pv_audit.specs.Printed.{IsSum}
use Rattle.pv_audit.proofs.ReadListLemmas.{unread-at}
use Rattle.pv_audit.proofs.shown.sums_in.Goals as goal

pub returns-in_default : goal.returns-in_default
returns-in_default c = unread-at IsSum signed_decimal c.args.words.now c.loop-word.word-index _ c.loop-word-test.true c.in_default.ensures.none
