-- A word that isn't a semicolon is passed.
use Rattle.std.specs.Prelude.{codes}
use Rattle.pv_audit.proofs.ReadListLemmas.{texts-free}
use Rattle.pv_audit.proofs.cases.before_semicolon.Goals as goal

pub loop-place-preserved : goal.loop-place-preserved
loop-place-preserved c =
    texts-free c.args.words.now c.loop-place.place _ (codes ";") c.loop-place-test.true c.loop-place.invariant (rw c.if-is_word.false at c.is_word.ensures)
