-- The next content is a record, or is none.
use Rattle.std.proofs.Common.{◌∷◌, [], ◌++◌, ◌+◌, ap, subst}
use Rattle.pv_quorum.specs.Spelling.{Spells}
use Rattle.pv_quorum.specs.Values.{record_of}
use Rattle.pv_quorum.proofs.LearnLemmas.{read-more}
use Rattle.pv_quorum.proofs.opening.known_by.Goals as goal

pub loop-content-preserved : goal.loop-content-preserved
loop-content-preserved c =
    let so_far = c.loop-content.invariant.read in
    let one : Spells (record_of c.in-Some.record) c.content-item.result.items = subst (Spells (record_of c.in-Some.record)) c.deref.ensures.value c.in-Some.ensures in
    record {
      counted = ap (λ n. n + 1) c.loop-content.invariant.counted;
      read = (
        so_far.0 ++ record_of c.in-Some.record ∷ [],
        read-more c.args.contents.now c.loop-content.content-index c.content-item.result c.loop-content-test.true c.content-item.is so_far.0 (record_of c.in-Some.record) so_far.1 one,
        c.in_ok-learn-in-Some.ensures so_far.0 so_far.1.range so_far.2,
      );
    }
