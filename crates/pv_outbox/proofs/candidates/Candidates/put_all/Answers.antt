-- One place more is among them.
use Rattle.std.specs.List.{Contains}
use Rattle.pv_outbox.proofs.ListLemmas.{each-more}
use Rattle.pv_outbox.proofs.candidates.Candidates.put_all.Goals as goal

pub loop-place-preserved : goal.loop-place-preserved
loop-place-preserved c = record {
  more = λ there is. c.put.ensures.more there (c.loop-place.invariant.more there is);
  placed =
      each-more (Contains c.put.new.self) c.args.places.now c.loop-place.place-index _ c.loop-place-test.true
      (λ k d below. c.put.ensures.more _ (c.loop-place.invariant.placed k d below)) c.in_ok-put.ensures.placed;
}
