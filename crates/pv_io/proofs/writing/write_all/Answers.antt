-- The sink grew by what was written before, and then by what this write took of the rest.
use Rattle.std.proofs.Common.{◌++◌, length, take, subst, sym, ◌∙◌, ap, arith}
use Rattle.std.proofs.Math.Seq.{take-add}
use Rattle.std.proofs.KnownBytes.{Appends-trans}
use Rattle.std.specs.Io.KnownBytes.{Appends}
use Rattle.pv_io.proofs.writing.write_all.Goals as goal

pub loop-written-preserved : goal.loop-written-preserved
loop-written-preserved g c =
    let bytes = c.args.bytes.now in
    let written = c.loop-written.written in
    let count = c.in_ok-written.field-0 in
    let before = c.loop-written.invariant in
    let now = c.in_ok-written.ensures in
    let split = c.split_at.ensures.back in
    let both = ap (λ rest. take written bytes ++ take count rest) split ∙ sym (take-add written count bytes) in
    let held = g.W.Sink.held in
    let appended = Appends-trans _ _ _ _ _ before.appended now.bytes in
    record {
      within = omega (arith, now.bound);
      appended = subst (Appends (held c.args.sink.now) (held c.write.new.self)) both appended;
      known = now.known ∙ before.known;
      counted = now.uncounted ∙ before.counted;
      none = λ none. absurd (omega (arith, ap length none, c.loop-written-test.true));
    }
