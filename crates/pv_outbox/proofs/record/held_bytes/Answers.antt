-- The kind, the output, and the condition.
use Rattle.std.proofs.Common.{◌++◌, ap, ◌∙◌, arith}
use Rattle.pv_base.specs.BigEndian.{big_endian}
use Rattle.pv_outbox.proofs.SpellingLemmas.{held-spelled, two-parts}
use Rattle.pv_outbox.proofs.record.held_bytes.Goals as goal

pub returns : goal.returns
returns c =
    held-spelled c.args.output c.args.when.now c.requires.0 c.done.result.items (omega arith) c.requires.1
    (c.done.ensures
    ∙ two-parts (big_endian 1 17) (big_endian 4 c.args.output) c.requires.0 c.u8.new.self.bytes c.u32.new.self.bytes c.put_poly.new.put.bytes
    (c.in_ok-u8.ensures.written ∙ ap (λ front. front ++ big_endian 1 17) c.new-put.ensures)
    c.in_ok-u32.ensures.written
    (c.in_ok-put_poly.ensures.written c.requires.0 c.requires.1))
