-- The kind, and the output.
use Rattle.std.proofs.Common.{◌++◌, ap, ◌∙◌, arith}
use Rattle.pv_base.specs.BigEndian.{big_endian}
use Rattle.pv_outbox.proofs.SpellingLemmas.{taken-spelled}
use Rattle.pv_outbox.proofs.record.taken_bytes.Goals as goal

pub returns : goal.returns
returns c =
    taken-spelled c.args.output c.done.result.items (omega arith)
    (c.done.ensures ∙ c.in_ok-u32.ensures.written
    ∙ ap (λ front. front ++ big_endian 4 c.args.output) (c.in_ok-u8.ensures.written ∙ ap (λ front. front ++ big_endian 1 19) c.new-put.ensures))
