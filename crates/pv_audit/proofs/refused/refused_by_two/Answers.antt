-- The words are those of an uncertain item.
use Rattle.std.proofs.Common.{refl, sym}
use Rattle.pv_audit.proofs.ItemNameLemmas.{found-item, no-item}
use Rattle.pv_audit.proofs.RefusedLemmas.{no-three, other-cause, same-three}
use Rattle.pv_protocol.specs.State.{uncertain}
use Rattle.pv_audit.proofs.refused.refused_by_two.Goals as goal

pub returns-in_err-item : goal.returns-in_err-item
returns-in_err-item c = rw c.from_residual.ensures (
    no-three c.args.catalog.now c.args.cause.now c.args.first.now c.args.second.now
    (λ met item names has small one two. no-item c.args.catalog.now c.args.first.now item (sym c.in_err-item.ensures) has one)
    (λ met site length here fits one two. other-cause c.args.cause.now (rw c.if-is_word.true at c.is_word.ensures) met))

pub returns-then-is_word : goal.returns-then-is_word
returns-then-is_word c =
    let found = found-item c.args.catalog.now c.args.first.now c.in_ok-item.item.0 (sym c.in_ok-item.ensures) in (
      uncertain c.in_ok-item.item.0 c.in_ok-names.names,
      record {
        are = same-three (rw c.if-is_word.true at c.is_word.ensures) found.1 c.in_ok-names.ensures.number;
        items = found.0;
        within = c.in_ok-names.ensures.within;
      },
      refl,
    )
