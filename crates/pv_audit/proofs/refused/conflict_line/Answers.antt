-- The words are those of a conflict.
use Rattle.std.proofs.Common.{refl, sym}
use Rattle.pv_audit.proofs.ItemNameLemmas.{found-item, no-item}
use Rattle.pv_audit.proofs.RefusedLemmas.{no-four, same-four}
use Rattle.pv_protocol.specs.State.{conflict}
use Rattle.pv_audit.proofs.refused.conflict_line.Goals as goal

pub returns-then-not-is_word : goal.returns-then-not-is_word
returns-then-not-is_word c =
    no-four c.args.catalog.now c.args.cause.now c.args.site.now c.args.item.now c.args.holder.now
    (λ met site item holder has here fits first second third. (rw c.if-not-is_word.true at c.is_word.ensures) met)

pub returns-in_err-site : goal.returns-in_err-site
returns-in_err-site c = rw c.from_residual.ensures (no-four c.args.catalog.now c.args.cause.now c.args.site.now c.args.item.now c.args.holder.now
    (λ met site item holder has here fits first second third. c.in_err-site.ensures.none site here first))

pub returns-in_err-holder : goal.returns-in_err-holder
returns-in_err-holder c = rw c.from_residual-in_err-holder.ensures (no-four c.args.catalog.now c.args.cause.now c.args.site.now c.args.item.now c.args.holder.now
    (λ met site item holder has here fits first second third. c.in_err-holder.ensures.none holder fits third))

pub returns-in_err-item : goal.returns-in_err-item
returns-in_err-item c = rw c.from_residual-in_err-item.ensures (
    no-four c.args.catalog.now c.args.cause.now c.args.site.now c.args.item.now c.args.holder.now
    (λ met site item holder has here fits first second third. no-item c.args.catalog.now c.args.item.now item (sym c.in_err-item.ensures) has second))

pub returns : goal.returns
returns c =
    let found = found-item c.args.catalog.now c.args.item.now c.in_ok-item.item.0 (sym c.in_ok-item.ensures) in (
      conflict c.in_ok-site.site.0 c.in_ok-item.item.0 c.in_ok-holder.holder,
      record {
        are = same-four (rw c.if-not-is_word.false at c.is_word.ensures) c.in_ok-site.ensures.site found.1 c.in_ok-holder.ensures.txn;
        items = found.0;
        within = (c.in_ok-site.ensures.within, c.in_ok-holder.ensures.within);
      },
      refl,
    )
