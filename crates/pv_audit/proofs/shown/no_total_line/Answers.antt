-- A total that isn't known is one of three.
use Rattle.std.proofs.Common.{refl, sym, ◌∙◌}
use Rattle.std.specs.Prelude.{codes}
use Rattle.pv_audit.specs.FirstWords.{TotalValue}
use Rattle.pv_audit.proofs.CutLemmas.{words-differ}
use Rattle.pv_audit.proofs.ItemNameLemmas.{found-item, no-item}
use Rattle.pv_audit.proofs.RefusedLemmas.{same-two}
use Rattle.pv_audit.proofs.ShownLemmas.{no-total}
use Rattle.pv_audit.proofs.shown.no_total_line.Goals as goal

pub returns-in_err-item : goal.returns-in_err-item
returns-in_err-item c =
    let locked = rw c.if-is_word.true at c.is_word.ensures in
    rw c.from_residual.ensures (
    no-total c.args.catalog.now c.args.cause.now c.args.word.now c.requires.other
    (λ met item has is. no-item c.args.catalog.now c.args.word.now item (sym c.in_err-item.ensures) has is)
    (λ met site here is. words-differ (codes "locked") (codes "down") refl (sym locked ∙ met))
    (λ met names small is. words-differ (codes "locked") (codes "outcome-limit") refl (sym locked ∙ met)))

pub returns-then-is_word : goal.returns-then-is_word
returns-then-is_word c =
    let found = found-item c.args.catalog.now c.args.word.now c.in_ok-item.item.0 (sym c.in_ok-item.ensures) in
    (TotalValue.sum_locked c.in_ok-item.item.0, record { are = same-two (rw c.if-is_word.true at c.is_word.ensures) found.1; items = found.0; within = tt }, refl)

pub returns-then-is_word-2 : goal.returns-then-is_word-2
returns-then-is_word-2 c = (
  TotalValue.sum_down c.in_ok-site.site.0,
  record {
    are = same-two (rw c.if-is_word-2.true at c.is_word-2.ensures) c.in_ok-site.ensures.site;
    items = tt;
    within = c.in_ok-site.ensures.within;
  },
  refl,
)

pub returns-then-is_word-3 : goal.returns-then-is_word-3
returns-then-is_word-3 c = (
  TotalValue.sum_limit c.in_ok-names.names,
  record {
    are = same-two (rw c.if-is_word-3.true at c.is_word-3.ensures) c.in_ok-names.ensures.number;
    items = tt;
    within = c.in_ok-names.ensures.within;
  },
  refl,
)
