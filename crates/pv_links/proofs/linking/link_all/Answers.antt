use Rattle.std.proofs.Common.{ℕ, ◌+◌, length, ap, sym, subst, ◌∙◌, arith}
use Rattle.std.proofs.lemmas.List.{length_push}
use Rattle.pv_links.specs.Links.{AreEnds}
use Rattle.pv_links.proofs.LinkLemmas.{ends-first, ends-more}
use Rattle.pv_links.proofs.linking.link_all.Goals as goal

pub loop-init : goal.loop-init
loop-init g c = (
  sym (ap (λ l. length l) c.new-outs.ensures.items),
  omega arith,
  ends-first c.args.plan c.args.sites c.new-outs.result.items c.in_ok-ins.ins.items c.new-outs.ensures.items c.in_ok-ins.ensures.count c.in_ok-ins.ensures.empty,
)

pub loop-preserved : goal.loop-preserved
loop-preserved g c =
    let outs = c.loop.outs.items in
    let kept = c.loop.invariant in
    let row = c.in_ok-row.row in
    let new = c.in_ok-push.ensures.items in (
      ap (λ (n : ℕ). n + 1) kept.0 ∙ sym (length_push outs row) ∙ sym (ap (λ l. length l) new),
      let less = c.loop-test.true in omega arith,
      subst (λ l. AreEnds c.args.plan c.args.sites l c.link_one.new.ins.items) (sym new)
          (ends-more c.args.plan c.args.sites outs c.loop.ins.items c.link_one.new.ins.items row kept.2 c.in_ok-row.ensures.count c.in_ok-row.ensures.linked),
    )

pub returns-clause-count : goal.returns-clause-count
returns-clause-count g c =
    let kept = c.loop.invariant in
    let same = kept.0 in
    let few = kept.1 in
    let done = c.loop-test.false in
    omega arith
