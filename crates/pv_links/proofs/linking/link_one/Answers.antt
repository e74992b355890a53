use Rattle.std.proofs.Common.{◌≡◌, ℕ, ◌+◌, length, ap, sym, subst, ◌∙◌, arith}
use Rattle.std.proofs.lemmas.List.{length_push}
use Rattle.pv_links.specs.Links.{AreLinked}
use Rattle.pv_links.specs.Rows.{AddsTo}
use Rattle.pv_links.proofs.LinkLemmas.{linked-more}
use Rattle.pv_links.proofs.linking.link_one.Goals as goal

pub loop-to-preserved : goal.loop-to-preserved
loop-to-preserved g c =
    let outs = c.loop-to.outs.items in
    let first = c.args.ins.now.items in
    let mid = c.loop-to.ins.items in
    let last = c.push_to.new.rows.items in
    let kept = c.loop-to.invariant in
    let out = c.in_ok-out.out in
    let inlet = c.in_ok-out.inlet in
    let unused = c.in_ok-out.ensures.out in
    let new = c.in_ok-push.ensures.items in
    let long : length c.push.new.self.items ≡ length outs + 1 = ap (λ l. length l) new ∙ length_push outs out in (
      ap (λ (n : ℕ). n + 1) kept.0 ∙ sym long,
      let less = c.loop-to-test.true in let whole = c.len-to-end.ensures in let same = kept.0 in omega (arith, long),
      subst (λ l. AreLinked c.args.plan l first last) (sym new)
          (linked-more c.args.plan outs out inlet c.in_ok-out.ensures.pair c.in_ok-out.ensures.inlet first mid last kept.2 unused
          (subst (λ n. AddsTo n inlet mid last) kept.0 c.in_ok-push_to.ensures.added)),
    )
