use Rattle.std.proofs.Common.{◌≡◌, ℕ, ◌+◌, [], All, length, ap, sym, subst, ◌∙◌, arith}
use Rattle.std.proofs.lemmas.List.{length_push}
use Rattle.std.proofs.lemmas.List.Elements.{All-push}
use Rattle.pv_links.proofs.rows.new_rows.Goals as goal

pub loop-preserved : goal.loop-preserved
loop-preserved g c =
    let rows = c.loop.rows.items in
    let kept = c.loop.invariant in
    let new = c.in_ok-push.ensures.items in (
      ap (λ (n : ℕ). n + 1) kept.0 ∙ sym (length_push rows c.new.result) ∙ sym (ap (λ l. length l) new),
      let less = c.loop-test.true in omega arith,
      subst (λ l. All (λ row. row.items ≡ []) l) (sym new) (All-push (λ row. row.items ≡ []) rows c.new.result kept.2 c.new.ensures.items),
    )

pub returns-clause-count : goal.returns-clause-count
returns-clause-count g c =
    let kept = c.loop.invariant in
    let same = kept.0 in
    let few = kept.1 in
    let done = c.loop-test.false in
    omega arith
