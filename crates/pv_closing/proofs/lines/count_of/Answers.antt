-- One client after another is counted.
use Rattle.std.proofs.Common.{◌≡◌, ◌+◌, ◌∷◌, ◌∙◌, List, [], drop, ap, sym, subst, arith}
use Rattle.std.proofs.Math.ListN.{drop_of_length-le}
use Rattle.std.proofs.lemmas.List.{drop_more}
use Rattle.pv_script.specs.declared.live.Client.{Client}
use Rattle.pv_closing.proofs.LineLemmas.{count-more, few-more}
use Rattle.pv_closing.proofs.lines.count_of.Goals as goal
use Rattle.pv_opening.specs.Counts.{count_at}

pub counted-count-requires : goal.counted-count-requires
counted-count-requires c = omega (arith, c.loop-client.invariant.few, c.loop-client-test.true, c.requires)

pub loop-client-preserved : goal.loop-client-preserved
loop-client-preserved c =
    let clients = c.args.clients.now in
    let i = c.loop-client.client-index in
    let client = c.client-item.result in
    let site = c.args.site.0 in
    let count = c.loop-client.count in
    let whole = count_at site clients in
    let first : drop i clients ≡ client ∷ drop (i + 1) clients =
    drop_more clients i client c.loop-client-test.true ∙ ap (λ (one : Client). one ∷ drop (i + 1) clients) (sym c.client-item.is) in
    record {
      count = count-more site count c.counted-count.result client (drop (i + 1) clients) whole
          (subst (λ (left : List Client). count + count_at site left ≡ whole) first c.loop-client.invariant.count) c.counted-count.ensures;
      few = few-more site count c.counted-count.result i client c.counted-count.ensures c.loop-client.invariant.few;
    }

pub returns : goal.returns
returns c =
    let site = c.args.site.0 in
    let left = drop c.loop-client.client-index c.args.clients.now in
    let none : left ≡ [] = drop_of_length-le c.args.clients.now c.loop-client-test.false in
    let zero : count_at site left ≡ 0 = ap (λ (rest : List Client). count_at site rest) none in
    omega (arith, zero, c.loop-client.invariant.count)
