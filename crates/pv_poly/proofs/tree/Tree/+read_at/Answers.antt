use Rattle.std.proofs.Common.{ℕ, arith, ◌∙◌}
use Rattle.pv_cases.proofs.CasesAtLemmas.{IsCut, cut-from, sure-from, cut-aborted, cut-committed, cut-read}
use Rattle.pv_poly.proofs.tree.Tree.+read_at.Given
use Rattle.pv_poly.proofs.tree.Tree.+read_at.Goals as goal
use Rattle.pv_poly.proofs.tree.Tree.+read_at.Goals.{After-aborted_len}

-- The first case has a literal at the depth, so beyond it the cases are those of a test.
the-cut : (g : Given.Over) (t : ℕ) (c : After-aborted_len g t) → IsCut c.args.depth c.args.cases.now c.in-Some.literal.now c.aborted_len.result
the-cut g t c =
    cut-from c.args.depth c.args.cases.now c.index-cases-0.result (record { when = c.first.inside.when.items; value = c.first.inside.value })
    c.deref.result.now c.in-Some.literal.now c.aborted_len.result c.requires c.index-cases-0.is c.first.view_is c.deref.ensures.value
    c.in-Some.ensures.lookup.0 c.in-Some.ensures.lookup.1 c.aborted_len.ensures

pub split_at-requires : goal.split_at-requires
split_at-requires g t c =
    let cut = the-cut g t (goal.at.split_at-requires g t c).After-aborted_len in
    omega (arith, cut.some_behind)

pub read_at-requires : goal.read_at-requires
read_at-requires g t c κs within =
    let cut = the-cut g t (goal.at.read_at-requires g t c).After-aborted_len in
    (omega (arith, cut.some_behind, c.split_at.ensures.front_len, c.decreases), (within, cut-aborted cut c.split_at.result.0.now c.split_at.ensures.front))

pub read_at-requires-in-Some : goal.read_at-requires-in-Some
read_at-requires-in-Some g t c κs within =
    let cut = the-cut g t (goal.at.read_at-requires-in-Some g t c).After-aborted_len in
    (omega (arith, cut.some_before, c.split_at.ensures.back_len, c.decreases), (within, cut-committed cut c.split_at.result.1.now c.split_at.ensures.back))

pub invariant_of-result : goal.invariant_of-result
invariant_of-result g t c =
    let cut = the-cut g t (goal.at.invariant_of-result g t c).After-aborted_len in
    (cut-read cut c.split_at.result.0.now c.split_at.result.1.now c.in_ok-new-in-Some.field-0.value c.in_ok-new-in-Some-2.field-0.value
    c.split_at.ensures.front c.split_at.ensures.back (c.in_ok-new-in-Some.ensures.ok ∙ c.in_ok-aborted-in-Some.ensures)
    (c.in_ok-new-in-Some-2.ensures.ok ∙ c.in_ok-committed-in-Some.ensures)).0

pub returns-in-None : goal.returns-in-None
returns-in-None g t c =
    c.sure.ensures
    ∙ sure-from c.args.depth c.args.cases.now c.index-cases-0.result (record { when = c.first.inside.when.items; value = c.first.inside.value })
    c.deref.result.now c.requires c.index-cases-0.is c.first.view_is c.deref.ensures.value c.in-None.ensures.lookup.0

pub returns-in_ok-new-in-Some-2 : goal.returns-in_ok-new-in-Some-2
returns-in_ok-new-in-Some-2 g t c =
    let cut = the-cut g t (goal.at.returns-in_ok-new-in-Some-2 g t c).After-aborted_len in
    (cut-read cut c.split_at.result.0.now c.split_at.result.1.now c.in_ok-new-in-Some.field-0.value c.in_ok-new-in-Some-2.field-0.value
    c.split_at.ensures.front c.split_at.ensures.back (c.in_ok-new-in-Some.ensures.ok ∙ c.in_ok-aborted-in-Some.ensures)
    (c.in_ok-new-in-Some-2.ensures.ok ∙ c.in_ok-committed-in-Some.ensures)).1
