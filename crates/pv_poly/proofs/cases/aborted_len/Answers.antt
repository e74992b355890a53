use Rattle.std.proofs.Common.{◌≡◌, ℕ, ◌≤◌, not, Some, None, cond, ltb, drop, length, unwrap_or, arith, rules, tests, ap, ◌∙◌}
use Rattle.std.specs.List.{position_or_len}
use Rattle.std.proofs.lemmas.Iterator.{YieldsList-from_slice}
use Rattle.std.proofs.lemmas.Iterator.Search.{position_from_yields_List}
use Rattle.std.proofs.lemmas.Bool.Decides.{nat_tests}
use Rattle.std.proofs.lemmas.List.Sums.{prefix_len-le-length}
use Rattle.pv_base.specs.Polyvalue.{Case}
use Rattle.pv_cases.specs.CasesAt.{asks_commit}
use Rattle.pv_poly.proofs.cases.aborted_len.Goals as goal

place-or-length : (place count : ℕ) → place ≤ count → unwrap_or (cond (ltb place count) (Some place) None) count ≡ place
place-or-length place count within = grind (arith, nat_tests)

pub returns : goal.returns
returns g c =
    let cases = c.args.cases.now in
    let asks = λ (case : Case g.row.V.Denot). asks_commit (drop c.args.depth case.when) in
    let found = position_from_yields_List asks _ _ c.position.result c.position.ensures.ran (YieldsList-from_slice cases cc) (λ x b q k. search (rules, tests)) in
    c.unwrap_or.ensures ∙ (ap (λ o. unwrap_or o (length cases)) found ∙ place-or-length (position_or_len asks cases) (length cases) (prefix_len-le-length (λ case. not (asks case)) cases))
