-- The first that is of the transaction, or their number.
use Rattle.std.proofs.Common.{◌≡◌, ℕ, ◌≤◌, not, Some, None, cond, ltb, length, unwrap_or, arith, rules, tests, ap, ◌∙◌}
use Rattle.std.specs.List.{position_or_len}
use Rattle.std.proofs.lemmas.Bool.Decides.{nat_tests}
use Rattle.std.proofs.lemmas.Iterator.{YieldsList-from_slice}
use Rattle.std.proofs.lemmas.Iterator.Search.{position_from_yields_List}
use Rattle.std.proofs.lemmas.List.Sums.{prefix_len-le-length}
use Rattle.pv_base.specs.Assignment.{is_same_txn}
use Rattle.pv_mail.specs.declared.asked.Begun.{Begun}
use Rattle.pv_mail.proofs.asked.place_of.Goals as goal

place-or-length : (place count : ℕ) → place ≤ count → unwrap_or (cond (ltb place count) (Some place) None) count ≡ place
place-or-length place count within = grind (arith, nat_tests)

pub returns : goal.returns
returns c =
    let begun = c.args.begun.now in
    let of = λ (other : Begun). is_same_txn other.txn c.args.txn in
    let found = position_from_yields_List of _ _ c.position.result c.position.ensures.ran (YieldsList-from_slice begun cc) (λ x b q k. search (rules, tests)) in
    c.unwrap_or.ensures ∙ (ap (λ o. unwrap_or o (length begun)) found ∙ place-or-length (position_or_len of begun) (length begun) (prefix_len-le-length (λ other. not (of other)) begun))
