-- Lists of one thing.
use Rattle.std.proofs.Common.{◌≡◌, ⊎_elim, ℕ, get_or, replicate, arith}
use Rattle.std.proofs.lemmas.Bool.{cases_lt}
use Rattle.std.proofs.lemmas.List.{get_or-replicate, get_or_past, length-replicate}

module _ {X : Type 0} where
  -- A list of one thing has it everywhere.
  pub all-replicate : (x : X) (count number : ℕ) → get_or (replicate count x) number x ≡ x
  all-replicate x count number =
      ⊎_elim
      (λ within. get_or-replicate count number x x within)
      (λ past. get_or_past (replicate count x) number x (omega (arith, past, length-replicate count x)))
      (cases_lt number count)
