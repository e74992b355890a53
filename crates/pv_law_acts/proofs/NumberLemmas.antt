-- Numbers that are passed stay passed, and the next number isn't passed yet.
use Rattle.std.proofs.Common.{◌≡◌, ⊎_elim, ℕ, ◌+◌, ◌<◌, ◌≤◌, Some, None, Option, List, inl, inr, refl, sym, ◌∙◌, arith}
use Rattle.pv_format.specs.Contents.{greatest_epoch}
use Rattle.pv_format.specs.Record.{Record}
use Rattle.pv_law_acts.specs.Seen.{IsNumberPassed}

-- The next numbers do not fall: within an epoch, when a site goes down, while it is down, and when it starts.
abbrev pub Rise : (last later : ℕ) → (next after : Option ℕ) → Type 0
Rise last later (Some next) (Some after) = (later ≡ last) × (next ≤ after)
Rise last later None (Some after) = last < later
Rise last later next None = later ≡ last

pub passed-stays : (records after : List Record) (next then_next : Option ℕ) → Rise (greatest_epoch records) (greatest_epoch after) next then_next
    → (epoch number : ℕ) → IsNumberPassed records next epoch number → IsNumberPassed after then_next epoch number
passed-stays records after (Some next) (Some later) rise epoch number passed =
    ⊎_elim
    (λ below. inl (omega (arith, rise.0, below)))
    (λ now. inr (now.0 ∙ sym rise.0, omega (arith, rise.1, now.1)))
    passed
passed-stays records after (Some next) None rise epoch number passed =
    ⊎_elim (λ below. omega (arith, rise, below)) (λ now. omega (arith, rise, now.0)) passed
passed-stays records after None (Some later) rise epoch number passed = inl (omega (arith, rise, passed))
passed-stays records after None None rise epoch number passed = omega (arith, rise, passed)

-- The next number isn't passed, and is once the one after it is next.

pub next-unpassed : (records : List Record) (next : ℕ) → IsNumberPassed records (Some next) (greatest_epoch records) next → ⊥
next-unpassed records next passed = ⊎_elim (λ below. omega (arith, below)) (λ now. omega (arith, now.1)) passed

pub given-passed : (records : List Record) (next : ℕ) → IsNumberPassed records (Some (next + 1)) (greatest_epoch records) next
given-passed records next = inr (refl, omega arith)
