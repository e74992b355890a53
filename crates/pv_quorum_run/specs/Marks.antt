-- Which messages are known to be done.
use Rattle.std.specs.Prelude.{◌≡◌, ℕ, zero, suc, ⊤, Bool, false, List, [], ◌∷◌, length}
use Rattle.pv_quorum_run.specs.declared.mail.Sent.{Sent}

-- None of the first so many marks is set, and there are as many.
abbrev pub AreDone : ℕ → List Bool → Type 0
AreDone zero marks = ⊤
AreDone (suc n) [] = ⊥
AreDone (suc n) (mark ∷ marks) = (mark ≡ false) × AreDone n marks

-- Each message has its mark, and none below the first number is fresh.
pub record AreMarked (first : ℕ) (sent : List Sent) (marks : List Bool) : Type 0 where
  pub long : length marks ≡ length sent
  pub done : AreDone first marks
