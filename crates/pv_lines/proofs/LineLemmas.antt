-- Where a text ends.
use Rattle.std.proofs.Common.{◌≡◌, ℕ, List, [], ◌∷◌, length, refl, arith}
use Rattle.pv_model.specs.Text.{lines}

-- nothing has no lines
pub lines-nil : (text : List ℕ) → length text ≡ 0 → lines text ≡ []
unfolding lines
lines-nil [] none = refl
lines-nil (b ∷ bs) some = absurd (omega arith)
