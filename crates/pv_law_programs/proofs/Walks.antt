-- How placed tokens lead from what is expected before them to what is expected behind them.
use Rattle.std.proofs.Common.{◌≡◌, ℕ, Some, List, ◌∷◌}
use Rattle.pv_model.specs.Tokens.{Token}
use Rattle.pv_model.specs.Grammar.{Nested}
use Rattle.pv_law_programs.specs.Prediction.{Expected, step}

-- From what is expected before some tokens one comes, token by token, each at its nesting, to what is expected before the rest of them.
pub data Walks : List Expected → List Nested → List Expected → List Nested → Type 0 where
  here : (expected : List Expected) (ts : List Nested) → Walks expected ts expected ts
  on : (expected more behind : List Expected) (d : ℕ) (t : Token) (ts rest : List Nested) → step expected t ≡ Some (d, more) → Walks more ts behind rest
      → Walks expected ((d, t) ∷ ts) behind rest
