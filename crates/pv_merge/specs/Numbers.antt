-- How messages are numbered.
use Rattle.std.specs.Prelude.{ℕ, ◌+◌, List, [], ◌∷◌}
use Rattle.pv_law_histories.specs.Merge.{Moment}

-- For each moment the number of its first message, where so many messages came before.
abbrev pub numbers_from : ℕ → List Moment → List ℕ
numbers_from sent [] = []
numbers_from sent (moment ∷ moments) = sent ∷ numbers_from (sent + moment.entry.sends) moments
