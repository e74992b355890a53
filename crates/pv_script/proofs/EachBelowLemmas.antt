-- The texts of the numbers below one are put behind what a buffer held, one after another.
use Rattle.std.proofs.Common.{◌≡◌, ℕ, ◌+◌, List, ◌++◌, sym, ap, ◌∙◌, refl, append_assoc, add-one}
use Rattle.std.proofs.lemmas.List.{append-nil}
use Rattle.pv_script.specs.Generated.{after_round, after_rounds, each_below}

-- At first there is none.
pub none_below : (text : ℕ → List ℕ) (old : List ℕ) → old ≡ old ++ each_below text 0
unfolding each_below
none_below text old = sym (append-nil old)

-- One more is put behind them.
pub one_more : (text : ℕ → List ℕ) (n : ℕ) (old now new : List ℕ) → now ≡ old ++ each_below text n → new ≡ now ++ text n → new ≡ old ++ each_below text (n + 1)
unfolding each_below
one_more text n old now new so_far put = rw add-one (put ∙ ap (λ (l : List ℕ). l ++ text n) so_far ∙ append_assoc old (each_below text n) (text n))

pub no_round : (state : ℕ) → state ≡ after_rounds 0 state
unfolding after_rounds
no_round state = refl

pub one_round_more : (rounds state now new : ℕ) → now ≡ after_rounds rounds state → new ≡ after_round now → new ≡ after_rounds (rounds + 1) state
unfolding after_rounds
one_round_more rounds state now new so_far after = rw add-one (after ∙ ap after_round so_far)
