-- Whatever tokens the rest has, those found so far stand before them.
use Rattle.std.proofs.Common.{◌≡◌, ℕ, ◌+◌, List, ◌++◌, length, map, All}
use Rattle.pv_model.specs.Tokens.{Token, AreTokens}
use Rattle.pv_parse.specs.TokenView.{located_of, HasDigits}
use Rattle.pv_parse.proofs.token.tokens_of.Given as goal

abbrev pub invariant-loop-rest : goal.invariant-loop-rest
invariant-loop-rest l =
    (l.column + length l.rest ≡ 1 + length l.text)
    × ((tokens : List (ℕ × Token)) → AreTokens l.column l.rest tokens → AreTokens 1 l.text (map located_of l.found.items ++ tokens))
    × All (λ located. HasDigits located.token) l.found.items

abbrev pub decreases-loop-rest : goal.decreases-loop-rest
decreases-loop-rest l = length l.rest
