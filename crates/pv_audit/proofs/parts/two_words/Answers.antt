-- Two words are one behind another.
use Rattle.std.proofs.Common.{ℕ, List, [], ◌∷◌, sym, ap, ◌∙◌}
use Rattle.pv_audit.proofs.PartsLemmas.{behind, some-words}
use Rattle.pv_audit.proofs.parts.two_words.Goals as goal

pub returns-in_err-first-clause-none : goal.returns-in_err-first-clause-none
returns-in_err-first-clause-none c = rw c.from_residual.ensures (λ first second are. some-words c.args.words.now first (second ∷ []) c.in_err-first.ensures.none are)

pub returns-in_err-second-clause-none : goal.returns-in_err-second-clause-none
returns-in_err-second-clause-none c = rw c.from_residual-in_err-second.ensures (λ first second are. c.in_err-second.ensures.none second (behind (sym c.in_ok-first.ensures.some ∙ are)))

pub returns-clause-some : goal.returns-clause-some
returns-clause-some c = c.in_ok-first.ensures.some ∙ ap (λ (rest : List (List ℕ)). c.in_ok-first.first.now ∷ rest) c.in_ok-second.ensures.some
