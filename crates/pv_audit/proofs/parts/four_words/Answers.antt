-- Four words are three behind another.
use Rattle.std.proofs.Common.{ℕ, List, [], ◌∷◌, sym, ap, ◌∙◌}
use Rattle.pv_audit.proofs.PartsLemmas.{behind, some-words}
use Rattle.pv_audit.proofs.parts.four_words.Goals as goal

pub returns-in_err-first-clause-none : goal.returns-in_err-first-clause-none
returns-in_err-first-clause-none c = rw c.from_residual.ensures (λ first second third fourth are. some-words c.args.words.now first (second ∷ (third ∷ (fourth ∷ []))) c.in_err-first.ensures.none are)

pub returns-in_err-second-clause-none : goal.returns-in_err-second-clause-none
returns-in_err-second-clause-none c = rw c.from_residual-in_err-second.ensures (λ first second third fourth are. c.in_err-second.ensures.none second third fourth (behind (sym c.in_ok-first.ensures.some ∙ are)))

pub returns-clause-some : goal.returns-clause-some
returns-clause-some c = c.in_ok-first.ensures.some ∙ ap (λ (rest : List (List ℕ)). c.in_ok-first.first.now ∷ rest) c.in_ok-second.ensures.some
