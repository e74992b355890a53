-- A way is cut at its mark.
use Rattle.std.proofs.Common.{ℕ, List, ◌∷◌, ◌++◌, ap₂, ◌∙◌}
use Rattle.pv_audit.proofs.CutLemmas.{way-marked, way-parts}
use Rattle.pv_audit.proofs.words.way_in.Goals as goal

pub returns-in_err-front-clause-none : goal.returns-in_err-front-clause-none
returns-in_err-front-clause-none c = rw c.from_residual.ensures (λ from to here there is. c.in_err-front.ensures.none (way-marked c.args.word.now from to is))

pub returns-in_err-from-clause-none : goal.returns-in_err-from-clause-none
returns-in_err-from-clause-none c = rw c.from_residual-in_err-from.ensures (λ from to here there is.
    let parts = way-parts c.args.word.now c.in_ok-front.front.now c.in_ok-front.behind.now from to is c.in_ok-front.ensures.first c.in_ok-front.ensures.some in
    c.in_err-from.ensures.none from here parts.0)

pub returns-in_err-to-clause-none : goal.returns-in_err-to-clause-none
returns-in_err-to-clause-none c = rw c.from_residual-in_err-to.ensures (λ from to here there is.
    let parts = way-parts c.args.word.now c.in_ok-front.front.now c.in_ok-front.behind.now from to is c.in_ok-front.ensures.first c.in_ok-front.ensures.some in
    c.in_err-to.ensures.none to there parts.1)

pub returns-clause-way : goal.returns-clause-way
returns-clause-way c = c.in_ok-front.ensures.some ∙ ap₂ (λ (f b : List ℕ). f ++ 62 ∷ b) c.in_ok-from.ensures.site c.in_ok-to.ensures.site
