-- One word has nothing behind it.
use Rattle.std.proofs.Common.{ℕ, List, [], ◌∷◌, sym, ap, ◌∙◌, eqb-true}
use Rattle.pv_audit.proofs.PartsLemmas.{none-texts, some-words}
use Rattle.pv_audit.proofs.parts.one_word.Goals as goal

pub returns-in_err-word-clause-none : goal.returns-in_err-word-clause-none
returns-in_err-word-clause-none c = rw c.from_residual.ensures (λ word are. some-words c.args.words.now word [] c.in_err-word.ensures.none are)

pub returns-clause-some : goal.returns-clause-some
returns-clause-some c =
    c.in_ok-word.ensures.some ∙ ap (λ (rest : List (List ℕ)). c.in_ok-word.word.now ∷ rest)
    (none-texts c.in_ok-word.rest.now (eqb-true _ 0 (sym c.is_empty.ensures ∙ c.if-not-is_empty.false)))
