-- A case is its value and its condition.
use Rattle.std.proofs.Common.{ℕ, ℤ, List, ◌∷◌, IsTrue, refl, sym, ap, ap₂, subst, ◌∙◌}
use Rattle.std.specs.Fmt.{signed_decimal}
use Rattle.pv_audit.specs.Words.{when_words}
use Rattle.pv_audit.proofs.CutLemmas.{same-head}
use Rattle.pv_audit.proofs.NumberLemmas.{round-signed}
use Rattle.pv_audit.proofs.PartsLemmas.{behind, some-words}
use Rattle.pv_model.specs.Meaning.{fits_i64}
use Rattle.pv_audit.proofs.cases.case_in.Goals as goal

pub returns-in_default-clause-none : goal.returns-in_default-clause-none
returns-in_default-clause-none c = λ case is same. some-words c.args.words.now (signed_decimal case.value) (when_words case.when) c.in_default.ensures.none same

pub returns-in_default-signed_in-clause-none : goal.returns-in_default-signed_in-clause-none
returns-in_default-signed_in-clause-none c = λ case is same. c.in_default-signed_in.ensures.none case.value is.value (same-head (sym c.in-Some.ensures.some ∙ same))

pub returns-in_default-2-clause-none : goal.returns-in_default-2-clause-none
returns-in_default-2-clause-none c = λ case is same.
    (rw c.in_default-2.is at c.in_ok-when.ensures.none) case.when is.txns (behind (sym c.in-Some.ensures.some ∙ same))

pub returns-clause-case : goal.returns-clause-case
returns-clause-case c =
    let when = rw c.in-Some-2.is at c.in_ok-when.ensures.when in
    let value = c.in-Some-signed_in.value in
    let round = round-signed value value c.in-Some-signed_in.ensures.within refl in (
      c.in-Some.ensures.some ∙ ap₂ (λ (w : List ℕ) (ws : List (List ℕ)). w ∷ ws) (c.in-Some-signed_in.ensures.number ∙ ap signed_decimal (sym round)) when.0,
      record { value = subst (λ (z : ℤ). IsTrue (fits_i64 z)) (sym round) c.in-Some-signed_in.ensures.within; txns = when.1 },
    )
