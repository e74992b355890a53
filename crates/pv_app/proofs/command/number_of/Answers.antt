-- The number that a decimal is read as is its own.
use Rattle.std.proofs.Common.{◌≡◌, ℕ, decimal, Result, Ok, Err, sym, ap, ◌∙◌, arith}
use Rattle.std.proofs.lemmas.Bool.{false≢true}
use Rattle.std.proofs.lemmas.Bool.Decides.{Decides-eqb}
use Rattle.std.proofs.lemmas.Fmt.{parse-decimal}
use Rattle.std.proofs.lemmas.Slice.Eq.{slice_eq-Decides}
use Rattle.pv_app.proofs.command.number_of.Goals as goal
use Rattle.pv_app.proofs.command.number_of.Goals.{else-number-le-MAX_NUMBER-via-then-number-le-MAX_NUMBER+else-eq, else-number-le-MAX_NUMBER-via-else-number-le-MAX_NUMBER}

never-both : {X E : Type 0} (r : Result X E) (x : X) (e : E) → r ≡ Ok x → r ≡ Err e → ⊥
never-both r x e ok err = let wrong : ⊥ = cc in wrong

same-number : {E : Type 0} (r : Result ℕ E) (x y : ℕ) → r ≡ Ok x → r ≡ Ok y → x ≡ y
same-number r x y one other = cc

pub returns-in_default-clause-none : goal.returns-in_default-clause-none
returns-in_default-clause-none c = λ none n most is.
    let parsed = parse-decimal 32 n c.args.text.now c.parse.result (omega (arith, most)) (omega (arith, most)) is c.parse.ensures.value.0 in
    never-both c.parse.result n c.in_default.field-0 parsed c.in_default.is

pub returns-else-number-le-MAX_NUMBER-clause-none : goal.returns-else-number-le-MAX_NUMBER-clause-none
returns-else-number-le-MAX_NUMBER-clause-none c = λ none n most is.
    let parsed = parse-decimal 32 n c.args.text.now c.parse.result (omega (arith, most)) (omega (arith, most)) is c.parse.ensures.value.0 in
    let number = same-number c.parse.result c.in-Ok.number n c.in-Ok.is parsed in
    elim c.else-number-le-MAX_NUMBER.branch [
      | else-number-le-MAX_NUMBER-via-then-number-le-MAX_NUMBER+else-eq w ↦
          let tested = slice_eq-Decides Decides-eqb w.format.result.now c.args.text.now w.eq.result w.eq.ensures in
          false≢true (sym w.if-eq.false ∙ tested.1 (w.format.ensures.text ∙ ap decimal number ∙ sym is))
      | else-number-le-MAX_NUMBER-via-else-number-le-MAX_NUMBER w ↦ absurd (omega (arith, number, most, w.if-number-le-MAX_NUMBER.false))
    ]
