-- The lines of one request more.
use Rattle.std.proofs.Common.{◌≡◌, ℕ, ◌+◌, ◌<◌, Bool, List, [], ◌∷◌, ◌++◌, get_or, sym, ap, ◌∙◌, subst, arith}
use Rattle.std.proofs.Math.ListN.{get_or-append}
use Rattle.std.proofs.Math.Seq.{get_or-append_seam}
use Rattle.std.proofs.lemmas.List.{length-append}
use mathlib.Core.Logic.{dite}
use native.Mathlib.Decide.{ℕ_discrete}
use Rattle.pv_law_histories.specs.History.{Stamped}
use Rattle.pv_told.specs.Lines.{AreLinesOf, IsSaid}
use Rattle.pv_told.specs.declared.line.ClientLine.{ClientLine}

module _ (me : ℕ) (worn : Bool) (history : List Stamped) (client n : ℕ) (lines : List ClientLine) (line : ClientLine) where
  abbrev IsLine : ℕ → ClientLine → Type 0
  IsLine k one = (one.request ≡ k) × IsSaid me worn history (record { client = client; number = k }) one.what

  pub one-more : AreLinesOf me worn history client n lines → IsLine n line → AreLinesOf me worn history client (n + 1) (lines ++ line ∷ [])
  one-more are is = (
    omega (arith, are.0, length-append lines (line ∷ [])),
    λ k any less. dite (ℕ_discrete k n)
        (λ same.
        let at : get_or (lines ++ line ∷ []) k any ≡ line =
        ap (λ (j : ℕ). get_or (lines ++ line ∷ []) j any) (same ∙ sym are.0) ∙ get_or-append_seam lines line [] any in
        subst (IsLine k) (sym at) (subst (λ (j : ℕ). IsLine j line) (sym same) is))
        (λ isnt.
        let below : k < n = omega (arith, less, isnt) in
        subst (IsLine k) (sym (get_or-append lines (line ∷ []) any k (omega (arith, below, are.0)))) (are.1 k any below)),
  )
