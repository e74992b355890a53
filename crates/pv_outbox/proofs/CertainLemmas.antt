-- An outcome that a condition doesn't name makes it no more certain.
use Rattle.std.proofs.Common.{◌≡◌, ℤ, pos, Bool, false, ◌||◌, ◌&&◌, Option, List, [], ◌∷◌, ◌++◌, refl, ap, ap₂, ◌∙◌}
use Rattle.std.specs.Prelude.{not}
use Rattle.std.specs.Bool.{beq}
use Rattle.std.specs.List.{list_any}
use Rattle.std.specs.Option.{option_map_or}
use Rattle.std.specs.Ordering.{int_eq}
use Rattle.pv_base.specs.Assignment.{is_same_txn}
use Rattle.pv_base.specs.Polyvalue.{Case, names}
use Rattle.pv_base.specs.declared.literal.Literal.{Literal}
use Rattle.pv_base.specs.declared.txn.TxnId.{TxnId}
use Rattle.pv_base.proofs.AssignmentLemmas.{same-sym}
use Rattle.pv_law_outbox.specs.Certain.{is_excluded, is_certain}
use Rattle.pv_outbox.proofs.ListLemmas.{lookup-apart, or-first, or-second}

module _ (outcomes : List (TxnId × Bool)) (txn : TxnId) (commits : Bool) where
  abbrev more : List (TxnId × Bool)
  more = outcomes ++ (txn, commits) ∷ []

  excluded-apart : (literal : Literal) → is_same_txn txn literal.txn ≡ false → is_excluded more literal ≡ is_excluded outcomes literal
  excluded-apart literal apart =
      ap (λ (found : Option Bool). option_map_or (λ outcome. not (beq outcome literal.commits)) found false)
      (lookup-apart (is_same_txn literal.txn) outcomes txn commits (same-sym literal.txn txn ∙ apart))

  when-apart : (when : List Literal) → list_any (λ (literal : Literal). is_same_txn txn literal.txn) when ≡ false
      → list_any (is_excluded more) when ≡ list_any (is_excluded outcomes) when
  when-apart [] apart = refl
  when-apart (literal ∷ when) apart =
      ap₂ (λ (first rest : Bool). first || rest)
      (excluded-apart literal (or-first (is_same_txn txn literal.txn) _ apart))
      (when-apart when (or-second (is_same_txn txn literal.txn) _ apart))

  pub certain-apart : (cases : List (Case ℤ)) → names cases txn ≡ false → is_certain more cases ≡ is_certain outcomes cases
  certain-apart [] apart = refl
  certain-apart (case ∷ cases) apart =
      ap₂ (λ (first rest : Bool). (first || int_eq case.value (pos 1)) && rest)
      (when-apart case.when (or-first (list_any (λ (literal : Literal). is_same_txn txn literal.txn) case.when) _ apart))
      (certain-apart cases (or-second (list_any (λ (literal : Literal). is_same_txn txn literal.txn) case.when) _ apart))
