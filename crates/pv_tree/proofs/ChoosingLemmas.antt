-- What is noted of choices holds once there are more nodes, and once one more is noted.
use Rattle.std.proofs.Common.{◌≡◌, ⊎_elim, ℕ, ◌<◌, List, Option, Some, None, get_or, length, sym, subst, ◌∙◌, arith}
use Rattle.std.proofs.lemmas.Option.{none-some}
use Rattle.pv_base.specs.declared.txn.TxnId.{TxnId}
use Rattle.pv_base.specs.Polyvalue.{Case}
use Rattle.pv_tree.specs.Choosing.{AreChosen, ChoosesInto, IsChosenAt, IsNoted}
use Rattle.pv_tree.specs.Meanings.{cases_at, Chooses, Keeps}
use Rattle.pv_tree.proofs.ChosenLemmas.{chooses-kept}
use Rattle.pv_tree.proofs.KeptLemmas.{keeps-itself}

module _ {V : Type 0} (txn : TxnId) where
  -- The choice between two nodes that were there before is one between what they are.
  between : (old new : List (List (Case V))) (aborted committed made : ℕ) → Keeps old new → aborted < length old → committed < length old
      → Chooses txn (cases_at old aborted) (cases_at old committed) new made → IsChosenAt txn new aborted committed made
  between old new aborted committed made keeps there there-too is = record {
    aborted_there = omega (arith, there, keeps.longer);
    committed_there = omega (arith, there-too, keeps.longer);
    chooses =
        subst (λ (c : List (Case V)). Chooses txn c (cases_at new committed) new made) (sym (keeps.kept aborted there))
        (subst (λ (c : List (Case V)). Chooses txn (cases_at old aborted) c new made) (sym (keeps.kept committed there-too)) is);
  }

  pub are-chosen-kept : (old new : List (List (Case V))) (noted : List (Option (ℕ × ℕ))) → Keeps old new → AreChosen txn old noted → AreChosen txn new noted
  are-chosen-kept old new noted keeps are aborted found here =
      let is = are aborted found here in
      between old new aborted found.0 found.1 keeps is.aborted_there is.committed_there (chooses-kept old new found.1 keeps is.chooses)

  -- At first none is.
  pub none-chosen : (meanings : List (List (Case V))) (noted : List (Option (ℕ × ℕ))) → ((number : ℕ) → get_or noted number None ≡ None) → AreChosen txn meanings noted
  none-chosen meanings noted none aborted found here = absurd (none-some found (sym (none aborted) ∙ here))

  -- A choice that is noted stands among the nodes.
  pub found-chosen : (meanings : List (List (Case V))) (noted : List (Option (ℕ × ℕ))) (aborted committed made : ℕ) → AreChosen txn meanings noted
      → get_or noted aborted None ≡ Some (committed, made) → ChoosesInto txn meanings meanings noted aborted committed made
  found-chosen meanings noted aborted committed made are here = record {
    kept = keeps-itself meanings;
    are_noted = are;
    chooses = (are aborted (committed, made) here).chooses;
  }

  -- So does one that is made, and then noted.
  pub chosen-into : (old new : List (List (Case V))) (noted noted' : List (Option (ℕ × ℕ))) (aborted committed made : ℕ) → Keeps old new → aborted < length old → committed < length old
      → AreChosen txn new noted → IsNoted noted noted' aborted (committed, made) → Chooses txn (cases_at old aborted) (cases_at old committed) new made
      → ChoosesInto txn old new noted' aborted committed made
  chosen-into old new noted noted' aborted committed made keeps there there-too are note is =
      let at = between old new aborted committed made keeps there there-too is in
      record {
        kept = keeps;
        are_noted = λ other found here.
            ⊎_elim
            (λ same. subst (λ (n : ℕ). IsChosenAt txn new n found.0 found.1) (sym same.0)
            (subst (λ (f : ℕ × ℕ). IsChosenAt txn new aborted f.0 f.1) (sym same.1) at))
            (λ before. are other found before)
            (note other found here);
        chooses = is;
      }
