-- Values that are put into their places, and choices between them and what there is.
use Rattle.std.proofs.Common.{◌≡◌, ◌⊎◌, ⊎_elim, ℕ, ℤ, zero, suc, Bool, true, false, Some, List, [], ◌∷◌, length, map, inl, inr, refl, sym, ap, subst, ◌∙◌}
use Rattle.std.specs.Prelude.{◌==◌}
use Rattle.std.specs.List.{Contains, slice_get, slice_set}
use Rattle.std.proofs.lemmas.Bool.{eqb-true, eq-eqb, false≢true}
use Rattle.std.proofs.lemmas.List.{length-set}
use Rattle.pv_base.proofs.Basics.{Some_inj}
use Rattle.pv_audit.specs.Values.{put_all, IsChoiceOf, AreChoices}
use Rattle.pv_base.proofs.ContainsLemmas.{Contains-first, Contains-behind, Contains-nil, Contains-cases}
use Rattle.pv_base.specs.Polyvalue.{Case}
use Rattle.pv_base.specs.declared.txn.TxnId.{TxnId}
use Rattle.pv_model.specs.Alternatives.{Read}

-- the items of reads
abbrev pub items_of : List Read → List ℕ
items_of reads = map (λ (read : Read). read.item) reads

-- ---- one place

set-here : {X : Type 0} (xs : List X) (n : ℕ) (x y : X) → slice_get (slice_set xs n x) n ≡ Some y → x ≡ y
set-here [] n x y is = absurd (let wrong : ⊥ = cc in wrong)
set-here (z ∷ xs) zero x y is = Some_inj is
set-here (z ∷ xs) (suc n) x y is = set-here xs n x y is

set-there : {X : Type 0} (xs : List X) (m n : ℕ) (x : X) → (m ≡ n → ⊥) → slice_get (slice_set xs m x) n ≡ slice_get xs n
set-there [] m n x apart = refl
set-there (z ∷ xs) zero zero x apart = absurd (apart refl)
set-there (z ∷ xs) zero (suc n) x apart = refl
set-there (z ∷ xs) (suc m) zero x apart = refl
set-there (z ∷ xs) (suc m) (suc n) x apart = set-there xs m n x (λ same. apart (ap suc same))

-- ---- all places

-- One of the writes is of the item, with these cases.
pub record IsPut (writes : List Read) (n : ℕ) (cases : List (Case ℤ)) : Type 0 where
  pub write : Read
  pub listed : Contains writes write
  pub item : write.item ≡ n
  pub cases_are : write.cases ≡ cases

put-behind : (write : Read) (writes : List Read) (n : ℕ) (cases : List (Case ℤ)) → IsPut writes n cases → IsPut (write ∷ writes) n cases
put-behind write writes n cases is = record {
  write = is.write;
  listed = Contains-behind write writes is.write is.listed;
  item = is.item;
  cases_are = is.cases_are;
}

-- What stands in a place was put there, or stood there before and nothing was put there.
pub put-cases : (values : List (List (Case ℤ))) (writes : List Read) (n : ℕ) (cases : List (Case ℤ)) → slice_get (put_all values writes) n ≡ Some cases
    → IsPut writes n cases ⊎ ((slice_get values n ≡ Some cases) × (Contains (items_of writes) n → ⊥))
put-cases values [] n cases is = inr (is, λ there. Contains-nil n there)
put-cases values (write ∷ writes) n cases is =
    ⊎_elim
    (λ put. inl (put-behind write writes n cases put))
    (λ stays. by (write.item == n) refl stays)
    (put-cases (slice_set values write.item write.cases) writes n cases is)
  where
    by : (b : Bool) → (write.item == n) ≡ b → (slice_get (slice_set values write.item write.cases) n ≡ Some cases) × (Contains (items_of writes) n → ⊥)
        → IsPut (write ∷ writes) n cases ⊎ ((slice_get values n ≡ Some cases) × (Contains (items_of (write ∷ writes)) n → ⊥))
    by true same stays =
        let at : write.item ≡ n = eqb-true write.item n same in
        inl (record {
          write = write;
          listed = Contains-first write writes;
          item = at;
          cases_are = set-here values n write.cases cases (subst (λ (m : ℕ). slice_get (slice_set values m write.cases) n ≡ Some cases) at stays.0);
        })
    by false other stays =
        let apart : write.item ≡ n → ⊥ = λ same. false≢true (sym other ∙ eq-eqb write.item n same) in
        inr (
          sym (set-there values write.item n write.cases apart) ∙ stays.0,
          λ there. ⊎_elim apart stays.1 (Contains-cases write.item (items_of writes) n there),
        )

pub length-put_all : (values : List (List (Case ℤ))) (writes : List Read) → length (put_all values writes) ≡ length values
length-put_all values [] = refl
length-put_all values (write ∷ writes) =
    length-put_all (slice_set values write.item write.cases) writes ∙ length-set values write.item write.cases

-- ---- choices

-- The choice is between what there is and one of the writes.
pub record IsChosenFrom (txn : TxnId) (values : List (List (Case ℤ))) (writes : List Read) (chosen : Read) : Type 0 where
  pub write : Read
  pub listed : Contains writes write
  pub choice : IsChoiceOf txn values write chosen

pub choice-from : (txn : TxnId) (values : List (List (Case ℤ))) (writes choices : List Read) → AreChoices txn values writes choices → (chosen : Read)
    → Contains choices chosen → IsChosenFrom txn values writes chosen
choice-from txn values [] [] are chosen there = absurd (Contains-nil chosen there)
choice-from txn values [] (first ∷ choices) are chosen there = absurd are
choice-from txn values (write ∷ writes) [] are chosen there = absurd are
choice-from txn values (write ∷ writes) (first ∷ choices) are chosen there =
    ⊎_elim
    (λ same. record {
      write = write;
      listed = Contains-first write writes;
      choice = subst (λ (c : Read). IsChoiceOf txn values write c) same are.0;
    })
    (λ behind. later (choice-from txn values writes choices are.1 chosen behind))
    (Contains-cases first choices chosen there)
  where
    later : IsChosenFrom txn values writes chosen → IsChosenFrom txn values (write ∷ writes) chosen
    later from = record { write = from.write; listed = Contains-behind write writes from.write from.listed; choice = from.choice }

pub choice-items : (txn : TxnId) (values : List (List (Case ℤ))) (writes choices : List Read) → AreChoices txn values writes choices → items_of choices ≡ items_of writes
choice-items txn values [] [] are = refl
choice-items txn values [] (first ∷ choices) are = absurd are
choice-items txn values (write ∷ writes) [] are = absurd are
choice-items txn values (write ∷ writes) (first ∷ choices) are =
    let rest : items_of choices ≡ items_of writes = choice-items txn values writes choices are.1 in
    let head : first.item ≡ write.item = are.0.0 in
    cc
