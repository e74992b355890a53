-- Cases have one fault at most, and sound cases with few names have none.
use Rattle.std.proofs.Common.{◌≡◌, ℕ, zero, suc, ◌<◌, ◌≤◌, List, [], ◌∷◌, length, take, refl, sym, ap, ap₂, subst, ◌∙◌, arith}
use Rattle.std.specs.Prelude.{slice_get, is_none}
use Rattle.std.specs.List.{find}
use Rattle.std.proofs.lemmas.Bool.{true≢false}
use Rattle.pv_base.specs.declared.txn.TxnId.{TxnId}
use Rattle.pv_base.specs.Assignment.{assignments}
use Rattle.pv_base.specs.Polyvalue.{Case, value_at, AreNames}
use Rattle.pv_base.specs.CaseFaults.{CaseFault, too_many, overlap, gap, unreduced, IsFirstOverlap, IsFirstGap, AreDisjoint, AreComplete, DifferFrom, IsJoinFault, names_too_many, are_not_disjoint, are_not_complete, IsCanonicalFault, are_no_polyvalue, is_not_reduced}
use Rattle.pv_base.proofs.Basics.{Some_inj}
use Rattle.pv_law_polyvalues.proofs.NameLemmas.{one-names}
use Rattle.pv_law_polyvalues.proofs.PolyvalueLemmas.{one-canonical}
use Rattle.pv_cases.proofs.CountLemmas.{same-count}
use Rattle.pv_cases.proofs.OverlapLemmas.{one-first-overlap}
use Rattle.pv_cases.proofs.GapLemmas.{found-passes}

module _ {V : Type 0} where
  same-names : (cases : List (Case V)) (txns us : List TxnId) → AreNames cases txns → AreNames cases us → txns ≡ us
  same-names cases txns us are them = one-names cases cases txns us (λ t. refl) are them

  no-gap : (cases : List (Case V)) (txns a : List TxnId) → AreComplete cases → IsFirstGap cases txns a → ⊥
  no-gap cases txns a whole first =
      true≢false (sym (found-passes (λ candidate. is_none (value_at cases candidate)) (assignments txns) a first) ∙ whole a)

  pub no-case-fault : (limit : ℕ) (cases : List (Case V)) (txns : List TxnId) → AreNames cases txns → length txns ≤ limit → AreDisjoint cases → AreComplete cases
      → (f : CaseFault) → IsJoinFault limit cases f → ⊥
  no-case-fault limit cases txns are few apart whole f (names_too_many us them more) =
      omega (arith, few, more, same-count txns us are them)
  no-case-fault limit cases txns are few apart whole f (are_not_disjoint us them few' p q first) = apart p q first.overlaps
  no-case-fault limit cases txns are few apart whole f (are_not_complete us them few' apart' a first) = no-gap cases us a whole first

  one-gap : (cases : List (Case V)) (txns us a b : List TxnId) → txns ≡ us → IsFirstGap cases txns a → IsFirstGap cases us b → a ≡ b
  one-gap cases txns us a b same is other =
      Some_inj (sym is ∙ ap (λ (ts : List TxnId). find (λ candidate. is_none (value_at cases candidate)) (assignments ts)) same ∙ other)

  one-overlap-fault : (cases : List (Case V)) (p q x y : ℕ) → IsFirstOverlap cases p q → IsFirstOverlap cases x y → overlap p q ≡ overlap x y
  one-overlap-fault cases p q x y is other =
      let same = one-first-overlap cases p q x y is other in ap₂ (λ (n m : ℕ). overlap n m) same.0 same.1

  -- the fault where an overlap comes first
  is-the-overlap : (limit : ℕ) (cases : List (Case V)) (txns : List TxnId) → AreNames cases txns → length txns ≤ limit → (p q : ℕ) → IsFirstOverlap cases p q
      → (g : CaseFault) → IsJoinFault limit cases g → overlap p q ≡ g
  is-the-overlap limit cases txns are few p q first g (names_too_many us them more) =
      absurd (omega (arith, few, more, same-count txns us are them))
  is-the-overlap limit cases txns are few p q first g (are_not_disjoint us them few' x y other) = one-overlap-fault cases p q x y first other
  is-the-overlap limit cases txns are few p q first g (are_not_complete us them few' apart a other) = absurd (apart p q first.overlaps)

  -- the fault where a gap comes first
  is-the-gap : (limit : ℕ) (cases : List (Case V)) (txns : List TxnId) → AreNames cases txns → length txns ≤ limit → AreDisjoint cases → (a : List TxnId)
      → IsFirstGap cases txns a → (g : CaseFault) → IsJoinFault limit cases g → gap a ≡ g
  is-the-gap limit cases txns are few apart a first g (names_too_many us them more) =
      absurd (omega (arith, few, more, same-count txns us are them))
  is-the-gap limit cases txns are few apart a first g (are_not_disjoint us them few' x y other) = absurd (apart x y other.overlaps)
  is-the-gap limit cases txns are few apart a first g (are_not_complete us them few' apart' b other) =
      ap (λ (c : List TxnId). gap c) (one-gap cases txns us a b (same-names cases txns us are them) first other)

  -- the fault where there are too many names
  is-the-count : (limit : ℕ) (cases : List (Case V)) (txns : List TxnId) → AreNames cases txns → limit < length txns
      → (g : CaseFault) → IsJoinFault limit cases g → too_many (length txns) ≡ g
  is-the-count limit cases txns are more g (names_too_many us them more') = ap (λ (n : ℕ). too_many n) (same-count txns us are them)
  is-the-count limit cases txns are more g (are_not_disjoint us them few x y other) =
      absurd (omega (arith, few, more, same-count txns us are them))
  is-the-count limit cases txns are more g (are_not_complete us them few apart b other) =
      absurd (omega (arith, few, more, same-count txns us are them))

  pub one-case-fault : (limit : ℕ) (cases : List (Case V)) (f g : CaseFault) → IsJoinFault limit cases f → IsJoinFault limit cases g → f ≡ g
  one-case-fault limit cases f g (names_too_many txns are more) other = is-the-count limit cases txns are more g other
  one-case-fault limit cases f g (are_not_disjoint txns are few p q first) other = is-the-overlap limit cases txns are few p q first g other
  one-case-fault limit cases f g (are_not_complete txns are few apart a first) other = is-the-gap limit cases txns are few apart a first g other

-- The first place where lists differ.

take-get : {X : Type 0} (n : ℕ) (xs : List X) (i : ℕ) → i < n → slice_get (take n xs) i ≡ slice_get xs i
take-get zero xs i less = absurd (omega (arith, less))
take-get (suc n) [] i less = refl
take-get (suc n) (x ∷ xs) zero less = refl
take-get (suc n) (x ∷ xs) (suc i) less = take-get n xs i (omega (arith, less))

module _ {V : Type 0} where
  -- Lists that are equal before a place differ at no earlier one.
  not-earlier : (cases others : List (Case V)) (p q : ℕ) → DifferFrom cases others p → DifferFrom cases others q → p < q → ⊥
  not-earlier cases others p q d e less =
      d.differ (sym (take-get q cases p less) ∙ ap (λ (cs : List (Case V)). slice_get cs p) e.equal ∙ take-get q others p less)

  one-difference : (cases others : List (Case V)) (p q : ℕ) → DifferFrom cases others p → DifferFrom cases others q → p ≡ q
  one-difference cases others p q d e =
      let least : p < q → ⊥ = not-earlier cases others p q d e in
      let most : q < p → ⊥ = not-earlier cases others q p e d in
      omega (arith, least, most)

  one-difference-of : (cases canonical others : List (Case V)) (p q : ℕ) → canonical ≡ others → DifferFrom cases canonical p → DifferFrom cases others q → p ≡ q
  one-difference-of cases canonical others p q same d e =
      one-difference cases others p q (subst (λ (cs : List (Case V)). DifferFrom cases cs p) same d) e

  pub one-list-fault : (limit : ℕ) (cases : List (Case V)) (f g : CaseFault) → IsCanonicalFault limit cases f → IsCanonicalFault limit cases g → f ≡ g
  one-list-fault limit cases f g (are_no_polyvalue f' is) (are_no_polyvalue g' other) = one-case-fault limit cases f g is other
  one-list-fault limit cases f g (are_no_polyvalue f' is) (is_not_reduced txns are few apart whole canonical c same p d) =
      absurd (no-case-fault limit cases txns are few apart whole f is)
  one-list-fault limit cases f g (is_not_reduced txns are few apart whole canonical c same p d) (are_no_polyvalue g' other) =
      absurd (no-case-fault limit cases txns are few apart whole g other)
  one-list-fault limit cases f g (is_not_reduced txns are few apart whole canonical c same p d) (is_not_reduced us them few' apart' whole' others c' same' q e) =
      ap (λ (n : ℕ). unreduced n)
      (one-difference-of cases canonical others p q (one-canonical canonical others c c' (λ a. same a ∙ sym (same' a))) d e)
