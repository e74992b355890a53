-- The wants that marks stand for are the program's, and as many as the items that it names.
use Rattle.std.proofs.Common.{◌≡◌, ⊎_elim, ℕ, zero, suc, ◌<◌, ◌≤◌, Bool, true, false, List, [], ◌∷◌, ◌++◌, map, length, cond, refl, sym, ap, subst, ◌∙◌, arith}
use Rattle.std.specs.Prelude.{IsTrue}
use Rattle.std.specs.List.{All, AllPairs, Contains}
use Rattle.std.proofs.lemmas.Bool.{false≢true, cases_lt}
use Rattle.std.proofs.lemmas.List.{length-map, get_or_past}
use Rattle.std.proofs.lemmas.List.Elements.{All-nil, All-push, All-map, Contains-append_left, Contains-push}
use Rattle.std.proofs.lemmas.List.Quantifiers.{all_pairs_push}
use Rattle.pv_base.specs.Want.{Want}
use Rattle.pv_model.specs.Syntax.{Program}
use Rattle.pv_model.specs.ProgramLaws.{assigns}
use Rattle.pv_model.specs.Check.{names_item, AreItems}
use Rattle.pv_base.proofs.MapLemmas.{Contains-map}
use Rattle.pv_base.proofs.OrderLemmas.{pairs-map}
use Rattle.pv_law_programs.proofs.ItemLemmas.{one_items}
use Rattle.pv_check.specs.declared.marks.Mark.{Mark}
use Rattle.pv_check.specs.declared.marks.Mark.TheVariants.{Unnamed}
use Rattle.pv_check.specs.Marks.{is_named, mark_at, AreMarks}
use Rattle.pv_check.specs.Wants.{AreWants, marked_want, wants_among}

-- One more at the end, where a test holds.

All-tested : {X : Type 0} (P : X → Type 0) (b : Bool) (xs : List X) (x : X) → All P xs → (b ≡ true → P x)
    → All P (cond b (xs ++ x ∷ []) xs)
All-tested P true xs x h at = All-push P xs x h (at refl)
All-tested P false xs x h at = h

pairs-tested : {X : Type 0} (R : X → X → Type 0) (b : Bool) (xs : List X) (x : X) → AllPairs R xs → All (λ y. R y x) xs
    → AllPairs R (cond b (xs ++ x ∷ []) xs)
pairs-tested R true xs x h before = all_pairs_push R xs x h before
pairs-tested R false xs x h before = h

Contains-tested : {X : Type 0} (b : Bool) (xs : List X) (x y : X) → Contains xs y → Contains (cond b (xs ++ x ∷ []) xs) y
Contains-tested true xs x y h = Contains-append_left xs (x ∷ []) y h
Contains-tested false xs x y h = h

Contains-last : {X : Type 0} (b : Bool) (xs : List X) (x : X) → b ≡ true → Contains (cond b (xs ++ x ∷ []) xs) x
Contains-last true xs x h = Contains-push xs x
Contains-last false xs x h = absurd (false≢true h)

-- The wants of the first items.

wants-below : (marks : List Mark) (n : ℕ) → All (λ (want : Want). want.item < n) (wants_among marks n)
unfolding wants_among
wants-below marks zero = All-nil _
wants-below marks (suc n) =
    All-tested (λ (want : Want). want.item < suc n) (is_named (mark_at marks n)) (wants_among marks n) (marked_want marks n)
    (λ k d l. omega (arith, wants-below marks n k d l))
    (λ h. omega arith)

wants-ascending : (marks : List Mark) (n : ℕ) → AllPairs (λ (want later : Want). want.item < later.item) (wants_among marks n)
unfolding wants_among
wants-ascending marks zero = λ i j d l within. absurd (omega (arith, within))
wants-ascending marks (suc n) =
    pairs-tested (λ (want later : Want). want.item < later.item) (is_named (mark_at marks n)) (wants_among marks n) (marked_want marks n)
    (wants-ascending marks n)
    (wants-below marks n)

wants-named : (program : Program) (marks : List Mark) (n : ℕ) → AreMarks program marks
    → All (λ (want : Want). IsTrue (names_item program want.item)) (wants_among marks n)
unfolding wants_among
wants-named program marks zero are = All-nil _
wants-named program marks (suc n) are =
    All-tested (λ (want : Want). IsTrue (names_item program want.item)) (is_named (mark_at marks n)) (wants_among marks n) (marked_want marks n)
    (wants-named program marks n are)
    (λ h. sym (are.named n) ∙ h)

wants-exclusive : (program : Program) (marks : List Mark) (n : ℕ) → AreMarks program marks
    → All (λ (want : Want). want.exclusive ≡ assigns program want.item) (wants_among marks n)
unfolding wants_among
wants-exclusive program marks zero are = All-nil _
wants-exclusive program marks (suc n) are =
    All-tested (λ (want : Want). want.exclusive ≡ assigns program want.item) (is_named (mark_at marks n)) (wants_among marks n) (marked_want marks n)
    (wants-exclusive program marks n are)
    (λ h. are.exclusive n (sym (are.named n) ∙ h))

wants-last : (marks : List Mark) (m n : ℕ) → m ≡ n → is_named (mark_at marks m) ≡ true → Contains (wants_among marks (suc n)) (marked_want marks m)
unfolding wants_among
wants-last marks m n same named =
    subst (λ (n : ℕ). Contains (wants_among marks (suc n)) (marked_want marks m)) same
    (Contains-last (is_named (mark_at marks m)) (wants_among marks m) (marked_want marks m) named)

wants-whole : (marks : List Mark) (m n : ℕ) → m < n → is_named (mark_at marks m) ≡ true → Contains (wants_among marks n) (marked_want marks m)
unfolding wants_among
wants-whole marks m zero within named = absurd (omega (arith, within))
wants-whole marks m (suc n) within named =
    ⊎_elim
    (λ before. Contains-tested (is_named (mark_at marks n)) (wants_among marks n) (marked_want marks n) (marked_want marks m)
    (wants-whole marks m n before named))
    (λ behind. wants-last marks m n (omega (arith, within, behind)) named)
    (cases_lt m n)

-- An item that is named has a mark.
named-within : (program : Program) (marks : List Mark) (n : ℕ) → AreMarks program marks → IsTrue (names_item program n) → n < length marks
named-within program marks n are named =
    ⊎_elim
    (λ within. within)
    (λ past. absurd (false≢true (ap is_named (sym (get_or_past marks n Unnamed past)) ∙ are.named n ∙ named)))
    (cases_lt n (length marks))

-- The wants that all the marks stand for are the program's.
pub AreWants-among : (program : Program) (marks : List Mark) (count : ℕ) → length marks ≤ count → AreMarks program marks
    → AreWants program (wants_among marks count)
AreWants-among program marks count all are = record {
  ascending = wants-ascending marks count;
  named = wants-named program marks count are;
  exclusive = wants-exclusive program marks count are;
  whole = λ n named.
      subst (λ (b : Bool). Contains (wants_among marks count) (record { item = n; exclusive = b }))
      (are.exclusive n named)
      (wants-whole marks n count (omega (arith, all, named-within program marks n are named)) (are.named n ∙ named));
}

-- The items of wants.

AreItems-wants : (program : Program) (wants : List Want) → AreWants program wants → AreItems program (map (λ (want : Want). want.item) wants)
AreItems-wants program wants are = record {
  ascending = pairs-map (λ (n later : ℕ). n < later) (λ (want : Want). want.item) wants are.ascending;
  each = All-map (λ (n : ℕ). IsTrue (names_item program n)) (λ (want : Want). want.item) wants are.named;
  whole = λ n named.
      Contains-map (λ (want : Want). want.item) wants (record { item = n; exclusive = assigns program n })
      (are.whole n named);
}

-- The wants are as many as the items that the program names.
pub length-wants : (program : Program) (marks : List Mark) (count : ℕ) (items : List ℕ) → length marks ≤ count → AreMarks program marks
    → AreItems program items → length (wants_among marks count) ≡ length items
length-wants program marks count items all are them =
    let wants = wants_among marks count in
    sym (length-map wants (λ (want : Want). want.item))
    ∙ ap (λ (numbers : List ℕ). length numbers)
    (one_items program (map (λ (want : Want). want.item) wants) items
    (AreItems-wants program wants (AreWants-among program marks count all are)) them)
