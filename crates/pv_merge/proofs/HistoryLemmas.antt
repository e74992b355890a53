-- Merging a history from one of its entries on.
use Rattle.std.proofs.Common.{◌≡◌, ◌≢◌, ℕ, suc, zero, ◌+◌, ◌<◌, ◌≤◌, true, false, List, [], ◌∷◌, ◌++◌, All, drop, get_or, length, map, append_assoc, add-one, drop-cons, sym, ap, ◌∙◌, subst, arith}
use Rattle.std.proofs.lemmas.List.{drop-map, drop_all, length-map, map-append}
use Rattle.std.proofs.lemmas.List.Elements.{All-append, All-cons, All-nil}
use Rattle.pv_base.specs.Catalog.{Declared}
use Rattle.pv_history.specs.declared.entry.Entry.{Entry}
use Rattle.pv_law_histories.specs.Fitting.{HasRisingStamps}
use Rattle.pv_law_histories.specs.History.{Stamped}
use Rattle.pv_law_histories.specs.Merge.{Moment, AreInOrder, is_before, with_history}
use Rattle.pv_law_histories.proofs.MergingLemmas.{AllRise, rest-rise}
use Rattle.pv_merge.specs.Moments.{ArePlanned, AreMomentsPlanned, IsPlanned}
use Rattle.pv_merge.specs.declared.moment.Moment as code
use Rattle.pv_law_histories.proofs.MergeStepLemmas.{advances, alone, rising-drop, stops}

-- One more at the end, seen through a map, with what follows.
pub map-one_more : {A B : Type 0} (f : A → B) (xs : List A) (x : A) (more : List B) → map f (xs ++ x ∷ []) ++ more ≡ map f xs ++ f x ∷ more
map-one_more f xs x more = ap (λ ys. ys ++ more) (map-append f xs (x ∷ [])) ∙ append_assoc (map f xs) (f x ∷ []) more

-- What is left of a list, seen through a map, begins with what its element at this place is seen as.
pub map-first : {A B : Type 0} (f : A → B) (xs : List A) (at : ℕ) (x : A) → at < length xs → x ≡ get_or xs at x
    → drop at (map f xs) ≡ f x ∷ drop (at + 1) (map f xs)
map-first f xs at x within is =
    drop-map f at xs
    ∙ ap (map f) (drop-cons xs at x within)
    ∙ ap (λ first. f first ∷ map f (drop (suc at) xs)) (sym is)
    ∙ ap (λ rest. f x ∷ rest) (sym (drop-map f (suc at) xs))
    ∙ ap (λ k. f x ∷ drop k (map f xs)) (sym (add-one at))

-- Nothing is left at the end.
pub map-end : {A B : Type 0} (f : A → B) (xs : List A) (at : ℕ) → length xs ≤ at → drop at (map f xs) ≡ []
map-end f xs at past = drop_all at (map f xs) (omega (arith, length-map xs f))

module _ (n : ℕ) (entries : List Stamped) (at : ℕ) (entry : Stamped) (rising : HasRisingStamps entries) (first : drop at entries ≡ entry ∷ drop (at + 1) entries) where
  abbrev moment : Moment
  moment = record { site = n; entry = entry }

  left-rises : HasRisingStamps (entry ∷ drop (at + 1) entries)
  left-rises = subst HasRisingStamps first (rising-drop at entries rising)

  -- It is added before a moment that it is before.
  pub before-it : (other : Moment) (later : List Moment) → other.site ≢ n → is_before moment other ≡ true
      → AreInOrder (other ∷ later) → All (λ it. it.site ≢ n) later
      → with_history n (drop at entries) (other ∷ later) ≡ moment ∷ with_history n (drop (at + 1) entries) (other ∷ later)
  before-it other later differs is order apart =
      ap (λ (es : List Stamped). with_history n es (other ∷ later)) first
      ∙ advances n other later entry (drop (at + 1) entries) left-rises differs order apart is

  -- That one comes first where it isn't.
  pub behind-it : (other : Moment) (later : List Moment) → other.site ≢ n → is_before moment other ≡ false
      → with_history n (drop at entries) (other ∷ later) ≡ other ∷ with_history n (drop at entries) later
  behind-it other later differs is =
      ap (λ (es : List Stamped). with_history n es (other ∷ later)) first
      ∙ stops n other later entry (drop (at + 1) entries) left-rises differs is
      ∙ ap (λ (es : List Stamped). other ∷ with_history n es later) (sym first)

  -- It is added where no moments are left.
  pub at-the-end : with_history n (drop at entries) [] ≡ moment ∷ with_history n (drop (at + 1) entries) []
  at-the-end = ap (λ (es : List Stamped). with_history n es []) first ∙ alone n entry (drop (at + 1) entries) left-rises

-- What is left of histories at rising stamps is so too.
pub rise-drop : (n : ℕ) (histories : List (List Stamped)) → AllRise histories → AllRise (drop n histories)
rise-drop zero histories rise = rise
rise-drop (suc n) [] rise = rise
rise-drop (suc n) (history ∷ histories) rise = rise-drop n histories (rest-rise history histories rise)

-- ## Plans
-- A moment more has the plan of its entry.
pub planned-more : (catalog : Declared) (history : List Entry) (merged : List code.Moment) (at : ℕ) (moment : code.Moment) → ArePlanned catalog history
    → AreMomentsPlanned catalog merged → at < length history → moment.entry.now ≡ get_or history at moment.entry.now → AreMomentsPlanned catalog (merged ++ moment ∷ [])
planned-more catalog history merged at moment entries moments within is =
    let P = λ (m : code.Moment). IsPlanned catalog m.entry.now.input in
    All-append P merged (moment ∷ []) moments
    (All-cons P moment [] (subst (λ (entry : Entry). IsPlanned catalog entry.input) (sym is) (entries at moment.entry.now within)) (All-nil P))
