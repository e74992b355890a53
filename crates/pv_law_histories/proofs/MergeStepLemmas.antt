-- Merging a history into moments of other sites, entry by entry.
use Rattle.std.proofs.Common.{◌≡◌, ◌≢◌, ◌⊎◌, ℕ, suc, zero, ◌+◌, ◌<◌, ◌≤◌, Bool, true, false, if◌then◌else◌, List, [], ◌∷◌, All, drop, length, sym, refl, ap, ◌∙◌, subst, inl, inr, ⊎_elim, arith}
use Rattle.std.proofs.lemmas.List.Elements.{All-nil, All-cons, All-head, All-tail, All-weaker}
use Rattle.pv_law_histories.specs.Fitting.{HasRisingStamps}
use Rattle.pv_law_histories.specs.History.{Stamped}
use Rattle.pv_law_histories.specs.Merge.{Moment, IsBefore, AreInOrder, is_before, with_moment, with_history}
use Rattle.pv_law_histories.proofs.MergingLemmas.{never-both, before-test, test-before, before-trans, one-before, antisymmetric, all-history}

abbrev at : ℕ → Stamped → Moment
at n entry = record { site = n; entry = entry }

not-if : (first later : Moment) (test : Bool) → IsBefore later first → is_before first later ≡ test → is_before first later ≡ false
not-if first later true before is = absurd (antisymmetric first later (test-before first later is) before)
not-if first later false before is = is

not-before : (first later : Moment) → IsBefore later first → is_before first later ≡ false
not-before first later before = not-if first later (is_before first later) before refl

-- Of two moments of different sites the second is before the first where the first isn't before it.
other-before : (a b : Moment) → b.site ≢ a.site → is_before a b ≡ false → IsBefore b a
other-before a b apart is =
    ⊎_elim (λ before. absurd (never-both (is_before a b) is (before-test a b before))) (λ it. it) (one-before a b apart)

front : (moment : Moment) (moments : List Moment) → All (IsBefore moment) moments → with_moment moment moments ≡ moment ∷ moments
front moment [] all = refl
front moment (first ∷ moments) all =
    ap (λ (test : Bool). if test then moment ∷ (first ∷ moments) else first ∷ with_moment moment moments)
    (before-test moment first (All-head (IsBefore moment) first moments all))

behind : (moment first : Moment) (moments : List Moment) → IsBefore first moment → with_moment moment (first ∷ moments) ≡ first ∷ with_moment moment moments
behind moment first moments before =
    ap (λ (test : Bool). if test then moment ∷ (first ∷ moments) else first ∷ with_moment moment moments) (not-before moment first before)

-- A moment before all entries of a history stays the first.
history-behind : (n : ℕ) (first : Moment) (entries : List Stamped) (moments : List Moment) → All (λ entry. IsBefore first (at n entry)) entries
    → with_history n entries (first ∷ moments) ≡ first ∷ with_history n entries moments
history-behind n first [] moments all = refl
history-behind n first (entry ∷ entries) moments all =
    let P = λ (e : Stamped). IsBefore first (at n e) in
    ap (with_moment (at n entry)) (history-behind n first entries moments (All-tail P entry entries all))
    ∙ behind (at n entry) first (with_history n entries moments) (All-head P entry entries all)

-- An entry before all moments comes first.
history-front : (n : ℕ) (entry : Stamped) (entries : List Stamped) (moments : List Moment) → HasRisingStamps (entry ∷ entries)
    → All (λ moment. moment.site ≢ n) moments → All (IsBefore (at n entry)) moments
    → with_history n (entry ∷ entries) moments ≡ at n entry ∷ with_history n entries moments
history-front n entry entries moments rising apart later =
    front (at n entry) (with_history n entries moments)
    (all-history n moments apart (IsBefore (at n entry)) entries
    (All-weaker (λ (e : Stamped). entry.stamp < e.stamp) (λ (e : Stamped). IsBefore (at n entry) (at n e)) (λ e less. inl less) entries rising.0) later)

-- ## What the loops need
-- An entry that is before the next moment is added.
pub advances : (n : ℕ) (other : Moment) (later : List Moment) (entry : Stamped) (entries : List Stamped) → HasRisingStamps (entry ∷ entries)
    → other.site ≢ n → AreInOrder (other ∷ later) → All (λ moment. moment.site ≢ n) later → is_before (at n entry) other ≡ true
    → with_history n (entry ∷ entries) (other ∷ later) ≡ at n entry ∷ with_history n entries (other ∷ later)
advances n other later entry entries rising differs order apart is =
    let before = test-before (at n entry) other is in
    history-front n entry entries (other ∷ later) rising (All-cons (λ (moment : Moment). moment.site ≢ n) other later differs apart)
    (All-cons (IsBefore (at n entry)) other later before
    (All-weaker (IsBefore other) (IsBefore (at n entry)) (λ moment then_on. before-trans (at n entry) other moment before then_on) later order.0))

-- At one that isn't, the next moment is.
pub stops : (n : ℕ) (other : Moment) (later : List Moment) (entry : Stamped) (entries : List Stamped) → HasRisingStamps (entry ∷ entries)
    → other.site ≢ n → is_before (at n entry) other ≡ false
    → with_history n (entry ∷ entries) (other ∷ later) ≡ other ∷ with_history n (entry ∷ entries) later
stops n other later entry entries rising differs is =
    let before : IsBefore other (at n entry) = other-before (at n entry) other differs is in
    history-behind n other (entry ∷ entries) later
    (All-cons (λ (e : Stamped). IsBefore other (at n e)) entry entries before
    (All-weaker (λ (e : Stamped). entry.stamp < e.stamp) (λ (e : Stamped). IsBefore other (at n e))
    (λ e less. before-trans other (at n entry) (at n e) before (inl less)) entries rising.0))

-- Where no moments are left, all entries are added.
pub alone : (n : ℕ) (entry : Stamped) (entries : List Stamped) → HasRisingStamps (entry ∷ entries)
    → with_history n (entry ∷ entries) [] ≡ at n entry ∷ with_history n entries []
alone n entry entries rising =
    history-front n entry entries [] rising (All-nil (λ (moment : Moment). moment.site ≢ n)) (All-nil (IsBefore (at n entry)))

-- What is left of a history rises too.
pub rising-drop : (n : ℕ) (entries : List Stamped) → HasRisingStamps entries → HasRisingStamps (drop n entries)
rising-drop zero entries rising = rising
rising-drop (suc n) [] rising = tt
rising-drop (suc n) (entry ∷ entries) rising = rising-drop n entries rising.1
