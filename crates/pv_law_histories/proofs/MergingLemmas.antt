-- Histories at rising stamps have one merge.
use Rattle.std.proofs.Common.{◌≡◌, ◌≢◌, ◌⊎◌, ℕ, zero, suc, ◌+◌, ◌<◌, ◌≤◌, Bool, true, false, ◌&&◌, ◌||◌, ◌==◌, nat_lt, if◌then◌else◌, List, [], ◌∷◌, All, length, lt-ltb, eq-eqb, ltb-true, eqb-true, sym, refl, ap, ◌∙◌, subst, inl, inr, ⊎_elim, arith}
use Rattle.std.proofs.lemmas.List.Elements.{All-nil, All-cons, All-head, All-tail, All-weaker}
use mathlib.Core.Logic.{dite}
use native.Mathlib.Decide.{ℕ_discrete, dec_le}
use Rattle.pv_law_histories.specs.Fitting.{history_of, HasRisingStamps}
use Rattle.pv_law_histories.specs.History.{Stamped}
use Rattle.pv_law_histories.specs.Merge.{Moment, IsBefore, AreInOrder, entries_of, IsMerge, is_before, with_moment, with_history, merge_from, merge}
use Rattle.pv_law_histories.proofs.MomentLemmas.{or-true, entries-same, entries-apart}

-- ## Which of two moments is before the other
or-either : (a b : Bool) → (a || b) ≡ true → (a ≡ true) ⊎ (b ≡ true)
or-either true b is = inl refl
or-either false b is = inr is

and-both : (a b : Bool) → (a && b) ≡ true → (a ≡ true) × (b ≡ true)
and-both true b is = (refl, is)
and-both false b is = absurd cc

pub never-both : (test : Bool) → test ≡ false → test ≡ true → ⊥
never-both true is other = absurd cc
never-both false is other = absurd cc

pub before-test : (first later : Moment) → IsBefore first later → is_before first later ≡ true
before-test first later before =
    let stamp = first.entry.stamp in
    let stamp' = later.entry.stamp in
    ⊎_elim (λ less. ap (λ (test : Bool). test || (stamp == stamp' && nat_lt first.site later.site)) (lt-ltb stamp stamp' less))
    (λ same. or-true (nat_lt stamp stamp') (stamp == stamp' && nat_lt first.site later.site)
    (ap (λ (test : Bool). test && nat_lt first.site later.site) (eq-eqb stamp stamp' same.0) ∙ lt-ltb first.site later.site same.1))
    before

pub test-before : (first later : Moment) → is_before first later ≡ true → IsBefore first later
test-before first later is =
    let stamp = first.entry.stamp in
    let stamp' = later.entry.stamp in
    ⊎_elim (λ less. inl (ltb-true stamp stamp' less))
    (λ same. let both = and-both (stamp == stamp') (nat_lt first.site later.site) same in
    inr (eqb-true stamp stamp' both.0, ltb-true first.site later.site both.1))
    (or-either (nat_lt stamp stamp') (stamp == stamp' && nat_lt first.site later.site) is)

pub before-trans : (a b c : Moment) → IsBefore a b → IsBefore b c → IsBefore a c
before-trans a b c first then_on =
    ⊎_elim (λ less. ⊎_elim (λ less'. inl (omega arith)) (λ same'. let stamps = same'.0 in inl (omega arith)) then_on)
    (λ same. let stamps = same.0 in let sites = same.1 in
    ⊎_elim (λ less'. inl (omega arith)) (λ same'. let stamps' = same'.0 in let sites' = same'.1 in inr (omega arith, omega arith)) then_on)
    first

-- Of two moments of different sites one is before the other.
pub one-before : (a b : Moment) → b.site ≢ a.site → IsBefore a b ⊎ IsBefore b a
one-before a b apart =
    dite (ℕ_discrete a.entry.stamp b.entry.stamp)
    (λ same. dite (dec_le a.site b.site) (λ le. inl (inr (same, omega arith))) (λ gt. inr (inr (sym same, omega arith))))
    (λ differ. dite (dec_le a.entry.stamp b.entry.stamp) (λ le. inl (inl (omega arith))) (λ gt. inr (inl (omega arith))))

-- ## One moment more
all-if : (P : Moment → Type 0) (test : Bool) (moment first : Moment) (moments with_it : List Moment) → P moment → P first → All P moments → All P with_it
    → All P (if test then moment ∷ (first ∷ moments) else first ∷ with_it)
all-if P true moment first moments with_it here head rest rest' = All-cons P moment (first ∷ moments) here (All-cons P first moments head rest)
all-if P false moment first moments with_it here head rest rest' = All-cons P first with_it head rest'

all-with : (P : Moment → Type 0) (moment : Moment) (moments : List Moment) → P moment → All P moments → All P (with_moment moment moments)
all-with P moment [] here rest = All-cons P moment [] here rest
all-with P moment (first ∷ moments) here rest =
    let head = All-head P first moments rest in
    let tail = All-tail P first moments rest in
    all-if P (is_before moment first) moment first moments (with_moment moment moments) here head tail (all-with P moment moments here tail)

order-if : (test : Bool) (moment first : Moment) (moments : List Moment) → is_before moment first ≡ test → AreInOrder (first ∷ moments)
    → IsBefore moment first ⊎ IsBefore first moment → AreInOrder (with_moment moment moments)
    → AreInOrder (if test then moment ∷ (first ∷ moments) else first ∷ with_moment moment moments)
order-if true moment first moments is order either rest =
    let before = test-before moment first is in (
      All-cons (IsBefore moment) first moments before
          (All-weaker (IsBefore first) (IsBefore moment) (λ later then_on. before-trans moment first later before then_on) moments order.0),
      order,
    )
order-if false moment first moments is order either rest =
    let before : IsBefore first moment = ⊎_elim (λ other. absurd (never-both (is_before moment first) is (before-test moment first other))) (λ it. it) either in
    (all-with (IsBefore first) moment moments before order.0, rest)

order-with : (moment : Moment) (moments : List Moment) → AreInOrder moments → All (λ other. IsBefore moment other ⊎ IsBefore other moment) moments
    → AreInOrder (with_moment moment moments)
order-with moment [] order either = (All-nil (IsBefore moment), tt)
order-with moment (first ∷ moments) order either =
    let P = λ (other : Moment). IsBefore moment other ⊎ IsBefore other moment in
    order-if (is_before moment first) moment first moments refl order (All-head P first moments either)
    (order-with moment moments order.1 (All-tail P first moments either))

other-if : (n : ℕ) (test : Bool) (moment first : Moment) (moments with_it : List Moment) → moment.site ≢ n → entries_of n with_it ≡ entries_of n moments
    → entries_of n (if test then moment ∷ (first ∷ moments) else first ∷ with_it) ≡ entries_of n (first ∷ moments)
other-if n true moment first moments with_it apart rest = entries-apart n moment (first ∷ moments) apart
other-if n false moment first moments with_it apart rest = ap (λ (entries : List Stamped). if first.site == n then first.entry ∷ entries else entries) rest

entries-other : (n : ℕ) (moment : Moment) (moments : List Moment) → moment.site ≢ n → entries_of n (with_moment moment moments) ≡ entries_of n moments
entries-other n moment [] apart = entries-apart n moment [] apart
entries-other n moment (first ∷ moments) apart =
    other-if n (is_before moment first) moment first moments (with_moment moment moments) apart (entries-other n moment moments apart)

own-if : (test : Bool) (moment first : Moment) (moments : List Moment) → is_before moment first ≡ test
    → (first.site ≢ moment.site) ⊎ (moment.entry.stamp < first.entry.stamp)
    → entries_of moment.site (with_moment moment moments) ≡ moment.entry ∷ entries_of moment.site moments
    → entries_of moment.site (if test then moment ∷ (first ∷ moments) else first ∷ with_moment moment moments) ≡ moment.entry ∷ entries_of moment.site (first ∷ moments)
own-if true moment first moments is later rest = entries-same moment.site moment (first ∷ moments) refl
own-if false moment first moments is later rest =
    let apart : first.site ≢ moment.site = ⊎_elim (λ it. it) (λ above. absurd (never-both (is_before moment first) is (before-test moment first (inl above)))) later in
    entries-apart moment.site first (with_moment moment moments) apart ∙ rest
    ∙ ap (λ (entries : List Stamped). moment.entry ∷ entries) (sym (entries-apart moment.site first moments apart))

entries-own : (moment : Moment) (moments : List Moment) → All (λ other. (other.site ≢ moment.site) ⊎ (moment.entry.stamp < other.entry.stamp)) moments
    → entries_of moment.site (with_moment moment moments) ≡ moment.entry ∷ entries_of moment.site moments
entries-own moment [] later = entries-same moment.site moment [] refl
entries-own moment (first ∷ moments) later =
    let P = λ (other : Moment). (other.site ≢ moment.site) ⊎ (moment.entry.stamp < other.entry.stamp) in
    own-if (is_before moment first) moment first moments refl (All-head P first moments later) (entries-own moment moments (All-tail P first moments later))

-- ## One history more
module _ (n : ℕ) (moments : List Moment) (apart : All (λ moment. moment.site ≢ n) moments) where
  abbrev at : Stamped → Moment
  at entry = record { site = n; entry = entry }

  pub all-history : (P : Moment → Type 0) (entries : List Stamped) → All (λ entry. P (at entry)) entries → All P moments → All P (with_history n entries moments)
  all-history P [] own others = others
  all-history P (entry ∷ entries) own others =
      let Q = λ (e : Stamped). P (at e) in
      all-with P (at entry) (with_history n entries moments) (All-head Q entry entries own)
      (all-history P entries (All-tail Q entry entries own) others)

  order-history : (entries : List Stamped) → HasRisingStamps entries → AreInOrder moments → AreInOrder (with_history n entries moments)
  order-history [] rising order = order
  order-history (entry ∷ entries) rising order =
      let Either = λ (other : Moment). IsBefore (at entry) other ⊎ IsBefore other (at entry) in
      order-with (at entry) (with_history n entries moments) (order-history entries rising.1 order)
      (all-history Either entries
      (All-weaker (λ (later : Stamped). entry.stamp < later.stamp) (λ (later : Stamped). Either (at later)) (λ later less. inl (inl less)) entries rising.0)
      (All-weaker (λ (other : Moment). other.site ≢ n) Either (λ other differ. one-before (at entry) other differ) moments apart))

  entries-none : (others : List Moment) → All (λ moment. moment.site ≢ n) others → entries_of n others ≡ []
  entries-none [] differ = refl
  entries-none (first ∷ others) differ =
      let P = λ (moment : Moment). moment.site ≢ n in
      entries-apart n first others (All-head P first others differ) ∙ entries-none others (All-tail P first others differ)

  history-own : (entries : List Stamped) → HasRisingStamps entries → entries_of n (with_history n entries moments) ≡ entries
  history-own [] rising = entries-none moments apart
  history-own (entry ∷ entries) rising =
      let Later = λ (other : Moment). (other.site ≢ n) ⊎ (entry.stamp < other.entry.stamp) in
      entries-own (at entry) (with_history n entries moments)
      (all-history Later entries
      (All-weaker (λ (later : Stamped). entry.stamp < later.stamp) (λ (later : Stamped). Later (at later)) (λ later less. inr less) entries rising.0)
      (All-weaker (λ (other : Moment). other.site ≢ n) Later (λ other differ. inl differ) moments apart))
      ∙ ap (λ (rest : List Stamped). entry ∷ rest) (history-own entries rising.1)

  history-other : (k : ℕ) (entries : List Stamped) → n ≢ k → entries_of k (with_history n entries moments) ≡ entries_of k moments
  history-other k [] differ = refl
  history-other k (entry ∷ entries) differ = entries-other k (at entry) (with_history n entries moments) differ ∙ history-other k entries differ

-- ## All histories
abbrev IsWithin : ℕ → ℕ → Moment → Type 0
IsWithin first end moment = (first ≤ moment.site) × (moment.site < end)

All-any : {A : Type 0} (P : A → Type 0) (xs : List A) → ((x : A) → P x) → All P xs
All-any P [] every = All-nil P
All-any P (x ∷ xs) every = All-cons P x xs (every x) (All-any P xs every)

-- Those behind a history are of other sites.
apart-within : (n end : ℕ) (moments : List Moment) → All (IsWithin (n + 1) end) moments → All (λ moment. moment.site ≢ n) moments
apart-within n end moments within =
    All-weaker (IsWithin (n + 1) end) (λ (moment : Moment). moment.site ≢ n) (λ moment inside same. let low = inside.0 in absurd (omega arith)) moments within

sites-from : (n : ℕ) (histories : List (List Stamped)) → All (IsWithin n (n + length histories)) (merge_from n histories)
sites-from n [] = All-nil (IsWithin n (n + 0))
sites-from n (history ∷ histories) =
    let P = IsWithin n (n + length (history ∷ histories)) in
    let rest = sites-from (n + 1) histories in
    all-history n (merge_from (n + 1) histories) (apart-within n (n + 1 + length histories) (merge_from (n + 1) histories) rest) P history
    (All-any (λ (entry : Stamped). P record { site = n; entry = entry }) history (λ entry. (omega arith, omega arith)))
    (All-weaker (IsWithin (n + 1) (n + 1 + length histories)) P (λ moment within. let low = within.0 in let high = within.1 in (omega arith, omega arith))
    (merge_from (n + 1) histories) rest)

pub apart-from : (n : ℕ) (histories : List (List Stamped)) → All (λ moment. moment.site ≢ n) (merge_from (n + 1) histories)
apart-from n histories = apart-within n (n + 1 + length histories) (merge_from (n + 1) histories) (sites-from (n + 1) histories)

abbrev pub AllRise : List (List Stamped) → Type 0
AllRise histories = (k : ℕ) → k < length histories → HasRisingStamps (history_of histories k)

pub rest-rise : (history : List Stamped) (histories : List (List Stamped)) → AllRise (history ∷ histories) → AllRise histories
rest-rise history histories rise k within = rise (suc k) (omega arith)

pub order-from : (n : ℕ) (histories : List (List Stamped)) → AllRise histories → AreInOrder (merge_from n histories)
order-from n [] rise = tt
order-from n (history ∷ histories) rise =
    order-history n (merge_from (n + 1) histories) (apart-from n histories) history (rise 0 (omega arith))
    (order-from (n + 1) histories (rest-rise history histories rise))

entries-from : (n : ℕ) (histories : List (List Stamped)) → AllRise histories → (k : ℕ) → k < length histories
    → entries_of (n + k) (merge_from n histories) ≡ history_of histories k
entries-from n [] rise k within = absurd (omega arith)
entries-from n (history ∷ histories) rise zero within =
    let same : n + 0 ≡ n = omega arith in
    ap (λ (site : ℕ). entries_of site (merge_from n (history ∷ histories))) same
    ∙ history-own n (merge_from (n + 1) histories) (apart-from n histories) history (rise 0 (omega arith))
entries-from n (history ∷ histories) rise (suc k) within =
    let same : n + suc k ≡ n + 1 + k = omega arith in
    ap (λ (site : ℕ). entries_of site (merge_from n (history ∷ histories))) same
    ∙ history-other n (merge_from (n + 1) histories) (apart-from n histories) (n + 1 + k) history (λ one. absurd (omega arith))
    ∙ entries-from (n + 1) histories (rest-rise history histories rise) k (omega arith)

pub merge-is : (histories : List (List Stamped)) → ((n : ℕ) → n < length histories → HasRisingStamps (history_of histories n)) → IsMerge histories (merge histories)
merge-is histories rise = record {
  order = order-from 0 histories rise;
  sites = All-weaker (IsWithin 0 (0 + length histories)) (λ (moment : Moment). moment.site < length histories) (λ moment within. let high = within.1 in omega arith)
      (merge histories) (sites-from 0 histories);
  entries = λ n within. let same : n ≡ 0 + n = omega arith in
      ap (λ (site : ℕ). entries_of site (merge histories)) same ∙ entries-from 0 histories rise n within;
}

-- ## There is no other
pub antisymmetric : (a b : Moment) → IsBefore a b → IsBefore b a → ⊥
antisymmetric a b first then_on =
    ⊎_elim (λ less. ⊎_elim (λ less'. absurd (omega arith)) (λ same'. let stamps = same'.0 in absurd (omega arith)) then_on)
    (λ same. let stamps = same.0 in let sites = same.1 in ⊎_elim (λ less'. absurd (omega arith)) (λ same'. let sites' = same'.1 in absurd (omega arith)) then_on)
    first

head_or : Stamped → List Stamped → Stamped
head_or other [] = other
head_or other (entry ∷ entries) = entry

tail_of : List Stamped → List Stamped
tail_of [] = []
tail_of (entry ∷ entries) = entries

-- What holds of all moments holds of one whose entry is the first of its site.
holds-of : (P : Moment → Type 0) (n : ℕ) (moments : List Moment) (entry : Stamped) (entries : List Stamped) → All P moments
    → entries_of n moments ≡ entry ∷ entries → P record { site = n; entry = entry }
unfolding head_or
holds-of P n [] entry entries all is = absurd cc
holds-of P n (first ∷ moments) entry entries all is = dite (ℕ_discrete first.site n)
    (λ same. let one = ap (head_or first.entry) (sym (entries-same n first moments same) ∙ is) in
    subst P (λ i. record { site = same i; entry = one i }) (All-head P first moments all))
    (λ apart. holds-of P n moments entry entries (All-tail P first moments all) (sym (entries-apart n first moments apart) ∙ is))

-- It is the first of the moments, or behind the first.
first-or-behind : (moment first : Moment) (rest : List Moment) (entries : List Stamped) → AreInOrder (first ∷ rest)
    → entries_of moment.site (first ∷ rest) ≡ moment.entry ∷ entries → (first ≡ moment) ⊎ IsBefore first moment
first-or-behind moment first rest entries order is =
    holds-of (λ (other : Moment). (first ≡ other) ⊎ IsBefore first other) moment.site (first ∷ rest) moment.entry entries
    (All-cons (λ (other : Moment). (first ≡ other) ⊎ IsBefore first other) first rest (inl refl)
    (All-weaker (IsBefore first) (λ (other : Moment). (first ≡ other) ⊎ IsBefore first other) (λ other before. inr before) rest order.0))
    is

-- Moments in order are determined by the entries of each site.
only-one : (count : ℕ) (xs ys : List Moment) → AreInOrder xs → AreInOrder ys → All (λ moment. moment.site < count) xs → All (λ moment. moment.site < count) ys
    → ((n : ℕ) → n < count → entries_of n xs ≡ entries_of n ys) → xs ≡ ys
unfolding tail_of
only-one count [] [] order order' sites sites' same = refl
only-one count [] (y ∷ ys) order order' sites sites' same =
    let is = same y.site (All-head (λ (moment : Moment). moment.site < count) y ys sites') ∙ entries-same y.site y ys refl in absurd cc
only-one count (x ∷ xs) [] order order' sites sites' same =
    let is = sym (same x.site (All-head (λ (moment : Moment). moment.site < count) x xs sites)) ∙ entries-same x.site x xs refl in absurd cc
only-one count (x ∷ xs) (y ∷ ys) order order' sites sites' same =
    let P = λ (moment : Moment). moment.site < count in
    let x_in = sym (same x.site (All-head P x xs sites)) ∙ entries-same x.site x xs refl in
    let y_in = same y.site (All-head P y ys sites') ∙ entries-same y.site y ys refl in
    let one : y ≡ x = ⊎_elim (λ it. it) (λ behind. ⊎_elim (λ it. sym it) (λ behind'. absurd (antisymmetric y x behind behind'))
    (first-or-behind y x xs (entries_of y.site ys) order y_in)) (first-or-behind x y ys (entries_of x.site xs) order' x_in) in
    let rest = λ (n : ℕ) (within : n < count).
    let whole : entries_of n (x ∷ xs) ≡ entries_of n (x ∷ ys) = same n within ∙ ap (λ (moment : Moment). entries_of n (moment ∷ ys)) one in
    dite (ℕ_discrete x.site n)
    (λ own. ap tail_of (sym (entries-same n x xs own) ∙ whole ∙ entries-same n x ys own))
    (λ apart. sym (entries-apart n x xs apart) ∙ whole ∙ entries-apart n x ys apart) in
    ap (λ (moments : List Moment). x ∷ moments) (only-one count xs ys order.1 order'.1 (All-tail P x xs sites) (All-tail P y ys sites') rest)
    ∙ ap (λ (moment : Moment). moment ∷ ys) (sym one)

pub merge-only : (histories : List (List Stamped)) (moments others : List Moment) → IsMerge histories moments → IsMerge histories others → moments ≡ others
merge-only histories moments others one other =
    only-one (length histories) moments others one.order other.order one.sites other.sites
    (λ n within. one.entries n within ∙ sym (other.entries n within))
