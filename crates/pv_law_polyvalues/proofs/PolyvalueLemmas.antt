-- Canonical cases: what value they have, what they name, and that there is one canonical list for each value.
use Rattle.std.proofs.Common.{◌≡◌, ◌⊎◌, ⊎_elim, ℕ, suc, ◌+◌, Bool, true, false, ◌&&◌, ◌||◌, List, [], ◌∷◌, ◌++◌, length, Option, Some, None, inl, inr, cond, if◌then◌else◌, IsTrue, refl, sym, ap, ap₂, subst, ◌∙◌, filter, length-append}
use Rattle.std.specs.List.{list_any}
use Rattle.std.specs.Bool.{beq}
use Rattle.std.proofs.lemmas.Bool.{false≢true, true≢false, false_from_ne_true, true_from_ne_false, or_cases, or_left, or_right}
use Rattle.std.proofs.lemmas.List.Elements.{filter-append}
use Rattle.std.proofs.lemmas.List.Folds.{list_any-append}
use Rattle.pv_base.specs.declared.literal.Literal.{Literal}
use Rattle.pv_base.specs.declared.txn.TxnId.{TxnId}
use Rattle.pv_base.specs.Assignment.{is_same_txn, precedes, commits, with_outcome, AgreeOn}
use Rattle.pv_base.specs.Polyvalue.{Case, is_met, meets, value_at, IsSound, names, NamesOnlyAfter, under, IsCanonical, AreSameEverywhere, DependsOnlyOn}
use Rattle.pv_base.specs.Polyvalue.IsCanonical.{sure, tested}
use Rattle.pv_base.proofs.AssignmentLemmas.{same-refl, same-eq, different, precedes-irrefl, precedes-trans, precedes-other, order-of-two, commits-with-same, commits-with-other, commits-with-alike}

-- The value hangs only on the outcomes of the transactions that are named.

-- some literal of the condition names the transaction
abbrev asks : List Literal → TxnId → Bool
asks when txn = list_any (λ literal. is_same_txn txn literal.txn) when

meets-agree : (when : List Literal) (a b : List TxnId) → AgreeOn (asks when) a b → meets when a ≡ meets when b
meets-agree [] a b agree = refl
meets-agree (literal ∷ rest) a b agree =
    ap₂ (λ (first others : Bool). beq first literal.commits && others)
    (agree literal.txn (or_left _ _ (same-refl literal.txn)))
    (meets-agree rest a b (λ txn named. agree txn (or_right (is_same_txn txn literal.txn) _ named)))

pub value_at-agree : {V : Type 0} (cases : List (Case V)) → DependsOnlyOn (names cases) cases
value_at-agree [] a b agree = refl
value_at-agree (case ∷ cases) a b agree =
    ap₂ (λ (first : Bool) (rest : Option _). if first then Some case.value else rest)
    (meets-agree case.when a b (λ txn named. agree txn (or_left _ _ named)))
    (value_at-agree cases a b (λ txn named. agree txn (or_right (asks case.when txn) _ named)))

-- A transaction that isn't named can have either outcome.
pub unnamed-free : {V : Type 0} (t : TxnId) (cases : List (Case V)) → names cases t ≡ false → (outcome : Bool) (a : List TxnId) →
    value_at cases (with_outcome t outcome a) ≡ value_at cases a
unnamed-free t cases unnamed outcome a =
    value_at-agree cases (with_outcome t outcome a) a
    (λ u named. commits-with-other t outcome a u
    (different {t = t} {u = u} (λ equal. true≢false (sym named ∙ ap (names cases) (sym equal) ∙ unnamed))))

-- The value of a test is that of the side that the transaction's outcome picks.

-- Where the outcome is another, the cases under it are passed over.
under-passed : {V : Type 0} (t : TxnId) (outcome : Bool) (cases rest : List (Case V)) (a : List TxnId) → beq (commits a t) outcome ≡ false →
    value_at (under t outcome cases ++ rest) a ≡ value_at rest a
under-passed t outcome [] rest a unmet = refl
under-passed t outcome (case ∷ cases) rest a unmet =
    ap (λ (b : Bool). if b && meets case.when a then Some case.value else value_at (under t outcome cases ++ rest) a) unmet
    ∙ under-passed t outcome cases rest a unmet

-- Where the outcome is this one, the cases under it are as they are.
under-kept : {V : Type 0} (t : TxnId) (outcome : Bool) (cases rest : List (Case V)) (a : List TxnId) → beq (commits a t) outcome ≡ true →
    value_at (under t outcome cases ++ rest) a ≡ value_at (cases ++ rest) a
under-kept t outcome [] rest a met = refl
under-kept t outcome (case ∷ cases) rest a met =
    ap₂ (λ (b : Bool) (others : Option _). if b && meets case.when a then Some case.value else others) met
    (under-kept t outcome cases rest a met)

-- Cases that have no value at the end change nothing.
none-behind : {V : Type 0} (cases rest : List (Case V)) (a : List TxnId) → value_at rest a ≡ None → value_at (cases ++ rest) a ≡ value_at cases a
none-behind [] rest a none = none
none-behind (case ∷ cases) rest a none =
    ap (λ (others : Option _). if meets case.when a then Some case.value else others) (none-behind cases rest a none)

-- Under an outcome that doesn't come there is no value.
under-none : {V : Type 0} (t : TxnId) (outcome : Bool) (cases : List (Case V)) (a : List TxnId) → beq (commits a t) outcome ≡ false →
    value_at (under t outcome cases) a ≡ None
under-none t outcome [] a unmet = refl
under-none t outcome (case ∷ cases) a unmet =
    ap (λ (b : Bool). if b && meets case.when a then Some case.value else value_at (under t outcome cases) a) unmet
    ∙ under-none t outcome cases a unmet

-- Under an outcome that comes the value is as it is.
under-as-it-is : {V : Type 0} (t : TxnId) (outcome : Bool) (cases : List (Case V)) (a : List TxnId) → beq (commits a t) outcome ≡ true →
    value_at (under t outcome cases) a ≡ value_at cases a
under-as-it-is t outcome [] a met = refl
under-as-it-is t outcome (case ∷ cases) a met =
    ap₂ (λ (b : Bool) (others : Option _). if b && meets case.when a then Some case.value else others) met
    (under-as-it-is t outcome cases a met)

pub value_at-front : {V : Type 0} (t : TxnId) (front back : List (Case V)) (a : List TxnId) → commits a t ≡ false →
    value_at (under t false front ++ under t true back) a ≡ value_at front a
value_at-front t front back a aborts =
    under-kept t false front (under t true back) a (ap (λ (b : Bool). beq b false) aborts)
    ∙ none-behind front (under t true back) a (under-none t true back a (ap (λ (b : Bool). beq b true) aborts))

pub value_at-back : {V : Type 0} (t : TxnId) (front back : List (Case V)) (a : List TxnId) → commits a t ≡ true →
    value_at (under t false front ++ under t true back) a ≡ value_at back a
value_at-back t front back a does =
    under-passed t false front (under t true back) a (ap (λ (b : Bool). beq b false) does)
    ∙ under-as-it-is t true back a (ap (λ (b : Bool). beq b true) does)

value_at-by : {V : Type 0} (t : TxnId) (front back : List (Case V)) (a : List TxnId) (b : Bool) → commits a t ≡ b →
    value_at (under t false front ++ under t true back) a ≡ value_at (if b then back else front) a
value_at-by t front back a true does = value_at-back t front back a does
value_at-by t front back a false aborts = value_at-front t front back a aborts

pub value_at-tested : {V : Type 0} (t : TxnId) (front back : List (Case V)) (a : List TxnId) →
    value_at (under t false front ++ under t true back) a ≡ value_at (if commits a t then back else front) a
value_at-tested t front back a = value_at-by t front back a (commits a t) refl

-- A test names its transaction, and what its sides name.

names-under : {V : Type 0} (t : TxnId) (outcome : Bool) (cases : List (Case V)) (u : TxnId) → IsTrue (names (under t outcome cases) u) →
    (t ≡ u) ⊎ IsTrue (names cases u)
names-under t outcome [] u named = absurd (false≢true named)
names-under t outcome (case ∷ cases) u named =
    ⊎_elim
    (λ here. ⊎_elim
    (λ same. inl (sym (same-eq {t = u} {u = t} same)))
    (λ asked. inr (or_left (asks case.when u) (names cases u) asked))
    (or_cases (is_same_txn u t) (asks case.when u) here))
    (λ behind. ⊎_elim (λ same. inl same) (λ kept. inr (or_right (asks case.when u) (names cases u) kept)) (names-under t outcome cases u behind))
    (or_cases (is_same_txn u t || asks case.when u) (names (under t outcome cases) u) named)

under-names : {V : Type 0} (t : TxnId) (outcome : Bool) (cases : List (Case V)) (u : TxnId) → IsTrue (names cases u) →
    IsTrue (names (under t outcome cases) u)
under-names t outcome [] u named = absurd (false≢true named)
under-names t outcome (case ∷ cases) u named =
    ⊎_elim
    (λ here. or_left (is_same_txn u t || asks case.when u) _ (or_right (is_same_txn u t) (asks case.when u) here))
    (λ behind. or_right (is_same_txn u t || asks case.when u) _ (under-names t outcome cases u behind))
    (or_cases (asks case.when u) (names cases u) named)

names-both : {V : Type 0} (front back : List (Case V)) (u : TxnId) → names (front ++ back) u ≡ (names front u || names back u)
names-both front back u = list_any-append (λ (case : Case _). asks case.when u) front back

pub names-tested : {V : Type 0} (t : TxnId) (front back : List (Case V)) (u : TxnId) → IsTrue (names (under t false front ++ under t true back) u) →
    (t ≡ u) ⊎ (IsTrue (names front u) ⊎ IsTrue (names back u))
names-tested t front back u named =
    ⊎_elim
    (λ first. ⊎_elim (λ same. inl same) (λ kept. inr (inl kept)) (names-under t false front u first))
    (λ second. ⊎_elim (λ same. inl same) (λ kept. inr (inr kept)) (names-under t true back u second))
    (or_cases _ _ (sym (names-both (under t false front) (under t true back) u) ∙ named))

pub names-front : {V : Type 0} (t : TxnId) (front back : List (Case V)) (u : TxnId) → IsTrue (names front u) →
    IsTrue (names (under t false front ++ under t true back) u)
names-front t front back u named =
    names-both (under t false front) (under t true back) u ∙ or_left _ _ (under-names t false front u named)

pub names-back : {V : Type 0} (t : TxnId) (front back : List (Case V)) (u : TxnId) → IsTrue (names back u) →
    IsTrue (names (under t false front ++ under t true back) u)
names-back t front back u named =
    names-both (under t false front) (under t true back) u ∙ or_right (names (under t false front) u) _ (under-names t true back u named)

pub behind-unnamed : {V : Type 0} (t : TxnId) (cases : List (Case V)) → NamesOnlyAfter t cases → names cases t ≡ false
behind-unnamed t cases behind = false_from_ne_true (names cases t) (λ named. precedes-irrefl t (behind t named))

-- A transaction before that of a test isn't named by it.
earlier-unnamed : {V : Type 0} (t u : TxnId) (front back : List (Case V)) → NamesOnlyAfter u front → NamesOnlyAfter u back → IsTrue (precedes t u) →
    names (under u false front ++ under u true back) t ≡ false
earlier-unnamed t u front back first second before =
    false_from_ne_true _
    (λ named. ⊎_elim
    (λ same. precedes-irrefl t (subst (λ (v : TxnId). IsTrue (precedes t v)) same before))
    (λ sides. precedes-irrefl t (precedes-trans t u t before (⊎_elim (first t) (second t) sides)))
    (names-tested u front back t named))

-- Canonical cases have some case, and a test names its own transaction.

canonical-filled : {V : Type 0} (cases : List (Case V)) → IsCanonical cases → (first : Case V) × (rest : List (Case V)) × (cases ≡ first ∷ rest)
canonical-filled cases (sure v) = (_, _, refl)
canonical-filled cases (tested t front back left right behind later differ) =
    let filled = canonical-filled front left in
    (_, _, ap (λ (side : List (Case _)). under t false side ++ under t true back) filled.2)

pub names-self : {V : Type 0} (t : TxnId) (front back : List (Case V)) → IsCanonical front →
    IsTrue (names (under t false front ++ under t true back) t)
names-self t front back canonical =
    let filled = canonical-filled front canonical in
    ap (λ (side : List (Case _)). names (under t false side ++ under t true back) t) filled.2
    ∙ or_left _ _ (or_left (is_same_txn t t) (asks filled.0.when t) (same-refl t))

-- Every assignment meets exactly one case.

-- how many cases the assignment meets
abbrev met : {V : Type 0} → List (Case V) → List TxnId → ℕ
met cases a = length (filter (λ case. meets case.when a) cases)

length-unmet : {X : Type 0} (b other : Bool) (x : X) (xs : List X) → b ≡ false → length (cond (b && other) (x ∷ xs) xs) ≡ length xs
length-unmet true other x xs unmet = absurd (true≢false unmet)
length-unmet false other x xs unmet = refl

length-met : {X Y : Type 0} (b other : Bool) (x : X) (y : Y) (xs : List X) (ys : List Y) → b ≡ true → length xs ≡ length ys →
    length (cond (b && other) (x ∷ xs) xs) ≡ length (cond other (y ∷ ys) ys)
length-met true true x y xs ys is_met same = ap suc same
length-met true false x y xs ys is_met same = same
length-met false other x y xs ys is_met same = absurd (false≢true is_met)

-- Where the outcome is another, no case under it is met.
met-none : {V : Type 0} (t : TxnId) (outcome : Bool) (cases : List (Case V)) (a : List TxnId) → beq (commits a t) outcome ≡ false →
    met (under t outcome cases) a ≡ 0
met-none t outcome [] a unmet = refl
met-none t outcome (case ∷ cases) a unmet =
    length-unmet (beq (commits a t) outcome) (meets case.when a) _ _ unmet ∙ met-none t outcome cases a unmet

-- Where the outcome is this one, as many cases under it are met as before.
met-kept : {V : Type 0} (t : TxnId) (outcome : Bool) (cases : List (Case V)) (a : List TxnId) → beq (commits a t) outcome ≡ true →
    met (under t outcome cases) a ≡ met cases a
met-kept t outcome [] a comes = refl
met-kept t outcome (case ∷ cases) a comes =
    length-met (beq (commits a t) outcome) (meets case.when a) _ case _ _ comes (met-kept t outcome cases a comes)

met-both : {V : Type 0} (front back : List (Case V)) (a : List TxnId) → met (front ++ back) a ≡ met front a + met back a
met-both front back a =
    ap length (filter-append (λ (case : Case _). meets case.when a) front back)
    ∙ length-append (filter (λ (case : Case _). meets case.when a) front) (filter (λ (case : Case _). meets case.when a) back)

met-tested : {V : Type 0} (t : TxnId) (front back : List (Case V)) (a : List TxnId) (b : Bool) → commits a t ≡ b →
    met front a ≡ 1 → met back a ≡ 1 → met (under t false front ++ under t true back) a ≡ 1
met-tested t front back a true does first second =
    met-both (under t false front) (under t true back) a
    ∙ ap₂ (λ (n m : ℕ). n + m)
    (met-none t false front a (ap (λ (b : Bool). beq b false) does))
    (met-kept t true back a (ap (λ (b : Bool). beq b true) does) ∙ second)
met-tested t front back a false aborts first second =
    met-both (under t false front) (under t true back) a
    ∙ ap₂ (λ (n m : ℕ). n + m)
    (met-kept t false front a (ap (λ (b : Bool). beq b false) aborts) ∙ first)
    (met-none t true back a (ap (λ (b : Bool). beq b true) aborts))

pub canonical-sound : {V : Type 0} (cases : List (Case V)) → IsCanonical cases → IsSound cases
canonical-sound cases (sure v) a = refl
canonical-sound cases (tested t front back left right behind later differ) a =
    met-tested t front back a (commits a t) refl (canonical-sound front left a) (canonical-sound back right a)

complete-tested : {V : Type 0} (t : TxnId) (front back : List (Case V)) (a : List TxnId) (b : Bool) → commits a t ≡ b →
    (v : V) × (value_at front a ≡ Some v) → (v : V) × (value_at back a ≡ Some v) →
    (v : V) × (value_at (under t false front ++ under t true back) a ≡ Some v)
complete-tested t front back a true does (v, first) (w, second) = (w, value_at-back t front back a does ∙ second)
complete-tested t front back a false aborts (v, first) (w, second) = (v, value_at-front t front back a aborts ∙ first)

pub canonical-complete : {V : Type 0} (cases : List (Case V)) → IsCanonical cases → (a : List TxnId) → (v : V) × (value_at cases a ≡ Some v)
canonical-complete cases (sure v) a = (v, refl)
canonical-complete cases (tested t front back left right behind later differ) a =
    complete-tested t front back a (commits a t) refl (canonical-complete front left a) (canonical-complete back right a)

-- There is one canonical list for each value.

-- Where cases that don't name a test's transaction are the same as the test everywhere, they are the same as its first side ..
same-as-front : {V : Type 0} (t : TxnId) (cases front back : List (Case V)) → names cases t ≡ false → NamesOnlyAfter t front →
    AreSameEverywhere cases (under t false front ++ under t true back) → AreSameEverywhere cases front
same-as-front t cases front back unnamed behind same a =
    sym (unnamed-free t cases unnamed false a)
    ∙ same (with_outcome t false a)
    ∙ value_at-front t front back (with_outcome t false a) (commits-with-same t false a)
    ∙ unnamed-free t front (behind-unnamed t front behind) false a

-- .. and as its second.
same-as-back : {V : Type 0} (t : TxnId) (cases front back : List (Case V)) → names cases t ≡ false → NamesOnlyAfter t back →
    AreSameEverywhere cases (under t false front ++ under t true back) → AreSameEverywhere cases back
same-as-back t cases front back unnamed behind same a =
    sym (unnamed-free t cases unnamed true a)
    ∙ same (with_outcome t true a)
    ∙ value_at-back t front back (with_outcome t true a) (commits-with-same t true a)
    ∙ unnamed-free t back (behind-unnamed t back behind) true a

-- Of two tests of one transaction that are the same everywhere, the first sides are the same everywhere ..
same-fronts : {V : Type 0} (t : TxnId) (front back front' back' : List (Case V)) → NamesOnlyAfter t front → NamesOnlyAfter t front' →
    AreSameEverywhere (under t false front ++ under t true back) (under t false front' ++ under t true back') → AreSameEverywhere front front'
same-fronts t front back front' back' behind behind' same a =
    sym (unnamed-free t front (behind-unnamed t front behind) false a)
    ∙ sym (value_at-front t front back (with_outcome t false a) (commits-with-same t false a))
    ∙ same (with_outcome t false a)
    ∙ value_at-front t front' back' (with_outcome t false a) (commits-with-same t false a)
    ∙ unnamed-free t front' (behind-unnamed t front' behind') false a

-- .. and the second ones.
same-backs : {V : Type 0} (t : TxnId) (front back front' back' : List (Case V)) → NamesOnlyAfter t back → NamesOnlyAfter t back' →
    AreSameEverywhere (under t false front ++ under t true back) (under t false front' ++ under t true back') → AreSameEverywhere back back'
same-backs t front back front' back' behind behind' same a =
    sym (unnamed-free t back (behind-unnamed t back behind) true a)
    ∙ sym (value_at-back t front back (with_outcome t true a) (commits-with-same t true a))
    ∙ same (with_outcome t true a)
    ∙ value_at-back t front' back' (with_outcome t true a) (commits-with-same t true a)
    ∙ unnamed-free t back' (behind-unnamed t back' behind') true a

-- A list is the same as another everywhere, and so is the other as the list.
flipped : {V : Type 0} (cases others : List (Case V)) → AreSameEverywhere cases others → AreSameEverywhere others cases
flipped cases others same a = sym (same a)

sure-one : {V : Type 0} (v : V) (others : List (Case V)) → IsCanonical others →
    AreSameEverywhere (record { when = []; value = v } ∷ []) others → record { when = []; value = v } ∷ [] ≡ others
sure-one v others (sure w) same =
    let e : Some v ≡ Some w = same [] in
    ap (λ (x : _). record { when = []; value = x } ∷ []) (let inside : v ≡ w = cc in inside)
sure-one v others (tested t front back left right behind later differ) same =
    absurd (differ
    (sym (sure-one v front left (same-as-front t (record { when = []; value = v } ∷ []) front back refl behind same))
    ∙ sure-one v back right (same-as-back t (record { when = []; value = v } ∷ []) front back refl later same)))

-- the claim for one list against all others
abbrev IsOne : {V : Type 0} → List (Case V) → Type 0
IsOne {V} cases = (others : List (Case V)) → IsCanonical others → AreSameEverywhere cases others → cases ≡ others

-- a test against a test of the same transaction
tested-same : {V : Type 0} (t u : TxnId) (front back front' back' : List (Case V)) → t ≡ u → IsOne front → IsOne back →
    NamesOnlyAfter t front → NamesOnlyAfter t back → IsCanonical front' → IsCanonical back' → NamesOnlyAfter u front' → NamesOnlyAfter u back' →
    AreSameEverywhere (under t false front ++ under t true back) (under u false front' ++ under u true back') →
    under t false front ++ under t true back ≡ under u false front' ++ under u true back'
tested-same t u front back front' back' equal one two behind later left' right' behind' later' same =
    subst
    (λ (u : TxnId). NamesOnlyAfter u front' → NamesOnlyAfter u back' →
    AreSameEverywhere (under t false front ++ under t true back) (under u false front' ++ under u true back') →
    under t false front ++ under t true back ≡ under u false front' ++ under u true back')
    equal
    (λ behind' later' same.
    ap₂ (λ (side other : List (Case _)). under t false side ++ under t true other)
    (one front' left' (same-fronts t front back front' back' behind behind' same))
    (two back' right' (same-backs t front back front' back' later later' same)))
    behind' later' same

-- a test against a test of a later transaction
tested-before : {V : Type 0} (t : TxnId) (front back others : List (Case V)) → names others t ≡ false → IsOne front → IsOne back →
    NamesOnlyAfter t front → NamesOnlyAfter t back → (front ≡ back → ⊥) → IsCanonical others →
    AreSameEverywhere (under t false front ++ under t true back) others → ⊥
tested-before t front back others unnamed one two behind later differ canonical same =
    differ
    (one others canonical (flipped others front (same-as-front t others front back unnamed behind (flipped _ others same)))
    ∙ sym (two others canonical (flipped others back (same-as-back t others front back unnamed later (flipped _ others same)))))

tested-one : {V : Type 0} (t : TxnId) (front back : List (Case V)) → IsOne front → IsOne back →
    NamesOnlyAfter t front → NamesOnlyAfter t back → (front ≡ back → ⊥) → (others : List (Case V)) → IsCanonical others →
    AreSameEverywhere (under t false front ++ under t true back) others → under t false front ++ under t true back ≡ others
tested-one t front back one two behind later differ others (sure v) same =
    absurd (tested-before t front back others refl one two behind later differ (sure v) same)
tested-one t front back one two behind later differ others (tested u front' back' left right behind' later' differ') same =
    ⊎_elim
    (λ before. absurd
    (tested-before t front back others (earlier-unnamed t u front' back' behind' later' before) one two behind later differ
    (tested u front' back' left right behind' later' differ') same))
    (λ after. ⊎_elim
    (λ equal. tested-same t u front back front' back' equal one two behind later left right behind' later' same)
    (λ before. absurd (differ'
    (sym (tested-one t front back one two behind later differ front' left
    (same-as-front u (under t false front ++ under t true back) front' back' (earlier-unnamed u t front back behind later before) behind' same))
    ∙ tested-one t front back one two behind later differ back' right
    (same-as-back u (under t false front ++ under t true back) front' back' (earlier-unnamed u t front back behind later before) later' same))))
    after)
    (order-of-two t u)

pub one-canonical : {V : Type 0} (cases others : List (Case V)) → IsCanonical cases → IsCanonical others → AreSameEverywhere cases others → cases ≡ others
one-canonical cases others (sure v) other same = sure-one v others other same
one-canonical cases others (tested t front back left right behind later differ) other same =
    tested-one t front back (λ side. one-canonical front side left) (λ side. one-canonical back side right) behind later differ others other same

-- Canonical cases name exactly what their value depends on.

-- The value is the same with either outcome of the transaction.
abbrev IsFree : {V : Type 0} → TxnId → List (Case V) → Type 0
IsFree t cases = (a : List TxnId) → value_at cases (with_outcome t true a) ≡ value_at cases (with_outcome t false a)

-- On what stands behind `u` an outcome of `u` set before one of `t` makes no difference.
set-before : {V : Type 0} (t u : TxnId) (side : List (Case V)) → NamesOnlyAfter u side → (outcome other : Bool) (a : List TxnId) →
    value_at side (with_outcome t outcome (with_outcome u other a)) ≡ value_at side (with_outcome t outcome a)
set-before t u side behind outcome other a =
    value_at-agree side (with_outcome t outcome (with_outcome u other a)) (with_outcome t outcome a)
    (λ v named. commits-with-alike t outcome (with_outcome u other a) a v (commits-with-other u other a v (precedes-other u v (behind v named))))

set-both : (t u : TxnId) (outcome other : Bool) (a : List TxnId) → is_same_txn t u ≡ false →
    commits (with_outcome t outcome (with_outcome u other a)) u ≡ other
set-both t u outcome other a apart = commits-with-other t outcome (with_outcome u other a) u apart ∙ commits-with-same u other a

-- A side of a test on another transaction is free of `t` where the test is.
free-front : {V : Type 0} (t u : TxnId) (front back : List (Case V)) → is_same_txn t u ≡ false → NamesOnlyAfter u front →
    IsFree t (under u false front ++ under u true back) → IsFree t front
free-front t u front back apart behind free a =
    sym (set-before t u front behind true false a)
    ∙ sym (value_at-front u front back (with_outcome t true (with_outcome u false a)) (set-both t u true false a apart))
    ∙ free (with_outcome u false a)
    ∙ value_at-front u front back (with_outcome t false (with_outcome u false a)) (set-both t u false false a apart)
    ∙ set-before t u front behind false false a

free-back : {V : Type 0} (t u : TxnId) (front back : List (Case V)) → is_same_txn t u ≡ false → NamesOnlyAfter u back →
    IsFree t (under u false front ++ under u true back) → IsFree t back
free-back t u front back apart behind free a =
    sym (set-before t u back behind true true a)
    ∙ sym (value_at-back u front back (with_outcome t true (with_outcome u true a)) (set-both t u true true a apart))
    ∙ free (with_outcome u true a)
    ∙ value_at-back u front back (with_outcome t false (with_outcome u true a)) (set-both t u false true a apart)
    ∙ set-before t u back behind false true a

-- The sides of a test that is free of its own transaction are the same everywhere.
free-sides : {V : Type 0} (t : TxnId) (front back : List (Case V)) → NamesOnlyAfter t front → NamesOnlyAfter t back →
    IsFree t (under t false front ++ under t true back) → AreSameEverywhere front back
free-sides t front back behind later free a =
    sym (unnamed-free t front (behind-unnamed t front behind) false a)
    ∙ sym (value_at-front t front back (with_outcome t false a) (commits-with-same t false a))
    ∙ sym (free a)
    ∙ value_at-back t front back (with_outcome t true a) (commits-with-same t true a)
    ∙ unnamed-free t back (behind-unnamed t back later) true a

-- A test is free of no transaction of its own.
not-free : {V : Type 0} (t u : TxnId) (front back : List (Case V)) → u ≡ t → IsCanonical front → IsCanonical back →
    NamesOnlyAfter u front → NamesOnlyAfter u back → (front ≡ back → ⊥) → IsFree t (under u false front ++ under u true back) → ⊥
not-free t u front back equal left right behind later differ free =
    differ (one-canonical front back left right
    (free-sides u front back behind later (subst (λ (v : TxnId). IsFree v (under u false front ++ under u true back)) (sym equal) free)))

pub free-unnamed : {V : Type 0} (t : TxnId) (cases : List (Case V)) → IsCanonical cases →
    ((a : List TxnId) → value_at cases (with_outcome t true a) ≡ value_at cases (with_outcome t false a)) → names cases t ≡ false
free-unnamed t cases (sure v) free = refl
free-unnamed t cases (tested u front back left right behind later differ) free =
    false_from_ne_true _
    (λ named.
    let other : u ≡ t → ⊥ = λ equal. not-free t u front back equal left right behind later differ free in
    let apart : is_same_txn t u ≡ false = different {t = t} {u = u} (λ equal. other (sym equal)) in
    ⊎_elim
    other
    (λ sides. ⊎_elim
    (λ first. true≢false (sym first ∙ free-unnamed t front left (free-front t u front back apart behind free)))
    (λ second. true≢false (sym second ∙ free-unnamed t back right (free-back t u front back apart later free)))
    sides)
    (names-tested u front back t named))

-- Assignments that differ in an outcome of `t` alone agree on a set without it.
agree-without : (set : TxnId → Bool) (t : TxnId) → set t ≡ false → (a : List TxnId) → AgreeOn set (with_outcome t true a) (with_outcome t false a)
agree-without set t unset a u in_set =
    let apart : is_same_txn t u ≡ false = different {t = t} {u = u} (λ equal. true≢false (sym in_set ∙ sym (ap set equal) ∙ unset)) in
    commits-with-other t true a u apart ∙ sym (commits-with-other t false a u apart)

pub depends-named : {V : Type 0} (cases : List (Case V)) (set : TxnId → Bool) → IsCanonical cases → DependsOnlyOn set cases → (t : TxnId) →
    IsTrue (names cases t) → IsTrue (set t)
depends-named cases set canonical depends t named =
    true_from_ne_false (set t)
    (λ unset. true≢false (sym named ∙ free-unnamed t cases canonical
    (λ a. depends (with_outcome t true a) (with_outcome t false a) (agree-without set t unset a))))

-- A value depends only on a set that all named transactions are in.
pub named-depends : {V : Type 0} (cases : List (Case V)) (set : TxnId → Bool) → ((t : TxnId) → IsTrue (names cases t) → IsTrue (set t)) →
    DependsOnlyOn set cases
named-depends cases set all a b agree = value_at-agree cases a b (λ t named. agree t (all t named))
