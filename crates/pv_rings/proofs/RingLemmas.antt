-- A look at rings in turn, and what is handed to rings.
use Rattle.std.proofs.Common.{◌≡◌, ◌≢◌, ◌⊎◌, ℕ, ◌<◌, ◌≤◌, ◌+◌, ◌==◌, Bool, true, false, if◌then◌else◌, List, [], ◌∷◌, ◌++◌, length, get_or, set, refl, sym, ap, ◌∙◌, subst, inl, inr, ⊎_elim, arith, rules, append-nil, append_assoc, length-append, eq-eqb, eqb-true}
use mathlib.Core.Logic.{dite}
use native.Mathlib.Decide.{dec_le}
use Rattle.pv_post.specs.Ends.{SameOut, offered, plan_of, posted}
use Rattle.pv_post.specs.Plan.{is_due}
use Rattle.pv_post.specs.Posted.{IsPosted}
use Rattle.pv_post.specs.declared.fault_plan.FaultPlan.{FaultPlan}
use Rattle.pv_post.specs.declared.inlet.In.{In}
use Rattle.pv_post.specs.declared.outlet.Out.{Out}
use Rattle.pv_post.specs.declared.posted.Posted.{Posted}
use Rattle.pv_post.specs.declared.posted.Posted.TheVariants.{Dropped, Full, Once, Twice}
use Rattle.pv_rings.specs.Rings.{Each, Rests, IsFoundEmpty, Gives, GivesOne, IsFirst, AreFoundEmpty, Keeps, Hands, HandsEach}
use Rattle.pv_rings.proofs.EachLemmas.{get_or-any, each-self, each-weaker, each-trans, each-set}

module _ {M : Type 0} where
  -- ## Rings in
  pub rests-self : (ring : In M) → Rests ring ring
  rests-self ring = search rules

  pub rests-trans : (a b c : In M) → Rests a b → Rests b c → Rests a c
  rests-trans a b c one other =
      (((other.0.0.0 ∙ one.0.0.0, other.0.0.1 ∙ one.0.0.1, other.0.0.2 ∙ one.0.0.2, other.0.0.3 ∙ one.0.0.3), other.0.1 ∙ one.0.1), other.1 ∙ one.1)

  pub gives-after : (message : M) (count : ℕ) (a b c : In M) → Rests a b → Gives message count b c → Gives message count a c
  gives-after message count a b c one gives = (
    ((gives.0.0.0 ∙ one.0.0.0, gives.0.0.1 ∙ one.0.0.1, gives.0.0.2 ∙ one.0.0.2, gives.0.0.3 ∙ one.0.0.3), gives.0.1 ∙ one.0.1),
    gives.1,
    gives.2 ∙ ap (λ (all : List (M × ℕ)). all ++ (message, count) ∷ []) one.1,
  )

  -- what is so of a place, before and after a look at the rings between these two
  abbrev pub Looked : (from to : ℕ) → ℕ → In M → In M → Type 0
  Looked from to k one other = (from ≤ k → k < to → IsFoundEmpty one other) × ((k < from) ⊎ (to ≤ k) → other ≡ one)

  -- the same of the ring that gave
  abbrev pub First : (from at : ℕ) → ℕ → In M → In M → Type 0
  First from at k one other = (from ≤ k → k < at → IsFoundEmpty one other) × ((k < from) ⊎ (at < k) → other ≡ one)

  rests-same : (x z : In M) → z ≡ x → Rests x z
  rests-same x z is = subst (λ (v : In M). Rests x v) (sym is) (rests-self x)

  rests-looked : (from to k : ℕ) (x z : In M) → Looked from to k x z → Rests x z
  rests-looked from to k x z r =
      dite (dec_le from k) (λ low. dite (dec_le to k) (λ past. rests-same x z (r.1 (inr past))) (λ below. (r.0 low (omega arith)).0))
      (λ under. rests-same x z (r.1 (inl (omega arith))))

  pub none-yet : (from : ℕ) (rings : List (In M)) → AreFoundEmpty from from rings rings
  none-yet from rings = each-self (Looked from from) rings (λ k x within. ((λ low high. absurd (omega arith)), (λ out. refl)))

  -- Nothing was taken from rings that were found empty.
  pub all-rest : (from to : ℕ) (old new : List (In M)) → AreFoundEmpty from to old new → Each (λ k one other. Rests one other) old new
  all-rest from to old new are = each-weaker (Looked from to) (λ k one other. Rests one other) old new (λ k x y within r. rests-looked from to k x y r) are

  module _ (from at : ℕ) (old mid : List (In M)) (x y : In M) (low : from ≤ at) (within : at < length old) (are : AreFoundEmpty from at old mid)
      (is : x ≡ get_or mid at x) where
    -- The ring at this place wasn't looked at before.
    fresh : (d : In M) → x ≡ get_or old at d
    fresh d = is ∙ (are.1 at d x within).1 (inr (omega arith))

    pub found-more : IsFoundEmpty x y → AreFoundEmpty from (at + 1) old (set mid at y)
    found-more found =
        each-set (Looked from at) (Looked from (at + 1)) old mid at y are within
        (λ d e r. ((λ low' high. subst (λ (v : In M). IsFoundEmpty v y) (fresh d) found), (λ out. absurd (⊎_elim (λ under. omega arith) (λ past. omega arith) out))))
        (λ k x' z isnt r. ((λ low' high. r.0 low' (omega (arith, isnt))), (λ out. r.1 (⊎_elim (λ under. inl under) (λ past. inr (omega arith)) out))))

    pub gives-one : (message : M) (count : ℕ) → Gives message count x y → GivesOne at message count old (set mid at y)
    gives-one message count gives = (
      within,
      each-set (Looked from at) (λ k one other. (k ≡ at → Gives message count one other) × (k ≢ at → Rests one other)) old mid at y are within
          (λ d e r. ((λ same. subst (λ (v : In M). Gives message count v y) (fresh d) gives), (λ isnt. absurd (isnt refl))))
          (λ k x' z isnt r. ((λ same. absurd (isnt same)), (λ other. rests-looked from at k x' z r))),
    )

    -- Those before it were found empty, and it gave.
    pub is-first : (to : ℕ) → at < to → IsFirst from to at old (set mid at y)
    is-first to below = (
      low,
      below,
      each-set (Looked from at) (First from at) old mid at y are within
          (λ d e r. ((λ low' high. absurd (omega (arith, high))), (λ out. absurd (⊎_elim (λ under. omega (arith, low, under)) (λ past. omega (arith, past)) out))))
          (λ k x' z isnt r. (r.0, (λ out. r.1 (⊎_elim (λ under. inl under) (λ past. inr (omega arith)) out)))),
    )

  -- A ring gives after all of them rested.
  pub gives-one-after : (ring : ℕ) (message : M) (count : ℕ) (a b c : List (In M)) → Each (λ k one other. Rests one other) a b
      → GivesOne ring message count b c → GivesOne ring message count a c
  gives-one-after ring message count a b c rest gives = (
    subst (λ (n : ℕ). ring < n) (sym rest.0) (gives.0),
    each-trans (λ k one other. Rests one other) (λ k one other. (k ≡ ring → Gives message count one other) × (k ≢ ring → Rests one other))
        (λ k one other. (k ≡ ring → Gives message count one other) × (k ≢ ring → Rests one other)) a b c
        (λ k x y z within one other. ((λ is. gives-after message count x y z one (other.0 is)), (λ isnt. rests-trans x y z one (other.1 isnt))))
        rest (gives.1),
  )

  pub all-rest-trans : (a b c : List (In M)) → Each (λ k one other. Rests one other) a b → Each (λ k one other. Rests one other) b c
      → Each (λ k one other. Rests one other) a c
  all-rest-trans a b c one other =
      each-trans (λ k x y. Rests x y) (λ k x y. Rests x y) (λ k x y. Rests x y) a b c (λ k x y z within. rests-trans x y z) one other

  -- Those from a place on were found empty, and then those before it: all were.
  pub all-found-empty : (at : ℕ) (a b c : List (In M)) → AreFoundEmpty at (length a) a b → AreFoundEmpty 0 at b c
      → Each (λ k one other. IsFoundEmpty one other) a c
  all-found-empty at a b c one other =
      each-trans (Looked at (length a)) (Looked 0 at) (λ k x z. IsFoundEmpty x z) a b c
      (λ k x y z within r s. dite (dec_le at k)
      (λ past. subst (λ (v : In M). IsFoundEmpty x v) (sym (s.1 (inr past))) (r.0 past within))
      (λ before. subst (λ (v : In M). IsFoundEmpty v z) (r.1 (inl (omega arith))) (s.0 (omega arith) (omega arith))))
      one other

  -- ## Rings out
  pub keeps-trans : (plan : FaultPlan) (number next : ℕ) (first later : List M) (kept more : List (M × ℕ)) → next ≡ number + length first
      → Keeps plan number first kept → Keeps plan next later more → Keeps plan number (first ++ later) (kept ++ more)
  keeps-trans plan number next [] later kept more is none keeps =
      subst (λ (front : List (M × ℕ)). Keeps plan number later (front ++ more)) (sym none)
      (subst (λ (n : ℕ). Keeps plan n later more) (omega (arith, is)) keeps)
  keeps-trans plan number next (message ∷ first) later kept more is (inl lost) keeps =
      inl (keeps-trans plan (number + 1) next first later kept more (omega (arith, is)) lost keeps)
  keeps-trans plan number next (message ∷ first) later kept more is (inr taken) keeps =
      inr (taken.0 ++ more, ap (λ (all : List (M × ℕ)). all ++ more) taken.1, taken.2, keeps-trans plan (number + 1) next first later taken.0 more (omega (arith, is)) taken.3 keeps)

  -- What comes of a post is what the ring keeps of it.
  module _ (old new : Out M) (message : M) (same : SameOut old new) (offers : offered new ≡ offered old ++ message ∷ []) where
    abbrev Kept : Type 0
    Kept = (kept : List (M × ℕ)) × (posted new ≡ posted old ++ kept) × Keeps (plan_of old) (length (offered old) + 1) (message ∷ []) kept

    number-is : length (offered new) ≡ length (offered old) + 1
    number-is = ap (λ (all : List M). length all) offers ∙ length-append (offered old) (message ∷ [])

    lost : posted new ≡ posted old → Kept
    lost is = ([], is ∙ sym (append-nil (posted old)), inl refl)

    -- whether the post is such a one, by the plan and the number that the ring had before
    as-before : (each : FaultPlan → ℕ) (test : Bool) → is_due (each (plan_of new)) (length (offered new)) ≡ test
        → is_due (each (plan_of old)) (length (offered old) + 1) ≡ test
    as-before each test is =
        ap (λ (plan : FaultPlan). is_due (each plan) (length (offered old) + 1)) (sym same.1)
        ∙ (ap (λ (n : ℕ). is_due (each (plan_of new)) n) (sym number-is) ∙ is)

    counted : (count : ℕ) (test : Bool) → is_due (plan_of old).double_each (length (offered old) + 1) ≡ test → (if test then 2 else 1) ≡ count
        → is_due (plan_of old).drop_each (length (offered old) + 1) ≡ false → posted new ≡ posted old ++ (message, count) ∷ [] → Kept
    counted count test doubled is kept posts = (
      (message, count) ∷ [],
      posts,
      inr ([], ap (λ (n : ℕ). (message, n) ∷ []) (sym is ∙ ap (λ (twice : Bool). if twice then 2 else 1) (sym doubled)), kept, refl),
    )

    pub posted-kept : (result : Posted M) → IsPosted old new message result → Kept
    posted-kept (Dropped back) is = lost is.2
    posted-kept (Full back) is = lost is.2
    posted-kept Once is =
        counted 1 false (as-before (λ (plan : FaultPlan). plan.double_each) false is.1) refl (as-before (λ (plan : FaultPlan). plan.drop_each) false is.0) is.2
    posted-kept Twice is =
        counted 2 true (as-before (λ (plan : FaultPlan). plan.double_each) true is.1) refl (as-before (λ (plan : FaultPlan). plan.drop_each) false is.0) is.2

  pub hands-nothing : (out : Out M) → Hands [] out out
  hands-nothing out = (search rules, sym (append-nil (offered out)), ([], sym (append-nil (posted out)), refl))

  pub hands-trans : (first later : List M) (a b c : Out M) → Hands first a b → Hands later b c → Hands (first ++ later) a c
  hands-trans first later a b c one other = (
    (((other.0.0.0.0 ∙ one.0.0.0.0, other.0.0.0.1 ∙ one.0.0.0.1, other.0.0.0.2 ∙ one.0.0.0.2, other.0.0.0.3 ∙ one.0.0.0.3), other.0.0.1 ∙ one.0.0.1), other.0.1 ∙ one.0.1),
    other.1 ∙ (ap (λ (all : List M). all ++ later) one.1 ∙ append_assoc (offered a) first later),
    (
      one.2.0 ++ other.2.0,
      other.2.1 ∙ (ap (λ (all : List (M × ℕ)). all ++ other.2.0) one.2.1 ∙ append_assoc (posted a) one.2.0 other.2.0),
      keeps-trans (plan_of a) (length (offered a) + 1) (length (offered b) + 1) first later one.2.0 other.2.0
          (let count : length (offered b) ≡ length (offered a) + length first = ap (λ (all : List M). length all) one.1 ∙ length-append (offered a) first in
          omega (arith, count))
          one.2.2 (subst (λ (plan : FaultPlan). Keeps plan (length (offered b) + 1) later other.2.0) one.0.1 other.2.2),
    ),
  )

  pub none-handed : (P : ℕ → List M → Type 0) (outs : List (Out M)) → ((k : ℕ) → k < length outs → P k []) → HandsEach P outs outs
  none-handed P outs none =
      each-self (λ k one other. (more : List M) × Hands more one other × P k more) outs (λ k out within. ([], hands-nothing out, none k within))

  pub handed-then : (P Q R : ℕ → List M → Type 0) (a b c : List (Out M)) → ((k : ℕ) (first later : List M) → P k first → Q k later → R k (first ++ later))
      → HandsEach P a b → HandsEach Q b c → HandsEach R a c
  handed-then P Q R a b c both one other =
      each-trans (λ k x y. (more : List M) × Hands more x y × P k more) (λ k x y. (more : List M) × Hands more x y × Q k more)
      (λ k x y. (more : List M) × Hands more x y × R k more) a b c
      (λ k x y z within r s. (r.0 ++ s.0, hands-trans r.0 s.0 x y z r.1 s.1, both k r.0 s.0 r.2 s.2)) one other

  -- The ring of this place was handed a message.
  module _ (to : ℕ) (message : M) where
    abbrev HandsAt : ℕ → Out M → Out M → Type 0
    HandsAt k one other = Hands (if k == to then message ∷ [] else []) one other

    at-other : (k : ℕ) (test : Bool) → (k == to) ≡ test → k ≢ to → (out : Out M) → Hands (if test then message ∷ [] else []) out out
    at-other k true is isnt out = absurd (isnt (eqb-true k to is))
    at-other k false is isnt out = hands-nothing out

    pub one-handed : (outs : List (Out M)) (x y : Out M) → to < length outs → x ≡ get_or outs to x → Hands (message ∷ []) x y
        → Each HandsAt outs (set outs to y)
    one-handed outs x y within is hands =
        each-set (λ k one other. one ≡ other) HandsAt outs outs to y (each-self (λ k one other. one ≡ other) outs (λ k out less. refl)) within
        (λ d e r. subst (λ (test : Bool). Hands (if test then message ∷ [] else []) (get_or outs to d) y) (sym (eq-eqb to to refl))
        (subst (λ (v : Out M). Hands (message ∷ []) v y) (is ∙ get_or-any outs to d x within) hands))
        (λ k x' z isnt r. subst (λ (v : Out M). HandsAt k x' v) r (at-other k (k == to) refl isnt x'))

    pub handed-at : (P : ℕ → List M → Type 0) (old new : List (Out M)) → ((k : ℕ) → P k (if k == to then message ∷ [] else [])) → Each HandsAt old new
        → HandsEach P old new
    handed-at P old new such each =
        each-weaker HandsAt (λ k one other. (more : List M) × Hands more one other × P k more) old new
        (λ k x y within hands. ((if k == to then message ∷ [] else []), hands, such k)) each
