-- How several rings change.
use Rattle.std.specs.Prelude.{◌≡◌, ◌≢◌, ◌⊎◌, ℕ, ◌+◌, ◌<◌, ◌≤◌, false, List, [], ◌∷◌, ◌++◌, length, get_or, if◌then◌else◌}
use Rattle.pv_post.specs.Ends.{IsCount, SameIn, SameOut, known, offered, plan_of, posted, taken}
use Rattle.pv_post.specs.Plan.{is_due}
use Rattle.pv_post.specs.declared.fault_plan.FaultPlan.{FaultPlan}
use Rattle.pv_post.specs.declared.inlet.In.{In}
use Rattle.pv_post.specs.declared.outlet.Out.{Out}

-- Both lists are as long, and what stands at one place in both is so related.
abbrev pub Each : {A B : Type 0} → (ℕ → A → B → Type 0) → List A → List B → Type 0
Each {A} {B} R xs ys = (length xs ≡ length ys) × ((k : ℕ) (x : A) (y : B) → k < length xs → R k (get_or xs k x) (get_or ys k y))

-- how often a message counts that is the ring's post of this number
abbrev pub count_of : FaultPlan → ℕ → ℕ
count_of plan number = if is_due plan.double_each number then 2 else 1

module _ {M : Type 0} where
  -- ## Rings in
  -- Nothing was taken from the ring.
  abbrev pub Rests : In M → In M → Type 0
  Rests old new = SameIn old new × (taken new ≡ taken old)

  -- The ring gave nothing when it was asked: nothing was taken from it, and nothing is known to be in it. Of the look at the ring itself contracts don't tell.
  abbrev pub IsFoundEmpty : In M → In M → Type 0
  IsFoundEmpty old new = Rests old new × (known new ≡ [])

  -- The ring gave the message, which counts so often.
  abbrev pub Gives : M → ℕ → In M → In M → Type 0
  Gives message count old new = SameIn old new × IsCount count × (taken new ≡ taken old ++ (message, count) ∷ [])

  -- The ring of this place gave the message, and nothing was taken from the others.
  abbrev pub GivesOne : ℕ → M → ℕ → List (In M) → List (In M) → Type 0
  GivesOne ring message count old new =
      (ring < length old) × Each (λ k one other. (k ≡ ring → Gives message count one other) × (k ≢ ring → Rests one other)) old new

  -- The ring that gave is the first one: it is one of those from the one place up to the other, those of them before it gave nothing, and all others are as
  -- they were.
  abbrev pub IsFirst : (from to ring : ℕ) → List (In M) → List (In M) → Type 0
  IsFirst from to ring old new =
      (from ≤ ring) × (ring < to)
      × Each (λ k one other. (from ≤ k → k < ring → IsFoundEmpty one other) × ((k < from) ⊎ (ring < k) → other ≡ one)) old new

  -- The rings from the one place up to the other gave nothing, and the others are as they were.
  abbrev pub AreFoundEmpty : ℕ → ℕ → List (In M) → List (In M) → Type 0
  AreFoundEmpty from to old new =
      Each (λ k one other. (from ≤ k → k < to → IsFoundEmpty one other) × ((k < from) ⊎ (to ≤ k) → other ≡ one)) old new

  -- ## Rings out
  -- What a ring takes in of these messages, in order, the first of which is its post of this number, with how often each counts: none that its plan loses, and of the
  -- others those for which it had a place; which these are isn't said.
  abbrev pub Keeps : FaultPlan → ℕ → List M → List (M × ℕ) → Type 0
  Keeps plan number [] kept = kept ≡ []
  Keeps plan number (message ∷ more) kept =
      Keeps plan (number + 1) more kept
      ⊎ ((rest : List (M × ℕ)) × (kept ≡ (message, count_of plan number) ∷ rest) × (is_due plan.drop_each number ≡ false) × Keeps plan (number + 1) more rest)

  -- These messages were handed to the ring, in order, and it took in what it does.
  abbrev pub Hands : List M → Out M → Out M → Type 0
  Hands more old new =
      SameOut old new × (offered new ≡ offered old ++ more)
      × ((kept : List (M × ℕ)) × (posted new ≡ posted old ++ kept) × Keeps (plan_of old) (length (offered old) + 1) more kept)

  -- Each ring is handed messages, in order, that are such at its place.
  abbrev pub HandsEach : (ℕ → List M → Type 0) → List (Out M) → List (Out M) → Type 0
  HandsEach P old new = Each (λ ring one other. (more : List M) × Hands more one other × P ring more) old new
