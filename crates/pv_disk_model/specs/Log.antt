-- What the calls of a log do: what it holds afterwards, and what a crash at any moment of them leaves.
use Rattle.std.specs.Prelude.{◌≡◌, ◌⊎◌, ℕ, ◌+◌, ◌≤◌, true, false, List, [], ◌∷◌, ◌++◌, Option, Some, is_some, length}
use Rattle.pv_base.specs.Fault.{Rose}
use Rattle.pv_disk_model.specs.LogModel.{LogModel}
use Rattle.pv_disk_model.specs.Size.{Contents}

-- A crash leaves the contents from before an append, or these with the new one.
abbrev pub IsBeforeOrAfter : Contents → List ℕ → Option Contents → Type 0
IsBeforeOrAfter contents content left = (left ≡ Some contents) ⊎ (left ≡ Some (contents ++ content ∷ []))

module _ {W : Type 0} (M : LogModel W) where
  -- A crash at any moment since old leaves what has P.
  pub record LeavesOnly (old new : W) (P : Option Contents → Type 0) : Type 0 where
    pub later : M.moment old ≤ M.moment new
    pub each : (left : Option Contents) → M.left_since new (M.moment old) left → P left
    -- for what began earlier: what might have been left then is no less and no more
    pub before : (t : ℕ) (left : Option Contents) → t ≤ M.moment old → M.left_since new t left → M.left_since old t left ⊎ P left
    pub keeps : (t : ℕ) (left : Option Contents) → t ≤ M.moment old → M.left_since old t left → M.left_since new t left

  -- The log holds what it held, and at each moment a crash leaves what it might have left before.
  pub record Keeps (old new : W) : Type 0 where
    pub contents : M.contents new ≡ M.contents old
    pub size : M.size new ≡ M.size old
    pub limit : M.limit new ≡ M.limit old
    pub later : M.moment old ≤ M.moment new
    pub crash : (t : ℕ) (left : Option Contents) → t ≤ M.moment old → M.left_since new t left → M.left_since old t left
    pub keeps : (t : ℕ) (left : Option Contents) → t ≤ M.moment old → M.left_since old t left → M.left_since new t left

  -- The log holds one content more, and from now on each crash leaves it.
  pub record Adds (old new : W) (content : List ℕ) : Type 0 where
    pub contents : (was : Contents) → M.contents old ≡ Some was → M.contents new ≡ Some (was ++ content ∷ [])
    pub known : is_some (M.contents new) ≡ is_some (M.contents old)
    pub size : M.size new ≡ M.size old + (5 + length content)
    pub limit : M.limit new ≡ M.limit old
    pub any_moment : (was : Contents) → M.contents old ≡ Some was → LeavesOnly old new (IsBeforeOrAfter was content)
    pub durable : (was : Contents) → M.contents old ≡ Some was → (left : Option Contents) → M.may_leave new left → left ≡ Some (was ++ content ∷ [])

  -- The log holds what it held, or one content more, and so it is with what each crash leaves.
  pub record MayAdd (old new : W) (content : List ℕ) : Type 0 where
    pub contents : (was : Contents) → M.contents old ≡ Some was → IsBeforeOrAfter was content (M.contents new)
    pub known : is_some (M.contents new) ≡ is_some (M.contents old)
    pub size : (M.size new ≡ M.size old) ⊎ (M.size new ≡ M.size old + (5 + length content))
    pub limit : M.limit new ≡ M.limit old
    pub any_moment : (was : Contents) → M.contents old ≡ Some was → LeavesOnly old new (IsBeforeOrAfter was content)

  -- The log isn't down, before and after, and nothing that it stands on was counted as failed.
  pub record StaysUp (old new : W) : Type 0 where
    pub was_up : M.is_down old ≡ false
    pub is_up : M.is_down new ≡ false
    pub faults : M.faults new ≡ M.faults old

  -- What the log stands on failed, which was counted, and the log is down from now on.
  pub record GoesDown (old new : W) : Type 0 where
    pub was_up : M.is_down old ≡ false
    pub is_down : M.is_down new ≡ true
    pub faults : M.faults old ≤ M.faults new
    pub fault : Rose (M.faults old) (M.faults new)

  -- The log was down, and nothing changed.
  pub record WasDown (old new : W) : Type 0 where
    pub was_down : M.is_down old ≡ true
    pub same : new ≡ old

  -- A record with a content of so many bytes stays within the limit.
  abbrev pub IsWithin : W → ℕ → Type 0
  IsWithin log content = M.size log + (5 + content) ≤ M.limit log
