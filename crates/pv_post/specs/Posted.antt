-- What becomes of a message that is posted.
use Rattle.std.specs.Prelude.{◌≡◌, Bool, true, false, [], ◌∷◌, ◌++◌, length}
use Rattle.pv_post.specs.Plan.{is_due}
use Rattle.pv_post.specs.Ends.{plan_of, offered, posted, free}
use Rattle.pv_post.specs.declared.outlet.Out.{Out}
use Rattle.pv_post.specs.declared.posted.Posted.{Posted}
use Rattle.pv_post.specs.declared.posted.Posted.TheVariants.{Dropped, Full, Once, Twice}

module _ {M : Type 0} where
  -- Whether the end's last post is one that the plan loses, and whether it is one that the plan counts twice.
  abbrev pub is_dropped : Out M → Bool
  is_dropped out = is_due (plan_of out).drop_each (length (offered out))

  abbrev pub is_doubled : Out M → Bool
  is_doubled out = is_due (plan_of out).double_each (length (offered out))

  -- What the post of a message answers, and what is in the ring then. It comes back exactly where the plan loses it or the ring has
  -- no place that the end knows to be free.
  abbrev pub IsPosted : Out M → Out M → M → Posted M → Type 0
  IsPosted old new message (Dropped back) = (is_dropped new ≡ true) × (back ≡ message) × (posted new ≡ posted old)
  IsPosted old new message (Full back) = (is_dropped new ≡ false) × (back ≡ message) × (posted new ≡ posted old) × (free new ≡ 0)
  IsPosted old new message Once = (is_dropped new ≡ false) × (is_doubled new ≡ false) × (posted new ≡ posted old ++ (message, 1) ∷ [])
  IsPosted old new message Twice = (is_dropped new ≡ false) × (is_doubled new ≡ true) × (posted new ≡ posted old ++ (message, 2) ∷ [])

  abbrev pub IsFull : Posted M → Type 0
  IsFull (Dropped back) = ⊥
  IsFull (Full back) = Unit {0}
  IsFull Once = ⊥
  IsFull Twice = ⊥
