-- Rings from each of several sites to each.
use Rattle.std.specs.Prelude.{◌≡◌, ℕ, Option, Some, None, Vec, List, [], ◌∷◌, ◌++◌, length, slice_get, All}
use Rattle.std.specs.declared.alloc.Global.{Global}
use Rattle.pv_post.specs.Ends.{IsPair, free, known, offered, plan_of, posted, taken}
use Rattle.pv_post.specs.declared.fault_plan.FaultPlan.{FaultPlan}
use Rattle.pv_post.specs.declared.inlet.In.{In}
use Rattle.pv_post.specs.declared.outlet.Out.{Out}
use Rattle.pv_post.specs.declared.ring.TheConstants.{PLACES}
use Rattle.pv_rings.specs.Rings.{Each}
use Rattle.pv_links.specs.Rows.{StandsAt}

module _ {M : Type 0} where
  -- Nothing was posted on the ring, whose places are all free, and nothing was taken from it.
  abbrev pub IsUnusedOut : FaultPlan → Out M → Type 0
  IsUnusedOut plan out = (plan_of out ≡ plan) × (offered out ≡ []) × (posted out ≡ []) × (free out ≡ PLACES)

  abbrev pub IsUnusedIn : In M → Type 0
  IsUnusedIn inlet = (taken inlet ≡ []) × (known inlet ≡ [])

  -- The row of a site has one more, the other end of this one, if there is one.
  abbrev pub IsLinked : Option (Out M) → Vec (In M) Global → Vec (In M) Global → Type 0
  IsLinked None before after = after.items ≡ before.items
  IsLinked (Some out) before after = (inlet : In M) × (after.items ≡ before.items ++ inlet ∷ []) × IsPair out inlet × IsUnusedIn inlet

  -- The other ends of these are added to the rows of sites, in order.
  abbrev pub AreLinked : FaultPlan → List (Out M) → List (Vec (In M) Global) → List (Vec (In M) Global) → Type 0
  AreLinked plan outs old new = All (IsUnusedOut plan) outs × Each (λ to. IsLinked (slice_get outs to)) old new

  -- These are the ends of new rings: from each site that has a row of the first to each of so many sites, which have the second.
  pub record AreEnds (plan : FaultPlan) (sites : ℕ) (outs : List (Vec (Out M) Global)) (ins : List (Vec (In M) Global)) : Type 0 where
    pub count : length ins ≡ sites
    pub outs_are : All (λ row. (length row.items ≡ sites) × All (IsUnusedOut plan) row.items) outs
    pub ins_are : All (λ row. (length row.items ≡ length outs) × All IsUnusedIn row.items) ins
    pub pairs : (from to : ℕ) (out : Out M) (inlet : In M) → StandsAt outs from to out → StandsAt ins to from inlet → IsPair out inlet
