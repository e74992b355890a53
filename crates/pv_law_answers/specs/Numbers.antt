-- The claims that numbers are given once.
use Rattle.std.specs.Prelude.{◌≡◌, ℕ, List, ◌∷◌, ◌++◌, All, Contains}
use Rattle.pv_base.specs.declared.grant.GrantId.{GrantId}
use Rattle.pv_base.specs.declared.txn.TxnId.{TxnId}
use Rattle.pv_protocol.specs.Committed.{grants_of}
use Rattle.pv_protocol.specs.Lines.{Line}
use Rattle.pv_protocol.specs.State.{Grant}
use Rattle.pv_protocol.specs.World.{World, site_at}
use Rattle.pv_protocol.specs.WorldStep.{Transition}

-- No two transitions of a run print one number of a transaction that has begun.
abbrev pub TxnsAreNew : List Transition → Type 0
TxnsAreNew transitions =
    (before between after : List Transition) (first second : Transition) → transitions ≡ before ++ first ∷ (between ++ second ∷ after)
    → (txn : TxnId) → Contains first.lines (Line.txn txn) → Contains second.lines (Line.txn txn) → ⊥

-- The grant stands at the site.
abbrev pub IsStanding : World → ℕ → Grant → Type 0
IsStanding world n grant = Contains (grants_of (site_at world n).running) grant

-- Both are one grant, whatever their ages: of one transaction, for the same locks.
pub record AreOneGrant (grant other : Grant) : Type 0 where
  pub txn : grant.txn ≡ other.txn
  pub wants : grant.wants ≡ other.wants

-- No grant of this number stands at the site.
abbrev pub IsGone : ℕ → GrantId → World → Type 0
IsGone n id world = (grant : Grant) → IsStanding world n grant → grant.id ≡ id → ⊥

-- What stands at a site in a world and under the same number in a later one is one grant; and one that has gone never stands there again.
pub record HaveOwnNumbers (world : World) (later : List World) : Type 0 where
  pub one : (n : ℕ) (grant other : Grant) (after : World) → IsStanding world n grant → Contains (world ∷ later) after → IsStanding after n other
      → grant.id ≡ other.id → AreOneGrant grant other
  pub gone : (n : ℕ) (grant : Grant) → IsStanding world n grant → (between after : List World) (next : World) → later ≡ between ++ next ∷ after
      → IsGone n grant.id next → All (IsGone n grant.id) after

-- That holds of the grants in each world of a run.
abbrev pub GrantsAreNew : List World → Type 0
GrantsAreNew worlds = (before later : List World) (world : World) → worlds ≡ before ++ world ∷ later → HaveOwnNumbers world later
