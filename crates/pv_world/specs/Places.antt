-- The grants that a transaction took, as its site has them.
use Rattle.std.specs.Prelude.{◌≡◌, ℕ, zero, suc, ◌+◌, List, [], ◌++◌, option_to_list, Option, Some, None, ⊤}
use Rattle.std.specs.Option.{option_map}
use Rattle.pv_base.specs.Catalog.{Declared}
use Rattle.pv_base.specs.declared.grant.GrantId.{GrantId}
use Rattle.pv_base.specs.declared.txn.TxnId.{TxnId}
use Rattle.pv_protocol.specs.State.{Running, Placed, TakenGrant}
use Rattle.pv_site.specs.Asked.{grant_taken, voting_at}

-- the grant of this site
abbrev pub of_site : ℕ → GrantId → TakenGrant
of_site site grant = record { site = site; grant = grant }

-- what was taken from the site, as a list
abbrev pub taken_at : Option Running → TxnId → ℕ → List TakenGrant
taken_at running txn site = option_to_list (option_map (of_site site) (grant_taken site (voting_at running txn)))

-- the grants that a transaction that asks for votes took from so many sites, which are numbered from here on
abbrev pub votes_from : Option Running → TxnId → ℕ → ℕ → List TakenGrant
votes_from running txn site zero = []
votes_from running txn site (suc more) = taken_at running txn site ++ votes_from running txn (site + 1) more

-- A transaction that has reached its lock point has the grants that its site took.
abbrev pub IsPlacedRight : Declared → Option Running → Option Placed → Type 0
IsPlacedRight catalog running None = ⊤
IsPlacedRight catalog running (Some placed) = placed.grants ≡ votes_from running placed.txn 0 catalog.sites
