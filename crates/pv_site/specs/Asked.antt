-- What is asked of a site between its steps.
use Rattle.std.specs.Prelude.{◌≡◌, ◌&&◌, ℕ, Bool, List, [], Option, Some, None, is_some}
use Rattle.std.specs.Option.{option_map}
use Rattle.pv_base.specs.declared.grant.GrantId.{GrantId}
use Rattle.pv_base.specs.declared.txn.TxnId.{TxnId}
use Rattle.pv_base.specs.Polyvalue.{names}
use Rattle.pv_protocol.specs.Committed.{grants_of, holder_of}
use Rattle.pv_protocol.specs.Coordinate.{voting_entry}
use Rattle.pv_protocol.specs.Granted.{taken_from}
use Rattle.pv_protocol.specs.Keyed.{of_txn}
use Rattle.pv_protocol.specs.Lock.{is_home}
use Rattle.pv_protocol.specs.Outcome.{named_here}
use Rattle.pv_protocol.specs.Shown.{shown}
use Rattle.pv_protocol.specs.State.{Entry, Grant, Running, Taken}
use Rattle.pv_site.specs.SiteState.{SiteState, here_with}
use Rattle.pv_site.specs.declared.input.Shown.{Shown}
use Rattle.pv_site.specs.declared.input.Shown.TheVariants.{Down, Locked, Cases}

-- the entries at a site: none where it is down
abbrev pub entries_of : Option Running → List Entry
entries_of None = []
entries_of (Some running) = running.entries

-- the entry of the transaction, if there is one that asks for votes
abbrev pub voting_at : Option Running → TxnId → Option Entry
voting_at None txn = None
voting_at (Some running) txn = voting_entry running txn

-- the grant that was taken from the site for the entry, if one was
abbrev pub grant_taken : ℕ → Option Entry → Option GrantId
grant_taken site None = None
grant_taken site (Some entry) = option_map (λ (taken : Taken). taken.grant) (taken_from entry site)

-- the grant that the transaction holds at a site, if one stands
abbrev pub grant_held : Option Running → TxnId → Option GrantId
grant_held running txn = option_map (λ (grant : Grant). grant.id) (of_txn (λ (grant : Grant). grant.txn) txn (grants_of running))

-- What a site shows of its item: where it is up, the transaction that holds the item exclusively, if there is one, and else the shown value.
abbrev pub Shows : {W : Type 0} → SiteState W → Option Running → ℕ → Shown → Type 0
Shows site running item Down = running ≡ None
Shows site None item (Locked txn) = ⊥
Shows site (Some running) item (Locked txn) = holder_of running.grants item ≡ Some txn
Shows site None item (Cases value) = ⊥
Shows site (Some running) item (Cases value) = (holder_of running.grants item ≡ None) × (value.now ≡ shown site.catalog site.records item)

-- The item is the site's, and what the site shows of it names the transaction. A site that is down shows nothing.
abbrev pub is_touched : {W : Type 0} → SiteState W → TxnId → ℕ → Bool
is_touched site txn item = is_some site.running && (is_home site.catalog site.me item && names (shown site.catalog site.records item) txn)

-- Nothing is left to come to the site: no grant and no entry stands, and no shown value names an outcome.
pub record IsIdle {W : Type 0} (site : SiteState W) : Type 0 where
  pub grants : grants_of site.running ≡ []
  pub entries : entries_of site.running ≡ []
  pub named : (running : Running) → named_here (here_with site running) ≡ []
