-- Which transactions are committed and open, by what is asked of sites.
use Rattle.std.proofs.Common.{◌≡◌, Bool, true, false, ◌&&◌, ◌||◌, Some, None, Option, List, [], ◌∷◌, map, refl, sym, ap, ◌∙◌, subst, rules}
use Rattle.std.specs.Prelude.{IsTrue, if◌then◌else◌}
use Rattle.std.specs.Bool.{beq}
use Rattle.std.specs.List.{list_any, Contains}
use Rattle.std.specs.Option.{option_eq, option_map}
use Rattle.std.proofs.lemmas.List.Elements.{All-head}
use Rattle.pv_base.proofs.AssignmentLemmas.{precedes-other, same-sym, same-eq}
use Rattle.pv_base.proofs.ContainsLemmas.{Contains-first, Contains-behind}
use Rattle.pv_base.proofs.OrderLemmas.{pairs-first, pairs-tail}
use Rattle.pv_base.specs.Assignment.{is_same_txn, precedes}
use Rattle.pv_base.specs.declared.grant.GrantId.{GrantId}
use Rattle.pv_base.specs.declared.txn.TxnId.{TxnId}
use Rattle.pv_format.specs.Record.{Record, epoch_begun, prepared, outcome_known}
use Rattle.pv_law_world.specs.Sites.{AreMemoriesInOrder}
use Rattle.pv_protocol.specs.Committed.{home_of, is_bound, is_committed, is_grant, grants_of, says_yes}
use Rattle.pv_protocol.specs.Keyed.{of_txn, AreInOrder}
use Rattle.pv_protocol.specs.Outcomes.{HasOneOutcome, IsOut}
use Rattle.pv_protocol.specs.Records.{is_prepared, known}
use Rattle.pv_protocol.specs.Sound.{IsInOrder}
use Rattle.pv_protocol.specs.State.{Grant, Running, TakenGrant}
use Rattle.pv_protocol.specs.Vote.{is_same_grant}
use Rattle.pv_protocol.specs.World.{World, site_at}
use Rattle.pv_site.specs.Asked.{grant_held}

neither : (b : Bool) → ((b && false) || false) ≡ false
neither true = refl
neither false = refl

-- Where no outcome is known, no record says that the transaction commits.
unknown-unsaid : (records : List Record) (txn : TxnId) → known records txn ≡ None → list_any (says_yes txn) records ≡ false
unknown-unsaid [] txn is = refl
unknown-unsaid (epoch_begun epoch ∷ records) txn is = unknown-unsaid records txn is
unknown-unsaid (prepared promised writes ∷ records) txn is = unknown-unsaid records txn is
unknown-unsaid (outcome_known decided commits ∷ records) txn is = by (is_same_txn txn decided) refl is (λ rest. unknown-unsaid records txn rest) where
  by : (same : Bool) → is_same_txn txn decided ≡ same → (if same then Some commits else known records txn) ≡ None
      → (known records txn ≡ None → list_any (says_yes txn) records ≡ false) → ((commits && is_same_txn decided txn) || list_any (says_yes txn) records) ≡ false
  by true same told unsaid = absurd (let wrong : ⊥ = cc in wrong)
  by false same told unsaid = rw (same-sym decided txn, same, unsaid told) (neither commits)

-- A transaction is committed where the first outcome that its site knows is that it commits.
pub committed-known : (world : World) (txn : TxnId) → HasOneOutcome world [] → is_committed world txn ≡ option_eq beq (known (site_at world (home_of txn)).records txn) (Some true)
committed-known world txn one = by (known (site_at world (home_of txn)).records txn) refl where
  by : (outcome : Option Bool) → known (site_at world (home_of txn)).records txn ≡ outcome → is_committed world txn ≡ option_eq beq outcome (Some true)
  by None is = unknown-unsaid (site_at world (home_of txn)).records txn is
  by (Some true) is = let committed = one.commit (home_of txn) txn is in search rules
  by (Some false) is = (All-head (IsOut txn) world [] (one.abort (home_of txn) txn is)).uncommitted

or-false : (b : Bool) → (b || false) ≡ b
or-false true = refl
or-false false = refl

-- No grant is of the transaction, where each is of a later one.
others-apart : (txn : TxnId) (id : GrantId) (grants : List Grant) → ((other : TxnId) → Contains (map (λ (grant : Grant). grant.txn) grants) other → IsTrue (precedes txn other))
    → list_any (is_grant txn id) grants ≡ false
others-apart txn id [] later = refl
others-apart txn id (grant ∷ grants) later =
    let apart = precedes-other txn grant.txn (later grant.txn (Contains-first grant.txn (map (λ (grant : Grant). grant.txn) grants))) in
    rw (same-sym grant.txn txn, apart) (others-apart txn id grants (λ other behind. later other (Contains-behind grant.txn (map (λ (grant : Grant). grant.txn) grants) other behind)))

-- The grant that is found of the transaction has this number.
abbrev pub is_numbered : Option GrantId → GrantId → Bool
is_numbered None id = false
is_numbered (Some held) id = is_same_grant held id

-- The very grant stands where the one grant of the transaction has its number.
pub stands-found : (txn : TxnId) (id : GrantId) (grants : List Grant) → AreInOrder (λ (grant : Grant). grant.txn) grants
    → list_any (is_grant txn id) grants ≡ is_numbered (option_map (λ (grant : Grant). grant.id) (of_txn (λ (grant : Grant). grant.txn) txn grants)) id
stands-found txn id [] ordered = refl
stands-found txn id (grant ∷ grants) ordered =
    by (is_same_txn txn grant.txn) refl (stands-found txn id grants (pairs-tail (λ txn later. IsTrue (precedes txn later)) grant.txn (map (λ (grant : Grant). grant.txn) grants) ordered)) where
      by : (same : Bool) → is_same_txn txn grant.txn ≡ same
          → list_any (is_grant txn id) grants ≡ is_numbered (option_map (λ (grant : Grant). grant.id) (of_txn (λ (grant : Grant). grant.txn) txn grants)) id
          → ((is_same_txn grant.txn txn && is_same_grant grant.id id) || list_any (is_grant txn id) grants)
          ≡ is_numbered (option_map (λ (grant : Grant). grant.id) (if same then Some grant else of_txn (λ (grant : Grant). grant.txn) txn grants)) id
      by true same rest =
          let txns = map (λ (grant : Grant). grant.txn) grants in
          let is = same-eq {t = txn} {u = grant.txn} same in
          let later = λ (other : TxnId) (behind : Contains txns other). subst (λ t. IsTrue (precedes t other)) (sym is) (pairs-first (λ txn later. IsTrue (precedes txn later)) grant.txn txns ordered other behind) in
          rw (same-sym grant.txn txn, same, others-apart txn id grants later) (or-false (is_same_grant grant.id id))
      by false same rest = rw (same-sym grant.txn txn, same) rest

-- The very grant that was taken stands where the grant that the transaction holds there has its number.
pub stands-held : (txn : TxnId) (id : GrantId) (running : Option Running) → ((memory : Running) → running ≡ Some memory → IsInOrder memory)
    → list_any (is_grant txn id) (grants_of running) ≡ is_numbered (grant_held running txn) id
stands-held txn id None ordered = refl
stands-held txn id (Some memory) ordered = stands-found txn id memory.grants (ordered memory refl).grants

-- The same as a test on options.
pub numbered-same : (held : Option GrantId) (id : GrantId) → option_eq is_same_grant held (Some id) ≡ is_numbered held id
numbered-same None id = refl
numbered-same (Some other) id = refl

module _ (world : World) (txn : TxnId) (taken : TakenGrant) where
  -- A participant that is prepared is bound.
  pub bound-prepared : is_prepared (site_at world taken.site).records txn ≡ true → is_bound world txn taken ≡ true
  bound-prepared is = ap (λ b. b || list_any (is_grant txn taken.grant) (grants_of (site_at world taken.site).running)) is

  -- Another one is bound where the very grant stands.
  pub bound-held : AreMemoriesInOrder world → is_prepared (site_at world taken.site).records txn ≡ false
      → is_bound world txn taken ≡ option_eq is_same_grant (grant_held (site_at world taken.site).running txn) (Some taken.grant)
  bound-held ordered is =
      ap (λ b. b || list_any (is_grant txn taken.grant) (grants_of (site_at world taken.site).running)) is
      ∙ stands-held txn taken.grant (site_at world taken.site).running (ordered taken.site)
      ∙ sym (numbered-same (grant_held (site_at world taken.site).running txn) taken.grant)
