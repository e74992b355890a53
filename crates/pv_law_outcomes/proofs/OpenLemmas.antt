-- What is open and fits, as it is computed, and as it is argued with.
use Rattle.std.proofs.Common.{◌≡◌, ⊎_elim, Bool, true, false, Some, None, Option, refl, sym, ap, subst}
use Rattle.std.specs.Prelude.{not, ◌&&◌, ◌==◌, is_some}
use Rattle.std.specs.List.{Contains, list_any, list_all}
use Rattle.std.proofs.lemmas.Bool.{and_parts, and_from, eqb-true, eq-eqb, or_cases, or_left, or_right, false≢true}
use Rattle.std.proofs.lemmas.Option.{none-some}
use Rattle.pv_base.proofs.AssignmentLemmas.{same-eq, same-from-eq}
use Rattle.pv_base.proofs.MapLemmas.{Contains-map, Contains-unmap}
use Rattle.pv_base.specs.Assignment.{is_same_txn}
use Rattle.pv_base.specs.declared.grant.GrantId.{GrantId}
use Rattle.pv_base.specs.declared.txn.TxnId.{TxnId}
use Rattle.pv_law_acts.proofs.ListLemmas.{any-listed, listed-any, all-listed, listed-all}
use Rattle.pv_law_acts.specs.Seen.{records_at, memory_at, ageless_grant, ageless_entry, WorksAgeless, HoldsAgeless}
use Rattle.pv_law_outcomes.specs.Decided.{IsBoundBy, is_promised, is_held, MayCommitYet, is_placed}
use Rattle.pv_protocol.specs.Committed.{home_of, is_committed, grants_of, entry_of, is_grant, is_bound, is_open, IsOpen}
use Rattle.pv_protocol.specs.Records.{is_prepared}
use Rattle.pv_protocol.specs.State.{Grant, Entry, TakenGrant, Placed}
use Rattle.pv_protocol.specs.Vote.{is_same_grant}
use Rattle.pv_protocol.specs.World.{World}

-- a test that is denied
denied : (b : Bool) → not b ≡ true → b ≡ false
denied false is = refl
denied true is = absurd (false≢true is)

deny : (b : Bool) → b ≡ false → not b ≡ true
deny false is = refl
deny true is = absurd (false≢true (sym is))

-- Entries.

some-entry : (found : Option Entry) → is_some found ≡ true → (entry : Entry) × (ageless_entry found ≡ Some entry)
some-entry None is = absurd (false≢true is)
some-entry (Some entry) is = (record entry { age = 0 }, refl)

entry-some : (found : Option Entry) (entry : Entry) → ageless_entry found ≡ Some entry → is_some found ≡ true
entry-some None entry is = absurd (none-some _ is)
entry-some (Some found) entry is = refl

-- Grants.

grant-parts : (id other : GrantId) → id.epoch ≡ other.epoch → id.number ≡ other.number → id ≡ other
grant-parts id other epoch number = λ i. record { epoch = epoch i; number = number i }

pub same-grant : (id other : GrantId) → is_same_grant id other ≡ true → id ≡ other
same-grant id other is =
    let parts = and_parts (id.epoch == other.epoch) (id.number == other.number) is in
    grant-parts id other (eqb-true id.epoch other.epoch parts.0) (eqb-true id.number other.number parts.1)

pub grant-same : (id other : GrantId) → id ≡ other → is_same_grant id other ≡ true
grant-same id other is =
    and_from (id.epoch == other.epoch) (id.number == other.number)
    (eq-eqb id.epoch other.epoch (ap (λ (g : GrantId). g.epoch) is)) (eq-eqb id.number other.number (ap (λ (g : GrantId). g.number) is))

module _ (world : World) where
  bound-from : (txn : TxnId) (taken : TakenGrant) → is_bound world txn taken ≡ true → IsBoundBy world txn taken
  bound-from txn taken is =
      ⊎_elim
      (λ promised. is_promised promised)
      (λ held.
      let found = any-listed (is_grant txn taken.grant) (grants_of (memory_at world taken.site)) held in
      let parts = and_parts (is_same_txn found.0.txn txn) (is_same_grant found.0.id taken.grant) found.1.1 in
      is_held found.0.wants
      (subst (λ (t : TxnId). HoldsAgeless world taken.site (record { txn = t; id = taken.grant; wants = found.0.wants; age = 0 })) (same-eq {t = found.0.txn} {u = txn} parts.0)
      (subst (λ (id : GrantId). HoldsAgeless world taken.site (record { txn = found.0.txn; id = id; wants = found.0.wants; age = 0 })) (same-grant found.0.id taken.grant parts.1)
      (Contains-map ageless_grant (grants_of (memory_at world taken.site)) found.0 found.1.0))))
      (or_cases (is_prepared (records_at world taken.site) txn) (list_any (is_grant txn taken.grant) (grants_of (memory_at world taken.site))) is)

  bound-to : (txn : TxnId) (taken : TakenGrant) → IsBoundBy world txn taken → is_bound world txn taken ≡ true
  bound-to txn taken (is_promised is) =
      or_left (is_prepared (records_at world taken.site) txn) (list_any (is_grant txn taken.grant) (grants_of (memory_at world taken.site))) is
  bound-to txn taken (is_held wants holds) =
      let found = Contains-unmap ageless_grant (grants_of (memory_at world taken.site)) (record { txn = txn; id = taken.grant; wants = wants; age = 0 }) holds in
      or_right (is_prepared (records_at world taken.site) txn) (list_any (is_grant txn taken.grant) (grants_of (memory_at world taken.site)))
      (listed-any (is_grant txn taken.grant) (grants_of (memory_at world taken.site)) found.0 found.1.0
      (and_from (is_same_txn found.0.txn txn) (is_same_grant found.0.id taken.grant)
      (same-from-eq {t = found.0.txn} {u = txn} (ap (λ (g : Grant). g.txn) found.1.1)) (grant-same found.0.id taken.grant (ap (λ (g : Grant). g.id) found.1.1))))

  pub open-from : (txn : TxnId) → IsOpen world txn → MayCommitYet world txn
  open-from txn is =
      let found = any-listed (λ (p : Placed). is_same_txn p.txn txn && is_open world p) world.order is in
      let parts = and_parts (is_same_txn found.0.txn txn) (is_open world found.0) found.1.1 in
      let own : found.0.txn ≡ txn = same-eq {t = found.0.txn} {u = txn} parts.0 in
      let open_ = and_parts (not (is_committed world found.0.txn)) (is_some (entry_of world found.0.txn) && list_all (is_bound world found.0.txn) found.0.grants) parts.1 in
      let works_ = and_parts (is_some (entry_of world found.0.txn)) (list_all (is_bound world found.0.txn) found.0.grants) open_.1 in
      let entry = some-entry (entry_of world found.0.txn) works_.0 in
      record {
        placed = found.0;
        in_order = found.1.0;
        own = own;
        uncommitted = subst (λ t. is_committed world t ≡ false) own (denied (is_committed world found.0.txn) open_.0);
        entry = entry.0;
        works = subst (λ t. WorksAgeless world (home_of t) t entry.0) own entry.1;
        bound = λ taken h. bound-from txn taken
            (subst (λ t. is_bound world t taken ≡ true) own (all-listed (is_bound world found.0.txn) found.0.grants works_.1 taken h));
      }

  -- where its place is written with the transaction
  open-place : (placed : Placed) → (is : MayCommitYet world placed.txn) → is.placed ≡ placed → is_open world placed ≡ true
  open-place placed is same =
      and_from (not (is_committed world placed.txn)) (is_some (entry_of world placed.txn) && list_all (is_bound world placed.txn) placed.grants)
      (deny (is_committed world placed.txn) is.uncommitted)
      (and_from (is_some (entry_of world placed.txn)) (list_all (is_bound world placed.txn) placed.grants)
      (entry-some (entry_of world placed.txn) is.entry is.works)
      (listed-all (is_bound world placed.txn) placed.grants
      (λ taken h. bound-to placed.txn taken (is.bound taken (subst (λ (p : Placed). Contains p.grants taken) (sym same) h)))))

  pub open-to : (txn : TxnId) → MayCommitYet world txn → IsOpen world txn
  open-to txn is =
      listed-any (λ (p : Placed). is_same_txn p.txn txn && is_open world p) world.order is.placed is.in_order
      (and_from (is_same_txn is.placed.txn txn) (is_open world is.placed)
      (same-from-eq {t = is.placed.txn} {u = txn} is.own)
      (open-place is.placed
      (record {
        placed = is.placed;
        in_order = is.in_order;
        own = refl;
        uncommitted = subst (λ t. is_committed world t ≡ false) (sym is.own) is.uncommitted;
        entry = is.entry;
        works = subst (λ t. WorksAgeless world (home_of t) t is.entry) (sym is.own) is.works;
        bound = λ taken h. subst (λ t. IsBoundBy world t taken) (sym is.own) (is.bound taken h);
      })
      refl))

  pub placed-listed : (txn : TxnId) → is_placed world txn ≡ true → (placed : Placed) × (Contains world.order placed × (placed.txn ≡ txn))
  placed-listed txn is =
      let found = any-listed (λ (p : Placed). is_same_txn p.txn txn) world.order is in
      (found.0, (found.1.0, same-eq {t = found.0.txn} {u = txn} found.1.1))

  pub listed-placed : (txn : TxnId) (placed : Placed) → Contains world.order placed → placed.txn ≡ txn → is_placed world txn ≡ true
  listed-placed txn placed h own =
      listed-any (λ (p : Placed). is_same_txn p.txn txn) world.order placed h (same-from-eq {t = placed.txn} {u = txn} own)
