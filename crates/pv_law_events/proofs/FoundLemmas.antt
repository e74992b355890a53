-- What is found in a memory that stands in order.
use Rattle.std.proofs.Common.{◌≡◌, ⊎_elim, Bool, true, false, Some, None, Option, List, [], ◌∷◌, map, refl, sym, ap, subst, ◌∙◌}
use Rattle.std.specs.Prelude.{not, ◌&&◌, ◌+◌, nat_lt, if◌then◌else◌}
use Rattle.std.specs.List.{Contains, filter, find}
use Rattle.std.proofs.lemmas.Bool.{and_parts, false≢true, true≢false}
use Rattle.std.proofs.lemmas.Option.{none-some}
use Rattle.pv_base.proofs.AssignmentLemmas.{same-eq, same-refl, precedes-other'}
use Rattle.pv_base.proofs.Basics.{Some_inj}
use Rattle.pv_base.proofs.ContainsLemmas.{Contains-nil, Contains-cases}
use Rattle.pv_base.proofs.MapLemmas.{Contains-map, Contains-unmap}
use Rattle.pv_base.specs.Assignment.{is_same_txn}
use Rattle.pv_base.specs.declared.limits.TheConstants.{TICKS}
use Rattle.pv_base.specs.declared.txn.TxnId.{TxnId}
use Rattle.pv_law_acts.proofs.ListLemmas.{found-listed}
use Rattle.pv_law_acts.proofs.MemoryLemmas.{left-work, left-holding, put-holding}
use Rattle.pv_law_acts.specs.Acts.{HasNoMore}
use Rattle.pv_law_acts.specs.Seen.{ageless_grant, ageless_entry, holdings_in, work_in}
use Rattle.pv_law_canonical.proofs.FilterLemmas.{kept-listed}
use Rattle.pv_law_polyvalues.proofs.AscendingLemmas.{ascending-first, ascending-tail}
use Rattle.pv_law_step.proofs.Appended.{found-passes}
use Rattle.pv_protocol.specs.Coordinate.{is_locking, locking_entry, voting_entry}
use Rattle.pv_protocol.specs.Here.{grant_of, with_grant, without_grant, without_entry}
use Rattle.pv_protocol.specs.Keyed.{of_txn, AreInOrder}
use Rattle.pv_protocol.specs.Sound.{IsInOrder}
use Rattle.pv_protocol.specs.State.{Stage, locking, voting, Grant, Entry, Running}
use Rattle.pv_protocol.specs.Tick.{older_entries, older_grants, lasting_entries, lasting_grants, expired_entries, older}

module _ {X : Type 0} (txn_of : X → TxnId) where
  found-here : (b : Bool) (y : X) (rest : Option X) → b ≡ true → (if b then Some y else rest) ≡ Some y
  found-here true y rest is = refl
  found-here false y rest is = absurd (false≢true is)

  found-there : (b : Bool) (y x : X) (rest : Option X) → b ≡ false → rest ≡ Some x → (if b then Some y else rest) ≡ Some x
  found-there true y x rest is found = absurd (true≢false is)
  found-there false y x rest is found = found

  -- In a list in order, what is there is found.
  pub listed-found : (xs : List X) (x : X) → AreInOrder txn_of xs → Contains xs x → of_txn txn_of (txn_of x) xs ≡ Some x
  listed-found [] x up h = absurd (Contains-nil x h)
  listed-found (y ∷ ys) x up h =
      ⊎_elim
      (λ here. subst (λ z. of_txn txn_of (txn_of z) (y ∷ ys) ≡ Some z) here
      (found-here (is_same_txn (txn_of y) (txn_of y)) y (of_txn txn_of (txn_of y) ys) (same-refl (txn_of y))))
      (λ behind. found-there (is_same_txn (txn_of x) (txn_of y)) y x (of_txn txn_of (txn_of x) ys)
      (precedes-other' (txn_of y) (txn_of x) (ascending-first (txn_of y) (map txn_of ys) up (txn_of x) (Contains-map txn_of ys x behind)))
      (listed-found ys x (ascending-tail (txn_of y) (map txn_of ys) up) behind))
      (Contains-cases y ys x h)

pub kept-passes : {X : Type 0} (p : X → Bool) (xs : List X) (x : X) → Contains (filter p xs) x → p x ≡ true
kept-passes p [] x h = absurd (Contains-nil x h)
kept-passes p (y ∷ ys) x h = by (p y) refl (kept-passes p ys x) h where
  by : (b : Bool) → p y ≡ b → (Contains (filter p ys) x → p x ≡ true) → Contains (if b then y ∷ filter p ys else filter p ys) x → p x ≡ true
  by true passes later h = ⊎_elim (λ here. subst (λ z. p z ≡ true) here passes) (λ behind. later behind) (Contains-cases y (filter p ys) x h)
  by false fails later h = later h

module _ (running : Running) (order : IsInOrder running) where
  -- The entry that is found with a test is the transaction's.
  entry-of-test : (txn : TxnId) (q : Entry → Bool) (entry : Entry) → find (λ (e : Entry). is_same_txn txn e.txn && q e) running.entries ≡ Some entry
      → (of_txn (λ (e : Entry). e.txn) txn running.entries ≡ Some entry) × (q entry ≡ true)
  entry-of-test txn q entry is =
      let parts = and_parts (is_same_txn txn entry.txn) (q entry) (found-passes (λ (e : Entry). is_same_txn txn e.txn && q e) running.entries entry is) in (
        subst (λ t. of_txn (λ (e : Entry). e.txn) t running.entries ≡ Some entry) (sym (same-eq {t = txn} {u = entry.txn} parts.0))
            (listed-found (λ (e : Entry). e.txn) running.entries entry order.entries (found-listed (λ (e : Entry). is_same_txn txn e.txn && q e) running.entries entry is)),
        parts.1,
      )

  locks-is : (stage : Stage) → is_locking stage ≡ true → stage ≡ locking
  locks-is locking is = refl
  locks-is voting is = absurd (false≢true is)

  votes-is : (stage : Stage) → not (is_locking stage) ≡ true → stage ≡ voting
  votes-is voting is = refl
  votes-is locking is = absurd (false≢true is)

  pub locking-found : (txn : TxnId) (entry : Entry) → locking_entry running txn ≡ Some entry
      → (of_txn (λ (e : Entry). e.txn) txn running.entries ≡ Some entry) × (entry.stage ≡ locking)
  locking-found txn entry is = let both = entry-of-test txn (λ (e : Entry). is_locking e.stage) entry is in (both.0, locks-is entry.stage both.1)

  pub voting-found : (txn : TxnId) (entry : Entry) → voting_entry running txn ≡ Some entry
      → (of_txn (λ (e : Entry). e.txn) txn running.entries ≡ Some entry) × (entry.stage ≡ voting)
  voting-found txn entry is = let both = entry-of-test txn (λ (e : Entry). not (is_locking e.stage)) entry is in (both.0, votes-is entry.stage both.1)

  -- A tick makes nothing new.

  one-older : Entry → Entry
  one-older entry = record entry { age = entry.age + 1 }

  older-listed : (txn : TxnId) (entry : Entry) → Contains (older_entries running.entries) entry
      → (was : Entry) × (Contains running.entries was × ((record was { age = was.age + 1 }) ≡ entry))
  older-listed txn entry h = Contains-unmap (λ (e : Entry). record e { age = e.age + 1 }) running.entries entry h

  older-work : (txn : TxnId) (found : Option Entry) (entry : Entry) → of_txn (λ (e : Entry). e.txn) txn (lasting_entries (older_entries running.entries)) ≡ found
      → ageless_entry found ≡ Some entry → work_in (Some running) txn ≡ Some entry
  older-work txn None entry found is = absurd (none-some _ is)
  older-work txn (Some late) entry found is =
      let same : txn ≡ late.txn = same-eq {t = txn} {u = late.txn} (found-passes (λ (e : Entry). is_same_txn txn e.txn) (lasting_entries (older_entries running.entries)) late found) in
      let was = older-listed txn late (kept-listed (λ (e : Entry). nat_lt e.age TICKS) (older_entries running.entries) late
      (found-listed (λ (e : Entry). is_same_txn txn e.txn) (lasting_entries (older_entries running.entries)) late found)) in
      ap ageless_entry
      (subst (λ t. of_txn (λ (e : Entry). e.txn) t running.entries ≡ Some was.0) (ap (λ (e : Entry). e.txn) was.1.1 ∙ sym same)
      (listed-found (λ (e : Entry). e.txn) running.entries was.0 order.entries was.1.0))
      ∙ ap (λ (e : Entry). Some (record e { age = 0 })) was.1.1 ∙ is

  older-holding : (grant : Grant) → Contains (holdings_in (Some (older running))) grant → Contains (holdings_in (Some running)) grant
  older-holding grant h =
      let late = Contains-unmap ageless_grant (lasting_grants (older_grants running.grants)) grant h in
      let was = Contains-unmap (λ (g : Grant). record g { age = g.age + 1 }) running.grants late.0
      (kept-listed (λ (g : Grant). nat_lt g.age TICKS) (older_grants running.grants) late.0 late.1.0) in
      subst (Contains (holdings_in (Some running))) (ap ageless_grant was.1.1 ∙ late.1.1) (Contains-map ageless_grant running.grants was.0 was.1.0)

  pub older-no-more : HasNoMore (Some running) (Some (older running))
  older-no-more = record {
    txns = refl;
    ids = refl;
    entries = λ txn entry is. older-work txn (of_txn (λ (e : Entry). e.txn) txn (lasting_entries (older_entries running.entries))) entry refl is;
    grants = older-holding;
  }

  -- Of a transaction there is one entry.
  older-one : (late other : Entry) → Contains (older_entries running.entries) late → Contains (older_entries running.entries) other → late.txn ≡ other.txn → late ≡ other
  older-one late other h k same =
      let a = older-listed late.txn late h in
      let b = older-listed other.txn other k in
      let txns : a.0.txn ≡ b.0.txn = ap (λ (e : Entry). e.txn) a.1.1 ∙ same ∙ sym (ap (λ (e : Entry). e.txn) b.1.1) in
      let one : a.0 ≡ b.0 =
      Some_inj (sym (listed-found (λ (e : Entry). e.txn) running.entries a.0 order.entries a.1.0)
      ∙ subst (λ t. of_txn (λ (e : Entry). e.txn) t running.entries ≡ Some b.0) (sym txns) (listed-found (λ (e : Entry). e.txn) running.entries b.0 order.entries b.1.0)) in
      sym a.1.1 ∙ ap (λ (e : Entry). record e { age = e.age + 1 }) one ∙ b.1.1

  both-ways : (b : Bool) → b ≡ true → not b ≡ true → ⊥
  both-ways true is isnt = false≢true isnt
  both-ways false is isnt = false≢true is

  -- An entry at its last tick was there, and is there no more.
  pub expired-was : (late : Entry) → Contains (expired_entries (older_entries running.entries)) late
      → (work_in (Some running) late.txn ≡ Some (record late { age = 0 })) × (work_in (Some (older running)) late.txn ≡ None)
  expired-was late h =
      let listed = kept-listed (λ (e : Entry). not (nat_lt e.age TICKS)) (older_entries running.entries) late h in
      let was = older-listed late.txn late listed in (
        ap ageless_entry
            (subst (λ t. of_txn (λ (e : Entry). e.txn) t running.entries ≡ Some was.0) (ap (λ (e : Entry). e.txn) was.1.1)
            (listed-found (λ (e : Entry). e.txn) running.entries was.0 order.entries was.1.0))
            ∙ ap (λ (e : Entry). Some (record e { age = 0 })) was.1.1,
        none-left (of_txn (λ (e : Entry). e.txn) late.txn (lasting_entries (older_entries running.entries))) refl,
      ) where
        none-left : (o : Option Entry) → of_txn (λ (e : Entry). e.txn) late.txn (lasting_entries (older_entries running.entries)) ≡ o → ageless_entry o ≡ None
        none-left None is = refl
        none-left (Some other) is =
            let kept : Contains (lasting_entries (older_entries running.entries)) other =
            found-listed (λ (e : Entry). is_same_txn late.txn e.txn) (lasting_entries (older_entries running.entries)) other is in
            let same : late.txn ≡ other.txn = same-eq {t = late.txn} {u = other.txn} (found-passes (λ (e : Entry). is_same_txn late.txn e.txn) (lasting_entries (older_entries running.entries)) other is) in
            let one : late ≡ other = older-one late other (kept-listed (λ (e : Entry). not (nat_lt e.age TICKS)) (older_entries running.entries) late h)
            (kept-listed (λ (e : Entry). nat_lt e.age TICKS) (older_entries running.entries) other kept) same in
            absurd (both-ways (nat_lt late.age TICKS)
            (subst (λ (e : Entry). nat_lt e.age TICKS ≡ true) (sym one) (kept-passes (λ (e : Entry). nat_lt e.age TICKS) (older_entries running.entries) other kept))
            (kept-passes (λ (e : Entry). not (nat_lt e.age TICKS)) (older_entries running.entries) late h))

-- Nothing is new where a grant is of another age, or grants and entries are taken out.

pub aged-no-more : (running : Running) (txn : TxnId) (grant : Grant) → grant_of running txn ≡ Some grant → HasNoMore (Some running) (Some (with_grant running (record grant { age = 0 })))
aged-no-more running txn grant found = record {
  txns = refl;
  ids = refl;
  entries = λ t entry is. is;
  grants = λ other h. ⊎_elim
      (λ old. old)
      (λ same. subst (Contains (holdings_in (Some running))) (sym same)
      (Contains-map ageless_grant running.grants grant (found-listed (λ (g : Grant). is_same_txn txn g.txn) running.grants grant found)))
      (put-holding running (record grant { age = 0 }) other h);
}

pub released-no-more : (running : Running) (txn : TxnId) → HasNoMore (Some running) (Some (without_grant running txn))
released-no-more running txn = record { txns = refl; ids = refl; entries = λ t entry is. is; grants = left-holding running txn }

pub dropped-no-more : (running : Running) (txn : TxnId) → HasNoMore (Some running) (Some (without_entry running txn))
dropped-no-more running txn = record { txns = refl; ids = refl; entries = λ t entry is. left-work running txn t entry is; grants = λ grant h. h }
