-- What is done with its works leaves a coordinator in order.
use Rattle.std.proofs.Common.{◌≡◌, ℕ, ◌+◌, ◌<◌, Bool, true, false, List, [], ◌∷◌, ◌++◌, map, get_or, set, IsTrue, Less, Equal, refl, sym, ap, subst, ◌∙◌, arith, rules}
use Rattle.std.specs.Prelude.{All, nat_lt, if◌then◌else◌}
use Rattle.std.specs.List.{filter}
use Rattle.std.specs.Ordering.{nat_cmp}
use Rattle.std.specs.Cmp.{nat_cmp_is}
use Rattle.std.proofs.lemmas.List.Elements.{All-set, All-map, All-append, All-filter, All-cons, All-nil, All-weaker, filter_passes}
use Rattle.pv_base.proofs.MapLemmas.{Contains-unmap, map-map}
use Rattle.pv_base.specs.Assignment.{AreAscending, precedes}
use Rattle.pv_base.specs.declared.limits.TheConstants.{NEVER_GIVEN, TICKS}
use Rattle.pv_base.specs.declared.txn.TxnId.{TxnId}
use Rattle.pv_coord.proofs.KeyedLemmas.{behind, order-tail, order-set, order-end, with-end}
use Rattle.pv_coord.specs.Coordinator.{Coordinator, IsNumbered, IsInOrder, next_txn, beginning, older, lasting}
use Rattle.pv_coord.specs.Place.{IsPlace}
use Rattle.pv_coord.specs.Work.{Work, txn_of}
use Rattle.pv_law_polyvalues.proofs.AscendingLemmas.{ascending-cons}
use Rattle.pv_protocol.specs.Keyed.{AreInOrder}

order-cons : (x : Work) (xs : List Work) → All (λ (y : Work). IsTrue (precedes (txn_of x) (txn_of y))) xs → AreInOrder txn_of xs → AreInOrder txn_of (x ∷ xs)
order-cons x xs before up =
    ascending-cons (txn_of x) (map txn_of xs)
    (λ u listed.
    let found = Contains-unmap txn_of xs u listed in
    let inside = found.1.0 in
    let there : txn_of (get_or xs inside.0 found.0) ≡ u = ap txn_of inside.2 ∙ found.1.1 in
    subst (λ (t : TxnId). IsTrue (precedes (txn_of x) t)) there (before inside.0 found.0 inside.1))
    up

order-by : (p : Work → Bool) (b : Bool) (x : Work) (xs : List Work) → AreInOrder txn_of (x ∷ xs) → AreInOrder txn_of (filter p xs)
    → AreInOrder txn_of (if b then x ∷ filter p xs else filter p xs)
order-by p true x xs up rest = order-cons x (filter p xs) (All-filter p (λ (y : Work). IsTrue (precedes (txn_of x) (txn_of y))) xs (behind txn_of x xs up)) rest
order-by p false x xs up rest = rest

order-filter : (p : Work → Bool) (xs : List Work) → AreInOrder txn_of xs → AreInOrder txn_of (filter p xs)
order-filter p [] up = up
order-filter p (x ∷ xs) up = order-by p (p x) x xs up (order-filter p xs (order-tail txn_of x xs up))

module _ (coord : Coordinator) (ok : IsInOrder coord) where
  -- Some of the works are in order as all are.
  pub kept-filter : (p : Work → Bool) → IsInOrder (record coord { entries = filter p coord.entries })
  kept-filter p = record {
    ascending = order-filter p coord.entries ok.ascending;
    numbered = All-filter p (λ (work : Work). IsNumbered coord.site coord.epoch coord.next work.entry.txn) coord.entries ok.numbered;
    young = All-filter p (λ (work : Work). work.entry.age < TICKS) coord.entries ok.young;
    next = ok.next;
  }

  -- A work is changed that stays on its transaction.
  pub kept-set : (txn : TxnId) (place : ℕ) → IsPlace coord.entries txn place → (work : Work) → txn_of work ≡ txn → work.entry.age < TICKS
      → IsInOrder (record coord { entries = set coord.entries place work })
  kept-set txn place at work same young = record {
    ascending = order-set txn_of coord.entries ok.ascending place work work (same ∙ sym (at.same work));
    numbered = All-set (λ (other : Work). IsNumbered coord.site coord.epoch coord.next other.entry.txn) coord.entries place work
        (subst (IsNumbered coord.site coord.epoch coord.next) (at.same work ∙ sym same) (ok.numbered place work at.within)) ok.numbered;
    young = All-set (λ (other : Work). other.entry.age < TICKS) coord.entries place work young ok.young;
    next = ok.next;
  }

  -- Each number that was given precedes the next.
  precedes-next : (txn : TxnId) → IsNumbered coord.site coord.epoch coord.next txn → IsTrue (precedes txn (next_txn coord))
  precedes-next txn is =
      let site : Equal ≡ nat_cmp txn.site.0 coord.site = nat_cmp_is txn.site.0 coord.site Equal is.site in
      let epoch : Equal ≡ nat_cmp txn.epoch coord.epoch = nat_cmp_is txn.epoch coord.epoch Equal is.epoch in
      let number : Less ≡ nat_cmp txn.number coord.next = nat_cmp_is txn.number coord.next Less is.number in
      rw (sym site, sym epoch, sym number) refl

  pub all-precede : (work : Work) → txn_of work ≡ next_txn coord → All (λ (y : Work). IsTrue (precedes (txn_of y) (txn_of work))) coord.entries
  all-precede work is = λ i d within.
      subst (λ (t : TxnId). IsTrue (precedes (txn_of (get_or coord.entries i d)) t)) (sym is) (precedes-next (txn_of (get_or coord.entries i d)) (ok.numbered i d within))

  -- The work on the next transaction is put in at the end.
  pub begun-end : (work : Work) → txn_of work ≡ next_txn coord → record coord { next = coord.next + 1; entries = coord.entries ++ work ∷ [] } ≡ beginning coord work
  begun-end work is = ap (λ (works : List Work). record coord { next = coord.next + 1; entries = works }) (with-end txn_of coord.entries work (all-precede work is))

  pub kept-end : (work : Work) → txn_of work ≡ next_txn coord → work.entry.age ≡ 0 → coord.next < NEVER_GIVEN
      → IsInOrder (record coord { next = coord.next + 1; entries = coord.entries ++ work ∷ [] })
  kept-end work is age some =
      let last : IsNumbered coord.site coord.epoch (coord.next + 1) (next_txn coord) = record { site = refl; epoch = refl; number = omega arith } in
      record {
        ascending = order-end txn_of coord.entries ok.ascending work (all-precede work is);
        numbered = All-append (λ (other : Work). IsNumbered coord.site coord.epoch (coord.next + 1) other.entry.txn) coord.entries (work ∷ [])
            (λ i d within. let old = ok.numbered i d within in record { site = old.site; epoch = old.epoch; number = omega (arith, old.number) })
            (All-cons (λ (other : Work). IsNumbered coord.site coord.epoch (coord.next + 1) other.entry.txn) work [] (subst (IsNumbered coord.site coord.epoch (coord.next + 1)) (sym is) last) (All-nil (λ (other : Work). IsNumbered coord.site coord.epoch (coord.next + 1) other.entry.txn)));
        young = All-append (λ (other : Work). other.entry.age < TICKS) coord.entries (work ∷ []) ok.young
            (All-cons (λ (other : Work). other.entry.age < TICKS) work [] (omega (arith, age)) (All-nil (λ (other : Work). other.entry.age < TICKS)));
        next = omega (arith, some);
      }

  is-young : (work : Work) → nat_lt work.entry.age TICKS ≡ true → work.entry.age < TICKS
  is-young work test = search rules

  -- After a tick what isn't at its last tick is in order.
  pub kept-tick : IsInOrder (record coord { entries = lasting (older coord.entries) })
  kept-tick = record {
    ascending = order-filter (λ (work : Work). nat_lt work.entry.age TICKS) (older coord.entries)
        (subst AreAscending (sym (map-map txn_of (λ (work : Work). record work { entry = record work.entry { age = work.entry.age + 1 } }) coord.entries)) ok.ascending);
    numbered = All-filter (λ (work : Work). nat_lt work.entry.age TICKS) (λ (work : Work). IsNumbered coord.site coord.epoch coord.next work.entry.txn) (older coord.entries)
        (All-map (λ (work : Work). IsNumbered coord.site coord.epoch coord.next work.entry.txn) (λ (work : Work). record work { entry = record work.entry { age = work.entry.age + 1 } }) coord.entries ok.numbered);
    young = All-weaker (λ (work : Work). nat_lt work.entry.age TICKS ≡ true) (λ (work : Work). work.entry.age < TICKS) is-young
        (lasting (older coord.entries)) (filter_passes (λ (work : Work). nat_lt work.entry.age TICKS) (older coord.entries));
    next = ok.next;
  }
