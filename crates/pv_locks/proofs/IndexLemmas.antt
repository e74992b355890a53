-- The index stays that of the grants, and answers for them.
use Rattle.std.proofs.Common.{◌≡◌, ℕ, ◌+◌, ◌<◌, ◌≤◌, true, false, not, List, ◌++◌, take, drop, length, Option, Some, None, nat_lt, refl, sym, ap, subst, ◌∙◌, arith}
use Rattle.std.specs.Prelude.{find, filter}
use Rattle.std.specs.Option.{option_map}
use Rattle.std.proofs.lemmas.Bool.Decides.{nat_tests}
use Rattle.std.proofs.lemmas.List.{append-nil, drop_all, take_all}
use Rattle.std.proofs.lemmas.List.Elements.{All-filter, All-map, All-weaker, filter_passes}
use Rattle.pv_base.proofs.AssignmentLemmas.{same-eq}
use Rattle.pv_base.proofs.MapLemmas.{map-map}
use Rattle.pv_base.specs.Assignment.{AreAscending, is_same_txn}
use Rattle.pv_base.specs.Want.{Want}
use Rattle.pv_base.specs.declared.limits.TheConstants.{TICKS}
use Rattle.pv_base.specs.declared.txn.TxnId.{TxnId}
use Rattle.pv_law_step.proofs.Kept.{find-of, with-one-all, without-all}
use Rattle.pv_law_step.proofs.Lists.{of-some}
use Rattle.pv_law_step.proofs.OrderLemmas.{filter-order, put-order}
use Rattle.pv_locks.proofs.ConflictLemmas.{alone-holder, find-index, first-index}
use Rattle.pv_locks.proofs.HolderLemmas.{index-filter, index-in-place, index-older, index-renewed, index-with_one, index-without, length-index}
use Rattle.pv_locks.proofs.KeyedLemmas.{of-itself, of-own}
use Rattle.pv_locks.specs.Holders.{AreInPlace, holder_by, with_holders, holders_of, is_holder_in_the_way, first_held, lasts, IsIndex}
use Rattle.pv_locks.specs.LockTable.{AreWantsAscending, with_renewed}
use Rattle.pv_locks.specs.Planned.{wants_held}
use Rattle.pv_locks.specs.declared.holders.Holder.{Holder}
use Rattle.pv_protocol.specs.Committed.{holder_of}
use Rattle.pv_protocol.specs.Keyed.{AreInOrder, of_txn, with_one, without}
use Rattle.pv_protocol.specs.Lock.{first_conflict}
use Rattle.pv_protocol.specs.State.{Grant}
use Rattle.pv_protocol.specs.Tick.{lasting_grants, older_grants}

pub older-order : (grants : List Grant) → AreInOrder (λ (g : Grant). g.txn) grants → AreInOrder (λ (g : Grant). g.txn) (older_grants grants)
older-order grants up = subst AreAscending (sym (map-map (λ (g : Grant). g.txn) (λ (g : Grant). record g { age = g.age + 1 }) grants)) up

-- What a function makes of all that a vector holds is what it holds then.
pub lent : (n : ℕ) (new old : List Grant) → n ≡ length new → length old ≤ n → take n (new ++ drop (length new) old) ≡ new
lent n new old is long =
    ap (λ l. take n (new ++ l)) (drop_all (length new) old (omega (arith, is, long))) ∙ ap (take n) (append-nil new) ∙ take_all n new (omega (arith, is))

pub lent-older : (n : ℕ) (new seen old : List Grant) → length new ≡ length seen → length seen ≡ n → seen ≡ old → new ≡ older_grants seen
    → take n (new ++ drop (length new) old) ≡ older_grants old
lent-older n new seen old same long is made =
    let olds = ap length is in
    lent n new old (omega (arith, same, long)) (omega (arith, olds, long)) ∙ made ∙ ap older_grants is

module _ (grants : List Grant) (holders : List Holder) (is : IsIndex grants holders) where
  pub in-place : AreInPlace holders
  in-place = subst AreInPlace (sym is.index) (index-in-place grants)

  pub length-is : length holders ≡ wants_held grants
  length-is = ap length is.index ∙ length-index grants

  pub conflict-is : (wants : List Want) → first_held holders wants ≡ first_conflict grants wants
  conflict-is wants = ap (λ l. first_held l wants) is.index ∙ first-index grants wants is.order

  pub alone-is : (n : ℕ) → option_map (λ (h : Holder). h.txn) (find (is_holder_in_the_way (record { item = n; exclusive = false })) holders) ≡ holder_of grants n
  alone-is n =
      ap (λ l. option_map (λ (h : Holder). h.txn) (find (is_holder_in_the_way (record { item = n; exclusive = false })) l)) is.index
      ∙ find-index (record { item = n; exclusive = false }) grants is.order ∙ alone-holder n grants

  -- A new grant is added with its holders.
  pub added : (grant : Grant) → of_txn (λ (g : Grant). g.txn) grant.txn grants ≡ None → AreWantsAscending grant.wants → grant.age < TICKS
      → IsIndex (with_one (λ (g : Grant). g.txn) grant grants) (with_holders grant.txn grant.wants holders)
  added grant none ascending young = record {
    order = put-order (λ (g : Grant). g.txn) grant grants is.order;
    wants = with-one-all (λ (g : Grant). AreWantsAscending g.wants) (λ (g : Grant). g.txn) grant grants ascending is.wants;
    young = with-one-all (λ (g : Grant). g.age < TICKS) (λ (g : Grant). g.txn) grant grants young is.young;
    index = ap (with_holders grant.txn grant.wants) is.index ∙ sym (index-with_one grant grants none);
  }

  -- A grant that ends is taken out with its holders.
  pub holders-split : (txn : TxnId) (grant : Grant) → of_txn (λ (g : Grant). g.txn) txn grants ≡ Some grant
      → holders ≡ with_holders txn grant.wants (holders_of (without (λ (g : Grant). g.txn) txn grants))
  holders-split txn grant some = is.index ∙ index-without txn grant grants is.order some

  pub taken-out : (txn : TxnId) → IsIndex (without (λ (g : Grant). g.txn) txn grants) (holders_of (without (λ (g : Grant). g.txn) txn grants))
  taken-out txn = record {
    order = filter-order (λ (g : Grant). g.txn) (λ (g : Grant). not (is_same_txn txn g.txn)) grants is.order;
    wants = without-all (λ (g : Grant). AreWantsAscending g.wants) (λ (g : Grant). g.txn) txn grants is.wants;
    young = without-all (λ (g : Grant). g.age < TICKS) (λ (g : Grant). g.txn) txn grants is.young;
    index = refl;
  }

  -- A grant of age 0 again has the same holders.
  renewed-by : (txn : TxnId) (o : Option Grant) → of_txn (λ (g : Grant). g.txn) txn grants ≡ o → IsIndex (with_renewed grants o) holders
  renewed-by txn None found = is
  renewed-by txn (Some grant) found =
      let own = same-eq {t = txn} {u = grant.txn} (of-own (λ (g : Grant). g.txn) txn grant grants found) in
      let here = subst (λ t. of_txn (λ (g : Grant). g.txn) t grants ≡ Some grant) own found in
      record {
        order = put-order (λ (g : Grant). g.txn) (record grant { age = 0 }) grants is.order;
        wants = with-one-all (λ (g : Grant). AreWantsAscending g.wants) (λ (g : Grant). g.txn) (record grant { age = 0 }) grants (of-some (λ (g : Grant). AreWantsAscending g.wants) (of_txn (λ (g : Grant). g.txn) txn grants) grant (find-of (λ (g : Grant). AreWantsAscending g.wants) (λ (g : Grant). is_same_txn txn g.txn) grants is.wants) found) is.wants;
        young = with-one-all (λ (g : Grant). g.age < TICKS) (λ (g : Grant). g.txn) (record grant { age = 0 }) grants (omega arith) is.young;
        index = is.index ∙ sym (index-renewed grant grants is.order here);
      }

  pub renewed-is : (txn : TxnId) → IsIndex (with_renewed grants (of_txn (λ (g : Grant). g.txn) txn grants)) holders
  renewed-is txn = renewed-by txn (of_txn (λ (g : Grant). g.txn) txn grants) refl

  -- Grants that last keep their holders.
  pub aged : IsIndex (lasting_grants (older_grants grants)) (filter (λ (h : Holder). lasts (of_txn (λ (g : Grant). g.txn) h.txn (older_grants grants))) holders)
  aged =
      let older = older_grants grants in
      let order = older-order grants is.order in
      record {
        order = filter-order (λ (g : Grant). g.txn) (λ (g : Grant). nat_lt g.age TICKS) older order;
        wants = All-filter (λ (g : Grant). nat_lt g.age TICKS) (λ (g : Grant). AreWantsAscending g.wants) older
            (All-map (λ (g : Grant). AreWantsAscending g.wants) (λ (g : Grant). record g { age = g.age + 1 }) grants is.wants);
        young = All-weaker (λ (g : Grant). nat_lt g.age TICKS ≡ true) (λ (g : Grant). g.age < TICKS) (λ (g : Grant) passes. grind (arith, nat_tests))
            (lasting_grants older) (filter_passes (λ (g : Grant). nat_lt g.age TICKS) older);
        index = ap (filter (λ (h : Holder). lasts (of_txn (λ (g : Grant). g.txn) h.txn older))) (is.index ∙ sym (index-older grants))
            ∙ index-filter (λ (h : Holder). lasts (of_txn (λ (g : Grant). g.txn) h.txn older)) (λ (g : Grant). nat_lt g.age TICKS) older
            (All-weaker (λ (g : Grant). of_txn (λ (other : Grant). other.txn) g.txn older ≡ Some g)
            (λ (g : Grant). (want : Want) → lasts (of_txn (λ (other : Grant). other.txn) (holder_by g.txn want).txn older) ≡ nat_lt g.age TICKS)
            (λ (g : Grant) here (want : Want). ap lasts here) older (of-itself (λ (g : Grant). g.txn) older order));
      }
