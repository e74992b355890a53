-- Conflicts that the index tells are those of the grants.
use Rattle.std.proofs.Common.{◌≡◌, ℕ, Bool, true, false, cond, List, [], ◌∷◌, Option, Some, None, Equal, nat_cmp, refl, sym, ap, subst, ◌∙◌, arith}
use Rattle.std.specs.Prelude.{All, IsTrue, find, if◌then◌else◌, ◌||◌, ◌==◌}
use Rattle.std.specs.Cmp.{nat_cmp_total, tied_itself}
use Rattle.std.specs.List.{list_any}
use Rattle.std.specs.Option.{option_map}
use Rattle.std.specs.Ordering.{ordering_then, is_lt}
use Rattle.std.proofs.lemmas.Bool.{and_parts, eqb-true, false_from_ne_true, true≢false}
use Rattle.std.proofs.lemmas.Bool.Decides.{nat_tests}
use Rattle.std.proofs.lemmas.List.Elements.{All-head, All-nil, All-tail, All-weaker}
use Rattle.pv_base.specs.Assignment.{precedes, txn_cmp}
use Rattle.pv_base.specs.Want.{Want}
use Rattle.pv_base.specs.declared.txn.TxnId.{TxnId}
use Rattle.pv_locks.proofs.KeyedLemmas.{not-before, not-before-itself, order-first, order-tail}
use Rattle.pv_locks.proofs.PutLemmas.{find-put-hit, find-put-miss, put-all}
use Rattle.pv_locks.specs.Holders.{comes_before, holder_by, with_holders, holders_of, is_holder_in_the_way, first_held, held_or}
use Rattle.pv_locks.specs.declared.holders.Holder.{Holder}
use Rattle.pv_protocol.specs.Committed.{holder_of, wants_alone}
use Rattle.pv_protocol.specs.Keyed.{AreInOrder}
use Rattle.pv_protocol.specs.Lock.{Conflict, conflict_or, do_conflict, first_conflict, is_in_the_way}
use Rattle.pv_protocol.specs.State.{Grant}

module _ (want : Want) where
  -- Behind a transaction there is no holder of the item whose transaction precedes it.
  tied : (h other : Holder) → is_holder_in_the_way want h ≡ true → is_holder_in_the_way want other ≡ true → nat_cmp other.item.0 h.item.0 ≡ Equal
  tied h other first second =
      let one = eqb-true want.item h.item.0 (and_parts (want.item == h.item.0) (want.exclusive || h.exclusive) first).0 in
      let two = eqb-true want.item other.item.0 (and_parts (want.item == other.item.0) (want.exclusive || other.exclusive) second).0 in
      subst (λ n. nat_cmp n h.item.0 ≡ Equal) (sym one ∙ two) (tied_itself nat_cmp_total h.item.0)

  none-ahead : (h : Holder) → is_holder_in_the_way want h ≡ true → (other : Holder) → precedes other.txn h.txn ≡ false
      → comes_before other h ≡ true → is_holder_in_the_way want other ≡ false
  none-ahead h passes other behind less =
      false_from_ne_true (is_holder_in_the_way want other)
      (λ also. true≢false (sym less ∙ ap (λ o. is_lt (ordering_then o (txn_cmp other.txn h.txn))) (tied h other passes also) ∙ behind))

  -- the transactions of these holders don't precede this one
  abbrev NoneBefore : TxnId → List Holder → Type 0
  NoneBefore txn holders = All (λ (other : Holder). precedes other.txn txn ≡ false) holders

  with-none-before : (txn other : TxnId) (wants : List Want) (holders : List Holder) → precedes other txn ≡ false → NoneBefore txn holders
      → NoneBefore txn (with_holders other wants holders)
  with-none-before txn other [] holders isnt none = none
  with-none-before txn other (first ∷ wants) holders isnt none =
      put-all (λ h. comes_before h (holder_by other first)) (λ (h : Holder). precedes h.txn txn ≡ false) (holder_by other first) (with_holders other wants holders)
      isnt (with-none-before txn other wants holders isnt none)

  -- who is in the way among the holders of a grant and of later ones
  find-with : (txn : TxnId) (wants : List Want) (holders : List Holder) → NoneBefore txn holders
      → option_map (λ (h : Holder). h.txn) (find (is_holder_in_the_way want) (with_holders txn wants holders))
      ≡ (if list_any (do_conflict want) wants then Some txn else option_map (λ (h : Holder). h.txn) (find (is_holder_in_the_way want) holders))
  find-with txn [] holders none = refl
  find-with txn (first ∷ wants) holders none = by (do_conflict want first) refl (find-with txn wants holders none) where
    by : (b : Bool) → do_conflict want first ≡ b
        → option_map (λ (h : Holder). h.txn) (find (is_holder_in_the_way want) (with_holders txn wants holders))
        ≡ (if list_any (do_conflict want) wants then Some txn else option_map (λ (h : Holder). h.txn) (find (is_holder_in_the_way want) holders))
        → option_map (λ (h : Holder). h.txn) (find (is_holder_in_the_way want) (with_holders txn (first ∷ wants) holders))
        ≡ (if b || list_any (do_conflict want) wants then Some txn else option_map (λ (h : Holder). h.txn) (find (is_holder_in_the_way want) holders))
    by true passes later =
        ap (option_map (λ (h : Holder). h.txn))
        (find-put-hit (λ other. comes_before other (holder_by txn first)) (is_holder_in_the_way want) (holder_by txn first) (with_holders txn wants holders) passes
        (All-weaker (λ (other : Holder). precedes other.txn txn ≡ false) (λ (other : Holder). comes_before other (holder_by txn first) ≡ true → is_holder_in_the_way want other ≡ false)
        (none-ahead (holder_by txn first) passes) (with_holders txn wants holders) (with-none-before txn txn wants holders (not-before-itself txn) none)))
    by false fails later =
        ap (option_map (λ (h : Holder). h.txn))
        (find-put-miss (λ other. comes_before other (holder_by txn first)) (is_holder_in_the_way want) (holder_by txn first) (with_holders txn wants holders) fails)
        ∙ later

  -- where the grants are behind a transaction, so are their holders
  index-none-before : (txn : TxnId) (grants : List Grant) → All (λ (g : Grant). precedes g.txn txn ≡ false) grants → NoneBefore txn (holders_of grants)
  index-none-before txn [] none = All-nil (λ (other : Holder). precedes other.txn txn ≡ false)
  index-none-before txn (grant ∷ grants) none =
      with-none-before txn grant.txn grant.wants (holders_of grants) (All-head (λ (g : Grant). precedes g.txn txn ≡ false) grant grants none)
      (index-none-before txn grants (All-tail (λ (g : Grant). precedes g.txn txn ≡ false) grant grants none))

  pub find-index : (grants : List Grant) → AreInOrder (λ (g : Grant). g.txn) grants
      → option_map (λ (h : Holder). h.txn) (find (is_holder_in_the_way want) (holders_of grants))
      ≡ option_map (λ (g : Grant). g.txn) (find (is_in_the_way want) grants)
  find-index [] up = refl
  find-index (grant ∷ grants) up =
      find-with grant.txn grant.wants (holders_of grants)
      (index-none-before grant.txn grants (All-weaker (λ (g : Grant). IsTrue (precedes grant.txn g.txn)) (λ (g : Grant). precedes g.txn grant.txn ≡ false)
      (λ (g : Grant) h. not-before grant.txn g.txn h) grants (order-first (λ (g : Grant). g.txn) grant grants up)))
      ∙ by (list_any (do_conflict want) grant.wants) (find-index grants (order-tail (λ (g : Grant). g.txn) grant grants up))
    where
      by : (b : Bool) → option_map (λ (h : Holder). h.txn) (find (is_holder_in_the_way want) (holders_of grants)) ≡ option_map (λ (g : Grant). g.txn) (find (is_in_the_way want) grants)
          → (if b then Some grant.txn else option_map (λ (h : Holder). h.txn) (find (is_holder_in_the_way want) (holders_of grants)))
          ≡ option_map (λ (g : Grant). g.txn) (cond b (Some grant) (find (is_in_the_way want) grants))
      by true later = refl
      by false later = later

held-by : (want : Want) (h : Option Holder) (g : Option Grant) (rest others : Option Conflict)
    → option_map (λ (h : Holder). h.txn) h ≡ option_map (λ (g : Grant). g.txn) g → rest ≡ others → held_or want h rest ≡ conflict_or want g others
held-by want None None rest others same later = later
held-by want None (Some g) rest others same later = absurd (let no_way : ⊥ = cc in no_way)
held-by want (Some h) None rest others same later = absurd (let no_way : ⊥ = cc in no_way)
held-by want (Some h) (Some g) rest others same later =
    let one : h.txn ≡ g.txn = cc in
    ap (λ t. Some (record { item = want.item; holder = t })) one

-- The first conflict is found by the index.
pub first-index : (grants : List Grant) (wants : List Want) → AreInOrder (λ (g : Grant). g.txn) grants → first_held (holders_of grants) wants ≡ first_conflict grants wants
first-index grants [] up = refl
first-index grants (want ∷ wants) up =
    held-by want (find (is_holder_in_the_way want) (holders_of grants)) (find (is_in_the_way want) grants) (first_held (holders_of grants) wants) (first_conflict grants wants)
    (find-index want grants up) (first-index grants wants up)

-- An exclusive holder is in the way of a shared want.

alone-one : (n : ℕ) (held : Want) → do_conflict (record { item = n; exclusive = false }) held ≡ wants_alone n held
alone-one n held = grind (arith, nat_tests)

alone-any : (n : ℕ) (wants : List Want) → list_any (do_conflict (record { item = n; exclusive = false })) wants ≡ list_any (wants_alone n) wants
alone-any n [] = refl
alone-any n (want ∷ wants) = ap (λ b. b || list_any (do_conflict (record { item = n; exclusive = false })) wants) (alone-one n want) ∙ ap (λ b. wants_alone n want || b) (alone-any n wants)

pub alone-holder : (n : ℕ) (grants : List Grant) → option_map (λ (g : Grant). g.txn) (find (is_in_the_way (record { item = n; exclusive = false })) grants) ≡ holder_of grants n
alone-holder n [] = refl
alone-holder n (grant ∷ grants) =
    ap (λ b. option_map (λ (g : Grant). g.txn) (cond b (Some grant) (find (is_in_the_way (record { item = n; exclusive = false })) grants))) (alone-any n grant.wants)
    ∙ by (list_any (wants_alone n) grant.wants) (alone-holder n grants)
  where
    by : (b : Bool) → option_map (λ (g : Grant). g.txn) (find (is_in_the_way (record { item = n; exclusive = false })) grants) ≡ holder_of grants n
        → option_map (λ (g : Grant). g.txn) (cond b (Some grant) (find (is_in_the_way (record { item = n; exclusive = false })) grants))
        ≡ (if b then Some grant.txn else holder_of grants n)
    by true later = refl
    by false later = later
