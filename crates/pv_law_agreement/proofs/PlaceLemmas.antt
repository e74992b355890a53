-- Places in an order that has each transaction once.
use Rattle.std.proofs.Common.{◌≡◌, ⊎_elim, true, List, [], ◌∷◌, ◌++◌, refl, sym, ap, subst, ◌∙◌}
use Rattle.std.specs.List.{Contains}
use Rattle.std.proofs.lemmas.List.{append_assoc}
use Rattle.std.proofs.lemmas.List.Elements.{Contains-append_right}
use Rattle.pv_base.specs.Assignment.{is_same_txn, commits}
use Rattle.pv_base.specs.declared.txn.TxnId.{TxnId}
use Rattle.pv_base.proofs.AssignmentLemmas.{same-eq, same-refl}
use Rattle.pv_base.proofs.Basics.{heads, tails}
use Rattle.pv_base.proofs.ContainsLemmas.{Contains-first, Contains-behind, Contains-nil, Contains-cases}
use Rattle.pv_base.proofs.MapLemmas.{Contains-map, Contains-unmap}
use Rattle.pv_base.proofs.OrderLemmas.{pairs-tail, pairs-first}
use Rattle.pv_law_acts.proofs.ListLemmas.{any-listed, listed-any}
use Rattle.pv_law_agreement.proofs.Lists.{cut-at, pairs-across}
use Rattle.pv_law_agreement.specs.Places.{txns_of, AreDistinct, StandsBefore}
use Rattle.pv_model.specs.Serial.{Ordered, txns}
use Rattle.pv_protocol.specs.Committed.{programs_of}
use Rattle.pv_protocol.specs.State.{Placed}

abbrev pub Apart : Placed → Placed → Type 0
Apart placed later = placed.txn ≡ later.txn → ⊥

-- An order has one place of a transaction.
pub one-placed : (order : List Placed) → AreDistinct order → (p q : Placed) → Contains order p → Contains order q → p.txn ≡ q.txn → p ≡ q
one-placed [] distinct p q first second same = absurd (Contains-nil p first)
one-placed (x ∷ xs) distinct p q first second same =
    ⊎_elim
    (λ p_first. ⊎_elim
    (λ q_first. sym p_first ∙ q_first)
    (λ q_behind. absurd (pairs-first Apart x xs distinct q q_behind (ap (λ (z : Placed). z.txn) p_first ∙ same)))
    (Contains-cases x xs q second))
    (λ p_behind. ⊎_elim
    (λ q_first. absurd (pairs-first Apart x xs distinct p p_behind (ap (λ (z : Placed). z.txn) q_first ∙ sym same)))
    (λ q_behind. one-placed xs (pairs-tail Apart x xs distinct) p q p_behind q_behind same)
    (Contains-cases x xs q second))
    (Contains-cases x xs p first)

-- .. and so one cut at it.
pub one-cut : (front rest other others : List Placed) (p q : Placed) → AreDistinct (front ++ p ∷ rest) → front ++ p ∷ rest ≡ other ++ q ∷ others → p.txn ≡ q.txn
    → (front ≡ other) × (p ≡ q) × (rest ≡ others)
one-cut [] rest [] others p q distinct same is = (refl, heads same, tails same)
one-cut [] rest (y ∷ other) others p q distinct same is =
    absurd (pairs-first Apart p rest distinct q (subst (λ xs. Contains xs q) (sym (tails same)) (Contains-append_right other (q ∷ others) q (Contains-first q others))) is)
one-cut (x ∷ front) rest [] others p q distinct same is =
    absurd (pairs-first Apart x (front ++ p ∷ rest) distinct p (Contains-append_right front (p ∷ rest) p (Contains-first p rest))
    (ap (λ (z : Placed). z.txn) (heads same) ∙ sym is))
one-cut (x ∷ front) rest (y ∷ other) others p q distinct same is =
    let inner = one-cut front rest other others p q (pairs-tail Apart x (front ++ p ∷ rest) distinct) (tails same) is in
    ((λ i. heads same i ∷ inner.0 i), inner.1, inner.2)

-- What stands before a transaction isn't behind it.
pub not-behind : (front rest : List Placed) (p u : Placed) → AreDistinct (front ++ p ∷ rest) → Contains rest u → StandsBefore (front ++ p ∷ rest) u.txn p.txn → ⊥
not-behind front rest p u distinct behind before =
    let other = before.front ++ before.first ∷ before.between in
    let split : front ++ p ∷ rest ≡ other ++ before.second ∷ before.rest = before.split ∙ sym (append_assoc before.front (before.first ∷ before.between) (before.second ∷ before.rest)) in
    let same = one-cut front rest other before.rest p before.second distinct split (sym before.is_second) in
    let inside : Contains front before.first = subst (λ xs. Contains xs before.first) (sym same.0)
    (Contains-append_right before.front (before.first ∷ before.between) before.first (Contains-first before.first before.between)) in
    pairs-across Apart front (p ∷ rest) distinct before.first u inside (Contains-behind p rest u behind) before.is_first

-- A place stands before those behind it.
pub stands-before : (front rest : List Placed) (p u : Placed) → Contains rest u → StandsBefore (front ++ p ∷ rest) p.txn u.txn
stands-before front rest p u behind =
    let cut = cut-at rest u behind in
    record {
      front = front;
      first = p;
      between = cut.front;
      second = u;
      rest = cut.rest;
      split = ap (λ xs. front ++ p ∷ xs) cut.split;
      is_first = refl;
      is_second = refl;
    }

-- It stays so in a longer order.
pub before-longer : (order more : List Placed) (t u : TxnId) → StandsBefore order t u → StandsBefore (order ++ more) t u
before-longer order more t u before = record {
  front = before.front;
  first = before.first;
  between = before.between;
  second = before.second;
  rest = before.rest ++ more;
  split =
      ap (λ xs. xs ++ more) before.split
      ∙ append_assoc before.front (before.first ∷ (before.between ++ before.second ∷ before.rest)) more
      ∙ ap (λ xs. before.front ++ before.first ∷ xs) (append_assoc before.between (before.second ∷ before.rest) more);
  is_first = before.is_first;
  is_second = before.is_second;
}

-- Each place of an order stands before one that is put at its end.
pub before-last : (order : List Placed) (p last : Placed) → Contains order p → StandsBefore (order ++ last ∷ []) p.txn last.txn
before-last order p last h =
    let cut = cut-at order p h in
    subst (λ xs. StandsBefore xs p.txn last.txn) (sym (ap (λ xs. xs ++ last ∷ []) cut.split ∙ append_assoc cut.front (p ∷ cut.rest) (last ∷ [])))
    (stands-before cut.front (cut.rest ++ last ∷ []) p last (Contains-append_right cut.rest (last ∷ []) last (Contains-first last [])))

-- The transactions of an order are those of its programs.
pub txns-of-programs : (order : List Placed) → txns (programs_of order) ≡ txns_of order
txns-of-programs [] = refl
txns-of-programs (p ∷ order) = ap (λ rest. p.txn ∷ rest) (txns-of-programs order)

pub programs-append : (front rest : List Placed) → programs_of (front ++ rest) ≡ programs_of front ++ programs_of rest
programs-append [] rest = refl
programs-append (p ∷ front) rest = ap (λ (xs : List Ordered). record { txn = p.txn; program = p.program } ∷ xs) (programs-append front rest)

-- A transaction is among those of an order where it has a place.
pub placed-listed : (order : List Placed) (p : Placed) → Contains order p → commits (txns_of order) p.txn ≡ true
placed-listed order p h = listed-any (λ u. is_same_txn u p.txn) (txns_of order) p.txn (Contains-map (λ (z : Placed). z.txn) order p h) (same-refl p.txn)

-- the place of a transaction
pub record PlaceOf (order : List Placed) (txn : TxnId) : Type 0 where
  pub placed : Placed
  pub listed : Contains order placed
  pub is : placed.txn ≡ txn

pub listed-placed : (order : List Placed) (txn : TxnId) → commits (txns_of order) txn ≡ true → PlaceOf order txn
listed-placed order txn is =
    let found = any-listed (λ u. is_same_txn u txn) (txns_of order) is in
    let back = Contains-unmap (λ (z : Placed). z.txn) order found.0 found.1.0 in
    record { placed = back.0; listed = back.1.0; is = back.1.1 ∙ same-eq {t = found.0} {u = txn} found.1.1 }
