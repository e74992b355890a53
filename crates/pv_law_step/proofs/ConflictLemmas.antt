-- The conflict that is found is the least.
use Rattle.std.proofs.Common.{◌≡◌, ◌⊎◌, ⊎_elim, ℕ, ◌<◌, Bool, true, false, Some, None, Option, List, [], ◌∷◌, map, inl, inr, refl, sym, ap, subst, ◌∙◌}
use Rattle.std.specs.Prelude.{IsTrue, ◌||◌, ◌==◌, find, if◌then◌else◌, ⊤}
use Rattle.std.specs.List.{Contains, list_any}
use Rattle.std.proofs.lemmas.Bool.{and_parts, and_from, eqb-true, eq-eqb, false≢true, or_cases, or_left, or_right}
use Rattle.pv_base.proofs.ContainsLemmas.{Contains-first, Contains-behind, Contains-nil, Contains-cases}
use Rattle.pv_base.proofs.MapLemmas.{Contains-map}
use Rattle.pv_base.specs.declared.txn.TxnId.{TxnId}
use Rattle.pv_base.specs.Assignment.{precedes}
use Rattle.pv_base.specs.Want.{Want}
use Rattle.pv_law_polyvalues.proofs.AscendingLemmas.{ascending-first, ascending-tail}
use Rattle.pv_law_step.proofs.Appended.{found-passes}
use Rattle.pv_law_step.proofs.WantRanges.{Ascend, ascend-first, ascend-tail}
use Rattle.pv_protocol.specs.Conflicts.{IsConflict, IsLeastConflict}
use Rattle.pv_protocol.specs.Keyed.{AreInOrder}
use Rattle.pv_protocol.specs.Lock.{do_conflict, is_in_the_way, Conflict, conflict_or, first_conflict}
use Rattle.pv_protocol.specs.State.{Grant}

-- Where something passes a test among members, and what passes first.

some-passes : {X : Type 0} (p : X → Bool) (xs : List X) → IsTrue (list_any p xs) → (x : X) × (Contains xs x × IsTrue (p x))
some-passes p [] h = absurd (false≢true h)
some-passes p (x ∷ xs) h =
    ⊎_elim
    (λ first. (x, (Contains-first x xs, first)))
    (λ rest. let found = some-passes p xs rest in (found.0, (Contains-behind x xs found.0 found.1.0, found.1.1)))
    (or_cases (p x) (list_any p xs) h)

passes-some : {X : Type 0} (p : X → Bool) (xs : List X) (x : X) → Contains xs x → IsTrue (p x) → IsTrue (list_any p xs)
passes-some p [] x h passes = absurd (Contains-nil x h)
passes-some p (y ∷ ys) x h passes =
    ⊎_elim
    (λ same. or_left (p y) (list_any p ys) (subst (λ z. p z ≡ true) (sym same) passes))
    (λ behind. or_right (p y) (list_any p ys) (passes-some p ys x behind passes))
    (Contains-cases y ys x h)

found-listed-by : {X : Type 0} (b : Bool) (y x : X) (ys : List X) (rest : Option X) → (rest ≡ Some x → Contains ys x) → (if b then Some y else rest) ≡ Some x → Contains (y ∷ ys) x
found-listed-by true y x ys rest later is = let same : y ≡ x = cc in subst (Contains (y ∷ ys)) same (Contains-first y ys)
found-listed-by false y x ys rest later is = Contains-behind y ys x (later is)

found-listed : {X : Type 0} (p : X → Bool) (xs : List X) (x : X) → find p xs ≡ Some x → Contains xs x
found-listed p [] x is = absurd (let wrong : ⊥ = cc in wrong)
found-listed p (y ∷ ys) x is = found-listed-by (p y) y x ys (find p ys) (found-listed p ys x) is

none-by : {X : Type 0} (b : Bool) (p : X → Bool) (y : X) (ys : List X) (x : X) (rest : Option X) → p y ≡ b → (if b then Some y else rest) ≡ None
    → (rest ≡ None → Contains ys x → ⊥) → Contains (y ∷ ys) x → IsTrue (p x) → ⊥
none-by true p y ys x rest here is later h passes = cc
none-by false p y ys x rest here is later h passes =
    ⊎_elim (λ same. false≢true (sym here ∙ subst (λ z. p z ≡ true) (sym same) passes)) (λ behind. later is behind) (Contains-cases y ys x h)

none-passes : {X : Type 0} (p : X → Bool) (xs : List X) → find p xs ≡ None → (x : X) → Contains xs x → IsTrue (p x) → ⊥
none-passes p [] is x h passes = Contains-nil x h
none-passes p (y ∷ ys) is x h passes = none-by (p y) p y ys x (find p ys) refl is (λ none k. none-passes p ys none x k passes) h passes

-- Of grants in order, what passes first is the least that passes.

-- The one transaction is the other or before it.
abbrev AtOrBefore : TxnId → TxnId → Type 0
AtOrBefore txn other = (txn ≡ other) ⊎ IsTrue (precedes txn other)

first-by : (b : Bool) (p : Grant → Bool) (first x y : Grant) (rest : List Grant) (found : Option Grant) → p first ≡ b → AreInOrder (λ (g : Grant). g.txn) (first ∷ rest)
    → (if b then Some first else found) ≡ Some x → (found ≡ Some x → Contains rest y → AtOrBefore x.txn y.txn) → Contains (first ∷ rest) y → IsTrue (p y) → AtOrBefore x.txn y.txn
first-by true p first x y rest found here up is later h passes =
    let same : first ≡ x = cc in
    subst (λ (z : Grant). AtOrBefore z.txn y.txn) same
    (⊎_elim
    (λ one. inl (ap (λ (g : Grant). g.txn) one))
    (λ behind. inr (ascending-first first.txn (map (λ (g : Grant). g.txn) rest) up y.txn (Contains-map (λ (g : Grant). g.txn) rest y behind)))
    (Contains-cases first rest y h))
first-by false p first x y rest found here up is later h passes =
    ⊎_elim
    (λ one. absurd (false≢true (sym here ∙ subst (λ z. p z ≡ true) (sym one) passes)))
    (λ behind. later is behind)
    (Contains-cases first rest y h)

first-found : (p : Grant → Bool) (grants : List Grant) → AreInOrder (λ (g : Grant). g.txn) grants → (x y : Grant) → find p grants ≡ Some x → Contains grants y → IsTrue (p y)
    → AtOrBefore x.txn y.txn
first-found p [] up x y is h passes = absurd (Contains-nil y h)
first-found p (first ∷ rest) up x y is h passes =
    first-by (p first) p first x y rest (find p rest) refl up is
    (λ found k. first-found p rest (ascending-tail first.txn (map (λ (g : Grant). g.txn) rest) up) x y found k passes) h passes

-- Conflicts.

module _ (grants : List Grant) where
  -- A conflict over a want is one that the test finds.
  reported : (wants : List Want) (want : Want) (item : ℕ) (holder : TxnId) (conflict : IsConflict grants wants item holder) → want ≡ conflict.want
      → IsTrue (is_in_the_way want conflict.grant)
  reported wants want item holder conflict same =
      subst (λ (w : Want). IsTrue (is_in_the_way w conflict.grant)) (sym same)
      (passes-some (do_conflict conflict.want) conflict.grant.wants conflict.held conflict.has
      (and_from (conflict.want.item == conflict.held.item) (conflict.want.exclusive || conflict.held.exclusive)
      (eq-eqb conflict.want.item conflict.held.item (conflict.same.0 ∙ sym conflict.same.1)) conflict.exclusive))

  behind : (want : Want) (wants : List Want) (item : ℕ) (holder : TxnId) → IsConflict grants wants item holder → IsConflict grants (want ∷ wants) item holder
  behind want wants item holder is = record {
    grant = is.grant;
    stands = is.stands;
    of = is.of;
    want = is.want;
    wanted = Contains-behind want wants is.want is.wanted;
    held = is.held;
    has = is.has;
    same = is.same;
    exclusive = is.exclusive;
  }

  within : (want : Want) (wants : List Want) (item : ℕ) (holder : TxnId) (is : IsConflict grants (want ∷ wants) item holder) → Contains wants is.want → IsConflict grants wants item holder
  within want wants item holder is h = record {
    grant = is.grant;
    stands = is.stands;
    of = is.of;
    want = is.want;
    wanted = h;
    held = is.held;
    has = is.has;
    same = is.same;
    exclusive = is.exclusive;
  }

  none-found : (want : Want) (found : Option Grant) (rest : Option Conflict) → conflict_or want found rest ≡ None → (found ≡ None) × (rest ≡ None)
  none-found want None rest is = (refl, is)
  none-found want (Some grant) rest is = absurd (let wrong : ⊥ = cc in wrong)

  -- Where none is found there is none.
  pub no-conflict : (wants : List Want) → first_conflict grants wants ≡ None → (item : ℕ) (holder : TxnId) → IsConflict grants wants item holder → ⊥
  no-conflict [] is item holder conflict = Contains-nil conflict.want conflict.wanted
  no-conflict (want ∷ wants) is item holder conflict =
      let none = none-found want (find (is_in_the_way want) grants) (first_conflict grants wants) is in
      ⊎_elim
      (λ one. none-passes (is_in_the_way want) grants none.0 conflict.grant conflict.stands (reported (want ∷ wants) want item holder conflict one))
      (λ later. no-conflict wants none.1 item holder (within want wants item holder conflict later))
      (Contains-cases want wants conflict.want conflict.wanted)

module _ (grants : List Grant) (order : AreInOrder (λ (g : Grant). g.txn) grants) where
  here-least : (want : Want) (wants : List Want) → Ascend (map (λ (w : Want). w.item) (want ∷ wants)) → (grant : Grant) → find (is_in_the_way want) grants ≡ Some grant
      → IsLeastConflict grants (want ∷ wants) want.item grant.txn
  here-least want wants up grant found =
      let found-held = some-passes (do_conflict want) grant.wants (found-passes (is_in_the_way want) grants grant found) in
      let parts = and_parts (want.item == found-held.0.item) (want.exclusive || found-held.0.exclusive) found-held.1.1 in
      record {
        is = record {
          grant = grant;
          stands = found-listed (is_in_the_way want) grants grant found;
          of = refl;
          want = want;
          wanted = Contains-first want wants;
          held = found-held.0;
          has = found-held.1.0;
          same = (refl, sym (eqb-true want.item found-held.0.item parts.0));
          exclusive = parts.1;
        };
        least = λ other another conflict. ⊎_elim
            (λ one. inr (
              ap (λ (w : Want). w.item) one ∙ conflict.same.0,
              subst (AtOrBefore grant.txn) conflict.of
                  (first-found (is_in_the_way want) grants order grant conflict.grant found conflict.stands (reported grants (want ∷ wants) want other another conflict one)),
            ))
            (λ later. inl (subst (λ n. want.item < n) conflict.same.0
            (ascend-first want.item (map (λ (w : Want). w.item) wants) up conflict.want.item (Contains-map (λ (w : Want). w.item) wants conflict.want later))))
            (Contains-cases want wants conflict.want conflict.wanted);
      }

  later-least : (want : Want) (wants : List Want) → find (is_in_the_way want) grants ≡ None → (item : ℕ) (holder : TxnId) → IsLeastConflict grants wants item holder
      → IsLeastConflict grants (want ∷ wants) item holder
  later-least want wants none item holder rest = record {
    is = behind grants want wants item holder rest.is;
    least = λ other another conflict. ⊎_elim
        (λ one. absurd (none-passes (is_in_the_way want) grants none conflict.grant conflict.stands (reported grants (want ∷ wants) want other another conflict one)))
        (λ later. rest.least other another (within grants want wants other another conflict later))
        (Contains-cases want wants conflict.want conflict.wanted);
  }

  -- The conflict, if there is one, is the least.
  abbrev OfConflict : List Want → Option Conflict → Type 0
  OfConflict wants None = ⊤
  OfConflict wants (Some c) = IsLeastConflict grants wants c.item c.holder

  least-by : (want : Want) (wants : List Want) → Ascend (map (λ (w : Want). w.item) (want ∷ wants)) → (found : Option Grant) → find (is_in_the_way want) grants ≡ found
      → ((c : Conflict) → first_conflict grants wants ≡ Some c → IsLeastConflict grants wants c.item c.holder)
      → (c : Conflict) → conflict_or want found (first_conflict grants wants) ≡ Some c → IsLeastConflict grants (want ∷ wants) c.item c.holder
  least-by want wants up (Some grant) found later c is =
      subst (OfConflict (want ∷ wants)) is (here-least want wants up grant found)
  least-by want wants up None found later c is = later-least want wants found c.item c.holder (later c is)

  pub least-conflict : (wants : List Want) → Ascend (map (λ (w : Want). w.item) wants) → (c : Conflict) → first_conflict grants wants ≡ Some c
      → IsLeastConflict grants wants c.item c.holder
  least-conflict [] up c is = absurd (let wrong : ⊥ = cc in wrong)
  least-conflict (want ∷ wants) up c is =
      least-by want wants up (find (is_in_the_way want) grants) refl
      (least-conflict wants (ascend-tail want.item (map (λ (w : Want). w.item) wants) up)) c is
