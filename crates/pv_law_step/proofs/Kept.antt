-- What holds of each member stays so when a list is changed.
use Rattle.std.proofs.Common.{Bool, Some, None, Option, List, [], ◌∷◌}
use Rattle.std.specs.Prelude.{All, nat_lt, not, find, filter_map}
use Rattle.std.specs.List.{Contains, cons_option}
use Rattle.std.proofs.lemmas.List.Elements.{All-cons, All-filter, All-nil}
use Rattle.pv_base.specs.declared.txn.TxnId.{TxnId}
use Rattle.pv_base.specs.Assignment.{is_same_txn, precedes}
use Rattle.pv_law_step.proofs.Lists.{all-head, all-tail, OfSome}
use Rattle.pv_law_step.proofs.StepCases.{if_case}
use Rattle.pv_base.proofs.ContainsLemmas.{Contains-first, Contains-behind}
use Rattle.pv_protocol.specs.Coordinate.{with_taken}
use Rattle.pv_protocol.specs.Keyed.{with_one, without}
use Rattle.pv_protocol.specs.State.{Taken}

module _ {X : Type 0} (P : X → Type 0) where
  pub find-of : (p : X → Bool) (xs : List X) → All P xs → OfSome P (find p xs)
  find-of p [] all = tt
  find-of p (x ∷ xs) all = if_case (OfSome P) (p x) (λ here. all-head P x xs all) (λ behind. find-of p xs (all-tail P x xs all))

  module _ (txn_of : X → TxnId) where
    pub with-one-all : (x : X) (xs : List X) → P x → All P xs → All P (with_one txn_of x xs)
    with-one-all x [] new all = All-cons P x [] new all
    with-one-all x (first ∷ rest) new all =
        if_case (All P) (is_same_txn (txn_of x) (txn_of first))
        (λ same. All-cons P x rest new (all-tail P first rest all))
        (λ other. if_case (All P) (precedes (txn_of x) (txn_of first))
        (λ before. All-cons P x (first ∷ rest) new all)
        (λ behind. All-cons P first (with_one txn_of x rest) (all-head P first rest all) (with-one-all x rest new (all-tail P first rest all))))

    pub without-all : (txn : TxnId) (xs : List X) → All P xs → All P (without txn_of txn xs)
    without-all txn xs all = All-filter (λ x. not (is_same_txn txn (txn_of x))) P xs all

  option-first : (o : Option X) (rest : List X) → OfSome P o → All P rest → All P (cons_option o rest)
  option-first None rest h all = all
  option-first (Some x) rest h all = All-cons P x rest h all

  pub filter-map-all : {Y : Type 0} (f : Y → Option X) (ys : List Y) → ((y : Y) → Contains ys y → OfSome P (f y)) → All P (filter_map f ys)
  filter-map-all f [] each = All-nil P
  filter-map-all f (y ∷ ys) each =
      option-first (f y) (filter_map f ys) (each y (Contains-first y ys)) (filter-map-all f ys (λ z h. each z (Contains-behind y ys z h)))

pub with-taken-all : (P : Taken → Type 0) (taken : Taken) (list : List Taken) → P taken → All P list → All P (with_taken taken list)
with-taken-all P taken [] new all = All-cons P taken [] new all
with-taken-all P taken (first ∷ rest) new all =
    if_case (All P) (nat_lt taken.site first.site)
    (λ before. All-cons P taken (first ∷ rest) new all)
    (λ behind. All-cons P first (with_taken taken rest) (all-head P first rest all) (with-taken-all P taken rest new (all-tail P first rest all)))
