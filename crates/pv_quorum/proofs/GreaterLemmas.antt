-- What records say of a transaction, with one record more.
use Rattle.std.proofs.Common.{◌≡◌, Bool, true, false, Option, Some, None, List, [], ◌∷◌, ◌++◌, refl, sym, ap, ◌∙◌, arith}
use Rattle.std.specs.Prelude.{if◌then◌else◌, ◌||◌}
use Rattle.std.proofs.lemmas.Bool.{ltb-true, ltb-false}
use Rattle.std.proofs.lemmas.List.Folds.{list_any-append}
use Rattle.pv_base.specs.declared.txn.TxnId.{TxnId}
use Rattle.pv_law_quorum.specs.Ballot.{Ballot, rank, is_below, greater}
use Rattle.pv_law_quorum.specs.Record.{Record, Vote, named, vote_in, promised, last_vote, accepts, has_accepted}

or-false : (b : Bool) → b || false ≡ b
or-false true = refl
or-false false = refl

module _ {X : Type 0} (ballot_of : X → Ballot) where
  below-both : (x y z : X) (xz : Bool) → is_below (ballot_of x) (ballot_of z) ≡ xz → is_below (ballot_of x) (ballot_of y) ≡ true → is_below (ballot_of y) (ballot_of z) ≡ true
      → xz ≡ true
  below-both x y z true is first second = refl
  below-both x y z false is first second =
      absurd (omega (arith, ltb-false (rank (ballot_of x)) (rank (ballot_of z)) is, ltb-true (rank (ballot_of x)) (rank (ballot_of y)) first, ltb-true (rank (ballot_of y)) (rank (ballot_of z)) second))

  below-neither : (x y z : X) (xz : Bool) → is_below (ballot_of x) (ballot_of z) ≡ xz → is_below (ballot_of x) (ballot_of y) ≡ false → is_below (ballot_of y) (ballot_of z) ≡ false
      → xz ≡ false
  below-neither x y z false is first second = refl
  below-neither x y z true is first second =
      absurd (omega (arith, ltb-true (rank (ballot_of x)) (rank (ballot_of z)) is, ltb-false (rank (ballot_of x)) (rank (ballot_of y)) first, ltb-false (rank (ballot_of y)) (rank (ballot_of z)) second))

  -- of two, by a test that says whether the second is the greater
  abbrev chosen : X → X → Bool → Option X
  chosen x y test = if test then Some y else Some x

  three : (x y z : X) (xy yz : Bool) → is_below (ballot_of x) (ballot_of y) ≡ xy → is_below (ballot_of y) (ballot_of z) ≡ yz
      → greater ballot_of (Some x) (chosen y z yz) ≡ greater ballot_of (chosen x y xy) (Some z)
  three x y z true true xy yz =
      ap (chosen x z) (below-both x y z _ refl xy yz) ∙ sym (ap (chosen y z) yz)
  three x y z true false xy yz = ap (chosen x y) xy ∙ sym (ap (chosen y z) yz)
  three x y z false true xy yz = refl
  three x y z false false xy yz = ap (chosen x y) xy ∙ sym (ap (chosen x z) (below-neither x y z _ refl xy yz))

  last-none : (x y : X) (test : Bool) → chosen x y test ≡ greater ballot_of (chosen x y test) None
  last-none x y true = refl
  last-none x y false = refl

  -- The greatest of three is the same, whichever two are compared first.
  pub greater-assoc : (one other last : Option X) → greater ballot_of one (greater ballot_of other last) ≡ greater ballot_of (greater ballot_of one other) last
  greater-assoc None other last = refl
  greater-assoc (Some x) None last = refl
  greater-assoc (Some x) (Some y) None = last-none x y (is_below (ballot_of x) (ballot_of y))
  greater-assoc (Some x) (Some y) (Some z) = three x y z _ _ refl refl

  pub greater-none : (one : Option X) → one ≡ greater ballot_of one None
  greater-none None = refl
  greater-none (Some x) = refl

-- The promised ballot is the one before, or that of the last record.
pub promised-more : (txn : TxnId) (entries : List Record) (entry : Record)
    → promised txn (entries ++ entry ∷ []) ≡ greater (λ (ballot : Ballot). ballot) (promised txn entries) (named txn entry)
promised-more txn [] entry = sym (greater-none (λ (ballot : Ballot). ballot) (named txn entry))
promised-more txn (first ∷ entries) entry =
    ap (greater (λ (ballot : Ballot). ballot) (named txn first)) (promised-more txn entries entry)
    ∙ greater-assoc (λ (ballot : Ballot). ballot) (named txn first) (promised txn entries) (named txn entry)

-- The last vote is the one before, or that of the last record.
pub vote-more : (txn : TxnId) (entries : List Record) (entry : Record)
    → last_vote txn (entries ++ entry ∷ []) ≡ greater (λ (vote : Vote). vote.ballot) (last_vote txn entries) (vote_in txn entry)
vote-more txn [] entry = sym (greater-none (λ (vote : Vote). vote.ballot) (vote_in txn entry))
vote-more txn (first ∷ entries) entry =
    ap (greater (λ (vote : Vote). vote.ballot) (vote_in txn first)) (vote-more txn entries entry)
    ∙ greater-assoc (λ (vote : Vote). vote.ballot) (vote_in txn first) (last_vote txn entries) (vote_in txn entry)

-- A value is recorded as accepted if it was, or by the last record.
pub accepted-more : (txn : TxnId) (entries : List Record) (entry : Record) (ballot : Ballot) (commits : Bool)
    → has_accepted (entries ++ entry ∷ []) txn ballot commits ≡ has_accepted entries txn ballot commits || accepts txn ballot commits entry
accepted-more txn entries entry ballot commits =
    list_any-append (accepts txn ballot commits) entries (entry ∷ [])
    ∙ ap (λ last. has_accepted entries txn ballot commits || last) (or-false (accepts txn ballot commits entry))
