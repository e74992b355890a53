-- What records say of a transaction: the promised ballot, the last vote, and what is accepted.
use Rattle.std.proofs.Common.{◌≡◌, ⊎_elim, Bool, true, false, Some, None, Option, List, [], ◌∷◌, refl, sym, ap, subst, ◌∙◌, arith}
use Rattle.std.specs.Prelude.{if◌then◌else◌, ◌==◌, ◌&&◌, not}
use Rattle.std.specs.Bool.{beq}
use Rattle.std.specs.Cmp.{booleans_Decides}
use Rattle.std.specs.List.{Contains}
use Rattle.std.proofs.lemmas.Bool.{and_parts, and_from, eqb-true, eq-eqb, or_cases, or_left, or_right, false≢true}
use Rattle.pv_base.proofs.AssignmentLemmas.{same-refl, same-eq}
use Rattle.pv_base.proofs.Basics.{Some_inj}
use Rattle.pv_base.proofs.ContainsLemmas.{Contains-first, Contains-behind, Contains-nil, Contains-cases}
use Rattle.pv_base.specs.Assignment.{is_same_txn}
use Rattle.pv_base.specs.declared.txn.TxnId.{TxnId}
use Rattle.pv_law_quorum.specs.Ballot.{Ballot, rank, is_same_ballot}
use Rattle.pv_law_quorum.specs.Decider.{Entry, entry_of, without}
use Rattle.pv_law_quorum.specs.Record.{Record, ballot_promised, value_accepted, Vote, named, vote_in, promised, last_vote, accepts, has_accepted}
use Rattle.pv_law_quorum.specs.Sound.{Reaches}
use Rattle.pv_law_quorum.proofs.BallotLemmas.{if-by, greater-either, greater-first, greater-second}

-- The promised ballot reaches each that a record names.
pub named-reached : (txn : TxnId) (records : List Record) (kept : Record) (ballot : Ballot) → Contains records kept → named txn kept ≡ Some ballot
    → Reaches (λ (b : Ballot). b) (promised txn records) (rank ballot)
named-reached txn [] kept ballot h is = absurd (Contains-nil kept h)
named-reached txn (first ∷ rest) kept ballot h is =
    ⊎_elim
    (λ same. greater-first (λ (b : Ballot). b) (named txn first) (promised txn rest) (rank ballot)
    (subst (λ (o : Option Ballot). Reaches (λ (b : Ballot). b) o (rank ballot)) (sym (ap (named txn) same ∙ is)) (omega arith)))
    (λ behind. greater-second (λ (b : Ballot). b) (named txn first) (promised txn rest) (rank ballot) (named-reached txn rest kept ballot behind is))
    (Contains-cases first rest kept h)

pub promise-named : (txn : TxnId) (ballot : Ballot) → named txn (ballot_promised txn ballot) ≡ Some ballot
promise-named txn ballot = ap (λ (b : Bool). if b then Some ballot else None) (same-refl txn)

pub value-named : (txn : TxnId) (ballot : Ballot) (commits : Bool) → named txn (value_accepted txn ballot commits) ≡ Some ballot
value-named txn ballot commits = ap (λ (b : Bool). if b then Some ballot else None) (same-refl txn)

-- The last vote reaches each vote that is recorded.
pub vote-reached : (txn : TxnId) (records : List Record) (ballot : Ballot) (commits : Bool) → Contains records (value_accepted txn ballot commits)
    → Reaches (λ (vote : Vote). vote.ballot) (last_vote txn records) (rank ballot)
vote-reached txn [] ballot commits h = absurd (Contains-nil (value_accepted txn ballot commits) h)
vote-reached txn (first ∷ rest) ballot commits h =
    ⊎_elim
    (λ same. greater-first (λ (vote : Vote). vote.ballot) (vote_in txn first) (last_vote txn rest) (rank ballot)
    (subst (λ (o : Option Vote). Reaches (λ (vote : Vote). vote.ballot) o (rank ballot))
    (sym (ap (vote_in txn) same ∙ ap (λ (b : Bool). if b then Some (record { ballot = ballot; commits = commits }) else None) (same-refl txn))) (omega arith)))
    (λ behind. greater-second (λ (vote : Vote). vote.ballot) (vote_in txn first) (last_vote txn rest) (rank ballot) (vote-reached txn rest ballot commits behind))
    (Contains-cases first rest (value_accepted txn ballot commits) h)

-- What holds of none, and of what each record says, holds of the greatest.

pub promised-each : (P : Option Ballot → Type 0) → P None → (txn : TxnId) (records : List Record) → ((kept : Record) → Contains records kept → P (named txn kept))
    → P (promised txn records)
promised-each P none txn [] each = none
promised-each P none txn (first ∷ rest) each =
    greater-either (λ (b : Ballot). b) P (named txn first) (promised txn rest) (each first (Contains-first first rest))
    (promised-each P none txn rest (λ kept h. each kept (Contains-behind first rest kept h)))

pub vote-each : (P : Option Vote → Type 0) → P None → (txn : TxnId) (records : List Record) → ((kept : Record) → Contains records kept → P (vote_in txn kept))
    → P (last_vote txn records)
vote-each P none txn [] each = none
vote-each P none txn (first ∷ rest) each =
    greater-either (λ (vote : Vote). vote.ballot) P (vote_in txn first) (last_vote txn rest) (each first (Contains-first first rest))
    (vote-each P none txn rest (λ kept h. each kept (Contains-behind first rest kept h)))

-- What holds of none and of each recorded value holds of the last vote.
pub last-vote-is : (P : Option Vote → Type 0) → P None → (txn : TxnId) (records : List Record)
    → ((ballot : Ballot) (commits : Bool) → Contains records (value_accepted txn ballot commits) → P (Some (record { ballot = ballot; commits = commits })))
    → P (last_vote txn records)
last-vote-is P none txn records each = vote-each P none txn records by where
  by : (kept : Record) → Contains records kept → P (vote_in txn kept)
  by (ballot_promised other ballot) h = none
  by (value_accepted other ballot commits) h =
      if-by P (is_same_txn txn other) (Some (record { ballot = ballot; commits = commits })) None
      (λ same. each ballot commits (subst (λ (t : TxnId). Contains records (value_accepted t ballot commits)) (sym (same-eq {t = txn} {u = other} same)) h)) (λ apart. none)

-- Tests of what is recorded.

pub same-ballot-eq : (ballot other : Ballot) → is_same_ballot ballot other ≡ true → ballot ≡ other
same-ballot-eq ballot other h =
    let parts = and_parts (ballot.number == other.number) (ballot.decider == other.decider) h in
    (λ i. record { number = eqb-true ballot.number other.number parts.0 i; decider = eqb-true ballot.decider other.decider parts.1 i })

pub same-ballot-refl : (ballot : Ballot) → is_same_ballot ballot ballot ≡ true
same-ballot-refl ballot = and_from _ _ (eq-eqb ballot.number ballot.number refl) (eq-eqb ballot.decider ballot.decider refl)

accepts-eq : (txn : TxnId) (ballot : Ballot) (commits : Bool) (kept : Record) → accepts txn ballot commits kept ≡ true → value_accepted txn ballot commits ≡ kept
accepts-eq txn ballot commits (ballot_promised other promise) h = absurd (false≢true h)
accepts-eq txn ballot commits (value_accepted other taken value) h =
    let outer = and_parts (is_same_txn txn other) (is_same_ballot ballot taken && beq commits value) h in
    let inner = and_parts (is_same_ballot ballot taken) (beq commits value) outer.1 in
    (λ i. value_accepted (same-eq {t = txn} {u = other} outer.0 i) (same-ballot-eq ballot taken inner.0 i) ((booleans_Decides commits value).0 inner.1 i))

accepts-refl : (txn : TxnId) (ballot : Ballot) (commits : Bool) → accepts txn ballot commits (value_accepted txn ballot commits) ≡ true
accepts-refl txn ballot commits = and_from _ _ (same-refl txn) (and_from _ _ (same-ballot-refl ballot) ((booleans_Decides commits commits).1 refl))

pub accepted-listed : (records : List Record) (txn : TxnId) (ballot : Ballot) (commits : Bool) → has_accepted records txn ballot commits ≡ true
    → Contains records (value_accepted txn ballot commits)
accepted-listed [] txn ballot commits h = absurd (false≢true h)
accepted-listed (first ∷ rest) txn ballot commits h =
    ⊎_elim
    (λ here. subst (Contains (first ∷ rest)) (sym (accepts-eq txn ballot commits first here)) (Contains-first first rest))
    (λ later. Contains-behind first rest (value_accepted txn ballot commits) (accepted-listed rest txn ballot commits later))
    (or_cases (accepts txn ballot commits first) (has_accepted rest txn ballot commits) h)

pub listed-accepted : (records : List Record) (txn : TxnId) (ballot : Ballot) (commits : Bool) → Contains records (value_accepted txn ballot commits)
    → has_accepted records txn ballot commits ≡ true
listed-accepted [] txn ballot commits h = absurd (Contains-nil (value_accepted txn ballot commits) h)
listed-accepted (first ∷ rest) txn ballot commits h =
    ⊎_elim
    (λ same. or_left (accepts txn ballot commits first) (has_accepted rest txn ballot commits)
    (subst (λ (r : Record). accepts txn ballot commits r ≡ true) (sym same) (accepts-refl txn ballot commits)))
    (λ behind. or_right (accepts txn ballot commits first) (has_accepted rest txn ballot commits) (listed-accepted rest txn ballot commits behind))
    (Contains-cases first rest (value_accepted txn ballot commits) h)

-- Entries.

pub found-entry : (txn : TxnId) (entries : List Entry) (entry : Entry) → entry_of txn entries ≡ Some entry → Contains entries entry × (txn ≡ entry.txn)
found-entry txn [] entry is = cc
found-entry txn (first ∷ rest) entry is = by (is_same_txn txn first.txn) refl is (found-entry txn rest entry) where
  by : (b : Bool) → is_same_txn txn first.txn ≡ b → (if b then Some first else entry_of txn rest) ≡ Some entry
      → (entry_of txn rest ≡ Some entry → Contains rest entry × (txn ≡ entry.txn)) → Contains (first ∷ rest) entry × (txn ≡ entry.txn)
  by true same is later = (
    subst (Contains (first ∷ rest)) (Some_inj is) (Contains-first first rest),
    same-eq {t = txn} {u = first.txn} same ∙ ap (λ (e : Entry). e.txn) (Some_inj is),
  )
  by false apart is later = let found = later is in (Contains-behind first rest entry found.0, found.1)

-- What is left was there, and is of another transaction.
pub left-entry : (txn : TxnId) (entries : List Entry) (entry : Entry) → Contains (without txn entries) entry
    → Contains entries entry × (is_same_txn txn entry.txn ≡ false)
left-entry txn [] entry h = absurd (Contains-nil entry h)
left-entry txn (first ∷ rest) entry h = by (is_same_txn txn first.txn) refl h (left-entry txn rest entry) where
  by : (b : Bool) → is_same_txn txn first.txn ≡ b → Contains (if not b then first ∷ without txn rest else without txn rest) entry
      → (Contains (without txn rest) entry → Contains rest entry × (is_same_txn txn entry.txn ≡ false))
      → Contains (first ∷ rest) entry × (is_same_txn txn entry.txn ≡ false)
  by true same h later = let found = later h in (Contains-behind first rest entry found.0, found.1)
  by false apart h later =
      ⊎_elim
      (λ here. (subst (Contains (first ∷ rest)) here (Contains-first first rest), subst (λ (e : Entry). is_same_txn txn e.txn ≡ false) here apart))
      (λ behind. let found = later behind in (Contains-behind first rest entry found.0, found.1))
      (Contains-cases first (without txn rest) entry h)

-- A list with one more.
pub listed-either : {X : Type 0} (x y : X) → Contains (x ∷ []) y → x ≡ y
listed-either x y h = ⊎_elim (λ same. same) (λ wrong. absurd (Contains-nil y wrong)) (Contains-cases x [] y h)
