-- What is known of a transaction, with one record more, and of whether a value is recorded.
use Rattle.std.proofs.Common.{◌≡◌, ◌+◌, ◌*◌, ◌<◌, ◌≤◌, Bool, true, false, Option, Some, None, List, [], ◌∷◌, ◌++◌, All, refl, sym, ap, subst, ◌∙◌, arith}
use Rattle.std.specs.Prelude.{if◌then◌else◌, ◌&&◌, ◌||◌, not, ⊤}
use Rattle.std.specs.Bool.{beq}
use Rattle.std.specs.Option.{option_map, option_map_or}
use Rattle.std.proofs.lemmas.Bool.{ltb-true, false≢true, true≢false, eq-eqb, and_from}
use Rattle.std.proofs.lemmas.List.Elements.{All-contains}
use Rattle.std.proofs.lemmas.Nat.{same_from_place}
use Rattle.pv_base.specs.Assignment.{is_same_txn}
use Rattle.pv_base.proofs.AssignmentLemmas.{same-refl}
use Rattle.pv_base.specs.declared.txn.TxnId.{TxnId}
use Rattle.pv_law_quorum.specs.Ballot as law
use Rattle.pv_law_quorum.specs.Ballot.{rank, is_below, is_passed, is_same_ballot, greater}
use Rattle.pv_law_quorum.specs.Record.{Record, Vote, ballot_promised, value_accepted, named, vote_in, promised, last_vote, accepts, has_accepted}
use Rattle.pv_law_quorum.specs.Sound.{Reaches}
use Rattle.pv_law_quorum.proofs.BallotLemmas.{unpassed-reached}
use Rattle.pv_law_quorum.proofs.RecordLemmas.{vote-reached, named-reached, last-vote-is, value-named, accepted-listed, listed-accepted, same-ballot-eq, same-ballot-refl}
use Rattle.pv_quorum.specs.Knows.{AreValues, IsRecorded, has_both}
use Rattle.pv_quorum.specs.Spelling.{IsInRange, txn_in}
use Rattle.pv_quorum.specs.Values.{ballot_of, vote_of}
use Rattle.pv_quorum.specs.declared.ballot.Ballot.{Ballot}
use Rattle.pv_quorum.specs.declared.known.Known.{Known}
use Rattle.pv_quorum.proofs.GreaterLemmas.{promised-more, vote-more, accepted-more, greater-none}

-- Ballots, and truth values.

same-ballot-sym : (one other : law.Ballot) → is_same_ballot one other ≡ is_same_ballot other one
same-ballot-sym one other = by (is_same_ballot one other) (is_same_ballot other one) refl refl where
  by : (p q : Bool) → is_same_ballot one other ≡ p → is_same_ballot other one ≡ q → p ≡ q
  by true true first second = refl
  by false false first second = refl
  by true false first second = absurd (true≢false (sym (same-ballot-refl other) ∙ ap (λ (b : law.Ballot). is_same_ballot other b) (sym (same-ballot-eq one other first)) ∙ second))
  by false true first second = absurd (true≢false (sym (same-ballot-refl one) ∙ ap (λ (b : law.Ballot). is_same_ballot one b) (sym (same-ballot-eq other one second)) ∙ first))

beq-not : (value commits : Bool) → beq (not value) commits ≡ not (beq commits value)
beq-not true true = refl
beq-not true false = refl
beq-not false true = refl
beq-not false false = refl

beq-own : (commits : Bool) → beq (not commits) commits ≡ false
beq-own true = refl
beq-own false = refl

or-true : (b : Bool) → b || true ≡ true
or-true true = refl
or-true false = refl

or-off : (b : Bool) → b || false ≡ b
or-off true = refl
or-off false = refl

-- Ballots whose deciders are bytes and that stand at one place are the same.
one-rank : (one other : law.Ballot) → one.decider < 256 → other.decider < 256 → rank one ≡ rank other → is_same_ballot one other ≡ true
one-rank one other fits fits_too same =
    let turned : one.number * 256 + one.decider ≡ other.number * 256 + other.decider = omega (arith, same) in
    let parts = same_from_place one.number one.decider other.number other.decider 256 fits fits_too turned in
    and_from _ _ (eq-eqb one.number other.number parts.0) (eq-eqb one.decider other.decider parts.1)

module _ (txn : TxnId) (entries : List Record) where
  -- An accepted value of the transaction with one record more that accepts this value.
  own-accepts : (ballot other : law.Ballot) (commits value : Bool) → accepts txn ballot commits (value_accepted txn other value) ≡ (is_same_ballot ballot other && beq commits value)
  own-accepts ballot other commits value = ap (λ (same : Bool). same && (is_same_ballot ballot other && beq commits value)) (same-refl txn)

  own-vote : (ballot : law.Ballot) (commits : Bool) → vote_in txn (value_accepted txn ballot commits) ≡ Some (record { ballot = ballot; commits = commits })
  own-vote ballot commits = ap (λ (same : Bool). if same then Some (record { ballot = ballot; commits = commits }) else None) (same-refl txn)

  -- The value is accepted in a ballot that isn't above the last one: the last vote stays.
  module _ (top ballot : Ballot) (value commits both : Bool) (below : is_below (ballot_of top) (ballot_of ballot) ≡ false) (old : AreValues txn entries (Some (top, value)) both) where
    abbrev pub entry : Record
    entry = value_accepted txn (ballot_of ballot) commits

    last-stays : last_vote txn (entries ++ entry ∷ []) ≡ Some (vote_of (top, value))
    last-stays =
        vote-more txn entries entry
        ∙ ap (λ (last : Option Vote). greater (λ (vote : Vote). vote.ballot) last (vote_in txn entry)) old.last_is
        ∙ ap (greater (λ (vote : Vote). vote.ballot) (Some (vote_of (top, value)))) (own-vote (ballot_of ballot) commits)
        ∙ ap (λ (test : Bool). if test then Some (vote_of (ballot, commits)) else Some (vote_of (top, value))) below

    was-both : has_accepted entries txn (ballot_of top) (not value) ≡ both
    was-both = sym (ap (λ (last : Option Vote). option_map_or (λ (vote : Vote). has_accepted entries txn vote.ballot (not vote.commits)) last false) old.last_is) ∙ old.both_is

    pub values-stay : (new : Bool) → new ≡ (both || (is_same_ballot (ballot_of ballot) (ballot_of top) && not (beq commits value)))
        → AreValues txn (entries ++ entry ∷ []) (Some (top, value)) new
    values-stay new is = record {
      last_is = last-stays;
      both_is =
          ap (λ (last : Option Vote). option_map_or (λ (vote : Vote). has_accepted (entries ++ entry ∷ []) txn vote.ballot (not vote.commits)) last false) last-stays
          ∙ accepted-more txn entries entry (ballot_of top) (not value)
          ∙ ap (λ (b : Bool). b || accepts txn (ballot_of top) (not value) entry) was-both
          ∙ ap (λ (b : Bool). both || b)
          (own-accepts (ballot_of top) (ballot_of ballot) (not value) commits
          ∙ ap (λ (b : Bool). b && beq (not value) commits) (same-ballot-sym (ballot_of top) (ballot_of ballot))
          ∙ ap (λ (b : Bool). is_same_ballot (ballot_of ballot) (ballot_of top) && b) (beq-not value commits))
          ∙ sym is;
    }

  -- The last vote, if there is one, is below this ballot.
  abbrev pub AreBelow : Option Vote → law.Ballot → Type 0
  AreBelow None ballot = ⊤
  AreBelow (Some vote) ballot = is_below vote.ballot ballot ≡ true

  -- The value is accepted in a ballot above the last one: it is the last vote, and the only value of its ballot.
  module _ (ballot : Ballot) (commits : Bool) (above : AreBelow (last_vote txn entries) (ballot_of ballot)) where
    abbrev pub entry_ : Record
    entry_ = value_accepted txn (ballot_of ballot) commits

    greatest : (last : Option Vote) → AreBelow last (ballot_of ballot) → greater (λ (vote : Vote). vote.ballot) last (Some (vote_of (ballot, commits))) ≡ Some (vote_of (ballot, commits))
    greatest None below = refl
    greatest (Some vote) below = ap (λ (test : Bool). if test then Some (vote_of (ballot, commits)) else Some vote) below

    last-new : last_vote txn (entries ++ entry_ ∷ []) ≡ Some (vote_of (ballot, commits))
    last-new =
        vote-more txn entries entry_
        ∙ ap (greater (λ (vote : Vote). vote.ballot) (last_vote txn entries)) (own-vote (ballot_of ballot) commits)
        ∙ greatest (last_vote txn entries) above

    unreached : (last : Option Vote) → AreBelow last (ballot_of ballot) → Reaches (λ (vote : Vote). vote.ballot) last (rank (ballot_of ballot)) → ⊥
    unreached None below reached = reached
    unreached (Some vote) below reached = omega (arith, reached, ltb-true (rank vote.ballot) (rank (ballot_of ballot)) below)

    none-there : (value test : Bool) → has_accepted entries txn (ballot_of ballot) value ≡ test → test ≡ false
    none-there value false is = refl
    none-there value true is =
        absurd (unreached (last_vote txn entries) above (vote-reached txn entries (ballot_of ballot) value (accepted-listed entries txn (ballot_of ballot) value is)))

    pub values-new : AreValues txn (entries ++ entry_ ∷ []) (Some (ballot, commits)) false
    values-new = record {
      last_is = last-new;
      both_is =
          ap (λ (last : Option Vote). option_map_or (λ (vote : Vote). has_accepted (entries ++ entry_ ∷ []) txn vote.ballot (not vote.commits)) last false) last-new
          ∙ accepted-more txn entries entry_ (ballot_of ballot) (not commits)
          ∙ ap (λ (b : Bool). b || accepts txn (ballot_of ballot) (not commits) entry_) (none-there (not commits) _ refl)
          ∙ own-accepts (ballot_of ballot) (ballot_of ballot) (not commits) commits
          ∙ ap (λ (b : Bool). b && beq (not commits) commits) (same-ballot-refl (ballot_of ballot))
          ∙ beq-own commits;
    }

-- A transaction's ballot that isn't passed, where the records are in range.
module _ (txn : TxnId) (entries : List Record) (range : All IsInRange entries) (ballot : law.Ballot) (fits : ballot.decider < 256)
    (unpassed : is_passed ballot (promised txn entries) ≡ false) where
  -- A recorded ballot isn't above it.
  abbrev IsNotAbove : Option Vote → Type 0
  IsNotAbove None = ⊤
  IsNotAbove (Some vote) = (rank vote.ballot ≤ rank ballot) × (vote.ballot.decider < 256) × (has_accepted entries txn vote.ballot vote.commits ≡ true)

  last-within : IsNotAbove (last_vote txn entries)
  last-within = last-vote-is IsNotAbove tt txn entries (λ recorded commits there. (
    unpassed-reached ballot (promised txn entries) (rank recorded) unpassed
        (named-reached txn entries (value_accepted txn recorded commits) recorded there (value-named txn recorded commits)),
    (All-contains IsInRange entries (value_accepted txn recorded commits) range there).decider,
    listed-accepted entries txn recorded commits there,
  ))

  none-accepted : (last : Option Vote) → last ≡ None → last_vote txn entries ≡ last → (commits test : Bool) → has_accepted entries txn ballot commits ≡ test → test ≡ false
  none-accepted last none is commits false accepted = refl
  none-accepted last none is commits true accepted =
      absurd (subst (λ (o : Option Vote). Reaches (λ (vote : Vote). vote.ballot) o (rank ballot)) (is ∙ none)
      (vote-reached txn entries ballot commits (accepted-listed entries txn ballot commits accepted)))

  -- Where there is no last vote nothing is accepted in it.
  pub unvoted : last_vote txn entries ≡ None → (commits : Bool) → has_accepted entries txn ballot commits ≡ false
  unvoted none commits = none-accepted (last_vote txn entries) none refl commits _ refl

  module _ (vote : Vote) (is : last_vote txn entries ≡ Some vote) where
    within : IsNotAbove (Some vote)
    within = subst IsNotAbove is last-within

    apart-by : is_same_ballot ballot vote.ballot ≡ false → (commits test : Bool) → has_accepted entries txn ballot commits ≡ test → test ≡ false
    apart-by apart commits false accepted = refl
    apart-by apart commits true accepted =
        let reached : rank ballot ≤ rank vote.ballot =
        subst (λ (o : Option Vote). Reaches (λ (v : Vote). v.ballot) o (rank ballot)) is
        (vote-reached txn entries ballot commits (accepted-listed entries txn ballot commits accepted)) in
        absurd (false≢true (sym apart ∙ one-rank ballot vote.ballot fits within.1 (omega (arith, reached, within.0))))

    -- Where its ballot is another one nothing is accepted in this one.
    pub apart-accepted : is_same_ballot ballot vote.ballot ≡ false → (commits : Bool) → has_accepted entries txn ballot commits ≡ false
    apart-accepted apart commits = apart-by apart commits _ refl

    both-by : (own commits : Bool) → has_accepted entries txn vote.ballot own ≡ true → has_accepted entries txn vote.ballot commits
        ≡ (beq commits own || has_accepted entries txn vote.ballot (not own))
    both-by true true there = there
    both-by true false there = refl
    both-by false true there = refl
    both-by false false there = there

    -- Where it has this ballot its value is accepted in it, and the other one where both are.
    pub same-accepted : is_same_ballot ballot vote.ballot ≡ true → (commits : Bool)
        → has_accepted entries txn ballot commits ≡ (beq commits vote.commits || has_both txn entries)
    same-accepted same commits =
        ap (λ (b : law.Ballot). has_accepted entries txn b commits) (same-ballot-eq ballot vote.ballot same)
        ∙ both-by vote.commits commits within.2
        ∙ ap (λ (b : Bool). beq commits vote.commits || b)
        (sym (ap (λ (last : Option Vote). option_map_or (λ (v : Vote). has_accepted entries txn v.ballot (not v.commits)) last false) is))

-- One record more of the transaction.
module _ (txn : TxnId) (entries : List Record) (known : Known) (old : IsRecorded txn entries known) where
  -- The promised ballot is the greater.
  pub promised-after : (entry : Record) (ballot : Ballot) (promised_now : Option Ballot) → named txn entry ≡ Some (ballot_of ballot)
      → option_map ballot_of promised_now ≡ greater (λ (b : law.Ballot). b) (option_map ballot_of known.promised) (Some (ballot_of ballot))
      → promised txn (entries ++ entry ∷ []) ≡ option_map ballot_of promised_now
  promised-after entry ballot promised_now names is =
      promised-more txn entries entry
      ∙ ap (λ (o : Option law.Ballot). greater (λ (b : law.Ballot). b) o (named txn entry)) old.promised_is
      ∙ ap (greater (λ (b : law.Ballot). b) (option_map ballot_of known.promised)) names
      ∙ sym is

  -- A record that accepts no value of the transaction changes no values.
  module _ (entry : Record) (voteless : vote_in txn entry ≡ None) (accepts_none : (ballot : law.Ballot) (commits : Bool) → accepts txn ballot commits entry ≡ false) where
    last-kept : last_vote txn (entries ++ entry ∷ []) ≡ last_vote txn entries
    last-kept =
        vote-more txn entries entry ∙ ap (greater (λ (vote : Vote). vote.ballot) (last_vote txn entries)) voteless
        ∙ sym (greater-none (λ (vote : Vote). vote.ballot) (last_vote txn entries))

    both-kept : (last : Option Vote) → option_map_or (λ (v : Vote). has_accepted (entries ++ entry ∷ []) txn v.ballot (not v.commits)) last false
        ≡ option_map_or (λ (v : Vote). has_accepted entries txn v.ballot (not v.commits)) last false
    both-kept None = refl
    both-kept (Some vote) =
        accepted-more txn entries entry vote.ballot (not vote.commits)
        ∙ ap (λ (b : Bool). has_accepted entries txn vote.ballot (not vote.commits) || b) (accepts_none vote.ballot (not vote.commits))
        ∙ or-off (has_accepted entries txn vote.ballot (not vote.commits))

    pub values-kept : AreValues txn (entries ++ entry ∷ []) known.last known.both
    values-kept = record {
      last_is = last-kept ∙ old.values.last_is;
      both_is =
          ap (λ (last : Option Vote). option_map_or (λ (v : Vote). has_accepted (entries ++ entry ∷ []) txn v.ballot (not v.commits)) last false) last-kept
          ∙ both-kept (last_vote txn entries) ∙ old.values.both_is;
    }

  -- A record of another transaction changes nothing.
  pub recorded-apart : (entry : Record) → is_same_txn txn (txn_in entry) ≡ false → IsRecorded txn (entries ++ entry ∷ []) known
  recorded-apart entry apart = record {
    promised_is =
        promised-more txn entries entry ∙ ap (greater (λ (b : law.Ballot). b) (promised txn entries)) (named-apart entry apart)
        ∙ sym (greater-none (λ (b : law.Ballot). b) (promised txn entries)) ∙ old.promised_is;
    values = values-kept entry (vote-apart entry apart) (accepts-apart entry apart);
  } where
    named-apart : (entry : Record) → is_same_txn txn (txn_in entry) ≡ false → named txn entry ≡ None
    named-apart (ballot_promised other ballot) apart = ap (λ (b : Bool). if b then Some ballot else None) apart
    named-apart (value_accepted other ballot commits) apart = ap (λ (b : Bool). if b then Some ballot else None) apart

    vote-apart : (entry : Record) → is_same_txn txn (txn_in entry) ≡ false → vote_in txn entry ≡ None
    vote-apart (ballot_promised other ballot) apart = refl
    vote-apart (value_accepted other ballot commits) apart = ap (λ (b : Bool). if b then Some (record { ballot = ballot; commits = commits }) else None) apart

    accepts-apart : (entry : Record) → is_same_txn txn (txn_in entry) ≡ false → (ballot : law.Ballot) (commits : Bool) → accepts txn ballot commits entry ≡ false
    accepts-apart (ballot_promised other taken) apart ballot commits = refl
    accepts-apart (value_accepted other taken value) apart ballot commits = ap (λ (b : Bool). b && (is_same_ballot ballot taken && beq commits value)) apart
