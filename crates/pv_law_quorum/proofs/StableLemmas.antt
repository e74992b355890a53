-- What stays as it is, whatever happens.
use Rattle.std.proofs.Common.{◌≡◌, ◌⊎◌, ⊎_elim, ℕ, ◌≤◌, Bool, false, Some, None, Option, List, [], ◌∷◌, inl, inr, sym, subst, arith}
use Rattle.std.specs.Prelude.{⊤}
use Rattle.std.specs.List.{Contains}
use Rattle.std.proofs.lemmas.List.Elements.{Contains-append_left, Contains-push_cases}
use Rattle.pv_base.specs.declared.txn.TxnId.{TxnId}
use Rattle.pv_law_quorum.specs.Ballot.{Ballot, rank, is_passed}
use Rattle.pv_law_quorum.specs.Record.{Record, ballot_promised, value_accepted, Vote, promised, has_accepted}
use Rattle.pv_law_quorum.specs.Decider.{Setup, Message, prepare, promise, accept, accepted, Line, decided, spent, full}
use Rattle.pv_law_quorum.specs.World.{World, records_at, IsChosen}
use Rattle.pv_law_quorum.specs.Steps.{Has, NewRecord, own_promise, asked_promise, own_value, asked_value, MayGrow, as_was, one_more, IsStep}
use Rattle.pv_law_quorum.specs.Sound.{HasPromised, IsBacked, IsSafe, IsValueSound, IsRecordSound, IsMessageSound, IsLineSound}
use Rattle.pv_law_quorum.proofs.BallotLemmas.{unpassed-reached, majority-more}
use Rattle.pv_law_quorum.proofs.RecordLemmas.{named-reached, promise-named, accepted-listed, listed-accepted}

module _ (setup : Setup) (Proposed : TxnId → Bool → Type 0) (w v : World) (step : IsStep setup Proposed w v) where
  pub has-stays : (n : ℕ) (kept : Record) → Has w n kept → Has v n kept
  has-stays n kept h = by (step.records n) where
    by : MayGrow setup Proposed w v n → Has v n kept
    by (as_was same) = subst (λ (records : List Record). Contains records kept) (sym same) h
    by (one_more more new same) =
        subst (λ (records : List Record). Contains records kept) (sym same) (Contains-append_left (records_at w n) (more ∷ []) kept h)

  pub has-either : (n : ℕ) (kept : Record) → Has v n kept → Has w n kept ⊎ NewRecord setup w n kept
  has-either n kept h = by (step.records n) where
    by : MayGrow setup Proposed w v n → Has w n kept ⊎ NewRecord setup w n kept
    by (as_was same) = inl (subst (λ (records : List Record). Contains records kept) same h)
    by (one_more more new same) =
        ⊎_elim (λ old. inl old) (λ is. inr (subst (NewRecord setup w n) is new))
        (Contains-push_cases (records_at w n) more kept (subst (λ (records : List Record). Contains records kept) same h))

  -- A new value is in a ballot that isn't below the promised one.
  abbrev IsUnpassed : ℕ → Record → Type 0
  IsUnpassed n (ballot_promised txn ballot) = ⊤
  IsUnpassed n (value_accepted txn ballot commits) = is_passed ballot (promised txn (records_at w n)) ≡ false

  new-unpassed : (n : ℕ) (kept : Record) → NewRecord setup w n kept → IsUnpassed n kept
  new-unpassed n kept (own_promise txn ballot own within is) = subst (IsUnpassed n) (sym is) tt
  new-unpassed n kept (asked_promise txn ballot from sent is) = subst (IsUnpassed n) (sym is) tt
  new-unpassed n kept (own_value entry from last may is) = subst (IsUnpassed n) (sym is) may.unpassed
  new-unpassed n kept (asked_value txn ballot commits from sent unpassed is) = subst (IsUnpassed n) (sym is) unpassed

  -- A vote that was told with a promise stays as great as each below the ballot, since none is new there.
  pub promise-stays : (n : ℕ) (txn : TxnId) (ballot : Ballot) (last : Option Vote) → HasPromised w n txn ballot last → HasPromised v n txn ballot last
  promise-stays n txn ballot last is = record {
    has = has-stays n (ballot_promised txn ballot) is.has;
    tells = λ below commits h less. ⊎_elim
        (λ old. is.tells below commits old less)
        (λ new. let least : rank ballot ≤ rank below = unpassed-reached below (promised txn (records_at w n)) (rank ballot)
        (new-unpassed n (value_accepted txn below commits) new)
        (named-reached txn (records_at w n) (ballot_promised txn ballot) ballot is.has (promise-named txn ballot)) in
        absurd (omega (arith, least, less)))
        (has-either n (value_accepted txn below commits) h);
  }

  pub backed-stays : (txn : TxnId) (ballot : Ballot) (last : Option Vote) → IsBacked w txn ballot last → IsBacked v txn ballot last
  backed-stays txn ballot None is = tt
  backed-stays txn ballot (Some vote) is = (is.0, (is.1.0, has-stays is.1.0 (value_accepted txn vote.ballot vote.commits) is.1.1))

  safe-stays : (txn : TxnId) (ballot : Ballot) (commits : Bool) → IsSafe setup w txn ballot commits → IsSafe setup v txn ballot commits
  safe-stays txn ballot commits is = record {
    counted = is.counted;
    most = is.most;
    last = is.last;
    promises = λ n among. promise-stays n txn ballot is.last (is.promises n among);
    backed = backed-stays txn ballot is.last is.backed;
    follows = is.follows;
  }

  pub value-stays : (txn : TxnId) (ballot : Ballot) (commits : Bool) → IsValueSound setup Proposed w txn ballot commits → IsValueSound setup Proposed v txn ballot commits
  value-stays txn ballot commits is = record {
    own = has-stays ballot.decider (value_accepted txn ballot commits) is.own;
    safe = safe-stays txn ballot commits is.safe;
    proposed = is.proposed;
  }

  pub record-stays : (kept : Record) → IsRecordSound setup Proposed w kept → IsRecordSound setup Proposed v kept
  record-stays (ballot_promised txn ballot) is = has-stays ballot.decider (ballot_promised txn ballot) is
  record-stays (value_accepted txn ballot commits) is = value-stays txn ballot commits is

  pub message-stays : (from : ℕ) (message : Message) → IsMessageSound setup Proposed w from message → IsMessageSound setup Proposed v from message
  message-stays from (prepare txn ballot) is = (is.0, has-stays from (ballot_promised txn ballot) is.1)
  message-stays from (promise txn ballot last) is = (promise-stays from txn ballot last is.0, backed-stays txn ballot last is.1)
  message-stays from (accept txn ballot commits) is = (is.0, has-stays from (value_accepted txn ballot commits) is.1)
  message-stays from (accepted txn ballot) is = (is.0, has-stays from (value_accepted txn ballot is.0) is.1)

  pub chosen-stays : (txn : TxnId) (commits : Bool) → IsChosen setup w txn commits → IsChosen setup v txn commits
  chosen-stays txn commits is = record {
    ballot = is.ballot;
    by_most = majority-more setup.deciders (λ n. has_accepted (records_at w n) txn is.ballot commits) (λ n. has_accepted (records_at v n) txn is.ballot commits)
        (λ n h. listed-accepted (records_at v n) txn is.ballot commits
        (has-stays n (value_accepted txn is.ballot commits) (accepted-listed (records_at w n) txn is.ballot commits h)))
        is.by_most;
  }

  pub line-stays : (line : Line) → IsLineSound setup Proposed w line → IsLineSound setup Proposed v line
  line-stays (decided n txn commits) is = chosen-stays txn commits is
  line-stays (spent n) is = tt
  line-stays (full n long) is = tt
