-- What a proposer makes of what it counts.
use Rattle.std.proofs.Common.{◌≡◌, ℕ, Bool, true, false, Option, Some, None, List, [], ◌∷◌, ◌++◌, refl, sym, ap, subst, ◌∙◌}
use Rattle.std.specs.Prelude.{if◌then◌else◌, ◌==◌, ◌||◌, map}
use Rattle.std.specs.Option.{option_map}
use Rattle.pv_base.specs.declared.txn.TxnId.{TxnId}
use Rattle.pv_law_quorum.specs.Ballot as law
use Rattle.pv_law_quorum.specs.Ballot.{greater, is_majority, is_passed}
use Rattle.pv_law_quorum.specs.Decider.{Setup, Here, Entry, Answer, Line, decided, entry_of, without, with_entry, holding, awaits, asking, accepting, is_among, on_promise, on_accepted, with_promise, with_accepted, ask_to_accept, value_told}
use Rattle.pv_law_quorum.specs.Record.{Vote, promised}
use Rattle.pv_quorum.specs.Knows.{IsProposed, IsProposal, Knows, marked}
use Rattle.pv_quorum.specs.Makes.{IsMade}
use Rattle.pv_quorum.specs.Values.{vote_of, outgoing_of, record_of, decided_line, spent_line}
use Rattle.pv_quorum.specs.declared.ballot.Ballot.{Ballot}
use Rattle.pv_quorum.specs.declared.counted.Counted.{Counted}
use Rattle.pv_quorum.specs.declared.known.Known.{Known}
use Rattle.pv_quorum.specs.declared.known.Proposal.{Proposal}
use Rattle.pv_quorum.specs.declared.made.Made.{Made}
use Rattle.pv_quorum.proofs.EntryLemmas.{entry-gone, proposed}

-- What was made sends and records nothing, and this is proposed then.
pub record Holds (proposal : Option Proposal) (outcome : Option (TxnId × Bool)) (made : Made) : Type 0 where
  pub proposal_is : made.proposal ≡ proposal
  pub appended_is : made.appended ≡ None
  pub sends_are : made.sends.items ≡ []
  pub decided_is : made.decided ≡ outcome
  pub spent_is : made.spent ≡ false

module _ (me : ℕ) (txn : TxnId) (proposal : Option Proposal) (outcome : Option (TxnId × Bool)) (made : Made) (holds : Holds proposal outcome made) (entries : List Entry)
    (stands : IsProposal txn (entry_of txn entries) proposal) where
  -- The rules have these entries then, and report that.
  pub held : (lines : List Line) → lines ≡ decided_line me outcome ++ [] → IsMade me txn made (record { entries = entries; appended = None; sends = []; lines = lines })
  held lines is = record {
    proposal = subst (IsProposal txn (entry_of txn entries)) (sym holds.proposal_is) stands;
    appended = sym (ap (option_map record_of) holds.appended_is);
    sends = sym (ap (map outgoing_of) holds.sends_are);
    lines = is ∙ (λ i. decided_line me (sym holds.decided_is i) ++ spent_line me (sym holds.spent_is i));
  }

module _ (me : ℕ) (here : Here) (txn : TxnId) (entry : Entry) (proposal : Proposal) (is : IsProposed txn entry proposal) where
  nothing-left : IsProposal txn (entry_of txn (without entry.txn here.entries)) None
  nothing-left =
      subst (λ (o : Option Entry). IsProposal txn o None) (sym (ap (λ (t : TxnId). entry_of txn (without t here.entries)) is.txn_is ∙ entry-gone txn here.entries)) tt

  -- The proposer has a majority, and its value is decided.
  pub decides : (setup : Setup) (made : Made) → here.me ≡ me → is_majority setup.deciders (is_among entry.counted) ≡ true → Holds None (Some (txn, proposal.commits)) made
      → IsMade me txn made (with_accepted setup here entry)
  decides setup made me_is most holds =
      subst (IsMade me txn made)
      (sym (ap (λ (b : Bool). if b then record { entries = without entry.txn here.entries; appended = None; sends = []; lines = decided here.me entry.txn entry.commits ∷ [] } else holding (with_entry entry here.entries)) most))
      (held me txn None (Some (txn, proposal.commits)) made holds (without entry.txn here.entries) nothing-left (decided here.me entry.txn entry.commits ∷ [])
      (λ i. decided (me_is i) (is.txn_is i) (is.commits i) ∷ []))

  -- It has a majority, and was passed: it proposes nothing any more.
  pub gives-up : (setup : Setup) (made : Made) → is_majority setup.deciders (is_among entry.counted) ≡ true → is_passed entry.ballot (promised entry.txn here.records) ≡ true
      → Holds None None made → IsMade me txn made (with_promise setup here entry)
  gives-up setup made most passed holds =
      subst (IsMade me txn made)
      (sym (ap (λ (b : Bool). if b then (if is_passed entry.ballot (promised entry.txn here.records) then holding (without entry.txn here.entries)
      else ask_to_accept setup here entry (value_told entry.last entry.commits)) else holding (with_entry entry here.entries)) most
      ∙ ap (λ (b : Bool). if b then holding (without entry.txn here.entries) else ask_to_accept setup here entry (value_told entry.last entry.commits)) passed))
      (held me txn None None made holds (without entry.txn here.entries) nothing-left [] refl)

-- A proposal that isn't awaited stays.
module _ (me : ℕ) (here : Here) (txn : TxnId) (proposal : Proposal) (made : Made) (known : Known) (is : known.proposal ≡ Some proposal) (knows : Knows here txn known)
    (holds : Holds (Some proposal) None made) where
  found : (entry : Entry) × (entry_of txn here.entries ≡ Some entry) × IsProposed txn entry proposal
  found = proposed txn (entry_of txn here.entries) known.proposal proposal is knows.proposal

  same-entries : IsMade me txn made (holding here.entries)
  same-entries = held me txn (Some proposal) None made holds here.entries (subst (IsProposal txn (entry_of txn here.entries)) is knows.proposal) [] refl

  pub promise-stays : (setup : Setup) (from : ℕ) (ballot : law.Ballot) (last : Option Vote)
      → ((entry : Entry) → IsProposed txn entry proposal → awaits entry asking ballot from ≡ false) → IsMade me txn made (on_promise setup here from ballot last (entry_of txn here.entries))
  promise-stays setup from ballot last unawaited =
      subst (IsMade me txn made)
      (sym (ap (on_promise setup here from ballot last) found.1
      ∙ ap (λ (b : Bool). if b then with_promise setup here (record found.0 { counted = from ∷ found.0.counted; last = greater (λ (vote : Vote). vote.ballot) found.0.last last }) else holding here.entries)
      (unawaited found.0 found.2)))
      same-entries

  pub accepted-stays : (setup : Setup) (from : ℕ) (ballot : law.Ballot) → ((entry : Entry) → IsProposed txn entry proposal → awaits entry accepting ballot from ≡ false)
      → IsMade me txn made (on_accepted setup here from ballot (entry_of txn here.entries))
  accepted-stays setup from ballot unawaited =
      subst (IsMade me txn made)
      (sym (ap (on_accepted setup here from ballot) found.1
      ∙ ap (λ (b : Bool). if b then with_accepted setup here (record found.0 { counted = from ∷ found.0.counted }) else holding here.entries) (unawaited found.0 found.2)))
      same-entries

-- A decider is counted.
module _ (here : Here) (txn : TxnId) (proposal : Proposal) (known : Known) (is : known.proposal ≡ Some proposal) (knows : Knows here txn known) (from : ℕ) (counted : Counted)
    (counts : (n : ℕ) → marked counted.deciders n ≡ (n == from || marked proposal.counted.deciders n)) where
  there : (entry : Entry) × (entry_of txn here.entries ≡ Some entry) × IsProposed txn entry proposal
  there = proposed txn (entry_of txn here.entries) known.proposal proposal is knows.proposal

  counted-is : (n : ℕ) → is_among (from ∷ there.0.counted) n ≡ marked counted.deciders n
  counted-is n = ap (λ (b : Bool). n == from || b) (there.2.counted n) ∙ sym (counts n)

  module _ (setup : Setup) (ballot : law.Ballot) where
    -- A promise is counted, with what it tells.
    pub promise-counted : (P : Answer → Type 0) (last : Option Vote) (told : Option (Ballot × Bool)) → option_map vote_of told ≡ greater (λ (vote : Vote). vote.ballot) (option_map vote_of proposal.last) last
        → ((entry : Entry) → IsProposed txn entry proposal → awaits entry asking ballot from ≡ true)
        → ((entry : Entry) → IsProposed txn entry (record proposal { counted = counted; last = told }) → P (with_promise setup here entry))
        → P (on_promise setup here from ballot last (entry_of txn here.entries))
    promise-counted P last told tells awaited then_ =
        subst P
        (sym (ap (on_promise setup here from ballot last) there.1
        ∙ ap (λ (b : Bool). if b then with_promise setup here (record there.0 { counted = from ∷ there.0.counted; last = greater (λ (vote : Vote). vote.ballot) there.0.last last }) else holding here.entries)
        (awaited there.0 there.2)))
        (then_ (record there.0 { counted = from ∷ there.0.counted; last = greater (λ (vote : Vote). vote.ballot) there.0.last last }) (record {
          txn_is = there.2.txn_is;
          ballot = there.2.ballot;
          commits = there.2.commits;
          phase = there.2.phase;
          counted = counted-is;
          last = ap (λ (o : Option Vote). greater (λ (vote : Vote). vote.ballot) o last) there.2.last ∙ sym tells;
        }))

    -- An acceptance is counted.
    pub accepted-counted : (P : Answer → Type 0) → ((entry : Entry) → IsProposed txn entry proposal → awaits entry accepting ballot from ≡ true)
        → ((entry : Entry) → IsProposed txn entry (record proposal { counted = counted }) → P (with_accepted setup here entry))
        → P (on_accepted setup here from ballot (entry_of txn here.entries))
    accepted-counted P awaited then_ =
        subst P
        (sym (ap (on_accepted setup here from ballot) there.1
        ∙ ap (λ (b : Bool). if b then with_accepted setup here (record there.0 { counted = from ∷ there.0.counted }) else holding here.entries) (awaited there.0 there.2)))
        (then_ (record there.0 { counted = from ∷ there.0.counted }) (record {
          txn_is = there.2.txn_is;
          ballot = there.2.ballot;
          commits = there.2.commits;
          phase = there.2.phase;
          counted = counted-is;
          last = there.2.last;
        }))
