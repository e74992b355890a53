-- Transactions that are refused, and what refuses them.
use Rattle.std.proofs.Common.{◌≡◌, ℕ, Bool, true, false, Some, None, Option, List, [], ◌∷◌, map, refl, sym, ap, subst, ◌∙◌}
use Rattle.std.specs.Prelude.{◌&&◌, not, if◌then◌else◌}
use Rattle.std.specs.List.{find}
use Rattle.std.specs.Option.{option_map}
use Rattle.std.proofs.lemmas.Bool.{false≢true, not-false, not-true}
use Rattle.pv_base.specs.Assignment.{is_same_txn}
use Rattle.pv_base.specs.declared.txn.TxnId.{TxnId}
use Rattle.pv_coord.specs.Answers.{vote_of}
use Rattle.pv_coord.specs.Coordinator.{CoordMemory, locking_work, refuses, voting_work, without_work, work_of}
use Rattle.pv_coord.specs.Planned.{denial-planned, sites-planned, vote-planned}
use Rattle.pv_coord.specs.Work.{Work, has_all_votes, is_denial_ignored, is_vote_ignored, txn_of, with_vote}
use Rattle.pv_coord.specs.declared.answer.Vote.{Vote}
use Rattle.pv_coord.specs.declared.answer.Vote.TheVariants as voted
use Rattle.pv_format.specs.Message.{NoCause}
use Rattle.pv_model.specs.Check.{Part}
use Rattle.pv_protocol.specs.Coordinate.{is_locking}
use Rattle.pv_protocol.specs.Granted.{at_denied, on_denied}
use Rattle.pv_protocol.specs.Here.{nothing, outcome_sends, refusing, without_entry}
use Rattle.pv_protocol.specs.Keyed.{of_txn}
use Rattle.pv_protocol.specs.State.{Cause, Entry, conflict, refused}
use Rattle.pv_protocol.specs.Vote.{at_no, cause_of, on_no}
use Rattle.pv_site.proofs.Entries.{entry-of, entry_in, first-found, found-txn, locking-of, voting-of}
use Rattle.pv_site.proofs.Tied.{here-without, planned-found, stepped, tied-without}
use Rattle.pv_site.specs.Answer.{IsAnswer}
use Rattle.pv_site.specs.SiteParts.{AreTied, HaveStepped, here_of}
use Rattle.pv_site.specs.Values.{note_of, outgoing_of}
use Rattle.pv_site.specs.declared.input.Step.{Step}
use Rattle.pv_site.specs.declared.parts.SiteParts.{SiteParts}

module _ (parts : SiteParts) (tied : AreTied parts) where
  -- A work that is refused, where its participants are told so, and it is taken out.
  pub refusing-work : (coord : CoordMemory) (txn : TxnId) (cause : Cause) (work : Work) (answer : Step) → work_of parts.coord.contents txn ≡ Some work
      → coord.contents ≡ without_work parts.coord.contents txn
      → map outgoing_of answer.sends.items ≡ outcome_sends txn false (map (λ (part : Part). part.site) work.parts)
      → map note_of answer.notes.items ≡ refused txn cause ∷ [] → answer.locked ≡ None
      → HaveStepped parts (record parts { coord = coord }) (refusing (here_of parts) work.entry cause) × IsAnswer answer (refusing (here_of parts) work.entry cause)
  refusing-work coord txn cause work answer found gone sent noted unlocked =
      let same : txn ≡ work.entry.txn = found-txn txn_of txn parts.coord.contents.entries work found in (
        stepped parts (record parts { coord = coord }) (refusing (here_of parts) work.entry cause) refl
            (here-without parts tied coord txn gone ∙ ap (λ (t : TxnId). record (here_of parts) { running = without_entry (here_of parts).running t }) same)
            (tied-without parts tied coord txn gone),
        record {
          sends = sent ∙ ap (λ (t : TxnId). outcome_sends t false (map (λ (part : Part). part.site) work.parts)) same
              ∙ ap (outcome_sends work.entry.txn false) (sites-planned (here_of parts) work (planned-found parts tied (λ (w : Work). is_same_txn txn (txn_of w)) work found));
          notes = noted ∙ ap (λ (t : TxnId). refused t cause ∷ []) same;
          locked = unlocked;
        },
      )

  refusing-by : (coord : CoordMemory) (txn : TxnId) (cause : Cause) (entry : Entry) (plan : List Part) (answer : Step) (found : Option Work)
      → work_of parts.coord.contents txn ≡ found → option_map entry_in found ≡ Some entry → Some plan ≡ option_map (λ (work : Work). work.parts) found
      → coord.contents ≡ without_work parts.coord.contents txn
      → map outgoing_of answer.sends.items ≡ outcome_sends txn false (map (λ (part : Part). part.site) plan)
      → map note_of answer.notes.items ≡ refused txn cause ∷ [] → answer.locked ≡ None
      → HaveStepped parts (record parts { coord = coord }) (refusing (here_of parts) entry cause) × IsAnswer answer (refusing (here_of parts) entry cause)
  refusing-by coord txn cause entry plan answer None is entry-is plan-is gone sent noted unlocked = absurd (let no : ⊥ = cc in no)
  refusing-by coord txn cause entry plan answer (Some work) is entry-is plan-is gone sent noted unlocked =
      let same : work.entry ≡ entry = cc in
      let parts-are : plan ≡ work.parts = cc in
      subst (λ (e : Entry). HaveStepped parts (record parts { coord = coord }) (refusing (here_of parts) e cause) × IsAnswer answer (refusing (here_of parts) e cause)) same
      (refusing-work coord txn cause work answer is gone
      (sent ∙ ap (λ (p : List Part). outcome_sends txn false (map (λ (part : Part). part.site) p)) parts-are) noted unlocked)

  -- The entry of the transaction is refused.
  pub refusing-entry : (coord : CoordMemory) (txn : TxnId) (cause : Cause) (entry : Entry) (plan : List Part) (answer : Step)
      → of_txn (λ (e : Entry). e.txn) txn (here_of parts).running.entries ≡ Some entry
      → Some plan ≡ option_map (λ (work : Work). work.parts) (work_of parts.coord.contents txn)
      → coord.contents ≡ without_work parts.coord.contents txn
      → map outgoing_of answer.sends.items ≡ outcome_sends txn false (map (λ (part : Part). part.site) plan)
      → map note_of answer.notes.items ≡ refused txn cause ∷ [] → answer.locked ≡ None
      → HaveStepped parts (record parts { coord = coord }) (refusing (here_of parts) entry cause) × IsAnswer answer (refusing (here_of parts) entry cause)
  refusing-entry coord txn cause entry plan answer found plan-is gone sent noted unlocked =
      refusing-by coord txn cause entry plan answer (work_of parts.coord.contents txn) refl (sym (entry-of parts.locks parts.coord.contents txn) ∙ found) plan-is gone sent noted unlocked

  no-work : (entry : Entry) (found : Option Work) → option_map entry_in found ≡ Some entry → None ≡ option_map (λ (work : Work). work.parts) found → ⊥
  no-work entry None is none = cc
  no-work entry (Some work) is none = cc

  -- What has an entry has a plan.
  pub no-plan : (txn : TxnId) (entry : Entry) → of_txn (λ (e : Entry). e.txn) txn (here_of parts).running.entries ≡ Some entry
      → None ≡ option_map (λ (work : Work). work.parts) (work_of parts.coord.contents txn) → ⊥
  no-plan txn entry found none = no-work entry (work_of parts.coord.contents txn) (sym (entry-of parts.locks parts.coord.contents txn) ∙ found) none

  -- A work that is found by its transaction and its stage has the transaction's entry.
  pub entry-found : (test : Work → Bool) (txn : TxnId) (work : Work)
      → find (λ (w : Work). is_same_txn txn w.entry.txn && test w) parts.coord.contents.entries ≡ Some work
      → of_txn (λ (e : Entry). e.txn) txn (here_of parts).running.entries ≡ Some work.entry
  entry-found test txn work is =
      entry-of parts.locks parts.coord.contents txn ∙ ap (option_map entry_in) (first-found txn_of test txn parts.coord.contents.entries work tied.order is)

  -- A denial.
  module _ (from : ℕ) (txn : TxnId) (item : ℕ) (holder : TxnId) where
    denied-by : (found : Option Work) → locking_work parts.coord.contents txn ≡ found
        → (refuses found from item ≡ false → at_denied (here_of parts) from item holder (option_map entry_in found) ≡ nothing (here_of parts))
        × (refuses found from item ≡ true → (work : Work) × (found ≡ Some work)
        × (at_denied (here_of parts) from item holder (option_map entry_in found) ≡ refusing (here_of parts) work.entry (conflict from item holder)))
    denied-by None is = (λ unmoved. refl, λ moved. absurd (false≢true moved))
    denied-by (Some work) is =
        let planned = denial-planned (here_of parts) work (planned-found parts tied (λ (w : Work). is_same_txn txn w.entry.txn && is_locking w.entry.stage) work is) from item in (
          λ unmoved. ap (λ (b : Bool). if b then nothing (here_of parts) else refusing (here_of parts) work.entry (conflict from item holder)) (sym planned ∙ not-false (is_denial_ignored work from item) unmoved),
          λ moved. (
            work,
            refl,
            ap (λ (b : Bool). if b then nothing (here_of parts) else refusing (here_of parts) work.entry (conflict from item holder)) (sym planned ∙ not-true (is_denial_ignored work from item) moved),
          ),
        )

    pub denied-nothing : refuses (locking_work parts.coord.contents txn) from item ≡ false → on_denied (here_of parts) from txn item holder ≡ nothing (here_of parts)
    unfolding on_denied
    denied-nothing unmoved =
        ap (at_denied (here_of parts) from item holder) (locking-of parts.locks parts.coord.contents txn)
        ∙ (denied-by (locking_work parts.coord.contents txn) refl).0 unmoved

    pub denied-refuses : refuses (locking_work parts.coord.contents txn) from item ≡ true
        → (work : Work) × (locking_work parts.coord.contents txn ≡ Some work)
        × (on_denied (here_of parts) from txn item holder ≡ refusing (here_of parts) work.entry (conflict from item holder))
    unfolding on_denied
    denied-refuses moved =
        let there = (denied-by (locking_work parts.coord.contents txn) refl).1 moved in
        (there.0, there.1, ap (at_denied (here_of parts) from item holder) (locking-of parts.locks parts.coord.contents txn) ∙ there.2)

  -- A no.
  module _ (from : ℕ) (txn : TxnId) (cause : NoCause) where
    ignored-by : (a b : Bool) → (if a then voted.Ignored else (if b then voted.Last else voted.Wait)) ≡ voted.Ignored → a ≡ true
    ignored-by true b is = refl
    ignored-by false true is = absurd (let no : ⊥ = cc in no)
    ignored-by false false is = absurd (let no : ⊥ = cc in no)

    counts-by : (a : Bool) (v : Vote) → ((if a then voted.Ignored else v) ≡ voted.Ignored → ⊥) → a ≡ false
    counts-by true v counts = absurd (counts refl)
    counts-by false v counts = refl

    no-by : (found : Option Work) → voting_work parts.coord.contents txn ≡ found
        → (vote_of found from ≡ voted.Ignored → at_no (here_of parts) from cause (option_map entry_in found) ≡ nothing (here_of parts))
        × ((vote_of found from ≡ voted.Ignored → ⊥) → (work : Work) × (found ≡ Some work)
        × (at_no (here_of parts) from cause (option_map entry_in found) ≡ refusing (here_of parts) work.entry (cause_of from cause)))
    no-by None is = (λ ignored. refl, λ counts. absurd (counts refl))
    no-by (Some work) is =
        let planned = vote-planned (here_of parts) work (planned-found parts tied (λ (w : Work). is_same_txn txn w.entry.txn && not (is_locking w.entry.stage)) work is) from in (
          λ ignored. ap (λ (b : Bool). if b then nothing (here_of parts) else refusing (here_of parts) work.entry (cause_of from cause))
              (sym planned ∙ ignored-by (is_vote_ignored work from) (has_all_votes (with_vote work from)) ignored),
          λ counts. (
            work,
            refl,
            ap (λ (b : Bool). if b then nothing (here_of parts) else refusing (here_of parts) work.entry (cause_of from cause))
                (sym planned ∙ counts-by (is_vote_ignored work from) (if has_all_votes (with_vote work from) then voted.Last else voted.Wait) counts),
          ),
        )

    pub no-nothing : vote_of (voting_work parts.coord.contents txn) from ≡ voted.Ignored → on_no (here_of parts) from txn cause ≡ nothing (here_of parts)
    unfolding on_no
    no-nothing ignored =
        ap (at_no (here_of parts) from cause) (voting-of parts.locks parts.coord.contents txn) ∙ (no-by (voting_work parts.coord.contents txn) refl).0 ignored

    pub no-refuses : (vote_of (voting_work parts.coord.contents txn) from ≡ voted.Ignored → ⊥)
        → (work : Work) × (voting_work parts.coord.contents txn ≡ Some work)
        × (on_no (here_of parts) from txn cause ≡ refusing (here_of parts) work.entry (cause_of from cause))
    unfolding on_no
    no-refuses counts =
        let there = (no-by (voting_work parts.coord.contents txn) refl).1 counts in
        (there.0, there.1, ap (at_no (here_of parts) from cause) (voting-of parts.locks parts.coord.contents txn) ∙ there.2)
