-- Transactions that expire at a tick.
use Rattle.std.proofs.Common.{◌≡◌, ℕ, ◌+◌, Bool, true, false, Some, None, List, [], ◌∷◌, ◌++◌, map, get_or, IsTrue, refl, sym, ap, ◌∙◌}
use Rattle.std.specs.Prelude.{All, nat_lt, not, is_none, if◌then◌else◌}
use Rattle.std.specs.List.{filter, flat_map}
use Rattle.std.proofs.lemmas.List.Elements.{All-cons, All-nil}
use Rattle.pv_base.proofs.AssignmentLemmas.{precedes-other', same-refl}
use Rattle.pv_base.proofs.MapLemmas.{Contains-map}
use Rattle.pv_base.specs.Assignment.{precedes}
use Rattle.pv_base.specs.declared.limits.TheConstants.{TICKS}
use Rattle.pv_base.specs.declared.txn.TxnId.{TxnId}
use Rattle.pv_coord.specs.Answers.{expiry_of}
use Rattle.pv_coord.specs.Coordinator as own
use Rattle.pv_coord.specs.Coordinator.{Coordinator, CoordMemory, work_of}
use Rattle.pv_coord.specs.Planned.{IsPlanned, awaited-planned, sites-planned}
use Rattle.pv_coord.specs.Work.{Work, txn_of}
use Rattle.pv_coord.specs.declared.answer.Expiry.{Expiry}
use Rattle.pv_law_polyvalues.proofs.AscendingLemmas.{ascending-first, ascending-tail}
use Rattle.pv_law_step.proofs.Lists.{all-from, all-head, all-tail}
use Rattle.pv_locks.specs.LockTable as table
use Rattle.pv_locks.specs.LockTable.{LockTable}
use Rattle.pv_protocol.specs.Here.{Here, outcome_sends, participants}
use Rattle.pv_protocol.specs.Keyed.{AreInOrder, of_txn}
use Rattle.pv_protocol.specs.Outcome.{named_here}
use Rattle.pv_protocol.specs.State as model
use Rattle.pv_protocol.specs.State.{Entry, expired, refused}
use Rattle.pv_protocol.specs.Tick.{ask_sends, awaited, expired_entries, expiry_notes, expiry_sends, older_entries, on_tick}
use Rattle.pv_site.proofs.Entries.{after_tick, entry_in, expired-entries}
use Rattle.pv_site.proofs.Tied.{here-tick, stepped, tied-tick}
use Rattle.pv_site.specs.Answer.{IsAnswer}
use Rattle.pv_site.specs.SiteParts.{AreTied, HaveStepped, here_of}
use Rattle.pv_site.specs.Refusals.{refusal_note, refusal_of, refusal_sends}
use Rattle.pv_site.specs.Values.{note_of, outgoing_of}
use Rattle.pv_site.specs.declared.input.Step.{Step}
use Rattle.pv_site.specs.declared.parts.SiteParts.{SiteParts}
use Rattle.pv_store.specs.Kept.{IsStoreOf}

-- In an order each is found for its transaction.
all-found : {X : Type 0} (txn_of : X → TxnId) (xs : List X) → AreInOrder txn_of xs → All (λ x. of_txn txn_of (txn_of x) xs ≡ Some x) xs
all-found txn_of [] up = All-nil (λ x. of_txn txn_of (txn_of x) [] ≡ Some x)
all-found txn_of (first ∷ rest) up =
    All-cons (λ x. of_txn txn_of (txn_of x) (first ∷ rest) ≡ Some x) first rest
    (ap (λ b. if b then Some first else of_txn txn_of (txn_of first) rest) (same-refl (txn_of first)))
    (λ k d within.
    ap (λ b. if b then Some first else of_txn txn_of (txn_of (get_or rest k d)) rest)
    (precedes-other' (txn_of first) (txn_of (get_or rest k d))
    (all-from (λ x. IsTrue (precedes (txn_of first) (txn_of x))) rest (λ x h. ascending-first (txn_of first) (map txn_of rest) up (txn_of x) (Contains-map txn_of rest x h)) k d within))
    ∙ all-found txn_of rest (ascending-tail (txn_of first) (map txn_of rest) up) k d within)

-- the work, a tick older
abbrev aged : Work → Work
aged work = record work { entry = record work.entry { age = work.entry.age + 1 } }

module _ (here : Here) (coord : Coordinator) where
  -- The work is found for its transaction, and has the plan of its program.
  record IsAtHand (work : Work) : Type 0 where
    found : work_of coord (txn_of work) ≡ Some work
    planned : IsPlanned here work

  one-sent : (work : Work) → IsAtHand work → refusal_sends coord (txn_of work) ≡ outcome_sends (txn_of work) false (participants here work.entry)
  one-sent work is = ap (refusal_of (txn_of work)) is.found ∙ ap (outcome_sends (txn_of work) false) (sites-planned here work is.planned)

  sent-by : (b : Bool) (work : Work) (rest : List Work) → IsAtHand work
      → flat_map (λ (expiry : Expiry). refusal_sends coord expiry.txn) (map expiry_of rest) ≡ expiry_sends here (map entry_in rest)
      → flat_map (λ (expiry : Expiry). refusal_sends coord expiry.txn) (map expiry_of (if b then aged work ∷ rest else rest))
      ≡ expiry_sends here (map entry_in (if b then aged work ∷ rest else rest))
  sent-by true work rest is behind =
      ap (λ (sends : List model.Outgoing). sends ++ flat_map (λ (expiry : Expiry). refusal_sends coord expiry.txn) (map expiry_of rest)) (one-sent work is)
      ∙ ap (λ (sends : List model.Outgoing). outcome_sends (txn_of work) false (participants here work.entry) ++ sends) behind
  sent-by false work rest is behind = behind

  -- What is sent for the works that expire.
  expired-sends : (works : List Work) → All IsAtHand works
      → flat_map (λ (expiry : Expiry). refusal_sends coord expiry.txn) (map expiry_of (own.expired (own.older works)))
      ≡ expiry_sends here (map entry_in (own.expired (own.older works)))
  expired-sends [] all = refl
  expired-sends (work ∷ works) all =
      sent-by (not (nat_lt (work.entry.age + 1) TICKS)) work (own.expired (own.older works)) (all-head IsAtHand work works all)
      (expired-sends works (all-tail IsAtHand work works all))

  noted-by : (b : Bool) (work : Work) (rest : List Work) → IsAtHand work
      → map refusal_note (map expiry_of rest) ≡ expiry_notes here (map entry_in rest)
      → map refusal_note (map expiry_of (if b then aged work ∷ rest else rest)) ≡ expiry_notes here (map entry_in (if b then aged work ∷ rest else rest))
  noted-by true work rest is behind =
      ap (λ (site : ℕ). refused (txn_of work) (expired site) ∷ map refusal_note (map expiry_of rest)) (awaited-planned here (aged work) is.planned)
      ∙ ap (λ (notes : List model.Note). refused (txn_of work) (expired (awaited here (aged work).entry)) ∷ notes) behind
  noted-by false work rest is behind = behind

  -- What is reported of them.
  expired-notes : (works : List Work) → All IsAtHand works
      → map refusal_note (map expiry_of (own.expired (own.older works))) ≡ expiry_notes here (map entry_in (own.expired (own.older works)))
  expired-notes [] all = refl
  expired-notes (work ∷ works) all =
      noted-by (not (nat_lt (work.entry.age + 1) TICKS)) work (own.expired (own.older works)) (all-head IsAtHand work works all)
      (expired-notes works (all-tail IsAtHand work works all))

module _ (parts : SiteParts) (tied : AreTied parts) where
  at-hand : All (IsAtHand (here_of parts) parts.coord.contents) parts.coord.contents.entries
  at-hand = λ k d within. record {
    found = all-found txn_of parts.coord.contents.entries tied.order k d within;
    planned = (tied.works k d within).plan;
  }

  -- The store is that of the site.
  pub store-is : IsStoreOf (here_of parts) parts.store
  store-is = record { site = tied.store_site; catalog = tied.store_catalog; records = refl }

  -- A tick passes.
  pub ticked : (locks : LockTable) (coord : CoordMemory) (expiries : List Expiry) (mentioned : List TxnId) (answer : Step)
      → locks ≡ table.older parts.locks → coord.contents ≡ after_tick parts.coord.contents
      → expiries ≡ map expiry_of (own.expired (own.older parts.coord.contents.entries)) → mentioned ≡ named_here (here_of parts)
      → map outgoing_of answer.sends.items
      ≡ flat_map (λ (expiry : Expiry). refusal_sends parts.coord.contents expiry.txn) expiries ++ ask_sends (filter (λ (txn : TxnId). is_none (table.grant_of locks txn)) mentioned)
      → map note_of answer.notes.items ≡ map refusal_note expiries → answer.locked ≡ None
      → HaveStepped parts (record parts { coord = coord; locks = locks }) (on_tick (here_of parts)) × IsAnswer answer (on_tick (here_of parts))
  unfolding on_tick
  ticked locks coord expiries mentioned answer older-is after expiries-are mentioned-are sent noted unlocked =
      let refusals-are : map entry_in (own.expired (own.older parts.coord.contents.entries)) ≡ expired_entries (older_entries (here_of parts).running.entries) =
      sym (expired-entries parts.locks parts.coord.contents) in (
        stepped parts (record parts { coord = coord; locks = locks }) (on_tick (here_of parts)) refl
            (here-tick parts tied coord locks older-is after) (tied-tick parts tied coord locks older-is after),
        record {
          sends = sent
              ∙ ap (λ (e : List Expiry). flat_map (λ (expiry : Expiry). refusal_sends parts.coord.contents expiry.txn) e ++ ask_sends (filter (λ (txn : TxnId). is_none (table.grant_of locks txn)) mentioned)) expiries-are
              ∙ ap (λ (sends : List model.Outgoing). sends ++ ask_sends (filter (λ (txn : TxnId). is_none (table.grant_of locks txn)) mentioned))
              (expired-sends (here_of parts) parts.coord.contents parts.coord.contents.entries at-hand ∙ ap (expiry_sends (here_of parts)) refusals-are)
              ∙ ap (λ (txns : List TxnId). expiry_sends (here_of parts) (expired_entries (older_entries (here_of parts).running.entries)) ++ ask_sends (filter (λ (txn : TxnId). is_none (table.grant_of locks txn)) txns)) mentioned-are
              ∙ ap (λ (l : LockTable). expiry_sends (here_of parts) (expired_entries (older_entries (here_of parts).running.entries)) ++ ask_sends (filter (λ (txn : TxnId). is_none (table.grant_of l txn)) (named_here (here_of parts)))) older-is;
          notes = noted ∙ ap (map refusal_note) expiries-are
              ∙ expired-notes (here_of parts) parts.coord.contents parts.coord.contents.entries at-hand ∙ ap (expiry_notes (here_of parts)) refusals-are;
          locked = unlocked;
        },
      )
