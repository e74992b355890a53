-- Entries stay right.
use Rattle.std.proofs.Common.{◌≡◌, ◌⊎◌, ⊎_elim, ℕ, true, List, [], ◌∷◌, inl, inr, refl, sym, ap, subst, ◌∙◌}
use Rattle.std.specs.Prelude.{◌==◌}
use Rattle.std.specs.List.{Contains, list_any}
use Rattle.std.proofs.lemmas.Bool.{eq-eqb, or_left, or_right, false≢true}
use Rattle.pv_base.proofs.Basics.{Some_inj}
use Rattle.pv_base.proofs.ContainsLemmas.{Contains-nil, Contains-cases}
use Rattle.pv_base.specs.declared.txn.TxnId.{TxnId}
use Rattle.pv_format.specs.Message.{granted, vote_yes}
use Rattle.pv_law_acts.proofs.ListLemmas.{listed-last, listed-either}
use Rattle.pv_law_acts.proofs.PassedLemmas.{taken-either}
use Rattle.pv_law_acts.proofs.StepLemmas.{grown-each, sent-stays, place-stays, promise-stays}
use Rattle.pv_law_acts.specs.Passed.{AreNumbersPassed}
use Rattle.pv_law_acts.specs.Seen.{WorksAgeless, wants_at, place_in_order, IsPassed}
use Rattle.pv_law_acts.specs.Steps.{NewEntry, has_begun, has_taken, is_placed, has_counted, NewPlace, IsStep}
use Rattle.pv_law_outcomes.proofs.ValueLemmas.{values-items}
use Rattle.pv_law_outcomes.specs.Coherent.{IsCoherent, IsEntryRight, IsTakenFrom, IsCountedVote}
use Rattle.pv_protocol.specs.Committed.{home_of}
use Rattle.pv_protocol.specs.State.{Setup, Stage, locking, voting, Taken, Entry, Placed}
use Rattle.pv_protocol.specs.World.{World}

pub two-stages : voting ≡ locking → ⊥
two-stages is = cc

-- a stage is one of the two
pub stage-either : (stage : Stage) → (stage ≡ locking) ⊎ (stage ≡ voting)
stage-either locking = inl refl
stage-either voting = inr refl

-- a site that isn't among those from which something was taken
taken-passes : (all : List Taken) (n : ℕ) (taken : Taken) → Contains all taken → taken.site ≡ n → list_any (λ (t : Taken). t.site == n) all ≡ true
taken-passes [] n taken h same = absurd (Contains-nil taken h)
taken-passes (first ∷ rest) n taken h same =
    ⊎_elim
    (λ here. or_left (first.site == n) (list_any (λ (t : Taken). t.site == n) rest) (eq-eqb first.site n (ap (λ (t : Taken). t.site) here ∙ same)))
    (λ behind. or_right (first.site == n) (list_any (λ (t : Taken). t.site == n) rest) (taken-passes rest n taken behind same))
    (Contains-cases first rest taken h)

module _ (setup : Setup) (w v : World) (step : IsStep setup w v) (passed : AreNumbersPassed w) (right : IsCoherent setup w) where
  -- what was taken stays right
  taken-stays : (n : ℕ) (txn : TxnId) (entry : Entry) (taken : Taken) → IsTakenFrom setup w n txn entry taken → IsTakenFrom setup v n txn entry taken
  taken-stays n txn entry taken is = record {
    participant = is.participant;
    reported = sent-stays setup w v step taken.site n (granted txn taken.grant taken.values) is.reported;
    items = is.items;
  }

  vote-stays : (txn : TxnId) (entry : Entry) (from : ℕ) → IsCountedVote setup w txn entry from → IsCountedVote setup v txn entry from
  vote-stays txn entry from is = record { participant = is.participant; prepared = promise-stays setup w v step from txn is.prepared }

  -- A transaction whose entry asks for locks isn't in the order, if it wasn't.
  unplaced-still : (n : ℕ) (txn : TxnId) (entry : Entry) → home_of txn ≡ n → WorksAgeless v n txn entry → entry.stage ≡ locking
      → ((placed : Placed) → Contains w.order placed → placed.txn ≡ txn → ⊥) → (placed : Placed) → Contains v.order placed → placed.txn ≡ txn → ⊥
  unplaced-still n txn entry home works asks old placed h =
      grown-each setup w v (NewPlace setup w v) w.order v.order step.order (λ (p : Placed). p.txn ≡ txn → ⊥) old new placed h where
        new : (p : Placed) → NewPlace setup w v p → p.txn ≡ txn → ⊥
        new p placing same =
            let entry_w = passed.entries placing.n placing.txn placing.entry placing.works in
            let own : placing.txn ≡ txn = sym entry_w.own ∙ sym (ap (λ (q : Placed). q.txn) placing.is) ∙ same in
            let at : placing.n ≡ n = sym entry_w.home ∙ ap home_of own ∙ home in
            let found : WorksAgeless v n txn (record placing.entry { stage = voting; age = 0 }) =
            subst (λ m. WorksAgeless v m txn (record placing.entry { stage = voting; age = 0 })) at
            (subst (λ t. WorksAgeless v placing.n t (record placing.entry { stage = voting; age = 0 })) own placing.after) in
            two-stages (ap (λ (e : Entry). e.stage) (Some_inj (sym found ∙ works)) ∙ asks)

  old-entry : (n : ℕ) (txn : TxnId) (entry : Entry) → WorksAgeless v n txn entry → WorksAgeless w n txn entry → IsEntryRight setup v n txn entry
  old-entry n txn entry now works =
      let was : IsEntryRight setup w n txn entry = right.entries n txn entry works in
      record {
        runs = was.runs;
        unplaced = λ asks. unplaced-still n txn entry (passed.entries n txn entry works).home now asks (was.unplaced asks);
        in_order = λ asks. place-stays setup w v step (place_in_order entry) (was.in_order asks);
        taken = λ taken h. taken-stays n txn entry taken (was.taken taken h);
        one = was.one;
        votes = λ from h. vote-stays txn entry from (was.votes from h);
      }

  new-entry : (n : ℕ) (txn : TxnId) (entry : Entry) → WorksAgeless v n txn entry → NewEntry setup w v n txn entry → IsEntryRight setup v n txn entry
  new-entry n txn entry now (has_begun program home unpassed given runs) = record {
    runs = runs;
    unplaced = λ asks. unplaced-still n txn entry home now asks
        (λ placed h same. unpassed (subst (IsPassed w) same (passed.order placed h).passed));
    in_order = λ asks. absurd (two-stages (sym asks));
    taken = λ taken h. absurd (Contains-nil taken h);
    one = λ taken other h k same. absurd (Contains-nil taken h);
    votes = λ from h. absurd (Contains-nil from h);
  }
  new-entry n txn entry now (has_taken old taken works may) =
      let was : IsEntryRight setup w n txn old = right.entries n txn old works in
      let apart : (other : Taken) → Contains old.taken other → other.site ≡ taken.site → ⊥ =
      λ other h same. false≢true (sym may.first ∙ taken-passes old.taken taken.site other h same) in
      record {
        runs = was.runs;
        unplaced = λ asks. unplaced-still n txn entry (passed.entries n txn old works).home now asks (was.unplaced may.asks);
        in_order = λ asks. absurd (two-stages (sym asks ∙ may.asks));
        taken = λ other h. ⊎_elim
            (λ before. let held = taken-stays n txn old other (was.taken other before) in record { participant = held.participant; reported = held.reported; items = held.items })
            (λ (same : taken ≡ other). subst (IsTakenFrom setup v n txn entry) same
            (record {
              participant = may.participant;
              reported = sent-stays setup w v step taken.site n (granted txn taken.grant taken.values) may.reported;
              items = values-items (wants_at setup old taken.site) taken.values may.right;
            }))
            (taken-either taken old.taken other h);
        one = λ a b h k same. ⊎_elim
            (λ old_a. ⊎_elim
            (λ old_b. was.one a b old_a old_b same)
            (λ (new_b : taken ≡ b). absurd (apart a old_a (same ∙ ap (λ (t : Taken). t.site) (sym new_b))))
            (taken-either taken old.taken b k))
            (λ (new_a : taken ≡ a). ⊎_elim
            (λ old_b. absurd (apart b old_b (sym same ∙ ap (λ (t : Taken). t.site) (sym new_a))))
            (λ (new_b : taken ≡ b). sym new_a ∙ new_b)
            (taken-either taken old.taken b k))
            (taken-either taken old.taken a h);
        votes = λ from h. let vote = vote-stays txn old from (was.votes from h) in record { participant = vote.participant; prepared = vote.prepared };
      }
  new-entry n txn entry now (is_placed old works may order) =
      let was : IsEntryRight setup w n txn old = right.entries n txn old works in
      record {
        runs = was.runs;
        unplaced = λ asks. absurd (two-stages asks);
        in_order = λ asks. subst (λ all. Contains all (place_in_order old)) (sym order) (listed-last w.order (place_in_order old));
        taken = λ taken h. let held = taken-stays n txn old taken (was.taken taken h) in record { participant = held.participant; reported = held.reported; items = held.items };
        one = was.one;
        votes = λ from h. let vote = vote-stays txn old from (was.votes from h) in record { participant = vote.participant; prepared = vote.prepared };
      }
  new-entry n txn entry now (has_counted old from works may) =
      let was : IsEntryRight setup w n txn old = right.entries n txn old works in
      record {
        runs = was.runs;
        unplaced = λ asks. absurd (two-stages (sym may.asks ∙ asks));
        in_order = λ asks. place-stays setup w v step (place_in_order old) (was.in_order may.asks);
        taken = λ taken h. let held = taken-stays n txn old taken (was.taken taken h) in record { participant = held.participant; reported = held.reported; items = held.items };
        one = was.one;
        votes = λ other h. ⊎_elim
            (λ before. let vote = vote-stays txn old other (was.votes other before) in record { participant = vote.participant; prepared = vote.prepared })
            (λ (same : from ≡ other). subst (IsCountedVote setup v txn entry) same
            (record { participant = may.participant; prepared = promise-stays setup w v step from txn (right.sent from n (vote_yes txn) may.reported) }))
            (listed-either old.votes from other h);
      }

  pub entries-right : (n : ℕ) (txn : TxnId) (entry : Entry) → WorksAgeless v n txn entry → IsEntryRight setup v n txn entry
  entries-right n txn entry now =
      ⊎_elim (λ old. old-entry n txn entry now old) (λ new. new-entry n txn entry now new) (step.entries n txn entry now)
