-- Each event is a step: what is there after it was there, or is new with its cause.
use Rattle.std.proofs.Common.{◌≡◌, ◌⊎◌, ⊎_elim, ℕ, zero, suc, ◌<◌, Bool, true, false, Some, None, Option, List, [], ◌∷◌, ◌++◌, length, inl, inr, refl, sym, ap, subst, ◌∙◌, arith}
use Rattle.std.specs.Prelude.{if◌then◌else◌, get_or, set, slice_get, option_to_list, ⊤}
use Rattle.std.specs.List.{Contains}
use Rattle.std.proofs.lemmas.Bool.{cases_eq}
use Rattle.std.proofs.lemmas.List.{append-nil, length-set, get_or-set_same}
use Rattle.std.proofs.lemmas.List.Elements.{Contains-append_cases}
use Rattle.std.proofs.lemmas.Option.{slice_get_within, get_or_from_slice_get}
use Rattle.pv_base.proofs.ContainsLemmas.{Contains-nil}
use Rattle.pv_base.proofs.MapLemmas.{Contains-unmap}
use Rattle.pv_base.specs.declared.txn.TxnId.{TxnId}
use Rattle.pv_law_quorum.specs.Record.{Record, value_accepted}
use Rattle.pv_law_quorum.specs.Decider.{Setup, Entry, Input, propose, receive, Line, Outgoing, Answer, step}
use Rattle.pv_law_quorum.specs.World.{Decider, Envelope, World, Ending, whole, broken, Event, proposal, delivery, stop, start, no_decider, decider_at, records_at, with_content, from_decider, ended, given, delivered, started, after_event}
use Rattle.pv_law_quorum.specs.Steps.{Holds, entries_in, MayGrow, as_was, one_more, Spares, NewEntry, NewMessage, NewLine, IsStep}
use Rattle.pv_law_quorum.proofs.AnswerLemmas.{AppendsNew, Fits, IsGiven, step-fits}

-- A decider that is up is one of the world's.
pub up-listed : (deciders : List Decider) (n : ℕ) (memory : List Entry) → (get_or deciders n no_decider).memory ≡ Some memory → n < length deciders
up-listed [] n memory is = cc
up-listed (first ∷ rest) zero memory is = omega arith
up-listed (first ∷ rest) (suc n) memory is = let later : n < length rest = up-listed rest n memory is in omega (arith, later)

-- What holds of each decider, where one is put among them of which it holds.
pub put-each : (P : ℕ → Decider → Type 0) (deciders : List Decider) (k : ℕ) (decider : Decider) → P k decider
    → ((n : ℕ) → P n (get_or deciders n no_decider)) → (n : ℕ) → P n (get_or (set deciders k decider) n no_decider)
put-each P [] k decider new old n = old n
put-each P (first ∷ rest) zero decider new old zero = new
put-each P (first ∷ rest) zero decider new old (suc n) = old (suc n)
put-each P (first ∷ rest) (suc k) decider new old zero = old zero
put-each P (first ∷ rest) (suc k) decider new old (suc n) = put-each (λ m d. P (suc m) d) rest k decider new (λ m. old (suc m)) n

-- The same where it holds of the others alone, and the one is put in the place of another.
put-other : (P : ℕ → Decider → Type 0) (deciders : List Decider) (k : ℕ) (decider : Decider) → k < length deciders → P k decider
    → ((n : ℕ) → (n ≡ k → ⊥) → P n (get_or deciders n no_decider)) → (n : ℕ) → P n (get_or (set deciders k decider) n no_decider)
put-other P [] k decider within new old n = absurd (omega (arith, within))
put-other P (first ∷ rest) zero decider within new old zero = new
put-other P (first ∷ rest) zero decider within new old (suc n) = old (suc n) (λ e. omega (arith, e))
put-other P (first ∷ rest) (suc k) decider within new old zero = old zero (λ e. omega (arith, e))
put-other P (first ∷ rest) (suc k) decider within new old (suc n) =
    put-other (λ m d. P (suc m) d) rest k decider (omega (arith, within)) new (λ m apart. old (suc m) (λ e. apart (omega (arith, e)))) n

-- The event proposes nothing else.
abbrev pub MayPropose : (TxnId → Bool → Type 0) → Event → Type 0
MayPropose Proposed (proposal n txn commits ending) = Proposed txn commits
MayPropose Proposed (delivery number ending) = ⊤
MayPropose Proposed (stop n) = ⊤
MayPropose Proposed (start n) = ⊤

module _ (setup : Setup) (Proposed : TxnId → Bool → Type 0) (w : World) where
  -- Nothing is recorded or sent, and no entry is new.
  module _ (v : World) (count : length v.deciders ≡ length w.deciders) (records : (m : ℕ) → records_at v m ≡ records_at w m)
      (held : (m : ℕ) (entry : Entry) → Holds v m entry → Holds w m entry) (sent : v.sent ≡ w.sent) (lines : v.lines ≡ w.lines) where
    quiet-step : IsStep setup Proposed w v
    quiet-step = record {
      count = count;
      records = λ m. as_was (records m);
      entries = λ m entry h. inl (held m entry h, λ commits has. inl (subst (λ (kept : List Record). Contains kept (value_accepted entry.txn entry.ballot commits)) (records m) has));
      sent = λ envelope h. inl (subst (λ (all : List Envelope). Contains all envelope) sent h);
      lines = λ line h. inl (subst (λ (all : List Line). Contains all line) lines h);
    }

  same-step : IsStep setup Proposed w w
  same-step = quiet-step w refl (λ m. refl) (λ m entry h. h) refl refl

  -- A decider has another memory, with no new entry.
  memory-step : (n : ℕ) (memory : Option (List Entry)) → ((entry : Entry) → Contains (entries_in memory) entry → Holds w n entry)
      → IsStep setup Proposed w (with_content w n (records_at w n) memory)
  memory-step n memory left =
      let now : Decider = record { records = records_at w n; memory = memory } in
      quiet-step (with_content w n (records_at w n) memory) (length-set w.deciders n now)
      (put-each (λ m d. d.records ≡ records_at w m) w.deciders n now refl (λ m. refl))
      (put-each (λ m d. (entry : Entry) → Contains (entries_in d.memory) entry → Holds w m entry) w.deciders n now left (λ m entry h. h)) refl refl

  -- A decider's records and memory change.
  module _ (n : ℕ) (within : n < length w.deciders) (records : List Record) (memory : Option (List Entry)) (sent : List Envelope) (lines : List Line) where
    abbrev V : World
    V = record (with_content w n records memory) { sent = sent; lines = lines }

    abbrev Now : Decider
    Now = record { records = records; memory = memory }

    changed-records : records_at V n ≡ records
    changed-records = ap (λ (d : Decider). d.records) (get_or-set_same w.deciders n Now no_decider within)

    other-records : (m : ℕ) → (m ≡ n → ⊥) → records_at V m ≡ records_at w m
    other-records m apart =
        put-other (λ k d. (k ≡ n → ⊥) → d.records ≡ records_at w k) w.deciders n Now within (λ wrong. absurd (wrong refl)) (λ k away again. refl) m apart

    grown : (appended : Option Record) → records ≡ records_at w n ++ option_to_list appended → AppendsNew setup w n appended → MayGrow setup Proposed w V n
    grown None same causes = as_was (changed-records ∙ (same ∙ append-nil (records_at w n)))
    grown (Some kept) same causes = one_more kept causes (changed-records ∙ same)

    change-step : (appended : Option Record) → records ≡ records_at w n ++ option_to_list appended → AppendsNew setup w n appended
        → ((entry : Entry) → Contains (entries_in memory) entry → (Holds w n entry × Spares setup Proposed w V n entry.txn entry.ballot) ⊎ NewEntry setup Proposed w V n entry)
        → ((envelope : Envelope) → Contains sent envelope → Contains w.sent envelope ⊎ NewMessage setup Proposed w V envelope.from envelope.message)
        → ((line : Line) → Contains lines line → Contains w.lines line ⊎ NewLine setup Proposed w V line) → IsStep setup Proposed w V
    change-step appended same causes entries messages reports = record {
      count = length-set w.deciders n Now;
      records = λ m. ⊎_elim (λ (at : m ≡ n). subst (MayGrow setup Proposed w V) (sym at) (grown appended same causes)) (λ apart. as_was (other-records m apart)) (cases_eq m n);
      entries = put-other (λ m d. (entry : Entry) → Contains (entries_in d.memory) entry
          → (Holds w m entry × Spares setup Proposed w V m entry.txn entry.ballot) ⊎ NewEntry setup Proposed w V m entry) w.deciders n Now within
          entries (λ m apart entry h. inl (h, λ commits has. inl (subst (λ (kept : List Record). Contains kept (value_accepted entry.txn entry.ballot commits)) (other-records m apart) has)));
      sent = messages;
      lines = reports;
    }

  -- An answer is put into the world.
  module _ (n : ℕ) (memory : List Entry) (up : (decider_at w n).memory ≡ Some memory) (input : Input) (is : IsGiven setup Proposed w n input) where
    answered : (answer : Answer) (ending : Ending) → ((v : World) → Fits setup Proposed w v n memory up (up-listed w.deciders n memory up) answer)
        → IsStep setup Proposed w (ended w n answer ending)
    answered answer whole fits =
        let within = up-listed w.deciders n memory up in
        let records = records_at w n ++ option_to_list answer.appended in
        let sent = w.sent ++ from_decider n answer.sends in
        let lines = w.lines ++ answer.lines in
        let v : World = V n within records (Some answer.entries) sent lines in
        let fit = fits v (changed-records n within records (Some answer.entries) sent lines) in
        change-step n within records (Some answer.entries) sent lines answer.appended refl fit.appended fit.entries
        (λ envelope h. ⊎_elim (λ old. inl old)
        (λ new. let found = Contains-unmap (λ (o : Outgoing). record { from = n; to = o.to; message = o.message }) answer.sends envelope new in
        inr (subst (λ (e : Envelope). NewMessage setup Proposed w v e.from e.message) found.1.1 (fit.sends found.0 found.1.0)))
        (Contains-append_cases w.sent (from_decider n answer.sends) envelope h))
        (λ line h. ⊎_elim (λ old. inl old) (λ new. inr (fit.lines line new)) (Contains-append_cases w.lines answer.lines line h))
    answered answer (broken recorded) fits =
        let within = up-listed w.deciders n memory up in
        let records = records_at w n ++ option_to_list answer.appended in
        let fit = fits (V n within records (Some answer.entries) w.sent w.lines) (changed-records n within records (Some answer.entries) w.sent w.lines) in
        by recorded answer.appended fit.appended where
          by : (recorded : Bool) (appended : Option Record) → AppendsNew setup w n appended
              → IsStep setup Proposed w (with_content w n (records_at w n ++ (if recorded then option_to_list appended else [])) None)
          by true appended causes =
              change-step n (up-listed w.deciders n memory up) (records_at w n ++ option_to_list appended) None w.sent w.lines appended refl causes
              (λ entry h. absurd (Contains-nil entry h)) (λ envelope h. inl h) (λ line h. inl h)
          by false appended causes =
              change-step n (up-listed w.deciders n memory up) (records_at w n ++ []) None w.sent w.lines None refl tt
              (λ entry h. absurd (Contains-nil entry h)) (λ envelope h. inl h) (λ line h. inl h)

  given-step : (n : ℕ) (input : Input) (ending : Ending) → IsGiven setup Proposed w n input → (memory : Option (List Entry)) → (decider_at w n).memory ≡ memory
      → IsStep setup Proposed w (given setup w n input ending memory)
  given-step n input ending is None down = same-step
  given-step n input ending is (Some memory) up =
      answered n memory up input is (step setup (record { me = n; records = records_at w n; entries = memory }) input) ending
      (λ v. step-fits setup Proposed w v n memory up (up-listed w.deciders n memory up) input is)

  delivered-step : (number : ℕ) (ending : Ending) (found : Option Envelope) → slice_get w.sent number ≡ found → IsStep setup Proposed w (delivered setup w ending found)
  delivered-step number ending None is = same-step
  delivered-step number ending (Some envelope) is =
      given-step envelope.to (receive envelope.from envelope.message) ending
      (number, slice_get_within w.sent number envelope is, get_or_from_slice_get w.sent number envelope envelope is) (decider_at w envelope.to).memory refl

  started-held : (n : ℕ) (memory : Option (List Entry)) → (decider_at w n).memory ≡ memory → (entry : Entry) → Contains (entries_in (started memory)) entry → Holds w n entry
  started-held n None down entry h = absurd (Contains-nil entry h)
  started-held n (Some memory) up entry h = subst (λ (m : Option (List Entry)). Contains (entries_in m) entry) (sym up) h

  pub event-step : (event : Event) → MayPropose Proposed event → IsStep setup Proposed w (after_event setup w event)
  event-step (proposal n txn commits ending) may = given-step n (propose txn commits) ending may (decider_at w n).memory refl
  event-step (delivery number ending) may = delivered-step number ending (slice_get w.sent number) refl
  event-step (stop n) may = memory-step n None (λ entry h. absurd (Contains-nil entry h))
  event-step (start n) may = memory-step n (started (decider_at w n).memory) (started-held n (decider_at w n).memory refl)
