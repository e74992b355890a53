-- Each event is a move, wherever it stops a site.
use Rattle.std.proofs.Common.{◌≡◌, ◌⊎◌, ⊎_elim, ℕ, zero, suc, ◌+◌, Bool, true, false, Some, None, Option, List, [], ◌∷◌, ◌++◌, inl, inr, refl, sym, ap, subst, ◌∙◌}
use Rattle.std.specs.Prelude.{◌≢◌, ◌==◌, get_or, set, slice_get, option_to_list, nat_lt}
use Rattle.std.specs.List.{Contains}
use Rattle.std.proofs.lemmas.Bool.{eqb-true, eq-eqb, false≢true}
use Rattle.std.proofs.lemmas.List.{append-nil, get_or-set_other}
use Rattle.std.proofs.lemmas.List.Elements.{Contains-append_cases}
use Rattle.std.proofs.lemmas.Option.{none-some}
use Rattle.pv_base.proofs.MapLemmas.{Contains-unmap}
use Rattle.pv_base.specs.declared.txn.TxnId.{TxnId}
use Rattle.pv_format.specs.Checkpoint.{Standing, greatest_number}
use Rattle.pv_format.specs.Contents.{greatest_epoch}
use Rattle.pv_format.specs.Message.{Envelope}
use Rattle.pv_format.specs.Record.{Record}
use Rattle.pv_law_acts.specs.Seen.{records_at, memory_at}
use Rattle.pv_law_refusals.proofs.Moves.{Comes, TakesInput, IsSentNow, SiteAfter, is_as_it_was, has_no_entry, has_stepped, IsMove}
use Rattle.pv_law_step.proofs.StartLemmas.{start-case}
use Rattle.pv_law_step.proofs.StepCases.{if_case}
use Rattle.pv_law_step.specs.StartCases as of_starts
use Rattle.pv_law_step.specs.StartCases.{StartCase}
use Rattle.pv_law_world.proofs.DisarmLemmas.{site-disarmed}
use Rattle.pv_law_world.proofs.EventView.{by-beginning}
use Rattle.pv_law_world.specs.EventView.{Beginning, begun_by, IsAsked, IsGuarded}
use Rattle.pv_model.specs.Events.{Event}
use Rattle.pv_protocol.specs.Anywhere as anywhere
use Rattle.pv_protocol.specs.Anywhere.{MayEnd, MayCome, MayFollow, disarmed}
use Rattle.pv_protocol.specs.Arms.{Reached, waits, fires, reached, calls_of, standing_made, completed, broken, attempted}
use Rattle.pv_protocol.specs.Attempt.{Attempt, Begun, at_once, attempts, begun, given, delivered, lost, halted, opened, packed, of_step, of_start, of_checkpoint}
use Rattle.pv_protocol.specs.Committed.{entry_in}
use Rattle.pv_protocol.specs.Lines.{Line}
use Rattle.pv_protocol.specs.Start.{Started, no_epoch, just_started, site_start}
use Rattle.pv_protocol.specs.State.{Setup, Site, Entry, Running, Arm, Input, submit, receive, tick, Outgoing, Step}
use Rattle.pv_protocol.specs.Step.{site_step}
use Rattle.pv_protocol.specs.Waiting.{is_tick_of}
use Rattle.pv_protocol.specs.World.{World, no_site, site_at, with_site, with_done, from_site}
use Rattle.pv_protocol.specs.WorldStep.{Transition, ended, transition_of}

-- a memory without entries
no-memory : (txn : TxnId) (entry : Entry) → entry_in None txn ≡ Some entry → ⊥
no-memory txn entry is = none-some _ is

no-entries : (epoch : ℕ) (txn : TxnId) (entry : Entry) → entry_in (Some (just_started epoch)) txn ≡ Some entry → ⊥
no-entries epoch txn entry is = none-some _ is

-- One of two numbers is the other, or isn't.
same-or-not : (n m : ℕ) → (n ≡ m) ⊎ (n ≢ m)
same-or-not n m = by (n == m) refl where
  by : (b : Bool) → (n == m) ≡ b → (n ≡ m) ⊎ (n ≢ m)
  by true is = inl (eqb-true n m is)
  by false is = inr (λ same. false≢true (sym is ∙ eq-eqb n m same))

unequal : (n m : ℕ) → n ≢ m → (n == m) ≡ false
unequal n m apart = by (n == m) refl where
  by : (b : Bool) → (n == m) ≡ b → b ≡ false
  by true is = absurd (apart (eqb-true n m is))
  by false is = refl

-- A site that is put in is there, if it is one of the sites.
put-at : (P : Site → Type 0) (sites : List Site) (n : ℕ) (site : Site) → P site → P no_site → P (get_or (set sites n site) n no_site)
put-at P [] n site new none = none
put-at P (first ∷ sites) zero site new none = new
put-at P (first ∷ sites) (suc n) site new none = put-at P sites n site new none

-- Put into the world, a site is as it is put, and the others are as they were.
put-after : (P : ℕ → Site → Type 0) (w : World) (n : ℕ) (site : Site) → P n site → P n no_site → ((m : ℕ) → n ≢ m → P m (site_at w m)) → (m : ℕ) → P m (site_at (with_site w n site) m)
put-after P w n site new none old m =
    ⊎_elim
    (λ same. subst (λ k. P k (site_at (with_site w n site) k)) same (put-at (P n) w.sites n site new none))
    (λ apart. subst (P m) (sym (get_or-set_other w.sites n m site no_site (λ same. apart (sym same)))) (old m apart))
    (same-or-not n m)

module _ (setup : Setup) (w : World) (event : Event) where
  -- what is shown of a site's memory
  abbrev After : ℕ → Option Running → Type 0
  After m memory = (after : World) → memory_at after m ≡ memory → SiteAfter setup w event after m

  -- a site whose memory is as it was, or of which there is nothing to know
  as-was : (m : ℕ) → is_tick_of m event ≡ false → After m (memory_at w m)
  as-was m untimed after is = is_as_it_was is untimed

  empty : (m : ℕ) → After m None
  empty m after is = has_no_entry (λ txn entry found. no-memory txn entry (subst (λ memory. entry_in memory txn ≡ Some entry) is found))

  fresh_start : (m epoch : ℕ) → After m (Some (just_started epoch))
  fresh_start m epoch after is = has_no_entry (λ txn entry found. no-entries epoch txn entry (subst (λ memory. entry_in memory txn ≡ Some entry) is found))

  -- the sites where one is put in
  put-sites : (before : World) → before.sites ≡ w.sites → (n : ℕ) (site : Site) → After n site.running → ((m : ℕ) → n ≢ m → is_tick_of m event ≡ false)
      → (m : ℕ) → After m (memory_at (with_site before n site) m)
  put-sites before sites n site new untimed =
      put-after (λ m (s : Site). After m s.running) before n site new (empty n)
      (λ m apart. subst (λ (all : List Site). After m (get_or all m no_site).running) (sym sites) (as-was m (untimed m apart)))

  -- What an event comes to before any write.
  pub data BeginsMove : Begun → Type 0 where
    settles : (lines : List Line) (after : World) → IsMove setup w event after → BeginsMove (at_once lines after)
    steps : (fresh : List Bool) (n : ℕ) (running : Running) (input : Input) → TakesInput w event n running input → ((m : ℕ) → n ≢ m → is_tick_of m event ≡ false)
        → BeginsMove (attempts (record w { fresh = fresh }) n (of_step n (site_step setup n (records_at w n) running input)))
    packs : (n : ℕ) (standing : Standing) (running : Running) → memory_at w n ≡ Some running → ((m : ℕ) → is_tick_of m event ≡ false)
        → BeginsMove (attempts w n (of_checkpoint standing running))
    opens : (n : ℕ) (started : Started) → StartCase setup 0 (records_at w n) started → ((m : ℕ) → is_tick_of m event ≡ false) → BeginsMove (attempts w n (of_start n started))

  -- nothing is sent, and each memory is as it was, or is empty
  silent : (after : World) → after.sent ≡ w.sent → ((m : ℕ) → After m (memory_at after m)) → IsMove setup w event after
  silent after sent sites = record {
    sent = λ from to message h. inl (subst (λ all. Contains all (record { from = from; to = to; message = message })) sent h);
    sites = λ m. sites m after refl;
  }

  untouched : (after : World) → after.sites ≡ w.sites → after.sent ≡ w.sent → ((m : ℕ) → is_tick_of m event ≡ false) → IsMove setup w event after
  untouched after sites sent untimed =
      silent after sent (λ m. subst (λ (all : List Site). After m (get_or all m no_site).running) (sym sites) (as-was m (untimed m)))

  given-makes : (fresh : List Bool) (n : ℕ) (input : Input) → Comes w event n input → ((m : ℕ) → n ≢ m → is_tick_of m event ≡ false) → (running : Option Running) → memory_at w n ≡ running
      → BeginsMove (given setup (record w { fresh = fresh }) n input running)
  given-makes fresh n input comes untimed None is = settles _ (record w { fresh = fresh }) (silent (record w { fresh = fresh }) refl (λ m. ⊎_elim
      (λ same. subst (λ k. After k (memory_at w k)) same (subst (After n) (sym is) (empty n)))
      (λ apart. as-was m (untimed m apart))
      (same-or-not n m)))
  given-makes fresh n input comes untimed (Some running) is = steps fresh n running input (record { comes = comes; up = is }) untimed

  delivered-makes : (number : ℕ) → event ≡ Event.deliver number → ((m : ℕ) → is_tick_of m event ≡ false) → (envelope : Option Envelope) → slice_get w.sent number ≡ envelope
      → BeginsMove (delivered setup w number envelope)
  delivered-makes number is untimed None found = settles _ w (untouched w refl refl untimed)
  delivered-makes number is untimed (Some envelope) found =
      given-makes (with_done w number).fresh envelope.to (receive envelope.from envelope.message) (number, (is, found)) (λ m apart. untimed m) (memory_at w envelope.to) refl

  lost-makes : (number : ℕ) → ((m : ℕ) → is_tick_of m event ≡ false) → (envelope : Option Envelope) → BeginsMove (lost w number envelope)
  lost-makes number untimed None = settles _ w (untouched w refl refl untimed)
  lost-makes number untimed (Some envelope) = settles _ (with_done w number) (untouched (with_done w number) refl refl untimed)

  put-makes : (lines : List Line) (n : ℕ) (site : Site) → After n site.running → ((m : ℕ) → is_tick_of m event ≡ false) → BeginsMove (at_once lines (with_site w n site))
  put-makes lines n site new untimed = settles lines (with_site w n site) (silent (with_site w n site) refl (put-sites w refl n site new (λ m apart. untimed m)))

  halted-makes : (n : ℕ) → ((m : ℕ) → is_tick_of m event ≡ false) → (running : Option Running) → BeginsMove (halted w n running)
  halted-makes n untimed None = settles _ w (untouched w refl refl untimed)
  halted-makes n untimed (Some running) = put-makes _ n (record (site_at w n) { running = None }) (empty n) untimed

  opened-makes : (n : ℕ) → ((m : ℕ) → is_tick_of m event ≡ false) → (running : Option Running) → BeginsMove (opened setup w n running)
  opened-makes n untimed (Some running) = settles _ w (untouched w refl refl untimed)
  opened-makes n untimed None = opens n (site_start setup 0 (records_at w n)) (start-case setup 0 (records_at w n)) untimed

  packed-makes : (n : ℕ) → ((m : ℕ) → is_tick_of m event ≡ false) → (running : Option Running) → memory_at w n ≡ running → BeginsMove (packed w n running)
  packed-makes n untimed None is = settles _ w (untouched w refl refl untimed)
  packed-makes n untimed (Some running) is =
      if_case BeginsMove (nat_lt (site_at w n).standing.number greatest_number) (λ left. packs n (site_at w n).standing running is untimed)
      (λ spent. settles _ w (untouched w refl refl untimed))

  -- How it ends.

  whole-step : (fresh : List Bool) (n : ℕ) (running : Running) (input : Input) → TakesInput w event n running input → ((m : ℕ) → n ≢ m → is_tick_of m event ≡ false) → (arm : Option Arm)
      → IsMove setup w event (completed (record w { fresh = fresh }) n (of_step n (site_step setup n (records_at w n) running input)) arm)
  whole-step fresh n running input takes untimed arm =
      let step : Step = site_step setup n (records_at w n) running input in
      let before : World = record w { fresh = fresh; order = w.order ++ option_to_list step.placed } in
      let site : Site = record { records = records_at w n ++ option_to_list step.appended; standing = (site_at w n).standing; arm = arm; running = Some step.running } in
      record {
        sent = λ from to message h. ⊎_elim
            (λ old. inl old)
            (λ new.
            let which = Contains-unmap (λ (o : Outgoing). record { from = n; to = o.to; message = o.message }) step.sends (record { from = from; to = to; message = message }) new in
            let at : n ≡ from = ap (λ (e : Envelope). e.from) which.1.1 in
            inr (subst (λ m. IsSentNow setup w event m to message) at
            (record {
              running = running;
              input = input;
              takes = takes;
              sent = subst (Contains step.sends) (λ i. record { to = (which.1.1 i).to; message = (which.1.1 i).message }) which.1.0;
            })))
            (Contains-append_cases w.sent (from_site n step.sends) (record { from = from; to = to; message = message }) h);
        sites = λ m. put-sites before refl n site (λ after is. has_stepped running input takes is) untimed m (completed (record w { fresh = fresh }) n (of_step n step) arm) refl;
      }

  -- a start sends nothing
  start-move : (n : ℕ) (attempt : Attempt) (arm : Option Arm) → attempt.sends ≡ [] → After n attempt.running → ((m : ℕ) → is_tick_of m event ≡ false)
      → IsMove setup w event (completed w n attempt arm)
  start-move n attempt arm none new untimed =
      silent (completed w n attempt arm) (ap (λ (sends : List Outgoing). w.sent ++ from_site n sends) none ∙ append-nil w.sent)
      (put-sites (record w { order = w.order ++ option_to_list attempt.placed }) refl n
      (record { records = records_at w n ++ option_to_list attempt.appended; standing = standing_made attempt.packs (site_at w n).standing; arm = arm; running = attempt.running })
      new (λ m apart. untimed m))

  whole-start : (n : ℕ) (started : Started) → StartCase setup 0 (records_at w n) started → ((m : ℕ) → is_tick_of m event ≡ false) → (arm : Option Arm)
      → IsMove setup w event (completed w n (of_start n started) arm)
  whole-start n started (of_starts.no_epoch_left h) untimed arm = start-move n (of_start n no_epoch) arm refl (empty n) untimed
  whole-start n started (of_starts.no_room h i) untimed arm = start-move n (of_start n started) arm refl (empty n) untimed
  whole-start n started (of_starts.begins h i) untimed arm = start-move n (of_start n started) arm refl (fresh_start n (greatest_epoch (records_at w n) + 1)) untimed

  -- a checkpoint sends nothing, and leaves the memory as it is
  whole-packing : (n : ℕ) (standing : Standing) (running : Running) → memory_at w n ≡ Some running → ((m : ℕ) → is_tick_of m event ≡ false) → (arm : Option Arm)
      → IsMove setup w event (completed w n (of_checkpoint standing running) arm)
  whole-packing n standing running is untimed arm = start-move n (of_checkpoint standing running) arm refl (subst (After n) is (as-was n (untimed n))) untimed

  broken-move : (fresh : List Bool) (n : ℕ) (left : Option Record) (standing : Standing) → ((m : ℕ) → n ≢ m → is_tick_of m event ≡ false)
      → IsMove setup w event (broken (record w { fresh = fresh }) n left standing)
  broken-move fresh n left standing untimed =
      silent (broken (record w { fresh = fresh }) n left standing) refl
      (put-sites (record w { fresh = fresh }) refl n (record { records = records_at w n ++ option_to_list left; standing = standing; arm = None; running = None }) (empty n) untimed)

  attempted-steps : (fresh : List Bool) (n : ℕ) (running : Running) (input : Input) → TakesInput w event n running input → ((m : ℕ) → n ≢ m → is_tick_of m event ≡ false) → (left : Reached)
      → IsMove setup w event (attempted (record w { fresh = fresh }) n (of_step n (site_step setup n (records_at w n) running input)) left).1
  attempted-steps fresh n running input takes untimed (waits arm) = whole-step fresh n running input takes untimed arm
  attempted-steps fresh n running input takes untimed (fires arm) = broken-move fresh n _ _ untimed

  attempted-opens : (n : ℕ) (started : Started) → StartCase setup 0 (records_at w n) started → ((m : ℕ) → is_tick_of m event ≡ false) → (left : Reached) → IsMove setup w event (attempted w n (of_start n started) left).1
  attempted-opens n started case untimed (waits arm) = whole-start n started case untimed arm
  attempted-opens n started case untimed (fires arm) = broken-move w.fresh n _ _ (λ m apart. untimed m)

  attempted-packs : (n : ℕ) (standing : Standing) (running : Running) → memory_at w n ≡ Some running → ((m : ℕ) → is_tick_of m event ≡ false) → (left : Reached)
      → IsMove setup w event (attempted w n (of_checkpoint standing running) left).1
  attempted-packs n standing running is untimed (waits arm) = whole-packing n standing running is untimed arm
  attempted-packs n standing running is untimed (fires arm) = broken-move w.fresh n _ _ (λ m apart. untimed m)

  ended-move : (b : Begun) → BeginsMove b → IsMove setup w event (ended b).1
  ended-move b (settles lines after move) = move
  ended-move b (steps fresh n running input takes untimed) =
      attempted-steps fresh n running input takes untimed (reached (calls_of (of_step n (site_step setup n (records_at w n) running input))) (site_at w n).arm)
  ended-move b (opens n started case untimed) = attempted-opens n started case untimed (reached (calls_of (of_start n started)) (site_at w n).arm)
  ended-move b (packs n standing running is untimed) = attempted-packs n standing running is untimed (reached (calls_of (of_checkpoint standing running)) (site_at w n).arm)

  end-steps : (fresh : List Bool) (n : ℕ) (running : Running) (input : Input) → TakesInput w event n running input → ((m : ℕ) → n ≢ m → is_tick_of m event ≡ false)
      → (lines : List Line) (after : World) → MayEnd (record w { fresh = fresh }) n (of_step n (site_step setup n (records_at w n) running input)) lines after → IsMove setup w event after
  end-steps fresh n running input takes untimed lines after anywhere.whole = whole-step fresh n running input takes untimed None
  end-steps fresh n running input takes untimed lines after (anywhere.without stops some standing may) = broken-move fresh n None standing untimed
  end-steps fresh n running input takes untimed lines after (anywhere.with_record stops appended is standing may) = broken-move fresh n (Some appended) standing untimed

  end-opens : (n : ℕ) (started : Started) → StartCase setup 0 (records_at w n) started → ((m : ℕ) → is_tick_of m event ≡ false)
      → (lines : List Line) (after : World) → MayEnd w n (of_start n started) lines after → IsMove setup w event after
  end-opens n started case untimed lines after anywhere.whole = whole-start n started case untimed None
  end-opens n started case untimed lines after (anywhere.without stops some standing may) = broken-move w.fresh n None standing (λ m apart. untimed m)
  end-opens n started case untimed lines after (anywhere.with_record stops appended is standing may) = broken-move w.fresh n (Some appended) standing (λ m apart. untimed m)

  end-packs : (n : ℕ) (was : Standing) (running : Running) → memory_at w n ≡ Some running → ((m : ℕ) → is_tick_of m event ≡ false)
      → (lines : List Line) (after : World) → MayEnd w n (of_checkpoint was running) lines after → IsMove setup w event after
  end-packs n was running up untimed lines after anywhere.whole = whole-packing n was running up untimed None
  end-packs n was running up untimed lines after (anywhere.without stops some standing may) = broken-move w.fresh n None standing (λ m apart. untimed m)
  end-packs n was running up untimed lines after (anywhere.with_record stops appended is standing may) = broken-move w.fresh n (Some appended) standing (λ m apart. untimed m)

  pub come-move : (b : Begun) → BeginsMove b → (lines : List Line) (after : World) → MayCome b lines after → IsMove setup w event after
  come-move b (settles reported after move) lines after' (anywhere.without_attempt reported' world') = move
  come-move b (steps fresh n running input takes untimed) lines after (anywhere.by_attempt before' after' n' attempt' lines' ends) =
      end-steps fresh n running input takes untimed lines after ends
  come-move b (opens n started case untimed) lines after (anywhere.by_attempt before' after' n' attempt' lines' ends) = end-opens n started case untimed lines after ends
  come-move b (packs n standing running is untimed) lines after (anywhere.by_attempt before' after' n' attempt' lines' ends) =
      end-packs n standing running is untimed lines after ends

-- What an event asks of a site comes to it.
pub asked-comes : (w : World) (event : Event) (n : ℕ) (input : Input) → IsAsked event n input → Comes w event n input
asked-comes w event n (submit program) asked = asked
asked-comes w event n (receive from message) never = absurd never
asked-comes w event n tick asked = asked

module _ (setup : Setup) (w : World) where
  -- The other sites don't tick.
  others-untimed : (event : Event) (n : ℕ) (input : Input) → IsAsked event n input → (m : ℕ) → n ≢ m → is_tick_of m event ≡ false
  others-untimed event n (submit program) (query, (text, is)) m apart = ap (is_tick_of m) is
  others-untimed event n (receive from message) never m apart = absurd never
  others-untimed event n tick is m apart = ap (is_tick_of m) is ∙ unequal n m apart

  beginning-makes : (event : Event) (beginning : Beginning) → IsGuarded event beginning → BeginsMove setup w event (begun_by setup w beginning)
  beginning-makes event (Beginning.gives n input) guard =
      given-makes setup w event w.fresh n input (asked-comes w event n input guard) (others-untimed event n input guard) (memory_at w n) refl
  beginning-makes event (Beginning.delivers number) guard = delivered-makes setup w event number guard (λ m. ap (is_tick_of m) guard) (slice_get w.sent number) refl
  beginning-makes event (Beginning.loses number) guard = lost-makes setup w event number guard (slice_get w.sent number)
  beginning-makes event (Beginning.drops n) guard = settles _ _ (untouched setup w event _ refl refl guard)
  beginning-makes event (Beginning.halts n) guard = halted-makes setup w event n guard (memory_at w n)
  beginning-makes event (Beginning.opens n) guard = opened-makes setup w event n guard.timeless (memory_at w n)
  beginning-makes event (Beginning.packs n) guard = packed-makes setup w event n guard.timeless (memory_at w n) refl
  beginning-makes event (Beginning.arms n arm) guard = put-makes setup w event _ n _ (as-was setup w event n (guard n)) guard
  beginning-makes event (Beginning.prints printed) guard = settles _ w (untouched setup w event w refl refl guard)

  begun-makes : (event : Event) → BeginsMove setup w event (begun setup w event)
  begun-makes event = by-beginning (BeginsMove setup w event) setup w event (beginning-makes event)

  pub transition-move : (event : Event) → IsMove setup w event (transition_of setup w event).world
  unfolding transition_of
  transition-move event = ended-move setup w event (begun setup w event) (begun-makes event)

  -- The world without armed faults is the same.
  disarmed-move : (event : Event) (after : World) → IsMove setup w event after → IsMove setup w event (disarmed after)
  disarmed-move event after move = record { sent = move.sent; sites = λ n. by n (move.sites n) } where
    same : (n : ℕ) → memory_at (disarmed after) n ≡ memory_at after n
    same n = ap (λ (s : Site). s.running) (site-disarmed after n)

    by : (n : ℕ) → SiteAfter setup w event after n → SiteAfter setup w event (disarmed after) n
    by n (is_as_it_was is untimed) = is_as_it_was (same n ∙ is) untimed
    by n (has_no_entry none) = has_no_entry (λ txn entry found. none txn entry (subst (λ memory. entry_in memory txn ≡ Some entry) (same n) found))
    by n (has_stepped running input takes is) = has_stepped running input takes (same n ∙ is)

  pub follow-move : (transition : Transition) → MayFollow setup w transition → IsMove setup w transition.event transition.world
  follow-move transition follows =
      subst (IsMove setup w transition.event) (sym follows.after)
      (disarmed-move transition.event follows.left
      (come-move setup w transition.event (begun setup w transition.event) (begun-makes transition.event) transition.lines follows.left follows.comes))
