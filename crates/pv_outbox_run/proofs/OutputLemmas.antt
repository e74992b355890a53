-- What scripts keep of outputs: no output is released twice, and what was held and learnt is said to the end.
use Rattle.std.proofs.Common.{◌≡◌, ◌⊎◌, inl, inr, ℕ, ℤ, Bool, true, false, List, [], ◌∷◌, ◌++◌, Some, MatchBool, refl, sym, ap, subst, ◌∙◌, arith}
use Rattle.std.specs.Prelude.{◌≢◌, All, if◌then◌else◌}
use Rattle.std.specs.List.{AllPairs}
use Rattle.std.proofs.lemmas.Bool.{true≢false}
use Rattle.std.proofs.lemmas.List.{append_assoc}
use Rattle.std.proofs.lemmas.List.Elements.{All-cons, All-head, All-nil, All-tail}
use Rattle.std.proofs.lemmas.List.Kept.{AllPairs-cons}
use Rattle.pv_base.specs.Polyvalue.{Case}
use Rattle.pv_base.specs.declared.txn.TxnId.{TxnId}
use Rattle.pv_law_outbox.specs.Ready.{IsNext, NoneReady}
use Rattle.pv_law_outbox.specs.Runs as law
use Rattle.pv_law_outbox.specs.Runs.{Happens, IsKept, IsWritten, MayWrite, breaks, has_none, holds, holds_already, knows_already, learns, passes, releases}
use Rattle.pv_law_outbox.specs.State.{Record, held, learnt, taken, State, condition_of, is_taken, outcome_of, state_of}
use Rattle.pv_law_outbox.proofs.ReadyLemmas.{next-none}
use Rattle.pv_law_outbox.proofs.RunLemmas.{kept-by}
use Rattle.pv_law_outbox.proofs.StateLemmas.{after-held, after-learnt, after-taken, kept-refl, kept-trans, state_of-last}
use Rattle.pv_moored.specs.Reached.{Reached, reached, waits, fires}
use Rattle.pv_outbox_run.specs.Box.{AppendsBy, Box, Writes, is_left_by}
use Rattle.pv_outbox_run.specs.Does.{Does, DoesDown, DoesUp, Runs, StartsBy}
use Rattle.pv_outbox_run.specs.Outputs.{AreOnce, IsNever, IsTakenOrNot, out_of, outs}
use Rattle.pv_outbox_run.specs.ToldText.{broke}
use Rattle.pv_outbox_run.specs.declared.told.Told.{Told}
use Rattle.pv_outbox_run.specs.declared.told.Told.TheVariants as told
use Rattle.pv_outbox_script.specs.declared.event.Event.{Event}
use Rattle.pv_outbox_script.specs.declared.event.Event.TheVariants.{Hold, Learn, Take, Arm, Mend, Stop, Start}

-- What one event is of the law's events, and that it releases the output whose release that event writes, or none.
record IsStep (old new : Box) (says : List Told) : Type 0 where
  event : law.Event
  happens : Happens old.entries event new.entries
  part : (outs says ≡ []) ⊎ ((output : ℕ) × (outs says ≡ output ∷ []) × (event ≡ releases output))

outs-broke : (stops : Bool) → outs (broke stops ∷ []) ≡ []
outs-broke true = refl
outs-broke false = refl

-- An event that writes nothing and releases nothing.
step-same : (old new : Box) (said : Told) (says : List Told) → out_of said ≡ [] → says ≡ said ∷ [] → new.entries ≡ old.entries → IsStep old new says
step-same old new said says quiet is same = record {
  event = passes;
  happens = same;
  part = inl (ap outs is ∙ ap (λ (front : List ℕ). front ++ []) quiet);
}

step-silent : (old new : Box) (says : List Told) → says ≡ [] → new.entries ≡ old.entries → IsStep old new says
step-silent old new says is same = record { event = passes; happens = same; part = inl (ap outs is) }

module _ (old : Box) (entry : Record) (answer : Told) (event : law.Event) (may : MayWrite (state_of old.entries) entry)
    (happens : (new : List Record) → IsWritten old.entries entry new → Happens old.entries event new)
    (part : (outs (answer ∷ []) ≡ []) ⊎ ((output : ℕ) × (outs (answer ∷ []) ≡ output ∷ []) × (event ≡ releases output))) where
  happens-broke : (left : Bool) → Happens old.entries (breaks entry left) (if left then old.entries ++ entry ∷ [] else old.entries)
  happens-broke true = record { may = may; written = refl }
  happens-broke false = (may, refl)

  step-appends : (r : Reached) (said : Told) (new : Box) (says : List Told) → says ≡ said ∷ [] → AppendsBy r old entry answer said new → IsStep old new says
  step-appends (waits rest) said new says is comes =
      let told : says ≡ answer ∷ [] = is ∙ ap (λ (one : Told). one ∷ []) comes.0 in
      subst (λ (lines : List Told). IsStep old new lines) (sym told)
      (subst (λ (box : Box). IsStep old box (answer ∷ [])) (sym comes.1)
      (record { event = event; happens = happens (old.entries ++ entry ∷ []) (record { may = may; written = refl }); part = part }))
  step-appends (fires arm) said new says is comes =
      let told : says ≡ broke arm.stop ∷ [] = is ∙ ap (λ (one : Told). one ∷ []) comes.0 in
      subst (λ (lines : List Told). IsStep old new lines) (sym told)
      (subst (λ (box : Box). IsStep old box (broke arm.stop ∷ [])) (sym comes.1)
      (record { event = breaks entry (is_left_by arm); happens = happens-broke (is_left_by arm); part = inl (outs-broke arm.stop) }))

  step-writes : (said : Told) (new : Box) (says : List Told) → says ≡ said ∷ [] → Writes old entry answer said new → IsStep old new says
  step-writes said new says is (count, long, inl comes) = step-appends (reached 4 old.armed) said new says is comes.1
  step-writes said new says is (count, long, inr full) =
      step-same old new (told.Full count) says refl (is ∙ ap (λ (one : Told). one ∷ []) full.1) (ap (λ (box : Box). box.entries) full.2)

step-up : (old : Box) (event : Event) (says : List Told) (new : Box) → DoesUp old event says new → IsStep old new says
step-up old (Hold output when) says new (inl again) = record {
  event = holds_already output;
  happens = (again.0, ap (λ (box : Box). box.entries) again.1.1);
  part = inl (ap outs again.1.0);
}
step-up old (Hold output when) says new (inr does) =
    step-writes old (held output when) (told.Held output) (holds output when) does.0 (λ entries written. written) (inl refl) does.1.0 new says does.1.1 does.1.2
step-up old (Learn txn commits) says new (inl knows) = record {
  event = knows_already txn knows.0;
  happens = (knows.1, ap (λ (box : Box). box.entries) knows.2.1);
  part = inl (ap outs knows.2.0);
}
step-up old (Learn txn commits) says new (inr does) =
    step-writes old (learnt txn commits) (told.Learnt txn) (learns txn commits) does.0 (λ entries written. written) (inl refl) does.1.0 new says does.1.1 does.1.2
step-up old Take says new (inl none) = record {
  event = has_none;
  happens = (none.0, ap (λ (box : Box). box.entries) none.1.1);
  part = inl (ap outs none.1.0);
}
step-up old Take says new (inr does) =
    step-writes old (taken does.0) (told.Out does.0) (releases does.0) does.1 (λ entries written. written) (inr (does.0, refl, refl)) does.2.0 new says does.2.1 does.2.2
step-up old (Arm k mode stop) says new does = step-silent old new says does.0 (ap (λ (box : Box). box.entries) does.1)
step-up old Mend says new does = step-silent old new says does.0 (ap (λ (box : Box). box.entries) does.1)
step-up old Stop says new does = step-same old new told.Stopped says refl does.0 (ap (λ (box : Box). box.entries) does.1)
step-up old Start says new does = step-same old new told.Up says refl does.0 (ap (λ (box : Box). box.entries) does.1)

out-broke : (stops : Bool) → out_of (broke stops) ≡ []
out-broke true = refl
out-broke false = refl

step-starts : (r : Reached) (old : Box) (says : List Told) (new : Box) → StartsBy r old says new → IsStep old new says
step-starts (waits rest) old says new does = step-same old new told.Started says refl does.0 (ap (λ (box : Box). box.entries) does.1)
step-starts (fires arm) old says new does = step-same old new (broke arm.stop) says (out-broke arm.stop) does.0 (ap (λ (box : Box). box.entries) does.1)

step-down : (old : Box) (event : Event) (says : List Told) (new : Box) → DoesDown old event says new → IsStep old new says
step-down old (Hold output when) says new does = step-same old new told.Down says refl does.0 (ap (λ (box : Box). box.entries) does.1)
step-down old (Learn txn commits) says new does = step-same old new told.Down says refl does.0 (ap (λ (box : Box). box.entries) does.1)
step-down old Take says new does = step-same old new told.Down says refl does.0 (ap (λ (box : Box). box.entries) does.1)
step-down old (Arm k mode stop) says new does = step-silent old new says does.0 (ap (λ (box : Box). box.entries) does.1)
step-down old Mend says new does = step-silent old new says does.0 (ap (λ (box : Box). box.entries) does.1)
step-down old Stop says new does = step-same old new told.Down says refl does.0 (ap (λ (box : Box). box.entries) does.1)
step-down old Start says new does = step-starts (reached 1 old.armed) old says new does

step-by : (up : Bool) (old : Box) (event : Event) (says : List Told) (new : Box) → MatchBool up (DoesUp old event says new) (DoesDown old event says new) → IsStep old new says
step-by true old event says new does = step-up old event says new does
step-by false old event says new does = step-down old event says new does

step-of : (old : Box) (event : Event) (says : List Told) (new : Box) → Does old event says new → IsStep old new says
step-of old event says new does = step-by old.is_up old event says new does

-- All that a run keeps.
pub kept-run : (events : List Event) (old new : Box) (says : List Told) → Runs old events says new → IsKept (state_of old.entries) (state_of new.entries)
kept-run [] old new says runs =
    subst (λ (box : Box). IsKept (state_of old.entries) (state_of box.entries)) (sym runs.1) (kept-refl (state_of old.entries))
kept-run (event ∷ events) old new says runs =
    let step = step-of old event runs.1 runs.0 runs.4 in
    kept-trans (state_of old.entries) (state_of runs.0.entries) (state_of new.entries) (kept-by old.entries step.event runs.0.entries step.happens)
    (kept-run events runs.0 new runs.2 runs.5)

outs-append : (says more : List Told) → outs (says ++ more) ≡ outs says ++ outs more
outs-append [] more = refl
outs-append (said ∷ says) more = ap (λ (rest : List ℕ). out_of said ++ rest) (outs-append says more) ∙ sym (append_assoc (out_of said) (outs says) (outs more))

-- What is released in one event wasn't before, and is then.
module _ (old new : Box) (output : ℕ) (happens : Happens old.entries (releases output) new.entries) where
  untaken : is_taken (state_of old.entries) output ≡ false
  untaken =
      let next : IsNext (state_of old.entries) output = happens.may in
      subst (λ (o : ℕ). is_taken (state_of old.entries) o ≡ false) next.output_is next.ready.untaken

  then-taken : is_taken (state_of new.entries) output ≡ true
  then-taken =
      ap (λ (state : State). is_taken state output) (ap state_of happens.written ∙ state_of-last old.entries (taken output)) ∙ after-taken (state_of old.entries) output

module _ (old mid : Box) (first later : List Told) (step : IsStep old mid first) where
  never-by : (output : ℕ) → is_taken (state_of old.entries) output ≡ true → IsNever output later
      → (outs first ≡ []) ⊎ ((other : ℕ) × (outs first ≡ other ∷ []) × (step.event ≡ releases other)) → All (λ other. output ≢ other) (outs first ++ outs later)
  never-by output is rest (inl none) = subst (λ (front : List ℕ). All (λ other. output ≢ other) (front ++ outs later)) (sym none) rest
  never-by output is rest (inr (other, one, released)) =
      subst (λ (front : List ℕ). All (λ another. output ≢ another) (front ++ outs later)) (sym one)
      (All-cons (λ another. output ≢ another) other (outs later)
      (λ same. true≢false (sym is ∙ ap (is_taken (state_of old.entries)) same ∙ untaken old mid other (subst (λ (e : law.Event). Happens old.entries e mid.entries) released step.happens))) rest)

  once-by : ((output : ℕ) → is_taken (state_of mid.entries) output ≡ true → IsNever output later) → AreOnce later
      → (outs first ≡ []) ⊎ ((other : ℕ) × (outs first ≡ other ∷ []) × (step.event ≡ releases other)) → AllPairs (λ output other. output ≢ other) (outs first ++ outs later)
  once-by never rest (inl none) = subst (λ (front : List ℕ). AllPairs (λ output other. output ≢ other) (front ++ outs later)) (sym none) rest
  once-by never rest (inr (output, one, released)) =
      subst (λ (front : List ℕ). AllPairs (λ one other. one ≢ other) (front ++ outs later)) (sym one)
      (AllPairs-cons (λ one other. one ≢ other) output (outs later)
      (never output (then-taken old mid output (subst (λ (e : law.Event). Happens old.entries e mid.entries) released step.happens))) rest)

-- What is released before some events isn't released by them.
pub never-run : (events : List Event) (old new : Box) (says : List Told) → Runs old events says new → (output : ℕ) → is_taken (state_of old.entries) output ≡ true → IsNever output says
never-run [] old new says runs output is = subst (λ (lines : List Told). IsNever output lines) (sym runs.0) (All-nil (λ other. output ≢ other))
never-run (event ∷ events) old new says runs output is =
    let step = step-of old event runs.1 runs.0 runs.4 in
    subst (λ (lines : List Told). IsNever output lines) (sym runs.3)
    (subst (λ (all : List ℕ). All (λ other. output ≢ other) all) (sym (outs-append runs.1 runs.2))
    (never-by old runs.0 runs.1 runs.2 step output is
    (never-run events runs.0 new runs.2 runs.5 output ((kept-by old.entries step.event runs.0.entries step.happens).taken output is)) step.part))

-- What events release is released by their end.
module _ (old mid last : Box) (first later : List Told) (step : IsStep old mid first) where
  taken-by : All (λ output. is_taken (state_of last.entries) output ≡ true) (outs later) → IsKept (state_of mid.entries) (state_of last.entries)
      → (outs first ≡ []) ⊎ ((output : ℕ) × (outs first ≡ output ∷ []) × (step.event ≡ releases output))
      → All (λ output. is_taken (state_of last.entries) output ≡ true) (outs first ++ outs later)
  taken-by rest kept (inl none) = subst (λ (front : List ℕ). All (λ output. is_taken (state_of last.entries) output ≡ true) (front ++ outs later)) (sym none) rest
  taken-by rest kept (inr (output, one, released)) =
      subst (λ (front : List ℕ). All (λ other. is_taken (state_of last.entries) other ≡ true) (front ++ outs later)) (sym one)
      (All-cons (λ other. is_taken (state_of last.entries) other ≡ true) output (outs later)
      (kept.taken output (then-taken old mid output (subst (λ (e : law.Event). Happens old.entries e mid.entries) released step.happens))) rest)

taken-run : (events : List Event) (old new : Box) (says : List Told) → Runs old events says new → All (λ output. is_taken (state_of new.entries) output ≡ true) (outs says)
taken-run [] old new says runs =
    subst (λ (lines : List Told). All (λ output. is_taken (state_of new.entries) output ≡ true) (outs lines)) (sym runs.0)
    (All-nil (λ output. is_taken (state_of new.entries) output ≡ true))
taken-run (event ∷ events) old new says runs =
    let step = step-of old event runs.1 runs.0 runs.4 in
    subst (λ (lines : List Told). All (λ output. is_taken (state_of new.entries) output ≡ true) (outs lines)) (sym runs.3)
    (subst (λ (all : List ℕ). All (λ output. is_taken (state_of new.entries) output ≡ true) all) (sym (outs-append runs.1 runs.2))
    (taken-by old runs.0 new runs.1 runs.2 step (taken-run events runs.0 new runs.2 runs.5) (kept-run events runs.0 new runs.2 runs.5) step.part))

apart-from : (state : State) (output : ℕ) → is_taken state output ≡ false → (others : List ℕ) → All (λ other. is_taken state other ≡ true) others
    → All (λ other. output ≢ other) others
apart-from state output un [] all = All-nil (λ other. output ≢ other)
apart-from state output un (other ∷ others) all =
    All-cons (λ another. output ≢ another) other others
    (λ same. true≢false (sym (All-head (λ another. is_taken state another ≡ true) other others all) ∙ sym (ap (is_taken state) same) ∙ un))
    (apart-from state output un others (All-tail (λ another. is_taken state another ≡ true) other others all))

-- What is ready after some events wasn't released by them.
next-never : (events : List Event) (old new : Box) (says : List Told) → Runs old events says new → (output : ℕ) → IsNext (state_of new.entries) output → IsNever output says
next-never events old new says runs output next =
    apart-from (state_of new.entries) output (subst (λ (o : ℕ). is_taken (state_of new.entries) o ≡ false) next.output_is next.ready.untaken) (outs says)
    (taken-run events old new says runs)

none-once : AreOnce []
none-once = λ i j d below within. absurd (omega (arith, within))

-- No output is released twice.
pub once-run : (events : List Event) (old new : Box) (says : List Told) → Runs old events says new → AreOnce says
once-run [] old new says runs = subst AreOnce (sym runs.0) none-once
once-run (event ∷ events) old new says runs =
    let step = step-of old event runs.1 runs.0 runs.4 in
    subst AreOnce (sym runs.3)
    (subst (λ (all : List ℕ). AllPairs (λ output other. output ≢ other) all) (sym (outs-append runs.1 runs.2))
    (once-by old runs.0 runs.1 runs.2 step (λ output is. never-run events runs.0 new runs.2 runs.5 output is) (once-run events runs.0 new runs.2 runs.5) step.part))

-- What is told of single events.

module _ (old new : Box) where
  ready-append : (r : Reached) (output other : ℕ) → IsNext (state_of old.entries) other → (said : Told) → told.Out output ∷ [] ≡ said ∷ [] → AppendsBy r old (taken other) (told.Out other) said new
      → IsNext (state_of old.entries) output
  ready-append (waits rest) output other next said is comes =
      let told_is : said ≡ told.Out other = comes.0 in
      let same : other ≡ output = cc in
      subst (IsNext (state_of old.entries)) same next
  ready-append (fires arm) output other next said is comes = by arm.stop comes.0
    where
      by : (stops : Bool) → said ≡ broke stops → IsNext (state_of old.entries) output
      by true tells = absurd (let wrong : ⊥ = cc in wrong)
      by false tells = absurd (let wrong : ⊥ = cc in wrong)

  ready-writes : (output other : ℕ) → IsNext (state_of old.entries) other → (said : Told) → told.Out output ∷ [] ≡ said ∷ [] → Writes old (taken other) (told.Out other) said new
      → IsNext (state_of old.entries) output
  ready-writes output other next said is (count, long, inl comes) = ready-append (reached 4 old.armed) output other next said is comes.1
  ready-writes output other next said is (count, long, inr full) =
      let tells : said ≡ told.Full count = full.1 in absurd (let wrong : ⊥ = cc in wrong)

  ready-up : (output : ℕ) → DoesUp old Take (told.Out output ∷ []) new → IsNext (state_of old.entries) output
  ready-up output (inl none) = let tells : told.Out output ∷ [] ≡ told.Nothing ∷ [] = none.1.0 in absurd (let wrong : ⊥ = cc in wrong)
  ready-up output (inr does) = ready-writes output does.0 does.1 does.2.0 does.2.1 does.2.2

  ready-by : (up : Bool) (output : ℕ) → MatchBool up (DoesUp old Take (told.Out output ∷ []) new) (DoesDown old Take (told.Out output ∷ []) new) → IsNext (state_of old.entries) output
  ready-by true output does = ready-up output does
  ready-by false output does = let tells : told.Out output ∷ [] ≡ told.Down ∷ [] = does.0 in absurd (let wrong : ⊥ = cc in wrong)

  -- An output that is released was the next one.
  pub ready-take : (output : ℕ) → Does old Take (told.Out output ∷ []) new → IsNext (state_of old.entries) output
  ready-take output does = ready-by old.is_up output does

  none-append : (r : Reached) (other : ℕ) (said : Told) → told.Nothing ∷ [] ≡ said ∷ [] → AppendsBy r old (taken other) (told.Out other) said new → ⊥
  none-append (waits rest) other said is comes = let tells : said ≡ told.Out other = comes.0 in let wrong : ⊥ = cc in wrong
  none-append (fires arm) other said is comes = by arm.stop comes.0
    where
      by : (stops : Bool) → said ≡ broke stops → ⊥
      by true tells = let wrong : ⊥ = cc in wrong
      by false tells = let wrong : ⊥ = cc in wrong

  none-up : DoesUp old Take (told.Nothing ∷ []) new → NoneReady (state_of old.entries) (state_of old.entries).held
  none-up (inl none) = none.0
  none-up (inr (other, next, (said, is, (count, long, inl comes)))) = absurd (none-append (reached 4 old.armed) other said is comes.1)
  none-up (inr (other, next, (said, is, (count, long, inr full)))) = let tells : said ≡ told.Full count = full.1 in absurd (let wrong : ⊥ = cc in wrong)

  none-by : (up : Bool) → MatchBool up (DoesUp old Take (told.Nothing ∷ []) new) (DoesDown old Take (told.Nothing ∷ []) new)
      → NoneReady (state_of old.entries) (state_of old.entries).held
  none-by true does = none-up does
  none-by false does = let tells : told.Nothing ∷ [] ≡ told.Down ∷ [] = does.0 in absurd (let wrong : ⊥ = cc in wrong)

  -- Where it is told that none is ready, none is.
  pub none-take : Does old Take (told.Nothing ∷ []) new → NoneReady (state_of old.entries) (state_of old.entries).held
  none-take does = none-by old.is_up does

  told-up : (says : List Told) → NoneReady (state_of old.entries) (state_of old.entries).held → DoesUp old Take says new → (says ≡ told.Nothing ∷ []) × (new ≡ old)
  told-up says none (inl is) = is.1
  told-up says none (inr (output, next, comes)) = absurd (next-none (state_of old.entries) output none next)

  -- Where none is ready it is told of an outbox that is up.
  pub none-told : (says : List Told) → old.is_up ≡ true → NoneReady (state_of old.entries) (state_of old.entries).held → Does old Take says new → (says ≡ told.Nothing ∷ []) × (new ≡ old)
  none-told says up none does = told-up says none (subst (λ (is : Bool). MatchBool is (DoesUp old Take says new) (DoesDown old Take says new)) up does)

  -- The record of the ready output stands, or nothing is written.
  abbrev IsLeftOrNot : Type 0
  IsLeftOrNot = (output : ℕ) × IsNext (state_of old.entries) output × ((new.entries ≡ old.entries ++ taken output ∷ []) ⊎ (new.entries ≡ old.entries))

  taken-left : (left : Bool) (output : ℕ) → IsNext (state_of old.entries) output → new.entries ≡ (if left then old.entries ++ taken output ∷ [] else old.entries) → IsLeftOrNot
  taken-left true output next is = (output, next, inl is)
  taken-left false output next is = (output, next, inr is)

  -- Neither of these is told of what fires.
  quiet-broke : (stops : Bool) (said : Told) → broke stops ∷ [] ≡ said ∷ [] → ((output : ℕ) → said ≡ told.Out output → ⊥) × ((count : ℕ) → said ≡ told.Full count → ⊥)
  quiet-broke true said is = (λ output tells. let wrong : ⊥ = cc in wrong, λ count tells. let wrong : ⊥ = cc in wrong)
  quiet-broke false said is = (λ output tells. let wrong : ⊥ = cc in wrong, λ count tells. let wrong : ⊥ = cc in wrong)

  stopped-append : (r : Reached) (stops : Bool) (output : ℕ) → IsNext (state_of old.entries) output → (said : Told) → broke stops ∷ [] ≡ said ∷ []
      → AppendsBy r old (taken output) (told.Out output) said new → IsLeftOrNot
  stopped-append (waits rest) stops output next said is comes = absurd ((quiet-broke stops said is).0 output comes.0)
  stopped-append (fires arm) stops output next said is comes = taken-left (is_left_by arm) output next (ap (λ (box : Box). box.entries) comes.1)

  stopped-up : (stops : Bool) → DoesUp old Take (broke stops ∷ []) new → IsLeftOrNot
  stopped-up true (inl none) = let tells : told.Stopped ∷ [] ≡ told.Nothing ∷ [] = none.1.0 in absurd (let wrong : ⊥ = cc in wrong)
  stopped-up false (inl none) = let tells : told.Fault ∷ [] ≡ told.Nothing ∷ [] = none.1.0 in absurd (let wrong : ⊥ = cc in wrong)
  stopped-up stops (inr (output, next, (said, is, (count, long, inl comes)))) = stopped-append (reached 4 old.armed) stops output next said is comes.1
  stopped-up stops (inr (output, next, (said, is, (count, long, inr full)))) = absurd ((quiet-broke stops said is).1 count full.1)

  stopped-by : (up stops : Bool) → MatchBool up (DoesUp old Take (broke stops ∷ []) new) (DoesDown old Take (broke stops ∷ []) new) → IsLeftOrNot
  stopped-by true stops does = stopped-up stops does
  stopped-by false true does = let tells : told.Stopped ∷ [] ≡ told.Down ∷ [] = does.0 in absurd (let wrong : ⊥ = cc in wrong)
  stopped-by false false does = let tells : told.Fault ∷ [] ≡ told.Down ∷ [] = does.0 in absurd (let wrong : ⊥ = cc in wrong)

  -- After a `take` that stopped or failed the record stands or it doesn't.
  stopped-take : (stops : Bool) → Does old Take (broke stops ∷ []) new → IsLeftOrNot
  stopped-take stops does = stopped-by old.is_up stops does

  module _ (first last : Box) (before since : List Event) (earlier later : List Told) (ran : Runs first before earlier old) (runs : Runs new since later last) where
    left-nowhere : (output : ℕ) → IsNext (state_of old.entries) output → new.entries ≡ old.entries ++ taken output ∷ [] → IsNever output later
    left-nowhere output next written = never-run since new last later runs output (then-taken old new output (record { may = next; written = written }))

    stopped-with : IsLeftOrNot → IsTakenOrNot old new earlier later
    stopped-with (output, next, inl written) = record {
      output = output;
      next = next;
      before = next-never before first old earlier ran output next;
      since = inl (written, left-nowhere output next written);
    }
    stopped-with (output, next, inr same) = record { output = output; next = next; before = next-never before first old earlier ran output next; since = inr same }

    -- And where it does, the output is released nowhere in the run.
    pub stopped-nowhere : (stops : Bool) → Does old Take (broke stops ∷ []) new → IsTakenOrNot old new earlier later
    stopped-nowhere stops does = stopped-with (stopped-take stops does)

  -- A call that is answered has written its record.
  module _ (entry : Record) (answer said : Told) (distinct : ((stops : Bool) → answer ≡ broke stops → ⊥) × ((count : ℕ) → answer ≡ told.Full count → ⊥)) (is : answer ∷ [] ≡ said ∷ []) where
    same-said : answer ≡ said
    same-said = cc

    written-append : (r : Reached) → AppendsBy r old entry answer said new → new.entries ≡ old.entries ++ entry ∷ []
    written-append (waits rest) comes = ap (λ (box : Box). box.entries) comes.1
    written-append (fires arm) comes = absurd (distinct.0 arm.stop (same-said ∙ comes.0))

    written-writes : Writes old entry answer said new → new.entries ≡ old.entries ++ entry ∷ []
    written-writes (count, long, inl comes) = written-append (reached 4 old.armed) comes.1
    written-writes (count, long, inr full) = absurd (distinct.1 count (same-said ∙ full.1))

  distinct-held : (output : ℕ) → ((stops : Bool) → told.Held output ≡ broke stops → ⊥) × ((count : ℕ) → told.Held output ≡ told.Full count → ⊥)
  distinct-held output = (by, λ count is. let wrong : ⊥ = cc in wrong)
    where
      by : (stops : Bool) → told.Held output ≡ broke stops → ⊥
      by true is = let wrong : ⊥ = cc in wrong
      by false is = let wrong : ⊥ = cc in wrong

  distinct-learnt : (txn : TxnId) → ((stops : Bool) → told.Learnt txn ≡ broke stops → ⊥) × ((count : ℕ) → told.Learnt txn ≡ told.Full count → ⊥)
  distinct-learnt txn = (by, λ count is. let wrong : ⊥ = cc in wrong)
    where
      by : (stops : Bool) → told.Learnt txn ≡ broke stops → ⊥
      by true is = let wrong : ⊥ = cc in wrong
      by false is = let wrong : ⊥ = cc in wrong

  held-by : (up : Bool) (output : ℕ) (when : List (Case ℤ))
      → MatchBool up (DoesUp old (Hold output when) (told.Held output ∷ []) new) (DoesDown old (Hold output when) (told.Held output ∷ []) new)
      → condition_of (state_of new.entries) output ≡ Some when
  held-by true output when (inl again) = let tells : told.Held output ∷ [] ≡ told.Again output ∷ [] = again.1.0 in absurd (let wrong : ⊥ = cc in wrong)
  held-by true output when (inr (may, (said, is, writes))) =
      ap (λ (entries : List Record). condition_of (state_of entries) output) (written-writes (held output when) (told.Held output) said (distinct-held output) is writes)
      ∙ ap (λ (state : State). condition_of state output) (state_of-last old.entries (held output when)) ∙ after-held (state_of old.entries) output when may
  held-by false output when does = let tells : told.Held output ∷ [] ≡ told.Down ∷ [] = does.0 in absurd (let wrong : ⊥ = cc in wrong)

  -- What was held is held then.
  pub held-then : (output : ℕ) (when : List (Case ℤ)) → Does old (Hold output when) (told.Held output ∷ []) new → condition_of (state_of new.entries) output ≡ Some when
  held-then output when does = held-by old.is_up output when does

  learnt-by : (up : Bool) (txn : TxnId) (commits : Bool)
      → MatchBool up (DoesUp old (Learn txn commits) (told.Learnt txn ∷ []) new) (DoesDown old (Learn txn commits) (told.Learnt txn ∷ []) new)
      → outcome_of (state_of new.entries) txn ≡ Some commits
  learnt-by true txn commits (inl (known, knew, (is, same))) = let tells : told.Learnt txn ∷ [] ≡ told.Known txn known ∷ [] = is in absurd (let wrong : ⊥ = cc in wrong)
  learnt-by true txn commits (inr (may, (said, is, writes))) =
      ap (λ (entries : List Record). outcome_of (state_of entries) txn) (written-writes (learnt txn commits) (told.Learnt txn) said (distinct-learnt txn) is writes)
      ∙ ap (λ (state : State). outcome_of state txn) (state_of-last old.entries (learnt txn commits)) ∙ after-learnt (state_of old.entries) txn commits may
  learnt-by false txn commits does = let tells : told.Learnt txn ∷ [] ≡ told.Down ∷ [] = does.0 in absurd (let wrong : ⊥ = cc in wrong)

  -- What was learnt is known then.
  pub learnt-then : (txn : TxnId) (commits : Bool) → Does old (Learn txn commits) (told.Learnt txn ∷ []) new → outcome_of (state_of new.entries) txn ≡ Some commits
  learnt-then txn commits does = learnt-by old.is_up txn commits does
