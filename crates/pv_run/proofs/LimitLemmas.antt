-- What is written of a schedule within the limit on bytes is a beginning of all that there is to be written.
use Rattle.std.proofs.Common.{◌≡◌, ℕ, zero, suc, None, Some, Option, List, [], ◌∷◌, ◌++◌, drop, take, refl, sym, ap, ◌∙◌, subst}
use Rattle.std.proofs.lemmas.Grind.{flat_map-append}
use Rattle.std.proofs.lemmas.List.{append-nil, append_assoc}
use Rattle.pv_base.specs.Catalog.{Declared}
use Rattle.pv_base.specs.declared.limits.TheConstants.{MAX_SENT}
use Rattle.pv_io.specs.Stream.{AppendsPrefix}
use Rattle.pv_model.specs.Events.{Event, Schedule}
use Rattle.pv_model.specs.Schedule.{significant}
use Rattle.pv_model.specs.Text.{TextLine}
use Rattle.pv_protocol.specs.Limit.{Output, over_limit, run_within, unless_over}
use Rattle.pv_protocol.specs.Lines.{Line}
use Rattle.pv_protocol.specs.Run.{lines_of_transitions, printed, run, transitions_of, world_after}
use Rattle.pv_protocol.specs.State.{Setup}
use Rattle.pv_protocol.specs.World.{World, opening}
use Rattle.pv_protocol.specs.WorldStep.{Transition}
use Rattle.pv_site.specs.SiteState.{setup_of}
use Rattle.pv_run.specs.Forms.{line_in, lines_in}
use Rattle.pv_run.specs.InputAnswers.{output_of, output_within, within_limit, written_of, written_within}
use Rattle.pv_run.specs.Traced.{declaring, event_text, said_in, said_texts, text_from, text_unless, text_within, trace_of, trace_within}
use Rattle.pv_run.specs.declared.form.Form.{Form}
use Rattle.pv_run.specs.declared.form.Form.TheVariants.{Text, Json, Trace}
use Rattle.pv_run.proofs.OutputLemmas.{AppendsPrefix-front}

-- What is printed under a limit, with the rest of what events print, is all that they print; without a rest, where the limit isn't passed.
record Begins (all : List Line) (within : Output) : Type 0 where
  rest : List Line
  whole : all ≡ within.lines ++ rest
  none : within.over ≡ None → rest ≡ []

begins-event : (over : Option ℕ) (lines more : List Line) (rest : Output) → Begins more rest → Begins (lines ++ more) (unless_over over lines rest)
begins-event None lines more rest begins = record {
  rest = begins.rest;
  whole = ap (λ (ls : List Line). lines ++ ls) begins.whole ∙ sym (append_assoc lines rest.lines begins.rest);
  none = begins.none;
}
begins-event (Some total) lines more rest begins = record { rest = lines ++ more; whole = refl; none = λ none. absurd (let wrong : ⊥ = cc in wrong) }

begins-run : (limit : ℕ) (setup : Setup) (world : World) (events : List Event) → Begins (lines_of_transitions (run setup world events)) (run_within limit setup world events)
begins-run limit setup world [] = record { rest = []; whole = refl; none = λ none. refl }
begins-run limit setup world (event ∷ events) =
    let now = transitions_of setup world event in
    let after = world_after world now in
    subst (λ (all : List Line). Begins all (run_within limit setup world (event ∷ events)))
    (sym (flat_map-append (λ (t : Transition). t.lines) now (run setup after events)))
    (begins-event (over_limit limit after) (lines_of_transitions now) (lines_of_transitions (run setup after events)) (run_within limit setup after events)
    (begins-run limit setup after events))

begins-output : (schedule : Schedule) → Begins (printed (setup_of schedule.catalog) schedule.events) (within_limit schedule)
unfolding within_limit printed
begins-output schedule = let setup = setup_of schedule.catalog in begins-run MAX_SENT setup (opening setup) schedule.events

-- Where the limit isn't passed, all lines are printed.
pub lines-within-limit : (schedule : Schedule) → (within_limit schedule).over ≡ None → (within_limit schedule).lines ≡ printed (setup_of schedule.catalog) schedule.events
lines-within-limit schedule within =
    sym (append-nil (within_limit schedule).lines)
    ∙ ap (λ (rest : List Line). (within_limit schedule).lines ++ rest) (sym ((begins-output schedule).none within))
    ∙ sym (begins-output schedule).whole

-- What is written under a limit, with the rest of what there is to be written, is the whole; without a rest, where the limit isn't passed.
record BeginsText (all within : List ℕ) (over : Option ℕ) : Type 0 where
  rest : List ℕ
  whole : all ≡ within ++ rest
  none : over ≡ None → rest ≡ []

-- the lines alone
begins-plain : (form : Form) (schedule : Schedule) → BeginsText (output_of form schedule) (output_within form schedule) (within_limit schedule).over
unfolding output_of
begins-plain form schedule = record {
  rest = lines_in form schedule.catalog (begins-output schedule).rest;
  whole =
      ap (lines_in form schedule.catalog) (begins-output schedule).whole
      ∙ flat_map-append (line_in form schedule.catalog) (within_limit schedule).lines (begins-output schedule).rest;
  none = λ none. ap (lines_in form schedule.catalog) ((begins-output schedule).none none);
}

-- and with the lines of the schedule
begins-one : (over : Option ℕ) (text more within : List ℕ) (lines : List Line) (rest : Output) → BeginsText more within rest.over
    → BeginsText (text ++ more) (text_unless over (text ++ within)) (unless_over over lines rest).over
begins-one None text more within lines rest begins = record {
  rest = begins.rest;
  whole = ap (λ (t : List ℕ). text ++ t) begins.whole ∙ sym (append_assoc text within begins.rest);
  none = begins.none;
}
begins-one (Some total) text more within lines rest begins = record { rest = text ++ more; whole = refl; none = λ none. absurd (let wrong : ⊥ = cc in wrong) }

begins-from : (form : Form) (limit : ℕ) (setup : Setup) (world : World) (said : List TextLine) (events : List Event)
    → BeginsText (text_from form setup world said events) (text_within form limit setup world said events) (run_within limit setup world events).over
begins-from form limit setup world said [] = record { rest = []; whole = refl; none = λ none. refl }
begins-from form limit setup world said (event ∷ events) =
    let now = transitions_of setup world event in
    let after = world_after world now in
    begins-one (over_limit limit after) (event_text form setup.catalog said (lines_of_transitions now)) (text_from form setup after (drop 1 said) events)
    (text_within form limit setup after (drop 1 said) events) (lines_of_transitions now) (run_within limit setup after events)
    (begins-from form limit setup after (drop 1 said) events)

begins-trace : (text : List ℕ) (schedule : Schedule) → BeginsText (trace_of text schedule) (trace_within text schedule) (within_limit schedule).over
unfolding trace_of trace_within within_limit
begins-trace text schedule =
    let setup = setup_of schedule.catalog in
    let said = significant text in
    let front = declaring said schedule.events in
    let begins = begins-from Trace MAX_SENT setup (opening setup) (drop front said) schedule.events in
    record {
      rest = begins.rest;
      whole = ap (λ (t : List ℕ). said_texts (take front said) ++ t) begins.whole
          ∙ sym (append_assoc (said_texts (take front said)) (text_within Trace MAX_SENT setup (opening setup) (drop front said) schedule.events) begins.rest);
      none = begins.none;
    }

begins-written : (form : Form) (text : List ℕ) (schedule : Schedule) → BeginsText (written_of form text schedule) (written_within form text schedule) (within_limit schedule).over
begins-written Text text schedule = begins-plain Text schedule
begins-written Json text schedule = begins-plain Json schedule
begins-written Trace text schedule = begins-trace text schedule

-- Where the limit isn't passed, all is written.
pub written-is-within : (form : Form) (text : List ℕ) (schedule : Schedule) → (within_limit schedule).over ≡ None → written_within form text schedule ≡ written_of form text schedule
written-is-within form text schedule within =
    let begins = begins-written form text schedule in
    sym (append-nil (written_within form text schedule)) ∙ ap (λ (rest : List ℕ). written_within form text schedule ++ rest) (sym (begins.none within)) ∙ sym begins.whole

-- A beginning of what is written within the limit is one of all that is to be written.
pub prefix-within : (form : Form) (text : List ℕ) (schedule : Schedule) (old new : Option (List ℕ))
    → AppendsPrefix old new (written_within form text schedule) → AppendsPrefix old new (written_of form text schedule)
prefix-within form text schedule old new written =
    let begins = begins-written form text schedule in
    subst (AppendsPrefix old new) (sym begins.whole) (AppendsPrefix-front old new (written_within form text schedule) begins.rest written)

-- ---- what is written by a run, event by event

plain-one : (over : Option ℕ) (form : Form) (catalog : Declared) (lines : List Line) (rest : Output) (text : List ℕ) → text ≡ lines_in form catalog rest.lines
    → text_unless over (lines_in form catalog lines ++ text) ≡ lines_in form catalog (unless_over over lines rest).lines
plain-one None form catalog lines rest text is =
    ap (λ (t : List ℕ). lines_in form catalog lines ++ t) is ∙ sym (flat_map-append (line_in form catalog) lines rest.lines)
plain-one (Some total) form catalog lines rest text is = refl

-- Without lines of the schedule they are the lines alone.
plain-from : (form : Form) (limit : ℕ) (setup : Setup) (world : World) (events : List Event)
    → text_within form limit setup world [] events ≡ lines_in form setup.catalog (run_within limit setup world events).lines
plain-from form limit setup world [] = refl
plain-from form limit setup world (event ∷ events) =
    let now = transitions_of setup world event in
    let after = world_after world now in
    plain-one (over_limit limit after) form setup.catalog (lines_of_transitions now) (run_within limit setup after events) (text_within form limit setup after [] events)
    (plain-from form limit setup after events)

take-nothing : (n : ℕ) → take {A = TextLine} n [] ≡ []
take-nothing zero = refl
take-nothing (suc n) = refl

drop-nothing : (n : ℕ) → drop {A = TextLine} n [] ≡ []
drop-nothing zero = refl
drop-nothing (suc n) = refl

plain-whole : (form : Form) (schedule : Schedule) (front : ℕ) → (said : List TextLine) → said ≡ []
    → output_within form schedule
    ≡ said_texts (take front said) ++ text_within form MAX_SENT (setup_of schedule.catalog) (opening (setup_of schedule.catalog)) (drop front said) schedule.events
unfolding within_limit
plain-whole form schedule front said none =
    let setup = setup_of schedule.catalog in
    sym (plain-from form MAX_SENT setup (opening setup) schedule.events)
    ∙ ap (λ (left : List TextLine). text_within form MAX_SENT setup (opening setup) left schedule.events) (sym (drop-nothing front))
    ∙ ap (λ (first : List TextLine). said_texts first ++ text_within form MAX_SENT setup (opening setup) (drop front []) schedule.events) (sym (take-nothing front))
    ∙ ap (λ (all : List TextLine). said_texts (take front all) ++ text_within form MAX_SENT setup (opening setup) (drop front all) schedule.events) (sym none)

-- It is the lines that declare something, where they are written, and then each event.
pub written-begins : (form : Form) (text : List ℕ) (schedule : Schedule)
    → written_within form text schedule
    ≡ said_texts (take (declaring (said_in form text) schedule.events) (said_in form text))
    ++ text_within form MAX_SENT (setup_of schedule.catalog) (opening (setup_of schedule.catalog)) (drop (declaring (said_in form text) schedule.events) (said_in form text)) schedule.events
unfolding trace_within
written-begins Text text schedule = plain-whole Text schedule (declaring [] schedule.events) [] refl
written-begins Json text schedule = plain-whole Json schedule (declaring [] schedule.events) [] refl
written-begins Trace text schedule = refl
