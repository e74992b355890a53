-- An input has one answer, and what the words are.
use Rattle.std.proofs.Common.{◌≡◌, ◌≢◌, ℕ, ◌≤◌, ◌<◌, List, [], ◌∷◌, length, get_or, Option, Some, None, Result, Ok, Err, OnOk, OnErr, IfSome, ◌⊎◌, ⊎_elim, inl, inr, Bool, false, cond, is_ok, is_some, refl, sym, ap, ◌∙◌, subst, arith}
use Rattle.std.specs.Bool.{⊤}
use Rattle.std.specs.Prelude.{IfErr, IfOk}
use Rattle.std.specs.Io.KnownBytes.{Appends}
use Rattle.std.proofs.lemmas.Bool.{false≢true}
use Rattle.std.proofs.lemmas.Bool.Decides.{leb_tells}
use Rattle.std.proofs.lemmas.List.{append-nil}
use Rattle.pv_base.specs.declared.limits.TheConstants.{MAX_INPUT}
use Rattle.pv_io.specs.Stream.{AppendsPrefix}
use Rattle.pv_model.specs.LineCauses.{LineCause}
use Rattle.pv_model.specs.LineForms.{scheduled}
use Rattle.pv_model.specs.Events.{Schedule}
use Rattle.pv_model.specs.Schedule.{IsMalformedSchedule, IsSchedule}
use Rattle.pv_law_schedules.proofs.OneScheduleLemmas.{one_schedule, one_fault, no_fault}
use Rattle.pv_law_schedules.proofs.SomeScheduleLemmas.{some_schedule_or_fault}
use Rattle.pv_script.specs.ScriptErrors.{IsMalformedAt, line_cause_of, refused_line}
use Rattle.pv_script.specs.declared.schedule.ScriptError.{ScriptError}
use Rattle.pv_script.specs.declared.schedule.ScriptError.TheVariants as errors
use Rattle.pv_script.specs.declared.schedule.LineCause as code
use Rattle.pv_run.specs.declared.status.Status.{Status}
use Rattle.pv_run.specs.declared.status.Status.TheVariants.{Done, Malformed, WriteFault, TooLong, SentLimit}
use Rattle.pv_run.specs.declared.text_end.TextEnd.{TextEnd}
use Rattle.pv_run.specs.declared.text_end.TextEnd.TheVariants as at
use Rattle.pv_run.specs.Summary.{summary_of, summary_text}
use Rattle.pv_run.specs.InputAnswers.{IsAnswer, IsRunAnswer, IsSummaryAnswer, GivesUp, GrowsBySome, fault_text, within_limit, written_within}
use Rattle.pv_run.specs.Statuses.{end_of_refusal, end_of_run, end_within, text_status}
use Rattle.pv_run.specs.declared.form.Form.{Form}
use Rattle.pv_run.specs.declared.write_end.WriteEnd.{WriteEnd}
use Rattle.pv_run.specs.declared.write_end.WriteEnd.TheVariants as end
use Rattle.pv_run.specs.WriteEndView.{IsWriteFault}
use Rattle.pv_protocol.specs.Lines.{Line}
use Rattle.pv_protocol.specs.Run.{printed}
use Rattle.pv_site.specs.SiteState.{setup_of}
use Rattle.pv_run.proofs.LimitLemmas.{written-is-within}
use Rattle.pv_run.proofs.OutputLemmas.{AppendsPrefix-whole}

-- a list of one element
pub one_element : {A : Type 0} (xs : List A) (x : A) → 1 ≤ length xs → length xs < 2 → x ≡ get_or xs 0 x → xs ≡ x ∷ []
one_element [] x some few is = absurd (omega arith)
one_element (y ∷ []) x some few is = ap (λ z. z ∷ []) (sym is)
one_element (y ∷ z ∷ xs) x some few is = absurd (omega arith)

-- ---- an input has one answer

-- An input is malformed in one way.
one_refusal : (input : List ℕ) (number other : ℕ) (cause reported : LineCause) → IsMalformedSchedule input number cause → IsMalformedSchedule input other reported
    → fault_text number cause ≡ fault_text other reported
one_refusal input number other cause reported a b = let same = one_fault scheduled input number other cause reported a b in λ i. fault_text (same.0 i) (same.1 i)

-- A schedule is within the limit, or it is passed.
both_differ : (one other : Schedule) → one ≡ other → (total : ℕ) → (within_limit one).over ≡ None → (within_limit other).over ≡ Some total → ⊥
both_differ one other same total within over =
    let differ : None ≡ Some total = sym within ∙ ap (λ (s : Schedule). (within_limit s).over) same ∙ over in cc

one_status : (whole within : Schedule → List ℕ) (input : List ℕ) (one other : Status) (output text : List ℕ) → IsAnswer whole within input one output → IsAnswer whole within input other text → one ≡ other
one_status whole within input Done Done output text a b = refl
one_status whole within input Done SentLimit output text a b = absurd (both_differ a.1 b.1 (one_schedule input a.1 b.1 a.2 b.2) b.3 a.3 b.4)
one_status whole within input Done Malformed output text a b = absurd (no_fault input a.1 b.1 b.2 a.2 b.3)
one_status whole within input Done TooLong output text a b = absurd (omega (arith, a.0, b.0))
one_status whole within input Done _ output text a b = absurd b
one_status whole within input SentLimit Done output text a b = absurd (both_differ b.1 a.1 (one_schedule input b.1 a.1 b.2 a.2) a.3 b.3 a.4)
one_status whole within input SentLimit SentLimit output text a b = refl
one_status whole within input SentLimit Malformed output text a b = absurd (no_fault input a.1 b.1 b.2 a.2 b.3)
one_status whole within input SentLimit TooLong output text a b = absurd (omega (arith, a.0, b.0))
one_status whole within input SentLimit _ output text a b = absurd b
one_status whole within input Malformed Done output text a b = absurd (no_fault input b.1 a.1 a.2 b.2 a.3)
one_status whole within input Malformed SentLimit output text a b = absurd (no_fault input b.1 a.1 a.2 b.2 a.3)
one_status whole within input Malformed Malformed output text a b = refl
one_status whole within input Malformed TooLong output text a b = absurd (omega (arith, a.0, b.0))
one_status whole within input Malformed _ output text a b = absurd b
one_status whole within input TooLong Done output text a b = absurd (omega (arith, a.0, b.0))
one_status whole within input TooLong SentLimit output text a b = absurd (omega (arith, a.0, b.0))
one_status whole within input TooLong Malformed output text a b = absurd (omega (arith, a.0, b.0))
one_status whole within input TooLong TooLong output text a b = refl
one_status whole within input TooLong _ output text a b = absurd b
one_status whole within input _ other output text a b = absurd a

one_output : (whole within : Schedule → List ℕ) (input : List ℕ) (status : Status) (output text : List ℕ) → IsAnswer whole within input status output → IsAnswer whole within input status text → output ≡ text
one_output whole within input Done output text a b = a.4 ∙ ap whole (one_schedule input a.1 b.1 a.2 b.2) ∙ sym b.4
one_output whole within input SentLimit output text a b = a.5 ∙ ap within (one_schedule input a.1 b.1 a.2 b.2) ∙ sym b.5
one_output whole within input Malformed output text a b = a.4 ∙ one_refusal input a.1 b.1 a.2 b.2 a.3 b.3 ∙ sym b.4
one_output whole within input TooLong output text a b = a.1 ∙ sym b.1
one_output whole within input _ output text a b = absurd a

pub one_answer : (whole within : Schedule → List ℕ) (input : List ℕ) (one other : Status) (output text : List ℕ) → IsAnswer whole within input one output → IsAnswer whole within input other text → (one ≡ other) × (output ≡ text)
one_answer whole within input one other output text a b =
    let status = one_status whole within input one other output text a b in
    (status, one_output whole within input other output text (subst (λ (s : Status). IsAnswer whole within input s output) status a) b)

some_answer_of_schedule : (whole within : Schedule → List ℕ) (input : List ℕ) (schedule : Schedule) → length input ≤ MAX_INPUT → IsSchedule input schedule
    → (status : Status) × (output : List ℕ) × IsAnswer whole within input status output
some_answer_of_schedule whole within input schedule short says = go (within_limit schedule).over refl
  where
    go : (over : Option ℕ) → (within_limit schedule).over ≡ over → (status : Status) × (output : List ℕ) × IsAnswer whole within input status output
    go None is = (Done, whole schedule, (short, schedule, says, is, refl))
    go (Some total) is = (SentLimit, within schedule, (short, schedule, says, total, is, refl))

-- An input is too long, or a schedule, or malformed.
pub some_answer : (whole within : Schedule → List ℕ) (input : List ℕ) → (status : Status) × (output : List ℕ) × IsAnswer whole within input status output
some_answer whole within input =
    ⊎_elim
    (λ short. ⊎_elim (λ schedule. some_answer_of_schedule whole within input schedule.0 short.1 schedule.1)
    (λ at. (Malformed, fault_text at.0 at.1, (short.1, at.0, at.1, at.2, refl))) (some_schedule_or_fault input))
    (λ long. (TooLong, [], (long.1, refl))) (leb_tells (length input) MAX_INPUT)

-- what has grown by a beginning of its answer has grown by a beginning of any
pub prefix_of_answer : (whole within : Schedule → List ℕ) (input : List ℕ) (one other : Status) (output text : List ℕ) (old new : Option (List ℕ))
    → IsAnswer whole within input one output → AppendsPrefix old new output → IsAnswer whole within input other text → AppendsPrefix old new text
prefix_of_answer whole within input one other output text old new a written b =
    subst (AppendsPrefix old new) (one_answer whole within input one other output text a b).1 written

-- a run writes a beginning of its output, however it ends
pub prefix_of_run : {T E : Type 0} (r : Result T E) (old new : Option (List ℕ)) (output : List ℕ)
    → OnOk r (Appends old new output) → OnErr r (AppendsPrefix old new output) → AppendsPrefix old new output
prefix_of_run (Ok done) old new output p q = subst (AppendsPrefix old new) (append-nil output) (AppendsPrefix-whole old new output [] p)
prefix_of_run (Err e) old new output p q = q

-- what isn't empty in one answer isn't in any
pub wanted_of_answer : (whole within : Schedule → List ℕ) (input : List ℕ) (one other : Status) (output text : List ℕ)
    → IsAnswer whole within input one output → output ≢ [] → IsAnswer whole within input other text → text ≢ []
wanted_of_answer whole within input one other output text a some b none = some ((one_answer whole within input one other output text a b).1 ∙ none)

-- a run whose output failed had some to write
pub wanted_of_run : (ran : Result (Option ℕ) WriteEnd) (output : List ℕ) → IfErr ran (λ e. IsWriteFault e → output ≢ []) → end_of_run ran ≡ at.WriteFault → output ≢ []
wanted_of_run (Ok None) output some is = absurd (let wrong : ⊥ = cc in wrong)
wanted_of_run (Ok (Some total)) output some is = absurd (let wrong : ⊥ = cc in wrong)
wanted_of_run (Err end.WriteFault) output some is = some refl
wanted_of_run (Err end.NoMemory) output some is = absurd (let wrong : ⊥ = cc in wrong)

-- and so had a summary
pub wanted_of_write : {E : Type 0} (written : Result ⊤ E) (ended : TextEnd) (output : List ℕ) → ended ≡ cond (is_ok written) at.Done at.WriteFault
    → IfErr written (λ e. Unit {0} → output ≢ []) → ended ≡ at.WriteFault → output ≢ []
wanted_of_write (Ok taken) ended output is some fault = absurd (let wrong : ⊥ = cc in wrong)
wanted_of_write (Err e) ended output is some fault = some tt

-- What is so where the output failed is so where that of a refusal did.
pub at_refusal_fault : (written : Result ⊤ WriteEnd) (ended : TextEnd) (P : Type 0) → ended ≡ end_of_refusal written → IfErr written (λ e. IsWriteFault e → P)
    → ended ≡ at.WriteFault → P
at_refusal_fault (Ok all) ended P is fault so = absurd (let wrong : ⊥ = cc in wrong)
at_refusal_fault (Err end.WriteFault) ended P is fault so = fault refl
at_refusal_fault (Err end.NoMemory) ended P is fault so = absurd (let wrong : ⊥ = cc in wrong)

-- ---- what the statuses say

-- At `Done` the input is a schedule, and the whole of its run was written.
pub schedule_at_done : (whole within : Schedule → List ℕ) (input : List ℕ) (status : Status) (old new : Option (List ℕ))
    → status ≡ Done → GivesUp status ⊎ GrowsBySome old new (IsAnswer whole within input status)
    → (schedule : Schedule) × IsSchedule input schedule × Appends old new (whole schedule)
schedule_at_done whole within input status old new is answered =
    done (subst (λ (s : Status). GivesUp s ⊎ GrowsBySome old new (IsAnswer whole within input s)) is answered)
  where
    done : GivesUp Done ⊎ GrowsBySome old new (IsAnswer whole within input Done)
        → (schedule : Schedule) × IsSchedule input schedule × Appends old new (whole schedule)
    done (inl gives_up) = absurd gives_up
    done (inr (output, grown, a)) = (a.1, a.2, subst (Appends old new) a.4 grown)

-- What was written at `Done` is the whole of any schedule that the input is.
pub output_at_done : (whole within : Schedule → List ℕ) (input : List ℕ) (status : Status) (old new : Option (List ℕ)) (schedule : Schedule)
    → GivesUp status ⊎ GrowsBySome old new (IsAnswer whole within input status) → IsSchedule input schedule → status ≡ Done → Appends old new (whole schedule)
output_at_done whole within input status old new schedule answered says is =
    let at_done = schedule_at_done whole within input status old new is answered in
    subst (Appends old new) (ap whole (one_schedule input at_done.0 schedule at_done.1 says)) at_done.2

-- And at `SentLimit` what there is of it within the limit.
pub output_at_limit : (whole within : Schedule → List ℕ) (input : List ℕ) (status : Status) (old new : Option (List ℕ)) (schedule : Schedule)
    → GivesUp status ⊎ GrowsBySome old new (IsAnswer whole within input status) → IsSchedule input schedule → status ≡ SentLimit → Appends old new (within schedule)
output_at_limit whole within input status old new schedule answered says is =
    at_limit (subst (λ (s : Status). GivesUp s ⊎ GrowsBySome old new (IsAnswer whole within input s)) is answered)
  where
    at_limit : GivesUp SentLimit ⊎ GrowsBySome old new (IsAnswer whole within input SentLimit) → Appends old new (within schedule)
    at_limit (inl gives_up) = absurd gives_up
    at_limit (inr (output, grown, a)) = subst (Appends old new) (a.5 ∙ ap within (one_schedule input a.1 schedule a.2 says)) grown

-- ---- the answer to a schedule

-- What has to be written of a run, and the status with it.
pub answer_of_run : (form : Form) (input : List ℕ) (schedule : Schedule) → length input ≤ MAX_INPUT → IsSchedule input schedule
    → IsRunAnswer form input (text_status (end_within (within_limit schedule).over)) (written_within form input schedule)
answer_of_run form input schedule short says = go (within_limit schedule).over refl
  where
    go : (over : Option ℕ) → (within_limit schedule).over ≡ over → IsRunAnswer form input (text_status (end_within over)) (written_within form input schedule)
    go None is = (short, schedule, says, is, written-is-within form input schedule is)
    go (Some total) is = (short, schedule, says, total, is, refl)

-- Where a schedule was run, that is the input's answer, or it gave up.
pub answered_run : (form : Form) (input : List ℕ) (schedule : Schedule) (ran : Result (Option ℕ) WriteEnd) (old new : Option (List ℕ))
    → length input ≤ MAX_INPUT → IsSchedule input schedule → IfOk ran (λ over. over ≡ (within_limit schedule).over)
    → OnOk ran (Appends old new (written_within form input schedule))
    → GivesUp (text_status (end_of_run ran)) ⊎ GrowsBySome old new (IsRunAnswer form input (text_status (end_of_run ran)))
answered_run form input schedule (Ok over) old new short says is written =
    inr (
      written_within form input schedule,
      written,
      subst (λ (o : Option ℕ). IsRunAnswer form input (text_status (end_within o)) (written_within form input schedule)) (sym is) (answer_of_run form input schedule short says),
    )
answered_run form input schedule (Err end.WriteFault) old new short says is written = inl tt
answered_run form input schedule (Err end.NoMemory) old new short says is written = inl tt

-- The status is that of the answer, or it gave up.
pub status_of_answer : (whole within : Schedule → List ℕ) (input : List ℕ) (status other : Status) (old new : Option (List ℕ)) (text : List ℕ)
    → GivesUp status ⊎ GrowsBySome old new (IsAnswer whole within input status) → IsAnswer whole within input other text → GivesUp status ⊎ (status ≡ other)
status_of_answer whole within input status other old new text (inl gives_up) b = inl gives_up
status_of_answer whole within input status other old new text (inr (output, grown, a)) b = inr (one_answer whole within input status other output text a b).0

-- Where a summary was to be written, that is the text's answer, or it gave up.
pub answered_summary : {E : Type 0} (input : List ℕ) (schedule : Schedule) (written : Result ⊤ E) (ended : TextEnd) (old new : Option (List ℕ))
    → length input ≤ MAX_INPUT → IsSchedule input schedule → (within_limit schedule).over ≡ None → ended ≡ cond (is_ok written) at.Done at.WriteFault
    → OnOk written (Appends old new (summary_of schedule)) → GivesUp (text_status ended) ⊎ GrowsBySome old new (IsSummaryAnswer input (text_status ended))
answered_summary input schedule (Ok taken) ended old new short says within is grown =
    inr (summary_of schedule, grown, subst (λ (e : TextEnd). IsSummaryAnswer input (text_status e) (summary_of schedule)) (sym is) (short, schedule, says, within, refl))
answered_summary input schedule (Err e) ended old new short says within is grown = inl (subst (λ (e : TextEnd). GivesUp (text_status e)) (sym is) tt)

-- Of what is within the limit and counted, the summary is that of the run.
pub summary-is : (schedule : Schedule) (events : ℕ) (lines : List Line) (text : List ℕ) → events ≡ length schedule.events
    → lines ≡ printed (setup_of schedule.catalog) schedule.events → text ≡ summary_text schedule.catalog events lines → text ≡ summary_of schedule
unfolding summary_of
summary-is schedule events lines text counted all is = is ∙ (λ i. summary_text schedule.catalog (counted i) (all i))

-- What is not there is none.
pub none-where-false : (o : Option ℕ) (b : Bool) → b ≡ is_some o → b ≡ false → o ≡ None
none-where-false None b is none = refl
none-where-false (Some n) b is none = absurd (false≢true (sym none ∙ is))

-- Where a refusal was to be written, that is the input's answer, or it gave up.
pub answered_refusal : (whole within : Schedule → List ℕ) (input : List ℕ) (written : Result ⊤ WriteEnd) (ended : TextEnd) (old new : Option (List ℕ)) (number : ℕ) (cause : LineCause)
    → length input ≤ MAX_INPUT → IsMalformedSchedule input number cause → ended ≡ end_of_refusal written → OnOk written (Appends old new (fault_text number cause))
    → GivesUp (text_status ended) ⊎ GrowsBySome old new (IsAnswer whole within input (text_status ended))
answered_refusal whole within input (Ok all) ended old new number cause short refused is grown = inr (
  fault_text number cause,
  grown,
  subst (λ (e : TextEnd). IsAnswer whole within input (text_status e) (fault_text number cause)) (sym is) (short, number, cause, refused, refl),
)
answered_refusal whole within input (Err end.WriteFault) ended old new number cause short refused is grown = inl (subst (λ (e : TextEnd). GivesUp (text_status e)) (sym is) tt)
answered_refusal whole within input (Err end.NoMemory) ended old new number cause short refused is grown = inl (subst (λ (e : TextEnd). GivesUp (text_status e)) (sym is) tt)

-- The line that was refused is where the input is malformed.
pub refused-at : (input : List ℕ) (error : ScriptError) (line : ℕ) (cause : code.LineCause) → error ≡ errors.Malformed line cause → IfSome (refused_line error) (IsMalformedAt input)
    → IsMalformedSchedule input line (line_cause_of cause)
refused-at input error line cause is refused = subst (λ (e : ScriptError). IfSome (refused_line e) (IsMalformedAt input)) is refused

-- ---- what a run does to the bay

-- A run whose text is done wrote all, within the limit.
pub run-is-done : (ran : Result (Option ℕ) WriteEnd) → end_of_run ran ≡ at.Done → ran ≡ Ok None
run-is-done (Ok None) is = refl
run-is-done (Ok (Some total)) is = absurd (let wrong : ⊥ = cc in wrong)
run-is-done (Err end.WriteFault) is = absurd (let wrong : ⊥ = cc in wrong)
run-is-done (Err end.NoMemory) is = absurd (let wrong : ⊥ = cc in wrong)

-- A text that is refused isn't done.
pub refusal-not-done : (written : Result ⊤ WriteEnd) (ended : TextEnd) → ended ≡ end_of_refusal written → ended ≡ at.Done → ⊥
refusal-not-done (Ok all) ended is done = let wrong : ⊥ = cc in wrong
refusal-not-done (Err end.WriteFault) ended is done = let wrong : ⊥ = cc in wrong
refusal-not-done (Err end.NoMemory) ended is done = let wrong : ⊥ = cc in wrong

-- ---- the status of a text tells how it ended

pub text-done : (ended : TextEnd) → text_status ended ≡ Done → ended ≡ at.Done
text-done at.Done is = refl
text-done at.Malformed is = absurd (let wrong : ⊥ = cc in wrong)
text-done at.WriteFault is = absurd (let wrong : ⊥ = cc in wrong)
text-done at.NoMemory is = absurd (let wrong : ⊥ = cc in wrong)
text-done at.SentLimit is = absurd (let wrong : ⊥ = cc in wrong)

pub text-write-fault : (ended : TextEnd) → text_status ended ≡ WriteFault → ended ≡ at.WriteFault
text-write-fault at.Done is = absurd (let wrong : ⊥ = cc in wrong)
text-write-fault at.Malformed is = absurd (let wrong : ⊥ = cc in wrong)
text-write-fault at.WriteFault is = refl
text-write-fault at.NoMemory is = absurd (let wrong : ⊥ = cc in wrong)
text-write-fault at.SentLimit is = absurd (let wrong : ⊥ = cc in wrong)
