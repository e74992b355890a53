-- What a line of the schedule in a trace says, and why it is none.
use Rattle.std.proofs.Common.{◌≡◌, ℕ, Bool, Option, Some, None, IfSome, List, [], ◌∷◌, sym, ap, subst, ◌∙◌}
use Rattle.pv_audit.specs.Entries.{Entry}
use Rattle.pv_audit.specs.ErrorView.{trace_error_of}
use Rattle.pv_audit.specs.Reading.{AreRead, ComeNext, IsEntryFault, TakesEntry, cut_short, happened, malformed, no_form, texts_of}
use Rattle.pv_audit.specs.Traces.{IsWhole}
use Rattle.pv_audit.specs.Views.{RefusedEntry, refused_entry}
use Rattle.pv_audit.proofs.ReadLemmas.{next-texts}
use Rattle.pv_base.specs.Catalog.{Declared}
use Rattle.pv_model.specs.Events.{Event}
use Rattle.pv_model.specs.LineCauses.{Before, declared_by, not_a_trace}
use Rattle.pv_model.specs.Schedule.{IsEvent, with_event}
use Rattle.pv_model.specs.Text.{TextLine}
use Rattle.pv_protocol.specs.Lines.{Line}
use Rattle.pv_script.specs.LineFaults.{IsErrorAt}
use Rattle.pv_script.specs.ScriptErrors.{line_cause_of}
use Rattle.pv_script.specs.declared.schedule.ScriptError.{ScriptError}
use Rattle.pv_script.specs.declared.schedule.ScriptError.TheVariants.{Malformed, NoMemory}

-- A line that the schedule refuses is refused in the trace, at its own number and for its own cause.
pub said-fault : (before : Before) (number : ℕ) (line : TextLine) (rest : List (ℕ × Entry)) (fault : ScriptError) → IsErrorAt before number line fault
    → IfSome (refused_entry (trace_error_of fault)) (λ refused. IsEntryFault before number line rest refused.number refused.cause)
said-fault before number line rest (Malformed place reported) is =
    subst (λ (n : ℕ). IsEntryFault before number line rest n (line_cause_of reported)) (sym is.0) (malformed (line_cause_of reported) is.1)
said-fault before number line rest NoMemory is = tt

-- An event is cut short where what comes next isn't what it prints.
pub cut-short-fault : (before : Before) (number : ℕ) (line : TextLine) (below : List (ℕ × TextLine)) (rest left : List (ℕ × Entry)) (e : Event) → IsEvent before line e
    → ComeNext below rest left → (IsWhole (declared_by before) e (texts_of below) → ⊥) → IsEntryFault before number line rest number not_a_trace
cut-short-fault before number line below rest left e is next other = cut_short (record {
  event = e;
  is = is;
  short = λ whole. other (subst (λ (texts : List TextLine). IsWhole (declared_by before) e texts) (next-texts below rest left next) whole);
})

-- ---- an event with the printed lines that come next

module _ (before after : Before) (number : ℕ) (line : TextLine) (below : List (ℕ × TextLine)) (rest left : List (ℕ × Entry)) (catalog : Declared) (e : Event)
    (is : IsEvent before line e) (then : after ≡ with_event before) (declares : catalog ≡ declared_by after) (next : ComeNext below rest left) where
  -- An event declares nothing.
  same-catalog : catalog ≡ declared_by before
  same-catalog = declares ∙ ap declared_by then

  whole-there : IsWhole catalog e (texts_of below) → IsWhole (declared_by before) e (texts_of below)
  whole-there whole = subst (λ (d : Declared). IsWhole d e (texts_of below)) same-catalog whole

  -- They aren't what it prints,
  pub cut-short-said : (reported : Option RefusedEntry) → (IsWhole catalog e (texts_of below) → ⊥) → reported ≡ Some (record { number = number; cause = not_a_trace })
      → IfSome reported (λ refused. IsEntryFault before number line rest refused.number refused.cause)
  cut-short-said reported other says =
      rw says (cut-short-fault before number line below rest left e is next (subst (λ (d : Declared). IsWhole d e (texts_of below) → ⊥) same-catalog other))

  -- or one of them is no printed form,
  pub broken-said : (lines : List Line) (broken : Option ℕ) (more : Bool) (other : ℕ) (reported : Option RefusedEntry) → IsWhole catalog e (texts_of below)
      → AreRead catalog below lines broken more → broken ≡ Some other → reported ≡ Some (record { number = other; cause = not_a_trace })
      → IfSome reported (λ refused. IsEntryFault before number line rest refused.number refused.cause)
  broken-said lines broken more other reported whole are some says =
      rw says (no_form e below left lines other more is next (whole-there whole)
      (subst (λ (d : Declared). AreRead d below lines (Some other) more) same-catalog (subst (λ (b : Option ℕ). AreRead catalog below lines b more) some are)))

  -- or the event is taken with them.
  pub takes-said : (lines : List Line) (broken : Option ℕ) (more : Bool) → IsWhole catalog e (texts_of below) → AreRead catalog below lines broken more → broken ≡ None
      → TakesEntry before line rest after left (record { event = e; lines = lines } ∷ [])
  takes-said lines broken more whole are none =
      rw then (happened e below left lines is next (whole-there whole)
      (subst (λ (d : Declared). AreRead d below lines None more) same-catalog (subst (λ (b : Option ℕ). AreRead catalog below lines b more) none are)).0)
