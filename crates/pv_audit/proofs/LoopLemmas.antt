-- A trace that is read entry by entry: what holds between two entries, and how it ends.
use Rattle.std.proofs.Common.{◌≡◌, ℕ, ◌+◌, Option, Some, None, IfSome, List, [], ◌∷◌, ◌++◌, length, map, inl, refl, sym, subst}
use Rattle.std.proofs.lemmas.List.Elements.{All-nil}
use Rattle.pv_audit.specs.Entries.{Entry, said, printed}
use Rattle.pv_audit.specs.EntriesLeft.{EntriesLeft, unread}
use Rattle.pv_audit.specs.Reading.{IsEntryFault, TakesEntry}
use Rattle.pv_audit.specs.Traces as model
use Rattle.pv_audit.specs.Views.{IsNoTraceAt, RefusedEntry, part_of}
use Rattle.pv_audit.specs.declared.trace.TracePart.{TracePart}
use Rattle.pv_audit.proofs.PlanLemmas.{HavePlans, IsMore, plans-more}
use Rattle.pv_audit.proofs.ReadLemmas.{IsReadTo, early-fault, read-fault, read-more, unread-text}
use Rattle.pv_model.specs.LineCauses.{Before, at_first, declared_by, not_a_trace}
use Rattle.pv_model.specs.LineForms.{scheduled}
use Rattle.pv_model.specs.Text.{TextLine, lines}
use Rattle.pv_script.specs.ScheduleView.{HasPlan}

pub nothing-so-far : (text : List ℕ) (left : EntriesLeft) (before : Before) (parts : List TracePart) → left ≡ unread text → before ≡ at_first scheduled → parts ≡ []
    → IsReadTo text left.numbered before (map part_of parts) × HavePlans before parts × (left.after_last ≡ length (lines text) + 1)
nothing-so-far text left before parts all first none =
    rw (all, first, none) (unread-text text, All-nil (λ (part : TracePart). HasPlan (declared_by (at_first scheduled)) part.event), refl)

module _ (text : List ℕ) (entries : List (ℕ × Entry)) (before : Before) where
  -- A line of the schedule is taken with what is printed behind it,
  pub one-entry : (number : ℕ) (line : TextLine) (rest : List (ℕ × Entry)) (after : Before) (left : List (ℕ × Entry)) (old new : List TracePart)
      → IsReadTo text entries before (map part_of old) → HavePlans before old → entries ≡ (number, said line) ∷ rest
      → ((more : List model.TracePart) × (map part_of new ≡ map part_of old ++ more) × TakesEntry before line rest after left more) → IsMore after old new
      → IsReadTo text left after (map part_of new) × HavePlans after new
  one-entry number line rest after left old new read plans first takes more =
      let here = subst (λ (l : List (ℕ × Entry)). IsReadTo text l before (map part_of old)) first read in (
        subst (λ (parts : List model.TracePart). IsReadTo text left after parts) (sym takes.1) (read-more text number line rest before (map part_of old) here after left takes.0 takes.2),
        plans-more text ((number, said line) ∷ rest) before line rest after left takes.0 old new here takes.2 more plans,
      )

  -- or the text is no trace where it has a fault.
  pub fault-there : (parts : List model.TracePart) (number : ℕ) (line : TextLine) (rest : List (ℕ × Entry)) (reported : Option RefusedEntry) → IsReadTo text entries before parts
      → entries ≡ (number, said line) ∷ rest → IfSome reported (λ refused. IsEntryFault before number line rest refused.number refused.cause) → IfSome reported (IsNoTraceAt text)
  fault-there parts number line rest (Some refused) read first fault =
      inl (read-fault text number line rest before parts (subst (λ (l : List (ℕ × Entry)). IsReadTo text l before parts) first read) refused.number refused.cause fault)
  fault-there parts number line rest None read first fault = tt

  -- A printed line that comes first is none of a trace.
  pub printed-there : (parts : List model.TracePart) (number : ℕ) (line : TextLine) (rest : List (ℕ × Entry)) (reported : Option RefusedEntry) → IsReadTo text entries before parts
      → entries ≡ (number, printed line) ∷ rest → reported ≡ Some (record { number = number; cause = not_a_trace }) → IfSome reported (IsNoTraceAt text)
  printed-there parts number line rest reported read first says =
      rw says (inl (early-fault text number line rest before parts (subst (λ (l : List (ℕ × Entry)). IsReadTo text l before parts) first read)))
