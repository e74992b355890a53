-- Each request of a trace that is read has the plan of its program.
use Rattle.std.proofs.Common.{◌≡◌, ◌⊎◌, ℕ, ◌≤◌, Bool, true, false, List, [], ◌∷◌, ◌++◌, length, map, inl, inr, refl, sym, ap, subst, ◌∙◌, arith, length-append}
use Rattle.std.specs.List.{All}
use Rattle.std.proofs.lemmas.Bool.{both_ways}
use Rattle.std.proofs.lemmas.List.Elements.{All-cons, All-nil, All-push}
use Rattle.pv_audit.specs.Entries.{Entry}
use Rattle.pv_audit.specs.Reading.{TakesEntry, declared, happened, printed_at}
use Rattle.pv_audit.specs.Traces as model
use Rattle.pv_audit.specs.Traces.{AreParts}
use Rattle.pv_audit.specs.Views.{part_of}
use Rattle.pv_audit.specs.declared.trace.TracePart.{TracePart}
use Rattle.pv_audit.proofs.PartLemmas.{begun-after}
use Rattle.pv_audit.proofs.ReadLemmas.{IsReadTo, declares-early, same-script}
use Rattle.pv_model.specs.LineCauses.{Before, declared_by}
use Rattle.pv_model.specs.Schedule.{Declares}
use Rattle.pv_model.specs.Text.{TextLine}
use Rattle.pv_script.specs.ScheduleView.{HasPlan}

-- ---- no event has no part

begun-last : {start last : Before} {entries : List Entry} {parts : List model.TracePart} → AreParts start entries parts last → start.begun ≡ true → last.begun ≡ true
begun-last (model.none start) begun = begun
begun-last (model.declaration start after last line entries parts declares more) begun = begun-last more (begun-after start after line declares begun)
begun-last (model.event start last line texts entries e lines parts is whole forms more) begun = begun-last more refl

early-none : {start last : Before} {entries : List Entry} {parts : List model.TracePart} → AreParts start entries parts last → last.begun ≡ false → parts ≡ []
early-none (model.none start) early = refl
early-none (model.declaration start after last line entries parts declares more) early = early-none more early
early-none (model.event start last line texts entries e lines parts is whole forms more) early = absurd (both_ways _ early (begun-last more refl))

none-mapped : (parts : List TracePart) → map part_of parts ≡ [] → parts ≡ []
none-mapped [] none = refl
none-mapped (part ∷ parts) none = absurd (let never : ⊥ = cc in never)

abbrev pub HavePlans : Before → List TracePart → Type 0
HavePlans before parts = All (λ part. HasPlan (declared_by before) part.event) parts

none-plans : (before : Before) (parts : List TracePart) → parts ≡ [] → HavePlans before parts
none-plans before parts none =
    subst (λ (all : List TracePart). HavePlans before all) (sym none) (All-nil (λ (part : TracePart). HasPlan (declared_by before) part.event))

-- Where a line declares something, no event came.
not-begun : (text : List ℕ) (left : List (ℕ × Entry)) (before after : Before) (line : TextLine) (parts : List model.TracePart) → IsReadTo text left before parts
    → Declares before line after → before.begun ≡ false
not-begun text left before after line parts read declares = go before.begun refl
  where
    go : (b : Bool) → before.begun ≡ b → b ≡ false
    go true is = absurd (declares-early before after line (same-script read.are) read.behind declares (begun-after before after line declares is))
    go false is = refl

-- ---- one line more

abbrev pub IsMore : Before → List TracePart → List TracePart → Type 0
IsMore after old new = (new ≡ old) ⊎ ((part : TracePart) × (new ≡ old ++ part ∷ []) × HasPlan (declared_by after) part.event)

one-plan : (after : Before) (part : TracePart) (old new : List TracePart) → old ≡ [] → new ≡ old ++ part ∷ [] → HasPlan (declared_by after) part.event → HavePlans after new
one-plan after part old new none is has =
    subst (λ (all : List TracePart). HavePlans after all) (sym (is ∙ ap (λ (l : List TracePart). l ++ part ∷ []) none))
    (All-cons (λ (p : TracePart). HasPlan (declared_by after) p.event) part [] has (All-nil (λ (p : TracePart). HasPlan (declared_by after) p.event)))

pub plans-more : (text : List ℕ) (entries : List (ℕ × Entry)) (before : Before) (line : TextLine) (rest : List (ℕ × Entry)) (after : Before) (left : List (ℕ × Entry))
    (more : List model.TracePart) (old new : List TracePart) → IsReadTo text entries before (map part_of old) → TakesEntry before line rest after left more → IsMore after old new
    → HavePlans before old → HavePlans after new
plans-more text entries before line rest after left more old new read (declared after2 declares) (inl same) plans =
    let none : old ≡ [] = none-mapped old (early-none read.are (not-begun text entries before after line (map part_of old) read declares)) in
    none-plans after new (same ∙ none)
plans-more text entries before line rest after left more old new read (declared after2 declares) (inr x) plans =
    let none : old ≡ [] = none-mapped old (early-none read.are (not-begun text entries before after line (map part_of old) read declares)) in
    one-plan after x.0 old new none x.1 x.2
plans-more text entries before line rest after left more old new read (happened e below left2 lines is next whole forms) (inl same) plans =
    subst (λ (all : List TracePart). HavePlans before all) (sym same) plans
plans-more text entries before line rest after left more old new read (happened e below left2 lines is next whole forms) (inr x) plans =
    subst (λ (all : List TracePart). HavePlans before all) (sym x.1) (All-push (λ (part : TracePart). HasPlan (declared_by before) part.event) old x.0 plans x.2)

-- No more entries are left than there were.
length-printed_at : (below : List (ℕ × TextLine)) → length (map printed_at below) ≡ length below
length-printed_at [] = refl
length-printed_at (x ∷ below) = let rest = length-printed_at below in omega (arith, rest)

pub fewer-left : {before after : Before} {line : TextLine} {rest left : List (ℕ × Entry)} {more : List model.TracePart} → TakesEntry before line rest after left more → length left ≤ length rest
fewer-left (declared after declares) = omega arith
fewer-left {rest = rest} {left = left} (happened e below left2 lines is next whole forms) =
    let all = ap (λ (l : List (ℕ × Entry)). length l) next.split in
    let parts = length-append (map printed_at below) left in
    omega (arith, all, parts)
