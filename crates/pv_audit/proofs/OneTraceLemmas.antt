-- A text is one trace at most.
use Rattle.std.proofs.Common.{◌≡◌, ℕ, List, [], ◌∷◌, ◌++◌, map, refl, sym, ap, subst, ◌∙◌}
use Rattle.pv_audit.specs.Entries.{Entry, said, printed, printed_first}
use Rattle.pv_audit.specs.Printed as printing
use Rattle.pv_audit.specs.Printed.{AreNamed, ArePrinted}
use Rattle.pv_audit.specs.Traces.{AreParts, none, declaration, event, IsTrace, Trace, TracePart}
use Rattle.pv_audit.proofs.NamedLemmas.{named-after, named-first}
use Rattle.pv_audit.proofs.OneLineLemmas.{one-line}
use Rattle.pv_audit.proofs.PartLemmas.{first-printed}
use Rattle.pv_base.specs.Catalog.{Declared}
use Rattle.pv_law_schedules.proofs.OneEventLemmas.{one-declared, one-event, not-both}
use Rattle.pv_model.specs.LineCauses.{Before, declared_by}
use Rattle.pv_model.specs.Schedule.{Declares, IsEvent}
use Rattle.pv_model.specs.Text.{TextLine}
use Rattle.pv_protocol.specs.Lines.{Line}

pub one-lines : {catalog : Declared} {texts : List TextLine} {lines others : List Line} → AreNamed catalog → ArePrinted catalog texts lines → ArePrinted catalog texts others → lines ≡ others
one-lines named printing.none printing.none = refl
one-lines {catalog} named (printing.more t l texts lines first rest) (printing.more t2 o texts2 others is behind) =
    let head : l ≡ o = one-line catalog t l o named first is in
    let tail : lines ≡ others = one-lines named rest behind in
    λ i. head i ∷ tail i

-- what stands behind the printed lines with which entries begin
behind_printed : List Entry → List Entry
behind_printed [] = []
behind_printed (said line ∷ entries) = said line ∷ entries
behind_printed (printed line ∷ entries) = behind_printed entries

behind-none : (entries : List Entry) → printed_first entries ≡ [] → behind_printed entries ≡ entries
unfolding behind_printed
behind-none [] quiet = refl
behind-none (said line ∷ entries) quiet = refl
behind-none (printed line ∷ entries) quiet = absurd (let never : ⊥ = cc in never)

behind-printed : (texts : List TextLine) (entries : List Entry) → printed_first entries ≡ [] → behind_printed (map printed texts ++ entries) ≡ entries
unfolding behind_printed
behind-printed [] entries quiet = behind-none entries quiet
behind-printed (text ∷ texts) entries quiet = behind-printed texts entries quiet

-- Nothing printed comes first in parts behind an event.
quiet-parts : {start last : Before} {entries : List Entry} {parts : List TracePart} → AreParts start entries parts last → printed_first entries ≡ []
quiet-parts (none start) = refl
quiet-parts (declaration start after last line entries parts declares more) = refl
quiet-parts (event start last line texts entries e lines parts is whole forms more) = refl

one-parts : {start last other : Before} {entries others : List Entry} {parts also : List TracePart} → AreNamed (declared_by start) → entries ≡ others
    → AreParts start entries parts last → AreParts start others also other → (parts ≡ also) × (last ≡ other)
one-parts named same (none start) (none start2) = (refl, refl)
one-parts named same (none start) (declaration start2 a2 l2 line2 es2 ps2 d2 m2) = absurd (let never : ⊥ = cc in never)
one-parts named same (none start) (event start2 l2 line2 ts2 es2 e2 ls2 ps2 is2 w2 f2 m2) = absurd (let never : ⊥ = cc in never)
one-parts named same (declaration start after last line es ps declares more) (none start2) = absurd (let never : ⊥ = cc in never)
one-parts named same (event start last line ts es e ls ps is whole forms more) (none start2) = absurd (let never : ⊥ = cc in never)
one-parts named same (declaration start after last line es ps declares more) (declaration start2 a2 l2 line2 es2 ps2 d2 m2) =
    let head : line2 ≡ line = cc in
    let tail : es ≡ es2 = cc in
    let first : a2 ≡ after = one-declared (subst (λ (l : TextLine). Declares start l a2) head d2) declares in
    one-parts (named-after start after line declares named) tail more (subst (λ (b : Before). AreParts b es2 ps2 l2) first m2)
one-parts named same (declaration start after last line es ps declares more) (event start2 l2 line2 ts2 es2 e2 ls2 ps2 is2 w2 f2 m2) =
    let head : line2 ≡ line = cc in
    absurd (not-both (subst (λ (l : TextLine). IsEvent start l e2) head is2) declares)
one-parts named same (event start last line ts es e ls ps is whole forms more) (declaration start2 a2 l2 line2 es2 ps2 d2 m2) =
    let head : line2 ≡ line = cc in
    absurd (not-both is (subst (λ (l : TextLine). Declares start l a2) head d2))
one-parts named same (event start last line ts es e ls ps is whole forms more) (event start2 l2 line2 ts2 es2 e2 ls2 ps2 is2 w2 f2 m2) =
    let head : line2 ≡ line = cc in
    let tail : map printed ts ++ es ≡ map printed ts2 ++ es2 = cc in
    let happened : e ≡ e2 = one-event is (subst (λ (l : TextLine). IsEvent start l e2) head is2) in
    let below : ts ≡ ts2 = sym (first-printed ts es (quiet-parts more)) ∙ ap printed_first tail ∙ first-printed ts2 es2 (quiet-parts m2) in
    let behind : es ≡ es2 = sym (behind-printed ts es (quiet-parts more)) ∙ ap behind_printed tail ∙ behind-printed ts2 es2 (quiet-parts m2) in
    let lines : ls ≡ ls2 = one-lines named forms (subst (λ (texts : List TextLine). ArePrinted (declared_by start) texts ls2) (sym below) f2) in
    let rest = one-parts named behind more m2 in
    ((λ i. record { event = happened i; lines = lines i } ∷ rest.0 i), rest.1)

pub one-trace : (text : List ℕ) (trace other : Trace) → IsTrace text trace → IsTrace text other → trace ≡ other
one-trace text trace other is also =
    let same = one-parts named-first refl is.are also.are in
    let catalog : trace.catalog ≡ other.catalog = is.catalog ∙ ap declared_by same.1 ∙ sym also.catalog in
    λ i. record { catalog = catalog i; parts = same.0 i }
