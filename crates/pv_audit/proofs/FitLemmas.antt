-- What a trace's text gives for its audit: no more parts than lines, and printed items of the catalog with the cases of polyvalues.
use Rattle.std.proofs.Common.{◌≡◌, ⊎_elim, ◌<◌, ◌≤◌, ◌+◌, ℕ, suc, Bool, true, false, List, [], ◌∷◌, refl, sym, ap, subst, map, length, arith, length-append}
use Rattle.std.specs.Prelude.{All, ◌==◌, if◌then◌else◌}
use Rattle.std.specs.List.{enumerate_from, slice_split}
use Rattle.std.specs.Str.Lines.{strip_carriage_return}
use Rattle.std.proofs.lemmas.List.{length-map}
use Rattle.std.proofs.lemmas.List.Elements.{All-cons, All-nil}
use Rattle.std.proofs.lemmas.List.Splits.{length-slice_split}
use Rattle.std.proofs.lemmas.List.Sums.{count_by-le-length, length-filter}
use Rattle.pv_audit.specs.Differences.{HasPolyvalue, IsItemOf}
use Rattle.pv_audit.specs.Entries.{Entry, counts, entries, entries_from, numbered_entry, plain, printed}
use Rattle.pv_audit.specs.Printed.{ArePrinted, IsPrinted}
use Rattle.pv_audit.specs.Printed as printing
use Rattle.pv_audit.specs.Traces as model
use Rattle.pv_audit.specs.Traces.{AreParts, IsTrace, Trace, TracePart}
use Rattle.pv_base.specs.Catalog.{Declared, Item}
use Rattle.pv_model.specs.LineCauses.{Before}
use Rattle.pv_model.specs.Schedule.{Declares, DeclaresClient, DeclaresItem, DeclaresJournal, DeclaresPeek, DeclaresPlan, DeclaresRequest, DeclaresSites}
use Rattle.pv_model.specs.Text.{TextLine, lines, parts_that_are_lines}
use Rattle.pv_protocol.specs.Lines.{Line}
use Rattle.pv_script.specs.declared.lines.TheConstants.{MAX_SCHEDULE}

-- No more parts than lines.

fewer-lines : (parts : List (List ℕ)) → length (parts_that_are_lines parts) ≤ length parts
fewer-lines [] = omega arith
fewer-lines (part ∷ []) = go (length part == 0)
  where
    go : (b : Bool) → length (if b then [] else part ∷ []) ≤ 1
    go true = omega arith
    go false = omega arith
fewer-lines (part ∷ next ∷ parts) = let rest = fewer-lines (next ∷ parts) in omega (arith, rest)

few-lines : (text : List ℕ) → length (lines text) ≤ length text + 1
unfolding lines
few-lines text =
    let feed = λ (b : ℕ). b == 10 in
    omega (
      arith,
      length-map (parts_that_are_lines (slice_split feed text)) strip_carriage_return,
      fewer-lines (slice_split feed text),
      length-slice_split feed text,
      count_by-le-length feed text,
    )

length-numbered : (first : ℕ) (texts : List TextLine) → length (enumerate_from first texts) ≡ length texts
length-numbered first [] = refl
length-numbered first (text ∷ texts) = ap suc (length-numbered (first + 1) texts)

few-entries : (text : List ℕ) → length (plain (entries text)) ≤ length text + 1
unfolding entries
few-entries text =
    let all = map numbered_entry (enumerate_from 1 (lines text)) in
    omega (
      arith,
      length-map (entries_from 1 (lines text)) (λ (entry : ℕ × Entry). entry.1),
      length-filter (λ (entry : ℕ × Entry). counts entry.1) all,
      count_by-le-length (λ (entry : ℕ × Entry). counts entry.1) all,
      length-map (enumerate_from 1 (lines text)) numbered_entry,
      length-numbered 1 (lines text),
      few-lines text,
    )

fewer-parts : {start last : Before} {entries : List Entry} {parts : List TracePart} → AreParts start entries parts last → length parts ≤ length entries
fewer-parts (model.none start) = omega arith
fewer-parts (model.declaration start after last line entries parts declares more) = let rest = fewer-parts more in omega (arith, rest)
fewer-parts (model.event start last line texts entries e lines parts is whole forms more) =
    let rest = fewer-parts more in
    omega (arith, rest, length-append (map printed texts) entries)

pub parts-few : (text : List ℕ) (trace : Trace) → length text ≤ MAX_SCHEDULE → IsTrace text trace → length trace.parts ≤ MAX_SCHEDULE + 1
parts-few text trace short is = omega (arith, short, fewer-parts is.are, few-entries text)

-- Printed items.

-- Items are declared behind others alone.
more-items : (before after : Before) (line : TextLine) → Declares before line after → length before.items ≤ length after.items
more-items before after line declares =
    ⊎_elim
    (λ (sites : DeclaresSites before line after). same sites.same refl)
    (λ others. ⊎_elim
    (λ (journal : DeclaresJournal before line after). same journal.same refl)
    (λ others. ⊎_elim
    (λ (item : DeclaresItem before line after).
    omega (arith, ap (λ (b : Before). length b.items) item.same, length-append before.items (item.item ∷ [])))
    (λ others. ⊎_elim
    (λ (plan : DeclaresPlan before line after). same plan.same refl)
    (λ others. ⊎_elim
    (λ (client : DeclaresClient before line after). same client.same refl)
    (λ others. ⊎_elim
    (λ (request : DeclaresRequest before line after). same request.same refl)
    (λ (peek : DeclaresPeek before line after). same peek.same refl)
    others)
    others)
    others)
    others)
    others)
    declares
  where
    same : {made : Before} → after ≡ made → before.items ≡ made.items → length before.items ≤ length after.items
    same {made} is stays = omega (arith, ap (λ (items : List Item). length items) stays, ap (λ (b : Before). length b.items) is)

all-items : {start last : Before} {entries : List Entry} {parts : List TracePart} → AreParts start entries parts last → length start.items ≤ length last.items
all-items (model.none start) = omega arith
all-items (model.declaration start after last line entries parts declares more) =
    let first = more-items start after line declares in
    let rest = all-items more in
    omega (arith, first, rest)
all-items (model.event start last line texts entries e lines parts is whole forms more) = let rest = all-items more in rest

-- A printed item is one of so many, and has the cases of a polyvalue.
abbrev pub Fits : ℕ → Line → Type 0
Fits count line = IsItemOf count line × HasPolyvalue line

item-fits : (catalog : Declared) (count : ℕ) (text : TextLine) (line : Line) → length catalog.items ≤ count → IsPrinted catalog text line → Fits count line
item-fits catalog count text (Line.txn t) most is = (tt, tt)
item-fits catalog count text (Line.commit t replies) most is = (tt, tt)
item-fits catalog count text (Line.refuse t cause) most is = (tt, tt)
item-fits catalog count text (Line.full site long) most is = (tt, tt)
item-fits catalog count text (Line.spent site) most is = (tt, tt)
item-fits catalog count text (Line.down site) most is = (tt, tt)
item-fits catalog count text (Line.up site) most is = (tt, tt)
item-fits catalog count text (Line.stopped site) most is = (tt, tt)
item-fits catalog count text (Line.fault site) most is = (tt, tt)
item-fits catalog count text (Line.started site epoch) most is = (tt, tt)
item-fits catalog count text (Line.no_message n) most is = (tt, tt)
item-fits catalog count text (Line.sent n from to kind t) most is = (tt, tt)
item-fits catalog count text (Line.order txns) most is = (tt, tt)
item-fits catalog count text (Line.committed txns) most is = (tt, tt)
item-fits catalog count text (Line.open_ones txns) most is = (tt, tt)
item-fits catalog count text (Line.item n cases) most is = (let below : n < length catalog.items = is.items in omega (arith, below, most), is.within.polyvalue)
item-fits catalog count text (Line.item_locked n t) most is = (tt, tt)
item-fits catalog count text (Line.item_down n) most is = (tt, tt)
item-fits catalog count text Line.end most is = (tt, tt)
item-fits catalog count text (Line.total sums) most is = (tt, tt)
item-fits catalog count text (Line.total_locked n) most is = (tt, tt)
item-fits catalog count text (Line.total_down site) most is = (tt, tt)
item-fits catalog count text (Line.total_limit names) most is = (tt, tt)

items-fit : {catalog : Declared} {texts : List TextLine} {lines : List Line} (count : ℕ) → length catalog.items ≤ count → ArePrinted catalog texts lines → All (Fits count) lines
items-fit count most printing.none = All-nil (Fits count)
items-fit {catalog} count most (printing.more text line texts lines first rest) =
    All-cons (Fits count) line lines (item-fits catalog count text line most first) (items-fit count most rest)

parts-fit : {start last : Before} {entries : List Entry} {parts : List TracePart} (count : ℕ) → length last.items ≤ count → AreParts start entries parts last
    → All (λ (part : TracePart). All (Fits count) part.lines) parts
parts-fit count most (model.none start) = All-nil (λ (part : TracePart). All (Fits count) part.lines)
parts-fit count most (model.declaration start after last line entries parts declares more) = parts-fit count most more
parts-fit count most (model.event start last line texts entries e lines parts is whole forms more) =
    let grown = all-items more in
    All-cons (λ (part : TracePart). All (Fits count) part.lines) (record { event = e; lines = lines }) parts
    (items-fit count (omega (arith, grown, most)) forms) (parts-fit count most more)

pub trace-fits : (text : List ℕ) (trace : Trace) → IsTrace text trace → All (λ (part : TracePart). All (Fits (length trace.catalog.items)) part.lines) trace.parts
trace-fits text trace is =
    subst (λ (catalog : Declared). All (λ (part : TracePart). All (Fits (length catalog.items)) part.lines) trace.parts) (sym is.catalog)
    (parts-fit (length is.last.items) (omega arith) is.are)
