-- The lines of a text with a line behind it: those of the text, and then those of what stands behind it.
use Rattle.std.proofs.Common.{◌≡◌, ◌∙◌, ℕ, ◌+◌, ◌<◌, ◌≤◌, zero, suc, Bool, true, false, List, [], ◌∷◌, ◌++◌, length, map, filter, cond, eqb, refl, sym, ap, subst, arith, add-one, IfSome, Some, None}
use Rattle.std.specs.List.{slice_split, onto_first, enumerate_from}
use Rattle.std.specs.Str.Lines.{strip_carriage_return}
use Rattle.std.proofs.lemmas.List.{append_assoc, length-map, map-append}
use Rattle.std.proofs.lemmas.List.Elements.{filter-append}
use Rattle.std.proofs.lemmas.List.Splits.{length-slice_split}
use Rattle.std.proofs.lemmas.List.Sums.{count_by-le-length}
use Rattle.pv_base.specs.Catalog.{Declared}
use Rattle.pv_model.specs.Events as model
use Rattle.pv_model.specs.FirstMisplaced.{without_numbers}
use Rattle.pv_model.specs.LineCauses.{Before, at_first, LineCause}
use Rattle.pv_model.specs.LineForms.{scheduled}
use Rattle.pv_model.specs.Schedule.{AreLines, none, declaration, event, IsAtFault, IsEvent, IsSchedule, significant, with_event}
use Rattle.pv_model.specs.Text.{TextLine, is_significant, lines, numbered, parts_that_are_lines, significant_from}
use Rattle.pv_script.specs.Behind.{schedule_over, with_line}
use Rattle.pv_script.specs.LineFaults.{error_at, IsLineFault}
use Rattle.pv_script.specs.Said.{before_of, IsLimited}
use Rattle.pv_script.specs.ScriptErrors.{IsMalformedAt, refused_line}
use Rattle.pv_script.specs.declared.fault.Fault.{Fault}
use Rattle.pv_script.specs.declared.said.Said.{Said}
use Rattle.pv_script.proofs.FaultLemmas.{error-fault, fault-whole, refuses-line, IsAtFaultFrom}
use Rattle.pv_script.proofs.LineLemmas.{Begins, Begins-slice_split, is_feed, parts_that_are_lines-cons, parts_that_are_lines-some}
use Rattle.pv_script.proofs.ScheduleLemmas.{IsSchedule-read}

-- the parts of a text, with those behind a line feed
onto_first-append : (b : ℕ) (parts more : List (List ℕ)) → Begins parts → onto_first b (parts ++ more) ≡ onto_first b parts ++ more
onto_first-append b [] more begins = absurd (let e = begins.2 in let no : ⊥ = cc in no)
onto_first-append b (first ∷ parts) more begins = refl

cond-append : (b : ℕ) (feed : Bool) (parts more : List (List ℕ)) → Begins parts
    → cond feed ([] ∷ (parts ++ more)) (onto_first b (parts ++ more)) ≡ cond feed ([] ∷ parts) (onto_first b parts) ++ more
cond-append b true parts more begins = refl
cond-append b false parts more begins = onto_first-append b parts more begins

parts-append : (text line : List ℕ) → slice_split is_feed (text ++ 10 ∷ line) ≡ slice_split is_feed text ++ slice_split is_feed line
parts-append [] line = refl
parts-append (b ∷ bs) line =
    ap (λ (parts : List (List ℕ)). cond (is_feed b) ([] ∷ parts) (onto_first b parts)) (parts-append bs line)
    ∙ cond-append b (is_feed b) (slice_split is_feed bs) (slice_split is_feed line) (Begins-slice_split bs)

Begins-append : (front back : List (List ℕ)) → Begins back → Begins (front ++ back)
Begins-append [] back begins = begins
Begins-append (part ∷ front) back begins = (part, front ++ back, refl)

parts_that_are_lines-append : (front back : List (List ℕ)) → Begins back → parts_that_are_lines (front ++ back) ≡ front ++ parts_that_are_lines back
parts_that_are_lines-append [] back begins = refl
parts_that_are_lines-append (part ∷ front) back begins =
    parts_that_are_lines-cons part (front ++ back) (Begins-append front back begins)
    ∙ ap (λ (parts : List (List ℕ)). part ∷ parts) (parts_that_are_lines-append front back begins)

lines-behind : (text line : List ℕ) → lines (text ++ 10 ∷ line) ≡ map strip_carriage_return (slice_split is_feed text) ++ lines line
unfolding lines
lines-behind text line =
    ap (λ (parts : List (List ℕ)). map strip_carriage_return (parts_that_are_lines parts)) (parts-append text line)
    ∙ ap (map strip_carriage_return) (parts_that_are_lines-append (slice_split is_feed text) (slice_split is_feed line) (Begins-slice_split line))
    ∙ map-append strip_carriage_return (slice_split is_feed text) (parts_that_are_lines (slice_split is_feed line))

-- and their numbers
enumerate_from-append : (n : ℕ) (front back : List TextLine) → enumerate_from n (front ++ back) ≡ enumerate_from n front ++ enumerate_from (n + length front) back
enumerate_from-append n [] back = let place : n ≡ n + length {A = TextLine} [] = omega arith in ap (λ (first : ℕ). enumerate_from first back) place
enumerate_from-append n (line ∷ front) back =
    let place : (n + 1) + length front ≡ n + suc (length front) = omega arith in
    ap (λ (all : List (ℕ × TextLine)). (n, line) ∷ all)
    (enumerate_from-append (n + 1) front back ∙ ap (λ (first : ℕ). enumerate_from (n + 1) front ++ enumerate_from first back) place)

significant_from-append : (n : ℕ) (front back : List TextLine) → significant_from n (front ++ back) ≡ significant_from n front ++ significant_from (n + length front) back
significant_from-append n front back =
    ap (filter (λ (line : ℕ × TextLine). is_significant line.1)) (enumerate_from-append n front back)
    ∙ filter-append (λ (line : ℕ × TextLine). is_significant line.1) (enumerate_from n front) (enumerate_from (n + length front) back)

-- An empty line doesn't count.
empty-line : (n : ℕ) → significant_from n ([] ∷ []) ≡ []
unfolding is_significant
empty-line n = refl

last-part : (n : ℕ) (part : List ℕ) → significant_from n (map strip_carriage_return (parts_that_are_lines (part ∷ []))) ≡ significant_from n (strip_carriage_return part ∷ [])
last-part n [] = sym (empty-line n)
last-part n (b ∷ bs) = ap (λ (parts : List (List ℕ)). significant_from n (map strip_carriage_return parts)) (parts_that_are_lines-some (b ∷ bs) (omega arith))

significant-parts : (n : ℕ) (parts : List (List ℕ)) → significant_from n (map strip_carriage_return (parts_that_are_lines parts)) ≡ significant_from n (map strip_carriage_return parts)
significant-parts n [] = refl
significant-parts n (part ∷ []) = last-part n part
significant-parts n (part ∷ next ∷ parts) =
    ap (λ (all : List (ℕ × TextLine)). cond (is_significant (strip_carriage_return part)) ((n, strip_carriage_return part) ∷ all) all) (significant-parts (n + 1) (next ∷ parts))

module _ (text line : List ℕ) where
  abbrev pub count : ℕ
  count = length (slice_split is_feed text)

  abbrev pub left : List (ℕ × TextLine)
  left = significant_from (count + 1) (lines line)

  -- The lines of the text count as they do without what stands behind it.
  pub numbered-behind : numbered (with_line text line) ≡ numbered text ++ left
  unfolding numbered lines
  numbered-behind =
      let parts = slice_split is_feed text in
      let place : 1 + length (map strip_carriage_return parts) ≡ count + 1 = omega (arith, length-map parts strip_carriage_return) in
      ap (significant_from 1) (lines-behind text line)
      ∙ significant_from-append 1 (map strip_carriage_return parts) (lines line)
      ∙ ap (λ (first : ℕ). significant_from 1 (map strip_carriage_return parts) ++ significant_from first (lines line)) place
      ∙ ap (λ (all : List (ℕ × TextLine)). all ++ left) (sym (significant-parts 1 parts))

-- There are no more lines than bytes and one.
pub few-parts : (text : List ℕ) → length (slice_split is_feed text) ≤ length text + 1
few-parts text = omega (arith, length-slice_split is_feed text, count_by-le-length is_feed text)

AreLines-append : {a b c : Before} {front back : List TextLine} {events more : List model.Event} → AreLines a front events b → AreLines b back more c
    → AreLines a (front ++ back) (events ++ more) c
AreLines-append (none before) are = are
AreLines-append (declaration before after last line lines events declares rest) are = declaration before after _ line _ _ declares (AreLines-append rest are)
AreLines-append (event before last line lines e events says rest) are = event before _ line _ e _ says (AreLines-append rest are)

module _ (text line : List ℕ) (said : Said) (is : IsLimited said) (read : AreLines (at_first scheduled) (significant text) [] (before_of said)) where
  lines-more : (events : List model.Event) (last : Before) → AreLines (before_of said) (without_numbers (left text line)) events last
      → AreLines (at_first scheduled) (significant (with_line text line)) events last
  lines-more events last are =
      subst (λ (all : List TextLine). AreLines (at_first scheduled) all events last)
      (sym (ap without_numbers (numbered-behind text line) ∙ map-append (λ (numbered : ℕ × TextLine). numbered.1) (numbered text) (left text line))) (AreLines-append read are)

  -- Where no line counts behind it, the text is what it was.
  pub nothing-behind : left text line ≡ [] → IsSchedule (with_line text line) (schedule_over said.catalog [])
  nothing-behind empty =
      IsSchedule-read (with_line text line) said [] is
      (lines-more [] (before_of said) (subst (λ (all : List (ℕ × TextLine)). AreLines (before_of said) (without_numbers all) [] (before_of said)) (sym empty) (none (before_of said))))

  -- One line behind it is an event.
  pub event-behind : (number : ℕ) (first : TextLine) (e : model.Event) → left text line ≡ (number, first) ∷ [] → IsEvent (before_of said) first e
      → IsSchedule (with_line text line) (schedule_over said.catalog (e ∷ []))
  event-behind number first e one says = record {
    last = with_event (before_of said);
    are =
        lines-more (e ∷ []) (with_event (before_of said))
        (subst (λ (all : List (ℕ × TextLine)). AreLines (before_of said) (without_numbers all) (e ∷ []) (with_event (before_of said))) (sym one)
        (event (before_of said) (with_event (before_of said)) first [] e [] says (none (with_event (before_of said)))));
    sites = said.catalog.sites;
    said = refl;
    catalog = λ i. record { sites = said.catalog.sites; journal = is i; items = said.catalog.items };
  }

  -- What is at fault behind it is at fault in both together.
  fault-more : (number : ℕ) (cause : LineCause) → IsAtFaultFrom (before_of said) (left text line) number cause → IsAtFault scheduled (with_line text line) number cause
  fault-more number cause at = record {
    front = numbered text ++ at.front;
    line = at.line;
    rest = at.rest;
    split = numbered-behind text line ∙ ap (λ (all : List (ℕ × TextLine)). numbered text ++ all) at.split ∙ sym (append_assoc (numbered text) at.front ((number, at.line) ∷ at.rest));
    events = at.events;
    before = at.before;
    are =
        subst (λ (all : List TextLine). AreLines (at_first scheduled) all at.events at.before)
        (sym (map-append (λ (numbered : ℕ × TextLine). numbered.1) (numbered text) at.front)) (AreLines-append read at.are);
    first = at.first;
  }

  pub fault-behind : (number : ℕ) (first : TextLine) (rest : List (ℕ × TextLine)) (fault : Fault) → left text line ≡ (number, first) ∷ rest
      → IsLineFault (before_of said) first fault → IfSome (refused_line (error_at number fault)) (IsMalformedAt (with_line text line))
  fault-behind number first rest fault one is-fault =
      refuses-line scheduled (with_line text line) (before_of said) number first rest (error_at number fault)
      (λ n cause at. fault-more n cause (subst (λ (all : List (ℕ × TextLine)). IsAtFaultFrom (before_of said) all n cause) (sym one) at))
      (error-fault (before_of said) number first fault is-fault)
