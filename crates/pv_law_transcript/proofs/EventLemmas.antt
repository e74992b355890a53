-- The line of an event says it.
use Rattle.std.proofs.Common.{◌≡◌, ◌∙◌, ℕ, ◌^◌, ◌<◌, ◌≤◌, Bool, true, false, not, ◌==◌, Some, List, [], ◌∷◌, ◌++◌, length, map, cond, refl, sym, ap, subst, arith, append_assoc}
use Rattle.std.specs.Prelude.{codes}
use Rattle.std.specs.Fmt.{decimal}
use Rattle.std.specs.List.{list_all, slice_split, onto_first, filter}
use Rattle.std.proofs.lemmas.Fmt.{length-decimal-le}
use Rattle.std.proofs.Math.Dec.{eqb-suc-zero}
use Rattle.pv_base.specs.declared.limits.TheConstants.{MAX_CALL, MAX_LINE, MAX_SITES}
use Rattle.pv_base.specs.declared.mode.Mode.{Mode}
use Rattle.pv_base.specs.declared.mode.Mode.TheVariants.{Lost, Kept, Torn}
use Rattle.pv_base.specs.Catalog.{Declared}
use Rattle.pv_base.specs.Name.{is_blank}
use Rattle.pv_model.specs.Events as events
use Rattle.pv_model.specs.Events.{Event}
use Rattle.pv_model.specs.LineCauses.{Before, or_default, declared_by}
use Rattle.pv_model.specs.LineForms.{Script, scheduled, most_bytes, after_blanks, after_word, before_blanks, program_text, site_and_text, takes_program, arguments}
use Rattle.pv_model.specs.ProgramText.{IsProgramText}
use Rattle.pv_model.specs.Schedule.{IsDeclaredSite, IsMode, IsRequest, Says, AreLines, none, event, with_event, request_word}
use Rattle.pv_model.specs.Syntax.{Program}
use Rattle.pv_model.specs.Text.{TextLine, is_text_byte, is_significant, words}
use Rattle.pv_protocol.specs.LineText.{numbered_text}
use Rattle.pv_transcript.specs.ScheduleText.{mode_text, armed_word, request_text, armed_text, event_words}
use Rattle.pv_law_transcript.specs.Written.{IsLineText, IsWrittenRequest, IsWrittenEvent, of_submit, of_deliver, of_pump, of_pump_most, of_lose, of_drop, of_tick, of_stop, of_start, of_arm, of_mend, of_checkpoint, of_sent, of_report, of_total, AreWritten}
use Rattle.pv_law_transcript.proofs.LineLemmas.{AreTexts, has-part}
use Rattle.pv_law_transcript.proofs.WordLemmas.{is_word, words-cons, words-last, text-cons, text-last, length-cons, solid, after_blanks-word, after_word-word}
use Rattle.pv_law_transcript.proofs.NumberLemmas.{decimal-word, decimal-reads, decimal-short}

-- A line that counts, and may stand in a schedule.
pub record IsLine (line : TextLine) : Type 0 where
  pub short : length line ≤ MAX_LINE
  pub bytes : list_all is_text_byte line ≡ true
  pub counts : is_significant line ≡ true

-- lines of one word

pub alone-line : (word : List ℕ) → is_word word ≡ true → length word ≤ 10 → is_significant word ≡ true → IsLine word
alone-line word is few counts = record { short = omega (arith, few); bytes = text-last word is; counts = counts }

-- lines of a word and a number

pub numbered-words : (word : List ℕ) (n : ℕ) → is_word word ≡ true → n < 2 ^ 64 → words (numbered_text word n) ≡ word ∷ decimal n ∷ []
numbered-words word n is small = words-cons word (decimal n) is ∙ ap (λ (more : List (List ℕ)). word ∷ more) (words-last (decimal n) (decimal-word n small))

pub numbered-line : (word : List ℕ) (n : ℕ) → is_word word ≡ true → length word ≤ 10 → n < 2 ^ 64 → is_significant (numbered_text word n) ≡ true → IsLine (numbered_text word n)
numbered-line word n is few small counts =
    let sum = length-cons word (decimal n) in
    let digits = decimal-short n small in
    record { short = omega (arith, few, sum, digits); bytes = text-cons word (decimal n) is (text-last (decimal n) (decimal-word n small)); counts = counts }

-- What was said before an event of a schedule of this catalog.
pub record Knows (catalog : Declared) (before : Before) : Type 0 where
  pub few : catalog.sites ≤ MAX_SITES
  pub kind : before.script ≡ scheduled
  pub said : before.sites ≡ Some catalog.sites
  pub declared : declared_by before ≡ catalog

site-fits : (n sites : ℕ) → sites ≤ MAX_SITES → n < sites → n < 2 ^ 64
site-fits n sites few below = omega (arith, few, below)

site-reads : (catalog : Declared) (before : Before) → Knows catalog before → (n : ℕ) → n < catalog.sites → IsDeclaredSite before (decimal n) n
site-reads catalog before knows n below =
    (decimal-reads n (site-fits n catalog.sites knows.few below), subst (λ said. n < or_default 0 said) (sym knows.said) below)

-- requests

-- a text that doesn't begin with a blank has a first word
pub record HasWord (text : List ℕ) : Type 0 where
  pub word : List ℕ
  pub more : List (List ℕ)
  pub are : words text ≡ word ∷ more

abbrev nonempty : List (List ℕ) → List (List ℕ)
nonempty parts = filter (λ (w : List ℕ). not (length w == 0)) parts

has-word-cons : (b : ℕ) (bs : List ℕ) → is_blank b ≡ false → HasWord (b ∷ bs)
unfolding words
has-word-cons b bs starts =
    let has = has-part is_blank bs in
    record {
      word = b ∷ has.part;
      more = nonempty has.more;
      are = ap nonempty (ap (λ (yes : Bool). cond yes ([] ∷ slice_split is_blank bs) (onto_first b (slice_split is_blank bs))) starts ∙ ap (onto_first b) has.are)
          ∙ ap (λ (yes : Bool). cond (not yes) ((b ∷ has.part) ∷ nonempty has.more) (nonempty has.more)) (eqb-suc-zero (length has.part));
    }

pub has-word : (text : List ℕ) → IsLineText text → HasWord text
has-word text is = subst HasWord (sym is.begins) (has-word-cons is.first is.more is.starts)

blanks-stay : (b : ℕ) (bs : List ℕ) → is_blank b ≡ false → after_blanks (b ∷ bs) ≡ b ∷ bs
blanks-stay b bs starts = ap (λ (yes : Bool). cond yes (after_blanks bs) (b ∷ bs)) starts

pub text-stays : (text : List ℕ) → IsLineText text → after_blanks text ≡ text
text-stays text is = subst (λ (t : List ℕ). after_blanks t ≡ t) (sym is.begins) (blanks-stay is.first is.more is.starts)

request-word : (query : Bool) → is_word (request_word query) ≡ true
request-word true = refl
request-word false = refl

request-short : (query : Bool) → length (request_word query) ≤ 6
request-short true = omega arith
request-short false = omega arith

-- the line of a request, its first word in front
abbrev request-words : (site : ℕ) (query : Bool) (text : List ℕ) → List ℕ
request-words site query text = request_word query ++ 32 ∷ (decimal site ++ 32 ∷ text)

request-same : (site : ℕ) (query : Bool) (text : List ℕ) → request_text site query text ≡ request-words site query text
request-same site query text = append_assoc (request_word query) (32 ∷ decimal site) (32 ∷ text)

request-counts : (site : ℕ) (query : Bool) (text : List ℕ) → is_significant (request-words site query text) ≡ true
unfolding is_significant
request-counts site true text = refl
request-counts site false text = refl

behind-site : (site : ℕ) (text : List ℕ) → site < 2 ^ 64 → IsLineText text → before_blanks (after_blanks (after_word (after_blanks (decimal site ++ 32 ∷ text)))) ≡ text
behind-site site text small is =
    ap (λ (t : List ℕ). before_blanks (after_blanks (after_word t))) (after_blanks-word (decimal site) (32 ∷ text) (decimal-word site small))
    ∙ ap (λ (t : List ℕ). before_blanks (after_blanks t)) (after_word-word (decimal site) text (solid (decimal site) (decimal-word site small)))
    ∙ ap before_blanks (text-stays text is) ∙ is.ends

request-program : (site : ℕ) (query : Bool) (text : List ℕ) → site < 2 ^ 64 → IsLineText text → program_text scheduled (request-words site query text) ≡ text
unfolding program_text
request-program site true text small is = behind-site site text small is
request-program site false text small is = behind-site site text small is

request-splits : (site : ℕ) (query : Bool) (text : List ℕ) → site < 2 ^ 64 → words (request-words site query text) ≡ request_word query ∷ decimal site ∷ words text
request-splits site query text small =
    words-cons (request_word query) (decimal site ++ 32 ∷ text) (request-word query)
    ∙ ap (λ (more : List (List ℕ)). request_word query ∷ more) (words-cons (decimal site) text (decimal-word site small))

pub request-takes : (query : Bool) → takes_program (request_word query) ≡ true
unfolding takes_program
request-takes true = refl
request-takes false = refl

arguments-request : (line word at text : List ℕ) (more : List (List ℕ)) → words line ≡ word ∷ at ∷ more → takes_program word ≡ true
    → arguments scheduled line ≡ site_and_text (program_text scheduled line) (at ∷ more)
unfolding arguments
arguments-request line word at text more are takes = rw (are, takes) refl

request-given : (site : ℕ) (query : Bool) (text : List ℕ) → site < 2 ^ 64 → IsLineText text → arguments scheduled (request-words site query text) ≡ decimal site ∷ text ∷ []
request-given site query text small is =
    let has = has-word text is in
    arguments-request (request-words site query text) (request_word query) (decimal site) text (words text) (request-splits site query text small) (request-takes query)
    ∙ ap (λ (ws : List (List ℕ)). site_and_text (program_text scheduled (request-words site query text)) (decimal site ∷ ws)) has.are
    ∙ ap (λ (t : List ℕ). decimal site ∷ t ∷ []) (request-program site query text small is)

request-is : (catalog : Declared) (before : Before) (site : ℕ) (query : Bool) (text : List ℕ) (p : Program) → Knows catalog before → site < catalog.sites → IsWrittenRequest catalog query text p
    → IsRequest before site query text p (request-words site query text)
request-is catalog before site query text p knows below is =
    let small = site-fits site catalog.sites knows.few below in
    record {
      more = decimal site ∷ words text;
      first = request-splits site query text small;
      at = decimal site;
      given = ap (λ (s : Script). arguments s (request-words site query text)) knows.kind ∙ request-given site query text small is.line;
      place = site-reads catalog before knows site below;
      is = subst (λ (c : Declared). IsProgramText c text p) (sym knows.declared) is.is;
      may = is.may;
    }

request-line : (sites site : ℕ) (query : Bool) (text : List ℕ) → sites ≤ MAX_SITES → site < sites → IsLineText text → IsLine (request-words site query text)
request-line sites site query text few below is =
    let small : site < 2 ^ 64 = site-fits site sites few below in
    let short = request-short query in
    let digits : length (decimal site) ≤ 2 = length-decimal-le 2 site (omega arith) (omega (arith, few, below)) small in
    let sum = length-cons (request_word query) (decimal site ++ 32 ∷ text) in
    let rest = length-cons (decimal site) text in
    let most = is.short in
    record {
      short = omega (arith, short, digits, sum, rest, most);
      bytes = text-cons (request_word query) (decimal site ++ 32 ∷ text) (request-word query) (text-cons (decimal site) text (decimal-word site small) is.bytes);
      counts = request-counts site query text;
    }

-- arms

armed-word : (stops : Bool) → is_word (armed_word stops) ≡ true
armed-word true = refl
armed-word false = refl

armed-short : (stops : Bool) → length (armed_word stops) ≤ 4
armed-short true = omega arith
armed-short false = omega arith

mode-word : (mode : Mode) → is_word (mode_text mode) ≡ true
mode-word Lost = refl
mode-word Kept = refl
mode-word Torn = refl

mode-short : (mode : Mode) → length (mode_text mode) ≤ 4
mode-short Lost = omega arith
mode-short Kept = omega arith
mode-short Torn = omega arith

mode-is : (mode : Mode) → IsMode (mode_text mode) mode
mode-is Lost = refl
mode-is Kept = refl
mode-is Torn = refl

abbrev armed-words : (site call : ℕ) (mode : Mode) (stops : Bool) → List ℕ
armed-words site call mode stops = armed_word stops ++ 32 ∷ (decimal site ++ 32 ∷ (decimal call ++ 32 ∷ mode_text mode))

armed-same : (site call : ℕ) (mode : Mode) (stops : Bool) → armed_text site call mode stops ≡ armed-words site call mode stops
armed-same site call mode stops = append_assoc (armed_word stops) (32 ∷ decimal site) (32 ∷ (decimal call ++ 32 ∷ mode_text mode))

armed-counts : (site call : ℕ) (mode : Mode) (stops : Bool) → is_significant (armed-words site call mode stops) ≡ true
unfolding is_significant
armed-counts site call mode true = refl
armed-counts site call mode false = refl

armed-splits : (site call : ℕ) (mode : Mode) (stops : Bool) → site < 2 ^ 64 → call < 2 ^ 64
    → words (armed-words site call mode stops) ≡ armed_word stops ∷ decimal site ∷ decimal call ∷ mode_text mode ∷ []
armed-splits site call mode stops small few =
    words-cons (armed_word stops) (decimal site ++ 32 ∷ (decimal call ++ 32 ∷ mode_text mode)) (armed-word stops)
    ∙ ap (λ (more : List (List ℕ)). armed_word stops ∷ more) (words-cons (decimal site) (decimal call ++ 32 ∷ mode_text mode) (decimal-word site small))
    ∙ ap (λ (more : List (List ℕ)). armed_word stops ∷ decimal site ∷ more) (words-cons (decimal call) (mode_text mode) (decimal-word call few))
    ∙ ap (λ (more : List (List ℕ)). armed_word stops ∷ decimal site ∷ decimal call ∷ more) (words-last (mode_text mode) (mode-word mode))

armed-line : (site call : ℕ) (mode : Mode) (stops : Bool) → site < 2 ^ 64 → call < 2 ^ 64 → IsLine (armed-words site call mode stops)
armed-line site call mode stops small few =
    let a = length-cons (armed_word stops) (decimal site ++ 32 ∷ (decimal call ++ 32 ∷ mode_text mode)) in
    let b = length-cons (decimal site) (decimal call ++ 32 ∷ mode_text mode) in
    let c = length-cons (decimal call) (mode_text mode) in
    let d = armed-short stops in
    let e = decimal-short site small in
    let f = decimal-short call few in
    let g = mode-short mode in
    record {
      short = omega (arith, a, b, c, d, e, f, g);
      bytes = text-cons (armed_word stops) (decimal site ++ 32 ∷ (decimal call ++ 32 ∷ mode_text mode)) (armed-word stops)
          (text-cons (decimal site) (decimal call ++ 32 ∷ mode_text mode) (decimal-word site small) (text-cons (decimal call) (mode_text mode) (decimal-word call few) (text-last (mode_text mode) (mode-word mode))));
      counts = armed-counts site call mode stops;
    }

-- the line of an event

module _ (catalog : Declared) (before : Before) (knows : Knows catalog before) where
  armed-says : (site call : ℕ) (mode : Mode) (stops : Bool) → site < catalog.sites → 1 ≤ call → call ≤ MAX_CALL → Says before (armed-words site call mode stops) (events.arm site call mode stops)
  armed-says site call mode true below some few =
      let small = site-fits site catalog.sites knows.few below in
      let fits : call < 2 ^ 64 = omega (arith, few) in
      (decimal site, decimal call, mode_text mode, armed-splits site call mode true small fits, site-reads catalog before knows site below, (decimal-reads call fits, some, few), mode-is mode)
  armed-says site call mode false below some few =
      let small = site-fits site catalog.sites knows.few below in
      let fits : call < 2 ^ 64 = omega (arith, few) in
      (decimal site, decimal call, mode_text mode, armed-splits site call mode false small fits, site-reads catalog before knows site below, (decimal-reads call fits, some, few), mode-is mode)

  abbrev AtSite : List ℕ → ℕ → Type 0
  AtSite word n = (given : List ℕ) × (words (numbered_text word n) ≡ word ∷ given ∷ []) × IsDeclaredSite before given n

  at-site : (word : List ℕ) (n : ℕ) → is_word word ≡ true → n < catalog.sites → AtSite word n
  at-site word n is below = (decimal n, numbered-words word n is (site-fits n catalog.sites knows.few below), site-reads catalog before knows n below)

  pub event-says : (e : Event) → IsWrittenEvent catalog e → Says before (event_words e) e
  unfolding event_words
  event-says e (of_submit site query text p below is) =
      subst (λ (line : List ℕ). IsRequest before site query text p line) (sym (request-same site query text)) (request-is catalog before site query text p knows below is)
  event-says e (of_deliver n small) = (decimal n, numbered-words (codes "deliver") n refl small, (decimal-reads n small, omega arith, omega (arith, small)))
  event-says e of_pump = words-last (codes "pump") refl
  event-says e (of_pump_most n some few) =
      let fits : n < 2 ^ 64 = omega (arith, few) in
      (decimal n, numbered-words (codes "pump") n refl fits, (decimal-reads n fits, some, few))
  event-says e (of_lose n small) = (decimal n, numbered-words (codes "lose") n refl small, (decimal-reads n small, omega arith, omega (arith, small)))
  event-says e (of_drop n below) = at-site (codes "drop") n refl below
  event-says e (of_tick n below) = at-site (codes "tick") n refl below
  event-says e (of_stop n below) = at-site (codes "stop") n refl below
  event-says e (of_start n below) = at-site (codes "start") n refl below
  event-says e (of_arm site call mode stops below some few) =
      subst (λ (line : List ℕ). Says before line (events.arm site call mode stops)) (sym (armed-same site call mode stops)) (armed-says site call mode stops below some few)
  event-says e (of_mend n below) = at-site (codes "mend") n refl below
  event-says e (of_checkpoint n below) = at-site (codes "checkpoint") n refl below
  event-says e of_sent = words-last (codes "sent") refl
  event-says e of_report = words-last (codes "report") refl
  event-says e of_total = words-last (codes "total") refl

pub event-is-line : (catalog : Declared) → catalog.sites ≤ MAX_SITES → (e : Event) → IsWrittenEvent catalog e → IsLine (event_words e)
unfolding event_words is_significant
event-is-line catalog few e (of_submit site query text p below is) = subst IsLine (sym (request-same site query text)) (request-line catalog.sites site query text few below is.line)
event-is-line catalog few e (of_deliver n small) = numbered-line (codes "deliver") n refl (omega arith) small refl
event-is-line catalog few e of_pump = alone-line (codes "pump") refl (omega arith) refl
event-is-line catalog few e (of_pump_most n some most) = numbered-line (codes "pump") n refl (omega arith) (omega (arith, most)) refl
event-is-line catalog few e (of_lose n small) = numbered-line (codes "lose") n refl (omega arith) small refl
event-is-line catalog few e (of_drop n below) = numbered-line (codes "drop") n refl (omega arith) (site-fits n catalog.sites few below) refl
event-is-line catalog few e (of_tick n below) = numbered-line (codes "tick") n refl (omega arith) (site-fits n catalog.sites few below) refl
event-is-line catalog few e (of_stop n below) = numbered-line (codes "stop") n refl (omega arith) (site-fits n catalog.sites few below) refl
event-is-line catalog few e (of_start n below) = numbered-line (codes "start") n refl (omega arith) (site-fits n catalog.sites few below) refl
event-is-line catalog few e (of_arm site call mode stops below some most) =
    subst IsLine (sym (armed-same site call mode stops)) (armed-line site call mode stops (site-fits site catalog.sites few below) (omega (arith, most)))
event-is-line catalog few e (of_mend n below) = numbered-line (codes "mend") n refl (omega arith) (site-fits n catalog.sites few below) refl
event-is-line catalog few e (of_checkpoint n below) = numbered-line (codes "checkpoint") n refl (omega arith) (site-fits n catalog.sites few below) refl
event-is-line catalog few e of_sent = alone-line (codes "sent") refl (omega arith) refl
event-is-line catalog few e of_report = alone-line (codes "report") refl (omega arith) refl
event-is-line catalog few e of_total = alone-line (codes "total") refl (omega arith) refl

-- the lines of events

-- what was said after events
abbrev pub after_events : Before → List Event → Before
after_events before [] = before
after_events before (e ∷ es) = after_events (with_event before) es

knows-more : (catalog : Declared) (before : Before) → Knows catalog before → Knows catalog (with_event before)
knows-more catalog before knows = record { few = knows.few; kind = knows.kind; said = knows.said; declared = knows.declared }

pub events-lines : (catalog : Declared) (before : Before) (es : List Event) → Knows catalog before → AreWritten catalog es → AreLines before (map event_words es) es (after_events before es)
events-lines catalog before [] knows are = none before
events-lines catalog before (e ∷ es) knows are =
    let line = event-is-line catalog knows.few e are.0 in
    event before (after_events (with_event before) es) (event_words e) (map event_words es) e es
    (record {
      kind = knows.kind;
      text = record { short = subst (λ (s : Script). length (event_words e) ≤ most_bytes s) (sym knows.kind) line.short; bytes = line.bytes };
      sites = catalog.sites;
      said = knows.said;
      says = event-says catalog before knows e are.0;
    })
    (events-lines catalog (with_event before) es (knows-more catalog before knows) are.1)

pub knows-after : (catalog : Declared) (before : Before) (es : List Event) → Knows catalog before → Knows catalog (after_events before es)
knows-after catalog before [] knows = knows
knows-after catalog before (e ∷ es) knows = knows-after catalog (with_event before) es (knows-more catalog before knows)

pub events-texts : (catalog : Declared) (es : List Event) → catalog.sites ≤ MAX_SITES → AreWritten catalog es → AreTexts (map event_words es)
events-texts catalog [] few are = tt
events-texts catalog (e ∷ es) few are = let line = event-is-line catalog few e are.0 in ((line.bytes, line.counts), events-texts catalog es few are.1)
