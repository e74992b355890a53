-- A line that declares something, or is an event, has no cause.
use Rattle.std.proofs.Common.{◌≡◌, ⊎_elim, ℕ, ◌^◌, Bool, true, false, Some, None, List, [], ◌∷◌, refl, sym, ap, subst, ◌∙◌, arith}
use Rattle.std.specs.Prelude.{◌-◌, codes, ℤ}
use Rattle.std.specs.List.{Contains}
use Rattle.std.specs.Cmp.Derive.{both_true}
use Rattle.std.specs.Str.{bytes_eq}
use Rattle.std.proofs.lemmas.Bool.{false≢true}
use Rattle.pv_base.specs.declared.limits.TheConstants.{MAX_CALL, MAX_JOURNAL, MAX_PUMP, MAX_SITES, MIN_JOURNAL}
use Rattle.pv_base.specs.declared.mode.Mode.{Mode}
use Rattle.pv_base.specs.declared.mode.Mode.TheVariants.{Lost, Kept, Torn}
use Rattle.pv_model.specs.LineCauses.{Before, or_default, LineCause, HasLineCause, mode_words}
use Rattle.pv_model.specs.Events as events
use Rattle.pv_model.specs.Events.{Event}
use Rattle.pv_model.specs.LineForms as fields
use Rattle.pv_model.specs.LineForms.{Script, scheduled, live, most_bytes, Field, line_forms, leading_word, first_word, takes_program, is_wished, arguments, form_of, has_good_number}
use Rattle.pv_model.specs.Meaning.{fits_i64}
use Rattle.pv_model.specs.Schedule.{IsIn, IsDeclaredSite, IsMode, IsOne, IsAlone, IsArm, IsRequest, request_word, MayRun, IsEvent, DeclaresSites, DeclaresJournal, DeclaresItem, DeclaresPlan, DeclaresClient, DeclaresRequest, DeclaresPeek, Declares}
use Rattle.pv_model.specs.Syntax.{Program}
use Rattle.pv_model.specs.Text.{TextLine, IsText, IsSignedDecimal, digits_of}
use Rattle.pv_base.proofs.ContainsLemmas.{Contains-first, Contains-behind}
use Rattle.pv_law_schedules.proofs.LineFormLemmas.{Fits, Runs, look, look-kind, kinds-differ, IsFree, schedule-free, is_declaring, are_digits-of, good-in, good-site, form-at, arguments-plain, look-known-line, none-some-sites, fits-formed, fits-plain, fits-no-cause}

-- Modes.

mode-contained : (w : List ℕ) (m : Mode) → IsMode w m → Contains mode_words w
mode-contained w Lost is = subst (Contains mode_words) (sym is) (Contains-first (codes "lost") (codes "kept" ∷ codes "torn" ∷ []))
mode-contained w Kept is = subst (Contains mode_words) (sym is) (Contains-behind (codes "lost") (codes "kept" ∷ codes "torn" ∷ []) (codes "kept") (Contains-first (codes "kept") (codes "torn" ∷ [])))
mode-contained w Torn is = subst (Contains mode_words) (sym is) (Contains-behind (codes "lost") (codes "kept" ∷ codes "torn" ∷ []) (codes "torn") (Contains-behind (codes "kept") (codes "torn" ∷ []) (codes "torn") (Contains-first (codes "torn") [])))

-- Events.

of-schedule : (before : Before) (line : TextLine) → before.script ≡ scheduled → IsFree before line
of-schedule before line kind = schedule-free before line (λ e. kinds-differ (sym kind ∙ e))

fits-number : (before : Before) (line : TextLine) (kind : before.script ≡ scheduled) (n : ℕ) (word : List ℕ) (least most m : ℕ) → IsText (most_bytes before.script) line → before.sites ≡ Some n
    → is_declaring word ≡ false → takes_program word ≡ false → look scheduled word 1 ≡ Some (fields.number least most ∷ [])
    → IsOne word (λ w. IsIn least most w m) line → Fits before line
fits-number before line kind n word least most m text said isnt plain found is =
    fits-plain before line n word (fields.number least most ∷ []) (is.0 ∷ []) text said isnt plain (look-kind before scheduled word 1 kind found) is.1
    (good-in (or_default 0 before.sites) least most is.0 m is.2, tt) (of-schedule before line kind)

fits-site : (before : Before) (line : TextLine) (kind : before.script ≡ scheduled) (n : ℕ) (word : List ℕ) (m : ℕ) → IsText (most_bytes before.script) line → before.sites ≡ Some n
    → is_declaring word ≡ false → takes_program word ≡ false → look scheduled word 1 ≡ Some (fields.site ∷ [])
    → IsOne word (λ w. IsDeclaredSite before w m) line → Fits before line
fits-site before line kind n word m text said isnt plain found is =
    fits-plain before line n word (fields.site ∷ []) (is.0 ∷ []) text said isnt plain (look-kind before scheduled word 1 kind found) is.1
    (good-site before is.0 m is.2, tt) (of-schedule before line kind)

fits-alone : (before : Before) (line : TextLine) (kind : before.script ≡ scheduled) (n : ℕ) (word : List ℕ) → IsText (most_bytes before.script) line → before.sites ≡ Some n
    → is_declaring word ≡ false → takes_program word ≡ false → look scheduled word 0 ≡ Some [] → IsAlone word line → Fits before line
fits-alone before line kind n word text said isnt plain found is =
    fits-plain before line n word [] [] text said isnt plain (look-kind before scheduled word 0 kind found) is tt (of-schedule before line kind)

fits-arm : (before : Before) (line : TextLine) (kind : before.script ≡ scheduled) (n : ℕ) (word : List ℕ) (m call : ℕ) (mode : Mode) → IsText (most_bytes before.script) line → before.sites ≡ Some n
    → is_declaring word ≡ false → takes_program word ≡ false → look scheduled word 3 ≡ Some (fields.site ∷ fields.number 1 MAX_CALL ∷ fields.mode ∷ [])
    → IsArm before word m call mode line → Fits before line
fits-arm before line kind n word m call mode text said isnt plain found is =
    fits-plain before line n word (fields.site ∷ fields.number 1 MAX_CALL ∷ fields.mode ∷ []) (is.0 ∷ is.1 ∷ is.2 ∷ []) text said isnt plain
    (look-kind before scheduled word 3 kind found) is.3
    (good-site before is.0 m is.4, (good-in (or_default 0 before.sites) 1 MAX_CALL is.1 call is.5, (mode-contained is.2 mode is.6, tt))) (of-schedule before line kind)

request-query : (query : Bool) → request_word query ≡ codes "query" → query ≡ true
request-query true is = refl
request-query false is = absurd (false≢true (ap (bytes_eq (codes "query")) is))

runs-query : (p : Program) (query : Bool) → MayRun p query → Runs p (request_word query)
runs-query p query may = record { items = may.items; are = may.are; some = may.some; few = may.few; answers = λ e. may.answers (request-query query e) }

fits-request : (before : Before) (line : TextLine) (kind : before.script ≡ scheduled) (n : ℕ) (query : Bool) (m : ℕ) (text : List ℕ) (p : Program) → IsText (most_bytes before.script) line → before.sites ≡ Some n
    → is_declaring (request_word query) ≡ false → look scheduled (request_word query) 2 ≡ Some (fields.site ∷ fields.program ∷ [])
    → IsRequest before m query text p line → Fits before line
fits-request before line kind n query m text p short said isnt found is =
    fits-formed before line n (request_word query) (fields.site ∷ fields.program ∷ []) (is.at ∷ text ∷ []) short said isnt (ap leading_word is.first) is.given
    (look-kind before scheduled (request_word query) 2 kind found)
    (good-site before is.at m is.place, ((p, is.is, runs-query p query is.may), tt)) (of-schedule before line kind)

pub event-fits : (before : Before) (line : TextLine) (event : Event) → IsEvent before line event → Fits before line
unfolding line_forms takes_program
event-fits before line (events.submit m true text p) is = fits-request before line is.kind is.sites true m text p is.text is.said refl refl is.says
event-fits before line (events.submit m false text p) is = fits-request before line is.kind is.sites false m text p is.text is.said refl refl is.says
event-fits before line (events.deliver m) is = fits-number before line is.kind is.sites (codes "deliver") 0 (2 ^ 64 - 1) m is.text is.said refl refl refl is.says
event-fits before line (events.lose m) is = fits-number before line is.kind is.sites (codes "lose") 0 (2 ^ 64 - 1) m is.text is.said refl refl refl is.says
event-fits before line (events.pump None) is = fits-alone before line is.kind is.sites (codes "pump") is.text is.said refl refl refl is.says
event-fits before line (events.pump (Some m)) is = fits-number before line is.kind is.sites (codes "pump") 1 MAX_PUMP m is.text is.said refl refl refl is.says
event-fits before line (events.drop m) is = fits-site before line is.kind is.sites (codes "drop") m is.text is.said refl refl refl is.says
event-fits before line (events.tick m) is = fits-site before line is.kind is.sites (codes "tick") m is.text is.said refl refl refl is.says
event-fits before line (events.stop m) is = fits-site before line is.kind is.sites (codes "stop") m is.text is.said refl refl refl is.says
event-fits before line (events.start m) is = fits-site before line is.kind is.sites (codes "start") m is.text is.said refl refl refl is.says
event-fits before line (events.mend m) is = fits-site before line is.kind is.sites (codes "mend") m is.text is.said refl refl refl is.says
event-fits before line (events.checkpoint m) is = fits-site before line is.kind is.sites (codes "checkpoint") m is.text is.said refl refl refl is.says
event-fits before line (events.arm m call mode true) is = fits-arm before line is.kind is.sites (codes "cut") m call mode is.text is.said refl refl refl is.says
event-fits before line (events.arm m call mode false) is = fits-arm before line is.kind is.sites (codes "fail") m call mode is.text is.said refl refl refl is.says
event-fits before line events.sent is = fits-alone before line is.kind is.sites (codes "sent") is.text is.said refl refl refl is.says
event-fits before line events.report is = fits-alone before line is.kind is.sites (codes "report") is.text is.said refl refl refl is.says
event-fits before line events.total is = fits-alone before line is.kind is.sites (codes "total") is.text is.said refl refl refl is.says

pub no-cause-event : {before : Before} {line : TextLine} {event : Event} (cause : LineCause) → IsEvent before line event → HasLineCause before line cause → ⊥
no-cause-event {before} {line} {event} cause is has = fits-no-cause before line cause (event-fits before line event is) has

-- Declarations.

pub word-differs : (line : TextLine) (a b : List ℕ) → bytes_eq a b ≡ false → bytes_eq b b ≡ true → first_word line ≡ a → first_word line ≡ b → ⊥
word-differs line a b differ same is other =
    false≢true (sym differ ∙ ap (λ (w : List ℕ). bytes_eq w b) (sym is ∙ other) ∙ same)

look-sites : (script : Script) → look script (codes "sites") 1 ≡ Some (fields.number 1 MAX_SITES ∷ [])
unfolding line_forms
look-sites scheduled = refl
look-sites live = refl

look-journal : (script : Script) → look script (codes "journal") 1 ≡ Some (fields.number MIN_JOURNAL MAX_JOURNAL ∷ [])
unfolding line_forms
look-journal scheduled = refl
look-journal live = refl

look-item : (script : Script) → look script (codes "item") 3 ≡ Some (fields.name ∷ fields.site ∷ fields.value ∷ [])
unfolding line_forms
look-item scheduled = refl
look-item live = refl

-- A line with such a first word is no wish of a client.
no-request : (before : Before) (line : TextLine) (word : List ℕ) → is_wished word ≡ false → first_word line ≡ word → IsFree before line
no-request before line word plain first = record {
  asked = λ has. false≢true (sym plain ∙ ap is_wished (sym first) ∙ has.0.1);
  next = λ has. false≢true (sym plain ∙ ap is_wished (sym first) ∙ has.0.1);
}

fits-sites : (before after : Before) (line : TextLine) → DeclaresSites before line after → Fits before line
unfolding takes_program is_wished
fits-sites before after line is =
    let word = codes "sites" in
    let first : first_word line ≡ word = ap leading_word is.is.1 in
    let given : arguments before.script line ≡ is.is.0 ∷ [] = arguments-plain before.script line word (is.is.0 ∷ []) refl is.is.1 in
    let form : form_of before.script line ≡ Some (fields.number 1 MAX_SITES ∷ []) =
    form-at before.script line word (is.is.0 ∷ []) (Some (fields.number 1 MAX_SITES ∷ [])) first given (look-sites before.script) in
    let free = no-request before line word refl first in
    record {
      text = is.text;
      said = λ none. first;
      once = ⊎_elim (λ c. c.1 is.first) (⊎_elim (λ c. word-differs line word (codes "journal") refl refl first c.0) (λ c. word-differs line word (codes "plan") refl refl first c.0));
      early = λ c. ⊎_elim (word-differs line word (codes "journal") refl refl first)
          (⊎_elim (word-differs line word (codes "item") refl refl first) (word-differs line word (codes "plan") refl refl first)) c.0;
      asked = free.asked;
      fewer = λ c. word-differs line word (codes "client") refl refl first c.0;
      next = free.next;
      form = fields.number 1 MAX_SITES ∷ [];
      known = look-known-line before.script line word 1 (fields.number 1 MAX_SITES ∷ []) first (look-sites before.script);
      formed = form;
      each = rw form (rw first (rw given (good-in (or_default 0 before.sites) 1 MAX_SITES is.is.0 is.count is.is.2, tt)));
      room = λ item. absurd (word-differs line word (codes "item") refl refl first item);
    }

fits-journal : (before after : Before) (line : TextLine) → DeclaresJournal before line after → Fits before line
unfolding takes_program is_wished
fits-journal before after line is =
    let word = codes "journal" in
    let first : first_word line ≡ word = ap leading_word is.is.1 in
    let given : arguments before.script line ≡ is.is.0 ∷ [] = arguments-plain before.script line word (is.is.0 ∷ []) refl is.is.1 in
    let form : form_of before.script line ≡ Some (fields.number MIN_JOURNAL MAX_JOURNAL ∷ []) =
    form-at before.script line word (is.is.0 ∷ []) (Some (fields.number MIN_JOURNAL MAX_JOURNAL ∷ [])) first given (look-journal before.script) in
    let free = no-request before line word refl first in
    record {
      text = is.text;
      said = λ none. absurd (none-some-sites before.sites is.sites is.said none);
      once = ⊎_elim (λ c. word-differs line word (codes "sites") refl refl first c.0) (⊎_elim (λ c. c.1 is.once) (λ c. word-differs line word (codes "plan") refl refl first c.0));
      early = λ c. false≢true (sym is.early ∙ c.1);
      asked = free.asked;
      fewer = λ c. word-differs line word (codes "client") refl refl first c.0;
      next = free.next;
      form = fields.number MIN_JOURNAL MAX_JOURNAL ∷ [];
      known = look-known-line before.script line word 1 (fields.number MIN_JOURNAL MAX_JOURNAL ∷ []) first (look-journal before.script);
      formed = form;
      each = rw form (rw first (rw given (good-in (or_default 0 before.sites) MIN_JOURNAL MAX_JOURNAL is.is.0 is.limit is.is.2, tt)));
      room = λ item. absurd (word-differs line word (codes "item") refl refl first item);
    }

good-value : (sites : ℕ) (w : List ℕ) (z : ℤ) → IsSignedDecimal w z → fits_i64 z ≡ true → has_good_number sites (fields.value, w) ≡ true
good-value sites w z is fits =
    both_true (are_digits-of (digits_of w) is.some is.digits) (subst (λ (y : ℤ). fits_i64 y ≡ true) is.value fits)

fits-item : (before after : Before) (line : TextLine) → DeclaresItem before line after → Fits before line
unfolding takes_program is_wished
fits-item before after line is =
    let word = codes "item" in
    let words_given = is.item.name ∷ is.at ∷ is.number ∷ [] in
    let first : first_word line ≡ word = ap leading_word is.is in
    let given : arguments before.script line ≡ words_given = arguments-plain before.script line word words_given refl is.is in
    let form : form_of before.script line ≡ Some (fields.name ∷ fields.site ∷ fields.value ∷ []) =
    form-at before.script line word words_given (Some (fields.name ∷ fields.site ∷ fields.value ∷ [])) first given (look-item before.script) in
    let free = no-request before line word refl first in
    record {
      text = is.text;
      said = λ none. absurd (none-some-sites before.sites is.sites is.said none);
      once = ⊎_elim (λ c. word-differs line word (codes "sites") refl refl first c.0)
          (⊎_elim (λ c. word-differs line word (codes "journal") refl refl first c.0) (λ c. word-differs line word (codes "plan") refl refl first c.0));
      early = λ c. false≢true (sym is.early ∙ c.1);
      asked = free.asked;
      fewer = λ c. word-differs line word (codes "client") refl refl first c.0;
      next = free.next;
      form = fields.name ∷ fields.site ∷ fields.value ∷ [];
      known = look-known-line before.script line word 3 (fields.name ∷ fields.site ∷ fields.value ∷ []) first (look-item before.script);
      formed = form;
      each = rw form (rw first (rw given ((is.name, is.free), (good-site before is.at is.item.site is.place, (good-value (or_default 0 before.sites) is.number is.item.value is.worth is.fits, tt)))));
      room = λ item. is.room;
    }

-- Lines of live scripts alone.

fits-plan : (before after : Before) (line : TextLine) → DeclaresPlan before line after → Fits before line
unfolding line_forms takes_program is_wished
fits-plan before after line is =
    let word = codes "plan" in
    let words_given = is.dropped ∷ is.doubled ∷ [] in
    let fields_given = fields.number 0 (2 ^ 32 - 1) ∷ fields.number 0 (2 ^ 32 - 1) ∷ [] in
    let first : first_word line ≡ word = ap leading_word is.is in
    let given : arguments before.script line ≡ words_given = arguments-plain before.script line word words_given refl is.is in
    let found : look before.script word 2 ≡ Some fields_given = look-kind before live word 2 is.kind refl in
    let form : form_of before.script line ≡ Some fields_given = form-at before.script line word words_given (Some fields_given) first given found in
    let free = no-request before line word refl first in
    record {
      text = is.text;
      said = λ none. absurd (none-some-sites before.sites is.sites is.said none);
      once = ⊎_elim (λ c. word-differs line word (codes "sites") refl refl first c.0) (⊎_elim (λ c. word-differs line word (codes "journal") refl refl first c.0) (λ c. c.1 is.once));
      early = λ c. false≢true (sym is.early ∙ c.1);
      asked = free.asked;
      fewer = λ c. word-differs line word (codes "client") refl refl first c.0;
      next = free.next;
      form = fields_given;
      known = look-known-line before.script line word 2 fields_given first found;
      formed = form;
      each = rw form (rw first (rw given (
        good-in (or_default 0 before.sites) 0 (2 ^ 32 - 1) is.dropped is.fault_plan.drop_each is.drops,
        (good-in (or_default 0 before.sites) 0 (2 ^ 32 - 1) is.doubled is.fault_plan.double_each is.doubles, tt),
      )));
      room = λ item. absurd (word-differs line word (codes "item") refl refl first item);
    }

fits-client : (before after : Before) (line : TextLine) → DeclaresClient before line after → Fits before line
unfolding line_forms takes_program is_wished
fits-client before after line is =
    let word = codes "client" in
    let first : first_word line ≡ word = ap leading_word is.is.1 in
    let given : arguments before.script line ≡ is.is.0 ∷ [] = arguments-plain before.script line word (is.is.0 ∷ []) refl is.is.1 in
    let found : look before.script word 1 ≡ Some (fields.site ∷ []) = look-kind before live word 1 is.kind refl in
    let form : form_of before.script line ≡ Some (fields.site ∷ []) = form-at before.script line word (is.is.0 ∷ []) (Some (fields.site ∷ [])) first given found in
    let free = no-request before line word refl first in
    record {
      text = is.text;
      said = λ none. absurd (none-some-sites before.sites is.sites is.said none);
      once = ⊎_elim (λ c. word-differs line word (codes "sites") refl refl first c.0)
          (⊎_elim (λ c. word-differs line word (codes "journal") refl refl first c.0) (λ c. word-differs line word (codes "plan") refl refl first c.0));
      early = λ c. ⊎_elim (word-differs line word (codes "journal") refl refl first)
          (⊎_elim (word-differs line word (codes "item") refl refl first) (word-differs line word (codes "plan") refl refl first)) c.0;
      asked = free.asked;
      fewer = λ c. omega (arith, is.room, c.1);
      next = free.next;
      form = fields.site ∷ [];
      known = look-known-line before.script line word 1 (fields.site ∷ []) first found;
      formed = form;
      each = rw form (rw first (rw given (good-site before is.is.0 is.site is.is.2, tt)));
      room = λ item. absurd (word-differs line word (codes "item") refl refl first item);
    }

pub request-declares : (query : Bool) → is_declaring (request_word query) ≡ false
request-declares true = refl
request-declares false = refl

look-asked : (query : Bool) → look live (request_word query) 1 ≡ Some (fields.program ∷ [])
unfolding line_forms
look-asked true = refl
look-asked false = refl

fits-asked : (before after : Before) (line : TextLine) → DeclaresRequest before line after → Fits before line
fits-asked before after line is =
    let word = request_word is.request.query in
    fits-formed before line is.sites word (fields.program ∷ []) (is.request.text ∷ []) is.text is.said (request-declares is.request.query) (ap leading_word is.first) is.given
    (look-kind before live word 1 is.kind (look-asked is.request.query))
    ((is.request.program, is.is, runs-query is.request.program is.request.query is.may), tt)
    (record { asked = λ has. is.some has.1; next = λ has. omega (arith, is.room, has.1) })

fits-peek : (before after : Before) (line : TextLine) → DeclaresPeek before line after → Fits before line
unfolding line_forms takes_program
fits-peek before after line is =
    fits-plain before line is.sites (codes "peek") (fields.item_name ∷ []) (is.name ∷ []) is.text is.said refl refl
    (look-kind before live (codes "peek") 1 is.kind refl) is.is ((is.item, is.at, is.here), tt)
    (record { asked = λ has. is.some has.1; next = λ has. omega (arith, is.room, has.1) })

pub declared-fits : (before after : Before) (line : TextLine) → Declares before line after → Fits before line
declared-fits before after line =
    ⊎_elim (fits-sites before after line) (⊎_elim (fits-journal before after line) (⊎_elim (fits-item before after line)
    (⊎_elim (fits-plan before after line) (⊎_elim (fits-client before after line) (⊎_elim (fits-asked before after line) (fits-peek before after line))))))

pub no-cause-declared : {before after : Before} {line : TextLine} (cause : LineCause) → Declares before line after → HasLineCause before line cause → ⊥
no-cause-declared {before} {after} {line} cause is has = fits-no-cause before line cause (declared-fits before after line is) has
