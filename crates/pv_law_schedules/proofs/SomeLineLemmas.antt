-- Each line is an event, declares something or has a first cause.
use Rattle.std.proofs.Common.{◌≡◌, ◌⊎◌, ⊎_elim, ℕ, ◌<◌, ◌≤◌, ◌^◌, arith, Bool, true, false, Option, Some, None, List, [], ◌∷◌, length, inl, inr, refl, sym, ap, subst, ◌∙◌}
use Rattle.std.specs.Prelude.{◌==◌, ◌-◌, ◌++◌, cond, map, filter, codes}
use Rattle.std.specs.List.{Contains}
use Rattle.std.specs.Str.{bytes_eq}
use Rattle.std.proofs.lemmas.Bool.{false≢true, eqb-true}
use Rattle.std.proofs.lemmas.Slice.Eq.{bytes_eq-Decides}
use Rattle.pv_base.specs.declared.limits.TheConstants.{MAX_CALL, MAX_CLIENTS, MAX_JOURNAL, MAX_PUMP, MAX_REQUESTS, MAX_SITES, MIN_JOURNAL}
use Rattle.pv_base.specs.Catalog.{Item}
use Rattle.pv_model.specs.LineCauses.{Before, or_default, last_requests, LineCause, IsFirstCause}
use Rattle.pv_model.specs.Events as events
use Rattle.pv_model.specs.Events.{Event}
use Rattle.pv_model.specs.LineForms as fields
use Rattle.pv_model.specs.LineForms.{Script, scheduled, live, Field, line_forms, leading_word, later_words, first_word, forms_of, takes_program, is_wished, arguments, form_of, beside}
use Rattle.pv_model.specs.LiveScript.{Request, to_ask, to_peek, FaultPlan}
use Rattle.pv_model.specs.Schedule.{IsIn, IsDeclaredSite, IsOne, request_word, Says, IsEvent, Declares, new_client, with_wish}
use Rattle.pv_model.specs.Text.{TextLine, words, number_of_digits, number_of_signed}
use Rattle.pv_law_schedules.proofs.FirstCauseLemmas.{some-first}
use Rattle.pv_base.proofs.ContainsLemmas.{Contains-first, Contains-behind}
use Rattle.pv_law_schedules.proofs.LineFormLemmas.{Each, Each-contains, Fits, look, look-kind, form_of-look}
use Rattle.pv_law_schedules.proofs.LineLawLemmas.{word-differs}
use Rattle.pv_law_schedules.proofs.MeaningLemmas.{IsPlain, HasOnly, reads, reads-only, split-words, in-good, list-one, list-two, list-three, site-good, value-good, one-number, one-site, alone, some-arm}
use Rattle.pv_law_schedules.proofs.NoCauseLemmas.{isnt-true, one-form, free-fits}

abbrev AnEvent : Before → TextLine → Type 0
AnEvent before line = (e : Event) × IsEvent before line e

abbrev ADeclaration : Before → TextLine → Type 0
ADeclaration before line = (after : Before) × Declares before line after

abbrev Means : Before → TextLine → Type 0
Means before line = AnEvent before line ⊎ ADeclaration before line

-- Events.

abbrev SitesSaid : Before → Type 0
SitesSaid before = (n : ℕ) × (before.sites ≡ Some n)

sites-said : (before : Before) (line : TextLine) (word : List ℕ) → Fits before line → first_word line ≡ word → bytes_eq word (codes "sites") ≡ false → SitesSaid before
sites-said before line word fits first isnt = go before.sites refl
  where
    go : (o : Option ℕ) → before.sites ≡ o → SitesSaid before
    go None e = absurd (word-differs line word (codes "sites") isnt refl first (fits.said e))
    go (Some n) e = (n, e)

an-event : (before : Before) (line : TextLine) (kind : before.script ≡ scheduled) (word : List ℕ) → Fits before line → first_word line ≡ word → bytes_eq word (codes "sites") ≡ false → (e : Event) → Says before line e → Means before line
an-event before line kind word fits first isnt e says =
    let sites = sites-said before line word fits first isnt in
    inl (e, record { kind = kind; text = fits.text; sites = sites.0; said = sites.1; says = says })

only-in : (before : Before) (kind : Script) (word : List ℕ) (count : ℕ) (form : List Field) → before.script ≡ kind → HasOnly kind word count form
    → HasOnly before.script word count form
only-in before kind word count form is only = λ n. look-kind before kind word n is (only n)

-- the word isn't empty
some-word : (b : ℕ) (bs : List ℕ) → b ∷ bs ≡ [] → ⊥
some-word b bs e = cc

abbrev Handles : Before → TextLine → List ℕ → Type 0
Handles before line word = Fits before line → first_word line ≡ word → Means before line

means-number : (before : Before) (line : TextLine) (kind : before.script ≡ scheduled) (word : List ℕ) (least most : ℕ) (make : ℕ → Event) → IsPlain word → bytes_eq word (codes "sites") ≡ false
    → HasOnly scheduled word 1 (fields.number least most ∷ []) → ((n : ℕ) → IsOne word (λ w. IsIn least most w n) line → Says before line (make n)) → Handles before line word
means-number before line kind word least most make plain isnt only says fits first =
    let is = one-number before line word least most plain first (reads-only before line word (fields.number least most ∷ []) 1 fits first (only-in before scheduled word 1 (fields.number least most ∷ []) kind only)) in
    an-event before line kind word fits first isnt (make is.0) (says is.0 is.1)

means-site : (before : Before) (line : TextLine) (kind : before.script ≡ scheduled) (word : List ℕ) (make : ℕ → Event) → IsPlain word → bytes_eq word (codes "sites") ≡ false
    → HasOnly scheduled word 1 (fields.site ∷ []) → ((n : ℕ) → IsOne word (λ w. IsDeclaredSite before w n) line → Says before line (make n)) → Handles before line word
means-site before line kind word make plain isnt only says fits first =
    let is = one-site before line word plain first (reads-only before line word (fields.site ∷ []) 1 fits first (only-in before scheduled word 1 (fields.site ∷ []) kind only)) in
    an-event before line kind word fits first isnt (make is.0) (says is.0 is.1)

means-alone : (before : Before) (line : TextLine) (kind : before.script ≡ scheduled) (word : List ℕ) (e : Event) → IsPlain word → bytes_eq word (codes "sites") ≡ false
    → HasOnly scheduled word 0 [] → (words line ≡ word ∷ [] → Says before line e) → Handles before line word
means-alone before line kind word e plain isnt only says fits first =
    an-event before line kind word fits first isnt e (says (alone before line word plain first (reads-only before line word [] 0 fits first (only-in before scheduled word 0 [] kind only))))

deliver-line : (before : Before) (line : TextLine) (kind : before.script ≡ scheduled) → Handles before line (codes "deliver")
unfolding line_forms takes_program
deliver-line before line kind = means-number before line kind (codes "deliver") 0 (2 ^ 64 - 1) events.deliver (record { some = some-word _ _; plain = refl }) refl (λ n. refl) (λ n is. is)

lose-line : (before : Before) (line : TextLine) (kind : before.script ≡ scheduled) → Handles before line (codes "lose")
unfolding line_forms takes_program
lose-line before line kind = means-number before line kind (codes "lose") 0 (2 ^ 64 - 1) events.lose (record { some = some-word _ _; plain = refl }) refl (λ n. refl) (λ n is. is)

drop-line : (before : Before) (line : TextLine) (kind : before.script ≡ scheduled) → Handles before line (codes "drop")
unfolding line_forms takes_program
drop-line before line kind = means-site before line kind (codes "drop") events.drop (record { some = some-word _ _; plain = refl }) refl (λ n. refl) (λ n is. is)

tick-line : (before : Before) (line : TextLine) (kind : before.script ≡ scheduled) → Handles before line (codes "tick")
unfolding line_forms takes_program
tick-line before line kind = means-site before line kind (codes "tick") events.tick (record { some = some-word _ _; plain = refl }) refl (λ n. refl) (λ n is. is)

stop-line : (before : Before) (line : TextLine) (kind : before.script ≡ scheduled) → Handles before line (codes "stop")
unfolding line_forms takes_program
stop-line before line kind = means-site before line kind (codes "stop") events.stop (record { some = some-word _ _; plain = refl }) refl (λ n. refl) (λ n is. is)

start-line : (before : Before) (line : TextLine) (kind : before.script ≡ scheduled) → Handles before line (codes "start")
unfolding line_forms takes_program
start-line before line kind = means-site before line kind (codes "start") events.start (record { some = some-word _ _; plain = refl }) refl (λ n. refl) (λ n is. is)

mend-line : (before : Before) (line : TextLine) (kind : before.script ≡ scheduled) → Handles before line (codes "mend")
unfolding line_forms takes_program
mend-line before line kind = means-site before line kind (codes "mend") events.mend (record { some = some-word _ _; plain = refl }) refl (λ n. refl) (λ n is. is)

checkpoint-line : (before : Before) (line : TextLine) (kind : before.script ≡ scheduled) → Handles before line (codes "checkpoint")
unfolding line_forms takes_program
checkpoint-line before line kind = means-site before line kind (codes "checkpoint") events.checkpoint (record { some = some-word _ _; plain = refl }) refl (λ n. refl) (λ n is. is)

sent-line : (before : Before) (line : TextLine) (kind : before.script ≡ scheduled) → Handles before line (codes "sent")
unfolding line_forms takes_program
sent-line before line kind = means-alone before line kind (codes "sent") events.sent (record { some = some-word _ _; plain = refl }) refl (λ n. refl) (λ is. is)

report-line : (before : Before) (line : TextLine) (kind : before.script ≡ scheduled) → Handles before line (codes "report")
unfolding line_forms takes_program
report-line before line kind = means-alone before line kind (codes "report") events.report (record { some = some-word _ _; plain = refl }) refl (λ n. refl) (λ is. is)

total-line : (before : Before) (line : TextLine) (kind : before.script ≡ scheduled) → Handles before line (codes "total")
unfolding line_forms takes_program
total-line before line kind = means-alone before line kind (codes "total") events.total (record { some = some-word _ _; plain = refl }) refl (λ n. refl) (λ is. is)

cut-line : (before : Before) (line : TextLine) (kind : before.script ≡ scheduled) → Handles before line (codes "cut")
unfolding line_forms takes_program
cut-line before line kind fits first =
    let is = some-arm before line (codes "cut") (record { some = some-word _ _; plain = refl }) first (reads-only before line (codes "cut") (fields.site ∷ fields.number 1 MAX_CALL ∷ fields.mode ∷ []) 3 fits first (only-in before scheduled (codes "cut") 3 (fields.site ∷ fields.number 1 MAX_CALL ∷ fields.mode ∷ []) kind (λ n. refl))) in
    an-event before line kind (codes "cut") fits first refl (events.arm is.0 is.1 is.2 true) is.3

fail-line : (before : Before) (line : TextLine) (kind : before.script ≡ scheduled) → Handles before line (codes "fail")
unfolding line_forms takes_program
fail-line before line kind fits first =
    let is = some-arm before line (codes "fail") (record { some = some-word _ _; plain = refl }) first (reads-only before line (codes "fail") (fields.site ∷ fields.number 1 MAX_CALL ∷ fields.mode ∷ []) 3 fits first (only-in before scheduled (codes "fail") 3 (fields.site ∷ fields.number 1 MAX_CALL ∷ fields.mode ∷ []) kind (λ n. refl))) in
    an-event before line kind (codes "fail") fits first refl (events.arm is.0 is.1 is.2 false) is.3

abbrev PumpForm : ℕ → List Field → Type 0
PumpForm n form = ((0 ≡ n) × ([] ≡ form)) ⊎ ((1 ≡ n) × (fields.number 1 MAX_PUMP ∷ [] ≡ form))

pump-form : (n : ℕ) (form : List Field) → cond (0 == n) (Some []) (cond (1 == n) (Some (fields.number 1 MAX_PUMP ∷ [])) None) ≡ Some form → PumpForm n form
pump-form n form e = go (0 == n) refl e
  where
    go : (b : Bool) → (0 == n) ≡ b → cond b (Some []) (cond (1 == n) (Some (fields.number 1 MAX_PUMP ∷ [])) None) ≡ Some form → PumpForm n form
    go true same found = inl (eqb-true 0 n same, let is : [] ≡ form = cc in is)
    go false same found = inr (one-form 1 n (fields.number 1 MAX_PUMP ∷ []) form found)

pump-line : (before : Before) (line : TextLine) (kind : before.script ≡ scheduled) → Handles before line (codes "pump")
unfolding line_forms takes_program
pump-line before line kind fits first =
    let word = codes "pump" in
    let plain : IsPlain (codes "pump") = record { some = some-word _ _; plain = refl } in
    let at : look scheduled (codes "pump") (length (arguments before.script line)) ≡ Some fits.form =
    sym (look-kind before scheduled (codes "pump") (length (arguments before.script line)) kind refl)
    ∙ subst (λ (w : List ℕ). look before.script w (length (arguments before.script line)) ≡ Some fits.form) first (sym (form_of-look before.script line) ∙ fits.formed) in
    ⊎_elim
    (λ is. an-event before line kind (codes "pump") fits first refl (events.pump None)
    (alone before line (codes "pump") plain first (reads before line (codes "pump") [] 0 fits first (fits.formed ∙ ap Some (sym is.1)) is.0)))
    (λ is.
    let one = one-number before line (codes "pump") 1 MAX_PUMP plain first (reads before line (codes "pump") (fields.number 1 MAX_PUMP ∷ []) 1 fits first (fits.formed ∙ ap Some (sym is.1)) is.0) in
    an-event before line kind (codes "pump") fits first refl (events.pump (Some one.0)) one.1)
    (pump-form (length (arguments before.script line)) fits.form at)

words-begin : (line : TextLine) (word : List ℕ) → (word ≡ [] → ⊥) → first_word line ≡ word → words line ≡ word ∷ later_words (words line)
words-begin line word some first = go (words line) first
  where
    go : (ws : List (List ℕ)) → leading_word ws ≡ word → ws ≡ word ∷ later_words ws
    go [] e = absurd (some (sym e))
    go (w ∷ more) e = ap (λ (x : List ℕ). x ∷ more) e

request-line : (before : Before) (line : TextLine) (kind : before.script ≡ scheduled) (query : Bool) → (request_word query ≡ [] → ⊥) → bytes_eq (request_word query) (codes "sites") ≡ false
    → HasOnly scheduled (request_word query) 2 (fields.site ∷ fields.program ∷ []) → (query ≡ true → request_word query ≡ codes "query") → Handles before line (request_word query)
request-line before line kind query some isnt only asks fits first =
    let is = reads-only before line (request_word query) (fields.site ∷ fields.program ∷ []) 2 fits first (only-in before scheduled (request_word query) 2 (fields.site ∷ fields.program ∷ []) kind only) in
    let two = list-two is.given is.many in
    let suit = rw (two.2) at is.suit in
    let program = suit.1.0 in
    let runs = program.2 in
    an-event before line kind (request_word query) fits first isnt (events.submit (number_of_digits two.0) query two.1 program.0)
    (record {
      more = later_words (words line);
      first = words-begin line (request_word query) some first;
      at = two.0;
      given = is.args ∙ two.2;
      place = site-good before two.0 suit.0;
      is = program.1;
      may = record { items = runs.items; are = runs.are; some = runs.some; few = runs.few; answers = λ e. runs.answers (asks e) };
    })

submit-line : (before : Before) (line : TextLine) (kind : before.script ≡ scheduled) → Handles before line (codes "submit")
unfolding line_forms
submit-line before line kind = request-line before line kind false (some-word _ _) refl (λ n. refl) (λ e. absurd (false≢true e))

query-line : (before : Before) (line : TextLine) (kind : before.script ≡ scheduled) → Handles before line (codes "query")
unfolding line_forms
query-line before line kind = request-line before line kind true (some-word _ _) refl (λ n. refl) (λ e. refl)

-- Declarations.

none-said : {A : Type 0} (o : Option A) → ((o ≡ None → ⊥) → ⊥) → o ≡ None
none-said None isnt = refl
none-said (Some n) isnt = absurd (isnt (λ e. let never : ⊥ = cc in never))

only-sites : (script : Script) → HasOnly script (codes "sites") 1 (fields.number 1 MAX_SITES ∷ [])
unfolding line_forms
only-sites scheduled = λ n. refl
only-sites live = λ n. refl

only-journal : (script : Script) → HasOnly script (codes "journal") 1 (fields.number MIN_JOURNAL MAX_JOURNAL ∷ [])
unfolding line_forms
only-journal scheduled = λ n. refl
only-journal live = λ n. refl

only-item : (script : Script) → HasOnly script (codes "item") 3 (fields.name ∷ fields.site ∷ fields.value ∷ [])
unfolding line_forms
only-item scheduled = λ n. refl
only-item live = λ n. refl

sites-line : (before : Before) (line : TextLine) → Handles before line (codes "sites")
unfolding line_forms takes_program
sites-line before line fits first =
    let is = one-number before line (codes "sites") 1 MAX_SITES (record { some = some-word _ _; plain = refl }) first (reads-only before line (codes "sites") (fields.number 1 MAX_SITES ∷ []) 1 fits first (only-sites before.script)) in
    inr (
      record before { sites = Some is.0 },
      inl (record {
        text = fits.text;
        first = none-said before.sites (λ said. fits.once (inl (first, said)));
        count = is.0;
        is = is.1;
        same = refl;
      }),
    )

journal-line : (before : Before) (line : TextLine) → Handles before line (codes "journal")
unfolding line_forms takes_program
journal-line before line fits first =
    let is = one-number before line (codes "journal") MIN_JOURNAL MAX_JOURNAL (record { some = some-word _ _; plain = refl }) first (reads-only before line (codes "journal") (fields.number MIN_JOURNAL MAX_JOURNAL ∷ []) 1 fits first (only-journal before.script)) in
    let sites = sites-said before line (codes "journal") fits first refl in
    inr (
      record before { journal = Some is.0 },
      inr (inl (record {
        text = fits.text;
        sites = sites.0;
        said = sites.1;
        once = none-said before.journal (λ said. fits.once (inr (inl (first, said))));
        early = isnt-true before.begun (λ begun. fits.early (inl first, begun));
        limit = is.0;
        is = is.1;
        same = refl;
      })),
    )

item-line : (before : Before) (line : TextLine) → Handles before line (codes "item")
unfolding line_forms takes_program
item-line before line fits first =
    let is = reads-only before line (codes "item") (fields.name ∷ fields.site ∷ fields.value ∷ []) 3 fits first (only-item before.script) in
    let three = list-three is.given is.many in
    let suit = rw (three.3) at is.suit in
    let sites = sites-said before line (codes "item") fits first refl in
    let worth = value-good (or_default 0 before.sites) three.2 suit.1.1.0 in
    let item : Item = record { name = three.0; site = number_of_digits three.1; value = number_of_signed three.2 } in
    inr (
      record before { items = before.items ++ item ∷ [] },
      inr (inr (inl (record {
        text = fits.text;
        sites = sites.0;
        said = sites.1;
        early = isnt-true before.begun (λ begun. fits.early (inr (inl first), begun));
        item = item;
        at = three.1;
        number = three.2;
        is = split-words before.script line (codes "item") (some-word _ _) refl first ∙ ap (λ (ws : List (List ℕ)). codes "item" ∷ ws) (is.args ∙ three.3);
        place = site-good before three.1 suit.1.0;
        worth = worth.0;
        fits = worth.1;
        name = suit.0.0;
        free = suit.0.1;
        room = fits.room first;
        same = refl;
      }))),
    )

-- Lines of live scripts alone.

plan-line : (before : Before) (line : TextLine) (kind : before.script ≡ live) → Handles before line (codes "plan")
unfolding line_forms takes_program
plan-line before line kind fits first =
    let form = fields.number 0 (2 ^ 32 - 1) ∷ fields.number 0 (2 ^ 32 - 1) ∷ [] in
    let is = reads-only before line (codes "plan") form 2 fits first (only-in before live (codes "plan") 2 form kind (λ n. refl)) in
    let two = list-two is.given is.many in
    let suit = rw (two.2) at is.suit in
    let sites = sites-said before line (codes "plan") fits first refl in
    let fault_plan : FaultPlan = record { drop_each = number_of_digits two.0; double_each = number_of_digits two.1 } in
    inr (
      record before { fault_plan = Some fault_plan },
      inr (inr (inr (inl (record {
        kind = kind;
        text = fits.text;
        sites = sites.0;
        said = sites.1;
        once = none-said before.fault_plan (λ said. fits.once (inr (inr (first, said))));
        early = isnt-true before.begun (λ begun. fits.early (inr (inr first), begun));
        fault_plan = fault_plan;
        dropped = two.0;
        doubled = two.1;
        is = split-words before.script line (codes "plan") (some-word _ _) refl first ∙ ap (λ (ws : List (List ℕ)). codes "plan" ∷ ws) (is.args ∙ two.2);
        drops = in-good (or_default 0 before.sites) 0 (2 ^ 32 - 1) two.0 suit.0;
        doubles = in-good (or_default 0 before.sites) 0 (2 ^ 32 - 1) two.1 suit.1.0;
        same = refl;
      })))),
    )

-- a count that isn't as great as it may be
below : (most n : ℕ) → (most ≤ n → ⊥) → n < most
below most n isnt = omega (arith, isnt)

client-line : (before : Before) (line : TextLine) (kind : before.script ≡ live) → Handles before line (codes "client")
unfolding line_forms takes_program
client-line before line kind fits first =
    let is = one-site before line (codes "client") (record { some = some-word _ _; plain = refl }) first
    (reads-only before line (codes "client") (fields.site ∷ []) 1 fits first (only-in before live (codes "client") 1 (fields.site ∷ []) kind (λ n. refl))) in
    let sites = sites-said before line (codes "client") fits first refl in
    inr (
      record before { begun = true; clients = before.clients ++ new_client is.0 ∷ [] },
      inr (inr (inr (inr (inl (record {
        kind = kind;
        text = fits.text;
        sites = sites.0;
        said = sites.1;
        site = is.0;
        is = is.1;
        room = below MAX_CLIENTS (length before.clients) (λ many. fits.fewer (first, many));
        same = refl;
      }))))),
    )

asked-line : (before : Before) (line : TextLine) (kind : before.script ≡ live) (query : Bool) → (request_word query ≡ [] → ⊥) → bytes_eq (request_word query) (codes "sites") ≡ false
    → is_wished (request_word query) ≡ true → HasOnly live (request_word query) 1 (fields.program ∷ []) → (query ≡ true → request_word query ≡ codes "query")
    → Handles before line (request_word query)
asked-line before line kind query some isnt takes only asks fits first =
    let is = reads-only before line (request_word query) (fields.program ∷ []) 1 fits first (only-in before live (request_word query) 1 (fields.program ∷ []) kind only) in
    let one = list-one is.given is.many in
    let suit = rw (one.1) at is.suit in
    let program = suit.0 in
    let runs = program.2 in
    let sites = sites-said before line (request_word query) fits first isnt in
    let asked : is_wished (first_word line) ≡ true = ap is_wished first ∙ takes in
    let request : Request = record { number = last_requests before.clients; query = query; text = one.0; program = program.0 } in
    inr (
      record before { clients = with_wish before.clients (to_ask request) },
      inr (inr (inr (inr (inr (inl (record {
        kind = kind;
        text = fits.text;
        sites = sites.0;
        said = sites.1;
        request = request;
        more = later_words (words line);
        first = words-begin line (request_word query) some first;
        given = is.args ∙ one.1;
        some = λ none. fits.asked ((kind, asked), none);
        room = below MAX_REQUESTS (last_requests before.clients) (λ many. fits.next ((kind, asked), many));
        number = refl;
        is = program.1;
        may = record { items = runs.items; are = runs.are; some = runs.some; few = runs.few; answers = λ e. runs.answers (asks e) };
        same = refl;
      })))))),
    )

peek-line : (before : Before) (line : TextLine) (kind : before.script ≡ live) → Handles before line (codes "peek")
unfolding line_forms takes_program is_wished
peek-line before line kind fits first =
    let is = reads-only before line (codes "peek") (fields.item_name ∷ []) 1 fits first (only-in before live (codes "peek") 1 (fields.item_name ∷ []) kind (λ n. refl)) in
    let one = list-one is.given is.many in
    let suit = rw (one.1) at is.suit in
    let sites = sites-said before line (codes "peek") fits first refl in
    let asked : is_wished (first_word line) ≡ true = ap is_wished first in
    inr (
      record before { clients = with_wish before.clients (to_peek (last_requests before.clients) suit.0.0) },
      inr (inr (inr (inr (inr (inr (record {
        kind = kind;
        text = fits.text;
        sites = sites.0;
        said = sites.1;
        name = one.0;
        is = split-words before.script line (codes "peek") (some-word _ _) refl first ∙ ap (λ (ws : List (List ℕ)). codes "peek" ∷ ws) (is.args ∙ one.1);
        some = λ none. fits.asked ((kind, asked), none);
        room = below MAX_REQUESTS (last_requests before.clients) (λ many. fits.next ((kind, asked), many));
        item = suit.0.0;
        at = suit.0.1;
        here = suit.0.2;
        same = refl;
      })))))),
    )

asked-submit : (before : Before) (line : TextLine) (kind : before.script ≡ live) → Handles before line (codes "submit")
unfolding line_forms takes_program is_wished
asked-submit before line kind = asked-line before line kind false (some-word _ _) refl refl (λ n. refl) (λ e. absurd (false≢true e))

asked-query : (before : Before) (line : TextLine) (kind : before.script ≡ live) → Handles before line (codes "query")
unfolding line_forms takes_program is_wished
asked-query before line kind = asked-line before line kind true (some-word _ _) refl refl (λ n. refl) (λ e. refl)

-- A line whose first word is known has one of them.

kept-some : {K X : Type 0} (p : K × X → Bool) (xs : List (K × X)) → (map (λ entry. entry.1) (filter p xs) ≡ [] → ⊥) → (x : K × X) × Contains xs x × (p x ≡ true)
kept-some p [] some = absurd (some refl)
kept-some {K} {X} p (y ∷ ys) some = go (kept-some p ys) (p y) refl some
  where
    go : ((map (λ (entry : K × X). entry.1) (filter p ys) ≡ [] → ⊥) → (x : K × X) × Contains ys x × (p x ≡ true)) → (b : Bool) → p y ≡ b
        → (map (λ (entry : K × X). entry.1) (cond b (y ∷ filter p ys) (filter p ys)) ≡ [] → ⊥) → (x : K × X) × Contains (y ∷ ys) x × (p x ≡ true)
    go more true is some = (y, Contains-first y ys, is)
    go more false is some = let h = more some in (h.0, Contains-behind y ys h.0 h.1, h.2)

handled : (before : Before) (line : TextLine) (kind : before.script ≡ scheduled) → Each (λ entry. Handles before line entry.0) (line_forms scheduled)
unfolding line_forms
handled before line kind = (
  sites-line before line,
  (
    journal-line before line,
    (
      item-line before line,
      (
        submit-line before line kind,
        (
          query-line before line kind,
          (
            deliver-line before line kind,
            (
              lose-line before line kind,
              (
                pump-line before line kind,
                (
                  pump-line before line kind,
                  (
                    drop-line before line kind,
                    (
                      tick-line before line kind,
                      (
                        stop-line before line kind,
                        (
                          start-line before line kind,
                          (
                            mend-line before line kind,
                            (
                              checkpoint-line before line kind,
                              (
                                cut-line before line kind,
                                (
                                  fail-line before line kind,
                                  (sent-line before line kind, (report-line before line kind, (total-line before line kind, tt))),
                                ),
                              ),
                            ),
                          ),
                        ),
                      ),
                    ),
                  ),
                ),
              ),
            ),
          ),
        ),
      ),
    ),
  ),
)

handled-live : (before : Before) (line : TextLine) (kind : before.script ≡ live) → Each (λ entry. Handles before line entry.0) (line_forms live)
unfolding line_forms
handled-live before line kind = (
  sites-line before line,
  (
    journal-line before line,
    (
      item-line before line,
      (plan-line before line kind, (client-line before line kind, (asked-submit before line kind, (asked-query before line kind, (peek-line before line kind, tt))))),
    ),
  ),
)

fits-means : (before : Before) (line : TextLine) → Fits before line → Means before line
fits-means before line fits = go before.script refl
  where
    by-word : (script : Script) → before.script ≡ script → Each (λ entry. Handles before line entry.0) (line_forms script) → Means before line
    by-word script kind handles =
        let entry = kept-some (λ form. bytes_eq (first_word line) form.0) (line_forms script) (subst (λ (s : Script). forms_of s (first_word line) ≡ [] → ⊥) kind fits.known) in
        Each-contains (λ entry. Handles before line entry.0) (line_forms script) entry.0 handles entry.1 fits
        ((bytes_eq-Decides (first_word line) entry.0.0).0 entry.2)

    go : (script : Script) → before.script ≡ script → Means before line
    go scheduled kind = by-word scheduled kind (handled before line kind)
    go live kind = by-word live kind (handled-live before line kind)

abbrev pub ACause : Before → TextLine → Type 0
ACause before line = (c : LineCause) × IsFirstCause before line c

pub some_line : (before : Before) (line : TextLine) → ((e : Event) × IsEvent before line e) ⊎ (((after : Before) × Declares before line after) ⊎ ((c : LineCause) × IsFirstCause before line c))
some_line before line =
    ⊎_elim (λ c. inr (inr c)) (λ free. ⊎_elim (λ e. inl e) (λ d. inr (inl d)) (fits-means before line (free-fits before line free))) (some-first before line)
