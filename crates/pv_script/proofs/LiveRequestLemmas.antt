-- Faults of lines of live scripts with a request, and what such a line declares.
use Rattle.std.proofs.Common.{◌≡◌, ◌≢◌, ℕ, ◌<◌, ◌≤◌, Bool, true, false, not, Some, None, List, [], ◌∷◌, length, Bor, refl, sym, ap, ◌∙◌, subst, arith, ⊎_elim}
use Rattle.std.specs.Prelude.{codes}
use Rattle.std.specs.List.{list_all, Contains}
use Rattle.std.proofs.lemmas.Bool.{both_ways}
use Rattle.pv_base.specs.declared.limits.TheConstants.{MAX_LINE, MAX_REQUESTS}
use Rattle.pv_model.specs.LineCauses.{Before, last_requests, Has, or_default, declared_by}
use Rattle.pv_model.specs.LineForms.{Script, live, Field, mode, name, item_name, program, first_word, forms_of, is_wished, program_text, text_alone, arguments, form_of, fields_of, fields_in, has_good_number}
use Rattle.pv_model.specs.LiveScript.{Client, Request, to_ask}
use Rattle.pv_model.specs.ProgramText.{IsProgramText}
use Rattle.pv_model.specs.Schedule.{request_word, MayRun, DeclaresRequest, with_wish}
use Rattle.pv_model.specs.Text.{TextLine}
use Rattle.pv_law_schedules.proofs.NoCauseLemmas.{no-item}
use Rattle.pv_script.specs.LineFaults.{texts, form_among, IsLineFault}
use Rattle.pv_script.specs.LiveSaid.{IsNumberFault}
use Rattle.pv_script.specs.Said.{IsHead, IsProgramLine}
use Rattle.pv_script.specs.declared.fault.Fault.TheVariants.{At}
use Rattle.pv_script.specs.declared.schedule.LineCause.{LineCause}
use Rattle.pv_script.specs.declared.schedule.LineCause.TheVariants.{WrongCount, ClientExpected, TooManyRequests}
use Rattle.pv_script.proofs.CauseLemmas.{NoneBefore, none7, none8, none9, none10, none13, none14, none15, none16, none17, none-named_item, reported, first-line, arguments-request, form_of-line, fields_of-line}
use Rattle.pv_script.proofs.KeywordLemmas.{forms-asked_submit, forms-asked_query}
use Rattle.pv_script.proofs.HeadLemmas.{some_forms, begins, contains-cons, no_field, is_mode, is_name_field}
use Rattle.pv_script.proofs.RequestLemmas.{request-takes, request-wished, request-no_item, request-no_peek, request-no_client, none-request, is_program}

abbrev AskedForms : List (List Field)
AskedForms = (program ∷ []) ∷ []

asked-forms : (query : Bool) → forms_of live (request_word query) ≡ AskedForms
asked-forms true = forms-asked_query
asked-forms false = forms-asked_submit

no_text : (text : List ℕ) (args : List (Bor (List ℕ))) → length args < 1 → text_alone text (texts args) ≡ []
no_text text [] few = refl
no_text text (a ∷ args) few = absurd (omega arith)

one_text : (text : List ℕ) (args : List (Bor (List ℕ))) → 1 ≤ length args → text_alone text (texts args) ≡ text ∷ []
one_text text [] some = absurd (omega arith)
one_text text (a ∷ args) some = refl

pub no-requests : (clients : List Client) → clients ≡ [] → MAX_REQUESTS ≤ last_requests clients → ⊥
no-requests [] none many = omega (arith, many)
no-requests (client ∷ clients) none many = let never : ⊥ = cc in never

module _ (before : Before) (line : TextLine) (query : Bool) (args : List (Bor (List ℕ))) (kind : before.script ≡ live) (head : IsHead before line (request_word query) (texts args)) where
  forms : forms_of before.script (request_word query) ≡ AskedForms
  forms = ap (λ (s : Script). forms_of s (request_word query)) kind ∙ asked-forms query

  first : first_word line ≡ request_word query
  first = first-line line (request_word query) (texts args) head.words

  wished : is_wished (first_word line) ≡ true
  wished = ap is_wished first ∙ request-wished query

  no_item : (word : List ℕ) → Has before.script line item_name word → ⊥
  no_item word = no-item before.script line word (begins line (request_word query) (codes "peek") (texts args) head.words (request-no_peek query))

  none-words : NoneBefore before line 6
  none-words = none-request before line query (texts args) (some_forms (forms_of before.script (request_word query)) (program ∷ []) [] forms) head

  alone : arguments before.script line ≡ text_alone (program_text live line) (texts args)
  alone = ap (λ (s : Script). arguments s line) kind ∙ arguments-request live line (request_word query) (texts args) head.words (request-takes query)

  pub IsLineFault-empty : length args < 1 → IsLineFault before line (At WrongCount)
  IsLineFault-empty few =
      reported before line WrongCount
      (form_of-line before.script line (request_word query) (texts args) [] head.words (alone ∙ no_text (program_text live line) args few)
      ∙ ap (λ (fs : List (List Field)). form_among fs []) forms)
      none-words

  module _ (some : 1 ≤ length args) where
    pub given : arguments before.script line ≡ program_text live line ∷ []
    given = alone ∙ one_text (program_text live line) args some

    form : form_of before.script line ≡ Some (program ∷ [])
    form =
        form_of-line before.script line (request_word query) (texts args) (program_text live line ∷ []) head.words given
        ∙ ap (λ (fs : List (List Field)). form_among fs (program_text live line ∷ [])) forms

    fields : fields_of before.script line ≡ (program, program_text live line) ∷ []
    fields =
        fields_of-line before.script line (request_word query) (texts args) (program_text live line ∷ []) head.words given
        ∙ ap (λ (fs : List (List Field)). fields_in (form_among fs (program_text live line ∷ [])) (program_text live line ∷ [])) forms

    none-form : NoneBefore before line 7
    none-form = none7 before line none-words (λ none. let never : None ≡ Some (program ∷ []) = sym none ∙ form in cc)

    -- A request more isn't taken.
    pub IsLineFault-number : (cause : LineCause) → IsNumberFault before.clients cause → IsLineFault before line (At cause)
    IsLineFault-number ClientExpected none = reported before line ClientExpected ((kind, wished), none) none-form
    IsLineFault-number TooManyRequests many =
        reported before line TooManyRequests ((kind, wished), many)
        (none9 before line (none8 before line none-form (λ has. no-requests before.clients has.1 many))
        (λ has. begins line (request_word query) (codes "client") (texts args) head.words (request-no_client query) has.0))
    IsLineFault-number cause never = absurd never

    has_text : Has before.script line program (program_text live line)
    has_text =
        subst (λ (fs : List (Field × List ℕ)). Contains fs (program, program_text live line)) (sym fields) (0, omega arith, refl)

    only_text : (other : List ℕ) → Has before.script line program other → program_text live line ≡ other
    unfolding is_program
    only_text other has =
        ⊎_elim (λ (same : (program, program_text live line) ≡ (program, other)). ap (λ (f : Field × List ℕ). f.1) same)
        (λ none. absurd (no_field is_program [] program other refl refl none))
        (contains-cons (program, other) (program, program_text live line) [] (subst (λ (fs : List (Field × List ℕ)). Contains fs (program, other)) fields has))

    no_kind : (p : Field → Bool) (field : Field) (word : List ℕ) → list_all (λ (f : Field × List ℕ). not (p f.0)) ((program, program_text live line) ∷ []) ≡ true → p field ≡ true
        → Has before.script line field word → ⊥
    no_kind p field word all of has =
        no_field p ((program, program_text live line) ∷ []) field word all of (subst (λ (fs : List (Field × List ℕ)). Contains fs (field, word)) fields has)

    no_mode : (word : List ℕ) → Has before.script line mode word → ⊥
    unfolding is_mode
    no_mode word has = no_kind is_mode mode word refl refl has

    no_name : (word : List ℕ) → Has before.script line name word → ⊥
    unfolding is_name_field
    no_name word has = no_kind is_name_field name word refl refl has

    -- Where a client may have one request more, only the program can be at fault.
    pub asked-line : before.clients ≢ [] → last_requests before.clients < MAX_REQUESTS → length (program_text live line) ≤ MAX_LINE
        → IsProgramLine before line query (program_text live line)
    asked-line client room short = record {
      first = first;
      has = has_text;
      only = only_text;
      short = short;
      rest = none17 before line
          (none16 before line
          (none15 before line
          (none14 before line
          (none13 before line
          (none-named_item before line no_item
          (none10 before line
          (none9 before line
          (none8 before line none-form (λ has. client has.1))
          (λ has. begins line (request_word query) (codes "client") (texts args) head.words (request-no_client query) has.0))
          (λ has. let many = has.1 in omega arith)))
          (λ wrong. both_ways (list_all (has_good_number (or_default 0 before.sites)) (fields_of before.script line)) wrong
          (ap (list_all (has_good_number (or_default 0 before.sites))) fields)))
          (λ has. no_mode has.0 has.1))
          (λ has. no_name has.0 has.1))
          (λ has. no_name has.0 has.1))
          (λ has. begins line (request_word query) (codes "item") (texts args) head.words (request-no_item query) has.0);
    }

-- The line declares the request with its program.
pub DeclaresRequest-read : (before after : Before) (line : TextLine) (args : List (Bor (List ℕ))) (request : Request) → before.script ≡ live
    → IsHead before line (request_word request.query) (texts args) → 1 ≤ length args → request.text ≡ program_text live line → before.clients ≢ []
    → request.number ≡ last_requests before.clients → last_requests before.clients < MAX_REQUESTS
    → IsProgramText (declared_by before) request.text request.program → MayRun request.program request.query
    → after ≡ record before { clients = with_wish before.clients (to_ask request) } → DeclaresRequest before line after
DeclaresRequest-read before after line args request kind head some text client number room is may same = record {
  kind = kind;
  text = head.text;
  sites = head.sites;
  said = head.said;
  request = request;
  more = texts args;
  first = head.words;
  given = given before line request.query args kind head some ∙ ap (λ (t : List ℕ). t ∷ []) (sym text);
  some = client;
  room = room;
  number = number;
  is = is;
  may = may;
  same = same;
}
