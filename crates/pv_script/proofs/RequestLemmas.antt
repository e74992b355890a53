-- Faults of lines with a request, and what such a line says.
use Rattle.std.proofs.Common.{◌≡◌, ◌≢◌, ℕ, zero, suc, ◌<◌, ◌≤◌, Bool, true, false, not, Some, None, List, [], ◌∷◌, length, cond, get_or, Bor, refl, sym, ap, ◌∙◌, subst, arith, ⊎_elim}
use Rattle.std.specs.Prelude.{codes, nat_lt, IfSome, if◌then◌else◌}
use Rattle.std.specs.List.{list_all, Contains}
use Rattle.std.proofs.lemmas.Bool.{both_ways, and_from, ltb-true, ltb-false}
use Rattle.pv_base.specs.declared.limits.TheConstants.{MAX_LINE, MAX_PROGRAM_ITEMS}
use Rattle.pv_check.specs.CheckRefusal.{check_refusal, refusal_of_query, first_cause}
use Rattle.pv_check.specs.declared.plan.CheckError.{CheckError}
use Rattle.pv_check.specs.declared.plan.CheckError.TheVariants as check
use Rattle.pv_parse.specs.declared.error.ParseError.{ParseError}
use Rattle.pv_parse.specs.declared.error.ParseError.TheVariants as parse
use Rattle.pv_parse.specs.Refusals.{refusal_of}
use Rattle.pv_model.specs.LineCauses.{Before, declared_by, HasProgram, or_default, Has}
use Rattle.pv_model.specs.Check.{names_item, AreItems, has_assignment, has_return}
use Rattle.pv_model.specs.LineForms.{Script, scheduled, Field, site, mode, name, program, forms_of, arguments, takes_program, is_wished, site_and_text, program_text, form_of, fields_of, fields_in, has_good_number}
use Rattle.pv_model.specs.ProgramText.{IsProgramText, at_fault, IsRefused}
use Rattle.pv_model.specs.Schedule.{request_word, MayRun, IsRequest}
use Rattle.pv_model.specs.Syntax.{Program}
use Rattle.pv_model.specs.Text.{TextLine, IsDecimal}
use Rattle.pv_law_programs.proofs.ItemLemmas.{one_items}
use Rattle.pv_law_schedules.proofs.SomeCauseLemmas.{names_item-none}
use Rattle.pv_law_programs.proofs.NoRefusalLemmas.{no_refusal}
use Rattle.pv_law_programs.proofs.ProgramTextLemmas.{one_program_text}
use Rattle.pv_script.specs.LineFaults.{texts, form_among, fault_of_parse, fault_of_check, IsFieldFault, IsLineFault}
use Rattle.pv_script.specs.Said.{IsHead, IsProgramLine}
use Rattle.pv_script.specs.declared.fault.Fault.TheVariants.{At}
use Rattle.pv_script.specs.declared.schedule.LineCause.{LineCause}
use Rattle.pv_script.specs.declared.schedule.LineCause.TheVariants.{WrongCount, BadNumber, ProgramColumn, UnknownName, TooDeep, NamesNoItem, TooManyNames, QueryAssigns, NoReturn}
use Rattle.pv_script.proofs.CauseLemmas.{NoneBefore, none5, none6, none7, none13, none14, none15, none16, none17, none18, none19, none20, none21, none-known, none-scheduled, reported, first-line, arguments-request, form_of-line, fields_of-line, IsLineFault-fields}
use Rattle.pv_script.proofs.KeywordLemmas.{forms-submit, forms-query, takes-submit, takes-query, wished-submit, wished-query}
use Rattle.pv_script.proofs.HeadLemmas.{some_forms, differs, begins, no-twice, no-late, contains-cons, no_field, is_mode, is_name_field}
use Rattle.pv_script.proofs.FieldLemmas.{good-site}

-- ---- why a program may not run

data Why (m : ℕ) (p : Program) (query : Bool) : CheckError → Type 0 where
  none : m ≡ 0 → Why m p query check.NoItem
  many : MAX_PROGRAM_ITEMS < m → Why m p query (check.TooManyItems m)
  assigning : 0 < m → m ≤ MAX_PROGRAM_ITEMS → query ≡ true → has_assignment p ≡ true → Why m p query check.Assigns
  silent : 0 < m → m ≤ MAX_PROGRAM_ITEMS → query ≡ true → has_assignment p ≡ false → has_return p ≡ false → Why m p query check.NoReturn

same_error : (e f : CheckError) → Some e ≡ Some f → e ≡ f
same_error e f is = cc

no_error : (e : CheckError) → None ≡ Some e → ⊥
no_error e is = cc

why-query : (m : ℕ) (p : Program) (query : Bool) (e : CheckError) → 0 < m → m ≤ MAX_PROGRAM_ITEMS → (if query then refusal_of_query p else None) ≡ Some e → Why m p query e
why-query m p query e some small is = go query refl (has_assignment p) refl (has_return p) refl is
  where
    go : (q : Bool) → query ≡ q → (a : Bool) → has_assignment p ≡ a → (r : Bool) → has_return p ≡ r
        → cond q (cond a (Some check.Assigns) (cond r None (Some check.NoReturn))) None ≡ Some e → Why m p query e
    go false other a assigns r returns reported = absurd (no_error e reported)
    go true asks true assigns r returns reported = subst (Why m p query) (same_error check.Assigns e reported) (assigning some small asks assigns)
    go true asks false pure true returns reported = absurd (no_error e reported)
    go true asks false pure false quiet reported = subst (Why m p query) (same_error check.NoReturn e reported) (silent some small asks pure quiet)

why : (m : ℕ) (p : Program) (query : Bool) (e : CheckError) → check_refusal MAX_PROGRAM_ITEMS m p query ≡ Some e → Why m p query e
why zero p query e is = subst (Why zero p query) (same_error check.NoItem e is) (none refl)
why (suc m) p query e is = go (nat_lt MAX_PROGRAM_ITEMS (suc m)) refl is
  where
    go : (b : Bool) → nat_lt MAX_PROGRAM_ITEMS (suc m) ≡ b
        → first_cause (cond b (Some (check.TooManyItems (suc m))) None) (if query then refusal_of_query p else None) ≡ Some e → Why (suc m) p query e
    go true large reported = subst (Why (suc m) p query) (same_error (check.TooManyItems (suc m)) e reported) (many (ltb-true MAX_PROGRAM_ITEMS (suc m) large))
    go false small reported = why-query (suc m) p query e (omega arith) (ltb-false MAX_PROGRAM_ITEMS (suc m) small) reported

some_none : (e : CheckError) → Some e ≡ None → ⊥
some_none e is = cc

answers-query : (p : Program) (query : Bool) → (if query then refusal_of_query p else None) ≡ None → query ≡ true → (has_assignment p ≡ false) × (has_return p ≡ true)
answers-query p query is asks = go query asks (has_assignment p) refl (has_return p) refl is
  where
    go : (q : Bool) → q ≡ true → (a : Bool) → has_assignment p ≡ a → (r : Bool) → has_return p ≡ r
        → cond q (cond a (Some check.Assigns) (cond r None (Some check.NoReturn))) None ≡ None → (has_assignment p ≡ false) × (has_return p ≡ true)
    go false other a assigns r returns reported = absurd (both_ways false refl other)
    go true yes_it true assigns r returns reported = absurd (some_none check.Assigns reported)
    go true yes_it false pure true returns reported = (pure, returns)
    go true yes_it false pure false quiet reported = absurd (some_none check.NoReturn reported)

-- where it may run
why_not : (m : ℕ) (p : Program) (query : Bool) → check_refusal MAX_PROGRAM_ITEMS m p query ≡ None → (0 < m) × (m ≤ MAX_PROGRAM_ITEMS) × (query ≡ true → (has_assignment p ≡ false) × (has_return p ≡ true))
why_not zero p query is = absurd (some_none check.NoItem is)
why_not (suc m) p query is = go (nat_lt MAX_PROGRAM_ITEMS (suc m)) refl is
  where
    go : (b : Bool) → nat_lt MAX_PROGRAM_ITEMS (suc m) ≡ b
        → first_cause (cond b (Some (check.TooManyItems (suc m))) None) (if query then refusal_of_query p else None) ≡ None
        → (0 < suc m) × (suc m ≤ MAX_PROGRAM_ITEMS) × (query ≡ true → (has_assignment p ≡ false) × (has_return p ≡ true))
    go true large reported = absurd (some_none (check.TooManyItems (suc m)) reported)
    go false small reported = (omega arith, ltb-false MAX_PROGRAM_ITEMS (suc m) small, answers-query p query reported)

-- where no item is named
names_item-no_items : (p : Program) (items : List ℕ) → AreItems p items → length items ≡ 0 → (n : ℕ) → names_item p n ≡ false
names_item-no_items p [] are empty = names_item-none p are
names_item-no_items p (m ∷ items) are empty = absurd (omega (arith, empty))

-- ---- lines

abbrev RequestForms : List (List Field)
RequestForms = (site ∷ program ∷ []) ∷ []

request-forms : (query : Bool) → forms_of scheduled (request_word query) ≡ RequestForms
request-forms true = forms-query
request-forms false = forms-submit

pub request-takes : (query : Bool) → takes_program (request_word query) ≡ true
request-takes true = takes-query
request-takes false = takes-submit

request-no_sites : (query : Bool) → request_word query ≡ codes "sites" → ⊥
request-no_sites true = differs (codes "query") (codes "sites") refl
request-no_sites false = differs (codes "submit") (codes "sites") refl

request-no_journal : (query : Bool) → request_word query ≡ codes "journal" → ⊥
request-no_journal true = differs (codes "query") (codes "journal") refl
request-no_journal false = differs (codes "submit") (codes "journal") refl

pub request-no_item : (query : Bool) → request_word query ≡ codes "item" → ⊥
request-no_item true = differs (codes "query") (codes "item") refl
request-no_item false = differs (codes "submit") (codes "item") refl

pub request-no_plan : (query : Bool) → request_word query ≡ codes "plan" → ⊥
request-no_plan true = differs (codes "query") (codes "plan") refl
request-no_plan false = differs (codes "submit") (codes "plan") refl

pub request-wished : (query : Bool) → is_wished (request_word query) ≡ true
request-wished true = wished-query
request-wished false = wished-submit

pub request-no_peek : (query : Bool) → request_word query ≡ codes "peek" → ⊥
request-no_peek true = differs (codes "query") (codes "peek") refl
request-no_peek false = differs (codes "submit") (codes "peek") refl

pub request-no_client : (query : Bool) → request_word query ≡ codes "client" → ⊥
request-no_client true = differs (codes "query") (codes "client") refl
request-no_client false = differs (codes "submit") (codes "client") refl

-- a line that begins with the word of a request, in a script of either kind
pub none-request : (before : Before) (line : TextLine) (query : Bool) (args : List (List ℕ)) → forms_of before.script (request_word query) ≢ []
    → IsHead before line (request_word query) args → NoneBefore before line 6
none-request before line query args known head =
    none6 before line
    (none5 before line (none-known before line (request_word query) args head known)
    (no-twice before line (request_word query) args head.words (request-no_sites query) (request-no_journal query) (request-no_plan query)))
    (no-late before line (request_word query) args head.words (request-no_journal query) (request-no_item query) (request-no_plan query))

known-request : (before : Before) (query : Bool) → before.script ≡ scheduled → forms_of before.script (request_word query) ≢ []
known-request before query kind =
    some_forms (forms_of before.script (request_word query)) (site ∷ program ∷ []) [] (ap (λ (s : Script). forms_of s (request_word query)) kind ∙ request-forms query)

request-fault : (before : Before) (line : TextLine) (query : Bool) (args given : List (List ℕ)) (cause : LineCause) → before.script ≡ scheduled
    → IsHead before line (request_word query) args
    → arguments before.script line ≡ given → IsFieldFault (or_default 0 before.sites) RequestForms given cause → IsLineFault before line (At cause)
request-fault before line query args given cause kind head same fault =
    IsLineFault-fields before line (request_word query) args given cause head.words same (none-request before line query args (known-request before query kind) head)
    (none-scheduled before line (request_word query) kind (first-line line (request_word query) args head.words) (request-no_client query))
    (rw (kind, request-forms query) fault)

-- what stands behind the first word, in a schedule
request-arguments : (before : Before) (line : TextLine) (query : Bool) (args : List (List ℕ)) → before.script ≡ scheduled → IsHead before line (request_word query) args
    → arguments before.script line ≡ site_and_text (program_text scheduled line) args
request-arguments before line query args kind head =
    ap (λ (s : Script). arguments s line) kind ∙ arguments-request scheduled line (request_word query) args head.words (request-takes query)

few : (sites : ℕ) (text : List ℕ) (args : List (Bor (List ℕ))) → length args < 2 → IsFieldFault sites RequestForms (site_and_text text (texts args)) WrongCount
few sites text [] short = refl
few sites text (a ∷ []) short = refl
few sites text (a ∷ b ∷ more) short = absurd (omega arith)

pub IsLineFault-short : (before : Before) (line : TextLine) (query : Bool) (args : List (Bor (List ℕ))) → before.script ≡ scheduled
    → IsHead before line (request_word query) (texts args) → length args < 2 → IsLineFault before line (At WrongCount)
IsLineFault-short before line query args kind head short =
    request-fault before line query (texts args) (site_and_text (program_text scheduled line) (texts args)) WrongCount kind head
    (request-arguments before line query (texts args) kind head) (few (or_default 0 before.sites) (program_text scheduled line) args short)

two_parts : (text : List ℕ) (args : List (Bor (List ℕ))) (d : Bor (List ℕ)) → 2 ≤ length args → site_and_text text (texts args) ≡ (get_or args 0 d).now ∷ text ∷ []
two_parts text [] d some = absurd (omega arith)
two_parts text (a ∷ []) d some = absurd (omega arith)
two_parts text (a ∷ b ∷ more) d some = refl

-- what stands behind the first word of a request
pub request-given : (before : Before) (line : TextLine) (query : Bool) (args : List (Bor (List ℕ))) (d : Bor (List ℕ)) → before.script ≡ scheduled
    → IsHead before line (request_word query) (texts args) → 2 ≤ length args → arguments before.script line ≡ (get_or args 0 d).now ∷ program_text scheduled line ∷ []
request-given before line query args d kind head some =
    request-arguments before line query (texts args) kind head ∙ two_parts (program_text scheduled line) args d some

pub IsLineFault-away : (before : Before) (line : TextLine) (query : Bool) (args : List (Bor (List ℕ))) (d : Bor (List ℕ)) → before.script ≡ scheduled
    → IsHead before line (request_word query) (texts args) → 2 ≤ length args → has_good_number (or_default 0 before.sites) (site, (get_or args 0 d).now) ≡ false → IsLineFault before line (At BadNumber)
IsLineFault-away before line query args d kind head some wrong =
    request-fault before line query (texts args) ((get_or args 0 d).now ∷ program_text scheduled line ∷ []) BadNumber kind head
    (request-given before line query args d kind head some)
    ((λ none. cc), rw wrong refl)

-- The line is a request at a site, with this text of a program.
pub record IsRequestLine (before : Before) (line : TextLine) (query : Bool) (args : List (List ℕ)) (at text : List ℕ) (n : ℕ) : Type 0 where
  pub kind : before.script ≡ scheduled
  pub head : IsHead before line (request_word query) args
  pub given : arguments before.script line ≡ at ∷ text ∷ []
  pub site : IsDecimal at n
  pub below : n < or_default 0 before.sites

pub request-line : (before : Before) (line : TextLine) (query : Bool) (args : List (Bor (List ℕ))) (d : Bor (List ℕ)) (text : List ℕ) (n sites : ℕ) → before.script ≡ scheduled
    → IsHead before line (request_word query) (texts args) → 2 ≤ length args → text ≡ program_text scheduled line → IsDecimal (get_or args 0 d).now n → n < sites
    → sites ≡ or_default 0 before.sites → IsRequestLine before line query (texts args) (get_or args 0 d).now text n
request-line before line query args d text n sites kind head some same number_is below count =
    record {
      kind = kind;
      head = head;
      given = request-given before line query args d kind head some ∙ ap (λ (t : List ℕ). (get_or args 0 d).now ∷ t ∷ []) (sym same);
      site = number_is;
      below = omega arith;
    }

unfoldable pub is_program : Field → Bool
is_program program = true
is_program _ = false

module _ (before : Before) (line : TextLine) (query : Bool) (args : List (List ℕ)) (at text : List ℕ) (n : ℕ) (is : IsRequestLine before line query args at text n) where
  forms : forms_of before.script (request_word query) ≡ RequestForms
  forms = ap (λ (s : Script). forms_of s (request_word query)) is.kind ∙ request-forms query

  form : form_of before.script line ≡ Some (site ∷ program ∷ [])
  form =
      form_of-line before.script line (request_word query) args (at ∷ text ∷ []) is.head.words is.given
      ∙ ap (λ (fs : List (List Field)). form_among fs (at ∷ text ∷ [])) forms

  fields : fields_of before.script line ≡ (site, at) ∷ (program, text) ∷ []
  fields =
      fields_of-line before.script line (request_word query) args (at ∷ text ∷ []) is.head.words is.given
      ∙ ap (λ (fs : List (List Field)). fields_in (form_among fs (at ∷ text ∷ [])) (at ∷ text ∷ [])) forms

  has_text : Has before.script line program text
  has_text = subst (λ (fs : List (Field × List ℕ)). Contains fs (program, text)) (sym fields) (1, omega arith, refl)

  only_text : (other : List ℕ) → Has before.script line program other → text ≡ other
  unfolding is_program
  only_text other has =
      ⊎_elim
      (λ (same : (site, at) ≡ (program, other)). absurd (both_ways (is_program site) refl (ap (λ (f : Field × List ℕ). is_program f.0) same)))
      (λ more. ⊎_elim (λ (same : (program, text) ≡ (program, other)). ap (λ (f : Field × List ℕ). f.1) same)
      (λ none. absurd (no_field is_program [] program other refl refl none))
      (contains-cons (program, other) (program, text) [] more))
      (contains-cons (program, other) (site, at) ((program, text) ∷ [])
      (subst (λ (fs : List (Field × List ℕ)). Contains fs (program, other)) fields has))

  no_kind : (p : Field → Bool) (field : Field) (word : List ℕ) → list_all (λ (f : Field × List ℕ). not (p f.0)) ((site, at) ∷ (program, text) ∷ []) ≡ true → p field ≡ true
      → Has before.script line field word → ⊥
  no_kind p field word all of has =
      no_field p ((site, at) ∷ (program, text) ∷ []) field word all of (subst (λ (fs : List (Field × List ℕ)). Contains fs (field, word)) fields has)

  no_mode : (word : List ℕ) → Has before.script line mode word → ⊥
  unfolding is_mode
  no_mode word has = no_kind is_mode mode word refl refl has

  no_name : (word : List ℕ) → Has before.script line name word → ⊥
  unfolding is_name_field
  no_name word has = no_kind is_name_field name word refl refl has

  none-fields : NoneBefore before line 17
  none-fields =
      let sites = or_default 0 before.sites in
      none17 before line
      (none16 before line
      (none15 before line
      (none14 before line
      (none13 before line
      (none-scheduled before line (request_word query) is.kind (first-line line (request_word query) args is.head.words) (request-no_client query)
      (none7 before line (none-request before line query args (known-request before query is.kind) is.head)
      (λ none. let some = form in let never : None ≡ Some (site ∷ program ∷ []) = sym none ∙ some in cc)))
      (λ wrong. both_ways (list_all (has_good_number sites) (fields_of before.script line)) wrong
      (ap (list_all (has_good_number sites)) fields ∙ and_from (has_good_number sites (site, at)) true (good-site sites n at is.site is.below) refl)))
      (λ has. no_mode has.0 has.1))
      (λ has. no_name has.0 has.1))
      (λ has. no_name has.0 has.1))
      (λ has. begins line (request_word query) (codes "item") args is.head.words (request-no_item query) has.0)

  -- Only the program of such a line can be at fault.
  pub program-line : length text ≤ MAX_LINE → IsProgramLine before line query text
  program-line short = record {
    first = first-line line (request_word query) args is.head.words;
    has = has_text;
    only = only_text;
    short = short;
    rest = none-fields;
  }

-- ---- faults of programs, in lines of either kind of script

module _ (before : Before) (line : TextLine) (query : Bool) (text : List ℕ) (is : IsProgramLine before line query text) where
  pub IsLineFault-parse : (error : ParseError) → IfSome (refusal_of error) (IsRefused (declared_by before) text) → IsLineFault before line (fault_of_parse error)
  IsLineFault-parse (parse.TooLarge m) refused = absurd (let short = is.short in let same = refused.0 in let large = refused.1 in omega arith)
  IsLineFault-parse (parse.Malformed column) refused = reported before line (ProgramColumn column) (text, is.has, refused) is.rest
  IsLineFault-parse (parse.UnknownName column) refused = reported before line (UnknownName column) (text, is.has, refused) is.rest
  IsLineFault-parse (parse.TooDeep column) refused = reported before line (TooDeep column) (text, is.has, refused) is.rest
  IsLineFault-parse parse.NoMemory refused = tt

  module _ (p : Program) (program_is : IsProgramText (declared_by before) text p) where
    has_program : HasProgram before line p
    has_program = (text, is.has, program_is)

    only_program : (q : Program) → HasProgram before line q → p ≡ q
    only_program q has =
        one_program_text (declared_by before) text p q program_is
        (subst (λ (t : List ℕ). IsProgramText (declared_by before) t q) (sym (is.only has.0 has.1)) has.2)

    none-program : NoneBefore before line 18
    none-program =
        none18 before line is.rest
        (λ kind column has. no_refusal (declared_by before) text p (at_fault kind column) program_is
        (subst (λ (t : List ℕ). IsRefused (declared_by before) t (at_fault kind column)) (sym (is.only has.0 has.1)) has.2))

    none-some_name : (items : List ℕ) → AreItems p items → 0 < length items → NoneBefore before line 19
    none-some_name items are some =
        none19 before line none-program
        (λ has.
        let same = only_program has.0 has.1 in
        both_ways (names_item p (get_or items 0 0)) (ap (λ (q : Program). names_item q (get_or items 0 0)) same ∙ has.2 (get_or items 0 0)) (are.each 0 0 some))

    none-few_names : (items : List ℕ) → AreItems p items → 0 < length items → length items ≤ MAX_PROGRAM_ITEMS → NoneBefore before line 20
    none-few_names items are some small =
        none20 before line (none-some_name items are some)
        (λ m has.
        let same = only_program has.0 has.1 in
        let all : items ≡ has.2 = one_items p items has.2 are (subst (λ (q : Program). AreItems q has.2) (sym same) has.3) in
        let equal : length items ≡ length has.2 = ap (λ (ns : List ℕ). length ns) all in
        let count = has.4 in
        let large = has.5 in
        omega arith)

    fault-why : (items : List ℕ) → AreItems p items → (e : CheckError) → Why (length items) p query e → IsLineFault before line (fault_of_check e)
    fault-why items are check.NoItem (none empty) = reported before line NamesNoItem (p, has_program, names_item-no_items p items are empty) none-program
    fault-why items are (check.TooManyItems m) (many large) =
        reported before line (TooManyNames (length items)) (p, has_program, items, are, refl, large) (none-some_name items are (omega arith))
    fault-why items are check.Assigns (assigning some small asks assigns) =
        reported before line QueryAssigns
        (p, has_program, is.first ∙ ap request_word asks, assigns)
        (none-few_names items are some small)
    fault-why items are check.NoReturn (silent some small asks pure quiet) =
        reported before line NoReturn
        (p, has_program, is.first ∙ ap request_word asks, quiet)
        (none21 before line (none-few_names items are some small)
        (λ has. both_ways (has_assignment p) pure (ap has_assignment (only_program has.0 has.1) ∙ has.3)))
    fault-why items are check.NoMemory never = elim never [ ]

    pub IsLineFault-check : (items : List ℕ) → AreItems p items → (e : CheckError)
        → (e ≢ check.NoMemory → check_refusal MAX_PROGRAM_ITEMS (length items) p query ≡ Some e) → IsLineFault before line (fault_of_check e)
    IsLineFault-check items are check.NoItem cause = fault-why items are check.NoItem (why (length items) p query check.NoItem (cause (λ e. cc)))
    IsLineFault-check items are (check.TooManyItems m) cause =
        fault-why items are (check.TooManyItems m) (why (length items) p query (check.TooManyItems m) (cause (λ e. cc)))
    IsLineFault-check items are check.Assigns cause = fault-why items are check.Assigns (why (length items) p query check.Assigns (cause (λ e. cc)))
    IsLineFault-check items are check.NoReturn cause = fault-why items are check.NoReturn (why (length items) p query check.NoReturn (cause (λ e. cc)))
    IsLineFault-check items are check.NoMemory cause = tt

pub MayRun-read : (p : Program) (query : Bool) (items : List ℕ) → AreItems p items → check_refusal MAX_PROGRAM_ITEMS (length items) p query ≡ None → MayRun p query
MayRun-read p query items are accepted =
    let may = why_not (length items) p query accepted in record { items = items; are = are; some = may.0; few = may.1; answers = may.2 }

pub IsRequest-read : (before : Before) (line : TextLine) (query : Bool) (args : List (List ℕ)) (at text : List ℕ) (n : ℕ) (p : Program)
    → IsRequestLine before line query args at text n → IsProgramText (declared_by before) text p → MayRun p query → IsRequest before n query text p line
IsRequest-read before line query args at text n p is program_is may =
    record { more = args; first = is.head.words; at = at; given = is.given; place = (is.site, is.below); is = program_is; may = may }
