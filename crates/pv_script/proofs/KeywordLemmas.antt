-- Which words lines begin with, and what stands behind each.
use Rattle.std.proofs.Common.{◌≡◌, ℕ, Bool, true, false, Option, Some, None, List, [], ◌∷◌, map, filter, find, cond, Bor, MatchOption, IfSome, IfNone, refl, sym, ap, ◌∙◌}
use Rattle.std.specs.Prelude.{codes, ◌||◌, ◌^◌, ◌-◌}
use Rattle.std.specs.List.{list_all, list_any}
use Rattle.std.specs.Option.{option_map}
use Rattle.std.specs.Str.{bytes_eq}
use Rattle.std.proofs.lemmas.Option.{none-some}
use Rattle.std.proofs.lemmas.Bool.{and_parts, both_ways}
use Rattle.std.proofs.lemmas.Slice.Eq.{bytes_eq-Decides}
use Rattle.pv_base.specs.declared.limits.TheConstants.{MAX_JOURNAL, MAX_SITES, MIN_JOURNAL}
use Rattle.pv_model.specs.LineForms.{Script, scheduled, live, Field, number, site, value, name, program, line_forms, forms_of, takes_program, is_wished, item_name}
use Rattle.pv_script.specs.Keywords.{keyword_beside, command_word, command_forms}
use Rattle.pv_script.specs.declared.keyword.Command as code
use Rattle.pv_script.specs.declared.keyword.Command.TheVariants.{Deliver, Pump, Lose, Drop, Tick, Stop, Start, Cut, Fail, Mend, Checkpoint, Sent, Report, Total}

-- ---- the forms of each word

pub forms-command : (command : code.Command) → forms_of scheduled (command_word command) ≡ command_forms command
unfolding line_forms
forms-command Deliver = refl
forms-command Pump = refl
forms-command Lose = refl
forms-command Drop = refl
forms-command Tick = refl
forms-command Stop = refl
forms-command Start = refl
forms-command Cut = refl
forms-command Fail = refl
forms-command Mend = refl
forms-command Checkpoint = refl
forms-command Sent = refl
forms-command Report = refl
forms-command Total = refl

pub some-command : (command : code.Command) → command_forms command ≡ [] → ⊥
some-command Deliver none = cc
some-command Pump none = cc
some-command Lose none = cc
some-command Drop none = cc
some-command Tick none = cc
some-command Stop none = cc
some-command Start none = cc
some-command Cut none = cc
some-command Fail none = cc
some-command Mend none = cc
some-command Checkpoint none = cc
some-command Sent none = cc
some-command Report none = cc
some-command Total none = cc

pub plain-command : (command : code.Command) → takes_program (command_word command) ≡ false
unfolding takes_program
plain-command Deliver = refl
plain-command Pump = refl
plain-command Lose = refl
plain-command Drop = refl
plain-command Tick = refl
plain-command Stop = refl
plain-command Start = refl
plain-command Cut = refl
plain-command Fail = refl
plain-command Mend = refl
plain-command Checkpoint = refl
plain-command Sent = refl
plain-command Report = refl
plain-command Total = refl

-- The word is none of a declaration.
is_declaration : List ℕ → Bool
is_declaration word =
    bytes_eq word (codes "sites")
    || (bytes_eq word (codes "journal") || (bytes_eq word (codes "item") || (bytes_eq word (codes "plan") || bytes_eq word (codes "client"))))

no_declaration : (command : code.Command) → is_declaration (command_word command) ≡ false
unfolding is_declaration
no_declaration Deliver = refl
no_declaration Pump = refl
no_declaration Lose = refl
no_declaration Drop = refl
no_declaration Tick = refl
no_declaration Stop = refl
no_declaration Start = refl
no_declaration Cut = refl
no_declaration Fail = refl
no_declaration Mend = refl
no_declaration Checkpoint = refl
no_declaration Sent = refl
no_declaration Report = refl
no_declaration Total = refl

declares-sites : is_declaration (codes "sites") ≡ true
unfolding is_declaration
declares-sites = refl

declares-journal : is_declaration (codes "journal") ≡ true
unfolding is_declaration
declares-journal = refl

declares-item : is_declaration (codes "item") ≡ true
unfolding is_declaration
declares-item = refl

declares-plan : is_declaration (codes "plan") ≡ true
unfolding is_declaration
declares-plan = refl

declares-client : is_declaration (codes "client") ≡ true
unfolding is_declaration
declares-client = refl

pub command-no_sites : (command : code.Command) → command_word command ≡ codes "sites" → ⊥
command-no_sites command same = both_ways (is_declaration (command_word command)) (no_declaration command) (ap is_declaration same ∙ declares-sites)

pub command-no_journal : (command : code.Command) → command_word command ≡ codes "journal" → ⊥
command-no_journal command same = both_ways (is_declaration (command_word command)) (no_declaration command) (ap is_declaration same ∙ declares-journal)

pub command-no_item : (command : code.Command) → command_word command ≡ codes "item" → ⊥
command-no_item command same = both_ways (is_declaration (command_word command)) (no_declaration command) (ap is_declaration same ∙ declares-item)

pub command-no_plan : (command : code.Command) → command_word command ≡ codes "plan" → ⊥
command-no_plan command same = both_ways (is_declaration (command_word command)) (no_declaration command) (ap is_declaration same ∙ declares-plan)

pub command-no_client : (command : code.Command) → command_word command ≡ codes "client" → ⊥
command-no_client command same = both_ways (is_declaration (command_word command)) (no_declaration command) (ap is_declaration same ∙ declares-client)

pub forms-sites : (script : Script) → forms_of script (codes "sites") ≡ (number 1 MAX_SITES ∷ []) ∷ []
unfolding line_forms
forms-sites scheduled = refl
forms-sites live = refl

pub forms-journal : (script : Script) → forms_of script (codes "journal") ≡ (number MIN_JOURNAL MAX_JOURNAL ∷ []) ∷ []
unfolding line_forms
forms-journal scheduled = refl
forms-journal live = refl

pub forms-item : (script : Script) → forms_of script (codes "item") ≡ (name ∷ site ∷ value ∷ []) ∷ []
unfolding line_forms
forms-item scheduled = refl
forms-item live = refl

pub forms-submit : forms_of scheduled (codes "submit") ≡ (site ∷ program ∷ []) ∷ []
unfolding line_forms
forms-submit = refl

pub forms-query : forms_of scheduled (codes "query") ≡ (site ∷ program ∷ []) ∷ []
unfolding line_forms
forms-query = refl

pub forms-plan : forms_of live (codes "plan") ≡ (number 0 (2 ^ 32 - 1) ∷ number 0 (2 ^ 32 - 1) ∷ []) ∷ []
unfolding line_forms
forms-plan = refl

pub forms-client : forms_of live (codes "client") ≡ (site ∷ []) ∷ []
unfolding line_forms
forms-client = refl

pub forms-asked_submit : forms_of live (codes "submit") ≡ (program ∷ []) ∷ []
unfolding line_forms
forms-asked_submit = refl

pub forms-asked_query : forms_of live (codes "query") ≡ (program ∷ []) ∷ []
unfolding line_forms
forms-asked_query = refl

pub plain-sites : takes_program (codes "sites") ≡ false
unfolding takes_program
plain-sites = refl

pub plain-journal : takes_program (codes "journal") ≡ false
unfolding takes_program
plain-journal = refl

pub plain-item : takes_program (codes "item") ≡ false
unfolding takes_program
plain-item = refl

pub plain-plan : takes_program (codes "plan") ≡ false
unfolding takes_program
plain-plan = refl

pub plain-client : takes_program (codes "client") ≡ false
unfolding takes_program
plain-client = refl

pub unwished-sites : is_wished (codes "sites") ≡ false
unfolding is_wished takes_program
unwished-sites = refl

pub unwished-journal : is_wished (codes "journal") ≡ false
unfolding is_wished takes_program
unwished-journal = refl

pub unwished-item : is_wished (codes "item") ≡ false
unfolding is_wished takes_program
unwished-item = refl

pub unwished-plan : is_wished (codes "plan") ≡ false
unfolding is_wished takes_program
unwished-plan = refl

pub unwished-client : is_wished (codes "client") ≡ false
unfolding is_wished takes_program
unwished-client = refl

pub wished-submit : is_wished (codes "submit") ≡ true
unfolding is_wished takes_program
wished-submit = refl

pub wished-query : is_wished (codes "query") ≡ true
unfolding is_wished takes_program
wished-query = refl

pub wished-peek : is_wished (codes "peek") ≡ true
unfolding is_wished takes_program
wished-peek = refl

pub plain-peek : takes_program (codes "peek") ≡ false
unfolding takes_program
plain-peek = refl

pub forms-peek : forms_of live (codes "peek") ≡ (item_name ∷ []) ∷ []
unfolding line_forms
forms-peek = refl

pub takes-submit : takes_program (codes "submit") ≡ true
unfolding takes_program
takes-submit = refl

pub takes-query : takes_program (codes "query") ≡ true
unfolding takes_program
takes-query = refl

-- ---- words that are none

-- Bytes that aren't in a table are none of its words.
unlisted : {K : Type 0} (bytes : List ℕ) (table : List (Bor (List ℕ) × K)) → keyword_beside bytes table ≡ None → list_any (λ entry. bytes_eq bytes entry.0.now) table ≡ false
unfolding keyword_beside
unlisted bytes [] none = refl
unlisted {K} bytes (e ∷ table) none = go (bytes_eq bytes e.0.now) (unlisted bytes table) none
  where
    go : (b : Bool) → (option_map (λ (entry : Bor (List ℕ) × K). entry.1) (find (λ entry. bytes_eq bytes entry.0.now) table) ≡ None → list_any (λ entry. bytes_eq bytes entry.0.now) table ≡ false)
        → option_map (λ (entry : Bor (List ℕ) × K). entry.1) (cond b (Some e) (find (λ entry. bytes_eq bytes entry.0.now) table)) ≡ None → b || list_any (λ entry. bytes_eq bytes entry.0.now) table ≡ false
    go true more is = absurd (none-some e.1 (sym is))
    go false more is = more is

-- Where each form's word is in the table, bytes that are none of the table's words have no form.
no_forms : {K : Type 0} (bytes : List ℕ) (table : List (Bor (List ℕ) × K)) (forms : List (List ℕ × List Field))
    → list_all (λ form. list_any (λ entry. bytes_eq form.0 entry.0.now) table) forms ≡ true → list_any (λ entry. bytes_eq bytes entry.0.now) table ≡ false
    → map (λ form. form.1) (filter (λ form. bytes_eq bytes form.0) forms) ≡ []
no_forms bytes table [] all none = refl
no_forms {K} bytes table (form ∷ forms) all none = go (bytes_eq bytes form.0) refl (no_forms bytes table forms parts.1 none)
  where
    parts : (list_any (λ entry. bytes_eq form.0 entry.0.now) table ≡ true) × (list_all (λ f. list_any (λ entry. bytes_eq f.0 entry.0.now) table) forms ≡ true)
    parts = and_parts (list_any (λ entry. bytes_eq form.0 entry.0.now) table) (list_all (λ f. list_any (λ entry. bytes_eq f.0 entry.0.now) table) forms) all

    go : (b : Bool) → bytes_eq bytes form.0 ≡ b → map (λ f. f.1) (filter (λ f. bytes_eq bytes f.0) forms) ≡ [] → map (λ f. f.1) (cond b (form ∷ filter (λ f. bytes_eq bytes f.0) forms) (filter (λ f. bytes_eq bytes f.0) forms)) ≡ []
    go true same more = absurd (both_ways (list_any (λ entry. bytes_eq bytes entry.0.now) table) none (ap (λ (w : List ℕ). list_any (λ (entry : Bor (List ℕ) × K). bytes_eq w entry.0.now) table) ((bytes_eq-Decides bytes form.0).0 same) ∙ parts.0))
    go false other more = more

pub unlisted-forms : {K : Type 0} (script : Script) (bytes : List ℕ) (table : List (Bor (List ℕ) × K)) → list_all (λ form. list_any (λ entry. bytes_eq form.0 entry.0.now) table) (line_forms script) ≡ true
    → keyword_beside bytes table ≡ None → forms_of script bytes ≡ []
unlisted-forms script bytes table all none = no_forms bytes table (line_forms script) all (unlisted bytes table none)

-- Bytes are spelled as the keyword beside them, where each of the table is.
pub keyword_beside-spelled : {K : Type 0} (spelled : K → List ℕ) (bytes : List ℕ) (table : List (Bor (List ℕ) × K)) (keyword : K)
    → list_all (λ entry. bytes_eq entry.0.now (spelled entry.1)) table ≡ true → keyword_beside bytes table ≡ Some keyword → bytes ≡ spelled keyword
unfolding keyword_beside
keyword_beside-spelled spelled bytes [] keyword all found = absurd (none-some keyword found)
keyword_beside-spelled {K} spelled bytes (e ∷ table) keyword all found = go (bytes_eq bytes e.0.now) refl (keyword_beside-spelled spelled bytes table keyword parts.1) found
  where
    parts : (bytes_eq e.0.now (spelled e.1) ≡ true) × (list_all (λ entry. bytes_eq entry.0.now (spelled entry.1)) table ≡ true)
    parts = and_parts (bytes_eq e.0.now (spelled e.1)) (list_all (λ entry. bytes_eq entry.0.now (spelled entry.1)) table) all

    same_keyword : Some e.1 ≡ Some keyword → e.1 ≡ keyword
    same_keyword is = cc

    go : (b : Bool) → bytes_eq bytes e.0.now ≡ b
        → (option_map (λ (entry : Bor (List ℕ) × K). entry.1) (find (λ entry. bytes_eq bytes entry.0.now) table) ≡ Some keyword → bytes ≡ spelled keyword)
        → option_map (λ (entry : Bor (List ℕ) × K). entry.1) (cond b (Some e) (find (λ entry. bytes_eq bytes entry.0.now) table)) ≡ Some keyword → bytes ≡ spelled keyword
    go true same more is = (bytes_eq-Decides bytes e.0.now).0 same ∙ (bytes_eq-Decides e.0.now (spelled e.1)).0 parts.0 ∙ ap spelled (same_keyword is)
    go false other more is = more is

-- ---- whatever the answer

pub keyword-answer : {K : Type 0} (script : Script) (spelled : K → List ℕ) (bytes : List ℕ) (table : List (Bor (List ℕ) × K)) (found : Option K) → list_all (λ form. list_any (λ entry. bytes_eq form.0 entry.0.now) table) (line_forms script) ≡ true
    → list_all (λ entry. bytes_eq entry.0.now (spelled entry.1)) table ≡ true → found ≡ keyword_beside bytes table
    → MatchOption found (forms_of script bytes ≡ []) (λ keyword. bytes ≡ spelled keyword)
keyword-answer script spelled bytes table None all each is = unlisted-forms script bytes table all (sym is)
keyword-answer script spelled bytes table (Some keyword) all each is = keyword_beside-spelled spelled bytes table keyword each (sym is)

pub spelled-answer : {K : Type 0} (spelled : K → List ℕ) (bytes : List ℕ) (table : List (Bor (List ℕ) × K)) (found : Option K)
    → list_all (λ entry. bytes_eq entry.0.now (spelled entry.1)) table ≡ true → found ≡ keyword_beside bytes table → IfSome found (λ keyword. bytes ≡ spelled keyword)
spelled-answer spelled bytes table None each is = tt
spelled-answer spelled bytes table (Some keyword) each is = keyword_beside-spelled spelled bytes table keyword each (sym is)

pub unlisted-answer : {K : Type 0} (bytes : List ℕ) (table : List (Bor (List ℕ) × K)) (found : Option K) → found ≡ keyword_beside bytes table
    → IfNone found (list_any (λ entry. bytes_eq bytes entry.0.now) table ≡ false)
unlisted-answer bytes table None is = unlisted bytes table (sym is)
unlisted-answer bytes table (Some keyword) is = tt
