-- Faults of lines of live scripts with a look, and what such a line declares.
use Rattle.std.proofs.Common.{◌≡◌, ◌≢◌, ℕ, ◌<◌, ◌≤◌, true, Some, None, List, [], ◌∷◌, length, Bor, refl, sym, ap, ◌∙◌, subst, arith, ⊎_elim}
use Rattle.std.specs.Prelude.{codes}
use Rattle.std.specs.List.{Contains}
use Rattle.std.proofs.lemmas.Grind.{common_steps}
use Rattle.pv_base.specs.Catalog.{place_of}
use Rattle.pv_base.specs.declared.limits.TheConstants.{MAX_REQUESTS}
use Rattle.pv_model.specs.LineCauses.{Before, Has, home_of, last_requests, last_site}
use Rattle.pv_model.specs.LineForms.{Script, live, Field, item_name, first_word, forms_of, is_wished, arguments, form_of, fields_of, fields_in}
use Rattle.pv_model.specs.LiveScript.{Client, to_peek}
use Rattle.pv_model.specs.Schedule.{DeclaresPeek, with_wish}
use Rattle.pv_model.specs.Text.{TextLine, words}
use Rattle.pv_script.specs.LineFaults.{texts, form_among, IsLineFault}
use Rattle.pv_script.specs.LiveSaid.{IsItemFault, IsNumberFault}
use Rattle.pv_script.specs.Said.{IsHead}
use Rattle.pv_script.specs.declared.fault.Fault.TheVariants.{At}
use Rattle.pv_script.specs.declared.schedule.LineCause.{LineCause}
use Rattle.pv_script.specs.declared.schedule.LineCause.TheVariants.{WrongCount, ClientExpected, TooManyRequests, NoSuchItem, OtherSite}
use Rattle.pv_script.proofs.CauseLemmas.{NoneBefore, none5, none6, none7, none8, none9, none10, none11, none-known, reported, first-line, arguments-line, form_of-line, fields_of-line}
use Rattle.pv_script.proofs.HeadLemmas.{some_forms, begins, differs, no-twice, no-late, contains-cons}
use Rattle.pv_script.proofs.KeywordLemmas.{forms-peek, plain-peek, wished-peek}
use Rattle.pv_script.proofs.LiveRequestLemmas.{no-requests}

pub peek-few : (args : List (Bor (List ℕ))) → length args < 1 → form_among ((item_name ∷ []) ∷ []) (texts args) ≡ None
peek-few [] few = refl
peek-few (a ∷ more) few = absurd (omega arith)

pub peek-many : (args : List (Bor (List ℕ))) → 2 ≤ length args → form_among ((item_name ∷ []) ∷ []) (texts args) ≡ None
peek-many [] many = absurd (omega arith)
peek-many (a ∷ []) many = absurd (omega arith)
peek-many (a ∷ b ∷ more) many = grind (arith, common_steps)

module _ (before : Before) (line : TextLine) (args : List (List ℕ)) (kind : before.script ≡ live) (head : IsHead before line (codes "peek") args) where
  forms : forms_of before.script (codes "peek") ≡ (item_name ∷ []) ∷ []
  forms = ap (λ (s : Script). forms_of s (codes "peek")) kind ∙ forms-peek

  first : first_word line ≡ codes "peek"
  first = first-line line (codes "peek") args head.words

  wished : is_wished (first_word line) ≡ true
  wished = ap is_wished first ∙ wished-peek

  isnt : (other : List ℕ) → (codes "peek" ≡ other → ⊥) → first_word line ≡ other → ⊥
  isnt other differ = begins line (codes "peek") other args head.words differ

  none-words : NoneBefore before line 6
  none-words =
      none6 before line
      (none5 before line (none-known before line (codes "peek") args head (some_forms (forms_of before.script (codes "peek")) (item_name ∷ []) [] forms))
      (no-twice before line (codes "peek") args head.words (differs (codes "peek") (codes "sites") refl) (differs (codes "peek") (codes "journal") refl) (differs (codes "peek") (codes "plan") refl)))
      (no-late before line (codes "peek") args head.words (differs (codes "peek") (codes "journal") refl) (differs (codes "peek") (codes "item") refl) (differs (codes "peek") (codes "plan") refl))

  alone : arguments before.script line ≡ args
  alone = arguments-line before.script line (codes "peek") args head.words plain-peek

  pub IsLineFault-peek_words : form_among ((item_name ∷ []) ∷ []) args ≡ None → IsLineFault before line (At WrongCount)
  IsLineFault-peek_words wrong =
      reported before line WrongCount
      (form_of-line before.script line (codes "peek") args args head.words alone ∙ ap (λ (fs : List (List Field)). form_among fs args) forms ∙ wrong)
      none-words

  module _ (name : List ℕ) (one : args ≡ name ∷ []) where
    given : arguments before.script line ≡ name ∷ []
    given = alone ∙ one

    form : form_of before.script line ≡ Some (item_name ∷ [])
    form = form_of-line before.script line (codes "peek") args (name ∷ []) head.words given ∙ ap (λ (fs : List (List Field)). form_among fs (name ∷ [])) forms

    fields : fields_of before.script line ≡ (item_name, name) ∷ []
    fields =
        fields_of-line before.script line (codes "peek") args (name ∷ []) head.words given
        ∙ ap (λ (fs : List (List Field)). fields_in (form_among fs (name ∷ [])) (name ∷ [])) forms

    none-form : NoneBefore before line 7
    none-form = none7 before line none-words (λ none. let never : None ≡ Some (item_name ∷ []) = sym none ∙ form in cc)

    -- A look more isn't taken.
    pub IsLineFault-peek_number : (cause : LineCause) → IsNumberFault before.clients cause → IsLineFault before line (At cause)
    IsLineFault-peek_number ClientExpected none = reported before line ClientExpected ((kind, wished), none) none-form
    IsLineFault-peek_number TooManyRequests many =
        reported before line TooManyRequests ((kind, wished), many)
        (none9 before line (none8 before line none-form (λ has. no-requests before.clients has.1 many))
        (λ has. isnt (codes "client") (differs (codes "peek") (codes "client") refl) has.0))
    IsLineFault-peek_number cause never = absurd never

    has_name : Has before.script line item_name name
    has_name = subst (λ (fs : List (Field × List ℕ)). Contains fs (item_name, name)) (sym fields) (0, omega arith, refl)

    only_name : (other : List ℕ) → Has before.script line item_name other → name ≡ other
    only_name other has =
        ⊎_elim (λ (same : (item_name, name) ≡ (item_name, other)). ap (λ (f : Field × List ℕ). f.1) same)
        (λ none. let below = none.1 in absurd (omega arith))
        (contains-cons (item_name, other) (item_name, name) [] (subst (λ (fs : List (Field × List ℕ)). Contains fs (item_name, other)) fields has))

    module _ (client : before.clients ≢ []) (room : last_requests before.clients < MAX_REQUESTS) where
      none-wish : NoneBefore before line 10
      none-wish =
          none10 before line
          (none9 before line
          (none8 before line none-form (λ has. client has.1))
          (λ has. isnt (codes "client") (differs (codes "peek") (codes "client") refl) has.0))
          (λ has. let many = has.1 in omega arith)

      -- The item isn't one that the client may look at.
      pub IsLineFault-item_here : (cause : LineCause) → IsItemFault before.items name before.clients cause → IsLineFault before line (At cause)
      IsLineFault-item_here NoSuchItem none = reported before line NoSuchItem (name, has_name, none) none-wish
      IsLineFault-item_here OtherSite fault =
          reported before line OtherSite (name, fault.0, has_name, fault.1, fault.2)
          (none11 before line none-wish
          (λ has.
          let never : None ≡ Some fault.0 = sym has.2 ∙ ap (λ (w : List ℕ). place_of w before.items) (sym (only_name has.0 has.1)) ∙ fault.1 in
          cc))
      IsLineFault-item_here cause never = absurd never

      -- The line declares the look.
      pub DeclaresPeek-read : (after : Before) (item : ℕ) → place_of name before.items ≡ Some item → home_of before.items item ≡ last_site before.clients
          → after ≡ record before { clients = with_wish before.clients (to_peek (last_requests before.clients) item) } → DeclaresPeek before line after
      DeclaresPeek-read after item at here same = record {
        kind = kind;
        text = head.text;
        sites = head.sites;
        said = head.said;
        name = name;
        is = head.words ∙ ap (λ (ws : List (List ℕ)). codes "peek" ∷ ws) one;
        some = client;
        room = room;
        item = item;
        at = at;
        here = here;
        same = same;
      }
