-- Why an item isn't added is why its line is at fault.
use Rattle.std.proofs.Common.{◌≡◌, ◌≢◌, ℕ, ◌<◌, ◌≤◌, Bool, true, false, Option, Some, None, List, [], ◌∷◌, length, cond, get_or, Bor, refl, sym, ap, ◌∙◌, subst, arith}
use Rattle.std.specs.Prelude.{nat_le}
use Rattle.std.specs.Option.{option_map_or}
use Rattle.std.proofs.lemmas.Grind.{common_steps}
use Rattle.std.proofs.lemmas.Bool.{and_left, and_right, leb-true}
use Rattle.pv_base.specs.declared.limits.TheConstants.{MAX_ITEMS}
use Rattle.pv_base.specs.Name.{is_name}
use Rattle.pv_base.specs.Catalog.{Declared, place_of, refusal, refusal_of_taken, refusal_of_new}
use Rattle.pv_base.specs.declared.catalog.CatalogError.{CatalogError}
use Rattle.pv_base.specs.declared.catalog.CatalogError.TheVariants.{BadName, NameTaken, NoSite, TooMany, NoMemory}
use Rattle.pv_model.specs.LineCauses.{Before}
use Rattle.pv_model.specs.LineForms.{Field, site, value, name, has_good_number}
use Rattle.pv_script.specs.LineFaults.{texts, fault_of_catalog, IsFieldFault, IsLineFault}
use Rattle.pv_script.specs.declared.schedule.LineCause.TheVariants.{WrongCount, BadNumber}
use Rattle.pv_script.proofs.HeadLemmas.{IsItemLine, IsLineFault-bad_name, IsLineFault-taken, IsLineFault-full}

-- why an item of this name at this site isn't added
data Why (catalog : Declared) (word : List ℕ) (n : ℕ) : CatalogError → Type 0 where
  bad : is_name word ≡ false → Why catalog word n BadName
  taken : (k : ℕ) → is_name word ≡ true → place_of word catalog.items ≡ Some k → Why catalog word n (NameTaken (record { 0 = k }))
  away : catalog.sites ≤ n → Why catalog word n NoSite
  full : is_name word ≡ true → place_of word catalog.items ≡ None → MAX_ITEMS ≤ length catalog.items → Why catalog word n TooMany

same_error : (e f : CatalogError) → Some e ≡ Some f → e ≡ f
same_error e f is = cc

no_error : (e : CatalogError) → None ≡ Some e → ⊥
no_error e is = cc

why-new : (catalog : Declared) (word : List ℕ) (n : ℕ) (e : CatalogError) → is_name word ≡ true → place_of word catalog.items ≡ None → refusal_of_new catalog n ≡ Some e → Why catalog word n e
why-new catalog word n e named free is = go (nat_le catalog.sites n) refl (nat_le MAX_ITEMS (length catalog.items)) refl is
  where
    go : (a : Bool) → nat_le catalog.sites n ≡ a → (b : Bool) → nat_le MAX_ITEMS (length catalog.items) ≡ b → cond a (Some NoSite) (cond b (Some TooMany) None) ≡ Some e → Why catalog word n e
    go true no_site b room reported = subst (Why catalog word n) (same_error NoSite e reported) (away (leb-true catalog.sites n no_site))
    go false some_site true many reported = subst (Why catalog word n) (same_error TooMany e reported) (full named free (leb-true MAX_ITEMS (length catalog.items) many))
    go false some_site false few reported = absurd (no_error e reported)

why : (catalog : Declared) (word : List ℕ) (n : ℕ) (e : CatalogError) → refusal catalog word n ≡ Some e → Why catalog word n e
why catalog word n e is = go (is_name word) refl (place_of word catalog.items) refl is
  where
    go : (b : Bool) → is_name word ≡ b → (place : Option ℕ) → place_of word catalog.items ≡ place
        → cond b (option_map_or refusal_of_taken place (refusal_of_new catalog n)) (Some BadName) ≡ Some e → Why catalog word n e
    go false unnamed place at reported = subst (Why catalog word n) (same_error BadName e reported) (bad unnamed)
    go true named (Some k) at reported = subst (Why catalog word n) (same_error (NameTaken (record { 0 = k })) e reported) (taken k named at)
    go true named None at reported = why-new catalog word n e named at reported

some_place : (k : ℕ) (place : Option ℕ) → place ≡ Some k → place ≡ None → ⊥
some_place k place is none = cc

fault-why : (before : Before) (line word at digits : List ℕ) (catalog : Declared) (e : CatalogError) (is : IsItemLine before line word at digits)
    → catalog.items ≡ before.items → is.n < catalog.sites → Why catalog word is.n e → IsLineFault before line (fault_of_catalog e)
fault-why before line word at digits catalog BadName is same within (bad unnamed) = IsLineFault-bad_name before line word at digits is unnamed
fault-why before line word at digits catalog (NameTaken item) is same within (taken k named found) =
    IsLineFault-taken before line word at digits is named (some_place k (place_of word before.items) (ap (place_of word) (sym same) ∙ found))
fault-why before line word at digits catalog NoSite is same within (away far) = absurd (omega arith)
fault-why before line word at digits catalog TooMany is same within (full named free many) =
    IsLineFault-full before line word at digits is named (ap (place_of word) (sym same) ∙ free) (subst (λ (items : List _). MAX_ITEMS ≤ length items) same many)
fault-why before line word at digits catalog NoMemory is same within never = elim never [ ]

pub IsLineFault-add : (before : Before) (line word at digits : List ℕ) (catalog : Declared) (e : CatalogError) (is : IsItemLine before line word at digits)
    → catalog.items ≡ before.items → is.n < catalog.sites → (e ≢ NoMemory → refusal catalog word is.n ≡ Some e) → IsLineFault before line (fault_of_catalog e)
IsLineFault-add before line word at digits catalog BadName is same within cause = fault-why before line word at digits catalog BadName is same within (why catalog word is.n BadName (cause (λ e. cc)))
IsLineFault-add before line word at digits catalog (NameTaken item) is same within cause = fault-why before line word at digits catalog (NameTaken item) is same within (why catalog word is.n (NameTaken item) (cause (λ e. cc)))
IsLineFault-add before line word at digits catalog NoSite is same within cause = fault-why before line word at digits catalog NoSite is same within (why catalog word is.n NoSite (cause (λ e. cc)))
IsLineFault-add before line word at digits catalog TooMany is same within cause = fault-why before line word at digits catalog TooMany is same within (why catalog word is.n TooMany (cause (λ e. cc)))
IsLineFault-add before line word at digits catalog NoMemory is same within cause = tt

-- ---- the fields of an item

abbrev ItemForms : List (List Field)
ItemForms = (name ∷ site ∷ value ∷ []) ∷ []

pub item-few : (sites : ℕ) (args : List (Bor (List ℕ))) → length args < 3 → IsFieldFault sites ItemForms (texts args) WrongCount
item-few sites [] few = refl
item-few sites (a ∷ []) few = refl
item-few sites (a ∷ b ∷ []) few = refl
item-few sites (a ∷ b ∷ c ∷ more) few = absurd (omega arith)

pub item-many : (sites : ℕ) (args : List (Bor (List ℕ))) → 4 ≤ length args → IsFieldFault sites ItemForms (texts args) WrongCount
item-many sites [] many = absurd (omega arith)
item-many sites (a ∷ []) many = absurd (omega arith)
item-many sites (a ∷ b ∷ []) many = absurd (omega arith)
item-many sites (a ∷ b ∷ c ∷ []) many = absurd (omega arith)
item-many sites (a ∷ b ∷ c ∷ d ∷ more) many = grind (arith, common_steps)

pub item-bad_site : (sites : ℕ) (args : List (Bor (List ℕ))) (d : Bor (List ℕ)) → 3 ≤ length args → length args < 4
    → has_good_number sites (site, (get_or args 1 d).now) ≡ false → IsFieldFault sites ItemForms (texts args) BadNumber
item-bad_site sites [] d some few wrong = absurd (omega arith)
item-bad_site sites (a ∷ []) d some few wrong = absurd (omega arith)
item-bad_site sites (a ∷ b ∷ []) d some few wrong = absurd (omega arith)
item-bad_site sites (a ∷ b ∷ c ∷ []) d some few wrong = (λ none. cc, and_left (has_good_number sites (site, b.now)) _ wrong)
item-bad_site sites (a ∷ b ∷ c ∷ e ∷ more) d some few wrong = absurd (omega arith)

pub item-bad_value : (sites : ℕ) (args : List (Bor (List ℕ))) (d : Bor (List ℕ)) → 3 ≤ length args → length args < 4
    → has_good_number sites (value, (get_or args 2 d).now) ≡ false → IsFieldFault sites ItemForms (texts args) BadNumber
item-bad_value sites [] d some few wrong = absurd (omega arith)
item-bad_value sites (a ∷ []) d some few wrong = absurd (omega arith)
item-bad_value sites (a ∷ b ∷ []) d some few wrong = absurd (omega arith)
item-bad_value sites (a ∷ b ∷ c ∷ []) d some few wrong =
    (λ none. cc, and_right (has_good_number sites (site, b.now)) _ (and_left (has_good_number sites (value, c.now)) true wrong))
item-bad_value sites (a ∷ b ∷ c ∷ e ∷ more) d some few wrong = absurd (omega arith)
