-- A line has one program text at most.
use Rattle.std.proofs.Common.{◌≡◌, ◌⊎◌, ⊎_elim, ℕ, Bool, true, false, Option, Some, None, List, [], ◌∷◌, length, refl, sym, ap, subst, ◌∙◌}
use Rattle.std.specs.Prelude.{◌==◌, not, cond, map, filter, find, if◌then◌else◌}
use Rattle.std.specs.List.{list_all, Contains}
use Rattle.std.specs.Cmp.Derive.{both_true}
use Rattle.std.proofs.lemmas.Bool.{false≢true}
use Rattle.pv_model.specs.LineForms.{Script, scheduled, live, Field, program, line_forms, first_word, forms_of, arguments, form_of, fields_of, fields_in, beside}
use Rattle.pv_model.specs.Text.{TextLine}
use Rattle.pv_base.proofs.Basics.{and-left, and-right}
use Rattle.pv_base.proofs.ContainsLemmas.{Contains-nil, Contains-cases}

pub found-in : {X : Type 0} (q p : X → Bool) (xs : List X) (x : X) → list_all q xs ≡ true → find p xs ≡ Some x → q x ≡ true
found-in q p [] x all found = absurd (let never : ⊥ = cc in never)
found-in {X} q p (y ∷ ys) x all found = go (p y) (found-in q p ys x (and-right (q y) (list_all q ys) all)) found
  where
    go : (b : Bool) → (find p ys ≡ Some x → q x ≡ true) → cond b (Some y) (find p ys) ≡ Some x → q x ≡ true
    go true more e = let same : y ≡ x = cc in subst (λ (z : X). q z ≡ true) same (and-left (q y) (list_all q ys) all)
    go false more e = more e

kept-all : {K X : Type 0} (q : X → Bool) (p : K × X → Bool) (xs : List (K × X)) → list_all (λ entry. q entry.1) xs ≡ true → list_all q (map (λ entry. entry.1) (filter p xs)) ≡ true
kept-all q p [] all = refl
kept-all {K} {X} q p (y ∷ ys) all = go (kept-all q p ys (and-right (q y.1) (list_all (λ (entry : K × X). q entry.1) ys) all)) (p y)
  where
    go : list_all q (map (λ (entry : K × X). entry.1) (filter p ys)) ≡ true → (b : Bool) → list_all q (map (λ (entry : K × X). entry.1) (cond b (y ∷ filter p ys) (filter p ys))) ≡ true
    go more true = both_true (and-left (q y.1) (list_all (λ (entry : K × X). q entry.1) ys) all) more
    go more false = more

-- what holds of each form holds of the line's
pub form-passes : (script : Script) (q : List Field → Bool) (line : TextLine) (form : List Field) → list_all (λ entry. q entry.1) (line_forms script) ≡ true
    → form_of script line ≡ Some form → q form ≡ true
unfolding form_of
form-passes script q line form all found =
    found-in q (λ form. length form == length (arguments script line)) (forms_of script (first_word line)) form (kept-all q _ (line_forms script) all) found

unfoldable pub is_program : Field → Bool
is_program program = true
is_program field = false

abbrev lone : List Field → Bool
lone [] = true
lone (field ∷ more) = if is_program field then list_all (λ field. not (is_program field)) more else lone more

abbrev Stands : List Field → List (List ℕ) → List ℕ → Type 0
Stands form given text = Contains (beside form given) (program, text)

abbrev IsEntry : Field × List ℕ → Field × List ℕ → Type 0
IsEntry entry other = entry ≡ other

-- Nothing stands in a field of a kind that the form hasn't.
pub none-such : (p : Field → Bool) (kind : Field) → p kind ≡ true → (form : List Field) (given : List (List ℕ)) (text : List ℕ) → list_all (λ field. not (p field)) form ≡ true
    → Contains (beside form given) (kind, text) → ⊥
none-such p kind is [] given text none c = Contains-nil (kind, text) c
none-such p kind is (field ∷ form) [] text none c = Contains-nil (kind, text) c
none-such p kind is (field ∷ form) (w ∷ given) text none c =
    ⊎_elim
    (λ same. false≢true (ap not (sym is) ∙ sym (ap (λ (entry : Field × List ℕ). not (p entry.0)) same) ∙ and-left (not (p field)) (list_all (λ field. not (p field)) form) none))
    (none-such p kind is form given text (and-right (not (p field)) (list_all (λ field. not (p field)) form) none))
    (Contains-cases (field, w) (beside form given) (kind, text) c)

pub none-stands : (form : List Field) (given : List (List ℕ)) (text : List ℕ) → list_all (λ field. not (is_program field)) form ≡ true → Stands form given text → ⊥
unfolding is_program
none-stands form given text none c = none-such is_program program refl form given text none c

one-stands : (form : List Field) (given : List (List ℕ)) (a b : List ℕ) → lone form ≡ true → Stands form given a → Stands form given b → a ≡ b
unfolding is_program
one-stands [] given a b one is also = absurd (Contains-nil (program, a) is)
one-stands (field ∷ form) [] a b one is also = absurd (Contains-nil (program, a) is)
one-stands (field ∷ form) (w ∷ given) a b one is also =
    go (λ more s t. one-stands form given a b more s t) (is_program field) refl one
  where
    here : IsEntry (field, w) (program, a) ⊎ Stands form given a
    here = Contains-cases (field, w) (beside form given) (program, a) is

    there : IsEntry (field, w) (program, b) ⊎ Stands form given b
    there = Contains-cases (field, w) (beside form given) (program, b) also

    first : (text : List ℕ) → list_all (λ field. not (is_program field)) form ≡ true → IsEntry (field, w) (program, text) ⊎ Stands form given text → w ≡ text
    first text none = ⊎_elim (ap (λ (entry : Field × List ℕ). entry.1)) (λ c. absurd (none-stands form given text none c))

    behind : (text : List ℕ) → is_program field ≡ false → IsEntry (field, w) (program, text) ⊎ Stands form given text → Stands form given text
    behind text isnt = ⊎_elim (λ same. absurd (false≢true (sym isnt ∙ ap (λ (entry : Field × List ℕ). is_program entry.0) same))) (λ c. c)

    go : (lone form ≡ true → Stands form given a → Stands form given b → a ≡ b) → (x : Bool) → is_program field ≡ x → cond x (list_all (λ field. not (is_program field)) form) (lone form) ≡ true → a ≡ b
    go rest true e none = sym (first a none here) ∙ first b none there
    go rest false e more = rest more (behind a e here) (behind b e there)

forms-lone : (script : Script) → list_all (λ entry. lone entry.1) (line_forms script) ≡ true
unfolding line_forms is_program
forms-lone scheduled = refl
forms-lone live = refl

one-text-in : (form : Option (List Field)) (given : List (List ℕ)) (a b : List ℕ) → ((fields : List Field) → form ≡ Some fields → lone fields ≡ true)
    → Contains (fields_in form given) (program, a) → Contains (fields_in form given) (program, b) → a ≡ b
one-text-in None given a b one is also = absurd (Contains-nil (program, a) is)
one-text-in (Some form) given a b one is also = one-stands form given a b (one form refl) is also

pub one-text : (script : Script) (line : TextLine) (a b : List ℕ) → Contains (fields_of script line) (program, a) → Contains (fields_of script line) (program, b) → a ≡ b
one-text script line a b is also =
    one-text-in (form_of script line) (arguments script line) a b (λ form e. form-passes script lone line form (forms-lone script) e) is also
