-- An item of a catalog, by what is told of it.
use Rattle.std.proofs.Common.{◌≡◌, ℕ, ℤ, Option, Some, None, List, map, refl, sym, ap, ◌∙◌, subst}
use Rattle.std.specs.Prelude.{slice_get}
use Rattle.std.specs.Option.{option_map}
use Rattle.std.proofs.lemmas.Option.{none-some, slice_get-map}
use Rattle.pv_base.proofs.Basics.{Some_inj}
use Rattle.pv_base.specs.Catalog.{Item}

-- Of items that are one, the same is told.
pub same-part : {A : Type 0} (part : Item → A) (later before : List Item) (k : ℕ) (a b : A) → slice_get (map part later) k ≡ Some a → slice_get (map part before) k ≡ Some b
    → slice_get later k ≡ slice_get before k → a ≡ b
same-part part later before k a b told said same =
    Some_inj (sym told ∙ slice_get-map part later k ∙ ap (option_map part) same ∙ sym (slice_get-map part before k) ∙ said)

-- the item that has this name, this site and this value
abbrev with-all : List ℕ → ℕ → ℤ → Item
with-all name site value = record { name = name; site = site; value = value }

of-found : (found : Option Item) (name : List ℕ) (site : ℕ) (value : ℤ) → option_map (λ (it : Item). it.name) found ≡ Some name
    → option_map (λ (it : Item). it.site) found ≡ Some site → option_map (λ (it : Item). it.value) found ≡ Some value
    → found ≡ Some (with-all name site value)
of-found None name site value named placed valued = absurd (none-some name named)
of-found (Some item) name site value named placed valued =
    subst (λ n. Some item ≡ Some (with-all n site value)) (Some_inj named)
    (subst (λ s. Some item ≡ Some (with-all item.name s value)) (Some_inj placed)
    (subst (λ v. Some item ≡ Some (with-all item.name item.site v)) (Some_inj valued) refl))

-- The item at this place has this name, this site and this value.
told-item : (items : List Item) (k : ℕ) (name : List ℕ) (site : ℕ) (value : ℤ) → slice_get (map (λ (it : Item). it.name) items) k ≡ Some name
    → slice_get (map (λ (it : Item). it.site) items) k ≡ Some site → slice_get (map (λ (it : Item). it.value) items) k ≡ Some value
    → slice_get items k ≡ Some (with-all name site value)
told-item items k name site value named placed valued =
    of-found (slice_get items k) name site value
    (sym (slice_get-map (λ (it : Item). it.name) items k) ∙ named)
    (sym (slice_get-map (λ (it : Item). it.site) items k) ∙ placed)
    (sym (slice_get-map (λ (it : Item). it.value) items k) ∙ valued)

-- Items of which the same is told are one.
pub told-same : (later before : List Item) (k : ℕ) (name other : List ℕ) (site place : ℕ) (value first : ℤ)
    → slice_get (map (λ (it : Item). it.name) later) k ≡ Some name → slice_get (map (λ (it : Item). it.name) before) k ≡ Some other
    → slice_get (map (λ (it : Item). it.site) later) k ≡ Some site → slice_get (map (λ (it : Item). it.site) before) k ≡ Some place
    → slice_get (map (λ (it : Item). it.value) later) k ≡ Some value → slice_get (map (λ (it : Item). it.value) before) k ≡ Some first
    → name ≡ other → site ≡ place → value ≡ first → slice_get later k ≡ slice_get before k
told-same later before k name other site place value first named named' placed placed' valued valued' names sites values =
    told-item later k name site value named placed valued
    ∙ ap (λ n. Some (with-all n site value)) names
    ∙ ap (λ s. Some (with-all other s value)) sites
    ∙ ap (λ v. Some (with-all other place v)) values
    ∙ sym (told-item before k other place first named' placed' valued')
