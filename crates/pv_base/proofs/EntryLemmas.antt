-- What the map's entries say of the items that they stand for.
use Rattle.std.proofs.Common.{◌≡◌, ◌+◌, ℕ, Bool, not, cond, List, [], ◌∷◌, ◌++◌, map, length, slice_get, position, refl, sym, ap, ◌∙◌, Some, None, Result, Ok, Err, IfOk, MatchResult, nat_lt, vec_len, All, IsTrue, subst}
use Rattle.std.specs.Global.{Vec}
use Rattle.std.specs.Map.{keys_of}
use Rattle.std.specs.List.{position_or_len, AllZip}
use Rattle.std.proofs.lemmas.Slice.Zip.{AllZip-map}
use Rattle.std.specs.Option.{option_map}
use Rattle.std.specs.Str.{bytes_eq}
use Rattle.std.proofs.lemmas.Option.{slice_get-map, slice_get_within, get_or_from_slice_get}
use Rattle.std.proofs.lemmas.List.Elements.{All-get_or, All-map}
use Rattle.std.proofs.lemmas.List.{length-map, map-append, map-id}
use Rattle.indexmap.specs.IndexMap.{insert_entry}
use Rattle.indexmap.proofs.MapLemmas.{Missing-position, insert_entry-absent}
use Rattle.pv_base.specs.declared.entries.Declaration.{Declaration}
use Rattle.pv_base.specs.Catalog.{Item, place_of}
use Rattle.pv_base.specs.CatalogView.{item_of, items_of}
use Rattle.pv_base.specs.Name.{is_name}

-- The entries of a map.
abbrev pub Entries : Type 0
Entries = List (Vec ℕ × Declaration)

-- What is read of an entry is what is read of its item.
pub slice_get-items_of : {X : Type 0} (f : Item → X) (entries : Entries) (place : ℕ) (entry : Vec ℕ × Declaration)
    → slice_get entries place ≡ Some entry
    → slice_get (map f (items_of entries)) place ≡ Some (f (item_of entry))
slice_get-items_of f entries place entry at =
    slice_get-map f (items_of entries) place
    ∙ ap (option_map f) (slice_get-map item_of entries place ∙ ap (option_map item_of) at)

-- What stands at a place of names is a name.
pub name-at-is-name : (items : List Item) (place : ℕ) (name : List ℕ)
    → All (λ item. IsTrue (is_name item.name)) items
    → slice_get (map (λ item. item.name) items) place ≡ Some name
    → IsTrue (is_name name)
name-at-is-name items place name are_names at =
    let names = map (λ (item : Item). item.name) items in
    let there = All-get_or (λ text. IsTrue (is_name text)) names place name (slice_get_within names place name at)
    (All-map (λ text. IsTrue (is_name text)) (λ (item : Item). item.name) items are_names) in
    subst (λ text. IsTrue (is_name text)) (get_or_from_slice_get names place name name at) there

-- Whether a key has this name.
abbrev pub has_name : List ℕ → Vec ℕ → Bool
has_name name key = bytes_eq name key.items

first_place : (name : List ℕ) (entries : Entries)
    → position_or_len (has_name name) (keys_of entries)
    ≡ position_or_len (λ (item : Item). bytes_eq name item.name) (items_of entries)
first_place name [] = refl
first_place name (entry ∷ entries) =
    ap (λ n. cond (not (bytes_eq name entry.0.items)) (1 + n) 0) (first_place name entries)

-- The place of a key is the place of the item of its name.
pub position-keys_of : (name : List ℕ) (entries : Entries)
    → position (has_name name) (keys_of entries) ≡ place_of name (items_of entries)
position-keys_of name entries =
    let keys = length-map entries (λ entry. entry.0) in
    let items = length-map entries item_of in
    let lengths : length (keys_of entries) ≡ length (items_of entries) = keys ∙ sym items in
    (λ i. cond (nat_lt (first_place name entries i) (lengths i)) (Some (first_place name entries i)) None)

-- A new name goes last.
pub items_of-insert_entry : (key : Vec ℕ) (declaration : Declaration) (entries : Entries)
    → place_of key.items (items_of entries) ≡ None
    → items_of (insert_entry (λ x y. bytes_eq x.items y.items) entries key declaration)
    ≡ items_of entries ++ item_of (key, declaration) ∷ []
items_of-insert_entry key declaration entries absent =
    let missing = Missing-position (has_name key.items) entries (position-keys_of key.items entries ∙ absent) in
    ap items_of (insert_entry-absent _ key declaration entries missing.absent)
    ∙ map-append item_of entries ((key, declaration) ∷ [])

-- A clone of a key has the same name.
same_name : (key clone : Vec ℕ) → AllZip (λ x y. y ≡ x) key.items clone.items → clone.items ≡ key.items
same_name key clone same = AllZip-map (λ x. x) key.items clone.items same ∙ map-id key.items

-- The second entry is a clone of the first.
abbrev pub IsClone : Vec ℕ × Declaration → Vec ℕ × Declaration → Type 0
IsClone entry clone =
    (AllZip (λ x y. y ≡ x) entry.0.items clone.0.items × (vec_len clone.0 ≡ vec_len entry.0)) × (clone.1 ≡ entry.1)

-- Entries whose keys and declarations are clones stand for the same items.
pub items_of-clones : (entries clones : Entries) → AllZip IsClone entries clones → items_of clones ≡ items_of entries
items_of-clones [] [] same = refl
items_of-clones [] (clone ∷ clones) same = absurd same
items_of-clones (entry ∷ entries) [] same = absurd same
items_of-clones (entry ∷ entries) (clone ∷ clones) same =
    (λ i. record {
      name = same_name entry.0 clone.0 same.0.0.0 i;
      site = (same.0.1 i).site.0;
      value = (same.0.1 i).value;
    } ∷ items_of-clones entries clones same.1 i)

-- What follows from the value in an `Ok`.
pub IfOk-from_match : {X E : Type 0} (r : Result X E) (P Q : X → Type 0) (R : E → Type 0)
    → ((x : X) → P x → Q x) → MatchResult r P R → IfOk r Q
IfOk-from_match (Ok x) P Q R weaker h = weaker x h
IfOk-from_match (Err e) P Q R weaker h = tt
