-- What reads give of bytes that a write has changed elsewhere.
use Rattle.std.proofs.Common.{◌≡◌, ◌⊎◌, inl, inr, ℕ, ◌+◌, ◌-◌, ◌<◌, ◌≤◌, List, ◌∷◌, ◌++◌, [], length, take, drop, get_or, arith, sym, ◌∙◌, ap, get_or-take}
use Rattle.std.proofs.lemmas.List.{take-take, drop-take, drop-drop, take-append-drop, take_at, drop_at, append_assoc, length-append, length-take}
use Rattle.pv_disk_model.specs.Disk.{overlaid, Torn}

pub fronts_agree : (count less : ℕ) (bytes others : List ℕ) → take count bytes ≡ take count others → less ≤ count → take less bytes ≡ take less others
fronts_agree count less bytes others same le = sym (take-take less count bytes le) ∙ ap (λ (l : List ℕ). take less l) same ∙ take-take less count others le

-- Bytes with one front have one slice in it.
pub slices_agree : (count at size : ℕ) (bytes others : List ℕ) → take count bytes ≡ take count others → at + size ≤ count → take size (drop at bytes) ≡ take size (drop at others)
slices_agree count at size bytes others same le =
    sym (drop-take at size bytes) ∙ ap (λ (l : List ℕ). drop at l) (fronts_agree count (at + size) bytes others same le) ∙ drop-take at size others

pub places_agree : (count at : ℕ) (bytes others : List ℕ) → take count bytes ≡ take count others → at < count → get_or bytes at 0 ≡ get_or others at 0
places_agree count at bytes others same low = sym (get_or-take count bytes at 0 low) ∙ ap (λ (l : List ℕ). get_or l at 0) same ∙ get_or-take count others at 0 low

-- A write that ends before a slice or begins behind it.
abbrev pub Apart : (place count at size : ℕ) → Type 0
Apart place count at size = (place + count ≤ at) ⊎ (at + size ≤ place)

module _ (place count : ℕ) (old new : List ℕ) (torn : Torn place count old new) where
  pub behind_kept : (at : ℕ) → place + count ≤ at → drop at new ≡ drop at old
  behind_kept at le =
      let more = at - (place + count) in
      let there : place + count + more ≡ at = omega arith in
      ap (λ n. drop n new) (sym there) ∙ sym (drop-drop more (place + count) new) ∙ ap (λ (l : List ℕ). drop more l) torn.after
      ∙ drop-drop more (place + count) old ∙ ap (λ n. drop n old) there

  pub slice_kept : (at size : ℕ) → Apart place count at size → take size (drop at new) ≡ take size (drop at old)
  slice_kept at size (inl behind) = ap (λ (l : List ℕ). take size l) (behind_kept at behind)
  slice_kept at size (inr before) = slices_agree place at size new old torn.before before

-- What a write wrote, read from its place on.
pub drop-overlaid : (content : List ℕ) (place : ℕ) (bytes : List ℕ) → place ≤ length content → drop place (overlaid content place bytes) ≡ bytes ++ drop (place + length bytes) content
drop-overlaid content place bytes within = drop_at (take place content) (bytes ++ drop (place + length bytes) content) place (omega (arith, length-take place content))

-- Bytes with one front go on from it to a gate in the same way.
pub body_kept : (front : List ℕ) (gate : ℕ) (rest bytes others : List ℕ) → take (length front + 1) bytes ≡ take (length front + 1) others → others ≡ front ++ gate ∷ rest
    → (more : List ℕ) × (bytes ≡ front ++ gate ∷ more)
body_kept front gate rest bytes others same is =
    let count = length front + 1 in
    let whole : others ≡ (front ++ gate ∷ []) ++ rest = is ∙ sym (append_assoc front (gate ∷ []) rest) in
    let begins : take count bytes ≡ front ++ gate ∷ [] =
    same ∙ ap (λ (l : List ℕ). take count l) whole ∙ take_at (front ++ gate ∷ []) rest count (omega (arith, length-append front (gate ∷ []))) in (
      drop count bytes,
      sym (take-append-drop count bytes) ∙ ap (λ (l : List ℕ). l ++ drop count bytes) begins ∙ append_assoc front (gate ∷ []) (drop count bytes),
    )
