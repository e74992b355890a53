-- What a write makes of a content, place by place.
use Rattle.std.proofs.Common.{◌≡◌, inl, inr, ℕ, ◌+◌, ◌-◌, ◌<◌, ◌≤◌, max, min, List, ◌++◌, length, take, drop, get_or, arith, refl, sym, ◌∙◌, ap, length-append, length-take, length-drop, get_or-take, get_or-drop}
use Rattle.std.proofs.lemmas.List.{ext_get_or, get_or_append_left, get_or-append_right, take_at, drop_at, append_assoc}
use Rattle.std.proofs.lemmas.Bool.{cases_lt}
use Rattle.pv_disk_model.specs.Disk.{overlaid, Torn}

module _ (content : List ℕ) (place : ℕ) (bytes : List ℕ) (within : place ≤ length content) where
  front_size : length (take place content) ≡ place
  front_size = omega (arith, length-take place content)

  pub length-overlaid : length (overlaid content place bytes) ≡ max (length content) (place + length bytes)
  length-overlaid =
      omega (
        arith,
        front_size,
        length-append (take place content) (bytes ++ drop (place + length bytes) content),
        length-append bytes (drop (place + length bytes) content),
        length-drop (place + length bytes) content,
      )

  pub get_or-overlaid_below : (i : ℕ) → i < place → get_or (overlaid content place bytes) i 0 ≡ get_or content i 0
  get_or-overlaid_below i below =
      get_or_append_left (take place content) (bytes ++ drop (place + length bytes) content) 0 i (omega (arith, front_size)) ∙ get_or-take place content i 0 below

  pub get_or-overlaid_in : (i : ℕ) → place ≤ i → i < place + length bytes → get_or (overlaid content place bytes) i 0 ≡ get_or bytes (i - place) 0
  get_or-overlaid_in i from to =
      get_or-append_right (take place content) (bytes ++ drop (place + length bytes) content) place i 0 front_size from
      ∙ get_or_append_left bytes (drop (place + length bytes) content) 0 (i - place) (omega arith)

  pub get_or-overlaid_above : (i : ℕ) → place + length bytes ≤ i → get_or (overlaid content place bytes) i 0 ≡ get_or content i 0
  get_or-overlaid_above i above =
      let there : place + length bytes + (i - place - length bytes) ≡ i = omega arith in
      get_or-append_right (take place content) (bytes ++ drop (place + length bytes) content) place i 0 front_size (omega arith)
      ∙ get_or-append_right bytes (drop (place + length bytes) content) (length bytes) (i - place) 0 refl (omega arith)
      ∙ get_or-drop (place + length bytes) content (i - place - length bytes) 0 ∙ ap (λ k. get_or content k 0) there

  -- A write is one of those that a crash may cut short.
  pub Torn-overlaid : Torn place (length bytes) content (overlaid content place bytes)
  Torn-overlaid = record {
    before = take_at (take place content) (bytes ++ drop (place + length bytes) content) place front_size;
    after =
        ap (λ (l : List ℕ). drop (place + length bytes) l) (sym (append_assoc (take place content) bytes (drop (place + length bytes) content)))
        ∙ drop_at (take place content ++ bytes) (drop (place + length bytes) content) (place + length bytes) (omega (arith, front_size, length-append (take place content) bytes));
    no_shorter = omega (arith, length-overlaid);
    no_longer = omega (arith, length-overlaid);
  }

pub Torn-refl : (place count : ℕ) (content : List ℕ) → Torn place count content content
Torn-refl place count content = record { before = refl; after = refl; no_shorter = omega arith; no_longer = omega arith }

-- Two contents that are the same place by place, but for a range, are torn there.
pub Torn-places : (place count : ℕ) (old new : List ℕ) → length old ≤ length new → length new ≤ max (length old) (place + count) → min place (length new) ≡ min place (length old)
    → ((i : ℕ) → i < length old → i < place → get_or new i 0 ≡ get_or old i 0) → ((i : ℕ) → i < length old → place + count ≤ i → get_or new i 0 ≡ get_or old i 0)
    → Torn place count old new
Torn-places place count old new no_shorter no_longer fronts below above = record {
  before = ext_get_or 0 (take place new) (take place old) (omega (arith, length-take place new, length-take place old))
      (λ i low. let here : i < place = omega (arith, low, length-take place new) in get_or-take place new i 0 here ∙ below i (omega (arith, low, length-take place new, fronts)) here ∙ sym (get_or-take place old i 0 here));
  after = ext_get_or 0 (drop (place + count) new) (drop (place + count) old) (omega (arith, length-drop (place + count) new, length-drop (place + count) old))
      (λ i low. let here : i < length new - (place + count) = omega (arith, low, length-drop (place + count) new) in
      get_or-drop (place + count) new i 0 ∙ above (place + count + i) (omega arith) (omega arith) ∙ sym (get_or-drop (place + count) old i 0));
  no_shorter = no_shorter;
  no_longer = no_longer;
}

pub get_or-Torn_below : (place count : ℕ) (old new : List ℕ) → Torn place count old new → (i : ℕ) → i < place → get_or new i 0 ≡ get_or old i 0
get_or-Torn_below place count old new torn i below =
    sym (get_or-take place new i 0 below) ∙ ap (λ (l : List ℕ). get_or l i 0) torn.before ∙ get_or-take place old i 0 below

pub get_or-Torn_above : (place count : ℕ) (old new : List ℕ) → Torn place count old new → (i : ℕ) → place + count ≤ i → get_or new i 0 ≡ get_or old i 0
get_or-Torn_above place count old new torn i above =
    let there : place + count + (i - (place + count)) ≡ i = omega arith in
    ap (λ k. get_or new k 0) (sym there) ∙ sym (get_or-drop (place + count) new (i - (place + count)) 0) ∙ ap (λ (l : List ℕ). get_or l (i - (place + count)) 0) torn.after
    ∙ get_or-drop (place + count) old (i - (place + count)) 0 ∙ ap (λ k. get_or old k 0) there

-- What a write wrote over, put back, and the length cut to what it was.
pub overlaid_back : (content : List ℕ) (place : ℕ) (bytes : List ℕ) → place ≤ length content
    → take (length content) (overlaid (overlaid content place bytes) place (take (length bytes) (drop place content))) ≡ content
overlaid_back content place bytes within =
    let after = overlaid content place bytes in
    let was = take (length bytes) (drop place content) in
    let size : length was ≡ min (length bytes) (length content - place) = omega (arith, length-take (length bytes) (drop place content), length-drop place content) in
    let grown = length-overlaid content place bytes within in
    let within_after : place ≤ length after = omega (arith, grown) in
    let back = length-overlaid after place was within_after in
    ext_get_or 0 (take (length content) (overlaid after place was)) content (omega (arith, length-take (length content) (overlaid after place was), back, grown, size))
    (λ i low.
    let here : i < length content = omega (arith, low, length-take (length content) (overlaid after place was)) in
    get_or-take (length content) (overlaid after place was) i 0 here ∙ elim (cases_lt i place) [
      | inl below ↦ get_or-overlaid_below after place was within_after i below ∙ get_or-overlaid_below content place bytes within i below
      | inr from ↦ elim (cases_lt i (place + length was)) [
        | inl inside ↦
            let there : place + (i - place) ≡ i = omega arith in
            get_or-overlaid_in after place was within_after i from inside ∙ get_or-take (length bytes) (drop place content) (i - place) 0 (omega (arith, size))
            ∙ get_or-drop place content (i - place) 0 ∙ ap (λ k. get_or content k 0) there
        | inr past ↦
            get_or-overlaid_above after place was within_after i past ∙ get_or-overlaid_above content place bytes within i (omega (arith, size))
      ]
    ])

pub Torn-trans : (place count : ℕ) (old mid new : List ℕ) → Torn place count old mid → Torn place count mid new → Torn place count old new
Torn-trans place count old mid new first second = record {
  before = second.before ∙ first.before;
  after = second.after ∙ first.after;
  no_shorter = omega (arith, first.no_shorter, second.no_shorter);
  no_longer = omega (arith, first.no_longer, second.no_longer);
}

-- The same bytes put over a range within both contents of a torn write leave it torn.
pub Torn-overlaid_both : (place count at : ℕ) (bytes old new : List ℕ) → Torn place count old new → at + length bytes ≤ length old
    → Torn place count (overlaid old at bytes) (overlaid new at bytes)
Torn-overlaid_both place count at bytes old new torn inside =
    let low_old : at ≤ length old = omega arith in
    let low_new : at ≤ length new = omega (arith, torn.no_shorter) in
    let size_old = length-overlaid old at bytes low_old in
    let size_new = length-overlaid new at bytes low_new in
    let fronts : min place (length new) ≡ min place (length old) =
    sym (length-take place new) ∙ ap length torn.before ∙ length-take place old in
    let at_each : (i : ℕ) → get_or new i 0 ≡ get_or old i 0 → get_or (overlaid new at bytes) i 0 ≡ get_or (overlaid old at bytes) i 0 =
    λ i same. elim (cases_lt i at) [
      | inl below ↦ get_or-overlaid_below new at bytes low_new i below ∙ same ∙ sym (get_or-overlaid_below old at bytes low_old i below)
      | inr from ↦ elim (cases_lt i (at + length bytes)) [
        | inl to ↦ get_or-overlaid_in new at bytes low_new i from to ∙ sym (get_or-overlaid_in old at bytes low_old i from to)
        | inr above ↦ get_or-overlaid_above new at bytes low_new i above ∙ same ∙ sym (get_or-overlaid_above old at bytes low_old i above)
      ]
    ] in
    Torn-places place count (overlaid old at bytes) (overlaid new at bytes) (omega (arith, torn.no_shorter)) (omega (arith, torn.no_longer)) (omega (arith, fronts))
    (λ i low below. at_each i (get_or-Torn_below place count old new torn i below)) (λ i low above. at_each i (get_or-Torn_above place count old new torn i above))
