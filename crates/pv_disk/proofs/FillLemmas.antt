-- What tearing leaves is one of the contents that a crash may leave.
use Rattle.std.proofs.Common.{◌≡◌, ℕ, ◌+◌, ◌≤◌, List, [], ◌∷◌, ◌++◌, length, replicate, arith, refl, sym, ◌∙◌, ap, subst}
use Rattle.std.proofs.lemmas.List.{length-replicate}
use Rattle.pv_disk_model.specs.Disk.{overlaid, Torn}
use Rattle.pv_disk.specs.MemImage.{Range, Reaches, filled, AllInside, AreMade}
use Rattle.pv_disk_model.proofs.OverlayLemmas.{Torn-overlaid, Torn-refl, Torn-trans, Torn-overlaid_both, length-overlaid}

fill : Range → List ℕ
fill range = replicate range.count 165

pub filled-push : (ranges : List Range) (range : Range) (content : List ℕ)
    → filled (ranges ++ range ∷ []) content ≡ filled ranges (overlaid content range.place (replicate range.count 165))
filled-push [] range content = refl
filled-push (first ∷ later) range content = ap (λ (l : List ℕ). overlaid l first.place (replicate first.count 165)) (filled-push later range content)

pub length-fill : (range : Range) (content : List ℕ) → range.place + range.count ≤ length content → length (overlaid content range.place (replicate range.count 165)) ≡ length content
length-fill range content inside =
    omega (arith, length-overlaid content range.place (replicate range.count 165) (omega arith), length-replicate {A = ℕ} range.count 165)

pub length-filled : (ranges : List Range) (content : List ℕ) → AllInside ranges (length content) → length (filled ranges content) ≡ length content
length-filled [] content inside = refl
length-filled (range ∷ later) content inside =
    let before = length-filled later content inside.1 in
    length-fill range (filled later content) (omega (arith, before, inside.0)) ∙ before

AllInside-more : (ranges : List Range) (a b : ℕ) → a ≤ b → AllInside ranges a → AllInside ranges b
AllInside-more [] a b le inside = tt
AllInside-more (range ∷ later) a b le inside = (omega (arith, inside.0), AllInside-more later a b le inside.1)

pub AllInside-split : (ranges : List Range) (range : Range) (size : ℕ) → AllInside (ranges ++ range ∷ []) size
    → AllInside ranges size × (range.place + range.count ≤ size)
AllInside-split [] range size inside = (tt, inside.0)
AllInside-split (first ∷ later) range size inside =
    let rest = AllInside-split later range size inside.1 in ((inside.0, rest.0), rest.1)

fill_both : (place count : ℕ) (range : Range) (old new : List ℕ) → Torn place count old new → range.place + range.count ≤ length old
    → Torn place count (overlaid old range.place (replicate range.count 165)) (overlaid new range.place (replicate range.count 165))
fill_both place count range old new torn inside =
    Torn-overlaid_both place count range.place (replicate range.count 165) old new torn (omega (arith, length-replicate {A = ℕ} range.count 165))

fill_torn : (range : Range) (content : List ℕ) → range.place ≤ length content → Torn range.place range.count content (overlaid content range.place (replicate range.count 165))
fill_torn range content within =
    subst (λ n. Torn range.place n content (overlaid content range.place (replicate range.count 165))) (length-replicate {A = ℕ} range.count 165)
    (Torn-overlaid content range.place (replicate range.count 165) within)

-- A range filled at both ends of a chain of torn writes.
Reaches-fill : (range : Range) (ranges : List Range) (from to : List ℕ) → range.place + range.count ≤ length from → Reaches from ranges to
    → Reaches (overlaid from range.place (replicate range.count 165)) ranges (overlaid to range.place (replicate range.count 165))
Reaches-fill range [] from to inside reaches = ap (λ (l : List ℕ). overlaid l range.place (replicate range.count 165)) reaches
Reaches-fill range (next ∷ later) from to inside reaches =
    let torn = reaches.1 in (
      overlaid reaches.0 range.place (replicate range.count 165),
      fill_both next.place next.count range from reaches.0 torn inside,
      Reaches-fill range later reaches.0 to (omega (arith, torn.no_shorter)) reaches.2,
    )

pub AreMade-Reaches : (ranges : List Range) (from to : List ℕ) → AreMade from ranges to → Reaches from ranges to
AreMade-Reaches [] from to made = made
AreMade-Reaches (range ∷ later) from to made = (made.0, made.1, AreMade-Reaches later made.0 to made.3)

AreMade-longer : (ranges : List Range) (from to : List ℕ) → AreMade from ranges to → length from ≤ length to
AreMade-longer [] from to made = omega (arith, ap length made)
AreMade-longer (range ∷ later) from to made = let torn = made.1 in omega (arith, torn.no_shorter, AreMade-longer later made.0 to made.3)

pub AreMade-inside : (ranges : List Range) (from to : List ℕ) → AreMade from ranges to → AllInside ranges (length to)
AreMade-inside [] from to made = tt
AreMade-inside (range ∷ later) from to made =
    (omega (arith, made.2, AreMade-longer later made.0 to made.3), AreMade-inside later made.0 to made.3)

pub Reaches-filled : (ranges : List Range) (from to : List ℕ) → AreMade from ranges to → Reaches from ranges (filled ranges to)
Reaches-filled [] from to made = made
Reaches-filled (range ∷ later) from to made =
    let mid = made.0 in
    let torn = made.1 in
    let inside = made.2 in (
      overlaid mid range.place (replicate range.count 165),
      Torn-trans range.place range.count from mid _ torn (fill_torn range mid (omega arith)),
      Reaches-fill range later mid (filled later to) inside (Reaches-filled later mid to made.3),
    )

-- After a write, all that was filled is torn in the range of the write.
pub Torn-filled : (ranges : List Range) (range : Range) (old new : List ℕ) → AllInside ranges (length old) → Torn range.place range.count old new → range.place ≤ length new
    → Torn range.place range.count (filled ranges old) (filled (ranges ++ range ∷ []) new)
Torn-filled [] range old new inside torn within = Torn-trans range.place range.count old new _ torn (fill_torn range new within)
Torn-filled (first ∷ later) range old new inside torn within =
    fill_both range.place range.count first (filled later old) (filled (later ++ range ∷ []) new) (Torn-filled later range old new inside.1 torn within)
    (omega (arith, length-filled later old inside.1, inside.0))

-- A crash may leave what was synced.
pub Reaches-synced : (ranges : List Range) (synced : List ℕ) → Reaches synced ranges synced
Reaches-synced [] synced = refl
Reaches-synced (range ∷ later) synced = (synced, Torn-refl range.place range.count synced, Reaches-synced later synced)

-- One more torn write.
pub Reaches-push : (ranges : List Range) (range : Range) (from to : List ℕ) → Reaches from (ranges ++ range ∷ []) to
    → (mid : List ℕ) × Reaches from ranges mid × Torn range.place range.count mid to
Reaches-push [] range from to reaches = (from, refl, subst (λ (l : List ℕ). Torn range.place range.count from l) (sym reaches.2) reaches.1)
Reaches-push (first ∷ later) range from to reaches =
    let rest = Reaches-push later range reaches.0 to reaches.2 in
    (rest.0, (reaches.0, reaches.1, rest.1), rest.2)
