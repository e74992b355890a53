-- Lines that are added one after another.
use Rattle.std.proofs.Common.{◌≡◌, List, [], ◌∷◌, ◌++◌, map, append_assoc, sym, ap, ◌∙◌}
use Rattle.std.proofs.lemmas.List.{map-append}
use Rattle.pv_protocol.specs.Lines.{Line}

-- One more line.
pub one-more : {L : Type 0} (view : L → Line) (lines after : List L) (line : L) → after ≡ lines ++ line ∷ [] → map view after ≡ map view lines ++ view line ∷ []
one-more view lines after line is = ap (map view) is ∙ map-append view lines (line ∷ [])

-- The lines so far and those left are all, also after one more.
pub line-next : {L : Type 0} (view : L → Line) (lines after : List L) (line : L) (said : Line) (all left rest : List Line)
    → after ≡ lines ++ line ∷ [] → view line ≡ said → all ≡ map view lines ++ left → left ≡ said ∷ rest → all ≡ map view after ++ rest
line-next view lines after line said all left rest more is before next =
    before ∙ ap (λ behind. map view lines ++ behind) next
    ∙ ap (λ first. map view lines ++ first ∷ rest) (sym is)
    ∙ sym (append_assoc (map view lines) (view line ∷ []) rest)
    ∙ ap (λ front. front ++ rest) (sym (one-more view lines after line more))

-- A report's lines.
pub report-lines : {L : Type 0} (view : L → Line) (before first second third fourth fifth : List L) (order committed open_ones end : L) (items : List Line)
    → first ≡ before ++ order ∷ [] → second ≡ first ++ committed ∷ [] → third ≡ second ++ open_ones ∷ [] → map view fourth ≡ map view third ++ items → fifth ≡ fourth ++ end ∷ []
    → map view fifth ≡ map view before ++ (view order ∷ (view committed ∷ (view open_ones ∷ (items ++ view end ∷ []))))
report-lines view before first second third fourth fifth order committed open_ones end items one two three four five =
    one-more view fourth fifth end five
    ∙ ap (λ front. front ++ view end ∷ []) four
    ∙ append_assoc (map view third) items (view end ∷ [])
    ∙ ap (λ front. front ++ (items ++ view end ∷ [])) (one-more view second third open_ones three)
    ∙ append_assoc (map view second) (view open_ones ∷ []) (items ++ view end ∷ [])
    ∙ ap (λ front. front ++ (view open_ones ∷ (items ++ view end ∷ []))) (one-more view first second committed two)
    ∙ append_assoc (map view first) (view committed ∷ []) (view open_ones ∷ (items ++ view end ∷ []))
    ∙ ap (λ front. front ++ (view committed ∷ (view open_ones ∷ (items ++ view end ∷ [])))) (one-more view before first order one)
    ∙ append_assoc (map view before) (view order ∷ []) (view committed ∷ (view open_ones ∷ (items ++ view end ∷ [])))
