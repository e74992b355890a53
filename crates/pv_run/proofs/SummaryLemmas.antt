-- What lines say together, line after line.
use Rattle.std.proofs.Common.{◌≡◌, ℕ, suc, ◌+◌, All, IfSome, ◌<◌, Bool, true, false, cond, List, [], ◌∷◌, ◌++◌, map, length, take, get_or, Option, Some, None, refl, sym, ap, ◌∙◌, arith}
use Rattle.std.specs.Option.{unwrap_or}
use Rattle.std.proofs.lemmas.List.{get_or-map, length-map}
use Rattle.std.proofs.lemmas.List.{take_more}
use Rattle.std.proofs.lemmas.List.Filters.{length-filter_more}
use Rattle.pv_protocol.specs.Lines as model
use Rattle.pv_script.specs.LineView.{line_of}
use Rattle.pv_script.specs.declared.line.Line.{Line}
use Rattle.pv_run.specs.Summary.{count, is_total, latest, later, or_zero, total_in}

-- the lines, as the definitions see them
abbrev pub seen : List Line → List model.Line
seen lines = map line_of lines

-- the next of them
next-seen : (lines : List Line) (i : ℕ) (line : Line) → i < length lines → line ≡ get_or lines i line → get_or (seen lines) i (line_of line) ≡ line_of line
next-seen lines i line below is = get_or-map line_of lines i line (line_of line) below ∙ ap line_of (sym is)

-- One more line counts where it is so.
pub count-next : (is : model.Line → Bool) (lines : List Line) (i : ℕ) (line : Line) → i < length lines → line ≡ get_or lines i line
    → count is (take (i + 1) (seen lines)) ≡ count is (take i (seen lines)) + cond (is (line_of line)) 1 0
count-next is lines i line below at =
    length-filter_more is (seen lines) i (line_of line) (omega (arith, below, length-map lines line_of))
    ∙ ap (λ (l : model.Line). count is (take i (seen lines)) + cond (is l) 1 0) (next-seen lines i line below at)

latest-append : {A : Type 0} (says : model.Line → Option A) (found : Option A) (lines : List model.Line) (line : model.Line)
    → latest says found (lines ++ line ∷ []) ≡ later (latest says found lines) (says line)
latest-append says found [] line = refl
latest-append says found (l ∷ lines) line = latest-append says (later found (says l)) lines line

-- What one more line says comes last.
pub latest-next : {A : Type 0} (says : model.Line → Option A) (found : Option A) (lines : List Line) (i : ℕ) (line : Line)
    → i < length lines → line ≡ get_or lines i line
    → latest says found (take (i + 1) (seen lines)) ≡ later (latest says found (take i (seen lines))) (says (line_of line))
latest-next says found lines i line below at =
    ap (latest says found) (take_more (seen lines) i (line_of line) (omega (arith, below, length-map lines line_of)))
    ∙ latest-append says found (take i (seen lines)) (get_or (seen lines) i (line_of line))
    ∙ ap (λ (l : model.Line). later (latest says found (take i (seen lines))) (says l)) (next-seen lines i line below at)

-- A count goes on.
pub count-step : (is : model.Line → Bool) (lines : List Line) (i : ℕ) (line : Line) (so : Bool) (before after : ℕ)
    → i < length lines → line ≡ get_or lines i line → so ≡ is (line_of line) → before ≡ count is (take i (seen lines)) → after ≡ before + cond so 1 0
    → after ≡ count is (take (i + 1) (seen lines))
count-step is lines i line so before after below at said so_far counted =
    counted ∙ ap (λ (n : ℕ). n + cond so 1 0) so_far ∙ ap (λ (b : Bool). count is (take i (seen lines)) + cond b 1 0) said
    ∙ sym (count-next is lines i line below at)

number-later : (found said : Option ℕ) → or_zero (later found said) ≡ unwrap_or said (or_zero found)
number-later found None = refl
number-later found (Some n) = refl

-- The latest number goes on.
pub number-step : (says : model.Line → Option ℕ) (lines : List Line) (i : ℕ) (line : Line) (said : Option ℕ) (before after : ℕ)
    → i < length lines → line ≡ get_or lines i line → said ≡ says (line_of line) → before ≡ or_zero (latest says None (take i (seen lines)))
    → after ≡ unwrap_or said before → after ≡ or_zero (latest says None (take (i + 1) (seen lines)))
number-step says lines i line said before after below at is so_far found =
    found ∙ ap (unwrap_or said) so_far ∙ ap (λ (s : Option ℕ). unwrap_or s (or_zero (latest says None (take i (seen lines))))) is
    ∙ sym (number-later (latest says None (take i (seen lines))) (says (line_of line)))
    ∙ ap or_zero (sym (latest-next says None lines i line below at))

later-tested : (found : Option model.Line) (line : model.Line) (so : Bool) → cond so (Some line) found ≡ later found (cond so (Some line) None)
later-tested found line true = refl
later-tested found line false = refl

-- The latest total goes on.
pub total-step : (lines : List Line) (i : ℕ) (line : Line) (so : Bool) (before after : Option model.Line)
    → i < length lines → line ≡ get_or lines i line → so ≡ is_total (line_of line)
    → before ≡ latest total_in None (take i (seen lines)) → after ≡ cond so (Some (line_of line)) before → after ≡ latest total_in None (take (i + 1) (seen lines))
total-step lines i line so before after below at is so_far found =
    found ∙ later-tested before (line_of line) so
    ∙ ap (λ (b : Option model.Line). later b (cond so (Some (line_of line)) None)) so_far
    ∙ ap (λ (b : Bool). later (latest total_in None (take i (seen lines))) (cond b (Some (line_of line)) None)) is
    ∙ sym (latest-next total_in None lines i line below at)

total-or-found : (P : model.Line → Type 0) (found : Option model.Line) (line : model.Line) (so : Bool) → IfSome found P → P line → IfSome (later found (cond so (Some line) None)) P
total-or-found P found line true before now = now
total-or-found P found line false before now = before

-- What holds of all lines holds of the latest total.
pub All-latest : (P : model.Line → Type 0) (found : Option model.Line) (lines : List model.Line) → IfSome found P → All P lines → IfSome (latest total_in found lines) P
All-latest P found [] before all = before
All-latest P found (line ∷ lines) before all =
    All-latest P (later found (total_in line)) lines (total-or-found P found line (is_total line) before (all 0 line (omega arith)))
    (λ k d below. all (suc k) d (omega (arith, below)))
