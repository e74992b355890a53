-- There are no more events than bytes.
use Rattle.std.proofs.Common.{ℕ, suc, ◌+◌, ◌≤◌, Bool, true, false, cond, eqb, List, [], ◌∷◌, length, filter, not, refl, arith}
use Rattle.std.specs.List.{slice_split, onto_first, enumerate_from}
use Rattle.std.specs.Str.Lines.{strip_carriage_return}
use Rattle.std.proofs.lemmas.List.{length-map}
use Rattle.std.proofs.lemmas.List.FromFn.{length-enumerate_from}
use Rattle.std.proofs.lemmas.List.Filters.{length-filter_both}
use Rattle.pv_model.specs.LineCauses.{Before}
use Rattle.pv_model.specs.Events as model
use Rattle.pv_model.specs.Schedule.{AreLines, none, declaration, event, IsSchedule, significant}
use Rattle.pv_model.specs.Text.{TextLine, lines, numbered, is_significant, parts_that_are_lines}
use Rattle.pv_script.proofs.LineLemmas.{Begins, Begins-slice_split, is_feed}

length-last : (empty : Bool) (part : List ℕ) → length (cond {A = List (List ℕ)} empty [] (part ∷ [])) ≤ 1
length-last true part = omega arith
length-last false part = omega arith

-- a byte makes at most one line more
length-parts_more : (b : ℕ) (feed : Bool) (first : List ℕ) (parts : List (List ℕ)) → length (parts_that_are_lines (cond feed ([] ∷ first ∷ parts) (onto_first b (first ∷ parts)))) ≤ length (parts_that_are_lines (first ∷ parts)) + 1
length-parts_more b true first parts = omega arith
length-parts_more b false first [] = let last = length-last (eqb (length (b ∷ first)) 0) (b ∷ first) in omega arith
length-parts_more b false first (next ∷ parts) = omega arith

length-parts_step : (b : ℕ) (feed : Bool) (parts : List (List ℕ)) (n : ℕ) → Begins parts → length (parts_that_are_lines parts) ≤ n → length (parts_that_are_lines (cond feed ([] ∷ parts) (onto_first b parts))) ≤ suc n
length-parts_step b feed [] n begins fewer = absurd (let e = begins.2 in let no : ⊥ = cc in no)
length-parts_step b feed (first ∷ parts) n begins fewer = omega (arith, length-parts_more b feed first parts)

length-parts : (text : List ℕ) → length (parts_that_are_lines (slice_split is_feed text)) ≤ length text
length-parts [] = omega arith
length-parts (b ∷ bs) =
    length-parts_step b (is_feed b) (slice_split is_feed bs) (length bs) (Begins-slice_split bs) (length-parts bs)

length-lines : (text : List ℕ) → length (lines text) ≤ length text
unfolding lines
length-lines text = rw (length-map (parts_that_are_lines (slice_split is_feed text)) strip_carriage_return) (length-parts text)

length-filter_le : {X : Type 0} (p : X → Bool) (xs : List X) → length (filter p xs) ≤ length xs
length-filter_le p xs = omega (arith, length-filter_both p (λ x. not (p x)) (λ _. refl) xs)

-- no more lines count than there are bytes
length-significant : (text : List ℕ) → length (significant text) ≤ length text
unfolding numbered
length-significant text =
    let all = length-lines text in
    let each = length-enumerate_from 1 (lines text) in
    let some = length-filter_le (λ line. is_significant line.1) (enumerate_from 1 (lines text)) in
    rw (length-map (numbered text) (λ line. line.1)) (omega arith)

length-events : {before last : Before} {all : List TextLine} {events : List model.Event} → AreLines before all events last → length events ≤ length all
length-events (none before) = omega arith
length-events (declaration before after last line all events declares are) = let fewer = length-events are in omega arith
length-events (event before last line all e events says are) = let fewer = length-events are in omega arith

pub few-events : (text : List ℕ) (schedule : model.Schedule) → IsSchedule text schedule → length schedule.events ≤ length text
few-events text schedule is = let fewer = length-events is.are in let all = length-significant text in omega arith
