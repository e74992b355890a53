-- A script has three to five deciders.
use Rattle.std.proofs.Common.{◌≡◌, ℕ, ◌≤◌, Bool, true, false, Option, Some, None, List, [], ◌∷◌, ◌++◌, Result, Ok, Err, refl, sym, ap, subst, leb-true}
use Rattle.std.specs.Prelude.{◌+◌, ◌&&◌, nat_le, length, codes, if◌then◌else◌}
use Rattle.std.specs.Str.{bytes_eq}
use Rattle.pv_law_quorum.specs.World.{IsFit}
use Rattle.pv_lines.specs.Spelled.{number_said}
use Rattle.pv_lines.specs.Words.{words_said}
use Rattle.pv_lines.specs.declared.cause.Cause.{Cause}
use Rattle.pv_lines.specs.declared.cause.Cause.TheVariants.{DecidersExpected}
use Rattle.pv_model.specs.LineForms.{are_digits}
use Rattle.pv_model.specs.Text.{TextLine, lines, number_of_digits, numbered}
use Rattle.pv_quorum_run.specs.Ends.{setup_by}
use Rattle.pv_quorum_script.specs.Script.{Refused, Script, by_words, deciders_said, event_said, going_on, script_from, script_of, script_said}
use Rattle.pv_quorum_script.specs.Words.{count_said, counts_by, given}
use Rattle.pv_quorum_script.specs.declared.event.QuorumEvent.{QuorumEvent}

went-on : {X Y : Type 0} (number : ℕ) (said : Result X Cause) (go : X → Result Y Refused) (y : Y) → going_on number said go ≡ Ok y → (x : X) × (said ≡ Ok x) × (go x ≡ Ok y)
went-on number (Ok x) go y is = (x, refl, is)
went-on {X} {Y} number (Err cause) go y is =
    absurd (let never : ⊥ = cc in never)

script-deciders : (deciders : ℕ) (events : List QuorumEvent) (rest : List (ℕ × TextLine)) (script : Script) → script_from deciders events rest ≡ Ok script → script.deciders ≡ deciders
script-deciders deciders events [] script is =
    let same : script ≡ record { deciders = deciders; events = events } = cc in
    ap (λ (s : Script). s.deciders) same
script-deciders deciders events (line ∷ rest) script is =
    let on = went-on line.0 (event_said deciders line.1) (λ event. script_from deciders (events ++ event ∷ []) rest) script is in
    script-deciders deciders (events ++ on.0 ∷ []) rest script on.2

abbrev Within : ℕ → Type 0
Within d = (3 ≤ d) × (d ≤ 5)

both-true : (a b : Bool) → (a && b) ≡ true → (a ≡ true) × (b ≡ true)
both-true true true is = (refl, refl)
both-true true false is = absurd (let never : ⊥ = cc in never)
both-true false b is = absurd (let never : ⊥ = cc in never)

number-if : (fits : Bool) (n d : ℕ) → (if fits then Some n else None) ≡ Some d → (fits ≡ true) × (n ≡ d)
number-if true n d is = let told : Some n ≡ Some d = is in (refl, let same : n ≡ d = cc in same)
number-if false n d is = absurd (let never : ⊥ = cc in never)

number-within : (word : List ℕ) (d : ℕ) → number_said 3 5 word ≡ Some d → Within d
number-within word d is =
    let n : ℕ = number_of_digits word in
    let range : Bool = nat_le 3 n && nat_le n 5 in
    let fit = number-if (are_digits word && range) n d is in
    let both = both-true (nat_le 3 n) (nat_le n 5) (both-true (are_digits word) range fit.0).1 in
    subst Within fit.1 (leb-true 3 n both.0, leb-true n 5 both.1)

given-some : (found : Option ℕ) (d : ℕ) → given found ≡ Ok d → found ≡ Some d
given-some None d is = absurd (let never : ⊥ = cc in never)
given-some (Some n) d is = let same : n ≡ d = cc in ap Some same

count-within : (args : List (List ℕ)) (d : ℕ) → count_said args ≡ Ok d → Within d
count-within [] d is = absurd (let never : ⊥ = cc in never)
count-within (word ∷ []) d is = number-within word d (given-some (number_said 3 5 word) d is)
count-within (word ∷ (more ∷ rest)) d is = absurd (let never : ⊥ = cc in never)

count-if : (known : Bool) (said : Result ℕ Cause) (d : ℕ) → (if known then said else Err DecidersExpected) ≡ Ok d → said ≡ Ok d
count-if true said d is = is
count-if false said d is = absurd (let never : ⊥ = cc in never)

counts-within : (words : List (List ℕ)) (d : ℕ) → counts_by words ≡ Ok d → Within d
counts-within [] d is = absurd (let never : ⊥ = cc in never)
counts-within (word ∷ args) d is = count-within args d (count-if (bytes_eq word (codes "deciders")) (count_said args) d is)

said-within : (words : Result (List (List ℕ)) Cause) (d : ℕ) → by_words counts_by words ≡ Ok d → Within d
said-within (Ok words) d is = counts-within words d is
said-within (Err cause) d is = absurd (let never : ⊥ = cc in never)

of-lines : (after_last : ℕ) (all : List (ℕ × TextLine)) (script : Script) → script_of after_last all ≡ Ok script → Within script.deciders
of-lines after_last [] script is =
    absurd (let never : ⊥ = cc in never)
of-lines after_last (line ∷ rest) script is =
    let on = went-on line.0 (deciders_said line.1) (λ deciders. script_from deciders [] rest) script is in
    subst Within (sym (script-deciders on.0 [] rest script on.2)) (said-within (words_said line.1) on.0 on.1)

pub script-fit : (input : List ℕ) (script : Script) → script_said input ≡ Ok script → IsFit (setup_by script)
script-fit input script is =
    let within = of-lines (length (lines input) + 1) (numbered input) script is in
    record { least = within.0; most = within.1 }
