-- The first word of a line, and what it begins.
use Rattle.std.proofs.Common.{◌≡◌, ◌≢◌, ℕ, ◌<◌, ◌≤◌, Bool, true, false, Option, Some, None, List, [], ◌∷◌, length, drop, take, get_or, Bor, Result, Ok, Err, IfErr, IfOk, ◌-◌, not, refl, sym, ap, ◌∙◌, subst, arith}
use Rattle.std.specs.Prelude.{codes}
use Rattle.std.specs.Option.{is_some}
use Rattle.std.specs.Str.{bytes_eq}
use Rattle.std.proofs.lemmas.Bool.{both_ways}
use Rattle.std.proofs.lemmas.List.{take_all}
use Rattle.std.proofs.lemmas.Slice.Eq.{bytes_eq-Decides}
use Rattle.pv_base.specs.declared.limits.TheConstants.{MAX_SITES}
use Rattle.pv_model.specs.Schedule.{IsIn}
use Rattle.pv_model.specs.LineCauses.{Before, at_first}
use Rattle.pv_model.specs.LineForms.{Script, scheduled, live, most_bytes, number, line_forms, forms_of, leading_word}
use Rattle.pv_model.specs.Text.{TextLine, IsText, words}
use Rattle.pv_script.specs.LineFaults.{texts, IsFieldFault, IsLineFault}
use Rattle.pv_script.specs.declared.fault.Fault.TheVariants.{At}
use Rattle.pv_script.specs.declared.schedule.LineCause.{LineCause}
use Rattle.pv_script.specs.declared.schedule.LineCause.TheVariants.{SitesExpected, UnknownWord}
use Rattle.pv_script.specs.Said.{IsHead}
use Rattle.pv_script.proofs.CauseLemmas.{IsLineFault-unknown}
use Rattle.pv_script.proofs.HeadLemmas.{IsLineFault-no_sites, IsLineFault-sites}

pub unknown-nil : (script : Script) (args : List (Bor (List ℕ))) → length args < 1 → forms_of script (leading_word (texts args)) ≡ []
unfolding line_forms
unknown-nil scheduled [] few = refl
unknown-nil live [] few = refl
unknown-nil script (a ∷ args) few = absurd (omega arith)

pub first-nil : (args : List (Bor (List ℕ))) → length args < 1 → leading_word (texts args) ≡ codes "sites" → ⊥
first-nil [] few is = cc
first-nil (a ∷ args) few is = absurd (omega arith)

pub texts-some : (args : List (Bor (List ℕ))) (d : Bor (List ℕ)) → 1 ≤ length args → texts args ≡ (get_or args 0 d).now ∷ texts (drop 1 args)
texts-some [] d some = absurd (omega arith)
texts-some (a ∷ args) d some = refl

-- the words behind the first, as they are split off
pub texts-split : (args : List (Bor (List ℕ))) (d : Bor (List ℕ)) → 1 ≤ length args → texts args ≡ (get_or args 0 d).now ∷ texts (take (length args - 1) (drop 1 args))
texts-split [] d some = absurd (omega arith)
texts-split (a ∷ args) d some = ap (λ (more : List (Bor (List ℕ))). a.now ∷ texts more) (sym (take_all (length (a ∷ args) - 1) args (omega arith)))

pub first-differs : (args : List (Bor (List ℕ))) (d : Bor (List ℕ)) (other : List ℕ) (r : Bool) → 1 ≤ length args
    → r ≡ not (bytes_eq (get_or args 0 d).now other) → other ≡ codes "sites" → r ≡ true → leading_word (texts args) ≡ codes "sites" → ⊥
first-differs args d other r some is same differs first =
    let word : (get_or args 0 d).now ≡ other = sym (ap leading_word (texts-some args d some)) ∙ first ∙ sym same in
    both_ways r (is ∙ ap not ((bytes_eq-Decides (get_or args 0 d).now other).1 word)) differs

not_false : (b : Bool) → not b ≡ false → b ≡ true
not_false true is = refl
not_false false is = sym is

pub first-same : (args : List (Bor (List ℕ))) (d : Bor (List ℕ)) (other : List ℕ) (r : Bool) → 1 ≤ length args
    → r ≡ not (bytes_eq (get_or args 0 d).now other) → other ≡ codes "sites" → r ≡ false
    → texts args ≡ codes "sites" ∷ texts (take (length args - 1) (drop 1 args))
first-same args d other r some is same equal =
    let word = (bytes_eq-Decides (get_or args 0 d).now other).0 (not_false (bytes_eq (get_or args 0 d).now other) (sym is ∙ equal)) in
    texts-split args d some ∙ ap (λ (w : List ℕ). w ∷ texts (take (length args - 1) (drop 1 args))) (word ∙ same)

pub sites-count : (spelled args : List (List ℕ)) (result : Result ℕ LineCause) → spelled ≡ codes "sites" ∷ args
    → IfOk result (λ n. (word : List ℕ) × (args ≡ word ∷ []) × IsIn 1 MAX_SITES word n) → IfOk result (λ n. (word : List ℕ) × (spelled ≡ codes "sites" ∷ word ∷ []) × IsIn 1 MAX_SITES word n)
sites-count spelled args (Ok n) are is = (is.0, are ∙ ap (λ (ws : List (List ℕ)). codes "sites" ∷ ws) is.1, is.2)
sites-count spelled args (Err cause) are is = tt

pub some-said : (said : Option ℕ) (r : Bool) → r ≡ is_some said → r ≡ true → said ≢ None
some-said None r is there none = both_ways r is there
some-said (Some n) r is there none = cc

pub none-said : (said : Option ℕ) (r : Bool) → r ≡ is_some said → r ≡ false → said ≡ None
none-said None r is refuted = refl
none-said (Some n) r is refuted = absurd (both_ways r refuted is)

pub sites-expected : (kind : Script) (line : TextLine) (spelled : List (List ℕ)) → IsText (most_bytes kind) line → spelled ≡ words line → (leading_word spelled ≡ codes "sites" → ⊥) → IsLineFault (at_first kind) line (At SitesExpected)
sites-expected kind line spelled is same refuted = IsLineFault-no_sites kind line is (λ first. refuted (ap leading_word same ∙ first))

pub sites-fault : (kind : Script) (line : TextLine) (spelled args : List (List ℕ)) (result : Result ℕ LineCause) → IsText (most_bytes kind) line → spelled ≡ words line → spelled ≡ codes "sites" ∷ args
    → IfErr result (IsFieldFault 0 ((number 1 MAX_SITES ∷ []) ∷ []) args) → IfErr result (λ cause. IsLineFault (at_first kind) line (At cause))
sites-fault kind line spelled args (Ok n) is same are fault = tt
sites-fault kind line spelled args (Err cause) is same are fault = IsLineFault-sites kind line args cause is (sym same ∙ are) fault

pub head-of : (before : Before) (line : TextLine) (items words_now : List (Bor (List ℕ))) (word : List ℕ) (args : List (List ℕ)) (sites : ℕ) → IsText (most_bytes before.script) line
    → texts items ≡ words line → words_now ≡ items → texts words_now ≡ word ∷ args → before.sites ≡ Some sites → IsHead before line word args
head-of before line items words_now word args sites is same deref are said =
    record { text = is; sites = sites; said = said; words = sym same ∙ ap texts (sym deref) ∙ are }

pub unknown-fault : (before : Before) (line : TextLine) (items words_now : List (Bor (List ℕ))) (sites : ℕ) (cause : LineCause) → IsText (most_bytes before.script) line
    → texts items ≡ words line → words_now ≡ items → before.sites ≡ Some sites → (cause ≡ UnknownWord) × (forms_of before.script (leading_word (texts words_now)) ≡ [])
    → IsLineFault before line (At cause)
unknown-fault before line items words_now sites cause is same deref said unknown =
    subst (λ (reported : LineCause). IsLineFault before line (At reported)) (sym unknown.0)
    (IsLineFault-unknown before line sites is said (ap (λ (ws : List (List ℕ)). forms_of before.script (leading_word ws)) (sym same ∙ ap texts (sym deref)) ∙ unknown.1))
