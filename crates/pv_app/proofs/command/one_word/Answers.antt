-- The table has each command of one word, and no other.
use Rattle.std.proofs.Common.{◌≡◌, ℕ, Bool, false, true, Option, None, Some, IfNone, IfSome, List, [], ◌∷◌, refl, sym, ap, ◌∙◌, subst}
use Rattle.std.specs.List.{list_any}
use Rattle.std.specs.Str.{bytes_eq}
use Rattle.std.proofs.lemmas.Bool.{false≢true}
use Rattle.pv_app.specs.Commands.{IsCommand, word_of}
use Rattle.pv_app.specs.declared.command.Command.{Command}
use Rattle.pv_app.specs.declared.command.Command.TheVariants.{Run, Make, Big, Live, Over, Audit, Outbox, Quorum}
use Rattle.pv_app.specs.declared.command.TheConstants.{ONE_WORD}
use Rattle.pv_app.specs.declared.tour.Tour.TheVariants.{Show, Upgrade}
use Rattle.pv_run.specs.declared.form.Form.TheVariants.{Text, Json, Trace}
use Rattle.pv_app.proofs.CommandLemmas.{alone-is, found-alone, spelled_or}
use Rattle.pv_app.proofs.command.one_word.Goals as goal

abbrev is_listed : List ℕ → Bool
is_listed word = list_any (λ entry. bytes_eq word entry.0.now) ONE_WORD

listed : (word : List ℕ) (command : Command) → IsCommand (word ∷ []) command → is_listed word ≡ true
unfolding word_of
listed word (Run Text) is = ap is_listed (alone-is word (Run Text) is)
listed word (Run Json) is = ap is_listed (alone-is word (Run Json) is)
listed word (Run Trace) is = ap is_listed (alone-is word (Run Trace) is)
listed word (Over Show) is = ap is_listed (alone-is word (Over Show) is)
listed word (Over Upgrade) is = ap is_listed (alone-is word (Over Upgrade) is)
listed word Audit is = ap is_listed (alone-is word Audit is)
listed word Outbox is = ap is_listed (alone-is word Outbox is)
listed word Quorum is = ap is_listed (alone-is word Quorum is)
listed word (Make n) is = let one = is.0 in let wrong : ⊥ = cc in absurd wrong
listed word (Big n) is = let one = is.0 in let wrong : ⊥ = cc in absurd wrong
listed word (Live n) is = let one = is.0 in let wrong : ⊥ = cc in absurd wrong

unlisted : (word : List ℕ) (found : Option Command) (command : Command) → IfNone found (is_listed word ≡ false) → found ≡ None → IsCommand (word ∷ []) command → ⊥
unlisted word None command none is so = false≢true (sym none ∙ listed word command so)
unlisted word (Some other) command none is so = let wrong : ⊥ = cc in wrong

pub returns-clause-some : goal.returns-clause-some
unfolding word_of
returns-clause-some c =
    let spelled : (other : List ℕ) → IfSome c.look_up.result (λ command. c.as_bytes.result.now ≡ spelled_or other command) → IfSome c.look_up.result (λ command. c.args.word.now ≡ spelled_or other command) =
    λ other. subst (λ (word : List ℕ). IfSome c.look_up.result (λ command. word ≡ spelled_or other command)) c.as_bytes.ensures.value in
    found-alone c.args.word.now c.look_up.result (spelled [] (c.look_up.ensures.spelled (spelled_or []) refl)) (spelled (0 ∷ []) (c.look_up.ensures.spelled (spelled_or (0 ∷ [])) refl))

pub returns-clause-none : goal.returns-clause-none
returns-clause-none c = λ none command is. unlisted c.args.word.now c.look_up.result command (subst (λ (word : List ℕ). IfNone c.look_up.result (is_listed word ≡ false)) c.as_bytes.ensures.value c.look_up.ensures.unlisted) none is
