-- Words are one command at most, the one that is found of them.
use Rattle.std.proofs.Common.{◌≡◌, ℕ, ◌≤◌, ◌⊎◌, inl, inr, ⊎_elim, List, [], ◌∷◌, codes, cond, decimal, get_or, Option, None, Some, IfSome, refl, sym, ap, ◌∙◌, subst, arith}
use Rattle.std.specs.Prelude.{◌==◌}
use Rattle.std.proofs.lemmas.Fmt.{decimal_injective}
use Rattle.pv_app.specs.Commands.{AreNumbered, IsCommand, word_of}
use Rattle.pv_app.specs.declared.command.Command.{Command}
use Rattle.pv_app.specs.declared.command.Command.TheVariants.{Run, Make, Big, Live, Over, Audit, Outbox, Quorum}
use Rattle.pv_app.specs.declared.command.TheConstants.{MAX_NUMBER}
use Rattle.pv_app.specs.declared.tour.Tour.TheVariants.{Show, Upgrade}
use Rattle.pv_cluster.specs.declared.running.TheConstants.{MAX_WORKERS}
use Rattle.pv_run.specs.declared.form.Form.TheVariants.{Text, Json, Trace}

two-are-not-one : (words : List (List ℕ)) (word first second : List ℕ) → words ≡ word ∷ [] → words ≡ first ∷ second ∷ [] → ⊥
two-are-not-one words word first second one two = let wrong : ⊥ = cc in wrong

first-is : (words : List (List ℕ)) (first second other more : List ℕ) → words ≡ first ∷ second ∷ [] → words ≡ other ∷ more ∷ [] → first ≡ other
first-is words first second other more one two = cc

second-is : (words : List (List ℕ)) (first second other more : List ℕ) → words ≡ first ∷ second ∷ [] → words ≡ other ∷ more ∷ [] → second ≡ more
second-is words first second other more one two = cc

only-is : (words : List (List ℕ)) (word other : List ℕ) → words ≡ word ∷ [] → words ≡ other ∷ [] → word ≡ other
only-is words word other one two = cc

-- ---- no two words begin with the same byte

abbrev first_byte : List ℕ → ℕ
first_byte word = get_or word 0 0

-- the command of one word whose word begins with this byte
abbrev alone_by : ℕ → Option Command
alone_by b =
    cond (b == 114) (Some (Run Text))
    (cond (b == 106) (Some (Run Json))
    (cond (b == 116) (Some (Run Trace))
    (cond (b == 115) (Some (Over Show))
    (cond (b == 117) (Some (Over Upgrade))
    (cond (b == 97) (Some Audit)
    (cond (b == 111) (Some Outbox)
    (cond (b == 113) (Some Quorum) None)))))))

-- and the one of this number
abbrev numbered_by : ℕ → ℕ → Option Command
numbered_by b n =
    cond (b == 109) (Some (Make n))
    (cond (b == 98) (Some (Big n))
    (cond (b == 108) (Some (Live n)) None))

-- The words are one word, which is known by its first byte.
record IsAlone (words : List (List ℕ)) (command : Command) : Type 0 where
  is : words ≡ word_of command ∷ []
  known : alone_by (first_byte (word_of command)) ≡ Some command

-- They are a word and a number, and known by both.
record IsNumbered (words : List (List ℕ)) (command : Command) : Type 0 where
  number : ℕ
  most : number ≤ MAX_NUMBER
  is : AreNumbered words (word_of command) number
  known : numbered_by (first_byte (word_of command)) number ≡ Some command

kind : (words : List (List ℕ)) (command : Command) → IsCommand words command → IsAlone words command ⊎ IsNumbered words command
unfolding word_of
kind words (Run Text) is = inl (record { is = is; known = refl })
kind words (Run Json) is = inl (record { is = is; known = refl })
kind words (Run Trace) is = inl (record { is = is; known = refl })
kind words (Over Show) is = inl (record { is = is; known = refl })
kind words (Over Upgrade) is = inl (record { is = is; known = refl })
kind words Audit is = inl (record { is = is; known = refl })
kind words Outbox is = inl (record { is = is; known = refl })
kind words Quorum is = inl (record { is = is; known = refl })
kind words (Make n) is = inr (record { number = n; most = is.1; is = is.0; known = refl })
kind words (Big n) is = inr (record { number = n; most = is.1; is = is.0; known = refl })
kind words (Live n) is = inr (record { number = n; most = omega (arith, is.2); is = is.0; known = refl })

some-is : {A : Type 0} (x y : A) → Some x ≡ Some y → x ≡ y
some-is x y same = cc

one-alone : (words : List (List ℕ)) (one other : Command) → IsAlone words one → IsAlone words other → one ≡ other
one-alone words one other a b =
    some-is one other (sym a.known ∙ ap (λ (word : List ℕ). alone_by (first_byte word)) (only-is words (word_of one) (word_of other) a.is b.is) ∙ b.known)

one-numbered : (words : List (List ℕ)) (one other : Command) → IsNumbered words one → IsNumbered words other → one ≡ other
one-numbered words one other a b =
    let word = first-is words (word_of one) (decimal a.number) (word_of other) (decimal b.number) a.is b.is in
    let text = second-is words (word_of one) (decimal a.number) (word_of other) (decimal b.number) a.is b.is in
    let number = decimal_injective a.number b.number (omega (arith, a.most)) (omega (arith, b.most)) text in
    some-is one other (sym a.known ∙ (λ i. numbered_by (first_byte (word i)) (number i)) ∙ b.known)

pub one-command : (words : List (List ℕ)) (one other : Command) → IsCommand words one → IsCommand words other → one ≡ other
one-command words one other a b =
    ⊎_elim
    (λ (alone : IsAlone words one). ⊎_elim (λ (too : IsAlone words other). one-alone words one other alone too)
    (λ (numbered : IsNumbered words other). absurd (two-are-not-one words (word_of one) (word_of other) (decimal numbered.number) alone.is numbered.is)) (kind words other b))
    (λ (numbered : IsNumbered words one). ⊎_elim
    (λ (alone : IsAlone words other). absurd (two-are-not-one words (word_of other) (word_of one) (decimal numbered.number) alone.is numbered.is))
    (λ (too : IsNumbered words other). one-numbered words one other numbered too) (kind words other b))
    (kind words one a)

-- ---- words that are found, or not

-- how a table spells a command of one word; others are spelled in any way
abbrev pub spelled_or : List ℕ → Command → List ℕ
spelled_or other (Make n) = other
spelled_or other (Big n) = other
spelled_or other (Live n) = other
spelled_or other command = word_of command

two-spellings : (first : ℕ) → [] ≡ first ∷ [] → ⊥
two-spellings first same = let wrong : ⊥ = cc in wrong

-- Where a word is spelled like what was found, however others are spelled, it is no other.
pub found-alone : (word : List ℕ) (found : Option Command) → IfSome found (λ command. word ≡ spelled_or [] command)
    → IfSome found (λ command. word ≡ spelled_or (0 ∷ []) command) → IfSome found (IsCommand (word ∷ []))
found-alone word None one other = tt
found-alone word (Some (Make n)) one other = absurd (two-spellings 0 (sym one ∙ other))
found-alone word (Some (Big n)) one other = absurd (two-spellings 0 (sym one ∙ other))
found-alone word (Some (Live n)) one other = absurd (two-spellings 0 (sym one ∙ other))
found-alone word (Some (Run form)) one other = ap (λ (w : List ℕ). w ∷ []) one
found-alone word (Some (Over tour)) one other = ap (λ (w : List ℕ). w ∷ []) one
found-alone word (Some Audit) one other = ap (λ (w : List ℕ). w ∷ []) one
found-alone word (Some Outbox) one other = ap (λ (w : List ℕ). w ∷ []) one
found-alone word (Some Quorum) one other = ap (λ (w : List ℕ). w ∷ []) one

-- A word alone that is a command is the command's.
pub alone-is : (word : List ℕ) (command : Command) → IsCommand (word ∷ []) command → word ≡ spelled_or [] command
alone-is word (Make n) is = absurd (two-are-not-one (word ∷ []) word (word_of (Make n)) (decimal n) refl is.0)
alone-is word (Big n) is = absurd (two-are-not-one (word ∷ []) word (word_of (Big n)) (decimal n) refl is.0)
alone-is word (Live n) is = absurd (two-are-not-one (word ∷ []) word (word_of (Live n)) (decimal n) refl is.0)
alone-is word (Run form) is = only-is (word ∷ []) word (word_of (Run form)) refl is
alone-is word (Over tour) is = only-is (word ∷ []) word (word_of (Over tour)) refl is
alone-is word Audit is = only-is (word ∷ []) word (word_of Audit) refl is
alone-is word Outbox is = only-is (word ∷ []) word (word_of Outbox) refl is
alone-is word Quorum is = only-is (word ∷ []) word (word_of Quorum) refl is

-- A word and a number that are neither `make` nor `big` nor, with this number, `live` are no command.
pub no-numbered : (word text : List ℕ) (number : ℕ) → number ≤ MAX_NUMBER → text ≡ decimal number → (word ≡ codes "make" → ⊥) → (word ≡ codes "big" → ⊥)
    → (word ≡ codes "live" → 1 ≤ number → number ≤ MAX_WORKERS → ⊥) → (command : Command) → IsCommand (word ∷ text ∷ []) command → ⊥
unfolding word_of
no-numbered word text number few is no_make no_big no_live (Make n) so = no_make (first-is (word ∷ text ∷ []) word text (codes "make") (decimal n) refl so.0)
no-numbered word text number few is no_make no_big no_live (Big n) so = no_big (first-is (word ∷ text ∷ []) word text (codes "big") (decimal n) refl so.0)
no-numbered word text number few is no_make no_big no_live (Live n) so =
    let same = decimal_injective number n (omega (arith, few)) (omega (arith, so.2)) (sym is ∙ second-is (word ∷ text ∷ []) word text (codes "live") (decimal n) refl so.0) in
    no_live (first-is (word ∷ text ∷ []) word text (codes "live") (decimal n) refl so.0) (omega (arith, same, so.1)) (omega (arith, same, so.2))
no-numbered word text number few is no_make no_big no_live (Run form) so = two-are-not-one (word ∷ text ∷ []) (word_of (Run form)) word text so refl
no-numbered word text number few is no_make no_big no_live (Over tour) so = two-are-not-one (word ∷ text ∷ []) (word_of (Over tour)) word text so refl
no-numbered word text number few is no_make no_big no_live Audit so = two-are-not-one (word ∷ text ∷ []) (word_of Audit) word text so refl
no-numbered word text number few is no_make no_big no_live Outbox so = two-are-not-one (word ∷ text ∷ []) (word_of Outbox) word text so refl
no-numbered word text number few is no_make no_big no_live Quorum so = two-are-not-one (word ∷ text ∷ []) (word_of Quorum) word text so refl

-- ---- the command that was found

-- It is the only one.
pub found-is : (words : List (List ℕ)) (found : Option Command) (command other : Command) → IfSome found (IsCommand words) → found ≡ Some command
    → IsCommand words other → command ≡ other
found-is words found command other some is so =
    one-command words command other (subst (λ (o : Option Command). IfSome o (IsCommand words)) is some) so

pub found-command : (words : List (List ℕ)) (found : Option Command) (command : Command) → IfSome found (IsCommand words) → found ≡ Some command → IsCommand words command
found-command words found command some is = subst (λ (o : Option Command). IfSome o (IsCommand words)) is some
