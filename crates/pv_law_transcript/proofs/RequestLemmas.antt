-- The text of a request of a live script: what a line has of it.
use Rattle.std.proofs.Common.{◌≡◌, ◌∙◌, ◌⊎◌, ⊎_elim, inl, inr, ℕ, Bool, true, false, ◌&&◌, Option, List, [], ◌∷◌, length, cond, refl, sym, ap, subst, arith}
use Rattle.std.specs.Cmp.Derive.{both_true}
use Rattle.std.specs.List.{list_all}
use Rattle.pv_base.specs.declared.limits.TheConstants.{MAX_LIVE_LINE}
use Rattle.pv_base.specs.Catalog.{Declared}
use Rattle.pv_base.specs.Name.{is_blank}
use Rattle.pv_base.proofs.Basics.{and-left, and-right, heads}
use Rattle.pv_law_programs.proofs.TokenLemmas.{one_token_list}
use Rattle.pv_model.specs.FirstMisplaced.{without_numbers}
use Rattle.pv_model.specs.Grammar.{Nested, ReadsProgram, assigns, requires, requires_certain, returns, asks, asks_else}
use Rattle.pv_model.specs.LineCauses.{Before}
use Rattle.pv_model.specs.LineForms.{Script, live, most_bytes, after_blanks, after_word, before_blanks, program_text, takes_program, text_alone, arguments}
use Rattle.pv_model.specs.ProgramText.{IsProgramText, item_in, without_nestings}
use Rattle.pv_model.specs.Schedule.{DeclaresRequest, request_word}
use Rattle.pv_model.specs.Syntax.{Program}
use Rattle.pv_model.specs.Text.{IsText, TextLine, is_text_byte, words}
use Rattle.pv_model.specs.Tokens.{at_end}
use Rattle.pv_law_transcript.specs.Written.{IsLineText}
use Rattle.pv_law_transcript.proofs.EventLemmas.{request-takes}

-- ## What is left of a line is text, and no longer
text-cond : (most : ℕ) (test : Bool) (xs ys : List ℕ) → IsText most xs → IsText most ys → IsText most (cond test xs ys)
text-cond most true xs ys one other = one
text-cond most false xs ys one other = other

text-tail : (most b : ℕ) (bs : List ℕ) → IsText most (b ∷ bs) → IsText most bs
text-tail most b bs is = let long = is.short in record { short = omega (arith, long); bytes = and-right (is_text_byte b) (list_all is_text_byte bs) is.bytes }

pub text-after_blanks : (most : ℕ) (bs : List ℕ) → IsText most bs → IsText most (after_blanks bs)
text-after_blanks most [] is = is
text-after_blanks most (b ∷ bs) is = text-cond most (is_blank b) (after_blanks bs) (b ∷ bs) (text-after_blanks most bs (text-tail most b bs is)) is

text-after_word : (most : ℕ) (bs : List ℕ) → IsText most bs → IsText most (after_word bs)
text-after_word most [] is = is
text-after_word most (b ∷ bs) is = text-cond most (is_blank b) (b ∷ bs) (after_word bs) is (text-after_word most bs (text-tail most b bs is))

pub text-before_blanks : (most : ℕ) (bs : List ℕ) → IsText most bs → IsText most (before_blanks bs)
text-before_blanks most [] is = is
text-before_blanks most (b ∷ bs) is =
    let rest : IsText (length bs) (before_blanks bs) =
    text-before_blanks (length bs) bs (record { short = omega arith; bytes = and-right (is_text_byte b) (list_all is_text_byte bs) is.bytes }) in
    let long = is.short in
    let fewer = rest.short in
    text-cond most (list_all is_blank (b ∷ bs)) [] (b ∷ before_blanks bs) (record { short = omega arith; bytes = refl })
    (record { short = omega (arith, long, fewer); bytes = both_true (and-left (is_text_byte b) (list_all is_text_byte bs) is.bytes) rest.bytes })

-- ## It ends in no blank
blank-by : (b : ℕ) (bs left : List ℕ) (test : Bool) → (is_blank b && list_all is_blank bs) ≡ test → list_all is_blank left ≡ list_all is_blank bs
    → list_all is_blank (cond test [] (b ∷ left)) ≡ (is_blank b && list_all is_blank bs)
blank-by b bs left true is same = sym is
blank-by b bs left false is same = ap (λ (rest : Bool). is_blank b && rest) same

blank-same : (bs : List ℕ) → list_all is_blank (before_blanks bs) ≡ list_all is_blank bs
blank-same [] = refl
blank-same (b ∷ bs) = blank-by b bs (before_blanks bs) (list_all is_blank (b ∷ bs)) refl (blank-same bs)

ends-by : (b : ℕ) (bs left : List ℕ) (test : Bool) → (is_blank b && list_all is_blank bs) ≡ test → list_all is_blank left ≡ list_all is_blank bs
    → before_blanks left ≡ left → before_blanks (cond test [] (b ∷ left)) ≡ cond test [] (b ∷ left)
ends-by b bs left true is same once = refl
ends-by b bs left false is same once =
    ap (λ (yes : Bool). cond yes [] (b ∷ before_blanks left)) (ap (λ (rest : Bool). is_blank b && rest) same ∙ is) ∙ ap (λ (more : List ℕ). b ∷ more) once

pub ends-once : (bs : List ℕ) → before_blanks (before_blanks bs) ≡ before_blanks bs
ends-once [] = refl
ends-once (b ∷ bs) = ends-by b bs (before_blanks bs) (list_all is_blank (b ∷ bs)) refl (blank-same bs) (ends-once bs)

-- ## It begins with no blank
record Starts (text : List ℕ) : Type 0 where
  first : ℕ
  more : List ℕ
  begins : text ≡ first ∷ more
  starts : is_blank first ≡ false

abbrev StartsOrNot : List ℕ → Type 0
StartsOrNot text = (text ≡ []) ⊎ Starts text

starts-by : (b : ℕ) (bs : List ℕ) (test : Bool) → is_blank b ≡ test → StartsOrNot (before_blanks (after_blanks bs)) → StartsOrNot (before_blanks (cond test (after_blanks bs) (b ∷ bs)))
starts-by b bs true is later = later
starts-by b bs false is later = inr (record {
  first = b;
  more = before_blanks bs;
  begins = ap (λ (yes : Bool). cond yes [] (b ∷ before_blanks bs)) (ap (λ (yes : Bool). yes && list_all is_blank bs) is);
  starts = is;
})

starts-or : (bs : List ℕ) → StartsOrNot (before_blanks (after_blanks bs))
starts-or [] = inl refl
starts-or (b ∷ bs) = starts-by b bs (is_blank b) refl (starts-or bs)

-- ## A program isn't empty
some-tokens : (item_of : List ℕ → Option ℕ) (d : ℕ) (ts after : List Nested) (p : Program) → ReadsProgram item_of d ts after p → ts ≡ [] → ⊥
some-tokens item_of d ts after p (assigns word n d2 ts2 mid behind e next at value more) none = cc
some-tokens item_of d ts after p (requires d2 ts2 mid behind e next value more) none = cc
some-tokens item_of d ts after p (requires_certain word n d2 mid behind next known more) none = cc
some-tokens item_of d ts after p (returns d2 ts2 mid behind e next value more) none = cc
some-tokens item_of d ts after p (asks d2 ts2 inside mid behind test body next value inner more) none = cc
some-tokens item_of d ts after p (asks_else d2 ts2 inside second mid behind test body other next value inner outer more) none = cc

none-nested : (placed : List Nested) → without_nestings placed ≡ [] → placed ≡ []
none-nested [] none = refl
none-nested (first ∷ rest) none = absurd (let wrong : ⊥ = cc in wrong)

some-text : (catalog : Declared) (text : List ℕ) (p : Program) → IsProgramText catalog text p → text ≡ [] → ⊥
some-text catalog [] p is none =
    let tokens : is.tokens ≡ [] = one_token_list is.has (at_end 1) in
    let placed : is.are.placed ≡ [] = none-nested is.are.placed (sym is.are.same ∙ ap without_numbers tokens) in
    some-tokens (item_in catalog) 0 is.are.placed [] p is.are.reads placed
some-text catalog (b ∷ bs) p is none = cc

-- ## The text of a line
arguments-live : (line word : List ℕ) (more : List (List ℕ)) → words line ≡ word ∷ more → takes_program word ≡ true
    → arguments live line ≡ text_alone (program_text live line) more
unfolding arguments
arguments-live line word more are takes = rw (are, takes) refl

alone-is : (given text : List ℕ) (more : List (List ℕ)) → text_alone given more ≡ text ∷ [] → given ≡ text
alone-is given text [] is = absurd (let wrong : ⊥ = cc in wrong)
alone-is given text (word ∷ more) is = heads is

line-text : (line : TextLine) → IsText MAX_LIVE_LINE line → (program_text live line ≡ [] → ⊥) → IsLineText (program_text live line)
unfolding program_text
line-text line is some =
    let behind : List ℕ = after_word (after_blanks line) in
    let kept : IsText MAX_LIVE_LINE (before_blanks (after_blanks behind)) =
    text-before_blanks MAX_LIVE_LINE (after_blanks behind)
    (text-after_blanks MAX_LIVE_LINE behind (text-after_word MAX_LIVE_LINE (after_blanks line) (text-after_blanks MAX_LIVE_LINE line is))) in
    ⊎_elim (λ none. absurd (some none))
    (λ (begun : Starts (before_blanks (after_blanks behind))).
    record { short = kept.short; bytes = kept.bytes; first = begun.first; more = begun.more; begins = begun.begins; starts = begun.starts; ends = ends-once (after_blanks behind) })
    (starts-or behind)

-- The text of a request of a live script is one that a line may have.
pub request-text : (before after : Before) (line : TextLine) (d : DeclaresRequest before line after) → IsLineText d.request.text
request-text before after line d =
    let takes : takes_program (request_word d.request.query) ≡ true = request-takes d.request.query in
    let given : arguments live line ≡ d.request.text ∷ [] = ap (λ (s : Script). arguments s line) (sym d.kind) ∙ d.given in
    let same : program_text live line ≡ d.request.text =
    alone-is (program_text live line) d.request.text d.more (sym (arguments-live line (request_word d.request.query) d.more d.first takes) ∙ given) in
    let is : IsText MAX_LIVE_LINE line = subst (λ (s : Script). IsText (most_bytes s) line) d.kind d.text in
    subst IsLineText same
    (line-text line is (λ none. some-text _ d.request.text d.request.program d.is (sym same ∙ none)))
