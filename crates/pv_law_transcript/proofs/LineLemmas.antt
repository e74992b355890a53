-- Lines of text, each with its line feed, are the lines of the whole.
use Rattle.std.proofs.Common.{◌≡◌, ◌∙◌, ℕ, ◌+◌, ◌-◌, Bool, true, false, List, [], ◌∷◌, ◌++◌, All, length, map, take, get_or, cond, eqb, flat_map, refl, sym, ap, arith, eqb-true, append_assoc}
use Rattle.std.specs.List.{onto_first, list_all, slice_split}
use Rattle.std.specs.Str.Lines.{strip_carriage_return}
use Rattle.std.proofs.lemmas.Bool.{false_from_ne_true, false≢true}
use Rattle.std.proofs.lemmas.List.Elements.{All-cons, All-nil}
use Rattle.std.proofs.lemmas.List.Folds.{list_all_at}
use Rattle.std.proofs.lemmas.List.Splits.{slice_split_at}
use Rattle.pv_base.proofs.Basics.{and-left, and-right}
use Rattle.pv_model.specs.FirstMisplaced.{without_numbers}
use Rattle.pv_model.specs.ReplyText.{line_feed}
use Rattle.pv_model.specs.Text.{TextLine, is_text_byte, is_significant, lines, significant_from}
use Rattle.pv_model.specs.Text.{parts_that_are_lines}

-- what passes one test passes no element of which the other holds
pub none-pass : (p q : ℕ → Bool) → ((b : ℕ) → q b ≡ true → p b ≡ false) → (bs : List ℕ) → list_all q bs ≡ true → All (λ b. p b ≡ false) bs
none-pass p q fails [] all = All-nil (λ b. p b ≡ false)
none-pass p q fails (b ∷ bs) all =
    All-cons (λ b. p b ≡ false) b bs (fails b (and-left (q b) (list_all q bs) all)) (none-pass p q fails bs (and-right (q b) (list_all q bs) all))

-- a split has a first part
pub record HasPart (p : ℕ → Bool) (bs : List ℕ) : Type 0 where
  pub part : List ℕ
  pub more : List (List ℕ)
  pub are : slice_split p bs ≡ part ∷ more

has-part-cond : (p : ℕ → Bool) (b : ℕ) (bs : List ℕ) (passes : Bool) → p b ≡ passes → HasPart p bs → HasPart p (b ∷ bs)
has-part-cond p b bs true is has = record { part = []; more = slice_split p bs; are = ap (λ (yes : Bool). cond yes ([] ∷ slice_split p bs) (onto_first b (slice_split p bs))) is }
has-part-cond p b bs false is has = record {
  part = b ∷ has.part;
  more = has.more;
  are = ap (λ (yes : Bool). cond yes ([] ∷ slice_split p bs) (onto_first b (slice_split p bs))) is ∙ ap (onto_first b) has.are;
}

pub has-part : (p : ℕ → Bool) (bs : List ℕ) → HasPart p bs
has-part p [] = record { part = []; more = []; are = refl }
has-part p (b ∷ bs) = has-part-cond p b bs (p b) refl (has-part p bs)

abbrev is_feed : ℕ → Bool
is_feed b = eqb b 10

parts-behind : (line : List ℕ) (parts : List (List ℕ)) (first : List ℕ) (more : List (List ℕ)) → parts ≡ first ∷ more → parts_that_are_lines (line ∷ parts) ≡ line ∷ parts_that_are_lines parts
parts-behind line parts first more are = rw are refl

no_feed : (b : ℕ) → is_text_byte b ≡ true → is_feed b ≡ false
no_feed b text = false_from_ne_true (is_feed b) (λ yes. false≢true (sym (ap is_text_byte (eqb-true b 10 yes)) ∙ text))

-- a line of text ends in no carriage return
pub stripped : (line : List ℕ) → list_all is_text_byte line ≡ true → strip_carriage_return line ≡ line
stripped [] text = refl
stripped (b ∷ bs) text =
    ap (λ (yes : Bool). cond yes (take (length (b ∷ bs) - 1) (b ∷ bs)) (b ∷ bs))
    (false_from_ne_true (eqb (get_or (b ∷ bs) (length (b ∷ bs) - 1) 0) 13) (λ yes.
    false≢true (sym (list_all_at is_text_byte (b ∷ bs) (length (b ∷ bs) - 1) 0 (omega arith) (ap is_text_byte (eqb-true (get_or (b ∷ bs) (length (b ∷ bs) - 1) 0) 13 yes))) ∙ text)))

pub lines-text : (front after : List ℕ) → list_all is_text_byte front ≡ true → lines (front ++ 10 ∷ after) ≡ front ∷ lines after
unfolding lines
lines-text front after text =
    ap (λ parts. map strip_carriage_return (parts_that_are_lines parts)) (slice_split_at is_feed front 10 after (none-pass is_feed is_text_byte no_feed front text) refl)
    ∙ ap (map strip_carriage_return) (let has = has-part is_feed after in parts-behind front (slice_split is_feed after) has.part has.more has.are)
    ∙ ap (λ (line : List ℕ). line ∷ lines after) (stripped front text)

-- the lines, each with what ends it
abbrev pub with_feeds : List TextLine → List ℕ
with_feeds ls = flat_map (λ line. line ++ line_feed) ls

-- Each line is of text alone, and counts.
abbrev pub AreTexts : List TextLine → Type 0
AreTexts [] = Unit {0}
AreTexts (line ∷ ls) = ((list_all is_text_byte line ≡ true) × (is_significant line ≡ true)) × AreTexts ls

no-lines : lines [] ≡ []
unfolding lines
no-lines = refl

pub lines-with_feeds : (ls : List TextLine) → AreTexts ls → lines (with_feeds ls) ≡ ls
lines-with_feeds [] are = no-lines
lines-with_feeds (line ∷ ls) are =
    ap lines (append_assoc line line_feed (with_feeds ls)) ∙ lines-text line (with_feeds ls) are.0.0 ∙ ap (λ (more : List TextLine). line ∷ more) (lines-with_feeds ls are.1)

pub all-significant : (first : ℕ) (ls : List TextLine) → AreTexts ls → without_numbers (significant_from first ls) ≡ ls
all-significant first [] are = refl
all-significant first (line ∷ ls) are =
    ap (λ (yes : Bool). without_numbers (cond yes ((first, line) ∷ significant_from (first + 1) ls) (significant_from (first + 1) ls))) are.0.1
    ∙ ap (λ (more : List TextLine). line ∷ more) (all-significant (first + 1) ls are.1)
