-- Printed lines below an event that are read one by one.
use Rattle.std.proofs.Common.{◌≡◌, ℕ, ◌+◌, Bool, true, false, Option, List, [], ◌∷◌, ◌++◌, Some, None, map, length, refl, sym, ap, subst, ◌∙◌, arith, eqb-true, append_assoc, length-append}
use Rattle.std.specs.Prelude.{◌==◌, is_some}
use Rattle.std.specs.Bool.{MatchBool}
use Rattle.std.proofs.lemmas.Bool.{both_ways, false≢true}
use Rattle.pv_audit.specs.Printed.{AreNamed, ArePrinted, none, more, IsPrinted, IsPrintedForm}
use Rattle.pv_audit.specs.Reading.{AreRead, texts_of}
use Rattle.pv_audit.specs.Traces.{IsReport, IsWhole}
use Rattle.pv_audit.proofs.OneTraceLemmas.{one-lines}
use Rattle.pv_base.specs.Catalog.{Declared}
use Rattle.pv_model.specs.Events.{report}
use Rattle.pv_model.specs.Text.{TextLine}
use Rattle.pv_protocol.specs.Lines.{Line}

texts_of-append : (front behind : List (ℕ × TextLine)) → texts_of (front ++ behind) ≡ texts_of front ++ texts_of behind
texts_of-append [] behind = refl
texts_of-append (x ∷ front) behind = ap (λ (l : List TextLine). x.1 ∷ l) (texts_of-append front behind)

-- one more
ArePrinted-push : {catalog : Declared} {texts : List TextLine} {lines : List Line} → ArePrinted catalog texts lines → (text : TextLine) (line : Line) → IsPrinted catalog text line
    → ArePrinted catalog (texts ++ text ∷ []) (lines ++ line ∷ [])
ArePrinted-push none text line is = more text line [] [] is none
ArePrinted-push (more t l texts lines first rest) text line is = more t l (texts ++ text ∷ []) (lines ++ line ∷ []) first (ArePrinted-push rest text line is)

pub read-form : (catalog : Declared) (below : List (ℕ × TextLine)) (lines : List Line) (m : Bool) (number : ℕ) (text : TextLine) (line : Line) → AreRead catalog below lines None m
    → IsPrinted catalog text line → AreRead catalog (below ++ (number, text) ∷ []) (lines ++ line ∷ []) None m
read-form catalog below lines m number text line are is = (
  subst (λ (texts : List TextLine). ArePrinted catalog texts (lines ++ line ∷ [])) (sym (texts_of-append below ((number, text) ∷ [])))
      (ArePrinted-push are.0 text line is),
  are.1,
)

pub read-broken : (catalog : Declared) (below : List (ℕ × TextLine)) (lines : List Line) (m : Bool) (number : ℕ) (text : TextLine) → AreRead catalog below lines None m
    → (IsPrintedForm catalog text → ⊥) → AreRead catalog (below ++ (number, text) ∷ []) lines (Some number) m
read-broken catalog below lines m number text are isnt = record {
  front = below;
  text = text;
  behind = [];
  split = refl;
  forms = are.0;
  none = isnt;
  last = λ quiet. refl;
  others = λ loud. absurd (let never : false ≡ true = sym are.1 ∙ loud in let no : ⊥ = cc in no);
}

pub read-behind : (catalog : Declared) (below : List (ℕ × TextLine)) (lines : List Line) (m : Bool) (number : ℕ) (x : ℕ × TextLine) → AreRead catalog below lines (Some number) m
    → AreRead catalog (below ++ x ∷ []) lines (Some number) true
read-behind catalog below lines m number x are = record {
  front = are.front;
  text = are.text;
  behind = are.behind ++ x ∷ [];
  split = ap (λ (l : List (ℕ × TextLine)). l ++ x ∷ []) are.split ∙ append_assoc are.front ((number, are.text) ∷ are.behind) (x ∷ []);
  forms = are.forms;
  none = are.none;
  last = λ quiet. absurd (let no : ⊥ = cc in no);
  others = λ loud. let long = length-append are.behind (x ∷ []) in omega (arith, long);
}

length-printed : {catalog : Declared} {texts : List TextLine} {lines : List Line} → ArePrinted catalog texts lines → length texts ≡ length lines
length-printed none = refl
length-printed (more t l texts lines first rest) = let same = length-printed rest in omega (arith, same)

-- how many they are
pub count-forms : (catalog : Declared) (below : List (ℕ × TextLine)) (lines : List Line) (m : Bool) → AreRead catalog below lines None m → length (texts_of below) ≡ length lines
count-forms catalog below lines m are = length-printed are.0

pub count-broken : (catalog : Declared) (below : List (ℕ × TextLine)) (lines : List Line) (m : Bool) (number : ℕ) (are : AreRead catalog below lines (Some number) m)
    → length (texts_of below) ≡ length lines + (1 + length are.behind)
count-broken catalog below lines m number are =
    let whole : texts_of below ≡ texts_of are.front ++ are.text ∷ texts_of are.behind = ap texts_of are.split ∙ texts_of-append are.front ((number, are.text) ∷ are.behind) in
    let parts = length-append (texts_of are.front) (are.text ∷ texts_of are.behind) in
    let front = length-printed are.forms in
    let behind = length-texts_of are.behind in
    let all = ap (λ (l : List TextLine). length l) whole in
    omega (arith, all, parts, front, behind)
  where
    length-texts_of : (l : List (ℕ × TextLine)) → length (texts_of l) ≡ length l
    length-texts_of [] = refl
    length-texts_of (x ∷ l) = let same = length-texts_of l in omega (arith, same)

-- A line that isn't a form isn't printed.
pub broken-unprinted : (catalog : Declared) (below : List (ℕ × TextLine)) (lines : List Line) (m : Bool) (number : ℕ) → AreRead catalog below lines (Some number) m
    → (others : List Line) → ArePrinted catalog (texts_of below) others → ⊥
broken-unprinted catalog below lines m number are others printed_ones =
    go (texts_of are.front) (subst (λ (texts : List TextLine). ArePrinted catalog texts others) (ap texts_of are.split ∙ texts_of-append are.front ((number, are.text) ∷ are.behind)) printed_ones)
  where
    go : (front : List TextLine) {others : List Line} → ArePrinted catalog (front ++ are.text ∷ texts_of are.behind) others → ⊥
    go [] (more t o texts others is rest) = are.none (o, is)
    go (f ∷ front) (more t o texts others is rest) = go front rest

-- ---- one line more, whether a line before it was broken or not

pub take-behind : (catalog : Declared) (below : List (ℕ × TextLine)) (lines : List Line) (broken : Option ℕ) (m : Bool) (x : ℕ × TextLine) → is_some broken ≡ true
    → AreRead catalog below lines broken m → AreRead catalog (below ++ x ∷ []) lines broken true
take-behind catalog below lines None m x some are = absurd (false≢true some)
take-behind catalog below lines (Some number) m x some are = read-behind catalog below lines m number x are

pub take-form : (catalog : Declared) (below : List (ℕ × TextLine)) (lines : List Line) (broken : Option ℕ) (m : Bool) (number : ℕ) (text : TextLine) (line : Line) → is_some broken ≡ false
    → AreRead catalog below lines broken m → IsPrinted catalog text line → AreRead catalog (below ++ (number, text) ∷ []) (lines ++ line ∷ []) broken m
take-form catalog below lines None m number text line unbroken are is = read-form catalog below lines m number text line are is
take-form catalog below lines (Some other) m number text line unbroken are is = absurd (false≢true (sym unbroken))

pub take-broken : (catalog : Declared) (below : List (ℕ × TextLine)) (lines : List Line) (broken : Option ℕ) (m : Bool) (number : ℕ) (text : TextLine) → is_some broken ≡ false
    → AreRead catalog below lines broken m → (IsPrintedForm catalog text → ⊥) → AreRead catalog (below ++ (number, text) ∷ []) lines (Some number) m
take-broken catalog below lines None m number text unbroken are isnt = read-broken catalog below lines m number text are isnt
take-broken catalog below lines (Some other) m number text unbroken are isnt = absurd (false≢true (sym unbroken))

-- ---- how many they are

pub one-form : (catalog : Declared) (below : List (ℕ × TextLine)) (lines : List Line) (broken : Option ℕ) (m r : Bool) → is_some broken ≡ false → r ≡ (length lines == 1)
    → AreRead catalog below lines broken m → MatchBool r (length (texts_of below) ≡ 1) (length (texts_of below) ≡ 1 → ⊥)
one-form catalog below lines None m true unbroken is are =
    let count = count-forms catalog below lines m are in let one = eqb-true (length lines) 1 (sym is) in omega (arith, count, one)
one-form catalog below lines None m false unbroken is are = λ one.
    let count = count-forms catalog below lines m are in
    both_ways (length lines == 1) (sym is) (let same : length lines ≡ 1 = omega (arith, count, one) in ap (λ (n : ℕ). n == 1) same)
one-form catalog below lines (Some number) m r unbroken is are = absurd (false≢true (sym unbroken))

pub many-broken : (catalog : Declared) (below : List (ℕ × TextLine)) (lines : List Line) (broken : Option ℕ) (m : Bool) → is_some broken ≡ true → m ≡ true
    → AreRead catalog below lines broken m → length (texts_of below) ≡ 1 → ⊥
many-broken catalog below lines None m some loud are one = false≢true some
many-broken catalog below lines (Some number) m some loud are one =
    let count = count-broken catalog below lines m number are in let more = are.others loud in omega (arith, count, more, one)

pub one-broken : (catalog : Declared) (below : List (ℕ × TextLine)) (lines : List Line) (broken : Option ℕ) (m r : Bool) → is_some broken ≡ true → m ≡ false → r ≡ (length lines == 0)
    → AreRead catalog below lines broken m → MatchBool r (length (texts_of below) ≡ 1) (length (texts_of below) ≡ 1 → ⊥)
one-broken catalog below lines None m r some quiet is are = absurd (false≢true some)
one-broken catalog below lines (Some number) m true some quiet is are =
    let count = count-broken catalog below lines m number are in
    let behind = ap (λ (l : List (ℕ × TextLine)). length l) (are.last quiet) in
    let empty = eqb-true (length lines) 0 (sym is) in
    omega (arith, count, behind, empty)
one-broken catalog below lines (Some number) m false some quiet is are = λ one.
    let count = count-broken catalog below lines m number are in
    both_ways (length lines == 0) (sym is) (let same : length lines ≡ 0 = omega (arith, count, one) in ap (λ (n : ℕ). n == 0) same)

-- ---- whether they are a report

pub broken-report : (catalog : Declared) (below : List (ℕ × TextLine)) (lines : List Line) (broken : Option ℕ) (m : Bool) → is_some broken ≡ true
    → AreRead catalog below lines broken m → IsWhole catalog report (texts_of below) → ⊥
broken-report catalog below lines None m some are whole = false≢true some
broken-report catalog below lines (Some number) m some are whole = broken-unprinted catalog below lines m number are whole.0 whole.1

pub forms-report : (catalog : Declared) (below : List (ℕ × TextLine)) (lines : List Line) (broken : Option ℕ) (m r : Bool) → AreNamed catalog → is_some broken ≡ false
    → MatchBool r (IsReport catalog lines) (IsReport catalog lines → ⊥) → AreRead catalog below lines broken m
    → MatchBool r (IsWhole catalog report (texts_of below)) (IsWhole catalog report (texts_of below) → ⊥)
forms-report catalog below lines None m true named unbroken is are = (lines, are.0, is)
forms-report catalog below lines None m false named unbroken isnt are = λ whole.
    isnt (subst (λ (l : List Line). IsReport catalog l) (sym (one-lines named are.0 whole.1)) whole.2)
forms-report catalog below lines (Some number) m r named unbroken is are = absurd (false≢true (sym unbroken))

pub map-push : {A B : Type 0} (f : A → B) (xs : List A) (x : A) → map f (xs ++ x ∷ []) ≡ map f xs ++ f x ∷ []
map-push f [] x = refl
map-push {B = B} f (y ∷ xs) x = ap (λ (l : List B). f y ∷ l) (map-push f xs x)
