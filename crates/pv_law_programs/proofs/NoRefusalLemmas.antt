-- A text that is a program isn't refused.
use Rattle.std.proofs.Common.{◌≡◌, ℕ, ◌+◌, ◌<◌, ◌≤◌, pos, Bool, false, Option, Some, List, [], ◌∷◌, ◌++◌, length, refl, sym, ap, ◌∙◌, subst, arith}
use Rattle.std.specs.Prelude.{IsTrue, nat_le, ◌==◌}
use Rattle.std.specs.List.{list_all}
use Rattle.std.proofs.lemmas.Option.{none-some}
use Rattle.std.proofs.lemmas.Bool.{leb-true}
use Rattle.std.proofs.lemmas.List.{map-append}
use Rattle.pv_base.specs.declared.limits.TheConstants.{MAX_DEPTH}
use Rattle.pv_base.specs.Catalog.{Declared}
use Rattle.pv_model.specs.Syntax.{Expr, Program}
use Rattle.pv_model.specs.Syntax.Expr.{number, item, minus, negation, two}
use Rattle.pv_model.specs.Syntax.Program.{end, assign, require, certain, return, when, when_else}
use Rattle.pv_model.specs.FirstMisplaced.{without_numbers}
use Rattle.pv_model.specs.Tokens.{Token}
use Rattle.pv_model.specs.Grammar.{Nested, Chain, Phrase, chain, comparison, Reads, chained, not, not_negated, compared, not_compared, negative, numeral, named, in_brackets, of_two, GoesOn, no_more, one_more, ReadsProgram, assigns, requires, requires_certain, returns, asks, asks_else, ReadsNext, last, next}
use Rattle.pv_model.specs.ProgramText.{without_nestings, any_item, item_in, AreProgram, AreSomeProgram, IsProgramText, Kind, malformed, unknown_name, too_deep, HasFaultAt, Refusal, too_large, at_fault, IsRefused}
use Rattle.pv_base.proofs.Basics.{heads, tails, and-left, and-right}
use Rattle.pv_law_programs.proofs.FirstFaultLemmas.{no_fault}
use Rattle.pv_law_programs.proofs.TokenLemmas.{one_token_list}
use Rattle.pv_law_programs.proofs.GrammarLemmas.{differ, joined_is_no_stop, compared_stops_sum, compared_is_no_stop, EndsPhrase-sum, sub_is_no_prefix, begins_with_no_not, begins_with_no_certain, goes_on_stops, next_stops, next_is_no_else, EndsPhrase, EndsProgram, E, tag}

-- ---- what is a program over items is one where every name is an item's

module _ (item_of : List ℕ → Option ℕ) where
  mutual
    any_expr : {phrase : Phrase} {d : ℕ} {ts r : List Nested} {e : Expr} → Reads item_of phrase d ts r e → (f : Expr) × Reads any_item phrase d ts r f
    any_expr (chained c d ts mid r left e p g) = let x = any_expr p in let y = any_chain x.0 g in (y.0, chained c d ts mid r x.0 y.0 x.1 y.1)
    any_expr (not d ts r e p) = let x = any_expr p in (negation x.0, not d ts r x.0 x.1)
    any_expr (not_negated d ts r e p) = let x = any_expr p in (x.0, not_negated d ts r x.0 x.1)
    any_expr (compared op d ts mid r left right c p q) = let x = any_expr p in let y = any_expr q in (two op x.0 y.0, compared op d ts mid r x.0 y.0 c x.1 y.1)
    any_expr (not_compared d ts r e p) = let x = any_expr p in (x.0, not_compared d ts r x.0 x.1)
    any_expr (negative d ts r e p) = let x = any_expr p in (minus x.0, negative d ts r x.0 x.1)
    any_expr (numeral n d r l) = (number (pos n), numeral n d r l)
    any_expr (named word n d r i) = (item 0, named word 0 d r refl)
    any_expr (in_brackets d ts r e p) = let x = any_expr p in (x.0, in_brackets d ts r x.0 x.1)
    any_expr (of_two op d ts mid r left right m p q) = let x = any_expr p in let y = any_expr q in (two op x.0 y.0, of_two op d ts mid r x.0 y.0 m x.1 y.1)

    any_chain : {c : Chain} {left e : Expr} {d : ℕ} {ts r : List Nested} (other : Expr) → GoesOn item_of c left d ts r e → (f : Expr) × GoesOn any_item c other d ts r f
    any_chain other (no_more c left d r) = (other, no_more c other d r)
    any_chain other (one_more c op left right e d ts mid r j p g) =
        let x = any_expr p in let y = any_chain (two op other x.0) g in (y.0, one_more c op other x.0 y.0 d ts mid r j x.1 y.1)

  mutual
    any_program : {d : ℕ} {ts r : List Nested} {p : Program} → ReadsProgram item_of d ts r p → (q : Program) × ReadsProgram any_item d ts r q
    any_program (assigns word n d ts mid r e nx i x y) = let u = any_expr x in let v = any_next y in (assign 0 u.0 v.0, assigns word 0 d ts mid r u.0 v.0 refl u.1 v.1)
    any_program (requires d ts mid r e nx x y) = let u = any_expr x in let v = any_next y in (require u.0 v.0, requires d ts mid r u.0 v.0 u.1 v.1)
    any_program (requires_certain word n d mid r nx i y) = let v = any_next y in (certain 0 v.0, requires_certain word 0 d mid r v.0 refl v.1)
    any_program (returns d ts mid r e nx x y) = let u = any_expr x in let v = any_next y in (return u.0 v.0, returns d ts mid r u.0 v.0 u.1 v.1)
    any_program (asks d ts inside mid r test body nx x b y) =
        let u = any_expr x in let w = any_program b in let v = any_next y in (when u.0 w.0 v.0, asks d ts inside mid r u.0 w.0 v.0 u.1 w.1 v.1)
    any_program (asks_else d ts inside second mid r test body other nx x b o y) =
        let u = any_expr x in let w = any_program b in let z = any_program o in let v = any_next y in
        (when_else u.0 w.0 z.0 v.0, asks_else d ts inside second mid r u.0 w.0 z.0 v.0 u.1 w.1 z.1 v.1)

    any_next : {d : ℕ} {ts r : List Nested} {p : Program} → ReadsNext item_of d ts r p → (q : Program) × ReadsNext any_item d ts r q
    any_next (last d r) = (end, last d r)
    any_next (next d ts r p q) = let x = any_program q in (x.0, next d ts r x.0 x.1)

  -- ---- every name of a program is an item's

  abbrev pub IsKnown : Token → Type 0
  IsKnown (Token.name word) = (n : ℕ) × (item_of word ≡ Some n)
  IsKnown _ = Unit {0}

  abbrev pub AreKnown : List Nested → Type 0
  AreKnown [] = Unit {0}
  AreKnown (t ∷ ts) = IsKnown t.1 × AreKnown ts

  mutual
    known_expr : {phrase : Phrase} {d : ℕ} {ts r : List Nested} {e : Expr} → Reads item_of phrase d ts r e → AreKnown r → AreKnown ts
    known_expr (chained c d ts mid r left e p g) k = known_expr p (known_chain g k)
    known_expr (not d ts r e p) k = (tt, known_expr p k)
    known_expr (not_negated d ts r e p) k = known_expr p k
    known_expr (compared op d ts mid r left right c p q) k = known_expr p (tt, known_expr q k)
    known_expr (not_compared d ts r e p) k = known_expr p k
    known_expr (negative d ts r e p) k = (tt, known_expr p k)
    known_expr (numeral n d r l) k = (tt, k)
    known_expr (named word n d r i) k = ((n, i), k)
    known_expr (in_brackets d ts r e p) k = (tt, known_expr p (tt, k))
    known_expr (of_two op d ts mid r left right m p q) k = (tt, (tt, known_expr p (tt, known_expr q (tt, k))))

    known_chain : {c : Chain} {left e : Expr} {d : ℕ} {ts r : List Nested} → GoesOn item_of c left d ts r e → AreKnown r → AreKnown ts
    known_chain (no_more c left d r) k = k
    known_chain (one_more c op left right e d ts mid r j p g) k = (tt, known_expr p (known_chain g k))

  mutual
    known_program : {d : ℕ} {ts r : List Nested} {p : Program} → ReadsProgram item_of d ts r p → AreKnown r → AreKnown ts
    known_program (assigns word n d ts mid r e nx i x y) k = ((n, i), (tt, known_expr x (known_next y k)))
    known_program (requires d ts mid r e nx x y) k = (tt, known_expr x (known_next y k))
    known_program (requires_certain word n d mid r nx i y) k = (tt, (tt, ((n, i), known_next y k)))
    known_program (returns d ts mid r e nx x y) k = (tt, known_expr x (known_next y k))
    known_program (asks d ts inside mid r test body nx x b y) k = (tt, known_expr x (tt, known_program b (tt, known_next y k)))
    known_program (asks_else d ts inside second mid r test body other nx x b o y) k =
        (tt, known_expr x (tt, known_program b (tt, (tt, (tt, known_program o (tt, known_next y k))))))

    known_next : {d : ℕ} {ts r : List Nested} {p : Program} → ReadsNext item_of d ts r p → AreKnown r → AreKnown ts
    known_next (last d r) k = k
    known_next (next d ts r p q) k = (tt, known_program q k)

  known_inside : (placed : List Nested) (front : List Token) (word : List ℕ) (behind : List Token) → AreKnown placed → without_nestings placed ≡ front ++ Token.name word ∷ behind
      → (n : ℕ) × (item_of word ≡ Some n)
  known_inside [] [] word behind k e = absurd cc
  known_inside [] (t ∷ front) word behind k e = absurd cc
  known_inside (x ∷ placed) [] word behind k e = subst (λ (t : Token). IsKnown t) (heads e) k.0
  known_inside (x ∷ placed) (t ∷ front) word behind k e = known_inside placed front word behind k.1 (tails e)

-- ---- the nestings of two programs agree as far as their tokens do

abbrev Agree : List Nested → List Nested → Type 0
Agree [] us = Unit {0}
Agree (x ∷ ts) [] = Unit {0}
Agree (x ∷ ts) (y ∷ us) = x.1 ≡ y.1 → (x.0 ≡ y.0) × Agree ts us

agree_left : (x : Nested) (ts us : List Nested) → ((xs : List Token) → E us ≡ x.1 ∷ xs → ⊥) → Agree (x ∷ ts) us
agree_left x ts [] h = tt
agree_left x ts (y ∷ us) h = λ e. absurd (h (E us) (ap (λ (t : Token). t ∷ E us) (sym e)))

agree_right : (x : Nested) (us ts : List Nested) → ((xs : List Token) → E ts ≡ x.1 ∷ xs → ⊥) → Agree ts (x ∷ us)
agree_right x us [] h = tt
agree_right x us (y ∷ ts) h = λ e. absurd (h (E ts) (ap (λ (t : Token). t ∷ E ts) e))

apart : {x y : Token} → x ≡ y → (tag x == tag y) ≡ false → ⊥
apart {x} {y} e h = differ (ap (λ (t : Token). t ∷ []) e) h

module _ (item_of other_of : List ℕ → Option ℕ) where
  mutual
    agree_expr : {phrase : Phrase} {d : ℕ} {ts us r s : List Nested} {e f : Expr} → Reads item_of phrase d ts r e → Reads other_of phrase d us s f
        → EndsPhrase phrase (E r) → EndsPhrase phrase (E s) → Agree r s → Agree ts us
    agree_expr (chained c d ts mid r left e p g) (chained c2 d2 ts2 mid2 r2 left2 e2 p2 g2) h h2 a =
        agree_expr p p2 (goes_on_stops item_of g h) (goes_on_stops other_of g2 h2) (agree_chain g g2 h h2 a)
    agree_expr (not d ts r e p) (not d2 ts2 r2 e2 p2) h h2 a =
        λ same. (refl, agree_expr p p2 h h2 a)
    agree_expr (not d ts r e p) (not_negated d2 ts2 r2 e2 p2) h h2 a =
        agree_left (d, Token.negates) ts ts2 (λ xs eq. begins_with_no_not other_of xs p2 tt eq)
    agree_expr (not_negated d ts r e p) (not d2 ts2 r2 e2 p2) h h2 a =
        agree_right (d2, Token.negates) ts2 ts (λ xs eq. begins_with_no_not item_of xs p tt eq)
    agree_expr (not_negated d ts r e p) (not_negated d2 ts2 r2 e2 p2) h h2 a =
        agree_expr p p2 h h2 a
    agree_expr (compared op d ts mid r left right c p q) (compared op2 d2 ts2 mid2 r2 left2 right2 c2 p2 q2) h h2 a =
        agree_expr p p2 (compared_stops_sum op c) (compared_stops_sum op2 c2) (λ same. (refl, agree_expr q q2 (EndsPhrase-sum (E r) h) (EndsPhrase-sum (E r2) h2) a))
    agree_expr (compared op d ts mid r left right c p q) (not_compared d2 ts2 r2 e2 p2) h h2 a =
        agree_expr p p2 (compared_stops_sum op c) (EndsPhrase-sum (E r2) h2) (agree_left (d, Token.operator op) mid r2 (λ xs eq. compared_is_no_stop op c (subst (λ (l : List Token). EndsPhrase comparison l) eq h2)))
    agree_expr (not_compared d ts r e p) (compared op2 d2 ts2 mid2 r2 left2 right2 c2 p2 q2) h h2 a =
        agree_expr p p2 (EndsPhrase-sum (E r) h) (compared_stops_sum op2 c2) (agree_right (d2, Token.operator op2) mid2 r (λ xs eq. compared_is_no_stop op2 c2 (subst (λ (l : List Token). EndsPhrase comparison l) eq h)))
    agree_expr (not_compared d ts r e p) (not_compared d2 ts2 r2 e2 p2) h h2 a =
        agree_expr p p2 (EndsPhrase-sum (E r) h) (EndsPhrase-sum (E r2) h2) a
    agree_expr (negative d ts r e p) (negative d2 ts2 r2 e2 p2) h h2 a =
        λ same. (refl, agree_expr p p2 h h2 a)
    agree_expr (negative d ts r e p) (numeral n2 d2 r2 l2) h h2 a =
        λ same. absurd (apart same refl)
    agree_expr (negative d ts r e p) (named word2 n2 d2 r2 i2) h h2 a =
        λ same. absurd (apart same refl)
    agree_expr (negative d ts r e p) (in_brackets d2 ts2 r2 e2 p2) h h2 a =
        λ same. absurd (apart same refl)
    agree_expr (negative d ts r e p) (of_two op2 d2 ts2 mid2 r2 left2 right2 m2 p2 q2) h h2 a =
        λ same. absurd (sub_is_no_prefix op2 same m2)
    agree_expr (numeral n d r l) (negative d2 ts2 r2 e2 p2) h h2 a =
        λ same. absurd (apart same refl)
    agree_expr (numeral n d r l) (numeral n2 d2 r2 l2) h h2 a =
        λ same. (refl, a)
    agree_expr (numeral n d r l) (named word2 n2 d2 r2 i2) h h2 a =
        λ same. absurd (apart same refl)
    agree_expr (numeral n d r l) (in_brackets d2 ts2 r2 e2 p2) h h2 a =
        λ same. absurd (apart same refl)
    agree_expr (numeral n d r l) (of_two op2 d2 ts2 mid2 r2 left2 right2 m2 p2 q2) h h2 a =
        λ same. absurd (apart same refl)
    agree_expr (named word n d r i) (negative d2 ts2 r2 e2 p2) h h2 a =
        λ same. absurd (apart same refl)
    agree_expr (named word n d r i) (numeral n2 d2 r2 l2) h h2 a =
        λ same. absurd (apart same refl)
    agree_expr (named word n d r i) (named word2 n2 d2 r2 i2) h h2 a =
        λ same. (refl, a)
    agree_expr (named word n d r i) (in_brackets d2 ts2 r2 e2 p2) h h2 a =
        λ same. absurd (apart same refl)
    agree_expr (named word n d r i) (of_two op2 d2 ts2 mid2 r2 left2 right2 m2 p2 q2) h h2 a =
        λ same. absurd (apart same refl)
    agree_expr (in_brackets d ts r e p) (negative d2 ts2 r2 e2 p2) h h2 a =
        λ same. absurd (apart same refl)
    agree_expr (in_brackets d ts r e p) (numeral n2 d2 r2 l2) h h2 a =
        λ same. absurd (apart same refl)
    agree_expr (in_brackets d ts r e p) (named word2 n2 d2 r2 i2) h h2 a =
        λ same. absurd (apart same refl)
    agree_expr (in_brackets d ts r e p) (in_brackets d2 ts2 r2 e2 p2) h h2 a =
        λ same. (refl, agree_expr p p2 tt tt (λ close. (refl, a)))
    agree_expr (in_brackets d ts r e p) (of_two op2 d2 ts2 mid2 r2 left2 right2 m2 p2 q2) h h2 a =
        λ same. absurd (apart same refl)
    agree_expr (of_two op d ts mid r left right m p q) (negative d2 ts2 r2 e2 p2) h h2 a =
        λ same. absurd (sub_is_no_prefix op (sym same) m)
    agree_expr (of_two op d ts mid r left right m p q) (numeral n2 d2 r2 l2) h h2 a =
        λ same. absurd (apart same refl)
    agree_expr (of_two op d ts mid r left right m p q) (named word2 n2 d2 r2 i2) h h2 a =
        λ same. absurd (apart same refl)
    agree_expr (of_two op d ts mid r left right m p q) (in_brackets d2 ts2 r2 e2 p2) h h2 a =
        λ same. absurd (apart same refl)
    agree_expr (of_two op d ts mid r left right m p q) (of_two op2 d2 ts2 mid2 r2 left2 right2 m2 p2 q2) h h2 a =
        λ same. (refl, λ bracket. (refl, agree_expr p p2 tt tt (λ comma. (refl, agree_expr q q2 tt tt (λ close. (refl, a))))))

    agree_chain : {c : Chain} {d : ℕ} {left left2 e f : Expr} {ts us r s : List Nested} → GoesOn item_of c left d ts r e → GoesOn other_of c left2 d us s f
        → EndsPhrase (chain c) (E r) → EndsPhrase (chain c) (E s) → Agree r s → Agree ts us
    agree_chain (no_more c left d r) (no_more c2 left2 d2 r2) h h2 a = a
    agree_chain (no_more c left d r) (one_more c2 op2 left2 right2 e2 d2 ts2 mid2 r2 j2 p2 g2) h h2 a =
        agree_right (d2, Token.operator op2) ts2 r (λ xs eq. joined_is_no_stop c2 op2 j2 (subst (λ (l : List Token). EndsPhrase (chain c2) l) eq h))
    agree_chain (one_more c op left right e d ts mid r j p g) (no_more c2 left2 d2 r2) h h2 a =
        agree_left (d, Token.operator op) ts r2 (λ xs eq. joined_is_no_stop c op j (subst (λ (l : List Token). EndsPhrase (chain c) l) eq h2))
    agree_chain (one_more c op left right e d ts mid r j p g) (one_more c2 op2 left2 right2 e2 d2 ts2 mid2 r2 j2 p2 g2) h h2 a =
        λ same. (refl, agree_expr p p2 (goes_on_stops item_of g h) (goes_on_stops other_of g2 h2) (agree_chain g g2 h h2 a))

  mutual
    agree_program : {d : ℕ} {ts us r s : List Nested} {p q : Program} → ReadsProgram item_of d ts r p → ReadsProgram other_of d us s q
        → EndsProgram (E r) → EndsProgram (E s) → Agree r s → Agree ts us
    agree_program (assigns word n d ts mid r e nx i x y) (assigns word2 n2 d2 ts2 mid2 r2 e2 nx2 i2 x2 y2) h h2 a =
        λ same. (refl, λ becomes. (refl, agree_expr x x2 (next_stops item_of y h) (next_stops other_of y2 h2) (agree_next y y2 h h2 a)))
    agree_program (assigns word n d ts mid r e nx i x y) (requires d2 ts2 mid2 r2 e2 nx2 x2 y2) h h2 a =
        λ same. absurd (apart same refl)
    agree_program (assigns word n d ts mid r e nx i x y) (requires_certain word2 n2 d2 mid2 r2 nx2 i2 y2) h h2 a =
        λ same. absurd (apart same refl)
    agree_program (assigns word n d ts mid r e nx i x y) (returns d2 ts2 mid2 r2 e2 nx2 x2 y2) h h2 a =
        λ same. absurd (apart same refl)
    agree_program (assigns word n d ts mid r e nx i x y) (asks d2 ts2 inside2 mid2 r2 test2 body2 nx2 x2 b2 y2) h h2 a =
        λ same. absurd (apart same refl)
    agree_program (assigns word n d ts mid r e nx i x y) (asks_else d2 ts2 inside2 second2 mid2 r2 test2 body2 other2 nx2 x2 b2 o2 y2) h h2 a =
        λ same. absurd (apart same refl)
    agree_program (requires d ts mid r e nx x y) (assigns word2 n2 d2 ts2 mid2 r2 e2 nx2 i2 x2 y2) h h2 a =
        λ same. absurd (apart same refl)
    agree_program (requires d ts mid r e nx x y) (requires d2 ts2 mid2 r2 e2 nx2 x2 y2) h h2 a =
        λ same. (refl, agree_expr x x2 (next_stops item_of y h) (next_stops other_of y2 h2) (agree_next y y2 h h2 a))
    agree_program (requires d ts mid r e nx x y) (requires_certain word2 n2 d2 mid2 r2 nx2 i2 y2) h h2 a =
        λ same. (refl, agree_right (d2, Token.certain) ((d2, Token.name word2) ∷ mid2) ts (λ xs eq. begins_with_no_certain item_of xs x eq))
    agree_program (requires d ts mid r e nx x y) (returns d2 ts2 mid2 r2 e2 nx2 x2 y2) h h2 a =
        λ same. absurd (apart same refl)
    agree_program (requires d ts mid r e nx x y) (asks d2 ts2 inside2 mid2 r2 test2 body2 nx2 x2 b2 y2) h h2 a =
        λ same. absurd (apart same refl)
    agree_program (requires d ts mid r e nx x y) (asks_else d2 ts2 inside2 second2 mid2 r2 test2 body2 other2 nx2 x2 b2 o2 y2) h h2 a =
        λ same. absurd (apart same refl)
    agree_program (requires_certain word n d mid r nx i y) (assigns word2 n2 d2 ts2 mid2 r2 e2 nx2 i2 x2 y2) h h2 a =
        λ same. absurd (apart same refl)
    agree_program (requires_certain word n d mid r nx i y) (requires d2 ts2 mid2 r2 e2 nx2 x2 y2) h h2 a =
        λ same. (refl, agree_left (d, Token.certain) ((d, Token.name word) ∷ mid) ts2 (λ xs eq. begins_with_no_certain other_of xs x2 eq))
    agree_program (requires_certain word n d mid r nx i y) (requires_certain word2 n2 d2 mid2 r2 nx2 i2 y2) h h2 a =
        λ same. (refl, λ sure. (refl, λ called. (refl, agree_next y y2 h h2 a)))
    agree_program (requires_certain word n d mid r nx i y) (returns d2 ts2 mid2 r2 e2 nx2 x2 y2) h h2 a =
        λ same. absurd (apart same refl)
    agree_program (requires_certain word n d mid r nx i y) (asks d2 ts2 inside2 mid2 r2 test2 body2 nx2 x2 b2 y2) h h2 a =
        λ same. absurd (apart same refl)
    agree_program (requires_certain word n d mid r nx i y) (asks_else d2 ts2 inside2 second2 mid2 r2 test2 body2 other2 nx2 x2 b2 o2 y2) h h2 a =
        λ same. absurd (apart same refl)
    agree_program (returns d ts mid r e nx x y) (assigns word2 n2 d2 ts2 mid2 r2 e2 nx2 i2 x2 y2) h h2 a =
        λ same. absurd (apart same refl)
    agree_program (returns d ts mid r e nx x y) (requires d2 ts2 mid2 r2 e2 nx2 x2 y2) h h2 a =
        λ same. absurd (apart same refl)
    agree_program (returns d ts mid r e nx x y) (requires_certain word2 n2 d2 mid2 r2 nx2 i2 y2) h h2 a =
        λ same. absurd (apart same refl)
    agree_program (returns d ts mid r e nx x y) (returns d2 ts2 mid2 r2 e2 nx2 x2 y2) h h2 a =
        λ same. (refl, agree_expr x x2 (next_stops item_of y h) (next_stops other_of y2 h2) (agree_next y y2 h h2 a))
    agree_program (returns d ts mid r e nx x y) (asks d2 ts2 inside2 mid2 r2 test2 body2 nx2 x2 b2 y2) h h2 a =
        λ same. absurd (apart same refl)
    agree_program (returns d ts mid r e nx x y) (asks_else d2 ts2 inside2 second2 mid2 r2 test2 body2 other2 nx2 x2 b2 o2 y2) h h2 a =
        λ same. absurd (apart same refl)
    agree_program (asks d ts inside mid r test body nx x b y) (assigns word2 n2 d2 ts2 mid2 r2 e2 nx2 i2 x2 y2) h h2 a =
        λ same. absurd (apart same refl)
    agree_program (asks d ts inside mid r test body nx x b y) (requires d2 ts2 mid2 r2 e2 nx2 x2 y2) h h2 a =
        λ same. absurd (apart same refl)
    agree_program (asks d ts inside mid r test body nx x b y) (requires_certain word2 n2 d2 mid2 r2 nx2 i2 y2) h h2 a =
        λ same. absurd (apart same refl)
    agree_program (asks d ts inside mid r test body nx x b y) (returns d2 ts2 mid2 r2 e2 nx2 x2 y2) h h2 a =
        λ same. absurd (apart same refl)
    agree_program (asks d ts inside mid r test body nx x b y) (asks d2 ts2 inside2 mid2 r2 test2 body2 nx2 x2 b2 y2) h h2 a =
        λ same. (refl, agree_expr x x2 tt tt (λ bracket. (refl, agree_program b b2 tt tt (λ close. (refl, agree_next y y2 h h2 a)))))
    agree_program (asks d ts inside mid r test body nx x b y) (asks_else d2 ts2 inside2 second2 mid2 r2 test2 body2 other2 nx2 x2 b2 o2 y2) h h2 a =
        λ same. (refl, agree_expr x x2 tt tt (λ bracket. (refl, agree_program b b2 tt tt (λ close. (refl, agree_right (d2, Token.otherwise) ((d2, Token.opens_body) ∷ second2) mid (λ xs eq. next_is_no_else item_of xs y h eq))))))
    agree_program (asks_else d ts inside second mid r test body other nx x b o y) (assigns word2 n2 d2 ts2 mid2 r2 e2 nx2 i2 x2 y2) h h2 a =
        λ same. absurd (apart same refl)
    agree_program (asks_else d ts inside second mid r test body other nx x b o y) (requires d2 ts2 mid2 r2 e2 nx2 x2 y2) h h2 a =
        λ same. absurd (apart same refl)
    agree_program (asks_else d ts inside second mid r test body other nx x b o y) (requires_certain word2 n2 d2 mid2 r2 nx2 i2 y2) h h2 a =
        λ same. absurd (apart same refl)
    agree_program (asks_else d ts inside second mid r test body other nx x b o y) (returns d2 ts2 mid2 r2 e2 nx2 x2 y2) h h2 a =
        λ same. absurd (apart same refl)
    agree_program (asks_else d ts inside second mid r test body other nx x b o y) (asks d2 ts2 inside2 mid2 r2 test2 body2 nx2 x2 b2 y2) h h2 a =
        λ same. (refl, agree_expr x x2 tt tt (λ bracket. (refl, agree_program b b2 tt tt (λ close. (refl, agree_left (d, Token.otherwise) ((d, Token.opens_body) ∷ second) mid2 (λ xs eq. next_is_no_else other_of xs y2 h2 eq))))))
    agree_program (asks_else d ts inside second mid r test body other nx x b o y) (asks_else d2 ts2 inside2 second2 mid2 r2 test2 body2 other2 nx2 x2 b2 o2 y2) h h2 a =
        λ same. (refl, agree_expr x x2 tt tt (λ bracket. (refl, agree_program b b2 tt tt (λ close. (refl, λ other. (refl, λ open_other. (refl, agree_program o o2 tt tt (λ close_other. (refl, agree_next y y2 h h2 a)))))))))

    agree_next : {d : ℕ} {ts us r s : List Nested} {p q : Program} → ReadsNext item_of d ts r p → ReadsNext other_of d us s q
        → EndsProgram (E r) → EndsProgram (E s) → Agree r s → Agree ts us
    agree_next (last d r) (last d2 r2) h h2 a = a
    agree_next (last d r) (next d2 ts2 r2 p2 q2) h h2 a =
        agree_right (d2, Token.then_next) ts2 r (λ xs eq. subst (λ (l : List Token). EndsProgram l) eq h)
    agree_next (next d ts r p q) (last d2 r2) h h2 a =
        agree_left (d, Token.then_next) ts r2 (λ xs eq. subst (λ (l : List Token). EndsProgram l) eq h2)
    agree_next (next d ts r p q) (next d2 ts2 r2 p2 q2) h h2 a = λ same. (refl, agree_program q q2 h h2 a)

abbrev shallow : List Nested → Bool
shallow placed = list_all (λ t. nat_le t.0 MAX_DEPTH) placed

-- A nesting that agrees with a shallow one is shallow.
not_deep : (before placed : List Nested) (n : ℕ) (t : Token) (after : List Nested) (behind : List Token) → Agree placed (before ++ (n, t) ∷ after)
    → without_nestings placed ≡ without_nestings before ++ t ∷ behind → IsTrue (shallow placed) → MAX_DEPTH < n → ⊥
not_deep [] [] n t after behind a e h deep = absurd cc
not_deep (x ∷ before) [] n t after behind a e h deep = absurd cc
not_deep [] (y ∷ placed) n t after behind a e h deep =
    let same : y.0 ≡ n = (a (heads e)).0 in
    let low : y.0 ≤ MAX_DEPTH = leb-true y.0 MAX_DEPTH (and-left (nat_le y.0 MAX_DEPTH) (shallow placed) h) in
    omega (arith, same, low, deep)
not_deep (x ∷ before) (y ∷ placed) n t after behind a e h deep =
    not_deep before placed n t after behind (a (heads e)).1 (tails e) (and-right (nat_le y.0 MAX_DEPTH) (shallow placed) h) deep

-- ---- and so a program text has none of the causes

whole : (catalog : Declared) (tokens : List Token) (p : Program) → AreProgram (item_in catalog) tokens p → AreSomeProgram tokens
whole catalog tokens p a =
    let x = any_program (item_in catalog) a.reads in
    (x.0, record { placed = a.placed; same = a.same; reads = x.1 })

split_tokens : (front : List (ℕ × Token)) (x : ℕ × Token) (behind : List (ℕ × Token)) → without_numbers (front ++ x ∷ behind) ≡ without_numbers front ++ x.1 ∷ without_numbers behind
split_tokens front x behind = map-append (λ (t : ℕ × Token). t.1) front (x ∷ behind)

pub no_kind : (catalog : Declared) (text : List ℕ) (p : Program) (kind : Kind) (column : ℕ) → IsProgramText catalog text p → HasFaultAt catalog text kind column → ⊥
no_kind catalog text p malformed column a f =
    let tokens : a.tokens ≡ f.0 = one_token_list a.has f.1 in
    let moved = subst (λ (ts : List (ℕ × Token)). AreProgram (item_in catalog) (without_numbers ts) p) tokens a.are in
    no_fault AreSomeProgram f.0 (length text + 1) column (whole catalog (without_numbers f.0) p moved) f.2
no_kind catalog text p unknown_name column a f =
    let tokens : a.tokens ≡ f.front ++ (column, Token.name f.name) ∷ f.later = one_token_list a.has f.has in
    let are = sym a.are.same ∙ ap without_numbers tokens ∙ split_tokens f.front (column, Token.name f.name) f.later in
    let known = known_inside (item_in catalog) a.are.placed (without_numbers f.front) f.name (without_numbers f.later) (known_program (item_in catalog) a.are.reads tt) are in
    none-some known.0 (sym f.none ∙ known.1)
no_kind catalog text p too_deep column a f =
    let tokens : a.tokens ≡ f.front ++ (column, f.token) ∷ f.later = one_token_list a.has f.has in
    let are = sym a.are.same ∙ ap without_numbers tokens ∙ split_tokens f.front (column, f.token) f.later
    ∙ ap (λ (l : List Token). l ++ f.token ∷ without_numbers f.later) f.same in
    let agree = agree_program (item_in catalog) any_item a.are.reads f.reads tt tt tt in
    not_deep f.before a.are.placed f.nesting f.token f.after (without_numbers f.later) agree are a.shallow f.deep

pub no_refusal : (catalog : Declared) (text : List ℕ) (p : Program) (r : Refusal) → IsProgramText catalog text p → IsRefused catalog text r → ⊥
no_refusal catalog text p (too_large n) a f = omega (arith, a.short, f.0, f.1)
no_refusal catalog text p (at_fault kind column) a f = no_kind catalog text p kind column a f.1.has
