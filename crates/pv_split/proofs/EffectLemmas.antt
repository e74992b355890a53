-- What a program does at each assignment, place by place, and that it may run there.
use Rattle.std.proofs.Common.{◌≡◌, ℕ, ℤ, ◌+◌, ◌<◌, ◌≤◌, ◌^◌, Bool, false, ◌&&◌, List, [], ◌∷◌, ◌++◌, map, take, get_or, length, cond, IsTrue, refl, sym, ap, ap₂, subst, ◌∙◌, arith}
use Rattle.std.specs.Prelude.{Option, Some, pos, All, ◌==◌}
use Rattle.std.specs.Option.{unwrap_or}
use Rattle.std.proofs.lemmas.List.{get_or-map, length-map, map-append, take_all, take_more}
use Rattle.pv_base.specs.declared.txn.TxnId.{TxnId}
use Rattle.pv_base.specs.Assignment.{assignments}
use Rattle.pv_base.specs.Polyvalue.{Case, value_at, AreValues}
use Rattle.pv_model.specs.Alternatives.{Read, number_at, rows_at}
use Rattle.pv_model.specs.Items.{lacks, has_once, has_items, has_all_items}
use Rattle.pv_model.specs.Meaning.{Row, Effect, items_of_rows, exec}
use Rattle.pv_model.specs.Syntax.{Expr, number, item, minus, negation, two, Program, end, assign, require, certain, return, when, when_else}
use Rattle.pv_base.proofs.Basics.{heads, tails}
use Rattle.pv_law_polyvalues.proofs.TableLemmas.{length-assignments}
use Rattle.pv_split.specs.Columns.{Column, column_of, columns_of, row_at, effects_at}

-- The columns.

numbers-at : (values : List ℤ) (cases : List (Case ℤ)) (all : List (List TxnId)) → map Some values ≡ map (value_at cases) all → values ≡ map (number_at cases) all
numbers-at [] cases [] same = refl
numbers-at [] cases (a ∷ all) same = absurd (omega (arith, ap length same))
numbers-at (v ∷ values) cases [] same = absurd (omega (arith, ap length same))
numbers-at (v ∷ values) cases (a ∷ all) same =
    ap (λ (o : Option ℤ). unwrap_or o (pos 0) ∷ values) (heads same)
    ∙ ap (λ (rest : List ℤ). number_at cases a ∷ rest) (numbers-at values cases all (tails same))

-- One more column is there.
pub columns-next : (reads : List Read) (txns : List TxnId) (i : ℕ) (read : Read) (column : Column) (columns more : List Column) → i < length reads → read ≡ get_or reads i read
    → column.item ≡ read.item → AreValues read.cases txns column.values → columns ≡ columns_of (take i reads) txns → more ≡ columns ++ column ∷ []
    → more ≡ columns_of (take (i + 1) reads) txns
columns-next reads txns i read column columns more within is same-item are before behind =
    let same : column ≡ column_of txns read = λ j. record { item = same-item j; values = numbers-at column.values read.cases (assignments txns) are j } in
    behind
    ∙ ap₂ (λ (some : List Column) (one : Column). some ++ one ∷ []) before (same ∙ ap (column_of txns) is)
    ∙ sym (map-append (column_of txns) (take i reads) (get_or reads i read ∷ []))
    ∙ sym (ap (λ (some : List Read). columns_of some txns) (take_more reads i read within))

-- Each column has a value at each place.
pub columns-long : (reads : List Read) (txns : List TxnId) (place : ℕ) (columns : List Column) → place < 2 ^ length txns → columns ≡ columns_of reads txns
    → All (λ column. place < length column.values) columns
columns-long reads txns place columns within are =
    subst (All (λ column. place < length column.values)) (sym are) (λ k d inside. long k d (omega (arith, inside, length-map reads (column_of txns))))
  where
    long : (k : ℕ) (d : Column) → k < length reads → place < length (get_or (columns_of reads txns) k d).values
    long k d inside =
        let read = get_or reads k (record { item = 0; cases = [] }) in
        subst (λ (column : Column). place < length column.values) (sym (get_or-map (column_of txns) reads k (record { item = 0; cases = [] }) d inside))
        (omega (arith, within, length-assignments txns, length-map (assignments txns) (number_at read.cases)))

-- The rows at a place of the columns are those at the assignment at this place.
rows-in-columns : (reads : List Read) (txns : List TxnId) (place : ℕ) → place < 2 ^ length txns
    → map (row_at place) (columns_of reads txns) ≡ rows_at reads (get_or (assignments txns) place [])
rows-in-columns [] txns place within = refl
rows-in-columns (read ∷ reads) txns place within =
    ap₂ (λ (value : ℤ) (rows : List Row). record { item = read.item; value = value } ∷ rows)
    (get_or-map (number_at read.cases) (assignments txns) place [] (pos 0) (omega (arith, within, length-assignments txns)))
    (rows-in-columns reads txns place within)

-- Whether rows have each item of a program once depends on their items alone.

lacks-alike : (rows others : List Row) (n : ℕ) → items_of_rows rows ≡ items_of_rows others → lacks rows n ≡ lacks others n
lacks-alike [] [] n same = refl
lacks-alike [] (row ∷ others) n same = absurd (omega (arith, ap length same))
lacks-alike (row ∷ rows) [] n same = absurd (omega (arith, ap length same))
lacks-alike (row ∷ rows) (other ∷ others) n same =
    ap₂ (λ (m : ℕ) (rest : Bool). cond (m == n) false rest) (heads same) (lacks-alike rows others n (tails same))

has_once-alike : (rows others : List Row) (n : ℕ) → items_of_rows rows ≡ items_of_rows others → has_once rows n ≡ has_once others n
has_once-alike [] [] n same = refl
has_once-alike [] (row ∷ others) n same = absurd (omega (arith, ap length same))
has_once-alike (row ∷ rows) [] n same = absurd (omega (arith, ap length same))
has_once-alike (row ∷ rows) (other ∷ others) n same =
    ap₂ (λ (m : ℕ) (rest : Bool). cond (m == n) rest (has_once rows n)) (heads same) (lacks-alike rows others n (tails same))
    ∙ ap (λ (rest : Bool). cond (other.item == n) (lacks others n) rest) (has_once-alike rows others n (tails same))

has_items-alike : (e : Expr) (rows others : List Row) → items_of_rows rows ≡ items_of_rows others → has_items rows e ≡ has_items others e
has_items-alike (number z) rows others same = refl
has_items-alike (item n) rows others same = has_once-alike rows others n same
has_items-alike (minus e) rows others same = has_items-alike e rows others same
has_items-alike (negation e) rows others same = has_items-alike e rows others same
has_items-alike (two op left right) rows others same =
    ap₂ (λ (b c : Bool). b && c) (has_items-alike left rows others same) (has_items-alike right rows others same)

pub has_all_items-alike : (program : Program) (rows others : List Row) → items_of_rows rows ≡ items_of_rows others → has_all_items rows program ≡ has_all_items others program
has_all_items-alike end rows others same = refl
has_all_items-alike (assign n e next) rows others same =
    ap₂ (λ (b c : Bool). b && c) (ap₂ (λ (b c : Bool). b && c) (has_once-alike rows others n same) (has_items-alike e rows others same)) (has_all_items-alike next rows others same)
has_all_items-alike (require e next) rows others same =
    ap₂ (λ (b c : Bool). b && c) (has_items-alike e rows others same) (has_all_items-alike next rows others same)
has_all_items-alike (certain n next) rows others same =
    ap₂ (λ (b c : Bool). b && c) (has_once-alike rows others n same) (has_all_items-alike next rows others same)
has_all_items-alike (return e next) rows others same =
    ap₂ (λ (b c : Bool). b && c) (has_items-alike e rows others same) (has_all_items-alike next rows others same)
has_all_items-alike (when e body next) rows others same =
    ap₂ (λ (b c : Bool). b && c) (ap₂ (λ (b c : Bool). b && c) (has_items-alike e rows others same) (has_all_items-alike body rows others same)) (has_all_items-alike next rows others same)
has_all_items-alike (when_else e body other next) rows others same =
    ap₂ (λ (b c : Bool). b && c)
    (ap₂ (λ (b c : Bool). b && c) (ap₂ (λ (b c : Bool). b && c) (has_items-alike e rows others same) (has_all_items-alike body rows others same)) (has_all_items-alike other rows others same))
    (has_all_items-alike next rows others same)

items-of-rows_at : (reads : List Read) (a b : List TxnId) → items_of_rows (rows_at reads a) ≡ items_of_rows (rows_at reads b)
items-of-rows_at [] a b = refl
items-of-rows_at (read ∷ reads) a b = ap (λ (rest : List ℕ). read.item ∷ rest) (items-of-rows_at reads a b)

-- The program may run at each place.
pub runs-at : (program : Program) (reads : List Read) (txns : List TxnId) (place : ℕ) (columns : List Column) (rows : List Row) → place < 2 ^ length txns
    → IsTrue (has_all_items (rows_at reads []) program) → columns ≡ columns_of reads txns → rows ≡ map (row_at place) columns → IsTrue (has_all_items rows program)
runs-at program reads txns place columns rows within has are is =
    let at = get_or (assignments txns) place [] in
    ap (λ (some : List Row). has_all_items some program) (is ∙ ap (map (row_at place)) are ∙ rows-in-columns reads txns place within)
    ∙ has_all_items-alike program (rows_at reads at) (rows_at reads []) (items-of-rows_at reads at [])
    ∙ has

-- The effects.

-- One more effect is there.
pub effects-next : (program : Program) (reads : List Read) (txns : List TxnId) (place : ℕ) (columns : List Column) (rows : List Row) (effect : Effect) (effects more : List Effect)
    → place < 2 ^ length txns → columns ≡ columns_of reads txns → rows ≡ map (row_at place) columns → effect ≡ exec program rows
    → effects ≡ map (λ assignment. exec program (rows_at reads assignment)) (take place (assignments txns)) → more ≡ effects ++ effect ∷ []
    → more ≡ map (λ assignment. exec program (rows_at reads assignment)) (take (place + 1) (assignments txns))
effects-next program reads txns place columns rows effect effects more within are is does before behind =
    let at = get_or (assignments txns) place [] in
    let f : List TxnId → Effect = λ assignment. exec program (rows_at reads assignment) in
    let row : rows ≡ rows_at reads at = is ∙ ap (map (row_at place)) are ∙ rows-in-columns reads txns place within in
    behind
    ∙ ap₂ (λ (some : List Effect) (one : Effect). some ++ one ∷ []) before (does ∙ ap (exec program) row)
    ∙ sym (map-append f (take place (assignments txns)) (at ∷ []))
    ∙ sym (ap (map f) (take_more (assignments txns) place [] (omega (arith, within, length-assignments txns))))

-- All effects are there.
pub effects-end : (program : Program) (reads : List Read) (txns : List TxnId) (place : ℕ) (effects : List Effect) → 2 ^ length txns ≤ place
    → effects ≡ map (λ assignment. exec program (rows_at reads assignment)) (take place (assignments txns)) → effects ≡ effects_at program reads txns
effects-end program reads txns place effects past all =
    all ∙ ap (map (λ assignment. exec program (rows_at reads assignment))) (take_all place (assignments txns) (omega (arith, past, length-assignments txns)))

pub length-effects : (program : Program) (reads : List Read) (txns : List TxnId) → length (effects_at program reads txns) ≡ 2 ^ length txns
length-effects program reads txns = length-map (assignments txns) (λ assignment. exec program (rows_at reads assignment)) ∙ length-assignments txns
