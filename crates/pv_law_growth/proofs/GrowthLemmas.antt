-- What items that come behind the others leave as it was.
use Rattle.std.proofs.Common.{◌≡◌, ℕ, ◌+◌, ◌<◌, ◌≤◌, zero, suc, Bool, true, false, List, [], ◌∷◌, ◌++◌, length, All, refl, sym, ap, ◌∙◌, subst, arith}
use Rattle.std.specs.Prelude.{◌&&◌, ◌==◌, if◌then◌else◌, slice_get, ℤ, IsTrue}
use Rattle.std.specs.List.{Contains}
use Rattle.std.specs.Ordering.{int_eq}
use Rattle.std.proofs.lemmas.Bool.{false_from_ne_true}
use Rattle.std.proofs.lemmas.List.{length-append}
use Rattle.std.proofs.lemmas.List.Elements.{All-contains, All-weaker}
use Rattle.pv_base.specs.Canonical.{canonical_cases}
use Rattle.pv_base.specs.Catalog.{Declared, Item}
use Rattle.pv_base.specs.Want.{Want}
use Rattle.pv_base.specs.declared.txn.TxnId.{TxnId}
use Rattle.pv_format.specs.Record.{Record}
use Rattle.pv_law_growth.specs.Growth.{HasGrown}
use Rattle.pv_model.specs.Check.{names_item}
use Rattle.pv_model.specs.Plan.{participants_of, sites_from, wants_from, wants_of, want_of, with_participant}
use Rattle.pv_model.specs.Syntax.{Program}
use Rattle.pv_protocol.specs.Records.{choice}
use Rattle.pv_protocol.specs.Shown.{declared_or_zero, declared_value, item_value, names_within, newest, shown, shown_within}
use Rattle.pv_protocol.specs.WellFormed.{CanRun}

-- ## Values
pub front-get : {X : Type 0} (xs ys : List X) (i : ℕ) → i < length xs → slice_get (xs ++ ys) i ≡ slice_get xs i
front-get [] ys i below = absurd (omega (arith, below))
front-get (x ∷ xs) ys zero below = refl
front-get (x ∷ xs) ys (suc i) below = front-get xs ys i (omega (arith, below))

neither : {X : Type 0} (test : Bool) (x y : X) → (if test && false then x else y) ≡ y
neither true x y = refl
neither false x y = refl

module _ (catalog later : Declared) (grown : HasGrown catalog later) where
  declared-same : (item : ℕ) → item < length catalog.items → declared_value later item ≡ declared_value catalog item
  declared-same item below =
      ap (λ (items : List Item). declared_or_zero (slice_get items item)) grown.items ∙ ap declared_or_zero (front-get catalog.items grown.more item below)

  pub same-value : (records : List Record) (item : ℕ) (assignment : List TxnId) → item < length catalog.items
      → item_value later records item assignment ≡ item_value catalog records item assignment
  same-value records item assignment below = ap (λ (value : ℤ). newest item (choice records assignment) value records) (declared-same item below)

  pub same-shown : (records : List Record) (item : ℕ) → item < length catalog.items → shown later records item ≡ shown catalog records item
  unfolding shown_within
  same-shown records item below =
      ap (λ (value : ℤ). canonical_cases int_eq (names_within records item [] records) (λ (assignment : List TxnId). newest item (choice records assignment) value records))
      (declared-same item below)

  -- ## Programs
  longer : length catalog.items ≤ length later.items
  longer = let all = ap (λ (items : List Item). length items) grown.items ∙ length-append catalog.items grown.more in omega (arith, all)

  pub runs-still : (program : Program) → CanRun catalog program → CanRun later program
  runs-still program can =
      let runs = can.runnable in
      record {
        runnable = record {
          items = runs.items;
          are = runs.are;
          some = runs.some;
          few = runs.few;
          known = All-weaker (λ n. n < length catalog.items) (λ n. n < length later.items) (λ n below. omega (arith, below, longer)) runs.items runs.known;
        };
        numbers = can.numbers;
      }

  module _ (program : Program) (can : CanRun catalog program) where
    not-named : (n : ℕ) → length catalog.items ≤ n → names_item program n ≡ false
    not-named n beyond =
        false_from_ne_true (names_item program n)
        (λ named.
        let below = All-contains (λ k. k < length catalog.items) can.runnable.items n can.runnable.known (can.runnable.are.whole n named) in
        omega (arith, below, beyond))

    -- Items from here on that the program doesn't name bring no participant and no want.
    no-sites : (k : ℕ) (items : List Item) → length catalog.items ≤ k → sites_from program k items ≡ []
    no-sites k [] beyond = refl
    no-sites k (item ∷ items) beyond =
        ap (λ (named : Bool). if named then with_participant item.site (sites_from program (k + 1) items) else sites_from program (k + 1) items) (not-named k beyond)
        ∙ no-sites (k + 1) items (omega (arith, beyond))

    same-sites : (k : ℕ) (items more : List Item) → length catalog.items ≤ k + length items → sites_from program k (items ++ more) ≡ sites_from program k items
    same-sites k [] more long = no-sites k more (omega (arith, long))
    same-sites k (item ∷ items) more long =
        ap (λ (rest : List ℕ). if names_item program k then with_participant item.site rest else rest) (same-sites (k + 1) items more (omega (arith, long)))

    no-wants : (site k : ℕ) (items : List Item) → length catalog.items ≤ k → wants_from program site k items ≡ []
    no-wants site k [] beyond = refl
    no-wants site k (item ∷ items) beyond =
        ap (λ (named : Bool). if item.site == site && named then want_of program k ∷ wants_from program site (k + 1) items else wants_from program site (k + 1) items) (not-named k beyond)
        ∙ neither (item.site == site) (want_of program k ∷ wants_from program site (k + 1) items) (wants_from program site (k + 1) items)
        ∙ no-wants site (k + 1) items (omega (arith, beyond))

    same-wants : (site k : ℕ) (items more : List Item) → length catalog.items ≤ k + length items → wants_from program site k (items ++ more) ≡ wants_from program site k items
    same-wants site k [] more long = no-wants site k more (omega (arith, long))
    same-wants site k (item ∷ items) more long =
        ap (λ (rest : List Want). if item.site == site && names_item program k then want_of program k ∷ rest else rest) (same-wants site (k + 1) items more (omega (arith, long)))

    pub same-participants : participants_of program later.items ≡ participants_of program catalog.items
    same-participants = ap (participants_of program) grown.items ∙ same-sites 0 catalog.items grown.more (omega arith)

    pub same-wants-of : (site : ℕ) → wants_of program later.items site ≡ wants_of program catalog.items site
    same-wants-of site = ap (λ (items : List Item). wants_of program items site) grown.items ∙ same-wants site 0 catalog.items grown.more (omega arith)
