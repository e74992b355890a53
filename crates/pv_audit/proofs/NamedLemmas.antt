-- Items that are declared have names, and no two the same.
use Rattle.std.proofs.Common.{◌≡◌, ◌⊎◌, ℕ, zero, suc, ◌+◌, ◌<◌, ◌≤◌, List, [], ◌∷◌, ◌++◌, length, inl, inr, refl, sym, ap, subst, ◌∙◌, arith, length-append}
use Rattle.std.specs.Prelude.{IsTrue, slice_get}
use Rattle.std.specs.List.{All}
use Rattle.std.specs.Option.{option_map_or}
use Rattle.std.proofs.lemmas.Bool.{cases_lt}
use Rattle.std.proofs.lemmas.List.Elements.{All-push}
use Rattle.pv_audit.specs.Printed.{AreNamed}
use Rattle.pv_audit.proofs.ItemNameLemmas.{no-item}
use Rattle.pv_base.specs.Catalog.{Declared, Item}
use Rattle.pv_base.specs.Name.{is_name}
use Rattle.pv_model.specs.Events.{Event, Schedule}
use Rattle.pv_model.specs.LineCauses.{Before, at_first, declared_by}
use Rattle.pv_model.specs.LineForms.{scheduled}
use Rattle.pv_model.specs.Schedule.{AreLines, Declares, IsSchedule, declaration, event, none}
use Rattle.pv_model.specs.Text.{TextLine}

-- the name of the item of this number
abbrev name-in : List Item → ℕ → List ℕ
name-in items n = option_map_or (λ (item : Item). item.name) (slice_get items n) []

-- No other item has the name of one.
abbrev AreApart : List Item → Type 0
AreApart items = (m n : ℕ) → m < length items → n < length items → name-in items m ≡ name-in items n → m ≡ n

name-old : (items : List Item) (item : Item) (n : ℕ) → n < length items → name-in (items ++ item ∷ []) n ≡ name-in items n
name-old [] item n below = absurd (omega (arith, below))
name-old (x ∷ items) item zero below = refl
name-old (x ∷ items) item (suc n) below = name-old items item n (omega (arith, below))

name-new : (items : List Item) (item : Item) (n : ℕ) → n ≡ length items → name-in (items ++ item ∷ []) n ≡ item.name
name-new [] item zero is = refl
name-new [] item (suc n) is = absurd (omega (arith, is))
name-new (x ∷ items) item zero is = absurd (omega (arith, is))
name-new (x ∷ items) item (suc n) is = name-new items item n (omega (arith, is))

-- a number is that of an old item, or of the new one
old-or-new : (m n : ℕ) → m < n + 1 → (m < n) ⊎ (m ≡ n)
old-or-new m n below = go (cases_lt m n)
  where
    go : (m < n) ⊎ (n ≤ m) → (m < n) ⊎ (m ≡ n)
    go (inl less) = inl less
    go (inr more) = inr (let same : m ≡ n = omega (arith, below, more) in same)

apart-more : (items : List Item) (item : Item) → AreApart items → ((n : ℕ) → n < length items → item.name ≡ name-in items n → ⊥) → AreApart (items ++ item ∷ [])
apart-more items item apart new m n here there same =
    let many = length-append items (item ∷ []) in
    go (old-or-new m (length items) (omega (arith, here, many))) (old-or-new n (length items) (omega (arith, there, many)))
  where
    go : ((m < length items) ⊎ (m ≡ length items)) → ((n < length items) ⊎ (n ≡ length items)) → m ≡ n
    go (inl a) (inl b) = apart m n a b (sym (name-old items item m a) ∙ same ∙ name-old items item n b)
    go (inl a) (inr b) = absurd (new m a (sym (name-new items item n b) ∙ sym same ∙ name-old items item m a))
    go (inr a) (inl b) = absurd (new n b (sym (name-new items item m a) ∙ same ∙ name-old items item n b))
    go (inr a) (inr b) = a ∙ sym b

-- ---- what is declared

pub named-first : AreNamed (declared_by (at_first scheduled))
named-first = record { names = λ k d below. absurd (omega (arith, below)); apart = λ m n here there same. absurd (omega (arith, here)) }

same-items : (a b : Declared) → a.items ≡ b.items → AreNamed a → AreNamed b
same-items a b same named = record {
  names = subst (λ (items : List Item). All (λ (item : Item). IsTrue (is_name item.name)) items) same named.names;
  apart = subst AreApart same named.apart;
}

pub named-after : (before after : Before) (line : TextLine) → Declares before line after → AreNamed (declared_by before) → AreNamed (declared_by after)
named-after before after line (inl x) named = same-items _ (declared_by after) (ap (λ (b : Before). b.items) (sym x.same)) named
named-after before after line (inr (inl x)) named = same-items _ (declared_by after) (ap (λ (b : Before). b.items) (sym x.same)) named
named-after before after line (inr (inr (inl x))) named =
    let items : after.items ≡ before.items ++ x.item ∷ [] = ap (λ (b : Before). b.items) x.same in
    record {
      names = subst (λ (all : List Item). All (λ (item : Item). IsTrue (is_name item.name)) all) (sym items)
          (All-push (λ (item : Item). IsTrue (is_name item.name)) before.items x.item named.names x.name);
      apart = subst AreApart (sym items)
          (apart-more before.items x.item named.apart (λ n below same. no-item (declared_by before) x.item.name n x.free below same));
    }
named-after before after line (inr (inr (inr (inl x)))) named = same-items _ (declared_by after) (ap (λ (b : Before). b.items) (sym x.same)) named
named-after before after line (inr (inr (inr (inr (inl x))))) named = same-items _ (declared_by after) (ap (λ (b : Before). b.items) (sym x.same)) named
named-after before after line (inr (inr (inr (inr (inr (inl x)))))) named = same-items _ (declared_by after) (ap (λ (b : Before). b.items) (sym x.same)) named
named-after before after line (inr (inr (inr (inr (inr (inr x)))))) named = same-items _ (declared_by after) (ap (λ (b : Before). b.items) (sym x.same)) named

named-lines : {before last : Before} {lines : List TextLine} {events : List Event} → AreLines before lines events last → AreNamed (declared_by before) → AreNamed (declared_by last)
named-lines (none before) named = named
named-lines (declaration before after last line lines events declares more) named = named-lines more (named-after before after line declares named)
named-lines (event before last line lines e events is more) named = named-lines more named

pub schedule-named : (text : List ℕ) (schedule : Schedule) → IsSchedule text schedule → AreNamed schedule.catalog
schedule-named text schedule is = subst AreNamed (sym is.catalog) (named-lines is.are named-first)
