-- Boxes that are made one by one, the last one first.
use Rattle.std.proofs.Common.{◌≡◌, ℕ, zero, suc, ◌+◌, ◌<◌, Option, Some, List, [], ◌∷◌, ◌++◌, length, get_or, option_to_list, reverse, sym, ◌∙◌, ap, subst, arith}
use Rattle.std.specs.Prelude.{⊤, slice_get}
use Rattle.std.proofs.lemmas.List.{length_push, length-reverse, reverse-append}
use Rattle.std.proofs.lemmas.Option.{get_or_from_slice_get, slice_get_within}
use Rattle.pv_base.specs.Catalog.{Declared}
use Rattle.pv_cell.specs.declared.site_box.SiteBox.{SiteBox}
use Rattle.pv_disk_model.specs.LogModel.{LogModel}
use Rattle.pv_mail.specs.declared.ends.Ends.{Ends}
use Rattle.pv_opening.proofs.PlaceLemmas.{last-place, left-place}
use Rattle.pv_opening.specs.Boxing.{AreBoxed, AreEndsAt, HaveEach, HaveSome, IsBoxAt, IsLastOf}
use Rattle.pv_opening.specs.Opened.{IsNewBox}
use Rattle.pv_opening.specs.Opening.{AreNew, IsNew}
use Rattle.pv_opening.specs.declared.boxing.EndRows.{EndRows}
use Rattle.pv_site.specs.SiteState.{SiteState}

-- ## What is taken from the end
-- The ones are the first of the others.
abbrev pub Begin : {A : Type 0} → List A → List A → Type 0
Begin {A} some all = (n : ℕ) (x : A) → slice_get some n ≡ Some x → slice_get all n ≡ Some x

module _ {A : Type 0} (before after : List A) (last : A) (is : before ≡ after ++ last ∷ []) where
  pub one-less : (n : ℕ) → length before ≡ n + 1 → length after ≡ n
  one-less n long = let less = ap (λ l. length l) is ∙ length_push after last in omega (arith, long, less)

  pub begin-left : (all : List A) → Begin before all → Begin after all
  begin-left all begins n x there =
      begins n x (ap (λ l. slice_get l n) is ∙ left-place after n x last there)

  pub last-stands : (all : List A) (n : ℕ) → Begin before all → length after ≡ n → slice_get all n ≡ Some last
  last-stands all n begins long = begins n last (ap (λ l. slice_get l n) is ∙ ap (λ m. slice_get (after ++ last ∷ []) m) (sym long) ∙ last-place after last)

-- So are the rows of each kind.
abbrev pub RowsBegin : EndRows → EndRows → Type 0
RowsBegin some all =
    Begin some.sites_in.items all.sites_in.items × Begin some.sites_out.items all.sites_out.items × Begin some.clients_in.items all.clients_in.items
    × Begin some.clients_out.items all.clients_out.items

pub popped : {A : Type 0} (before after : List A) (last : A) (result : Option A) → before ≡ after ++ option_to_list result → result ≡ Some last
    → before ≡ after ++ last ∷ []
popped before after last result items is = items ∙ ap (λ r. after ++ option_to_list r) is

pub one-more : {A : Type 0} (before after : List A) (last : A) → before ≡ after ++ last ∷ [] → (n : ℕ) → n ≡ length after → length before ≡ n + 1
one-more before after last is n same = ap (λ l. length l) is ∙ length_push after last ∙ ap (λ m. m + 1) (sym same)

pub none-more : (n : ℕ) → 0 + n ≡ n
none-more n = omega arith

pub have-some : (n : ℕ) (rows : EndRows) → HaveEach (n + 1) rows → HaveSome rows
have-some n rows have =
    let one = have.0 in
    let two = have.1 in
    let three = have.2 in
    let four = have.3 in
    (omega (arith, one), omega (arith, two), omega (arith, three), omega (arith, four))

module _ (n : ℕ) (all before after : EndRows) (ends : Ends) (last : IsLastOf before after ends) (have : HaveEach (n + 1) before) where
  pub rows-less : HaveEach n after
  rows-less = (
    one-less before.sites_in.items after.sites_in.items ends.sites_in last.0 n have.0,
    one-less before.sites_out.items after.sites_out.items ends.sites_out last.1 n have.1,
    one-less before.clients_in.items after.clients_in.items ends.clients_in last.2 n have.2,
    one-less before.clients_out.items after.clients_out.items ends.clients_out last.3 n have.3,
  )

  module _ (begin : RowsBegin before all) where
    pub rows-left : RowsBegin after all
    rows-left = (
      begin-left before.sites_in.items after.sites_in.items ends.sites_in last.0 all.sites_in.items begin.0,
      begin-left before.sites_out.items after.sites_out.items ends.sites_out last.1 all.sites_out.items begin.1,
      begin-left before.clients_in.items after.clients_in.items ends.clients_in last.2 all.clients_in.items begin.2,
      begin-left before.clients_out.items after.clients_out.items ends.clients_out last.3 all.clients_out.items begin.3,
    )

    pub ends-stand : AreEndsAt all n ends
    ends-stand = (
      last-stands before.sites_in.items after.sites_in.items ends.sites_in last.0 all.sites_in.items n begin.0 rows-less.0,
      last-stands before.sites_out.items after.sites_out.items ends.sites_out last.1 all.sites_out.items n begin.1 rows-less.1,
      last-stands before.clients_in.items after.clients_in.items ends.clients_in last.2 all.clients_in.items n begin.2 rows-less.2,
      last-stands before.clients_out.items after.clients_out.items ends.clients_out last.3 all.clients_out.items n begin.3 rows-less.3,
    )

-- ## Boxes from the last one on
-- Each is so by its number, from this one on.
abbrev pub From : {A : Type 0} → (ℕ → A → Type 0) → ℕ → List A → Type 0
From R n [] = ⊤
From R n (x ∷ xs) = R n x × From R (n + 1) xs

from-at : {A : Type 0} (R : ℕ → A → Type 0) (n : ℕ) (xs : List A) → From R n xs → (k : ℕ) (d : A) → k < length xs → R (n + k) (get_or xs k d)
from-at R n [] are k d less = absurd (omega (arith, less))
from-at R n (x ∷ xs) are zero d less = let same : n ≡ n + 0 = omega arith in subst (λ m. R m x) same are.0
from-at R n (x ∷ xs) are (suc k) d less =
    let same : (n + 1) + k ≡ n + suc k = omega arith in
    subst (λ m. R m (get_or xs k d)) same (from-at R (n + 1) xs are.1 k d (omega (arith, less)))

module _ {W : Type 0} (M : LogModel W) (catalog : Declared) (sites : List (SiteState W)) (rows : EndRows) where
  abbrev pub BoxedFrom : ℕ → List (SiteBox W) → Type 0
  BoxedFrom n boxes = From (IsBoxAt M catalog sites rows) n (reverse boxes)

  pub boxed-none : (boxes : List (SiteBox W)) → boxes ≡ [] → BoxedFrom (length sites) boxes
  boxed-none boxes none = subst (λ l. BoxedFrom (length sites) l) (sym none) tt

  -- The site of this number, which was the last one left.
  module _ (n : ℕ) (before after : List (SiteState W)) (site : SiteState W) (is : before ≡ after ++ site ∷ []) (long : length after ≡ n)
      (begins : Begin before sites) (new : AreNew M catalog sites) where
    pub site-number : n < catalog.sites
    site-number = subst (λ m. n < m) new.0 (slice_get_within sites n site (last-stands before after site is sites n begins long))

    pub site-new : IsNew M catalog n site
    site-new =
        let there = last-stands before after site is sites n begins long in
        subst (λ s. IsNew M catalog n s) (get_or_from_slice_get sites n site site there) (new.1 n site (slice_get_within sites n site there))

    pub boxed-more : (boxes : List (SiteBox W)) (box : SiteBox W) (ends : Ends) → IsNewBox M catalog n site box → box.ends ≡ ends → AreEndsAt rows n ends
        → BoxedFrom (length before) boxes → BoxedFrom n (boxes ++ box ∷ [])
    boxed-more boxes box ends fresh same stand are =
        let less : length before ≡ n + 1 = ap (λ l. length l) is ∙ length_push after site ∙ ap (λ m. m + 1) long in
        subst (λ l. From (IsBoxAt M catalog sites rows) n l) (sym (reverse-append boxes (box ∷ []))) (
          record {
            site = last-stands before after site is sites n begins long ∙ ap (λ s. Some s) (sym fresh.site_is);
            new = subst (λ s. IsNewBox M catalog n s box) (sym fresh.site_is) fresh;
            ends = subst (λ e. AreEndsAt rows n e) (sym same) stand;
          },
          subst (λ m. BoxedFrom m boxes) less are,
        )

  pub boxed-all : (boxes : List (SiteBox W)) → length boxes + 0 ≡ length sites → BoxedFrom 0 boxes → AreBoxed M catalog sites rows (reverse boxes)
  boxed-all boxes long are = (
    (let same = length-reverse boxes in omega (arith, same, long)),
    λ n any less. subst (λ m. IsBoxAt M catalog sites rows m (get_or (reverse boxes) n any)) (none-more n)
        (from-at (IsBoxAt M catalog sites rows) 0 (reverse boxes) are n any less),
  )
