-- One content after another is renewed.
use Rattle.std.proofs.Common.{◌≡◌, ℕ, suc, ◌+◌, List, [], ◌∷◌, ◌++◌, length, Option, Some, None, Result, Ok, Err, add-one, refl, sym, ap, subst, ◌∙◌, arith}
use Rattle.std.specs.Prelude.{MatchOption, OnOk, Vec}
use Rattle.std.specs.declared.alloc.Global.{Global}
use Rattle.std.proofs.lemmas.List.Sums.{sum_by-append}
use Rattle.pv_disk_model.specs.Size.{Contents, size_of}
use Rattle.pv_format.specs.Record.{Record}
use Rattle.pv_format.specs.RecordSpelling.{SpellsOldRecord, SpellsRecord}
use Rattle.pv_replay.specs.Values.{contents_of}
use Rattle.pv_upgrade.proofs.RenewLemmas.{kept-more, replaced-more}
use Rattle.pv_upgrade.specs.Renewed.{IsRenewed}
use Rattle.pv_upgrade.specs.Renewing.{AreRenewed, IsNotOld, IsRespelled, none}
use Rattle.pv_upgrade.specs.declared.contents.Renewed.{Renewed}

module _ (done : Contents) (old new : Renewed) (content pushed : List ℕ) (was : IsRenewed done old)
    (contents : contents_of new.contents.items ≡ contents_of old.contents.items ++ pushed ∷ []) (long : new.length ≡ old.length + (5 + length pushed)) where
  longer : new.length ≡ size_of (contents_of new.contents.items)
  longer =
      let all = ap size_of contents in
      let more = sum_by-append (λ (one : List ℕ). 5 + length one) (contents_of old.contents.items) (pushed ∷ []) in
      let before = was.length_is in
      omega (arith, all, more, before, long)

  -- The old spelling of a record is replaced.
  pub one-replaced : new.count ≡ old.count + 1 → IsRespelled content pushed → IsRenewed (done ++ content ∷ []) new
  one-replaced count one = record {
    replaced = subst (λ (n : ℕ). AreRenewed (done ++ content ∷ []) (contents_of new.contents.items) n) (sym (count ∙ add-one old.count))
        (subst (λ (l : Contents). AreRenewed (done ++ content ∷ []) l (suc old.count)) (sym contents)
        (replaced-more done (contents_of old.contents.items) old.count content pushed was.replaced one));
    length_is = longer;
    few = let before = was.few in omega (arith, before, count, long);
  }

  -- Another content stays.
  pub one-kept : new.count ≡ old.count → pushed ≡ content → IsNotOld content → IsRenewed (done ++ content ∷ []) new
  one-kept count same not = record {
    replaced = subst (λ (n : ℕ). AreRenewed (done ++ content ∷ []) (contents_of new.contents.items) n) (sym count)
        (subst (λ (l : Contents). AreRenewed (done ++ content ∷ []) l old.count) (sym (contents ∙ ap (λ (one : List ℕ). contents_of old.contents.items ++ one ∷ []) same))
        (kept-more done (contents_of old.contents.items) old.count content was.replaced not));
    length_is = longer;
    few = let before = was.few in omega (arith, before, count, long);
  }

-- The same where it is pushed, and not where there was no memory.
pub kept-if : {X E : Type 0} (done : Contents) (old new : Renewed) (content : List ℕ) (result : Result X E) → IsRenewed done old
    → OnOk result (contents_of new.contents.items ≡ contents_of old.contents.items ++ content ∷ []) → OnOk result (new.length ≡ old.length + (5 + length content))
    → new.count ≡ old.count → IsNotOld content → OnOk result (IsRenewed (done ++ content ∷ []) new)
kept-if done old new content (Ok x) was contents long count not = one-kept done old new content content was contents long count refl not
kept-if done old new content (Err e) was contents long count not = tt

-- Of no contents none is replaced.
pub none-renewed : (new : Renewed) → new.contents.items ≡ [] → new.count ≡ 0 → new.length ≡ 9 → IsRenewed [] new
none-renewed new empty count long = record {
  replaced = subst (λ (n : ℕ). AreRenewed [] (contents_of new.contents.items) n) (sym count) (subst (λ (l : List (Vec ℕ Global)). AreRenewed [] (contents_of l) 0) (sym empty) none);
  length_is = long ∙ sym (ap (λ (l : List (Vec ℕ Global)). size_of (contents_of l)) empty);
  few = omega (arith, count, long);
}

-- ## What `respelled` answers
module _ (content : List ℕ) (found : Option (Vec ℕ Global))
    (is : MatchOption found ((entry : Record) → SpellsOldRecord entry content → ⊥) (λ bytes. (entry : Record) × SpellsOldRecord entry content × SpellsRecord entry bytes.items)) where
  pub found-new : (bytes : Vec ℕ Global) → found ≡ Some bytes → IsRespelled content bytes.items
  found-new bytes some =
      let one : (entry : Record) × SpellsOldRecord entry content × SpellsRecord entry bytes.items =
      subst (λ (o : Option (Vec ℕ Global)). MatchOption o ((entry : Record) → SpellsOldRecord entry content → ⊥) (λ new. (entry : Record) × SpellsOldRecord entry content × SpellsRecord entry new.items))
      some is in
      record { entry = one.0; old = one.1; new = one.2 }

  pub found-not : found ≡ None → IsNotOld content
  found-not not =
      subst (λ (o : Option (Vec ℕ Global)). MatchOption o ((entry : Record) → SpellsOldRecord entry content → ⊥) (λ new. (entry : Record) × SpellsOldRecord entry content × SpellsRecord entry new.items))
      not is
